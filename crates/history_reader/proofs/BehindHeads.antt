-- What is printed behind a letter's head.
use Rattle.std.proofs.Common.{◌≡◌, ◌∙◌, ◌∷◌, [], List, Bool, ℕ, drop, sym, ap, subst}
use Rattle.std.specs.Prelude.{codes, decimal, Option, None}
use Rattle.tv_base.specs.declared.numbers.TreeNo.{TreeNo}
use Rattle.tv_base.specs.declared.numbers.Version.{Version}
use Rattle.letter_types.specs.declared.bodies.Body.{Body}
use Rattle.tx_trees.specs.ScriptData.{ScriptData}
use Rattle.history_text.specs.LineParts.{commit_word}
use Rattle.history_text.specs.Exact.{IsReadBack}
use Rattle.history_text.specs.Printable.{IsBody, IsWord}
use Rattle.history_text.specs.Words.{HasTree, name_of_tree}
use Rattle.history_reader.specs.inside.BodyWords.{body_words}
use Rattle.history_reader.proofs.OneBody.{IsOf, index_is, is_of, place}

-- a letter of these words has the form of their head
of_head : (s : ScriptData) (seen : List (List ℕ)) (b : Body) → seen ≡ body_words s b → IsOf (place seen) b
of_head s seen b is = subst (λ (i : ℕ). IsOf i b) (sym (ap place is ∙ index_is s b)) (is_of b)

pub no_numbers : (s : ScriptData) (ws : List (List ℕ)) (read : Option Body) → read ≡ None
    → ((e : ℕ) (u r l : Version) → ws ≡ decimal e ∷ codes "update" ∷ decimal u.0 ∷ codes "read" ∷ decimal r.0 ∷ codes "low" ∷ decimal l.0 ∷ [] → IsWord e → IsWord u.0 → IsWord r.0 → IsWord l.0 → ⊥)
    → IsReadBack (body_words s) (IsBody s) (codes "numbers" ∷ ws) read
no_numbers s ws read none only = rw none (λ b is may. by b is may)
  where
    by : (b : Body) → codes "numbers" ∷ ws ≡ body_words s b → IsBody s b → ⊥
    by b is may =
        let (e, u, r, l, same) = of_head s (codes "numbers" ∷ ws) b is in
        let all = subst (IsBody s) same may in
        only e u r l (ap (drop 1) (is ∙ ap (body_words s) same)) all.0 all.1.0 all.1.1.0 all.1.1.1.0

pub no_decide : (s : ScriptData) (ws : List (List ℕ)) (read : Option Body) → read ≡ None
    → ((t : TreeNo) (v : Version) (commit : Bool) → ws ≡ name_of_tree s t ∷ codes "version" ∷ decimal v.0 ∷ commit_word commit ∷ [] → HasTree s t → IsWord v.0 → ⊥)
    → IsReadBack (body_words s) (IsBody s) (codes "decide" ∷ ws) read
no_decide s ws read none only = rw none (λ b is may. by b is may)
  where
    by : (b : Body) → codes "decide" ∷ ws ≡ body_words s b → IsBody s b → ⊥
    by b is may =
        let (t, v, commit, same) = of_head s (codes "decide" ∷ ws) b is in
        let all = subst (IsBody s) same may in
        only t v commit (ap (drop 1) (is ∙ ap (body_words s) same)) all.1.0 all.1.1.0
