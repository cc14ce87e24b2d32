-- Words of different acts differ.
use Rattle.std.proofs.Common.{◌≡◌, ◌∙◌, ◌∷◌, [], List, Bool, ℕ, get_or, drop, refl, sym, ap, subst}
use Rattle.std.specs.Prelude.{codes}
use Rattle.std.specs.List.{position_or_len}
use Rattle.std.specs.Str.{bytes_eq}
use Rattle.tv_base.specs.declared.numbers.ItemNo.{ItemNo}
use Rattle.tv_base.specs.declared.numbers.SubNo.{SubNo}
use Rattle.tv_base.specs.declared.numbers.TreeNo.{TreeNo}
use Rattle.tv_base.specs.declared.numbers.Version.{Version}
use Rattle.commute_ops.specs.declared.value.Value.{Value}
use Rattle.letter_types.specs.declared.acts.Act.{Act}
use Rattle.letter_types.specs.declared.acts.Act.TheVariants.{Born, Did, Turned, Showed, Swept, Finished, Waits, Parked, Voted, Freed, Decided, Applied}
use Rattle.letter_types.specs.declared.votes.Vote.{Vote}
use Rattle.tx_trees.specs.ScriptData.{ScriptData}
use Rattle.tx_trees.specs.Valid.{IsValid}
use Rattle.history_text.specs.Printable.{IsAct}
use Rattle.history_reader.specs.inside.BodyWords.{act_words}
use Rattle.history_reader.proofs.OneBody.{su, tr, ve}
use Rattle.history_reader.proofs.OneWords.{commit_one, ends_one, gots_one, item_same, vote_one, word_at}
use Rattle.history_reader.proofs.SubsThere.{tree_of_sub}

-- the heads of acts
abbrev act_heads : List (List ℕ)
act_heads =
    codes "born"
    ∷ codes "did"
    ∷ codes "turned"
    ∷ codes "showed"
    ∷ codes "swept"
    ∷ codes "finished"
    ∷ codes "waits"
    ∷ codes "parked"
    ∷ codes "voted"
    ∷ codes "freed"
    ∷ codes "decided"
    ∷ codes "applied" ∷ []

-- a head's place among them
abbrev act_place : List (List ℕ) → ℕ
act_place ws = position_or_len (bytes_eq (word_at 0 ws)) act_heads

abbrev act_index : Act → ℕ
act_index (Born t v) = 0
act_index (Did t k g) = 1
act_index (Turned v) = 2
act_index (Showed v) = 3
act_index (Swept v) = 4
act_index Finished = 5
act_index (Waits t v1 v2) = 6
act_index (Parked t k x h) = 7
act_index (Voted t k o) = 8
act_index (Freed t) = 9
act_index (Decided t c) = 10
act_index (Applied t c) = 11

act_index_is : (s : ScriptData) (a : Act) → act_place (act_words s a) ≡ act_index a
act_index_is s (Born t v) = refl
act_index_is s (Did t k g) = refl
act_index_is s (Turned v) = refl
act_index_is s (Showed v) = refl
act_index_is s (Swept v) = refl
act_index_is s Finished = refl
act_index_is s (Waits t v1 v2) = refl
act_index_is s (Parked t k x h) = refl
act_index_is s (Voted t k o) = refl
act_index_is s (Freed t) = refl
act_index_is s (Decided t c) = refl
act_index_is s (Applied t c) = refl

-- acts with a head of this place
abbrev act_forms : List (Act → Type 0)
act_forms =
    (λ (a : Act). (t : TreeNo) × (v : Version) × (a ≡ Born t v))
    ∷ (λ (a : Act). (t : TreeNo) × (k : SubNo) × (g : List (ItemNo × Value)) × (a ≡ Did t k g))
    ∷ (λ (a : Act). (v : Version) × (a ≡ Turned v))
    ∷ (λ (a : Act). (v : Version) × (a ≡ Showed v))
    ∷ (λ (a : Act). (v : Version) × (a ≡ Swept v))
    ∷ (λ (a : Act). (a ≡ Finished))
    ∷ (λ (a : Act). (t : TreeNo) × (v1 : Version) × (v2 : Version) × (a ≡ Waits t v1 v2))
    ∷ (λ (a : Act). (t : TreeNo) × (k : SubNo) × (x : ItemNo) × (h : TreeNo) × (a ≡ Parked t k x h))
    ∷ (λ (a : Act). (t : TreeNo) × (k : SubNo) × (o : Vote) × (a ≡ Voted t k o))
    ∷ (λ (a : Act). (t : TreeNo) × (a ≡ Freed t))
    ∷ (λ (a : Act). (t : TreeNo) × (c : Bool) × (a ≡ Decided t c))
    ∷ (λ (a : Act). (t : TreeNo) × (c : Bool) × (a ≡ Applied t c)) ∷ []

abbrev IsActOf : ℕ → Act → Type 0
IsActOf i a = get_or act_forms i (λ (x : Act). ⊥) a

is_act_of : (a : Act) → IsActOf (act_index a) a
is_act_of (Born t v) = (t, v, refl)
is_act_of (Did t k g) = (t, k, g, refl)
is_act_of (Turned v) = (v, refl)
is_act_of (Showed v) = (v, refl)
is_act_of (Swept v) = (v, refl)
is_act_of Finished = refl
is_act_of (Waits t v1 v2) = (t, v1, v2, refl)
is_act_of (Parked t k x h) = (t, k, x, h, refl)
is_act_of (Voted t k o) = (t, k, o, refl)
is_act_of (Freed t) = (t, refl)
is_act_of (Decided t c) = (t, c, refl)
is_act_of (Applied t c) = (t, c, refl)

module _ (s : ScriptData) (valid : IsValid s) where
  -- an act of the same words and the same head
  act_by_form : (b c d : Act) → c ≡ d → act_words s b ≡ act_words s c → IsAct s c → (act_words s b ≡ act_words s d → IsAct s d → b ≡ d) → b ≡ c
  act_by_form b c d e is mc same = same (is ∙ ap (act_words s) e) (subst (IsAct s) e mc) ∙ sym e

  act_by : (b c : Act) → IsActOf (act_index b) c → act_words s b ≡ act_words s c → IsAct s b → IsAct s c → b ≡ c
  act_by (Born t v) other (t', v', e_is) is mb mc =
      act_by_form (Born t v) other (Born t' v') e_is is mc
      (λ w m. let pt = tr s valid 1 t t' mb.1.0 m.1.0 w refl refl in
      let pv = ve s valid 3 v v' mb.1.1.0 m.1.1.0 w refl refl in
      λ j. Born (pt j) (pv j))
  act_by (Did t k g) other (t', k', g', e_is) is mb mc =
      act_by_form (Did t k g) other (Did t' k' g') e_is is mc
      (λ w m. let pt = tr s valid 1 t t' (tree_of_sub s t.0 k.0 mb.1.0) (tree_of_sub s t'.0 k'.0 m.1.0) w refl refl in
      let pk = su s valid 2 t.0 t'.0 k k' mb.1.0 m.1.0 w refl refl in
      let pg = gots_one s valid g g' (ends_one _ _ (ap (drop 3) w)) mb.1.1.0 m.1.1.0 in
      λ j. Did (pt j) (pk j) (pg j))
  act_by (Turned v) other (v', e_is) is mb mc =
      act_by_form (Turned v) other (Turned v') e_is is mc
      (λ w m. let pv = ve s valid 1 v v' mb.0 m.0 w refl refl in
      λ j. Turned (pv j))
  act_by (Showed v) other (v', e_is) is mb mc =
      act_by_form (Showed v) other (Showed v') e_is is mc
      (λ w m. let pv = ve s valid 1 v v' mb.0 m.0 w refl refl in
      λ j. Showed (pv j))
  act_by (Swept v) other (v', e_is) is mb mc =
      act_by_form (Swept v) other (Swept v') e_is is mc
      (λ w m. let pv = ve s valid 1 v v' mb.0 m.0 w refl refl in
      λ j. Swept (pv j))
  act_by Finished other e_is is mb mc = sym e_is
  act_by (Waits t v1 v2) other (t', v1', v2', e_is) is mb mc =
      act_by_form (Waits t v1 v2) other (Waits t' v1' v2') e_is is mc
      (λ w m. let pt = tr s valid 1 t t' mb.1.0 m.1.0 w refl refl in
      let pv1 = ve s valid 3 v1 v1' mb.1.1.0 m.1.1.0 w refl refl in
      let pv2 = ve s valid 5 v2 v2' mb.1.1.1.0 m.1.1.1.0 w refl refl in
      λ j. Waits (pt j) (pv1 j) (pv2 j))
  act_by (Parked t k x h) other (t', k', x', h', e_is) is mb mc =
      act_by_form (Parked t k x h) other (Parked t' k' x' h') e_is is mc
      (λ w m. let pt = tr s valid 1 t t' (tree_of_sub s t.0 k.0 mb.1.0) (tree_of_sub s t'.0 k'.0 m.1.0) w refl refl in
      let pk = su s valid 2 t.0 t'.0 k k' mb.1.0 m.1.0 w refl refl in
      let px = item_same s valid x x' mb.1.1.0 m.1.1.0 (ap (word_at 3) w) in
      let ph = tr s valid 4 h h' mb.1.1.1.0 m.1.1.1.0 w refl refl in
      λ j. Parked (pt j) (pk j) (px j) (ph j))
  act_by (Voted t k o) other (t', k', o', e_is) is mb mc =
      act_by_form (Voted t k o) other (Voted t' k' o') e_is is mc
      (λ w m. let pt = tr s valid 1 t t' (tree_of_sub s t.0 k.0 mb.1.0) (tree_of_sub s t'.0 k'.0 m.1.0) w refl refl in
      let pk = su s valid 2 t.0 t'.0 k k' mb.1.0 m.1.0 w refl refl in
      let po = vote_one s valid o o' (ap (drop 3) w) mb.1.1 m.1.1 in
      λ j. Voted (pt j) (pk j) (po j))
  act_by (Freed t) other (t', e_is) is mb mc =
      act_by_form (Freed t) other (Freed t') e_is is mc
      (λ w m. let pt = tr s valid 1 t t' mb.1.0 m.1.0 w refl refl in
      λ j. Freed (pt j))
  act_by (Decided t c) other (t', c', e_is) is mb mc =
      act_by_form (Decided t c) other (Decided t' c') e_is is mc
      (λ w m. let pt = tr s valid 1 t t' mb.1.0 m.1.0 w refl refl in
      let pc = commit_one c c' (ap (word_at 2) w) in
      λ j. Decided (pt j) (pc j))
  act_by (Applied t c) other (t', c', e_is) is mb mc =
      act_by_form (Applied t c) other (Applied t' c') e_is is mc
      (λ w m. let pt = tr s valid 1 t t' mb.1.0 m.1.0 w refl refl in
      let pc = commit_one c c' (ap (word_at 2) w) in
      λ j. Applied (pt j) (pc j))

  pub act_one : (b c : Act) → act_words s b ≡ act_words s c → IsAct s b → IsAct s c → b ≡ c
  act_one b c is mb mc =
      let same : act_index c ≡ act_index b = sym (act_index_is s c) ∙ ap act_place (sym is) ∙ act_index_is s b in
      act_by b c (subst (λ (i : ℕ). IsActOf i c) same (is_act_of c)) is mb mc
