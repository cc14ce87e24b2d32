-- The tallies before all acts.
use Rattle.std.proofs.Common.{◌≡◌, ℕ, zero, suc, Bool, true, false, List, [], ◌∷◌, length, refl, sym, ap, subst, ◌∙◌, arith, Option, None}
use Rattle.std.specs.Prelude.{if◌then◌else◌, replicate}
use Rattle.std.proofs.lemmas.List.{length-replicate}
use Rattle.tv_base.specs.declared.numbers.Version.{Version}
use Rattle.script_parts.specs.ScriptData.{ScriptData, is_read}
use Rattle.script_parts.specs.declared.parts.Tree.{Tree}
use Rattle.script_parts.proofs.Lists.{get_replicate}
use Rattle.board_tallies.specs.Board.{AreMarks, IsBoardOf, ShowsNode, ShowsTree, first_numbers, first_state, is_through, pending_version, pends, unwhole_of}
use Rattle.board_tallies.specs.inside.Noting.{first_board}
use Rattle.board_tallies.specs.declared.numbers.Numbers.{Numbers}
use Rattle.board_tallies.specs.declared.states.TreeState.{TreeState}
use Rattle.board_tallies.proofs.Counted.{pends_none}

no_marks : (n : ℕ) → n ≡ 64 → AreMarks (replicate n false) (λ (k : ℕ). false)
no_marks n many = record { many = length-replicate n false ∙ many; each = λ (k : ℕ). get_replicate n k false }

none_shown : (t : ℕ) → ShowsTree t [] first_state
none_shown t = record {
  born = refl;
  done = no_marks 64 refl;
  voted = no_marks 64 refl;
  yes = no_marks 64 refl;
  applied = no_marks 64 refl;
  freed = no_marks 64 refl;
  committed = refl;
  aborted = refl;
}

none_either : (through : Bool) → (if through then None else first_state.born) ≡ first_state.born
none_either true = refl
none_either false = refl

none_unwhole : (r : Bool) (v : ℕ) (trees : List Tree) (n : ℕ) → unwhole_of r v trees (replicate n first_state) ≡ 0
none_unwhole r v [] n = refl
none_unwhole r v (tree ∷ trees) zero = refl
none_unwhole r v (tree ∷ trees) (suc n) =
    let one : pends r v (is_read tree.kind) (pending_version tree first_state) ≡ 0
    = ap (λ (o : Option Version). pends r v (is_read tree.kind) o) (none_either (is_through tree first_state))
    ∙ pends_none r (is_read tree.kind) v in
    omega (arith, one, none_unwhole r v trees n)

-- nothing is known
pub started : (s : ScriptData) → IsBoardOf s [] (first_board s.nodes (length s.trees))
started s = record {
  nodes = length-replicate s.nodes first_numbers;
  numbers = λ (p : ℕ).
      subst (λ (n : Numbers). ShowsNode p [] n) (sym (get_replicate s.nodes p first_numbers))
      (record { update = refl; read = refl; low = refl });
  trees = length-replicate (length s.trees) first_state;
  states = λ (t : ℕ). subst (λ (st : TreeState). ShowsTree t [] st) (sym (get_replicate (length s.trees) t first_state)) (none_shown t);
  pending = λ r v. sym (none_unwhole r v s.trees (length s.trees));
  passed = record { within = omega arith; each = λ t lt. absurd (omega (arith, lt)); next = λ lt. refl };
  finished = refl;
  swept = λ p v. (λ h. absurd (cc h), λ h. absurd (omega (arith, h.0, h.1)));
}
