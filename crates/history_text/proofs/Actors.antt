-- Actors by their names.
use Rattle.std.proofs.Common.{◌≡◌, ◌<◌, ◌≤◌, ◌^◌, ◌∷◌, ◌∙◌, List, Bool, true, false, ℕ, refl, sym, ap, arith, get_or}
use Rattle.std.specs.Prelude.{if◌then◌else◌, ◌==◌, codes, decimal}
use Rattle.std.proofs.lemmas.Bool.Decides.{nat_tests}
use Rattle.tv_base.specs.declared.numbers.ActorNo.{ActorNo}
use Rattle.tx_trees.specs.ScriptData.{ScriptData, client_of}
use Rattle.history_text.specs.Values.{count_text}
use Rattle.history_text.specs.Words.{HasActor, name_of_actor}
use Rattle.history_text.proofs.Digits.{decimal_one}

-- a number that is no node's
by_tests : (p q : Bool) (a node : ℕ) (digits : List ℕ) → 110 ∷ digits ≡ (if p then codes "coordinator" else if q then codes "client" else count_text (codes "n") a)
    → digits ≡ decimal node → node < 2 ^ 32 → a < 2 ^ 32 → (p ≡ false → q ≡ false → a ≡ node → ⊥) → ⊥
by_tests true q a node digits is spelled small few other =
    let first : 110 ≡ 99 = ap (λ (l : List ℕ). get_or l 0 0) is in
    absurd (omega (arith, first))
by_tests false true a node digits is spelled small few other =
    let first : 110 ≡ 99 = ap (λ (l : List ℕ). get_or l 0 0) is in
    absurd (omega (arith, first))
by_tests false false a node digits is spelled small few other =
    let tails : digits ≡ decimal a = cc in
    other refl refl (decimal_one a node (omega arith) (omega arith) (sym tails ∙ spelled))

pub no_node : (s : ScriptData) (field digits : List ℕ) (node : ℕ) → field ≡ 110 ∷ digits → digits ≡ decimal node → node < 2 ^ 32 → s.nodes ≤ node → s.nodes ≤ 64
    → (x : ActorNo) → field ≡ name_of_actor s x → HasActor s x → ⊥
no_node s field digits node begins spelled small far few x is may =
    by_tests (x.0 == s.nodes) (x.0 == client_of s) x.0 node digits (sym begins ∙ is) spelled small (omega arith) (λ p q e. grind (arith, nat_tests, p, q, e))
