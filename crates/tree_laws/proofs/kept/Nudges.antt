-- Transactions of which the client has not heard the answer, and the nudges that it sends.
use Rattle.std.proofs.Common.{◌≡◌, ℕ, zero, suc, ◌+◌, ◌<◌, Bool, true, false, not, List, ◌∷◌, length, get_or, set, replicate, take, drop, refl, arith, []}
use Rattle.letter_types.specs.declared.bodies.Body.{Body}
use Rattle.tx_trees.specs.ScriptData.{ScriptData}
use Rattle.world_model.specs.Client.{Client, advances_sent, rows_letters, submit, submitted, nudge}
use Rattle.world_model.specs.Counts.{tally, one_if}
use Rattle.world_model.proofs.Bags.{tally-append}
use Rattle.world_model.proofs.Lawful.{is_nudge}
use Rattle.world_model.proofs.Coordination.{OfCoordinator}
use Rattle.world_model.proofs.Sends.{CountsNoRow, on, roots_none}

-- how many trees the client has not heard the answer of
abbrev pub unheard : List Bool → ℕ
unheard [] = 0
unheard (b ∷ bs) = one_if (not b) + unheard bs

pub unheard_first : (n : ℕ) → unheard (replicate n false) ≡ n
unheard_first zero = refl
unheard_first (suc n) = omega (arith, unheard_first n)

-- one tree fewer
pub unheard_less : (bs : List Bool) (t : ℕ) → t < length bs → get_or bs t false ≡ false → unheard (set bs t true) + 1 ≡ unheard bs
unheard_less [] t lt is = absurd (omega arith)
unheard_less (b ∷ bs) zero lt is = rw is (omega arith)
unheard_less (b ∷ bs) (suc t) lt is = omega (arith, unheard_less bs t (omega arith) is)

pub rows_no_nudges : CountsNoRow is_nudge
rows_no_nudges = record { root = λ t. refl; advance = refl; numbered = λ i. refl; lose = refl }

-- after a nudge the client sends no other
pub nudge_sent : (s : ScriptData) (c : Client) → tally (on is_nudge) (submit s c (nudge s ∷ [])).sent ≡ 1
nudge_sent s c =
    let rows = take (submitted c (take c.next s.rows) (drop c.next s.rows)) (drop c.next s.rows) in
    omega (
      arith,
      tally-append (on is_nudge) (nudge s ∷ []) (rows_letters s (advances_sent s c) rows),
      roots_none is_nudge s (advances_sent s c) rows rows_no_nudges,
    )

-- nor is what the coordinator sends
pub orders_none : OfCoordinator (λ (b : Body). is_nudge b ≡ 0)
orders_none = record {
  turn = λ v. refl;
  show = λ v. refl;
  sweep = λ v. refl;
  order = λ e what v. refl;
  ask = λ e. refl;
  ask_done = λ v k. refl;
  ask_asked = λ v k. refl;
  advanced = λ v. refl;
}
