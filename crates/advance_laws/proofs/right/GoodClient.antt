-- What the client knows after an entry of its own or of a node: it has asked for no fewer advancements, and of those that it
-- has heard of each node has come to the end.
use Rattle.std.proofs.Common.{◌≡◌, ◌⊎◌, inl, inr, ℕ, ◌<◌, ◌≤◌, max, List, ◌∷◌, take, sym, ap, subst, arith}
use Rattle.std.proofs.Math.Nat.{max-le}
use Rattle.std.proofs.Math.Seq.{take-add}
use Rattle.tv_base.specs.declared.numbers.Version.{Version}
use Rattle.letter_types.specs.declared.bodies.Body.TheVariants.{Advanced}
use Rattle.letter_types.specs.declared.entries.Entry.{Entry}
use Rattle.letter_types.specs.declared.entries.Outgoing.{Outgoing}
use Rattle.tx_trees.specs.Counts.{advances_in}
use Rattle.tx_trees.specs.ScriptData.{ScriptData}
use Rattle.tx_trees.proofs.Rebuilding.{advances_in-append}
use Rattle.world_model.specs.Client.{Client, submit}
use Rattle.world_model.specs.Runs.{MayFollow, client_in}
use Rattle.world_model.proofs.Flows.{client_kept}
use Rattle.world_model.proofs.Nexts.{MadeByClient}
use Rattle.advance_laws.specs.Advances.{asked_for}
use Rattle.advance_laws.proofs.right.Aside.{Aside, IsTold}
use Rattle.advance_laws.proofs.right.Good.{IsGood, took_right, turns_in}
use Rattle.advance_laws.proofs.right.GoodLetters.{Remains}

-- what an entry leaves of the client's numbers
record Knows (s : ScriptData) (past : List Entry) (e : Entry) : Type 0 where
  asked : asked_for s past ≤ asked_for s (e ∷ past)
  heard : (p : ℕ) → p < s.nodes → (client_in s (e ∷ past)).ended ≤ (turns_in s past p).low.0

-- more rows ask for no fewer advancements
submits_more : (s : ScriptData) (c : Client) (first : List Outgoing)
    → advances_in (take c.next s.rows) ≤ advances_in (take (submit s c first).state.next s.rows)
submits_more s c first = grind (arith, advances_in-append, take-add)

ended_by : (s : ScriptData) (past : List Entry) (e : Entry) (ended p : ℕ) → IsGood s past → MayFollow s past e → p < s.nodes
    → ((ended ≡ (client_in s past).ended)
    ⊎ ((v : Version) × (e.took.body ≡ Advanced v) × (ended ≡ max (client_in s past).ended v.0)))
    → ended ≤ (turns_in s past p).low.0
ended_by s past e ended p good m lt (inl is) = omega (arith, is, good.heard p lt)
ended_by s past e ended p good m lt (inr (v, bd, is)) =
    let told : v.0 ≤ (turns_in s past p).low.0 = took_right s past e (Advanced v) good m bd p lt in
    subst (λ (n : ℕ). n ≤ (turns_in s past p).low.0) (sym is) (max-le (good.heard p lt) told)

told_client : (s : ScriptData) (past : List Entry) (e : Entry) (c : Client) (first : List Outgoing) → IsGood s past
    → MayFollow s past e
    → IsTold s past e c → MadeByClient s past e (submit s c first) → Knows s past e
told_client s past e c first good m told made =
    let after : asked_for s (e ∷ past) ≡ advances_in (take (submit s c first).state.next s.rows) =
    ap (λ (x : Client). advances_in (take x.next s.rows)) made.state in
    let before : advances_in (take c.next s.rows) ≡ asked_for s past = ap (λ (n : ℕ). advances_in (take n s.rows)) told.next in
    let ended : (client_in s (e ∷ past)).ended ≡ c.ended = ap (λ (x : Client). x.ended) made.state in
    record {
      asked = omega (arith, after, before, submits_more s c first);
      heard = λ p lt. omega (arith, ended, ended_by s past e c.ended p good m lt told.ended);
    }

knows : (s : ScriptData) (past : List Entry) (e : Entry) → IsGood s past → MayFollow s past e → Aside s past e → Knows s past e
knows s past e good m is = grind (arith, client_kept, told_client)

-- the client asks for more and more
pub asked_rises : (s : ScriptData) (past : List Entry) (e : Entry) → IsGood s past → MayFollow s past e → Aside s past e
    → asked_for s past ≤ asked_for s (e ∷ past)
asked_rises s past e good m aside = (knows s past e good m aside).asked

-- and hears of what has ended at each node
pub heard_after : (s : ScriptData) (past : List Entry) (e : Entry) (p : ℕ) → IsGood s past → MayFollow s past e
    → Remains s past e
    → Aside s past e → p < s.nodes → (client_in s (e ∷ past)).ended ≤ (turns_in s (e ∷ past) p).low.0
heard_after s past e p good m left aside lt =
    omega (arith, (knows s past e good m aside).heard p lt, (left.fares p lt).rises.low)
