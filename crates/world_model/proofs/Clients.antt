-- The client submits no more rows than there are, and has a place for the answer to each transaction.
use Rattle.std.proofs.Common.{◌≡◌, ◌+◌, ◌≤◌, ◌==◌, ◌∙◌, Bool, true, false, List, [], ◌∷◌, ◌++◌, length, refl, arith}
use Rattle.std.specs.Prelude.{if◌then◌else◌, nat_lt}
use Rattle.std.proofs.lemmas.List.{length-replicate, length-set}
use Rattle.tv_base.specs.declared.numbers.TreeNo.{TreeNo}
use Rattle.tv_base.proofs.Chosen.{if_within}
use Rattle.letter_types.specs.declared.bodies.Body.{Body}
use Rattle.letter_types.specs.declared.bodies.Body.TheVariants.{Go, Reply, Advanced, Ask}
use Rattle.letter_types.specs.declared.entries.Entry.{Entry}
use Rattle.letter_types.specs.Steps.{Out, still}
use Rattle.script_parts.specs.ScriptData.{ScriptData, client_of}
use Rattle.script_parts.specs.declared.parts.ScriptRow.{ScriptRow}
use Rattle.script_parts.specs.declared.parts.ScriptRow.TheVariants.{Tree as TreeRow, Advance as AdvanceRow, Settle as SettleRow, Lose as LoseRow}
use Rattle.world_model.specs.Client.{Client, client_row, have_ended, nudge, submit, submitted, with_answer}
use Rattle.world_model.specs.Runs.{client_in}
use Rattle.world_model.proofs.Sends.{asked_each}

pub few_submitted : (c : Client) (before rows : List ScriptRow) → submitted c before rows ≤ length rows
few_submitted c before [] = omega arith
few_submitted c before (TreeRow t ∷ rows) = omega (arith, few_submitted c (before ++ TreeRow t ∷ []) rows)
few_submitted c before (AdvanceRow ∷ rows) = omega (arith, few_submitted c (before ++ AdvanceRow ∷ []) rows)
few_submitted c before (LoseRow ∷ rows) = omega (arith, few_submitted c (before ++ LoseRow ∷ []) rows)
few_submitted c before (SettleRow ∷ rows) =
    if_within (have_ended c before) (submitted c (before ++ SettleRow ∷ []) rows + 1) (length (SettleRow ∷ rows))
    (omega (arith, few_submitted c (before ++ SettleRow ∷ []) rows))

-- no step of the client changes how many places there are
reply_places : (s : ScriptData) (c : Client) (t : TreeNo) (test : Bool)
    → length (if test then submit s (with_answer t.0 c) (nudge s ∷ []) else still c).state.answered ≡ length c.answered
reply_places s c t true = length-set c.answered t.0 true
reply_places s c t false = refl

row_places : (s : ScriptData) (c : Client) (b : Body) → length (client_row s c b).state.answered ≡ length c.answered
row_places s c Go = refl
row_places s c (Reply t v answer) = reply_places s c t (nat_lt t.0 (length s.trees))
row_places s c (Advanced v) = refl
row_places s c (Ask e) = asked_each (λ (o : Out Client). length o.state.answered ≡ length c.answered) s c e refl (λ is. refl)
row_places s c _ = refl

places_by : (s : ScriptData) (past : List Entry) (e : Entry) (test : Bool) → length (client_in s past).answered ≡ length s.trees
    → length (if test then (client_row s (client_in s past) e.took.body).state else client_in s past).answered ≡ length s.trees
places_by s past e true is = row_places s (client_in s past) e.took.body ∙ is
places_by s past e false is = is

pub answered_places : (s : ScriptData) (past : List Entry) → length (client_in s past).answered ≡ length s.trees
answered_places s [] = length-replicate (length s.trees) false
answered_places s (e ∷ past) = places_by s past e (e.actor.0 == client_of s) (answered_places s past)
