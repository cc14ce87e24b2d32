-- In every run each entry's lines are of the script.
use Rattle.std.proofs.Common.{ℕ, ◌<◌, ◌+◌, List, [], ◌∷◌, sym, subst}
use Rattle.std.specs.Prelude.{length, reverse}
use Rattle.std.specs.List.{AllByRecursion}
use Rattle.std.proofs.lemmas.List.{reverse-reverse}
use Rattle.letter_types.specs.Letters.{drop_id, letters_of, sealed}
use Rattle.letter_types.specs.declared.bodies.Answer.{Answer}
use Rattle.letter_types.specs.declared.bodies.Answer.TheVariants.{Whole, Aborted}
use Rattle.letter_types.specs.declared.bodies.Body.{Body}
use Rattle.letter_types.specs.declared.bodies.Body.TheVariants.{Go, Root, Sub as SubLetter, Done, Reply, Nudge, Advance, Turn, Show, Sweep, Turned, Shown, Swept, AskDone, AskAsked, DoneRow, AskedRow, Advanced, Decide, Decided, Release, Wake, Lose, AdvanceNo, Ask, Numbers, Wanted, Order, Obeyed}
use Rattle.letter_types.specs.declared.entries.Entry.{Entry}
use Rattle.letter_types.specs.declared.entries.Letter.{Letter}
use Rattle.letter_types.specs.declared.entries.Outgoing.{Outgoing}
use Rattle.script_parts.specs.ScriptData.{ScriptData, subs_at}
use Rattle.script_parts.specs.Valid.{IsValid}
use Rattle.board_rules.proofs.Wholes.{updates_there}
use Rattle.world_model.specs.AllApt.{AllApt}
use Rattle.world_model.specs.Counts.{Each}
use Rattle.world_model.specs.Runs.{IsStepRun, IsWorldRun, in_flight}
use Rattle.world_model.proofs.Addressees.{all_addressed}
use Rattle.world_model.proofs.Bridge.{reverse_more}
use Rattle.world_model.proofs.EachOutstanding.{each_right, each_waits}
use Rattle.world_model.proofs.Every.{each_both}
use Rattle.world_model.proofs.Posts.{steps}
use Rattle.world_model.proofs.Scripts.{sub_there}
use Rattle.world_model.specs.Meant.{IsLetterMeant, IsMeant}
use Rattle.tree_laws.proofs.conflicts.AtHome.{all_append}
use Rattle.world_model.proofs.Meant.{letters_are_meant}
use Rattle.world_model.proofs.MeantRows.{strict_below}
use Rattle.run_laws.proofs.each_tree.EveryApt.{all_apt}
use Rattle.history_text.specs.Printable.{IsSubOf, IsTreeOf}
use Rattle.audit_laws.specs.OfScript.{IsAnswerOf, IsBodyOf, IsOfScript, IsSentOf}
use Rattle.audit_laws.proofs.Carrying.{IsEntryOf, all_carried, next_entry}
use Rattle.audit_laws.proofs.Stepping.{AreCarried, Carries, CarriesAnswer, there_of}

-- What is meant for its addressee, and carries what is of the script, is of the script.
sub_of : (s : ScriptData) (t k : ℕ) → t < length s.trees → k < length (subs_at s t) → IsSubOf s t k
sub_of s t k lt kt = there_of s t k (sub_there s t k lt kt)

answer_of : (s : ScriptData) (t : ℕ) (answer : Answer) → IsTreeOf s t → CarriesAnswer s t answer → IsAnswerOf s t answer
answer_of s t (Whole vs) there of = (there, of)
answer_of s t (Aborted cause) there of = of

body_of : (s : ScriptData) (from to : ℕ) (body : Body) → IsMeant s from to body → Carries s body → IsBodyOf s body
body_of s from to Go meant of = absurd of
body_of s from to (Root t) meant of = meant.tree
body_of s from to (SubLetter t k v) meant of = sub_of s t.0 k.0 meant.tree meant.sub
body_of s from to (Done t k v notice) meant of = (sub_of s t.0 k.0 meant.tree meant.sub, of)
body_of s from to (Reply t v answer) meant of = answer_of s t.0 answer meant.0 of
body_of s from to Nudge meant of = tt
body_of s from to Advance meant of = tt
body_of s from to (Turn v) meant of = tt
body_of s from to (Show v) meant of = tt
body_of s from to (Sweep v) meant of = tt
body_of s from to (Turned v) meant of = tt
body_of s from to (Shown v) meant of = tt
body_of s from to (Swept v) meant of = tt
body_of s from to (AskDone v k) meant of = tt
body_of s from to (AskAsked v k) meant of = tt
body_of s from to (DoneRow v k row) meant of = meant.1
body_of s from to (AskedRow v k row) meant of = meant.1
body_of s from to (Advanced v) meant of = tt
body_of s from to (Decide t v commit) meant of = strict_below s t.0 meant.strict
body_of s from to (Decided t v) meant of = strict_below s t.0 meant.strict
body_of s from to (Release t) meant of = updates_there s t.0 meant.update
body_of s from to (Wake t k) meant of = sub_of s t.0 k.0 meant.tree meant.sub
body_of s from to Lose meant of = tt
body_of s from to (AdvanceNo i) meant of = tt
body_of s from to (Ask e) meant of = tt
body_of s from to (Numbers e update read low) meant of = tt
body_of s from to (Wanted e i) meant of = tt
body_of s from to (Order e what v) meant of = tt
body_of s from to (Obeyed e what v) meant of = tt

-- What is known of each letter that is sent, from the letters in flight after it.
abbrev IsSentWell : ScriptData → Letter → Type 0
IsSentWell s l = IsLetterMeant s l × (l.to.0 < s.nodes + 2)

all_sent : (s : ScriptData) (stamp actor place : ℕ) (os : List Outgoing) → Each (IsSentWell s) (sealed stamp actor place os)
    → AreCarried s os → AllByRecursion (IsSentOf s) os
all_sent s stamp actor place [] well of = tt
all_sent s stamp actor place (o ∷ os) well of =
    ((well.0.1, body_of s actor o.to.0 o.body well.0.0 of.0), all_sent s stamp actor (place + 1) os well.1 of.1)

sent_well : (s : ScriptData) (past : List Entry) (e : Entry) → IsValid s → IsStepRun s (e ∷ past)
    → Each (IsSentWell s) (letters_of e)
sent_well s past e valid run =
    each_right (IsSentWell s) (drop_id e.took.id (in_flight s past)) (letters_of e)
    (each_both (IsLetterMeant s) (λ (l : Letter). l.to.0 < s.nodes + 2) (in_flight s (e ∷ past))
    (each_waits (IsLetterMeant s) s (e ∷ past) (letters_are_meant s (e ∷ past) valid run)) (all_addressed s (e ∷ past) valid run))

pub entry_of_script : (s : ScriptData) (past : List Entry) (e : Entry) → IsValid s → IsStepRun s (e ∷ past) → IsOfScript s e
entry_of_script s past e valid run =
    let apt : AllApt s (e ∷ past) = all_apt s (e ∷ past) valid run in
    let next : IsEntryOf s past e = next_entry s past e valid apt run (all_carried s past valid apt.1 run.1) in
    record {
      actor = next.actor;
      sent = all_sent s e.stamp.0 e.actor.0 0 e.sent (sent_well s past e valid run) next.sent;
      acts = next.acts;
    }

-- In every run.
past_of_script : (s : ScriptData) (past : List Entry) → IsValid s → IsStepRun s past → AllByRecursion (IsOfScript s) (reverse past)
past_of_script s [] valid run = tt
past_of_script s (e ∷ past) valid run =
    subst (AllByRecursion (IsOfScript s)) (sym (reverse_more e past))
    (all_append (IsOfScript s) (reverse past) (e ∷ []) (past_of_script s past valid run.1) (entry_of_script s past e valid run, tt))

pub run_of_script : (s : ScriptData) (h : List Entry) → IsValid s → IsWorldRun s h → AllByRecursion (IsOfScript s) h
run_of_script s h valid run =
    subst (AllByRecursion (IsOfScript s)) (reverse-reverse h) (past_of_script s (reverse h) valid (steps s h run))
