-- What was taken is in flight no more.
use Rattle.std.proofs.Common.{◌≡◌, ◌≢◌, ◌⊎◌, inl, inr, ℕ, ◌+◌, ◌<◌, ◌≤◌, ◌==◌, Bool, true, false, List, [], ◌∷◌, length, refl, ap, subst, arith, Some, reverse}
use Rattle.std.specs.Prelude.{slice_get}
use Rattle.std.proofs.lemmas.Bool.Decides.{nat_tests}
use Rattle.tv_base.proofs.ByPlace.{slice_get_split}
use Rattle.letter_types.specs.declared.entries.LetterId.{LetterId}
use Rattle.letter_types.specs.declared.entries.Letter.{Letter}
use Rattle.letter_types.specs.declared.entries.Outgoing.{Outgoing}
use Rattle.letter_types.specs.declared.entries.Entry.{Entry}
use Rattle.letter_types.specs.Letters.{go, same_id, find_id, sealed}
use Rattle.script_parts.specs.ScriptData.{ScriptData, client_of}
use Rattle.world_model.specs.Runs.{in_flight, IsStepRun}
use Rattle.world_model.specs.Counts.{tally, one_if}
use Rattle.world_model.proofs.Bags.{tally_step, tally-drop, one_if_most}
use Rattle.world_model.proofs.Bridge.{reverse_more}

-- Ids that differ, and ids that are the same.
pub apart_from : (i j k : LetterId) → same_id i j ≡ false → same_id j k ≡ true → same_id i k ≡ false
apart_from i j k ne eq = grind (arith, nat_tests)

-- the letters of an id
abbrev pub of_id : LetterId → Letter → ℕ
of_id id l = one_if (same_id id l.id)

apart_stamp : (id : LetterId) (stamp place : ℕ) → id.stamp.0 ≢ stamp
    → one_if (same_id id (record { stamp = record { 0 = stamp }; place = place })) ≡ 0
apart_stamp id stamp place ne = grind (arith, nat_tests)

apart_place : (id : LetterId) (stamp place : ℕ) → id.place ≢ place
    → one_if (same_id id (record { stamp = record { 0 = stamp }; place = place })) ≡ 0
apart_place id stamp place ne = grind (arith, nat_tests)

other_stamp : (id : LetterId) (stamp actor place : ℕ) (os : List Outgoing) → id.stamp.0 ≢ stamp
    → tally (of_id id) (sealed stamp actor place os) ≡ 0
other_stamp id stamp actor place [] ne = refl
other_stamp id stamp actor place (o ∷ os) ne = omega (arith, other_stamp id stamp actor (place + 1) os ne, apart_stamp id stamp place ne)

later_places : (id : LetterId) (stamp actor place : ℕ) (os : List Outgoing) → id.place < place
    → tally (of_id id) (sealed stamp actor place os) ≡ 0
later_places id stamp actor place [] lt = refl
later_places id stamp actor place (o ∷ os) lt =
    omega (arith, later_places id stamp actor (place + 1) os (omega arith), apart_place id stamp place (omega arith))

one_more : (id : LetterId) (stamp actor place : ℕ) (o : Outgoing) (os : List Outgoing) (b : Bool) → (id.place == place) ≡ b
    → tally (of_id id) (sealed stamp actor (place + 1) os) ≤ 1 → tally (of_id id) (sealed stamp actor place (o ∷ os)) ≤ 1
one_more id stamp actor place o os true is le =
    let eq : id.place ≡ place = grind (arith, nat_tests) in
    omega (arith, later_places id stamp actor (place + 1) os (omega arith), one_if_most (same_id id (record { stamp = record { 0 = stamp }; place = place })))
one_more id stamp actor place o os false is le =
    let ne : id.place ≢ place = grind (arith, nat_tests) in
    omega (arith, apart_place id stamp place ne)

at_most_one : (id : LetterId) (stamp actor place : ℕ) (os : List Outgoing) → tally (of_id id) (sealed stamp actor place os) ≤ 1
at_most_one id stamp actor place [] = omega arith
at_most_one id stamp actor place (o ∷ os) =
    one_more id stamp actor place o os (id.place == place) refl (at_most_one id stamp actor (place + 1) os)

none_later : (s : ScriptData) (past : List Entry) (id : LetterId) → IsStepRun s past → length past < id.stamp.0
    → tally (of_id id) (in_flight s past) ≡ 0
none_later s [] id run lt = omega (arith, apart_stamp id 0 0 (omega arith))
none_later s (e ∷ past) id run lt =
    let is : e.stamp.0 ≡ length past + 1 = run.0.stamp in
    omega (arith, tally_step (of_id id) s past e run.0, none_later s past id run.1 (omega arith), other_stamp id e.stamp.0 e.actor.0 0 e.sent (omega arith))

unique_by : (s : ScriptData) (past : List Entry) (e : Entry) (id : LetterId) → IsStepRun s (e ∷ past) → tally (of_id id) (in_flight s past) ≤ 1
    → (b : Bool) → (id.stamp.0 == e.stamp.0) ≡ b → tally (of_id id) (in_flight s (e ∷ past)) ≤ 1
unique_by s past e id run ih true is =
    let eq : id.stamp.0 ≡ e.stamp.0 = grind (arith, nat_tests) in
    let at : e.stamp.0 ≡ length past + 1 = run.0.stamp in
    omega (arith, tally_step (of_id id) s past e run.0, none_later s past id run.1 (omega arith), at_most_one id e.stamp.0 e.actor.0 0 e.sent)
unique_by s past e id run ih false is =
    let ne : id.stamp.0 ≢ e.stamp.0 = grind (arith, nat_tests) in
    omega (arith, tally_step (of_id id) s past e run.0, other_stamp id e.stamp.0 e.actor.0 0 e.sent ne)

pub unique : (s : ScriptData) (past : List Entry) (id : LetterId) → IsStepRun s past → tally (of_id id) (in_flight s past) ≤ 1
unique s [] id run = omega (arith, one_if_most (same_id id (go (client_of s)).id))
unique s (e ∷ past) id run = unique_by s past e id run (unique s past id run.1) (id.stamp.0 == e.stamp.0) refl

found_one_at : (id : LetterId) (x : Letter) (xs : List Letter) (l : Letter) (b : Bool) → same_id id x.id ≡ b → find_id id (x ∷ xs) ≡ Some l
    → (find_id id xs ≡ Some l → same_id id l.id ≡ true) → same_id id l.id ≡ true
found_one_at id x xs l true is at rest = let eq : x ≡ l = grind arith in subst (λ (y : Letter). same_id id y.id ≡ true) eq is
found_one_at id x xs l false is at rest = rest (rw is at at)

pub found_one : (id : LetterId) (xs : List Letter) (l : Letter) → find_id id xs ≡ Some l → same_id id l.id ≡ true
found_one id [] l at = absurd (grind arith)
found_one id (x ∷ xs) l at = found_one_at id x xs l (same_id id x.id) refl at (found_one id xs l)

pub under_or : (a b : ℕ) → (a ≤ b) ⊎ (b < a)
under_or a b = grind arith

not_later_by : (s : ScriptData) (past : List Entry) (id : LetterId) → IsStepRun s past → 1 ≤ tally (of_id id) (in_flight s past)
    → (id.stamp.0 ≤ length past) ⊎ (length past < id.stamp.0) → id.stamp.0 ≤ length past
not_later_by s past id run some (inl le) = le
not_later_by s past id run some (inr lt) = absurd (omega (arith, none_later s past id run lt))

not_later : (s : ScriptData) (past : List Entry) (id : LetterId) → IsStepRun s past → 1 ≤ tally (of_id id) (in_flight s past)
    → id.stamp.0 ≤ length past
not_later s past id run some = not_later_by s past id run some (under_or id.stamp.0 (length past))

-- what was taken is older than the last entry and in flight no more
abbrev pub Gone : ScriptData → List Entry → LetterId → Type 0
Gone s past id = (id.stamp.0 ≤ length past) × (tally (of_id id) (in_flight s past) ≡ 0)

pub gone_now : (s : ScriptData) (past : List Entry) (e : Entry) → IsStepRun s (e ∷ past) → Gone s (e ∷ past) e.took.id
gone_now s past e run =
    let here : of_id e.took.id e.took ≡ 1 = ap one_if (found_one e.took.id (in_flight s past) e.took run.0.waits) in
    let drop = tally-drop (of_id e.took.id) e.took.id (in_flight s past) e.took run.0.waits in
    let old : e.took.id.stamp.0 ≤ length past = not_later s past e.took.id run.1 (omega arith) in
    let is : e.stamp.0 ≡ length past + 1 = run.0.stamp in
    (omega arith, omega (arith, tally_step (of_id e.took.id) s past e run.0, unique s past e.took.id run.1, other_stamp e.took.id e.stamp.0 e.actor.0 0 e.sent (omega arith)))

gone_later : (s : ScriptData) (past : List Entry) (e : Entry) (id : LetterId) → IsStepRun s (e ∷ past) → Gone s past id → Gone s (e ∷ past) id
gone_later s past e id run g =
    let is : e.stamp.0 ≡ length past + 1 = run.0.stamp in
    (omega (arith, g.0), omega (arith, tally_step (of_id id) s past e run.0, g.1, other_stamp id e.stamp.0 e.actor.0 0 e.sent (omega (arith, g.0))))

pub gone : (s : ScriptData) (past : List Entry) (j : ℕ) (f : Entry) → IsStepRun s past → slice_get (reverse past) j ≡ Some f
    → Gone s past f.took.id
gone s [] j f run at = absurd (grind arith)
gone s (e ∷ past) j f run at =
    elim (slice_get_split (reverse past) e j f (rw (reverse_more e past) at at)) [
      | inl p ↦ gone_later s past e f.took.id run (gone s past j f run.1 p.1)
      | inr p ↦ subst (λ (x : Entry). Gone s (e ∷ past) x.took.id) p.1 (gone_now s past e run)
    ]
