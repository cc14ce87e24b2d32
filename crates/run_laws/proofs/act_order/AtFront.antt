-- The acts before an act of an entry: they follow their rules; if none of the entry's own lasts, they make of items
-- what the acts before the entry made; and writers of a version that is shown are complete after them.
use Rattle.std.proofs.Common.{◌≡◌, ℕ, zero, suc, ◌+◌, ◌<◌, true, false, List, [], ◌∷◌, map, length, take, refl, sym, ap, subst, ◌∙◌, arith, Some}
use Rattle.std.specs.Prelude.{not, slice_get}
use Rattle.std.proofs.Math.Seq.{take-append-add, take-append_seam}
use Rattle.std.proofs.lemmas.List.{take_all}
use Rattle.letter_types.specs.declared.acts.Act.{Act}
use Rattle.letter_types.specs.declared.acts.Act.TheVariants as acts
use Rattle.letter_types.specs.declared.entries.Entry.{Entry}
use Rattle.script_parts.specs.ScriptData.{ScriptData}
use Rattle.script_parts.specs.Valid.{IsValid}
use Rattle.world_model.specs.Runs.{IsStepRun}
use Rattle.board_rules.specs.Histories.{Place, places_at, version_in}
use Rattle.board_rules.specs.Moves.{AllWholeTo}
use Rattle.board_rules.specs.Rules.{FollowsRules, is_writer}
use Rattle.board_rules.proofs.AtEntry.{still_at_entry}
use Rattle.board_rules.proofs.Effects.{made_in}
use Rattle.board_rules.proofs.Rules.{IsItemAt}
use Rattle.board_rules.proofs.Stays.{IsStill, made_stays}
use Rattle.board_rules.proofs.Votes.{AreQuiet, is_quiet, rules_before}
use Rattle.board_rules.proofs.Wholes.{version_more, whole_more}
use Rattle.board_rules.proofs.Places.{places_more}
use Rattle.tree_laws.proofs.apt.AptVersions.{before}
use Rattle.run_laws.proofs.act_order.RowActs.{is_lasting, lasting}
use Rattle.run_laws.proofs.each_tree.Closed.{none_came}
use Rattle.run_laws.proofs.each_tree.Reached.{now_below}
use Rattle.run_laws.proofs.each_tree.Wholes.{born_with}
use Rattle.run_laws.proofs.act_order.Fronts.{first_places, front, placed}
use Rattle.run_laws.proofs.act_order.InEntries.{in_second}
use Rattle.run_laws.proofs.each_tree.Late.{no_reader, writer_there}
use Rattle.run_laws.proofs.strict.QuietLocks.{first_quiet}
use Rattle.run_laws.proofs.act_order.Rules.{follows_rules}
use Rattle.run_laws.proofs.births.ReadVersions.{whole_to}

-- They are the first of the acts with the entry, and those before the entry are the first of them.
pub front_is : (past : List Entry) (e : Entry) (j : ℕ) → take (length (before past) + j) (before (e ∷ past)) ≡ front past e j
front_is past e j =
    ap (take (length (before past) + j)) (places_more e past) ∙ take-append-add (before past) (places_at e) j

first_part : (past : List Entry) (e : Entry) (j : ℕ) → take (length (before past)) (front past e j) ≡ before past
first_part past e j = take-append_seam (before past) (take j (places_at e))

pub front_rules : (s : ScriptData) (past : List Entry) (e : Entry) (j : ℕ) → IsValid s → IsStepRun s (e ∷ past) → FollowsRules s (front past e j)
front_rules s past e j valid run =
    subst (FollowsRules s) (front_is past e j)
    (rules_before s (before (e ∷ past)) (length (before past) + j) (follows_rules s (e ∷ past) valid run))

-- An act that doesn't last changes nothing.
quiet_act : (a : Act) → is_lasting a ≡ false → is_quiet a ≡ true
quiet_act (acts.Did t k values) brief = absurd (cc brief)
quiet_act (acts.Freed t) brief = absurd (cc brief)
quiet_act (acts.Applied t commit) brief = absurd (cc brief)
quiet_act acts.Finished brief = refl
quiet_act _ brief = refl

brief_quiet : (n : ℕ) (xs : List Act) (i : ℕ) (y : Place) → lasting xs ≡ [] → slice_get (map (placed n) xs) i ≡ Some y → is_quiet y.act ≡ true
brief_quiet n [] i y none is = absurd (cc is)
brief_quiet n (a ∷ xs) zero y none is =
    let same : placed n a ≡ y = cc is in
    subst (λ (z : Place). is_quiet z.act ≡ true) same (quiet_act a (first_quiet a xs none).0)
brief_quiet n (a ∷ xs) (suc i) y none is = brief_quiet n xs i y (first_quiet a xs none).1 is

pub front_quiet : (past : List Entry) (e : Entry) (j : ℕ) → lasting (take j e.acts) ≡ []
    → AreQuiet (front past e j) (length (before past)) (length (front past e j))
front_quiet past e j none = λ i y le lt is.
    let l = in_second (before past) (take j (places_at e)) i y is le in
    brief_quiet e.actor.0 (take j e.acts) l.place y none (subst (λ (xs : List Place). slice_get xs l.place ≡ Some y) (first_places e j) l.is)

front_still : (s : ScriptData) (past : List Entry) (e : Entry) (j p x v : ℕ) → lasting (take j e.acts) ≡ []
    → IsStill s (front past e j) p x v (length (before past))
front_still s past e j p x v none =
    let zs : List Place = front past e j in
    subst (λ (xs : List Place). IsStill s xs p x v (length (before past))) (take_all (length zs) zs (omega arith))
    (still_at_entry s zs p x v (length (before past)) (length zs) (front_quiet past e j none))

pub made_at_front : (s : ScriptData) (past : List Entry) (e : Entry) (j p x v : ℕ) → IsValid s → IsStepRun s (e ∷ past) → IsItemAt s p x
    → lasting (take j e.acts) ≡ [] → made_in s (before past) p x v ≡ made_in s (front past e j) p x v
made_at_front s past e j p x v valid run item none =
    ap (λ (zs : List Place). made_in s zs p x v) (sym (first_part past e j))
    ∙ made_stays s (front past e j) p x v (length (before past)) (front_rules s past e j valid run).acts item (front_still s past e j p x v none)

-- No writer comes to a version that is shown, so each that has one is whole.
pub whole_at_front : (s : ScriptData) (past : List Entry) (e : Entry) (j v : ℕ) → IsValid s → IsStepRun s (e ∷ past) → v < now_below false s past
    → AllWholeTo (is_writer s) s (front past e j) v
whole_at_front s past e j v valid run early = λ t w writes born le.
    let there = writer_there s t writes in
    let unread = no_reader s t (slice_get s.trees t) refl writes in
    let all : born_with (e ∷ past) t ≡ Some w =
    version_more t (length (before past) + j) w (before (e ∷ past)) (ap (version_in t) (front_is past e j) ∙ born) in
    let old : born_with past t ≡ Some w = none_came false s past (e ∷ []) t w valid run (ap not unread) (omega (arith, early, le)) all in
    whole_more s (before past) (take j (places_at e)) t (whole_to s past v valid run.1 early t w there unread old le)
