-- In every run the marks of an update transaction go at a node that it visits, once, and if it is complete.
use Rattle.std.proofs.Common.{◌≡◌, ℕ, ◌+◌, ◌<◌, ◌≤◌, ◌==◌, ◌&&◌, Bool, true, false, List, [], ◌∷◌, map, length, take, refl, sym, ap, subst, ◌∙◌, arith, Option, Some, None}
use Rattle.std.specs.Prelude.{if◌then◌else◌, is_some, slice_get}
use Rattle.std.specs.Option.{option_or}
use Rattle.std.proofs.lemmas.Bool.{and_from}
use Rattle.std.proofs.lemmas.Bool.Decides.{nat_tests}
use Rattle.tv_base.specs.declared.numbers.TreeNo.{TreeNo}
use Rattle.tv_base.specs.declared.numbers.Version.{Version}
use Rattle.tv_base.proofs.Chosen.{if_zero}
use Rattle.letter_types.specs.Kept.{kept_without, wakes}
use Rattle.letter_types.specs.declared.acts.Act.{Act}
use Rattle.letter_types.specs.declared.acts.Act.TheVariants as acts
use Rattle.letter_types.specs.declared.bodies.Body.{Body}
use Rattle.letter_types.specs.declared.bodies.Body.TheVariants.{Go, Release, Wake}
use Rattle.letter_types.specs.declared.entries.Entry.{Entry}
use Rattle.letter_types.specs.declared.entries.Letter.{Letter}
use Rattle.letter_types.specs.declared.entries.Outgoing.{Outgoing}
use Rattle.letter_types.specs.Steps.{Out}
use Rattle.script_parts.specs.ScriptData.{ScriptData, client_of, subs_at, updates, visits}
use Rattle.script_parts.specs.Valid.{IsValid}
use Rattle.script_parts.proofs.SubsOf.{has_root}
use Rattle.board_rules.specs.Histories.{Place, all_applied, all_done, born_as, is_complete, is_strict_tree, is_whole_in, places_at, version_in, was_born}
use Rattle.board_rules.specs.Moves.{IsFreeing}
use Rattle.board_rules.specs.Stands.{frees}
use Rattle.board_rules.proofs.Wholes.{update_not_strict, updates_there, whole_more}
use Rattle.board_rules.proofs.Places.{places_more}
use Rattle.world_model.specs.Core.{Core}
use Rattle.world_model.specs.Counts.{one_if, tally}
use Rattle.world_model.specs.Kept.{kept_in, of_done, outstanding}
use Rattle.world_model.specs.Keeping.{woken_by}
use Rattle.world_model.specs.Runs.{IsStepRun, MayFollow, client_in, keeping_in}
use Rattle.world_model.specs.Named.{is_strict_at}
use Rattle.world_model.specs.Strict.{CoreKeeping, core_row}
use Rattle.world_model.proofs.Bags.{sealed_tally, tally-append, one_if_both}
use Rattle.world_model.proofs.Cases.{Case, Coordinates, Does, Keeps, NodeDoes, NodeKeeps, Submits, case, does_number, keeps_number}
use Rattle.world_model.proofs.Outstanding.{done_apart, outstanding_first, outstanding_step}
use Rattle.world_model.proofs.Sends.{on}
use Rattle.world_model.specs.Meant.{IsMeant}
use Rattle.advance_laws.proofs.governed.Brought.{brought_meant}
use Rattle.tree_laws.specs.Dids.{answers, is_born, replies_to}
use Rattle.tree_laws.specs.Stages.{AllTurned, Answered as IsDone, Gathers, Holds, StageAt, Unborn}
use Rattle.tree_laws.specs.Turns.{has_turn, turns}
use Rattle.tree_laws.proofs.histories.Acts.{of_act}
use Rattle.tree_laws.proofs.decided.AptRulings.{CountsNoKeeping, client_acts, keeping_acts}
use Rattle.tree_laws.proofs.stages.AptStagesApart.{CountsNoOthers, client_none, coordinator_none, none_of_others}
use Rattle.tree_laws.proofs.stages.AptStagesOwn.{Doing}
use Rattle.tree_laws.proofs.stages.AptStagesRun.{stages_of_trees}
use Rattle.tree_laws.proofs.apt.AptSteps.{wakes_none}
use Rattle.tree_laws.proofs.apt.AptTurns.{births_are_turns}
use Rattle.tree_laws.proofs.apt.AptVersions.{before}
use Rattle.tree_laws.proofs.homes.Counted.{all_done_of, births_in, dids_in, was_done_of}
use Rattle.tree_laws.proofs.decided.AptApplied.{same_at}
use Rattle.run_laws.proofs.each_tree.EveryApt.{all_apt}
use Rattle.run_laws.proofs.each_tree.EveryDid.{dids_are_turns}
use Rattle.run_laws.proofs.each_tree.EveryWhole.{strict_is}
use Rattle.run_laws.proofs.act_order.Fronts.{counted_front, front, none_found, place_of, placed}
use Rattle.run_laws.proofs.strict.ReleaseRows.{has_freed, none_to, released_to, releases_of, row_few, row_frees}
use Rattle.advance_laws.proofs.phases.Progress.{brings_to}

-- How often the marks of tree t went at node q, and how many letters that have still to be done release them there.
abbrev freed_now : Entry → ℕ → ℕ → ℕ
freed_now e t q = if e.actor.0 == q then tally (has_freed t) e.acts else 0

abbrev pub freed_at : List Entry → ℕ → ℕ → ℕ
freed_at [] t q = 0
freed_at (e ∷ past) t q = (if e.actor.0 == q then tally (has_freed t) e.acts else 0) + freed_at past t q

abbrev releasing : ℕ → ℕ → Letter → ℕ
releasing t q l = if l.to.0 == q then releases_of t l.body else 0

abbrev releases_to : ScriptData → List Entry → ℕ → ℕ → ℕ
releases_to s past t q = tally (releasing t q) (outstanding s past)

flow : (s : ScriptData) (past : List Entry) (e : Entry) (t q : ℕ) → MayFollow s past e
    → releases_to s (e ∷ past) t q + of_done (releasing t q) s past e ≡ releases_to s past t q + tally (released_to t q) e.sent
flow s past e t q m =
    omega (
      arith,
      outstanding_step (releasing t q) s past e
          (λ l u k is. if_zero (l.to.0 == q) (releases_of t l.body) (ap (releases_of t) is)) m,
      sealed_tally (releasing t q) (released_to t q) e.stamp.0 e.actor.0 0 e.sent (λ i o. refl),
    )

-- An entry frees what it takes, and sends at most as many Releases to a node as answers.
record Fair (s : ScriptData) (past : List Entry) (e : Entry) (t q : ℕ) : Type 0 where
  freed : freed_now e t q ≡ of_done (releasing t q) s past e
  few : tally (released_to t q) e.sent ≤ tally (on (replies_to t)) e.sent

does_fair : (s : ScriptData) (past : List Entry) (e : Entry) (p : ℕ) (r : Letter) (t q : ℕ) → Does s past e p r → Fair s past e t q
does_fair s past e p r t q d =
    let c : Core = (keeping_in s past p).core in
    let row : Out Core = core_row s p c r.from.0 r.body in
    let more : List Outgoing = wakes (woken_by c r.body) (kept_without (kept_in s past p) e.took.body) in
    record {
      freed =
          same_at q e.actor.0 r.to.0 (tally (has_freed t) e.acts) (releases_of t r.body) (d.brings.at ∙ sym d.brings.to)
          (ap (λ (xs : List Act). tally (has_freed t) xs) d.acts ∙ row_frees s p r.from.0 t r.body c)
          ∙ sym (does_number (releasing t q) s past e p r d);
      few = omega (
        arith,
        ap (λ (os : List Outgoing). tally (released_to t q) os) d.sent,
        ap (λ (os : List Outgoing). tally (on (replies_to t)) os) d.sent,
        tally-append (released_to t q) row.sent more,
        tally-append (on (replies_to t)) row.sent more,
        wakes_none (released_to t q) (woken_by c r.body) (kept_without (kept_in s past p) e.took.body)
            (λ x. if_zero (x.letter.to.0 == q) (releases_of t (Wake x.tree x.sub)) refl),
        row_few s p r.from.0 t q r.body c,
      );
    }

frees_no_keeping : (t : ℕ) → CountsNoKeeping (has_freed t)
frees_no_keeping t = record { turned = λ v. refl; parked = λ u k i w. refl; waits = λ u v w. refl }

keeps_fair : (s : ScriptData) (past : List Entry) (e : Entry) (p : ℕ) (r : Letter) (k : CoreKeeping) (t q : ℕ) → Keeps s past e p r k → Fair s past e t q
keeps_fair s past e p r k t q d = record {
  freed =
      if_zero (e.actor.0 == q) (tally (has_freed t) e.acts)
      (ap (λ (xs : List Act). tally (has_freed t) xs) d.acts
      ∙ keeping_acts (has_freed t) s (keeping_in s past p).core r.body k (frees_no_keeping t) d.keeps)
      ∙ sym (keeps_number (releasing t q) s past e p r k d);
  few = omega (arith, ap (λ (os : List Outgoing). tally (released_to t q) os) d.sent);
}

elsewhere : (q to n : ℕ) → q < to → (if to == q then n else 0) ≡ 0
elsewhere q to n lt = let other : (to == q) ≡ false = grind (arith, nat_tests) in rw other refl

releases_no_others : (t : ℕ) → CountsNoOthers (releases_of t)
releases_no_others t =
    none_of_others (releases_of t) (λ u. refl) (λ v. (refl, (refl, refl))) (λ e what v. (refl, refl)) (λ v k. (refl, refl)) (λ v. refl)
    (refl, (refl, refl)) (λ e k. (refl, refl))

apart_fair : (s : ScriptData) (past : List Entry) (e : Entry) (t q : ℕ) → MayFollow s past e → q < s.nodes → s.nodes ≤ e.actor.0
    → tally (on (releases_of t)) e.sent ≡ 0 → tally (has_freed t) e.acts ≡ 0 → Fair s past e t q
apart_fair s past e t q m lt out sent quiet = record {
  freed = if_zero (e.actor.0 == q) (tally (has_freed t) e.acts) quiet
      ∙ sym (done_apart (releasing t q) s past e out ∙ elsewhere q e.took.to.0 (releases_of t e.took.body) (omega (arith, lt, out, m.addressee)));
  few = omega (arith, none_to t q e.sent sent);
}

fair : (s : ScriptData) (past : List Entry) (e : Entry) (t q : ℕ) → MayFollow s past e → q < s.nodes → Case s past e → Fair s past e t q
fair s past e t q m lt (NodeDoes p r d) = does_fair s past e p r t q d
fair s past e t q m lt (NodeKeeps p r k d) = keeps_fair s past e p r k t q d
fair s past e t q m lt (Coordinates at made) =
    apart_fair s past e t q m lt (omega (arith, at)) (coordinator_none (releases_of t) s e made (releases_no_others t))
    (ap (λ (xs : List Act). tally (has_freed t) xs) made.acts)
fair s past e t q m lt (Submits at says) =
    apart_fair s past e t q m lt (omega (arith, at))
    (ap (λ (os : List Outgoing). tally (on (releases_of t)) os) says.0
    ∙ client_none (releases_of t) s (client_in s past) e.took.body (releases_no_others t))
    (ap (λ (xs : List Act). tally (has_freed t) xs) says.1 ∙ client_acts (has_freed t) s (client_in s past) e.took.body refl)

first_none : (s : ScriptData) (t q : ℕ) → releases_to s [] t q ≡ 0
first_none s t q = omega (arith, outstanding_first (releasing t q) s, if_zero (client_of s == q) (releases_of t Go) refl)

-- So at each node marks go, or are on their way there, at most as often as their tree was answered.
pub freed_when_answered : (s : ScriptData) (past : List Entry) (t q : ℕ) → IsValid s → IsStepRun s past → q < s.nodes
    → freed_at past t q + releases_to s past t q ≤ answers past t
freed_when_answered s [] t q valid run lt = omega (arith, first_none s t q)
freed_when_answered s (e ∷ past) t q valid run lt =
    let f = fair s past e t q run.0 lt (case s past e run.0 (all_apt s (e ∷ past) valid run).0) in
    omega (arith, freed_when_answered s past t q valid run.1 lt, flow s past e t q run.0, f.freed, f.few)

-- What is counted of it is what a history says.
abbrev freed_here : ℕ → ℕ → Place → ℕ
freed_here t q x = one_if ((x.node == q) && frees t x.act)

freed_is : (t : ℕ) (a : Act) → one_if (frees t a) ≡ has_freed t a
freed_is t (acts.Freed u) = refl
freed_is t acts.Finished = refl
freed_is t _ = refl

freed_then : (t q node : ℕ) (does : List Act) (test : Bool) → (node == q) ≡ test
    → tally (freed_here t q) (map (placed node) does) ≡ (if test then tally (has_freed t) does else 0)
freed_then t q node [] true is = refl
freed_then t q node [] false is = refl
freed_then t q node (a ∷ does) true is =
    let here : one_if ((node == q) && frees t a) ≡ one_if (frees t a) = rw is refl in
    omega (arith, here, freed_is t a, freed_then t q node does true is)
freed_then t q node (a ∷ does) false is =
    let here : one_if ((node == q) && frees t a) ≡ 0 = rw is refl in
    omega (arith, here, freed_then t q node does false is)

freed_in : (past : List Entry) (t q : ℕ) → tally (freed_here t q) (before past) ≡ freed_at past t q
freed_in [] t q = refl
freed_in (e ∷ past) t q =
    omega (
      arith,
      ap (λ (xs : List Place). tally (freed_here t q) xs) (places_more e past),
      tally-append (freed_here t q) (before past) (places_at e),
      freed_in past t q,
      freed_then t q e.actor.0 e.acts (e.actor.0 == q) refl,
    )

-- An answered tree that isn't strict is whole.
answered_by : (s : ScriptData) (past : List Entry) (t : ℕ) → 1 ≤ answers past t → StageAt s past t → (answers past t ≤ 1) × AllTurned s past t
answered_by s past t some (Unborn u) = absurd (omega (arith, some, u.answers))
answered_by s past t some (Gathers h g) = absurd (omega (arith, some, g.answers))
answered_by s past t some (Holds h g) = absurd (omega (arith, some, g.answers))
answered_by s past t some (IsDone a) = (omega (arith, a.answers), a.all)

uncounted : (t : ℕ) (a : Act) → born_as t a ≡ None → is_born t a ≡ 0
uncounted t (acts.Born u v) is = by (u.0 == t) is where
  by : (test : Bool) → (if test then Some v else None) ≡ None → one_if test ≡ 0
  by true so = absurd (cc so)
  by false so = refl
uncounted t acts.Finished is = refl
uncounted t _ is = refl

pub born_some : (t : ℕ) (xs : List Place) → 1 ≤ tally (of_act (is_born t)) xs → is_some (version_in t xs) ≡ true
born_some t [] some = absurd (omega (arith, some))
born_some t (x ∷ xs) some = by (born_as t x.act) refl (born_some t xs) where
  by : (found : Option Version) → born_as t x.act ≡ found → (1 ≤ tally (of_act (is_born t)) xs → is_some (version_in t xs) ≡ true)
      → is_some (option_or found (version_in t xs)) ≡ true
  by (Some v) is rest = refl
  by None is rest = rest (omega (arith, some, uncounted t x.act is))

whole_turned : (s : ScriptData) (past : List Entry) (t : ℕ) → IsValid s → IsStepRun s past → updates s t ≡ true
    → ((k : ℕ) → k < length (subs_at s t) → turns past t k ≡ 1) → is_whole_in s (before past) t ≡ true
whole_turned s past t valid run up turned =
    let xs : List Place = before past in
    let apt = all_apt s past valid run in
    let not_strict : is_strict_tree s t ≡ false = update_not_strict s t up in
    let plain : is_strict_at s t ≡ false = sym (strict_is s t (slice_get s.trees t) refl) ∙ not_strict in
    let born : was_born xs t ≡ true =
    born_some t xs
    (omega (
      arith,
      births_in past t,
      births_are_turns s past t valid apt run,
      turned 0 (has_root s t valid (updates_there s t up)),
    )) in
    let done : all_done t (length (subs_at s t)) xs ≡ true =
    all_done_of t (length (subs_at s t)) xs
    (λ k below. was_done_of t k xs (omega (arith, dids_in past t k, dids_are_turns s past t k valid run plain, turned k below))) in
    let complete : is_complete s xs t ≡ true =
    ap (λ (b : Bool). if b then all_applied t (subs_at s t) xs else all_done t (length (subs_at s t)) xs) not_strict ∙ done in
    and_from (was_born xs t) (is_complete s xs t) born complete

-- So marks go by their rule.
pub freed_by_rule : (s : ScriptData) (past : List Entry) (e : Entry) (j p : ℕ) (r : Letter) (t : TreeNo) → Doing s past e p r → r.body ≡ Release t
    → slice_get e.acts j ≡ Some (acts.Freed t) → IsFreeing s (front past e j) e.actor.0 t.0
freed_by_rule s past e j p r t g is at =
    let now : List Entry = e ∷ past in
    let q : ℕ = e.actor.0 in
    let c : Core = (keeping_in s past p).core in
    let meant : IsMeant s r.from.0 p (Release t) =
    subst (λ (b : Body). IsMeant s r.from.0 p b) is (brought_meant s past e p r g.valid (brings_to s past e p r g.does.brings) g.run) in
    let lt : t.0 < length s.trees = updates_there s t.0 meant.update in
    let below : q < s.nodes = omega (arith, g.does.brings.at, g.does.brings.below) in
    let row : e.acts ≡ acts.Freed t ∷ [] = g.does.acts ∙ ap (λ (b : Body). (core_row s p c r.from.0 b).acts) is in
    let here : (q == q) ≡ true = grind (arith, nat_tests) in
    let own : (t.0 == t.0) ≡ true = grind (arith, nat_tests) in
    let one : freed_now e t.0 q ≡ 1 =
    ap (λ (b : Bool). if b then tally (has_freed t.0) e.acts else 0) here ∙ ap (λ (xs : List Act). tally (has_freed t.0) xs) row
    ∙ omega (arith, ap one_if own) in
    let fair_now = freed_when_answered s now t.0 q g.valid g.run below in
    let a = answered_by s now t.0 (omega (arith, one, fair_now)) (stages_of_trees s now g.valid g.apt g.run t.0 lt) in
    let turned : (k : ℕ) → k < length (subs_at s t.0) → turns past t.0 k ≡ 1 = λ k less.
    omega (arith, a.1.turned k less, ap (λ (xs : List Act). tally (has_turn t.0 k) xs) row) in
    record {
      update = meant.update;
      visited = ap (visits (subs_at s t.0)) g.does.brings.at ∙ meant.visited.visits;
      whole = whole_more s (before past) (take j (places_at e)) t.0 (whole_turned s past t.0 g.valid g.run.1 meant.update turned);
      once =
          none_found (freed_here t.0 q) (λ (x : Place). (x.node == q) && frees t.0 x.act) (front past e j) (λ x. omega arith)
          (omega (
            arith,
            one_if_both q t.0,
            counted_front (freed_here t.0 q) past e j (placed q (acts.Freed t)) (place_of e j (acts.Freed t) at),
            freed_in now t.0 q,
            fair_now,
            a.0,
          ));
    }
