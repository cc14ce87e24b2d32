-- In every run each decision is of a strict transaction at its home, once, when all have voted: it commits if all voted
-- yes. And each is applied at a node that its transaction visits, after it was made, once.
use Rattle.std.proofs.Common.{◌≡◌, ℕ, suc, ◌+◌, ◌<◌, ◌≤◌, ◌==◌, ◌&&◌, Bool, true, false, not, List, [], ◌∷◌, length, take, refl, sym, ap, ◌∙◌, subst, arith, Option, Some, None}
use Rattle.std.specs.Prelude.{if◌then◌else◌, slice_get}
use Rattle.std.proofs.lemmas.Bool.Decides.{nat_tests}
use Rattle.tv_base.specs.declared.numbers.SubNo.{SubNo}
use Rattle.tv_base.specs.declared.numbers.TreeNo.{TreeNo}
use Rattle.tv_base.specs.declared.numbers.Version.{Version}
use Rattle.letter_types.specs.declared.acts.Act.{Act}
use Rattle.letter_types.specs.declared.acts.Act.TheVariants as acts
use Rattle.letter_types.specs.declared.bodies.Body.{Body}
use Rattle.letter_types.specs.declared.bodies.Body.TheVariants.{Root, Done, Decide, Go}
use Rattle.letter_types.specs.declared.entries.Entry.{Entry}
use Rattle.letter_types.specs.declared.entries.Letter.{Letter}
use Rattle.letter_types.specs.declared.votes.Cause.{Cause}
use Rattle.letter_types.specs.declared.votes.Vote.{Vote}
use Rattle.letter_types.specs.declared.votes.Vote.TheVariants.{Yes, No}
use Rattle.tree_home.specs.declared.homes.Answered.{Answered}
use Rattle.script_parts.specs.declared.parts.TreeKind.{TreeKind}
use Rattle.script_parts.specs.declared.parts.TreeKind.TheVariants.{Update, Read, Strict}
use Rattle.script_parts.specs.ScriptData.{ScriptData, home_of, subs_at, visits}
use Rattle.script_parts.specs.Valid.{IsValid}
use Rattle.world_model.specs.Core.{Core}
use Rattle.world_model.specs.Counts.{one_if, tally}
use Rattle.world_model.specs.Named.{is_strict_at, tree_kind_at}
use Rattle.world_model.specs.Notices.{act_of}
use Rattle.world_model.specs.Runs.{IsStepRun, client_in, keeping_in}
use Rattle.world_model.specs.Strict.{core_row, none_refuses, notice_by}
use Rattle.world_model.proofs.Cases.{Case, Coordinates, NodeDoes, NodeKeeps, Submits, case}
use Rattle.world_model.proofs.Bags.{one_if_and, one_if_both}
use Rattle.board_rules.specs.Histories.{Place, applies, decides_as, places_at}
use Rattle.board_rules.specs.Moves.{AllVoted, IsApplying, IsDecision}
use Rattle.board_rules.specs.Stands.{votes, votes_yes, voted_yes, was_voted}
use Rattle.board_rules.proofs.Wholes.{any_more}
use Rattle.world_model.proofs.MeantRows.{strict_below}
use Rattle.world_model.specs.Meant.{IsMeant}
use Rattle.advance_laws.proofs.governed.Brought.{brought_meant}
use Rattle.tree_laws.specs.Applied.{applies_as, decided_as, has_decided, noes, votes_no}
use Rattle.tree_laws.specs.Dids.{is_did_act}
use Rattle.tree_laws.specs.Stages.{AllTurned, Answered as IsDone, Gathers, Holds, StageAt, Unborn}
use Rattle.tree_laws.specs.Turns.{has_turn, turns}
use Rattle.tree_laws.proofs.histories.Acts.{acts_more, any_counted, counted_any, of_act}
use Rattle.tree_laws.proofs.decided.AptApplied.{applied_decides, applied_where_decided, decides_of}
use Rattle.tree_laws.proofs.decided.AptDecided.{Once, decided_any, once_in_run}
use Rattle.tree_laws.proofs.decided.AptRulings.{RowRules, Rules, client_acts, core_rules, keeping_acts, ruled_acts, rulings_no_keeping}
use Rattle.tree_laws.proofs.stages.AptStagesOwn.{Doing, note_at, root_home}
use Rattle.tree_laws.proofs.stages.AptStagesRun.{stages_of_trees}
use Rattle.tree_laws.proofs.apt.AptSteps.{enters}
use Rattle.tree_laws.proofs.apt.AptVersions.{before}
use Rattle.tree_laws.proofs.decided.AptVotes.{decided_by_votes}
use Rattle.run_laws.proofs.act_order.RowActs.{is_lasting, lasting}
use Rattle.run_laws.proofs.each_tree.EveryApt.{all_apt}
use Rattle.run_laws.proofs.each_tree.EveryDid.{is_vote_of}
use Rattle.run_laws.proofs.each_tree.EveryWhole.{applied_in, applies_here, strict_is}
use Rattle.run_laws.proofs.births.Deeds.{at_least, turn_sums}
use Rattle.run_laws.proofs.act_order.Fronts.{act_of_place, counted_front, front, none_found, place_of, placed}
use Rattle.run_laws.proofs.act_order.InEntries.{InEntry, entry_run, in_entry}
use Rattle.run_laws.proofs.act_order.LastActs.{row_last, turns_before}
use Rattle.run_laws.proofs.act_order.Lasts.{Applies, Frees, Lasts, Reads, Updates, Votes, lasts, vote_there}
use Rattle.advance_laws.proofs.phases.Progress.{brings_to}
use Rattle.run_laws.proofs.act_order.Turns.{is_there, turns_in}

-- Of a strict tree nothing is done at once: its subtransactions vote.
plain_kind : (s : ScriptData) (t u : ℕ) (kind : TreeKind) → is_strict_at s t ≡ true → u ≡ t → tree_kind_at s u ≡ Some kind → kind ≡ Strict
plain_kind s t u Strict strict same is = refl
plain_kind s t u Update strict same is =
    let plain : is_strict_at s u ≡ false = rw (is, is_strict_at) refl in
    absurd (let other : is_strict_at s u ≡ true = ap (is_strict_at s) same ∙ strict in cc (plain, other))
plain_kind s t u Read strict same is =
    let plain : is_strict_at s u ≡ false = rw (is, is_strict_at) refl in
    absurd (let other : is_strict_at s u ≡ true = ap (is_strict_at s) same ∙ strict in cc (plain, other))

vote_no_did : (t k : ℕ) (u : TreeNo) (j : SubNo) (v : Vote) → is_did_act t k (act_of u j (notice_by v)) ≡ 0
vote_no_did t k u j (Yes values) = refl
vote_no_did t k u j (No cause) = refl

did_kind : (s : ScriptData) (past : List Entry) (e : Entry) (j t k : ℕ) (a : Act) → is_strict_at s t ≡ true → Lasts s past e j a
    → is_did_act t k a ≡ 0
did_kind s past e j t k a strict (Updates p r u i g asks of is none) = by (u.0 == t) refl where
  by : (test : Bool) → (u.0 == t) ≡ test → is_did_act t k a ≡ 0
  by false so = ap (is_did_act t k) is ∙ ap (λ (b : Bool). one_if (b && (i.0 == k))) so
  by true so =
      absurd (let same : Update ≡ Strict = plain_kind s t u.0 Update strict (grind (arith, nat_tests, so)) of in cc same)
did_kind s past e j t k a strict (Reads p r u i values g asks of is none) = by (u.0 == t) refl where
  by : (test : Bool) → (u.0 == t) ≡ test → is_did_act t k a ≡ 0
  by false so = ap (is_did_act t k) is ∙ ap (λ (b : Bool). one_if (b && (i.0 == k))) so
  by true so =
      absurd (let same : Read ≡ Strict = plain_kind s t u.0 Read strict (grind (arith, nat_tests, so)) of in cc same)
did_kind s past e j t k a strict (Votes p r u i g asks of is none) = ap (is_did_act t k) is ∙ vote_no_did t k u i _
did_kind s past e j t k a strict (Applies p r u v commit g is at none) = ap (is_did_act t k) at
did_kind s past e j t k a strict (Frees p r u g is at none) = ap (is_did_act t k) at

no_did_by : (s : ScriptData) (past : List Entry) (i : ℕ) (y : Place) (t k : ℕ) → IsValid s → IsStepRun s past → is_strict_at s t ≡ true
    → InEntry past i y → (lasting_so : Bool) → is_lasting y.act ≡ lasting_so → is_did_act t k y.act ≡ 0
no_did_by s past i y t k valid run strict l true so =
    let here : IsStepRun s (l.entry ∷ l.earlier) = entry_run s past i y run l in
    did_kind s l.earlier l.entry l.place t k y.act strict (lasts s l.earlier l.entry l.place y.act valid here (act_of_place l.entry l.place y l.is).0 so)
no_did_by s past i y t k valid run strict l false so = quiet_did t k y.act so where
  quiet_did : (t k : ℕ) (a : Act) → is_lasting a ≡ false → is_did_act t k a ≡ 0
  quiet_did t k (acts.Did u j values) quiet = absurd (cc quiet)
  quiet_did t k acts.Finished quiet = refl
  quiet_did t k _ quiet = refl

none_in : (f : Place → ℕ) (xs : List Place) → ((i : ℕ) (y : Place) → slice_get xs i ≡ Some y → f y ≡ 0) → tally f xs ≡ 0
none_in f [] none = refl
none_in f (x ∷ xs) none = omega (arith, none 0 x refl, none_in f xs (λ i y is. none (suc i) y is))

pub no_dids : (s : ScriptData) (past : List Entry) (t k : ℕ) → IsValid s → IsStepRun s past → is_strict_at s t ≡ true
    → tally (of_act (is_did_act t k)) (before past) ≡ 0
no_dids s past t k valid run strict =
    none_in (of_act (is_did_act t k)) (before past)
    (λ i y is. no_did_by s past i y t k valid run strict (in_entry past i y is) (is_lasting y.act) refl)

-- Votes of one subtransaction.
abbrev pub is_yes_of : ℕ → ℕ → Act → ℕ
is_yes_of t k a = one_if (votes_yes t k a)

abbrev pub is_no_of : ℕ → ℕ → Act → ℕ
is_no_of t k (acts.Voted u j (No cause)) = one_if ((u.0 == t) && (j.0 == k))
is_no_of t k (acts.Voted u j (Yes values)) = 0
is_no_of t k acts.Finished = 0
is_no_of t k _ = 0

pub vote_is : (t k : ℕ) (a : Act) → is_vote_of t k a ≡ is_yes_of t k a + is_no_of t k a
vote_is t k (acts.Voted u j (Yes values)) = omega arith
vote_is t k (acts.Voted u j (No cause)) = omega arith
vote_is t k acts.Finished = refl
vote_is t k _ = refl

no_counts : (t k : ℕ) (a : Act) → is_no_of t k a ≤ votes_no t a
no_counts t k (acts.Voted u j (Yes values)) = omega arith
no_counts t k (acts.Voted u j (No cause)) = one_if_and (u.0 == t) (j.0 == k)
no_counts t k acts.Finished = omega arith
no_counts t k _ = omega arith

vote_sums : (t k : ℕ) (xs : List Place)
    → tally (of_act (is_vote_of t k)) xs ≡ tally (of_act (is_yes_of t k)) xs + tally (of_act (is_no_of t k)) xs
vote_sums t k [] = refl
vote_sums t k (x ∷ xs) = omega (arith, vote_is t k x.act, vote_sums t k xs)

sums_less : (f g : Act → ℕ) (xs : List Place) → ((a : Act) → f a ≤ g a) → tally (of_act f) xs ≤ tally (of_act g) xs
sums_less f g [] le = omega arith
sums_less f g (x ∷ xs) le = omega (arith, le x.act, sums_less f g xs le)

noes_in : (past : List Entry) (t : ℕ) → tally (of_act (votes_no t)) (before past) ≡ noes past t
noes_in [] t = refl
noes_in (e ∷ past) t = omega (arith, acts_more (votes_no t) past e, noes_in past t)

vote_marks : (t k : ℕ) (a : Act) → is_vote_of t k a ≡ one_if (votes t k a)
vote_marks t k (acts.Voted u j vote) = refl
vote_marks t k acts.Finished = refl
vote_marks t k _ = refl

pub was_voted_of : (t k : ℕ) (xs : List Place) → 1 ≤ tally (of_act (is_vote_of t k)) xs → was_voted t k xs ≡ true
was_voted_of t k xs some =
    counted_any (of_act (is_vote_of t k)) (λ (x : Place). votes t k x.act) xs (λ x. vote_marks t k x.act) some

voted_yes_of : (t k : ℕ) (xs : List Place) → 1 ≤ tally (of_act (is_yes_of t k)) xs → voted_yes t k xs ≡ true
voted_yes_of t k xs some = counted_any (of_act (is_yes_of t k)) (λ (x : Place). votes_yes t k x.act) xs (λ x. refl) some

-- the acts of a front are among those with its entry
front_less : (f : Act → ℕ) (past : List Entry) (e : Entry) (j : ℕ) (a : Act) → slice_get e.acts j ≡ Some a
    → tally (of_act f) (front past e j) + f a ≤ tally (of_act f) (before (e ∷ past))
front_less f past e j a is = counted_front (of_act f) past e j (placed e.actor.0 a) (place_of e j a is)

-- Who decides: the home of a strict tree, and it is the last of what it does.
record Decides (s : ScriptData) (past : List Entry) (e : Entry) (j t : ℕ) : Type 0 where
  strict : is_strict_at s t ≡ true
  home : e.actor.0 ≡ home_of s t
  below : e.actor.0 < s.nodes
  last : lasting (take j e.acts) ≡ lasting e.acts

own_decision : (t : ℕ) (commit : Bool) → has_decided t commit (acts.Decided (record { 0 = t }) commit) ≡ 1
own_decision t true = let same : (t == t) ≡ true = grind (arith, nat_tests) in rw same refl
own_decision t false = let same : (t == t) ≡ true = grind (arith, nat_tests) in rw same refl

of_tree_by : (t u : ℕ) (c : Bool) → 1 ≤ one_if ((u == t) && c) → u ≡ t
of_tree_by t u c some = by (u == t) refl some where
  by : (test : Bool) → (u == t) ≡ test → 1 ≤ one_if (test && c) → u ≡ t
  by true so one = grind (arith, nat_tests, so)
  by false so one = absurd (omega (arith, one))

decided_tree : (t : ℕ) (b : Bool) (u : TreeNo) (c : Bool) → 1 ≤ has_decided t b (acts.Decided u c) → u.0 ≡ t
decided_tree t true u c some = of_tree_by t u.0 c some
decided_tree t false u c some = of_tree_by t u.0 (not c) some

decider_home : (s : ScriptData) (past : List Entry) (e : Entry) (p : ℕ) (r : Letter) (u : TreeNo) (body : Body) → Doing s past e p r → r.body ≡ body
    → Rules u body → p ≡ home_of s u.0
decider_home s past e p r u (Root t) g is same = root_home s past e p t r g is ∙ ap (λ (w : TreeNo). home_of s w.0) (sym same)
decider_home s past e p r u (Done t k v notice) g is same =
    (note_at s past e p t k v notice r g is).home ∙ ap (λ (w : TreeNo). home_of s w.0) (sym same)
decider_home s past e p r u Go g is same = absurd same
decider_home s past e p r u _ g is same = absurd same

decides_by : (s : ScriptData) (past : List Entry) (e : Entry) (j t : ℕ) (commit : Bool) (p : ℕ) (r : Letter) → Doing s past e p r
    → slice_get e.acts j ≡ Some (acts.Decided (record { 0 = t }) commit)
    → (m : RowRules s (keeping_in s past p).core r.body (core_row s p (keeping_in s past p).core r.from.0 r.body))
    → (found : Option Answered) → m.found ≡ found → Decides s past e j t
decides_by s past e j t commit p r g at m None is =
    absurd (omega (
      arith,
      own_decision t commit,
      at_least (has_decided t commit) e.acts j (acts.Decided (record { 0 = t }) commit) at,
      ap (λ (xs : List Act). tally (has_decided t commit) xs) g.does.acts,
      m.acts (has_decided t commit) (decides_of t commit),
      ap (λ (o : Option Answered). tally (has_decided t commit) (ruled_acts (core_row s p (keeping_in s past p).core r.from.0 r.body).state.refusals o)) is,
      applied_decides t commit r.body,
    ))
decides_by s past e j t commit p r g at m (Some a) is =
    let c : Core = (keeping_in s past p).core in
    let rs = (core_row s p c r.from.0 r.body).state.refusals in
    let same : a.tree.0 ≡ t =
    decided_tree t commit a.tree (none_refuses a.tree rs)
    (omega (
      arith,
      own_decision t commit,
      at_least (has_decided t commit) e.acts j (acts.Decided (record { 0 = t }) commit) at,
      ap (λ (xs : List Act). tally (has_decided t commit) xs) g.does.acts,
      m.acts (has_decided t commit) (decides_of t commit),
      ap (λ (o : Option Answered). tally (has_decided t commit) (ruled_acts rs o)) is,
      applied_decides t commit r.body,
    )) in
    let row : slice_get (core_row s p c r.from.0 r.body).acts j ≡ Some (acts.Decided (record { 0 = t }) commit) =
    subst (λ (xs : List Act). slice_get xs j ≡ Some (acts.Decided (record { 0 = t }) commit)) g.does.acts at in
    record {
      strict = ap (is_strict_at s) (sym same) ∙ m.strict a is;
      home = g.does.brings.at ∙ decider_home s past e p r a.tree r.body g refl (m.rules a is) ∙ ap (home_of s) same;
      below = omega (arith, g.does.brings.at, g.does.brings.below);
      last = ap (λ (xs : List Act). lasting (take j xs)) g.does.acts
          ∙ row_last s p r.from.0 r.body c j (acts.Decided (record { 0 = t }) commit) row refl ∙ sym (ap lasting g.does.acts);
    }

none_left : (s : ScriptData) (past : List Entry) (e : Entry) (j t : ℕ) (commit : Bool) → slice_get e.acts j ≡ Some (acts.Decided (record { 0 = t }) commit)
    → tally (has_decided t commit) e.acts ≡ 0 → Decides s past e j t
none_left s past e j t commit at none =
    absurd (omega (arith, none, own_decision t commit, at_least (has_decided t commit) e.acts j (acts.Decided (record { 0 = t }) commit) at))

decides_case : (s : ScriptData) (past : List Entry) (e : Entry) (j t : ℕ) (commit : Bool) → IsValid s → IsStepRun s (e ∷ past)
    → slice_get e.acts j ≡ Some (acts.Decided (record { 0 = t }) commit) → Case s past e → Decides s past e j t
decides_case s past e j t commit valid run at (NodeDoes p r d) =
    let apt = all_apt s (e ∷ past) valid run in
    let m = core_rules s p r.from.0 r.body (keeping_in s past p).core in
    decides_by s past e j t commit p r (record { valid = valid; apt = apt; run = run; enters = enters s past e valid apt run; does = d }) at m m.found refl
decides_case s past e j t commit valid run at (NodeKeeps p r k d) =
    none_left s past e j t commit at
    (ap (λ (xs : List Act). tally (has_decided t commit) xs) d.acts
    ∙ keeping_acts (has_decided t commit) s (keeping_in s past p).core r.body k (rulings_no_keeping (has_decided t commit) (decides_of t commit)) d.keeps)
decides_case s past e j t commit valid run at (Coordinates out made) =
    none_left s past e j t commit at (ap (λ (xs : List Act). tally (has_decided t commit) xs) made.acts)
decides_case s past e j t commit valid run at (Submits out says) =
    none_left s past e j t commit at
    (ap (λ (xs : List Act). tally (has_decided t commit) xs) says.1
    ∙ client_acts (has_decided t commit) s (client_in s past) e.took.body (decides_of t commit acts.Finished refl))

decides : (s : ScriptData) (past : List Entry) (e : Entry) (j t : ℕ) (commit : Bool) → IsValid s → IsStepRun s (e ∷ past)
    → slice_get e.acts j ≡ Some (acts.Decided (record { 0 = t }) commit) → Decides s past e j t
decides s past e j t commit valid run at =
    decides_case s past e j t commit valid run at (case s past e run.0 (all_apt s (e ∷ past) valid run).0)

-- A tree that was decided on has had all its turns.
turned_by : (s : ScriptData) (past : List Entry) (t : ℕ) → Once s past t → 1 ≤ decided_any past t → StageAt s past t → AllTurned s past t
turned_by s past t o some (Unborn u) = absurd (omega (arith, some, o.unborn u.root))
turned_by s past t o some (Gathers h g) = absurd (omega (arith, some, o.opened h g.home))
turned_by s past t o some (Holds h g) = g.all
turned_by s past t o some (IsDone a) = a.all

decided_in : (past : List Entry) (t : ℕ) (b : Bool) → tally (of_act (has_decided t b)) (before past) ≡ decided_as past t b
decided_in [] t b = refl
decided_in (e ∷ past) t b = omega (arith, acts_more (has_decided t b) past e, decided_in past t b)

decided_marks : (t : ℕ) (b : Bool) (a : Act) → has_decided t b a ≡ one_if (decides_as t b a)
decided_marks t true (acts.Decided u c) = refl
decided_marks t false (acts.Decided u c) = refl
decided_marks t true acts.Finished = refl
decided_marks t false acts.Finished = refl
decided_marks t true _ = refl
decided_marks t false _ = refl

abbrev ruled_any : ℕ → Act → ℕ
ruled_any t a = has_decided t true a + has_decided t false a

ruled_sums : (t : ℕ) (xs : List Place)
    → tally (of_act (ruled_any t)) xs ≡ tally (of_act (has_decided t true)) xs + tally (of_act (has_decided t false)) xs
ruled_sums t [] = refl
ruled_sums t (x ∷ xs) = omega (arith, ruled_sums t xs)

one_ruled : (t : ℕ) (commit : Bool) → 1 ≤ ruled_any t (acts.Decided (record { 0 = t }) commit)
one_ruled t true = omega (arith, own_decision t true)
one_ruled t false = omega (arith, own_decision t false)

rule_counts : (t : ℕ) (c : Bool) (a : Act) → one_if (decides_as t c a) ≤ ruled_any t a
rule_counts t true a = omega (arith, decided_marks t true a)
rule_counts t false a = omega (arith, decided_marks t false a)

-- the no of an aborted tree
record CastsNo (xs : List Place) (t : ℕ) : Type 0 where
  place : ℕ
  node : ℕ
  sub : ℕ
  cause : Cause
  is : slice_get xs place ≡ Some (placed node (acts.Voted (record { 0 = t }) (record { 0 = sub }) (No cause)))

casts_by : (t : ℕ) (y : Place) (xs : List Place) (a : Act) → y.act ≡ a → 1 ≤ votes_no t a + tally (of_act (votes_no t)) xs
    → (1 ≤ tally (of_act (votes_no t)) xs → CastsNo xs t) → CastsNo (y ∷ xs) t
casts_by t y xs (acts.Voted u j (No cause)) is some rest = by (u.0 == t) refl some where
  by : (test : Bool) → (u.0 == t) ≡ test → 1 ≤ one_if test + tally (of_act (votes_no t)) xs → CastsNo (y ∷ xs) t
  by true so one =
      let same : u.0 ≡ t = grind (arith, nat_tests, so) in
      record {
        place = 0;
        node = y.node;
        sub = j.0;
        cause = cause;
        is = λ i. Some (record { node = y.node; act = (is ∙ ap (λ (n : ℕ). acts.Voted (record { 0 = n }) j (No cause)) same) i });
      }
  by false so one =
      let l = rest (omega (arith, one)) in
      record { place = suc l.place; node = l.node; sub = l.sub; cause = l.cause; is = l.is }
casts_by t y xs (acts.Voted u j (Yes values)) is some rest =
    let l = rest (omega (arith, some)) in record { place = suc l.place; node = l.node; sub = l.sub; cause = l.cause; is = l.is }
casts_by t y xs acts.Finished is some rest =
    let l = rest (omega (arith, some)) in record { place = suc l.place; node = l.node; sub = l.sub; cause = l.cause; is = l.is }
casts_by t y xs _ is some rest =
    let l = rest (omega (arith, some)) in record { place = suc l.place; node = l.node; sub = l.sub; cause = l.cause; is = l.is }

casts_no : (t : ℕ) (xs : List Place) → 1 ≤ tally (of_act (votes_no t)) xs → CastsNo xs t
casts_no t [] some = absurd (omega (arith, some))
casts_no t (y ∷ xs) some = casts_by t y xs y.act refl some (casts_no t xs)

-- a vote is of a subtransaction that is there
vote_place : (s : ScriptData) (past : List Entry) (e : Entry) (j : ℕ) (t k : ℕ) (vote : Vote)
    → Lasts s past e j (acts.Voted (record { 0 = t }) (record { 0 = k }) vote) → k < length (subs_at s t)
vote_place s past e j t k vote (Updates p r u i g asks of is none) = absurd (cc is)
vote_place s past e j t k vote (Reads p r u i values g asks of is none) = absurd (cc is)
vote_place s past e j t k vote (Votes p r u i g asks of is none) =
    by (vote_there s (keeping_in s past p).core u r.body) is (is_there s past e p r u i g asks).below where
      by : (v : Vote) → acts.Voted (record { 0 = t }) (record { 0 = k }) vote ≡ act_of u i (notice_by v) → i.0 < length (subs_at s u.0)
          → k < length (subs_at s t)
      by (Yes values) same below =
          let tu : t ≡ u.0 = cc same in
          let ki : k ≡ i.0 = cc same in
          let subs : length (subs_at s t) ≡ length (subs_at s u.0) = ap (λ (n : ℕ). length (subs_at s n)) tu in
          omega (arith, below, ki, subs)
      by (No cause) same below =
          let tu : t ≡ u.0 = cc same in
          let ki : k ≡ i.0 = cc same in
          let subs : length (subs_at s t) ≡ length (subs_at s u.0) = ap (λ (n : ℕ). length (subs_at s n)) tu in
          omega (arith, below, ki, subs)
vote_place s past e j t k vote (Applies p r u v commit g is at none) = absurd (cc at)
vote_place s past e j t k vote (Frees p r u g is at none) = absurd (cc at)

no_place : (s : ScriptData) (past : List Entry) (i n t k : ℕ) (vote : Vote) → IsValid s → IsStepRun s past
    → InEntry past i (placed n (acts.Voted (record { 0 = t }) (record { 0 = k }) vote)) → k < length (subs_at s t)
no_place s past i n t k vote valid run l =
    let y : Place = placed n (acts.Voted (record { 0 = t }) (record { 0 = k }) vote) in
    let here : IsStepRun s (l.entry ∷ l.earlier) = entry_run s past i y run l in
    vote_place s l.earlier l.entry l.place t k vote
    (lasts s l.earlier l.entry l.place y.act valid here (act_of_place l.entry l.place y l.is).0 refl)

-- What is known of the acts before a decision.
record BeforeDecision (s : ScriptData) (past : List Entry) (e : Entry) (j t : ℕ) (commit : Bool) : Type 0 where
  decides : Decides s past e j t
  there : t < length s.trees
  some : 1 ≤ decided_as (e ∷ past) t commit
  once : decided_any (e ∷ past) t ≤ 1
  turned : (k : ℕ) → k < length (subs_at s t) → tally (of_act (has_turn t k)) (front past e j) ≡ 1
  undone : (k : ℕ) → tally (of_act (is_did_act t k)) (front past e j) ≡ 0

before_decision : (s : ScriptData) (past : List Entry) (e : Entry) (j t : ℕ) (commit : Bool) → IsValid s → IsStepRun s (e ∷ past)
    → slice_get e.acts j ≡ Some (acts.Decided (record { 0 = t }) commit) → BeforeDecision s past e j t commit
before_decision s past e j t commit valid run at =
    let apt = all_apt s (e ∷ past) valid run in
    let d = decides s past e j t commit valid run at in
    let lt = strict_below s t d.strict in
    let o = once_in_run s (e ∷ past) t valid apt run lt in
    let less = λ (f : Act → ℕ). front_less f past e j (acts.Decided (record { 0 = t }) commit) at in
    let some : 1 ≤ decided_as (e ∷ past) t commit =
    omega (arith, own_decision t commit, less (has_decided t commit), decided_in (e ∷ past) t commit) in
    record {
      decides = d;
      there = lt;
      some = some;
      once = o.once;
      turned = λ k below.
          turns_before past e j t k d.last
          ∙ (turned_by s (e ∷ past) t o (any_some (e ∷ past) t commit some) (stages_of_trees s (e ∷ past) valid apt run t lt)).turned k below;
      undone = λ k. omega (arith, no_dids s (e ∷ past) t k valid run d.strict, less (is_did_act t k));
    }
  where
    any_some : (es : List Entry) (u : ℕ) (c : Bool) → 1 ≤ decided_as es u c → 1 ≤ decided_any es u
    any_some es u true one = omega (arith, one)
    any_some es u false one = omega (arith, one)

voted_before : (past : List Entry) (e : Entry) (j t k : ℕ) → tally (of_act (has_turn t k)) (front past e j) ≡ 1
    → tally (of_act (is_did_act t k)) (front past e j) ≡ 0 → tally (of_act (is_vote_of t k)) (front past e j) ≡ 1
voted_before past e j t k turned undone = omega (arith, turned, undone, turn_sums t k (front past e j))

-- it commits where all voted yes
commits_if : (s : ScriptData) (past : List Entry) (e : Entry) (j t : ℕ) (commit : Bool) → IsValid s → IsStepRun s (e ∷ past)
    → slice_get e.acts j ≡ Some (acts.Decided (record { 0 = t }) commit) → BeforeDecision s past e j t commit
    → AllVoted voted_yes s (front past e j) t → commit ≡ true
commits_if s past e j t true valid run at b all = refl
commits_if s past e j t false valid run at b all =
    let now : List Entry = e ∷ past in
    let apt = all_apt s now valid run in
    let some : 1 ≤ noes now t = (decided_by_votes s now t valid apt run b.there).1 b.some in
    let n = casts_no t (before now) (omega (arith, some, noes_in now t)) in
    let below : n.sub < length (subs_at s t) = no_place s now n.place n.node t n.sub (No n.cause) valid run (in_entry now n.place _ n.is) in
    let yes_one : 1 ≤ tally (of_act (is_yes_of t n.sub)) (front past e j) =
    any_counted (of_act (is_yes_of t n.sub)) (λ (x : Place). votes_yes t n.sub x.act) (front past e j) (λ x. refl) (all n.sub below) in
    let own : is_no_of t n.sub (acts.Voted (record { 0 = t }) (record { 0 = n.sub }) (No n.cause)) ≡ 1 = one_if_both t n.sub in
    let lt : turns now t n.sub ≡ 1 = sym (turns_before past e j t n.sub b.decides.last) ∙ b.turned n.sub below in
    absurd (omega (
      arith,
      yes_one,
      own,
      lt,
      at_least (of_act (is_no_of t n.sub)) (before now) n.place _ n.is,
      front_less (is_yes_of t n.sub) past e j (acts.Decided (record { 0 = t }) false) at,
      turns_in now t n.sub,
      turn_sums t n.sub (before now),
      vote_sums t n.sub (before now),
    ))

yes_only : (s : ScriptData) (past : List Entry) (e : Entry) (j t k : ℕ) (commit : Bool) → IsValid s → IsStepRun s (e ∷ past)
    → slice_get e.acts j ≡ Some (acts.Decided (record { 0 = t }) commit) → BeforeDecision s past e j t commit → commit ≡ true
    → k < length (subs_at s t) → voted_yes t k (front past e j) ≡ true
yes_only s past e j t k commit valid run at b is below =
    let now : List Entry = e ∷ past in
    let apt = all_apt s now valid run in
    let none : noes now t ≡ 0 =
    (decided_by_votes s now t valid apt run b.there).0 (subst (λ (c : Bool). 1 ≤ decided_as now t c) is b.some) in
    voted_yes_of t k (front past e j)
    (omega (
      arith,
      none,
      noes_in now t,
      front_less (votes_no t) past e j (acts.Decided (record { 0 = t }) commit) at,
      sums_less (is_no_of t k) (votes_no t) (front past e j) (no_counts t k),
      vote_sums t k (front past e j),
      voted_before past e j t k (b.turned k below) (b.undone k),
    ))

-- So each decision follows its rule.
pub decided_by_rule : (s : ScriptData) (past : List Entry) (e : Entry) (j t : ℕ) (commit : Bool) → IsValid s → IsStepRun s (e ∷ past)
    → slice_get e.acts j ≡ Some (acts.Decided (record { 0 = t }) commit) → IsDecision s (front past e j) e.actor.0 t commit
decided_by_rule s past e j t commit valid run at =
    let b = before_decision s past e j t commit valid run at in
    let xs : List Place = front past e j in
    record {
      strict = strict_is s t (slice_get s.trees t) refl ∙ b.decides.strict;
      home = (b.decides.below, sym b.decides.home);
      voted = λ k below. was_voted_of t k xs (omega (arith, voted_before past e j t k (b.turned k below) (b.undone k)));
      once = λ c.
          none_found (of_act (ruled_any t)) (λ (x : Place). decides_as t c x.act) xs (λ x. rule_counts t c x.act)
          (omega (
            arith,
            b.once,
            one_ruled t commit,
            front_less (ruled_any t) past e j (acts.Decided (record { 0 = t }) commit) at,
            ruled_sums t (before (e ∷ past)),
            decided_in (e ∷ past) t true,
            decided_in (e ∷ past) t false,
          ));
      yes_if = λ all. commits_if s past e j t commit valid run at b all;
      only_if = λ is k below. yes_only s past e j t k commit valid run at b is below;
    }

-- Each decision is applied where its tree visits, as it was made, once.
applied_marks : (t q : ℕ) (x : Place) → one_if ((x.node == q) && applies t x.act) ≤ applies_here t q x
applied_marks t q x = omega arith

own_applied : (t q : ℕ) (commit : Bool) → applies_here t q (placed q (acts.Applied (record { 0 = t }) commit)) ≡ 1
own_applied t q commit = one_if_both q t

applied_here : (t : ℕ) (commit : Bool) → applies_as t commit (acts.Applied (record { 0 = t }) commit) ≡ 1
applied_here t true = let same : (t == t) ≡ true = grind (arith, nat_tests) in rw same refl
applied_here t false = let same : (t == t) ≡ true = grind (arith, nat_tests) in rw same refl

pub applied_by_rule : (s : ScriptData) (past : List Entry) (e : Entry) (j p : ℕ) (r : Letter) (t : TreeNo) (v : Version) (commit : Bool)
    → Doing s past e p r → r.body ≡ Decide t v commit → slice_get e.acts j ≡ Some (acts.Applied t commit)
    → IsApplying s (front past e j) e.actor.0 t.0 commit
applied_by_rule s past e j p r t v commit g is at =
    let now : List Entry = e ∷ past in
    let q : ℕ = e.actor.0 in
    let c : Core = (keeping_in s past p).core in
    let meant : IsMeant s r.from.0 p (Decide t v commit) =
    subst (λ (b : Body). IsMeant s r.from.0 p b) is (brought_meant s past e p r g.valid (brings_to s past e p r g.does.brings) g.run) in
    let lt : t.0 < length s.trees = strict_below s t.0 meant.strict in
    let visited : visits (subs_at s t.0) q ≡ true = ap (visits (subs_at s t.0)) g.does.brings.at ∙ meant.visited.visits in
    let below : q < s.nodes = omega (arith, g.does.brings.at, g.does.brings.below) in
    let row : e.acts ≡ acts.Applied t commit ∷ [] = g.does.acts ∙ ap (λ (b : Body). (core_row s p c r.from.0 b).acts) is in
    let here : (q == q) ≡ true = grind (arith, nat_tests) in
    let one : (if q == q then tally (applies_as t.0 commit) e.acts else 0) ≡ 1 =
    ap (λ (b : Bool). if b then tally (applies_as t.0 commit) e.acts else 0) here ∙ ap (λ (xs : List Act). tally (applies_as t.0 commit) xs) row
    ∙ omega (arith, applied_here t.0 commit) in
    let quiet : tally (has_decided t.0 commit) e.acts ≡ 0 =
    ap (λ (xs : List Act). tally (has_decided t.0 commit) xs) row ∙ applied_decides t.0 commit (Decide t v commit) in
    let made : 1 ≤ decided_as past t.0 commit =
    omega (arith, one, quiet, applied_where_decided s now t.0 q commit g.valid g.apt g.run lt below visited) in
    record {
      strict = strict_is s t.0 (slice_get s.trees t.0) refl ∙ meant.strict;
      visited = visited;
      decided =
          any_more (λ (x : Place). decides_as t.0 commit x.act) (before past) (take j (places_at e))
          (counted_any (of_act (has_decided t.0 commit)) (λ (x : Place). decides_as t.0 commit x.act) (before past)
          (λ x. decided_marks t.0 commit x.act) (omega (arith, made, decided_in past t.0 commit)));
      once =
          none_found (applies_here t.0 q) (λ (x : Place). (x.node == q) && applies t.0 x.act) (front past e j) (applied_marks t.0 q)
          (omega (
            arith,
            own_applied t.0 q commit,
            counted_front (applies_here t.0 q) past e j (placed q (acts.Applied t commit)) (place_of e j (acts.Applied t commit) at),
            applied_in now t.0 q,
            applied_where_decided s now t.0 q true g.valid g.apt g.run lt below visited,
            applied_where_decided s now t.0 q false g.valid g.apt g.run lt below visited,
            (once_in_run s now t.0 g.valid g.apt g.run lt).once,
          ));
    }
