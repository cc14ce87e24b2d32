-- In every run of every valid script a node raises its numbers one by one, each if what was given allows it, and
-- shows and sweeps to a version only once the transactions up to there are complete.
use Rattle.std.proofs.Common.{◌≡◌, ℕ, ◌+◌, ◌<◌, ◌≤◌, not, true, false, List, ◌∷◌, refl, sym, ap, subst, ◌∙◌, arith, Some}
use Rattle.std.specs.Prelude.{nat_lt, slice_get}
use Rattle.std.proofs.lemmas.Bool.Decides.{nat_tests}
use Rattle.tv_base.specs.declared.numbers.Version.{Version}
use Rattle.letter_types.specs.declared.acts.Act.TheVariants as acts
use Rattle.letter_types.specs.declared.bodies.Body.{Body}
use Rattle.letter_types.specs.declared.bodies.Body.TheVariants.{Sub as SubLetter, Order, Show, Sweep}
use Rattle.letter_types.specs.declared.bodies.What.{What}
use Rattle.letter_types.specs.declared.bodies.What.TheVariants as whats
use Rattle.letter_types.specs.declared.entries.Entry.{Entry}
use Rattle.letter_types.specs.declared.entries.Letter.{Letter}
use Rattle.script_parts.specs.ScriptData.{ScriptData}
use Rattle.script_parts.specs.Valid.{IsValid}
use Rattle.world_model.specs.Epochs.{plain_order}
use Rattle.world_model.specs.Runs.{IsStepRun, keeping_in, node_in}
use Rattle.world_model.proofs.Epochs.{Anew, Orders, Plainly}
use Rattle.board_rules.specs.Histories.{Place}
use Rattle.board_rules.specs.Moves.{IsShowing, IsSweeping, IsTurn}
use Rattle.tree_laws.proofs.apt.AptVersions.{before}
use Rattle.advance_laws.specs.Given.{greatest_given}
use Rattle.advance_laws.specs.Phases.{TurnStage, stage_of}
use Rattle.advance_laws.proofs.governed.Advancing.{IsOrderGiven, brought_turned, taken_ahead, taken_given}
use Rattle.advance_laws.proofs.governed.Brought.{BringsTo, IsAsking}
use Rattle.advance_laws.proofs.phases.Progress.{itself}
use Rattle.run_laws.proofs.each_tree.Closed.{read_there}
use Rattle.run_laws.proofs.each_tree.InTime.{advancing_run}
use Rattle.run_laws.proofs.each_tree.Reached.{whole_run}
use Rattle.run_laws.proofs.keeping.Woken.{new_ahead}
use Rattle.run_laws.proofs.act_order.Fronts.{front}
use Rattle.run_laws.proofs.each_tree.Late.{no_reader, writer_there}
use Rattle.run_laws.proofs.births.NodeNumbers.{node_numbers}
use Rattle.run_laws.proofs.act_order.Openings.{ByOrder, BySub, MayRaise, first_front, opens_as}

-- a letter that asks for no subtransaction is the one that was taken
took_it : (s : ScriptData) (past : List Entry) (e : Entry) (p : ℕ) (r : Letter) (body : Body) → BringsTo s past e p r → r.body ≡ body
    → (IsAsking body → ⊥) → e.took.body ≡ body
took_it s past e p r body b is other =
    let same : r ≡ e.took = itself s past e p r b (λ asks. other (subst IsAsking is asks)) in
    sym (ap (λ (l : Letter). l.body) same) ∙ is

plain_given : (past : List Entry) (what : What) (v : Version) → IsOrderGiven past (plain_order what v) → v.0 ≤ greatest_given (stage_of what) past
plain_given past whats.Turn v of = of
plain_given past whats.Show v of = of
plain_given past whats.Sweep v of = of

anew_given : (past : List Entry) (e : ℕ) (what : What) (v : Version) → IsOrderGiven past (Order e what v)
    → v.0 ≤ greatest_given (stage_of what) past
anew_given past e whats.Turn v of = of
anew_given past e whats.Show v of = of
anew_given past e whats.Sweep v of = of

plain_asks : (what : What) (v : Version) → IsAsking (plain_order what v) → ⊥
plain_asks whats.Turn v asks = asks
plain_asks whats.Show v asks = asks
plain_asks whats.Sweep v asks = asks

-- the version that is ordered was given
pub ordered_given : (s : ScriptData) (past : List Entry) (e : Entry) (p : ℕ) (r : Letter) (what : What) (v : Version) → IsValid s
    → IsStepRun s (e ∷ past) → BringsTo s past e p r → Orders (keeping_in s past p).core r.body what v
    → v.0 ≤ greatest_given (stage_of what) past
ordered_given s past e p r what v valid run b (Plainly is) =
    plain_given past what v
    (taken_given s past e (plain_order what v) (advancing_run s past valid run.1) run.0
    (took_it s past e p r (plain_order what v) b is (plain_asks what v)))
ordered_given s past e p r what v valid run b (Anew n is takes) =
    anew_given past n what v
    (taken_given s past e (Order n what v) (advancing_run s past valid run.1) run.0
    (took_it s past e p r (Order n what v) b is (λ asks. asks)))

-- and it has still to be obeyed
shows_ahead : (s : ScriptData) (past : List Entry) (e : Entry) (p : ℕ) (r : Letter) (v : Version) → IsValid s → IsStepRun s (e ∷ past)
    → BringsTo s past e p r → Orders (keeping_in s past p).core r.body whats.Show v → (node_in s past p).turns.read.0 < v.0
shows_ahead s past e p r v valid run b (Plainly is) =
    taken_ahead s past e p (Show v) (advancing_run s past valid run.1) run.0 b.at b.below (took_it s past e p r (Show v) b is (λ asks. asks))
shows_ahead s past e p r v valid run b (Anew n is takes) =
    new_ahead (node_in s past p).turns.read.0 v.0 (nat_lt n (keeping_in s past p).core.epoch) takes

pub sweeps_ahead : (s : ScriptData) (past : List Entry) (e : Entry) (p : ℕ) (r : Letter) (v : Version) → IsValid s → IsStepRun s (e ∷ past)
    → BringsTo s past e p r → Orders (keeping_in s past p).core r.body whats.Sweep v → (node_in s past p).turns.low.0 < v.0
sweeps_ahead s past e p r v valid run b (Plainly is) =
    taken_ahead s past e p (Sweep v) (advancing_run s past valid run.1) run.0 b.at b.below (took_it s past e p r (Sweep v) b is (λ asks. asks))
sweeps_ahead s past e p r v valid run b (Anew n is takes) =
    new_ahead (node_in s past p).turns.low.0 v.0 (nat_lt n (keeping_in s past p).core.epoch) takes

-- A turn.
-- the version of a letter that may raise it was given
pub raised_most : (s : ScriptData) (past : List Entry) (e : Entry) (p : ℕ) (r : Letter) (v : Version) → IsValid s → IsStepRun s (e ∷ past)
    → BringsTo s past e p r → MayRaise s (keeping_in s past p).core r.body v → v.0 ≤ greatest_given TurnStage past
raised_most s past e p r v valid run b (BySub t k is plain) =
    brought_turned s past e p r (SubLetter t k v) (advancing_run s past valid run.1) run.0 b is plain
raised_most s past e p r v valid run b (ByOrder to) = ordered_given s past e p r whats.Turn v valid run b to

pub turn_is : (s : ScriptData) (past : List Entry) (e : Entry) (j : ℕ) (v : Version) → IsValid s → IsStepRun s (e ∷ past)
    → slice_get e.acts j ≡ Some (acts.Turned v) → IsTurn s (front past e j) e.actor.0 v.0
turn_is s past e j v valid run at =
    let o = opens_as s past e j (acts.Turned v) valid run at refl in
    let p = o.node in
    let lt = o.brings.below in
    let st = node_in s past p in
    let all = advancing_run s past valid run.1 in
    let at = all.within p lt in
    let test = o.is.0 in
    let above : st.turns.update.0 < v.0 = grind (arith, nat_tests, test) in
    let most = raised_most s past e p o.letter v valid run o.brings o.is.1 in
    let next : v.0 ≡ st.turns.update.0 + 1 =
    omega (arith, above, most, at.turned_low, at.low_swept, at.swept_read, at.read_showed, at.showed_update) in
    subst (λ (xs : List Place). IsTurn s xs e.actor.0 v.0) (sym (first_front past e j o.first))
    (subst (λ (q : ℕ). IsTurn s (before past) q v.0) (sym o.brings.at) (record {
      node = lt;
      next = next ∙ ap (λ (n : ℕ). n + 1) (sym (node_numbers s past valid run.1 p lt).update);
      near = λ q there. omega (arith, most, (node_numbers s past valid run.1 q there).low, (all.within q there).turned_low);
    }))

-- A version that is shown.
pub showing_is : (s : ScriptData) (past : List Entry) (e : Entry) (j : ℕ) (v : Version) → IsValid s → IsStepRun s (e ∷ past)
    → slice_get e.acts j ≡ Some (acts.Showed v) → IsShowing s (front past e j) e.actor.0 v.0
showing_is s past e j v valid run at =
    let o = opens_as s past e j (acts.Showed v) valid run at refl in
    let p = o.node in
    let lt = o.brings.below in
    let all = advancing_run s past valid run.1 in
    let at = all.within p lt in
    let ahead = shows_ahead s past e p o.letter v valid run o.brings o.is in
    let most = ordered_given s past e p o.letter whats.Show v valid run o.brings o.is in
    subst (λ (xs : List Place). IsShowing s xs e.actor.0 v.0) (sym (first_front past e j o.first))
    (subst (λ (q : ℕ). IsShowing s (before past) q v.0) (sym o.brings.at) (record {
      node = lt;
      next = omega (arith, ahead, most, at.showed_low, at.low_swept, at.swept_read, (node_numbers s past valid run.1 p lt).read);
      below = λ q there. omega (arith, most, (all.within q there).showed_update, (node_numbers s past valid run.1 q there).update);
      whole = λ t w writes born le.
          whole_run false s past valid run.1 t w (writer_there s t writes) (ap not (no_reader s t (slice_get s.trees t) refl writes)) born
          (omega (arith, most, le));
    }))

-- A version that is swept to.
pub sweeping_is : (s : ScriptData) (past : List Entry) (e : Entry) (j : ℕ) (v : Version) → IsValid s → IsStepRun s (e ∷ past)
    → slice_get e.acts j ≡ Some (acts.Swept v) → IsSweeping s (front past e j) e.actor.0 v.0
sweeping_is s past e j v valid run at =
    let o = opens_as s past e j (acts.Swept v) valid run at refl in
    let p = o.node in
    let lt = o.brings.below in
    let all = advancing_run s past valid run.1 in
    let ahead = sweeps_ahead s past e p o.letter v valid run o.brings o.is in
    let most = ordered_given s past e p o.letter whats.Sweep v valid run o.brings o.is in
    subst (λ (xs : List Place). IsSweeping s xs e.actor.0 v.0) (sym (first_front past e j o.first))
    (subst (λ (q : ℕ). IsSweeping s (before past) q v.0) (sym o.brings.at) (record {
      node = lt;
      next = omega (arith, ahead, most, (all.within p lt).swept_low, (node_numbers s past valid run.1 p lt).low);
      below = λ q there. omega (arith, most, (all.within q there).swept_read, (node_numbers s past valid run.1 q there).read);
      whole = λ t w reads born less.
          whole_run true s past valid run.1 t w (read_there s t (slice_get s.trees t) refl reads) reads born (omega (arith, most, less));
    }))
