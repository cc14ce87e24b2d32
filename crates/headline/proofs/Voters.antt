-- In every run of every valid script a node at which a subtransaction of a strict transaction has had its turn updates
-- at least the version of the transaction. So it does if a commit of the transaction comes.
use Rattle.std.proofs.Common.{◌≡◌, ◌≢◌, ◌⊎◌, inl, inr, ℕ, zero, suc, ◌<◌, ◌≤◌, ◌==◌, ◌&&◌, ◌||◌, Bool, true, false, List, [], ◌∷◌, ◌++◌, length, refl, sym, ap, subst, ◌∙◌, arith, Option, Some}
use Rattle.std.specs.Prelude.{is_some, nat_lt, slice_get}
use Rattle.std.proofs.lemmas.Bool.{cases_eq}
use Rattle.std.proofs.lemmas.Bool.Decides.{nat_tests}
use Rattle.tv_base.proofs.Truths.{left_true, right_true}
use Rattle.tv_base.specs.declared.numbers.SubNo.{SubNo}
use Rattle.tv_base.specs.declared.numbers.TreeNo.{TreeNo}
use Rattle.tv_base.specs.declared.numbers.Version.{Version}
use Rattle.letter_types.specs.declared.acts.Act.{Act}
use Rattle.letter_types.specs.declared.bodies.Body.{Body}
use Rattle.letter_types.specs.declared.bodies.Body.TheVariants.{Root, Sub as SubLetter, Go, Decide}
use Rattle.letter_types.specs.declared.entries.Entry.{Entry}
use Rattle.letter_types.specs.declared.entries.Letter.{Letter}
use Rattle.item_versions.specs.Table.{Table}
use Rattle.node_versions.specs.declared.turns.Turns.{Turns}
use Rattle.tx_trees.specs.ScriptData.{ScriptData, node_of, sub_at, subs_at, visits}
use Rattle.tx_trees.specs.Valid.{IsValid}
use Rattle.tx_trees.specs.declared.parts.Sub.{Sub}
use Rattle.tx_trees.specs.declared.parts.TreeKind.{TreeKind}
use Rattle.tx_trees.specs.declared.parts.TreeKind.TheVariants.{Strict}
use Rattle.board_rules.specs.Histories.{Place, places_at, version_in}
use Rattle.board_rules.proofs.Places.{version_stays, places_more}
use Rattle.world_model.specs.Asked.{asked_version}
use Rattle.world_model.specs.Core.{Core}
use Rattle.world_model.specs.Counts.{one_if, tally}
use Rattle.world_model.specs.Done.{raised_if}
use Rattle.world_model.specs.Named.{is_named, is_strict_at, tree_kind_at}
use Rattle.world_model.specs.Node.{Node}
use Rattle.world_model.specs.Runs.{IsStepRun, client_in, keeping_in, node_in}
use Rattle.world_model.specs.Strict.{core_by_kind, core_row}
use Rattle.world_model.proofs.Cases.{Case, Coordinates, Does, NodeDoes, NodeKeeps, Submits, case, apt_named}
use Rattle.world_model.proofs.Every.{node_kept}
use Rattle.world_model.proofs.Scripts.{get_below}
use Rattle.advance_laws.proofs.governed.Brought.{brought_outstanding, each_of_brought}
use Rattle.advance_laws.proofs.phases.Progress.{brings_to}
use Rattle.tree_laws.specs.Applied.{decided_as, decisions_to}
use Rattle.tree_laws.specs.Carried.{CarriesVersion}
use Rattle.tree_laws.specs.Dids.{asks}
use Rattle.tree_laws.specs.Stages.{StageAt, Answered, Gathers, Holds, Unborn}
use Rattle.tree_laws.specs.Turns.{has_turn, turns}
use Rattle.tree_laws.proofs.decided.AptApplied.{applied_where_decided}
use Rattle.tree_laws.proofs.apt.AptBounds.{asked_node}
use Rattle.tree_laws.proofs.decided.AptDecided.{Once, decided_any, once_in_run}
use Rattle.tree_laws.proofs.decided.AptDecisions.{dated_here, letters_carry_versions}
use Rattle.tree_laws.proofs.apt.AptItems.{Applies, Changes, Collects, Follows, Raises, Rests, Shows, Touches, core_changes, raised_to}
use Rattle.tree_laws.proofs.apt.AptMakes.{decision_waits}
use Rattle.tree_laws.proofs.decided.AptRulings.{client_acts, keeping_acts}
use Rattle.tree_laws.proofs.stages.AptStagesRun.{stages_of_trees}
use Rattle.tree_laws.proofs.apt.AptTurns.{core_turns}
use Rattle.tree_laws.proofs.apt.AptVersions.{DoneIn, before, is_version, version_is}
use Rattle.tree_laws.proofs.loads.NodeLoads.{strict_there}
use Rattle.tree_laws.proofs.histories.Turns.{kind_version, work_version}
use Rattle.run_laws.proofs.each_tree.EveryApt.{all_apt}
use Rattle.run_laws.proofs.keeping.KeptWhy.{keeps_rises}
use Rattle.run_laws.proofs.strict.StrictKinds.{kind_of_strict}

-- The version that is updated never falls.
raise_by : (turns : Turns) (v : ℕ) (test : Bool) → nat_lt turns.update.0 v ≡ test
    → (turns.update.0 ≤ (raised_if test v turns).update.0) × (v ≤ (raised_if test v turns).update.0)
raise_by turns v true is =
    let above : turns.update.0 < v = grind (arith, nat_tests) in (omega (arith, above), omega arith)
raise_by turns v false is =
    let most : v ≤ turns.update.0 = grind (arith, nat_tests) in (omega arith, most)

-- a version that is raised to
pub raises : (turns : Turns) (v : Version) → (turns.update.0 ≤ (raised_to v turns).update.0) × (v.0 ≤ (raised_to v turns).update.0)
raises turns v = raise_by turns v.0 (nat_lt turns.update.0 v.0) refl

grows_by : (s : ScriptData) (p : ℕ) (body : Body) (c : Core) (items : Table) (turns : Turns) → Changes s p body c items turns
    → c.node.turns.update.0 ≤ turns.update.0
grows_by s p body c items turns (Rests is same) = omega (arith, ap (λ (x : Turns). x.update.0) same)
grows_by s p body c items turns (Follows t k v letter is same) = omega (arith, ap (λ (x : Turns). x.update.0) same, (raises c.node.turns v).0)
grows_by s p body c items turns (Raises v to is same) = omega (arith, ap (λ (x : Turns). x.update.0) same, (raises c.node.turns v).0)
grows_by s p body c items turns (Touches t k one kind is same) =
    omega (arith, ap (λ (x : Turns). x.update.0) same, (raises c.node.turns (asked_version c.node.turns.update body)).0)
grows_by s p body c items turns (Applies t v letter is same) = omega (arith, ap (λ (x : Turns). x.update.0) same)
grows_by s p body c items turns (Shows v to is same) = omega (arith, ap (λ (x : Turns). x.update.0) same)
grows_by s p body c items turns (Collects v to is same) = omega (arith, ap (λ (x : Turns). x.update.0) same)

-- an entry of a node that does a letter
pub does_grow : (s : ScriptData) (past : List Entry) (e : Entry) (p : ℕ) (r : Letter) → Does s past e p r
    → (node_in s past p).turns.update.0 ≤ (node_in s (e ∷ past) p).turns.update.0
does_grow s past e p r d =
    let c : Core = (keeping_in s past p).core in
    let now : Node = (core_row s p c r.from.0 r.body).state.node in
    subst (λ (x : Core). c.node.turns.update.0 ≤ x.node.turns.update.0) (sym d.core)
    (grows_by s p r.body c now.items now.turns (core_changes s p r.from.0 r.body c))

grow_at : (s : ScriptData) (past : List Entry) (e : Entry) (p : ℕ) → IsValid s → IsStepRun s (e ∷ past) → p < s.nodes → e.actor.0 ≡ p
    → Case s past e → (node_in s past p).turns.update.0 ≤ (node_in s (e ∷ past) p).turns.update.0
grow_at s past e p valid run lt at (NodeDoes q r d) =
    subst (λ (n : ℕ). (node_in s past n).turns.update.0 ≤ (node_in s (e ∷ past) n).turns.update.0) (sym d.brings.at ∙ at)
    (does_grow s past e q r d)
grow_at s past e p valid run lt at (NodeKeeps q r k d) =
    subst (λ (n : ℕ). (node_in s past n).turns.update.0 ≤ (node_in s (e ∷ past) n).turns.update.0) (sym d.brings.at ∙ at)
    (keeps_rises s past e q r k d).update
grow_at s past e p valid run lt at (Coordinates out made) = absurd (omega (arith, at, lt, out))
grow_at s past e p valid run lt at (Submits out says) = absurd (omega (arith, at, lt, out))

-- an entry
pub update_grows : (s : ScriptData) (past : List Entry) (e : Entry) (p : ℕ) → IsValid s → IsStepRun s (e ∷ past) → p < s.nodes
    → (node_in s past p).turns.update.0 ≤ (node_in s (e ∷ past) p).turns.update.0
update_grows s past e p valid run lt = by (cases_eq e.actor.0 p) where
  by : (e.actor.0 ≡ p) ⊎ (e.actor.0 ≢ p) → (node_in s past p).turns.update.0 ≤ (node_in s (e ∷ past) p).turns.update.0
  by (inl at) = grow_at s past e p valid run lt at (case s past e run.0 (all_apt s (e ∷ past) valid run).0)
  by (inr ne) = omega (arith, ap (λ (st : Node). st.turns.update.0) (node_kept s past e p ne))

-- The node of subtransaction k of tree t updates at least the version in which the tree was born.
record IsRaised (s : ScriptData) (past : List Entry) (t k : ℕ) : Type 0 where
  version : Version
  born : version_in t (before past) ≡ Some version
  most : version.0 ≤ (node_in s past (node_of s t k)).turns.update.0

later : (s : ScriptData) (past : List Entry) (e : Entry) (t k : ℕ) → IsValid s → IsStepRun s (e ∷ past) → node_of s t k < s.nodes
    → IsRaised s past t k → IsRaised s (e ∷ past) t k
later s past e t k valid run lt r = record {
  version = r.version;
  born = ap (version_in t) (places_more e past)
      ∙ version_stays t (before past) (places_at e) (ap (λ (o : Option Version). is_some o) r.born) ∙ r.born;
  most = omega (arith, r.most, update_grows s past e (node_of s t k) valid run lt);
}

both : (u t j k : ℕ) (test : Bool) → ((u == t) && (j == k)) ≡ test → 1 ≤ one_if test → (u ≡ t) × (j ≡ k)
both u t j k true is some = (grind (arith, nat_tests), grind (arith, nat_tests))
both u t j k false is some = absurd (omega (arith, some))

-- a node does the letter that asks for it
at_root : (s : ScriptData) (past : List Entry) (e : Entry) (p : ℕ) (r : Letter) (t k : ℕ) (u : TreeNo) → IsValid s → IsStepRun s (e ∷ past)
    → Does s past e p r → is_strict_at s t ≡ true → node_of s t k ≡ p → r.body ≡ Root u → u.0 ≡ t → IsRaised s (e ∷ past) t k
at_root s past e p r t k u valid run d strict node is ut =
    let c : Core = (keeping_in s past p).core in
    let zs : List Place = before past ++ places_at e in
    let v : Version = c.node.turns.update in
    let dated : DoneIn zs (work_version s c (Root u)) (Root u) =
    subst (λ (b : Body). DoneIn zs (work_version s c b) b) is (dated_here s past e p r valid (all_apt s past valid run.1) run d) in
    let turn : kind_version c (tree_kind_at s u.0) ≡ v = ap (kind_version c) (ap (tree_kind_at s) ut ∙ kind_of_strict s t strict) in
    let born : version_in u.0 zs ≡ Some v =
    version_is (version_in u.0 zs) v (subst (λ (w : Version). is_version (version_in u.0 zs) w ≡ true) turn dated) in
    record {
      version = v;
      born = ap (version_in t) (places_more e past) ∙ subst (λ (n : ℕ). version_in n zs ≡ Some v) ut born;
      most = subst (λ (q : ℕ). v.0 ≤ (node_in s (e ∷ past) q).turns.update.0) (sym node) (does_grow s past e p r d);
    }

at_sub : (s : ScriptData) (past : List Entry) (e : Entry) (p : ℕ) (r : Letter) (t k : ℕ) (u : TreeNo) (j : SubNo) (v : Version) → IsValid s
    → IsStepRun s (e ∷ past) → Does s past e p r → is_strict_at s t ≡ true → node_of s t k ≡ p → r.body ≡ SubLetter u j v → u.0 ≡ t
    → IsRaised s (e ∷ past) t k
at_sub s past e p r t k u j v valid run d strict node is ut =
    let c : Core = (keeping_in s past p).core in
    let zs : List Place = before past ++ places_at e in
    let dated : DoneIn zs (work_version s c (SubLetter u j v)) (SubLetter u j v) =
    subst (λ (b : Body). DoneIn zs (work_version s c b) b) is (dated_here s past e p r valid (all_apt s past valid run.1) run d) in
    let born : version_in u.0 zs ≡ Some v = version_is (version_in u.0 zs) v dated in
    let kind : tree_kind_at s u.0 ≡ Some Strict = ap (tree_kind_at s) ut ∙ kind_of_strict s t strict in
    let turns : (node_in s (e ∷ past) p).turns ≡ raised_to v c.node.turns =
    ap (λ (x : Core). x.node.turns) d.core
    ∙ ap (λ (b : Body). (core_row s p c r.from.0 b).state.node.turns) is
    ∙ ap (λ (o : Option TreeKind). (core_by_kind s p r.from.0 u (SubLetter u j v) o c).state.node.turns) kind in
    record {
      version = v;
      born = ap (version_in t) (places_more e past) ∙ subst (λ (n : ℕ). version_in n zs ≡ Some v) ut born;
      most = subst (λ (q : ℕ). v.0 ≤ (node_in s (e ∷ past) q).turns.update.0) (sym node)
          (omega (arith, ap (λ (x : Turns). x.update.0) turns, (raises c.node.turns v).1));
    }

at_letter : (s : ScriptData) (past : List Entry) (e : Entry) (p : ℕ) (r : Letter) (t k : ℕ) (b : Body) → IsValid s → IsStepRun s (e ∷ past)
    → Does s past e p r → is_strict_at s t ≡ true → r.body ≡ b → 1 ≤ asks t k b → node_of s t k ≡ p → IsRaised s (e ∷ past) t k
at_letter s past e p r t k (Root u) valid run d strict is some node =
    at_root s past e p r t k u valid run d strict node is (both u.0 t 0 k ((u.0 == t) && (0 == k)) refl some).0
at_letter s past e p r t k (SubLetter u j v) valid run d strict is some node =
    at_sub s past e p r t k u j v valid run d strict node is (both u.0 t j.0 k ((u.0 == t) && (j.0 == k)) refl some).0
at_letter s past e p r t k Go valid run d strict is some node = absurd (omega (arith, some))
at_letter s past e p r t k _ valid run d strict is some node = absurd (omega (arith, some))

one_asked : (t k : ℕ) (b : Body) → 1 ≤ asks t k b → asks t k b ≡ 1
one_asked t k (Root u) some = by ((u.0 == t) && (0 == k)) some where
  by : (test : Bool) → 1 ≤ one_if test → one_if test ≡ 1
  by true le = refl
  by false le = absurd (omega (arith, le))
one_asked t k (SubLetter u j v) some = by ((u.0 == t) && (j.0 == k)) some where
  by : (test : Bool) → 1 ≤ one_if test → one_if test ≡ 1
  by true le = refl
  by false le = absurd (omega (arith, le))
one_asked t k Go some = absurd (omega (arith, some))
one_asked t k _ some = absurd (omega (arith, some))

turned_now : (s : ScriptData) (past : List Entry) (e : Entry) (t k : ℕ) → IsValid s → IsStepRun s (e ∷ past) → is_strict_at s t ≡ true
    → 1 ≤ tally (has_turn t k) e.acts → Case s past e → IsRaised s (e ∷ past) t k
turned_now s past e t k valid run strict some (NodeDoes p r d) =
    let c : Core = (keeping_in s past p).core in
    let named : is_named s p r.from.0 r.body ≡ true = apt_named s p c r d.brings.apt in
    let asked : 1 ≤ asks t k r.body =
    omega (
      arith,
      some,
      ap (λ (xs : List Act). tally (has_turn t k) xs) d.acts,
      core_turns s p r.from.0 t k r.body c d.brings.below named,
    ) in
    at_letter s past e p r t k r.body valid run d strict refl asked
    (asked_node s p r.from.0 t k r.body (one_asked t k r.body asked) named)
turned_now s past e t k valid run strict some (NodeKeeps p r kept d) =
    absurd (omega (
      arith,
      some,
      ap (λ (xs : List Act). tally (has_turn t k) xs) d.acts,
      keeping_acts (has_turn t k) s (keeping_in s past p).core r.body kept
          (record { turned = λ v. refl; parked = λ u j i x. refl; waits = λ u v x. refl }) d.keeps,
    ))
turned_now s past e t k valid run strict some (Coordinates at made) =
    absurd (omega (arith, some, ap (λ (xs : List Act). tally (has_turn t k) xs) made.acts))
turned_now s past e t k valid run strict some (Submits at says) =
    absurd (omega (
      arith,
      some,
      ap (λ (xs : List Act). tally (has_turn t k) xs) says.1,
      client_acts (has_turn t k) s (client_in s past) e.took.body refl,
    ))

-- in every run
raised_run : (s : ScriptData) (past : List Entry) (t k : ℕ) → IsValid s → IsStepRun s past → is_strict_at s t ≡ true
    → node_of s t k < s.nodes → 1 ≤ turns past t k → IsRaised s past t k
raised_run s [] t k valid run strict lt some = absurd (omega (arith, some))
raised_run s (e ∷ past) t k valid run strict lt some =
    by (turns past t k) refl (λ had. later s past e t k valid run lt (raised_run s past t k valid run.1 strict lt had)) where
      by : (n : ℕ) → turns past t k ≡ n → (1 ≤ turns past t k → IsRaised s (e ∷ past) t k) → IsRaised s (e ∷ past) t k
      by zero is old =
          turned_now s past e t k valid run strict (omega (arith, some, is)) (case s past e run.0 (all_apt s (e ∷ past) valid run).0)
      by (suc n) is old = old (omega (arith, is))

-- Where a commit comes, each subtransaction of its tree has had its turn; so one at this node.
record SubHere (p : ℕ) (subs : List Sub) : Type 0 where
  number : ℕ
  sub : Sub
  at : slice_get subs number ≡ Some sub
  node : sub.node.0 ≡ p

sub_here : (subs : List Sub) (p : ℕ) → visits subs p ≡ true → SubHere p subs
sub_here [] p is = absurd (cc is)
sub_here (x ∷ xs) p is = by (x.node.0 == p) refl is (λ later. sub_here xs p later) where
  by : (test : Bool) → (x.node.0 == p) ≡ test → (test || visits xs p) ≡ true → (visits xs p ≡ true → SubHere p xs) → SubHere p (x ∷ xs)
  by true here it rest = record { number = 0; sub = x; at = refl; node = grind (arith, nat_tests, here) }
  by false here it rest =
      let found = rest it in record { number = suc found.number; sub = found.sub; at = found.at; node = found.node }

all_turned : (s : ScriptData) (past : List Entry) (t k : ℕ) → k < length (subs_at s t) → 1 ≤ decided_any past t → Once s past t
    → StageAt s past t → 1 ≤ turns past t k
all_turned s past t k lt some o (Unborn u) = absurd (omega (arith, some, o.unborn u.root))
all_turned s past t k lt some o (Gathers h g) = absurd (omega (arith, some, o.opened h g.home))
all_turned s past t k lt some o (Holds h g) = omega (arith, g.all.turned k lt)
all_turned s past t k lt some o (Answered g) = omega (arith, g.all.turned k lt)

same_version : (found : Option Version) (v w : Version) → found ≡ Some v → found ≡ Some w → v.0 ≡ w.0
same_version found v w is its = let same : Some v ≡ Some w = sym is ∙ its in cc same

-- a commit is of a version that its node updates, or of an earlier one
pub commits_below : (s : ScriptData) (past : List Entry) (e : Entry) (p : ℕ) (r : Letter) (t : TreeNo) (v : Version) → IsValid s
    → IsStepRun s (e ∷ past) → Does s past e p r → r.body ≡ Decide t v true → v.0 ≤ (node_in s past p).turns.update.0
commits_below s past e p r t v valid run d is =
    let c : Core = (keeping_in s past p).core in
    let apt = all_apt s past valid run.1 in
    let named : is_named s p r.from.0 (Decide t v true) ≡ true = ap (is_named s p r.from.0) (sym is) ∙ apt_named s p c r d.brings.apt in
    let rest : Bool = visits (subs_at s t.0) p && nat_lt r.from.0 s.nodes in
    let strict : is_strict_at s t.0 ≡ true = left_true (is_strict_at s t.0) rest named in
    let visited : visits (subs_at s t.0) p ≡ true =
    left_true (visits (subs_at s t.0) p) (nat_lt r.from.0 s.nodes) (right_true (is_strict_at s t.0) rest named) in
    let it = strict_there s t.0 strict in
    let there = get_below s.trees t.0 it.tree it.at in
    let b = brings_to s past e p r d.brings in
    let waits : 1 ≤ decisions_to s past t.0 true p = decision_waits s past r p t v (brought_outstanding s past e p r b run.0) d.brings.to is in
    let made : 1 ≤ decided_as past t.0 true =
    omega (arith, waits, applied_where_decided s past t.0 p true valid apt run.1 there d.brings.below visited) in
    let here = sub_here (subs_at s t.0) p visited in
    let own : node_of s t.0 here.number ≡ here.sub.node.0 = rw (here.at, sub_at, node_of) refl in
    let node : node_of s t.0 here.number ≡ p = own ∙ here.node in
    let turned : 1 ≤ turns past t.0 here.number =
    all_turned s past t.0 here.number (get_below (subs_at s t.0) here.number here.sub here.at) (omega (arith, made))
    (once_in_run s past t.0 valid apt run.1 there) (stages_of_trees s past valid apt run.1 t.0 there) in
    let raised = raised_run s past t.0 here.number valid run.1 strict (omega (arith, node, d.brings.below)) turned in
    let carries : CarriesVersion (before past) (Decide t v true) =
    subst (CarriesVersion (before past)) is
    (each_of_brought (λ (l : Letter). CarriesVersion (before past) l.body) s past e p r b run.0 (letters_carry_versions s past valid apt run.1)) in
    let number : raised.version.0 ≡ v.0 = same_version (version_in t.0 (before past)) raised.version v raised.born carries in
    omega (arith, number, raised.most, ap (λ (q : ℕ). (node_in s past q).turns.update.0) node)
