-- In every run of every valid script a transaction of a version of which nothing is outstanding is complete: each of
-- its subtransactions has had its turn, and what was decided of a strict transaction was applied at each node that it
-- visits.
use Rattle.std.proofs.Common.{◌≡◌, ◌⊎◌, inl, inr, ℕ, zero, suc, ◌+◌, ◌<◌, ◌≤◌, ◌==◌, ◌&&◌, ◌||◌, Bool, true, false, not, List, [], ◌∷◌, length, reverse, refl, sym, ap, subst, ◌∙◌, arith, Option, Some, None}
use Rattle.std.specs.Prelude.{if◌then◌else◌, is_some, map, slice_get}
use Rattle.std.proofs.lemmas.Bool.{and_from}
use Rattle.std.proofs.lemmas.Bool.Decides.{nat_tests}
use Rattle.tv_base.specs.declared.numbers.Version.{Version}
use Rattle.tv_base.proofs.Chosen.{if_within}
use Rattle.script_parts.proofs.SubsOf.{has_root, home_below, sub_node_below}
use Rattle.letter_types.specs.declared.acts.Act.{Act}
use Rattle.letter_types.specs.declared.acts.Act.TheVariants as acts
use Rattle.letter_types.specs.declared.bodies.Body.{Body}
use Rattle.letter_types.specs.declared.bodies.Body.TheVariants.{Go, Root, Sub as SubLetter, Done, Decide, Decided}
use Rattle.letter_types.specs.declared.entries.Entry.{Entry}
use Rattle.letter_types.specs.declared.entries.Letter.{Letter}
use Rattle.tree_home.specs.Homes.{Gets, missing_count}
use Rattle.tx_trees.specs.ScriptData.{ScriptData, node_of, sub_at, subs_at, visits}
use Rattle.tx_trees.specs.Valid.{IsValid}
use Rattle.tx_trees.specs.declared.parts.Sub.{Sub}
use Rattle.tx_trees.specs.declared.parts.Tree.{Tree}
use Rattle.board_rules.specs.Histories.{IsWhole, Place, all_applied, all_done, applies, is_complete, is_strict_tree, places_at, places_of, version_in, version_of, was_applied}
use Rattle.board_rules.proofs.Places.{places_more}
use Rattle.world_model.specs.Counts.{Each, one_if, tally}
use Rattle.world_model.specs.Kept.{kept_by, outstanding}
use Rattle.world_model.specs.Named.{is_strict_at, tree_kind_at}
use Rattle.world_model.specs.Runs.{IsStepRun, in_flight}
use Rattle.world_model.proofs.Bags.{tally-append, one_if_and, tally_most}
use Rattle.world_model.proofs.Scripts.{get_below, sub_here, sub_there}
use Rattle.world_model.specs.Meant.{IsLetterMeant, IsMeant}
use Rattle.world_model.proofs.Meant.{letters_are_meant}
use Rattle.world_model.proofs.MeantRows.{strict_below}
use Rattle.advance_laws.specs.Balance.{goes_between, version_is}
use Rattle.advance_laws.specs.Quiet.{IsSilent}
use Rattle.advance_laws.proofs.governed.Brought.{sender_below}
use Rattle.tree_laws.specs.Applied.{applied_at, applies_as, decisions_to, tells_decision}
use Rattle.tree_laws.specs.Carried.{CarriesVersion}
use Rattle.tree_laws.specs.Dids.{asks, births, letters_asking, notices, tells_done}
use Rattle.tree_laws.specs.Stages.{IsAnswered, StageAt, Answered, Gathers, Holds, Unborn, decides, decisions, is_noted}
use Rattle.tree_laws.specs.Turns.{turns}
use Rattle.tree_laws.proofs.histories.Acts.{counted_any}
use Rattle.tree_laws.proofs.decided.AptApplied.{applied_where_decided}
use Rattle.tree_laws.proofs.decided.AptDecided.{decided_once}
use Rattle.tree_laws.proofs.decided.AptDecisions.{letters_carry_versions}
use Rattle.tree_laws.proofs.stages.AptStagesRun.{stages_of_trees}
use Rattle.tree_laws.proofs.apt.AptTurns.{births_are_turns, parent_before, sub_has_turns}
use Rattle.tree_laws.proofs.apt.AptVersions.{before}
use Rattle.tree_laws.proofs.loads.Counts.{zero_or}
use Rattle.tree_laws.proofs.homes.Counted.{all_done_of, births_in, dids_in, unborn, was_done_of}
use Rattle.tree_laws.proofs.apt.AptMakes.{visits_there}
use Rattle.run_laws.proofs.each_tree.EveryApt.{all_apt}
use Rattle.run_laws.proofs.each_tree.EveryDecided.{decided_when_gone}
use Rattle.run_laws.proofs.each_tree.EveryDid.{dids_are_turns}

-- a Sub, a notice, a decision or an acknowledgement of tree t
abbrev counts_for : ℕ → Body → ℕ
counts_for t (SubLetter u k v) = one_if (u.0 == t)
counts_for t (Done u k v notice) = one_if (u.0 == t)
counts_for t (Decide u v commit) = one_if (u.0 == t)
counts_for t (Decided u v) = one_if (u.0 == t)
counts_for t Go = 0
counts_for t _ = 0

-- Where nothing counted of a version is outstanding, none of these is of a tree of that version.
counted_here : (v : ℕ) (l : Letter) → version_is v l.body ≡ true → goes_between v l.from.0 l.to.0 l ≡ 1
counted_here v l is = rw is (grind (arith, nat_tests))

-- a counted letter goes to a node
addressee_below : (s : ScriptData) (from to v : ℕ) (body : Body) → IsValid s → IsMeant s from to body → version_is v body ≡ true → to < s.nodes
addressee_below s from to v (SubLetter t k w) valid meant is = omega (arith, meant.node, sub_node_below s t.0 k.0 valid meant.sub)
addressee_below s from to v (Done t k w notice) valid meant is = omega (arith, meant.home, home_below s t.0 valid meant.tree)
addressee_below s from to v (Decide t w commit) valid meant is = meant.visited.below
addressee_below s from to v (Decided t w) valid meant is =
    omega (arith, meant.home, home_below s t.0 valid (strict_below s t.0 meant.strict))
addressee_below s from to v Go valid meant is = absurd (cc is)
addressee_below s from to v _ valid meant is = absurd (cc is)

-- no letter of version v
abbrev NoneOf : ScriptData → ℕ → List Letter → Type 0
NoneOf s v ls = (p q : ℕ) → p < s.nodes → q < s.nodes → tally (goes_between v p q) ls ≡ 0

not_counted : (s : ScriptData) (v : ℕ) (l : Letter) (ls : List Letter) → IsValid s → IsLetterMeant s l → NoneOf s v (l ∷ ls)
    → version_is v l.body ≡ true → ⊥
not_counted s v l ls valid meant none is =
    let from = sender_below s l.from.0 l.to.0 v l.body valid meant is in
    let to = addressee_below s l.from.0 l.to.0 v l.body valid meant is in
    omega (arith, counted_here v l is, none l.from.0 l.to.0 from to)

-- a letter of tree u with its version w
of_tree_by : (xs : List Place) (t u : ℕ) (v w : Version) (b : Body) → version_is v.0 b ≡ (w.0 == v.0) → version_in t xs ≡ Some v
    → version_in u xs ≡ Some w → (version_is v.0 b ≡ true → ⊥) → (test : Bool) → (u == t) ≡ test → one_if (u == t) ≡ 0
of_tree_by xs t u v w b is born has none false at = ap one_if at
of_tree_by xs t u v w b is born has none true at =
    let ut : u ≡ t = grind (arith, nat_tests) in
    let same : Some w ≡ Some v = sym (subst (λ (m : ℕ). version_in m xs ≡ Some w) ut has) ∙ born in
    let wv : w.0 ≡ v.0 = cc same in
    absurd (none (is ∙ grind (arith, nat_tests)))

counts_none : (xs : List Place) (t : ℕ) (v : Version) (b : Body) → version_in t xs ≡ Some v → CarriesVersion xs b
    → (version_is v.0 b ≡ true → ⊥) → counts_for t b ≡ 0
counts_none xs t v (SubLetter u k w) born has none = of_tree_by xs t u.0 v w (SubLetter u k w) refl born has none (u.0 == t) refl
counts_none xs t v (Done u k w notice) born has none = of_tree_by xs t u.0 v w (Done u k w notice) refl born has none (u.0 == t) refl
counts_none xs t v (Decide u w commit) born has none = of_tree_by xs t u.0 v w (Decide u w commit) refl born has none (u.0 == t) refl
counts_none xs t v (Decided u w) born has none = of_tree_by xs t u.0 v w (Decided u w) refl born has none (u.0 == t) refl
counts_none xs t v Go born has none = refl
counts_none xs t v _ born has none = refl

none_counts : (s : ScriptData) (xs : List Place) (t : ℕ) (v : Version) (ls : List Letter) → IsValid s → version_in t xs ≡ Some v
    → Each (λ (l : Letter). CarriesVersion xs l.body) ls → Each (IsLetterMeant s) ls → NoneOf s v.0 ls
    → tally (λ (l : Letter). counts_for t l.body) ls ≡ 0
none_counts s xs t v [] valid born has meant none = refl
none_counts s xs t v (l ∷ ls) valid born has meant none =
    omega (
      arith,
      counts_none xs t v l.body born has.0 (not_counted s v.0 l ls valid meant.0 none),
      none_counts s xs t v ls valid born has.1 meant.1 (λ p q pl ql. omega (arith, none p q pl ql)),
    )

abbrev Counted : ScriptData → List Entry → ℕ → ℕ
Counted s past t = tally (λ (l : Letter). counts_for t l.body) (outstanding s past)

none_counted : (s : ScriptData) (past : List Entry) (t : ℕ) (v : Version) → IsValid s → IsStepRun s past → IsSilent s past v.0
    → version_in t (before past) ≡ Some v → Counted s past t ≡ 0
none_counted s past t v valid run silent born =
    none_counts s (before past) t v (outstanding s past) valid born (letters_carry_versions s past valid (all_apt s past valid run) run)
    (letters_are_meant s past valid run) silent

-- So nothing that counts these alone counts a letter.
asks_less : (t k : ℕ) (b : Body) → 0 < k → asks t k b ≤ counts_for t b
asks_less t k (Root u) some =
    let other : (0 == k) ≡ false = grind (arith, nat_tests) in
    let none : one_if ((u.0 == t) && (0 == k)) ≡ 0 = grind (arith, nat_tests) in
    omega (arith, none)
asks_less t k (SubLetter u j v) some = one_if_and (u.0 == t) (j.0 == k)
asks_less t k Go some = omega arith
asks_less t k _ some = omega arith

tells_less : (t k : ℕ) (b : Body) → tells_done t k b ≤ counts_for t b
tells_less t k (Done u j v notice) = one_if_and (u.0 == t) (j.0 == k)
tells_less t k Go = omega arith
tells_less t k _ = omega arith

decides_less : (t : ℕ) (b : Body) → decides t b ≤ counts_for t b
decides_less t (Decide u v commit) = omega arith
decides_less t (Decided u v) = omega arith
decides_less t Go = omega arith
decides_less t _ = omega arith

decision_less : (t : ℕ) (b : Bool) (body : Body) → tells_decision t b body ≤ counts_for t body
decision_less t true (Decide u v commit) = one_if_and (u.0 == t) commit
decision_less t false (Decide u v commit) = one_if_and (u.0 == t) (not commit)
decision_less t true Go = omega arith
decision_less t false Go = omega arith
decision_less t true _ = omega arith
decision_less t false _ = omega arith

flight_less : (s : ScriptData) (past : List Entry) (t : ℕ) (f : Letter → ℕ) → ((l : Letter) → f l ≤ counts_for t l.body)
    → tally f (in_flight s past) ≤ Counted s past t
flight_less s past t f le =
    let g : Letter → ℕ = λ l. counts_for t l.body in
    omega (arith, tally_most f g (in_flight s past) le, tally-append g (in_flight s past) (kept_by s past s.nodes))

-- Each subtransaction has had its turn.
born_once : (past : List Entry) (t n : ℕ) (v : Version) → version_in t (before past) ≡ Some v → births past t ≡ n → 1 ≤ n
born_once past t zero v born is =
    let none : version_in t (before past) ≡ None = unborn t (before past) (births_in past t ∙ is) in absurd (cc (born, none))
born_once past t (suc n) v born is = omega arith

turned_by : (s : ScriptData) (past : List Entry) (t k : ℕ) → IsValid s → IsStepRun s past → t < length s.trees
    → k < length (subs_at s t) → 1 ≤ turns past t 0 → ((j : ℕ) → 0 < j → letters_asking s past t j ≡ 0)
    → ((j : ℕ) → j < k → j < length (subs_at s t) → 1 ≤ turns past t j) → (k ≡ 0) ⊎ (0 < k) → 1 ≤ turns past t k
turned_by s past t k valid run lt less root none earlier (inl is) = subst (λ (j : ℕ). 1 ≤ turns past t j) (sym is) root
turned_by s past t k valid run lt less root none earlier (inr some) =
    let c = sub_there s t k lt less in
    let up : c.sub.parent.0 < k = parent_before s t k c.sub valid (sub_here s t k c) some in
    omega (
      arith,
      sub_has_turns s past t k c valid (all_apt s past valid run) run some,
      none k some,
      earlier c.sub.parent.0 up (omega (arith, up, less)),
    )

turned_below : (s : ScriptData) (past : List Entry) (n t k : ℕ) → IsValid s → IsStepRun s past → t < length s.trees
    → k < length (subs_at s t) → 1 ≤ turns past t 0 → ((j : ℕ) → 0 < j → letters_asking s past t j ≡ 0) → k < n → 1 ≤ turns past t k
turned_below s past zero t k valid run lt less root none small = absurd (omega arith)
turned_below s past (suc n) t k valid run lt less root none small =
    turned_by s past t k valid run lt less root none
    (λ j up below. turned_below s past n t j valid run lt below root none (omega (arith, small, up))) (zero_or k)

-- A tree with nothing outstanding is answered.
some_missing : (ns : List (Option Gets)) → ((k : ℕ) → k < length ns → is_noted (slice_get ns k) ≡ 1) → missing_count ns ≡ 0
some_missing [] all = refl
some_missing (None ∷ ns) all = absurd (omega (arith, all 0 (omega arith)))
some_missing (Some values ∷ ns) all = some_missing ns (λ k lt. all (suc k) (omega (arith, lt)))

answered_by : (s : ScriptData) (past : List Entry) (t : ℕ) → ((k : ℕ) → k < length (subs_at s t) → 1 ≤ turns past t k)
    → 0 < length (subs_at s t) → ((k : ℕ) → notices s past t k ≡ 0) → decisions s past t ≡ 0 → StageAt s past t → IsAnswered s past t
answered_by s past t all some notes none (Unborn u) = absurd (omega (arith, all 0 some, u.root))
answered_by s past t all some notes none (Gathers h g) =
    let each : (k : ℕ) → k < length h.notices → is_noted (slice_get h.notices k) ≡ 1 = λ k lt.
    let less : k < length (subs_at s t) = omega (arith, lt, g.places) in
    noted_one (slice_get h.notices k) (omega (arith, all k less, g.notes k less, notes k)) in
    absurd (omega (arith, g.missing, some_missing h.notices each)) where
      noted_one : (o : Option (Option Gets)) → 1 ≤ is_noted o → is_noted o ≡ 1
      noted_one None le = absurd (omega (arith, le))
      noted_one (Some None) le = absurd (omega (arith, le))
      noted_one (Some (Some values)) le = refl
answered_by s past t all some notes none (Holds h g) = absurd (omega (arith, none, g.decisions, g.waits))
answered_by s past t all some notes none (Answered a) = a

-- in every run: where its version is silent
pub answered_when_silent : (s : ScriptData) (past : List Entry) (t : ℕ) (v : Version) → IsValid s → IsStepRun s past → t < length s.trees
    → IsSilent s past v.0 → version_in t (places_of (reverse past)) ≡ Some v → IsAnswered s past t
answered_when_silent s past t v valid run lt silent born =
    let apt = all_apt s past valid run in
    let none = none_counted s past t v valid run silent born in
    let asked : (j : ℕ) → 0 < j → letters_asking s past t j ≡ 0 = λ j some.
    omega (
      arith,
      none,
      tally_most (λ (l : Letter). asks t j l.body) (λ (l : Letter). counts_for t l.body) (outstanding s past) (λ l. asks_less t j l.body some),
    ) in
    let root : 1 ≤ turns past t 0 = omega (arith, born_once past t (births past t) v born refl, births_are_turns s past t valid apt run) in
    answered_by s past t (λ k less. turned_below s past (k + 1) t k valid run lt less root asked (omega arith)) (has_root s t valid lt)
    (λ k. omega (arith, none, flight_less s past t (λ (l : Letter). tells_done t k l.body) (λ l. tells_less t k l.body)))
    (omega (arith, none, flight_less s past t (λ (l : Letter). decides t l.body) (λ l. decides_less t l.body)))
    (stages_of_trees s past valid apt run t lt)

-- What was decided of a strict tree was applied at each node that it visits.
pub applied_when_silent : (s : ScriptData) (past : List Entry) (t q : ℕ) (v : Version) → IsValid s → IsStepRun s past → t < length s.trees
    → IsSilent s past v.0 → version_in t (places_of (reverse past)) ≡ Some v → is_strict_at s t ≡ true → q < s.nodes
    → visits (subs_at s t) q ≡ true → applied_at past t true q + applied_at past t false q ≡ 1
applied_when_silent s past t q v valid run lt silent born strict below is =
    let apt = all_apt s past valid run in
    let none = none_counted s past t v valid run silent born in
    let a = answered_when_silent s past t v valid run lt silent born in
    let told : (b : Bool) → decisions_to s past t b q ≡ 0 = λ b.
    omega (
      arith,
      none,
      flight_less s past t (λ (l : Letter). if l.to.0 == q then tells_decision t b l.body else 0)
          (λ l. if_within (l.to.0 == q) (tells_decision t b l.body) (counts_for t l.body) (decision_less t b l.body)),
    ) in
    omega (
      arith,
      told true,
      told false,
      applied_where_decided s past t q true valid apt run lt below is,
      applied_where_decided s past t q false valid apt run lt below is,
      decided_once s past t valid apt run lt,
      decided_when_gone s past t valid run lt strict (a.all.turned 0 (has_root s t valid lt)) a.home,
    )

-- What is counted of applications is what a history says.
abbrev pub applies_here : ℕ → ℕ → Place → ℕ
applies_here t q x = one_if ((x.node == q) && applies t x.act)

applies_is : (t : ℕ) (a : Act) → applies_as t true a + applies_as t false a ≡ one_if (applies t a)
applies_is t (acts.Applied u commit) = by (u.0 == t) commit where
  by : (b c : Bool) → one_if (b && c) + one_if (b && not c) ≡ one_if b
  by true true = refl
  by true false = refl
  by false c = refl
applies_is t acts.Finished = refl
applies_is t _ = refl

applied_then : (t q node : ℕ) (does : List Act) (test : Bool) → (node == q) ≡ test
    → tally (applies_here t q) (map (λ (a : Act). record { node = node; act = a }) does)
    ≡ (if node == q then tally (applies_as t true) does else 0) + (if node == q then tally (applies_as t false) does else 0)
applied_then t q node [] true is = rw is refl
applied_then t q node [] false is = rw is refl
applied_then t q node (a ∷ does) true is =
    let rest = applied_then t q node does true is in
    let here : one_if ((node == q) && applies t a) ≡ one_if (applies t a) = rw is refl in
    let left : (b : Bool) → (if node == q then tally (applies_as t b) does else 0) ≡ tally (applies_as t b) does = λ b. rw is refl in
    let more : (b : Bool) → (if node == q then tally (applies_as t b) (a ∷ does) else 0) ≡ tally (applies_as t b) (a ∷ does) = λ b. rw is refl in
    omega (arith, rest, here, left true, left false, more true, more false, applies_is t a)
applied_then t q node (a ∷ does) false is =
    let rest = applied_then t q node does false is in
    let here : one_if ((node == q) && applies t a) ≡ 0 = rw is refl in
    let left : (b : Bool) → (if node == q then tally (applies_as t b) does else 0) ≡ 0 = λ b. rw is refl in
    let more : (b : Bool) → (if node == q then tally (applies_as t b) (a ∷ does) else 0) ≡ 0 = λ b. rw is refl in
    omega (arith, rest, here, left true, left false, more true, more false)

pub applied_in : (past : List Entry) (t q : ℕ) → tally (applies_here t q) (places_of (reverse past)) ≡ applied_at past t true q + applied_at past t false q
applied_in [] t q = refl
applied_in (e ∷ past) t q =
    omega (
      arith,
      ap (λ (xs : List Place). tally (applies_here t q) xs) (places_more e past),
      tally-append (applies_here t q) (places_of (reverse past)) (places_at e),
      applied_in past t q,
      applied_then t q e.actor.0 e.acts (e.actor.0 == q) refl,
    )

pub was_applied_of : (past : List Entry) (t q : ℕ) → applied_at past t true q + applied_at past t false q ≡ 1
    → was_applied t q (places_of (reverse past)) ≡ true
was_applied_of past t q one =
    counted_any (applies_here t q) (λ (x : Place). (x.node == q) && applies t x.act) (places_of (reverse past)) (λ x. refl)
    (omega (arith, applied_in past t q, one))

-- So the tree is whole.
visits_more : (x : Sub) (xs : List Sub) (q : ℕ) → visits xs q ≡ true → visits (x ∷ xs) q ≡ true
visits_more x xs q is = or_right (x.node.0 == q) (visits xs q) is where
  or_right : (a b : Bool) → b ≡ true → (a || b) ≡ true
  or_right true b so = refl
  or_right false b so = so

visits_first : (x : Sub) (xs : List Sub) → visits (x ∷ xs) x.node.0 ≡ true
visits_first x xs = let here : (x.node.0 == x.node.0) ≡ true = grind (arith, nat_tests) in rw here refl

pub all_applied_of : (t : ℕ) (subs : List Sub) (xs : List Place) → ((k : ℕ) (x : Sub) → slice_get subs k ≡ Some x → was_applied t x.node.0 xs ≡ true)
    → all_applied t subs xs ≡ true
all_applied_of t [] xs all = refl
all_applied_of t (x ∷ subs) xs all =
    and_from (was_applied t x.node.0 xs) (all_applied t subs xs) (all 0 x refl) (all_applied_of t subs xs (λ k y at. all (suc k) y at))

node_at : (s : ScriptData) (t k : ℕ) (x : Sub) → IsValid s → sub_at s t k ≡ Some x → x.node.0 < s.nodes
node_at s t k x valid at =
    let same : node_of s t k ≡ x.node.0 = rw (at, node_of) refl in
    omega (arith, same, sub_node_below s t k valid (get_below (subs_at s t) k x at))

-- the kind of a tree, by both its tests
pub strict_is : (s : ScriptData) (t : ℕ) (found : Option Tree) → slice_get s.trees t ≡ found → is_strict_tree s t ≡ is_strict_at s t
strict_is s t None is = rw (is, is_strict_tree, tree_kind_at, is_strict_at) refl
strict_is s t (Some tree) is = rw (is, is_strict_tree, tree_kind_at, is_strict_at) refl

complete_by : (s : ScriptData) (past : List Entry) (t : ℕ) (v : Version) (test : Bool) → IsValid s → IsStepRun s past → t < length s.trees
    → IsSilent s past v.0 → version_in t (places_of (reverse past)) ≡ Some v → is_strict_at s t ≡ test
    → is_complete s (places_of (reverse past)) t ≡ true
complete_by s past t v true valid run lt silent born strict =
    let xs : List Place = places_of (reverse past) in
    let all : all_applied t (subs_at s t) xs ≡ true =
    all_applied_of t (subs_at s t) xs
    (λ k x at.
    was_applied_of past t x.node.0
    (applied_when_silent s past t x.node.0 v valid run lt silent born strict (node_at s t k x valid at) (visits_there (subs_at s t) k x at))) in
    rw (strict_is s t (slice_get s.trees t) refl ∙ strict) all
complete_by s past t v false valid run lt silent born plain =
    let xs : List Place = places_of (reverse past) in
    let a = answered_when_silent s past t v valid run lt silent born in
    let all : all_done t (length (subs_at s t)) xs ≡ true =
    all_done_of t (length (subs_at s t)) xs
    (λ k less.
    was_done_of t k xs (omega (arith, dids_in past t k, dids_are_turns s past t k valid run plain, a.all.turned k less))) in
    rw (strict_is s t (slice_get s.trees t) refl ∙ plain) all

pub whole_when_silent : (s : ScriptData) (past : List Entry) (t : ℕ) (v : Version) → IsValid s → IsStepRun s past → t < length s.trees
    → IsSilent s past v.0 → version_in t (places_of (reverse past)) ≡ Some v → IsWhole s (reverse past) t
whole_when_silent s past t v valid run lt silent born =
    and_from (is_some (version_of (reverse past) t)) (is_complete s (places_of (reverse past)) t)
    (ap (λ (o : Option Version). is_some o) born) (complete_by s past t v (is_strict_at s t) valid run lt silent born refl)
