-- In runs of enabled messages, of every script: each subtransaction has at most one turn, and a transaction is born if
-- its root has it.
use Rattle.std.proofs.Common.{◌≡◌, ◌⊎◌, inl, inr, ℕ, zero, suc, ◌+◌, ◌<◌, ◌≤◌, ◌==◌, ◌&&◌, Bool, true, false, List, ◌∷◌, length, refl, sym, ap, subst, ◌∙◌, arith, Option, Some, None, []}
use Rattle.std.specs.Prelude.{slice_get}
use Rattle.std.proofs.lemmas.Bool.Decides.{nat_tests}
use Rattle.tv_base.specs.declared.numbers.SubNo.{SubNo}
use Rattle.tv_base.specs.declared.numbers.TreeNo.{TreeNo}
use Rattle.tv_base.specs.declared.numbers.Version.{Version}
use Rattle.tv_base.proofs.ByPlace.{get_some}
use Rattle.letter_types.specs.declared.acts.Act.TheVariants as acts
use Rattle.letter_types.specs.declared.bodies.Body.{Body}
use Rattle.letter_types.specs.declared.bodies.Body.TheVariants.{Go, Root, Sub as SubLetter}
use Rattle.letter_types.specs.declared.bodies.Notice.{Notice}
use Rattle.letter_types.specs.declared.bodies.Notice.TheVariants.{Did as DidNotice, Yes, No}
use Rattle.letter_types.specs.declared.entries.Entry.{Entry}
use Rattle.letter_types.specs.declared.entries.Letter.{Letter}
use Rattle.tx_trees.proofs.SubsOf.{all_at, found_subs, no_subs}
use Rattle.tx_trees.specs.ScriptData.{ScriptData, home_of, sub_at, subs_at}
use Rattle.tx_trees.specs.Valid.{AreSubs, IsTree, IsValid}
use Rattle.tx_trees.specs.declared.parts.ItemRow.{ItemRow}
use Rattle.tx_trees.specs.declared.parts.Sub.{Sub}
use Rattle.tx_trees.specs.declared.parts.Tree.{Tree}
use Rattle.tx_trees.specs.declared.parts.TreeKind.{TreeKind}
use Rattle.world_model.specs.AllApt.{AllApt}
use Rattle.world_model.specs.Children.{done_letter, sub_letters}
use Rattle.world_model.specs.Core.{Core}
use Rattle.world_model.specs.Counts.{one_if, tally}
use Rattle.world_model.specs.Named.{is_named}
use Rattle.world_model.specs.Notices.{act_of}
use Rattle.world_model.specs.Runs.{IsStepRun, MayFollow, client_in}
use Rattle.world_model.specs.Strict.{core_row}
use Rattle.world_model.proofs.Bags.{tally-append}
use Rattle.world_model.proofs.Flows.{outstanding_flow}
use Rattle.world_model.proofs.Outstanding.{outstanding_first}
use Rattle.world_model.proofs.Scripts.{SubAt, get_below, sub_here}
use Rattle.world_model.proofs.Sends.{on}
use Rattle.tree_laws.specs.Dids.{asks, is_born, is_row_of, letters_asking}
use Rattle.tree_laws.specs.Turns.{BirthsAreTurns, RootsHaveTurns, SubsHaveTurns, TurnsComeOnce, has_turn, turns}
use Rattle.tree_laws.proofs.apt.AptSteps.{Enters, enters, strays}
use Rattle.tree_laws.proofs.loads.Counts.{zero_or}
use Rattle.tree_laws.proofs.homes.Sent.{children, children_apart, no_root, other_tree, rooted_once, roots_alone, roots_of_rows, tally_take_le}
use Rattle.tree_laws.proofs.histories.Turns.{OfTreeActs, OfTreeLetters, core_works, done_for, is_tree_letter, sent_for, work_version}

-- Numbers of a tree's letters and acts.
pub asks_of : (t k : ℕ) → OfTreeLetters (on (asks t k))
asks_of t k o is = by o.body is where
  by : (b : Body) → is_tree_letter b ≡ false → asks t k b ≡ 0
  by (Root u) none = absurd (cc none)
  by (SubLetter u j v) none = absurd (cc none)
  by Go none = refl
  by _ none = refl

pub turn_of : (t k : ℕ) → OfTreeActs (has_turn t k)
turn_of t k (acts.Did u j values) none = absurd (cc none)
turn_of t k (acts.Voted u j vote) none = absurd (cc none)
turn_of t k acts.Finished none = refl
turn_of t k _ none = refl

pub born_of : (t : ℕ) → OfTreeActs (is_born t)
born_of t (acts.Born u v) none = absurd (cc none)
born_of t acts.Finished none = refl
born_of t _ none = refl

-- What a node does for a letter: the letter's subtransaction has its turn.
told_turn : (t k : ℕ) (u : TreeNo) (j : SubNo) (notice : Notice) → has_turn t k (act_of u j notice) ≡ one_if ((u.0 == t) && (j.0 == k))
told_turn t k u j (DidNotice values) = refl
told_turn t k u j (Yes values) = refl
told_turn t k u j (No cause) = refl

pub one_turn : (t k : ℕ) (v : Version) (notice : Notice) (body : Body) → tally (has_turn t k) (done_for v notice body) ≡ asks t k body
one_turn t k v notice (Root u) = omega (arith, told_turn t k u (record { 0 = 0 }) notice)
one_turn t k v notice (SubLetter u j w) = omega (arith, told_turn t k u j notice)
one_turn t k v notice _ = refl

-- a root bears its tree
told_born : (t : ℕ) (u : TreeNo) (j : SubNo) (notice : Notice) → is_born t (act_of u j notice) ≡ 0
told_born t u j (DidNotice values) = refl
told_born t u j (Yes values) = refl
told_born t u j (No cause) = refl

pub one_birth : (s : ScriptData) (to t : ℕ) (v : Version) (notice : Notice) (body : Body) → strays s to body ≡ 0
    → tally (is_born t) (done_for v notice body) ≡ asks t 0 body
one_birth s to t v notice (Root u) near =
    let root : one_if (u.0 == t) ≡ one_if ((u.0 == t) && (0 == 0)) = grind (arith, nat_tests) in
    omega (arith, told_born t u (record { 0 = 0 }) notice, root)
one_birth s to t v notice (SubLetter u j w) near =
    let later : one_if (j.0 == 0) ≡ 0 = omega (arith, near) in
    let none : one_if ((u.0 == t) && (j.0 == 0)) ≡ 0 = grind (arith, nat_tests) in
    omega (arith, told_born t u j notice, none)
one_birth s to t v notice _ near = refl

-- and its children are asked for
child_asked : (s : ScriptData) (t k u v parent : ℕ) (x : Sub) → sub_at s t k ≡ Some x → x.parent.0 < k → (test : Bool) → (u == t) ≡ test
    → tally (on (asks t k)) (sub_letters u v parent 0 (subs_at s u)) ≡ one_if ((u == t) && (parent == x.parent.0))
child_asked s t k u v parent x at lt true is =
    let same : u ≡ t = grind (arith, nat_tests) in
    children t k u v parent x (subs_at s u) (subst (λ (w : ℕ). sub_at s w k ≡ Some x) (sym same) at) lt
child_asked s t k u v parent x at lt false is =
    let ne : (u ≡ t) → ⊥ = grind (arith, nat_tests) in
    children_apart t k u v parent (subs_at s u) ne ∙ sym (other_tree t u x.parent.0 parent ne)

pub asked_next : (s : ScriptData) (t k : ℕ) (x : Sub) (v : Version) (notice : Notice) (body : Body) → sub_at s t k ≡ Some x → x.parent.0 < k
    → tally (on (asks t k)) (sent_for s v notice body) ≡ asks t x.parent.0 body
asked_next s t k x v notice (Root u) at lt = child_asked s t k u.0 v.0 0 x at lt (u.0 == t) refl
asked_next s t k x v notice (SubLetter u j w) at lt =
    omega (
      arith,
      tally-append (on (asks t k)) (sub_letters u.0 w.0 j.0 0 (subs_at s u.0)) (done_letter (home_of s u.0) u.0 j.0 w.0 notice ∷ []),
      child_asked s t k u.0 w.0 j.0 x at lt (u.0 == t) refl,
    )
asked_next s t k x v notice _ at lt = refl

pub root_next : (s : ScriptData) (t : ℕ) (v : Version) (notice : Notice) (body : Body)
    → tally (on (asks t 0)) (sent_for s v notice body) ≡ 0
root_next s t v notice (Root u) = no_root t u.0 v.0 0 (subs_at s u.0)
root_next s t v notice (SubLetter u j w) =
    omega (
      arith,
      tally-append (on (asks t 0)) (sub_letters u.0 w.0 j.0 0 (subs_at s u.0)) (done_letter (home_of s u.0) u.0 j.0 w.0 notice ∷ []),
      no_root t u.0 w.0 j.0 (subs_at s u.0),
    )
root_next s t v notice _ = refl

-- So with the row of a core: the letter's subtransaction has its turn, and each child of that is asked for, and no
-- other.
pub core_turns : (s : ScriptData) (p from t k : ℕ) (body : Body) (c : Core) → p < s.nodes → is_named s p from body ≡ true
    → tally (has_turn t k) (core_row s p c from body).acts ≡ asks t k body
core_turns s p from t k body c lt named =
    let w = core_works s p from body c lt named in w.acts (has_turn t k) (turn_of t k) ∙ one_turn t k (work_version s c body) w.notice body

-- An entry, by these numbers.
turn_more : (s : ScriptData) (past : List Entry) (e : Entry) (t k : ℕ) → (n : Enters s past e)
    → turns (e ∷ past) t k ≡ turns past t k + asks t k n.body
turn_more s past e t k n = omega (arith, n.acts (has_turn t k) (turn_of t k), one_turn t k n.version n.notice n.body)

asked_more : (s : ScriptData) (past : List Entry) (e : Entry) (t k : ℕ) → MayFollow s past e → (n : Enters s past e)
    → letters_asking s (e ∷ past) t k + asks t k n.body ≡ letters_asking s past t k + tally (on (asks t k)) e.sent
asked_more s past e t k m n =
    omega (arith, outstanding_flow (asks t k) s past e (λ w j. refl) m, n.done (asks t k) refl)

pub roots_have_turns : RootsHaveTurns
roots_have_turns s [] t valid apt run = omega (arith, outstanding_first (λ (l : Letter). asks t 0 l.body) s)
roots_have_turns s (e ∷ past) t valid apt run =
    let n = enters s past e valid apt run in
    omega (
      arith,
      roots_have_turns s past t valid apt.1 run.1,
      turn_more s past e t 0 n,
      asked_more s past e t 0 run.0 n,
      n.sends (on (asks t 0)) (asks_of t 0),
      root_next s t n.version n.notice n.body,
      roots_of_rows s t n.before n.rows,
      n.next (is_row_of t),
    )

-- A subtransaction's parent comes before it.
parent_in : (nodes : ℕ) (items : List ItemRow) (kind : TreeKind) (i n : ℕ) (xs : List Sub) (x : Sub) → AreSubs nodes items kind i xs
    → slice_get xs n ≡ Some x → 0 < i + n → x.parent.0 < i + n
parent_in nodes items kind i n [] x all at some = absurd (cc at)
parent_in nodes items kind i zero (y ∷ xs) x all at some =
    let same : y ≡ x = cc at in
    subst (λ (z : Sub). z.parent.0 < i + 0) same (omega (arith, all.0.parent (omega (arith, some))))
parent_in nodes items kind i (suc n) (y ∷ xs) x all at some =
    omega (arith, parent_in nodes items kind (i + 1) n xs x all.1 at (omega arith))

parent_by : (s : ScriptData) (t k : ℕ) (x : Sub) (found : Option Tree) → IsValid s → slice_get s.trees t ≡ found → sub_at s t k ≡ Some x
    → 0 < k → x.parent.0 < k
parent_by s t k x None valid is at some =
    let none : slice_get [] k ≡ Some x = ap (λ (xs : List Sub). slice_get xs k) (sym (no_subs s t is)) ∙ at in absurd (cc none)
parent_by s t k x (Some tree) valid is at some =
    let th = all_at (IsTree s.nodes s.items) s.trees t tree valid.trees is in
    let here : slice_get tree.subs k ≡ Some x = ap (λ (xs : List Sub). slice_get xs k) (sym (found_subs s t tree is)) ∙ at in
    omega (arith, parent_in s.nodes s.items tree.kind 0 k tree.subs x th.subs here (omega (arith, some)))

pub parent_before : (s : ScriptData) (t k : ℕ) (x : Sub) → IsValid s → sub_at s t k ≡ Some x → 0 < k → x.parent.0 < k
parent_before s t k x valid at some = parent_by s t k x (slice_get s.trees t) valid refl at some

pub subs_have_turns : SubsHaveTurns
subs_have_turns s [] t k x valid apt run at some = omega (arith, outstanding_first (λ (l : Letter). asks t k l.body) s)
subs_have_turns s (e ∷ past) t k x valid apt run at some =
    let n = enters s past e valid apt run in
    omega (
      arith,
      subs_have_turns s past t k x valid apt.1 run.1 at some,
      turn_more s past e t k n,
      turn_more s past e t x.parent.0 n,
      asked_more s past e t k run.0 n,
      n.sends (on (asks t k)) (asks_of t k),
      asked_next s t k x n.version n.notice n.body at (parent_before s t k x valid at some),
      roots_alone s t k n.before n.rows some,
    )

-- the same by a subtransaction in its tree
pub sub_has_turns : (s : ScriptData) (past : List Entry) (t k : ℕ) (c : SubAt s t k) → IsValid s → AllApt s past → IsStepRun s past → 0 < k
    → letters_asking s past t k + turns past t k ≡ turns past t c.sub.parent.0
sub_has_turns s past t k c valid apt run some = subs_have_turns s past t k c.sub valid apt run (sub_here s t k c) some

-- So each is asked for or has had its turn once.
root_once : (s : ScriptData) (past : List Entry) (t : ℕ) → IsValid s → AllApt s past → IsStepRun s past → t < length s.trees
    → letters_asking s past t 0 + turns past t 0 ≤ 1
root_once s past t valid apt run lt =
    omega (
      arith,
      roots_have_turns s past t valid apt run,
      tally_take_le (is_row_of t) (client_in s past).next s.rows,
      rooted_once (length s.trees) t s.rows valid.rows lt,
    )

pub tree_there : (s : ScriptData) (t k : ℕ) (x : Sub) (found : Option Tree) → slice_get s.trees t ≡ found → sub_at s t k ≡ Some x
    → t < length s.trees
tree_there s t k x None is at =
    let none : slice_get [] k ≡ Some x = ap (λ (xs : List Sub). slice_get xs k) (sym (no_subs s t is)) ∙ at in absurd (cc none)
tree_there s t k x (Some tree) is at = get_below s.trees t tree is

once_by : (s : ScriptData) (past : List Entry) (t k : ℕ) (x : Sub) → IsValid s → AllApt s past → IsStepRun s past → sub_at s t k ≡ Some x
    → ((j : ℕ) (y : Sub) → j < k → sub_at s t j ≡ Some y → letters_asking s past t j + turns past t j ≤ 1) → (k ≡ 0) ⊎ (0 < k)
    → letters_asking s past t k + turns past t k ≤ 1
once_by s past t k x valid apt run at earlier (inl is) =
    subst (λ (j : ℕ). letters_asking s past t j + turns past t j ≤ 1) (sym is)
    (root_once s past t valid apt run (tree_there s t k x (slice_get s.trees t) refl at))
once_by s past t k x valid apt run at earlier (inr some) =
    let up : x.parent.0 < k = parent_before s t k x valid at some in
    let parent = get_some (subs_at s t) x.parent.0 (omega (arith, up, get_below (subs_at s t) k x at)) in
    omega (arith, subs_have_turns s past t k x valid apt run at some, earlier x.parent.0 parent.0 up parent.1)

once_below : (s : ScriptData) (past : List Entry) (n t k : ℕ) (x : Sub) → IsValid s → AllApt s past → IsStepRun s past
    → sub_at s t k ≡ Some x → k < n → letters_asking s past t k + turns past t k ≤ 1
once_below s past zero t k x valid apt run at lt = absurd (omega arith)
once_below s past (suc n) t k x valid apt run at lt =
    once_by s past t k x valid apt run at (λ j y less there. once_below s past n t j y valid apt run there (omega (arith, lt, less))) (zero_or k)

pub turns_come_once : TurnsComeOnce
turns_come_once s past t k x valid apt run at = once_below s past (k + 1) t k x valid apt run at (omega arith)

pub turns_at_most_once : (s : ScriptData) (past : List Entry) (t k : ℕ) → SubAt s t k → IsValid s → AllApt s past → IsStepRun s past
    → turns past t k ≤ 1
turns_at_most_once s past t k c valid apt run = omega (arith, turns_come_once s past t k c.sub valid apt run (sub_here s t k c))

-- and no more often than its root
below_by : (s : ScriptData) (past : List Entry) (t k : ℕ) (x : Sub) → IsValid s → AllApt s past → IsStepRun s past → sub_at s t k ≡ Some x
    → ((j : ℕ) (y : Sub) → j < k → sub_at s t j ≡ Some y → turns past t j ≤ turns past t 0) → (k ≡ 0) ⊎ (0 < k)
    → turns past t k ≤ turns past t 0
below_by s past t k x valid apt run at earlier (inl is) = subst (λ (j : ℕ). turns past t j ≤ turns past t 0) (sym is) (omega arith)
below_by s past t k x valid apt run at earlier (inr some) =
    let up : x.parent.0 < k = parent_before s t k x valid at some in
    let parent = get_some (subs_at s t) x.parent.0 (omega (arith, up, get_below (subs_at s t) k x at)) in
    omega (arith, subs_have_turns s past t k x valid apt run at some, earlier x.parent.0 parent.0 up parent.1)

below : (s : ScriptData) (past : List Entry) (n t k : ℕ) (x : Sub) → IsValid s → AllApt s past → IsStepRun s past
    → sub_at s t k ≡ Some x → k < n → turns past t k ≤ turns past t 0
below s past zero t k x valid apt run at lt = absurd (omega arith)
below s past (suc n) t k x valid apt run at lt =
    below_by s past t k x valid apt run at (λ j y less there. below s past n t j y valid apt run there (omega (arith, lt, less))) (zero_or k)

pub turns_below_root : (s : ScriptData) (past : List Entry) (t k : ℕ) → SubAt s t k → IsValid s → AllApt s past → IsStepRun s past
    → turns past t k ≤ turns past t 0
turns_below_root s past t k c valid apt run = below s past (k + 1) t k c.sub valid apt run (sub_here s t k c) (omega arith)

-- what is asked for hasn't had its turn
pub no_turn_yet : (s : ScriptData) (past : List Entry) (t k : ℕ) → SubAt s t k → IsValid s → AllApt s past → IsStepRun s past
    → 1 ≤ letters_asking s past t k → turns past t k ≡ 0
no_turn_yet s past t k c valid apt run some =
    omega (arith, some, turns_come_once s past t k c.sub valid apt run (sub_here s t k c))

-- Births.
pub births_are_turns : BirthsAreTurns
births_are_turns s [] t valid apt run = refl
births_are_turns s (e ∷ past) t valid apt run =
    let n = enters s past e valid apt run in
    omega (
      arith,
      births_are_turns s past t valid apt.1 run.1,
      turn_more s past e t 0 n,
      n.acts (is_born t) (born_of t),
      one_birth s n.to t n.version n.notice n.body n.near,
    )
