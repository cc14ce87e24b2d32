-- Which acts defer, by the row of a core, which never does, and by a core that defers a message; and whether a
-- subtransaction is among those done.
use Rattle.std.proofs.Common.{◌≡◌, ℕ, Bool, true, false, List, [], ◌∷◌, ◌++◌, refl, ap, ◌∙◌, arith, Option, Some, None}
use Rattle.std.specs.Prelude.{nat_lt, slice_get}
use Rattle.std.specs.List.{list_any}
use Rattle.tv_base.proofs.Truths.{same_test}
use Rattle.std.proofs.lemmas.List.Elements.{filter-append}
use Rattle.tv_base.specs.declared.numbers.SubNo.{SubNo}
use Rattle.tv_base.specs.declared.numbers.TreeNo.{TreeNo}
use Rattle.tv_base.specs.declared.numbers.Version.{Version}
use Rattle.letter_types.specs.declared.acts.Act.{Act}
use Rattle.letter_types.specs.declared.acts.Act.TheVariants as acts
use Rattle.letter_types.specs.declared.bodies.Body.{Body}
use Rattle.letter_types.specs.declared.bodies.Body.TheVariants.{Root, Sub as SubLetter, Done, Turn, Show, Sweep, AskDone, AskAsked, Decide, Decided, Release, Ask, Order}
use Rattle.letter_types.specs.declared.bodies.Notice.{Notice}
use Rattle.letter_types.specs.declared.bodies.Notice.TheVariants as notices
use Rattle.tree_home.specs.Homes.{Gets}
use Rattle.tree_home.specs.declared.homes.Answered.{Answered}
use Rattle.script_parts.specs.ScriptData.{ScriptData, is_read, is_update, reads, updates}
use Rattle.script_parts.specs.declared.parts.Tree.{Tree}
use Rattle.script_parts.specs.declared.parts.TreeKind.{TreeKind}
use Rattle.script_parts.specs.declared.parts.TreeKind.TheVariants.{Update, Read, Strict}
use Rattle.board_rules.specs.Histories.{does}
use Rattle.board_rules.specs.Right.{is_parking, parkings}
use Rattle.letter_types.specs.Steps.{Out}
use Rattle.world_model.proofs.Epochs.{ask_each, order_each}
use Rattle.world_model.specs.Asked.{asked_ops, asked_version, tree_part}
use Rattle.world_model.specs.Core.{Core}
use Rattle.world_model.specs.Counts.{one_if, tally}
use Rattle.world_model.specs.Done.{TreeOut, note_part, turned_if}
use Rattle.world_model.specs.Named.{is_strict_at, tree_kind_at}
use Rattle.world_model.specs.Node.{Effect, Node}
use Rattle.world_model.specs.Notices.{act_of, values_of}
use Rattle.world_model.specs.Reads.{getting}
use Rattle.world_model.specs.Strict.{core_by_kind, core_row, decided, locks_by, none_refuses, note_core, noted_vote, refused_there, voting}
use Rattle.world_model.specs.Updates.{touching}
use Rattle.world_model.specs.Votes.{vote_of}

-- The kind of a tree, by a test of kinds.
abbrev found_by : (TreeKind → Bool) → Option Tree → Bool
found_by test None = false
found_by test (Some tree) = test tree.kind

abbrev kind_in : Option Tree → Option TreeKind
kind_in None = None
kind_in (Some tree) = Some tree.kind

abbrev pub passes : (TreeKind → Bool) → Option TreeKind → Bool
passes test None = false
passes test (Some kind) = test kind

same_kind : (test : TreeKind → Bool) (o : Option Tree) → found_by test o ≡ passes test (kind_in o)
same_kind test None = refl
same_kind test (Some tree) = refl

kind_passes : (test : TreeKind → Bool) (s : ScriptData) (t : ℕ) (kind : Option TreeKind) → tree_kind_at s t ≡ kind
    → found_by test (slice_get s.trees t) ≡ passes test kind
kind_passes test s t kind is = same_kind test (slice_get s.trees t) ∙ ap (passes test) is

pub kind_updates_by : (s : ScriptData) (t : ℕ) (kind : Option TreeKind) → tree_kind_at s t ≡ kind → updates s t ≡ passes is_update kind
kind_updates_by s t kind is = kind_passes is_update s t kind is

pub kind_reads_by : (s : ScriptData) (t : ℕ) (kind : Option TreeKind) → tree_kind_at s t ≡ kind → reads s t ≡ passes is_read kind
kind_reads_by s t kind is = kind_passes is_read s t kind is

-- Acts behind the one that raises the update version.
pub turned_parkings : (raises : Bool) (v : ℕ) (more : List Act) → parkings (turned_if raises v ++ more) ≡ parkings more
turned_parkings true v more = refl
turned_parkings false v more = refl

pub turned_does : (t k : ℕ) (raises : Bool) (v : ℕ) (more : List Act) → list_any (does t k) (turned_if raises v ++ more) ≡ list_any (does t k) more
turned_does t k true v more = refl
turned_does t k false v more = refl

pub done_here : (t : TreeNo) (k : SubNo) (values : Gets) → list_any (does t.0 k.0) (acts.Did t k values ∷ []) ≡ true
done_here t k values = rw (same_test t.0, same_test k.0) refl

-- No row parks.
act_parks : (t : TreeNo) (k : SubNo) (n : Notice) → parkings (act_of t k n ∷ []) ≡ []
act_parks t k (notices.Did values) = refl
act_parks t k (notices.Yes values) = refl
act_parks t k (notices.No cause) = refl

part_parks : (s : ScriptData) (p from : ℕ) (v : Version) (raises : Bool) (e : Effect) (body : Body) (st : Node)
    → parkings (tree_part s p from v raises e body st).out.acts ≡ []
part_parks s p from v raises e (Root t) st = act_parks t (record { 0 = 0 }) e.notice
part_parks s p from v raises e (SubLetter t k w) st =
    turned_parkings raises v.0 (act_of t k e.notice ∷ []) ∙ act_parks t k e.notice
part_parks s p from v raises e _ st = refl

decided_parks : (s : ScriptData) (c : Core) (o : TreeOut) (found : Option Answered) → parkings o.out.acts ≡ []
    → parkings (decided s c o found).acts ≡ []
decided_parks s c o None none = none
decided_parks s c o (Some a) none =
    filter-append is_parking o.out.acts (acts.Decided a.tree (none_refuses a.tree c.refusals) ∷ [])
    ∙ ap (λ (xs : List Act). xs ++ []) none

kind_parks : (s : ScriptData) (p from : ℕ) (t : TreeNo) (body : Body) (kind : Option TreeKind) (c : Core)
    → parkings (core_by_kind s p from t body kind c).acts ≡ []
kind_parks s p from t body (Some Update) c =
    let v : Version = asked_version c.node.turns.update body in
    part_parks s p from v (nat_lt c.node.turns.update.0 v.0) (touching v (asked_ops s body) c.node.items) body c.node
kind_parks s p from t body (Some Read) c =
    let v : Version = asked_version c.node.turns.read body in
    part_parks s p from v false (getting v (asked_ops s body) c.node.items) body c.node
kind_parks s p from t body (Some Strict) c =
    let v : Version = asked_version c.node.turns.update body in
    let os = asked_ops s body in
    let vote = vote_of c.locks c.node.items t v os in
    let o = tree_part s p from v (nat_lt c.node.turns.update.0 v.0) (voting vote c.node.items) body c.node in
    decided_parks s (record c { locks = locks_by vote t os c.locks; refusals = noted_vote body vote c.refusals }) o o.answered
    (part_parks s p from v (nat_lt c.node.turns.update.0 v.0) (voting vote c.node.items) body c.node)
kind_parks s p from t body None c = refl

note_parks : (s : ScriptData) (from : ℕ) (t : TreeNo) (k : SubNo) (v : Version) (notice : Notice) (c : Core) (strict : Bool)
    → is_strict_at s t.0 ≡ strict → parkings (note_core s from t k v notice c).acts ≡ []
note_parks s from t k v notice c true is =
    let o = note_part from t.0 k.0 v.0 (values_of notice) c.node in
    rw is (decided_parks s (record c { refusals = refused_there t k notice c }) o o.answered refl)
note_parks s from t k v notice c false is = rw is refl

raise_parks : (raises : Bool) (v : ℕ) → parkings (turned_if raises v) ≡ []
raise_parks true v = refl
raise_parks false v = refl

pub row_parks : (s : ScriptData) (p from : ℕ) (body : Body) (c : Core) → parkings (core_row s p c from body).acts ≡ []
row_parks s p from (Root t) c = kind_parks s p from t (Root t) (tree_kind_at s t.0) c
row_parks s p from (SubLetter t k v) c = kind_parks s p from t (SubLetter t k v) (tree_kind_at s t.0) c
row_parks s p from (Done t k v notice) c = note_parks s from t k v notice c (is_strict_at s t.0) refl
row_parks s p from (Decide t v commit) c = refl
row_parks s p from (Decided t v) c = refl
row_parks s p from (Release t) c = refl
row_parks s p from (Turn v) c = raise_parks (nat_lt c.node.turns.update.0 v.0) v.0
row_parks s p from (Show v) c = refl
row_parks s p from (Sweep v) c = refl
row_parks s p from (AskDone v k) c = refl
row_parks s p from (AskAsked v k) c = refl
row_parks s p from (Order e what v) c =
    order_each (λ (o : Out Core). parkings o.acts ≡ []) s e what v c refl refl
    (λ is. raise_parks (nat_lt c.node.turns.update.0 v.0) v.0) (λ is new. refl) (λ is new. refl)
row_parks s p from (Ask e) c = ask_each (λ (o : Out Core). parkings o.acts ≡ []) s e c refl refl
row_parks s p from _ c = refl

-- Where no act is counted as parking, none parks.
pub none_parks : (xs : List Act) → tally (λ (a : Act). one_if (is_parking a)) xs ≡ 0 → parkings xs ≡ []
none_parks [] none = refl
none_parks (a ∷ xs) none = by (λ later. none_parks xs later) (is_parking a) refl where
  by : (tally (λ (x : Act). one_if (is_parking x)) xs ≡ 0 → parkings xs ≡ []) → (b : Bool) → is_parking a ≡ b → parkings (a ∷ xs) ≡ []
  by rest true is = absurd (omega (arith, none, ap one_if is))
  by rest false is = rw is (rest (omega (arith, none)))
