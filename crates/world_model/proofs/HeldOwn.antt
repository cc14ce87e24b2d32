-- In every past an answer that a home holds is of the transaction under which it holds it.
use Rattle.std.proofs.Common.{◌≡◌, ℕ, ◌==◌, Bool, true, false, List, [], ◌∷◌, refl, sym, ap, subst, ◌∙◌, arith, Option, Some, None}
use Rattle.std.specs.Prelude.{if◌then◌else◌, nat_lt}
use Rattle.std.proofs.lemmas.Bool.Decides.{nat_tests}
use Rattle.tv_base.specs.declared.numbers.SubNo.{SubNo}
use Rattle.tv_base.specs.declared.numbers.TreeNo.{TreeNo}
use Rattle.tv_base.specs.declared.numbers.Version.{Version}
use Rattle.letter_types.specs.Kept.{brought}
use Rattle.letter_types.specs.Steps.{Out, still}
use Rattle.letter_types.specs.declared.bodies.Body.{Body}
use Rattle.letter_types.specs.declared.bodies.Body.TheVariants.{Root, Sub as SubLetter, Done, Decide, Decided, Release, Ask, Order}
use Rattle.letter_types.specs.declared.bodies.Notice.{Notice}
use Rattle.letter_types.specs.declared.entries.Entry.{Entry}
use Rattle.letter_types.specs.declared.entries.Letter.{Letter}
use Rattle.tree_home.specs.HeldAnswers.{HeldAnswers, acked, acked_of, answer_when_acked, held_for, held_in, holding, last_answer}
use Rattle.tree_home.specs.declared.homes.Answered.{Answered}
use Rattle.tree_home.specs.declared.homes.Held.{Held}
use Rattle.script_parts.specs.ScriptData.{ScriptData}
use Rattle.script_parts.specs.declared.parts.TreeKind.{TreeKind}
use Rattle.script_parts.specs.declared.parts.TreeKind.TheVariants.{Update, Read, Strict}
use Rattle.world_model.proofs.Epochs.{ask_each, order_each}
use Rattle.world_model.specs.Asked.{asked_ops, asked_version, tree_part}
use Rattle.world_model.specs.Core.{Core}
use Rattle.world_model.specs.Done.{TreeOut, note_part}
use Rattle.world_model.specs.Keeping.{KeepingNode, brought_row, is_apt_there, keeping_row, kept_row}
use Rattle.world_model.specs.Named.{is_strict_at, tree_kind_at}
use Rattle.world_model.specs.Notices.{values_of}
use Rattle.world_model.specs.Runs.{keeping_in}
use Rattle.world_model.specs.Strict.{CoreKeeping, answered, core_by_kind, core_keeping, core_row, decided, is_core_apt, locks_by, note_core, noted_vote, refused_there, voting}
use Rattle.world_model.specs.Votes.{vote_of}
use Rattle.world_model.proofs.Keepings.{of_kept}

-- what is held under a number is of the tree of that number
abbrev pub HoldsOwn : HeldAnswers → Type 0
HoldsOwn hs = (n : ℕ) (h : Held) → hs n ≡ Some h → h.answered.tree.0 ≡ n

-- one more, and one acknowledgement fewer
one_held : (a : Answered) (m n : ℕ) (hs : HeldAnswers) (test : Bool) (h : Held) → HoldsOwn hs → (n == a.tree.0) ≡ test
    → (if test then Some (held_for m a) else hs n) ≡ Some h → h.answered.tree.0 ≡ n
one_held a m n hs true h own is at =
    let same : held_for m a ≡ h = cc at in
    let here : a.tree.0 ≡ n = grind (arith, nat_tests) in
    subst (λ (x : Held). x.answered.tree.0 ≡ n) same here
one_held a m n hs false h own is at = own n h at

holding_own : (a : Answered) (m : ℕ) (hs : HeldAnswers) → HoldsOwn hs → HoldsOwn (holding a m hs)
holding_own a m hs own n h at = one_held a m n hs (n == a.tree.0) h own refl at

acked_same : (o : Option Held) (h : Held) → acked_of o ≡ Some h → (old : Held) × (o ≡ Some old) × (h.answered ≡ old.answered)
acked_same None h at = absurd (cc at)
acked_same (Some old) h at = (old, refl, by (nat_lt 1 old.waits) _ at) where
  by : (more : Bool) (n : ℕ) → (if more then Some (held_for n old.answered) else None) ≡ Some h → h.answered ≡ old.answered
  by true n at = let same : held_for n old.answered ≡ h = cc at in sym (ap (λ (x : Held). x.answered) same)
  by false n at = absurd (cc at)

one_acked : (t : TreeNo) (n : ℕ) (hs : HeldAnswers) (test : Bool) (h : Held) → HoldsOwn hs → (n == t.0) ≡ test
    → (if test then acked_of (held_in t hs) else hs n) ≡ Some h → h.answered.tree.0 ≡ n
one_acked t n hs true h own is at =
    let found = acked_same (held_in t hs) h at in
    let here : t.0 ≡ n = grind (arith, nat_tests) in
    ap (λ (a : Answered). a.tree.0) found.2 ∙ own t.0 found.0 found.1 ∙ here
one_acked t n hs false h own is at = own n h at

acked_own : (t : TreeNo) (hs : HeldAnswers) → HoldsOwn hs → HoldsOwn (acked t hs)
acked_own t hs own n h at = one_acked t n hs (n == t.0) h own refl at

-- so the answer that an acknowledgement sets free is of its tree
last_held : (o : Option Held) (a : Answered) → last_answer o ≡ Some a → (h : Held) × (o ≡ Some h) × (h.answered ≡ a)
last_held None a at = absurd (cc at)
last_held (Some h) a at = (h, refl, by (nat_lt 1 h.waits) at) where
  by : (more : Bool) → (if more then None else Some h.answered) ≡ Some a → h.answered ≡ a
  by true at = absurd (cc at)
  by false at = cc at

pub acked_tree : (t : TreeNo) (hs : HeldAnswers) (a : Answered) → HoldsOwn hs → answer_when_acked t hs ≡ Some a → a.tree ≡ t
acked_tree t hs a own is =
    let found = last_held (held_in t hs) a is in
    let number : a.tree.0 ≡ t.0 = ap (λ (x : Answered). x.tree.0) (sym found.2) ∙ own t.0 found.0 found.1 in
    ap (λ (n : ℕ). record { 0 = n }) number

-- What the row of a letter makes of them.
abbrev KeepsOwn : Core → Out Core → Type 0
KeepsOwn c out = HoldsOwn c.holds → HoldsOwn out.state.holds

decided_own : (s : ScriptData) (c : Core) (o : TreeOut) (found : Option Answered) → KeepsOwn c (decided s c o found)
decided_own s c o None own = own
decided_own s c o (Some a) own = holding_own a _ c.holds own

kind_own : (s : ScriptData) (p from : ℕ) (t : TreeNo) (body : Body) (kind : Option TreeKind) (c : Core)
    → KeepsOwn c (core_by_kind s p from t body kind c)
kind_own s p from t body (Some Update) c own = own
kind_own s p from t body (Some Read) c own = own
kind_own s p from t body (Some Strict) c own =
    let v = asked_version c.node.turns.update body in
    let vote = vote_of c.locks c.node.items t v (asked_ops s body) in
    let o : TreeOut = tree_part s p from v (nat_lt c.node.turns.update.0 v.0) (voting vote c.node.items) body c.node in
    decided_own s
    (record c { locks = locks_by vote t (asked_ops s body) c.locks; refusals = noted_vote body vote c.refusals }) o o.answered own
kind_own s p from t body None c own = own

pick_own : (c : Core) (b : Bool) (x y : Out Core) → KeepsOwn c x → KeepsOwn c y → KeepsOwn c (if b then x else y)
pick_own c true x y l r = l
pick_own c false x y l r = r

note_own : (s : ScriptData) (from : ℕ) (t : TreeNo) (k : SubNo) (v : Version) (notice : Notice) (c : Core)
    → KeepsOwn c (note_core s from t k v notice c)
note_own s from t k v notice c =
    let o : TreeOut = note_part from t.0 k.0 v.0 (values_of notice) c.node in
    let noted : Core = record c { refusals = refused_there t k notice c } in
    pick_own c (is_strict_at s t.0) (decided s noted o o.answered) (answered s c o) (decided_own s noted o o.answered) (λ own. own)

pub core_own : (s : ScriptData) (p from : ℕ) (body : Body) (c : Core) → KeepsOwn c (core_row s p c from body)
core_own s p from (Root t) c = kind_own s p from t (Root t) (tree_kind_at s t.0) c
core_own s p from (SubLetter t k v) c = kind_own s p from t (SubLetter t k v) (tree_kind_at s t.0) c
core_own s p from (Done t k v notice) c = note_own s from t k v notice c
core_own s p from (Decide t v commit) c = λ own. own
core_own s p from (Decided t v) c = λ own. acked_own t c.holds own
core_own s p from (Release t) c = λ own. own
core_own s p from (Order e what v) c =
    order_each (KeepsOwn c) s e what v c (λ own. own) (λ own. own) (λ is own. own) (λ is new own. own) (λ is new own. own)
core_own s p from (Ask e) c = ask_each (KeepsOwn c) s e c (λ own. own) (λ own. own)
core_own s p from _ c = λ own. own

-- a letter that is kept leaves them
kept_own : (s : ScriptData) (c : Core) (body : Body) (k : CoreKeeping) → core_keeping s c body ≡ Some k → HoldsOwn c.holds
    → HoldsOwn k.state.holds
kept_own s c body k is own =
    of_kept s c (λ (x : CoreKeeping). HoldsOwn x.state.holds) body k (record { parks = λ t j raises v m. own; waits = λ t. own }) is

-- In every past.
abbrev NodeOwns : KeepingNode → Type 0
NodeOwns n = HoldsOwn n.core.holds

row_own : (s : ScriptData) (p : ℕ) (l r : Letter) (n : KeepingNode) (o : Option CoreKeeping) → core_keeping s n.core r.body ≡ o
    → NodeOwns n → NodeOwns (kept_row s p l r n o).state
row_own s p l r n None is own = core_own s p r.from.0 r.body n.core own
row_own s p l r n (Some k) is own = kept_own s n.core r.body k is own

apt_own : (s : ScriptData) (p : ℕ) (l r : Letter) (n : KeepingNode) (test : Bool) → NodeOwns n
    → NodeOwns (if test then kept_row s p l r n (core_keeping s n.core r.body) else still n).state
apt_own s p l r n true own = row_own s p l r n (core_keeping s n.core r.body) refl own
apt_own s p l r n false own = own

brought_own : (s : ScriptData) (p : ℕ) (l : Letter) (n : KeepingNode) (o : Option Letter) → NodeOwns n
    → NodeOwns (brought_row (is_core_apt s p) s p l n o).state
brought_own s p l n None own = own
brought_own s p l n (Some r) own = apt_own s p l r n (is_apt_there (is_core_apt s p) p n r) own

past_own : (s : ScriptData) (past : List Entry) (e : Entry) (p : ℕ) (test : Bool) → NodeOwns (keeping_in s past p)
    → NodeOwns (if test then (keeping_row s p (keeping_in s past p) e.took).state else keeping_in s past p)
past_own s past e p true own =
    let n = keeping_in s past p in
    brought_own s p e.took n (brought n.kept e.took e.took.body) own
past_own s past e p false own = own

pub holds_own : (s : ScriptData) (past : List Entry) (p : ℕ) → HoldsOwn (keeping_in s past p).core.holds
holds_own s [] p = λ n h at. absurd (cc at)
holds_own s (e ∷ past) p = past_own s past e p (e.actor.0 == p) (holds_own s past p)
