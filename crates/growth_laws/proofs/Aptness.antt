-- Whether a message about a transaction that the script had before it grew is enabled, and is deferred, is the same
-- after.
use Rattle.std.proofs.Common.{◌≡◌, ℕ, ◌<◌, ◌==◌, ◌&&◌, ◌||◌, ◌∙◌, Bool, false, not, List, length, refl, ap, Option, Some, None}
use Rattle.std.specs.Prelude.{nat_lt}
use Rattle.tv_base.specs.declared.numbers.SubNo.{SubNo}
use Rattle.tv_base.specs.declared.numbers.TreeNo.{TreeNo}
use Rattle.tv_base.specs.declared.numbers.Version.{Version}
use Rattle.letter_types.specs.declared.bodies.Body.{Body}
use Rattle.letter_types.specs.declared.bodies.Body.TheVariants.{Root, Sub as SubLetter, Done, Decide, Decided, Release, Wake, Ask, Lose, AdvanceNo, Numbers, Obeyed, Order, Wanted as WantedLetter, Turn, Show, Sweep, Turned, Shown, Swept, Advance}
use Rattle.letter_types.specs.declared.bodies.What.{What}
use Rattle.letter_types.specs.declared.bodies.What.TheVariants as whats
use Rattle.letter_types.specs.declared.entries.Letter.{Letter}
use Rattle.nc_locks.specs.declared.modes.Met.{Met}
use Rattle.nc_locks.specs.Locks.{Wanted, met_in}
use Rattle.script_parts.specs.Counts.{has_strict}
use Rattle.script_parts.specs.ScriptData.{ScriptData, home_of, subs_at, visits}
use Rattle.script_parts.specs.declared.parts.Sub.{Sub}
use Rattle.script_parts.specs.declared.parts.SubOp.{SubOp}
use Rattle.script_parts.specs.declared.parts.TreeKind.{TreeKind}
use Rattle.script_parts.specs.declared.parts.TreeKind.TheVariants.{Update, Read, Strict}
use Rattle.tree_home.specs.declared.homes.Answered.{Answered}
use Rattle.world_model.specs.Apt.{can_make_by}
use Rattle.world_model.specs.Asked.{asked_ops, asked_version}
use Rattle.world_model.specs.Core.{Core}
use Rattle.world_model.specs.Epochs.{is_core_timely, plain_order, suits_coordinator}
use Rattle.world_model.specs.Named.{is_named, is_near, is_new, is_strict_at, is_timely, suits, tree_kind_at}
use Rattle.world_model.specs.Node.{Node}
use Rattle.world_model.specs.Notices.{answer_noted, values_of}
use Rattle.world_model.specs.Reads.{can_get}
use Rattle.world_model.specs.Strict.{can_make_at, core_keeping, decides_near, is_core_apt, is_near_answer, is_of_script, is_of_strict, is_unheld, kept_by_kind, meets, parked_if}
use Rattle.world_model.specs.Updates.{can_touch}
use Rattle.world_model.proofs.Notices.{answer_noted_tree}
use Rattle.growth_laws.proofs.More.{More, with_more}
use Rattle.growth_laws.proofs.Lookups.{home_same, kind_same, node_same, strict_same, subs_same}
use Rattle.growth_laws.proofs.Rows.{AnswersKnown, IsKnown, asked_same, marks_same, noted_known}

-- The kinds of trees and of coordinators stay.
suits_same : (s : ScriptData) (m : More s) (body : Body) → suits_coordinator (with_more s m) body ≡ suits_coordinator s body
suits_same s m Lose = m.lossy
suits_same s m (AdvanceNo i) = m.lossy
suits_same s m (Ask e) = m.lossy
suits_same s m (Numbers e u r l) = m.lossy
suits_same s m (WantedLetter e k) = m.lossy
suits_same s m (Order e what v) = m.lossy
suits_same s m (Obeyed e what v) = m.lossy
suits_same s m Advance = ap not m.lossy
suits_same s m (Turn v) = ap not m.lossy
suits_same s m (Show v) = ap not m.lossy
suits_same s m (Sweep v) = ap not m.lossy
suits_same s m (Turned v) = ap not m.lossy
suits_same s m (Shown v) = ap not m.lossy
suits_same s m (Swept v) = ap not m.lossy
suits_same s m _ = refl

of_script_same : (s : ScriptData) (m : More s) (body : Body) → is_of_script (with_more s m) body ≡ is_of_script s body
of_script_same s m body =
    ap (λ (b : Bool). (b || not (is_of_strict body)) && suits_coordinator (with_more s m) body) m.strict
    ∙ ap (λ (b : Bool). (has_strict s || not (is_of_strict body)) && b) (suits_same s m body)

-- What a letter names.
named_same : (s : ScriptData) (m : More s) (p from : ℕ) (body : Body) → IsKnown s body
    → is_named (with_more s m) p from body ≡ is_named s p from body
named_same s m p from (Root t) lt = ap (λ (n : ℕ). n == p) (home_same s m t.0 lt)
named_same s m p from (SubLetter t k v) lt = ap (λ (n : ℕ). (n == p) && nat_lt from s.nodes) (node_same s m t.0 k.0 lt)
named_same s m p from (Done t k v notice) lt =
    ap (λ (n : ℕ). (n == p)
    && (nat_lt k.0 (length (subs_at (with_more s m) t.0)) && (nat_lt from s.nodes && suits (is_strict_at (with_more s m) t.0) notice))) (home_same s m t.0 lt)
    ∙ ap (λ (xs : List Sub). (home_of s t.0 == p)
    && (nat_lt k.0 (length xs) && (nat_lt from s.nodes && suits (is_strict_at (with_more s m) t.0) notice))) (subs_same s m t.0 lt)
    ∙ ap (λ (b : Bool). (home_of s t.0 == p) && (nat_lt k.0 (length (subs_at s t.0)) && (nat_lt from s.nodes && suits b notice))) (strict_same s m t.0 lt)
named_same s m p from (Release t) lt = ap (λ (xs : List Sub). visits xs p) (subs_same s m t.0 lt)
named_same s m p from (Wake t k) lt = ap (λ (n : ℕ). n == p) (node_same s m t.0 k.0 lt)
named_same s m p from (Decide t v commit) lt =
    ap (λ (b : Bool). b && (visits (subs_at (with_more s m) t.0) p && nat_lt from s.nodes)) (strict_same s m t.0 lt)
    ∙ ap (λ (xs : List Sub). is_strict_at s t.0 && (visits xs p && nat_lt from s.nodes)) (subs_same s m t.0 lt)
named_same s m p from (Decided t v) lt = ap (λ (n : ℕ). (n == p) && nat_lt from s.nodes) (home_same s m t.0 lt)
named_same s m p from _ lt = refl

new_same : (s : ScriptData) (m : More s) (st : Node) (body : Body) → is_new (with_more s m) st body ≡ is_new s st body
new_same s m st (Root t) = refl
new_same s m st _ = refl

-- Versions.
ordered_timely : (s : ScriptData) (m : More s) (st : Node) (what : What) (v : Version)
    → is_timely (with_more s m) st (plain_order what v) ≡ is_timely s st (plain_order what v)
ordered_timely s m st whats.Turn v = refl
ordered_timely s m st whats.Show v = refl
ordered_timely s m st whats.Sweep v = refl

timely_same : (s : ScriptData) (m : More s) (c : Core) (body : Body) → is_core_timely (with_more s m) c body ≡ is_core_timely s c body
timely_same s m c (Order e what v) = ap (λ (b : Bool). nat_lt e c.epoch || b) (ordered_timely s m c.node what v)
timely_same s m c _ = refl

answer_near : (s : ScriptData) (m : More s) (st : Node) (o : Option Answered) → AnswersKnown s o
    → is_near_answer (with_more s m) st o ≡ is_near_answer s st o
answer_near s m st None lt = refl
answer_near s m st (Some a) lt = ap (λ (b : Bool). not b || is_near st a.version) (strict_same s m a.tree.0 (lt a refl))

near_same : (s : ScriptData) (m : More s) (st : Node) (body : Body) → IsKnown s body → decides_near (with_more s m) st body ≡ decides_near s st body
near_same s m st (Done t k v notice) lt =
    answer_near s m st (answer_noted t k (values_of notice) st.homes)
    (λ a is. noted_known s t a lt (answer_noted_tree t k (values_of notice) st.homes a is))
near_same s m st _ lt = refl

-- What operations may do.
make_by_same : (s : ScriptData) (m : More s) (st : Node) (body : Body) (kind : Option TreeKind) → IsKnown s body
    → can_make_by (with_more s m) st body kind ≡ can_make_by s st body kind
make_by_same s m st body (Some Update) lt =
    ap (λ (xs : List SubOp). can_touch (asked_version st.turns.update body) xs st.items) (asked_same s m body lt)
make_by_same s m st body (Some Read) lt =
    ap (λ (xs : List SubOp). can_get (asked_version st.turns.read body) xs st.items) (asked_same s m body lt)
make_by_same s m st body (Some Strict) lt = refl
make_by_same s m st body None lt = refl

tree_make_same : (s : ScriptData) (m : More s) (st : Node) (t : TreeNo) (body : Body) → t.0 < length s.trees → IsKnown s body
    → (is_strict_at (with_more s m) t.0 || can_make_by (with_more s m) st body (tree_kind_at (with_more s m) t.0))
    ≡ (is_strict_at s t.0 || can_make_by s st body (tree_kind_at s t.0))
tree_make_same s m st t body lt here =
    ap (λ (b : Bool). b || can_make_by (with_more s m) st body (tree_kind_at (with_more s m) t.0)) (strict_same s m t.0 lt)
    ∙ ap (λ (kind : Option TreeKind). is_strict_at s t.0 || can_make_by (with_more s m) st body kind) (kind_same s m t.0 lt)
    ∙ ap (λ (b : Bool). is_strict_at s t.0 || b) (make_by_same s m st body (tree_kind_at s t.0) here)

make_same : (s : ScriptData) (m : More s) (p : ℕ) (c : Core) (body : Body) → IsKnown s body
    → can_make_at (with_more s m) p c body ≡ can_make_at s p c body
make_same s m p c (Root t) lt = tree_make_same s m c.node t (Root t) lt lt
make_same s m p c (SubLetter t k v) lt = tree_make_same s m c.node t (SubLetter t k v) lt lt
make_same s m p c (Decide t v commit) lt = rw (subs_same s m t.0 lt) refl
make_same s m p c _ lt = refl

-- So a letter is apt in the one script where it is in the other.
all_same : {a b c d e f g aa bb cc dd ee ff gg : Bool} → a ≡ aa → b ≡ bb → c ≡ cc → d ≡ dd → e ≡ ee → f ≡ ff → g ≡ gg
    → (a && (b && (c && d && (e && f && g)))) ≡ (aa && (bb && (cc && dd && (ee && ff && gg))))
all_same p q r t u v w = cc

pub apt_same : (s : ScriptData) (m : More s) (p : ℕ) (c : Core) (l : Letter) → IsKnown s l.body
    → is_core_apt (with_more s m) p c l ≡ is_core_apt s p c l
apt_same s m p c l lt =
    let own : is_unheld l.body c.holds ≡ is_unheld l.body c.holds = refl in
    all_same (of_script_same s m l.body) (named_same s m p l.from.0 l.body lt) (new_same s m c.node l.body) own
    (timely_same s m c l.body) (near_same s m c.node l.body lt) (make_same s m p c l.body lt)

-- Which letters are kept.
meets_same : (s : ScriptData) (m : More s) (t : TreeNo) (body : Body) (c : Core) → IsKnown s body
    → meets (with_more s m) t (asked_ops (with_more s m) body) c ≡ meets s t (asked_ops s body) c
meets_same s m t body c lt =
    ap (λ (xs : List SubOp). meets (with_more s m) t xs c) (asked_same s m body lt)
    ∙ ap (λ (xs : Wanted). met_in t xs c.locks) (marks_same s m (asked_ops s body))

root_kept : (s : ScriptData) (m : More s) (t : TreeNo) (c : Core) (kind : Option TreeKind) → t.0 < length s.trees
    → kept_by_kind (with_more s m) c t (Root t) kind ≡ kept_by_kind s c t (Root t) kind
root_kept s m t c (Some Update) lt =
    ap (λ (o : Option Met). parked_if t (record { 0 = 0 }) false c.node.turns.update o c) (meets_same s m t (Root t) c lt)
root_kept s m t c (Some Read) lt = refl
root_kept s m t c (Some Strict) lt = refl
root_kept s m t c None lt = refl

sub_kept : (s : ScriptData) (m : More s) (t : TreeNo) (k : SubNo) (v : Version) (c : Core) (kind : Option TreeKind) → t.0 < length s.trees
    → kept_by_kind (with_more s m) c t (SubLetter t k v) kind ≡ kept_by_kind s c t (SubLetter t k v) kind
sub_kept s m t k v c (Some Update) lt =
    ap (λ (o : Option Met). parked_if t k (nat_lt c.node.turns.update.0 v.0) v o c) (meets_same s m t (SubLetter t k v) c lt)
sub_kept s m t k v c (Some Read) lt = refl
sub_kept s m t k v c (Some Strict) lt = refl
sub_kept s m t k v c None lt = refl

pub keeps_same : (s : ScriptData) (m : More s) (c : Core) (body : Body) → IsKnown s body
    → core_keeping (with_more s m) c body ≡ core_keeping s c body
keeps_same s m c (Root t) lt =
    ap (λ (kind : Option TreeKind). kept_by_kind (with_more s m) c t (Root t) kind) (kind_same s m t.0 lt) ∙ root_kept s m t c (tree_kind_at s t.0) lt
keeps_same s m c (SubLetter t k v) lt =
    ap (λ (kind : Option TreeKind). kept_by_kind (with_more s m) c t (SubLetter t k v) kind) (kind_same s m t.0 lt)
    ∙ sub_kept s m t k v c (tree_kind_at s t.0) lt
keeps_same s m c _ lt = refl
