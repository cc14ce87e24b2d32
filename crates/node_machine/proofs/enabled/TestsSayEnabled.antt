-- The test of each kind of message says whether it is enabled.
use Rattle.std.proofs.Common.{◌≡◌, ℕ, ◌==◌, ◌&&◌, ◌||◌, Bool, true, false, not, refl, arith, Option, Some, None}
use Rattle.std.specs.Prelude.{nat_lt}
use Rattle.tv_base.specs.declared.numbers.SubNo.{SubNo}
use Rattle.tv_base.specs.declared.numbers.TreeNo.{TreeNo}
use Rattle.tv_base.specs.declared.numbers.Version.{Version}
use Rattle.letter_types.specs.declared.bodies.Body.{Body}
use Rattle.letter_types.specs.declared.bodies.Body.TheVariants.{Root, Sub as SubLetter, Done, Turn, Show, Sweep, AskDone, AskAsked, Decide, Decided, Release, Wake, Order, Ask}
use Rattle.letter_types.specs.declared.bodies.Notice.{Notice}
use Rattle.letter_types.specs.declared.bodies.What.{What}
use Rattle.letter_types.specs.declared.bodies.What.TheVariants as whats
use Rattle.letter_types.specs.declared.entries.Letter.{Letter}
use Rattle.letter_types.specs.Steps.{still}
use Rattle.tx_trees.specs.Counts.{has_strict}
use Rattle.tx_trees.specs.ScriptData.{ScriptData, home_of, node_of, subs_at, visits}
use Rattle.tx_trees.specs.declared.parts.TreeKind.{TreeKind}
use Rattle.tx_trees.specs.declared.parts.TreeKind.TheVariants.{Update, Read, Strict}
use Rattle.world_model.specs.Apt.{can_make, can_make_by}
use Rattle.world_model.specs.Core.{Core}
use Rattle.world_model.specs.Decisions.{can_decide}
use Rattle.world_model.specs.Epochs.{is_core_timely, plain_order, suits_coordinator}
use Rattle.world_model.specs.Named.{is_named, is_near, is_new, is_strict_at, is_timely, tree_kind_at}
use Rattle.world_model.specs.Node.{Node}
use Rattle.world_model.specs.Notices.{answer_noted, values_of}
use Rattle.world_model.specs.Strict.{can_make_at, core_keeping, core_row, decides_near, is_core_apt, is_near_answer, is_of_strict, is_unheld}
use Rattle.tree_step.specs.Due.{can_obey, is_due}
use Rattle.node_machine.specs.Apt.{acked_apt, apt_by, decide_apt, is_own, makes_by, release_apt, tree_apt, wake_apt}

-- what a message asks for of a tree, by the tree's kind
makes_kind : (s : ScriptData) (st : Node) (t : TreeNo) (body : Body) (kind : Option TreeKind) → tree_kind_at s t.0 ≡ kind
    → makes_by s st body kind ≡ (is_strict_at s t.0 || can_make_by s st body kind)
makes_kind s st t body (Some Update) is = rw (is, is_strict_at) refl
makes_kind s st t body (Some Read) is = rw (is, is_strict_at) refl
makes_kind s st t body (Some Strict) is = rw (is, is_strict_at) refl
makes_kind s st t body None is = rw (is, is_strict_at) refl

pub root_apt : (s : ScriptData) (p from : ℕ) (c : Core) (t : TreeNo)
    → tree_apt s p from c t (Root t) ≡ apt_by s p from c (Root t)
root_apt s p from c t =
    by (has_strict s) (is_named s p from (Root t)) (is_new s c.node (Root t)) (is_unheld (Root t) c.holds)
    (makes_by s c.node (Root t) (tree_kind_at s t.0)) (is_strict_at s t.0 || can_make s c.node (Root t))
    (makes_kind s c.node t (Root t) (tree_kind_at s t.0) refl) where
      by : (h a b u m g : Bool) → m ≡ g
          → ((true && (a && (b && true))) && (u && m)) ≡ ((h || not false) && (a && (b && u && (true && true && g))))
      by h a b u m g same = grind arith

pub sub_apt : (s : ScriptData) (p from : ℕ) (c : Core) (t : TreeNo) (k : SubNo) (v : Version)
    → tree_apt s p from c t (SubLetter t k v) ≡ apt_by s p from c (SubLetter t k v)
sub_apt s p from c t k v =
    by (has_strict s) (is_named s p from (SubLetter t k v)) (is_timely s c.node (SubLetter t k v))
    (makes_by s c.node (SubLetter t k v) (tree_kind_at s t.0)) (is_strict_at s t.0 || can_make s c.node (SubLetter t k v))
    (makes_kind s c.node t (SubLetter t k v) (tree_kind_at s t.0) refl) where
      by : (h a d m g : Bool) → m ≡ g
          → ((true && (a && (true && d))) && (true && m)) ≡ ((h || not false) && (a && (true && true && (d && true && g))))
      by h a d m g same = grind arith

pub note_apt : (s : ScriptData) (p from : ℕ) (c : Core) (t : TreeNo) (k : SubNo) (v : Version) (notice : Notice)
    → (is_due s p c.node from (Done t k v notice)
    && is_near_answer s c.node (answer_noted t k (values_of notice) c.node.homes))
    ≡ apt_by s p from c (Done t k v notice)
note_apt s p from c t k v notice =
    by (has_strict s) (is_named s p from (Done t k v notice)) (is_timely s c.node (Done t k v notice))
    (is_near_answer s c.node (answer_noted t k (values_of notice) c.node.homes)) where
      by : (h a d e : Bool)
          → ((true && (a && (true && d))) && e) ≡ ((h || not false) && (a && (true && true && (d && e && true))))
      by h a d e = grind arith

pub decision_apt : (s : ScriptData) (p from : ℕ) (c : Core) (t : TreeNo) (v : Version) (commit : Bool)
    → decide_apt s p from c t v commit ≡ apt_by s p from c (Decide t v commit)
decision_apt s p from c t v commit =
    by (has_strict s) (visits (subs_at s t.0) p) (nat_lt from s.nodes) (is_near c.node v) (is_strict_at s t.0)
    (can_decide s p t v commit c.node.items) where
      by : (h a b d e f : Bool)
          → ((h && (a && b)) && (d && (e && f)))
          ≡ ((h || not true) && ((e && (a && b)) && (true && true && (d && true && f))))
      by h a b d e f = grind arith

pub ack_apt : (s : ScriptData) (p from : ℕ) (c : Core) (t : TreeNo) (v : Version)
    → acked_apt s p from c t v ≡ apt_by s p from c (Decided t v)
ack_apt s p from c t v =
    by (has_strict s) (home_of s t.0 == p) (nat_lt from s.nodes) (is_near c.node v) where
      by : (h a b d : Bool)
          → ((h && (a && b)) && d) ≡ ((h || not true) && ((a && b) && (true && true && (d && true && true))))
      by h a b d = grind arith

one_test : (h a : Bool) → (h && a) ≡ ((h || not true) && (a && (true && true && (true && true && true))))
one_test h a = grind arith

pub freed_apt : (s : ScriptData) (p from : ℕ) (c : Core) (t : TreeNo) → release_apt s p t ≡ apt_by s p from c (Release t)
freed_apt s p from c t = one_test (has_strict s) (visits (subs_at s t.0) p)

pub called_apt : (s : ScriptData) (p from : ℕ) (c : Core) (t : TreeNo) (k : SubNo)
    → wake_apt s p t k ≡ apt_by s p from c (Wake t k)
called_apt s p from c t k = one_test (has_strict s) (node_of s t.0 k.0 == p)

order_test : (h d : Bool) → d ≡ ((h || not false) && (true && (true && true && (d && true && true))))
order_test h d = grind arith

-- an order of a coordinator that remembers
pub plain_apt : (s : ScriptData) (p from : ℕ) (c : Core) (what : What) (v : Version)
    → can_obey what v c.node.turns ≡ apt_by s p from c (plain_order what v)
plain_apt s p from c whats.Turn v = order_test (has_strict s) (is_timely s c.node (Turn v))
plain_apt s p from c whats.Show v = order_test (has_strict s) (is_timely s c.node (Show v))
plain_apt s p from c whats.Sweep v = order_test (has_strict s) (is_timely s c.node (Sweep v))

-- one of a coordinator that forgets
pub order_apt : (s : ScriptData) (p from : ℕ) (c : Core) (e : ℕ) (what : What) (v : Version)
    → (nat_lt e c.epoch || can_obey what v c.node.turns) ≡ apt_by s p from c (Order e what v)
order_apt s p from c e whats.Turn v = order_test (has_strict s) (nat_lt e c.epoch || is_timely s c.node (Turn v))
order_apt s p from c e whats.Show v = order_test (has_strict s) (nat_lt e c.epoch || is_timely s c.node (Show v))
order_apt s p from c e whats.Sweep v = order_test (has_strict s) (nat_lt e c.epoch || is_timely s c.node (Sweep v))

-- what asks a node for its numbers
pub done_row_apt : (s : ScriptData) (p from : ℕ) (c : Core) (v : Version) (k : ℕ)
    → true ≡ apt_by s p from c (AskDone v k)
done_row_apt s p from c v k = order_test (has_strict s) true

pub asked_row_apt : (s : ScriptData) (p from : ℕ) (c : Core) (v : Version) (k : ℕ)
    → true ≡ apt_by s p from c (AskAsked v k)
asked_row_apt s p from c v k = order_test (has_strict s) true

pub ask_apt : (s : ScriptData) (p from : ℕ) (c : Core) (e : ℕ) → true ≡ apt_by s p from c (Ask e)
ask_apt s p from c e = order_test (has_strict s) true

-- a message without a row of its own is enabled, isn't deferred, and changes nothing
pub other_row : (s : ScriptData) (p from : ℕ) (c : Core) (body : Body) → is_own body ≡ false
    → (true ≡ apt_by s p from c body) × (core_keeping s c body ≡ None) × (core_row s p c from body ≡ still c)
other_row s p from c (Root t) is = absurd (cc)
other_row s p from c (SubLetter t k v) is = absurd (cc)
other_row s p from c (Done t k v notice) is = absurd (cc)
other_row s p from c (Turn v) is = absurd (cc)
other_row s p from c (Show v) is = absurd (cc)
other_row s p from c (Sweep v) is = absurd (cc)
other_row s p from c (AskDone v k) is = absurd (cc)
other_row s p from c (AskAsked v k) is = absurd (cc)
other_row s p from c (Decide t v commit) is = absurd (cc)
other_row s p from c (Decided t v) is = absurd (cc)
other_row s p from c (Release t) is = absurd (cc)
other_row s p from c (Wake t k) is = absurd (cc)
other_row s p from c (Order e what v) is = absurd (cc)
other_row s p from c (Ask e) is = absurd (cc)
other_row s p from c _ is = (order_test (has_strict s) true, refl, refl)

-- A message that the script's coordinator has is enabled just if it is so by this; any other isn't.
own_first : (a own b : Bool) → own ≡ true → (a && b) ≡ ((a && own) && b)
own_first a own b is = grind arith

other_first : (a own b : Bool) → own ≡ false → ((a && own) && b) ≡ false
other_first a own b is = grind arith

-- what is tested of a message once it is one that the script has
abbrev is_apt_there : ScriptData → ℕ → Core → Letter → Bool
is_apt_there s p c l =
    is_named s p l.from.0 l.body
    && (is_new s c.node l.body && is_unheld l.body c.holds
    && (is_core_timely s c l.body && decides_near s c.node l.body && can_make_at s p c l.body))

pub own_apt : (s : ScriptData) (p : ℕ) (c : Core) (l : Letter) → suits_coordinator s l.body ≡ true
    → apt_by s p l.from.0 c l.body ≡ is_core_apt s p c l
own_apt s p c l own =
    own_first (has_strict s || not (is_of_strict l.body)) (suits_coordinator s l.body) (is_apt_there s p c l) own

pub other_unapt : (s : ScriptData) (p : ℕ) (c : Core) (l : Letter) → suits_coordinator s l.body ≡ false
    → is_core_apt s p c l ≡ false
other_unapt s p c l other =
    other_first (has_strict s || not (is_of_strict l.body)) (suits_coordinator s l.body) (is_apt_there s p c l) other
