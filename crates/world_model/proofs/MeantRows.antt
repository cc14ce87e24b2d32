-- What each actor sends is meant, by rows.
use Rattle.std.proofs.Common.{◌≡◌, ℕ, suc, ◌+◌, ◌<◌, ◌≤◌, ◌==◌, ◌&&◌, Bool, true, false, List, [], ◌∷◌, length, take, drop, refl, sym, subst, arith, Some}
use Rattle.std.specs.Prelude.{if◌then◌else◌, nat_lt, slice_get}
use Rattle.std.proofs.lemmas.Bool.Decides.{nat_tests}
use Rattle.tv_base.specs.declared.numbers.SubNo.{SubNo}
use Rattle.tv_base.specs.declared.numbers.TreeNo.{TreeNo}
use Rattle.tv_base.proofs.Chosen.{not_none}
use Rattle.letter_types.specs.declared.bodies.Body.{Body}
use Rattle.letter_types.specs.declared.bodies.Body.TheVariants.{Go, Root, Sub as SubLetter, Done, Reply, Decide, Decided, Turn, Show, Sweep, AskDone, AskAsked, Advanced, Wake, Ask, Order}
use Rattle.letter_types.specs.declared.entries.Entry.{Entry}
use Rattle.letter_types.specs.declared.entries.Outgoing.{Outgoing}
use Rattle.letter_types.specs.declared.kept.KeptLetter.{KeptLetter}
use Rattle.letter_types.specs.declared.kept.KeepReason.{KeepReason}
use Rattle.letter_types.specs.Kept.{wakes}
use Rattle.letter_types.specs.Steps.{Out, still}
use Rattle.script_parts.specs.Counts.{has_strict, loses_in, is_lossy}
use Rattle.script_parts.specs.ScriptData.{ScriptData, home_of, node_of, sub_at, subs_at}
use Rattle.script_parts.specs.Valid.{IsValid, NamesInOrder}
use Rattle.script_parts.specs.declared.parts.ScriptRow.{ScriptRow}
use Rattle.script_parts.specs.declared.parts.ScriptRow.TheVariants.{Tree as TreeRow, Advance as AdvanceRow, Settle as SettleRow, Lose as LoseRow}
use Rattle.script_parts.specs.declared.parts.Sub.{Sub}
use Rattle.script_parts.proofs.SubsOf.{names_end, has_root}
use Rattle.world_model.specs.Children.{sub_letters}
use Rattle.world_model.specs.Client.{Client, advance_letter, advances_sent, client_row, nudge, rows_letters, submit, submitted, with_answer, with_end}
use Rattle.world_model.specs.Core.{Core}
use Rattle.world_model.specs.Counts.{Each}
use Rattle.world_model.specs.Keeping.{AreKeptAt, AsksFor, IsKeptAt}
use Rattle.world_model.specs.Named.{is_strict_at}
use Rattle.world_model.specs.Strict.{core_row}
use Rattle.world_model.proofs.EachOutstanding.{EachKept}
use Rattle.world_model.proofs.Coordination.{IsCoordinated, IsOfCoordinator}
use Rattle.world_model.proofs.Every.{each_append, each_map}
use Rattle.world_model.proofs.Fits.{each_drop, each_take}
use Rattle.world_model.proofs.Orders.{of}
use Rattle.world_model.proofs.Scripts.{get_below, strict_there}
use Rattle.world_model.specs.Meant.{IsLetterMeant, IsMeant}
use Rattle.world_model.proofs.HeldOwn.{HoldsOwn, acked_tree}
use Rattle.world_model.proofs.RowSends.{OfRow, OfTree, core_each}
use Rattle.world_model.proofs.Sends.{asked_each, advance_each}

-- all that an actor sends is meant
abbrev pub AreMeant : ScriptData → ℕ → List Outgoing → Type 0
AreMeant s from os = Each (of (IsMeant s from)) os

-- What trees there are.
-- a strict tree is one
pub strict_below : (s : ScriptData) (t : ℕ) → is_strict_at s t ≡ true → t < length s.trees
strict_below s t is = strict_there s t (slice_get s.trees t) refl is

-- The letters to children.
child_meant : (s : ScriptData) (t v parent from i : ℕ) (x : Sub) (xs : List Sub) → t < length s.trees → from < s.nodes
    → slice_get (subs_at s t) i ≡ Some x
    → AreMeant s from (sub_letters t v parent (i + 1) xs) → (test : Bool) → (nat_lt parent i && (x.parent.0 == parent)) ≡ test
    → AreMeant s from (sub_letters t v parent i (x ∷ xs))
child_meant s t v parent from i x xs lt node at rest true is =
    let there : node_of s t i ≡ x.node.0 = rw (at, sub_at, node_of) refl in
    let later : 0 < i = grind (arith, nat_tests) in
    rw is (
      record {
        tree = lt;
        sub = get_below (subs_at s t) i x at;
        later = later;
        node = sym there;
        sender = node;
      },
      rest,
    )
child_meant s t v parent from i x xs lt node at rest false is = rw is rest

children_meant : (s : ScriptData) (t v parent from i : ℕ) (xs : List Sub) → t < length s.trees → from < s.nodes
    → ((n : ℕ) (x : Sub) → slice_get xs n ≡ Some x → slice_get (subs_at s t) (i + n) ≡ Some x)
    → AreMeant s from (sub_letters t v parent i xs)
children_meant s t v parent from i [] lt node at = tt
children_meant s t v parent from i (x ∷ xs) lt node at =
    child_meant s t v parent from i x xs lt node (subst (λ (n : ℕ). slice_get (subs_at s t) n ≡ Some x) (omega arith) (at 0 x refl))
    (children_meant s t v parent from (i + 1) xs lt node
    (λ n y here. subst (λ (m : ℕ). slice_get (subs_at s t) m ≡ Some y) (omega arith) (at (suc n) y here)))
    (nat_lt parent i && (x.parent.0 == parent)) refl

all_children : (s : ScriptData) (t v parent from : ℕ) → t < length s.trees → from < s.nodes
    → AreMeant s from (sub_letters t v parent 0 (subs_at s t))
all_children s t v parent from lt node =
    children_meant s t v parent from 0 (subs_at s t) lt node
    (λ n x at. subst (λ (m : ℕ). slice_get (subs_at s t) m ≡ Some x) (omega arith) at)

-- The row of a letter that is meant.
tree_meant : (s : ScriptData) (p : ℕ) (t : TreeNo) → p < s.nodes → t.0 < length s.trees → p ≡ home_of s t.0
    → OfTree (IsMeant s p) s t
tree_meant s p t below lt home = record {
  children = λ v parent. all_children s t.0 v parent p lt below;
  reply = λ v answer. (lt, refl);
  release = λ q some up at. record { update = up; visited = at; some_strict = some };
  decide = λ q v commit strict at. record { strict = strict; visited = at; home = home };
}

row_meant : (s : ScriptData) (p from : ℕ) (c : Core) (body : Body) → p < s.nodes → HoldsOwn c.holds → IsMeant s from p body
    → OfRow (IsMeant s p) s c body
row_meant s p from c (Root t) below own meant = tree_meant s p t below meant.tree meant.home
row_meant s p from c (SubLetter t k v) below own meant = (
  λ w parent. all_children s t.0 w parent p meant.tree below,
  λ w notice fits. record {
    tree = meant.tree;
    sub = meant.sub;
    later = meant.later;
    home = refl;
    sender = below;
    fits = fits;
  },
)
row_meant s p from c (Done t k v notice) below own meant = tree_meant s p t below meant.tree meant.home
row_meant s p from c (Decide t v commit) below own meant =
    record { strict = meant.strict; visited = meant.visited; home = refl }
row_meant s p from c (Decided t v) below own meant = λ a answer is. (
  subst (λ (u : TreeNo). u.0 < length s.trees) (sym (acked_tree t c.holds a own is)) (strict_below s t.0 meant.strict),
  refl,
)
row_meant s p from c (Turn v) below own meant = ((below, refl), meant.1)
row_meant s p from c (Show v) below own meant = ((below, refl), meant.1)
row_meant s p from c (Sweep v) below own meant = ((below, refl), meant.1)
row_meant s p from c (AskDone v k) below own meant = λ row is. ((below, refl), is)
row_meant s p from c (AskAsked v k) below own meant = λ row is. ((below, refl), is)
row_meant s p from c (Order e what v) below own meant = ((below, refl), meant.1)
row_meant s p from c (Ask e) below own meant = λ u r l. ((below, refl), meant.1)
row_meant s p from c _ below own meant = tt

-- what a core sends
pub core_meant : (s : ScriptData) (p from : ℕ) (c : Core) (body : Body) → p < s.nodes → HoldsOwn c.holds → IsMeant s from p body
    → AreMeant s p (core_row s p c from body).sent
core_meant s p from c body below own meant =
    core_each (IsMeant s p) s p from body c (row_meant s p from c body below own meant)

-- A node's Wakes.
wake_by : (s : ScriptData) (p from : ℕ) (t : TreeNo) (k : SubNo) (body : Body) → IsValid s → has_strict s ≡ true → p < s.nodes
    → AsksFor t k body → IsMeant s from p body → IsMeant s p p (Wake t k)
wake_by s p from t k (Root u) valid some below asks meant =
    let tree : t.0 < length s.trees = subst (λ (x : TreeNo). x.0 < length s.trees) asks.0 meant.tree in
    let is : k.0 ≡ 0 = asks.1 in
    record {
      tree = tree;
      sub = subst (λ (n : ℕ). n < length (subs_at s t.0)) (sym is) (has_root s t.0 valid tree);
      node = subst (λ (n : ℕ). p ≡ node_of s t.0 n) (sym is) (subst (λ (x : TreeNo). p ≡ home_of s x.0) asks.0 meant.home);
      below = below;
      own = refl;
      some_strict = some;
    }
wake_by s p from t k (SubLetter u j v) valid some below asks meant =
    record {
      tree = subst (λ (x : TreeNo). x.0 < length s.trees) asks.0 meant.tree;
      sub = subst (λ (x : TreeNo). k.0 < length (subs_at s x.0)) asks.0
          (subst (λ (i : SubNo). i.0 < length (subs_at s u.0)) asks.1 meant.sub);
      node = subst (λ (x : TreeNo). p ≡ node_of s x.0 k.0) asks.0 (subst (λ (i : SubNo). p ≡ node_of s u.0 i.0) asks.1 meant.node);
      below = below;
      own = refl;
      some_strict = some;
    }
wake_by s p from t k _ valid some below asks meant = absurd asks

one_wake : (s : ScriptData) (p : ℕ) (test : KeepReason → Bool) (x : KeptLetter) (xs : List KeptLetter) (b : Bool) → IsValid s
    → has_strict s ≡ true → p < s.nodes → IsKeptAt p x → IsLetterMeant s x.letter → AreMeant s p (wakes test xs)
    → AreMeant s p (if b then record { to = x.letter.to; body = Wake x.tree x.sub } ∷ wakes test xs else wakes test xs)
one_wake s p test x xs true valid some below at meant rest =
    let here : IsMeant s x.letter.from.0 p x.letter.body =
    subst (λ (q : ℕ). IsMeant s x.letter.from.0 q x.letter.body) at.to meant in (
      subst (λ (q : ℕ). IsMeant s p q (Wake x.tree x.sub)) (sym at.to)
          (wake_by s p x.letter.from.0 x.tree x.sub x.letter.body valid some below at.asks here),
      rest,
    )
one_wake s p test x xs false valid some below at meant rest = rest

pub wakes_meant : (s : ScriptData) (p : ℕ) (test : KeepReason → Bool) (xs : List KeptLetter) → IsValid s → has_strict s ≡ true → p < s.nodes
    → AreKeptAt p xs → EachKept (IsLetterMeant s) xs → AreMeant s p (wakes test xs)
wakes_meant s p test [] valid some below at meant = tt
wakes_meant s p test (x ∷ xs) valid some below at meant =
    one_wake s p test x xs (test x.why) valid some below at.0 meant.0 (wakes_meant s p test xs valid some below at.1 meant.1)

-- The coordinator.
coordinated_meant : (s : ScriptData) (from to : ℕ) (body : Body) → IsOfCoordinator s to body → IsMeant s from to body
coordinated_meant s from to (Turn v) is = is
coordinated_meant s from to (Show v) is = is
coordinated_meant s from to (Sweep v) is = is
coordinated_meant s from to (Order e what v) is = is
coordinated_meant s from to (Ask e) is = is
coordinated_meant s from to (AskDone v k) is = is
coordinated_meant s from to (AskAsked v k) is = is
coordinated_meant s from to (Advanced v) is = is
coordinated_meant s from to Go is = absurd is
coordinated_meant s from to _ is = absurd is

pub coordinator_meant : (s : ScriptData) (e : Entry) → IsCoordinated s e → AreMeant s e.actor.0 e.sent
coordinator_meant s e made =
    each_map (of (IsOfCoordinator s)) (of (IsMeant s e.actor.0)) e.sent (λ o is. coordinated_meant s e.actor.0 o.to.0 o.body is) made.sent

-- The client.

-- a row that names a tree names one of the script, and a row that makes the coordinator forget makes the script one that does
abbrev pub NamesTree : ScriptData → ScriptRow → Type 0
NamesTree s (TreeRow t) = t.0 < length s.trees
NamesTree s LoseRow = is_lossy s ≡ true
NamesTree s SettleRow = Unit {0}
NamesTree s _ = Unit {0}

rows_from : (s : ScriptData) (i : ℕ) (rows : List ScriptRow) → NamesInOrder i (length s.trees) rows → loses_in rows ≤ loses_in s.rows
    → Each (NamesTree s) rows
rows_from s i [] names le = tt
rows_from s i (TreeRow t ∷ rows) names le =
    (omega (arith, names.0, names_end (i + 1) (length s.trees) rows names.1), rows_from s (i + 1) rows names.1 (omega (arith, le)))
rows_from s i (AdvanceRow ∷ rows) names le = (tt, rows_from s i rows names (omega (arith, le)))
rows_from s i (LoseRow ∷ rows) names le = (not_none (loses_in s.rows) (omega (arith, le)), rows_from s i rows names (omega (arith, le)))
rows_from s i (SettleRow ∷ rows) names le = (tt, rows_from s i rows names (omega (arith, le)))

pub rows_name : (s : ScriptData) → IsValid s → Each (NamesTree s) s.rows
rows_name s valid = rows_from s 0 s.rows valid.rows (omega arith)

advance_meant : (s : ScriptData) (from k : ℕ) → IsMeant s from s.nodes (advance_letter s k)
advance_meant s from k = advance_each (IsMeant s from s.nodes) s k (λ is. (refl, is)) (λ is. (refl, is))

rows_meant : (s : ScriptData) (from k : ℕ) (rows : List ScriptRow) → Each (NamesTree s) rows → AreMeant s from (rows_letters s k rows)
rows_meant s from k [] all = tt
rows_meant s from k (TreeRow t ∷ rows) all = (record { tree = all.0; home = refl }, rows_meant s from k rows all.1)
rows_meant s from k (AdvanceRow ∷ rows) all = (advance_meant s from k, rows_meant s from (k + 1) rows all.1)
rows_meant s from k (LoseRow ∷ rows) all = ((refl, all.0), rows_meant s from k rows all.1)
rows_meant s from k (SettleRow ∷ rows) all = rows_meant s from k rows all.1

submit_meant : (s : ScriptData) (c : Client) (from : ℕ) (first : List Outgoing) → IsValid s → AreMeant s from first
    → AreMeant s from (submit s c first).sent
submit_meant s c from first valid all =
    let n = submitted c (take c.next s.rows) (drop c.next s.rows) in
    each_append (of (IsMeant s from)) first (rows_letters s (advances_sent s c) (take n (drop c.next s.rows))) all
    (rows_meant s from (advances_sent s c) (take n (drop c.next s.rows))
    (each_take (NamesTree s) n (drop c.next s.rows) (each_drop (NamesTree s) c.next s.rows (rows_name s valid))))

pick_meant : (s : ScriptData) (from : ℕ) (b : Bool) (x y : Out Client) → AreMeant s from x.sent → AreMeant s from y.sent
    → AreMeant s from (if b then x else y).sent
pick_meant s from true x y l r = l
pick_meant s from false x y l r = r

pub client_meant : (s : ScriptData) (c : Client) (from : ℕ) (body : Body) → IsValid s → AreMeant s from (client_row s c body).sent
client_meant s c from Go valid = submit_meant s c from [] valid tt
client_meant s c from (Reply t v answer) valid =
    pick_meant s from (nat_lt t.0 (length s.trees)) (submit s (with_answer t.0 c) (nudge s ∷ [])) (still c)
    (submit_meant s (with_answer t.0 c) from (nudge s ∷ []) valid (refl, tt)) tt
client_meant s c from (Advanced v) valid = submit_meant s (with_end s v c) from [] valid tt
client_meant s c from (Ask e) valid = asked_each (λ (o : Out Client). AreMeant s from o.sent) s c e tt (λ is. ((refl, is), tt))
client_meant s c from _ valid = tt
