-- What an entry of a run of enabled messages sends and does, of a transaction's messages and acts.
use Rattle.std.proofs.Common.{◌≡◌, ℕ, ◌+◌, ◌<◌, ◌≤◌, ◌==◌, ◌&&◌, Bool, true, false, not, List, [], ◌∷◌, ◌++◌, length, take, drop, refl, sym, ap, ◌∙◌, arith}
use Rattle.std.specs.Prelude.{if◌then◌else◌, nat_lt}
use Rattle.std.specs.List.{AllByRecursion}
use Rattle.std.proofs.lemmas.Bool.Decides.{nat_tests}
use Rattle.std.proofs.lemmas.List.Elements.{recursion_from_All}
use Rattle.tv_base.specs.declared.numbers.Version.{Version}
use Rattle.tv_base.proofs.Chosen.{unless_most}
use Rattle.tx_trees.proofs.SubsOf.{home_below}
use Rattle.letter_types.specs.declared.acts.Act.{Act}
use Rattle.letter_types.specs.declared.acts.Act.TheVariants as acts
use Rattle.letter_types.specs.declared.bodies.Body.{Body}
use Rattle.letter_types.specs.declared.bodies.Body.TheVariants.{Advanced, AskAsked, AskDone, Go, Reply, Root, Show, Sub as SubLetter, Sweep, Turn, Wake, Ask, Order, Wanted}
use Rattle.letter_types.specs.declared.bodies.Notice.{Notice}
use Rattle.letter_types.specs.declared.bodies.Notice.TheVariants.{Did as DidNotice}
use Rattle.letter_types.specs.declared.entries.Entry.{Entry}
use Rattle.letter_types.specs.declared.entries.Letter.{Letter}
use Rattle.letter_types.specs.declared.entries.Outgoing.{Outgoing}
use Rattle.letter_types.specs.declared.kept.KeptLetter.{KeptLetter}
use Rattle.letter_types.specs.declared.kept.KeepReason.{KeepReason}
use Rattle.letter_types.specs.Kept.{kept_without, wakes}
use Rattle.letter_types.specs.Steps.{Out, still}
use Rattle.tx_trees.proofs.SubsOf.{names_end, sub_nodes}
use Rattle.tx_trees.specs.ScriptData.{ScriptData, client_of, home_of, subs_at}
use Rattle.tx_trees.specs.Valid.{IsValid, NamesInOrder}
use Rattle.tx_trees.specs.declared.parts.ScriptRow.{ScriptRow}
use Rattle.tx_trees.specs.declared.parts.ScriptRow.TheVariants.{Tree as TreeRow, Advance, Settle, Lose}
use Rattle.tx_trees.specs.declared.parts.Sub.{Sub}
use Rattle.world_model.specs.Keeping.{woken_by}
use Rattle.world_model.specs.AllApt.{AllApt}
use Rattle.world_model.specs.Children.{done_letter, sub_letters}
use Rattle.world_model.specs.Client.{Client, advance_letter, advances_sent, client_finishes, client_row, next_after, nudge, rows_letters, submit, submitted, wanted, with_answer, with_end}
use Rattle.world_model.specs.Core.{Core}
use Rattle.world_model.specs.Counts.{one_if, tally}
use Rattle.world_model.specs.Done.{turned_if}
use Rattle.world_model.specs.Kept.{done_by, keeps_letter, kept_in, of_done, outstanding}
use Rattle.world_model.specs.Runs.{IsStepRun, MayFollow, Says, client_in, keeping_in}
use Rattle.world_model.specs.Strict.{CoreKeeping, core_row}
use Rattle.world_model.specs.Tables.{client_table}
use Rattle.world_model.proofs.Bags.{sealed_tally, tally-append}
use Rattle.world_model.proofs.Cases.{Case, Coordinates, Does, Keeps, NodeDoes, NodeKeeps, Submits, case, does_number, keeps_number, apt_named}
use Rattle.world_model.proofs.EachOutstanding.{done_outstanding}
use Rattle.world_model.proofs.Coordination.{IsCoordinated, IsOfCoordinator}
use Rattle.world_model.proofs.Every.{each_map, each_none}
use Rattle.world_model.proofs.Flows.{client_kept, finish_none}
use Rattle.world_model.proofs.Keepings.{OfKeepings, of_kept}
use Rattle.world_model.proofs.Orders.{of}
use Rattle.world_model.proofs.Outstanding.{done_apart, outstanding_first, outstanding_step, took_outstanding}
use Rattle.tree_laws.proofs.homes.Sent.{tally_take_le, tally_take_more}
use Rattle.tree_laws.proofs.histories.Turns.{OfTreeActs, OfTreeLetters, Works, core_works, done_for, is_tree_act, is_tree_letter, sent_for, work_version}
use Rattle.world_model.proofs.Sends.{asked_each, advance_each}

-- a letter that asks for a subtransaction and doesn't go to a node, or asks for a root by a Sub
abbrev pub strays : ScriptData → ℕ → Body → ℕ
strays s to (Root t) = one_if (not (nat_lt to s.nodes))
strays s to (SubLetter t k v) = one_if (not (nat_lt to s.nodes)) + one_if (k.0 == 0)
strays s to Go = 0
strays s to _ = 0

abbrev pub strayed : ScriptData → Letter → ℕ
strayed s l = strays s l.to.0 l.body

abbrev pub sent_astray : ScriptData → Outgoing → ℕ
sent_astray s o = strays s o.to.0 o.body

-- no letter that has still to be done is one
abbrev pub NoneStrays : ScriptData → List Entry → Type 0
NoneStrays s past = tally (strayed s) (outstanding s past) ≡ 0

-- what an entry does: a tree's letters are sent and acts done for a letter of this body, in this version, and these
-- rows are submitted; and that letter is the one that is done
pub record Enters (s : ScriptData) (past : List Entry) (e : Entry) : Type 0 where
  pub to : ℕ
  pub body : Body
  pub version : Version
  pub notice : Notice
  pub before : ℕ
  pub rows : List ScriptRow
  pub near : strays s to body ≡ 0
  pub done : (f : Body → ℕ) → f Go ≡ 0 → of_done (λ (l : Letter). f l.body) s past e ≡ f body
  pub sends : (f : Outgoing → ℕ) → OfTreeLetters f
      → tally f e.sent ≡ tally f (sent_for s version notice body) + tally f (rows_letters s before rows)
  pub acts : (g : Act → ℕ) → OfTreeActs g → tally g e.acts ≡ tally g (done_for version notice body)
  pub next : (f : ScriptRow → ℕ)
      → tally f (take (client_in s (e ∷ past)).next s.rows) ≡ tally f (take (client_in s past).next s.rows) + tally f rows
  pub known : (f : ScriptRow → ℕ) → tally f rows ≤ tally f s.rows

-- Wakes are no tree's letters.
wake_none : (f : Outgoing → ℕ) (b : Bool) (o : Outgoing) (os : List Outgoing) → f o ≡ 0 → tally f os ≡ 0
    → tally f (if b then o ∷ os else os) ≡ 0
wake_none f true o os one none = omega (arith, one, none)
wake_none f false o os one none = none

pub wakes_none : (f : Outgoing → ℕ) (test : KeepReason → Bool) (kept : List KeptLetter)
    → ((x : KeptLetter) → f (record { to = x.letter.to; body = Wake x.tree x.sub }) ≡ 0) → tally f (wakes test kept) ≡ 0
wakes_none f test [] none = refl
wakes_none f test (x ∷ xs) none =
    let wake : Outgoing = record { to = x.letter.to; body = Wake x.tree x.sub } in
    wake_none f (test x.why) wake (wakes test xs) (none x) (wakes_none f test xs none)

-- A node does a letter.
-- the letter that an entry does is outstanding before it
pub done_before : (f : Letter → ℕ) (s : ScriptData) (past : List Entry) (e : Entry) → MayFollow s past e
    → of_done f s past e ≤ tally f (outstanding s past)
done_before f s past e m =
    omega (arith, unless_most (keeps_letter s past e) (f (done_by s past e)), done_outstanding s past e m f)

pub does_near : (s : ScriptData) (past : List Entry) (e : Entry) (p : ℕ) (r : Letter) → MayFollow s past e → NoneStrays s past
    → Does s past e p r → strays s r.to.0 r.body ≡ 0
does_near s past e p r m none d =
    omega (arith, none, does_number (strayed s) s past e p r d, done_before (strayed s) s past e m)

kept_rows : (s : ScriptData) (past : List Entry) (e : Entry) → client_in s (e ∷ past) ≡ client_in s past → (f : ScriptRow → ℕ)
    → tally f (take (client_in s (e ∷ past)).next s.rows) ≡ tally f (take (client_in s past).next s.rows) + 0
kept_rows s past e same f = omega (arith, ap (λ (c : Client). tally f (take c.next s.rows)) same)

node_rows : (s : ScriptData) (past : List Entry) (e : Entry) (p : ℕ) → e.actor.0 ≡ p → p < s.nodes → (f : ScriptRow → ℕ)
    → tally f (take (client_in s (e ∷ past)).next s.rows) ≡ tally f (take (client_in s past).next s.rows) + 0
node_rows s past e p at lt f = kept_rows s past e (client_kept s past e (omega (arith, at, lt))) f

does_enters : (s : ScriptData) (past : List Entry) (e : Entry) (p : ℕ) (r : Letter) → MayFollow s past e → NoneStrays s past
    → Does s past e p r → Enters s past e
does_enters s past e p r m none d =
    let c : Core = (keeping_in s past p).core in
    let more : List Outgoing = wakes (woken_by (keeping_in s past p).core r.body) (kept_without (kept_in s past p) e.took.body) in
    let row : Out Core = core_row s p c r.from.0 r.body in
    let w : Works s (work_version s c r.body) r.body row.sent row.acts = core_works s p r.from.0 r.body c d.brings.below (apt_named s p c r d.brings.apt) in
    record {
      to = r.to.0;
      body = r.body;
      version = work_version s c r.body;
      notice = w.notice;
      before = 0;
      rows = [];
      near = does_near s past e p r m none d;
      done = λ f go. does_number (λ (l : Letter). f l.body) s past e p r d;
      sends = λ f of.
          omega (
            arith,
            ap (λ (os : List Outgoing). tally f os) d.sent,
            tally-append f row.sent more,
            wakes_none f (woken_by (keeping_in s past p).core r.body) (kept_without (kept_in s past p) e.took.body) (λ x. of (record { to = x.letter.to; body = Wake x.tree x.sub }) refl),
            w.sends f of,
          );
      acts = λ g of. ap (λ (xs : List Act). tally g xs) d.acts ∙ w.acts g of;
      next = node_rows s past e p d.brings.at d.brings.below;
      known = λ f. omega arith;
    }

-- what it enters is of that letter, in the version in which it is done
pub does_as : (s : ScriptData) (past : List Entry) (e : Entry) (p : ℕ) (r : Letter) → MayFollow s past e → NoneStrays s past
    → Does s past e p r
    → (n : Enters s past e) × ((n.version ≡ work_version s (keeping_in s past p).core r.body) × (n.body ≡ r.body))
unfolding does_enters
does_as s past e p r m none d = (does_enters s past e p r m none d, (refl, refl))

-- A node keeps a letter.
abbrev KeepsQuiet : CoreKeeping → Type 0
KeepsQuiet k = (g : Act → ℕ) → OfTreeActs g → tally g k.acts ≡ 0

parked_none : (g : Act → ℕ) (raises : Bool) (v : ℕ) (a : Act) → OfTreeActs g → is_tree_act a ≡ false
    → tally g (turned_if raises v ++ a ∷ []) ≡ 0
parked_none g true v a of is = omega (arith, of (acts.Turned (record { 0 = v })) refl, of a is)
parked_none g false v a of is = omega (arith, of a is)

keeps_quiet : (c : Core) → OfKeepings c KeepsQuiet
keeps_quiet c = record {
  parks = λ t k raises v m g of. parked_none g raises v.0 (acts.Parked t k m.item m.holder) of refl;
  waits = λ t g of. omega (arith, of (acts.Waits t c.node.turns.update c.node.turns.read) refl);
}

keeps_enters : (s : ScriptData) (past : List Entry) (e : Entry) (p : ℕ) (r : Letter) (k : CoreKeeping) → Keeps s past e p r k
    → Enters s past e
keeps_enters s past e p r k d =
    let c : Core = (keeping_in s past p).core in
    record {
      to = 0;
      body = Go;
      version = record { 0 = 0 };
      notice = DidNotice [];
      before = 0;
      rows = [];
      near = refl;
      done = λ f go. keeps_number (λ (l : Letter). f l.body) s past e p r k d ∙ sym go;
      sends = λ f of. ap (λ (os : List Outgoing). tally f os) d.sent;
      acts = λ g of. ap (λ (xs : List Act). tally g xs) d.acts ∙ of_kept s c KeepsQuiet r.body k (keeps_quiet c) d.keeps g of;
      next = node_rows s past e p d.brings.at d.brings.below;
      known = λ f. omega arith;
    }

-- Another actor takes no letter that asks for a subtransaction.
pub outside : (s : ScriptData) (to : ℕ) → s.nodes ≤ to → one_if (not (nat_lt to s.nodes)) ≡ 1
outside s to le = grind (arith, nat_tests)

apart_sent : (s : ScriptData) (to : ℕ) (body : Body) (v : Version) (notice : Notice) → s.nodes ≤ to → strays s to body ≡ 0
    → sent_for s v notice body ≡ []
apart_sent s to (Root t) v notice le none = absurd (omega (arith, none, outside s to le))
apart_sent s to (SubLetter t k w) v notice le none = absurd (omega (arith, none, outside s to le))
apart_sent s to _ v notice le none = refl

apart_done : (s : ScriptData) (to : ℕ) (body : Body) (v : Version) (notice : Notice) → s.nodes ≤ to → strays s to body ≡ 0
    → done_for v notice body ≡ []
apart_done s to (Root t) v notice le none = absurd (omega (arith, none, outside s to le))
apart_done s to (SubLetter t k w) v notice le none = absurd (omega (arith, none, outside s to le))
apart_done s to _ v notice le none = refl

-- such an entry, by its rows
apart_enters : (s : ScriptData) (past : List Entry) (e : Entry) (before : ℕ) (rows : List ScriptRow) → MayFollow s past e → NoneStrays s past
    → s.nodes ≤ e.actor.0
    → ((f : Outgoing → ℕ) → OfTreeLetters f → tally f e.sent ≡ tally f (rows_letters s before rows))
    → ((g : Act → ℕ) → OfTreeActs g → tally g e.acts ≡ 0)
    → ((f : ScriptRow → ℕ) → tally f (take (client_in s (e ∷ past)).next s.rows) ≡ tally f (take (client_in s past).next s.rows) + tally f rows)
    → ((f : ScriptRow → ℕ) → tally f rows ≤ tally f s.rows) → Enters s past e
apart_enters s past e before rows m none out sent quiet next known =
    let v : Version = record { 0 = 0 } in
    let to : s.nodes ≤ e.took.to.0 = omega (arith, out, m.addressee) in
    let near : strays s e.took.to.0 e.took.body ≡ 0 = omega (arith, none, took_outstanding s past e m (strayed s)) in
    record {
      to = e.took.to.0;
      body = e.took.body;
      version = v;
      notice = DidNotice [];
      before = before;
      rows = rows;
      near = near;
      done = λ f go. done_apart (λ (l : Letter). f l.body) s past e out;
      sends = λ f of. omega (arith, sent f of, ap (λ (os : List Outgoing). tally f os) (apart_sent s e.took.to.0 e.took.body v (DidNotice []) to near));
      acts = λ g of. omega (arith, quiet g of, ap (λ (xs : List Act). tally g xs) (apart_done s e.took.to.0 e.took.body v (DidNotice []) to near));
      next = next;
      known = known;
    }

-- The coordinator.
orders_none : (f : Outgoing → ℕ) → OfTreeLetters f → (s : ScriptData) (o : Outgoing) → IsOfCoordinator s o.to.0 o.body → f o ≡ 0
orders_none f of s o is = of o (by o.body is) where
  by : (body : Body) → IsOfCoordinator s o.to.0 body → is_tree_letter body ≡ false
  by (Turn v) is = refl
  by (Show v) is = refl
  by (Sweep v) is = refl
  by (Order e what v) is = refl
  by (Ask e) is = refl
  by (AskDone v k) is = refl
  by (AskAsked v k) is = refl
  by (Advanced v) is = refl
  by Go is = absurd is
  by _ is = absurd is

coordinates_enters : (s : ScriptData) (past : List Entry) (e : Entry) → MayFollow s past e → NoneStrays s past → e.actor.0 ≡ s.nodes
    → IsCoordinated s e → Enters s past e
coordinates_enters s past e m none at made =
    apart_enters s past e 0 [] m none (omega (arith, at))
    (λ f counts. each_none f e.sent (each_map (of (IsOfCoordinator s)) (λ (o : Outgoing). f o ≡ 0) e.sent (λ o is. orders_none f counts s o is) made.sent))
    (λ g counts. ap (λ (xs : List Act). tally g xs) made.acts)
    (kept_rows s past e (client_kept s past e (omega (arith, at)))) (λ f. omega arith)

-- The client: it submits rows, or none.
pub record Submitted (s : ScriptData) (c : Client) (out : Out Client) : Type 0 where
  pub before : ℕ
  pub rows : List ScriptRow
  pub sends : (f : Outgoing → ℕ) → OfTreeLetters f → tally f out.sent ≡ tally f (rows_letters s before rows)
  pub acts : (g : Act → ℕ) → OfTreeActs g → tally g out.acts ≡ 0
  pub next : (f : ScriptRow → ℕ) → tally f (take out.state.next s.rows) ≡ tally f (take c.next s.rows) + tally f rows
  pub known : (f : ScriptRow → ℕ) → tally f rows ≤ tally f s.rows

submits : (s : ScriptData) (c d : Client) (first : List Outgoing) → d.next ≡ c.next
    → ((f : Outgoing → ℕ) → OfTreeLetters f → tally f first ≡ 0) → Submitted s c (submit s d first)
submits s c d first same quiet =
    let n : ℕ = submitted d (take d.next s.rows) (drop d.next s.rows) in
    let rows : List ScriptRow = take n (drop d.next s.rows) in
    record {
      before = advances_sent s d;
      rows = rows;
      sends = λ f of. omega (arith, tally-append f first (rows_letters s (advances_sent s d) rows), quiet f of);
      acts = λ g of. finish_none g (client_finishes s (next_after s d) d) (of acts.Finished refl);
      next = λ f. omega (arith, tally_take_more f d.next n s.rows, ap (λ (i : ℕ). tally f (take i s.rows)) same);
      known = λ f. omega (arith, tally_take_more f d.next n s.rows, tally_take_le f (d.next + n) s.rows);
    }

stands : (s : ScriptData) (c : Client) → Submitted s c (still c)
stands s c = record {
  before = 0;
  rows = [];
  sends = λ f of. refl;
  acts = λ g of. refl;
  next = λ f. omega arith;
  known = λ f. omega arith;
}

hears : (s : ScriptData) (c : Client) (t : ℕ) (test : Bool) → Submitted s c (if test then submit s (with_answer t c) (nudge s ∷ []) else still c)
hears s c t true = submits s c (with_answer t c) (nudge s ∷ []) refl (λ f of. omega (arith, of (nudge s) refl))
hears s c t false = stands s c

-- it tells how many advancements it was asked for
tells_wanted : (s : ScriptData) (c : Client) (e : ℕ) → Submitted s c (wanted s e c)
tells_wanted s c e = record {
  before = 0;
  rows = [];
  sends = λ f of. omega (arith, of (record { to = record { 0 = s.nodes }; body = Wanted e (advances_sent s c) }) refl);
  acts = λ g of. refl;
  next = λ f. omega arith;
  known = λ f. omega arith;
}

client_submits : (s : ScriptData) (c : Client) (body : Body) → Submitted s c (client_row s c body)
client_submits s c Go = submits s c c [] refl (λ f of. refl)
client_submits s c (Reply t v answer) = hears s c t.0 (nat_lt t.0 (length s.trees))
client_submits s c (Advanced v) = submits s c (with_end s v c) [] refl (λ f of. refl)
client_submits s c (Ask e) = asked_each (Submitted s c) s c e (stands s c) (λ is. tells_wanted s c e)
client_submits s c _ = stands s c

pub client_moves : (s : ScriptData) (past : List Entry) (e : Entry) → e.actor.0 ≡ client_of s
    → client_in s (e ∷ past) ≡ (client_table s (client_in s past) e.took).state
client_moves s past e at = let here : (e.actor.0 == client_of s) ≡ true = grind (arith, nat_tests) in rw here refl

submits_enters : (s : ScriptData) (past : List Entry) (e : Entry) → MayFollow s past e → NoneStrays s past → e.actor.0 ≡ client_of s
    → Says (client_table s (client_in s past) e.took) e → Enters s past e
submits_enters s past e m none at says =
    let c : Client = client_in s past in
    let sub : Submitted s c (client_table s c e.took) = client_submits s c e.took.body in
    apart_enters s past e sub.before sub.rows m none (omega (arith, at)) (λ f of. ap (λ (os : List Outgoing). tally f os) says.0 ∙ sub.sends f of)
    (λ g of. ap (λ (xs : List Act). tally g xs) says.1 ∙ sub.acts g of)
    (λ f. ap (λ (d : Client). tally f (take d.next s.rows)) (client_moves s past e at) ∙ sub.next f) sub.known

-- So by the cases of an entry.
enters_by : (s : ScriptData) (past : List Entry) (e : Entry) → MayFollow s past e → NoneStrays s past → Case s past e → Enters s past e
enters_by s past e m none (NodeDoes p r d) = does_enters s past e p r m none d
enters_by s past e m none (NodeKeeps p r k d) = keeps_enters s past e p r k d
enters_by s past e m none (Coordinates at made) = coordinates_enters s past e m none at made
enters_by s past e m none (Submits at says) = submits_enters s past e m none at says

-- No letter strays.
tree_letters_stray : (s : ScriptData) → OfTreeLetters (sent_astray s)
tree_letters_stray s o is = by o.body is where
  by : (b : Body) → is_tree_letter b ≡ false → strays s o.to.0 b ≡ 0
  by (Root t) no_tree = absurd (cc no_tree)
  by (SubLetter t k v) no_tree = absurd (cc no_tree)
  by Go no_tree = refl
  by _ no_tree = refl

child_near : (s : ScriptData) (t v parent k : ℕ) (x : Sub) (xs : List Sub) → x.node.0 < s.nodes → (test : Bool)
    → (nat_lt parent k && (x.parent.0 == parent)) ≡ test → tally (sent_astray s) (sub_letters t v parent (k + 1) xs) ≡ 0
    → tally (sent_astray s) (sub_letters t v parent k (x ∷ xs)) ≡ 0
child_near s t v parent k x xs lt true is rest =
    let at_node : one_if (not (nat_lt x.node.0 s.nodes)) ≡ 0 = grind (arith, nat_tests) in
    let later : one_if (k == 0) ≡ 0 = grind (arith, nat_tests) in
    rw is (omega (arith, at_node, later, rest))
child_near s t v parent k x xs lt false is rest = rw is rest

children_near : (s : ScriptData) (t v parent k : ℕ) (xs : List Sub) → AllByRecursion (λ (x : Sub). x.node.0 < s.nodes) xs
    → tally (sent_astray s) (sub_letters t v parent k xs) ≡ 0
children_near s t v parent k [] all = refl
children_near s t v parent k (x ∷ xs) all =
    child_near s t v parent k x xs all.0 (nat_lt parent k && (x.parent.0 == parent)) refl (children_near s t v parent (k + 1) xs all.1)

nodes_of : (s : ScriptData) (t : ℕ) → IsValid s → AllByRecursion (λ (x : Sub). x.node.0 < s.nodes) (subs_at s t)
nodes_of s t valid = recursion_from_All (λ (x : Sub). x.node.0 < s.nodes) (subs_at s t) (sub_nodes s t valid)

sent_near : (s : ScriptData) (v : Version) (notice : Notice) (body : Body) → IsValid s
    → tally (sent_astray s) (sent_for s v notice body) ≡ 0
sent_near s v notice (Root t) valid = children_near s t.0 v.0 0 0 (subs_at s t.0) (nodes_of s t.0 valid)
sent_near s v notice (SubLetter t k w) valid =
    omega (
      arith,
      tally-append (sent_astray s) (sub_letters t.0 w.0 k.0 0 (subs_at s t.0)) (done_letter (home_of s t.0) t.0 k.0 w.0 notice ∷ []),
      children_near s t.0 w.0 k.0 0 (subs_at s t.0) (nodes_of s t.0 valid),
    )
sent_near s v notice _ valid = refl

-- a row's letter
abbrev row_strays : ScriptData → ScriptRow → ℕ
row_strays s (TreeRow t) = one_if (not (nat_lt (home_of s t.0) s.nodes))
row_strays s Settle = 0
row_strays s _ = 0

advance_strays : (s : ScriptData) (to k : ℕ) → strays s to (advance_letter s k) ≡ 0
advance_strays s to k = advance_each (λ body. strays s to body ≡ 0) s k (λ is. refl) (λ is. refl)

rows_stray : (s : ScriptData) (k : ℕ) (rows : List ScriptRow) → tally (sent_astray s) (rows_letters s k rows) ≡ tally (row_strays s) rows
rows_stray s k [] = refl
rows_stray s k (TreeRow t ∷ rows) = omega (arith, rows_stray s k rows)
rows_stray s k (Advance ∷ rows) = omega (arith, advance_strays s s.nodes k, rows_stray s (k + 1) rows)
rows_stray s k (Settle ∷ rows) = omega (arith, rows_stray s k rows)
rows_stray s k (Lose ∷ rows) = omega (arith, rows_stray s k rows)

rows_near : (s : ScriptData) (i : ℕ) (rows : List ScriptRow) → IsValid s → NamesInOrder i (length s.trees) rows
    → tally (row_strays s) rows ≡ 0
rows_near s i [] valid names = refl
rows_near s i (TreeRow t ∷ rows) valid names =
    let lt : t.0 < length s.trees = omega (arith, names.0, names_end (i + 1) (length s.trees) rows names.1) in
    let below : home_of s t.0 < s.nodes = home_below s t.0 valid lt in
    let near : one_if (not (nat_lt (home_of s t.0) s.nodes)) ≡ 0 = grind (arith, nat_tests) in
    omega (arith, near, rows_near s (i + 1) rows valid names.1)
rows_near s i (Advance ∷ rows) valid names = omega (arith, rows_near s i rows valid names)
rows_near s i (Settle ∷ rows) valid names = omega (arith, rows_near s i rows valid names)
rows_near s i (Lose ∷ rows) valid names = omega (arith, rows_near s i rows valid names)

near_next : (s : ScriptData) (past : List Entry) (e : Entry) → IsValid s → MayFollow s past e → NoneStrays s past → Enters s past e
    → NoneStrays s (e ∷ past)
near_next s past e valid m none n =
    omega (
      arith,
      none,
      outstanding_step (strayed s) s past e (λ l t k is. ap (strays s l.to.0) is) m,
      sealed_tally (strayed s) (sent_astray s) e.stamp.0 e.actor.0 0 e.sent (λ i o. refl),
      n.sends (sent_astray s) (tree_letters_stray s),
      sent_near s n.version n.notice n.body valid,
      rows_stray s n.before n.rows,
      n.known (row_strays s),
      rows_near s 0 s.rows valid valid.rows,
    )

pub none_strays : (s : ScriptData) (past : List Entry) → IsValid s → AllApt s past → IsStepRun s past → NoneStrays s past
none_strays s [] valid apt run = omega (arith, outstanding_first (strayed s) s)
none_strays s (e ∷ past) valid apt run =
    let none = none_strays s past valid apt.1 run.1 in
    near_next s past e valid run.0 none (enters_by s past e run.0 none (case s past e run.0 apt.0))

-- each entry of a run of apt letters
pub enters : (s : ScriptData) (past : List Entry) (e : Entry) → IsValid s → AllApt s (e ∷ past) → IsStepRun s (e ∷ past) → Enters s past e
enters s past e valid apt run =
    enters_by s past e run.0 (none_strays s past valid apt.1 run.1) (case s past e run.0 apt.0)
