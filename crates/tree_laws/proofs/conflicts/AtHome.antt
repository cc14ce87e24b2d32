-- In every run each Did and each vote stands at the node of its subtransaction, so no other node takes a lock on an
-- item. So locks are those of the look back.
use Rattle.std.proofs.Common.{◌≡◌, ◌≢◌, ℕ, suc, ◌==◌, ◌&&◌, Bool, true, false, List, [], ◌∷◌, ◌++◌, map, reverse, refl, sym, ap, subst, ◌∙◌, arith, Option, Some, None}
use Rattle.std.specs.Prelude.{if◌then◌else◌, cond, filter, length, nat_lt, slice_get}
use Rattle.std.specs.List.{AllByRecursion}
use Rattle.std.proofs.lemmas.Bool.Decides.{nat_tests}
use Rattle.tv_base.specs.declared.numbers.SubNo.{SubNo}
use Rattle.tv_base.specs.declared.numbers.TreeNo.{TreeNo}
use Rattle.tv_base.specs.declared.numbers.Version.{Version}
use Rattle.letter_types.specs.Kept.{brought}
use Rattle.letter_types.specs.declared.acts.Act.{Act}
use Rattle.letter_types.specs.declared.acts.Act.TheVariants as acts
use Rattle.letter_types.specs.declared.bodies.Body.{Body}
use Rattle.letter_types.specs.declared.bodies.Body.TheVariants.{Advanced, Go, Reply, Root, Sub as SubLetter, Done, Turn, Show, Sweep, AskDone, AskAsked, Decide, Decided, Release, Ask, Order}
use Rattle.letter_types.specs.declared.bodies.Notice.{Notice}
use Rattle.letter_types.specs.declared.bodies.Notice.TheVariants as notices
use Rattle.letter_types.specs.declared.entries.Entry.{Entry}
use Rattle.letter_types.specs.declared.entries.Letter.{Letter}
use Rattle.letter_types.specs.declared.votes.Vote.TheVariants.{Yes, No}
use Rattle.letter_types.specs.Steps.{Out, still}
use Rattle.script_parts.specs.ScriptData.{ScriptData, home_of, node_of, ops_of, updates}
use Rattle.script_parts.specs.Valid.{IsValid}
use Rattle.script_parts.specs.declared.parts.ItemRow.{ItemRow}
use Rattle.script_parts.specs.declared.parts.SubOp.{SubOp}
use Rattle.script_parts.specs.declared.parts.TreeKind.{TreeKind}
use Rattle.script_parts.specs.declared.parts.TreeKind.TheVariants.{Update, Read, Strict}
use Rattle.tree_home.specs.declared.homes.Answered.{Answered}
use Rattle.letter_types.specs.declared.entries.Outgoing.{Outgoing}
use Rattle.nc_locks.specs.Locks.{has_lock}
use Rattle.script_parts.specs.Wants.{mode_wanted}
use Rattle.world_model.proofs.Coordination.{of_forgetting, of_remembering}
use Rattle.world_model.proofs.Epochs.{ask_each, order_each}
use Rattle.world_model.specs.Client.{Client, client_finishes, client_row, next_after, nudge, submit, with_answer, with_end, wanted}
use Rattle.world_model.specs.Asked.{asked_ops, asked_version, tree_part}
use Rattle.world_model.specs.Core.{Core}
use Rattle.world_model.specs.Counts.{Each}
use Rattle.world_model.specs.Done.{TreeOut, note_part, turned_if}
use Rattle.world_model.specs.Keeping.{KeepingNode, brought_row, kept_row}
use Rattle.world_model.specs.Named.{is_named, is_strict_at, tree_kind_at}
use Rattle.world_model.specs.Node.{Effect, Node}
use Rattle.world_model.specs.Notices.{act_of, values_of}
use Rattle.world_model.specs.Reads.{getting}
use Rattle.world_model.specs.Runs.{AtNode, AtCoordinator, AtRestarting, AtClient, Moves, client_in, keeping_in}
use Rattle.world_model.specs.Strict.{CoreKeeping, core_by_kind, core_keeping, core_row, decided, is_core_apt, locks_by, none_refuses, note_core, noted_vote, refused_there, voting}
use Rattle.world_model.specs.Updates.{touching}
use Rattle.world_model.specs.Votes.{vote_of}
use Rattle.script_parts.specs.Counts.{is_lossy}
use Rattle.world_model.proofs.Every.{each_append}
use Rattle.board_rules.specs.Histories.{Place, places_at, places_of}
use Rattle.board_rules.specs.Locked.{IsApartFrom, lock_at}
use Rattle.board_rules.specs.Stands.{locked_by, modes_on}
use Rattle.board_rules.proofs.ItemAt.{op_node}
use Rattle.board_rules.proofs.LocksStand.{locks_stand}
use Rattle.board_rules.proofs.Places.{places_more}
use Rattle.tree_laws.specs.Locks.{ActsAreAtHome, IsAtHome, RunLocksStand}
use Rattle.world_model.proofs.Keepings.{of_kept}
use Rattle.world_model.proofs.Cases.{apt_named}
use Rattle.tree_laws.proofs.conflicts.RunLocks.{run_locks}

abbrev Here : ScriptData → ℕ → List Act → Type 0
Here s p does = Each (IsAtHome s p) does

-- what is told of a subtransaction that is here
told : (s : ScriptData) (p : ℕ) (t : TreeNo) (k : SubNo) (n : Notice) → node_of s t.0 k.0 ≡ p → Here s p (act_of t k n ∷ [])
told s p t k (notices.Did values) here = (here, tt)
told s p t k (notices.Yes values) here = (here, tt)
told s p t k (notices.No cause) here = (here, tt)

turned : (s : ScriptData) (p v : ℕ) (raises : Bool) → Here s p (turned_if raises v)
turned s p v true = (tt, tt)
turned s p v false = tt

-- a subtransaction of any tree
part_here : (s : ScriptData) (p q from : ℕ) (v : Version) (raises : Bool) (e : Effect) (body : Body) (st : Node)
    → is_named s q from body ≡ true → q ≡ p → Here s p (tree_part s q from v raises e body st).out.acts
part_here s p q from v raises e (Root t) st named is =
    let here : home_of s t.0 ≡ p = grind (arith, nat_tests, named, is) in
    (tt, told s p t (record { 0 = 0 }) e.notice here)
part_here s p q from v raises e (SubLetter t k w) st named is =
    let here : node_of s t.0 k.0 ≡ p = at (node_of s t.0 k.0) (nat_lt from s.nodes) named in
    each_append (IsAtHome s p) (turned_if raises v.0) (act_of t k e.notice ∷ []) (turned s p v.0 raises) (told s p t k e.notice here) where
      at : (n : ℕ) (b : Bool) → ((n == q) && b) ≡ true → n ≡ p
      at n b both = grind (arith, nat_tests, is)
part_here s p q from v raises e _ st named is = tt

decided_here : (s : ScriptData) (p : ℕ) (c : Core) (o : TreeOut) (a : Option Answered) → Here s p o.out.acts
    → Here s p (decided s c o a).acts
decided_here s p c o None here = here
decided_here s p c o (Some a) here =
    each_append (IsAtHome s p) o.out.acts (acts.Decided a.tree (none_refuses a.tree c.refusals) ∷ []) here (tt, tt)

kind_here : (s : ScriptData) (p from : ℕ) (t : TreeNo) (body : Body) (kind : Option TreeKind) (c : Core) → is_named s p from body ≡ true
    → Here s p (core_by_kind s p from t body kind c).acts
kind_here s p from t body (Some Update) c named =
    let v = asked_version c.node.turns.update body in
    part_here s p p from v (nat_lt c.node.turns.update.0 v.0) (touching v (asked_ops s body) c.node.items) body c.node named refl
kind_here s p from t body (Some Read) c named =
    let v = asked_version c.node.turns.read body in
    part_here s p p from v false (getting v (asked_ops s body) c.node.items) body c.node named refl
kind_here s p from t body (Some Strict) c named =
    let v = asked_version c.node.turns.update body in
    let vote = vote_of c.locks c.node.items t v (asked_ops s body) in
    let o = tree_part s p from v (nat_lt c.node.turns.update.0 v.0) (voting vote c.node.items) body c.node in
    decided_here s p (record c { locks = locks_by vote t (asked_ops s body) c.locks; refusals = noted_vote body vote c.refusals }) o
    o.answered
    (part_here s p p from v (nat_lt c.node.turns.update.0 v.0) (voting vote c.node.items) body c.node named refl)
kind_here s p from t body None c named = tt

note_here : (s : ScriptData) (p from : ℕ) (t : TreeNo) (k : SubNo) (v : Version) (notice : Notice) (c : Core) (strict : Bool)
    → is_strict_at s t.0 ≡ strict → Here s p (note_core s from t k v notice c).acts
note_here s p from t k v notice c true is =
    let o = note_part from t.0 k.0 v.0 (values_of notice) c.node in
    rw is (decided_here s p (record c { refusals = refused_there t k notice c }) o o.answered tt)
note_here s p from t k v notice c false is = rw is tt

-- a letter of this body that is named
row_here : (s : ScriptData) (p from : ℕ) (body : Body) (c : Core) → is_named s p from body ≡ true → Here s p (core_row s p c from body).acts
row_here s p from (Root t) c named = kind_here s p from t (Root t) (tree_kind_at s t.0) c named
row_here s p from (SubLetter t k v) c named = kind_here s p from t (SubLetter t k v) (tree_kind_at s t.0) c named
row_here s p from (Done t k v notice) c named = note_here s p from t k v notice c (is_strict_at s t.0) refl
row_here s p from (Decide t v commit) c named = (tt, tt)
row_here s p from (Decided t v) c named = tt
row_here s p from (Release t) c named = (tt, tt)
row_here s p from (Turn v) c named = turned s p v.0 (nat_lt c.node.turns.update.0 v.0)
row_here s p from (Show v) c named = (tt, tt)
row_here s p from (Sweep v) c named = (tt, tt)
row_here s p from (AskDone v k) c named = tt
row_here s p from (AskAsked v k) c named = tt
row_here s p from (Order e what v) c named =
    order_each (λ (o : Out Core). Here s p o.acts) s e what v c tt tt (λ is. turned s p v.0 (nat_lt c.node.turns.update.0 v.0))
    (λ is new. (tt, tt)) (λ is new. (tt, tt))
row_here s p from (Ask e) c named = ask_each (λ (o : Out Core). Here s p o.acts) s e c tt tt
row_here s p from _ c named = tt

-- what a node does with a letter
made_here : (s : ScriptData) (p : ℕ) (l r : Letter) (n : KeepingNode) (o : Option CoreKeeping) → is_core_apt s p n.core r ≡ true
    → core_keeping s n.core r.body ≡ o → Here s p (kept_row s p l r n o).acts
made_here s p l r n (Some k) apt is =
    of_kept s n.core (λ (x : CoreKeeping). Here s p x.acts) r.body k (record {
      parks = λ t j raises v m. each_append (IsAtHome s p) (turned_if raises v.0) (acts.Parked t j m.item m.holder ∷ []) (turned s p v.0 raises) (tt, tt);
      waits = λ t. (tt, tt);
    }) is
made_here s p l r n None apt is = row_here s p r.from.0 r.body n.core (apt_named s p n.core r apt)

apt_here : (s : ScriptData) (p : ℕ) (l r : Letter) (n : KeepingNode) (here apt : Bool) → is_core_apt s p n.core r ≡ apt
    → Here s p (if here && apt then kept_row s p l r n (core_keeping s n.core r.body) else still n).acts
apt_here s p l r n true true is = made_here s p l r n (core_keeping s n.core r.body) is refl
apt_here s p l r n true false is = tt
apt_here s p l r n false apt is = tt

brought_here : (s : ScriptData) (p : ℕ) (l : Letter) (n : KeepingNode) (o : Option Letter)
    → Here s p (brought_row (is_core_apt s p) s p l n o).acts
brought_here s p l n None = tt
brought_here s p l n (Some r) = apt_here s p l r n (r.to.0 == p) (is_core_apt s p n.core r) refl

-- The acts of a run.
submit_here : (s : ScriptData) (p : ℕ) (c : Client) (first : List Outgoing) (test : Bool) → client_finishes s (next_after s c) c ≡ test
    → Here s p (submit s c first).acts
submit_here s p c first true is = rw is (tt, tt)
submit_here s p c first false is = rw is tt

answer_here : (s : ScriptData) (p : ℕ) (c : Client) (t : ℕ) (test : Bool)
    → Here s p (if test then submit s (with_answer t c) (nudge s ∷ []) else still c).acts
answer_here s p c t true = submit_here s p (with_answer t c) (nudge s ∷ []) (client_finishes s (next_after s (with_answer t c)) (with_answer t c)) refl
answer_here s p c t false = tt

client_here : (s : ScriptData) (p : ℕ) (c : Client) (body : Body) → Here s p (client_row s c body).acts
client_here s p c Go = submit_here s p c [] (client_finishes s (next_after s c) c) refl
client_here s p c (Reply t v answer) = answer_here s p c t.0 (nat_lt t.0 (length s.trees))
client_here s p c (Advanced v) =
    let d = with_end s v c in submit_here s p d [] (client_finishes s (next_after s d) d) refl
client_here s p c (Ask e) = asked_here (is_lossy s) where
  asked_here : (test : Bool) → Here s p (if test then wanted s e c else still c).acts
  asked_here true = tt
  asked_here false = tt
client_here s p c _ = tt

entry_here : (s : ScriptData) (past : List Entry) (e : Entry) → Moves s past e → Here s e.actor.0 e.acts
entry_here s past e (AtNode lt says) =
    let n = keeping_in s past e.actor.0 in
    subst (Here s e.actor.0) (sym says.1) (brought_here s e.actor.0 e.took n (brought n.kept e.took e.took.body))
entry_here s past e (AtCoordinator at keeps says) = subst (Here s e.actor.0) (sym (of_remembering s past e keeps says).acts) tt
entry_here s past e (AtRestarting at loses says) = subst (Here s e.actor.0) (sym (of_forgetting s past e loses says).acts) tt
entry_here s past e (AtClient at says) =
    subst (Here s e.actor.0) (sym says.1) (client_here s e.actor.0 (client_in s past) e.took.body)

places_here : (s : ScriptData) (p : ℕ) (does : List Act) → Here s p does
    → AllByRecursion (λ (y : Place). IsAtHome s y.node y.act) (map (λ (a : Act). record { node = p; act = a }) does)
places_here s p [] here = tt
places_here s p (a ∷ does) here = (here.0, places_here s p does here.1)

-- What holds of each of two lists.
pub all_append : {X : Type 0} (P : X → Type 0) (xs ys : List X) → AllByRecursion P xs → AllByRecursion P ys → AllByRecursion P (xs ++ ys)
all_append P [] ys a b = b
all_append P (x ∷ xs) ys a b = (a.0, all_append P xs ys a.1 b)

pub acts_at_home : ActsAreAtHome
acts_at_home s [] run = tt
acts_at_home s (e ∷ past) run =
    subst (AllByRecursion (λ (y : Place). IsAtHome s y.node y.act)) (sym (places_more e past))
    (all_append (λ (y : Place). IsAtHome s y.node y.act) (places_of (reverse past)) (places_at e) (acts_at_home s past run.1)
    (places_here s e.actor.0 e.acts (entry_here s past e run.0.moves)))

-- So no other node takes a lock on an item.
none_on : (x : ℕ) (os : List SubOp) → ((i : ℕ) (o : SubOp) → slice_get os i ≡ Some o → (o.item.0 == x) ≡ false) → modes_on x os ≡ []
none_on x [] none = refl
none_on x (o ∷ os) none =
    ap (λ (b : Bool). map (λ (q : SubOp). mode_wanted q.deed) (cond b (o ∷ filter (λ (q : SubOp). q.item.0 == x) os) (filter (λ (q : SubOp). q.item.0 == x) os)))
    (none 0 o refl)
    ∙ none_on x os (λ i q is. none (suc i) q is)

elsewhere : (s : ScriptData) (p x t k q : ℕ) (r : ItemRow) → IsValid s → slice_get s.items x ≡ Some r → r.node.0 ≡ p
    → node_of s t k ≡ q → (q == p) ≡ false → modes_on x (ops_of s t k) ≡ []
elsewhere s p x t k q r valid at node home other = none_on x (ops_of s t k) (λ i o is. by i o is (o.item.0 == x) refl) where
  by : (i : ℕ) (o : SubOp) → slice_get (ops_of s t k) i ≡ Some o → (b : Bool) → (o.item.0 == x) ≡ b → (o.item.0 == x) ≡ false
  by i o is false on = on
  by i o is true on =
      let same : o.item.0 ≡ x = grind (arith, nat_tests, on) in
      let there : q ≡ p = sym home ∙ op_node s t k i o r valid is (ap (slice_get s.items) same ∙ at) ∙ node in
      absurd (let not_so : q ≢ p = grind (arith, nat_tests, other) in not_so there)

act_apart : (s : ScriptData) (p x k q : ℕ) (a : Act) (r : ItemRow) → IsValid s → slice_get s.items x ≡ Some r → r.node.0 ≡ p
    → IsAtHome s q a → (q == p) ≡ false → modes_on x (locked_by s k a) ≡ []
act_apart s p x k q (acts.Did t j values) r valid at node home other = by ((t.0 == k) && updates s k) refl where
  by : (b : Bool) → ((t.0 == k) && updates s k) ≡ b → modes_on x (if b then ops_of s k j.0 else []) ≡ []
  by true is =
      let same : t.0 ≡ k = first (updates s k) is in
      elsewhere s p x k j.0 q r valid at node (sym (ap (λ (n : ℕ). node_of s n j.0) same) ∙ home) other where
        first : (b : Bool) → ((t.0 == k) && b) ≡ true → t.0 ≡ k
        first b both = grind (arith, nat_tests)
  by false is = refl
act_apart s p x k q (acts.Voted t j (Yes values)) r valid at node home other = by (t.0 == k) refl where
  by : (b : Bool) → (t.0 == k) ≡ b → modes_on x (if b then ops_of s k j.0 else []) ≡ []
  by true is =
      let same : t.0 ≡ k = grind (arith, nat_tests, is) in
      elsewhere s p x k j.0 q r valid at node (sym (ap (λ (n : ℕ). node_of s n j.0) same) ∙ home) other
  by false is = refl
act_apart s p x k q (acts.Voted t j (No cause)) r valid at node home other = refl
act_apart s p x k q acts.Finished r valid at node home other = refl
act_apart s p x k q _ r valid at node home other = refl

places_apart : (s : ScriptData) (p x k : ℕ) (r : ItemRow) (ys : List Place) → IsValid s → slice_get s.items x ≡ Some r → r.node.0 ≡ p
    → AllByRecursion (λ (y : Place). IsAtHome s y.node y.act) ys → AllByRecursion (IsApartFrom s p x k) ys
places_apart s p x k r [] valid at node all = tt
places_apart s p x k r (y ∷ ys) valid at node all =
    ((λ other. act_apart s p x k y.node y.act r valid at node all.0 other), places_apart s p x k r ys valid at node all.1)

pub locks_are_standing : RunLocksStand
locks_are_standing s past p x r strict valid run lt at node k m =
    ap (has_lock (lock_at k x m)) (run_locks s past p strict run lt)
    ∙ locks_stand s (places_of (reverse past)) p x k
    (places_apart s p x k r (places_of (reverse past)) valid at node (acts_at_home s past run)) m
