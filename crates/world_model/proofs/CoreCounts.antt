-- Whatever message a core takes: each number that it counts grows by little.
use Rattle.std.proofs.Common.{ℕ, ◌+◌, ◌≤◌, ◌==◌, ◌&&◌, Bool, true, false, List, [], ◌∷◌, length, arith, Option, Some, None}
use Rattle.std.specs.Prelude.{if◌then◌else◌, nat_lt}
use Rattle.std.proofs.lemmas.List.{length-append}
use Rattle.tv_base.specs.declared.numbers.SubNo.{SubNo}
use Rattle.tv_base.specs.declared.numbers.TreeNo.{TreeNo}
use Rattle.tv_base.specs.declared.numbers.Version.{Version}
use Rattle.letter_types.specs.declared.bodies.Body.{Body}
use Rattle.letter_types.specs.declared.bodies.Body.TheVariants.{Root, Sub as SubLetter, Done, Decide, Decided, Release, Turn, Show, Sweep, AskDone, AskAsked, Ask, Order}
use Rattle.letter_types.specs.declared.bodies.Notice.{Notice}
use Rattle.letter_types.specs.declared.entries.Outgoing.{Outgoing}
use Rattle.letter_types.specs.declared.votes.Vote.{Vote}
use Rattle.letter_types.specs.Steps.{Out}
use Rattle.pair_counters.specs.Numbers.{Numbers, asked_all, asked_one, done_one, from_version}
use Rattle.tree_home.specs.declared.homes.Answered.{Answered}
use Rattle.script_parts.specs.ScriptData.{ScriptData, home_of, subs_at, visited_by}
use Rattle.script_parts.specs.Valid.{IsValid}
use Rattle.script_parts.specs.declared.parts.TreeKind.{TreeKind}
use Rattle.script_parts.specs.declared.parts.TreeKind.TheVariants.{Update, Read, Strict}
use Rattle.script_parts.proofs.SubsOf.{few_subs}
use Rattle.world_model.specs.Asked.{asked_ops, asked_version, tree_part}
use Rattle.world_model.specs.Children.{addressees, done_letter, sub_letters}
use Rattle.world_model.proofs.Epochs.{ask_each, order_each}
use Rattle.world_model.specs.Core.{Core}
use Rattle.world_model.specs.Done.{TreeOut, counted_root, counted_sub, note_part, sub_sent}
use Rattle.world_model.specs.Named.{is_strict_at, tree_kind_at}
use Rattle.world_model.specs.Node.{Effect, Node}
use Rattle.world_model.specs.Notices.{values_of}
use Rattle.world_model.specs.Reads.{getting}
use Rattle.world_model.specs.Strict.{answered, core_by_kind, core_row, decided, decided_letter, locks_by, note_core, noted_vote, refused_there, voting}
use Rattle.world_model.specs.Taking.{MOST_COUNTED}
use Rattle.world_model.specs.Updates.{touching}
use Rattle.world_model.specs.Votes.{vote_of}
use Rattle.world_model.proofs.Addressed.{few_children}
use Rattle.world_model.proofs.Requests.{asked_all_most, asked_most, done_kept}
use Rattle.world_model.proofs.Visited.{few_visited}

-- each number of these grew by no more than m, or by no more than an entry adds
abbrev pub GrewBy : ℕ → Numbers → Numbers → Type 0
GrewBy m old new = (v q : ℕ) → (new.asked v q ≤ old.asked v q + m) × (new.done v q ≤ old.done v q + m)

abbrev pub Grew : Numbers → Numbers → Type 0
Grew old new = GrewBy MOST_COUNTED old new

more : (m n : ℕ) (old new : Numbers) → m ≤ n → GrewBy m old new → GrewBy n old new
more m n old new le grew v q = (omega (arith, (grew v q).0), omega (arith, (grew v q).1))

pub stays : (m : ℕ) (n : Numbers) → GrewBy m n n
stays m n v q = (omega arith, omega arith)

up_by_one : (n : ℕ) (b : Bool) → (if b then n + 1 else n) ≤ n + 1
up_by_one n true = omega arith
up_by_one n false = omega arith

-- a subtransaction's requests and its completion
sub_grew : (m v q : ℕ) (os : List Outgoing) (n : Numbers) → length os ≤ m → 1 ≤ m → GrewBy m n (counted_sub v q os n)
sub_grew m v q os n le one w r = (
  omega (arith, asked_most v os n w r),
  rw (done_kept v (addressees os) n) (omega (arith, up_by_one (n.done w r) ((w == v) && (r == q)))),
)

-- a root's, which has one request more
root_grew : (m v p : ℕ) (os : List Outgoing) (n : Numbers) → length os + 1 ≤ m → GrewBy m n (counted_root v p os n)
root_grew m v p os n le w r = (
  omega (arith, asked_most v os (asked_one v p n) w r, up_by_one (n.asked w r) ((w == v) && (r == p))),
  rw (done_kept v (addressees os) (asked_one v p n)) (omega (arith, up_by_one (n.done w r) ((w == v) && (r == p)))),
)

note_grew : (m v q : ℕ) (n : Numbers) → 1 ≤ m → GrewBy m n (done_one v q n)
note_grew m v q n le w r = (omega arith, omega (arith, up_by_one (n.done w r) ((w == v) && (r == q))))

cut : (n : ℕ) (b : Bool) → (if b then 0 else n) ≤ n + MOST_COUNTED
cut n true = omega arith
cut n false = omega arith

sweep_grew : (v : ℕ) (n : Numbers) → Grew n (record { asked = from_version v n.asked; done = from_version v n.done })
sweep_grew v n w r = (cut (n.asked w r) (nat_lt w v), cut (n.done w r) (nat_lt w v))

-- more requests after that: completions stay
asked_grew : (k m v : ℕ) (qs : List ℕ) (old new : Numbers) → GrewBy k old new → length qs + k ≤ m
    → GrewBy m old (asked_all v qs new)
asked_grew k m v qs old new grew le w r = (
  omega (arith, (grew w r).0, asked_all_most v qs new w r),
  rw (done_kept v qs new) (omega (arith, (grew w r).1)),
)

-- a subtransaction's letter
part_grew : (s : ScriptData) (p from : ℕ) (v : Version) (raises : Bool) (e : Effect) (body : Body) (st : Node) → IsValid s
    → GrewBy 65 st.counts (tree_part s p from v raises e body st).out.state.counts
part_grew s p from v raises e (Root t) st valid =
    root_grew 65 v.0 p (sub_letters t.0 v.0 0 0 (subs_at s t.0)) st.counts
    (omega (arith, few_subs s t.0 valid, few_children t.0 v.0 0 0 (subs_at s t.0)))
part_grew s p from v raises e (SubLetter t k w) st valid =
    sub_grew 65 v.0 from (sub_sent s t.0 k.0 v.0 e.notice) st.counts
    (omega (
      arith,
      few_subs s t.0 valid,
      few_children t.0 v.0 k.0 0 (subs_at s t.0),
      length-append (sub_letters t.0 v.0 k.0 0 (subs_at s t.0)) (done_letter (home_of s t.0) t.0 k.0 v.0 e.notice ∷ []),
    ))
    (omega arith)
part_grew s p from v raises e _ st valid = stays 65 st.counts

-- what a core's row makes of counters
abbrev RowGrew : Numbers → Out Core → Type 0
RowGrew old out = Grew old out.state.node.counts

pick : (old : Numbers) (b : Bool) (x y : Out Core) → RowGrew old x → RowGrew old y → RowGrew old (if b then x else y)
pick old true x y l r = l
pick old false x y l r = r

-- and the decision to each node
decided_grew : (s : ScriptData) (old : Numbers) (c : Core) (o : TreeOut) (found : Option Answered) → IsValid s
    → GrewBy 65 old o.out.state.counts → RowGrew old (decided s c o found)
decided_grew s old c o None valid grew = more 65 MOST_COUNTED old o.out.state.counts (omega arith) grew
decided_grew s old c o (Some a) valid grew =
    asked_grew 65 MOST_COUNTED a.version.0 (visited_by s a.tree.0) old o.out.state.counts grew (omega (arith, few_visited s a.tree.0 valid))

answered_grew : (s : ScriptData) (old : Numbers) (c : Core) (o : TreeOut) → GrewBy 65 old o.out.state.counts → RowGrew old (answered s c o)
answered_grew s old c o grew = more 65 MOST_COUNTED old o.out.state.counts (omega arith) grew

kind_grew : (s : ScriptData) (p from : ℕ) (t : TreeNo) (body : Body) (kind : Option TreeKind) (c : Core) → IsValid s
    → RowGrew c.node.counts (core_by_kind s p from t body kind c)
kind_grew s p from t body (Some Update) c valid =
    let v : Version = asked_version c.node.turns.update body in
    let e : Effect = touching v (asked_ops s body) c.node.items in
    let raises : Bool = nat_lt c.node.turns.update.0 v.0 in
    answered_grew s c.node.counts c (tree_part s p from v raises e body c.node) (part_grew s p from v raises e body c.node valid)
kind_grew s p from t body (Some Read) c valid =
    let v : Version = asked_version c.node.turns.read body in
    let e : Effect = getting v (asked_ops s body) c.node.items in
    answered_grew s c.node.counts c (tree_part s p from v false e body c.node) (part_grew s p from v false e body c.node valid)
kind_grew s p from t body (Some Strict) c valid =
    let v : Version = asked_version c.node.turns.update body in
    let vote : Vote = vote_of c.locks c.node.items t v (asked_ops s body) in
    let e : Effect = voting vote c.node.items in
    let raises : Bool = nat_lt c.node.turns.update.0 v.0 in
    let o : TreeOut = tree_part s p from v raises e body c.node in
    let noted : Core = record c { locks = locks_by vote t (asked_ops s body) c.locks; refusals = noted_vote body vote c.refusals } in
    decided_grew s c.node.counts noted o o.answered valid (part_grew s p from v raises e body c.node valid)
kind_grew s p from t body None c valid = stays MOST_COUNTED c.node.counts

home_grew : (s : ScriptData) (from : ℕ) (t : TreeNo) (k : SubNo) (v : Version) (notice : Notice) (c : Core) → IsValid s
    → RowGrew c.node.counts (note_core s from t k v notice c)
home_grew s from t k v notice c valid =
    let o : TreeOut = note_part from t.0 k.0 v.0 (values_of notice) c.node in
    let noted : Core = record c { refusals = refused_there t k notice c } in
    let grew : GrewBy 65 c.node.counts o.out.state.counts = note_grew 65 v.0 from c.node.counts (omega arith) in
    pick c.node.counts (is_strict_at s t.0) (decided s noted o o.answered) (answered s c o)
    (decided_grew s c.node.counts noted o o.answered valid grew) (answered_grew s c.node.counts c o grew)

-- the row of a letter
pub core_grew : (s : ScriptData) (p from : ℕ) (body : Body) (c : Core) → IsValid s
    → Grew c.node.counts (core_row s p c from body).state.node.counts
core_grew s p from (Root t) c valid = kind_grew s p from t (Root t) (tree_kind_at s t.0) c valid
core_grew s p from (SubLetter t k v) c valid = kind_grew s p from t (SubLetter t k v) (tree_kind_at s t.0) c valid
core_grew s p from (Done t k v notice) c valid = home_grew s from t k v notice c valid
core_grew s p from (Decide t v commit) c valid =
    sub_grew MOST_COUNTED v.0 from (decided_letter s t v ∷ []) c.node.counts (omega arith) (omega arith)
core_grew s p from (Decided t v) c valid = note_grew MOST_COUNTED v.0 from c.node.counts (omega arith)
core_grew s p from (Release t) c valid = stays MOST_COUNTED c.node.counts
core_grew s p from (Turn v) c valid = stays MOST_COUNTED c.node.counts
core_grew s p from (Show v) c valid = stays MOST_COUNTED c.node.counts
core_grew s p from (Sweep v) c valid = sweep_grew v.0 c.node.counts
core_grew s p from (AskDone v k) c valid = stays MOST_COUNTED c.node.counts
core_grew s p from (AskAsked v k) c valid = stays MOST_COUNTED c.node.counts
core_grew s p from (Order e what v) c valid =
    order_each (λ (o : Out Core). Grew c.node.counts o.state.node.counts) s e what v c (stays MOST_COUNTED c.node.counts)
    (stays MOST_COUNTED c.node.counts) (λ is. stays MOST_COUNTED c.node.counts) (λ is new. stays MOST_COUNTED c.node.counts)
    (λ is new. sweep_grew v.0 c.node.counts)
core_grew s p from (Ask e) c valid =
    ask_each (λ (o : Out Core). Grew c.node.counts o.state.node.counts) s e c (stays MOST_COUNTED c.node.counts) (stays MOST_COUNTED c.node.counts)
core_grew s p from _ c valid = stays MOST_COUNTED c.node.counts
