-- What the rows of a core count: its requests grow by the counted messages that it sends, and its completions by the
-- message that it does.
use Rattle.std.proofs.Common.{◌≡◌, ℕ, ◌+◌, ◌<◌, ◌≤◌, ◌==◌, ◌&&◌, Bool, true, false, List, [], ◌∷◌, ◌++◌, length, refl, ap, arith, Option, Some, None}
use Rattle.std.specs.Prelude.{if◌then◌else◌, nat_lt, slice_get}
use Rattle.std.proofs.lemmas.Bool.Decides.{nat_tests}
use Rattle.tv_base.proofs.Truths.{left_true}
use Rattle.tv_base.specs.declared.numbers.SubNo.{SubNo}
use Rattle.tv_base.specs.declared.numbers.TreeNo.{TreeNo}
use Rattle.tv_base.specs.declared.numbers.Version.{Version}
use Rattle.letter_types.specs.declared.bodies.Body.{Body}
use Rattle.letter_types.specs.declared.bodies.Body.TheVariants.{Root, Sub as SubLetter, Done, Decide, Decided, Release, Turn, Show, Sweep, AskDone, AskAsked, Order, Ask}
use Rattle.letter_types.specs.declared.bodies.Notice.{Notice}
use Rattle.letter_types.specs.declared.entries.Outgoing.{Outgoing}
use Rattle.letter_types.specs.declared.votes.Vote.{Vote}
use Rattle.letter_types.specs.Steps.{Out}
use Rattle.pair_counters.specs.Numbers.{Numbers, asked_all, asked_one, done_one}
use Rattle.tree_home.specs.declared.homes.Answered.{Answered}
use Rattle.tree_home.specs.HeldAnswers.{answer_when_acked}
use Rattle.tx_trees.specs.ScriptData.{ScriptData, client_of, home_of, node_of, subs_at, visited_by}
use Rattle.tx_trees.specs.Valid.{IsValid}
use Rattle.tx_trees.specs.declared.parts.TreeKind.{TreeKind}
use Rattle.tx_trees.specs.declared.parts.TreeKind.TheVariants.{Update, Read, Strict}
use Rattle.tx_trees.proofs.SubsOf.{few_subs}
use Rattle.world_model.specs.Asked.{asked_ops, asked_version, tree_part}
use Rattle.world_model.specs.Children.{sub_letters, done_letter}
use Rattle.world_model.specs.Core.{Core, Refusals}
use Rattle.world_model.specs.Counts.{tally, one_if}
use Rattle.world_model.specs.Done.{TreeOut, counted_root, counted_sub, note_part, sub_sent}
use Rattle.world_model.specs.Named.{is_named, is_strict_at, tree_kind_at}
use Rattle.world_model.specs.Node.{Effect, Node}
use Rattle.world_model.specs.Notices.{reply_letters, values_of}
use Rattle.world_model.specs.Reads.{getting}
use Rattle.world_model.specs.Strict.{answer_letters, answered, core_by_kind, core_row, decided, decided_letter, locks_by, marks, none_refuses, note_core, noted_vote, refused_there, release_letters, to_each, voting}
use Rattle.world_model.specs.Updates.{touching}
use Rattle.world_model.specs.Votes.{vote_of}
use Rattle.world_model.proofs.Bags.{one_if_most, tally-append}
use Rattle.world_model.proofs.Every.{each_append}
use Rattle.world_model.proofs.Requests.{done_kept}
use Rattle.world_model.proofs.Visited.{few_visited}
use Rattle.advance_laws.specs.Balance.{MOST_COUNTED, version_is}
use Rattle.advance_laws.proofs.counting.Counters.{AreOf, at_pair, children_few, children_of, counted, more_is, replies_uncounted, root_asked, root_completed, sub_asked, sub_completed}
use Rattle.advance_laws.proofs.counting.Moves.{RowCounts, cut_at, cut_most, quiet_row}
use Rattle.world_model.proofs.Epochs.{order_each, ask_each}
use Rattle.world_model.specs.Advancing.{sweep_row}
use Rattle.world_model.proofs.Scripts.{no_node}
use Rattle.letter_types.specs.declared.acts.Act.{Act}

-- numbers that a row makes of others: whether it counts one of version v with itself, and what it counts besides, of which
-- at most m to one node
pub record Adds (h v from m : ℕ) (body : Body) (old new : Numbers) (sent : List Outgoing) : Type 0 where
  pub own : Bool
  pub asked : (q : ℕ) → new.asked v q ≡ old.asked v q + one_if (own && (h == q)) + tally (counted v q) sent
  pub done : (p : ℕ) → new.done v p ≡ old.done v p + one_if (own && (h == p)) + one_if (version_is v body && (from == p))
  pub few : (q : ℕ) → one_if own + tally (counted v q) sent ≤ m

-- what a node makes of its counters so, it counts
row_adds : (h v from : ℕ) (body : Body) (st : Node) (row : Out Node)
    → Adds h v from MOST_COUNTED body st.counts row.state.counts row.sent → RowCounts h v from body st row
row_adds h v from body st row adds = record {
  own = adds.own;
  asked = λ q low. adds.asked q;
  done = λ p low. adds.done p;
  asked_most = λ q. omega (arith, adds.asked q);
  done_most = λ p. omega (arith, adds.done p);
  few = adds.few;
}

-- The parts of a row.

-- a letter that isn't counted, for which nothing is counted
rests_adds : (h v from m : ℕ) (body : Body) (n : Numbers) → version_is v body ≡ false → Adds h v from m body n n []
rests_adds h v from m body n none = record {
  own = false;
  asked = λ q. omega arith;
  done = λ p. rw none (omega arith);
  few = λ q. omega arith;
}

-- a root, before its tree is answered
root_adds : (s : ScriptData) (h v from t w : ℕ) (body : Body) (n : Numbers) → IsValid s → version_is v body ≡ false
    → Adds h v from 65 body n (counted_root w h (sub_letters t w 0 0 (subs_at s t)) n) (sub_letters t w 0 0 (subs_at s t))
root_adds s h v from t w body n valid none = record {
  own = w == v;
  asked = λ q. omega (arith, root_asked w h (sub_letters t w 0 0 (subs_at s t)) n v q (children_of t w 0 0 (subs_at s t)));
  done = λ p. rw none (omega (arith, root_completed w h (sub_letters t w 0 0 (subs_at s t)) n v p));
  few = λ q. omega (arith, few_subs s t valid, one_if_most (w == v), children_few t w 0 0 v q (subs_at s t));
}

-- what a subtransaction sends is counted
sent_of : (s : ScriptData) (t k w : ℕ) (notice : Notice) → AreOf w (sub_sent s t k w notice)
sent_of s t k w notice =
    each_append (λ (o : Outgoing). (v : ℕ) → version_is v o.body ≡ (w == v)) (sub_letters t w k 0 (subs_at s t))
    (done_letter (home_of s t) t k w notice ∷ []) (children_of t w k 0 (subs_at s t)) ((λ v. refl), tt)

-- another subtransaction
sub_adds : (s : ScriptData) (h v from : ℕ) (t : TreeNo) (k : SubNo) (w : Version) (notice : Notice) (n : Numbers) → IsValid s
    → Adds h v from 65 (SubLetter t k w) n (counted_sub w.0 from (sub_sent s t.0 k.0 w.0 notice) n) (sub_sent s t.0 k.0 w.0 notice)
sub_adds s h v from t k w notice n valid = record {
  own = false;
  asked = λ q. omega (arith, sub_asked w.0 from (sub_sent s t.0 k.0 w.0 notice) n v q (sent_of s t.0 k.0 w.0 notice));
  done = λ p. omega (arith, sub_completed w.0 from (sub_sent s t.0 k.0 w.0 notice) n v p);
  few = λ q. omega (
    arith,
    few_subs s t.0 valid,
    children_few t.0 w.0 k.0 0 v q (subs_at s t.0),
    tally-append (counted v q) (sub_letters t.0 w.0 k.0 0 (subs_at s t.0)) (done_letter (home_of s t.0) t.0 k.0 w.0 notice ∷ []),
    one_if_most ((w.0 == v) && (home_of s t.0 == q)),
  );
}

-- a counted letter whose completion alone is counted
done_adds : (h v from m w : ℕ) (body : Body) (n : Numbers) → version_is v body ≡ (w == v) → Adds h v from m body n (done_one w from n) []
done_adds h v from m w body n is = record {
  own = false;
  asked = λ q. omega arith;
  done = λ p. rw is (omega (arith, more_is w from n.done v p));
  few = λ q. omega arith;
}

-- More letters behind a row's own.

-- of which none is counted
quiet_adds : (h v from m : ℕ) (body : Body) (old new : Numbers) (sent more : List Outgoing)
    → ((q : ℕ) → tally (counted v q) more ≡ 0) → Adds h v from m body old new sent → Adds h v from m body old new (sent ++ more)
quiet_adds h v from m body old new sent more none adds = record {
  own = adds.own;
  asked = λ q. omega (arith, adds.asked q, tally-append (counted v q) sent more, none q);
  done = adds.done;
  few = λ q. omega (arith, adds.few q, tally-append (counted v q) sent more, none q);
}

-- a letter to each of some nodes, which is counted
told_asked : (w v q : ℕ) (body : Body) (qs : List ℕ) (n : Numbers) → version_is v body ≡ (w == v)
    → (asked_all w qs n).asked v q ≡ n.asked v q + tally (counted v q) (to_each body qs)
told_asked w v q body [] n is = omega arith
told_asked w v q body (r ∷ qs) n is =
    let one : at_pair w r v q ≡ one_if (version_is v body && (r == q)) = rw is refl in
    omega (arith, told_asked w v q body qs (asked_one w r n) is, more_is w r n.asked v q, one)

told_few : (v q : ℕ) (body : Body) (qs : List ℕ) → tally (counted v q) (to_each body qs) ≤ length qs
told_few v q body [] = omega arith
told_few v q body (r ∷ qs) = omega (arith, told_few v q body qs, one_if_most (version_is v body && (r == q)))

told_adds : (h v from m k w : ℕ) (body told : Body) (qs : List ℕ) (old new : Numbers) (sent : List Outgoing)
    → version_is v told ≡ (w == v) → length qs + m ≤ k → Adds h v from m body old new sent
    → Adds h v from k body old (asked_all w qs new) (sent ++ to_each told qs)
told_adds h v from m k w body told qs old new sent is le adds = record {
  own = adds.own;
  asked = λ q. omega (arith, adds.asked q, tally-append (counted v q) sent (to_each told qs), told_asked w v q told qs new is);
  done = λ p. rw (done_kept w qs new) (adds.done p);
  few = λ q. omega (arith, adds.few q, tally-append (counted v q) sent (to_each told qs), told_few v q told qs, le);
}

-- or one that isn't
each_uncounted : (v q : ℕ) (body : Body) (qs : List ℕ) → version_is v body ≡ false → tally (counted v q) (to_each body qs) ≡ 0
each_uncounted v q body [] none = refl
each_uncounted v q body (r ∷ qs) none = rw none (omega (arith, each_uncounted v q body qs none))

if_uncounted : (v q : ℕ) (b : Bool) (os : List Outgoing) → tally (counted v q) os ≡ 0 → tally (counted v q) (if b then os else []) ≡ 0
if_uncounted v q true os none = none
if_uncounted v q false os none = refl

releases_uncounted : (s : ScriptData) (v q : ℕ) (found : Option Answered) → tally (counted v q) (release_letters s found) ≡ 0
releases_uncounted s v q None = refl
releases_uncounted s v q (Some a) =
    if_uncounted v q (marks s a.tree.0) (to_each (Release a.tree) (visited_by s a.tree.0))
    (each_uncounted v q (Release a.tree) (visited_by s a.tree.0) refl)

answers_uncounted : (s : ScriptData) (rs : Refusals) (v q : ℕ) (found : Option Answered)
    → tally (counted v q) (answer_letters s rs found) ≡ 0
answers_uncounted s rs v q None = refl
answers_uncounted s rs v q (Some a) = refl

-- no more letters than before
few_adds : (h v from m n : ℕ) (body : Body) (old new : Numbers) (sent : List Outgoing) → m ≤ n → Adds h v from m body old new sent
    → Adds h v from n body old new sent
few_adds h v from m n body old new sent le adds = record {
  own = adds.own;
  asked = adds.asked;
  done = adds.done;
  few = λ q. omega (arith, adds.few q, le);
}

-- The rows of a core.

-- a core's row counts so
abbrev CoreAdds : ℕ → ℕ → ℕ → Body → Numbers → Out Core → Type 0
CoreAdds h v from body old out = Adds h v from MOST_COUNTED body old out.state.node.counts out.sent

pick : (h v from : ℕ) (body : Body) (old : Numbers) (b : Bool) (x y : Out Core) → CoreAdds h v from body old x
    → CoreAdds h v from body old y → CoreAdds h v from body old (if b then x else y)
pick h v from body old true x y l r = l
pick h v from body old false x y l r = r

-- behind what a tree's letter asks for: the Releases and the answer of a tree that isn't strict
answered_adds : (s : ScriptData) (h v from : ℕ) (body : Body) (old : Numbers) (o : TreeOut)
    → Adds h v from 65 body old o.out.state.counts o.out.sent
    → Adds h v from MOST_COUNTED body old o.out.state.counts
    (o.out.sent ++ release_letters s o.answered ++ reply_letters (client_of s) o.answered)
answered_adds s h v from body old o adds =
    let n : Numbers = o.out.state.counts in
    let released : List Outgoing = o.out.sent ++ release_letters s o.answered in
    few_adds h v from 65 MOST_COUNTED body old n (released ++ reply_letters (client_of s) o.answered) (omega arith)
    (quiet_adds h v from 65 body old n released (reply_letters (client_of s) o.answered)
    (λ q. replies_uncounted (client_of s) o.answered v q)
    (quiet_adds h v from 65 body old n o.out.sent (release_letters s o.answered) (λ q. releases_uncounted s v q o.answered) adds))

-- and the decision of a strict tree
decided_adds : (s : ScriptData) (h v from : ℕ) (body : Body) (old : Numbers) (c : Core) (o : TreeOut) (found : Option Answered)
    → IsValid s → Adds h v from 65 body old o.out.state.counts o.out.sent → CoreAdds h v from body old (decided s c o found)
decided_adds s h v from body old c o None valid adds =
    few_adds h v from 65 MOST_COUNTED body old o.out.state.counts o.out.sent (omega arith) adds
decided_adds s h v from body old c o (Some a) valid adds =
    told_adds h v from 65 MOST_COUNTED a.version.0 body (Decide a.tree a.version (none_refuses a.tree c.refusals))
    (visited_by s a.tree.0) old o.out.state.counts o.out.sent refl (omega (arith, few_visited s a.tree.0 valid)) adds

-- a letter that asks for a subtransaction
abbrev asks : Body → Bool
asks (Root t) = true
asks (SubLetter t k v) = true
asks _ = false

part_adds : (s : ScriptData) (h v from : ℕ) (u : Version) (raises : Bool) (e : Effect) (body : Body) (st : Node) → IsValid s
    → asks body ≡ true
    → Adds h v from 65 body st.counts (tree_part s h from (asked_version u body) raises e body st).out.state.counts
    (tree_part s h from (asked_version u body) raises e body st).out.sent
part_adds s h v from u raises e (Root t) st valid is = root_adds s h v from t.0 u.0 (Root t) st.counts valid refl
part_adds s h v from u raises e (SubLetter t k w) st valid is = sub_adds s h v from t k w e.notice st.counts valid
part_adds s h v from u raises e _ st valid is = absurd (cc is)

kind_adds : (s : ScriptData) (h v from : ℕ) (t : TreeNo) (body : Body) (kind : Option TreeKind) (c : Core) → IsValid s
    → asks body ≡ true → (kind ≡ None → version_is v body ≡ false)
    → CoreAdds h v from body c.node.counts (core_by_kind s h from t body kind c)
kind_adds s h v from t body (Some Update) c valid is none =
    let w : Version = asked_version c.node.turns.update body in
    let e : Effect = touching w (asked_ops s body) c.node.items in
    let raises : Bool = nat_lt c.node.turns.update.0 w.0 in
    answered_adds s h v from body c.node.counts (tree_part s h from w raises e body c.node)
    (part_adds s h v from c.node.turns.update raises e body c.node valid is)
kind_adds s h v from t body (Some Read) c valid is none =
    let w : Version = asked_version c.node.turns.read body in
    let e : Effect = getting w (asked_ops s body) c.node.items in
    answered_adds s h v from body c.node.counts (tree_part s h from w false e body c.node)
    (part_adds s h v from c.node.turns.read false e body c.node valid is)
kind_adds s h v from t body (Some Strict) c valid is none =
    let w : Version = asked_version c.node.turns.update body in
    let vote : Vote = vote_of c.locks c.node.items t w (asked_ops s body) in
    let e : Effect = voting vote c.node.items in
    let raises : Bool = nat_lt c.node.turns.update.0 w.0 in
    let o : TreeOut = tree_part s h from w raises e body c.node in
    let noted : Core = record c { locks = locks_by vote t (asked_ops s body) c.locks; refusals = noted_vote body vote c.refusals } in
    decided_adds s h v from body c.node.counts noted o o.answered valid
    (part_adds s h v from c.node.turns.update raises e body c.node valid is)
kind_adds s h v from t body None c valid is none = rests_adds h v from MOST_COUNTED body c.node.counts (none refl)

-- a notice at its home
note_adds : (s : ScriptData) (h v from : ℕ) (t : TreeNo) (k : SubNo) (w : Version) (notice : Notice) (c : Core) → IsValid s
    → CoreAdds h v from (Done t k w notice) c.node.counts (note_core s from t k w notice c)
note_adds s h v from t k w notice c valid =
    let body : Body = Done t k w notice in
    let o : TreeOut = note_part from t.0 k.0 w.0 (values_of notice) c.node in
    let noted : Core = record c { refusals = refused_there t k notice c } in
    let adds : Adds h v from 65 body c.node.counts o.out.state.counts o.out.sent =
    done_adds h v from 65 w.0 body c.node.counts refl in
    pick h v from body c.node.counts (is_strict_at s t.0) (decided s noted o o.answered) (answered s c o)
    (decided_adds s h v from body c.node.counts noted o o.answered valid adds)
    (answered_adds s h v from body c.node.counts o adds)

-- a decision that is applied, and one of which the home hears that it was
applied_adds : (s : ScriptData) (h v from : ℕ) (t : TreeNo) (w : Version) (commit : Bool) (n : Numbers)
    → Adds h v from MOST_COUNTED (Decide t w commit) n (counted_sub w.0 from (decided_letter s t w ∷ []) n) (decided_letter s t w ∷ [])
applied_adds s h v from t w commit n = record {
  own = false;
  asked = λ q. omega (arith, sub_asked w.0 from (decided_letter s t w ∷ []) n v q ((λ x. refl), tt));
  done = λ p. omega (arith, sub_completed w.0 from (decided_letter s t w ∷ []) n v p);
  few = λ q. omega (arith, one_if_most ((w.0 == v) && (home_of s t.0 == q)));
}

acked_adds : (s : ScriptData) (h v from : ℕ) (t : TreeNo) (w : Version) (c : Core)
    → CoreAdds h v from (Decided t w) c.node.counts (core_row s h c from (Decided t w))
acked_adds s h v from t w c =
    quiet_adds h v from MOST_COUNTED (Decided t w) c.node.counts (done_one w.0 from c.node.counts) []
    (answer_letters s c.refusals (answer_when_acked t c.holds))
    (λ q. answers_uncounted s c.refusals v q (answer_when_acked t c.holds))
    (done_adds h v from MOST_COUNTED w.0 (Decided t w) c.node.counts refl)

-- a subtransaction that a node is asked for is there, so its tree has a kind
has_kind : (s : ScriptData) (h v from : ℕ) (t : TreeNo) (k : SubNo) (w : Version) → h < s.nodes
    → is_named s h from (SubLetter t k w) ≡ true → tree_kind_at s t.0 ≡ None → version_is v (SubLetter t k w) ≡ false
has_kind s h v from t k w lt named none =
    let here : (node_of s t.0 k.0 == h) ≡ true = left_true (node_of s t.0 k.0 == h) (nat_lt from s.nodes) named in
    let same : node_of s t.0 k.0 ≡ h = grind (arith, nat_tests) in
    absurd (omega (arith, same, no_node s t.0 k.0 (slice_get s.trees t.0) refl none, lt))

-- what commuting trees see of a core's row
abbrev pub at_node : Out Core → Out Node
at_node out = record { state = out.state.node; sent = out.sent; acts = out.acts }

core_adds : (h v from : ℕ) (body : Body) (c : Core) (out : Out Core) → CoreAdds h v from body c.node.counts out
    → RowCounts h v from body c.node (at_node out)
core_adds h v from body c out adds = row_adds h v from body c.node (at_node out) adds

-- an order, and a letter that changes nothing, that isn't counted
quiet_counts : (h v from : ℕ) (body : Body) (st : Node) (out : Out Node) → version_is v body ≡ false
    → out.state.counts ≡ st.counts → ((q : ℕ) → tally (counted v q) out.sent ≡ 0) → RowCounts h v from body st out
quiet_counts h v from body st out none same sent =
    quiet_row h v from body st out none (λ q low. ap (λ (n : Numbers). n.asked v q) same) (λ p low. ap (λ (n : Numbers). n.done v p) same)
    (λ q. omega (arith, ap (λ (n : Numbers). n.asked v q) same)) (λ p. omega (arith, ap (λ (n : Numbers). n.done v p) same)) sent

order_counts : (s : ScriptData) (h v from : ℕ) (body : Body) (c : Core) → version_is v body ≡ false
    → (core_row s h c from body).state.node.counts ≡ c.node.counts
    → ((q : ℕ) → tally (counted v q) (core_row s h c from body).sent ≡ 0)
    → RowCounts h v from body c.node (at_node (core_row s h c from body))
order_counts s h v from body c none same sent = quiet_counts h v from body c.node (at_node (core_row s h c from body)) none same sent

-- a sweep cuts what is counted below its version
swept_counts : (s : ScriptData) (h v from : ℕ) (body : Body) (st : Node) (w : Version) (os : List Outgoing) (acts : List Act)
    → version_is v body ≡ false → ((q : ℕ) → tally (counted v q) os ≡ 0)
    → RowCounts h v from body st (record { state = (sweep_row s w st).state; sent = os; acts = acts })
swept_counts s h v from body st w os acts none sent =
    quiet_row h v from body st (record { state = (sweep_row s w st).state; sent = os; acts = acts }) none
    (λ q low. cut_at w.0 v q st.counts.asked low) (λ p low. cut_at w.0 v p st.counts.done low) (λ q. cut_most w.0 v q st.counts.asked)
    (λ p. cut_most w.0 v p st.counts.done) sent

-- the row of a letter that names what belongs to the node
pub core_counts : (s : ScriptData) (h v from : ℕ) (body : Body) (c : Core) → IsValid s → h < s.nodes → is_named s h from body ≡ true
    → RowCounts h v from body c.node (at_node (core_row s h c from body))
core_counts s h v from (Root t) c valid lt named =
    core_adds h v from (Root t) c (core_row s h c from (Root t))
    (kind_adds s h v from t (Root t) (tree_kind_at s t.0) c valid refl (λ none. refl))
core_counts s h v from (SubLetter t k w) c valid lt named =
    core_adds h v from (SubLetter t k w) c (core_row s h c from (SubLetter t k w))
    (kind_adds s h v from t (SubLetter t k w) (tree_kind_at s t.0) c valid refl (has_kind s h v from t k w lt named))
core_counts s h v from (Done t k w notice) c valid lt named =
    core_adds h v from (Done t k w notice) c (core_row s h c from (Done t k w notice)) (note_adds s h v from t k w notice c valid)
core_counts s h v from (Decide t w commit) c valid lt named =
    core_adds h v from (Decide t w commit) c (core_row s h c from (Decide t w commit)) (applied_adds s h v from t w commit c.node.counts)
core_counts s h v from (Decided t w) c valid lt named =
    core_adds h v from (Decided t w) c (core_row s h c from (Decided t w)) (acked_adds s h v from t w c)
core_counts s h v from (Release t) c valid lt named = order_counts s h v from (Release t) c refl refl (λ q. refl)
core_counts s h v from (Turn w) c valid lt named = order_counts s h v from (Turn w) c refl refl (λ q. refl)
core_counts s h v from (Show w) c valid lt named = order_counts s h v from (Show w) c refl refl (λ q. refl)
core_counts s h v from (Sweep w) c valid lt named = swept_counts s h v from (Sweep w) c.node w _ _ refl (λ q. refl)
core_counts s h v from (AskDone w k) c valid lt named = order_counts s h v from (AskDone w k) c refl refl (λ q. refl)
core_counts s h v from (AskAsked w k) c valid lt named = order_counts s h v from (AskAsked w k) c refl refl (λ q. refl)
core_counts s h v from (Order e what w) c valid lt named =
    let body : Body = Order e what w in
    order_each (λ (o : Out Core). RowCounts h v from body c.node (at_node o)) s e what w c (quiet_counts h v from body c.node _ refl refl (λ q. refl))
    (quiet_counts h v from body c.node _ refl refl (λ q. refl)) (λ to. quiet_counts h v from body c.node _ refl refl (λ q. refl))
    (λ to new. quiet_counts h v from body c.node _ refl refl (λ q. refl)) (λ to new. swept_counts s h v from body c.node w _ _ refl (λ q. refl))
core_counts s h v from (Ask e) c valid lt named =
    ask_each (λ (o : Out Core). RowCounts h v from (Ask e) c.node (at_node o)) s e c (quiet_counts h v from (Ask e) c.node _ refl refl (λ q. refl))
    (quiet_counts h v from (Ask e) c.node _ refl refl (λ q. refl))
core_counts s h v from _ c valid lt named = order_counts s h v from _ c refl refl (λ q. refl)
