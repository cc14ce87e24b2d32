-- Whatever message a core takes: all that it sends goes to actors of the script.
use Rattle.std.proofs.Common.{◌≡◌, ℕ, ◌+◌, ◌<◌, ◌≤◌, Bool, true, false, List, [], ◌∷◌, ◌++◌, refl, arith, Option, Some, None}
use Rattle.std.specs.Prelude.{if◌then◌else◌, nat_lt}
use Rattle.std.specs.List.{AllByRecursion}
use Rattle.std.proofs.lemmas.List.Elements.{recursion_from_All}
use Rattle.tv_base.specs.declared.numbers.SubNo.{SubNo}
use Rattle.tv_base.specs.declared.numbers.TreeNo.{TreeNo}
use Rattle.tv_base.specs.declared.numbers.Version.{Version}
use Rattle.letter_types.specs.declared.bodies.Body.{Body}
use Rattle.letter_types.specs.declared.bodies.Body.TheVariants.{Root, Sub as SubLetter, Done, Decide, Decided, Release, Turn, Show, Sweep, AskDone, AskAsked, Ask, Order}
use Rattle.letter_types.specs.declared.bodies.Notice.{Notice}
use Rattle.letter_types.specs.declared.entries.Outgoing.{Outgoing}
use Rattle.letter_types.specs.Steps.{Out}
use Rattle.tree_home.specs.HeldAnswers.{answer_when_acked}
use Rattle.tree_home.specs.declared.homes.Answered.{Answered}
use Rattle.script_parts.specs.ScriptData.{ScriptData, client_of, home_of, node_of, sub_at, subs_at, visited_by}
use Rattle.script_parts.specs.Valid.{IsValid}
use Rattle.script_parts.specs.declared.parts.Sub.{Sub}
use Rattle.script_parts.specs.declared.parts.TreeKind.{TreeKind}
use Rattle.script_parts.specs.declared.parts.TreeKind.TheVariants.{Update, Read, Strict}
use Rattle.script_parts.proofs.SubsOf.{all_at, sub_nodes}
use Rattle.world_model.specs.Asked.{asked_ops, asked_version, tree_part}
use Rattle.world_model.specs.Children.{done_letter, sub_letters}
use Rattle.world_model.proofs.Epochs.{ask_each, order_each}
use Rattle.world_model.specs.Core.{Core, Refusals}
use Rattle.world_model.specs.Counts.{Each}
use Rattle.world_model.specs.Done.{TreeOut, note_part}
use Rattle.world_model.specs.Named.{is_strict_at, tree_kind_at}
use Rattle.world_model.specs.Node.{Effect, Node}
use Rattle.world_model.specs.Notices.{reply_letters, values_of}
use Rattle.world_model.specs.Reads.{getting}
use Rattle.world_model.specs.Strict.{answer_letters, answered, core_by_kind, core_row, decided, locks_by, marks, marks_of, none_refuses, note_core, noted_vote, refused_there, release_letters, to_each, voting}
use Rattle.letter_types.specs.declared.votes.Vote.{Vote}
use Rattle.nc_locks.specs.Locks.{with_locks}
use Rattle.world_model.specs.Updates.{touching}
use Rattle.world_model.specs.Votes.{vote_of}
use Rattle.world_model.proofs.Addressed.{children_nodes}
use Rattle.world_model.proofs.Every.{each_append}
use Rattle.world_model.proofs.Visited.{visited_below}

-- each letter goes to one of so many actors
abbrev pub For : ℕ → List Outgoing → Type 0
For n os = Each (λ (o : Outgoing). o.to.0 < n) os

pub for_both : (n : ℕ) (os more : List Outgoing) → For n os → For n more → For n (os ++ more)
for_both n os more all rest = each_append (λ (o : Outgoing). o.to.0 < n) os more all rest

all_of : (n m : ℕ) (os : List Outgoing) → n ≤ m → AllByRecursion (λ (o : Outgoing). o.to.0 < n) os → For m os
all_of n m [] le all = tt
all_of n m (o ∷ os) le all = (omega (arith, all.0), all_of n m os le all.1)

home_by : (s : ScriptData) (t : ℕ) (o : Option Sub) → IsValid s → sub_at s t 0 ≡ o → home_of s t < s.nodes + 2
home_by s t None valid at = rw (at, home_of, node_of) (omega arith)
home_by s t (Some x) valid at =
    rw (at, home_of, node_of)
    (omega (arith, all_at (λ (y : Sub). y.node.0 < s.nodes) (subs_at s t) 0 x (recursion_from_All (λ (y : Sub). y.node.0 < s.nodes) (subs_at s t) (sub_nodes s t valid)) at))

-- a tree's home is one of them; where no tree is there, its number is the coordinator's
pub home_for : (s : ScriptData) (t : ℕ) → IsValid s → home_of s t < s.nodes + 2
home_for s t valid = home_by s t (sub_at s t 0) valid refl

children_for : (s : ScriptData) (t v parent : ℕ) → IsValid s → For (s.nodes + 2) (sub_letters t v parent 0 (subs_at s t))
children_for s t v parent valid =
    let os = sub_letters t v parent 0 (subs_at s t) in
    all_of s.nodes (s.nodes + 2) os (omega arith)
    (recursion_from_All (λ (o : Outgoing). o.to.0 < s.nodes) os (children_nodes t v parent s.nodes (subs_at s t) os refl (sub_nodes s t valid)))

to_each_for : (m : ℕ) (body : Body) (qs : List ℕ) → Each (λ (q : ℕ). q < m) qs → For m (to_each body qs)
to_each_for m body [] all = tt
to_each_for m body (q ∷ qs) all = (all.0, to_each_for m body qs all.1)

visited_for : (s : ScriptData) (t : ℕ) (body : Body) → For (s.nodes + 2) (to_each body (visited_by s t))
visited_for s t body =
    to_each_for (s.nodes + 2) body (visited_by s t) (visited_below (subs_at s t) (s.nodes + 2) s.nodes (omega arith))

replies_for : (s : ScriptData) (found : Option Answered) → For (s.nodes + 2) (reply_letters (client_of s) found)
replies_for s None = tt
replies_for s (Some a) = (omega arith, tt)

if_for : (n : ℕ) (b : Bool) (os : List Outgoing) → For n os → For n (if b then os else [])
if_for n true os all = all
if_for n false os all = tt

releases_for : (s : ScriptData) (found : Option Answered) → For (s.nodes + 2) (release_letters s found)
releases_for s None = tt
releases_for s (Some a) =
    if_for (s.nodes + 2) (marks s a.tree.0) (to_each (Release a.tree) (visited_by s a.tree.0)) (visited_for s a.tree.0 (Release a.tree))

-- a subtransaction's letter
part_for : (s : ScriptData) (p from : ℕ) (v : Version) (raises : Bool) (e : Effect) (body : Body) (st : Node) → IsValid s
    → For (s.nodes + 2) (tree_part s p from v raises e body st).out.sent
part_for s p from v raises e (Root t) st valid = children_for s t.0 v.0 0 valid
part_for s p from v raises e (SubLetter t k w) st valid =
    for_both (s.nodes + 2) (sub_letters t.0 v.0 k.0 0 (subs_at s t.0))
    (done_letter (home_of s t.0) t.0 k.0 v.0 e.notice ∷ []) (children_for s t.0 v.0 k.0 valid) (home_for s t.0 valid, tt)
part_for s p from v raises e _ st valid = tt

pub pick : {St : Type 0} (n : ℕ) (b : Bool) (x y : Out St) → For n x.sent → For n y.sent → For n (if b then x else y).sent
pick n true x y l r = l
pick n false x y l r = r

answered_for : (s : ScriptData) (c : Core) (o : TreeOut) → For (s.nodes + 2) o.out.sent → For (s.nodes + 2) (answered s c o).sent
answered_for s c o all =
    for_both (s.nodes + 2) (o.out.sent ++ release_letters s o.answered) (reply_letters (client_of s) o.answered)
    (for_both (s.nodes + 2) o.out.sent (release_letters s o.answered) all (releases_for s o.answered)) (replies_for s o.answered)

decided_for : (s : ScriptData) (c : Core) (o : TreeOut) (found : Option Answered) → For (s.nodes + 2) o.out.sent
    → For (s.nodes + 2) (decided s c o found).sent
decided_for s c o None all = all
decided_for s c o (Some a) all =
    let body : Body = Decide a.tree a.version (none_refuses a.tree c.refusals) in
    for_both (s.nodes + 2) o.out.sent (to_each body (visited_by s a.tree.0)) all (visited_for s a.tree.0 body)

kind_for : (s : ScriptData) (p from : ℕ) (t : TreeNo) (body : Body) (kind : Option TreeKind) (c : Core) → IsValid s
    → For (s.nodes + 2) (core_by_kind s p from t body kind c).sent
kind_for s p from t body (Some Update) c valid =
    let v : Version = asked_version c.node.turns.update body in
    let e : Effect = touching v (asked_ops s body) c.node.items in
    let raises : Bool = nat_lt c.node.turns.update.0 v.0 in
    answered_for s (record c { locks = with_locks t (marks_of s (asked_ops s body)) c.locks })
    (tree_part s p from v raises e body c.node) (part_for s p from v raises e body c.node valid)
kind_for s p from t body (Some Read) c valid =
    let v : Version = asked_version c.node.turns.read body in
    let e : Effect = getting v (asked_ops s body) c.node.items in
    answered_for s c (tree_part s p from v false e body c.node) (part_for s p from v false e body c.node valid)
kind_for s p from t body (Some Strict) c valid =
    let v : Version = asked_version c.node.turns.update body in
    let vote : Vote = vote_of c.locks c.node.items t v (asked_ops s body) in
    let e : Effect = voting vote c.node.items in
    let raises : Bool = nat_lt c.node.turns.update.0 v.0 in
    let o : TreeOut = tree_part s p from v raises e body c.node in
    let noted : Core =
    record c { locks = locks_by vote t (asked_ops s body) c.locks; refusals = noted_vote body vote c.refusals } in
    decided_for s noted o o.answered (part_for s p from v raises e body c.node valid)
kind_for s p from t body None c valid = tt

home_row_for : (s : ScriptData) (from : ℕ) (t : TreeNo) (k : SubNo) (v : Version) (notice : Notice) (c : Core)
    → For (s.nodes + 2) (note_core s from t k v notice c).sent
home_row_for s from t k v notice c =
    let o : TreeOut = note_part from t.0 k.0 v.0 (values_of notice) c.node in
    let noted : Core = record c { refusals = refused_there t k notice c } in
    pick (s.nodes + 2) (is_strict_at s t.0) (decided s noted o o.answered) (answered s c o)
    (decided_for s noted o o.answered tt) (answered_for s c o tt)

answers_for : (s : ScriptData) (rs : Refusals) (found : Option Answered) → For (s.nodes + 2) (answer_letters s rs found)
answers_for s rs None = tt
answers_for s rs (Some a) = (omega arith, tt)

-- the row of a letter
pub core_for : (s : ScriptData) (p from : ℕ) (body : Body) (c : Core) → IsValid s → For (s.nodes + 2) (core_row s p c from body).sent
core_for s p from (Root t) c valid = kind_for s p from t (Root t) (tree_kind_at s t.0) c valid
core_for s p from (SubLetter t k v) c valid = kind_for s p from t (SubLetter t k v) (tree_kind_at s t.0) c valid
core_for s p from (Done t k v notice) c valid = home_row_for s from t k v notice c
core_for s p from (Decide t v commit) c valid = (home_for s t.0 valid, tt)
core_for s p from (Decided t v) c valid = answers_for s c.refusals (answer_when_acked t c.holds)
core_for s p from (Release t) c valid = tt
core_for s p from (Turn v) c valid = (omega arith, tt)
core_for s p from (Show v) c valid = (omega arith, tt)
core_for s p from (Sweep v) c valid = (omega arith, tt)
core_for s p from (AskDone v k) c valid = (omega arith, tt)
core_for s p from (AskAsked v k) c valid = (omega arith, tt)
core_for s p from (Order e what v) c valid =
    order_each (λ (o : Out Core). For (s.nodes + 2) o.sent) s e what v c tt (omega arith, tt) (λ is. (omega arith, tt))
    (λ is new. (omega arith, tt)) (λ is new. (omega arith, tt))
core_for s p from (Ask e) c valid = ask_each (λ (o : Out Core). For (s.nodes + 2) o.sent) s e c tt (omega arith, tt)
core_for s p from _ c valid = tt
