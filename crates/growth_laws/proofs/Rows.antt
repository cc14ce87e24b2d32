-- What a core makes of a message about a transaction that the script had before it grew is the same after.
use Rattle.std.proofs.Common.{◌≡◌, ℕ, ◌<◌, ◌&&◌, ◌∙◌, Bool, false, List, [], ◌++◌, length, map, refl, sym, ap, subst, Option, Some, None}
use Rattle.std.specs.Prelude.{if◌then◌else◌, nat_lt, slice_get}
use Rattle.tv_base.specs.declared.numbers.SubNo.{SubNo}
use Rattle.tv_base.specs.declared.numbers.TreeNo.{TreeNo}
use Rattle.tv_base.specs.declared.numbers.Version.{Version}
use Rattle.letter_types.specs.declared.bodies.Body.{Body}
use Rattle.letter_types.specs.declared.bodies.Body.TheVariants.{Root, Sub as SubLetter, Done, Decide, Decided, Release, Wake, Reply, Obeyed, Order}
use Rattle.letter_types.specs.declared.bodies.Notice.{Notice}
use Rattle.letter_types.specs.declared.bodies.What.{What}
use Rattle.letter_types.specs.declared.bodies.What.TheVariants as whats
use Rattle.letter_types.specs.declared.entries.Outgoing.{Outgoing}
use Rattle.letter_types.specs.Steps.{Out, still}
use Rattle.nc_locks.specs.Locks.{Wanted, marks_on, with_locks}
use Rattle.script_parts.specs.Counts.{has_strict}
use Rattle.script_parts.specs.ScriptData.{ScriptData, client_of, subs_at, updates, visited_by}
use Rattle.script_parts.specs.declared.parts.SubOp.{SubOp}
use Rattle.script_parts.specs.declared.parts.TreeKind.{TreeKind}
use Rattle.script_parts.specs.declared.parts.TreeKind.TheVariants.{Update, Read, Strict}
use Rattle.tree_home.specs.declared.homes.Answered.{Answered}
use Rattle.world_model.specs.Advancing.{advancing_row}
use Rattle.world_model.specs.Asked.{asked_ops, asked_version, tree_part}
use Rattle.world_model.specs.Core.{Core, in_core}
use Rattle.world_model.specs.Done.{TreeOut, note_part, with_open_tree}
use Rattle.world_model.specs.Epochs.{heard_in, order_core, plain_order, was_obeyed}
use Rattle.world_model.specs.Meant.{IsMeant}
use Rattle.world_model.specs.Named.{is_strict_at, tree_kind_at}
use Rattle.world_model.specs.Node.{Effect, Node}
use Rattle.world_model.specs.Notices.{reply_letters, values_of}
use Rattle.world_model.specs.Reads.{getting}
use Rattle.world_model.specs.Strict.{answered, core_by_kind, core_row, decide_core, decided, locks_by, marks, marks_of, note_core, noted_vote, refused_there, release_letters, to_each, voting}
use Rattle.world_model.specs.Updates.{touching}
use Rattle.world_model.specs.Votes.{vote_of}
use Rattle.world_model.proofs.MeantRows.{strict_below}
use Rattle.world_model.proofs.Notices.{answer_noted_tree}
use Rattle.world_model.proofs.Scripts.{update_below}
use Rattle.growth_laws.proofs.More.{More, with_more}
use Rattle.growth_laws.proofs.Lookups.{home_same, kind_same, ops_same, strict_same, subs_same, updates_same, visited_same}

-- the tree that a letter names is one of the script's
abbrev pub IsKnown : ScriptData → Body → Type 0
IsKnown s (Root t) = t.0 < length s.trees
IsKnown s (SubLetter t k v) = t.0 < length s.trees
IsKnown s (Done t k v notice) = t.0 < length s.trees
IsKnown s (Decide t v commit) = t.0 < length s.trees
IsKnown s (Decided t v) = t.0 < length s.trees
IsKnown s (Release t) = t.0 < length s.trees
IsKnown s (Wake t k) = t.0 < length s.trees
IsKnown s (Reply t v answer) = t.0 < length s.trees
IsKnown s _ = Unit {0}

-- a letter that is meant for its addressee names one
pub known : (s : ScriptData) (from to : ℕ) (body : Body) → IsMeant s from to body → IsKnown s body
known s from to (Root t) meant = meant.tree
known s from to (SubLetter t k v) meant = meant.tree
known s from to (Done t k v notice) meant = meant.tree
known s from to (Decide t v commit) meant = strict_below s t.0 meant.strict
known s from to (Decided t v) meant = strict_below s t.0 meant.strict
known s from to (Release t) meant = update_below s t.0 (slice_get s.trees t.0) refl meant.update
known s from to (Wake t k) meant = meant.tree
known s from to (Reply t v answer) meant = meant.0
known s from to _ meant = tt

-- What a letter asks for.
pub asked_same : (s : ScriptData) (m : More s) (body : Body) → IsKnown s body → asked_ops (with_more s m) body ≡ asked_ops s body
asked_same s m (Root t) lt = ops_same s m t.0 0 lt
asked_same s m (SubLetter t k v) lt = ops_same s m t.0 k.0 lt
asked_same s m _ lt = refl

pub marks_same : (s : ScriptData) (m : More s) (ops : List SubOp) → marks_of (with_more s m) ops ≡ marks_of s ops
marks_same s m ops = ap (λ (b : Bool). if b then marks_on (map (λ (o : SubOp). o.item) ops) else []) m.strict

part_same : (s : ScriptData) (m : More s) (p from : ℕ) (v : Version) (raises : Bool) (e : Effect) (body : Body) (st : Node) → IsKnown s body
    → tree_part (with_more s m) p from v raises e body st ≡ tree_part s p from v raises e body st
part_same s m p from v raises e (Root t) st lt = rw (subs_same s m t.0 lt) refl
part_same s m p from v raises e (SubLetter t k w) st lt = rw (subs_same s m t.0 lt, home_same s m t.0 lt) refl
part_same s m p from v raises e _ st lt = refl

-- An answer of a tree that was there.
abbrev pub AnswersKnown : ScriptData → Option Answered → Type 0
AnswersKnown s o = (a : Answered) → o ≡ Some a → a.tree.0 < length s.trees

pub noted_known : (s : ScriptData) (t : TreeNo) (a : Answered) → t.0 < length s.trees → a.tree ≡ t → a.tree.0 < length s.trees
noted_known s t a lt is = subst (λ (u : TreeNo). u.0 < length s.trees) (sym is) lt

part_answer : (s : ScriptData) (p from : ℕ) (v : Version) (raises : Bool) (e : Effect) (body : Body) (st : Node) → IsKnown s body
    → AnswersKnown s (tree_part s p from v raises e body st).answered
part_answer s p from v raises e (Root t) st lt a is =
    noted_known s t a lt
    (answer_noted_tree t (record { 0 = 0 }) (values_of e.notice) (with_open_tree t.0 (length (subs_at s t.0)) v.0 st).homes a is)
part_answer s p from v raises e (SubLetter t k w) st lt a is = absurd (cc is)
part_answer s p from v raises e _ st lt a is = absurd (cc is)

release_same : (s : ScriptData) (m : More s) (o : Option Answered) → AnswersKnown s o → release_letters (with_more s m) o ≡ release_letters s o
release_same s m None lt = refl
release_same s m (Some a) lt =
    let here : a.tree.0 < length s.trees = lt a refl in
    ap (λ (b : Bool). if b && updates (with_more s m) a.tree.0 then to_each (Release a.tree) (visited_by (with_more s m) a.tree.0) else []) m.strict
    ∙ ap (λ (b : Bool). if has_strict s && b then to_each (Release a.tree) (visited_by (with_more s m) a.tree.0) else []) (updates_same s m a.tree.0 here)
    ∙ ap (λ (qs : List ℕ). if marks s a.tree.0 then to_each (Release a.tree) qs else []) (visited_same s m a.tree.0 here)

answered_same : (s : ScriptData) (m : More s) (c : Core) (o : TreeOut) → AnswersKnown s o.answered → answered (with_more s m) c o ≡ answered s c o
answered_same s m c o lt =
    ap (λ (os : List Outgoing). record {
      state = record c { node = o.out.state };
      sent = o.out.sent ++ os ++ reply_letters (client_of s) o.answered;
      acts = o.out.acts;
    }) (release_same s m o.answered lt)

decided_same : (s : ScriptData) (m : More s) (c : Core) (o : TreeOut) (a : Option Answered) → AnswersKnown s a
    → decided (with_more s m) c o a ≡ decided s c o a
decided_same s m c o None lt = refl
decided_same s m c o (Some a) lt = rw (visited_same s m a.tree.0 (lt a refl)) refl

-- The rows of a letter that asks for a subtransaction.
by_kind_same : (s : ScriptData) (m : More s) (p from : ℕ) (t : TreeNo) (body : Body) (kind : Option TreeKind) (c : Core) → IsKnown s body
    → core_by_kind (with_more s m) p from t body kind c ≡ core_by_kind s p from t body kind c
by_kind_same s m p from t body (Some Update) c lt =
    let w : ScriptData = with_more s m in
    let v : Version = asked_version c.node.turns.update body in
    let raises : Bool = nat_lt c.node.turns.update.0 v.0 in
    let ops : List SubOp = asked_ops s body in
    let e : Effect = touching v ops c.node.items in
    ap (λ (xs : List SubOp). answered w (record c { locks = with_locks t (marks_of w xs) c.locks })
    (tree_part w p from v raises (touching v xs c.node.items) body c.node)) (asked_same s m body lt)
    ∙ ap (λ (xs : Wanted). answered w (record c { locks = with_locks t xs c.locks }) (tree_part w p from v raises e body c.node)) (marks_same s m ops)
    ∙ ap (λ (o : TreeOut). answered w (record c { locks = with_locks t (marks_of s ops) c.locks }) o) (part_same s m p from v raises e body c.node lt)
    ∙ answered_same s m (record c { locks = with_locks t (marks_of s ops) c.locks }) (tree_part s p from v raises e body c.node)
    (part_answer s p from v raises e body c.node lt)
by_kind_same s m p from t body (Some Read) c lt =
    let w : ScriptData = with_more s m in
    let v : Version = asked_version c.node.turns.read body in
    let e : Effect = getting v (asked_ops s body) c.node.items in
    ap (λ (xs : List SubOp). answered w c (tree_part w p from v false (getting v xs c.node.items) body c.node)) (asked_same s m body lt)
    ∙ ap (λ (o : TreeOut). answered w c o) (part_same s m p from v false e body c.node lt)
    ∙ answered_same s m c (tree_part s p from v false e body c.node) (part_answer s p from v false e body c.node lt)
by_kind_same s m p from t body (Some Strict) c lt =
    let w : ScriptData = with_more s m in
    let v : Version = asked_version c.node.turns.update body in
    let raises : Bool = nat_lt c.node.turns.update.0 v.0 in
    let ops : List SubOp = asked_ops s body in
    let vote = vote_of c.locks c.node.items t v ops in
    let e : Effect = voting vote c.node.items in
    let d : Core = record c { locks = locks_by vote t ops c.locks; refusals = noted_vote body vote c.refusals } in
    let o : TreeOut = tree_part s p from v raises e body c.node in
    ap (λ (xs : List SubOp). decided w
    (record c {
      locks = locks_by (vote_of c.locks c.node.items t v xs) t xs c.locks;
      refusals = noted_vote body (vote_of c.locks c.node.items t v xs) c.refusals;
    })
    (tree_part w p from v raises (voting (vote_of c.locks c.node.items t v xs) c.node.items) body c.node)
    (tree_part w p from v raises (voting (vote_of c.locks c.node.items t v xs) c.node.items) body c.node).answered)
    (asked_same s m body lt)
    ∙ ap (λ (x : TreeOut). decided w d x x.answered) (part_same s m p from v raises e body c.node lt)
    ∙ decided_same s m d o o.answered (part_answer s p from v raises e body c.node lt)
by_kind_same s m p from t body None c lt = refl

tree_row_same : (s : ScriptData) (m : More s) (p from : ℕ) (t : TreeNo) (body : Body) (c : Core) → t.0 < length s.trees → IsKnown s body
    → core_by_kind (with_more s m) p from t body (tree_kind_at (with_more s m) t.0) c
    ≡ core_by_kind s p from t body (tree_kind_at s t.0) c
tree_row_same s m p from t body c lt here =
    ap (λ (kind : Option TreeKind). core_by_kind (with_more s m) p from t body kind c) (kind_same s m t.0 lt)
    ∙ by_kind_same s m p from t body (tree_kind_at s t.0) c here

-- The row of a notice, of a decision, and of an order.
note_same : (s : ScriptData) (m : More s) (from : ℕ) (t : TreeNo) (k : SubNo) (v : Version) (notice : Notice) (c : Core)
    → t.0 < length s.trees → note_core (with_more s m) from t k v notice c ≡ note_core s from t k v notice c
note_same s m from t k v notice c lt =
    let w : ScriptData = with_more s m in
    let o : TreeOut = note_part from t.0 k.0 v.0 (values_of notice) c.node in
    let d : Core = record c { refusals = refused_there t k notice c } in
    let here : AnswersKnown s o.answered =
    λ (a : Answered) is. noted_known s t a lt (answer_noted_tree t k (values_of notice) c.node.homes a is) in
    ap (λ (b : Bool). if b then decided w d o o.answered else answered w c o) (strict_same s m t.0 lt)
    ∙ ap (λ (x : Out Core). if is_strict_at s t.0 then x else answered w c o) (decided_same s m d o o.answered here)
    ∙ ap (λ (x : Out Core). if is_strict_at s t.0 then decided s d o o.answered else x) (answered_same s m c o here)

decide_same : (s : ScriptData) (m : More s) (p from : ℕ) (t : TreeNo) (v : Version) (commit : Bool) (c : Core) → t.0 < length s.trees
    → decide_core (with_more s m) p from t v commit c ≡ decide_core s p from t v commit c
decide_same s m p from t v commit c lt = rw (subs_same s m t.0 lt, home_same s m t.0 lt) refl

ordered_same : (s : ScriptData) (m : More s) (what : What) (v : Version) (st : Node)
    → advancing_row (with_more s m) (plain_order what v) st ≡ advancing_row s (plain_order what v) st
ordered_same s m whats.Turn v st = refl
ordered_same s m whats.Show v st = refl
ordered_same s m whats.Sweep v st = refl

order_same : (s : ScriptData) (m : More s) (e : ℕ) (what : What) (v : Version) (c : Core)
    → order_core (with_more s m) e what v c ≡ order_core s e what v c
order_same s m e what v c =
    ap (λ (x : Out Node). if nat_lt e c.epoch then still c
    else heard_in s e (Obeyed e what v) (if was_obeyed what v c.node then still c else in_core c x)) (ordered_same s m what v c.node)

-- The row of any letter.
pub core_same : (s : ScriptData) (m : More s) (p from : ℕ) (c : Core) (body : Body) → IsKnown s body
    → core_row (with_more s m) p c from body ≡ core_row s p c from body
core_same s m p from c (Root t) lt = tree_row_same s m p from t (Root t) c lt lt
core_same s m p from c (SubLetter t k v) lt = tree_row_same s m p from t (SubLetter t k v) c lt lt
core_same s m p from c (Done t k v notice) lt = note_same s m from t k v notice c lt
core_same s m p from c (Decide t v commit) lt = decide_same s m p from t v commit c lt
core_same s m p from c (Order e what v) lt = order_same s m e what v c
core_same s m p from c _ lt = refl
