-- What a node does if there are strict transactions: update transactions mark their items, strict transactions vote,
-- and their homes decide.
use Rattle.std.specs.Prelude.{if◌then◌else◌, ℕ, Bool, true, false, not, ◌==◌, ◌&&◌, ◌||◌, ◌+◌, nat_lt, List, [], ◌∷◌, ◌++◌, length, map, Option, Some, None, is_some}
use Rattle.tree_home.specs.Maps.{put_at}
use Rattle.tv_base.specs.declared.numbers.SubNo.{SubNo}
use Rattle.tv_base.specs.declared.numbers.TreeNo.{TreeNo}
use Rattle.tv_base.specs.declared.numbers.Version.{Version}
use Rattle.letter_types.specs.declared.acts.Act.{Act}
use Rattle.letter_types.specs.declared.acts.Act.TheVariants as acts
use Rattle.letter_types.specs.declared.bodies.Answer.{Answer}
use Rattle.letter_types.specs.declared.bodies.Answer.TheVariants.{Whole, Aborted}
use Rattle.letter_types.specs.declared.bodies.Body.{Body}
use Rattle.letter_types.specs.declared.bodies.Body.TheVariants.{Root, Sub as SubLetter, Done, Decide, Decided, Release, Wake, Reply, Ask, Order}
use Rattle.letter_types.specs.declared.bodies.Notice.{Notice}
use Rattle.letter_types.specs.declared.bodies.Notice.TheVariants as notices
use Rattle.letter_types.specs.declared.entries.Letter.{Letter}
use Rattle.letter_types.specs.declared.entries.Outgoing.{Outgoing}
use Rattle.letter_types.specs.declared.kept.KeepReason.{KeepReason}
use Rattle.letter_types.specs.declared.kept.KeepReason.TheVariants.{ForShow, ForHolder}
use Rattle.letter_types.specs.declared.votes.Vote.{Vote}
use Rattle.letter_types.specs.declared.votes.Vote.TheVariants.{Yes, No}
use Rattle.letter_types.specs.Steps.{Out, still}
use Rattle.item_versions.specs.Table.{Table}
use Rattle.nc_locks.specs.declared.modes.Lock.{Lock}
use Rattle.nc_locks.specs.declared.modes.Met.{Met}
use Rattle.nc_locks.specs.Locks.{Wanted, marks_on, met_in, with_locks, without}
use Rattle.script_parts.specs.Wants.{wanted_by}
use Rattle.pair_counters.specs.Numbers.{asked_all, done_one}
use Rattle.script_parts.specs.Counts.{has_strict}
use Rattle.script_parts.specs.ScriptData.{ScriptData, client_of, home_of, updates, visited_by}
use Rattle.script_parts.specs.declared.parts.SubOp.{SubOp}
use Rattle.script_parts.specs.declared.parts.TreeKind.{TreeKind}
use Rattle.script_parts.specs.declared.parts.TreeKind.TheVariants.{Update, Read, Strict}
use Rattle.tree_home.specs.Homes.{misses}
use Rattle.tree_home.specs.HeldAnswers.{HeldAnswers, acked, answer_when_acked, held_in, holding}
use Rattle.tree_home.specs.declared.homes.Answered.{Answered}
use Rattle.world_model.specs.Advancing.{advancing_row}
use Rattle.world_model.specs.Apt.{can_make}
use Rattle.world_model.specs.Asked.{asked_ops, asked_version, tree_part}
use Rattle.world_model.specs.declared.refusal.NegativeVote.{NegativeVote}
use Rattle.world_model.specs.Core.{Core, Refusals, refused_by, in_core}
use Rattle.world_model.specs.Decisions.{can_decide, decided_items}
use Rattle.world_model.specs.Done.{TreeOut, counted_sub, note_part, raised_if, turned_if}
use Rattle.world_model.specs.Named.{is_near, is_named, is_new, is_strict_at, tree_kind_at}
use Rattle.world_model.specs.Epochs.{ask_core, is_core_timely, is_widely_core_timely, order_core, suits_coordinator}
use Rattle.world_model.specs.Node.{Effect, Node}
use Rattle.world_model.specs.Notices.{answer_noted, reply_letters, values_of}
use Rattle.world_model.specs.Reads.{getting}
use Rattle.world_model.specs.Updates.{touching}
use Rattle.world_model.specs.Votes.{vote_of}

-- a message of this body to each of these nodes
abbrev pub to_each : Body → List ℕ → List Outgoing
to_each body qs = map (λ (q : ℕ). record { to = record { 0 = q }; body = body }) qs

-- an update or a read transaction is answered: the marks of an update transaction are let go before, if there are
-- strict transactions
abbrev pub marks : ScriptData → ℕ → Bool
marks s t = has_strict s && updates s t

abbrev pub release_letters : ScriptData → Option Answered → List Outgoing
release_letters s None = []
release_letters s (Some a) = if marks s a.tree.0 then to_each (Release a.tree) (visited_by s a.tree.0) else []

abbrev pub answered : ScriptData → Core → TreeOut → Out Core
answered s c o = record {
  state = record c { node = o.out.state };
  sent = o.out.sent ++ release_letters s o.answered ++ reply_letters (client_of s) o.answered;
  acts = o.out.acts;
}

-- the marks that operations of an update transaction take: none if there is no strict transaction
abbrev pub marks_of : ScriptData → List SubOp → Wanted
marks_of s ops = if has_strict s then marks_on (map (λ (o : SubOp). o.item) ops) else []

-- a subtransaction of an update transaction, and of a read transaction
abbrev pub update_core : ScriptData → ℕ → ℕ → TreeNo → Body → Core → Out Core
update_core s p from t body c =
    let v = asked_version c.node.turns.update body in
    answered s (record c { locks = with_locks t (marks_of s (asked_ops s body)) c.locks })
    (tree_part s p from v (nat_lt c.node.turns.update.0 v.0) (touching v (asked_ops s body) c.node.items) body c.node)

abbrev pub read_core : ScriptData → ℕ → ℕ → Body → Core → Out Core
read_core s p from body c =
    let v = asked_version c.node.turns.read body in
    answered s c (tree_part s p from v false (getting v (asked_ops s body) c.node.items) body c.node)

-- the home of a strict transaction decides once all votes are there: it commits if none is a negative vote. Each node
-- that the transaction visits is told, in the version of the transaction, and the answer is held until all have told
-- that they applied it
abbrev pub none_refuses : TreeNo → Refusals → Bool
none_refuses t rs = not (is_some (rs t.0))

abbrev pub decided : ScriptData → Core → TreeOut → Option Answered → Out Core
decided s c o None = in_core c o.out
decided s c o (Some a) = record {
  state = record c {
    node = record o.out.state { counts = asked_all a.version.0 (visited_by s a.tree.0) o.out.state.counts };
    holds = holding a (length (visited_by s a.tree.0)) c.holds;
  };
  sent = o.out.sent ++ to_each (Decide a.tree a.version (none_refuses a.tree c.refusals)) (visited_by s a.tree.0);
  acts = o.out.acts ++ acts.Decided a.tree (none_refuses a.tree c.refusals) ∷ [];
}

-- what a vote tells the transaction's home, and which locks it takes: a yes those that its operations want
abbrev pub notice_by : Vote → Notice
notice_by (Yes values) = notices.Yes values
notice_by (No cause) = notices.No cause

abbrev pub locks_by : Vote → TreeNo → List SubOp → List Lock → List Lock
locks_by (Yes values) t ops locks = with_locks t (wanted_by ops) locks
locks_by (No cause) t ops locks = locks

-- a vote leaves the items
abbrev pub voting : Vote → Table → Effect
voting vote items = record { items = items; notice = notice_by vote }

-- the negative votes after a vote: that of a root is at its home
abbrev pub noted_vote : Body → Vote → Refusals → Refusals
noted_vote (Root t) vote rs = refused_by t (record { 0 = 0 }) (notice_by vote) rs
noted_vote _ vote rs = rs

-- a subtransaction of a strict transaction votes this, in version v
abbrev pub voted_core : ScriptData → ℕ → ℕ → TreeNo → Version → Vote → Body → Core → Out Core
voted_core s p from t v vote body c =
    let o = tree_part s p from v (nat_lt c.node.turns.update.0 v.0) (voting vote c.node.items) body c.node in
    decided s
    (record c { locks = locks_by vote t (asked_ops s body) c.locks; refusals = noted_vote body vote c.refusals })
    o o.answered

abbrev pub strict_core : ScriptData → ℕ → ℕ → TreeNo → Body → Core → Out Core
strict_core s p from t body c =
    let v = asked_version c.node.turns.update body in
    voted_core s p from t v (vote_of c.locks c.node.items t v (asked_ops s body)) body c

-- a message that asks for a subtransaction of a transaction of this kind
abbrev pub core_by_kind : ScriptData → ℕ → ℕ → TreeNo → Body → Option TreeKind → Core → Out Core
core_by_kind s p from t body (Some Update) c = update_core s p from t body c
core_by_kind s p from t body (Some Read) c = read_core s p from body c
core_by_kind s p from t body (Some Strict) c = strict_core s p from t body c
core_by_kind s p from t body None c = still c

-- a notice at its transaction's home: a negative vote that was missing is kept in mind
abbrev pub refused_there : TreeNo → SubNo → Notice → Core → Refusals
refused_there t k notice c = if misses t k c.node.homes then refused_by t k notice c.refusals else c.refusals

abbrev pub note_core : ScriptData → ℕ → TreeNo → SubNo → Version → Notice → Core → Out Core
note_core s from t k v notice c =
    let o = note_part from t.0 k.0 v.0 (values_of notice) c.node in
    if is_strict_at s t.0 then decided s (record c { refusals = refused_there t k notice c }) o o.answered
    else answered s c o

-- a node applies what was decided of a strict transaction, frees its locks, and tells its home
abbrev pub decided_letter : ScriptData → TreeNo → Version → Outgoing
decided_letter s t v = record { to = record { 0 = home_of s t.0 }; body = Decided t v }

abbrev pub decide_core : ScriptData → ℕ → ℕ → TreeNo → Version → Bool → Core → Out Core
decide_core s p from t v commit c = record {
  state = record c {
    node = record c.node {
      items = decided_items s p t v commit c.node.items;
      counts = counted_sub v.0 from (decided_letter s t v ∷ []) c.node.counts;
    };
    locks = without t c.locks;
  };
  sent = decided_letter s t v ∷ [];
  acts = acts.Applied t commit ∷ [];
}

-- the answer of a strict transaction: complete, or the cause of the negative vote of the least number
abbrev pub answer_by : Option NegativeVote → Answered → Answer
answer_by None a = Whole a.values
answer_by (Some r) a = Aborted r.cause

abbrev pub answer_letters : ScriptData → Refusals → Option Answered → List Outgoing
answer_letters s rs None = []
answer_letters s rs (Some a) =
    record { to = record { 0 = client_of s }; body = Reply a.tree a.version (answer_by (rs a.tree.0) a) } ∷ []

-- the negative votes, without those of a transaction that is answered
abbrev pub refusals_after : Option Answered → Refusals → Refusals
refusals_after None rs = rs
refusals_after (Some a) rs = put_at a.tree.0 None rs

-- its home hears from a node that it was applied, and answers the client after the last
abbrev pub acked_core : ScriptData → ℕ → TreeNo → Version → Core → Out Core
acked_core s from t v c =
    let last = answer_when_acked t c.holds in
    record {
      state = record c {
        node = record c.node { counts = done_one v.0 from c.node.counts };
        holds = acked t c.holds;
        refusals = refusals_after last c.refusals;
      };
      sent = answer_letters s c.refusals last;
      acts = [];
    }

-- an update transaction's marks go
abbrev pub release_core : TreeNo → Core → Out Core
release_core t c = record { state = record c { locks = without t c.locks }; sent = []; acts = acts.Freed t ∷ [] }

-- the row of an enabled message
abbrev pub core_row : ScriptData → ℕ → Core → ℕ → Body → Out Core
core_row s p c from (Root t) = core_by_kind s p from t (Root t) (tree_kind_at s t.0) c
core_row s p c from (SubLetter t k v) = core_by_kind s p from t (SubLetter t k v) (tree_kind_at s t.0) c
core_row s p c from (Done t k v notice) = note_core s from t k v notice c
core_row s p c from (Decide t v commit) = decide_core s p from t v commit c
core_row s p c from (Decided t v) = acked_core s from t v c
core_row s p c from (Release t) = release_core t c
core_row s p c from (Order e what v) = order_core s e what v c
core_row s p c from (Ask e) = ask_core s e c
core_row s p c from body = in_core c (advancing_row s body c.node)

-- Which messages are enabled.

-- a message that only strict transactions have
abbrev pub is_of_strict : Body → Bool
is_of_strict (Decide t v commit) = true
is_of_strict (Decided t v) = true
is_of_strict (Release t) = true
is_of_strict (Wake t k) = true
is_of_strict _ = false

-- the answer of a root's transaction isn't held at its home
abbrev pub is_unheld : Body → HeldAnswers → Bool
is_unheld (Root t) hs = not (is_some (held_in t hs))
is_unheld _ hs = true

-- a notice after which a strict transaction is decided: the version that the transaction began with is one that the
-- node counts in
abbrev pub is_near_answer : ScriptData → Node → Option Answered → Bool
is_near_answer s st None = true
is_near_answer s st (Some a) = not (is_strict_at s a.tree.0) || is_near st a.version

abbrev pub decides_near : ScriptData → Node → Body → Bool
decides_near s st (Done t k v notice) = is_near_answer s st (answer_noted t k (values_of notice) st.homes)
decides_near s st _ = true

-- what a message asks for may be made: a vote always, and a commit if it can be applied
abbrev pub can_make_at : ScriptData → ℕ → Core → Body → Bool
can_make_at s p c (Root t) = is_strict_at s t.0 || can_make s c.node (Root t)
can_make_at s p c (SubLetter t k v) = is_strict_at s t.0 || can_make s c.node (SubLetter t k v)
can_make_at s p c (Decide t v commit) = can_decide s p t v commit c.node.items
can_make_at s p c _ = true

-- a message that the script has: of strict transactions if there are some, and of its coordinator
abbrev pub is_of_script : ScriptData → Body → Bool
is_of_script s body = (has_strict s || not (is_of_strict body)) && suits_coordinator s body

-- a message is enabled at a node: it is one that the script has, what it names belongs there, a root is new, its
-- version is one that the node can go by, and what it asks for may be made
abbrev pub is_core_apt : ScriptData → ℕ → Core → Letter → Bool
is_core_apt s p c l =
    is_of_script s l.body
    && (is_named s p l.from.0 l.body
    && (is_new s c.node l.body && is_unheld l.body c.holds
    && (is_core_timely s c l.body && decides_near s c.node l.body && can_make_at s p c l.body)))

-- a message is enabled at a node that keeps versions without end
abbrev pub is_widely_core_apt : ScriptData → ℕ → Core → Letter → Bool
is_widely_core_apt s p c l =
    is_of_script s l.body
    && (is_named s p l.from.0 l.body
    && (is_new s c.node l.body && is_unheld l.body c.holds
    && (is_widely_core_timely s c l.body && can_make_at s p c l.body)))

-- what a core makes of a message that it doesn't defer
abbrev pub core_step : ScriptData → ℕ → Core → Letter → Out Core
core_step s p c l = if is_core_apt s p c l then core_row s p c l.from.0 l.body else still c

-- Which messages a node defers.

-- the reason why a message of subtransaction k of transaction t is deferred, and what the core makes of that
pub record CoreKeeping : Type 0 where
  pub tree : TreeNo
  pub sub : SubNo
  pub why : KeepReason
  pub state : Core
  pub acts : List Act

-- a strict transaction is born only if the version that is updated follows the one that is read: else its root waits
abbrev pub is_born_now : Node → Bool
is_born_now st = st.turns.update.0 == st.turns.read.0 + 1

abbrev pub root_waiting : TreeNo → Core → CoreKeeping
root_waiting t c = record {
  tree = t;
  sub = record { 0 = 0 };
  why = ForShow;
  state = c;
  acts = acts.Waits t c.node.turns.update c.node.turns.read ∷ [];
}

-- a subtransaction of an update transaction that meets a lock is deferred for its holder, and raises the update version
-- before, if it must
abbrev pub parked : TreeNo → SubNo → Bool → Version → Met → Core → CoreKeeping
parked t k raises v met c = record {
  tree = t;
  sub = k;
  why = ForHolder met.holder;
  state = record c { node = record c.node { turns = raised_if raises v.0 c.node.turns } };
  acts = turned_if raises v.0 ++ acts.Parked t k met.item met.holder ∷ [];
}

abbrev pub parked_if : TreeNo → SubNo → Bool → Version → Option Met → Core → Option CoreKeeping
parked_if t k raises v None c = None
parked_if t k raises v (Some met) c = Some (parked t k raises v met c)

-- what an update transaction with these operations meets
abbrev pub meets : ScriptData → TreeNo → List SubOp → Core → Option Met
meets s t ops c = met_in t (marks_of s ops) c.locks

-- whether a node defers an enabled message that asks for a subtransaction of a transaction of this kind
abbrev pub kept_by_kind : ScriptData → Core → TreeNo → Body → Option TreeKind → Option CoreKeeping
kept_by_kind s c t (Root u) (Some Update) = parked_if t (record { 0 = 0 }) false c.node.turns.update (meets s t (asked_ops s (Root u)) c) c
kept_by_kind s c t (SubLetter u k v) (Some Update) =
    parked_if t k (nat_lt c.node.turns.update.0 v.0) v (meets s t (asked_ops s (SubLetter u k v)) c) c
kept_by_kind s c t (Root u) (Some Strict) = if is_born_now c.node then None else Some (root_waiting t c)
kept_by_kind s c t _ _ = None

-- whether a node defers an enabled message, and what its core makes of that
abbrev pub core_keeping : ScriptData → Core → Body → Option CoreKeeping
core_keeping s c (Root t) = kept_by_kind s c t (Root t) (tree_kind_at s t.0)
core_keeping s c (SubLetter t k v) = kept_by_kind s c t (SubLetter t k v) (tree_kind_at s t.0)
core_keeping s c _ = None
