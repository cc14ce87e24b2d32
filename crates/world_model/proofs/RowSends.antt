-- What the row of a message sends, and a fact of each message of it, by what it is sent for.
use Rattle.std.proofs.Common.{◌≡◌, ℕ, zero, suc, ◌<◌, ◌≤◌, Bool, true, false, List, [], ◌∷◌, ◌++◌, length, refl, sym, subst, arith, Option, Some, None}
use Rattle.std.proofs.lemmas.Bool.{and_parts}
use Rattle.std.specs.Prelude.{if◌then◌else◌, nat_lt}
use Rattle.tv_base.specs.declared.numbers.SubNo.{SubNo}
use Rattle.tv_base.specs.declared.numbers.TreeNo.{TreeNo}
use Rattle.tv_base.specs.declared.numbers.Version.{Version}
use Rattle.letter_types.specs.declared.bodies.Answer.{Answer}
use Rattle.letter_types.specs.declared.bodies.Answer.TheVariants.{Whole}
use Rattle.letter_types.specs.declared.bodies.Body.{Body}
use Rattle.letter_types.specs.declared.bodies.Body.TheVariants.{Root, Sub as SubLetter, Done, Reply, Decide, Decided, Release, Turn, Show, Sweep, Turned, Shown, Swept, AskDone, AskAsked, DoneRow, AskedRow, Ask, Order, Numbers, Obeyed}
use Rattle.letter_types.specs.declared.bodies.Notice.{Notice}
use Rattle.letter_types.specs.declared.entries.Outgoing.{Outgoing}
use Rattle.letter_types.specs.Steps.{Out}
use Rattle.letter_types.specs.declared.votes.Vote.{Vote}
use Rattle.letter_types.specs.declared.votes.Vote.TheVariants.{Yes, No}
use Rattle.nc_locks.specs.Locks.{with_locks}
use Rattle.pair_counters.proofs.Rows.{length_numbers}
use Rattle.tree_home.specs.HeldAnswers.{answer_when_acked}
use Rattle.tree_home.specs.Homes.{Gets, OpenTrees}
use Rattle.tree_home.specs.declared.homes.Answered.{Answered}
use Rattle.script_parts.specs.Counts.{has_strict}
use Rattle.script_parts.specs.ScriptData.{ScriptData, client_of, home_of, is_strict, subs_at, updates, visited, visited_by, visits}
use Rattle.script_parts.specs.declared.parts.Sub.{Sub}
use Rattle.script_parts.specs.declared.parts.TreeKind.{TreeKind}
use Rattle.script_parts.specs.declared.parts.TreeKind.TheVariants.{Update, Read, Strict}
use Rattle.world_model.specs.Meant.{IsVisited}
use Rattle.world_model.proofs.Epochs.{ask_each, order_each}
use Rattle.world_model.specs.Asked.{asked_ops, tree_part}
use Rattle.world_model.specs.Children.{done_letter, sub_letters}
use Rattle.world_model.specs.Core.{Core, Refusals}
use Rattle.world_model.specs.Counts.{Each}
use Rattle.world_model.specs.Done.{TreeOut, note_part, sub_sent, with_open_tree}
use Rattle.world_model.specs.Named.{is_did, is_strict_at, suits, tree_kind_at}
use Rattle.world_model.specs.Node.{Effect, Node}
use Rattle.world_model.specs.Notices.{answer_noted, reply_letters, values_of}
use Rattle.world_model.specs.Reads.{getting}
use Rattle.world_model.specs.Strict.{answer_by, answer_letters, answered, core_by_kind, core_row, decided, locks_by, marks, marks_of, none_refuses, note_core, notice_by, noted_vote, refused_there, release_letters, to_each, voting}
use Rattle.world_model.specs.Updates.{touching}
use Rattle.world_model.specs.Votes.{vote_of}
use Rattle.world_model.proofs.Every.{each_append}
use Rattle.world_model.proofs.Orders.{of}
use Rattle.world_model.proofs.Notices.{answer_noted_tree}

-- A fact of addressee and body of all that a step of tree t may send: to children, ...
abbrev pub OfChildren : (ℕ → Body → Type 0) → ScriptData → TreeNo → Type 0
OfChildren P s t = (v parent : ℕ) → Each (of P) (sub_letters t.0 v parent 0 (subs_at s t.0))

-- ... at its home, ...
pub record OfTree (P : ℕ → Body → Type 0) (s : ScriptData) (t : TreeNo) : Type 0 where
  pub children : OfChildren P s t
  pub reply : (v : Version) (answer : Answer) → P (client_of s) (Reply t v answer)
  pub release : (q : ℕ) → has_strict s ≡ true → updates s t.0 ≡ true → IsVisited s t q → P q (Release t)
  pub decide : (q : ℕ) (v : Version) (commit : Bool) → is_strict_at s t.0 ≡ true → IsVisited s t q → P q (Decide t v commit)

-- ... and of its notice
abbrev pub OfNotice : (ℕ → Body → Type 0) → ScriptData → TreeNo → SubNo → Type 0
OfNotice P s t k = (v : ℕ) (notice : Notice) → suits (is_strict_at s t.0) notice ≡ true
    → of P (done_letter (home_of s t.0) t.0 k.0 v notice)

-- of all that the row of a letter may send
abbrev pub OfRow : (ℕ → Body → Type 0) → ScriptData → Core → Body → Type 0
OfRow P s c (Root t) = OfTree P s t
OfRow P s c (SubLetter t k v) = OfChildren P s t × OfNotice P s t k
OfRow P s c (Done t k v notice) = OfTree P s t
OfRow P s c (Decide t v commit) = P (home_of s t.0) (Decided t v)
OfRow P s c (Decided t v) = (a : Answered) (answer : Answer) → answer_when_acked t c.holds ≡ Some a
    → P (client_of s) (Reply a.tree a.version answer)
OfRow P s c (Turn v) = P s.nodes (Turned v)
OfRow P s c (Show v) = P s.nodes (Shown v)
OfRow P s c (Sweep v) = P s.nodes (Swept v)
OfRow P s c (Order e what v) = P s.nodes (Obeyed e what v)
OfRow P s c (Ask e) = (u r l : Version) → P s.nodes (Numbers e u r l)
OfRow P s c (AskDone v k) = (row : List ℕ) → length row ≡ s.nodes → P s.nodes (DoneRow v k row)
OfRow P s c (AskAsked v k) = (row : List ℕ) → length row ≡ s.nodes → P s.nodes (AskedRow v k row)
OfRow P s c _ = Unit {0}

-- The nodes that a tree visits.
visited_one : (P : ℕ → Type 0) (n : ℕ) (b : Bool) → (b ≡ true → P n) → Each P (if b then n ∷ [] else [])
visited_one P n true here = (here refl, tt)
visited_one P n false here = tt

pub visited_each : (P : ℕ → Type 0) (xs : List Sub) (m n : ℕ) → n ≤ m → ((q : ℕ) → visits xs q ≡ true → q < m → P q)
    → Each P (visited xs n)
visited_each P xs m zero le all = tt
visited_each P xs m (suc n) le all =
    each_append P (visited xs n) (if visits xs n then n ∷ [] else []) (visited_each P xs m n (omega arith) all)
    (visited_one P n (visits xs n) (λ is. all n is (omega arith)))

each_to : (P : ℕ → Body → Type 0) (body : Body) (qs : List ℕ) → Each (λ (q : ℕ). P q body) qs → Each (of P) (to_each body qs)
each_to P body [] all = tt
each_to P body (q ∷ qs) all = (all.0, each_to P body qs all.1)

-- a letter to each of them
to_visited : (P : ℕ → Body → Type 0) (s : ScriptData) (t : TreeNo) (body : Body) → ((q : ℕ) → IsVisited s t q → P q body)
    → Each (of P) (to_each body (visited_by s t.0))
to_visited P s t body all =
    each_to P body (visited_by s t.0)
    (visited_each (λ (q : ℕ). P q body) (subs_at s t.0) s.nodes s.nodes (omega arith) (λ q is lt. all q (record { visits = is; below = lt })))

-- What is sent with it.

-- what an answer, if there is one, is of
abbrev pub AnswersFor : TreeNo → Option Answered → Type 0
AnswersFor t o = (a : Answered) → o ≡ Some a → a.tree ≡ t

if_each : (P : ℕ → Body → Type 0) (b : Bool) (os : List Outgoing) → (b ≡ true → Each (of P) os) → Each (of P) (if b then os else [])
if_each P true os all = all refl
if_each P false os all = tt

releases_own : (P : ℕ → Body → Type 0) (s : ScriptData) (t : TreeNo) → OfTree P s t → marks s t.0 ≡ true
    → Each (of P) (to_each (Release t) (visited_by s t.0))
releases_own P s t h is =
    let parts = and_parts (has_strict s) (updates s t.0) is in
    to_visited P s t (Release t) (λ q at. h.release q parts.0 parts.1 at)

releases : (P : ℕ → Body → Type 0) (s : ScriptData) (t : TreeNo) (o : Option Answered) → OfTree P s t → AnswersFor t o
    → Each (of P) (release_letters s o)
releases P s t None h own = tt
releases P s t (Some a) h own =
    if_each P (marks s a.tree.0) (to_each (Release a.tree) (visited_by s a.tree.0))
    (releases_own P s a.tree (subst (λ (u : TreeNo). OfTree P s u) (sym (own a refl)) h))

replies : (P : ℕ → Body → Type 0) (s : ScriptData) (t : TreeNo) (o : Option Answered) → OfTree P s t → AnswersFor t o
    → Each (of P) (reply_letters (client_of s) o)
replies P s t None h own = tt
replies P s t (Some a) h own =
    let its : OfTree P s a.tree = subst (λ (u : TreeNo). OfTree P s u) (sym (own a refl)) h in
    (its.reply a.version (Whole a.values), tt)

answered_each : (P : ℕ → Body → Type 0) (s : ScriptData) (t : TreeNo) (c : Core) (o : TreeOut) → OfTree P s t → AnswersFor t o.answered
    → Each (of P) o.out.sent → Each (of P) (answered s c o).sent
answered_each P s t c o h own all =
    each_append (of P) (o.out.sent ++ release_letters s o.answered) (reply_letters (client_of s) o.answered)
    (each_append (of P) o.out.sent (release_letters s o.answered) all (releases P s t o.answered h own))
    (replies P s t o.answered h own)

decided_each : (P : ℕ → Body → Type 0) (s : ScriptData) (t : TreeNo) (c : Core) (o : TreeOut) (found : Option Answered) → OfTree P s t
    → is_strict_at s t.0 ≡ true → AnswersFor t found → Each (of P) o.out.sent → Each (of P) (decided s c o found).sent
decided_each P s t c o None h strict own all = all
decided_each P s t c o (Some a) h strict own all =
    let is : a.tree ≡ t = own a refl in
    let its : OfTree P s a.tree = subst (λ (u : TreeNo). OfTree P s u) (sym is) h in
    let one : is_strict_at s a.tree.0 ≡ true = subst (λ (u : TreeNo). is_strict_at s u.0 ≡ true) (sym is) strict in
    let commit : Bool = none_refuses a.tree c.refusals in
    each_append (of P) o.out.sent (to_each (Decide a.tree a.version commit) (visited_by s a.tree.0)) all
    (to_visited P s a.tree (Decide a.tree a.version commit) (λ q at. its.decide q a.version commit one at))

-- The letters of subtransactions, by the kind of their tree.
strict_of : (s : ScriptData) (t : ℕ) (kind : TreeKind) → tree_kind_at s t ≡ Some kind → is_strict_at s t ≡ is_strict kind
strict_of s t kind is = rw (is, is_strict_at) refl

-- the votes of a strict tree suit it
vote_suits : (vote : Vote) → is_did (notice_by vote) ≡ false
vote_suits (Yes values) = refl
vote_suits (No cause) = refl

suits_strict : (strict : Bool) (vote : Vote) → strict ≡ true → suits strict (notice_by vote) ≡ true
suits_strict strict vote is = rw is (rw (vote_suits vote) refl)

suits_other : (strict : Bool) (notice : Notice) → strict ≡ false → is_did notice ≡ true → suits strict notice ≡ true
suits_other strict notice is did = rw is did

root_answers : (t : TreeNo) (vs : Gets) (hs : OpenTrees) → AnswersFor t (answer_noted t (record { 0 = 0 }) vs hs)
root_answers t vs hs a is = answer_noted_tree t (record { 0 = 0 }) vs hs a is

-- the open trees of a root's home, where the tree is begun
abbrev opened : ScriptData → TreeNo → Version → Node → OpenTrees
opened s t v st = (with_open_tree t.0 (length (subs_at s t.0)) v.0 st).homes

root_each : (P : ℕ → Body → Type 0) (s : ScriptData) (p from : ℕ) (t : TreeNo) (kind : Option TreeKind) (c : Core) → OfTree P s t
    → tree_kind_at s t.0 ≡ kind → Each (of P) (core_by_kind s p from t (Root t) kind c).sent
root_each P s p from t (Some Update) c h is =
    let v = c.node.turns.update in
    let e : Effect = touching v (asked_ops s (Root t)) c.node.items in
    let o : TreeOut = tree_part s p from v (nat_lt v.0 v.0) e (Root t) c.node in
    answered_each P s t (record c { locks = with_locks t (marks_of s (asked_ops s (Root t))) c.locks }) o h
    (root_answers t (values_of e.notice) (opened s t v c.node)) (h.children v.0 0)
root_each P s p from t (Some Read) c h is =
    let v = c.node.turns.read in
    let e : Effect = getting v (asked_ops s (Root t)) c.node.items in
    let o : TreeOut = tree_part s p from v false e (Root t) c.node in
    answered_each P s t c o h (root_answers t (values_of e.notice) (opened s t v c.node)) (h.children v.0 0)
root_each P s p from t (Some Strict) c h is =
    let v = c.node.turns.update in
    let vote : Vote = vote_of c.locks c.node.items t v (asked_ops s (Root t)) in
    let e : Effect = voting vote c.node.items in
    let o : TreeOut = tree_part s p from v (nat_lt v.0 v.0) e (Root t) c.node in
    let noted : Core =
    record c { locks = locks_by vote t (asked_ops s (Root t)) c.locks; refusals = noted_vote (Root t) vote c.refusals } in
    decided_each P s t noted o o.answered h (strict_of s t.0 Strict is) (root_answers t (values_of e.notice) (opened s t v c.node)) (h.children v.0 0)
root_each P s p from t None c h is = tt

-- a subtransaction's letters and its notice
sub_sends : (P : ℕ → Body → Type 0) (s : ScriptData) (t : TreeNo) (k : SubNo) (v : ℕ) (notice : Notice) → OfChildren P s t
    → OfNotice P s t k → suits (is_strict_at s t.0) notice ≡ true → Each (of P) (sub_sent s t.0 k.0 v notice)
sub_sends P s t k v notice children note fits =
    each_append (of P) (sub_letters t.0 v k.0 0 (subs_at s t.0)) (done_letter (home_of s t.0) t.0 k.0 v notice ∷ [])
    (children v k.0) (note v notice fits, tt)

-- of a tree that isn't strict, which isn't answered then
other_sends : (P : ℕ → Body → Type 0) (s : ScriptData) (t : TreeNo) (k : SubNo) (v : ℕ) (notice : Notice) → OfChildren P s t
    → OfNotice P s t k → is_strict_at s t.0 ≡ false → is_did notice ≡ true → Each (of P) ((sub_sent s t.0 k.0 v notice ++ []) ++ [])
other_sends P s t k v notice children note other did =
    let sent = sub_sent s t.0 k.0 v notice in
    each_append (of P) (sent ++ []) []
    (each_append (of P) sent [] (sub_sends P s t k v notice children note (suits_other (is_strict_at s t.0) notice other did)) tt) tt

sub_each : (P : ℕ → Body → Type 0) (s : ScriptData) (p from : ℕ) (t : TreeNo) (k : SubNo) (v : Version) (kind : Option TreeKind) (c : Core)
    → OfChildren P s t → OfNotice P s t k → tree_kind_at s t.0 ≡ kind
    → Each (of P) (core_by_kind s p from t (SubLetter t k v) kind c).sent
sub_each P s p from t k v (Some Update) c children note is =
    other_sends P s t k v.0 (touching v (asked_ops s (SubLetter t k v)) c.node.items).notice children note (strict_of s t.0 Update is) refl
sub_each P s p from t k v (Some Read) c children note is =
    other_sends P s t k v.0 (getting v (asked_ops s (SubLetter t k v)) c.node.items).notice children note (strict_of s t.0 Read is) refl
sub_each P s p from t k v (Some Strict) c children note is =
    let vote : Vote = vote_of c.locks c.node.items t v (asked_ops s (SubLetter t k v)) in
    sub_sends P s t k v.0 (notice_by vote) children note (suits_strict (is_strict_at s t.0) vote (strict_of s t.0 Strict is))
sub_each P s p from t k v None c children note is = tt

-- A notice at its home.
pick_out : (P : ℕ → Body → Type 0) (b : Bool) (x y : Out Core) → (b ≡ true → Each (of P) x.sent) → Each (of P) y.sent
    → Each (of P) (if b then x else y).sent
pick_out P true x y l r = l refl
pick_out P false x y l r = r

note_each : (P : ℕ → Body → Type 0) (s : ScriptData) (from : ℕ) (t : TreeNo) (k : SubNo) (v : Version) (notice : Notice) (c : Core)
    → OfTree P s t → Each (of P) (note_core s from t k v notice c).sent
note_each P s from t k v notice c h =
    let o : TreeOut = note_part from t.0 k.0 v.0 (values_of notice) c.node in
    let noted : Core = record c { refusals = refused_there t k notice c } in
    let own : AnswersFor t o.answered = λ a is. answer_noted_tree t k (values_of notice) c.node.homes a is in
    pick_out P (is_strict_at s t.0) (decided s noted o o.answered) (answered s c o)
    (λ strict. decided_each P s t noted o o.answered h strict own tt) (answered_each P s t c o h own tt)

-- the answer of a strict tree
held_each : (P : ℕ → Body → Type 0) (s : ScriptData) (rs : Refusals) (o : Option Answered)
    → ((a : Answered) (answer : Answer) → o ≡ Some a → P (client_of s) (Reply a.tree a.version answer)) → Each (of P) (answer_letters s rs o)
held_each P s rs None all = tt
held_each P s rs (Some a) all = (all a (answer_by (rs a.tree.0) a) refl, tt)

-- the row of a letter
pub core_each : (P : ℕ → Body → Type 0) (s : ScriptData) (p from : ℕ) (body : Body) (c : Core) → OfRow P s c body
    → Each (of P) (core_row s p c from body).sent
core_each P s p from (Root t) c h = root_each P s p from t (tree_kind_at s t.0) c h refl
core_each P s p from (SubLetter t k v) c h = sub_each P s p from t k v (tree_kind_at s t.0) c h.0 h.1 refl
core_each P s p from (Done t k v notice) c h = note_each P s from t k v notice c h
core_each P s p from (Decide t v commit) c h = (h, tt)
core_each P s p from (Decided t v) c h = held_each P s c.refusals (answer_when_acked t c.holds) (λ a answer is. h a answer is)
core_each P s p from (Release t) c h = tt
core_each P s p from (Turn v) c h = (h, tt)
core_each P s p from (Show v) c h = (h, tt)
core_each P s p from (Sweep v) c h = (h, tt)
core_each P s p from (AskDone v k) c h = (h _ (length_numbers s.nodes (c.node.counts.done v.0)), tt)
core_each P s p from (AskAsked v k) c h = (h _ (length_numbers s.nodes (c.node.counts.asked v.0)), tt)
core_each P s p from (Order e what v) c h =
    order_each (λ (o : Out Core). Each (of P) o.sent) s e what v c tt (h, tt) (λ is. (h, tt)) (λ is new. (h, tt)) (λ is new. (h, tt))
core_each P s p from (Ask e) c h =
    ask_each (λ (o : Out Core). Each (of P) o.sent) s e c tt (h c.node.turns.update c.node.turns.read c.node.turns.low, tt)
core_each P s p from _ c h = tt
