-- An act that bears a transaction, raises a number or lets a root wait is the first of its entry; and the message that
-- is brought then.
use Rattle.std.proofs.Common.{◌≡◌, ℕ, zero, suc, ◌+◌, ◌==◌, Bool, true, false, List, [], ◌∷◌, ◌++◌, take, refl, sym, ap, subst, ◌∙◌, arith, append-nil, Option, Some, None}
use Rattle.std.specs.Prelude.{if◌then◌else◌, nat_lt, slice_get}
use Rattle.tv_base.specs.declared.numbers.SubNo.{SubNo}
use Rattle.tv_base.specs.declared.numbers.TreeNo.{TreeNo}
use Rattle.tv_base.specs.declared.numbers.Version.{Version}
use Rattle.letter_types.specs.declared.acts.Act.{Act}
use Rattle.letter_types.specs.declared.acts.Act.TheVariants as acts
use Rattle.letter_types.specs.declared.bodies.Body.{Body}
use Rattle.letter_types.specs.declared.bodies.Body.TheVariants.{Root, Sub as SubLetter, Done, Turn, Show, Sweep, Decide, Decided, Release, AskDone, AskAsked, Order, Ask}
use Rattle.letter_types.specs.declared.bodies.What.TheVariants as whats
use Rattle.letter_types.specs.declared.bodies.Notice.{Notice}
use Rattle.letter_types.specs.declared.bodies.Notice.TheVariants as notices
use Rattle.letter_types.specs.declared.entries.Entry.{Entry}
use Rattle.letter_types.specs.declared.entries.Letter.{Letter}
use Rattle.letter_types.specs.declared.votes.Vote.{Vote}
use Rattle.letter_types.specs.Steps.{Out}
use Rattle.nc_locks.specs.declared.modes.Met.{Met}
use Rattle.node_versions.specs.declared.turns.Turns.{Turns}
use Rattle.script_parts.specs.declared.parts.TreeKind.{TreeKind}
use Rattle.script_parts.specs.declared.parts.TreeKind.TheVariants.{Update, Read, Strict}
use Rattle.script_parts.specs.ScriptData.{ScriptData, reads}
use Rattle.script_parts.specs.Valid.{IsValid}
use Rattle.tree_home.specs.declared.homes.Answered.{Answered}
use Rattle.world_model.specs.Asked.{asked_ops, tree_part}
use Rattle.world_model.specs.Core.{Core}
use Rattle.world_model.specs.Counts.{one_if, tally}
use Rattle.world_model.specs.Done.{TreeOut, note_part, turned_if}
use Rattle.world_model.specs.Named.{is_strict_at, tree_kind_at}
use Rattle.world_model.specs.Notices.{act_of, values_of}
use Rattle.world_model.specs.Runs.{IsStepRun, client_in, keeping_in}
use Rattle.world_model.specs.Strict.{CoreKeeping, answered, core_by_kind, core_keeping, core_row, decided, is_born_now, kept_by_kind, locks_by, meets, none_refuses, note_core, noted_vote, parked_if, refused_there, root_waiting, voting}
use Rattle.world_model.specs.Votes.{vote_of}
use Rattle.world_model.proofs.Cases.{Case, Coordinates, NodeDoes, NodeKeeps, Submits, case}
use Rattle.world_model.proofs.Epochs.{Orders, Plainly, ask_each, order_each}
use Rattle.world_model.proofs.KeptThere.{OfKeeping}
use Rattle.board_rules.specs.Histories.{places_at}
use Rattle.tree_laws.proofs.decided.AptRulings.{client_acts}
use Rattle.tree_laws.proofs.apt.AptVersions.{before}
use Rattle.advance_laws.proofs.governed.Brought.{BringsTo}
use Rattle.advance_laws.proofs.phases.Progress.{brings_to}
use Rattle.advance_laws.proofs.counting.Working.{reads_by}
use Rattle.run_laws.proofs.each_tree.EveryApt.{all_apt}
use Rattle.run_laws.proofs.act_order.Fronts.{front}

-- such an act
abbrev pub opens : Act → Bool
opens (acts.Born t v) = true
opens (acts.Turned v) = true
opens (acts.Showed v) = true
opens (acts.Swept v) = true
opens (acts.Waits t u r) = true
opens acts.Finished = false
opens _ = false

-- a letter may raise a core's update version to v: it is of a subtransaction of a tree that isn't a read tree, or orders it
pub data MayRaise (s : ScriptData) (c : Core) (body : Body) (v : Version) : Type 0 where
  BySub : (t : TreeNo) (k : SubNo) → body ≡ SubLetter t k v → reads s t.0 ≡ false → MayRaise s c body v
  ByOrder : Orders c body whats.Turn v → MayRaise s c body v

-- the root of a strict tree waits, since the update version isn't the one after the read version
pub record LetsWait (s : ScriptData) (turns : Turns) (body : Body) (t : TreeNo) (u r : Version) : Type 0 where
  pub root : body ≡ Root t
  pub strict : is_strict_at s t.0 ≡ true
  pub update : u ≡ turns.update
  pub read : r ≡ turns.read
  pub apart : (turns.update.0 == turns.read.0 + 1) ≡ false

-- such an act is of a letter with this body, at a core that was this one
abbrev pub OpensFor : ScriptData → Core → Body → Act → Type 0
OpensFor s was body (acts.Born t v) = body ≡ Root t
OpensFor s was body (acts.Turned v) = (nat_lt was.node.turns.update.0 v.0 ≡ true) × MayRaise s was body v
OpensFor s was body (acts.Showed v) = Orders was body whats.Show v
OpensFor s was body (acts.Swept v) = Orders was body whats.Sweep v
OpensFor s was body (acts.Waits t u r) = LetsWait s was.node.turns body t u r
OpensFor s was body acts.Finished = Unit {0}
OpensFor s was body _ = Unit {0}

-- no act of these is one
abbrev pub NoneOpens : List Act → Type 0
NoneOpens [] = Unit {0}
NoneOpens (a ∷ xs) = (opens a ≡ false) × NoneOpens xs

-- no act of these but the first, and that is of this letter
abbrev pub OpensWith : ScriptData → Core → Body → List Act → Type 0
OpensWith s was body [] = Unit {0}
OpensWith s was body (a ∷ xs) = OpensFor s was body a × NoneOpens xs

-- The acts of subtransactions and of decisions aren't such.
told_none : (t : TreeNo) (k : SubNo) (n : Notice) → opens (act_of t k n) ≡ false
told_none t k (notices.Did values) = refl
told_none t k (notices.Yes values) = refl
told_none t k (notices.No cause) = refl

told_for : (s : ScriptData) (was : Core) (body : Body) (t : TreeNo) (k : SubNo) (n : Notice) → OpensFor s was body (act_of t k n)
told_for s was body t k (notices.Did values) = tt
told_for s was body t k (notices.Yes values) = tt
told_for s was body t k (notices.No cause) = tt

one_none : (xs : List Act) (a : Act) → opens a ≡ false → NoneOpens xs → NoneOpens (xs ++ a ∷ [])
one_none [] a is none = (is, tt)
one_none (x ∷ xs) a is none = (none.0, one_none xs a is none.1)

decided_with : (s : ScriptData) (was : Core) (body : Body) (xs : List Act) (t : TreeNo) (commit : Bool) → OpensWith s was body xs
    → OpensWith s was body (xs ++ acts.Decided t commit ∷ [])
decided_with s was body [] t commit w = (tt, tt)
decided_with s was body (x ∷ xs) t commit w = (w.0, one_none xs (acts.Decided t commit) refl w.1)

decided_opens : (s : ScriptData) (was : Core) (body : Body) (c : Core) (o : TreeOut) (found : Option Answered)
    → OpensWith s was body o.out.acts → OpensWith s was body (decided s c o found).acts
decided_opens s was body c o None w = w
decided_opens s was body c o (Some a) w = decided_with s was body o.out.acts a.tree (none_refuses a.tree c.refusals) w

-- The row of a core.
turned_with : (s : ScriptData) (was : Core) (body : Body) (raises : Bool) (v : Version) (a : Act) → opens a ≡ false
    → OpensFor s was body a → (raises ≡ true → (nat_lt was.node.turns.update.0 v.0 ≡ true) × MayRaise s was body v)
    → OpensWith s was body (turned_if raises v.0 ++ a ∷ [])
turned_with s was body true v a none is may = (may refl, (none, tt))
turned_with s was body false v a none is may = (is, tt)

root_opens : (s : ScriptData) (p from : ℕ) (t : TreeNo) (kind : Option TreeKind) (c : Core)
    → OpensWith s c (Root t) (core_by_kind s p from t (Root t) kind c).acts
root_opens s p from t (Some Update) c = (refl, (refl, tt))
root_opens s p from t (Some Read) c = (refl, (refl, tt))
root_opens s p from t (Some Strict) c =
    let body : Body = Root t in
    let v : Version = c.node.turns.update in
    let vote : Vote = vote_of c.locks c.node.items t v (asked_ops s body) in
    let o : TreeOut = tree_part s p from v (nat_lt c.node.turns.update.0 v.0) (voting vote c.node.items) body c.node in
    let noted : Core = record c { locks = locks_by vote t (asked_ops s body) c.locks; refusals = noted_vote body vote c.refusals } in
    decided_opens s c body noted o o.answered (refl, (told_none t (record { 0 = 0 }) (voting vote c.node.items).notice, tt))
root_opens s p from t None c = tt

sub_opens : (s : ScriptData) (p from : ℕ) (t : TreeNo) (k : SubNo) (v : Version) (kind : Option TreeKind) (c : Core) → tree_kind_at s t.0 ≡ kind
    → OpensWith s c (SubLetter t k v) (core_by_kind s p from t (SubLetter t k v) kind c).acts
sub_opens s p from t k v (Some Update) c of =
    let plain : reads s t.0 ≡ false = reads_by s t.0 Update (slice_get s.trees t.0) refl of in
    turned_with s c (SubLetter t k v) (nat_lt c.node.turns.update.0 v.0) v (acts.Did t k []) refl tt (λ above. (above, BySub t k refl plain))
sub_opens s p from t k v (Some Read) c of = (tt, tt)
sub_opens s p from t k v (Some Strict) c of =
    let body : Body = SubLetter t k v in
    let plain : reads s t.0 ≡ false = reads_by s t.0 Strict (slice_get s.trees t.0) refl of in
    let raises : Bool = nat_lt c.node.turns.update.0 v.0 in
    let vote : Vote = vote_of c.locks c.node.items t v (asked_ops s body) in
    let o : TreeOut = tree_part s p from v raises (voting vote c.node.items) body c.node in
    let noted : Core = record c { locks = locks_by vote t (asked_ops s body) c.locks; refusals = noted_vote body vote c.refusals } in
    let notice : Notice = (voting vote c.node.items).notice in
    decided_opens s c body noted o o.answered
    (turned_with s c body raises v (act_of t k notice) (told_none t k notice) (told_for s c body t k notice)
    (λ above. (above, BySub t k refl plain)))
sub_opens s p from t k v None c of = tt

pick : (s : ScriptData) (was : Core) (body : Body) (b : Bool) (x y : Out Core) → OpensWith s was body x.acts → OpensWith s was body y.acts
    → OpensWith s was body (if b then x else y).acts
pick s was body true x y l r = l
pick s was body false x y l r = r

note_opens : (s : ScriptData) (from : ℕ) (t : TreeNo) (k : SubNo) (v : Version) (notice : Notice) (c : Core)
    → OpensWith s c (Done t k v notice) (note_core s from t k v notice c).acts
note_opens s from t k v notice c =
    let o : TreeOut = note_part from t.0 k.0 v.0 (values_of notice) c.node in
    let noted : Core = record c { refusals = refused_there t k notice c } in
    pick s c (Done t k v notice) (is_strict_at s t.0) (decided s noted o o.answered) (answered s c o)
    (decided_opens s c (Done t k v notice) noted o o.answered tt) tt

turn_opens : (s : ScriptData) (was : Core) (body : Body) (v : Version) (test : Bool) → Orders was body whats.Turn v
    → nat_lt was.node.turns.update.0 v.0 ≡ test → OpensWith s was body (turned_if test v.0)
turn_opens s was body v true to above = ((above, ByOrder to), tt)
turn_opens s was body v false to above = tt

row_opens : (s : ScriptData) (p from : ℕ) (body : Body) (c : Core) → OpensWith s c body (core_row s p c from body).acts
row_opens s p from (Root t) c = root_opens s p from t (tree_kind_at s t.0) c
row_opens s p from (SubLetter t k v) c = sub_opens s p from t k v (tree_kind_at s t.0) c refl
row_opens s p from (Done t k v notice) c = note_opens s from t k v notice c
row_opens s p from (Decide t v commit) c = (tt, tt)
row_opens s p from (Decided t v) c = tt
row_opens s p from (Release t) c = (tt, tt)
row_opens s p from (Turn v) c = turn_opens s c (Turn v) v (nat_lt c.node.turns.update.0 v.0) (Plainly refl) refl
row_opens s p from (Show v) c = (Plainly refl, tt)
row_opens s p from (Sweep v) c = (Plainly refl, tt)
row_opens s p from (AskDone v k) c = tt
row_opens s p from (AskAsked v k) c = tt
row_opens s p from (Order e what v) c =
    order_each (λ (o : Out Core). OpensWith s c (Order e what v) o.acts) s e what v c tt tt
    (λ to. turn_opens s c (Order e what v) v (nat_lt c.node.turns.update.0 v.0) to refl) (λ to new. (to, tt)) (λ to new. (to, tt))
row_opens s p from (Ask e) c = ask_each (λ (o : Out Core). OpensWith s c (Ask e) o.acts) s e c tt tt
row_opens s p from _ c = tt

-- A letter that is kept.
abbrev KeepsWith : ScriptData → Core → Body → CoreKeeping → Type 0
KeepsWith s c body k = OpensWith s c body k.acts

parked_opens : (s : ScriptData) (c : Core) (body : Body) (t : TreeNo) (k : SubNo) (raises : Bool) (v : Version) (met : Option Met)
    → (raises ≡ true → (nat_lt c.node.turns.update.0 v.0 ≡ true) × MayRaise s c body v)
    → OfKeeping (KeepsWith s c body) (parked_if t k raises v met c)
parked_opens s c body t k raises v None may = tt
parked_opens s c body t k raises v (Some m) may = turned_with s c body raises v (acts.Parked t k m.item m.holder) refl tt may

waits_opens : (s : ScriptData) (c : Core) (t : TreeNo) (test : Bool) → is_strict_at s t.0 ≡ true → is_born_now c.node ≡ test
    → OfKeeping (KeepsWith s c (Root t)) (if test then None else Some (root_waiting t c))
waits_opens s c t true strict is = tt
waits_opens s c t false strict is = (record { root = refl; strict = strict; update = refl; read = refl; apart = is }, tt)

root_kept : (s : ScriptData) (c : Core) (t : TreeNo) (kind : Option TreeKind) → tree_kind_at s t.0 ≡ kind
    → OfKeeping (KeepsWith s c (Root t)) (kept_by_kind s c t (Root t) kind)
root_kept s c t (Some Update) of =
    parked_opens s c (Root t) t (record { 0 = 0 }) false c.node.turns.update (meets s t (asked_ops s (Root t)) c) (λ no. absurd (cc no))
root_kept s c t (Some Strict) of =
    let strict : is_strict_at s t.0 ≡ true = rw (of, is_strict_at) refl in waits_opens s c t (is_born_now c.node) strict refl
root_kept s c t (Some Read) of = tt
root_kept s c t None of = tt

sub_kept : (s : ScriptData) (c : Core) (t : TreeNo) (k : SubNo) (v : Version) (kind : Option TreeKind) → tree_kind_at s t.0 ≡ kind
    → OfKeeping (KeepsWith s c (SubLetter t k v)) (kept_by_kind s c t (SubLetter t k v) kind)
sub_kept s c t k v (Some Update) of =
    let body : Body = SubLetter t k v in
    let plain : reads s t.0 ≡ false = reads_by s t.0 Update (slice_get s.trees t.0) refl of in
    parked_opens s c body t k (nat_lt c.node.turns.update.0 v.0) v (meets s t (asked_ops s body) c) (λ above. (above, BySub t k refl plain))
sub_kept s c t k v (Some Strict) of = tt
sub_kept s c t k v (Some Read) of = tt
sub_kept s c t k v None of = tt

keeping_opens : (s : ScriptData) (c : Core) (body : Body) → OfKeeping (KeepsWith s c body) (core_keeping s c body)
keeping_opens s c (Root t) = root_kept s c t (tree_kind_at s t.0) refl
keeping_opens s c (SubLetter t k v) = sub_kept s c t k v (tree_kind_at s t.0) refl
keeping_opens s c _ = tt

-- An entry of a run.
pub data Opened (s : ScriptData) (past : List Entry) (e : Entry) : Type 0 where
  AtNode : (p : ℕ) (r : Letter) → BringsTo s past e p r → OpensWith s (keeping_in s past p).core r.body e.acts → Opened s past e
  Apart : NoneOpens e.acts → Opened s past e

none_counted : (xs : List Act) → tally (λ (a : Act). one_if (opens a)) xs ≡ 0 → NoneOpens xs
none_counted [] none = tt
none_counted (a ∷ xs) none = by (opens a) refl (λ rest. none_counted xs rest) where
  by : (test : Bool) → opens a ≡ test → (tally (λ (b : Act). one_if (opens b)) xs ≡ 0 → NoneOpens xs) → (opens a ≡ false) × NoneOpens xs
  by true is rest = absurd (omega (arith, none, ap one_if is))
  by false is rest = (is, rest (omega (arith, none)))

opened_by : (s : ScriptData) (past : List Entry) (e : Entry) → Case s past e → Opened s past e
opened_by s past e (NodeDoes p r d) =
    let c : Core = (keeping_in s past p).core in
    AtNode p r (brings_to s past e p r d.brings)
    (subst (λ (xs : List Act). OpensWith s c r.body xs) (sym d.acts) (row_opens s p r.from.0 r.body c))
opened_by s past e (NodeKeeps p r k d) =
    let c : Core = (keeping_in s past p).core in
    AtNode p r (brings_to s past e p r d.brings)
    (subst (λ (xs : List Act). OpensWith s c r.body xs) (sym d.acts)
    (subst (OfKeeping (KeepsWith s c r.body)) d.keeps (keeping_opens s c r.body)))
opened_by s past e (Coordinates at made) = Apart (subst NoneOpens (sym made.acts) tt)
opened_by s past e (Submits at says) =
    Apart
    (none_counted e.acts
    (ap (λ (xs : List Act). tally (λ (a : Act). one_if (opens a)) xs) says.1
    ∙ client_acts (λ (a : Act). one_if (opens a)) s (client_in s past) e.took.body refl))

-- So such an act is the first of its entry, and this letter is brought there.
pub record OpensAs (s : ScriptData) (past : List Entry) (e : Entry) (j : ℕ) (a : Act) : Type 0 where
  pub node : ℕ
  pub letter : Letter
  pub brings : BringsTo s past e node letter
  pub first : j ≡ 0
  pub is : OpensFor s (keeping_in s past node).core letter.body a

none_at : (xs : List Act) (j : ℕ) (a : Act) → NoneOpens xs → slice_get xs j ≡ Some a → opens a ≡ true → ⊥
none_at [] j a none at is = absurd (cc at)
none_at (x ∷ xs) zero a none at is =
    let same : x ≡ a = cc at in let no : opens a ≡ false = ap opens (sym same) ∙ none.0 in absurd (cc (is, no))
none_at (x ∷ xs) (suc j) a none at is = none_at xs j a none.1 at is

first_at : (s : ScriptData) (was : Core) (body : Body) (xs : List Act) (j : ℕ) (a : Act) → OpensWith s was body xs → slice_get xs j ≡ Some a
    → opens a ≡ true → (j ≡ 0) × OpensFor s was body a
first_at s was body [] j a w at is = absurd (cc at)
first_at s was body (x ∷ xs) zero a w at is = let same : x ≡ a = cc at in (refl, subst (OpensFor s was body) same w.0)
first_at s was body (x ∷ xs) (suc j) a w at is = absurd (none_at xs j a w.1 at is)

opens_by : (s : ScriptData) (past : List Entry) (e : Entry) (j : ℕ) (a : Act) → slice_get e.acts j ≡ Some a → opens a ≡ true → Opened s past e
    → OpensAs s past e j a
opens_by s past e j a at is (AtNode p r b w) =
    let f = first_at s (keeping_in s past p).core r.body e.acts j a w at is in
    record { node = p; letter = r; brings = b; first = f.0; is = f.1 }
opens_by s past e j a at is (Apart none) = absurd (none_at e.acts j a none at is)

pub opens_as : (s : ScriptData) (past : List Entry) (e : Entry) (j : ℕ) (a : Act) → IsValid s → IsStepRun s (e ∷ past)
    → slice_get e.acts j ≡ Some a → opens a ≡ true → OpensAs s past e j a
opens_as s past e j a valid run at is =
    opens_by s past e j a at is (opened_by s past e (case s past e run.0 (all_apt s (e ∷ past) valid run).0))

-- so nothing of its entry comes before it
pub first_front : (past : List Entry) (e : Entry) (j : ℕ) → j ≡ 0 → front past e j ≡ before past
first_front past e j is = ap (λ (n : ℕ). before past ++ take n (places_at e)) is ∙ append-nil (before past)
