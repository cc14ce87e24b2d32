-- Which acts defer a message or let a root wait: one of each message that is deferred, and none of a row.
use Rattle.std.proofs.Common.{◌≡◌, ℕ, ◌==◌, ◌&&◌, Bool, true, false, List, [], ◌∷◌, ◌++◌, refl, ap, ◌∙◌, arith, Option, Some, None}
use Rattle.std.specs.Prelude.{nat_lt}
use Rattle.tv_base.specs.declared.numbers.SubNo.{SubNo}
use Rattle.tv_base.specs.declared.numbers.TreeNo.{TreeNo}
use Rattle.tv_base.specs.declared.numbers.Version.{Version}
use Rattle.letter_types.specs.declared.acts.Act.{Act}
use Rattle.letter_types.specs.declared.acts.Act.TheVariants as acts
use Rattle.letter_types.specs.declared.bodies.Body.{Body}
use Rattle.letter_types.specs.declared.bodies.Body.TheVariants.{Root, Sub as SubLetter, Done, Decide, Decided, Release, Turn, Show, Sweep, AskDone, AskAsked, Order, Ask}
use Rattle.letter_types.specs.declared.bodies.Notice.{Notice}
use Rattle.letter_types.specs.declared.bodies.Notice.TheVariants as notices
use Rattle.letter_types.specs.declared.entries.Entry.{Entry}
use Rattle.letter_types.specs.declared.entries.Letter.{Letter}
use Rattle.letter_types.specs.declared.kept.KeepReason.{KeepReason}
use Rattle.letter_types.specs.declared.kept.KeepReason.TheVariants.{Called, ForHolder, ForShow}
use Rattle.script_parts.specs.declared.parts.TreeKind.{TreeKind}
use Rattle.script_parts.specs.declared.parts.TreeKind.TheVariants.{Update, Read, Strict}
use Rattle.tree_home.specs.declared.homes.Answered.{Answered}
use Rattle.tx_trees.specs.ScriptData.{ScriptData}
use Rattle.world_model.specs.Asked.{asked_ops, asked_version, tree_part}
use Rattle.world_model.specs.Core.{Core}
use Rattle.world_model.specs.Counts.{Each, one_if, tally}
use Rattle.world_model.specs.Done.{TreeOut, note_part, turned_if}
use Rattle.world_model.specs.Named.{is_strict_at, tree_kind_at}
use Rattle.world_model.specs.Node.{Effect, Node}
use Rattle.world_model.specs.Notices.{act_of, values_of}
use Rattle.world_model.specs.Reads.{getting}
use Rattle.world_model.specs.Runs.{Says, client_in, keeping_in}
use Rattle.world_model.specs.Strict.{CoreKeeping, core_by_kind, core_row, decided, locks_by, none_refuses, note_core, noted_vote, refused_there, voting}
use Rattle.world_model.specs.Tables.{client_table}
use Rattle.world_model.specs.Updates.{touching}
use Rattle.world_model.specs.Votes.{vote_of}
use Rattle.world_model.proofs.Cases.{Does, Keeps}
use Rattle.world_model.proofs.Every.{each_append, each_map, each_none}
use Rattle.world_model.proofs.Keepings.{of_kept}
use Rattle.tree_laws.proofs.decided.AptRulings.{client_acts}
use Rattle.run_laws.specs.Parks.{parks_for, shown_as, waits_for}
use Rattle.world_model.proofs.Epochs.{order_each, ask_each}
use Rattle.letter_types.specs.Steps.{Out}
use Rattle.world_model.proofs.Coordination.{IsCoordinated}

-- a letter is parked, or a root waits
abbrev pub is_keeping : Act → Bool
is_keeping (acts.Parked t k i h) = true
is_keeping (acts.Waits t v w) = true
is_keeping acts.Finished = false
is_keeping _ = false

-- a number that counts no other act
abbrev pub OfKeeping : (Act → ℕ) → Type 0
OfKeeping g = (a : Act) → is_keeping a ≡ false → g a ≡ 0

abbrev Plain : List Act → Type 0
Plain does = Each (λ (a : Act). is_keeping a ≡ false) does

told_plain : (t : TreeNo) (k : SubNo) (n : Notice) → Plain (act_of t k n ∷ [])
told_plain t k (notices.Did values) = (refl, tt)
told_plain t k (notices.Yes values) = (refl, tt)
told_plain t k (notices.No cause) = (refl, tt)

turned_plain : (v : ℕ) (raises : Bool) → Plain (turned_if raises v)
turned_plain v true = (refl, tt)
turned_plain v false = tt

part_plain : (s : ScriptData) (p from : ℕ) (v : Version) (raises : Bool) (e : Effect) (body : Body) (st : Node)
    → Plain (tree_part s p from v raises e body st).out.acts
part_plain s p from v raises e (Root t) st = (refl, told_plain t (record { 0 = 0 }) e.notice)
part_plain s p from v raises e (SubLetter t k w) st =
    each_append (λ (a : Act). is_keeping a ≡ false) (turned_if raises v.0) (act_of t k e.notice ∷ []) (turned_plain v.0 raises) (told_plain t k e.notice)
part_plain s p from v raises e _ st = tt

decided_plain : (s : ScriptData) (c : Core) (o : TreeOut) (a : Option Answered) → Plain o.out.acts → Plain (decided s c o a).acts
decided_plain s c o None all = all
decided_plain s c o (Some a) all =
    each_append (λ (b : Act). is_keeping b ≡ false) o.out.acts (acts.Decided a.tree (none_refuses a.tree c.refusals) ∷ []) all (refl, tt)

kind_plain : (s : ScriptData) (p from : ℕ) (t : TreeNo) (body : Body) (kind : Option TreeKind) (c : Core)
    → Plain (core_by_kind s p from t body kind c).acts
kind_plain s p from t body (Some Update) c =
    let v = asked_version c.node.turns.update body in
    part_plain s p from v (nat_lt c.node.turns.update.0 v.0) (touching v (asked_ops s body) c.node.items) body c.node
kind_plain s p from t body (Some Read) c =
    let v = asked_version c.node.turns.read body in
    part_plain s p from v false (getting v (asked_ops s body) c.node.items) body c.node
kind_plain s p from t body (Some Strict) c =
    let v = asked_version c.node.turns.update body in
    let vote = vote_of c.locks c.node.items t v (asked_ops s body) in
    let o = tree_part s p from v (nat_lt c.node.turns.update.0 v.0) (voting vote c.node.items) body c.node in
    decided_plain s (record c { locks = locks_by vote t (asked_ops s body) c.locks; refusals = noted_vote body vote c.refusals }) o o.answered
    (part_plain s p from v (nat_lt c.node.turns.update.0 v.0) (voting vote c.node.items) body c.node)
kind_plain s p from t body None c = tt

note_plain : (s : ScriptData) (from : ℕ) (t : TreeNo) (k : SubNo) (v : Version) (notice : Notice) (c : Core) (strict : Bool)
    → is_strict_at s t.0 ≡ strict → Plain (note_core s from t k v notice c).acts
note_plain s from t k v notice c true is =
    let o = note_part from t.0 k.0 v.0 (values_of notice) c.node in
    rw is (decided_plain s (record c { refusals = refused_there t k notice c }) o o.answered tt)
note_plain s from t k v notice c false is = rw is tt

row_plain : (s : ScriptData) (p from : ℕ) (body : Body) (c : Core) → Plain (core_row s p c from body).acts
row_plain s p from (Root t) c = kind_plain s p from t (Root t) (tree_kind_at s t.0) c
row_plain s p from (SubLetter t k v) c = kind_plain s p from t (SubLetter t k v) (tree_kind_at s t.0) c
row_plain s p from (Done t k v notice) c = note_plain s from t k v notice c (is_strict_at s t.0) refl
row_plain s p from (Decide t v commit) c = (refl, tt)
row_plain s p from (Decided t v) c = tt
row_plain s p from (Release t) c = (refl, tt)
row_plain s p from (Turn v) c = turned_plain v.0 (nat_lt c.node.turns.update.0 v.0)
row_plain s p from (Show v) c = (refl, tt)
row_plain s p from (Sweep v) c = (refl, tt)
row_plain s p from (AskDone v k) c = tt
row_plain s p from (AskAsked v k) c = tt
row_plain s p from (Order e what v) c =
    order_each (λ (o : Out Core). Plain o.acts) s e what v c tt tt (λ to. turned_plain v.0 (nat_lt c.node.turns.update.0 v.0))
    (λ to new. (refl, tt)) (λ to new. (refl, tt))
row_plain s p from (Ask e) c = ask_each (λ (o : Out Core). Plain o.acts) s e c tt tt
row_plain s p from _ c = tt

-- so an entry that does a letter
pub does_none : (g : Act → ℕ) (s : ScriptData) (past : List Entry) (e : Entry) (p : ℕ) (r : Letter) → OfKeeping g → Does s past e p r
    → tally g e.acts ≡ 0
does_none g s past e p r of d =
    let c : Core = (keeping_in s past p).core in
    ap (λ (xs : List Act). tally g xs) d.acts
    ∙ each_none g (core_row s p c r.from.0 r.body).acts
    (each_map (λ (a : Act). is_keeping a ≡ false) (λ (a : Act). g a ≡ 0) (core_row s p c r.from.0 r.body).acts of (row_plain s p r.from.0 r.body c))

-- and one of another actor
pub coordinator_none : (g : Act → ℕ) (s : ScriptData) (e : Entry) → IsCoordinated s e → tally g e.acts ≡ 0
coordinator_none g s e made = ap (λ (xs : List Act). tally g xs) made.acts

pub client_none : (g : Act → ℕ) (s : ScriptData) (past : List Entry) (e : Entry) → OfKeeping g
    → Says (client_table s (client_in s past) e.took) e → tally g e.acts ≡ 0
client_none g s past e of says =
    ap (λ (xs : List Act). tally g xs) says.1 ∙ client_acts g s (client_in s past) e.took.body (of acts.Finished refl)

-- The numbers.
pub parks_of : (t k h : ℕ) → OfKeeping (parks_for t k h)
parks_of t k h (acts.Parked u j i g) none = absurd (cc none)
parks_of t k h acts.Finished none = refl
parks_of t k h _ none = refl

pub waits_of : (t : ℕ) → OfKeeping (waits_for t)
waits_of t (acts.Waits u v w) none = absurd (cc none)
waits_of t acts.Finished none = refl
waits_of t _ none = refl

-- a letter that is kept for this reason is parked
abbrev pub parked_as : ℕ → ℕ → ℕ → ℕ → ℕ → KeepReason → ℕ
parked_as t k h u j (ForHolder g) = one_if ((u == t) && ((j == k) && (g.0 == h)))
parked_as t k h u j ForShow = 0
parked_as t k h u j Called = 0

pub after_turn : (g : Act → ℕ) (raises : Bool) (v : ℕ) (a : Act) → OfKeeping g → tally g (turned_if raises v ++ a ∷ []) ≡ g a
after_turn g true v a of = omega (arith, of (acts.Turned (record { 0 = v })) refl)
after_turn g false v a of = omega arith

pub keeps_parks : (s : ScriptData) (past : List Entry) (e : Entry) (p : ℕ) (r : Letter) (o : CoreKeeping) (t k h : ℕ) → Keeps s past e p r o
    → tally (parks_for t k h) e.acts ≡ parked_as t k h o.tree.0 o.sub.0 o.why
keeps_parks s past e p r o t k h d =
    ap (λ (xs : List Act). tally (parks_for t k h) xs) d.acts
    ∙ of_kept s (keeping_in s past p).core (λ (x : CoreKeeping). tally (parks_for t k h) x.acts ≡ parked_as t k h x.tree.0 x.sub.0 x.why) r.body o (record {
      parks = λ u j raises v m. after_turn (parks_for t k h) raises v.0 (acts.Parked u j m.item m.holder) (parks_of t k h);
      waits = λ u. refl;
    }) d.keeps

pub keeps_waits : (s : ScriptData) (past : List Entry) (e : Entry) (p : ℕ) (r : Letter) (o : CoreKeeping) (t : ℕ) → Keeps s past e p r o
    → tally (waits_for t) e.acts ≡ shown_as t o.tree.0 o.why
keeps_waits s past e p r o t d =
    ap (λ (xs : List Act). tally (waits_for t) xs) d.acts
    ∙ of_kept s (keeping_in s past p).core (λ (x : CoreKeeping). tally (waits_for t) x.acts ≡ shown_as t x.tree.0 x.why) r.body o (record {
      parks = λ u j raises v m. after_turn (waits_for t) raises v.0 (acts.Parked u j m.item m.holder) (waits_of t);
      waits = λ u. omega arith;
    }) d.keeps
