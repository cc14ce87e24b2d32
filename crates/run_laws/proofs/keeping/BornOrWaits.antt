-- In every run of every valid script the entry that takes the message of a strict transaction's root bears the
-- transaction, or the root waits if its home's update version isn't the one after the read version. No other entry
-- bears it or lets a root wait.
use Rattle.std.proofs.Common.{[], ◌≡◌, ℕ, suc, ◌<◌, ◌≤◌, ◌==◌, ◌&&◌, Bool, true, false, List, ◌∷◌, ◌++◌, map, reverse, refl, sym, ap, subst, ◌∙◌, arith, Option, Some, None}
use Rattle.std.specs.Prelude.{if◌then◌else◌, IsTrue, is_some, nat_lt, slice_get}
use Rattle.std.specs.Option.{option_or}
use Rattle.std.proofs.lemmas.Bool.Decides.{nat_tests}
use Rattle.tv_base.proofs.Truths.{same_test}
use Rattle.tv_base.specs.declared.numbers.SubNo.{SubNo}
use Rattle.tv_base.specs.declared.numbers.TreeNo.{TreeNo}
use Rattle.tv_base.specs.declared.numbers.Version.{Version}
use Rattle.letter_types.specs.Kept.{brought}
use Rattle.letter_types.specs.declared.acts.Act.{Act}
use Rattle.letter_types.specs.declared.acts.Act.TheVariants as acts
use Rattle.letter_types.specs.declared.bodies.Body.{Body}
use Rattle.letter_types.specs.declared.bodies.Body.TheVariants.{Go, Root, Sub as SubLetter, Wake}
use Rattle.letter_types.specs.declared.entries.Entry.{Entry}
use Rattle.letter_types.specs.declared.entries.Letter.{Letter}
use Rattle.letter_types.specs.declared.kept.KeptLetter.{KeptLetter}
use Rattle.letter_types.specs.declared.votes.Vote.{Vote}
use Rattle.nc_locks.specs.declared.modes.Met.{Met}
use Rattle.script_parts.specs.declared.parts.TreeKind.{TreeKind}
use Rattle.script_parts.specs.declared.parts.TreeKind.TheVariants.{Update, Read, Strict}
use Rattle.script_parts.specs.ScriptData.{ScriptData}
use Rattle.script_parts.specs.Valid.{IsValid}
use Rattle.script_parts.proofs.SubsOf.{home_below}
use Rattle.tree_home.specs.declared.homes.Answered.{Answered}
use Rattle.node_versions.specs.declared.turns.Turns.{Turns}
use Rattle.board_rules.specs.Histories.{Place, born_as, is_strict_tree, places_at, places_of, version_in, was_born}
use Rattle.board_rules.specs.Moves.{read_after, update_after}
use Rattle.world_model.specs.Asked.{asked_ops, tree_part}
use Rattle.world_model.specs.Core.{Core}
use Rattle.world_model.specs.Counts.{one_if, tally}
use Rattle.world_model.specs.Done.{TreeOut}
use Rattle.world_model.specs.Keeping.{AreKeptAt, AsksFor}
use Rattle.world_model.specs.Kept.{kept_in}
use Rattle.world_model.specs.Named.{is_strict_at, tree_kind_at}
use Rattle.world_model.specs.Notices.{act_of}
use Rattle.world_model.specs.Runs.{IsStepRun, keeping_in, node_in}
use Rattle.world_model.specs.Strict.{CoreKeeping, core_by_kind, core_keeping, core_row, decided, is_born_now, kept_by_kind, locks_by, meets, none_refuses, noted_vote, parked, parked_if, root_waiting, voting}
use Rattle.world_model.specs.Votes.{vote_of}
use Rattle.world_model.proofs.Cases.{Brings, Case, Coordinates, NodeDoes, NodeKeeps, Submits, case}
use Rattle.world_model.proofs.EachOutstanding.{each_took}
use Rattle.world_model.proofs.KeptThere.{kept_in_past}
use Rattle.world_model.specs.Meant.{IsLetterMeant, IsMeant}
use Rattle.world_model.proofs.Meant.{letters_are_meant}
use Rattle.tree_laws.proofs.histories.Histories.{before_more}
use Rattle.advance_laws.proofs.governed.Brought.{BringsTo, brought_meant}
use Rattle.advance_laws.proofs.phases.Progress.{brings_to}
use Rattle.run_laws.proofs.keeping.AtOnce.{called_asks}
use Rattle.run_laws.proofs.each_tree.EveryApt.{all_apt}
use Rattle.run_laws.proofs.each_tree.EveryWhole.{strict_is}
use Rattle.run_laws.proofs.keeping.KeepingActs.{OfKeeping, client_none, coordinator_none, does_none}
use Rattle.run_laws.proofs.act_order.Fronts.{placed}
use Rattle.run_laws.specs.Roots.{IsBornOrWaits, IsForRoot, RootsAreBornOrWait, WaitsForRoot, lets_wait, strict_root, waits_among}
use Rattle.run_laws.proofs.births.NodeNumbers.{AreNumbers, node_numbers}
use Rattle.run_laws.proofs.act_order.Openings.{opens_as}

-- The strict tree whose root a letter asks for that was brought; such a letter is no Wake.
abbrev asked_root : ScriptData → Body → Option TreeNo
asked_root s (Root t) = if is_strict_tree s t.0 then Some t else None
asked_root s Go = None
asked_root s _ = None

first_is : (b : Bool) (t : TreeNo) (n : ℕ) → n ≡ 0
    → (if b && (n == 0) then Some t else None) ≡ (if b then Some t else None)
first_is true t n is = rw is refl
first_is false t n is = refl

later_none : (b : Bool) (t : TreeNo) (n : ℕ) → 0 < n → (if b && (n == 0) then Some t else None) ≡ None
later_none true t n lt = let apart : (n == 0) ≡ false = grind (arith, nat_tests) in rw apart refl
later_none false t n lt = refl

woken_root : (s : ScriptData) (from p : ℕ) (t : TreeNo) (k : SubNo) (body : Body) → AsksFor t k body
    → IsMeant s from p body
    → strict_root s (Wake t k) ≡ asked_root s body
woken_root s from p t k (Root u) asks meant =
    first_is (is_strict_tree s t.0) t k.0 asks.1
    ∙ ap (λ (w : TreeNo). if is_strict_tree s w.0 then Some w else None) (sym asks.0)
woken_root s from p t k (SubLetter u j v) asks meant =
    later_none (is_strict_tree s t.0) t k.0 (omega (arith, meant.later, ap (λ (i : SubNo). i.0) asks.1))
woken_root s from p t k _ asks meant = absurd asks

own_root : (s : ScriptData) (l r : Letter) (b : Body) → l.body ≡ b → Some l ≡ Some r
    → asked_root s b ≡ asked_root s r.body
own_root s l r b is same = let one : l ≡ r = cc same in ap (asked_root s) (sym is ∙ ap (λ (q : Letter). q.body) one)

brought_root : (s : ScriptData) (p : ℕ) (kept : List KeptLetter) (l r : Letter) (b : Body) → AreKeptAt p kept
    → l.body ≡ b
    → brought kept l b ≡ Some r → IsMeant s r.from.0 p r.body → strict_root s b ≡ asked_root s r.body
brought_root s p kept l r (Wake t k) all is brings meant =
    woken_root s r.from.0 p t k r.body (called_asks p t k kept r all brings) meant
brought_root s p kept l r (Root t) all is brings meant = own_root s l r (Root t) is brings
brought_root s p kept l r Go all is brings meant = own_root s l r Go is brings
brought_root s p kept l r b all is brings meant = own_root s l r b is brings

-- Where no act is counted as one that lets a root wait, none does.
none_waits : (xs : List Act) → tally (λ (a : Act). one_if (lets_wait a)) xs ≡ 0 → waits_among xs ≡ []
none_waits [] none = refl
none_waits (a ∷ xs) none = by (λ later. none_waits xs later) (lets_wait a) refl where
  by : (tally (λ (x : Act). one_if (lets_wait x)) xs ≡ 0 → waits_among xs ≡ []) → (b : Bool) → lets_wait a ≡ b
      → waits_among (a ∷ xs) ≡ []
  by rest true is = absurd (omega (arith, none, ap one_if is))
  by rest false is = rw is (rest (omega (arith, none)))

wait_kept : OfKeeping (λ (a : Act). one_if (lets_wait a))
wait_kept (acts.Waits t u r) none = absurd (cc none)
wait_kept acts.Finished none = refl
wait_kept _ none = refl

-- A strict tree's root that isn't kept: its row bears the tree first.
decided_born : (s : ScriptData) (q : ℕ) (t : TreeNo) (v : Version) (a : Act) (c : Core) (o : TreeOut) (found : Option Answered)
    → o.out.acts ≡ acts.Born t v ∷ a ∷ [] → IsTrue (was_born (map (placed q) (decided s c o found).acts) t.0)
decided_born s q t v a c o None is =
    subst (λ (xs : List Act). IsTrue (was_born (map (placed q) xs) t.0)) (sym is) (rw (same_test t.0) refl)
decided_born s q t v a c o (Some x) is =
    let last : Act = acts.Decided x.tree (none_refuses x.tree c.refusals) in
    subst (λ (xs : List Act). IsTrue (was_born (map (placed q) (xs ++ last ∷ [])) t.0)) (sym is) (rw (same_test t.0) refl)

strict_born : (s : ScriptData) (q p from : ℕ) (t : TreeNo) (c : Core)
    → IsTrue (was_born (map (placed q) (core_by_kind s p from t (Root t) (Some Strict) c).acts) t.0)
strict_born s q p from t c =
    let body : Body = Root t in
    let v : Version = c.node.turns.update in
    let vote : Vote = vote_of c.locks c.node.items t v (asked_ops s body) in
    let o : TreeOut = tree_part s p from v (nat_lt c.node.turns.update.0 v.0) (voting vote c.node.items) body c.node in
    let noted : Core = record c { locks = locks_by vote t (asked_ops s body) c.locks; refusals = noted_vote body vote c.refusals } in
    decided_born s q t v (act_of t (record { 0 = 0 }) (voting vote c.node.items).notice) noted o o.answered refl

born_if : (b : Bool) (k : CoreKeeping) → (if b then None else Some k) ≡ None → b ≡ true
born_if true k is = refl
born_if false k is = absurd (cc is)

root_does : (s : ScriptData) (p from : ℕ) (t : TreeNo) (kind : Option TreeKind) (c : Core) (e : Entry)
    → tree_kind_at s t.0 ≡ kind
    → is_strict_at s t.0 ≡ true → kept_by_kind s c t (Root t) kind ≡ None
    → e.acts ≡ (core_by_kind s p from t (Root t) kind c).acts
    → waits_among e.acts ≡ [] → IsBornOrWaits c.node.turns.update.0 c.node.turns.read.0 t e
root_does s p from t (Some Strict) c e of strict now is none =
    let at : is_born_now c.node ≡ true = born_if (is_born_now c.node) (root_waiting t c) now in
    let born : IsTrue (was_born (places_at e) t.0) =
    subst (λ (xs : List Act). IsTrue (was_born (map (placed e.actor.0) xs) t.0)) (sym is)
    (strict_born s e.actor.0 p from t c) in
    record {
      born = λ next. (born, none);
      waits = λ apart. absurd (cc (at, apart));
    }
root_does s p from t (Some Update) c e of strict now is none =
    let no : is_strict_at s t.0 ≡ false = rw (of, is_strict_at) refl in absurd (cc (strict, no))
root_does s p from t (Some Read) c e of strict now is none =
    let no : is_strict_at s t.0 ≡ false = rw (of, is_strict_at) refl in absurd (cc (strict, no))
root_does s p from t None c e of strict now is none =
    let no : is_strict_at s t.0 ≡ false = rw (of, is_strict_at) refl in absurd (cc (strict, no))

strict_at : (s : ScriptData) (t : ℕ) (b : Bool) → is_strict_tree s t ≡ b → is_strict_at s t ≡ b
strict_at s t b is = sym (strict_is s t (slice_get s.trees t) refl) ∙ is

row_waits : (s : ScriptData) (p from : ℕ) (body : Body) (c : Core) (e : Entry) → core_keeping s c body ≡ None
    → e.acts ≡ (core_row s p c from body).acts → waits_among e.acts ≡ []
    → WaitsForRoot c.node.turns.update.0 c.node.turns.read.0 e (asked_root s body)
row_waits s p from (Root t) c e now is none = by (is_strict_tree s t.0) refl where
  by : (b : Bool) → is_strict_tree s t.0 ≡ b
      → WaitsForRoot c.node.turns.update.0 c.node.turns.read.0 e (if b then Some t else None)
  by true strict =
      root_does s p from t (tree_kind_at s t.0) c e refl (strict_at s t.0 true strict) now is none
  by false other = none
row_waits s p from Go c e now is none = none
row_waits s p from _ c e now is none = none

-- One that is kept waits, by its node's numbers; and what is parked lets nothing wait.
parked_waits : (t : TreeNo) (k : SubNo) (raises : Bool) (v : Version) (m : Met) (c : Core)
    → waits_among (parked t k raises v m c).acts ≡ []
parked_waits t k true v m c = refl
parked_waits t k false v m c = refl

parks : (t : TreeNo) (k : SubNo) (raises : Bool) (v : Version) (met : Option Met) (c : Core) (kept : CoreKeeping)
    → parked_if t k raises v met c ≡ Some kept → waits_among kept.acts ≡ []
parks t k raises v None c kept is = absurd (cc is)
parks t k raises v (Some m) c kept is =
    let same : parked t k raises v m c ≡ kept = cc is in
    subst (λ (x : CoreKeeping). waits_among x.acts ≡ []) same (parked_waits t k raises v m c)

root_parks : (s : ScriptData) (t : TreeNo) (kind : Option TreeKind) (c : Core) (kept : CoreKeeping)
    → tree_kind_at s t.0 ≡ kind
    → is_strict_at s t.0 ≡ false → kept_by_kind s c t (Root t) kind ≡ Some kept → waits_among kept.acts ≡ []
root_parks s t (Some Update) c kept of other is =
    parks t (record { 0 = 0 }) false c.node.turns.update (meets s t (asked_ops s (Root t)) c) c kept is
root_parks s t (Some Strict) c kept of other is =
    let strict : is_strict_at s t.0 ≡ true = rw (of, is_strict_at) refl in absurd (cc (strict, other))
root_parks s t (Some Read) c kept of other is = absurd (cc is)
root_parks s t None c kept of other is = absurd (cc is)

sub_parks : (s : ScriptData) (t : TreeNo) (k : SubNo) (v : Version) (kind : Option TreeKind) (c : Core) (kept : CoreKeeping)
    → kept_by_kind s c t (SubLetter t k v) kind ≡ Some kept → waits_among kept.acts ≡ []
sub_parks s t k v (Some Update) c kept is =
    parks t k (nat_lt c.node.turns.update.0 v.0) v (meets s t (asked_ops s (SubLetter t k v)) c) c kept is
sub_parks s t k v (Some Strict) c kept is = absurd (cc is)
sub_parks s t k v (Some Read) c kept is = absurd (cc is)
sub_parks s t k v None c kept is = absurd (cc is)

waits_if : (t : TreeNo) (b : Bool) (c : Core) (kept : CoreKeeping) (e : Entry) → is_born_now c.node ≡ b
    → (if b then None else Some (root_waiting t c)) ≡ Some kept → e.acts ≡ kept.acts
    → IsBornOrWaits c.node.turns.update.0 c.node.turns.read.0 t e
waits_if t true c kept e at is own = absurd (cc is)
waits_if t false c kept e at is own =
    let same : root_waiting t c ≡ kept = cc is in
    record { born = λ next. absurd (cc (at, next)); waits = λ apart. own ∙ ap (λ (x : CoreKeeping). x.acts) (sym same) }

root_keeps : (s : ScriptData) (t : TreeNo) (kind : Option TreeKind) (c : Core) (kept : CoreKeeping) (e : Entry)
    → tree_kind_at s t.0 ≡ kind
    → is_strict_at s t.0 ≡ true → kept_by_kind s c t (Root t) kind ≡ Some kept → e.acts ≡ kept.acts
    → IsBornOrWaits c.node.turns.update.0 c.node.turns.read.0 t e
root_keeps s t (Some Strict) c kept e of strict is own = waits_if t (is_born_now c.node) c kept e refl is own
root_keeps s t (Some Update) c kept e of strict is own =
    let no : is_strict_at s t.0 ≡ false = rw (of, is_strict_at) refl in absurd (cc (strict, no))
root_keeps s t (Some Read) c kept e of strict is own = absurd (cc is)
root_keeps s t None c kept e of strict is own = absurd (cc is)

keeping_waits : (s : ScriptData) (body : Body) (c : Core) (kept : CoreKeeping) (e : Entry)
    → core_keeping s c body ≡ Some kept
    → e.acts ≡ kept.acts → WaitsForRoot c.node.turns.update.0 c.node.turns.read.0 e (asked_root s body)
keeping_waits s (Root t) c kept e is own = by (is_strict_tree s t.0) refl where
  by : (b : Bool) → is_strict_tree s t.0 ≡ b
      → WaitsForRoot c.node.turns.update.0 c.node.turns.read.0 e (if b then Some t else None)
  by true strict =
      root_keeps s t (tree_kind_at s t.0) c kept e refl (strict_at s t.0 true strict) is own
  by false other =
      ap waits_among own
      ∙ root_parks s t (tree_kind_at s t.0) c kept refl (strict_at s t.0 false other) is
keeping_waits s (SubLetter t k v) c kept e is own =
    ap waits_among own ∙ sub_parks s t k v (tree_kind_at s t.0) c kept is
keeping_waits s Go c kept e is own = absurd (cc is)
keeping_waits s _ c kept e is own = absurd (cc is)

-- An entry, by its case.
abbrev Serves : ScriptData → List Place → Entry → Type 0
Serves s xs e = WaitsForRoot (update_after xs e.actor.0) (read_after xs e.actor.0) e (strict_root s e.took.body)

root_at : (s : ScriptData) (past : List Entry) (e : Entry) (p : ℕ) (r : Letter) → IsValid s → IsStepRun s (e ∷ past)
    → BringsTo s past e p r → strict_root s e.took.body ≡ asked_root s r.body
root_at s past e p r valid run b =
    let meant = brought_meant s past e p r valid b run in
    brought_root s p (kept_in s past p) e.took r e.took.body (kept_in_past s past p) refl b.brings meant

by_numbers : (u w r v : ℕ) (e : Entry) (root asked : Option TreeNo) → u ≡ w → r ≡ v → root ≡ asked → WaitsForRoot w v e asked
    → WaitsForRoot u r e root
by_numbers u w r v e root asked update read is served =
    subst (λ (n : ℕ). WaitsForRoot n r e root) (sym update)
    (subst (λ (n : ℕ). WaitsForRoot w n e root) (sym read) (subst (WaitsForRoot w v e) (sym is) served))

node_waits : (s : ScriptData) (past : List Entry) (e : Entry) (p : ℕ) (r : Letter) → IsValid s → IsStepRun s (e ∷ past)
    → Brings s past e p r
    → WaitsForRoot (node_in s past p).turns.update.0 (node_in s past p).turns.read.0 e (asked_root s r.body)
    → Serves s (places_of (reverse past)) e
node_waits s past e p r valid run b served =
    let xs : List Place = places_of (reverse past) in
    let turns : Turns = (node_in s past p).turns in
    let n : AreNumbers past p turns = node_numbers s past valid run.1 p b.below in
    let root = root_at s past e p r valid run (brings_to s past e p r b) in
    subst (λ (q : ℕ). WaitsForRoot (update_after xs q) (read_after xs q) e (strict_root s e.took.body)) (sym b.at)
    (by_numbers (update_after xs p) turns.update.0 (read_after xs p) turns.read.0 e (strict_root s e.took.body)
    (asked_root s r.body) n.update n.read root served)

-- no letter to another actor is for a root
elsewhere : (s : ScriptData) (u r from to : ℕ) (b : Body) (e : Entry) → IsValid s → IsMeant s from to b
    → s.nodes ≤ to → waits_among e.acts ≡ []
    → WaitsForRoot u r e (strict_root s b)
elsewhere s u r from to (Root t) e valid meant le none =
    absurd (omega (arith, meant.home, home_below s t.0 valid meant.tree, le))
elsewhere s u r from to (Wake t k) e valid meant le none = absurd (omega (arith, meant.below, le))
elsewhere s u r from to Go e valid meant le none = none
elsewhere s u r from to _ e valid meant le none = none

other_waits : (s : ScriptData) (past : List Entry) (e : Entry) → IsValid s → IsStepRun s (e ∷ past)
    → s.nodes ≤ e.actor.0
    → waits_among e.acts ≡ [] → Serves s (places_of (reverse past)) e
other_waits s past e valid run le none =
    let xs : List Place = places_of (reverse past) in
    let meant = each_took (IsLetterMeant s) s past e run.0 (letters_are_meant s past valid run.1) in
    elsewhere s (update_after xs e.actor.0) (read_after xs e.actor.0) e.took.from.0 e.actor.0 e.took.body e valid
    (subst (λ (q : ℕ). IsMeant s e.took.from.0 q e.took.body) run.0.addressee meant) le none

entry_waits : (s : ScriptData) (past : List Entry) (e : Entry) → IsValid s → IsStepRun s (e ∷ past) → Case s past e
    → Serves s (places_of (reverse past)) e
entry_waits s past e valid run (NodeDoes p r d) =
    node_waits s past e p r valid run d.brings
    (row_waits s p r.from.0 r.body (keeping_in s past p).core e d.now d.acts
    (none_waits e.acts (does_none (λ (a : Act). one_if (lets_wait a)) s past e p r wait_kept d)))
entry_waits s past e valid run (NodeKeeps p r k d) =
    node_waits s past e p r valid run d.brings (keeping_waits s r.body (keeping_in s past p).core k e d.keeps d.acts)
entry_waits s past e valid run (Coordinates at says) =
    other_waits s past e valid run (omega (arith, at))
    (none_waits e.acts (coordinator_none (λ (a : Act). one_if (lets_wait a)) s e says))
entry_waits s past e valid run (Submits at says) =
    other_waits s past e valid run (omega (arith, at))
    (none_waits e.acts (client_none (λ (a : Act). one_if (lets_wait a)) s past e wait_kept says))

-- A strict tree is born by an entry for its root alone.
record BornAt (t : ℕ) (xs : List Act) : Type 0 where
  place : ℕ
  tree : TreeNo
  version : Version
  at : slice_get xs place ≡ Some (acts.Born tree version)
  is : tree.0 ≡ t

born_head : (t : ℕ) (xs : List Act) (a : Act) (v : Version) → born_as t a ≡ Some v → BornAt t (a ∷ xs)
born_head t xs (acts.Born u w) v is = by (u.0 == t) refl is where
  by : (b : Bool) → (u.0 == t) ≡ b → (if b then Some w else None) ≡ Some v → BornAt t (acts.Born u w ∷ xs)
  by true here some =
      let same : u.0 ≡ t = grind (arith, nat_tests) in record { place = 0; tree = u; version = w; at = refl; is = same }
  by false other some = absurd (cc some)
born_head t xs acts.Finished v is = absurd (cc is)
born_head t xs _ v is = absurd (cc is)

born_later : (t : ℕ) (a : Act) (xs : List Act) → BornAt t xs → BornAt t (a ∷ xs)
born_later t a xs b = record { place = suc b.place; tree = b.tree; version = b.version; at = b.at; is = b.is }

born_place : (q t : ℕ) (xs : List Act) → IsTrue (was_born (map (placed q) xs) t) → BornAt t xs
born_place q t [] born = absurd (cc born)
born_place q t (a ∷ xs) born = by (born_as t a) refl born (λ rest. born_place q t xs rest) where
  by : (o : Option Version) → born_as t a ≡ o → IsTrue (is_some (option_or o (version_in t (map (placed q) xs))))
      → (IsTrue (was_born (map (placed q) xs) t) → BornAt t xs) → BornAt t (a ∷ xs)
  by None none some rest = born_later t a xs (rest some)
  by (Some v) is some rest = born_head t xs a v is

born_alone : (s : ScriptData) (past : List Entry) (e : Entry) (t : TreeNo) → IsValid s → IsStepRun s (e ∷ past)
    → IsTrue (is_strict_tree s t.0) → IsTrue (was_born (places_at e) t.0) → strict_root s e.took.body ≡ Some t
born_alone s past e t valid run strict born =
    let b = born_place e.actor.0 t.0 e.acts born in
    let o = opens_as s past e b.place (acts.Born b.tree b.version) valid run b.at refl in
    let same : b.tree.0 ≡ t.0 = b.is in
    root_at s past e o.node o.letter valid run o.brings ∙ ap (asked_root s) o.is
    ∙ ap (λ (u : TreeNo). if is_strict_tree s u.0 then Some u else None) (λ i. record { 0 = same i }) ∙ rw strict refl

-- so each entry of a history
pub all_born_or_wait : (s : ScriptData) (past : List Entry) → IsValid s → IsStepRun s past
    → RootsAreBornOrWait s (reverse past)
all_born_or_wait s [] valid run = λ n e here. absurd (cc here)
all_born_or_wait s (e ∷ past) valid run =
    before_more (λ (h : List Entry) (x : Entry). IsForRoot s (places_of h) x) e past
    (all_born_or_wait s past valid run.1) (record {
      alone = λ t strict born. born_alone s past e t valid run strict born;
      served = entry_waits s past e valid run (case s past e run.0 (all_apt s (e ∷ past) valid run).0);
    })
