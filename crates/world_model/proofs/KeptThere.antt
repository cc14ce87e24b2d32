-- Whatever messages a node takes: what it defers is addressed to it, and is deferred as what it asks for. So its Wakes
-- go to itself. A core that defers a message changes its versions alone.
use Rattle.std.proofs.Common.{◌≡◌, ℕ, ◌<◌, ◌==◌, Bool, true, false, List, ◌∷◌, ◌++◌, refl, arith, Option, Some, None, []}
use Rattle.std.specs.Prelude.{if◌then◌else◌, nat_lt}
use Rattle.std.proofs.lemmas.Bool.{and_parts}
use Rattle.std.proofs.lemmas.Bool.Decides.{nat_tests}
use Rattle.tv_base.specs.declared.numbers.SubNo.{SubNo}
use Rattle.tv_base.specs.declared.numbers.TreeNo.{TreeNo}
use Rattle.tv_base.specs.declared.numbers.Version.{Version}
use Rattle.letter_types.specs.declared.bodies.Body.{Body}
use Rattle.letter_types.specs.declared.bodies.Body.TheVariants.{Root, Sub as SubLetter, Wake}
use Rattle.letter_types.specs.declared.entries.Entry.{Entry}
use Rattle.letter_types.specs.declared.entries.Letter.{Letter}
use Rattle.letter_types.specs.declared.kept.KeptLetter.{KeptLetter}
use Rattle.letter_types.specs.declared.kept.KeepReason.{KeepReason}
use Rattle.letter_types.specs.declared.kept.KeepReason.TheVariants.{Called}
use Rattle.letter_types.specs.Kept.{brought, is_called_for, kept_without, wakes, with_called, without_called}
use Rattle.letter_types.specs.Steps.{Out, still}
use Rattle.nc_locks.specs.declared.modes.Met.{Met}
use Rattle.script_parts.specs.ScriptData.{ScriptData}
use Rattle.script_parts.specs.declared.parts.TreeKind.{TreeKind}
use Rattle.script_parts.specs.declared.parts.TreeKind.TheVariants.{Update, Read, Strict}
use Rattle.world_model.specs.Asked.{asked_ops}
use Rattle.world_model.specs.Core.{Core}
use Rattle.world_model.specs.Keeping.{Aptness, AreKeptAt, AsksFor, IsKeptAt, KeepingNode, brought_row, is_apt_there, keeping_row, kept_row, woken_by}
use Rattle.world_model.specs.Named.{tree_kind_at}
use Rattle.world_model.specs.Runs.{keeping_in}
use Rattle.world_model.specs.Strict.{CoreKeeping, core_keeping, is_born_now, is_core_apt, kept_by_kind, meets, parked_if, root_waiting}
use Rattle.world_model.proofs.CoreSends.{For}

-- What a core makes of a letter that it keeps.

-- nothing but its versions changes, and the letter is kept as what it asks for
pub record IsCoreKeeping (c : Core) (body : Body) (k : CoreKeeping) : Type 0 where
  pub turns_alone : k.state ≡ record c { node = record c.node { turns = k.state.node.turns } }
  pub asks : AsksFor k.tree k.sub body

-- if it keeps it
abbrev pub OfKeeping : (CoreKeeping → Type 0) → Option CoreKeeping → Type 0
OfKeeping P None = Unit {0}
OfKeeping P (Some k) = P k

parked_so : (t : TreeNo) (k : SubNo) (raises : Bool) (v : Version) (met : Option Met) (c : Core) (body : Body) → AsksFor t k body
    → OfKeeping (IsCoreKeeping c body) (parked_if t k raises v met c)
parked_so t k raises v None c body asks = tt
parked_so t k raises v (Some met) c body asks = record { turns_alone = refl; asks = asks }

waits_so : (t : TreeNo) (c : Core) (b : Bool) → OfKeeping (IsCoreKeeping c (Root t)) (if b then None else Some (root_waiting t c))
waits_so t c true = tt
waits_so t c false = record { turns_alone = refl; asks = (refl, refl) }

root_so : (s : ScriptData) (c : Core) (t : TreeNo) (kind : Option TreeKind)
    → OfKeeping (IsCoreKeeping c (Root t)) (kept_by_kind s c t (Root t) kind)
root_so s c t (Some Update) =
    parked_so t (record { 0 = 0 }) false c.node.turns.update (meets s t (asked_ops s (Root t)) c) c (Root t) (refl, refl)
root_so s c t (Some Strict) = waits_so t c (is_born_now c.node)
root_so s c t (Some Read) = tt
root_so s c t None = tt

sub_so : (s : ScriptData) (c : Core) (t : TreeNo) (k : SubNo) (v : Version) (kind : Option TreeKind)
    → OfKeeping (IsCoreKeeping c (SubLetter t k v)) (kept_by_kind s c t (SubLetter t k v) kind)
sub_so s c t k v (Some Update) =
    let body : Body = SubLetter t k v in
    parked_so t k (nat_lt c.node.turns.update.0 v.0) v (meets s t (asked_ops s body) c) c body (refl, refl)
sub_so s c t k v (Some Strict) = tt
sub_so s c t k v (Some Read) = tt
sub_so s c t k v None = tt

pub core_keeps : (s : ScriptData) (c : Core) (body : Body) → OfKeeping (IsCoreKeeping c body) (core_keeping s c body)
core_keeps s c (Root t) = root_so s c t (tree_kind_at s t.0)
core_keeps s c (SubLetter t k v) = sub_so s c t k v (tree_kind_at s t.0)
core_keeps s c _ = tt

-- What is kept at a node.

kept_without_so : (p : ℕ) (t : TreeNo) (k : SubNo) (x : KeptLetter) (xs : List KeptLetter) (b : Bool) → AreKeptAt p (x ∷ xs)
    → AreKeptAt p (without_called t k xs) → AreKeptAt p (if b then xs else x ∷ without_called t k xs)
kept_without_so p t k x xs true all rest = all.1
kept_without_so p t k x xs false all rest = (all.0, rest)

without_so : (p : ℕ) (t : TreeNo) (k : SubNo) (xs : List KeptLetter) → AreKeptAt p xs → AreKeptAt p (without_called t k xs)
without_so p t k [] all = tt
without_so p t k (x ∷ xs) all = kept_without_so p t k x xs (is_called_for t k x) all (without_so p t k xs all.1)

-- what stays deferred meanwhile
pub still_kept : (p : ℕ) (xs : List KeptLetter) (body : Body) → AreKeptAt p xs → AreKeptAt p (kept_without xs body)
still_kept p xs (Wake t k) all = without_so p t k xs all
still_kept p xs _ all = all

one_called : (p : ℕ) (x : KeptLetter) (b : Bool) → IsKeptAt p x → IsKeptAt p (if b then record x { why = Called } else x)
one_called p x true is = record { to = is.to; asks = is.asks }
one_called p x false is = is

pub called_kept : (p : ℕ) (test : KeepReason → Bool) (xs : List KeptLetter) → AreKeptAt p xs → AreKeptAt p (with_called test xs)
called_kept p test [] all = tt
called_kept p test (x ∷ xs) all = (one_called p x (test x.why) all.0, called_kept p test xs all.1)

one_more_kept : (p : ℕ) (xs : List KeptLetter) (x : KeptLetter) → AreKeptAt p xs → IsKeptAt p x → AreKeptAt p (xs ++ x ∷ [])
one_more_kept p [] x all is = (is, tt)
one_more_kept p (y ∷ xs) x all is = (all.0, one_more_kept p xs x all.1 is)

wake_for : (p n : ℕ) (test : KeepReason → Bool) (x : KeptLetter) (xs : List KeptLetter) (b : Bool) → x.letter.to.0 ≡ p → p < n
    → For n (wakes test xs)
    → For n (if b then record { to = x.letter.to; body = Wake x.tree x.sub } ∷ wakes test xs else wakes test xs)
wake_for p n test x xs true to lt rest = (omega arith, rest)
wake_for p n test x xs false to lt rest = rest

-- the Wakes go to the node itself
pub wakes_for : (p n : ℕ) (test : KeepReason → Bool) (xs : List KeptLetter) → p < n → AreKeptAt p xs → For n (wakes test xs)
wakes_for p n test [] lt all = tt
wakes_for p n test (x ∷ xs) lt all = wake_for p n test x xs (test x.why) all.0.to lt (wakes_for p n test xs lt all.1)

-- what a node keeps after a letter
abbrev KeepsThere : ℕ → Out KeepingNode → Type 0
KeepsThere p out = AreKeptAt p out.state.kept

pick : (p : ℕ) (b : Bool) (x y : Out KeepingNode) → (b ≡ true → KeepsThere p x) → KeepsThere p y → KeepsThere p (if b then x else y)
pick p true x y l r = l refl
pick p false x y l r = r

row_keeps : (s : ScriptData) (p : ℕ) (l r : Letter) (n : KeepingNode) (found : Option CoreKeeping)
    → OfKeeping (IsCoreKeeping n.core r.body) found → r.to.0 ≡ p → AreKeptAt p n.kept → KeepsThere p (kept_row s p l r n found)
row_keeps s p l r n (Some k) so to all =
    one_more_kept p (kept_without n.kept l.body) (record { letter = r; tree = k.tree; sub = k.sub; why = k.why })
    (still_kept p n.kept l.body all) (record { to = to; asks = so.asks })
row_keeps s p l r n None so to all = called_kept p (woken_by n.core r.body) (kept_without n.kept l.body) (still_kept p n.kept l.body all)

-- an apt letter is addressed to the node
pub apt_there : (apt : Aptness) (p : ℕ) (n : KeepingNode) (r : Letter) → is_apt_there apt p n r ≡ true → r.to.0 ≡ p
apt_there apt p n r is =
    let same : (r.to.0 == p) ≡ true = (and_parts (r.to.0 == p) (apt n.core r) is).0 in
    grind (arith, nat_tests)

brought_keeps : (apt : Aptness) (s : ScriptData) (p : ℕ) (l : Letter) (n : KeepingNode) (found : Option Letter) → AreKeptAt p n.kept
    → KeepsThere p (brought_row apt s p l n found)
brought_keeps apt s p l n None all = all
brought_keeps apt s p l n (Some r) all =
    pick p (is_apt_there apt p n r) (kept_row s p l r n (core_keeping s n.core r.body)) (still n)
    (λ is. row_keeps s p l r n (core_keeping s n.core r.body) (core_keeps s n.core r.body) (apt_there apt p n r is) all) all

-- one letter, by any aptness
pub kept_next_by : (apt : Aptness) (s : ScriptData) (p : ℕ) (n : KeepingNode) (l : Letter) → AreKeptAt p n.kept
    → AreKeptAt p (brought_row apt s p l n (brought n.kept l l.body)).state.kept
kept_next_by apt s p n l all = brought_keeps apt s p l n (brought n.kept l l.body) all

-- by the window of versions
pub kept_next : (s : ScriptData) (p : ℕ) (n : KeepingNode) (l : Letter) → AreKeptAt p n.kept
    → AreKeptAt p (keeping_row s p n l).state.kept
kept_next s p n l all = kept_next_by (is_core_apt s p) s p n l all

in_past_by : (s : ScriptData) (past : List Entry) (e : Entry) (p : ℕ) (b : Bool) → AreKeptAt p (keeping_in s past p).kept
    → AreKeptAt p (if b then (keeping_row s p (keeping_in s past p) e.took).state else keeping_in s past p).kept
in_past_by s past e p true all = kept_next s p (keeping_in s past p) e.took all
in_past_by s past e p false all = all

-- the same after a past
pub kept_in_past : (s : ScriptData) (past : List Entry) (p : ℕ) → AreKeptAt p (keeping_in s past p).kept
kept_in_past s [] p = tt
kept_in_past s (e ∷ past) p = in_past_by s past e p (e.actor.0 == p) (kept_in_past s past p)
