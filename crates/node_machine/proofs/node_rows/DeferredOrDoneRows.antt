-- A node's row of a message, by what it brings.
use Rattle.std.proofs.Common.{◌≡◌, ℕ, ◌==◌, ◌&&◌, Bool, true, false, List, [], ◌∷◌, ◌++◌, refl, sym, ap, ◌∙◌, subst, Option, Some, None}
use Rattle.std.specs.Prelude.{if◌then◌else◌, IsSome}
use Rattle.std.proofs.lemmas.Bool.{eq-eqb}
use Rattle.tv_base.specs.declared.numbers.SubNo.{SubNo}
use Rattle.tv_base.specs.declared.numbers.TreeNo.{TreeNo}
use Rattle.tv_base.specs.declared.numbers.Version.{Version}
use Rattle.letter_types.specs.declared.bodies.Body.{Body}
use Rattle.letter_types.specs.declared.bodies.Body.TheVariants.{Root, Sub as SubLetter, Wake}
use Rattle.letter_types.specs.declared.entries.Letter.{Letter}
use Rattle.letter_types.specs.declared.kept.KeptLetter.{KeptLetter}
use Rattle.letter_types.specs.declared.kept.KeepReason.{KeepReason}
use Rattle.letter_types.specs.Kept.{brought, first_called, kept_without, without_called}
use Rattle.letter_types.specs.Steps.{Out, still}
use Rattle.node_machine.specs.Again.{with_last}
use Rattle.nc_locks.specs.declared.modes.Met.{Met}
use Rattle.tx_trees.specs.ScriptData.{ScriptData}
use Rattle.tx_trees.specs.declared.parts.TreeKind.{TreeKind}
use Rattle.tx_trees.specs.declared.parts.TreeKind.TheVariants.{Update, Read, Strict}
use Rattle.world_model.specs.Core.{Core}
use Rattle.world_model.specs.Keeping.{AreKeptAt, AsksFor, KeepingNode, brought_row, kept_row, keeping_row}
use Rattle.world_model.specs.Named.{tree_kind_at}
use Rattle.world_model.specs.Strict.{CoreKeeping, core_keeping, core_row, is_born_now, is_core_apt, kept_by_kind, parked, parked_if, root_waiting}
use Rattle.node_machine.specs.Changes.{MayBeKept, kept_with}
use Rattle.node_machine.specs.inside.Bringing.{done_out, keep_by, kept_out}
use Rattle.node_machine.proofs.node_rows.BroughtAddressed.{called_at, one_sub, one_tree}

-- a core defers a message as what it asks for
parked_asks : (t : TreeNo) (k : SubNo) (raises : Bool) (v : Version) (met : Option Met)
    (c : Core) (kept : CoreKeeping) (b : Body) → AsksFor t k b
    → parked_if t k raises v met c ≡ Some kept → AsksFor kept.tree kept.sub b
parked_asks t k raises v None c kept b asks is = let no : None ≡ Some kept = is in cc
parked_asks t k raises v (Some met) c kept b asks is =
    let some : Some (parked t k raises v met c) ≡ Some kept = is in
    let same : parked t k raises v met c ≡ kept = cc in
    subst (λ (x : CoreKeeping). AsksFor x.tree x.sub b) same asks

waiting_asks : (t : TreeNo) (c : Core) (kept : CoreKeeping) (born : Bool)
    → (if born then None else Some (root_waiting t c)) ≡ Some kept → AsksFor kept.tree kept.sub (Root t)
waiting_asks t c kept true is = let no : None ≡ Some kept = is in cc
waiting_asks t c kept false is =
    let same : root_waiting t c ≡ kept = cc in
    subst (λ (x : CoreKeeping). AsksFor x.tree x.sub (Root t)) same (refl, refl)

root_asks : (s : ScriptData) (c : Core) (t : TreeNo) (kind : Option TreeKind) (kept : CoreKeeping)
    → kept_by_kind s c t (Root t) kind ≡ Some kept → AsksFor kept.tree kept.sub (Root t)
root_asks s c t (Some Update) kept is =
    parked_asks t (record { 0 = 0 }) false c.node.turns.update _ c kept (Root t) (refl, refl) is
root_asks s c t (Some Strict) kept is = waiting_asks t c kept (is_born_now c.node) is
root_asks s c t (Some Read) kept is = let no : None ≡ Some kept = is in cc
root_asks s c t None kept is = let no : None ≡ Some kept = is in cc

sub_asks : (s : ScriptData) (c : Core) (t : TreeNo) (k : SubNo) (v : Version) (kind : Option TreeKind)
    (kept : CoreKeeping)
    → kept_by_kind s c t (SubLetter t k v) kind ≡ Some kept → AsksFor kept.tree kept.sub (SubLetter t k v)
sub_asks s c t k v (Some Update) kept is = parked_asks t k _ v _ c kept (SubLetter t k v) (refl, refl) is
sub_asks s c t k v (Some Strict) kept is = let no : None ≡ Some kept = is in cc
sub_asks s c t k v (Some Read) kept is = let no : None ≡ Some kept = is in cc
sub_asks s c t k v None kept is = let no : None ≡ Some kept = is in cc

pub kept_asks : (s : ScriptData) (c : Core) (b : Body) (kept : CoreKeeping) → core_keeping s c b ≡ Some kept
    → AsksFor kept.tree kept.sub b
kept_asks s c (Root t) kept is = root_asks s c t (tree_kind_at s t.0) kept is
kept_asks s c (SubLetter t k v) kept is = sub_asks s c t k v (tree_kind_at s t.0) kept is
kept_asks s c _ kept is = let no : None ≡ Some kept = is in cc

-- what was brought is deferred again, if it was called
again_kept : (p : ℕ) (t u : TreeNo) (k j : SubNo) (why : KeepReason) (r : Letter) (kept : List KeptLetter) → AreKeptAt p kept
    → first_called u j kept ≡ Some r → AsksFor t k r.body
    → kept_with (keep_by r t k why (Wake u j)) kept
    ≡ without_called u j kept ++ record { letter = r; tree = t; sub = k; why = why } ∷ []
again_kept p t u k j why r kept at is asks =
    let found = (called_at p u j kept r at is).asks in
    let tree = one_tree t u k j r.body asks found in
    let sub = one_sub t u k j r.body asks found in
    let there : first_called t k kept ≡ Some r =
    ap (λ (x : TreeNo). first_called x k kept) tree ∙ ap (λ (x : SubNo). first_called u x kept) sub ∙ is in
    let rest : without_called t k kept ≡ without_called u j kept =
    ap (λ (x : TreeNo). without_called x k kept) tree ∙ ap (λ (x : SubNo). without_called u x kept) sub in
    ap (λ (o : Option Letter). with_last (without_called t k kept) t k why o) there
    ∙ ap (λ (xs : List KeptLetter). xs ++ record { letter = r; tree = t; sub = k; why = why } ∷ []) rest

some_letter : (o : Option Letter) (r : Letter) → o ≡ Some r → IsSome o
some_letter o r is = subst (λ (o : Option Letter). IsSome o) (sym is) refl

again_may : (p : ℕ) (t u : TreeNo) (k j : SubNo) (r : Letter) (kept : List KeptLetter) → AreKeptAt p kept
    → first_called u j kept ≡ Some r → AsksFor t k r.body → IsSome (first_called t k kept)
again_may p t u k j r kept at is asks =
    let found = (called_at p u j kept r at is).asks in
    some_letter (first_called t k kept) r
    (ap (λ (x : TreeNo). first_called x k kept) (one_tree t u k j r.body asks found)
    ∙ ap (λ (x : SubNo). first_called u x kept) (one_sub t u k j r.body asks found) ∙ is)

kept_by : (p : ℕ) (l r : Letter) (t : TreeNo) (k : SubNo) (why : KeepReason) (kept : List KeptLetter) (b : Body)
    → AreKeptAt p kept → brought kept l b ≡ Some r → AsksFor t k r.body
    → kept_with (keep_by l t k why b) kept
    ≡ kept_without kept b ++ record { letter = r; tree = t; sub = k; why = why } ∷ []
kept_by p l r t k why kept (Wake u j) at is asks = again_kept p t u k j why r kept at is asks
kept_by p l r t k why kept _ at is asks =
    let some : Some l ≡ Some r = is in
    let same : l ≡ r = cc in
    ap (λ (m : Letter). kept ++ record { letter = m; tree = t; sub = k; why = why } ∷ []) same

may_by : (p : ℕ) (l r : Letter) (t : TreeNo) (k : SubNo) (why : KeepReason) (kept : List KeptLetter) (b : Body)
    → AreKeptAt p kept → brought kept l b ≡ Some r → AsksFor t k r.body → MayBeKept (keep_by l t k why b) kept
may_by p l r t k why kept (Wake u j) at is asks = again_may p t u k j r kept at is asks
may_by p l r t k why kept _ at is asks = tt

-- and else as it came
pub brought_kept : (l r : Letter) (t : TreeNo) (k : SubNo) (why : KeepReason) (kept : List KeptLetter)
    → AreKeptAt l.to.0 kept → brought kept l l.body ≡ Some r → AsksFor t k r.body
    → kept_with (keep_by l t k why l.body) kept
    ≡ kept_without kept l.body ++ record { letter = r; tree = t; sub = k; why = why } ∷ []
brought_kept l r t k why kept at is asks = kept_by l.to.0 l r t k why kept l.body at is asks

pub may_keep : (l r : Letter) (t : TreeNo) (k : SubNo) (why : KeepReason) (kept : List KeptLetter)
    → AreKeptAt l.to.0 kept → brought kept l l.body ≡ Some r → AsksFor t k r.body
    → MayBeKept (keep_by l t k why l.body) kept
may_keep l r t k why kept at is asks = may_by l.to.0 l r t k why kept l.body at is asks

-- the row, by whether what is brought is enabled, and is deferred
abbrev row_by : ScriptData → ℕ → Letter → Letter → KeepingNode → Bool → Option CoreKeeping → Out KeepingNode
row_by s p l r n test kept = if test then kept_row s p l r n kept else still n

apt_by : (test : Bool) (s : ScriptData) (p : ℕ) (n : KeepingNode) (l r : Letter) → brought n.kept l l.body ≡ Some r
    → r.to.0 ≡ p → is_core_apt s r.to.0 n.core r ≡ test
    → row_by s p l r n test (core_keeping s n.core r.body) ≡ keeping_row s p n l
apt_by test s p n l r is to apt =
    let here : is_core_apt s p n.core r ≡ test = ap (λ (q : ℕ). is_core_apt s q n.core r) (sym to) ∙ apt in
    let there : ((r.to.0 == p) && is_core_apt s p n.core r) ≡ test =
    ap (λ (b : Bool). b && is_core_apt s p n.core r) (eq-eqb r.to.0 p to) ∙ here in
    sym (ap (λ (b : Bool). row_by s p l r n b (core_keeping s n.core r.body)) there)
    ∙ sym (ap (λ (o : Option Letter). brought_row (is_core_apt s p) s p l n o) is)

pub keeps_row : (s : ScriptData) (p : ℕ) (n : KeepingNode) (l r : Letter) (k : CoreKeeping)
    → brought n.kept l l.body ≡ Some r → r.to.0 ≡ p → is_core_apt s r.to.0 n.core r ≡ true
    → core_keeping s n.core r.body ≡ Some k → kept_out l r n k ≡ keeping_row s p n l
keeps_row s p n l r k is to apt kept =
    sym (ap (λ (o : Option CoreKeeping). row_by s p l r n true o) kept) ∙ apt_by true s p n l r is to apt

pub does_row : (s : ScriptData) (p : ℕ) (n : KeepingNode) (l r : Letter) (o : Out Core)
    → brought n.kept l l.body ≡ Some r → r.to.0 ≡ p → is_core_apt s r.to.0 n.core r ≡ true
    → core_keeping s n.core r.body ≡ None → o ≡ core_row s r.to.0 n.core r.from.0 r.body
    → done_out l r n o ≡ keeping_row s p n l
does_row s p n l r o is to apt kept row =
    ap (λ (x : Out Core). done_out l r n x) (row ∙ ap (λ (q : ℕ). core_row s q n.core r.from.0 r.body) to)
    ∙ sym (ap (λ (o : Option CoreKeeping). row_by s p l r n true o) kept) ∙ apt_by true s p n l r is to apt
