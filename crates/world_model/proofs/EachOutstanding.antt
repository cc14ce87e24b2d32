-- What holds of each message that has still to be done.
use Rattle.std.proofs.Common.{◌≡◌, ◌≢◌, ◌∙◌, ◌⊎◌, inl, inr, ℕ, zero, suc, ◌<◌, ◌≤◌, Bool, true, false, List, ◌∷◌, ◌++◌, map, refl, sym, subst, ◌∙◌, arith, Option, Some, None, []}
use Rattle.std.specs.Prelude.{if◌then◌else◌, nat_lt}
use Rattle.std.proofs.lemmas.Bool.{cases_eq}
use Rattle.std.proofs.lemmas.Bool.Decides.{nat_tests}
use Rattle.tv_base.specs.declared.numbers.SubNo.{SubNo}
use Rattle.tv_base.specs.declared.numbers.TreeNo.{TreeNo}
use Rattle.letter_types.specs.declared.bodies.Body.{Body}
use Rattle.letter_types.specs.declared.bodies.Body.TheVariants.{Wake}
use Rattle.letter_types.specs.declared.entries.Entry.{Entry}
use Rattle.letter_types.specs.declared.entries.Letter.{Letter}
use Rattle.letter_types.specs.declared.entries.LetterId.{LetterId}
use Rattle.script_parts.specs.ScriptData.{ScriptData}
use Rattle.world_model.specs.Counts.{tally, Each}
use Rattle.letter_types.specs.declared.kept.KeptLetter.{KeptLetter}
use Rattle.letter_types.specs.declared.kept.KeepReason.{KeepReason}
use Rattle.letter_types.specs.Kept.{is_called_for, first_called, without_called, brought, kept_without, with_called}
use Rattle.letter_types.specs.declared.kept.KeepReason.TheVariants.{Called}
use Rattle.world_model.specs.Keeping.{KeepingNode, is_apt_at, kept_row, brought_row, woken_by}
use Rattle.world_model.specs.Kept.{kept_in, kept_by, outstanding, done_of, done_by}
use Rattle.world_model.specs.Runs.{in_flight, keeping_in, IsStepRun, MayFollow}
use Rattle.world_model.specs.Strict.{CoreKeeping, core_keeping, is_core_apt}
use Rattle.world_model.proofs.Every.{each_append, each_step, each_taken}
use Rattle.world_model.proofs.Outstanding.{IsOutstanding, keeping_elsewhere, keeping_here}

-- each letter that is kept
abbrev pub EachKept : (Letter → Type 0) → List KeptLetter → Type 0
EachKept P kept = Each P (map (λ (x : KeptLetter). x.letter) kept)

-- what holds of each of two lists' letters
pub each_left : {X : Type 0} (P : X → Type 0) (xs ys : List X) → Each P (xs ++ ys) → Each P xs
each_left P [] ys all = tt
each_left P (x ∷ xs) ys all = (all.0, each_left P xs ys all.1)

pub each_right : {X : Type 0} (P : X → Type 0) (xs ys : List X) → Each P (xs ++ ys) → Each P ys
each_right P [] ys all = all
each_right P (x ∷ xs) ys all = each_right P xs ys all.1

-- The letter that is brought, and what stays deferred meanwhile.
called_at : (P : Letter → Type 0) (t : TreeNo) (k : SubNo) (x : KeptLetter) (xs : List KeptLetter) (r : Letter) (test : Bool)
    → is_called_for t k x ≡ test → EachKept P (x ∷ xs) → (first_called t k xs ≡ Some r → P r)
    → first_called t k (x ∷ xs) ≡ Some r → P r
called_at P t k x xs r true is all rest at =
    let one : Some x.letter ≡ Some r = rw is at at in
    let same : x.letter ≡ r = grind arith in
    subst P same all.0
called_at P t k x xs r false is all rest at = rest (rw is at at)

each_called : (P : Letter → Type 0) (t : TreeNo) (k : SubNo) (xs : List KeptLetter) (r : Letter) → EachKept P xs
    → first_called t k xs ≡ Some r → P r
each_called P t k [] r all at = absurd (cc at)
each_called P t k (x ∷ xs) r all at =
    called_at P t k x xs r (is_called_for t k x) refl all (each_called P t k xs r all.1) at

pub each_brought : (P : Letter → Type 0) (kept : List KeptLetter) (l r : Letter) (b : Body) → EachKept P kept → P l
    → brought kept l b ≡ Some r → P r
each_brought P kept l r (Wake t k) all one at = each_called P t k kept r all at
each_brought P kept l r _ all one at = let same : l ≡ r = grind arith in subst P same one

without_at : (P : Letter → Type 0) (t : TreeNo) (k : SubNo) (x : KeptLetter) (xs : List KeptLetter) (test : Bool)
    → is_called_for t k x ≡ test → EachKept P (x ∷ xs) → EachKept P (without_called t k xs)
    → EachKept P (without_called t k (x ∷ xs))
without_at P t k x xs true is all rest = rw is all.1
without_at P t k x xs false is all rest = rw is (all.0, rest)

each_without : (P : Letter → Type 0) (t : TreeNo) (k : SubNo) (xs : List KeptLetter) → EachKept P xs
    → EachKept P (without_called t k xs)
each_without P t k [] all = tt
each_without P t k (x ∷ xs) all =
    without_at P t k x xs (is_called_for t k x) refl all (each_without P t k xs all.1)

pub kept_meanwhile : (P : Letter → Type 0) (kept : List KeptLetter) (b : Body) → EachKept P kept
    → EachKept P (kept_without kept b)
kept_meanwhile P kept (Wake t k) all = each_without P t k kept all
kept_meanwhile P kept _ all = all

woken_at : (P : Letter → Type 0) (x : KeptLetter) (test : Bool) → P x.letter
    → P (if test then record x { why = Called } else x).letter
woken_at P x true one = one
woken_at P x false one = one

each_woken : (P : Letter → Type 0) (test : KeepReason → Bool) (xs : List KeptLetter) → EachKept P xs
    → EachKept P (with_called test xs)
each_woken P test [] all = tt
each_woken P test (x ∷ xs) all = (woken_at P x (test x.why) all.0, each_woken P test xs all.1)

-- What a node keeps after a letter.
each_more : (P : Letter → Type 0) (xs : List KeptLetter) (x : KeptLetter) → EachKept P xs → P x.letter
    → EachKept P (xs ++ x ∷ [])
each_more P [] x all one = (one, tt)
each_more P (y ∷ xs) x all one = (all.0, each_more P xs x all.1 one)

each_row : (P : Letter → Type 0) (s : ScriptData) (p : ℕ) (l r : Letter) (n : KeepingNode) (o : Option CoreKeeping)
    → EachKept P (kept_without n.kept l.body) → P r → EachKept P (kept_row s p l r n o).state.kept
each_row P s p l r n None all one = each_woken P (woken_by n.core r.body) (kept_without n.kept l.body) all
each_row P s p l r n (Some k) all one =
    each_more P (kept_without n.kept l.body) (record { letter = r; tree = k.tree; sub = k.sub; why = k.why }) all one

each_apt : (P : Letter → Type 0) (s : ScriptData) (p : ℕ) (l r : Letter) (n : KeepingNode) (test : Bool)
    → is_apt_at s p n r ≡ test → EachKept P n.kept → P r → EachKept P (brought_row (is_core_apt s p) s p l n (Some r)).state.kept
each_apt P s p l r n true is all one =
    rw is (each_row P s p l r n (core_keeping s n.core r.body) (kept_meanwhile P n.kept l.body all) one)
each_apt P s p l r n false is all one = rw is all

each_after : (P : Letter → Type 0) (s : ScriptData) (p : ℕ) (l : Letter) (n : KeepingNode) (o : Option Letter)
    → brought n.kept l l.body ≡ o → EachKept P n.kept → P l → EachKept P (brought_row (is_core_apt s p) s p l n o).state.kept
each_after P s p l n None is all one = all
each_after P s p l n (Some r) is all one =
    each_apt P s p l r n (is_apt_at s p n r) refl all (each_brought P n.kept l r l.body all one is)

-- The letters that nodes keep.
abbrev pub AtEach : (Letter → Type 0) → ScriptData → List Entry → ℕ → Type 0
AtEach P s past n = (p : ℕ) → p < n → EachKept P (kept_in s past p)

from_each : (P : Letter → Type 0) (s : ScriptData) (past : List Entry) (n : ℕ) → AtEach P s past n
    → Each P (kept_by s past n)
from_each P s past zero all = tt
from_each P s past (suc n) all =
    each_append P (kept_by s past n) (map (λ (x : KeptLetter). x.letter) (kept_in s past n))
    (from_each P s past n (λ p lt. all p (omega (arith, lt)))) (all n (omega arith))

at_each_by : (P : Letter → Type 0) (s : ScriptData) (past : List Entry) (n p : ℕ)
    → Each P (kept_by s past (suc n)) → (Each P (kept_by s past n) → p < n → EachKept P (kept_in s past p)) → p < suc n
    → (n ≡ p) ⊎ (n ≢ p) → EachKept P (kept_in s past p)
at_each_by P s past n p all rest lt (inl is) =
    subst (λ (q : ℕ). EachKept P (kept_in s past q)) is
    (each_right P (kept_by s past n) (map (λ (x : KeptLetter). x.letter) (kept_in s past n)) all)
at_each_by P s past n p all rest lt (inr ne) =
    rest (each_left P (kept_by s past n) (map (λ (x : KeptLetter). x.letter) (kept_in s past n)) all) (grind arith)

at_each : (P : Letter → Type 0) (s : ScriptData) (past : List Entry) (n : ℕ) → Each P (kept_by s past n)
    → AtEach P s past n
at_each P s past zero all p lt = absurd (omega (arith, lt))
at_each P s past (suc n) all p lt =
    at_each_by P s past n p all (λ before less. at_each P s past n before p less) lt (cases_eq n p)

-- an outstanding letter is in flight, or a node keeps it
pub each_waits : (P : Letter → Type 0) (s : ScriptData) (past : List Entry) → Each P (outstanding s past)
    → Each P (in_flight s past)
each_waits P s past all = each_left P (in_flight s past) (kept_by s past s.nodes) all

pub each_kept : (P : Letter → Type 0) (s : ScriptData) (past : List Entry) → Each P (outstanding s past)
    → AtEach P s past s.nodes
each_kept P s past all = at_each P s past s.nodes (each_right P (in_flight s past) (kept_by s past s.nodes) all)

node_at : (P : Letter → Type 0) (s : ScriptData) (past : List Entry) (e : Entry) (p : ℕ) → (e.actor.0 ≡ p) ⊎ (e.actor.0 ≢ p)
    → P e.took → EachKept P (kept_in s past p) → EachKept P (kept_in s (e ∷ past) p)
node_at P s past e p (inl is) one all =
    let n = keeping_in s past p in
    subst (λ (m : KeepingNode). EachKept P m.kept) (sym (keeping_here s past e p is))
    (each_after P s p e.took n (brought n.kept e.took e.took.body) refl all one)
node_at P s past e p (inr ne) one all =
    subst (λ (m : KeepingNode). EachKept P m.kept) (sym (keeping_elsewhere s past e p ne)) all

-- so is the letter that an entry takes
pub each_took : (P : Letter → Type 0) (s : ScriptData) (past : List Entry) (e : Entry) → MayFollow s past e
    → Each P (outstanding s past) → P e.took
each_took P s past e m all = each_taken P s past e m (each_waits P s past all)

-- every outstanding letter after an entry
pub each_outstanding : (P : Letter → Type 0) (s : ScriptData) (past : List Entry) (e : Entry) → MayFollow s past e
    → Each P (outstanding s past)
    → Each (λ o. (i : LetterId) → P (record { id = i; from = record { 0 = e.actor.0 }; to = o.to; body = o.body })) e.sent
    → Each P (outstanding s (e ∷ past))
each_outstanding P s past e m old new =
    let under = each_waits P s past old in
    let one = each_taken P s past e m under in
    each_append P (in_flight s (e ∷ past)) (kept_by s (e ∷ past) s.nodes) (each_step P s past e under new)
    (from_each P s (e ∷ past) s.nodes (λ p lt. node_at P s past e p (cases_eq e.actor.0 p) one (each_kept P s past old p lt)))

-- the letter that an entry does is one of them
done_here : (P : Letter → Type 0) (s : ScriptData) (p : ℕ) (n : KeepingNode) (l : Letter) (o : Option Letter)
    → brought n.kept l l.body ≡ o → EachKept P n.kept → P l → P (done_of s p n l o)
done_here P s p n l None is all one = one
done_here P s p n l (Some r) is all one =
    by_test (is_apt_at s p n r) (each_brought P n.kept l r l.body all one is) where
      by_test : (test : Bool) → P r → P (if test then r else l)
      by_test true its = its
      by_test false its = one

each_done_by : (P : Letter → Type 0) (s : ScriptData) (past : List Entry) (e : Entry) (test : Bool)
    → nat_lt e.actor.0 s.nodes ≡ test → (e.actor.0 < s.nodes → EachKept P (kept_in s past e.actor.0)) → P e.took
    → P (done_by s past e)
each_done_by P s past e true is all one =
    let n = keeping_in s past e.actor.0 in
    let lt : e.actor.0 < s.nodes = grind (arith, nat_tests) in
    rw is (done_here P s e.actor.0 n e.took (brought n.kept e.took e.took.body) refl (all lt) one)
each_done_by P s past e false is all one = rw is one

pub each_done : (P : Letter → Type 0) (s : ScriptData) (past : List Entry) (e : Entry) → MayFollow s past e
    → Each P (outstanding s past) → P (done_by s past e)
each_done P s past e m all =
    each_done_by P s past e (nat_lt e.actor.0 s.nodes) refl (each_kept P s past all e.actor.0)
    (each_taken P s past e m (each_waits P s past all))

-- a kept letter is one that came to its node
kept_at : (s : ScriptData) (past : List Entry) (e : Entry) (p : ℕ) → (e.actor.0 ≡ p) ⊎ (e.actor.0 ≢ p) → e.took.to.0 ≡ e.actor.0
    → EachKept (λ (l : Letter). l.to.0 ≡ p) (kept_in s past p) → EachKept (λ (l : Letter). l.to.0 ≡ p) (kept_in s (e ∷ past) p)
kept_at s past e p (inl is) to all =
    let n = keeping_in s past p in
    subst (λ (m : KeepingNode). EachKept (λ (l : Letter). l.to.0 ≡ p) m.kept) (sym (keeping_here s past e p is))
    (each_after (λ (l : Letter). l.to.0 ≡ p) s p e.took n (brought n.kept e.took e.took.body) refl all (to ∙ is))
kept_at s past e p (inr ne) to all =
    subst (λ (m : KeepingNode). EachKept (λ (l : Letter). l.to.0 ≡ p) m.kept) (sym (keeping_elsewhere s past e p ne)) all

pub kept_here : (s : ScriptData) (past : List Entry) (p : ℕ) → IsStepRun s past → EachKept (λ (l : Letter). l.to.0 ≡ p) (kept_in s past p)
kept_here s [] p run = tt
kept_here s (e ∷ past) p run = kept_at s past e p (cases_eq e.actor.0 p) run.0.addressee (kept_here s past p run.1)

-- at the start
pub each_first : (P : Letter → Type 0) (s : ScriptData) → Each P (in_flight s []) → Each P (outstanding s [])
each_first P s all =
    each_append P (in_flight s []) (kept_by s [] s.nodes) all (from_each P s [] s.nodes (λ p lt. tt))

-- so it is outstanding
each_part : {X : Type 0} (f : X → ℕ) (n : ℕ) (xs : List X) → tally f xs ≤ n → Each (λ x. f x ≤ n) xs
each_part f n [] le = tt
each_part f n (x ∷ xs) le = (omega (arith, le), each_part f n xs (omega (arith, le)))

pub done_outstanding : (s : ScriptData) (past : List Entry) (e : Entry) → MayFollow s past e
    → IsOutstanding s past (done_by s past e)
done_outstanding s past e m f =
    each_done (λ (l : Letter). f l ≤ tally f (outstanding s past)) s past e m
    (each_part f (tally f (outstanding s past)) (outstanding s past) (omega arith))
