-- In every run of enabled messages, of each subtransaction as many Wakes are in flight to a node as messages are called
-- there. So each Wake brings one.
use Rattle.std.proofs.Common.{◌≡◌, ◌≢◌, ◌⊎◌, inl, inr, ℕ, ◌+◌, ◌<◌, ◌≤◌, ◌==◌, ◌&&◌, Bool, true, false, List, [], ◌∷◌, refl, sym, ap, subst, ◌∙◌, arith, Some}
use Rattle.std.specs.Prelude.{if◌then◌else◌, IsSome}
use Rattle.std.proofs.lemmas.Bool.{cases_eq}
use Rattle.std.proofs.lemmas.Bool.Decides.{nat_tests}
use Rattle.tv_base.specs.declared.numbers.SubNo.{SubNo}
use Rattle.tv_base.specs.declared.numbers.TreeNo.{TreeNo}
use Rattle.tv_base.proofs.Chosen.{if_most}
use Rattle.letter_types.specs.declared.bodies.Body.{Body}
use Rattle.letter_types.specs.declared.bodies.Body.TheVariants.{Wake}
use Rattle.letter_types.specs.declared.entries.Entry.{Entry}
use Rattle.letter_types.specs.declared.entries.Letter.{Letter}
use Rattle.letter_types.specs.declared.entries.Outgoing.{Outgoing}
use Rattle.letter_types.specs.declared.kept.KeptLetter.{KeptLetter}
use Rattle.letter_types.specs.declared.kept.KeepReason.{KeepReason}
use Rattle.letter_types.specs.Kept.{first_called, is_called, is_called_for, kept_without, wakes}
use Rattle.letter_types.specs.Letters.{letters_of}
use Rattle.script_parts.specs.ScriptData.{ScriptData, client_of}
use Rattle.world_model.specs.Calls.{calls, is_wake_of}
use Rattle.world_model.specs.Core.{Core}
use Rattle.world_model.specs.Counts.{one_if, tally}
use Rattle.world_model.specs.Keeping.{AreKeptAt, KeepingNode}
use Rattle.world_model.specs.Kept.{kept_in}
use Rattle.world_model.specs.Keeping.{woken_by}
use Rattle.world_model.specs.Runs.{MayFollow, client_in, in_flight, keeping_in}
use Rattle.world_model.specs.Strict.{CoreKeeping, core_keeping, core_row}
use Rattle.world_model.proofs.Bags.{sealed_tally, tally-append, tally-drop, tally_step}
use Rattle.world_model.proofs.Calls.{done_calls, kept_calls}
use Rattle.world_model.proofs.Cases.{Case, Coordinates, Does, Keeps, NodeDoes, NodeKeeps, Submits, case}
use Rattle.world_model.proofs.Keepings.{of_kept}
use Rattle.world_model.proofs.KeptThere.{kept_in_past, still_kept}
use Rattle.world_model.proofs.Outstanding.{keeping_elsewhere}
use Rattle.world_model.proofs.Sends.{on}
use Rattle.tree_laws.specs.Waking.{WakesBringLetters, WakesFindLetters, is_wake_at}
use Rattle.tree_laws.proofs.kept.NoWakes.{HaveNoWake, client_none, coordinator_none, core_none}

-- the same of what is sent
abbrev sent_wake : TreeNo → SubNo → ℕ → Outgoing → ℕ
sent_wake t k p o = if o.to.0 == p then is_wake_of t k o.body else 0

sent_wakes : (t : TreeNo) (k : SubNo) (p : ℕ) (e : Entry) → tally (is_wake_at t k p) (letters_of e) ≡ tally (sent_wake t k p) e.sent
sent_wakes t k p e =
    sealed_tally (is_wake_at t k p) (sent_wake t k p) e.stamp.0 e.actor.0 0 e.sent (λ i o. refl)

-- Where no Wake is sent.
few_wakes : (t : TreeNo) (k : SubNo) (p : ℕ) (os : List Outgoing) → tally (sent_wake t k p) os ≤ tally (on (is_wake_of t k)) os
few_wakes t k p [] = omega arith
few_wakes t k p (o ∷ os) = omega (arith, few_wakes t k p os, if_most (o.to.0 == p) (is_wake_of t k o.body))

no_wakes : (t : TreeNo) (k : SubNo) (p : ℕ) (os : List Outgoing) → HaveNoWake t k os → tally (sent_wake t k p) os ≡ 0
no_wakes t k p os none = omega (arith, few_wakes t k p os, none)

-- A node's Wakes go to itself.
own_wake : (t : TreeNo) (k : SubNo) (p : ℕ) (test : KeepReason → Bool) (x : KeptLetter) (xs : List KeptLetter) (b : Bool) → x.letter.to.0 ≡ p
    → test x.why ≡ b → tally (sent_wake t k p) (wakes test xs) ≡ tally (on (is_wake_of t k)) (wakes test xs)
    → tally (sent_wake t k p) (wakes test (x ∷ xs)) ≡ tally (on (is_wake_of t k)) (wakes test (x ∷ xs))
own_wake t k p test x xs true to is rest =
    let here : (x.letter.to.0 == p) ≡ true = grind (arith, nat_tests) in
    rw is (omega (arith, rest, ap (λ (b : Bool). if b then is_wake_of t k (Wake x.tree x.sub) else 0) here))
own_wake t k p test x xs false to is rest = rw is rest

own_wakes : (t : TreeNo) (k : SubNo) (p : ℕ) (test : KeepReason → Bool) (xs : List KeptLetter) → AreKeptAt p xs
    → tally (sent_wake t k p) (wakes test xs) ≡ tally (on (is_wake_of t k)) (wakes test xs)
own_wakes t k p test [] all = refl
own_wakes t k p test (x ∷ xs) all = own_wake t k p test x xs (test x.why) all.0.to refl (own_wakes t k p test xs all.1)

other_wake : (t : TreeNo) (k : SubNo) (p : ℕ) (test : KeepReason → Bool) (x : KeptLetter) (xs : List KeptLetter) (b : Bool) → x.letter.to.0 ≢ p
    → test x.why ≡ b → tally (sent_wake t k p) (wakes test xs) ≡ 0 → tally (sent_wake t k p) (wakes test (x ∷ xs)) ≡ 0
other_wake t k p test x xs true to is rest =
    let there : (x.letter.to.0 == p) ≡ false = grind (arith, nat_tests) in
    rw is (omega (arith, rest, ap (λ (b : Bool). if b then is_wake_of t k (Wake x.tree x.sub) else 0) there))
other_wake t k p test x xs false to is rest = rw is rest

other_wakes : (t : TreeNo) (k : SubNo) (p q : ℕ) (test : KeepReason → Bool) (xs : List KeptLetter) → q ≢ p → AreKeptAt q xs
    → tally (sent_wake t k p) (wakes test xs) ≡ 0
other_wakes t k p q test [] ne all = refl
other_wakes t k p q test (x ∷ xs) ne all =
    other_wake t k p test x xs (test x.why) (λ is. ne (sym all.0.to ∙ is)) refl (other_wakes t k p q test xs ne all.1)

-- The letter that an entry takes.
took_own : (t : TreeNo) (k : SubNo) (p : ℕ) (l : Letter) → l.to.0 ≡ p → is_wake_at t k p l ≡ is_wake_of t k l.body
took_own t k p l to =
    let here : (l.to.0 == p) ≡ true = grind (arith, nat_tests) in
    ap (λ (b : Bool). if b then is_wake_of t k l.body else 0) here

took_other : (t : TreeNo) (k : SubNo) (p : ℕ) (l : Letter) → l.to.0 ≢ p → is_wake_at t k p l ≡ 0
took_other t k p l ne =
    let there : (l.to.0 == p) ≡ false = grind (arith, nat_tests) in
    ap (λ (b : Bool). if b then is_wake_of t k l.body else 0) there

-- How what is called goes on: with what was sent, and without what was taken.
abbrev Balances : TreeNo → SubNo → ScriptData → List Entry → Entry → ℕ → Type 0
Balances t k s past e p =
    calls t k (kept_in s (e ∷ past) p) + is_wake_at t k p e.took ≡ calls t k (kept_in s past p) + tally (sent_wake t k p) e.sent

-- an entry of another actor that sends no Wake there
elsewhere : (t : TreeNo) (k : SubNo) (s : ScriptData) (past : List Entry) (e : Entry) (p : ℕ) → MayFollow s past e → e.actor.0 ≢ p
    → tally (sent_wake t k p) e.sent ≡ 0 → Balances t k s past e p
elsewhere t k s past e p m ne none =
    omega (
      arith,
      none,
      took_other t k p e.took (λ is. ne (sym m.addressee ∙ is)),
      ap (λ (n : KeepingNode). calls t k n.kept) (keeping_elsewhere s past e p ne),
    )

-- what a node's row sends
node_sent : (t : TreeNo) (k : SubNo) (s : ScriptData) (past : List Entry) (e : Entry) (p q : ℕ) (r : Letter) → Does s past e q r
    → tally (sent_wake t k p) e.sent
    ≡ tally (sent_wake t k p) (wakes (woken_by (keeping_in s past q).core r.body) (kept_without (kept_in s past q) e.took.body))
node_sent t k s past e p q r d =
    let core = (core_row s q (keeping_in s past q).core r.from.0 r.body).sent in
    let woken = wakes (woken_by (keeping_in s past q).core r.body) (kept_without (kept_in s past q) e.took.body) in
    omega (
      arith,
      ap (λ (os : List Outgoing). tally (sent_wake t k p) os) d.sent,
      tally-append (sent_wake t k p) core woken,
      no_wakes t k p core (core_none t k s q r.from.0 (keeping_in s past q).core r.body),
    )

stay_kept : (s : ScriptData) (past : List Entry) (e : Entry) (q : ℕ) → AreKeptAt q (kept_without (kept_in s past q) e.took.body)
stay_kept s past e q = still_kept q (kept_in s past q) e.took.body (kept_in_past s past q)

does_here : (t : TreeNo) (k : SubNo) (s : ScriptData) (past : List Entry) (e : Entry) (p : ℕ) (r : Letter) → MayFollow s past e
    → Does s past e p r → Balances t k s past e p
does_here t k s past e p r m d =
    let rest = kept_without (kept_in s past p) e.took.body in
    omega (
      arith,
      done_calls t k s p e.took r (keeping_in s past p) d.brings.brings,
      ap (calls t k) d.kept,
      took_own t k p e.took (m.addressee ∙ d.brings.at),
      node_sent t k s past e p p r d,
      own_wakes t k p (woken_by (keeping_in s past p).core r.body) rest (stay_kept s past e p),
    )

does_balance : (t : TreeNo) (k : SubNo) (s : ScriptData) (past : List Entry) (e : Entry) (p q : ℕ) (r : Letter) → MayFollow s past e
    → Does s past e q r → (q ≡ p) ⊎ (q ≢ p) → Balances t k s past e p
does_balance t k s past e p q r m d (inl is) =
    does_here t k s past e p r m (subst (λ (n : ℕ). Does s past e n r) is d)
does_balance t k s past e p q r m d (inr ne) =
    elsewhere t k s past e p m (λ is. ne (sym d.brings.at ∙ is))
    (node_sent t k s past e p q r d
    ∙ other_wakes t k p q (woken_by (keeping_in s past q).core r.body) (kept_without (kept_in s past q) e.took.body) ne (stay_kept s past e q))

-- a letter that is kept isn't kept as called
kept_uncalled : (s : ScriptData) (c : Core) (body : Body) (k : CoreKeeping) → core_keeping s c body ≡ Some k → is_called k.why ≡ false
kept_uncalled s c body k is =
    of_kept s c (λ (x : CoreKeeping). is_called x.why ≡ false) body k (record { parks = λ t j raises v m. refl; waits = λ t. refl }) is

keeps_here : (t : TreeNo) (k : SubNo) (s : ScriptData) (past : List Entry) (e : Entry) (p : ℕ) (r : Letter) (o : CoreKeeping)
    → MayFollow s past e → Keeps s past e p r o → Balances t k s past e p
keeps_here t k s past e p r o m d =
    omega (
      arith,
      kept_calls t k s p e.took r (keeping_in s past p) o (kept_uncalled s (keeping_in s past p).core r.body o d.keeps) d.brings.brings,
      ap (calls t k) d.kept,
      took_own t k p e.took (m.addressee ∙ d.brings.at),
      ap (λ (os : List Outgoing). tally (sent_wake t k p) os) d.sent,
    )

keeps_balance : (t : TreeNo) (k : SubNo) (s : ScriptData) (past : List Entry) (e : Entry) (p q : ℕ) (r : Letter) (o : CoreKeeping)
    → MayFollow s past e → Keeps s past e q r o → (q ≡ p) ⊎ (q ≢ p) → Balances t k s past e p
keeps_balance t k s past e p q r o m d (inl is) =
    keeps_here t k s past e p r o m (subst (λ (n : ℕ). Keeps s past e n r o) is d)
keeps_balance t k s past e p q r o m d (inr ne) =
    elsewhere t k s past e p m (λ is. ne (sym d.brings.at ∙ is))
    (ap (λ (os : List Outgoing). tally (sent_wake t k p) os) d.sent)

-- each entry
balances : (t : TreeNo) (k : SubNo) (s : ScriptData) (past : List Entry) (e : Entry) (p : ℕ) → MayFollow s past e → p < s.nodes
    → Case s past e → Balances t k s past e p
balances t k s past e p m lt (NodeDoes q r d) = does_balance t k s past e p q r m d (cases_eq q p)
balances t k s past e p m lt (NodeKeeps q r o d) = keeps_balance t k s past e p q r o m d (cases_eq q p)
balances t k s past e p m lt (Coordinates at made) =
    elsewhere t k s past e p m (λ is. omega (arith, is, at, lt)) (no_wakes t k p _ (coordinator_none t k s e made))
balances t k s past e p m lt (Submits at says) =
    elsewhere t k s past e p m (λ is. omega (arith, is, at, lt))
    (ap (λ (os : List Outgoing). tally (sent_wake t k p) os) says.0
    ∙ no_wakes t k p _ (client_none t k s (client_in s past) e.took.body))

go_none : (t : TreeNo) (k : SubNo) (s : ScriptData) (p : ℕ) → p < s.nodes → tally (is_wake_at t k p) (in_flight s []) ≡ 0
go_none t k s p lt =
    let other : (client_of s == p) ≡ false = grind (arith, nat_tests) in
    rw other refl

pub wakes_find_letters : WakesFindLetters
wakes_find_letters s [] p t k valid apt run lt = go_none t k s p lt
wakes_find_letters s (e ∷ past) p t k valid apt run lt =
    omega (
      arith,
      wakes_find_letters s past p t k valid apt.1 run.1 lt,
      tally_step (is_wake_at t k p) s past e run.0,
      sent_wakes t k p e,
      balances t k s past e p run.0 lt (case s past e run.0 apt.0),
    )

-- Where some letter is called, the first one is there.
found_at : (t : TreeNo) (k : SubNo) (x : KeptLetter) (xs : List KeptLetter) (test : Bool) → is_called_for t k x ≡ test
    → (1 ≤ calls t k xs → IsSome (first_called t k xs)) → 1 ≤ calls t k (x ∷ xs) → IsSome (first_called t k (x ∷ xs))
found_at t k x xs true is rest some = rw is refl
found_at t k x xs false is rest some = rw is (rest (omega (arith, some, ap one_if is)))

called_found : (t : TreeNo) (k : SubNo) (xs : List KeptLetter) → 1 ≤ calls t k xs → IsSome (first_called t k xs)
called_found t k [] some = absurd (omega (arith, some))
called_found t k (x ∷ xs) some = found_at t k x xs (is_called_for t k x) refl (called_found t k xs) some

wake_counts : (t : TreeNo) (k : SubNo) → is_wake_of t k (Wake t k) ≡ 1
wake_counts t k =
    let both : ((t.0 == t.0) && (k.0 == k.0)) ≡ true = grind (arith, nat_tests) in
    ap one_if both

pub wakes_bring_letters : WakesBringLetters
wakes_bring_letters s past l p t k valid apt run lt at to is =
    called_found t k (kept_in s past p)
    (omega (
      arith,
      wakes_find_letters s past p t k valid apt run lt,
      tally-drop (is_wake_at t k p) l.id (in_flight s past) l at,
      took_own t k p l to,
      ap (is_wake_of t k) is,
      wake_counts t k,
    ))
