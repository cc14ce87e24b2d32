-- The two waves of a round: how many messages of each are in flight, and what an entry does to them.
use Rattle.std.proofs.Common.{if◌then◌else◌, ◌≡◌, ◌≢◌, ◌⊎◌, inl, inr, ℕ, zero, suc, ◌+◌, ◌<◌, ◌≤◌, ◌==◌, ◌&&◌, Bool, true, false, List, [], ◌∷◌, length, refl, ap, arith, Option, Some, None, replicate}
use Rattle.std.specs.Prelude.{slice_get, slice_set}
use Rattle.std.proofs.lemmas.Bool.{cases_eq}
use Rattle.std.proofs.lemmas.Bool.Decides.{nat_tests}
use Rattle.letter_types.specs.declared.bodies.Body.{Body}
use Rattle.letter_types.specs.declared.bodies.Body.TheVariants.{AskDone, AskAsked, DoneRow, AskedRow}
use Rattle.letter_types.specs.declared.entries.Entry.{Entry}
use Rattle.letter_types.specs.declared.entries.Letter.{Letter}
use Rattle.letter_types.specs.declared.entries.Outgoing.{Outgoing}
use Rattle.tv_base.specs.declared.numbers.Version.{Version}
use Rattle.phase_out.specs.Rounds.{NodeRows, all_in}
use Rattle.tx_trees.specs.ScriptData.{ScriptData}
use Rattle.world_model.specs.Coordinator.{to_nodes}
use Rattle.pair_counters.specs.Numbers.{numbers_of}
use Rattle.world_model.specs.Counts.{Each, one_if, tally}
use Rattle.world_model.specs.Runs.{node_in, in_flight, MayFollow}
use Rattle.world_model.proofs.Bags.{one_if_most, sealed_tally, tally-append, tally_step}
use Rattle.world_model.proofs.Every.{each_map, each_none}
use Rattle.advance_laws.proofs.right.Sending.{IsPlain, apart_plain, Sending, SendsApart, SendsDone, SendsAsked, SendsOrders, apart_none}
use Rattle.advance_laws.proofs.phases.Steps.{round_of}

-- a letter by which node q is asked for its completions in round r, or tells them
abbrev pub first_wave : ℕ → ℕ → ℕ → ℕ → Body → ℕ
first_wave r q from to (AskDone v k) = one_if ((k == r) && (to == q))
first_wave r q from to (DoneRow v k row) = one_if ((k == r) && (from == q))
first_wave r q from to _ = 0

-- a letter by which a node is asked for its requests in round r, or tells them
abbrev pub second_wave : ℕ → ℕ → ℕ → Body → ℕ
second_wave r from to (AskAsked v k) = one_if (k == r)
second_wave r from to (AskedRow v k row) = one_if (k == r)
second_wave r from to _ = 0

-- a number over the letters in flight, by sender, addressee and body
abbrev pub going : (ℕ → ℕ → Body → ℕ) → ScriptData → List Entry → ℕ
going f s past = tally (λ (l : Letter). f l.from.0 l.to.0 l.body) (in_flight s past)

abbrev pub leaving : (ℕ → ℕ → Body → ℕ) → ℕ → Outgoing → ℕ
leaving f a o = f a o.to.0 o.body

pub flow_of : (f : ℕ → ℕ → Body → ℕ) (s : ScriptData) (past : List Entry) (e : Entry) → MayFollow s past e
    → going f s (e ∷ past) + f e.took.from.0 e.actor.0 e.took.body ≡ going f s past + tally (leaving f e.actor.0) e.sent
flow_of f s past e m =
    let at : f e.took.from.0 e.took.to.0 e.took.body ≡ f e.took.from.0 e.actor.0 e.took.body =
    ap (λ (n : ℕ). f e.took.from.0 n e.took.body) m.addressee in
    omega (
      arith,
      at,
      tally_step (λ (l : Letter). f l.from.0 l.to.0 l.body) s past e m,
      sealed_tally (λ (l : Letter). f l.from.0 l.to.0 l.body) (leaving f e.actor.0) e.stamp.0 e.actor.0 0 e.sent
          (λ i o. refl),
    )

-- a number of letters of a round: a row counts as the letter that asks for it
pub record IsWave (f : ℕ → ℕ → Body → ℕ) : Type 0 where
  pub plain : (from to : ℕ) (body : Body) → IsPlain body → f from to body ≡ 0
  pub done : (a from to : ℕ) (v : Version) (k : ℕ) (row : List ℕ) → f a to (DoneRow v k row) ≡ f from a (AskDone v k)
  pub asked : (a from to : ℕ) (v : Version) (k : ℕ) (row : List ℕ) → f a to (AskedRow v k row) ≡ f from a (AskAsked v k)

first_plain : (r q from to : ℕ) (body : Body) → IsPlain body → first_wave r q from to body ≡ 0
first_plain r q from to (AskDone v k) plain = absurd plain
first_plain r q from to (DoneRow v k row) plain = absurd plain
first_plain r q from to _ plain = refl

second_plain : (r from to : ℕ) (body : Body) → IsPlain body → second_wave r from to body ≡ 0
second_plain r from to (AskAsked v k) plain = absurd plain
second_plain r from to (AskedRow v k row) plain = absurd plain
second_plain r from to _ plain = refl

pub is_first : (r q : ℕ) → IsWave (first_wave r q)
is_first r q = record { plain = first_plain r q; done = λ a from to v k row. refl; asked = λ a from to v k row. refl }

pub is_second : (r : ℕ) → IsWave (second_wave r)
is_second r = record { plain = second_plain r; done = λ a from to v k row. refl; asked = λ a from to v k row. refl }

-- an entry of a node or the client leaves the number as it is
pub wave_kept : (f : ℕ → ℕ → Body → ℕ) → IsWave f → (s : ScriptData) (past : List Entry) (e : Entry)
    → MayFollow s past e → e.actor.0 ≢ s.nodes
    → Sending s past e → going f s (e ∷ past) ≡ going f s past
wave_kept f wave s past e m away (SendsApart ne plain all) =
    omega (
      arith,
      flow_of f s past e m,
      wave.plain e.took.from.0 e.actor.0 e.took.body plain,
      apart_none (leaving f e.actor.0) e.sent all
          (λ o apart. wave.plain e.actor.0 o.to.0 o.body (apart_plain o.body apart)),
    )
wave_kept f wave s past e m away (SendsDone v k lt bd sent same) =
    let row = numbers_of s.nodes ((node_in s past e.actor.0).counts.done v.0) in
    let out : tally (leaving f e.actor.0) e.sent ≡ f e.actor.0 s.nodes (DoneRow v k row) + 0 =
    ap (λ (os : List Outgoing). tally (leaving f e.actor.0) os) sent in
    let took : f e.took.from.0 e.actor.0 e.took.body ≡ f e.took.from.0 e.actor.0 (AskDone v k) =
    ap (λ (b : Body). f e.took.from.0 e.actor.0 b) bd in
    omega (arith, flow_of f s past e m, out, took, wave.done e.actor.0 e.took.from.0 s.nodes v k row)
wave_kept f wave s past e m away (SendsAsked v k lt bd sent same) =
    let row = numbers_of s.nodes ((node_in s past e.actor.0).counts.asked v.0) in
    let out : tally (leaving f e.actor.0) e.sent ≡ f e.actor.0 s.nodes (AskedRow v k row) + 0 =
    ap (λ (os : List Outgoing). tally (leaving f e.actor.0) os) sent in
    let took : f e.took.from.0 e.actor.0 e.took.body ≡ f e.took.from.0 e.actor.0 (AskAsked v k) =
    ap (λ (b : Body). f e.took.from.0 e.actor.0 b) bd in
    omega (arith, flow_of f s past e m, out, took, wave.asked e.actor.0 e.took.from.0 s.nodes v k row)
wave_kept f wave s past e m away (SendsOrders at rowless) = absurd (away at)

-- A round that isn't there yet has no letter.
first_later : (r q from to r0 : ℕ) (body : Body) → r0 < r → round_of body ≤ r0 → first_wave r q from to body ≡ 0
first_later r q from to r0 (AskDone v k) lt le = grind (arith, nat_tests)
first_later r q from to r0 (DoneRow v k row) lt le = grind (arith, nat_tests)
first_later r q from to r0 _ lt le = refl

second_later : (r from to r0 : ℕ) (body : Body) → r0 < r → round_of body ≤ r0 → second_wave r from to body ≡ 0
second_later r from to r0 (AskAsked v k) lt le = grind (arith, nat_tests)
second_later r from to r0 (AskedRow v k row) lt le = grind (arith, nat_tests)
second_later r from to r0 _ lt le = refl

pub first_none : (s : ScriptData) (past : List Entry) (r r0 q : ℕ)
    → Each (λ (l : Letter). round_of l.body ≤ r0) (in_flight s past) → r0 < r
    → going (first_wave r q) s past ≡ 0
first_none s past r r0 q all lt =
    each_none (λ (l : Letter). first_wave r q l.from.0 l.to.0 l.body) (in_flight s past)
    (each_map (λ (l : Letter). round_of l.body ≤ r0) (λ (l : Letter). first_wave r q l.from.0 l.to.0 l.body ≡ 0)
    (in_flight s past)
    (λ l le. first_later r q l.from.0 l.to.0 r0 l.body lt le) all)

pub second_none : (s : ScriptData) (past : List Entry) (r r0 : ℕ)
    → Each (λ (l : Letter). round_of l.body ≤ r0) (in_flight s past) → r0 < r
    → going (second_wave r) s past ≡ 0
second_none s past r r0 all lt =
    each_none (λ (l : Letter). second_wave r l.from.0 l.to.0 l.body) (in_flight s past)
    (each_map (λ (l : Letter). round_of l.body ≤ r0) (λ (l : Letter). second_wave r l.from.0 l.to.0 l.body ≡ 0)
    (in_flight s past)
    (λ l le. second_later r l.from.0 l.to.0 r0 l.body lt le) all)

-- What the coordinator sends of each wave.
asks_other : (k r q to : ℕ) → to ≢ q → one_if ((k == r) && (to == q)) ≡ 0
asks_other k r q to ne = grind (arith, nat_tests)

asks_above : (r q a n : ℕ) (v : Version) (k : ℕ) → n ≤ q
    → tally (leaving (first_wave r q) a) (to_nodes n (AskDone v k)) ≡ 0
asks_above r q a zero v k le = refl
asks_above r q a (suc n) v k le =
    omega (
      arith,
      asks_above r q a n v k (omega (arith, le)),
      asks_other k r q n (λ eq. omega (arith, eq, le)),
      tally-append (leaving (first_wave r q) a) (to_nodes n (AskDone v k))
          (record { to = record { 0 = n }; body = AskDone v k } ∷ []),
    )

asks_next : (r q a n : ℕ) (v : Version) (k : ℕ) → (n ≡ q) ⊎ (n ≢ q)
    → tally (leaving (first_wave r q) a) (to_nodes n (AskDone v k)) ≤ 1
    → tally (leaving (first_wave r q) a) (to_nodes (suc n) (AskDone v k)) ≤ 1
asks_next r q a n v k (inl eq) le =
    omega (
      arith,
      asks_above r q a n v k (omega (arith, eq)),
      one_if_most ((k == r) && (n == q)),
      tally-append (leaving (first_wave r q) a) (to_nodes n (AskDone v k))
          (record { to = record { 0 = n }; body = AskDone v k } ∷ []),
    )
asks_next r q a n v k (inr ne) le =
    omega (
      arith,
      le,
      asks_other k r q n ne,
      tally-append (leaving (first_wave r q) a) (to_nodes n (AskDone v k))
          (record { to = record { 0 = n }; body = AskDone v k } ∷ []),
    )

-- each node is asked once for its completions
pub asks_once : (r q a n : ℕ) (v : Version) (k : ℕ) → tally (leaving (first_wave r q) a) (to_nodes n (AskDone v k)) ≤ 1
asks_once r q a zero v k = omega arith
asks_once r q a (suc n) v k = asks_next r q a n v k (cases_eq n q) (asks_once r q a n v k)

pub no_second : (r a n : ℕ) (v : Version) (k : ℕ) → tally (leaving (second_wave r) a) (to_nodes n (AskDone v k)) ≡ 0
no_second r a zero v k = refl
no_second r a (suc n) v k =
    omega (
      arith,
      no_second r a n v k,
      tally-append (leaving (second_wave r) a) (to_nodes n (AskDone v k))
          (record { to = record { 0 = n }; body = AskDone v k } ∷ []),
    )

no_first_nodes : (r q a n : ℕ) (v : Version) (k : ℕ)
    → tally (leaving (first_wave r q) a) (to_nodes n (AskAsked v k)) ≡ 0
no_first_nodes r q a zero v k = refl
no_first_nodes r q a (suc n) v k =
    omega (
      arith,
      no_first_nodes r q a n v k,
      tally-append (leaving (first_wave r q) a) (to_nodes n (AskAsked v k))
          (record { to = record { 0 = n }; body = AskAsked v k } ∷ []),
    )

pub no_first : (r q a n : ℕ) (v : Version) (k : ℕ) (b : Bool)
    → tally (leaving (first_wave r q) a) (if b then to_nodes n (AskAsked v k) else []) ≡ 0
no_first r q a n v k true = no_first_nodes r q a n v k
no_first r q a n v k false = refl

-- What is kept of rows.
abbrev pub is_in : Option (Option (List ℕ)) → ℕ
is_in (Some (Some row)) = 1
is_in _ = 0

-- no row is kept
abbrev pub NoRow : NodeRows → Type 0
NoRow ks = (p : ℕ) (row : List ℕ) → slice_get ks p ≡ Some (Some row) → ⊥

pub set_get : {X : Type 0} (xs : List X) (i j : ℕ) (a x : X) → slice_get (slice_set xs i a) j ≡ Some x
    → ((i ≡ j) × (a ≡ x)) ⊎ (slice_get xs j ≡ Some x)
set_get [] i j a x at = inr at
set_get (y ∷ xs) zero zero a x at = inl (refl, cc at)
set_get (y ∷ xs) zero (suc j) a x at = inr at
set_get (y ∷ xs) (suc i) zero a x at = inr at
set_get (y ∷ xs) (suc i) (suc j) a x at =
    elim (set_get xs i j a x at) [ inl same ↦ inl (omega (arith, same.0), same.1) | inr rest ↦ inr rest ]

pub is_in_most : (o : Option (Option (List ℕ))) → is_in o ≤ 1
is_in_most (Some (Some row)) = omega arith
is_in_most (Some None) = omega arith
is_in_most None = omega arith

-- what is all in has a row at each place
pub in_at : (ks : NodeRows) (q : ℕ) → all_in ks ≡ true → q < length ks → (row : List ℕ) × (slice_get ks q ≡ Some (Some row))
in_at [] q all lt = absurd (omega (arith, lt))
in_at (None ∷ ks) q all lt = absurd (cc all)
in_at (Some row ∷ ks) zero all lt = (row, refl)
in_at (Some row ∷ ks) (suc q) all lt = in_at ks q all (omega (arith, lt))

-- one more row doesn't make a row missing
pub missing_before : (ks : NodeRows) (i : ℕ) (row : List ℕ) → all_in (slice_set ks i (Some row)) ≡ false → all_in ks ≡ false
missing_before [] i row missing = missing
missing_before (None ∷ ks) i row missing = refl
missing_before (Some r ∷ ks) zero row missing = missing
missing_before (Some r ∷ ks) (suc i) row missing = missing_before ks i row missing

pub none_kept : (n p : ℕ) (row : List ℕ) → slice_get (replicate n None) p ≡ Some (Some row) → ⊥
none_kept zero p row at = cc at
none_kept (suc n) zero row at = cc at
none_kept (suc n) (suc p) row at = none_kept n p row at

pub none_in : (n : ℕ) → all_in (replicate n None) ≡ true → n ≡ 0
none_in zero all = refl
none_in (suc n) all = absurd (cc all)

pub not_in : (n q : ℕ) → is_in (slice_get (replicate n None) q) ≡ 0
not_in zero q = refl
not_in (suc n) zero = refl
not_in (suc n) (suc q) = not_in n q
