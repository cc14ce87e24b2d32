-- How many Wakes are sent in a run: of each subtransaction at most as many as its message was deferred. So an update
-- transaction's has at most one for each strict transaction, and the root of a strict transaction at most one for each
-- advancement.
use Rattle.std.proofs.Common.{◌≡◌, ◌≢◌, ◌⊎◌, inl, inr, ℕ, ◌+◌, ◌<◌, ◌≤◌, ◌==◌, ◌&&◌, Bool, true, false, List, ◌∷◌, length, refl, sym, ap, subst, ◌∙◌, arith, []}
use Rattle.std.proofs.lemmas.Bool.{cases_eq}
use Rattle.std.proofs.lemmas.Bool.Decides.{nat_tests}
use Rattle.tv_base.specs.declared.numbers.SubNo.{SubNo}
use Rattle.tv_base.specs.declared.numbers.TreeNo.{TreeNo}
use Rattle.letter_types.specs.Kept.{is_called, kept_without, wakes, with_called}
use Rattle.letter_types.specs.declared.acts.Act.{Act}
use Rattle.letter_types.specs.declared.acts.Act.TheVariants as acts
use Rattle.letter_types.specs.declared.bodies.Body.{Body}
use Rattle.letter_types.specs.declared.entries.Entry.{Entry}
use Rattle.letter_types.specs.declared.entries.Letter.{Letter}
use Rattle.letter_types.specs.declared.entries.Outgoing.{Outgoing}
use Rattle.letter_types.specs.declared.kept.KeptLetter.{KeptLetter}
use Rattle.letter_types.specs.declared.kept.KeepReason.{KeepReason}
use Rattle.letter_types.specs.declared.kept.KeepReason.TheVariants.{Called, ForHolder, ForShow}
use Rattle.script_parts.specs.ScriptData.{updates}
use Rattle.script_parts.specs.Counts.{advances_in}
use Rattle.script_parts.proofs.SubsOf.{home_below}
use Rattle.tx_trees.specs.ScriptData.{ScriptData, home_of, node_of}
use Rattle.tx_trees.specs.Valid.{IsValid}
use Rattle.tx_trees.proofs.Rebuilding.{asked_most}
use Rattle.world_model.specs.Calls.{is_wake_of}
use Rattle.world_model.specs.Core.{Core}
use Rattle.world_model.specs.Counts.{Each, one_if, tally}
use Rattle.world_model.specs.Keeping.{KeepingNode, woken_by}
use Rattle.world_model.specs.Kept.{kept_in}
use Rattle.world_model.specs.Named.{is_strict_at, tree_kind_at}
use Rattle.world_model.specs.Runs.{IsStepRun, client_in, keeping_in, node_in}
use Rattle.world_model.specs.Strict.{CoreKeeping, core_row}
use Rattle.world_model.proofs.Bags.{tally-append}
use Rattle.world_model.proofs.Cases.{Case, Coordinates, Does, Keeps, NodeDoes, NodeKeeps, Submits, case}
use Rattle.world_model.proofs.Every.{each_append}
use Rattle.world_model.proofs.Keepings.{of_kept}
use Rattle.world_model.proofs.Outstanding.{keeping_elsewhere}
use Rattle.world_model.proofs.Sends.{on}
use Rattle.tree_laws.specs.Keeping.{IsKeptFor}
use Rattle.world_model.proofs.MeantRows.{strict_below}
use Rattle.tree_laws.proofs.kept.NoWakes.{client_none as client_sends_none, coordinator_none as coordinator_sends_none, core_none}
use Rattle.tree_laws.proofs.kept.Reasons.{kept_for_a_reason}
use Rattle.tree_laws.proofs.loads.Sums.{over, over_add, over_hit, over_none, over_same}
use Rattle.run_laws.specs.Parks.{is_kept_for_show, parks, parks_for, shown_as, waitings, waits_for}
use Rattle.run_laws.proofs.each_tree.EveryApt.{all_apt}
use Rattle.run_laws.proofs.each_tree.InTime.{advancing_run}
use Rattle.run_laws.proofs.strict.Holders.{holders}
use Rattle.run_laws.proofs.keeping.KeepingActs.{OfKeeping, after_turn, client_none, coordinator_none, does_none, keeps_parks, keeps_waits, parked_as, parks_of}
use Rattle.run_laws.proofs.keeping.KeptWhy.{AreWaiting, Reason, each_meanwhile, each_woken, new_reason, not_both, waiting}
use Rattle.run_laws.proofs.keeping.ParksOnce.{keeps_asked, letters_park_once, meanwhile_same}
use Rattle.run_laws.proofs.keeping.WaitsFew.{strict_roots_wait_few_times, waiting_root}
use Rattle.run_laws.proofs.keeping.Woken.{called_unwoken}

-- how many letters of these bodies were sent
abbrev pub sent_in : (Body → ℕ) → List Entry → ℕ
sent_in f [] = 0
sent_in f (e ∷ past) = tally (on f) e.sent + sent_in f past

abbrev pub wake_of : ℕ → ℕ → Body → ℕ
wake_of t k = is_wake_of (record { 0 = t }) (record { 0 = k })

-- Letters that are kept and aren't called.
abbrev pub uncalled_as : ℕ → ℕ → ℕ → ℕ → KeepReason → ℕ
uncalled_as t k u j ForShow = one_if ((u == t) && (j == k))
uncalled_as t k u j (ForHolder g) = one_if ((u == t) && (j == k))
uncalled_as t k u j Called = 0

abbrev pub is_uncalled : ℕ → ℕ → KeptLetter → ℕ
is_uncalled t k x = uncalled_as t k x.tree.0 x.sub.0 x.why

called_none : (t k u j : ℕ) (w : KeepReason) → is_called w ≡ true → uncalled_as t k u j w ≡ 0
called_none t k u j Called is = refl
called_none t k u j ForShow is = absurd (cc is)
called_none t k u j (ForHolder g) is = absurd (cc is)

uncalled_one : (t k u j : ℕ) (w : KeepReason) (test : KeepReason → Bool) → test w ≡ true → test Called ≡ false
    → uncalled_as t k u j w ≡ one_if ((u == t) && (j == k))
uncalled_one t k u j ForShow test is never = refl
uncalled_one t k u j (ForHolder g) test is never = refl
uncalled_one t k u j Called test is never = absurd (cc (is, never))

-- what is woken has a Wake
wakes_by_one : (t k : ℕ) (test : KeepReason → Bool) (x : KeptLetter) (xs : List KeptLetter) (b : Bool) → test x.why ≡ b → test Called ≡ false
    → tally (on (wake_of t k)) (wakes test xs) + tally (is_uncalled t k) (with_called test xs) ≡ tally (is_uncalled t k) xs
    → tally (on (wake_of t k)) (wakes test (x ∷ xs)) + tally (is_uncalled t k) (with_called test (x ∷ xs)) ≡ tally (is_uncalled t k) (x ∷ xs)
wakes_by_one t k test x xs true is never rest = rw is (omega (arith, rest, uncalled_one t k x.tree.0 x.sub.0 x.why test is never))
wakes_by_one t k test x xs false is never rest = rw is (omega (arith, rest))

wakes_all : (t k : ℕ) (test : KeepReason → Bool) (xs : List KeptLetter) → test Called ≡ false
    → tally (on (wake_of t k)) (wakes test xs) + tally (is_uncalled t k) (with_called test xs) ≡ tally (is_uncalled t k) xs
wakes_all t k test [] never = refl
wakes_all t k test (x ∷ xs) never = wakes_by_one t k test x xs (test x.why) refl never (wakes_all t k test xs never)

-- What a node keeps is of its own subtransactions.
abbrev IsOwn : ScriptData → ℕ → KeptLetter → Type 0
IsOwn s p x = p ≡ node_of s x.tree.0 x.sub.0

own_by : (s : ScriptData) (past : List Entry) (e : Entry) (p : ℕ) → IsValid s → IsStepRun s (e ∷ past) → p < s.nodes
    → Each (IsOwn s p) (kept_in s past p) → (e.actor.0 ≡ p) ⊎ (e.actor.0 ≢ p) → Case s past e → Each (IsOwn s p) (kept_in s (e ∷ past) p)
own_by s past e p valid run lt all (inr ne) c = subst (λ (n : KeepingNode). Each (IsOwn s p) n.kept) (sym (keeping_elsewhere s past e p ne)) all
own_by s past e p valid run lt all (inl at) (NodeDoes q r g) =
    let same : q ≡ p = sym g.brings.at ∙ at in
    let d : Does s past e p r = subst (λ (n : ℕ). Does s past e n r) same g in
    subst (Each (IsOwn s p)) (sym d.kept)
    (each_woken (IsOwn s p) (IsOwn s p) (woken_by (keeping_in s past p).core r.body) (kept_without (kept_in s past p) e.took.body) (λ x hit is. is) (λ x miss is. is)
    (each_meanwhile (IsOwn s p) (kept_in s past p) e.took.body all))
own_by s past e p valid run lt all (inl at) (NodeKeeps q r o g) =
    let same : q ≡ p = sym g.brings.at ∙ at in
    let d : Keeps s past e p r o = subst (λ (n : ℕ). Keeps s past e n r o) same g in
    subst (Each (IsOwn s p)) (sym d.kept)
    (each_append (IsOwn s p) (kept_without (kept_in s past p) e.took.body) _ (each_meanwhile (IsOwn s p) (kept_in s past p) e.took.body all)
    ((keeps_asked s past e p r o valid run d).node, tt))
own_by s past e p valid run lt all (inl at) (Coordinates there says) = absurd (omega (arith, at, there, lt))
own_by s past e p valid run lt all (inl at) (Submits there says) = absurd (omega (arith, at, there, lt))

all_own : (s : ScriptData) (past : List Entry) (p : ℕ) → IsValid s → IsStepRun s past → p < s.nodes → Each (IsOwn s p) (kept_in s past p)
all_own s [] p valid run lt = tt
all_own s (e ∷ past) p valid run lt =
    own_by s past e p valid run lt (all_own s past p valid run.1 lt) (cases_eq e.actor.0 p) (case s past e run.0 (all_apt s (e ∷ past) valid run).0)

-- so it wakes no other
no_match : (u t j k : ℕ) → (u ≡ t → j ≡ k → ⊥) → one_if ((u == t) && (j == k)) ≡ 0
no_match u t j k far = by (u == t) refl (j == k) refl where
  by : (a : Bool) → (u == t) ≡ a → (b : Bool) → (j == k) ≡ b → one_if ((u == t) && (j == k)) ≡ 0
  by true is true at = absurd (far (grind (arith, nat_tests)) (grind (arith, nat_tests)))
  by true is false at = rw (is, at) refl
  by false is b at = rw is refl

far_wake : (t k : ℕ) (test : KeepReason → Bool) (x : KeptLetter) (xs : List KeptLetter) (b : Bool) → test x.why ≡ b
    → one_if ((x.tree.0 == t) && (x.sub.0 == k)) ≡ 0 → tally (on (wake_of t k)) (wakes test xs) ≡ 0
    → tally (on (wake_of t k)) (wakes test (x ∷ xs)) ≡ 0
far_wake t k test x xs true is far rest = rw is (omega (arith, far, rest))
far_wake t k test x xs false is far rest = rw is rest

far_wakes : (s : ScriptData) (q t k : ℕ) (test : KeepReason → Bool) (xs : List KeptLetter) → q ≢ node_of s t k → Each (IsOwn s q) xs
    → tally (on (wake_of t k)) (wakes test xs) ≡ 0
far_wakes s q t k test [] ne all = refl
far_wakes s q t k test (x ∷ xs) ne all =
    far_wake t k test x xs (test x.why) refl (no_match x.tree.0 t x.sub.0 k (λ tree sub.
    ne (all.0 ∙ ap (λ (u : ℕ). node_of s u x.sub.0) tree ∙ ap (λ (j : ℕ). node_of s t j) sub))) (far_wakes s q t k test xs ne all.1)

-- How often a subtransaction's letter was kept.
abbrev pub keeps_of : ℕ → ℕ → Act → ℕ
keeps_of t k (acts.Parked u j i g) = one_if ((u.0 == t) && (j.0 == k))
keeps_of t k (acts.Waits u v w) = one_if ((u.0 == t) && (0 == k))
keeps_of t k acts.Finished = 0
keeps_of t k _ = 0

abbrev pub keepings : List Entry → ℕ → ℕ → ℕ
keepings [] t k = 0
keepings (e ∷ past) t k = tally (keeps_of t k) e.acts + keepings past t k

keeps_only : (t k : ℕ) → OfKeeping (keeps_of t k)
keeps_only t k (acts.Parked u j i g) none = absurd (cc none)
keeps_only t k (acts.Waits u v w) none = absurd (cc none)
keeps_only t k acts.Finished none = refl
keeps_only t k _ none = refl

keeps_one : (s : ScriptData) (past : List Entry) (e : Entry) (p : ℕ) (r : Letter) (o : CoreKeeping) (t k : ℕ) → Keeps s past e p r o
    → tally (keeps_of t k) e.acts ≡ uncalled_as t k o.tree.0 o.sub.0 o.why
keeps_one s past e p r o t k d =
    ap (λ (xs : List Act). tally (keeps_of t k) xs) d.acts
    ∙ of_kept s (keeping_in s past p).core (λ (x : CoreKeeping). tally (keeps_of t k) x.acts ≡ uncalled_as t k x.tree.0 x.sub.0 x.why) r.body o (record {
      parks = λ u j raises v m. after_turn (keeps_of t k) raises v.0 (acts.Parked u j m.item m.holder) (keeps_only t k);
      waits = λ u. omega arith;
    }) d.keeps

-- Wakes that were sent, and letters that aren't called, are as many.
abbrev WokenHere : ScriptData → List Entry → ℕ → ℕ → ℕ → Type 0
WokenHere s past p t k = sent_in (wake_of t k) past + tally (is_uncalled t k) (kept_in s past p) ≡ keepings past t k

row_sends : (s : ScriptData) (past : List Entry) (e : Entry) (q t k : ℕ) (r : Letter) → Does s past e q r
    → tally (on (wake_of t k)) e.sent ≡ tally (on (wake_of t k)) (wakes (woken_by (keeping_in s past q).core r.body) (kept_without (kept_in s past q) e.took.body))
row_sends s past e q t k r d =
    let row = (core_row s q (keeping_in s past q).core r.from.0 r.body).sent in
    let woken = wakes (woken_by (keeping_in s past q).core r.body) (kept_without (kept_in s past q) e.took.body) in
    omega (
      arith,
      ap (λ (os : List Outgoing). tally (on (wake_of t k)) os) d.sent,
      tally-append (on (wake_of t k)) row woken,
      core_none (record { 0 = t }) (record { 0 = k }) s q r.from.0 (keeping_in s past q).core r.body,
    )

does_woken : (s : ScriptData) (past : List Entry) (e : Entry) (p t k : ℕ) (r : Letter) → Does s past e p r → WokenHere s past p t k
    → WokenHere s (e ∷ past) p t k
does_woken s past e p t k r d ih =
    omega (
      arith,
      ih,
      row_sends s past e p t k r d,
      wakes_all t k (woken_by (keeping_in s past p).core r.body) (kept_without (kept_in s past p) e.took.body)
          (called_unwoken (keeping_in s past p).core r.body),
      ap (λ (xs : List KeptLetter). tally (is_uncalled t k) xs) d.kept,
      meanwhile_same (is_uncalled t k) (kept_in s past p) e.took.body (λ x is. called_none t k x.tree.0 x.sub.0 x.why is),
      does_none (keeps_of t k) s past e p r (keeps_only t k) d,
    )

keeps_woken : (s : ScriptData) (past : List Entry) (e : Entry) (p t k : ℕ) (r : Letter) (o : CoreKeeping) → Keeps s past e p r o
    → WokenHere s past p t k → WokenHere s (e ∷ past) p t k
keeps_woken s past e p t k r o d ih =
    let x : KeptLetter = record { letter = r; tree = o.tree; sub = o.sub; why = o.why } in
    omega (
      arith,
      ih,
      ap (λ (os : List Outgoing). tally (on (wake_of t k)) os) d.sent,
      ap (λ (xs : List KeptLetter). tally (is_uncalled t k) xs) d.kept,
      tally-append (is_uncalled t k) (kept_without (kept_in s past p) e.took.body) (x ∷ []),
      meanwhile_same (is_uncalled t k) (kept_in s past p) e.took.body (λ y is. called_none t k y.tree.0 y.sub.0 y.why is),
      keeps_one s past e p r o t k d,
    )

-- an entry of another actor
record Quiet (past : List Entry) (e : Entry) (t k : ℕ) : Type 0 where
  sent : tally (on (wake_of t k)) e.sent ≡ 0
  acts : tally (keeps_of t k) e.acts ≡ 0

uncalled_far : (t k u j : ℕ) (w : KeepReason) → (u ≡ t → j ≡ k → ⊥) → uncalled_as t k u j w ≡ 0
uncalled_far t k u j ForShow far = no_match u t j k far
uncalled_far t k u j (ForHolder g) far = no_match u t j k far
uncalled_far t k u j Called far = refl

elsewhere : (s : ScriptData) (past : List Entry) (e : Entry) (t k : ℕ) → IsValid s → IsStepRun s (e ∷ past) → e.actor.0 ≢ node_of s t k
    → Case s past e → Quiet past e t k
elsewhere s past e t k valid run ne (NodeDoes q r d) = record {
  sent = row_sends s past e q t k r d
      ∙ far_wakes s q t k (woken_by (keeping_in s past q).core r.body) (kept_without (kept_in s past q) e.took.body) (λ is. ne (d.brings.at ∙ is))
      (each_meanwhile (IsOwn s q) (kept_in s past q) e.took.body (all_own s past q valid run.1 d.brings.below));
  acts = does_none (keeps_of t k) s past e q r (keeps_only t k) d;
}
elsewhere s past e t k valid run ne (NodeKeeps q r o d) = record {
  sent = ap (λ (os : List Outgoing). tally (on (wake_of t k)) os) d.sent;
  acts = keeps_one s past e q r o t k d ∙ uncalled_far t k o.tree.0 o.sub.0 o.why (λ tree sub.
      ne (d.brings.at ∙ (keeps_asked s past e q r o valid run d).node
      ∙ ap (λ (u : ℕ). node_of s u o.sub.0) tree ∙ ap (λ (j : ℕ). node_of s t j) sub));
}
elsewhere s past e t k valid run ne (Coordinates at made) = record {
  sent = coordinator_sends_none (record { 0 = t }) (record { 0 = k }) s e made;
  acts = coordinator_none (keeps_of t k) s e made;
}
elsewhere s past e t k valid run ne (Submits at says) = record {
  sent = ap (λ (os : List Outgoing). tally (on (wake_of t k)) os) says.0
      ∙ client_sends_none (record { 0 = t }) (record { 0 = k }) s (client_in s past) e.took.body;
  acts = client_none (keeps_of t k) s past e (keeps_only t k) says;
}

node_woken : (s : ScriptData) (past : List Entry) (e : Entry) (p t k : ℕ) → p < s.nodes → e.actor.0 ≡ p → WokenHere s past p t k
    → Case s past e → WokenHere s (e ∷ past) p t k
node_woken s past e p t k lt at ih (NodeDoes q r d) =
    let same : q ≡ p = sym d.brings.at ∙ at in does_woken s past e p t k r (subst (λ (n : ℕ). Does s past e n r) same d) ih
node_woken s past e p t k lt at ih (NodeKeeps q r o d) =
    let same : q ≡ p = sym d.brings.at ∙ at in keeps_woken s past e p t k r o (subst (λ (n : ℕ). Keeps s past e n r o) same d) ih
node_woken s past e p t k lt at ih (Coordinates there says) = absurd (omega (arith, at, there, lt))
node_woken s past e p t k lt at ih (Submits there says) = absurd (omega (arith, at, there, lt))

woken_next : (s : ScriptData) (past : List Entry) (e : Entry) (t k : ℕ) → IsValid s → IsStepRun s (e ∷ past) → node_of s t k < s.nodes
    → WokenHere s past (node_of s t k) t k → (e.actor.0 ≡ node_of s t k) ⊎ (e.actor.0 ≢ node_of s t k)
    → WokenHere s (e ∷ past) (node_of s t k) t k
woken_next s past e t k valid run lt ih (inl at) =
    node_woken s past e (node_of s t k) t k lt at ih (case s past e run.0 (all_apt s (e ∷ past) valid run).0)
woken_next s past e t k valid run lt ih (inr ne) =
    let quiet = elsewhere s past e t k valid run ne (case s past e run.0 (all_apt s (e ∷ past) valid run).0) in
    omega (
      arith,
      ih,
      quiet.sent,
      quiet.acts,
      ap (λ (n : KeepingNode). tally (is_uncalled t k) n.kept) (keeping_elsewhere s past e (node_of s t k) ne),
    )

pub wakes_and_kept : (s : ScriptData) (past : List Entry) (t k : ℕ) → IsValid s → IsStepRun s past → node_of s t k < s.nodes
    → sent_in (wake_of t k) past + tally (is_uncalled t k) (kept_in s past (node_of s t k)) ≡ keepings past t k
wakes_and_kept s [] t k valid run lt = refl
wakes_and_kept s (e ∷ past) t k valid run lt =
    woken_next s past e t k valid run lt (wakes_and_kept s past t k valid run.1 lt) (cases_eq e.actor.0 (node_of s t k))

-- Which letters are kept, by the kinds of their trees.
reason_of : (s : ScriptData) (past : List Entry) (e : Entry) (p : ℕ) (r : Letter) (o : CoreKeeping) → Keeps s past e p r o
    → IsKeptFor s (keeping_in s past p).core o.tree o.sub o.why
reason_of s past e p r o d = kept_for_a_reason s (keeping_in s past p).core r.body o d.keeps

pub never_kept : (s : ScriptData) (past : List Entry) (t k : ℕ) → IsValid s → IsStepRun s past
    → ((c : Core) (u : TreeNo) (j : SubNo) (w : KeepReason) → IsKeptFor s c u j w → u.0 ≡ t → j.0 ≡ k → ⊥) → keepings past t k ≡ 0
never_kept s [] t k valid run never = refl
never_kept s (e ∷ past) t k valid run never =
    omega (arith, never_kept s past t k valid run.1 never, by (case s past e run.0 (all_apt s (e ∷ past) valid run).0)) where
      by : Case s past e → tally (keeps_of t k) e.acts ≡ 0
      by (NodeDoes q r d) = does_none (keeps_of t k) s past e q r (keeps_only t k) d
      by (NodeKeeps q r o d) =
          keeps_one s past e q r o t k d
          ∙ uncalled_far t k o.tree.0 o.sub.0 o.why (never (keeping_in s past q).core o.tree o.sub o.why (reason_of s past e q r o d))
      by (Coordinates at made) = coordinator_none (keeps_of t k) s e made
      by (Submits at says) = client_none (keeps_of t k) s past e (keeps_only t k) says

update_at : (s : ScriptData) (u t : ℕ) → u ≡ t → updates s u ≡ true → updates s t ≡ true
update_at s u t is up = subst (λ (n : ℕ). updates s n ≡ true) is up

-- a strict tree's other subtransactions never are, nor is any of a read tree's
strict_never : (s : ScriptData) (t k : ℕ) → is_strict_at s t ≡ true → 0 < k → (c : Core) (u : TreeNo) (j : SubNo) (w : KeepReason)
    → IsKeptFor s c u j w → u.0 ≡ t → j.0 ≡ k → ⊥
strict_never s t k strict some c u j ForShow (it, root, late) tree sub = omega (arith, root, sub, some)
strict_never s t k strict some c u j (ForHolder h) (up, m, meets, same) tree sub =
    not_both s t (tree_kind_at s t) refl (update_at s u.0 t tree up) strict
strict_never s t k strict some c u j Called kept tree sub = kept

read_never : (s : ScriptData) (t k : ℕ) → is_strict_at s t ≡ false → updates s t ≡ false → (c : Core) (u : TreeNo) (j : SubNo) (w : KeepReason)
    → IsKeptFor s c u j w → u.0 ≡ t → j.0 ≡ k → ⊥
read_never s t k none other c u j ForShow (it, root, late) tree sub =
    let strict : is_strict_at s t ≡ true = subst (λ (n : ℕ). is_strict_at s n ≡ true) tree it in cc (strict, none)
read_never s t k none other c u j (ForHolder h) (up, m, meets, same) tree sub =
    let update : updates s t ≡ true = update_at s u.0 t tree up in cc (update, other)
read_never s t k none other c u j Called kept tree sub = kept

-- a strict tree's root is kept as often as it waits
kept_as_waits : (s : ScriptData) (t : ℕ) (c : Core) (u : TreeNo) (j : SubNo) (w : KeepReason) → is_strict_at s t ≡ true → IsKeptFor s c u j w
    → uncalled_as t 0 u.0 j.0 w ≤ shown_as t u.0 w
kept_as_waits s t c u j ForShow strict kept = by (u.0 == t) (j.0 == 0) where
  by : (a b : Bool) → one_if (a && b) ≤ one_if a
  by true true = omega arith
  by true false = omega arith
  by false b = omega arith
kept_as_waits s t c u j (ForHolder h) strict (up, m, meets, same) =
    omega (arith, no_match u.0 t j.0 0 (λ tree sub. not_both s t (tree_kind_at s t) refl (update_at s u.0 t tree up) strict))
kept_as_waits s t c u j Called strict kept = absurd kept

pub root_keepings : (s : ScriptData) (past : List Entry) (t : ℕ) → IsValid s → IsStepRun s past → is_strict_at s t ≡ true
    → keepings past t 0 ≤ waitings past t
root_keepings s [] t valid run strict = omega arith
root_keepings s (e ∷ past) t valid run strict =
    omega (arith, root_keepings s past t valid run.1 strict, by (case s past e run.0 (all_apt s (e ∷ past) valid run).0)) where
      by : Case s past e → tally (keeps_of t 0) e.acts ≤ tally (waits_for t) e.acts
      by (NodeDoes q r d) = omega (arith, does_none (keeps_of t 0) s past e q r (keeps_only t 0) d)
      by (NodeKeeps q r o d) =
          omega (
            arith,
            keeps_one s past e q r o t 0 d,
            keeps_waits s past e q r o t d,
            kept_as_waits s t (keeping_in s past q).core o.tree o.sub o.why strict (reason_of s past e q r o d),
          )
      by (Coordinates at made) = omega (arith, coordinator_none (keeps_of t 0) s e made)
      by (Submits at says) = omega (arith, client_none (keeps_of t 0) s past e (keeps_only t 0) says)

-- what is kept for a Show isn't called
shown_less : (s : ScriptData) (past : List Entry) (p t : ℕ) (xs : List KeptLetter) → AreWaiting s past p xs
    → tally (is_kept_for_show t) xs ≤ tally (is_uncalled t 0) xs
shown_less s past p t [] all = omega arith
shown_less s past p t (x ∷ xs) all =
    omega (arith, by x.tree.0 x.sub.0 x.why (waiting_root s past p x all.0), shown_less s past p t xs all.1) where
      by : (u j : ℕ) (w : KeepReason) → (w ≡ ForShow → j ≡ 0) → shown_as t u w ≤ uncalled_as t 0 u j w
      by u j Called root = omega arith
      by u j (ForHolder g) root = omega arith
      by u j ForShow root = one u j (root refl) where
        one : (u j : ℕ) → j ≡ 0 → one_if (u == t) ≤ one_if ((u == t) && (j == 0))
        one u j none = grind (arith, nat_tests)

-- a node shows at most as many versions as advancements were asked for
read_few : (s : ScriptData) (past : List Entry) (p : ℕ) → IsValid s → IsStepRun s past → p < s.nodes
    → (node_in s past p).turns.read.0 ≤ advances_in s.rows
read_few s past p valid run lt =
    let all = advancing_run s past valid run in
    let at = all.within p lt in
    omega (arith, at.read_showed, at.showed_update, at.update_turned, all.asked, asked_most (client_in s past).next s.rows)

-- so of a strict tree's root at most so many Wakes are sent
pub root_wakes : (s : ScriptData) (past : List Entry) (t : ℕ) → IsValid s → IsStepRun s past → is_strict_at s t ≡ true
    → sent_in (wake_of t 0) past ≤ advances_in s.rows
root_wakes s past t valid run strict =
    let lt = strict_below s t strict in
    let below = home_below s t valid lt in
    omega (
      arith,
      wakes_and_kept s past t 0 valid run below,
      root_keepings s past t valid run strict,
      strict_roots_wait_few_times s past t valid run lt,
      shown_less s past (home_of s t) t (kept_in s past (home_of s t)) (waiting s past (home_of s t) valid run below),
      read_few s past (home_of s t) valid run below,
    )

-- An update tree's are parked for strict trees.
holder_strict : (s : ScriptData) (past : List Entry) (e : Entry) (p : ℕ) (r : Letter) (o : CoreKeeping) (h : TreeNo) → IsValid s
    → IsStepRun s (e ∷ past) → Keeps s past e p r o → o.why ≡ ForHolder h → is_strict_at s h.0 ≡ true
holder_strict s past e p r o h valid run d is =
    let why : Reason s past p o.tree (ForHolder h) =
    new_reason s past p o.tree o.sub (ForHolder h) valid run.1 d.brings.below
    (subst (λ (w : KeepReason). IsKeptFor s (keeping_in s past p).core o.tree o.sub w) is (reason_of s past e p r o d)) in
    (holders s past p valid (all_apt s past valid run.1) run.1 d.brings.below h why.1).strict

park_strict : (s : ScriptData) (t k h u j : ℕ) (w : KeepReason) → is_strict_at s h ≡ false → ((g : TreeNo) → w ≡ ForHolder g → is_strict_at s g.0 ≡ true)
    → parked_as t k h u j w ≡ 0
park_strict s t k h u j ForShow none strict = refl
park_strict s t k h u j Called none strict = refl
park_strict s t k h u j (ForHolder g) none strict = by (u == t) (j == k) (g.0 == h) refl where
  by : (a b c : Bool) → (g.0 == h) ≡ c → one_if (a && (b && c)) ≡ 0
  by true true true is =
      let same : g.0 ≡ h = grind (arith, nat_tests) in
      let its : is_strict_at s h ≡ true = subst (λ (n : ℕ). is_strict_at s n ≡ true) same (strict g refl) in
      absurd (cc (its, none))
  by true true false is = refl
  by true false c is = refl
  by false b c is = refl

pub parked_for_strict : (s : ScriptData) (past : List Entry) (t k h : ℕ) → IsValid s → IsStepRun s past → is_strict_at s h ≡ false
    → parks past t k h ≡ 0
parked_for_strict s [] t k h valid run none = refl
parked_for_strict s (e ∷ past) t k h valid run none =
    omega (arith, parked_for_strict s past t k h valid run.1 none, by (case s past e run.0 (all_apt s (e ∷ past) valid run).0)) where
      by : Case s past e → tally (parks_for t k h) e.acts ≡ 0
      by (NodeDoes q r d) = does_none (parks_for t k h) s past e q r (parks_of t k h) d
      by (NodeKeeps q r o d) =
          keeps_parks s past e q r o t k h d
          ∙ park_strict s t k h o.tree.0 o.sub.0 o.why none (λ g is. holder_strict s past e q r o g valid run d is)
      by (Coordinates at made) = coordinator_none (parks_for t k h) s e made
      by (Submits at says) = client_none (parks_for t k h) s past e (parks_of t k h) says

pub park_most : (s : ScriptData) (past : List Entry) (t k h : ℕ) → IsValid s → IsStepRun s past
    → parks past t k h ≤ one_if (is_strict_at s h)
park_most s past t k h valid run = by (is_strict_at s h) refl where
  by : (b : Bool) → is_strict_at s h ≡ b → parks past t k h ≤ one_if b
  by true is = letters_park_once s past t k h valid run
  by false is = omega (arith, parked_for_strict s past t k h valid run is)

-- of an update tree's subtransaction all are of this kind
hit_one : {X : Type 0} (a b : Bool) (g : ℕ) (xs : List X) → g < length xs → over 0 (λ h. one_if (a && (b && (g == h)))) xs ≡ one_if (a && b)
hit_one true true g xs lt = over_hit 0 g xs (omega arith) (omega (arith, lt))
hit_one true false g xs lt = over_none 0 (λ h. 0) xs (λ h. refl)
hit_one false b g xs lt = over_none 0 (λ h. 0) xs (λ h. refl)

update_parks : (s : ScriptData) (t k : ℕ) (c : Core) (u : TreeNo) (j : SubNo) (w : KeepReason) → updates s t ≡ true → IsKeptFor s c u j w
    → ((g : TreeNo) → w ≡ ForHolder g → is_strict_at s g.0 ≡ true)
    → uncalled_as t k u.0 j.0 w ≡ over 0 (λ h. parked_as t k h u.0 j.0 w) s.trees
update_parks s t k c u j ForShow up (it, root, late) strict =
    no_match u.0 t j.0 k (λ tree sub. not_both s t (tree_kind_at s t) refl up (subst (λ (n : ℕ). is_strict_at s n ≡ true) tree it))
    ∙ sym (over_none 0 (λ h. 0) s.trees (λ h. refl))
update_parks s t k c u j (ForHolder g) up kept strict = sym (hit_one (u.0 == t) (j.0 == k) g.0 s.trees (strict_below s g.0 (strict g refl)))
update_parks s t k c u j Called up kept strict = absurd kept

entry_parks : (s : ScriptData) (past : List Entry) (e : Entry) (t k : ℕ) → IsValid s → IsStepRun s (e ∷ past) → updates s t ≡ true
    → Case s past e → tally (keeps_of t k) e.acts ≤ over 0 (λ h. tally (parks_for t k h) e.acts) s.trees
entry_parks s past e t k valid run up (NodeDoes q r d) = omega (arith, does_none (keeps_of t k) s past e q r (keeps_only t k) d)
entry_parks s past e t k valid run up (NodeKeeps q r o d) =
    omega (
      arith,
      keeps_one s past e q r o t k d,
      update_parks s t k (keeping_in s past q).core o.tree o.sub o.why up (reason_of s past e q r o d)
          (λ g is. holder_strict s past e q r o g valid run d is),
      over_same 0 (λ h. tally (parks_for t k h) e.acts) (λ h. parked_as t k h o.tree.0 o.sub.0 o.why) s.trees
          (λ h le lt. keeps_parks s past e q r o t k h d),
    )
entry_parks s past e t k valid run up (Coordinates at made) = omega (arith, coordinator_none (keeps_of t k) s e made)
entry_parks s past e t k valid run up (Submits at says) = omega (arith, client_none (keeps_of t k) s past e (keeps_only t k) says)

pub update_keepings : (s : ScriptData) (past : List Entry) (t k : ℕ) → IsValid s → IsStepRun s past → updates s t ≡ true
    → keepings past t k ≤ over 0 (λ h. parks past t k h) s.trees
update_keepings s [] t k valid run up = omega arith
update_keepings s (e ∷ past) t k valid run up =
    omega (
      arith,
      update_keepings s past t k valid run.1 up,
      entry_parks s past e t k valid run up (case s past e run.0 (all_apt s (e ∷ past) valid run).0),
      over_add 0 (λ h. tally (parks_for t k h) e.acts) (λ h. parks past t k h) s.trees,
    )

pub over_most : {X : Type 0} (i : ℕ) (f g : ℕ → ℕ) (xs : List X) → ((k : ℕ) → i ≤ k → k < i + length xs → f k ≤ g k) → over i f xs ≤ over i g xs
over_most i f g [] le = omega arith
over_most i f g (x ∷ xs) le =
    omega (arith, le i (omega arith) (omega arith), over_most (i + 1) f g xs (λ k from lt. le k (omega (arith, from)) (omega (arith, lt))))

-- so at most one Wake is sent for each strict tree
pub update_wakes : (s : ScriptData) (past : List Entry) (t k : ℕ) → IsValid s → IsStepRun s past → node_of s t k < s.nodes → updates s t ≡ true
    → sent_in (wake_of t k) past ≤ over 0 (λ h. one_if (is_strict_at s h)) s.trees
update_wakes s past t k valid run lt up =
    omega (
      arith,
      wakes_and_kept s past t k valid run lt,
      update_keepings s past t k valid run up,
      over_most 0 (λ h. parks past t k h) (λ h. one_if (is_strict_at s h)) s.trees (λ h from below. park_most s past t k h valid run),
    )

-- and none where no letter is kept
pub no_wakes : (s : ScriptData) (past : List Entry) (t k : ℕ) → IsValid s → IsStepRun s past → node_of s t k < s.nodes
    → ((c : Core) (u : TreeNo) (j : SubNo) (w : KeepReason) → IsKeptFor s c u j w → u.0 ≡ t → j.0 ≡ k → ⊥) → sent_in (wake_of t k) past ≡ 0
no_wakes s past t k valid run lt never =
    omega (arith, wakes_and_kept s past t k valid run lt, never_kept s past t k valid run never)

pub strict_wakes : (s : ScriptData) (past : List Entry) (t k : ℕ) → IsValid s → IsStepRun s past → node_of s t k < s.nodes
    → is_strict_at s t ≡ true → 0 < k → sent_in (wake_of t k) past ≡ 0
strict_wakes s past t k valid run lt strict some = no_wakes s past t k valid run lt (strict_never s t k strict some)

pub read_wakes : (s : ScriptData) (past : List Entry) (t k : ℕ) → IsValid s → IsStepRun s past → node_of s t k < s.nodes
    → is_strict_at s t ≡ false → updates s t ≡ false → sent_in (wake_of t k) past ≡ 0
read_wakes s past t k valid run lt none other = no_wakes s past t k valid run lt (read_never s t k none other)
