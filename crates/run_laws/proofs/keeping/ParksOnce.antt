-- In every run no subtransaction is deferred twice for one transaction. While what was decided of that transaction
-- isn't applied at its node, it was deferred for that transaction as often as its message still waits for it; then the
-- message is woken, and the transaction has no lock there any more. Numbers of deferred messages while others come and
-- go.
use Rattle.std.proofs.Common.{◌≡◌, ◌≢◌, ◌⊎◌, inl, inr, ℕ, zero, suc, ◌+◌, ◌<◌, ◌≤◌, ◌==◌, ◌&&◌, Bool, true, false, not, List, [], ◌∷◌, map, refl, sym, ap, subst, ◌∙◌, arith}
use Rattle.std.specs.Prelude.{if◌then◌else◌, nat_lt}
use Rattle.std.proofs.lemmas.Bool.{cases_eq}
use Rattle.std.proofs.lemmas.Bool.Decides.{nat_tests}
use Rattle.tv_base.specs.declared.numbers.SubNo.{SubNo}
use Rattle.tv_base.specs.declared.numbers.TreeNo.{TreeNo}
use Rattle.tv_base.proofs.Truths.{left_true}
use Rattle.letter_types.specs.Kept.{is_called, is_called_for, kept_without, wakes_by, with_called, without_called}
use Rattle.letter_types.specs.declared.bodies.Body.{Body}
use Rattle.letter_types.specs.declared.bodies.Body.TheVariants.{Go, Root, Sub as SubLetter, Decide, Show, Wake}
use Rattle.letter_types.specs.declared.entries.Entry.{Entry}
use Rattle.letter_types.specs.declared.entries.Letter.{Letter}
use Rattle.letter_types.specs.declared.kept.KeptLetter.{KeptLetter}
use Rattle.letter_types.specs.declared.kept.KeepReason.{KeepReason}
use Rattle.letter_types.specs.declared.kept.KeepReason.TheVariants.{Called, ForHolder, ForShow}
use Rattle.tx_trees.specs.ScriptData.{ScriptData, node_of}
use Rattle.tx_trees.specs.Valid.{IsValid}
use Rattle.world_model.specs.Counts.{one_if, tally}
use Rattle.world_model.specs.Keeping.{AreKeptAt, AsksFor, KeepingNode, woken_by}
use Rattle.world_model.specs.Kept.{kept_by, kept_in}
use Rattle.world_model.specs.Runs.{IsStepRun, in_flight, keeping_in}
use Rattle.world_model.specs.Strict.{CoreKeeping}
use Rattle.world_model.proofs.Bags.{one_if_most, tally-append, tally_most}
use Rattle.world_model.proofs.Cases.{Case, Coordinates, Does, Keeps, NodeDoes, NodeKeeps, Submits, case}
use Rattle.world_model.proofs.KeptThere.{IsCoreKeeping, OfKeeping as OfCoreKeeping, core_keeps, kept_in_past, still_kept}
use Rattle.world_model.proofs.Outstanding.{keeping_elsewhere}
use Rattle.world_model.proofs.Scripts.{sub_here}
use Rattle.tree_laws.specs.Keeping.{IsKeptFor}
use Rattle.tree_laws.proofs.kept.Reasons.{kept_for_a_reason}
use Rattle.advance_laws.proofs.governed.Brought.{brought_meant}
use Rattle.advance_laws.proofs.phases.Progress.{brings_to}
use Rattle.tree_laws.specs.Applied.{tells_decision}
use Rattle.tree_laws.specs.Dids.{asks, letters_asking}
use Rattle.tree_laws.proofs.apt.AptTurns.{turns_come_once}
use Rattle.run_laws.specs.Parks.{LettersParkOnce, parks, parks_for}
use Rattle.run_laws.proofs.each_tree.EveryApt.{all_apt}
use Rattle.run_laws.proofs.strict.Holders.{IsAsked, applied_any, applies_any, asked_sub, does_apply, elsewhere_unapplied, holders, keeps_apply}
use Rattle.run_laws.proofs.keeping.KeptWhy.{Reason, new_reason}
use Rattle.run_laws.proofs.keeping.KeepingActs.{client_none, coordinator_none, does_none, keeps_parks, parked_as, parks_of}
use Rattle.run_laws.proofs.keeping.Woken.{holder_woken}
use Rattle.world_model.specs.Core.{Core}

-- Numbers of kept letters that count none that is called.
abbrev pub NoneCalled : (KeptLetter → ℕ) → Type 0
NoneCalled f = (x : KeptLetter) → is_called x.why ≡ true → f x ≡ 0

without_by : (f : KeptLetter → ℕ) (t : TreeNo) (k : SubNo) (x : KeptLetter) (xs : List KeptLetter) (test : Bool) → is_called_for t k x ≡ test
    → NoneCalled f → tally f (without_called t k xs) ≡ tally f xs → tally f (without_called t k (x ∷ xs)) ≡ tally f (x ∷ xs)
without_by f t k x xs true is none rest =
    rw is (omega (arith, none x (left_true (is_called x.why) ((x.tree.0 == t.0) && (x.sub.0 == k.0)) is)))
without_by f t k x xs false is none rest = rw is (omega (arith, rest))

without_same : (f : KeptLetter → ℕ) (t : TreeNo) (k : SubNo) (xs : List KeptLetter) → NoneCalled f
    → tally f (without_called t k xs) ≡ tally f xs
without_same f t k [] none = refl
without_same f t k (x ∷ xs) none = without_by f t k x xs (is_called_for t k x) refl none (without_same f t k xs none)

-- a Wake takes none that they count
pub meanwhile_same : (f : KeptLetter → ℕ) (kept : List KeptLetter) (b : Body) → NoneCalled f → tally f (kept_without kept b) ≡ tally f kept
meanwhile_same f kept (Wake t k) none = without_same f t k kept none
meanwhile_same f kept _ none = refl

woken_one : (f : KeptLetter → ℕ) (x : KeptLetter) (test b : Bool) → test ≡ b → (test ≡ true → f x ≡ 0) → f (record x { why = Called }) ≡ 0
    → f (if test then record x { why = Called } else x) ≡ f x
woken_one f x test true is pass none = rw is (omega (arith, pass is, none))
woken_one f x test false is pass none = rw is refl

-- nor does it change them to wake letters that they don't count
pub woken_same : (f : KeptLetter → ℕ) (test : KeepReason → Bool) (xs : List KeptLetter) → NoneCalled f
    → ((x : KeptLetter) → test x.why ≡ true → f x ≡ 0) → tally f (with_called test xs) ≡ tally f xs
woken_same f test [] none pass = refl
woken_same f test (x ∷ xs) none pass =
    omega (
      arith,
      woken_one f x (test x.why) (test x.why) refl (pass x) (none (record x { why = Called }) refl),
      woken_same f test xs none pass,
    )

-- Letters that are parked.
abbrev pub is_parked : ℕ → ℕ → ℕ → KeptLetter → ℕ
is_parked t k h x = parked_as t k h x.tree.0 x.sub.0 x.why

parked_uncalled : (t k h u j : ℕ) (w : KeepReason) → is_called w ≡ true → parked_as t k h u j w ≡ 0
parked_uncalled t k h u j Called is = refl
parked_uncalled t k h u j ForShow is = absurd (cc is)
parked_uncalled t k h u j (ForHolder g) is = absurd (cc is)

-- what wakes them tells what was decided of their holder
no_holder : (u t j k g h : ℕ) → (g == h) ≡ false → one_if ((u == t) && ((j == k) && (g == h))) ≡ 0
no_holder u t j k g h is = grind (arith, nat_tests)

pub told_by : (a b : Bool) → one_if (a && b) + one_if (a && not b) ≡ 0 → a ≡ false
told_by true true is = absurd (omega (arith, is))
told_by true false is = absurd (omega (arith, is))
told_by false b is = refl

other_tree : (g u h : ℕ) → (g == u) ≡ true → (u == h) ≡ false → (g == h) ≡ false
other_tree g u h same other = grind (arith, nat_tests)

holder_told : (t k h u j : ℕ) (g : TreeNo) (b : Body) → tells_decision h true b + tells_decision h false b ≡ 0
    → wakes_by b (ForHolder g) ≡ true → one_if ((u == t) && ((j == k) && (g.0 == h))) ≡ 0
holder_told t k h u j g (Decide w v commit) none is =
    no_holder u t j k g.0 h (other_tree g.0 w.0 h is (told_by (w.0 == h) commit none))
holder_told t k h u j g (Show v) none is = absurd (cc is)
holder_told t k h u j g Go none is = absurd (cc is)
holder_told t k h u j g _ none is = absurd (cc is)

unwoken : (t k h u j : ℕ) (w : KeepReason) (c : Core) (b : Body) → tells_decision h true b + tells_decision h false b ≡ 0 → woken_by c b w ≡ true
    → parked_as t k h u j w ≡ 0
unwoken t k h u j ForShow c b none is = refl
unwoken t k h u j Called c b none is = refl
unwoken t k h u j (ForHolder g) c b none is = holder_told t k h u j g b none (sym (holder_woken c b g) ∙ is)

-- How often it was parked, by whether the decision was applied.
record ParkedAt (applied kept count : ℕ) : Type 0 where
  now : applied ≡ 0 → count ≡ kept
  most : count ≤ 1

abbrev ParkedHere : ScriptData → List Entry → ℕ → ℕ → ℕ → ℕ → Type 0
ParkedHere s past p t k h = ParkedAt (applied_any past h p) (tally (is_parked t k h) (kept_in s past p)) (parks past t k h)

applied_here : (past : List Entry) (e : Entry) (h p : ℕ) → e.actor.0 ≡ p → applied_any (e ∷ past) h p ≡ applies_any h e.acts + applied_any past h p
applied_here past e h p at = let here : (e.actor.0 == p) ≡ true = grind (arith, nat_tests) in rw here (omega arith)

-- a node does a letter
does_parked : (s : ScriptData) (past : List Entry) (e : Entry) (p t k h : ℕ) (r : Letter) → Does s past e p r → ParkedHere s past p t k h
    → ParkedHere s (e ∷ past) p t k h
does_parked s past e p t k h r d ih = by (tells_decision h true r.body + tells_decision h false r.body) refl where
  rest : tally (is_parked t k h) (kept_without (kept_in s past p) e.took.body) ≡ tally (is_parked t k h) (kept_in s past p)
  rest = meanwhile_same (is_parked t k h) (kept_in s past p) e.took.body (λ x is. parked_uncalled t k h x.tree.0 x.sub.0 x.why is)

  acts : tally (parks_for t k h) e.acts ≡ 0
  acts = does_none (parks_for t k h) s past e p r (parks_of t k h) d

  applied : applied_any (e ∷ past) h p ≡ tells_decision h true r.body + tells_decision h false r.body + applied_any past h p
  applied = omega (arith, applied_here past e h p d.brings.at, does_apply s past e p r h true d, does_apply s past e p r h false d)

  by : (n : ℕ) → tells_decision h true r.body + tells_decision h false r.body ≡ n → ParkedHere s (e ∷ past) p t k h
  by zero none =
      let c : Core = (keeping_in s past p).core in
      let woken = woken_same (is_parked t k h) (woken_by c r.body) (kept_without (kept_in s past p) e.took.body)
      (λ x is. parked_uncalled t k h x.tree.0 x.sub.0 x.why is) (λ x is. unwoken t k h x.tree.0 x.sub.0 x.why c r.body none is) in
      record {
        now = λ free. omega (arith, ih.now (omega (arith, free, applied)), ap (λ (xs : List KeptLetter). tally (is_parked t k h) xs) d.kept, woken, rest, acts);
        most = omega (arith, ih.most, acts);
      }
  by (suc n) some = record { now = λ free. absurd (omega (arith, free, applied, some)); most = omega (arith, ih.most, acts) }

-- What a kept letter that is counted says.
record ParkedSo (t k h u j : ℕ) (w : KeepReason) : Type 0 where
  holder : TreeNo
  why : w ≡ ForHolder holder
  is : holder.0 ≡ h
  tree : u ≡ t
  sub : j ≡ k

parked_so : (t k h u j : ℕ) (w : KeepReason) → 1 ≤ parked_as t k h u j w → ParkedSo t k h u j w
parked_so t k h u j (ForHolder g) some = record {
  holder = g;
  why = refl;
  is = third u t j k g.0 h some;
  tree = first u t j k g.0 h some;
  sub = second u t j k g.0 h some;
} where
  first : (u t j k g h : ℕ) → 1 ≤ one_if ((u == t) && ((j == k) && (g == h))) → u ≡ t
  first u t j k g h some = grind (arith, nat_tests)

  second : (u t j k g h : ℕ) → 1 ≤ one_if ((u == t) && ((j == k) && (g == h))) → j ≡ k
  second u t j k g h some = grind (arith, nat_tests)

  third : (u t j k g h : ℕ) → 1 ≤ one_if ((u == t) && ((j == k) && (g == h))) → g ≡ h
  third u t j k g h some = grind (arith, nat_tests)
parked_so t k h u j ForShow some = absurd (omega (arith, some))
parked_so t k h u j Called some = absurd (omega (arith, some))

pub parked_most : (t k h u j : ℕ) (w : KeepReason) → parked_as t k h u j w ≤ one_if ((u == t) && (j == k))
parked_most t k h u j ForShow = omega arith
parked_most t k h u j Called = omega arith
parked_most t k h u j (ForHolder g) = by (u == t) (j == k) (g.0 == h) where
  by : (a b c : Bool) → one_if (a && (b && c)) ≤ one_if (a && b)
  by true true c = one_if_most c
  by true false c = omega arith
  by false b c = omega arith

-- A kept letter asks for its subtransaction.
abbrev pub letter_asks : ℕ → ℕ → KeptLetter → ℕ
letter_asks t k x = asks t k x.letter.body

asks_by : (t k : ℕ) (u : TreeNo) (j : SubNo) (b : Body) → AsksFor u j b → asks t k b ≡ one_if ((u.0 == t) && (j.0 == k))
asks_by t k u j (Root w) is =
    ap (λ (x : TreeNo). one_if ((x.0 == t) && (0 == k))) is.0 ∙ ap (λ (n : ℕ). one_if ((u.0 == t) && (n == k))) (sym is.1)
asks_by t k u j (SubLetter w i v) is =
    ap (λ (x : TreeNo). one_if ((x.0 == t) && (i.0 == k))) is.0 ∙ ap (λ (n : SubNo). one_if ((u.0 == t) && (n.0 == k))) is.1
asks_by t k u j _ is = absurd is

pub asks_sum : (t k p : ℕ) (xs : List KeptLetter) → AreKeptAt p xs
    → tally (letter_asks t k) xs ≡ tally (λ (x : KeptLetter). one_if ((x.tree.0 == t) && (x.sub.0 == k))) xs
asks_sum t k p [] all = refl
asks_sum t k p (x ∷ xs) all = omega (arith, asks_by t k x.tree x.sub x.letter.body all.0.asks, asks_sum t k p xs all.1)

-- what one node keeps is outstanding
letters_of : (f : Letter → ℕ) (xs : List KeptLetter) → tally f (map (λ (x : KeptLetter). x.letter) xs) ≡ tally (λ (x : KeptLetter). f x.letter) xs
letters_of f [] = refl
letters_of f (x ∷ xs) = omega (arith, letters_of f xs)

kept_below : (f : Letter → ℕ) (s : ScriptData) (past : List Entry) (p n : ℕ) → p < n
    → tally (λ (x : KeptLetter). f x.letter) (kept_in s past p) ≤ tally f (kept_by s past n)
kept_below f s past p zero lt = absurd (omega (arith, lt))
kept_below f s past p (suc n) lt = by (cases_eq p n) (λ below. kept_below f s past p n below) where
  last : tally f (kept_by s past (suc n)) ≡ tally f (kept_by s past n) + tally (λ (x : KeptLetter). f x.letter) (kept_in s past n)
  last = omega (arith, tally-append f (kept_by s past n) (map (λ (x : KeptLetter). x.letter) (kept_in s past n)), letters_of f (kept_in s past n))

  by : (p ≡ n) ⊎ (p ≢ n) → (p < n → tally (λ (x : KeptLetter). f x.letter) (kept_in s past p) ≤ tally f (kept_by s past n))
      → tally (λ (x : KeptLetter). f x.letter) (kept_in s past p) ≤ tally f (kept_by s past (suc n))
  by (inl is) rest = omega (arith, last, ap (λ (q : ℕ). tally (λ (x : KeptLetter). f x.letter) (kept_in s past q)) is)
  by (inr ne) rest = let below : p < n = grind arith in omega (arith, last, rest below)

pub kept_asks : (s : ScriptData) (past : List Entry) (p t k : ℕ) → p < s.nodes → tally (letter_asks t k) (kept_in s past p) ≤ letters_asking s past t k
kept_asks s past p t k lt =
    omega (
      arith,
      kept_below (λ (l : Letter). asks t k l.body) s past p s.nodes lt,
      tally-append (λ (l : Letter). asks t k l.body) (in_flight s past) (kept_by s past s.nodes),
    )

-- A letter that is kept was the only one, and it isn't kept twice.
kept_alone : (s : ScriptData) (past : List Entry) (e : Entry) (p t k : ℕ) (r : Letter) (o : CoreKeeping) → IsValid s → IsStepRun s (e ∷ past)
    → Keeps s past e p r o → IsAsked s p t k r.body → tally (letter_asks t k) (kept_without (kept_in s past p) e.took.body) ≡ 0
kept_alone s past e p t k r o valid run d a =
    let rest = kept_without (kept_in s past p) e.took.body in
    let x : KeptLetter = record { letter = r; tree = o.tree; sub = o.sub; why = o.why } in
    let kept : tally (letter_asks t k) (kept_in s (e ∷ past) p) ≡ tally (letter_asks t k) rest + 1 =
    omega (
      arith,
      ap (λ (xs : List KeptLetter). tally (letter_asks t k) xs) d.kept,
      tally-append (letter_asks t k) rest (x ∷ []),
      a.one,
    ) in
    omega (
      arith,
      kept,
      kept_asks s (e ∷ past) p t k d.brings.below,
      turns_come_once s (e ∷ past) t k a.sub.sub valid (all_apt s (e ∷ past) valid run) run (sub_here s t k a.sub),
    )

-- what was decided of its holder isn't applied there
holder_unapplied : (s : ScriptData) (past : List Entry) (e : Entry) (p : ℕ) (r : Letter) (o : CoreKeeping) (h : TreeNo) → IsValid s
    → IsStepRun s (e ∷ past) → Keeps s past e p r o → o.why ≡ ForHolder h → applied_any past h.0 p ≡ 0
holder_unapplied s past e p r o h valid run d is =
    let kept : IsKeptFor s (keeping_in s past p).core o.tree o.sub o.why = kept_for_a_reason s (keeping_in s past p).core r.body o d.keeps in
    let why : Reason s past p o.tree (ForHolder h) =
    new_reason s past p o.tree o.sub (ForHolder h) valid run.1 d.brings.below
    (subst (λ (w : KeepReason). IsKeptFor s (keeping_in s past p).core o.tree o.sub w) is kept) in
    (holders s past p valid (all_apt s past valid run.1) run.1 d.brings.below h why.1).unapplied

pub keeps_asked : (s : ScriptData) (past : List Entry) (e : Entry) (p : ℕ) (r : Letter) (o : CoreKeeping) → IsValid s → IsStepRun s (e ∷ past)
    → Keeps s past e p r o → IsAsked s p o.tree.0 o.sub.0 r.body
keeps_asked s past e p r o valid run d =
    let so : IsCoreKeeping (keeping_in s past p).core r.body o =
    subst (OfCoreKeeping (IsCoreKeeping (keeping_in s past p).core r.body)) d.keeps (core_keeps s (keeping_in s past p).core r.body) in
    asked_sub s p r.from.0 o.tree o.sub r.body valid (brought_meant s past e p r valid (brings_to s past e p r d.brings) run) so.asks

keeps_parked : (s : ScriptData) (past : List Entry) (e : Entry) (p t k h : ℕ) (r : Letter) (o : CoreKeeping) → IsValid s → IsStepRun s (e ∷ past)
    → Keeps s past e p r o → ParkedHere s past p t k h → ParkedHere s (e ∷ past) p t k h
keeps_parked s past e p t k h r o valid run d ih = by (parked_as t k h o.tree.0 o.sub.0 o.why) refl where
  rest : tally (is_parked t k h) (kept_without (kept_in s past p) e.took.body) ≡ tally (is_parked t k h) (kept_in s past p)
  rest = meanwhile_same (is_parked t k h) (kept_in s past p) e.took.body (λ x is. parked_uncalled t k h x.tree.0 x.sub.0 x.why is)

  acts : tally (parks_for t k h) e.acts ≡ parked_as t k h o.tree.0 o.sub.0 o.why
  acts = keeps_parks s past e p r o t k h d

  kept : tally (is_parked t k h) (kept_in s (e ∷ past) p)
      ≡ tally (is_parked t k h) (kept_without (kept_in s past p) e.took.body) + parked_as t k h o.tree.0 o.sub.0 o.why
  kept =
      let x : KeptLetter = record { letter = r; tree = o.tree; sub = o.sub; why = o.why } in
      omega (
        arith,
        ap (λ (xs : List KeptLetter). tally (is_parked t k h) xs) d.kept,
        tally-append (is_parked t k h) (kept_without (kept_in s past p) e.took.body) (x ∷ []),
      )

  applied : applied_any (e ∷ past) h p ≡ applied_any past h p
  applied = omega (arith, applied_here past e h p d.brings.at, keeps_apply s past e p r o h true d, keeps_apply s past e p r o h false d)

  none_yet : ParkedSo t k h o.tree.0 o.sub.0 o.why → (tally (is_parked t k h) (kept_in s past p) ≡ 0) × (applied_any past h p ≡ 0)
  none_yet so =
      let here : IsAsked s p o.tree.0 o.sub.0 r.body = keeps_asked s past e p r o valid run d in
      let its : IsAsked s p t k r.body =
      subst (λ (j : ℕ). IsAsked s p t j r.body) so.sub (subst (λ (u : ℕ). IsAsked s p u o.sub.0 r.body) so.tree here) in
      let others = kept_without (kept_in s past p) e.took.body in
      let there : AreKeptAt p others = still_kept p (kept_in s past p) e.took.body (kept_in_past s past p) in
      let few = tally_most (is_parked t k h) (λ (x : KeptLetter). one_if ((x.tree.0 == t) && (x.sub.0 == k))) others
      (λ x. parked_most t k h x.tree.0 x.sub.0 x.why) in (
        omega (arith, rest, few, asks_sum t k p others there, kept_alone s past e p t k r o valid run d its),
        subst (λ (n : ℕ). applied_any past n p ≡ 0) so.is (holder_unapplied s past e p r o so.holder valid run d so.why),
      )

  by : (n : ℕ) → parked_as t k h o.tree.0 o.sub.0 o.why ≡ n → ParkedHere s (e ∷ past) p t k h
  by zero none = record {
    now = λ free. omega (arith, ih.now (omega (arith, free, applied)), kept, rest, acts, none);
    most = omega (arith, ih.most, acts, none);
  }
  by (suc n) some =
      let none = none_yet (parked_so t k h o.tree.0 o.sub.0 o.why (omega (arith, some))) in
      let before : parks past t k h ≡ 0 = omega (arith, ih.now none.1, none.0) in record {
        now = λ free. omega (arith, before, none.0, kept, rest, acts);
        most = omega (arith, before, acts, parked_most t k h o.tree.0 o.sub.0 o.why, one_if_most ((o.tree.0 == t) && (o.sub.0 == k)));
      }

-- Another actor parks none.
parked_far : (t k h u j : ℕ) (w : KeepReason) → (u ≡ t → j ≡ k → ⊥) → parked_as t k h u j w ≡ 0
parked_far t k h u j w far = by (parked_as t k h u j w) refl where
  by : (n : ℕ) → parked_as t k h u j w ≡ n → parked_as t k h u j w ≡ 0
  by zero is = is
  by (suc n) is = let so = parked_so t k h u j w (omega (arith, is)) in absurd (far so.tree so.sub)

parks_elsewhere : (s : ScriptData) (past : List Entry) (e : Entry) (t k h : ℕ) → IsValid s → IsStepRun s (e ∷ past)
    → (e.actor.0 < s.nodes → e.actor.0 ≢ node_of s t k) → Case s past e → tally (parks_for t k h) e.acts ≡ 0
parks_elsewhere s past e t k h valid run ne (NodeDoes q r d) = does_none (parks_for t k h) s past e q r (parks_of t k h) d
parks_elsewhere s past e t k h valid run ne (NodeKeeps q r o d) =
    let a = keeps_asked s past e q r o valid run d in
    keeps_parks s past e q r o t k h d
    ∙ parked_far t k h o.tree.0 o.sub.0 o.why (λ tree sub.
    ne (omega (arith, d.brings.at, d.brings.below)) (d.brings.at ∙ a.node ∙ ap (λ (u : ℕ). node_of s u o.sub.0) tree ∙ ap (λ (j : ℕ). node_of s t j) sub))
parks_elsewhere s past e t k h valid run ne (Coordinates at made) = coordinator_none (parks_for t k h) s e made
parks_elsewhere s past e t k h valid run ne (Submits at says) = client_none (parks_for t k h) s past e (parks_of t k h) says

other_parked : (s : ScriptData) (past : List Entry) (e : Entry) (p t k h : ℕ) → e.actor.0 ≢ p → tally (parks_for t k h) e.acts ≡ 0
    → ParkedHere s past p t k h → ParkedHere s (e ∷ past) p t k h
other_parked s past e p t k h ne none ih =
    let same = ap (λ (n : KeepingNode). tally (is_parked t k h) n.kept) (keeping_elsewhere s past e p ne) in
    let applied = elsewhere_unapplied past e h p ne in
    record { now = λ free. omega (arith, ih.now (omega (arith, free, applied)), same, none); most = omega (arith, ih.most, none) }

node_parked : (s : ScriptData) (past : List Entry) (e : Entry) (p t k h : ℕ) → IsValid s → IsStepRun s (e ∷ past) → p < s.nodes → e.actor.0 ≡ p
    → ParkedHere s past p t k h → Case s past e → ParkedHere s (e ∷ past) p t k h
node_parked s past e p t k h valid run lt at ih (NodeDoes q r d) =
    let same : q ≡ p = sym d.brings.at ∙ at in does_parked s past e p t k h r (subst (λ (n : ℕ). Does s past e n r) same d) ih
node_parked s past e p t k h valid run lt at ih (NodeKeeps q r o d) =
    let same : q ≡ p = sym d.brings.at ∙ at in keeps_parked s past e p t k h r o valid run (subst (λ (n : ℕ). Keeps s past e n r o) same d) ih
node_parked s past e p t k h valid run lt at ih (Coordinates there says) = absurd (omega (arith, at, there, lt))
node_parked s past e p t k h valid run lt at ih (Submits there says) = absurd (omega (arith, at, there, lt))

parked_by : (s : ScriptData) (past : List Entry) (e : Entry) (p t k h : ℕ) → IsValid s → IsStepRun s (e ∷ past) → p < s.nodes
    → p ≡ node_of s t k → ParkedHere s past p t k h → (e.actor.0 ≡ p) ⊎ (e.actor.0 ≢ p) → ParkedHere s (e ∷ past) p t k h
parked_by s past e p t k h valid run lt is ih (inl at) =
    node_parked s past e p t k h valid run lt at ih (case s past e run.0 (all_apt s (e ∷ past) valid run).0)
parked_by s past e p t k h valid run lt is ih (inr ne) =
    other_parked s past e p t k h ne
    (parks_elsewhere s past e t k h valid run (λ below at. ne (at ∙ sym is)) (case s past e run.0 (all_apt s (e ∷ past) valid run).0)) ih

parked_run : (s : ScriptData) (past : List Entry) (p t k h : ℕ) → IsValid s → IsStepRun s past → p < s.nodes → p ≡ node_of s t k
    → ParkedHere s past p t k h
parked_run s [] p t k h valid run lt is = record { now = λ free. refl; most = omega arith }
parked_run s (e ∷ past) p t k h valid run lt is =
    parked_by s past e p t k h valid run lt is (parked_run s past p t k h valid run.1 lt is) (cases_eq e.actor.0 p)

-- a subtransaction that the script doesn't have is never parked
never_parked : (s : ScriptData) (past : List Entry) (t k h : ℕ) → IsValid s → IsStepRun s past → s.nodes ≤ node_of s t k → parks past t k h ≡ 0
never_parked s [] t k h valid run far = refl
never_parked s (e ∷ past) t k h valid run far =
    omega (
      arith,
      never_parked s past t k h valid run.1 far,
      parks_elsewhere s past e t k h valid run (λ below at. omega (arith, below, at, far)) (case s past e run.0 (all_apt s (e ∷ past) valid run).0),
    )

once_by : (s : ScriptData) (past : List Entry) (t k h : ℕ) → IsValid s → IsStepRun s past → (test : Bool)
    → nat_lt (node_of s t k) s.nodes ≡ test → parks past t k h ≤ 1
once_by s past t k h valid run true is =
    let lt : node_of s t k < s.nodes = grind (arith, nat_tests) in (parked_run s past (node_of s t k) t k h valid run lt refl).most
once_by s past t k h valid run false is =
    let far : s.nodes ≤ node_of s t k = grind (arith, nat_tests) in omega (arith, never_parked s past t k h valid run far)

-- in every run
pub letters_park_once : LettersParkOnce
letters_park_once s past t k h valid run = once_by s past t k h valid run (nat_lt (node_of s t k) s.nodes) refl
