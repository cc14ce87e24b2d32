-- In runs of enabled messages, of every script: at each node that a strict transaction visits its decision was applied,
-- or is on its way there, as often as it was made.
use Rattle.std.proofs.Common.{◌≡◌, ◌≢◌, ◌⊎◌, inl, inr, ℕ, zero, suc, ◌+◌, ◌<◌, ◌≤◌, ◌==◌, Bool, true, false, not, List, [], ◌∷◌, refl, sym, ap, subst, ◌∙◌, arith, Option, Some, None}
use Rattle.std.specs.Prelude.{if◌then◌else◌}
use Rattle.std.proofs.lemmas.Bool.{cases_eq}
use Rattle.std.proofs.lemmas.Bool.Decides.{nat_tests}
use Rattle.tv_base.specs.declared.numbers.TreeNo.{TreeNo}
use Rattle.tv_base.specs.declared.numbers.Version.{Version}
use Rattle.tv_base.proofs.Chosen.{if_most, if_zero}
use Rattle.letter_types.specs.Kept.{kept_without, wakes}
use Rattle.letter_types.specs.Steps.{Out}
use Rattle.letter_types.specs.declared.acts.Act.{Act}
use Rattle.letter_types.specs.declared.acts.Act.TheVariants as acts
use Rattle.letter_types.specs.declared.bodies.Body.{Body}
use Rattle.letter_types.specs.declared.bodies.Body.TheVariants.{Advance, Advanced, AskAsked, AskDone, Decide, Go, Nudge, Root, Show, Sub as SubLetter, Sweep, Turn, Wake, Lose, Wanted, AdvanceNo, Order, Ask}
use Rattle.letter_types.specs.declared.entries.Entry.{Entry}
use Rattle.letter_types.specs.declared.entries.Letter.{Letter}
use Rattle.letter_types.specs.declared.entries.Outgoing.{Outgoing}
use Rattle.tree_home.specs.declared.homes.Answered.{Answered}
use Rattle.tx_trees.specs.ScriptData.{ScriptData, client_of, subs_at, visited, visited_by, visits}
use Rattle.tx_trees.specs.declared.parts.Sub.{Sub}
use Rattle.world_model.specs.Keeping.{woken_by}
use Rattle.world_model.specs.Core.{Core, Refusals}
use Rattle.world_model.specs.Counts.{tally}
use Rattle.world_model.specs.Kept.{kept_by, kept_in, of_done, outstanding}
use Rattle.world_model.specs.Runs.{MayFollow, client_in, in_flight, keeping_in}
use Rattle.world_model.specs.Strict.{CoreKeeping, core_row, none_refuses, to_each}
use Rattle.world_model.proofs.Bags.{sealed_tally, tally-append, one_if_and, tally_most}
use Rattle.world_model.proofs.Cases.{Case, Coordinates, Does, Keeps, NodeDoes, NodeKeeps, Submits, case, does_number, keeps_number}
use Rattle.world_model.proofs.Outstanding.{done_apart, outstanding_step}
use Rattle.world_model.proofs.Sends.{on}
use Rattle.tree_laws.specs.Applied.{AppliedWhereDecided, applies_as, has_decided, decisions_to, tells_decision}
use Rattle.tree_laws.specs.Stages.{decides, decisions}
use Rattle.tree_laws.proofs.decided.AptRulings.{OfDecides, OfRulings, RowRules, applied_acts, client_acts, core_rules, is_decide, keeping_acts, ruled_acts, ruled_letters, rulings_no_keeping}
use Rattle.tree_laws.proofs.stages.AptStagesApart.{CountsNoOthers, client_none, coordinator_none, none_of_others}
use Rattle.tree_laws.proofs.stages.AptStagesSteps.{CountsNoAsking, kept_by_zero}
use Rattle.tree_laws.proofs.apt.AptSteps.{wakes_none}

-- Numbers of decisions, of what is applied, and of letters that tell a decision to node q.
pub decides_of : (t : ℕ) (b : Bool) → OfRulings (has_decided t b)
decides_of t true (acts.Decided u commit) none = absurd (cc none)
decides_of t false (acts.Decided u commit) none = absurd (cc none)
decides_of t true acts.Finished none = refl
decides_of t false acts.Finished none = refl
decides_of t true _ none = refl
decides_of t false _ none = refl

pub applies_of : (t : ℕ) (b : Bool) → OfRulings (applies_as t b)
applies_of t true (acts.Applied u commit) none = absurd (cc none)
applies_of t false (acts.Applied u commit) none = absurd (cc none)
applies_of t true acts.Finished none = refl
applies_of t false acts.Finished none = refl
applies_of t true _ none = refl
applies_of t false _ none = refl

other_tells : (t : ℕ) (b : Bool) (body : Body) → is_decide body ≡ false → tells_decision t b body ≡ 0
other_tells t true (Decide u v commit) none = absurd (cc none)
other_tells t false (Decide u v commit) none = absurd (cc none)
other_tells t true Go none = refl
other_tells t false Go none = refl
other_tells t true _ none = refl
other_tells t false _ none = refl

abbrev told_to : ℕ → Bool → ℕ → Outgoing → ℕ
told_to t b q o = if o.to.0 == q then tells_decision t b o.body else 0

abbrev tells_to : ℕ → Bool → ℕ → Letter → ℕ
tells_to t b q l = if l.to.0 == q then tells_decision t b l.body else 0

told_of : (t : ℕ) (b : Bool) (q : ℕ) → OfDecides (told_to t b q)
told_of t b q o none = if_zero (o.to.0 == q) (tells_decision t b o.body) (other_tells t b o.body none)

told_less : (t : ℕ) (b : Bool) (q : ℕ) (os : List Outgoing) → tally (told_to t b q) os ≤ tally (on (tells_decision t b)) os
told_less t b q [] = omega arith
told_less t b q (o ∷ os) = omega (arith, if_most (o.to.0 == q) (tells_decision t b o.body), told_less t b q os)

tells_no_asking : (t : ℕ) (b : Bool) → CountsNoAsking (tells_decision t b)
tells_no_asking t b = record {
  roots = λ u. other_tells t b (Root u) refl;
  subs = λ u k v. other_tells t b (SubLetter u k v) refl;
  wakes = λ u k. other_tells t b (Wake u k) refl;
}

tells_no_others : (t : ℕ) (b : Bool) → CountsNoOthers (tells_decision t b)
tells_no_others t b =
    let none : (body : Body) → is_decide body ≡ false → tells_decision t b body ≡ 0 = other_tells t b in
    none_of_others (tells_decision t b) (λ u. none (Root u) refl) (λ v. (none (Turn v) refl, (none (Show v) refl, none (Sweep v) refl)))
    (λ e what v. (none (Order e what v) refl, none (Ask e) refl)) (λ v k. (none (AskDone v k) refl, none (AskAsked v k) refl))
    (λ v. none (Advanced v) refl) (none Nudge refl, (none Advance refl, none Lose refl))
    (λ e k. (none (Wanted e k) refl, none (AdvanceNo k) refl))

-- The nodes that a tree visits are told once each.
abbrev at_node : ℕ → ℕ → ℕ → ℕ
at_node q n i = if i == q then n else 0

node_other : (q n i : ℕ) (test : Bool) → i ≢ q → tally (at_node q n) (if test then i ∷ [] else []) ≡ 0
node_other q n i true ne = let other : (i == q) ≡ false = grind (arith, nat_tests) in rw other (omega arith)
node_other q n i false ne = refl

visited_after : (subs : List Sub) (q n m : ℕ) → m ≤ q → tally (at_node q n) (visited subs m) ≡ 0
visited_after subs q n zero le = refl
visited_after subs q n (suc m) le =
    omega (
      arith,
      tally-append (at_node q n) (visited subs m) (if visits subs m then m ∷ [] else []),
      visited_after subs q n m (omega (arith, le)),
      node_other q n m (visits subs m) (λ is. omega (arith, is, le)),
    )

node_here : (subs : List Sub) (q n : ℕ) → visits subs q ≡ true → tally (at_node q n) (if visits subs q then q ∷ [] else []) ≡ n
node_here subs q n is = let same : (q == q) ≡ true = grind (arith, nat_tests) in rw is (rw same (omega arith))

visited_by_test : (subs : List Sub) (q n m : ℕ) → visits subs q ≡ true → (q < m → tally (at_node q n) (visited subs m) ≡ n) → q < suc m
    → (q ≡ m) ⊎ (q ≢ m) → tally (at_node q n) (visited subs (suc m)) ≡ n
visited_by_test subs q n m is earlier lt (inl eq) =
    let here : tally (at_node q n) (if visits subs m then m ∷ [] else []) ≡ n =
    subst (λ (i : ℕ). tally (at_node q n) (if visits subs i then i ∷ [] else []) ≡ n) eq (node_here subs q n is) in
    omega (
      arith,
      tally-append (at_node q n) (visited subs m) (if visits subs m then m ∷ [] else []),
      visited_after subs q n m (omega (arith, eq)),
      here,
    )
visited_by_test subs q n m is earlier lt (inr ne) =
    omega (
      arith,
      tally-append (at_node q n) (visited subs m) (if visits subs m then m ∷ [] else []),
      earlier (omega (arith, lt, ne)),
      node_other q n m (visits subs m) (λ same. ne (sym same)),
    )

visited_once : (subs : List Sub) (q n m : ℕ) → visits subs q ≡ true → q < m → tally (at_node q n) (visited subs m) ≡ n
visited_once subs q n zero is lt = absurd (omega arith)
visited_once subs q n (suc m) is lt = visited_by_test subs q n m is (λ less. visited_once subs q n m is less) lt (cases_eq q m)

told_each : (t : ℕ) (b : Bool) (q : ℕ) (body : Body) (qs : List ℕ)
    → tally (told_to t b q) (to_each body qs) ≡ tally (at_node q (tells_decision t b body)) qs
told_each t b q body [] = refl
told_each t b q body (i ∷ qs) = ap (λ (n : ℕ). at_node q (tells_decision t b body) i + n) (told_each t b q body qs)

at_none : (q n : ℕ) (qs : List ℕ) → n ≡ 0 → tally (at_node q n) qs ≡ 0
at_none q n [] none = refl
at_none q n (i ∷ qs) none = omega (arith, if_zero (i == q) n none, at_none q n qs none)

-- a letter of a decision tells what was decided, of its tree alone
tells_as : (t : ℕ) (b : Bool) (u : TreeNo) (v : Version) (commit : Bool)
    → tells_decision t b (Decide u v commit) ≡ has_decided t b (acts.Decided u commit)
tells_as t true u v commit = refl
tells_as t false u v commit = refl

other_decision : (t : ℕ) (b : Bool) (u : TreeNo) (v : Version) (commit : Bool) → u.0 ≢ t → tells_decision t b (Decide u v commit) ≡ 0
other_decision t true u v commit ne = let other : (u.0 == t) ≡ false = grind (arith, nat_tests) in rw other refl
other_decision t false u v commit ne = let other : (u.0 == t) ≡ false = grind (arith, nat_tests) in rw other refl

ruled_by : (s : ScriptData) (t q : ℕ) (b : Bool) (rs : Refusals) (a : Answered) → q < s.nodes → visits (subs_at s t) q ≡ true
    → (a.tree.0 ≡ t) ⊎ (a.tree.0 ≢ t)
    → tally (told_to t b q) (ruled_letters s rs (Some a)) ≡ tally (has_decided t b) (ruled_acts rs (Some a))
ruled_by s t q b rs a lt is (inl same) =
    let commit : Bool = none_refuses a.tree rs in
    let told : Body = Decide a.tree a.version commit in
    let its : visits (subs_at s a.tree.0) q ≡ true = subst (λ (u : ℕ). visits (subs_at s u) q ≡ true) (sym same) is in
    omega (
      arith,
      told_each t b q told (visited_by s a.tree.0),
      visited_once (subs_at s a.tree.0) q (tells_decision t b told) s.nodes its lt,
      tells_as t b a.tree a.version commit,
    )
ruled_by s t q b rs a lt is (inr ne) =
    let commit : Bool = none_refuses a.tree rs in
    let told : Body = Decide a.tree a.version commit in
    let none = other_decision t b a.tree a.version commit ne in
    omega (
      arith,
      told_each t b q told (visited_by s a.tree.0),
      at_none q (tells_decision t b told) (visited_by s a.tree.0) none,
      tells_as t b a.tree a.version commit,
      none,
    )

ruled_told : (s : ScriptData) (t q : ℕ) (b : Bool) (rs : Refusals) (found : Option Answered) → q < s.nodes → visits (subs_at s t) q ≡ true
    → tally (told_to t b q) (ruled_letters s rs found) ≡ tally (has_decided t b) (ruled_acts rs found)
ruled_told s t q b rs None lt is = refl
ruled_told s t q b rs (Some a) lt is = ruled_by s t q b rs a lt is (cases_eq a.tree.0 t)

-- What a node applies is what its letter tells, and it decides nothing by that.
pub applied_decides : (t : ℕ) (b : Bool) (body : Body) → tally (has_decided t b) (applied_acts body) ≡ 0
applied_decides t true (Decide u v commit) = refl
applied_decides t false (Decide u v commit) = refl
applied_decides t true Go = refl
applied_decides t false Go = refl
applied_decides t true _ = refl
applied_decides t false _ = refl

pub applied_tells : (t : ℕ) (b : Bool) (body : Body) → tally (applies_as t b) (applied_acts body) ≡ tells_decision t b body
applied_tells t true (Decide u v commit) = omega arith
applied_tells t false (Decide u v commit) = omega arith
applied_tells t true Go = refl
applied_tells t false Go = refl
applied_tells t true _ = refl
applied_tells t false _ = refl

pub ruled_applies : (t : ℕ) (b : Bool) (rs : Refusals) (found : Option Answered) → tally (applies_as t b) (ruled_acts rs found) ≡ 0
ruled_applies t b rs None = refl
ruled_applies t true rs (Some a) = refl
ruled_applies t false rs (Some a) = refl

-- The law of these letters in flight: none is ever kept.
all_told : (s : ScriptData) (past : List Entry) (t : ℕ) (b : Bool) (q : ℕ)
    → tally (tells_to t b q) (outstanding s past) ≡ decisions_to s past t b q
all_told s past t b q =
    let f : Letter → ℕ = tells_to t b q in
    let g : Letter → ℕ = λ (l : Letter). tells_decision t b l.body in
    omega (
      arith,
      tally-append f (in_flight s past) (kept_by s past s.nodes),
      tally_most f g (kept_by s past s.nodes) (λ l. if_most (l.to.0 == q) (tells_decision t b l.body)),
      kept_by_zero (tells_decision t b) s past s.nodes (tells_no_asking t b),
    )

told_flow : (s : ScriptData) (past : List Entry) (e : Entry) (t : ℕ) (b : Bool) (q : ℕ) → MayFollow s past e
    → decisions_to s (e ∷ past) t b q + of_done (tells_to t b q) s past e ≡ decisions_to s past t b q + tally (told_to t b q) e.sent
told_flow s past e t b q m =
    omega (
      arith,
      outstanding_step (tells_to t b q) s past e
          (λ l u k is. if_zero (l.to.0 == q) (tells_decision t b l.body) (ap (tells_decision t b) is ∙ other_tells t b (Wake u k) refl)) m,
      sealed_tally (tells_to t b q) (told_to t b q) e.stamp.0 e.actor.0 0 e.sent (λ i o. refl),
      all_told s past t b q,
      all_told s (e ∷ past) t b q,
    )

-- Entries.
abbrev applied_now : Entry → ℕ → Bool → ℕ → ℕ
applied_now e t b q = if e.actor.0 == q then tally (applies_as t b) e.acts else 0

-- an entry applies what it takes, and tells what it decides
record Even (s : ScriptData) (past : List Entry) (e : Entry) (t : ℕ) (b : Bool) (q : ℕ) : Type 0 where
  applied : applied_now e t b q ≡ of_done (tells_to t b q) s past e
  told : tally (told_to t b q) e.sent ≡ tally (has_decided t b) e.acts

pub same_at : (q x y m n : ℕ) → x ≡ y → m ≡ n → (if x == q then m else 0) ≡ (if y == q then n else 0)
same_at q x y m n is same = ap (λ (i : ℕ). if i == q then m else 0) is ∙ ap (λ (j : ℕ). if y == q then j else 0) same

does_even : (s : ScriptData) (past : List Entry) (e : Entry) (p : ℕ) (r : Letter) (t : ℕ) (b : Bool) (q : ℕ) → q < s.nodes
    → visits (subs_at s t) q ≡ true → Does s past e p r → Even s past e t b q
does_even s past e p r t b q lt is d =
    let c : Core = (keeping_in s past p).core in
    let row : Out Core = core_row s p c r.from.0 r.body in
    let rules : RowRules s c r.body row = core_rules s p r.from.0 r.body c in
    let more : List Outgoing = wakes (woken_by (keeping_in s past p).core r.body) (kept_without (kept_in s past p) e.took.body) in
    let applies : tally (applies_as t b) e.acts ≡ tells_decision t b r.body =
    omega (
      arith,
      ap (λ (xs : List Act). tally (applies_as t b) xs) d.acts,
      rules.acts (applies_as t b) (applies_of t b),
      ruled_applies t b row.state.refusals rules.found,
      applied_tells t b r.body,
    ) in
    record {
      applied =
          same_at q e.actor.0 r.to.0 (tally (applies_as t b) e.acts) (tells_decision t b r.body) (d.brings.at ∙ sym d.brings.to) applies
          ∙ sym (does_number (tells_to t b q) s past e p r d);
      told = omega (
        arith,
        ap (λ (os : List Outgoing). tally (told_to t b q) os) d.sent,
        tally-append (told_to t b q) row.sent more,
        wakes_none (told_to t b q) (woken_by (keeping_in s past p).core r.body) (kept_without (kept_in s past p) e.took.body)
            (λ x. told_of t b q (record { to = x.letter.to; body = Wake x.tree x.sub }) refl),
        rules.sends (told_to t b q) (told_of t b q),
        ruled_told s t q b row.state.refusals rules.found lt is,
        ap (λ (xs : List Act). tally (has_decided t b) xs) d.acts,
        rules.acts (has_decided t b) (decides_of t b),
        applied_decides t b r.body,
      );
    }

keeps_even : (s : ScriptData) (past : List Entry) (e : Entry) (p : ℕ) (r : Letter) (k : CoreKeeping) (t : ℕ) (b : Bool) (q : ℕ)
    → Keeps s past e p r k → Even s past e t b q
keeps_even s past e p r k t b q d =
    let c : Core = (keeping_in s past p).core in
    let quiet = λ (g : Act → ℕ) (of : OfRulings g). ap (λ (xs : List Act). tally g xs) d.acts ∙ keeping_acts g s c r.body k (rulings_no_keeping g of) d.keeps in
    record {
      applied = if_zero (e.actor.0 == q) (tally (applies_as t b) e.acts) (quiet (applies_as t b) (applies_of t b))
          ∙ sym (keeps_number (tells_to t b q) s past e p r k d);
      told = ap (λ (os : List Outgoing). tally (told_to t b q) os) d.sent ∙ sym (quiet (has_decided t b) (decides_of t b));
    }

took_elsewhere : (q to n : ℕ) → to ≢ q → (if to == q then n else 0) ≡ 0
took_elsewhere q to n ne = let other : (to == q) ≡ false = grind (arith, nat_tests) in rw other refl

apart_even : (s : ScriptData) (past : List Entry) (e : Entry) (t : ℕ) (b : Bool) (q : ℕ) → MayFollow s past e → q < s.nodes → s.nodes ≤ e.actor.0
    → tally (on (tells_decision t b)) e.sent ≡ 0 → ((g : Act → ℕ) → OfRulings g → tally g e.acts ≡ 0) → Even s past e t b q
apart_even s past e t b q m lt out sent quiet = record {
  applied = if_zero (e.actor.0 == q) (tally (applies_as t b) e.acts) (quiet (applies_as t b) (applies_of t b))
      ∙ sym (done_apart (tells_to t b q) s past e out
      ∙ took_elsewhere q e.took.to.0 (tells_decision t b e.took.body) (λ is. omega (arith, is, lt, out, m.addressee)));
  told = omega (arith, sent, told_less t b q e.sent, quiet (has_decided t b) (decides_of t b));
}

even_by : (s : ScriptData) (past : List Entry) (e : Entry) (t : ℕ) (b : Bool) (q : ℕ) → MayFollow s past e → q < s.nodes
    → visits (subs_at s t) q ≡ true → Case s past e → Even s past e t b q
even_by s past e t b q m lt is (NodeDoes p r d) = does_even s past e p r t b q lt is d
even_by s past e t b q m lt is (NodeKeeps p r k d) = keeps_even s past e p r k t b q d
even_by s past e t b q m lt is (Coordinates at made) =
    apart_even s past e t b q m lt (omega (arith, at)) (coordinator_none (tells_decision t b) s e made (tells_no_others t b))
    (λ g of. ap (λ (xs : List Act). tally g xs) made.acts)
even_by s past e t b q m lt is (Submits at says) =
    apart_even s past e t b q m lt (omega (arith, at))
    (ap (λ (os : List Outgoing). tally (on (tells_decision t b)) os) says.0
    ∙ client_none (tells_decision t b) s (client_in s past) e.took.body (tells_no_others t b))
    (λ g of. ap (λ (xs : List Act). tally g xs) says.1 ∙ client_acts g s (client_in s past) e.took.body (of acts.Finished refl))

first_none : (s : ScriptData) (t : ℕ) (b : Bool) (q : ℕ) → decisions_to s [] t b q ≡ 0
first_none s t b q = omega (arith, if_zero (client_of s == q) (tells_decision t b Go) (other_tells t b Go refl))

pub applied_where_decided : AppliedWhereDecided
applied_where_decided s [] t q b valid apt run lt below is = omega (arith, first_none s t b q)
applied_where_decided s (e ∷ past) t q b valid apt run lt below is =
    let even : Even s past e t b q = even_by s past e t b q run.0 below is (case s past e run.0 apt.0) in
    omega (
      arith,
      applied_where_decided s past t q b valid apt.1 run.1 lt below is,
      told_flow s past e t b q run.0,
      even.applied,
      even.told,
    )

-- Where no letter of a tree's decision is in flight, none goes to a node.
tells_less : (t : ℕ) (b : Bool) (body : Body) → tells_decision t b body ≤ decides t body
tells_less t true (Decide u v commit) = one_if_and (u.0 == t) commit
tells_less t false (Decide u v commit) = one_if_and (u.0 == t) (not commit)
tells_less t true Go = omega arith
tells_less t false Go = omega arith
tells_less t true _ = omega arith
tells_less t false _ = omega arith

pub none_under_way : (s : ScriptData) (past : List Entry) (t : ℕ) (b : Bool) (q : ℕ) → decisions s past t ≡ 0 → decisions_to s past t b q ≡ 0
none_under_way s past t b q none =
    omega (
      arith,
      none,
      tally_most (tells_to t b q) (λ (l : Letter). decides t l.body) (in_flight s past)
          (λ l. omega (arith, if_most (l.to.0 == q) (tells_decision t b l.body), tells_less t b l.body)),
    )
