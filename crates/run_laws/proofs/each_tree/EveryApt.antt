-- In every run of every valid script each message that comes to a node brings one, which is enabled there: what it
-- names belongs there, a root is new, its version is one that the node can go by, and what it asks for can be made.
use Rattle.std.proofs.Common.{◌≡◌, ℕ, ◌<◌, ◌≤◌, ◌==◌, ◌&&◌, ◌||◌, Bool, true, false, not, List, [], ◌∷◌, length, refl, sym, ap, subst, ◌∙◌, arith, Option, Some, None}
use Rattle.std.specs.Prelude.{IsSome, nat_lt}
use Rattle.std.proofs.lemmas.Bool.{and_from, lt-ltb, or_left, or_right}
use Rattle.std.proofs.lemmas.Bool.Decides.{nat_tests}
use Rattle.letter_types.specs.Kept.{brought, first_called}
use Rattle.letter_types.specs.declared.bodies.Body.{Body}
use Rattle.letter_types.specs.declared.bodies.Body.TheVariants.{Go, Root, Sub as SubLetter, Done, Decide, Decided, Release, Wake, Lose, AdvanceNo, Ask, Numbers, Wanted, Order, Obeyed, Advance, Turn, Show, Sweep, Turned, Shown, Swept}
use Rattle.letter_types.specs.declared.entries.Entry.{Entry}
use Rattle.letter_types.specs.declared.entries.Letter.{Letter}
use Rattle.script_parts.specs.Counts.{has_strict, is_lossy}
use Rattle.script_parts.proofs.SubsOf.{home_below}
use Rattle.tx_trees.specs.ScriptData.{ScriptData, home_of, node_of, subs_at, visits}
use Rattle.tx_trees.specs.Valid.{IsValid}
use Rattle.world_model.specs.AllApt.{AllApt, WasApt}
use Rattle.world_model.specs.Keeping.{is_apt_at, is_apt_brought}
use Rattle.world_model.specs.Kept.{kept_in}
use Rattle.world_model.specs.Named.{is_named, is_new, is_strict_at, suits}
use Rattle.world_model.specs.Runs.{IsStepRun, keeping_in, node_in}
use Rattle.world_model.specs.Strict.{can_make_at, decides_near, is_of_strict, is_unheld}
use Rattle.world_model.proofs.Outstanding.{IsOutstanding}
use Rattle.world_model.proofs.Plain.{no_strict}
use Rattle.world_model.specs.Meant.{IsMeant}
use Rattle.world_model.proofs.MeantRows.{strict_below}
use Rattle.tree_laws.proofs.kept.Waking.{wakes_bring_letters}
use Rattle.tree_laws.specs.Dids.{asks, letters_asking}
use Rattle.tree_laws.proofs.decided.AptApplied.{applied_where_decided}
use Rattle.tree_laws.proofs.decided.AptDecided.{decided_once}
use Rattle.tree_laws.proofs.apt.AptLawful.{answered_in, nudges_few, root_unborn}
use Rattle.tree_laws.proofs.apt.AptMakes.{makes}
use Rattle.advance_laws.proofs.governed.Brought.{BringsTo, brought_meant, brought_outstanding, brought_to}
use Rattle.advance_laws.proofs.governed.Governed.{IsGoverned, remembering}
use Rattle.advance_laws.proofs.governed.Lawful.{IsLawful, IsTreeLawful}
use Rattle.advance_laws.proofs.recovery.Forgetting.{forgetting}
use Rattle.world_model.specs.Epochs.{is_core_timely, suits_coordinator}
use Rattle.world_model.proofs.Bags.{one_if_both}

-- what the laws of phases need of trees
pub tree_lawful : (s : ScriptData) → IsValid s → IsTreeLawful s
tree_lawful s valid = record {
  valid = valid;
  nudges = λ past run apt. nudges_few s past valid apt run;
  answered_in = λ past r t k v notice a p apt run out is to lt found.
      answered_in s past r t k v notice a p valid apt run out is lt to found;
}

-- and of a coordinator that remembers
pub lawful : (s : ScriptData) → IsValid s → is_lossy s ≡ false → IsLawful s
lawful s valid keeps = record { trees = tree_lawful s valid; keeps = keeps }

-- what the laws above need of either coordinator
pub governed : (s : ScriptData) → IsValid s → IsGoverned s
governed s valid = by (is_lossy s) refl where
  by : (loses : Bool) → is_lossy s ≡ loses → IsGoverned s
  by true is = forgetting s (tree_lawful s valid) is
  by false is = remembering s (lawful s valid is)

-- A letter that comes brings one: a Wake finds the letter that it calls.
found : (o : Option Letter) → IsSome o → (r : Letter) × (o ≡ Some r)
found None some = absurd (cc some)
found (Some r) some = (r, refl)

brings_by : (s : ScriptData) (past : List Entry) (e : Entry) (b : Body) → IsValid s → AllApt s past → IsStepRun s (e ∷ past)
    → e.actor.0 < s.nodes → e.took.body ≡ b → (r : Letter) × (brought (kept_in s past e.actor.0) e.took b ≡ Some r)
brings_by s past e (Wake t k) valid apt run lt is =
    found (first_called t k (kept_in s past e.actor.0))
    (wakes_bring_letters s past e.took e.actor.0 t k valid apt run.1 lt run.0.waits run.0.addressee is)
brings_by s past e Go valid apt run lt is = (e.took, refl)
brings_by s past e _ valid apt run lt is = (e.took, refl)

-- What a letter that is meant for its addressee names belongs there.
same_true : (a b : ℕ) → b ≡ a → (a == b) ≡ true
same_true a b is = grind (arith, nat_tests)

named : (s : ScriptData) (p from : ℕ) (b : Body) → IsValid s → IsMeant s from p b → is_named s p from b ≡ true
named s p from (Root t) valid meant = same_true (home_of s t.0) p meant.home
named s p from (SubLetter t k v) valid meant =
    and_from (node_of s t.0 k.0 == p) (nat_lt from s.nodes) (same_true (node_of s t.0 k.0) p meant.node)
    (lt-ltb from s.nodes meant.sender)
named s p from (Done t k v notice) valid meant =
    and_from (home_of s t.0 == p) (nat_lt k.0 (length (subs_at s t.0)) && (nat_lt from s.nodes && suits (is_strict_at s t.0) notice))
    (same_true (home_of s t.0) p meant.home)
    (and_from (nat_lt k.0 (length (subs_at s t.0))) (nat_lt from s.nodes && suits (is_strict_at s t.0) notice)
    (lt-ltb k.0 (length (subs_at s t.0)) meant.sub)
    (and_from (nat_lt from s.nodes) (suits (is_strict_at s t.0) notice) (lt-ltb from s.nodes meant.sender) meant.fits))
named s p from (Decide t v commit) valid meant =
    let below : from < s.nodes = subst (λ (q : ℕ). q < s.nodes) (sym meant.home) (home_below s t.0 valid (strict_below s t.0 meant.strict)) in
    and_from (is_strict_at s t.0) (visits (subs_at s t.0) p && nat_lt from s.nodes) meant.strict
    (and_from (visits (subs_at s t.0) p) (nat_lt from s.nodes) meant.visited.visits (lt-ltb from s.nodes below))
named s p from (Decided t v) valid meant =
    and_from (home_of s t.0 == p) (nat_lt from s.nodes) (same_true (home_of s t.0) p meant.home)
    (lt-ltb from s.nodes meant.visited.below)
named s p from (Release t) valid meant = meant.visited.visits
named s p from (Wake t k) valid meant = same_true (node_of s t.0 k.0) p meant.node
named s p from Go valid meant = refl
named s p from _ valid meant = refl

-- letters that strict trees alone have come only where there are some
some_strict : (s : ScriptData) (t : ℕ) (test : Bool) → has_strict s ≡ test → is_strict_at s t ≡ true → has_strict s ≡ true
some_strict s t true is strict = is
some_strict s t false is strict = absurd (let none = no_strict s t is in cc (none, strict))

belongs : (s : ScriptData) (p from : ℕ) (b : Body) → IsMeant s from p b → (has_strict s || not (is_of_strict b)) ≡ true
belongs s p from (Decide t v commit) meant = or_left (has_strict s) false (some_strict s t.0 (has_strict s) refl meant.strict)
belongs s p from (Decided t v) meant = or_left (has_strict s) false (some_strict s t.0 (has_strict s) refl meant.strict)
belongs s p from (Release t) meant = or_left (has_strict s) false meant.some_strict
belongs s p from (Wake t k) meant = or_left (has_strict s) false meant.some_strict
belongs s p from Go meant = or_right (has_strict s) true refl
belongs s p from _ meant = or_right (has_strict s) true refl

-- and those of a coordinator where the script has that one
coordinator_suited : (s : ScriptData) (p from : ℕ) (b : Body) → IsMeant s from p b → suits_coordinator s b ≡ true
coordinator_suited s p from Lose meant = meant.1
coordinator_suited s p from (AdvanceNo i) meant = meant.1
coordinator_suited s p from (Ask e) meant = meant.1
coordinator_suited s p from (Numbers e u r l) meant = meant.1
coordinator_suited s p from (Wanted e k) meant = meant.1
coordinator_suited s p from (Order e what v) meant = meant.1
coordinator_suited s p from (Obeyed e what v) meant = meant.1
coordinator_suited s p from Advance meant = ap not meant.1
coordinator_suited s p from (Turn v) meant = ap not meant.1
coordinator_suited s p from (Show v) meant = ap not meant.1
coordinator_suited s p from (Sweep v) meant = ap not meant.1
coordinator_suited s p from (Turned v) meant = ap not meant.1
coordinator_suited s p from (Shown v) meant = ap not meant.1
coordinator_suited s p from (Swept v) meant = ap not meant.1
coordinator_suited s p from Go meant = refl
coordinator_suited s p from _ meant = refl

-- A root is new.
record IsNewRoot (s : ScriptData) (past : List Entry) (p : ℕ) (b : Body) : Type 0 where
  new : is_new s (node_in s past p) b ≡ true
  unheld : is_unheld b (keeping_in s past p).core.holds ≡ true

asks_itself : (t : ℕ) (r : Letter) (b : Body) → r.body ≡ b → asks t 0 r.body ≡ asks t 0 b
asks_itself t r b is = ap (asks t 0) is

root_new : (s : ScriptData) (past : List Entry) (p : ℕ) (r : Letter) (b : Body) → IsValid s → AllApt s past → IsStepRun s past
    → IsOutstanding s past r → r.body ≡ b → IsMeant s r.from.0 p b → IsNewRoot s past p b
root_new s past p r (Root t) valid apt run out is meant =
    let some : 1 ≤ letters_asking s past t.0 0 =
    omega (arith, out (λ (l : Letter). asks t.0 0 l.body), asks_itself t.0 r (Root t) is, one_if_both t.0 0) in
    let u = root_unborn s past t.0 valid apt run meant.tree some in
    let home : p ≡ home_of s t.0 = meant.home in
    subst (λ (q : ℕ). IsNewRoot s past q (Root t)) (sym home) (record {
      new = rw u.0 refl;
      unheld = rw u.1 refl;
    })
root_new s past p r Go valid apt run out is meant = record { new = refl; unheld = refl }
root_new s past p r _ valid apt run out is meant = record { new = refl; unheld = refl }

-- So the letter that is brought is apt.
apt_by : (s : ScriptData) (past : List Entry) (e : Entry) (r : Letter) → IsValid s → AllApt s past → IsStepRun s (e ∷ past)
    → e.actor.0 < s.nodes → brought (kept_in s past e.actor.0) e.took e.took.body ≡ Some r
    → is_apt_at s e.actor.0 (keeping_in s past e.actor.0) r ≡ true
apt_by s past e r valid apt run lt is =
    let p = e.actor.0 in
    let c = (keeping_in s past p).core in
    let laws = governed s valid in
    let b : BringsTo s past e p r = record { at = refl; below = lt; brings = is } in
    let to : r.to.0 ≡ p = brought_to s past e p r b run in
    let meant = brought_meant s past e p r valid b run in
    let out = brought_outstanding s past e p r b run.0 in
    let own = named s p r.from.0 r.body valid meant in
    let fresh = root_new s past p r r.body valid apt run.1 out refl meant in
    let timely : is_core_timely s c r.body ≡ true = laws.timely past e r run apt lt is in
    let near : decides_near s c.node r.body ≡ true = laws.near past e r run apt lt is in
    let made : can_make_at s p c r.body ≡ true =
    makes s past r p decided_once applied_where_decided valid apt run.1 lt out to own timely in
    rw (same_true r.to.0 p (sym to), belongs s p r.from.0 r.body meant, coordinator_suited s p r.from.0 r.body meant, own, fresh.new, fresh.unheld, timely, near, made) refl

pub next_apt : (s : ScriptData) (past : List Entry) (e : Entry) → IsValid s → AllApt s past → IsStepRun s (e ∷ past) → WasApt s past e
next_apt s past e valid apt run = λ lt.
    let r = brings_by s past e e.took.body valid apt run lt refl in
    ap (is_apt_brought s e.actor.0 (keeping_in s past e.actor.0)) r.1 ∙ apt_by s past e r.0 valid apt run lt r.1

-- in every run
pub all_apt : (s : ScriptData) (past : List Entry) → IsValid s → IsStepRun s past → AllApt s past
all_apt s [] valid run = tt
all_apt s (e ∷ past) valid run =
    let before = all_apt s past valid run.1 in
    (next_apt s past e valid before run, before)
