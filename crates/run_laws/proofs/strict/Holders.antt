-- In every run a transaction that holds an item against marks is strict, had a turn there, and its decision wasn't
-- applied there.
use Rattle.std.proofs.Common.{◌≡◌, ◌≢◌, ◌⊎◌, inl, inr, ℕ, ◌+◌, ◌<◌, ◌≤◌, ◌==◌, ◌&&◌, Bool, true, false, not, List, [], ◌∷◌, length, refl, sym, ap, subst, ◌∙◌, arith}
use Rattle.std.specs.Prelude.{if◌then◌else◌}
use Rattle.std.proofs.lemmas.Bool.{cases_eq}
use Rattle.std.proofs.lemmas.Bool.Decides.{nat_tests}
use Rattle.tv_base.specs.declared.numbers.SubNo.{SubNo}
use Rattle.tv_base.specs.declared.numbers.TreeNo.{TreeNo}
use Rattle.script_parts.proofs.SubsOf.{has_root}
use Rattle.letter_types.specs.declared.acts.Act.{Act}
use Rattle.letter_types.specs.declared.bodies.Body.{Body}
use Rattle.letter_types.specs.declared.bodies.Body.TheVariants.{Go, Root, Sub as SubLetter, Decide}
use Rattle.letter_types.specs.declared.entries.Entry.{Entry}
use Rattle.letter_types.specs.declared.entries.Letter.{Letter}
use Rattle.letter_types.specs.Steps.{Out}
use Rattle.tx_trees.specs.ScriptData.{ScriptData, node_of, subs_at, visits}
use Rattle.tx_trees.specs.Valid.{IsValid}
use Rattle.world_model.specs.AllApt.{AllApt}
use Rattle.world_model.specs.Core.{Core}
use Rattle.world_model.specs.Counts.{one_if, tally}
use Rattle.world_model.specs.Keeping.{AsksFor, KeepingNode}
use Rattle.world_model.specs.Named.{is_strict_at}
use Rattle.world_model.specs.Runs.{IsStepRun, keeping_in}
use Rattle.world_model.specs.Strict.{CoreKeeping, core_row}
use Rattle.world_model.proofs.Cases.{Case, Coordinates, Does, Keeps, NodeDoes, NodeKeeps, Submits, case}
use Rattle.world_model.proofs.KeptThere.{IsCoreKeeping, OfKeeping, core_keeps}
use Rattle.world_model.proofs.Outstanding.{keeping_elsewhere}
use Rattle.world_model.proofs.Scripts.{SubAt, sub_below, sub_there, tree_below}
use Rattle.world_model.proofs.Bags.{one_if_both}
use Rattle.world_model.specs.Meant.{IsMeant}
use Rattle.tree_laws.specs.Keeping.{Holds}
use Rattle.tree_laws.proofs.conflicts.Holding.{Came, HeldFrom, LetsGo, Stood, row_comes, same_holds}
use Rattle.advance_laws.proofs.governed.Brought.{brought_meant}
use Rattle.advance_laws.proofs.phases.Progress.{brings_to}
use Rattle.tree_laws.specs.Applied.{applied_at, applies_as, tells_decision}
use Rattle.tree_laws.specs.Dids.{asks, letters_asking}
use Rattle.tree_laws.specs.Stages.{StageAt, Answered, Gathers, Holds as HoldsAnswer, Unborn}
use Rattle.tree_laws.specs.Turns.{turns}
use Rattle.tree_laws.proofs.decided.AptApplied.{applied_tells, applied_where_decided, applies_of, ruled_applies}
use Rattle.tree_laws.proofs.decided.AptDecided.{Once, decided_any, once_in_run}
use Rattle.tree_laws.proofs.apt.AptMakes.{node_visited}
use Rattle.tree_laws.proofs.decided.AptRulings.{RowRules, core_rules, keeping_acts, rulings_no_keeping}
use Rattle.tree_laws.proofs.stages.AptStagesOwn.{Doing, asked, turned_here}
use Rattle.tree_laws.proofs.stages.AptStagesRun.{stages_of_trees}
use Rattle.tree_laws.proofs.apt.AptSteps.{enters}
use Rattle.tree_laws.proofs.apt.AptTurns.{no_turn_yet, turns_below_root}
use Rattle.run_laws.specs.Waiting.{IsHolder}

-- how often what was decided of tree t was applied at node p
abbrev pub applied_any : List Entry → ℕ → ℕ → ℕ
applied_any past t p = applied_at past t true p + applied_at past t false p

abbrev pub applies_any : ℕ → List Act → ℕ
applies_any t does = tally (applies_as t true) does + tally (applies_as t false) does

abbrev pub HoldersAt : ScriptData → List Entry → ℕ → Core → Type 0
HoldersAt s past p c = (t : TreeNo) → Holds c t → IsHolder s past p t.0

-- What an entry applies.
pub still_unapplied : (past : List Entry) (e : Entry) (t p : ℕ) → applies_any t e.acts ≡ 0 → applied_any (e ∷ past) t p ≡ applied_any past t p
still_unapplied past e t p none = by (e.actor.0 == p) where
  by : (here : Bool)
      → ((if here then tally (applies_as t true) e.acts else 0) + applied_at past t true p)
      + ((if here then tally (applies_as t false) e.acts else 0) + applied_at past t false p)
      ≡ applied_any past t p
  by true = omega (arith, none)
  by false = omega arith

pub elsewhere_unapplied : (past : List Entry) (e : Entry) (t p : ℕ) → e.actor.0 ≢ p → applied_any (e ∷ past) t p ≡ applied_any past t p
elsewhere_unapplied past e t p ne = let other : (e.actor.0 == p) ≡ false = grind (arith, nat_tests) in rw other (omega arith)

goes_on : (s : ScriptData) (past : List Entry) (e : Entry) (p t : ℕ) → applied_any (e ∷ past) t p ≡ applied_any past t p
    → IsHolder s past p t → IsHolder s (e ∷ past) p t
goes_on s past e p t same h = record {
  strict = h.strict;
  visits = h.visits;
  born = omega (arith, h.born);
  turned = (h.turned.0, (h.turned.1.0, omega (arith, h.turned.1.1)));
  unapplied = same ∙ h.unapplied;
}

pub does_apply : (s : ScriptData) (past : List Entry) (e : Entry) (p : ℕ) (r : Letter) (t : ℕ) (b : Bool) → Does s past e p r
    → tally (applies_as t b) e.acts ≡ tells_decision t b r.body
does_apply s past e p r t b d =
    let c : Core = (keeping_in s past p).core in
    let row : Out Core = core_row s p c r.from.0 r.body in
    let rules : RowRules s c r.body row = core_rules s p r.from.0 r.body c in
    omega (
      arith,
      ap (λ (xs : List Act). tally (applies_as t b) xs) d.acts,
      rules.acts (applies_as t b) (applies_of t b),
      ruled_applies t b row.state.refusals rules.found,
      applied_tells t b r.body,
    )

pub keeps_apply : (s : ScriptData) (past : List Entry) (e : Entry) (p : ℕ) (r : Letter) (k : CoreKeeping) (t : ℕ) (b : Bool) → Keeps s past e p r k
    → tally (applies_as t b) e.acts ≡ 0
keeps_apply s past e p r k t b d =
    ap (λ (xs : List Act). tally (applies_as t b) xs) d.acts
    ∙ keeping_acts (applies_as t b) s (keeping_in s past p).core r.body k (rulings_no_keeping (applies_as t b) (applies_of t b)) d.keeps

-- a letter that doesn't let tree t go tells nothing that was decided of it
other_decision : (a b : Bool) → a ≡ false → one_if (a && b) + one_if (a && not b) ≡ 0
other_decision true b is = absurd (cc is)
other_decision false b is = refl

tells_none : (t : TreeNo) (body : Body) → (LetsGo t body → ⊥) → tells_decision t.0 true body + tells_decision t.0 false body ≡ 0
tells_none t (Decide u v commit) keeps =
    let other : (u.0 == t.0) ≡ false = grind (arith, nat_tests) in
    other_decision (u.0 == t.0) commit other
tells_none t Go keeps = refl
tells_none t _ keeps = refl

asks_none : (t : ℕ) (body : Body) (u : TreeNo) (j : SubNo) → AsksFor u j body → tells_decision t true body + tells_decision t false body ≡ 0
asks_none t (Root w) u j is = refl
asks_none t (SubLetter w i v) u j is = refl
asks_none t _ u j is = absurd is

-- A subtransaction that is asked for.
pub record IsAsked (s : ScriptData) (p t k : ℕ) (body : Body) : Type 0 where
  pub sub : SubAt s t k
  pub node : p ≡ node_of s t k
  pub one : asks t k body ≡ 1

pub asked_sub : (s : ScriptData) (p from : ℕ) (t : TreeNo) (k : SubNo) (b : Body) → IsValid s → IsMeant s from p b → AsksFor t k b
    → IsAsked s p t.0 k.0 b
asked_sub s p from t k (Root u) valid meant is =
    let same : u.0 ≡ t.0 = ap (λ (x : TreeNo). x.0) is.0 in
    subst (λ (n : ℕ). IsAsked s p n k.0 (Root u)) same (subst (λ (j : ℕ). IsAsked s p u.0 j (Root u)) (sym is.1)
    (record { sub = sub_there s u.0 0 meant.tree (has_root s u.0 valid meant.tree); node = meant.home; one = one_if_both u.0 0 }))
asked_sub s p from t k (SubLetter u j v) valid meant is =
    let same : u.0 ≡ t.0 = ap (λ (x : TreeNo). x.0) is.0 in
    let its : j.0 ≡ k.0 = ap (λ (x : SubNo). x.0) is.1 in
    subst (λ (n : ℕ). IsAsked s p n k.0 (SubLetter u j v)) same (subst (λ (i : ℕ). IsAsked s p u.0 i (SubLetter u j v)) its
    (record { sub = sub_there s u.0 j.0 meant.tree meant.sub; node = meant.node; one = one_if_both u.0 j.0 }))
asked_sub s p from t k _ valid meant is = absurd is

-- a tree one of whose subtransactions hasn't had its turn isn't decided on
undecided : (s : ScriptData) (past : List Entry) (t k : ℕ) → k < length (subs_at s t) → Once s past t → turns past t k ≡ 0 → StageAt s past t
    → decided_any past t ≡ 0
undecided s past t k lt once none (Unborn u) = once.unborn u.root
undecided s past t k lt once none (Gathers h g) = once.opened h g.home
undecided s past t k lt once none (HoldsAnswer h g) = absurd (omega (arith, none, g.all.turned k lt))
undecided s past t k lt once none (Answered a) = absurd (omega (arith, none, a.all.turned k lt))

unapplied_yet : (s : ScriptData) (past : List Entry) (p t k : ℕ) (c : SubAt s t k) → IsValid s → AllApt s past → IsStepRun s past → p < s.nodes
    → visits (subs_at s t) p ≡ true → 1 ≤ letters_asking s past t k → applied_any past t p ≡ 0
unapplied_yet s past p t k c valid apt run lt visited some =
    let tree = tree_below s t k c in
    omega (
      arith,
      undecided s past t k (sub_below s t k c) (once_in_run s past t valid apt run tree) (no_turn_yet s past t k c valid apt run some)
          (stages_of_trees s past valid apt run t tree),
      applied_where_decided s past t p true valid apt run tree lt visited,
      applied_where_decided s past t p false valid apt run tree lt visited,
    )

-- A tree that comes to hold: its subtransaction has its turn.
came : (s : ScriptData) (past : List Entry) (e : Entry) (p t k : ℕ) (r : Letter) → Doing s past e p r → is_strict_at s t ≡ true
    → IsAsked s p t k r.body → applies_any t e.acts ≡ 0 → IsHolder s (e ∷ past) p t
came s past e p t k r g strict a none =
    let visited : visits (subs_at s t) p ≡ true = subst (λ (q : ℕ). visits (subs_at s t) q ≡ true) (sym a.node) (node_visited s t k a.sub) in
    record {
      strict = strict;
      visits = visited;
      born = omega (arith, turned_here s past e p t k r g, a.one, turns_below_root s (e ∷ past) t k a.sub g.valid g.apt g.run);
      turned = (k, (sym a.node, omega (arith, turned_here s past e p t k r g, a.one)));
      unapplied = still_unapplied past e t p none
          ∙ unapplied_yet s past p t k a.sub g.valid g.apt.1 g.run.1 g.does.brings.below visited (asked s past e p t k r g a.one);
    }

does_holders : (s : ScriptData) (past : List Entry) (e : Entry) (p : ℕ) (r : Letter) → Doing s past e p r
    → HoldersAt s past p (keeping_in s past p).core → HoldersAt s (e ∷ past) p (keeping_in s (e ∷ past) p).core
does_holders s past e p r g old = λ t h.
    let c : Core = (keeping_in s past p).core in
    by t (row_comes s p r.from.0 r.body c t (same_holds (keeping_in s (e ∷ past) p).core (core_row s p c r.from.0 r.body).state t
    (ap (λ (x : Core). x.locks) (sym g.does.core)) h)) where
      applies : (t : ℕ) → tells_decision t true r.body + tells_decision t false r.body ≡ 0 → applies_any t e.acts ≡ 0
      applies t none = omega (arith, none, does_apply s past e p r t true g.does, does_apply s past e p r t false g.does)

      by : (t : TreeNo) → HeldFrom s (keeping_in s past p).core r.body t → IsHolder s (e ∷ past) p t.0
      by t (Stood h keeps) = goes_on s past e p t.0 (still_unapplied past e t.0 p (applies t.0 (tells_none t r.body keeps))) (old t h)
      by t (Came k strict asks) =
          let meant = brought_meant s past e p r g.valid (brings_to s past e p r g.does.brings) g.run in
          came s past e p t.0 k.0 r g strict (asked_sub s p r.from.0 t k r.body g.valid meant asks) (applies t.0 (asks_none t.0 r.body t k asks))

keeps_holders : (s : ScriptData) (past : List Entry) (e : Entry) (p : ℕ) (r : Letter) (k : CoreKeeping) → Keeps s past e p r k
    → HoldersAt s past p (keeping_in s past p).core → HoldersAt s (e ∷ past) p (keeping_in s (e ∷ past) p).core
keeps_holders s past e p r k d old = λ t h.
    let c : Core = (keeping_in s past p).core in
    let so : IsCoreKeeping c r.body k = subst (OfKeeping (IsCoreKeeping c r.body)) d.keeps (core_keeps s c r.body) in
    goes_on s past e p t.0
    (still_unapplied past e t.0 p (omega (arith, keeps_apply s past e p r k t.0 true d, keeps_apply s past e p r k t.0 false d)))
    (old t (same_holds (keeping_in s (e ∷ past) p).core c t (sym (ap (λ (x : Core). x.locks) (d.core ∙ so.turns_alone))) h))

other_holders : (s : ScriptData) (past : List Entry) (e : Entry) (p : ℕ) → e.actor.0 ≢ p
    → HoldersAt s past p (keeping_in s past p).core → HoldersAt s (e ∷ past) p (keeping_in s (e ∷ past) p).core
other_holders s past e p ne old =
    subst (λ (n : KeepingNode). HoldersAt s (e ∷ past) p n.core) (sym (keeping_elsewhere s past e p ne)) (λ t h.
    goes_on s past e p t.0 (elsewhere_unapplied past e t.0 p ne) (old t h))

node_holders : (s : ScriptData) (past : List Entry) (e : Entry) (p : ℕ) → IsValid s → AllApt s (e ∷ past) → IsStepRun s (e ∷ past)
    → p < s.nodes → e.actor.0 ≡ p → HoldersAt s past p (keeping_in s past p).core → Case s past e
    → HoldersAt s (e ∷ past) p (keeping_in s (e ∷ past) p).core
node_holders s past e p valid apt run lt at old (NodeDoes q r d) =
    let same : q ≡ p = sym d.brings.at ∙ at in
    does_holders s past e p r
    (record { valid = valid; apt = apt; run = run; enters = enters s past e valid apt run; does = subst (λ (n : ℕ). Does s past e n r) same d }) old
node_holders s past e p valid apt run lt at old (NodeKeeps q r k d) =
    let same : q ≡ p = sym d.brings.at ∙ at in keeps_holders s past e p r k (subst (λ (n : ℕ). Keeps s past e n r k) same d) old
node_holders s past e p valid apt run lt at old (Coordinates there says) = absurd (omega (arith, at, there, lt))
node_holders s past e p valid apt run lt at old (Submits there says) = absurd (omega (arith, at, there, lt))

holders_by : (s : ScriptData) (past : List Entry) (e : Entry) (p : ℕ) → IsValid s → AllApt s (e ∷ past) → IsStepRun s (e ∷ past)
    → p < s.nodes → HoldersAt s past p (keeping_in s past p).core → (e.actor.0 ≡ p) ⊎ (e.actor.0 ≢ p)
    → HoldersAt s (e ∷ past) p (keeping_in s (e ∷ past) p).core
holders_by s past e p valid apt run lt old (inl at) = node_holders s past e p valid apt run lt at old (case s past e run.0 apt.0)
holders_by s past e p valid apt run lt old (inr ne) = other_holders s past e p ne old

-- in every run
pub holders : (s : ScriptData) (past : List Entry) (p : ℕ) → IsValid s → AllApt s past → IsStepRun s past → p < s.nodes
    → HoldersAt s past p (keeping_in s past p).core
holders s [] p valid apt run lt = λ t h. let none = h.there in absurd (cc none)
holders s (e ∷ past) p valid apt run lt =
    holders_by s past e p valid apt run lt (holders s past p valid apt.1 run.1 lt) (cases_eq e.actor.0 p)
