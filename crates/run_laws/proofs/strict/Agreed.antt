-- In runs of enabled messages, of every script: if a commit of a strict transaction is told to a node, each
-- subtransaction of the transaction there voted yes, and no decision on the transaction was applied.
use Rattle.std.proofs.Common.{◌≡◌, ℕ, ◌+◌, ◌<◌, ◌≤◌, ◌==◌, ◌&&◌, Bool, true, false, List, [], ◌∷◌, length, refl, sym, ap, subst, ◌∙◌, arith, Option, Some, None}
use Rattle.std.specs.Prelude.{if◌then◌else◌}
use Rattle.std.proofs.lemmas.Bool.Decides.{nat_tests}
use Rattle.tv_base.specs.declared.numbers.SubNo.{SubNo}
use Rattle.tv_base.specs.declared.numbers.TreeNo.{TreeNo}
use Rattle.tv_base.specs.declared.numbers.Version.{Version}
use Rattle.letter_types.specs.declared.acts.Act.{Act}
use Rattle.letter_types.specs.declared.acts.Act.TheVariants as acts
use Rattle.letter_types.specs.declared.bodies.Body.{Body}
use Rattle.letter_types.specs.declared.bodies.Body.TheVariants.{Root, Sub as SubLetter, Go, Decide, Release}
use Rattle.letter_types.specs.declared.entries.Entry.{Entry}
use Rattle.letter_types.specs.declared.entries.Letter.{Letter}
use Rattle.letter_types.specs.declared.votes.Vote.{Vote}
use Rattle.letter_types.specs.declared.votes.Vote.TheVariants.{Yes, No}
use Rattle.script_parts.specs.ScriptData.{ScriptData, home_of, node_of, subs_at, visits}
use Rattle.script_parts.specs.Valid.{IsValid}
use Rattle.script_parts.specs.declared.parts.TreeKind.{TreeKind}
use Rattle.script_parts.specs.declared.parts.TreeKind.TheVariants.{Update, Read, Strict}
use Rattle.world_model.specs.AllApt.{AllApt}
use Rattle.world_model.specs.Asked.{asked_ops, asked_version}
use Rattle.world_model.specs.Core.{Core}
use Rattle.world_model.specs.Counts.{one_if, tally}
use Rattle.world_model.specs.Named.{is_named, is_strict_at, tree_kind_at}
use Rattle.world_model.specs.Notices.{act_of}
use Rattle.world_model.specs.Runs.{IsStepRun, client_in, keeping_in}
use Rattle.world_model.specs.Strict.{notice_by}
use Rattle.world_model.specs.Votes.{vote_of}
use Rattle.world_model.proofs.Cases.{Case, Coordinates, NodeDoes, NodeKeeps, Submits, case, apt_named}
use Rattle.world_model.proofs.Outstanding.{IsOutstanding}
use Rattle.world_model.proofs.Scripts.{get_below}
use Rattle.world_model.proofs.Bags.{one_if_and}
use Rattle.board_rules.specs.Stands.{votes_yes}
use Rattle.tree_laws.specs.Applied.{applied_at, decided_as, decisions_to, noes, votes_no}
use Rattle.tree_laws.proofs.decided.AptVotes.{decided_by_votes}
use Rattle.tree_laws.specs.Stages.{StageAt, Answered, Gathers, Holds, Unborn}
use Rattle.tree_laws.specs.Turns.{has_turn, turns}
use Rattle.tree_laws.proofs.decided.AptApplied.{applied_where_decided}
use Rattle.tree_laws.proofs.decided.AptDecided.{Once, decided_any, once_in_run}
use Rattle.tree_laws.proofs.apt.AptMakes.{decision_waits}
use Rattle.tree_laws.proofs.decided.AptRulings.{client_acts}
use Rattle.tree_laws.proofs.stages.AptStagesRun.{stages_of_trees}
use Rattle.tree_laws.proofs.loads.NodeLoads.{strict_there}
use Rattle.run_laws.specs.VoteLocks.{yeses_at}
use Rattle.run_laws.proofs.act_order.RowActs.{asked_acts, is_lasting, keeping_lasts, lasting, lasting_acts, row_lasts, tally_lasting}

-- These numbers count acts that last alone.
pub turns_others : (t k : ℕ) (a : Act) → is_lasting a ≡ false → has_turn t k a ≡ 0
turns_others t k (acts.Did u j values) none = absurd (cc none)
turns_others t k (acts.Voted u j vote) none = absurd (cc none)
turns_others t k acts.Finished none = refl
turns_others t k _ none = refl

abbrev yes_one : ℕ → ℕ → Act → ℕ
yes_one t k a = one_if (votes_yes t k a)

yes_others : (t k : ℕ) (a : Act) → is_lasting a ≡ false → yes_one t k a ≡ 0
yes_others t k (acts.Voted u j vote) none = absurd (cc none)
yes_others t k acts.Finished none = refl
yes_others t k _ none = refl

no_others : (t : ℕ) (a : Act) → is_lasting a ≡ false → votes_no t a ≡ 0
no_others t (acts.Voted u j vote) none = absurd (cc none)
no_others t acts.Finished none = refl
no_others t _ none = refl

-- A turn of a subtransaction of a strict tree is a vote, at its node.
abbrev HasVoted : ScriptData → ℕ → ℕ → ℕ → List Act → Type 0
HasVoted s q t k xs =
    tally (has_turn t k) xs ≤ (if q == node_of s t k then tally (yes_one t k) xs else 0) + tally (votes_no t) xs

both : (u t j k : ℕ) → ((u == t) && (j == k)) ≡ true → (u ≡ t) × (j ≡ k)
both u t j k is = (grind (arith, nat_tests), grind (arith, nat_tests))

not_did : (s : ScriptData) (t u j k : ℕ) (test : Bool) → is_strict_at s t ≡ true → is_strict_at s u ≡ false → ((u == t) && (j == k)) ≡ test
    → one_if test ≡ 0
not_did s t u j k true strict plain is =
    let no_such : true ≡ false = sym strict ∙ ap (is_strict_at s) (sym (both u t j k is).0) ∙ plain in absurd (cc no_such)
not_did s t u j k false strict plain is = refl

yes_here : (s : ScriptData) (q t u j k : ℕ) (test : Bool) → node_of s u j ≡ q → ((u == t) && (j == k)) ≡ test
    → one_if test ≤ (if q == node_of s t k then one_if test else 0)
yes_here s q t u j k true node is =
    let parts = both u t j k is in
    let there : node_of s t k ≡ q =
    subst (λ (i : ℕ). node_of s t i ≡ q) parts.1 (subst (λ (n : ℕ). node_of s n j ≡ q) parts.0 node) in
    let here : (q == node_of s t k) ≡ true = grind (arith, nat_tests) in
    rw here (omega arith)
yes_here s q t u j k false node is = omega arith

tail_in : (test : Bool) (m : ℕ) → (if test then m + 0 else 0) ≡ (if test then m else 0)
tail_in true m = omega arith
tail_in false m = refl

vote_turn : (s : ScriptData) (q t k : ℕ) (u : TreeNo) (j : SubNo) (vote : Vote) → node_of s u.0 j.0 ≡ q
    → HasVoted s q t k (act_of u j (notice_by vote) ∷ [])
vote_turn s q t k u j (Yes values) node =
    omega (
      arith,
      yes_here s q t u.0 j.0 k ((u.0 == t) && (j.0 == k)) node refl,
      tail_in (q == node_of s t k) (one_if ((u.0 == t) && (j.0 == k))),
    )
vote_turn s q t k u j (No cause) node = omega (arith, one_if_and (u.0 == t) (j.0 == k))

asked_turn : (s : ScriptData) (c : Core) (q t k : ℕ) (u : TreeNo) (j : SubNo) (body : Body) (kind : Option TreeKind)
    → tree_kind_at s u.0 ≡ kind → is_strict_at s t ≡ true → node_of s u.0 j.0 ≡ q → HasVoted s q t k (asked_acts s c u j body kind)
asked_turn s c q t k u j body (Some Update) is strict node =
    let plain : is_strict_at s u.0 ≡ false = rw (is, is_strict_at) refl in
    omega (arith, not_did s t u.0 j.0 k ((u.0 == t) && (j.0 == k)) strict plain refl)
asked_turn s c q t k u j body (Some Read) is strict node =
    let plain : is_strict_at s u.0 ≡ false = rw (is, is_strict_at) refl in
    omega (arith, not_did s t u.0 j.0 k ((u.0 == t) && (j.0 == k)) strict plain refl)
asked_turn s c q t k u j body (Some Strict) is strict node =
    vote_turn s q t k u j (vote_of c.locks c.node.items u (asked_version c.node.turns.update body) (asked_ops s body)) node
asked_turn s c q t k u j body None is strict node = omega arith

row_turn : (s : ScriptData) (c : Core) (q from t k : ℕ) (body : Body) → is_strict_at s t ≡ true → is_named s q from body ≡ true
    → HasVoted s q t k (lasting_acts s c body)
row_turn s c q from t k (Root u) strict named =
    let node : home_of s u.0 ≡ q = grind (arith, nat_tests, named) in
    asked_turn s c q t k u (record { 0 = 0 }) (Root u) (tree_kind_at s u.0) refl strict node
row_turn s c q from t k (SubLetter u j v) strict named =
    let node : node_of s u.0 j.0 ≡ q = grind (arith, nat_tests, named) in
    asked_turn s c q t k u j (SubLetter u j v) (tree_kind_at s u.0) refl strict node
row_turn s c q from t k (Decide u v commit) strict named = omega arith
row_turn s c q from t k (Release u) strict named = omega arith
row_turn s c q from t k Go strict named = omega arith
row_turn s c q from t k _ strict named = omega arith

-- so of an entry
less_if : (test : Bool) (m n : ℕ) → m ≡ n → (if test then m else 0) ≡ (if test then n else 0)
less_if test m n same = ap (λ (i : ℕ). if test then i else 0) same

entry_turn : (s : ScriptData) (past : List Entry) (e : Entry) (t k : ℕ) → is_strict_at s t ≡ true → Case s past e
    → HasVoted s e.actor.0 t k e.acts
entry_turn s past e t k strict (NodeDoes q r d) =
    let c : Core = (keeping_in s past q).core in
    let lasts : lasting e.acts ≡ lasting_acts s c r.body = ap lasting d.acts ∙ row_lasts s q r.from.0 r.body c in
    let row : HasVoted s e.actor.0 t k (lasting e.acts) =
    subst (HasVoted s e.actor.0 t k) (sym lasts)
    (subst (λ (n : ℕ). HasVoted s n t k (lasting_acts s c r.body)) (sym d.brings.at)
    (row_turn s c q r.from.0 t k r.body strict (apt_named s q c r d.brings.apt))) in
    omega (
      arith,
      row,
      tally_lasting (has_turn t k) (turns_others t k) e.acts,
      tally_lasting (votes_no t) (no_others t) e.acts,
      less_if (e.actor.0 == node_of s t k) (tally (yes_one t k) e.acts) (tally (yes_one t k) (lasting e.acts))
          (tally_lasting (yes_one t k) (yes_others t k) e.acts),
    )
entry_turn s past e t k strict (NodeKeeps q r kept d) =
    let none : lasting e.acts ≡ [] = ap lasting d.acts ∙ keeping_lasts s (keeping_in s past q).core r.body kept d.keeps in
    omega (arith, tally_lasting (has_turn t k) (turns_others t k) e.acts, ap (λ (xs : List Act). tally (has_turn t k) xs) none)
entry_turn s past e t k strict (Coordinates at made) =
    omega (arith, ap (λ (xs : List Act). tally (has_turn t k) xs) made.acts)
entry_turn s past e t k strict (Submits at says) =
    omega (
      arith,
      ap (λ (xs : List Act). tally (has_turn t k) xs) says.1,
      client_acts (has_turn t k) s (client_in s past) e.took.body refl,
    )

pub turns_are_votes : (s : ScriptData) (past : List Entry) (t k : ℕ) → AllApt s past → IsStepRun s past → is_strict_at s t ≡ true
    → turns past t k ≤ yeses_at past t k (node_of s t k) + noes past t
turns_are_votes s [] t k apt run strict = omega arith
turns_are_votes s (e ∷ past) t k apt run strict =
    omega (arith, entry_turn s past e t k strict (case s past e run.0 apt.0), turns_are_votes s past t k apt.1 run.1 strict)

-- Each subtransaction of a tree that was decided on has had its turn.
turned_by : (s : ScriptData) (past : List Entry) (t k : ℕ) → k < length (subs_at s t) → 1 ≤ decided_any past t → Once s past t
    → StageAt s past t → turns past t k ≡ 1
turned_by s past t k lt some o (Unborn u) = absurd (omega (arith, some, o.unborn u.root))
turned_by s past t k lt some o (Gathers h g) = absurd (omega (arith, some, o.opened h g.home))
turned_by s past t k lt some o (Holds h g) = g.all.turned k lt
turned_by s past t k lt some o (Answered g) = g.all.turned k lt

-- What is known at a node where a commit is told.
pub record IsAgreed (s : ScriptData) (past : List Entry) (p t : ℕ) : Type 0 where
  pub none : applied_at past t true p + applied_at past t false p ≡ 0
  pub yeses : (k : ℕ) → k < length (subs_at s t) → node_of s t k ≡ p → 1 ≤ yeses_at past t k p

pub agreed : (s : ScriptData) (past : List Entry) (r : Letter) (p : ℕ) (t : TreeNo) (v : Version) → IsValid s → AllApt s past
    → IsStepRun s past → p < s.nodes → IsOutstanding s past r → r.to.0 ≡ p → r.body ≡ Decide t v true → is_strict_at s t.0 ≡ true
    → visits (subs_at s t.0) p ≡ true → IsAgreed s past p t.0
agreed s past r p t v valid apt run lt out to is strict visited =
    let there = get_below s.trees t.0 (strict_there s t.0 strict).tree (strict_there s t.0 strict).at in
    let once = once_in_run s past t.0 valid apt run there in
    let waits : 1 ≤ decisions_to s past t.0 true p = decision_waits s past r p t v out to is in
    let yes = applied_where_decided s past t.0 p true valid apt run there lt visited in
    let no = applied_where_decided s past t.0 p false valid apt run there lt visited in
    let some : 1 ≤ decided_as past t.0 true = omega (arith, waits, yes) in
    record {
      none = omega (arith, waits, yes, no, once.once);
      yeses = λ k less node.
          let turned = turned_by s past t.0 k less (omega (arith, some)) once (stages_of_trees s past valid apt run t.0 there) in
          subst (λ (q : ℕ). 1 ≤ yeses_at past t.0 k q) node
          (omega (arith, turned, turns_are_votes s past t.0 k apt run strict, (decided_by_votes s past t.0 valid apt run there).0 some));
    }
