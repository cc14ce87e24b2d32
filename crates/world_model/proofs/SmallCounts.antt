-- Whatever messages an actor takes: its counters are small while its entries are few, and a coordinator keeps its
-- number of nodes. No law of runs is needed.
use Rattle.std.proofs.Common.{◌≡◌, ℕ, ◌+◌, ◌*◌, ◌<◌, ◌≤◌, ◌==◌, Bool, true, false, List, [], ◌∷◌, length, reverse, refl, sym, ap, subst, arith, Option, Some, None}
use Rattle.std.specs.Prelude.{if◌then◌else◌, nat_lt}
use Rattle.std.proofs.lemmas.List.{length-reverse}
use Rattle.std.proofs.lemmas.List.Sums.{count_by-le-length, length-filter}
use Rattle.letter_types.specs.declared.entries.Entry.{Entry}
use Rattle.letter_types.specs.declared.entries.Letter.{Letter}
use Rattle.letter_types.specs.Kept.{brought}
use Rattle.letter_types.specs.Letters.{own}
use Rattle.letter_types.specs.Steps.{Out, still}
use Rattle.pair_counters.specs.Numbers.{AllBelow, Numbers}
use Rattle.script_parts.specs.ScriptData.{ScriptData}
use Rattle.script_parts.specs.Valid.{IsValid}
use Rattle.world_model.specs.Restarting.{start_restarting}
use Rattle.script_parts.specs.Counts.{is_lossy}
use Rattle.world_model.specs.Coordinator.{start_coordinator}
use Rattle.world_model.specs.Core.{Core}
use Rattle.world_model.specs.Keeping.{Aptness, KeepingNode, brought_row, is_apt_there, keeping_row, kept_row}
use Rattle.world_model.specs.Runs.{actor_in, after}
use Rattle.world_model.specs.Strict.{CoreKeeping, core_keeping, is_core_apt}
use Rattle.world_model.specs.Tables.{ActorData, NodeData, CoordinatorData, RestartingData, ClientData, actor_row, start_actor}
use Rattle.world_model.specs.Taking.{CountsBelow, MOST_COUNTED}
use Rattle.world_model.proofs.Back.{actor_leads}
use Rattle.world_model.proofs.CoreCounts.{Grew, core_grew, stays}
use Rattle.world_model.proofs.KeptThere.{IsCoreKeeping, OfKeeping, core_keeps}

-- what a node's row makes of its counters
abbrev RowGrew : KeepingNode → Out KeepingNode → Type 0
RowGrew n out = Grew n.core.node.counts out.state.core.node.counts

pick : (n : KeepingNode) (b : Bool) (x y : Out KeepingNode) → RowGrew n x → RowGrew n y → RowGrew n (if b then x else y)
pick n true x y l r = l
pick n false x y l r = r

same_grew : (old new : Numbers) → new ≡ old → Grew old new
same_grew old new is = subst (λ (k : Numbers). Grew old k) (sym is) (stays MOST_COUNTED old)

-- a letter that is kept counts nothing
kept_grew : (s : ScriptData) (p : ℕ) (l r : Letter) (n : KeepingNode) (found : Option CoreKeeping)
    → OfKeeping (IsCoreKeeping n.core r.body) found → IsValid s → RowGrew n (kept_row s p l r n found)
kept_grew s p l r n (Some k) so valid =
    same_grew n.core.node.counts k.state.node.counts (ap (λ (c : Core). c.node.counts) so.turns_alone)
kept_grew s p l r n None so valid = core_grew s p r.from.0 r.body n.core valid

brought_grew : (apt : Aptness) (s : ScriptData) (p : ℕ) (l : Letter) (n : KeepingNode) (found : Option Letter) → IsValid s
    → RowGrew n (brought_row apt s p l n found)
brought_grew apt s p l n None valid = stays MOST_COUNTED n.core.node.counts
brought_grew apt s p l n (Some r) valid =
    pick n (is_apt_there apt p n r) (kept_row s p l r n (core_keeping s n.core r.body)) (still n)
    (kept_grew s p l r n (core_keeping s n.core r.body) (core_keeps s n.core r.body) valid) (stays MOST_COUNTED n.core.node.counts)

node_grew : (s : ScriptData) (p : ℕ) (n : KeepingNode) (l : Letter) → IsValid s → RowGrew n (keeping_row s p n l)
node_grew s p n l valid = brought_grew (is_core_apt s p) s p l n (brought n.kept l l.body) valid

-- what an actor keeps: a node's numbers are below m
abbrev pub KeepsBelow : ScriptData → ℕ → ActorData → Type 0
KeepsBelow s m (NodeData n) = AllBelow m n.core.node.counts
KeepsBelow s m (CoordinatorData c) = Unit {0}
KeepsBelow s m (RestartingData c) = Unit {0}
KeepsBelow s m (ClientData c) = Unit {0}

below_grew : (m : ℕ) (old new : Numbers) → Grew old new → AllBelow m old → AllBelow (m + MOST_COUNTED) new
below_grew m old new grew below v q = (omega (arith, (grew v q).0, (below v q).0), omega (arith, (grew v q).1, (below v q).1))

-- one step
step_keeps : (s : ScriptData) (a m : ℕ) (d : ActorData) (l : Letter) → IsValid s → KeepsBelow s m d
    → KeepsBelow s (m + MOST_COUNTED) (actor_row s a d l).state
step_keeps s a m (NodeData n) l valid keeps =
    below_grew m n.core.node.counts (keeping_row s a n l).state.core.node.counts (node_grew s a n l valid) keeps
step_keeps s a m (CoordinatorData c) l valid keeps = tt
step_keeps s a m (RestartingData c) l valid keeps = tt
step_keeps s a m (ClientData c) l valid keeps = tt

steps_keep : (s : ScriptData) (a m : ℕ) (d : ActorData) (es : List Entry) → IsValid s → KeepsBelow s m d
    → KeepsBelow s (m + MOST_COUNTED * length es) (after (actor_row s a) d es)
steps_keep s a m d [] valid keeps = subst (λ (n : ℕ). KeepsBelow s n d) (omega arith) keeps
steps_keep s a m d (e ∷ es) valid keeps =
    subst (λ (n : ℕ). KeepsBelow s n (after (actor_row s a) (actor_row s a d e.took).state es)) (omega arith)
    (steps_keep s a (m + MOST_COUNTED) (actor_row s a d e.took).state es valid (step_keeps s a m d e.took valid keeps))

start_keeps_by : (s : ScriptData) (a : ℕ) (b c : Bool) → nat_lt a s.nodes ≡ b → (a == s.nodes) ≡ c → KeepsBelow s 1 (start_actor s a)
start_keeps_by s a true c is at = rw is (λ v q. (omega arith, omega arith))
start_keeps_by s a false true is at = rw (is, at) (by (is_lossy s)) where
  by : (loses : Bool)
      → KeepsBelow s 1 (if loses then RestartingData (start_restarting s.nodes) else CoordinatorData (start_coordinator s.nodes))
  by false = tt
  by true = tt
start_keeps_by s a false false is at = rw (is, at) tt

-- an actor after its entries
pub keeps : (s : ScriptData) (a : ℕ) (es : List Entry) → IsValid s
    → KeepsBelow s (1 + MOST_COUNTED * length es) (after (actor_row s a) (start_actor s a) es)
keeps s a es valid = steps_keep s a 1 (start_actor s a) es valid (start_keeps_by s a (nat_lt a s.nodes) (a == s.nodes) refl refl)

counts_below : (s : ScriptData) (m n : ℕ) (d : ActorData) → m ≤ n → KeepsBelow s m d → CountsBelow n d
counts_below s m n (NodeData k) le below = λ v q. (omega (arith, (below v q).0), omega (arith, (below v q).1))
counts_below s m n (CoordinatorData c) le below = tt
counts_below s m n (RestartingData c) le below = tt
counts_below s m n (ClientData c) le below = tt

-- what it counts is small while its entries are few
pub few_counted : (s : ScriptData) (a n : ℕ) (es : List Entry) (d : ActorData) → IsValid s
    → d ≡ after (actor_row s a) (start_actor s a) es → 1 + MOST_COUNTED * length es ≤ n → CountsBelow n d
few_counted s a n es d valid is le =
    subst (λ (x : ActorData). CountsBelow n x) (sym is)
    (counts_below s (1 + MOST_COUNTED * length es) n (after (actor_row s a) (start_actor s a) es) le (keeps s a es valid))

own_few : (past : List Entry) (a : ℕ) → length (own a (reverse past)) ≤ length past
own_few past a =
    let p = λ (e : Entry). e.actor.0 == a in
    omega (arith, length-filter p (reverse past), count_by-le-length p (reverse past), length-reverse past)

-- the same after a past
pub small_counts : (s : ScriptData) (past : List Entry) (a m : ℕ) → IsValid s → a < s.nodes + 2
    → MOST_COUNTED * length past + 1 ≤ m → CountsBelow m (actor_in s past a)
small_counts s past a m valid lt le =
    few_counted s a m (own a (reverse past)) (actor_in s past a) valid (actor_leads s past a lt) (omega (arith, own_few past a, le))
