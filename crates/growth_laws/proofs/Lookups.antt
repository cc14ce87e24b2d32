-- What is found of a transaction that the script had before it grew is the same after.
use Rattle.std.proofs.Common.{◌≡◌, ℕ, ◌<◌, List, length, refl, ap}
use Rattle.std.specs.Prelude.{slice_get}
use Rattle.tv_base.proofs.ByPlace.{slice_get-old}
use Rattle.script_parts.specs.ScriptData.{ScriptData, home_of, node_of, ops_of, subs_at, updates, visited, visited_by}
use Rattle.script_parts.specs.declared.parts.Sub.{Sub}
use Rattle.world_model.specs.Named.{is_strict_at, tree_kind_at}
use Rattle.growth_laws.proofs.More.{More, with_more}

pub found : (s : ScriptData) (m : More s) (t : ℕ) → t < length s.trees → slice_get (with_more s m).trees t ≡ slice_get s.trees t
found s m t lt = slice_get-old s.trees m.trees t lt

pub subs_same : (s : ScriptData) (m : More s) (t : ℕ) → t < length s.trees → subs_at (with_more s m) t ≡ subs_at s t
subs_same s m t lt = rw (found s m t lt, subs_at) refl

pub kind_same : (s : ScriptData) (m : More s) (t : ℕ) → t < length s.trees → tree_kind_at (with_more s m) t ≡ tree_kind_at s t
kind_same s m t lt = rw (found s m t lt, tree_kind_at) refl

pub updates_same : (s : ScriptData) (m : More s) (t : ℕ) → t < length s.trees → updates (with_more s m) t ≡ updates s t
updates_same s m t lt = rw (found s m t lt, updates) refl

pub strict_same : (s : ScriptData) (m : More s) (t : ℕ) → t < length s.trees → is_strict_at (with_more s m) t ≡ is_strict_at s t
strict_same s m t lt = rw (kind_same s m t lt, is_strict_at) refl

pub node_same : (s : ScriptData) (m : More s) (t k : ℕ) → t < length s.trees → node_of (with_more s m) t k ≡ node_of s t k
node_same s m t k lt = rw (subs_same s m t lt, node_of) refl

pub home_same : (s : ScriptData) (m : More s) (t : ℕ) → t < length s.trees → home_of (with_more s m) t ≡ home_of s t
home_same s m t lt = node_same s m t 0 lt

pub ops_same : (s : ScriptData) (m : More s) (t k : ℕ) → t < length s.trees → ops_of (with_more s m) t k ≡ ops_of s t k
ops_same s m t k lt = rw (subs_same s m t lt, ops_of) refl

pub visited_same : (s : ScriptData) (m : More s) (t : ℕ) → t < length s.trees → visited_by (with_more s m) t ≡ visited_by s t
visited_same s m t lt = ap (λ (xs : List Sub). visited xs s.nodes) (subs_same s m t lt)
