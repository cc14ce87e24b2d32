-- A node as its core, which does what messages ask for, and the messages that it defers: a message that can't be done
-- yet stays with its addressee, until a Wake calls it.
use Rattle.std.specs.Prelude.{if◌then◌else◌, ℕ, Bool, false, ◌==◌, ◌&&◌, ◌≡◌, List, [], ◌∷◌, ◌++◌, Option, Some, None}
use Rattle.std.specs.List.{AllByRecursion}
use Rattle.tv_base.specs.declared.numbers.SubNo.{SubNo}
use Rattle.tv_base.specs.declared.numbers.TreeNo.{TreeNo}
use Rattle.letter_types.specs.declared.bodies.Body.{Body}
use Rattle.letter_types.specs.declared.bodies.Body.TheVariants.{Root, Sub as SubLetter, Order}
use Rattle.letter_types.specs.declared.entries.Letter.{Letter}
use Rattle.letter_types.specs.declared.kept.KeptLetter.{KeptLetter}
use Rattle.letter_types.specs.Kept.{brought, kept_without, wakes, wakes_by, with_called}
use Rattle.letter_types.specs.Steps.{Out, still}
use Rattle.script_parts.specs.ScriptData.{ScriptData}
use Rattle.world_model.specs.Core.{Core, start_core}
use Rattle.letter_types.specs.declared.kept.KeepReason.{KeepReason}
use Rattle.world_model.specs.Epochs.{plain_order, is_obeyed_now}
use Rattle.world_model.specs.Strict.{CoreKeeping, core_keeping, core_row, is_core_apt, is_widely_core_apt}

-- the deferred messages are in the order in which it deferred them
pub record KeepingNode : Type 0 where
  pub core : Core
  pub kept : List KeptLetter

abbrev pub start_keeping : ScriptData → ℕ → KeepingNode
start_keeping s p = record { core = start_core s p; kept = [] }

-- which messages are enabled at a core
abbrev pub Aptness : Type 0
Aptness = Core → Letter → Bool

-- a message is enabled at node p: it is addressed to it, and enabled for its core
abbrev pub is_apt_there : Aptness → ℕ → KeepingNode → Letter → Bool
is_apt_there apt p n r = (r.to.0 == p) && apt n.core r

abbrev pub is_apt_at : ScriptData → ℕ → KeepingNode → Letter → Bool
is_apt_at s p n r = is_apt_there (is_core_apt s p) p n r

-- a message was brought, and is enabled there
abbrev pub is_apt_brought : ScriptData → ℕ → KeepingNode → Option Letter → Bool
is_apt_brought s p n None = false
is_apt_brought s p n (Some r) = is_apt_at s p n r

-- what a message wakes at a core: an order of a coordinator that forgets wakes what the order wakes for which it
-- stands, if it takes effect, and else nothing
abbrev pub woken_by : Core → Body → KeepReason → Bool
woken_by c (Order e what v) w = is_obeyed_now e what v c && wakes_by (plain_order what v) w
woken_by c body w = wakes_by body w

-- message l came and brought message r, which is enabled: it is deferred, or its row is made and what waited for it is
-- woken
abbrev pub kept_row : ScriptData → ℕ → Letter → Letter → KeepingNode → Option CoreKeeping → Out KeepingNode
kept_row s p l r n (Some k) = record {
  state = record {
    core = k.state;
    kept = kept_without n.kept l.body ++ record { letter = r; tree = k.tree; sub = k.sub; why = k.why } ∷ [];
  };
  sent = [];
  acts = k.acts;
}
kept_row s p l r n None = record {
  state = record {
    core = (core_row s p n.core r.from.0 r.body).state;
    kept = with_called (woken_by n.core r.body) (kept_without n.kept l.body);
  };
  sent = (core_row s p n.core r.from.0 r.body).sent ++ wakes (woken_by n.core r.body) (kept_without n.kept l.body);
  acts = (core_row s p n.core r.from.0 r.body).acts;
}

-- the same if it may not be enabled, or a Wake calls no message: then nothing comes of it, and what is deferred stays
abbrev pub brought_row : Aptness → ScriptData → ℕ → Letter → KeepingNode → Option Letter → Out KeepingNode
brought_row apt s p l n None = still n
brought_row apt s p l n (Some r) =
    if is_apt_there apt p n r then kept_row s p l r n (core_keeping s n.core r.body) else still n

-- what node p does with a message
abbrev pub keeping_row : ScriptData → ℕ → KeepingNode → Letter → Out KeepingNode
keeping_row s p n l = brought_row (is_core_apt s p) s p l n (brought n.kept l l.body)

-- the same of a node that keeps versions without end
abbrev pub wide_keeping_row : ScriptData → ℕ → KeepingNode → Letter → Out KeepingNode
wide_keeping_row s p n l = brought_row (is_widely_core_apt s p) s p l n (brought n.kept l l.body)

-- a message of this body asks for subtransaction k of transaction t
abbrev pub AsksFor : TreeNo → SubNo → Body → Type 0
AsksFor t k (Root u) = (u ≡ t) × (k.0 ≡ 0)
AsksFor t k (SubLetter u j v) = (u ≡ t) × (j ≡ k)
AsksFor t k _ = ⊥

-- a message that node p may defer is addressed to it, and is deferred as what it asks for
pub record IsKeptAt (p : ℕ) (x : KeptLetter) : Type 0 where
  pub to : x.letter.to.0 ≡ p
  pub asks : AsksFor x.tree x.sub x.letter.body

-- all that it keeps
abbrev pub AreKeptAt : ℕ → List KeptLetter → Type 0
AreKeptAt p kept = AllByRecursion (IsKeptAt p) kept
