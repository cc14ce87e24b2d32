-- A message that is no order and no question of a coordinator that forgets leaves its node in the epoch in which it is.
use Rattle.std.proofs.Common.{◌≡◌, ℕ, Bool, true, false, List, ◌∷◌, refl, Option, Some, None, arith}
use Rattle.letter_types.specs.declared.bodies.Body.{Body}
use Rattle.letter_types.specs.declared.bodies.Body.TheVariants.{Ask, Order}
use Rattle.letter_types.specs.declared.entries.Entry.{Entry}
use Rattle.letter_types.specs.declared.entries.Letter.{Letter}
use Rattle.letter_types.specs.Kept.{brought}
use Rattle.tx_trees.specs.ScriptData.{ScriptData}
use Rattle.world_model.specs.Keeping.{KeepingNode, brought_row, is_apt_at, kept_row}
use Rattle.world_model.specs.Runs.{keeping_in}
use Rattle.world_model.specs.Strict.{CoreKeeping, core_keeping, is_core_apt}
use Rattle.world_model.proofs.EachOutstanding.{EachKept, each_brought}
use Rattle.world_model.proofs.Every.{each_map}
use Rattle.advance_laws.proofs.governed.Brought.{kept_ask}

-- neither an order nor a question
abbrev pub IsOfNoEpoch : Body → Type 0
IsOfNoEpoch (Order e what v) = ⊥
IsOfNoEpoch (Ask e) = ⊥
IsOfNoEpoch _ = Unit {0}

-- A letter that is brought, which may be kept.
kept_stays : (s : ScriptData) (p : ℕ) (l r : Letter) (n : KeepingNode) (o : Option CoreKeeping)
    → core_keeping s n.core r.body ≡ o
    → IsOfNoEpoch r.body → (kept_row s p l r n o).state.core.epoch ≡ n.core.epoch
kept_stays s p l r n o is none = grind arith

apt_stays : (s : ScriptData) (p : ℕ) (l r : Letter) (n : KeepingNode) (test : Bool) → is_apt_at s p n r ≡ test
    → IsOfNoEpoch r.body
    → (brought_row (is_core_apt s p) s p l n (Some r)).state.core.epoch ≡ n.core.epoch
apt_stays s p l r n true is none = rw is (kept_stays s p l r n (core_keeping s n.core r.body) refl none)
apt_stays s p l r n false is none = rw is refl

brought_stays : (s : ScriptData) (p : ℕ) (l : Letter) (n : KeepingNode) (o : Option Letter) → brought n.kept l l.body ≡ o
    → EachKept (λ (r : Letter). IsOfNoEpoch r.body) n.kept → IsOfNoEpoch l.body
    → (brought_row (is_core_apt s p) s p l n o).state.core.epoch ≡ n.core.epoch
brought_stays s p l n None is kept none = refl
brought_stays s p l n (Some r) is kept none =
    apt_stays s p l r n (is_apt_at s p n r) refl (each_brought (λ (x : Letter). IsOfNoEpoch x.body) n.kept l r l.body kept none is)

-- so is an entry
pub epoch_stays : (s : ScriptData) (past : List Entry) (e : Entry) (p : ℕ) → e.actor.0 ≡ p → IsOfNoEpoch e.took.body
    → (keeping_in s (e ∷ past) p).core.epoch ≡ (keeping_in s past p).core.epoch
epoch_stays s past e p at none = grind (arith, brought_stays, each_map, kept_ask)
