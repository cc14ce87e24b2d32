-- Locks are looked for before the act, worth is asked for before its entry: both say the same, since what the entry did
-- before the vote is quiet.
use Rattle.std.proofs.Common.{◌≡◌, inl, inr, ℕ, ◌<◌, ◌≤◌, true, List, sym, ap, ◌∙◌, take, take-take}
use Rattle.script_parts.specs.ScriptData.{ScriptData}
use Rattle.script_parts.specs.Valid.{IsValid}
use Rattle.board_rules.specs.Histories.{Place}
use Rattle.board_rules.specs.Worth.{worth_in}
use Rattle.board_rules.proofs.ClosedWorth.{made_is_worth}
use Rattle.board_rules.proofs.Effects.{made_in}
use Rattle.board_rules.proofs.InOrder.{EffectAt, any_applied}
use Rattle.board_rules.proofs.Rules.{FollowsRules, IsItemAt}
use Rattle.board_rules.proofs.Stays.{IsStill, effect_taken, made_stays}
use Rattle.board_rules.proofs.Votes.{AreQuiet, MeetsNone, applied_early_on, closed_at_entry, did_early_on, rules_before}

-- nothing changes an item in what is quiet
effect_early_on : (s : ScriptData) (zs : List Place) (p m a i : ℕ) (q : ℕ × ℕ) → AreQuiet zs m a → EffectAt s zs p q i → i < a → i < m
effect_early_on s zs p m a i q quiet (inl d) lt = did_early_on zs m a i p q.0 q.1 quiet d.at lt
effect_early_on s zs p m a i q quiet (inr b) lt = applied_early_on zs m a i p q.0 quiet (any_applied zs i p q.0 true b.at) lt

pub still_at_entry : (s : ScriptData) (zs : List Place) (p x v m a : ℕ) → AreQuiet zs m a → IsStill s (take a zs) p x v m
still_at_entry s zs p x v m a quiet q i takes touch =
    let h = effect_taken s zs p a i q takes.effect in effect_early_on s zs p m a i q quiet h.1 h.0

-- what the node has made of the item before the vote is what the item is worth before the entry
pub vote_sees_worth_before : (s : ScriptData) (zs : List Place) (p x k n a m v : ℕ) → m ≤ a → AreQuiet zs m a → IsValid s
    → FollowsRules s zs → IsItemAt s p x → MeetsNone s zs p x k n a → made_in s (take a zs) p x v ≡ worth_in s (take m zs) x v
vote_sees_worth_before s zs p x k n a m v le quiet valid rules item o =
    sym (made_stays s (take a zs) p x v m (rules_before s zs a rules).acts item (still_at_entry s zs p x v m a quiet))
    ∙ ap (λ xs. made_in s xs p x v) (take-take m a zs le)
    ∙ made_is_worth s (take m zs) p x v valid (rules_before s zs m rules) item (closed_at_entry s zs p x k n a m v le quiet rules.acts item o)
