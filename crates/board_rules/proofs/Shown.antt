-- If each writer of version at most v is complete, what a node has made of its item up to v is what it is worth: so of
-- reads, and at the end.
use Rattle.std.proofs.Common.{◌≡◌, ℕ, List}
use Rattle.std.proofs.lemmas.Bool.{or_left, or_right}
use Rattle.script_parts.specs.ScriptData.{ScriptData, updates}
use Rattle.script_parts.specs.Valid.{IsValid}
use Rattle.board_rules.specs.Histories.{Place, is_strict_tree, version_in}
use Rattle.board_rules.specs.Moves.{AllWholeTo}
use Rattle.board_rules.specs.Worth.{worth_in}
use Rattle.board_rules.proofs.ClosedWorth.{IsClosed, made_is_worth, up_to}
use Rattle.board_rules.proofs.Effects.{made_in}
use Rattle.board_rules.proofs.Rules.{FollowsRules, IsItemAt, is_writer}
use Rattle.board_rules.proofs.Votes.{touched_there}
use Rattle.board_rules.proofs.Wholes.{whole_applied}

-- where each writer of version at most v is whole, each item is closed up to v
pub closed_if_whole : (s : ScriptData) (zs : List Place) (p x v : ℕ) → IsItemAt s p x → AllWholeTo (is_writer s) s zs v → IsClosed s zs p x v
closed_if_whole s zs p x v item whole = record {
  whole = λ t k up to touch done.
      let o = up_to v (version_in t zs) to in
      whole t o.version (or_left (updates s t) (is_strict_tree s t) up) o.is o.most;
  applied = λ t k strict to touch committed.
      let o = up_to v (version_in t zs) to in
      whole_applied s zs t k p strict (whole t o.version (or_right (updates s t) (is_strict_tree s t) strict) o.is o.most)
      (touched_there s t k x touch) (item.placed t k touch);
}

-- so what the node has made of it is what it is worth
pub shown_is_worth : (s : ScriptData) (zs : List Place) (p x v : ℕ) → IsValid s → FollowsRules s zs → IsItemAt s p x
    → AllWholeTo (is_writer s) s zs v → made_in s zs p x v ≡ worth_in s zs x v
shown_is_worth s zs p x v valid rules item whole =
    made_is_worth s zs p x v valid rules item (closed_if_whole s zs p x v item whole)
