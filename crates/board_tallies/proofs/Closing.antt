-- The transaction that becomes a member of the serial order by an act.
use Rattle.std.proofs.Common.{◌≡◌, ℕ, Bool, true, false, List, refl, ap, ◌∙◌, Option, Some, None}
use Rattle.std.specs.Prelude.{if◌then◌else◌, ◌&&◌, ◌||◌}
use Rattle.std.specs.Option.{option_map}
use Rattle.tv_base.specs.declared.numbers.TreeNo.{TreeNo}
use Rattle.letter_types.specs.declared.acts.Act.{Act}
use Rattle.letter_types.specs.declared.acts.Act.TheVariants.{Born, Did, Turned, Showed, Swept, Finished, Waits, Parked, Voted, Freed, Decided, Applied}
use Rattle.script_parts.specs.ScriptData.{ScriptData, updates}
use Rattle.board_rules.specs.Histories.{Place, is_strict_tree, is_whole_in, was_decided_as}
use Rattle.board_rules.specs.Serial.{is_settled_in}
use Rattle.board_rules.proofs.Wholes.{update_not_strict, updates_there}
use Rattle.board_tallies.specs.Board.{ShowsTree, closes_in, state_at, whole_at}
use Rattle.board_tallies.specs.inside.Noting.{closed_by}
use Rattle.board_tallies.specs.declared.states.TreeState.{TreeState}
use Rattle.board_tallies.proofs.Standing.{whole_there}

abbrev settled_as : Bool → Option ℕ → Option ℕ
settled_as settled found = elim found [ Some t ↦ if settled then Some t else None | None ↦ None ]

-- a whole update tree, and a strict tree that commits
update_closes : (t : TreeNo) (update strict whole committed : Bool) → (update ≡ true → strict ≡ false)
    → option_map (λ (u : TreeNo). u.0) (if update && whole then Some t else None)
    ≡ settled_as ((update && whole) || (strict && committed)) (if update then Some t.0 else None)
update_closes t false strict whole committed apart = refl
update_closes t true strict true committed apart = refl
update_closes t true true false committed apart = absurd (let none = apart refl in cc)
update_closes t true false false committed apart = refl

strict_closes : (t : TreeNo) (update strict commit whole committed : Bool) → (update ≡ true → strict ≡ false)
    → option_map (λ (u : TreeNo). u.0) (if (strict && commit) && committed then Some t else None)
    ≡ settled_as ((update && whole) || (strict && committed)) (if strict && commit then Some t.0 else None)
strict_closes t update false commit whole committed apart = refl
strict_closes t update true false whole committed apart = refl
strict_closes t true true true whole committed apart = absurd (let none = apart refl in cc)
strict_closes t false true true whole true apart = refl
strict_closes t false true true whole false apart = refl

either_whole : (update w v : Bool) → (update ≡ true → w ≡ v) → (update && w) ≡ (update && v)
either_whole true w v same = same refl
either_whole false w v same = refl

settled_at : (settled : ℕ → Bool) (b : Bool) (t : ℕ)
    → settled_as (settled t) (if b then Some t else None)
    ≡ elim (if b then Some t else None) [ Some u ↦ if settled u then Some u else None | None ↦ None ]
settled_at settled true t = refl
settled_at settled false t = refl

-- by the states after the act
pub closes : (s : ScriptData) (ys : List Place) (states : List TreeState) (act : Act)
    → ((t : ℕ) → ShowsTree t ys (state_at states t))
    → option_map (λ (t : TreeNo). t.0) (closed_by s.trees states act) ≡ closes_in s ys act
closes s ys states (Did t k values) shows =
    let whole : (updates s t.0 && whole_at s.trees states t.0) ≡ (updates s t.0 && is_whole_in s ys t.0)
    = either_whole (updates s t.0) (whole_at s.trees states t.0) (is_whole_in s ys t.0)
    (λ up. whole_there s ys states t.0 (updates_there s t.0 up) (shows t.0)) in
    ap (λ (b : Bool). option_map (λ (u : TreeNo). u.0) (if b then Some t else None)) whole
    ∙ update_closes t (updates s t.0) (is_strict_tree s t.0) (is_whole_in s ys t.0) (was_decided_as t.0 true ys)
    (update_not_strict s t.0)
    ∙ settled_at (is_settled_in s ys) (updates s t.0) t.0
closes s ys states (Decided t commit) shows =
    let committed : (state_at states t.0).committed ≡ was_decided_as t.0 true ys = (shows t.0).committed in
    ap (λ (b : Bool). option_map (λ (u : TreeNo). u.0) (if (is_strict_tree s t.0 && commit) && b then Some t else None)) committed
    ∙ strict_closes t (updates s t.0) (is_strict_tree s t.0) commit (is_whole_in s ys t.0) (was_decided_as t.0 true ys)
    (update_not_strict s t.0)
    ∙ settled_at (is_settled_in s ys) (is_strict_tree s t.0 && commit) t.0
closes s ys states (Born t v) shows = refl
closes s ys states (Turned v) shows = refl
closes s ys states (Showed v) shows = refl
closes s ys states (Swept v) shows = refl
closes s ys states (Waits t a b) shows = refl
closes s ys states (Parked t a b h) shows = refl
closes s ys states (Voted t k vote) shows = refl
closes s ys states (Freed t) shows = refl
closes s ys states (Applied t commit) shows = refl
closes s ys states Finished shows = refl
