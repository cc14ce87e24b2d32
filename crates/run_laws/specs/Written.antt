-- Which versions of an item are held, and in which an act writes it.
use Rattle.std.specs.Prelude.{ℕ, Bool, false, ◌==◌, ◌&&◌, List, Option, Some, None}
use Rattle.std.specs.List.{list_any}
use Rattle.tv_base.specs.declared.numbers.ItemNo.{ItemNo}
use Rattle.tv_base.specs.declared.numbers.Version.{Version}
use Rattle.item_versions.specs.Item.{Held, holds}
use Rattle.item_versions.specs.Table.{Table, item_in}
use Rattle.letter_types.specs.declared.acts.Act.{Act}
use Rattle.letter_types.specs.declared.acts.Act.TheVariants.{Did, Applied}
use Rattle.script_parts.specs.ScriptData.{ScriptData, ops_of, subs_at, updates}
use Rattle.world_model.specs.Decisions.{ops_at}
use Rattle.world_model.specs.Named.{is_strict_at}
use Rattle.board_rules.specs.Histories.{Place, version_in}
use Rattle.board_rules.specs.Serial.{is_version}
use Rattle.board_rules.specs.Worth.{ops_change}

-- version w of item x is held
abbrev pub holds_of : Version → Option Held → Bool
holds_of w None = false
holds_of w (Some h) = holds w h

abbrev pub holds_in : Version → ItemNo → Table → Bool
holds_in w x items = holds_of w (item_in x items)

-- an act of node p writes item x in version w: a Did of an update transaction that these acts bear in w, and that
-- changes it; or the Applied of a commit of a strict transaction that they bear in w, and that changes it at p
abbrev pub act_writes : ScriptData → List Place → ℕ → ℕ → ℕ → Act → Bool
act_writes s zs p x w (Did t k values) = updates s t.0 && (is_version w (version_in t.0 zs) && ops_change x (ops_of s t.0 k.0))
act_writes s zs p x w (Applied t commit) =
    commit && (is_strict_at s t.0 && (is_version w (version_in t.0 zs) && ops_change x (ops_at p (subs_at s t.0))))
act_writes s zs p x w _ = false

abbrev pub writes_in : ScriptData → List Place → ℕ → ℕ → ℕ → Place → Bool
writes_in s zs p x w y = (y.node == p) && act_writes s zs p x w y.act

-- one of these acts does
abbrev pub was_written : ScriptData → List Place → ℕ → ℕ → ℕ → Bool
was_written s zs p x w = list_any (writes_in s zs p x w) zs
