-- How a node raises its update version, if it must.
use Rattle.std.specs.Prelude.{⊤, IsTrue, Option, Some, None}
use Rattle.tv_base.specs.declared.numbers.Version.{Version}
use Rattle.item_versions.specs.Window.{in_window}
use Rattle.node_versions.specs.declared.turns.Turns.{Turns}

-- the versions of a node that raises its update version, if it must
abbrev pub raised_by : Option Version → Turns → Turns
raised_by None turns = turns
raised_by (Some v) turns = record turns { update = v }

-- what is raised is at most two above the low version
abbrev pub RaisesNear : Option Version → Turns → Type 0
RaisesNear None turns = ⊤
RaisesNear (Some v) turns = IsTrue (in_window turns.low.0 v.0)
