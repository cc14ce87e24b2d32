-- The version numbers of a node.
use Rattle.std.specs.Prelude.{if◌then◌else◌, nat_lt}
use Rattle.tv_base.specs.declared.numbers.Version.{Version}
use Rattle.node_versions.specs.declared.turns.Turns.{Turns}

-- at the start: update 1, read 0, low 0
abbrev pub turns_start : Turns
turns_start = record { update = record { 0 = 1 }; read = record { 0 = 0 }; low = record { 0 = 0 } }

-- the update version is raised to v if it is less
abbrev pub raised : Version → Turns → Turns
raised v t = if nat_lt t.update.0 v.0 then record t { update = v } else t
