-- What the fields of the ends in memory stand for.
use Rattle.std.specs.Prelude.{◌-◌, ◌<◌, ◌≤◌, take, drop, length}
use Rattle.tv_base.specs.declared.memory.MemSource.TheInside as source
use Rattle.tv_base.specs.declared.memory.MemSink.TheInside as sink
use Rattle.tv_base.specs.Memory.{FromMemory, ToMemory}

abbrev pub source_shown : source.Inside → FromMemory
source_shown s =
    record { left = drop s.at s.bytes.items; most = s.most; fails = s.fails.items; calls = s.calls; faults = s.faults }

pub record IsSource (s : source.Inside) : Type 0 where
  pub within : s.at ≤ length s.bytes.items
  pub some : 0 < s.most

abbrev pub sink_shown : sink.Inside → ToMemory
sink_shown s = record {
  written = take s.len s.bytes.items;
  room = length s.bytes.items - s.len;
  most = s.most;
  fails = s.fails.items;
  calls = s.calls;
  faults = s.faults;
}

pub record IsSink (s : sink.Inside) : Type 0 where
  pub within : s.len ≤ length s.bytes.items
  pub some : 0 < s.most
