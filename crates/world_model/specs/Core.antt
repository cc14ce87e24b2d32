-- What a node has beside what commuting transactions need: its locks, the answers that it holds, and the negative votes
-- of strict transactions.
use Rattle.std.specs.Prelude.{if◌then◌else◌, ℕ, nat_lt, List, [], Option, Some, None}
use Rattle.tree_home.specs.Maps.{put_at}
use Rattle.tv_base.specs.declared.numbers.SubNo.{SubNo}
use Rattle.tv_base.specs.declared.numbers.TreeNo.{TreeNo}
use Rattle.letter_types.specs.declared.bodies.Notice.{Notice}
use Rattle.letter_types.specs.declared.bodies.Notice.TheVariants.{No}
use Rattle.letter_types.specs.Steps.{Out}
use Rattle.nc_locks.specs.declared.modes.Lock.{Lock}
use Rattle.script_parts.specs.ScriptData.{ScriptData}
use Rattle.tree_home.specs.HeldAnswers.{HeldAnswers}
use Rattle.world_model.specs.declared.refusal.NegativeVote.{NegativeVote}
use Rattle.world_model.specs.Node.{Node, start_node}

-- of each strict transaction that is at home here the negative vote of the least number, among the votes that have come
abbrev pub Refusals : Type 0
Refusals = ℕ → Option NegativeVote

-- of two negative votes that of the lesser number
abbrev pub lesser : Option NegativeVote → NegativeVote → NegativeVote
lesser None r = r
lesser (Some old) r = if nat_lt r.sub.0 old.sub.0 then r else old

-- the negative votes after a notice of subtransaction k of transaction t
abbrev pub refused_by : TreeNo → SubNo → Notice → Refusals → Refusals
refused_by t k (No cause) rs = put_at t.0 (Some (lesser (rs t.0) (record { sub = k; cause = cause }))) rs
refused_by t k _ rs = rs

-- the node that commuting transactions see, its locks, the answers that it holds, the negative votes, and the epoch of
-- the coordinator that it has last heard of
pub record Core : Type 0 where
  pub node : Node
  pub locks : List Lock
  pub holds : HeldAnswers
  pub refusals : Refusals
  pub epoch : ℕ

-- a node as a run begins: without locks, it holds no answer and knows of no negative vote, and of no epoch but the
-- first
abbrev pub start_core : ScriptData → ℕ → Core
start_core s p = record { node = start_node s p; locks = []; holds = λ t. None; refusals = λ t. None; epoch = 0 }

-- what comes of a message at the node, within its core
abbrev pub in_core : Core → Out Node → Out Core
in_core c out = record { state = record c { node = out.state }; sent = out.sent; acts = out.acts }
