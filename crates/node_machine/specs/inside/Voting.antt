-- What a vote changes. Private code alone cites these definitions.
use Rattle.std.specs.Prelude.{Bool, List, if◌then◌else◌}
use Rattle.tv_base.specs.declared.numbers.SubNo.{SubNo}
use Rattle.tv_base.specs.declared.numbers.TreeNo.{TreeNo}
use Rattle.letter_types.specs.declared.bodies.Body.{Body}
use Rattle.letter_types.specs.declared.bodies.Body.TheVariants.{Root}
use Rattle.letter_types.specs.declared.bodies.Notice.{Notice}
use Rattle.letter_types.specs.declared.bodies.Notice.TheVariants as notices
use Rattle.letter_types.specs.declared.votes.Cause.{Cause}
use Rattle.letter_types.specs.declared.votes.Vote.{Vote}
use Rattle.letter_types.specs.declared.votes.Vote.TheVariants as votes
use Rattle.tree_home.specs.Homes.{misses, open_trees}
use Rattle.tree_home.specs.Maps.{by_tree}
use Rattle.tx_trees.specs.declared.parts.SubOp.{SubOp}
use Rattle.world_model.specs.Core.{Refusals, lesser}
use Rattle.script_parts.specs.Wants.{wanted_by}
use Rattle.tree_step.specs.declared.asked.Request.{Request}
use Rattle.tree_step.specs.steps.VoteChange.{VoteChange, Stay, Take, Note}
use Rattle.tree_step.specs.declared.node_core.NodeCore.{NodeCore}

-- a negative vote of subtransaction k of tree t comes to the tree's home
abbrev pub noted_no : TreeNo → SubNo → Cause → Refusals → VoteChange
noted_no t k cause rs = Note t (lesser (rs t.0) (record { sub = k; cause = cause }))

-- so does a notice that is missing there
abbrev pub no_in_notice : TreeNo → SubNo → Notice → Refusals → VoteChange
no_in_notice t k (notices.No cause) rs = noted_no t k cause rs
no_in_notice t k _ rs = Stay

-- a notice that isn't missing changes nothing
abbrev pub refusal_there : Bool → TreeNo → SubNo → Notice → Refusals → VoteChange
refusal_there missed t k notice rs = if missed then no_in_notice t k notice rs else Stay

-- a negative vote is cast: one of a root is at the tree's home at once, one of another subtransaction isn't
abbrev pub no_by : Cause → Body → Refusals → VoteChange
no_by cause (Root t) rs = noted_no t (record { 0 = 0 }) cause rs
no_by cause _ rs = Stay

-- a vote is cast: a positive one takes the locks that the operations want
abbrev pub change_by : TreeNo → Vote → List SubOp → Body → Refusals → VoteChange
change_by t (votes.Yes values) ops body rs = Take t (wanted_by ops)
change_by t (votes.No cause) ops body rs = no_by cause body rs

-- a notice of this request comes to the tree's home
abbrev pub refusal_at : Request → Notice → NodeCore → VoteChange
refusal_at r notice n = refusal_there (misses r.tree r.sub (open_trees n.parts.homes)) r.tree r.sub notice (by_tree n.refusals)
