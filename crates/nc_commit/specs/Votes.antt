-- How a subtransaction of a strict tree votes.
pub use Rattle.script_parts.specs.Wants.{mode_wanted, wanted_by}
pub use Rattle.world_model.specs.Votes.{conflict_by, greatest_version, newer_by, newer_at, newer_in, short_at, short_in, cause_in, voted, vote_of}
