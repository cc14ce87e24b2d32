-- In every run a transaction that was decided to commit is born, and stands in the serial order from its version on.
use Rattle.std.proofs.Common.{◌≡◌, ℕ, ◌<◌, true, List, length, reverse, take, refl, Option, Some, None}
use Rattle.tv_base.specs.declared.numbers.Version.{Version}
use Rattle.letter_types.specs.declared.entries.Entry.{Entry}
use Rattle.script_parts.specs.ScriptData.{ScriptData, node_of, subs_at}
use Rattle.script_parts.specs.Valid.{IsValid}
use Rattle.script_parts.proofs.SubsOf.{has_root}
use Rattle.world_model.specs.Runs.{IsStepRun}
use Rattle.board_rules.specs.Histories.{Place, decides_as, version_in, was_decided_as}
use Rattle.board_rules.proofs.ClosedWorth.{decided_placed}
use Rattle.board_rules.proofs.InSerial.{placed_in}
use Rattle.board_rules.proofs.Positions.{ActAt, found_all}
use Rattle.board_rules.proofs.Precedence.{vote}
use Rattle.board_rules.proofs.Rules.{FollowsRules, deciding, yes_vote}
use Rattle.board_rules.proofs.Wholes.{born_version, strict_there, version_more}
use Rattle.tree_laws.proofs.apt.AptVersions.{before}
use Rattle.run_laws.proofs.act_order.Rules.{follows_rules}
use Rattle.run_laws.specs.Gets.{CommitsStand, StandsFrom}

-- the act by which tree t was decided to commit
pub record CommitAt (zs : List Place) (t : ℕ) : Type 0 where
  pub place : ℕ
  pub node : ℕ
  pub at : ActAt (decides_as t true) zs place node

pub commit_at : (t : ℕ) (zs : List Place) → was_decided_as t true zs ≡ true → CommitAt zs t
commit_at t zs is =
    let f = found_all (λ (y : Place). decides_as t true y.act) zs is in
    record {
      place = f.place;
      node = f.item.node;
      at = record { act = f.item.act; is = f.is; passes = f.passes };
    }

-- its root voted before, so it is born
born_before_commit : (s : ScriptData) (zs : List Place) (t : ℕ) → IsValid s → FollowsRules s zs → CommitAt zs t
    → (w : Version) × (version_in t zs ≡ Some w)
born_before_commit s zs t valid rules c =
    let d = deciding s zs c.place c.node t true rules.acts c.at in
    let some : 0 < length (subs_at s t) = has_root s t valid (strict_there s t d.strict) in
    let y = vote s zs c.place c.node t 0 (node_of s t 0) rules.acts c.at some refl in
    let b = born_version (version_in t (take y.place zs)) (yes_vote s zs y.place (node_of s t 0) t 0 rules.acts y.at).born in
    (b.0, version_more t y.place b.0 zs b.1)

stands_by : (s : ScriptData) (past : List Entry) (t : ℕ) (o : Option Version) → IsValid s → IsStepRun s past → CommitAt (before past) t
    → version_in t (before past) ≡ o → StandsFrom s (reverse past) t o
stands_by s past t None valid run c none =
    let b = born_before_commit s (before past) t valid (follows_rules s past valid run) c in
    absurd (let born = b.1 in cc (none, born))
stands_by s past t (Some w) valid run c is =
    let rules = follows_rules s past valid run in
    let d = deciding s (before past) c.place c.node t true rules.acts c.at in
    λ v le. placed_in s (before past) v t w (decided_placed s (before past) c.node c.place t w d.strict is c.at) le

pub commits_stand : (s : ScriptData) (past : List Entry) → IsValid s → IsStepRun s past → CommitsStand s (reverse past)
commits_stand s past valid run = λ t committed.
    stands_by s past t (version_in t (before past)) valid run (commit_at t (before past) committed) refl
