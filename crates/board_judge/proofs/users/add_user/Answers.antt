use Rattle.std.proofs.Common.{◌≤◌, ◌<◌, length, arith}
use Rattle.std.proofs.lemmas.Grind.{common_steps}
use Rattle.board_judge.proofs.Listing.{put_more_at, beyond_more}
use Rattle.board_judge.proofs.users.add_user.Goals as goal

pub returns-then-place-len : goal.returns-then-place-len
returns-then-place-len c =
    let past : length c.args.users.now.items ≤ c.args.place = omega arith in
    beyond_more c.args.users.now.items c.args.place c.args.user past

pub returns : goal.returns
returns c =
    let within : c.args.place < length c.args.users.now.items = omega arith in
    put_more_at c.args.users.now.items c.args.place c.index_mut.result.now c.push.new.self c.args.user within
    (grind (arith, common_steps)) c.in_ok-push.ensures.ok
