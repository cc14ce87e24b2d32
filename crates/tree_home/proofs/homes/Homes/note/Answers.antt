use Rattle.std.specs.Prelude.{◌<◌}
use Rattle.std.proofs.Common.{◌∙◌, ap, arith, subst, sym}
use Rattle.tree_home.specs.Homes.{OpenTrees, IsNotedAmong, open_trees, noted, misses, missing_in, answer_in}
use Rattle.tree_home.proofs.Gathered.{missing_in-noted, told-missing, noted-none, prospect-missing}
use Rattle.tree_home.proofs.homes.Homes.note.Goals as goal

pub returns-in-Ok-Noted-clause-noted : goal.returns-in-Ok-Noted-clause-noted
returns-in-Ok-Noted-clause-noted c =
    let hs = open_trees c.args.self.now in
    let next = noted c.args.tree c.args.sub c.args.values hs in
    let answer = answer_in c.args.tree c.args.sub c.args.values hs in
    let missed = prospect-missing (misses c.args.tree c.args.sub hs) answer c.requires in
    told-missing c.still_missing.result (missing_in c.args.tree next) answer
    (c.still_missing.ensures ∙ ap (λ (hs : OpenTrees). missing_in c.args.tree hs) c.put_notice.ensures.noted)
    (sym (noted-none answer (sym c.in-Ok-Noted.field-0-is ∙ c.in-Ok-Noted.ensures.prospect ∙ missed)))

pub returns-in-Ok-Noted-clause-missing : goal.returns-in-Ok-Noted-clause-missing
returns-in-Ok-Noted-clause-missing c =
    let hs = open_trees c.args.self.now in
    let left = c.still_missing.ensures ∙ ap (λ (hs : OpenTrees). missing_in c.args.tree hs) c.put_notice.ensures.noted in
    let one = missing_in-noted c.args.tree c.args.sub c.args.values hs c.requires in
    let more : 1 < missing_in c.args.tree hs =
    subst (IsNotedAmong (missing_in c.args.tree hs)) c.in-Ok-Noted.field-0-is c.in-Ok-Noted.ensures.among in
    omega arith
