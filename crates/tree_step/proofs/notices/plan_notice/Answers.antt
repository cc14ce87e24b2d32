use Rattle.std.proofs.Common.{◌∙◌, ap, false, sym, subst}
use Rattle.tree_step.specs.AtNode.{IsNotedPart}
use Rattle.tree_step.specs.Meant.{home_planned_at}
use Rattle.tree_step.specs.steps.Change.{Tree}
use Rattle.tree_step.specs.steps.TreeStep.{TreeStep}
use Rattle.tree_step.specs.declared.plan.Scratch.{Scratch}
use Rattle.tree_step.proofs.Noticed.{noted_part}
use Rattle.tree_step.proofs.notices.plan_notice.Goals as goal

pub returns-clause-part : goal.returns-clause-part
returns-clause-part c =
    let q = c.args.request in
    let home = c.in_ok-home in
    let made = c.notice_home.new.scratch in
    let rest = home.ensures.rest in
    let does = home_planned_at q.tree q.sub made.values home.home in
    subst (λ (p : TreeStep). IsNotedPart q c.args.values.now c.args.node.now p)
    (λ i. record {
      parts = record {
        change = Tree (record {
          raises = false;
          staged = sym (ap (λ (x : Scratch). x.staged) rest ∙ c.requires.none_staged) i;
          counting = record { version = q.version; root = false; from = q.from; asked = 0 };
          home = does;
        });
        out = record {
          sent = sym (ap (λ (x : Scratch). x.sent) rest ∙ c.requires.none_sent) i;
          acts = sym (ap (λ (x : Scratch). x.acts) rest ∙ c.requires.no_acts) i;
        };
      };
      answered = made.answered;
    })
    (noted_part q c.args.values.now c.args.node.now does made.answered c.requires.from c.requires.small c.requires.window
    c.requires.near home.ensures.home.after home.ensures.answered home.ensures.home.may)
