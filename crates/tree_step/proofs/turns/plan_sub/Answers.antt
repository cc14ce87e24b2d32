use Rattle.std.proofs.Common.{List, ap, length, arith, ◌∙◌, ◌++◌, ◌∷◌, []}
use Rattle.letter_types.specs.declared.acts.Act.{Act}
use Rattle.letter_types.specs.declared.entries.Outgoing.{Outgoing}
use Rattle.letter_types.specs.declared.entries.StepOut.{StepOut}
use Rattle.world_model.specs.Children.{done_letter, sub_letters}
use Rattle.world_model.proofs.Addressed.{sent_nodes, sent_few}
use Rattle.tree_step.specs.inside.Sending.{sub_acts}
use Rattle.tree_step.proofs.Made.{all_requests, may_count, sub_ready}
use Rattle.tree_step.proofs.Rooted.{home_there}
use Rattle.tree_step.proofs.turns.plan_sub.Goals as goal

pub returns-clause-part : goal.returns-clause-part
returns-clause-part c =
    let s = c.args.script.now in
    let q = c.args.request in
    let notice = c.args.turn.notice in
    let xs = c.subs_of-subs.result.now in
    let asked = length c.items-asked.result.now in
    let sent = c.push_done.new.sent in
    let out : StepOut = record { sent = sent; acts = c.push_sub_acts.new.acts } in
    let children = c.in_ok-push_subs.ensures
    ∙ ap (λ (os : List Outgoing). os ++ sub_letters q.tree.0 q.version.0 q.sub.0 0 xs) c.requires.none_sent in
    let acts = c.in_ok-push_sub_acts.ensures
    ∙ ap (λ (ys : List Act). ys ++ sub_acts q c.args.turn.within.raises notice) c.requires.no_acts in
    let is = c.in_ok-push_done.ensures
    ∙ ap (λ (os : List Outgoing). os ++ done_letter c.home_of.result q.tree.0 q.sub.0 q.version.0 notice ∷ [])
    children in
    let count = ap (λ (os : List Outgoing). length os) c.items-asked.ensures.items in
    let home = home_there s q.tree.0 xs c.subs_of-subs.ensures.subs c.subs_of-subs.ensures.nodes c.requires.there in
    record {
      row = λ i. record {
        out = (sub_ready s q.from q.tree q.sub q.version c.home_of.result asked c.args.turn.within.raises notice
            c.args.scratch.now.staged c.args.node.now out xs c.subs_of-subs.ensures.subs c.home_of.ensures count is
            acts) i;
        answered = c.requires.unanswered i;
      };
      may = record {
        fits = record {
          counting = may_count s c.args.node.now q.version _ q.from asked sent sent c.requires.ready c.requires.near
              (omega (arith, count)) (all_requests asked sent count)
              (sent_nodes q.tree.0 q.version.0 q.sub.0 s.nodes c.home_of.result notice xs sent is
              (rw c.home_of.ensures home) c.subs_of-subs.ensures.nodes)
              (sent_few q.tree.0 q.version.0 q.sub.0 64 c.home_of.result notice xs sent is
              c.subs_of-subs.ensures.few);
          items = c.requires.fits;
          home = tt;
        };
        small = c.requires.ready.small;
        window = c.requires.ready.window;
      };
      counted = count;
    }
