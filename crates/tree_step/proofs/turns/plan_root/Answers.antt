use Rattle.std.proofs.Common.{◌∙◌, ◌++◌, ◌∷◌, [], List, ap, length, arith}
use Rattle.letter_types.specs.declared.acts.Act.{Act}
use Rattle.letter_types.specs.declared.acts.Act.TheVariants.{Born}
use Rattle.letter_types.specs.declared.entries.Outgoing.{Outgoing}
use Rattle.tree_home.specs.Homes.{open_trees}
use Rattle.world_model.specs.Children.{sub_letters}
use Rattle.world_model.specs.Notices.{act_of, values_of}
use Rattle.world_model.proofs.Addressed.{children_nodes, children_few}
use Rattle.tree_step.specs.Meant.{home_planned_at}
use Rattle.tree_step.proofs.Begun.{root_answered}
use Rattle.tree_step.proofs.Made.{all_requests, may_count, root_ready}
use Rattle.tree_step.proofs.turns.plan_root.Goals as goal

pub returns-clause-part : goal.returns-clause-part
returns-clause-part c =
    let s = c.args.script.now in
    let q = c.args.request in
    let n = c.args.node.now in
    let xs = c.subs_of-subs.result.now in
    let sent = c.push_subs.new.sent in
    let is = c.in_ok-push_subs.ensures
    ∙ ap (λ (os : List Outgoing). os ++ sub_letters q.tree.0 q.version.0 0 0 xs) c.requires.none_sent in
    let acts = c.in_ok-push_root_acts.ensures
    ∙ ap (λ (ys : List Act). ys ++ Born q.tree q.version ∷ act_of q.tree (record { 0 = 0 }) c.args.notice ∷ [])
    c.requires.no_acts in
    let asked = length c.items-asked.result.now in
    let count = ap (λ (os : List Outgoing). length os) c.items-asked.ensures.items in
    let home = home_planned_at q.tree (record { 0 = 0 }) c.root_home-home.new.noted c.root_home-home.result.0 in
    record {
      row = root_ready s q.from q.tree q.version asked c.args.notice c.args.scratch.now.staged home
          c.root_home-home.result.1 n sent c.push_root_acts.new.acts xs c.subs_of-subs.ensures.subs is count
          (rw c.into_values-values.ensures at c.root_home-home.ensures.home.after)
          (rw c.into_values-values.ensures at c.root_home-home.ensures.answered
          ∙ root_answered q.tree (length xs) q.version (values_of c.args.notice) (open_trees n.homes)
          (rw c.subs_of-subs.ensures.subs c.requires.there))
          acts;
      may = record {
        fits = record {
          counting = may_count s n q.version _ q.from asked sent sent c.requires.ready c.requires.near
              (omega (arith, count)) (all_requests asked sent count)
              (children_nodes q.tree.0 q.version.0 0 s.nodes xs sent is c.subs_of-subs.ensures.nodes)
              (omega (
                arith,
                children_few q.tree.0 q.version.0 0 64 xs sent is c.subs_of-subs.ensures.few,
              ));
          items = c.requires.fits;
          home = c.root_home-home.ensures.home.may;
        };
        small = c.requires.ready.small;
        window = c.requires.ready.window;
      };
      counted = count;
    }
