use Rattle.std.proofs.Common.{◌≡◌, ℕ, ◌≤◌, ap, ◌∙◌, List, length, arith}
use Rattle.tv_base.specs.declared.numbers.NodeNo.{NodeNo}
use Rattle.letter_types.specs.Steps.{Out, made}
use Rattle.pair_counters.specs.Counts.{Counts}
use Rattle.pair_counters.specs.Rows.{counts_of}
use Rattle.tree_home.specs.HeldAnswers.{held_answers, holding as held_with}
use Rattle.tree_home.specs.Maps.{by_tree}
use Rattle.tree_home.specs.declared.homes.Answered.{Answered}
use Rattle.tree_home.specs.declared.homes.Held.{Held}
use Rattle.tv_base.specs.declared.numbers.TreeNo.{TreeNo}
use Rattle.tree_step.specs.CoreChanges.{core_step_row}
use Rattle.tree_step.specs.Core.{core_of, core_with}
use Rattle.tree_step.specs.Node.{Node}
use Rattle.tree_step.proofs.Asking.{room_after}
use Rattle.tree_step.proofs.Stepped.{apart, asked_node, asked_window, may_same, same_open, stepped, with_counters, with_homes}
use Rattle.tree_step.proofs.Undone.{unheld}
use Rattle.tree_step.specs.Meant.{doing_meant, meant_held, out_in, parts_meant}
use Rattle.tree_step.proofs.doing.do_hold.Goals as goal

pub returns-in-Err-clause-err : goal.returns-in-Err-clause-err
returns-in-Err-clause-err c =
    let a : Answered = record { tree = c.args.tree; version = c.args.version; values = c.replace-values.result } in
    let homes = unheld a (length c.items.result.now) c.args.core.now.parts.homes c.hold.new.self c.take_back.new.self
    c.requires.may.holds.1 c.in_ok-hold.ensures.ok c.hold.ensures.opened
    c.take_back.ensures.held c.take_back.ensures.opened c.hold.ensures.was_ascending c.take_back.ensures.ascending in
    λ i. record {
      parts = record {
        turns = c.args.core.now.parts.turns;
        items = c.args.core.now.parts.items;
        counters = c.args.core.now.parts.counters;
        homes = homes i;
      };
      locks = c.in-Err.ensures.same_locks i;
      refusals = c.in-Err.ensures.same_refusals i;
      epoch = c.args.core.now.epoch;
    }

pub ask_each-requires-clause-below : goal.ask_each-requires-clause-below
ask_each-requires-clause-below c =
    let x = c.args.scratch.now in
    let d = c.args.plan.doing in
    let few : length c.items-2.result.now ≤ 64 =
    omega (arith, ap (λ (qs : List NodeNo). length qs) c.items-2.ensures.items, c.items-2.ensures.limit) in
    let old = c.args.core.now.parts in
    room_after (doing_meant d x) x.sent (with_homes c.hold.new.self old) (counts_of c.do_parts.new.parts.counters).numbers
    c.args.version.0 (length c.items-2.result.now)
    (may_same (doing_meant d x) x.sent old c.hold.new.self c.hold.ensures.opened c.requires.may.parts)
    (ap (λ (o : Out Node). o.state.counts) c.do_parts.ensures.done.row) few

pub returns-clause-done : goal.returns-clause-done
returns-clause-done c =
    let x = c.args.scratch.now in
    let d = c.args.plan.doing in
    let n = c.args.core.now in
    let out = out_in x in
    let p = meant_held c.args.plan c.args.tree c.args.version x in
    let done = c.do_parts.ensures.done in
    let mid = c.do_parts.new.parts in
    let parts = with_counters c.ask_each.new.counters mid in
    let told : c.items-2.result.now ≡ x.told = c.items-2.ensures.items ∙ c.do_parts.ensures.told in
    let row = ap (λ (e : ℕ). made (core_with parts c.change_votes.new.locks c.change_votes.new.refusals e) out) c.hear_of.ensures
    ∙ stepped p n mid parts c.change_votes.new.locks c.change_votes.new.refusals out
    (done.row ∙ same_open (parts_meant d x) n.parts c.hold.new.self c.hold.ensures.opened)
    (asked_node mid c.ask_each.new.counters c.args.version.0 c.items-2.result.now x.told c.ask_each.ensures told)
    c.in_default.ensures.locks c.in_default.ensures.refusals
    (ap (λ (es : List (TreeNo × Held)). by_tree es) done.held ∙ c.in_ok-hold.ensures.ok
    ∙ (λ i. held_with (record { tree = c.args.tree; version = c.args.version; values = c.replace-values.ensures.value i })
    (length (c.items.ensures.items i)) (held_answers n.parts.homes))) in
    record {
      row = row;
      nodes = ap (λ (k : Counts). k.nodes) c.ask_each.ensures ∙ done.nodes;
      window = asked_window mid c.ask_each.new.counters c.args.version.0 c.items-2.result.now c.ask_each.ensures done.window;
      apart = apart (core_with parts c.change_votes.new.locks c.change_votes.new.refusals c.hear_of.new.epoch) out
          (core_step_row p (core_of n)) row c.requires.may.apart;
      err = tt;
    }
