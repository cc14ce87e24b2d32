use Rattle.std.proofs.Common.{◌≡◌, ◌+◌, ◌<◌, ◌^◌, ℕ, List, length, sym, ap, ◌∙◌, subst, arith}
use Rattle.letter_types.specs.declared.entries.Entry.{Entry}
use Rattle.letter_types.specs.declared.entries.Letter.{Letter}
use Rattle.letter_types.specs.Steps.{Out}
use Rattle.tx_trees.specs.ScriptData.{ScriptData}
use Rattle.tx_trees.specs.Valid.{IsValid}
use Rattle.world_model.specs.Tables.{ActorData}
use Rattle.world_model.specs.Taking.{IsAddressed as MayReach}
use Rattle.world_model.proofs.Addressees.{is_addressed}
use Rattle.world_model.proofs.SmallCounts.{few_counted}
use Rattle.world_core.specs.Actors.{actor_data}
use Rattle.node_threads.specs.Cells.{CellData, LeadsTo}
use Rattle.node_threads.proofs.Entries.{is_row, leads_more, stepped}
use Rattle.node_threads.proofs.cell.ActorCell.handle.Goals as goal

pub step-requires-clause-addressed : goal.step-requires-clause-addressed
step-requires-clause-addressed g c =
    let s = g.K.ClusterName.script in
    let st = c.self.inside in
    let number : st.log.number ≡ c.args.self.now.number = ap (λ (x : CellData). x.number) c.self.view_is in
    let to : c.letter.result.now.to.0 ≡ st.log.number = ap (λ (l : Letter). l.to.0) c.letter.ensures.letter ∙ c.requires.addressee ∙ sym number in
    let post = ap (λ p. p.actors) c.requires.post.1 in
    let lt : st.log.number < s.nodes + 2 = omega (arith, c.letter.ensures.addressed, post, c.self.invariant.1, number, c.requires.addressee) in
    subst (λ (x : ScriptData). MayReach x c.letter.result.now (actor_data st.state)) (sym c.requires.script)
    (is_addressed s st.log.number st.log.entries c.letter.result.now (actor_data st.state) c.self.invariant.0.state to lt)

pub step-requires-clause-small : goal.step-requires-clause-small
step-requires-clause-small g c =
    let st = c.self.inside in
    let few : length st.log.entries < 1099511627776 = c.has_room.ensures.0 c.if-not-has_room.false in
    let valid = subst IsValid c.requires.script c.nodes-valid.ensures.valid in
    few_counted g.K.ClusterName.script st.log.number (2 ^ 62) st.log.entries (actor_data st.state) valid c.self.invariant.0.state (omega arith)

pub enter-requires-clause-sent : goal.enter-requires-clause-sent
enter-requires-clause-sent g c =
    let s = g.K.ClusterName.script in
    let st = c.self.inside in
    let l = c.args.envelope.letter in
    let is = stepped s c.args.script.now st.log.number c.args.self.now.number st.log.entries st.state c.step.new.state l c.letter.result.now c.in-Ok.out
    c.self.invariant.0 c.in-Ok.ensures.row c.requires.script c.letter.ensures.letter c.in-Ok.ensures.script c.requires.addressee
    (ap (λ (x : CellData). x.number) c.self.view_is) in
    ap (λ (o : Out ActorData). o.sent) (is_row s st.log.number st.log.entries st.state c.step.new.state l c.in-Ok.out is)

pub enter-requires-clause-acts : goal.enter-requires-clause-acts
enter-requires-clause-acts g c =
    let s = g.K.ClusterName.script in
    let st = c.self.inside in
    let l = c.args.envelope.letter in
    let is = stepped s c.args.script.now st.log.number c.args.self.now.number st.log.entries st.state c.step.new.state l c.letter.result.now c.in-Ok.out
    c.self.invariant.0 c.in-Ok.ensures.row c.requires.script c.letter.ensures.letter c.in-Ok.ensures.script c.requires.addressee
    (ap (λ (x : CellData). x.number) c.self.view_is) in
    ap (λ (o : Out ActorData). o.acts) (is_row s st.log.number st.log.entries st.state c.step.new.state l c.in-Ok.out is)

pub invariant_of-self-2 : goal.invariant_of-self-2
invariant_of-self-2 g c =
    let s = g.K.ClusterName.script in
    let post = g.K.PostName.post in
    let st = c.self.inside in
    let l = c.args.envelope.letter in
    let now = c.step.new.state in
    let new : List Entry = c.enter.new.self.entries in
    let is = stepped s c.args.script.now st.log.number c.args.self.now.number st.log.entries st.state now l c.letter.result.now c.in-Ok.out
    c.self.invariant.0 c.in-Ok.ensures.row c.requires.script c.letter.ensures.letter c.in-Ok.ensures.script c.requires.addressee
    (ap (λ (x : CellData). x.number) c.self.view_is) in
    let leads = leads_more post s st.log.number st.log.entries new st.state now l c.in-Ok.out c.reserve.new.self.items c.enter.new.made.items c.enter.result
    is c.enter.ensures.handled in (
      subst (λ (n : ℕ). LeadsTo s n new now) (sym c.enter.ensures.number) leads,
      c.self.invariant.1,
      c.in-Ok.ensures.empty,
    )
