use Rattle.std.proofs.Common.{◌≡◌, ℕ, ◌+◌, ◌-◌, ◌^◌, ◌≤◌, ap, ◌∙◌, subst, sym, arith, List, Some, [], ◌∷◌, ◌++◌, length, map}
use Rattle.std.specs.Prelude.{slice_get}
use Rattle.std.specs.List.{remove}
use Rattle.std.proofs.lemmas.List.{length-append}
use Rattle.tv_base.proofs.ByPlace.{get_map}
use Rattle.letter_bag.specs.Bag.{BagData}
use Rattle.letter_types.specs.declared.entries.Entry.{Entry}
use Rattle.letter_types.specs.declared.entries.Letter.{Letter}
use Rattle.letter_types.specs.declared.entries.Outgoing.{Outgoing}
use Rattle.letter_types.specs.declared.entries.StepOut.{StepOut}
use Rattle.letter_types.specs.Letters.{go, sealed}
use Rattle.run_history.specs.Messages.{entry_behind, messages_of, entries_then}
use Rattle.run_history.proofs.Sealed.{sealed_count}
use Rattle.tree_step.specs.Meant.{out_in}
use Rattle.world_core.specs.declared.world.Flow.{Flow}
use Rattle.world_core.specs.inside.Flows.{ArePlacesOf, message_at, places_from, world_in}
use Rattle.world_core.proofs.Doing.{out_is}
use Rattle.world_core.proofs.Events.{is_here, may_take, Event, event_world, event_took}
use Rattle.world_core.proofs.Places.{bag_after, message_to, messages_more, place_in, placed_after}
use Rattle.world_core.proofs.Worlds.{entry_made}
use Rattle.world_core.proofs.world.advance.Goals as goal

-- the message at a place of the bag, where its place is read
letter_there : (f : Flow) (es : List Entry) (sent : List Letter) (k place : ℕ) (l : Letter) → slice_get f.bag.items k ≡ Some place
    → sent ≡ messages_of es → l ≡ message_at f.go sent place → slice_get (world_in f es).bag k ≡ Some l
letter_there f es sent k place l at all is =
    get_map (message_at f.go (messages_of es)) f.bag.items k place at
    ∙ (λ x. Some (message_at f.go (sym all x) place))
    ∙ ap (λ (m : Letter). Some m) (sym is)

pub plan-requires-clause-here : goal.plan-requires-clause-here
plan-requires-clause-here c =
    is_here _ _ _ _ c.requires.world c.nodes-valid.ensures.valid
    (letter_there c.args.flow.now c.args.log.now.entries c.messages.result.now c.args.k c.at-place.result.now
    c.message_at-letter.result.now c.at-place.ensures c.messages.ensures c.message_at-letter.ensures)

pub plan-requires-clause-may : goal.plan-requires-clause-may
plan-requires-clause-may c =
    let few : length c.args.log.now.entries ≤ 2 ^ 40 = c.len.ensures.few in
    may_take _ _ _ _ _ c.requires.world c.nodes-valid.ensures.valid (omega (arith, few))
    (letter_there c.args.flow.now c.args.log.now.entries c.messages.result.now c.args.k c.at-place.result.now
    c.message_at-letter.result.now c.at-place.ensures c.messages.ensures c.message_at-letter.ensures)

pub act-requires-clause-here : goal.act-requires-clause-here
act-requires-clause-here c =
    is_here _ _ _ _ c.requires.world c.nodes-valid.ensures.valid
    (letter_there c.args.flow.now c.args.log.now.entries c.messages.result.now c.args.k c.at-place.result.now
    c.message_at-letter.result.now c.at-place.ensures c.messages.ensures c.message_at-letter.ensures)

pub enter-requires-clause-place : goal.enter-requires-clause-place
enter-requires-clause-place c =
    omega (
      arith,
      place_in c.args.log.now.entries c.args.flow.now.bag.items c.args.k c.at-place.result.now c.requires.flow.placed c.requires.waits c.at-place.ensures,
      ap (λ (es : List Entry). length (messages_of es)) c.in_ok-make_room-2.ensures.entries,
    )

pub put_places-requires-clause-room : goal.put_places-requires-clause-room
put_places-requires-clause-room c =
    let a = c.in_ok-act.ensures.acted in
    let h = c.make_room-2.new.self.entries in
    let out = out_in c.act.new.scratch in
    let to = c.message_at-letter.result.now.to in
    let took = message_at (go to.0) (messages_of h) c.at-place.result.now in
    let e = entry_behind (length h) to took out.sent out.acts in
    let planned = out_is c.in_ok-plan.plan c.plan.new.scratch a.before a.after out a.done in
    let all = ap messages_of c.enter.ensures ∙ messages_more h e in
    omega (
      arith,
      ap (length {A = Letter}) (c.messages-2.ensures ∙ all),
      ap (length {A = Letter}) c.messages-before.ensures,
      length-append (messages_of h) (sealed (length h + 1) to.0 0 out.sent),
      sealed_count (length h + 1) to.0 0 out.sent,
      ap (λ (o : StepOut). length o.sent) planned,
      ap (length {A = Outgoing}) c.sent.ensures,
      ap (length {A = Outgoing}) c.items-sent.ensures.items,
      c.in_ok-make_room.ensures.ok,
    )

-- the entry of this event
abbrev entry_here : goal.After-wipe → Entry
entry_here c =
    entry_made (length c.args.log.now.entries) c.message_at-letter.result.now (out_in c.act.new.scratch).sent (out_in c.act.new.scratch).acts

entered : (c : goal.After-wipe) → c.enter.new.log.entries ≡ c.args.log.now.entries ++ entry_here c ∷ []
entered c =
    let h = c.args.log.now.entries in
    let f = c.args.flow.now in
    let l = c.message_at-letter.result.now in
    let place = c.at-place.result.now in
    let sent = (out_in c.act.new.scratch).sent in
    let acts = (out_in c.act.new.scratch).acts in
    let le = place_in h f.bag.items c.args.k place c.requires.flow.placed c.requires.waits c.at-place.ensures in
    let is = c.message_at-letter.ensures ∙ ap (λ (ls : List Letter). message_at f.go ls place) c.messages.ensures in
    c.enter.ensures
    ∙ ap (λ (es : List Entry). entries_then es l.to (message_at (go l.to.0) (messages_of es) place) sent acts) c.in_ok-make_room-2.ensures.entries
    ∙ ap (λ (m : Letter). entries_then h l.to m sent acts) (message_to f.go (messages_of h) place l c.requires.flow.first le is)

-- what is left of the bag
left : (c : goal.After-wipe) → c.take.new.self.items ≡ remove (c.args.flow.now.bag.items
    ++ places_from (length c.messages-before.result.now) (length c.messages-2.result.now - length c.messages-before.result.now)) c.args.k
left c =
    let from = length c.messages-before.result.now in
    let more = places_from from (length c.messages-2.result.now - from) in
    ap (λ (b : BagData ℕ). b.items) c.take.ensures.left
    ∙ ap (λ (ks : List ℕ). remove ks c.args.k) (c.put_places.ensures ∙ ap (λ (ks : List ℕ). ks ++ more) c.in_ok-make_room.ensures.items)

-- how many messages were sent before it and after it
before : (c : goal.After-wipe) → length c.messages-before.result.now ≡ length (messages_of c.args.log.now.entries)
before c = ap (length {A = Letter}) (c.messages-before.ensures ∙ ap messages_of c.in_ok-make_room-2.ensures.entries)

after : (c : goal.After-wipe) → length c.messages-2.result.now ≡ length (messages_of (c.args.log.now.entries ++ entry_here c ∷ []))
after c = ap (length {A = Letter}) (c.messages-2.ensures ∙ ap messages_of (entered c))

event : (c : goal.After-wipe) → Event c.args.script.now (world_in c.args.flow.now c.args.log.now.entries) c.args.k
    c.message_at-letter.result.now c.in_ok-plan.plan c.plan.new.scratch (out_in c.act.new.scratch)
    (world_in (record { actors = c.act.new.actors; bag = c.take.new.self; go = c.args.flow.now.go }) c.enter.new.log.entries)
event c =
    let f = c.args.flow.now in
    let h = c.args.log.now.entries in
    let l = c.message_at-letter.result.now in
    record {
      letter = letter_there f h c.messages.result.now c.args.k c.at-place.result.now l c.at-place.ensures c.messages.ensures c.message_at-letter.ensures;
      step = c.in_ok-plan.ensures;
      acted = c.in_ok-act.ensures.acted;
      bag = (λ x. map (message_at f.go (messages_of (entered c x))) c.take.new.self.items)
          ∙ bag_after f.go h (entry_here c) f.bag.items c.take.new.self.items (length c.messages-before.result.now)
          (length c.messages-2.result.now) c.args.k c.requires.waits c.requires.flow.placed (before c) (after c) (left c);
      history = entered c;
    }

pub returns-clause-world : goal.returns-clause-world
returns-clause-world c = event_world _ _ _ _ _ _ _ _ c.requires.world c.nodes-valid.ensures.valid (event c)

pub returns-clause-took : goal.returns-clause-took
returns-clause-took c = event_took _ _ _ _ _ _ _ _ (event c)

pub returns-clause-flow : goal.returns-clause-flow
returns-clause-flow c = record {
  first = c.requires.flow.first;
  placed = subst (λ (es : List Entry). ArePlacesOf es c.take.new.self.items) (sym (entered c))
      (placed_after c.args.log.now.entries (entry_here c) c.args.flow.now.bag.items c.take.new.self.items
      (length c.messages-before.result.now) (length c.messages-2.result.now) c.args.k c.requires.flow.placed (before c) (after c) (left c));
}
