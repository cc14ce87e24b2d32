use Rattle.std.proofs.Common.{◌≡◌, ℕ, ◌+◌, All, List, [], ◌∷◌, ◌++◌, length, map, None, sym, ap, ◌∙◌, subst, rules, arith, append_assoc}
use Rattle.std.proofs.lemmas.List.{append-nil, length_push, nil_from_length}
use Rattle.std.proofs.lemmas.List.Elements.{All-push}
use Rattle.letter_types.specs.declared.entries.Entry.{Entry}
use Rattle.letter_types.specs.Postal.{delivery_of}
use Rattle.stamp_post.specs.Shown.{SeatData, seat_data, seat_joined}
use Rattle.world_model.specs.Runs.{IsRunOf}
use Rattle.world_model.specs.Tables.{actor_row, start_actor}
use Rattle.history_merge.specs.OwnLogs.{LogData}
use Rattle.history_merge.specs.Merging.{AllRun, NumberedBy, joined_from}
use Rattle.history_merge.proofs.Gatherings.{runs_more, seats_more}
use Rattle.history_merge.proofs.gathering.seats_of.Given.{Over}
use Rattle.history_merge.proofs.gathering.seats_of.Goals as goal

pub loop-log-init : goal.loop-log-init
loop-log-init g c =
    let none : [] ≡ c.args.room.items = sym c.requires.room.0 in
    let all : c.into_iter-log-iterator.result.rest.items ≡ c.args.logs.items = c.into_iter-log-iterator.ensures.into_iter_gives.0 in
    record {
      posts = subst (λ (xs : List SeatData). All (λ (x : SeatData). x.post ≡ g.K.PostName.post) xs) none (λ k d lt. absurd (omega (arith, lt)));
      rows = [];
      joined = ap (map seat_joined) c.requires.room.0;
      runs = λ a es at. absurd (cc at);
      entries = ap (map (λ (x : LogData). x.entries)) all;
      many = ap (length {A = SeatData}) none;
      order = subst (λ (n : ℕ). NumberedBy (λ (x : LogData). x.number) n c.into_iter-log-iterator.result.rest.items) (ap (length {A = SeatData}) none)
          (subst (NumberedBy (λ (x : LogData). x.number) 0) (sym all) c.requires.order);
      some = omega (arith, ap (length {A = SeatData}) none, ap (length {A = LogData}) all);
      room = c.requires.room.1;
    }

pub loop-log-preserved : goal.loop-log-preserved
loop-log-preserved g c =
    let post = g.K.PostName.post in
    let s = g.K.ClusterName.script in
    let i = c.loop-log.invariant in
    let entries_of : LogData → List Entry = λ x. x.entries in
    let rows : List (List Entry) = i.rows in
    let cell : LogData = c.in-Some.log in
    let rest : List LogData = c.next.new.self.rest.items in
    let seat = c.into_seat.result in
    let next : c.loop-log.log-iterator.rest.items ≡ cell ∷ rest = c.in-Some.ensures.steps.0 in
    let order : NumberedBy (λ (x : LogData). x.number) (length c.loop-log.seats.items) (cell ∷ rest) =
    subst (NumberedBy (λ (x : LogData). x.number) (length c.loop-log.seats.items)) next i.order in
    let long : cell.number ≡ length rows = order.0 ∙ sym i.many in
    let is : seat ≡ seat_data post cell.number (map delivery_of cell.entries) None None = c.into_seat.ensures.seat in
    let one : seat.post ≡ post = ap (λ (x : SeatData). x.post) is in
    let grown : c.push_reserved.new.self.items ≡ c.loop-log.seats.items ++ seat ∷ [] = c.push_reserved.ensures.items in
    record {
      posts = subst (λ (xs : List SeatData). All (λ (x : SeatData). x.post ≡ post) xs) (sym {A = List SeatData} grown)
          (All-push (λ (x : SeatData). x.post ≡ post) c.loop-log.seats.items seat i.posts one);
      rows = rows ++ cell.entries ∷ [];
      joined = ap (map seat_joined) grown
          ∙ seats_more post cell.number c.loop-log.seats.items seat rows cell.entries long is i.joined;
      runs = runs_more s rows cell.entries i.runs
          (subst (λ (n : ℕ). IsRunOf (actor_row s n) (start_actor s n) cell.entries) long c.into_seat.ensures.run);
      entries = append_assoc rows (cell.entries ∷ []) (map entries_of rest)
          ∙ ap (λ (cs : List LogData). rows ++ map entries_of cs) (sym {A = List LogData} next) ∙ i.entries;
      many = length_push rows cell.entries ∙ ap (λ (n : ℕ). n + 1) i.many ∙ sym (ap (length {A = SeatData}) grown ∙ length_push c.loop-log.seats.items seat);
      order = subst (λ (n : ℕ). NumberedBy (λ (x : LogData). x.number) n rest) (sym {A = ℕ} (ap (length {A = SeatData}) grown ∙ length_push c.loop-log.seats.items seat)) order.1;
      some = search rules;
      room = search rules;
    }

-- the rows are the logs' entries
rows_are : (g : Over) (c : goal.After-from_vec g) → c.loop-log.invariant.rows ≡ map (λ (x : LogData). x.entries) c.args.logs.items
rows_are g c =
    let entries_of : LogData → List Entry = λ x. x.entries in
    let left = c.loop-log.log-iterator.rest in
    let none : left.items ≡ [] = nil_from_length left.items (sym left.ok.0 ∙ c.in-None.ensures.steps.0) in
    sym (append-nil c.loop-log.invariant.rows)
    ∙ ap (λ (cs : List LogData). c.loop-log.invariant.rows ++ map entries_of cs) (sym none)
    ∙ c.loop-log.invariant.entries

pub returns-clause-joined : goal.returns-clause-joined
returns-clause-joined g c =
    ap (map seat_joined) c.from_vec.ensures ∙ c.loop-log.invariant.joined ∙ ap (joined_from 0) (rows_are g c)

pub returns-clause-runs : goal.returns-clause-runs
returns-clause-runs g c = subst (AllRun g.K.ClusterName.script) (rows_are g c) c.loop-log.invariant.runs
