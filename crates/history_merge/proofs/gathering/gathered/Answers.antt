use Rattle.std.proofs.Common.{◌≡◌, ℕ, List, ◌++◌, length, map, refl, sym, ap, ◌∙◌, arith}
use Rattle.std.proofs.lemmas.List.{length-map}
use Rattle.letter_types.specs.declared.entries.Entry.{Entry}
use Rattle.stamp_post.specs.Shown.{receipt_joined, seat_joined}
use Rattle.history_merge.specs.OwnLogs.{LogData}
use Rattle.history_merge.proofs.Gatherings.{all_counted, finishes_as, whole_log}
use Rattle.history_merge.proofs.gathering.gathered.Given.{Over}
use Rattle.history_merge.proofs.gathering.gathered.Goals as goal

pub gather-found-requires-clause-gatherer : goal.gather-found-requires-clause-gatherer
gather-found-requires-clause-gatherer g c = c.into_parts-gatherer.ensures.post ∙ sym c.requires.post

-- as many entries are recorded as there are postings
counted : (g : Over) (c : goal.After-gather-found g) → length c.into_parts-gatherer.result.1 ≡ c.gather-found.result.count
counted g c =
    let rows : List (List Entry) = map (λ (x : LogData). x.entries) c.args.logs.items in
    let actors : ℕ = g.K.PostName.post.actors in
    let known = c.into_parts-gatherer.result.0.known ++ map receipt_joined c.args.receipts in
    let whole = whole_log actors c.args.post.actors c.gather-found.result.count (map seat_joined c.seats_of-seats.result) rows known
    (ap (λ p. p.actors) c.requires.post) c.seats_of-seats.ensures.joined c.gather-found.ensures
    (length-map c.args.logs.items (λ (x : LogData). x.entries) ∙ c.requires.actors.0) (omega (arith, c.requires.actors.1)) in
    ap (length {A = Entry}) c.into_parts-gatherer.ensures.entries ∙ c.requires.whole
    ∙ sym (all_counted (λ (x : LogData). x.entries) c.gather-found.result.count rows c.args.logs.items whole refl)

pub returns : goal.returns
returns g c =
    let s = g.K.ClusterName.script in
    let rows : List (List Entry) = map (λ (x : LogData). x.entries) c.args.logs.items in
    let actors : ℕ = g.K.PostName.post.actors in
    let all = finishes_as s actors c.args.post.actors c.gather-found.result.count (map seat_joined c.seats_of-seats.result) rows
    c.into_parts-gatherer.result.0.known c.args.receipts c.into_parts-gatherer.result.1
    (ap (λ p. p.actors) c.requires.post) c.seats_of-seats.ensures.joined c.gather-found.ensures c.seats_of-seats.ensures.runs
    (length-map c.args.logs.items (λ (x : LogData). x.entries) ∙ c.requires.actors.0) c.requires.actors.1
    (counted g c) c.into_parts-gatherer.ensures.recorded in
    record { run = all.0; told = all.1 }
