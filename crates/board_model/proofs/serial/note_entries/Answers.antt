use Rattle.std.proofs.Common.{ℕ, ◌-◌, List, drop, ap, sym, ◌∙◌, arith}
use Rattle.letter_types.specs.declared.entries.Entry.{Entry}
use Rattle.board_model.specs.inside.Closed.{Closed}
use Rattle.board_model.specs.inside.Closed.{closed_back}
use Rattle.board_rules.specs.Histories.{Place, places_at, places_of}
use Rattle.board_model.specs.declared.tallies.Tally.{Tally}
use Rattle.board_model.specs.inside.Tallies.{noted_back}
use Rattle.board_model.proofs.Back.{closed_back-append, entry_back, noted_back-append}
use Rattle.board_model.proofs.serial.note_entries.Goals as goal

pub loop-k-preserved : goal.loop-k-preserved
loop-k-preserved c =
    let e : Entry = c.entry-entry.result in
    let es : List Entry = c.args.history.now in
    let n : ℕ = c.len-count.result in
    let rest : List Place = places_of (drop (n - c.loop-k.k) es) in
    let here = entry_back es n c.loop-k.k e c.len-count.ensures.len (omega arith) c.entry-entry.ensures in
    record {
      rows =
          c.in_ok-note_acts.ensures.rows
          ∙ ap (λ (rows : List Tally). noted_back (places_at e) rows) c.loop-k.invariant.rows
          ∙ sym (noted_back-append (places_at e) rest c.args.rows.now.items)
          ∙ sym (ap (λ (xs : List Place). noted_back xs c.args.rows.now.items) here);
      closings =
          c.in_ok-note_acts.ensures.closings
          ∙ ap (λ (z : Closed). closed_back c.args.script.now (places_at e) z) c.loop-k.invariant.closings
          ∙ sym (closed_back-append c.args.script.now (places_at e) rest c.args.closings.now)
          ∙ sym (ap (λ (xs : List Place). closed_back c.args.script.now xs c.args.closings.now) here);
    }
