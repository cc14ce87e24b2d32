use Rattle.std.proofs.Common.{◌≡◌, ℕ, List, length, ap, ◌∙◌}
use Rattle.std.specs.Prelude.{filter, replicate}
use Rattle.tv_base.specs.declared.numbers.TreeNo.{TreeNo}
use Rattle.letter_types.specs.declared.entries.Entry.{Entry}
use Rattle.tx_trees.specs.ScriptData.{ScriptData}
use Rattle.tx_trees.specs.declared.parts.Tree.{Tree}
use Rattle.board_model.specs.declared.serial.Member.{Member}
use Rattle.board_model.specs.declared.standings.Standing.{Standing}
use Rattle.board_model.specs.declared.tallies.Tally.{Tally}
use Rattle.board_model.specs.inside.Closed.{Closed, none_closed}
use Rattle.board_model.specs.inside.Closed.{closed_back}
use Rattle.board_rules.specs.Histories.{places_of}
use Rattle.board_model.specs.SerialList.{is_of_version, trees_of_members}
use Rattle.board_model.specs.inside.SerialList.{found_back}
use Rattle.board_model.specs.Standings.{standings_of}
use Rattle.board_model.specs.inside.Tallies.{blank, noted_back, stood_by}
use Rattle.board_model.proofs.Back.{found_all, length-noted_back, stood_all}
use Rattle.board_model.proofs.ByVersion.{is_serial}
use Rattle.board_model.proofs.serial.outcomes_of.Goals as goal

pub stood_by-requires : goal.stood_by-requires
stood_by-requires c =
    let h : List Entry = c.args.history.now in
    let n : ℕ = length c.trees-trees.result.now in
    ap (λ (z : List Tally). length z)
    (c.deref.ensures.value ∙ c.in_ok-note_entries.ensures.rows ∙ ap (λ (z : List Tally). noted_back (places_of h) z) c.in_ok-rows.ensures)
    ∙ length-noted_back (places_of h) n

pub returns-clause-standings : goal.returns-clause-standings
returns-clause-standings c =
    let h : List Entry = c.args.history.now in
    let ts : List Tree = c.trees-trees.result.now in
    let rows : c.deref.result.now ≡ noted_back (places_of h) (replicate (length ts) blank)
    = c.deref.ensures.value ∙ c.in_ok-note_entries.ensures.rows ∙ ap (λ (z : List Tally). noted_back (places_of h) z) c.in_ok-rows.ensures in
    c.in_ok-standings.ensures
    ∙ ap (λ (z : List Tally). stood_by z ts) rows
    ∙ ap (λ (z : List Tree). stood_by (noted_back (places_of h) (replicate (length z) blank)) z) c.trees-trees.ensures.trees
    ∙ stood_all c.args.script.now c.args.history.now c.trees-trees.ensures.valid

pub returns-clause-serial : goal.returns-clause-serial
returns-clause-serial c =
    let s : ScriptData = c.args.script.now in
    let h : List Entry = c.args.history.now in
    let ts : List Tree = c.trees-trees.result.now in
    let standings : c.items.result.now ≡ standings_of s h
    = c.items.ensures.items ∙ returns-clause-standings c in
    let closed : c.note_entries.new.closings ≡ closed_back s (places_of h) (none_closed (length s.trees))
    = c.in_ok-note_entries.ensures.closings
    ∙ ap (λ (z : Closed). closed_back s (places_of h) z) c.in_ok-closings.ensures
    ∙ ap (λ (z : List Tree). closed_back s (places_of h) (none_closed (length z))) c.trees-trees.ensures.trees in
    let order : c.order.result.now ≡ (closed_back s (places_of h) (none_closed (length s.trees))).order
    = c.order.ensures ∙ ap (λ (z : Closed). z.order) closed in
    let found : c.in_ok-members.members.items ≡ found_back s.trees (standings_of s h) (closed_back s (places_of h) (none_closed (length s.trees))).order
    = c.in_ok-members.ensures
    ∙ ap (λ (z : List Tree). found_back z c.items.result.now c.order.result.now) c.trees-trees.ensures.trees
    ∙ ap (λ (z : List Standing). found_back s.trees z c.order.result.now) standings
    ∙ ap (λ (z : List TreeNo). found_back s.trees (standings_of s h) z) order in
    is_serial s h c.in_ok-members.members.items c.in_ok-serial.serial c.in_ok-serial.ensures
    (λ (v : ℕ). ap (λ (z : List Member). trees_of_members (filter (is_of_version v) z)) found ∙ found_all s h v)
