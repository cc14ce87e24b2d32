use Rattle.std.proofs.Common.{◌≡◌, ◌+◌, ℕ, List, [], ◌∷◌, length, sym, ap, subst, ◌∙◌, arith, Some}
use Rattle.std.specs.Prelude.{slice_get}
use Rattle.std.proofs.lemmas.List.{length-append}
use Rattle.std.proofs.lemmas.Option.{slice_get-get_or}
use Rattle.script_parts.specs.declared.parts.ItemRow.{ItemRow}
use Rattle.script_parts.specs.Valid.{IsItem}
use Rattle.script_parts.proofs.SubsOf.{all_at}
use Rattle.board_rules.specs.Worth.{first_value}
use Rattle.worth_steps.specs.Kept.{AreWorths, WorthsData}
use Rattle.board_judge.specs.Notes.{AreKnown}
use Rattle.board_judge.proofs.Judging.{one_first}
use Rattle.board_judge.proofs.Rewritten.{known_kinds}
use Rattle.board_judge.proofs.judge.first_worths.Goals as goal

pub worths_of-requires : goal.worths_of-requires
worths_of-requires c =
    let items = c.items-items.result.now in
    let i = c.loop-item.item-index in
    let at = slice_get-get_or items i _ c.loop-item-test.true ∙ ap (λ (z : ItemRow). Some z) (sym c.item-item.is) in
    (all_at (IsItem c.args.script.now.nodes) c.args.script.now.items i c.item-item.result c.items-items.ensures.valid.items
    (sym (ap (λ (rows : List ItemRow). slice_get rows i) c.items-items.ensures.items) ∙ at)).bag

pub loop-item-preserved : goal.loop-item-preserved
loop-item-preserved c =
    let items = c.items-items.result.now in
    let i = c.loop-item.item-index in
    let ws = c.loop-item.worths.items in
    let at = slice_get-get_or items i _ c.loop-item-test.true ∙ ap (λ (z : ItemRow). Some z) (sym c.item-item.is) in
    let many = length-append ws (c.worths_of.result ∷ []) in
    let count : length ws ≡ i = c.loop-item.invariant.0 in
    subst (λ (us : List WorthsData). (length us ≡ i + 1) × ((x : ℕ) (w : WorthsData) → slice_get us x ≡ Some w → AreWorths (first_value (slice_get items x)) [] w))
    (sym c.in_ok-push.ensures.items)
    (omega (arith, many, count), one_first items i c.item-item.result ws c.worths_of.result count at c.loop-item.invariant.1 c.worths_of.ensures)

all_worths : goal.returns-clause-worths
all_worths c =
    let is = c.items-items.ensures.items in
    let all : length c.items-items.result.now ≡ length c.args.script.now.items = ap length is in
    record {
      count = let so = c.loop-item.invariant.0 in let to = c.loop-item-test.false in let end = c.loop-item.auto.item-index-end in omega (arith, all, so, to, end);
      each = λ x w at. subst (λ (items : List ItemRow). AreWorths (first_value (slice_get items x)) [] w) is (c.loop-item.invariant.1 x w at);
    }

pub returns-clause-worths : goal.returns-clause-worths
returns-clause-worths c = all_worths c

pub returns-clause-kinds : goal.returns-clause-kinds
returns-clause-kinds c =
    let known : AreKnown c.args.script.now [] c.loop-item.worths.items = record {
      valid = c.items-items.ensures.valid;
      run = λ i y at. absurd (cc at);
      worths = all_worths c;
    } in
    known_kinds c.args.script.now [] c.loop-item.worths.items known
