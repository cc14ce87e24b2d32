use Rattle.std.proofs.Common.{◌≡◌, reverse, sym, ap, ◌∙◌, rules, tests}
use Rattle.std.specs.List.{list_any}
use Rattle.std.proofs.lemmas.Iterator.Adapters.{YieldsList-from_rev_slice}
use Rattle.std.proofs.lemmas.Iterator.Search.{any_from_yields_List}
use Rattle.std.proofs.lemmas.List.Sorted.{IsPermutation-reverse, list_any-IsPermutation}
use Rattle.board_rules.specs.Histories.{places_of}
use Rattle.board_rules.specs.Right.{finishes, has_finished}
use Rattle.history_merge.proofs.ClientEnds.{ends_among}
use Rattle.history_merge.proofs.ending.has_finished.Goals as goal

pub returns : goal.returns
returns c =
    let acts = c.acts.result.now in
    let found : c.any.result ≡ list_any finishes (reverse acts) =
    any_from_yields_List finishes _ _ c.any.result c.any.ensures.ran (YieldsList-from_rev_slice acts cc) (λ x b q k. search (rules, tests)) in
    let same : c.any.result ≡ has_finished (places_of c.args.history.now) =
    found ∙ sym (list_any-IsPermutation finishes acts (reverse acts) (IsPermutation-reverse acts))
    ∙ ap (list_any finishes) c.acts.ensures ∙ ends_among c.args.history.now in (
      (λ is. sym same ∙ is),
      (λ is. same ∙ is),
    )
