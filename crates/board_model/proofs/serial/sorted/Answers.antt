use Rattle.std.proofs.Common.{◌≡◌, List, rules, sym, ◌∙◌, subst}
use Rattle.std.proofs.lemmas.List.Sorted.{answers_always, IsNonDecreasingBy-from_sort}
use Rattle.board_model.specs.declared.serial.Member.{Member}
use Rattle.board_model.specs.SerialList.{IsByVersion}
use Rattle.board_model.proofs.ByVersion.{stable_of, version_no}
use Rattle.board_model.proofs.serial.sorted.Goals as goal

pub returns : goal.returns
returns c =
    let keys = answers_always _ _ _ (λ f a r next called. search rules) in
    let sorted : List Member = c.sort_by_key.new.self.items in
    let same : c.in_ok-serial.serial ≡ sorted = c.in_ok-serial.ensures ∙ c.deref.ensures.value in
    subst (λ (ms : List Member). IsByVersion c.args.members.items ms) (sym same)
    (record {
      same = c.sort_by_key.ensures.permutation;
      ascending = IsNonDecreasingBy-from_sort version_no sorted (c.in_ok-sort_by_key.ensures.sorted version_no keys);
      stable = stable_of c.args.members.items sorted (c.sort_by_key.ensures.stable version_no keys);
    })
