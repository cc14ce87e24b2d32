use Rattle.std.proofs.Common.{◌≡◌, All, List, [], ◌∷◌, ◌++◌, sym, subst, rules}
use Rattle.std.proofs.lemmas.List.Elements.{All-append, All-from_recursion}
use Rattle.stamp_post.specs.Shown.{ReceiptData}
use Rattle.thread_tests.proofs.letters.keep.Goals as goal

pub returns : goal.returns
returns g c =
    let P : ReceiptData → Type 0 = λ r. r.post ≡ g.K.PostName.post in
    let more : c.push.new.self ≡ c.args.receipts.now ++ c.args.receipt ∷ [] = search rules in
    subst (λ (rs : List ReceiptData). All P rs) (sym more)
    (All-append P c.args.receipts.now (c.args.receipt ∷ []) c.requires.all (All-from_recursion P (c.args.receipt ∷ []) (c.requires.one, tt)))
