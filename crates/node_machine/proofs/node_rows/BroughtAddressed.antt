-- The message that another brings to its node, as a Wake does, is addressed to the node, and asks for what it is
-- deferred as.
use Rattle.std.proofs.Common.{◌≡◌, ℕ, ◌==◌, ◌&&◌, Bool, true, false, List, [], ◌∷◌, refl, sym, ap, ◌∙◌, subst, arith, cond, Some, None}
use Rattle.std.proofs.lemmas.Bool.Decides.{nat_tests}
use Rattle.tv_base.specs.declared.numbers.SubNo.{SubNo}
use Rattle.tv_base.specs.declared.numbers.TreeNo.{TreeNo}
use Rattle.letter_types.specs.declared.bodies.Body.{Body}
use Rattle.letter_types.specs.declared.bodies.Body.TheVariants.{Root, Sub as SubLetter, Wake}
use Rattle.letter_types.specs.declared.entries.Letter.{Letter}
use Rattle.letter_types.specs.declared.kept.KeptLetter.{KeptLetter}
use Rattle.letter_types.specs.Kept.{brought, first_called, is_called, is_called_for}
use Rattle.world_model.specs.Keeping.{AreKeptAt, AsksFor, IsKeptAt}

-- a called message of subtransaction k of tree t that node p defers
pub record IsCalledAt (p : ℕ) (t : TreeNo) (k : SubNo) (r : Letter) : Type 0 where
  pub to : r.to.0 ≡ p
  pub asks : AsksFor t k r.body

both_same : (called : Bool) (a b c d : ℕ) → (called && ((a == c) && (b == d))) ≡ true → (a ≡ c) × (b ≡ d)
both_same called a b c d is = (grind (arith, nat_tests), grind (arith, nat_tests))

called_here : (p : ℕ) (t : TreeNo) (k : SubNo) (x : KeptLetter) → IsKeptAt p x → is_called_for t k x ≡ true
    → IsCalledAt p t k x.letter
called_here p t k x kept is =
    let same = both_same (is_called x.why) x.tree.0 x.sub.0 t.0 k.0 is in
    let tree : x.tree ≡ t = λ i. record { 0 = same.0 i } in
    let sub : x.sub ≡ k = λ i. record { 0 = same.1 i } in
    record {
      to = kept.to;
      asks = subst (λ (u : TreeNo). AsksFor u k x.letter.body) tree
          (subst (λ (j : SubNo). AsksFor x.tree j x.letter.body) sub kept.asks);
    }

called_by : (p : ℕ) (t : TreeNo) (k : SubNo) (x : KeptLetter) (xs : List KeptLetter) (r : Letter) (test : Bool)
    → IsKeptAt p x → is_called_for t k x ≡ test → (first_called t k xs ≡ Some r → IsCalledAt p t k r)
    → cond test (Some x.letter) (first_called t k xs) ≡ Some r → IsCalledAt p t k r
called_by p t k x xs r true kept is rest at =
    let same : x.letter ≡ r = cc in
    subst (λ (l : Letter). IsCalledAt p t k l) same (called_here p t k x kept is)
called_by p t k x xs r false kept is rest at = rest at

pub called_at : (p : ℕ) (t : TreeNo) (k : SubNo) (xs : List KeptLetter) (r : Letter) → AreKeptAt p xs
    → first_called t k xs ≡ Some r → IsCalledAt p t k r
called_at p t k [] r kept at = let no : None ≡ Some r = at in cc
called_at p t k (x ∷ xs) r kept at =
    called_by p t k x xs r (is_called_for t k x) kept.0 refl (called_at p t k xs r kept.1) at

-- what a message of this body brings to the message's addressee is addressed to it too
brought_by : (kept : List KeptLetter) (l r : Letter) (b : Body) → AreKeptAt l.to.0 kept → brought kept l b ≡ Some r
    → r.to.0 ≡ l.to.0
brought_by kept l r (Wake t k) at is = (called_at l.to.0 t k kept r at is).to
brought_by kept l r _ at is =
    let some : Some l ≡ Some r = is in
    let same : r ≡ l = cc in
    ap (λ (m : Letter). m.to.0) same

pub brought_to : (kept : List KeptLetter) (l r : Letter) → AreKeptAt l.to.0 kept → brought kept l l.body ≡ Some r
    → r.to.0 ≡ l.to.0
brought_to kept l r at is = brought_by kept l r l.body at is

-- a message asks for one subtransaction
pub one_tree : (t u : TreeNo) (k j : SubNo) (b : Body) → AsksFor t k b → AsksFor u j b → t ≡ u
one_tree t u k j (Root v) asks other = sym asks.0 ∙ other.0
one_tree t u k j (SubLetter v i w) asks other = sym asks.0 ∙ other.0
one_tree t u k j _ asks other = absurd asks

pub one_sub : (t u : TreeNo) (k j : SubNo) (b : Body) → AsksFor t k b → AsksFor u j b → k ≡ j
one_sub t u k j (Root v) asks other = let same : k.0 ≡ j.0 = asks.1 ∙ sym other.1 in λ i. record { 0 = same i }
one_sub t u k j (SubLetter v i w) asks other = sym asks.1 ∙ other.1
one_sub t u k j _ asks other = absurd asks
