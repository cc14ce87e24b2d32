-- What a read transaction got, by the promise: the values of an act of the history are right. And whether there is such
-- an act.
use Rattle.std.proofs.Common.{◌≡◌, ⊎_elim, ℕ, zero, suc, ◌<◌, ◌||◌, Bool, List, [], ◌∷◌, ◌++◌, length, map, take, get_or, arith, refl, sym, ap, ◌∙◌, subst}
use Rattle.std.specs.Prelude.{Contains, IsTrue, Some, slice_get}
use Rattle.std.specs.List.{list_any}
use Rattle.std.proofs.lemmas.List.Elements.{Contains-append_cases}
use Rattle.std.proofs.lemmas.List.Folds.{list_any-append}
use Rattle.tv_base.specs.declared.numbers.ItemNo.{ItemNo}
use Rattle.tv_base.specs.declared.numbers.SubNo.{SubNo}
use Rattle.tv_base.specs.declared.numbers.TreeNo.{TreeNo}
use Rattle.commute_ops.specs.declared.value.Value.{Value}
use Rattle.letter_types.specs.declared.acts.Act.{Act}
use Rattle.letter_types.specs.declared.acts.Act.TheVariants.{Did}
use Rattle.letter_types.specs.declared.entries.Entry.{Entry}
use Rattle.run_history.specs.Messages.{acts_of}
use Rattle.tx_trees.specs.ScriptData.{ScriptData, ops_of, reads}
use Rattle.board_rules.specs.Histories.{Place, does, places_at, places_of, version_of, was_done}
use Rattle.board_rules.specs.Moves.{OneByOne}
use Rattle.board_rules.specs.Right.{IsShown}
use Rattle.board_rules.specs.Worth.{worth}
use Rattle.board_rules.proofs.Places.{was_done-append}
use Rattle.headline.specs.Headline.{HasHeadline}
use Rattle.run_laws.specs.Stays.{Shows}

-- what holds of each of an entry's acts holds of one that is at a place
act_at : (Q : Act → Type 0) (node : ℕ) (xs : List Place) (acts : List Act) (k : ℕ) (a : Act)
    → OneByOne (λ (ys : List Place) (y : Place). Q y.act) xs (map (λ (b : Act). record { node = node; act = b }) acts)
    → k < length acts → get_or acts k a ≡ a → Q a
act_at Q node xs [] k a all lt at = absurd (omega arith)
act_at Q node xs (b ∷ acts) zero a all lt at = subst Q at all.0
act_at Q node xs (b ∷ acts) (suc k) a all lt at =
    act_at Q node (xs ++ record { node = node; act = b } ∷ []) acts k a all.1 (omega arith) at

-- an act of a history is one of those of an entry
in_entry : (h : List Entry) (a : Act) → Contains (acts_of h) a
    → (n : ℕ) × ((e : Entry) × ((slice_get h n ≡ Some e) × Contains e.acts a))
in_entry [] a (i, lt, at) = absurd (omega arith)
in_entry (e ∷ h) a among =
    ⊎_elim (λ here. (zero, (e, (refl, here))))
    (λ later. let found = in_entry h a later in (suc found.0, (found.1.0, (found.1.1.0, found.1.1.1))))
    (Contains-append_cases e.acts (acts_of h) a among)

-- the values of one of the acts of a history, which is one of a read tree
pub got_right : (s : ScriptData) (h : List Entry) (t : TreeNo) (k : SubNo) (values : List (ItemNo × Value)) → HasHeadline s h
    → IsTrue (reads s t.0) → Contains (acts_of h) (Did t k values)
    → IsShown (worth s h) (ops_of s t.0 k.0) values (version_of h t.0)
got_right s h t k values promised read among =
    let (n, one) = in_entry h (Did t k values) among in
    let (e, there) = one in
    let (i, small, found) = there.1 in
    act_at (λ (a : Act). Shows (worth s h) s h a) e.actor.0 (places_of (take n h)) e.acts i (Did t k values)
    (promised.reads n e there.0) small found read

-- whether a subtransaction was done by the acts of one entry
acts_done : (t k node : ℕ) (acts : List Act) → was_done t k (map (λ (a : Act). record { node = node; act = a }) acts) ≡ list_any (does t k) acts
acts_done t k node [] = refl
acts_done t k node (a ∷ acts) = ap (λ (b : Bool). does t k a || b) (acts_done t k node acts)

-- whether it was done by the acts of a history
pub done_in : (t k : ℕ) (h : List Entry) → list_any (does t k) (acts_of h) ≡ was_done t k (places_of h)
done_in t k [] = refl
done_in t k (e ∷ h) =
    list_any-append (does t k) e.acts (acts_of h)
    ∙ ap (λ (b : Bool). list_any (does t k) e.acts || b) (done_in t k h)
    ∙ ap (λ (b : Bool). b || was_done t k (places_of h)) (sym (acts_done t k e.actor.0 e.acts))
    ∙ sym (was_done-append t k (places_at e) (places_of h))
