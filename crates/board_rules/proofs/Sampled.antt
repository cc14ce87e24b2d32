-- One entry with the Did of a read transaction and the last Did of an update transaction of its version. No run has
-- such an entry, and what is right in it depends on the order of its acts.
use Rattle.std.proofs.Common.{◌≡◌, zero, suc, List, [], ◌∷◌, ◌++◌, refl, ap, subst, Some}
use Rattle.std.specs.Prelude.{ℤ, pos, false, None}
use Rattle.tv_base.specs.declared.numbers.ItemNo.{ItemNo}
use Rattle.commute_ops.specs.declared.kinds.Kind.TheVariants.{Sum as SumKind}
use Rattle.commute_ops.specs.declared.kinds.Op.TheVariants.{Add}
use Rattle.commute_ops.specs.declared.value.Value.{Value}
use Rattle.commute_ops.specs.declared.value.Value.TheVariants.{Sum}
use Rattle.letter_types.specs.declared.acts.Act.{Act}
use Rattle.letter_types.specs.declared.acts.Act.TheVariants.{Born, Did}
use Rattle.letter_types.specs.declared.bodies.Body.TheVariants.{Go}
use Rattle.letter_types.specs.declared.entries.Entry.{Entry}
use Rattle.script_parts.specs.ScriptData.{ScriptData, ops_of}
use Rattle.script_parts.specs.declared.parts.Deed.{Deed}
use Rattle.script_parts.specs.declared.parts.Deed.TheVariants.{Apply, Get}
use Rattle.script_parts.specs.declared.parts.Form.TheVariants.{One}
use Rattle.script_parts.specs.declared.parts.Sub.{Sub}
use Rattle.script_parts.specs.declared.parts.TreeKind.TheVariants.{Update, Read}
use Rattle.board_rules.specs.Histories.{Place, places_at}
use Rattle.board_rules.specs.Moves.{OneByOne}
use Rattle.board_rules.specs.Right.{IsRight, IsRightAct, IsShown}
use Rattle.board_rules.specs.Worth.{worth}

-- a root at node 0 with one operation on item 0
abbrev root : Deed → List Sub
root deed = record {
  parent = record { 0 = 0 };
  node = record { 0 = 0 };
  ops = record { item = record { 0 = 0 }; deed = deed } ∷ [];
} ∷ []

-- an item with 0; tree 0 adds 5 to it, and tree 1 reads it
abbrev pub both : ScriptData
both = record {
  form = One;
  nodes = 1;
  items = record { name = 97 ∷ []; node = record { 0 = 0 }; kind = SumKind; initial = pos 0 } ∷ [];
  trees = record { name = 117 ∷ []; kind = Update; subs = root (Apply (Add (pos 5))); written = None }
      ∷ record { name = 114 ∷ []; kind = Read; subs = root Get; written = None } ∷ [];
  rows = [];
  picks = [];
  begun = false;
}

-- an entry of node 0 in which both trees are born in version 1, before these acts
abbrev pub entry_with : List Act → Entry
entry_with acts = record {
  stamp = record { 0 = 1 };
  actor = record { 0 = 0 };
  took = record {
    id = record { stamp = record { 0 = 0 }; place = 0 };
    from = record { 0 = 2 };
    to = record { 0 = 0 };
    body = Go;
  };
  sent = [];
  acts = Born (record { 0 = 0 }) (record { 0 = 1 }) ∷ Born (record { 0 = 1 }) (record { 0 = 1 }) ∷ acts;
}

-- the update is done, and the read gives n
abbrev pub updated : Act
updated = Did (record { 0 = 0 }) (record { 0 = 0 }) []

abbrev pub has_read : ℤ → Act
has_read n = Did (record { 0 = 1 }) (record { 0 = 0 }) ((record { 0 = 0 }, Sum (record { 0 = n })) ∷ [])

abbrev pub read_first : ℤ → List Entry
read_first n = entry_with (has_read n ∷ updated ∷ []) ∷ []

abbrev pub update_first : ℤ → List Entry
update_first n = entry_with (updated ∷ has_read n ∷ []) ∷ []

-- the number that is given first
abbrev given : List (ItemNo × Value) → ℤ
given ((x, Sum n) ∷ rest) = n.0
given _ = pos 0

-- the acts of one entry are right
abbrev AreRight : Entry → Type 0
AreRight e = OneByOne (λ (xs : List Place) (x : Place). IsRightAct both [] (xs ++ x ∷ []) x.act) [] (places_at e)

one_right : (e : Entry) → AreRight e → IsRight both (e ∷ [])
one_right e right zero x here = let same : e ≡ x = cc here in subst AreRight same right
one_right e right (suc n) x here = absurd (cc here)

-- Where the read comes first, it is right to give 0. With the whole entry the item is worth 5, which would be wrong.
pub right_before : IsRight both (read_first (pos 0))
right_before = one_right (entry_with (has_read (pos 0) ∷ updated ∷ [])) (tt, (tt, ((λ read. refl), ((λ read. absurd (cc read)), tt))))

pub worth_with_entry : worth both (read_first (pos 0)) 0 1 ≡ Sum (record { 0 = pos 5 })
worth_with_entry = refl

pub wrong_with_entry : IsShown (worth both (read_first (pos 0))) (ops_of both 1 0)
    ((record { 0 = 0 }, Sum (record { 0 = pos 0 })) ∷ []) (Some (record { 0 = 1 })) → ⊥
wrong_with_entry is = let same : pos 0 ≡ pos 5 = ap given is in absurd (cc same)

pub wrong_before : IsRight both (read_first (pos 5)) → ⊥
wrong_before right =
    let acts : AreRight (entry_with (has_read (pos 5) ∷ updated ∷ [])) = right 0 _ refl in
    let same : pos 5 ≡ pos 0 = ap given (acts.1.1.0 refl) in
    absurd (cc same)

-- Where the update comes first, it is right to give 5.
pub right_behind : IsRight both (update_first (pos 5))
right_behind = one_right (entry_with (updated ∷ has_read (pos 5) ∷ [])) (tt, (tt, ((λ read. absurd (cc read)), ((λ read. refl), tt))))
