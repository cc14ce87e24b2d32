-- What a transaction of `add` operations becomes once one of its subtransactions fails: those that the failed one sent
-- don't run, and what the others do is compensated.
use Rattle.std.specs.Prelude.{ℕ, Bool, true, false, not, if◌then◌else◌, ◌+◌, ◌==◌, ◌&&◌, ◌||◌, List, [], ◌∷◌, ◌++◌, fold, length, get_or, take, map, pos, ◌-ℤ◌, count_by}
use Rattle.std.specs.List.{list_all}
use Rattle.commute_ops.specs.declared.kinds.Op.TheVariants as ops
use Rattle.script_parts.specs.declared.parts.Deed.{Deed}
use Rattle.script_parts.specs.declared.parts.Deed.TheVariants as deeds
use Rattle.script_parts.specs.declared.parts.Sub.{Sub}
use Rattle.script_parts.specs.declared.parts.SubOp.{SubOp}

-- the subtransaction after those of which this is known goes: it isn't the root, and its parent is the failed one or
-- goes itself
abbrev pub goes_next : ℕ → List Bool → Sub → Bool
goes_next failed goes x = not (length goes == 0) && (x.parent.0 == failed || get_or goes x.parent.0 false)

-- which subtransactions go, if this is known of those before these
abbrev pub goes_from : ℕ → List Bool → List Sub → List Bool
goes_from failed goes subs = fold (λ known x. known ++ goes_next failed known x ∷ []) goes subs

-- how many of those before subtransaction k stay, which is its new number
abbrev pub new_number : List Bool → ℕ → ℕ
new_number goes k = count_by not (take k goes)

-- subtransaction k if it stays, with its parent's new number; the failed one does nothing
abbrev pub staying : ℕ → List Bool → ℕ → Sub → Sub
staying failed goes k x = record {
  parent = record { 0 = new_number goes x.parent.0 };
  node = x.node;
  ops = if k == failed then [] else x.ops;
}

-- subtransaction k, if it stays
abbrev pub stays : ℕ → List Bool → ℕ → Sub → List Sub
stays failed goes k x = if get_or goes k false then [] else staying failed goes k x ∷ []

-- an `add` with the other sign; any other deed as it is
abbrev pub negated_deed : Deed → Deed
negated_deed (deeds.Apply (ops.Add a)) = deeds.Apply (ops.Add (pos 0 -ℤ a))
negated_deed deed = deed

abbrev pub negated : SubOp → SubOp
negated o = record { item = o.item; deed = negated_deed o.deed }

-- what undoes a subtransaction: a child of the failed one, at the same node
abbrev pub inverse : ℕ → List Bool → Sub → Sub
inverse failed goes x = record {
  parent = record { 0 = new_number goes failed };
  node = x.node;
  ops = map negated x.ops;
}

-- a subtransaction has something to undo: it stays, isn't the failed one, and has an operation
abbrev pub is_undone_sub : ℕ → List Bool → ℕ → Sub → Bool
is_undone_sub failed goes k x = not (get_or goes k false) && (not (k == failed) && not (length x.ops == 0))

-- what undoes subtransaction k, if there is something to undo
abbrev pub undoes : ℕ → List Bool → ℕ → Sub → List Sub
undoes failed goes k x = if is_undone_sub failed goes k x then inverse failed goes x ∷ [] else []

-- what there is for each, by its number, of those from number k on, in order
abbrev pub each_from : (ℕ → Sub → List Sub) → ℕ → List Sub → List Sub
each_from f k [] = []
each_from f k (x ∷ xs) = f k x ++ each_from f (k + 1) xs

-- the compensated form of a transaction of which this subtransaction fails: those that stay, and then what undoes them
abbrev pub undone : List Sub → ℕ → List Sub
undone subs failed =
    let goes = goes_from failed [] subs in each_from (stays failed goes) 0 subs ++ each_from (undoes failed goes) 0 subs

-- an operation is an `add`
abbrev pub is_add : Deed → Bool
is_add (deeds.Apply (ops.Add a)) = true
is_add _ = false

-- all operations are `add`
abbrev pub ops_add : List SubOp → Bool
ops_add os = list_all (λ o. is_add o.deed) os

abbrev pub subs_add : List Sub → Bool
subs_add ss = list_all (λ s. ops_add s.ops) ss
