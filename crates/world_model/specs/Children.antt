-- The messages of a subtransaction to its children and to its transaction's home.
use Rattle.std.specs.Prelude.{if◌then◌else◌, ℕ, ◌==◌, ◌&&◌, ◌+◌, nat_lt, List, [], ◌∷◌, map}
use Rattle.script_parts.specs.declared.parts.Sub.{Sub}
use Rattle.letter_types.specs.declared.bodies.Body.TheVariants.{Sub as SubLetter, Done}
use Rattle.letter_types.specs.declared.bodies.Notice.{Notice}
use Rattle.letter_types.specs.declared.entries.Outgoing.{Outgoing}

-- what asks node q for subtransaction k of transaction t in version v
abbrev pub sub_letter : ℕ → ℕ → ℕ → ℕ → Outgoing
sub_letter q t k v =
    record { to = record { 0 = q }; body = SubLetter (record { 0 = t }) (record { 0 = k }) (record { 0 = v }) }

-- a Sub to each child of `parent`, if the list begins with subtransaction k
abbrev pub sub_letters : ℕ → ℕ → ℕ → ℕ → List Sub → List Outgoing
sub_letters t v parent k [] = []
sub_letters t v parent k (x ∷ xs) =
    if nat_lt parent k && (x.parent.0 == parent)
    then sub_letter x.node.0 t k v ∷ sub_letters t v parent (k + 1) xs
    else sub_letters t v parent (k + 1) xs

-- the notice of subtransaction k of transaction t to its home
abbrev pub done_letter : ℕ → ℕ → ℕ → ℕ → Notice → Outgoing
done_letter home t k v notice =
    record {
      to = record { 0 = home };
      body = Done (record { 0 = t }) (record { 0 = k }) (record { 0 = v }) notice;
    }

-- to whom messages go
abbrev pub addressees : List Outgoing → List ℕ
addressees os = map (λ o. o.to.0) os
