-- A name's bytes in a field of 32 bytes, with zeros after them.
use Rattle.std.specs.Prelude.{ℕ, ◌≡◌, ◌<◌, ◌≤◌, List, ◌++◌, length, take, replicate}
use Rattle.tv_base.specs.declared.name.Name.TheInside.{Inside}

-- the bytes that count
abbrev pub name_bytes : Inside → List ℕ
name_bytes n = take n.len n.held

-- these bytes, and zeros up to 32
abbrev pub padded : List ℕ → List ℕ
padded bytes = take 32 (bytes ++ replicate 32 0)

abbrev pub held_as : List ℕ → Inside
held_as bytes = record { held = padded bytes; len = length bytes }

pub record IsPadded (n : Inside) : Type 0 where
  pub some : 0 < n.len
  pub small : n.len ≤ 32
  pub zeros : n.held ≡ padded (take n.len n.held)
