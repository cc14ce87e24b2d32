-- How many versions a collection takes together. These are the definitions that private code alone cites.
use Rattle.std.specs.Prelude.{ℕ, ◌+◌, [], ◌∷◌, if◌then◌else◌, nat_lt}
use Rattle.tv_base.specs.declared.numbers.Version.{Version}
use Rattle.item_versions.specs.Item.{Held}

-- how many versions come before the first above f
abbrev pub up_to : Version → Held → ℕ
up_to f [] = 0
up_to f (x ∷ xs) = if nat_lt f.0 x.0.0 then 0 else up_to f xs + 1
