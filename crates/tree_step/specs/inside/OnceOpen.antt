-- A tree that is to be opened is opened before all else. Proofs alone cite these definitions.
use Rattle.std.specs.Prelude.{Option, Some, None}
use Rattle.tree_step.specs.steps.Change.{Change, Tree}
use Rattle.tree_step.specs.steps.HomeChange.{HomeChange, Open, Note}
use Rattle.tree_step.specs.steps.CoreStep.{CoreStep}
use Rattle.tree_step.specs.declared.doing.Opening.{Opening}

-- the tree that is to be opened
abbrev pub opening_of : HomeChange → Option Opening
opening_of (Open t n v values) = Some (record { tree = t; subs = n; version = v })
opening_of _ = None

abbrev pub opening_in : Change → Option Opening
opening_in (Tree c) = opening_of c.home
opening_in _ = None

-- what is left once it is open: its root's notice is noted
abbrev pub home_once_open : HomeChange → HomeChange
home_once_open (Open t n v values) = Note t (record { 0 = 0 }) values
home_once_open home = home

abbrev pub changed_once_open : Change → Change
changed_once_open (Tree c) = Tree (record c { home = home_once_open c.home })
changed_once_open change = change

abbrev pub once_open : CoreStep → CoreStep
once_open p = record p { parts = record { change = changed_once_open p.parts.change; out = p.parts.out } }
