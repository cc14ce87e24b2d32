use Rattle.std.proofs.Common.{◌≡◌, ◌∙◌, ◌++◌, ◌∷◌, [], Bool, List, true, false, ap, sym, ℕ}
use Rattle.std.specs.Prelude.{not, if◌then◌else◌}
use Rattle.std.specs.List.{list_any}
use Rattle.std.specs.Str.{bytes_eq}
use Rattle.tx_trees.proofs.name_index.NameIndex.add_new.Goals as goal

there : (b new : Bool) → new ≡ not b → b ≡ not new
there true new e = sym (ap not e)
there false new e = sym (ap not e)

names_are : (b new : Bool) (names more was : List (List ℕ)) → new ≡ not b → names ≡ (if b then was else more) → names ≡ (if new then more else was)
names_are true new names more was e h = h ∙ sym (ap (λ (x : Bool). let r : List (List ℕ) = if x then more else was in r) e)
names_are false new names more was e h = h ∙ sym (ap (λ (x : Bool). let r : List (List ℕ) = if x then more else was in r) e)

pub returns-clause-new : goal.returns-clause-new
returns-clause-new c =
    let was = c.self.inside.names.keys in
    ap (list_any (bytes_eq c.args.name)) (sym c.self.view_is) ∙ there (list_any (bytes_eq c.args.name) was) c.in_ok-added.added c.in_ok-added.ensures.added

pub returns-clause-ok : goal.returns-clause-ok
returns-clause-ok c =
    let name = c.args.name in
    let was = c.self.inside.names.keys in
    names_are (list_any (bytes_eq name) was) c.in_ok-added.added _ (was ++ name ∷ []) was c.in_ok-added.ensures.added c.in_ok-added.ensures.keys
    ∙ ap (λ (x : List (List ℕ)). let r : List (List ℕ) = if c.in_ok-added.added then x ++ name ∷ [] else x in r) c.self.view_is
