-- What was opened or held is taken back exactly.
use Rattle.std.proofs.Common.{◌≡◌, ℕ, ap, ◌∙◌, Some, None}
use Rattle.tv_base.specs.declared.numbers.TreeNo.{TreeNo}
use Rattle.tv_base.specs.declared.numbers.Version.{Version}
use Rattle.tree_home.proofs.Ascending.{same_entries}
use Rattle.tree_home.proofs.Maps.{put_back}
use Rattle.tree_home.specs.HeldAnswers.{HeldAnswers, held_answers, held_for, held_in, holding}
use Rattle.tree_home.specs.Homes.{HomesData, OpenTrees, begun, forgotten, home_in, new_tree, open_trees}
use Rattle.tree_home.specs.Maps.{AreAscending, put_at}
use Rattle.tree_home.specs.declared.homes.Answered.{Answered}

-- homes of the same open trees and held answers
abbrev same_homes : (h g : HomesData) → h.opened ≡ g.opened → h.held ≡ g.held → h ≡ g
same_homes h g opened held = λ i. record { opened = opened i; held = held i }

-- an answer that was held is taken back
pub unheld : (a : Answered) (n : ℕ) (old mid new : HomesData) → held_in a.tree (held_answers old) ≡ None
    → held_answers mid ≡ holding a n (held_answers old) → mid.opened ≡ old.opened
    → held_answers new ≡ put_at a.tree.0 None (held_answers mid) → new.opened ≡ mid.opened
    → AreAscending old.held → AreAscending new.held → new ≡ old
unheld a n old mid new none hold opened back still up up' =
    same_homes new old (still ∙ opened)
    (same_entries new.held old.held up' up
    (back ∙ ap (λ (hs : HeldAnswers). put_at a.tree.0 None hs) hold
    ∙ put_back a.tree.0 (Some (held_for n a)) None (held_answers old) none))

-- a tree that was opened is forgotten
pub unopened : (t : TreeNo) (n : ℕ) (v : Version) (old mid new : HomesData) → home_in t (open_trees old) ≡ None
    → open_trees mid ≡ begun t n v (open_trees old) → mid.held ≡ old.held
    → open_trees new ≡ forgotten t (open_trees mid) → new.held ≡ mid.held
    → AreAscending old.opened → AreAscending new.opened → new ≡ old
unopened t n v old mid new none begin held forget still up up' =
    same_homes new old
    (same_entries new.opened old.opened up' up
    (forget ∙ ap (λ (hs : OpenTrees). forgotten t hs) begin
    ∙ put_back t.0 (Some (new_tree n v)) None (open_trees old) none))
    (still ∙ held)
