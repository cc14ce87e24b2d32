-- The numbers of nodes after one act more.
use Rattle.std.proofs.Common.{◌≡◌, ◌⊎◌, inl, inr, ℕ, ◌+◌, ◌<◌, ◌≤◌, ◌==◌, Bool, true, false, List, [], ◌∷◌, ◌++◌, length, refl, sym, ap, subst, ◌∙◌, arith, Option, Some, None}
use Rattle.std.specs.Prelude.{if◌then◌else◌, fold, ◌||◌, ◌&&◌, slice_set}
use Rattle.std.specs.Bool.{Decides}
use Rattle.std.specs.Option.{unwrap_or}
use Rattle.std.proofs.Math.Bool.{or-false}
use Rattle.std.proofs.lemmas.Bool.{cases_lt, eq-eqb, eqb-true, or_cases, or_left, or_right}
use Rattle.std.proofs.lemmas.Bool.Decides.{Decides-at, nat_tests}
use Rattle.std.proofs.lemmas.List.{get_or-set_other, get_or-set_same, set-get_or}
use Rattle.std.proofs.lemmas.List.Folds.{list_any-append}
use Rattle.std.proofs.lemmas.List.Sums.{fold-append}
use Rattle.tv_base.specs.declared.numbers.Version.{Version}
use Rattle.letter_types.specs.declared.acts.Act.{Act}
use Rattle.letter_types.specs.declared.acts.Act.TheVariants.{Born, Did, Turned, Showed, Swept, Finished, Waits, Parked, Voted, Freed, Decided, Applied}
use Rattle.letter_types.specs.declared.entries.Entry.{Entry}
use Rattle.script_parts.specs.ScriptData.{ScriptData}
use Rattle.board_rules.specs.ButCause.{IsMoveButCauseAt}
use Rattle.board_rules.specs.Gates.{was_swept}
use Rattle.board_rules.specs.Histories.{Place, version_or}
use Rattle.board_rules.specs.Moves.{low_after, number_after, showed_to, swept_to, turned_to}
use Rattle.board_rules.specs.Serial.{is_version}
use Rattle.board_tallies.specs.Board.{ShowsNode, first_numbers, numbers_at}
use Rattle.board_tallies.specs.inside.Noting.{nodes_with, numbers_with}
use Rattle.board_tallies.specs.declared.numbers.Numbers.{Numbers}

-- an act of an actor, as it stands in a list of acts
abbrev pub placed_at : ℕ → Act → Place
placed_at p act = record { node = p; act = act }

-- a number after one act more
number_next : (set : Act → Option Version) (start p q : ℕ) (act : Act) (xs : List Place) (b : Bool) → (p == q) ≡ b
    → fold (number_after set q) start (xs ++ placed_at p act ∷ [])
    ≡ (if b then version_or (fold (number_after set q) start xs) (set act) else fold (number_after set q) start xs)
number_next set start p q act xs b is =
    let n : ℕ = fold (number_after set q) start xs in
    fold-append (number_after set q) start xs (placed_at p act ∷ [])
    ∙ ap (λ (here : Bool). if here then version_or n (set act) else n) is

set_or : (o : Option Version) (v : Version) → (unwrap_or o v).0 ≡ version_or v.0 o
set_or None v = refl
set_or (Some w) v = refl

-- the numbers of the act's node are those with what it sets
here_next : (p q : ℕ) (act : Act) (xs : List Place) (n : Numbers) → (p == q) ≡ true → ShowsNode q xs n
    → ShowsNode q (xs ++ placed_at p act ∷ []) (numbers_with act n)
here_next p q act xs n is shows = record {
  update =
      set_or (turned_to act) n.update ∙ ap (λ (m : ℕ). version_or m (turned_to act)) shows.update
      ∙ sym (number_next turned_to 1 p q act xs true is);
  read =
      set_or (showed_to act) n.read ∙ ap (λ (m : ℕ). version_or m (showed_to act)) shows.read
      ∙ sym (number_next showed_to 0 p q act xs true is);
  low =
      set_or (swept_to act) n.low ∙ ap (λ (m : ℕ). version_or m (swept_to act)) shows.low
      ∙ sym (number_next swept_to 0 p q act xs true is);
}

-- and those of another node stay
there_next : (p q : ℕ) (act : Act) (xs : List Place) (n : Numbers) → (p == q) ≡ false → ShowsNode q xs n
    → ShowsNode q (xs ++ placed_at p act ∷ []) n
there_next p q act xs n is shows = record {
  update = shows.update ∙ sym (number_next turned_to 1 p q act xs false is);
  read = shows.read ∙ sym (number_next showed_to 0 p q act xs false is);
  low = shows.low ∙ sym (number_next swept_to 0 p q act xs false is);
}

-- the act sets no number
pub record SetsNone (act : Act) : Type 0 where
  pub update : turned_to act ≡ None
  pub read : showed_to act ≡ None
  pub low : swept_to act ≡ None

-- a move that sets a number is one of a node
pub sets_at_node : (s : ScriptData) (before : List Entry) (xs : List Place) (p : ℕ) (act : Act)
    → IsMoveButCauseAt s before xs p act → (p < s.nodes) ⊎ SetsNone act
sets_at_node s before xs p (Turned v) move = inl move.node
sets_at_node s before xs p (Showed v) move = inl move.node
sets_at_node s before xs p (Swept v) move = inl move.node
sets_at_node s before xs p (Born t v) move = inr (record { update = refl; read = refl; low = refl })
sets_at_node s before xs p (Did t k values) move = inr (record { update = refl; read = refl; low = refl })
sets_at_node s before xs p (Waits t u r) move = inr (record { update = refl; read = refl; low = refl })
sets_at_node s before xs p (Parked t k item holder) move = inr (record { update = refl; read = refl; low = refl })
sets_at_node s before xs p (Voted t k vote) move = inr (record { update = refl; read = refl; low = refl })
sets_at_node s before xs p (Freed t) move = inr (record { update = refl; read = refl; low = refl })
sets_at_node s before xs p (Decided t commit) move = inr (record { update = refl; read = refl; low = refl })
sets_at_node s before xs p (Applied t commit) move = inr (record { update = refl; read = refl; low = refl })
sets_at_node s before xs p Finished move = inr (record { update = refl; read = refl; low = refl })

numbers_stay : (act : Act) (n : Numbers) → SetsNone act → numbers_with act n ≡ n
numbers_stay act n none = λ i. record {
  update = unwrap_or (none.update i) n.update;
  read = unwrap_or (none.read i) n.read;
  low = unwrap_or (none.low i) n.low;
}

nodes_at : (nodes : List Numbers) (p q : ℕ) (act : Act) (xs : List Place) → p < length nodes
    → ShowsNode q xs (numbers_at nodes q) → ShowsNode q (xs ++ placed_at p act ∷ []) (numbers_at (nodes_with p act nodes) q)
nodes_at nodes p q act xs lt shows = by (p == q) refl where
  y : Numbers
  y = numbers_with act (numbers_at nodes p)

  by : (b : Bool) → (p == q) ≡ b → ShowsNode q (xs ++ placed_at p act ∷ []) (numbers_at (nodes_with p act nodes) q)
  by true is =
      let same : q ≡ p = sym (eqb-true p q is) in
      let set : numbers_at (nodes_with p act nodes) q ≡ numbers_with act (numbers_at nodes q)
      = ap (λ (k : ℕ). numbers_at (nodes_with p act nodes) k) same
      ∙ get_or-set_same nodes p (numbers_with act (numbers_at nodes p)) first_numbers lt
      ∙ ap (λ (k : ℕ). numbers_with act (numbers_at nodes k)) (sym same) in
      subst (λ (n : Numbers). ShowsNode q (xs ++ placed_at p act ∷ []) n) (sym set) (here_next p q act xs (numbers_at nodes q) is shows)
  by false is =
      let other : q ≡ p → ⊥ = λ e. absurd (grind (arith, nat_tests)) in
      let set : numbers_at (nodes_with p act nodes) q ≡ numbers_at nodes q
      = get_or-set_other nodes p q (numbers_with act (numbers_at nodes p)) first_numbers other in
      subst (λ (n : Numbers). ShowsNode q (xs ++ placed_at p act ∷ []) n) (sym set) (there_next p q act xs (numbers_at nodes q) is shows)

stay_next : (p q : ℕ) (act : Act) (xs : List Place) (n : Numbers) → SetsNone act → ShowsNode q xs n
    → ShowsNode q (xs ++ placed_at p act ∷ []) n
stay_next p q act xs n none shows = by (p == q) refl where
  by : (b : Bool) → (p == q) ≡ b → ShowsNode q (xs ++ placed_at p act ∷ []) n
  by true is =
      subst (λ (m : Numbers). ShowsNode q (xs ++ placed_at p act ∷ []) m) (numbers_stay act n none) (here_next p q act xs n is shows)
  by false is = there_next p q act xs n is shows

-- the numbers of every node after the act
pub nodes_next : (nodes : List Numbers) (p : ℕ) (act : Act) (xs : List Place) → (p < length nodes) ⊎ SetsNone act
    → ((q : ℕ) → ShowsNode q xs (numbers_at nodes q))
    → (q : ℕ) → ShowsNode q (xs ++ placed_at p act ∷ []) (numbers_at (nodes_with p act nodes) q)
nodes_next nodes p act xs (inl lt) shows q = nodes_at nodes p q act xs lt (shows q)
nodes_next nodes p act xs (inr none) shows q =
    let same : nodes_with p act nodes ≡ nodes
    = ap (λ (n : Numbers). slice_set nodes p n) (numbers_stay act (numbers_at nodes p) none) ∙ set-get_or nodes p first_numbers in
    subst (λ (ns : List Numbers). ShowsNode q (xs ++ placed_at p act ∷ []) (numbers_at ns q)) (sym same)
    (stay_next p q act xs (numbers_at nodes q) none (shows q))

-- Versions swept to.
swept_next : (p q v : ℕ) (act : Act) (xs : List Place)
    → was_swept q v (xs ++ placed_at p act ∷ []) ≡ (was_swept q v xs || (((p == q) && is_version v (swept_to act)) || false))
swept_next p q v act xs = list_any-append (λ (x : Place). (x.node == q) && is_version v (swept_to x.act)) xs (placed_at p act ∷ [])

swept_more : (n v : ℕ) (w : Version) (was : Bool) → w.0 ≡ n + 1 → Decides was ((1 ≤ v) × (v ≤ n))
    → Decides (was || ((w.0 == v) || false)) ((1 ≤ v) × (v ≤ w.0))
swept_more n v w was next decides = (there, back) where
  there_by : (was ≡ true) ⊎ (((w.0 == v) || false) ≡ true) → (1 ≤ v) × (v ≤ w.0)
  there_by (inl is) = let h = decides.0 is in (h.0, omega (arith, h.1, next))
  there_by (inr is) =
      let same : w.0 ≡ v = eqb-true w.0 v (sym (or-false (w.0 == v)) ∙ is) in (omega (arith, same, next), omega (arith, same))

  there : (was || ((w.0 == v) || false)) ≡ true → (1 ≤ v) × (v ≤ w.0)
  there is = there_by (or_cases was ((w.0 == v) || false) is)

  back_by : (1 ≤ v) × (v ≤ w.0) → (n < v) ⊎ (v ≤ n) → (was || ((w.0 == v) || false)) ≡ true
  back_by h (inr below) = or_left was ((w.0 == v) || false) (decides.1 (h.0, below))
  back_by h (inl above) =
      or_right was ((w.0 == v) || false)
      (or_left (w.0 == v) false (let same : w.0 ≡ v = omega (arith, h.1, next, above) in eq-eqb w.0 v same))

  back : (1 ≤ v) × (v ≤ w.0) → (was || ((w.0 == v) || false)) ≡ true
  back h = back_by h (cases_lt n v)

swept_by : (here : Bool) (n v : ℕ) (o : Option Version) (was : Bool) → (here ≡ true → (w : Version) → o ≡ Some w → w.0 ≡ n + 1)
    → Decides was ((1 ≤ v) × (v ≤ n))
    → Decides (was || ((here && is_version v o) || false)) ((1 ≤ v) × (v ≤ (if here then version_or n o else n)))
swept_by false n v o was next decides = Decides-at (was || false) was (or-false was) decides
swept_by true n v None was next decides = Decides-at (was || false) was (or-false was) decides
swept_by true n v (Some w) was next decides = swept_more n v w was (next refl w refl) decides

-- a node has swept to each version from 1 up to its low version, where each sweep is to the next one
pub swept_on : (p q v : ℕ) (act : Act) (xs : List Place) → ((w : Version) → swept_to act ≡ Some w → w.0 ≡ low_after xs p + 1)
    → Decides (was_swept q v xs) ((1 ≤ v) × (v ≤ low_after xs q))
    → Decides (was_swept q v (xs ++ placed_at p act ∷ [])) ((1 ≤ v) × (v ≤ low_after (xs ++ placed_at p act ∷ []) q))
swept_on p q v act xs next decides =
    let was : was_swept q v (xs ++ placed_at p act ∷ []) ≡ (was_swept q v xs || (((p == q) && is_version v (swept_to act)) || false))
    = swept_next p q v act xs in
    let low : low_after (xs ++ placed_at p act ∷ []) q ≡ (if p == q then version_or (low_after xs q) (swept_to act) else low_after xs q)
    = number_next swept_to 0 p q act xs (p == q) refl in
    let by = swept_by (p == q) (low_after xs q) v (swept_to act) (was_swept q v xs)
    (λ here w set. next w set ∙ ap (λ (k : ℕ). low_after xs k + 1) (eqb-true p q here)) decides in
    Decides-at (was_swept q v (xs ++ placed_at p act ∷ []))
    (was_swept q v xs || (((p == q) && is_version v (swept_to act)) || false)) was
    (subst (λ (n : ℕ). Decides (was_swept q v xs || (((p == q) && is_version v (swept_to act)) || false)) ((1 ≤ v) × (v ≤ n))) (sym low) by)

-- each sweep that is a move is to the next one
pub sweeps_next : (s : ScriptData) (before : List Entry) (xs : List Place) (p : ℕ) (act : Act)
    → IsMoveButCauseAt s before xs p act → (w : Version) → swept_to act ≡ Some w → w.0 ≡ low_after xs p + 1
sweeps_next s before xs p (Swept v) move w set =
    let same : v ≡ w = cc set in sym (ap (λ (z : Version). z.0) same) ∙ move.next
sweeps_next s before xs p (Turned v) move w set = absurd (cc set)
sweeps_next s before xs p (Showed v) move w set = absurd (cc set)
sweeps_next s before xs p (Born t v) move w set = absurd (cc set)
sweeps_next s before xs p (Did t k values) move w set = absurd (cc set)
sweeps_next s before xs p (Waits t u r) move w set = absurd (cc set)
sweeps_next s before xs p (Parked t k item holder) move w set = absurd (cc set)
sweeps_next s before xs p (Voted t k vote) move w set = absurd (cc set)
sweeps_next s before xs p (Freed t) move w set = absurd (cc set)
sweeps_next s before xs p (Decided t commit) move w set = absurd (cc set)
sweeps_next s before xs p (Applied t commit) move w set = absurd (cc set)
sweeps_next s before xs p Finished move w set = absurd (cc set)
