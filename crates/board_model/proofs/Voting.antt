-- The votes and decisions that are kept of each transaction are those of the history, and say the same of votes and
-- decisions.
use Rattle.std.proofs.Common.{◌≡◌, ℕ, zero, suc, ◌+◌, ◌<◌, Bool, true, false, List, [], ◌∷◌, ◌++◌, length, refl, ap, sym, ◌∙◌, append_assoc, arith}
use Rattle.std.specs.Prelude.{◌==◌, ◌&&◌, cond, filter, Option, Some, None}
use Rattle.std.specs.Option.{option_or}
use Rattle.std.proofs.lemmas.Bool.Decides.{nat_tests}
use Rattle.std.proofs.lemmas.List.{append-nil}
use Rattle.letter_types.specs.declared.acts.Act.{Act}
use Rattle.letter_types.specs.declared.acts.Act.TheVariants.{Born, Did, Turned, Showed, Swept, Finished, Waits, Parked, Voted, Freed, Decided, Applied}
use Rattle.letter_types.specs.declared.entries.Entry.{Entry}
use Rattle.letter_types.specs.declared.votes.Vote.{Vote}
use Rattle.run_history.specs.Messages.{acts_of}
use Rattle.tx_trees.specs.ScriptData.{ScriptData}
use Rattle.tx_trees.specs.declared.parts.Tree.{Tree}
use Rattle.board_rules.specs.Histories.{Place, places_of}
use Rattle.board_rules.specs.Outcomes.{acts_in, decision_by, decision_in, vote_by, vote_in}
use Rattle.board_model.specs.Ballots.{ballots_from, ballots_of, tells_of}
use Rattle.board_model.specs.inside.Ballots.{ballots_after, ballots_with_act, no_ballots, with_act}
use Rattle.board_model.specs.inside.SerialList.{placed}
use Rattle.board_model.specs.inside.Tallies.{on_row}

-- the rows with what these acts tell of their trees behind, where the list begins with tree t
abbrev added : ℕ → List (List Act) → List Act → List (List Act)
added t [] acts = []
added t (row ∷ rows) acts = (row ++ filter (tells_of t) acts) ∷ added (t + 1) rows acts

-- an act that tells of no tree
untold : (a : Act) (acts : List Act) (t : ℕ) (rows : List (List Act)) → ((u : ℕ) → tells_of u a ≡ false)
    → added t rows (a ∷ acts) ≡ added t rows acts
untold a acts t [] none = refl
untold a acts t (row ∷ rows) none =
    ap (λ (b : Bool). (row ++ cond b (a ∷ filter (tells_of t) acts) (filter (tells_of t) acts)) ∷ added (t + 1) rows (a ∷ acts)) (none t)
    ∙ ap (λ (z : List (List Act)). (row ++ filter (tells_of t) acts) ∷ z) (untold a acts (t + 1) rows none)

-- an act that tells of an earlier tree
passed : (a : Act) (acts : List Act) (u t : ℕ) (rows : List (List Act)) → ((k : ℕ) → tells_of k a ≡ (u == k)) → u < t
    → added t rows (a ∷ acts) ≡ added t rows acts
passed a acts u t [] of small = refl
passed a acts u t (row ∷ rows) of small =
    let no : (u == t) ≡ false = grind (arith, nat_tests) in
    ap (λ (b : Bool). (row ++ cond b (a ∷ filter (tells_of t) acts) (filter (tells_of t) acts)) ∷ added (t + 1) rows (a ∷ acts)) (of t ∙ no)
    ∙ ap (λ (z : List (List Act)). (row ++ filter (tells_of t) acts) ∷ z) (passed a acts u (t + 1) rows of (omega arith))

-- an act that tells of tree u goes to the end of its row
told : (a : Act) (acts : List Act) (d u t : ℕ) (rows : List (List Act)) → ((k : ℕ) → tells_of k a ≡ (u == k)) → u ≡ t + d
    → added t rows (a ∷ acts) ≡ added t (on_row d (with_act a) rows) acts
told a acts d u t [] of e = refl
told a acts zero u t (row ∷ rows) of e =
    let yes : (u == t) ≡ true = grind (arith, nat_tests) in
    ap (λ (b : Bool). (row ++ cond b (a ∷ filter (tells_of t) acts) (filter (tells_of t) acts)) ∷ added (t + 1) rows (a ∷ acts)) (of t ∙ yes)
    ∙ ap (λ (z : List Act). z ∷ added (t + 1) rows (a ∷ acts)) (sym (append_assoc row (a ∷ []) (filter (tells_of t) acts)))
    ∙ ap (λ (z : List (List Act)). ((row ++ a ∷ []) ++ filter (tells_of t) acts) ∷ z) (passed a acts u (t + 1) rows of (omega arith))
told a acts (suc d) u t (row ∷ rows) of e =
    let no : (u == t) ≡ false = grind (arith, nat_tests) in
    ap (λ (b : Bool). (row ++ cond b (a ∷ filter (tells_of t) acts) (filter (tells_of t) acts)) ∷ added (t + 1) rows (a ∷ acts)) (of t ∙ no)
    ∙ ap (λ (z : List (List Act)). (row ++ filter (tells_of t) acts) ∷ z) (told a acts d u (t + 1) rows of (omega arith))

from_zero : (u : ℕ) → u ≡ 0 + u
from_zero u = omega arith

act_more : (a : Act) (acts : List Act) (rows : List (List Act)) → added 0 rows (a ∷ acts) ≡ added 0 (ballots_with_act a rows) acts
act_more (Born t v) acts rows = untold (Born t v) acts 0 rows (λ (u : ℕ). refl)
act_more (Did t k values) acts rows = untold (Did t k values) acts 0 rows (λ (u : ℕ). refl)
act_more (Turned v) acts rows = untold (Turned v) acts 0 rows (λ (u : ℕ). refl)
act_more (Showed v) acts rows = untold (Showed v) acts 0 rows (λ (u : ℕ). refl)
act_more (Swept v) acts rows = untold (Swept v) acts 0 rows (λ (u : ℕ). refl)
act_more Finished acts rows = untold Finished acts 0 rows (λ (u : ℕ). refl)
act_more (Waits t u r) acts rows = untold (Waits t u r) acts 0 rows (λ (u : ℕ). refl)
act_more (Parked t k x holder) acts rows = untold (Parked t k x holder) acts 0 rows (λ (u : ℕ). refl)
act_more (Voted t k vote) acts rows = told (Voted t k vote) acts t.0 t.0 0 rows (λ (u : ℕ). refl) (from_zero t.0)
act_more (Freed t) acts rows = untold (Freed t) acts 0 rows (λ (u : ℕ). refl)
act_more (Decided t commit) acts rows = told (Decided t commit) acts t.0 t.0 0 rows (λ (u : ℕ). refl) (from_zero t.0)
act_more (Applied t commit) acts rows = untold (Applied t commit) acts 0 rows (λ (u : ℕ). refl)

acts_placed : (p : ℕ) (acts : List Act) (xs : List Place) → acts_in (placed p acts ++ xs) ≡ acts ++ acts_in xs
acts_placed p [] xs = refl
acts_placed p (a ∷ acts) xs = ap (λ (z : List Act). a ∷ z) (acts_placed p acts xs)

-- the acts of a history, one after the other
acts_in_places : (es : List Entry) → acts_in (places_of es) ≡ acts_of es
acts_in_places [] = refl
acts_in_places (e ∷ es) =
    acts_placed e.actor.0 e.acts (places_of es) ∙ ap (λ (z : List Act). e.acts ++ z) (acts_in_places es)

none_more : (t : ℕ) (rows : List (List Act)) → added t rows [] ≡ rows
none_more t [] = refl
none_more t (row ∷ rows) =
    ap (λ (z : List Act). z ∷ added (t + 1) rows []) (append-nil row) ∙ ap (λ (z : List (List Act)). row ∷ z) (none_more (t + 1) rows)

all_added : (acts : List Act) (rows : List (List Act)) → added 0 rows acts ≡ ballots_after acts rows
all_added [] rows = none_more 0 rows
all_added (a ∷ acts) rows = act_more a acts rows ∙ all_added acts (ballots_with_act a rows)

from_none : (acts : List Act) (t : ℕ) (ts : List Tree) → added t (no_ballots ts) acts ≡ ballots_from acts t ts
from_none acts t [] = refl
from_none acts t (tree ∷ ts) = ap (λ (z : List (List Act)). filter (tells_of t) acts ∷ z) (from_none acts (t + 1) ts)

-- the rows after all acts are the ballots of the history
pub ballots_are : (s : ScriptData) (h : List Entry) → ballots_after (acts_of h) (no_ballots s.trees) ≡ ballots_of s h
ballots_are s h =
    sym (all_added (acts_of h) (no_ballots s.trees))
    ∙ from_none (acts_of h) 0 s.trees
    ∙ ap (λ (z : List Act). ballots_from z 0 s.trees) (sym (acts_in_places h))

length-ballots_from : (acts : List Act) (t : ℕ) (ts : List Tree) → length (ballots_from acts t ts) ≡ length ts
length-ballots_from acts t [] = refl
length-ballots_from acts t (tree ∷ ts) = let rest = length-ballots_from acts (t + 1) ts in omega (arith, rest)

pub length-ballots_of : (s : ScriptData) (h : List Entry) → length (ballots_of s h) ≡ length s.trees
length-ballots_of s h = length-ballots_from (acts_in (places_of h)) 0 s.trees

-- an act that doesn't tell of a tree is no vote of it, and decides nothing of it
none_voted : (t k : ℕ) (a : Act) → tells_of t a ≡ false → vote_by t k a ≡ None
none_voted t k (Voted u j vote) e = ap (λ (b : Bool). cond (b && (j.0 == k)) (Some vote) None) e
none_voted t k Finished e = refl
none_voted t k (Born u v) e = refl
none_voted t k (Did u j values) e = refl
none_voted t k (Turned v) e = refl
none_voted t k (Showed v) e = refl
none_voted t k (Swept v) e = refl
none_voted t k (Waits u v r) e = refl
none_voted t k (Parked u j x holder) e = refl
none_voted t k (Freed u) e = refl
none_voted t k (Decided u commit) e = refl
none_voted t k (Applied u commit) e = refl

none_decided : (t : ℕ) (a : Act) → tells_of t a ≡ false → decision_by t a ≡ None
none_decided t (Voted u j vote) e = refl
none_decided t Finished e = refl
none_decided t (Born u v) e = refl
none_decided t (Did u j values) e = refl
none_decided t (Turned v) e = refl
none_decided t (Showed v) e = refl
none_decided t (Swept v) e = refl
none_decided t (Waits u v r) e = refl
none_decided t (Parked u j x holder) e = refl
none_decided t (Freed u) e = refl
none_decided t (Decided u commit) e = ap (λ (b : Bool). cond b (Some commit) None) e
none_decided t (Applied u commit) e = refl

vote_kept : (t k : ℕ) (a : Act) (acts : List Act) (b : Bool) → tells_of t a ≡ b
    → vote_in t k (filter (tells_of t) acts) ≡ vote_in t k acts
    → vote_in t k (cond b (a ∷ filter (tells_of t) acts) (filter (tells_of t) acts)) ≡ vote_in t k (a ∷ acts)
vote_kept t k a acts true e rest = ap (λ (o : Option Vote). option_or (vote_by t k a) o) rest
vote_kept t k a acts false e rest = rest ∙ sym (ap (λ (o : Option Vote). option_or o (vote_in t k acts)) (none_voted t k a e))

-- what is kept of a tree has the same votes
pub votes_kept : (t k : ℕ) (acts : List Act) → vote_in t k (filter (tells_of t) acts) ≡ vote_in t k acts
votes_kept t k [] = refl
votes_kept t k (a ∷ acts) = vote_kept t k a acts (tells_of t a) refl (votes_kept t k acts)

decision_kept : (t : ℕ) (a : Act) (acts : List Act) (b : Bool) → tells_of t a ≡ b
    → decision_in t (filter (tells_of t) acts) ≡ decision_in t acts
    → decision_in t (cond b (a ∷ filter (tells_of t) acts) (filter (tells_of t) acts)) ≡ decision_in t (a ∷ acts)
decision_kept t a acts true e rest = ap (λ (o : Option Bool). option_or (decision_by t a) o) rest
decision_kept t a acts false e rest = rest ∙ sym (ap (λ (o : Option Bool). option_or o (decision_in t acts)) (none_decided t a e))

-- and the same decision
pub decisions_kept : (t : ℕ) (acts : List Act) → decision_in t (filter (tells_of t) acts) ≡ decision_in t acts
decisions_kept t [] = refl
decisions_kept t (a ∷ acts) = decision_kept t a acts (tells_of t a) refl (decisions_kept t acts)
