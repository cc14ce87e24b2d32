-- What an entry may be that comes after a history which was accepted, and the first rule that it breaks.
use Rattle.std.specs.Prelude.{ℕ, ◌≡◌, List, ◌∷◌, ◌++◌, [], take, Some, slice_get}
use Rattle.letter_types.specs.declared.acts.Act.{Act}
use Rattle.letter_types.specs.declared.acts.Act.TheVariants.{Born, Did, Turned, Showed, Swept, Finished, Waits, Parked, Voted, Freed, Decided, Applied}
use Rattle.letter_types.specs.declared.entries.Entry.{Entry}
use Rattle.script_parts.specs.ScriptData.{ScriptData}
use Rattle.board_rules.specs.declared.rule_names.Rule.{Rule}
use Rattle.board_rules.specs.declared.rule_names.Rule.TheVariants as rules
use Rattle.board_rules.specs.Gates.{KeepsTo, Fits}
use Rattle.board_rules.specs.Histories.{Place, places_at, places_of}
use Rattle.board_rules.specs.Moves.{IsMove, OneByOne, IsBoardRun}
use Rattle.board_rules.specs.Right.{IsDoneAtOnce, IsRightAct, IsAtOnce, IsRight}

-- each act of the entry is a move of the Board
abbrev pub AreMoves : ScriptData → List Entry → Entry → Type 0
AreMoves s h e = OneByOne (IsMove s h) (places_of h) (places_at e)

-- each keeps to the script
abbrev pub KeepToScript : ScriptData → List Entry → Entry → Type 0
KeepToScript s h e = OneByOne (KeepsTo s) (places_of h) (places_at e)

-- each shows what was worth
abbrev pub AreRight : ScriptData → List Entry → Entry → Type 0
AreRight s h e =
    OneByOne (λ (xs : List Place) (x : Place). IsRightAct s h (xs ++ x ∷ []) x.act) (places_of h) (places_at e)

-- the entry does at once what it is asked for
abbrev pub DoesAtOnce : ScriptData → List Entry → Entry → Type 0
DoesAtOnce s h e = IsDoneAtOnce s (places_of h) e.actor.0 e.took.body e.acts

-- the entry may come after the history
pub record MayCome (s : ScriptData) (h : List Entry) (e : Entry) : Type 0 where
  pub moves : AreMoves s h e
  pub keeps : KeepToScript s h e
  pub right : AreRight s h e
  pub at_once : DoesAtOnce s h e

-- each entry of the history may come after those before it
abbrev pub IsAccepted : ScriptData → List Entry → Type 0
IsAccepted s h = (n : ℕ) (e : Entry) → slice_get h n ≡ Some e → MayCome s (take n h) e

-- the history keeps all rules: its acts are moves of the Board, keep to the script and show what was worth, and its
-- entries do at once what they are asked for
abbrev pub KeepsAllRules : ScriptData → List Entry → Type 0
KeepsAllRules s h = IsBoardRun s h × Fits s h × IsRight s h × IsAtOnce s h

-- the rule of an act that isn't a move; the end and the deferral of a message always are
abbrev pub rule_of : Act → Rule
rule_of (Born t v) = rules.Born
rule_of (Waits t u r) = rules.Born
rule_of (Did t k values) = rules.Did
rule_of (Voted t k vote) = rules.Did
rule_of (Freed t) = rules.Did
rule_of (Decided t commit) = rules.Did
rule_of (Applied t commit) = rules.Did
rule_of (Turned v) = rules.Turned
rule_of (Showed v) = rules.Showed
rule_of (Swept v) = rules.Swept
rule_of (Parked t k x holder) = rules.AtOnce
rule_of Finished = rules.Fits

-- the first act of the entry that isn't a move is of this rule
pub record FirstFails (s : ScriptData) (h : List Entry) (e : Entry) (rule : Rule) : Type 0 where
  pub before : List Place
  pub act : Place
  pub after : List Place
  pub acts : places_at e ≡ before ++ act ∷ after
  pub moves : OneByOne (IsMove s h) (places_of h) before
  pub fails : IsMove s h (places_of h ++ before) act → ⊥
  pub is : rule_of act.act ≡ rule

-- the first rule that the entry breaks: that of its first act which is no move, else that its acts keep to the script,
-- else that they show what was worth, else that it does at once what it is asked for
abbrev pub Breaks : ScriptData → List Entry → Entry → Rule → Type 0
Breaks s h e rules.Fits = AreMoves s h e × (KeepToScript s h e → ⊥)
Breaks s h e rules.Right = AreMoves s h e × KeepToScript s h e × (AreRight s h e → ⊥)
Breaks s h e rules.AtOnce = AreMoves s h e × KeepToScript s h e × AreRight s h e × (DoesAtOnce s h e → ⊥)
Breaks s h e rule = FirstFails s h e rule

-- of each history of a script and each entry, whether it may come after the history or not
abbrev pub OfEachEntry : (ScriptData → List Entry → Entry → Type 0) → Type 0
OfEachEntry P = (s : ScriptData) (h : List Entry) (e : Entry) → P s h e
