-- Acts of an entry, noted one after the other, and taken back.
use Rattle.std.proofs.Common.{◌≡◌, inl, inr, ◌&&◌, ℕ, zero, suc, ◌+◌, ◌<◌, Bool, true, false, List, [], ◌∷◌, ◌++◌, length, refl, sym, ap, subst, ◌∙◌, arith, append_assoc, append-nil, take, drop, take-append-drop, get_or, map, Decides}
use Rattle.std.specs.Prelude.{if◌then◌else◌}
use Rattle.std.specs.List.{list_all}
use Rattle.std.specs.Option.{option_map}
use Rattle.std.proofs.lemmas.Bool.{and_from, and_parts}
use Rattle.std.proofs.lemmas.List.{take-append-le, take_all, take_more}
use Rattle.std.proofs.lemmas.List.Folds.{list_all-append}
use Rattle.tv_base.proofs.ByPlace.{slice_get_split}
use Rattle.tv_base.specs.declared.numbers.TreeNo.{TreeNo}
use Rattle.letter_types.specs.declared.acts.Act.{Act}
use Rattle.letter_types.specs.declared.entries.Entry.{Entry}
use Rattle.script_parts.specs.ScriptData.{ScriptData}
use Rattle.board_rules.specs.declared.rule_names.Rule.{Rule}
use Rattle.board_rules.specs.ButCause.{IsMoveButCause}
use Rattle.board_rules.specs.Gates.{KeepsTo}
use Rattle.board_rules.specs.Histories.{Place, places_at, places_of}
use Rattle.board_rules.specs.Judging.{FirstFails, rule_of}
use Rattle.board_rules.specs.Moves.{IsMove, OneByOne}
use Rattle.board_rules.proofs.Judging.{fails_at}
use Rattle.board_tallies.specs.Board.{BoardData, IsBoardOf, closes_in}
use Rattle.board_tallies.specs.GateRows.{GatesData}
use Rattle.board_tallies.specs.TakenBack.{taken_back}
use Rattle.board_judge.specs.Settled.{IsMoveRun}
use Rattle.board_judge.specs.Views.{UsersData}
use Rattle.worth_steps.specs.Kept.{WorthsData}
use Rattle.board_judge.specs.declared.noting.NotedStep.{NotedStep}
use Rattle.board_judge.specs.inside.Steps.{AreClosings, AreNoted, IsStepped, restored}
use Rattle.board_judge.specs.inside.Votes.{IsMidway, IsRightYes}
use Rattle.board_judge.proofs.Voting.{but_cause}

-- What holds of acts one after the other.
pub one_last : (P : List Place → Place → Type 0) (xs ys : List Place) (y : Place) → OneByOne P xs ys → P (xs ++ ys) y → OneByOne P xs (ys ++ y ∷ [])
one_last P xs [] y all last = (subst (λ (zs : List Place). P zs y) (append-nil xs) last, tt)
one_last P xs (z ∷ ys) y all last =
    (all.0, one_last P (xs ++ z ∷ []) ys y all.1 (subst (λ (zs : List Place). P zs y) (sym (append_assoc xs (z ∷ []) ys)) last))

pub one_front : (P : List Place → Place → Type 0) (xs ys zs : List Place) → OneByOne P xs (ys ++ zs) → OneByOne P xs ys
one_front P xs [] zs all = tt
one_front P xs (y ∷ ys) zs all = (all.0, one_front P (xs ++ y ∷ []) ys zs all.1)

decide_last : (P : List Place → Place → Type 0) (xs ys : List Place) (y : Place) (a b : Bool) → Decides a (OneByOne P xs ys) → Decides b (P (xs ++ ys) y)
    → Decides (a && b) (OneByOne P xs (ys ++ y ∷ []))
decide_last P xs ys y a b all one = (
  (λ so. let parts = and_parts a b so in one_last P xs ys y (all.0 parts.0) (one.0 parts.1)),
  (λ so. and_from a b (all.1 (one_front P xs ys (y ∷ []) so)) (one.1 (fails_at P xs ys y [] so))),
)

pub none_noted : (s : ScriptData) (g : GatesData) (u : UsersData) (h : List Entry) (b : BoardData) (ws : List WorthsData) → IsMidway s g u h (places_of h) b ws
    → AreNoted s h [] [] b
none_noted s g u h b ws midway = record {
  moves = tt;
  keeps = ((λ so. tt), (λ so. refl));
  right = ((λ so. tt), (λ so. refl));
  closings = tt;
  board = subst (λ (xs : List Place). IsBoardOf s xs b) (sym (append-nil (places_of h))) midway.view.board;
}

closings_last : (s : ScriptData) (xs ys : List Place) (y : Place) (sts : List NotedStep) (st : NotedStep) → AreClosings s xs ys sts
    → option_map (λ (t : TreeNo). t.0) st.noted.closed ≡ closes_in s ((xs ++ ys) ++ y ∷ []) y.act
    → AreClosings s xs (ys ++ y ∷ []) (sts ++ st ∷ [])
closings_last s xs [] y [] st all last = (last ∙ ap (λ (zs : List Place). closes_in s (zs ++ y ∷ []) y.act) (append-nil xs), tt)
closings_last s xs [] y (z ∷ sts) st all last = absurd all
closings_last s xs (z ∷ ys) y [] st all last = absurd all
closings_last s xs (z ∷ ys) y (w ∷ sts) st all last = (
  all.0,
  closings_last s (xs ++ z ∷ []) ys y sts st all.1
      (last ∙ ap (λ (zs : List Place). closes_in s (zs ++ y ∷ []) y.act) (sym (append_assoc xs (z ∷ []) ys))),
)

all_last : (test : NotedStep → Bool) (sts : List NotedStep) (st : NotedStep) → list_all test (sts ++ st ∷ []) ≡ (list_all test sts && test st)
all_last test sts st = list_all-append test sts (st ∷ []) ∙ ap (λ (b : Bool). list_all test sts && b) (and_true (test st)) where
  and_true : (b : Bool) → (b && true) ≡ b
  and_true true = refl
  and_true false = refl

pub one_noted : (s : ScriptData) (h : List Entry) (ys : List Place) (y : Place) (sts : List NotedStep) (st : NotedStep) (b c : BoardData) → AreNoted s h ys sts b
    → IsStepped s h (places_of h ++ ys) y st c → AreNoted s h (ys ++ y ∷ []) (sts ++ st ∷ []) c
one_noted s h ys y sts st b c noted one = record {
  moves = one_last (IsMove s h) (places_of h) ys y noted.moves one.moves;
  keeps = subst (λ (r : Bool). Decides r (OneByOne (KeepsTo s) (places_of h) (ys ++ y ∷ []))) (sym (all_last (λ (z : NotedStep). z.keeps) sts st))
      (decide_last (KeepsTo s) (places_of h) ys y (list_all (λ (z : NotedStep). z.keeps) sts) st.keeps noted.keeps one.keeps);
  right = subst (λ (r : Bool). Decides r (OneByOne shows (places_of h) (ys ++ y ∷ []))) (sym (all_last (λ (z : NotedStep). z.right) sts st))
      (decide_last shows (places_of h) ys y (list_all (λ (z : NotedStep). z.right) sts) st.right noted.right one.right);
  closings = closings_last s (places_of h) ys y sts st noted.closings one.closes;
  board = subst (λ (xs : List Place). IsBoardOf s xs c) (append_assoc (places_of h) ys (y ∷ [])) one.board;
} where
  shows : List Place → Place → Type 0
  shows = λ (xs : List Place) (x : Place). IsRightYes s h (xs ++ x ∷ []) x.act

-- A run of moves goes on.
pub run_more : (s : ScriptData) (xs : List Place) (y : Place) → IsMoveRun s xs → IsMoveButCause s [] xs y → IsMoveRun s (xs ++ y ∷ [])
run_more s xs y run move i z at =
    elim (slice_get_split xs y i z at) [
      | inl p ↦ subst (λ (zs : List Place). IsMoveButCause s [] zs z) (sym (take-append-le i xs (y ∷ []) (omega (arith, p.0)))) (run i z p.1)
      | inr p ↦ subst (λ (w : Place). IsMoveButCause s [] (take i (xs ++ y ∷ [])) w) p.1
          (subst (λ (zs : List Place). IsMoveButCause s [] zs y)
          (sym (take_all i xs (omega (arith, p.0))) ∙ sym (take-append-le i xs (y ∷ []) (omega (arith, p.0)))) move)
    ]

pub run_on : (s : ScriptData) (h : List Entry) (xs ys : List Place) → IsMoveRun s xs → OneByOne (IsMove s h) xs ys → IsMoveRun s (xs ++ ys)
run_on s h xs [] run all = subst (IsMoveRun s) (sym (append-nil xs)) run
run_on s h xs (y ∷ ys) run all =
    subst (IsMoveRun s) (append_assoc xs (y ∷ []) ys)
    (run_on s h (xs ++ y ∷ []) ys (run_more s xs y run (but_cause s h [] xs y.node y.act all.0)) all.1)

pub midway_on : (s : ScriptData) (g : GatesData) (u : UsersData) (h : List Entry) (ys : List Place) (sts : List NotedStep) (b c : BoardData) (ws : List WorthsData)
    → IsMidway s g u h (places_of h) b ws → AreNoted s h ys sts c → IsMidway s g u h (places_of h ++ ys) c ws
midway_on s g u h ys sts b c ws midway noted = record {
  gates = midway.gates;
  view = record {
    valid = midway.view.valid;
    run = run_on s h (places_of h) ys midway.view.run noted.moves;
    board = noted.board;
    users = midway.view.users;
  };
  known = midway.known;
}

-- The acts of an entry.
abbrev placed : Entry → Act → Place
placed e a = record { node = e.actor.0; act = a }

get_map : {A B : Type 0} (f : A → B) (xs : List A) (i : ℕ) (d : A) → get_or (map f xs) i (f d) ≡ f (get_or xs i d)
get_map f [] i d = refl
get_map f (x ∷ xs) zero d = refl
get_map f (x ∷ xs) (suc i) d = get_map f xs i d

map_length : {A B : Type 0} (f : A → B) (xs : List A) → length (map f xs) ≡ length xs
map_length f [] = refl
map_length f (x ∷ xs) = ap suc (map_length f xs)

pub acts_more : (e : Entry) (i : ℕ) (a : Act) → i < length e.acts → a ≡ get_or e.acts i a
    → take (i + 1) (places_at e) ≡ take i (places_at e) ++ record { node = e.actor.0; act = a } ∷ []
acts_more e i a within at =
    take_more (places_at e) i (record { node = e.actor.0; act = a }) (let count = map_length (placed e) e.acts in omega (arith, count, within))
    ∙ ap (λ (y : Place). take i (places_at e) ++ y ∷ [])
    (get_map (placed e) e.acts i a ∙ ap (placed e) (sym at))

pub acts_split : (e : Entry) (i : ℕ) (a : Act) → i < length e.acts → a ≡ get_or e.acts i a
    → places_at e ≡ take i (places_at e) ++ record { node = e.actor.0; act = a } ∷ drop (i + 1) (places_at e)
acts_split e i a within at =
    sym (take-append-drop (i + 1) (places_at e))
    ∙ ap (λ (ys : List Place). ys ++ drop (i + 1) (places_at e)) (acts_more e i a within at)
    ∙ append_assoc (take i (places_at e)) (record { node = e.actor.0; act = a } ∷ []) (drop (i + 1) (places_at e))

pub first_fails : (s : ScriptData) (h : List Entry) (e : Entry) (i : ℕ) (a : Act) (sts : List NotedStep) (b : BoardData) (rule : Rule) → i < length e.acts
    → a ≡ get_or e.acts i a → AreNoted s h (take i (places_at e)) sts b
    → (IsMove s h (places_of h ++ take i (places_at e)) (record { node = e.actor.0; act = a }) → ⊥) → rule ≡ rule_of a → FirstFails s h e rule
first_fails s h e i a sts b rule within at noted never is = record {
  before = take i (places_at e);
  act = record { node = e.actor.0; act = a };
  after = drop (i + 1) (places_at e);
  acts = acts_split e i a within at;
  moves = noted.moves;
  fails = never;
  is = sym is;
}

-- Taking back.
pub restored_last : (sts : List NotedStep) (st : NotedStep) (b : BoardData) → restored (sts ++ st ∷ []) b ≡ restored sts (taken_back st.noted b)
restored_last [] st b = refl
restored_last (z ∷ sts) st b = ap (taken_back z.noted) (restored_last sts st b)

pub restored_step : (ns sts : List NotedStep) (st : NotedStep) (b c d : BoardData) → sts ≡ ns ++ st ∷ [] → c ≡ taken_back st.noted b → restored sts b ≡ d → restored ns c ≡ d
restored_step ns sts st b c d is so all =
    ap (restored ns) so ∙ sym (restored_last ns st b) ∙ sym (ap (λ (zs : List NotedStep). restored zs b) is) ∙ all

pub restored_more : (ns sts : List NotedStep) (st : NotedStep) (b c d : BoardData) → ns ≡ sts ++ st ∷ [] → taken_back st.noted c ≡ b → restored sts b ≡ d → restored ns c ≡ d
restored_more ns sts st b c d is so all =
    ap (λ (zs : List NotedStep). restored zs c) is ∙ restored_last sts st c ∙ ap (restored sts) so ∙ all

-- A test that tells a fact, and one that tells that it fails.
pub decide_by : (P : Type 0) (r : Bool) → (r ≡ true → P) → (r ≡ false → P → ⊥) → Decides r P
decide_by P true tells fails = (tells, (λ p. refl))
decide_by P false tells fails = (tells, (λ p. absurd (fails refl p)))

-- What is pushed where there is room.
pub pushed : {X : Type 0} (b : Bool) (xs ys olds : List X) → b ≡ true → xs ≡ (if b then ys else olds) → xs ≡ ys
pushed true xs ys olds is so = so
pushed false xs ys olds is so = absurd (cc is)
