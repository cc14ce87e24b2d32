-- An entry that passes all tests may come, and one that fails in one breaks its rule.
use Rattle.std.proofs.Common.{◌≡◌, inl, inr, ℕ, ℤ, Bool, true, false, List, [], ◌∷◌, ◌++◌, length, map, refl, sym, ap, subst, ◌∙◌, append-nil, Option, Some, None, Decides}
use Rattle.std.specs.Prelude.{Result, Ok, Err, IfOk, slice_get}
use Rattle.tv_base.specs.declared.numbers.NoMemory.{NoMemory}
use Rattle.tv_base.specs.declared.numbers.Stamp.{Stamp}
use Rattle.tv_base.proofs.ByPlace.{slice_get_split}
use Rattle.commute_ops.specs.declared.kinds.Kind.{Kind}
use Rattle.commute_ops.specs.declared.kinds.Kind.TheVariants.{Sum, Top, Bag}
use Rattle.commute_ops.specs.Ops.{value_start}
use Rattle.script_parts.specs.Valid.{IsValid}
use Rattle.script_parts.specs.declared.parts.ItemRow.{ItemRow}
use Rattle.board_rules.specs.Worth.{first_value}
use Rattle.board_tallies.specs.GateRows.{AreGatesOf, GatesData}
use Rattle.board_judge.specs.Views.{AreUsersOf, UsersData}
use Rattle.worth_steps.specs.Worth.{MayBegin}
use Rattle.std.specs.List.{list_all}
use Rattle.letter_types.specs.declared.acts.Act.{Act}
use Rattle.letter_types.specs.declared.acts.Act.TheVariants.{Born, Did, Turned, Showed, Swept, Finished, Waits, Parked, Voted, Freed, Decided, Applied}
use Rattle.letter_types.specs.declared.entries.Entry.{Entry}
use Rattle.script_parts.specs.ScriptData.{ScriptData}
use Rattle.board_rules.specs.declared.rule_names.Rule.{Rule}
use Rattle.board_rules.specs.declared.rule_names.Rule.TheVariants as rules
use Rattle.board_rules.specs.Histories.{Place, places_at, places_of}
use Rattle.board_rules.specs.Judging.{AreRight, Breaks, DoesAtOnce, FirstFails, KeepToScript, MayCome, rule_of}
use Rattle.board_rules.specs.Moves.{IsMove, OneByOne}
use Rattle.board_rules.specs.Right.{IsDoneAtOnce, IsRightAct}
use Rattle.board_rules.proofs.Judging.{accepted_more}
use Rattle.board_rules.proofs.Places.{places_of-append}
use Rattle.board_tallies.specs.Board.{BoardData, IsBoardOf}
use Rattle.board_judge.specs.Notes.{AreAllWorths, AreKnown}
use Rattle.board_judge.specs.Settled.{IsMoveRun}
use Rattle.worth_steps.specs.Kept.{AreWorths, WorthsData}
use Rattle.board_judge.specs.Judged.{HasJudged, JudgeData}
use Rattle.board_judge.specs.declared.noting.NotedStep.{NotedStep}
use Rattle.board_judge.specs.inside.Rewriting.{IsRewritten}
use Rattle.board_judge.specs.inside.Steps.{AreNoted}
use Rattle.board_judge.specs.inside.Trying.{refused_for}
use Rattle.board_judge.specs.inside.Votes.{IsMidway, IsRightRead, IsRightYes}
use Rattle.board_judge.proofs.Going.{run_on}

-- What an act shows is what a yes and what a read shows.
record AreParts (s : ScriptData) (h : List Entry) (upto : List Place) (a : Act) : Type 0 where
  yes : IsRightAct s h upto a → IsRightYes s h upto a
  read : IsRightAct s h upto a → IsRightRead s upto a
  both : IsRightYes s h upto a → IsRightRead s upto a → IsRightAct s h upto a

parts_of : (s : ScriptData) (h : List Entry) (upto : List Place) (a : Act) → AreParts s h upto a
parts_of s h upto (Did t k values) = record { yes = λ r. tt; read = λ r. r; both = λ y r. r }
parts_of s h upto (Voted t k vote) = record { yes = λ r. r; read = λ r. tt; both = λ y r. y }
parts_of s h upto (Born t v) = record { yes = λ r. tt; read = λ r. tt; both = λ y r. tt }
parts_of s h upto (Turned v) = record { yes = λ r. tt; read = λ r. tt; both = λ y r. tt }
parts_of s h upto (Showed v) = record { yes = λ r. tt; read = λ r. tt; both = λ y r. tt }
parts_of s h upto (Swept v) = record { yes = λ r. tt; read = λ r. tt; both = λ y r. tt }
parts_of s h upto Finished = record { yes = λ r. tt; read = λ r. tt; both = λ y r. tt }
parts_of s h upto (Waits t u r) = record { yes = λ r. tt; read = λ r. tt; both = λ y r. tt }
parts_of s h upto (Parked t k x holder) = record { yes = λ r. tt; read = λ r. tt; both = λ y r. tt }
parts_of s h upto (Freed t) = record { yes = λ r. tt; read = λ r. tt; both = λ y r. tt }
parts_of s h upto (Decided t commit) = record { yes = λ r. tt; read = λ r. tt; both = λ y r. tt }
parts_of s h upto (Applied t commit) = record { yes = λ r. tt; read = λ r. tt; both = λ y r. tt }

module _ (s : ScriptData) (h : List Entry) where
  abbrev pub AllYes : List Place → List Place → Type 0
  AllYes xs ys = OneByOne (λ (zs : List Place) (z : Place). IsRightYes s h (zs ++ z ∷ []) z.act) xs ys

  abbrev pub AllReads : List Place → List Place → Type 0
  AllReads xs ys = OneByOne (λ (zs : List Place) (z : Place). IsRightRead s (zs ++ z ∷ []) z.act) xs ys

  abbrev AllRight : List Place → List Place → Type 0
  AllRight xs ys = OneByOne (λ (zs : List Place) (z : Place). IsRightAct s h (zs ++ z ∷ []) z.act) xs ys

  right_yes : (xs ys : List Place) → AllRight xs ys → AllYes xs ys
  right_yes xs [] all = tt
  right_yes xs (y ∷ ys) all = ((parts_of s h (xs ++ y ∷ []) y.act).yes all.0, right_yes (xs ++ y ∷ []) ys all.1)

  right_reads : (xs ys : List Place) → AllRight xs ys → AllReads xs ys
  right_reads xs [] all = tt
  right_reads xs (y ∷ ys) all = ((parts_of s h (xs ++ y ∷ []) y.act).read all.0, right_reads (xs ++ y ∷ []) ys all.1)

  right_both : (xs ys : List Place) → AllYes xs ys → AllReads xs ys → AllRight xs ys
  right_both xs [] said reads = tt
  right_both xs (y ∷ ys) said reads =
      ((parts_of s h (xs ++ y ∷ []) y.act).both said.0 reads.0, right_both (xs ++ y ∷ []) ys said.1 reads.1)

-- What was taken, in the midst of an entry.
pub midway_at : (j : JudgeData) (h : List Entry) → HasJudged j h → IsMidway j.script j.gates j.users h (places_of h) j.board j.worths
midway_at j h taken = record {
  gates = taken.gates;
  view = record { valid = taken.valid; run = taken.run; board = taken.board; users = taken.users };
  known = record { valid = taken.valid; run = taken.run; worths = taken.worths };
}

pub midway_in : (j : JudgeData) (h : List Entry) (ws : List WorthsData) → ws ≡ j.worths → HasJudged j h
    → IsMidway j.script j.gates j.users h (places_of h) j.board ws
midway_in j h ws is taken =
    subst (IsMidway j.script j.gates j.users h (places_of h) j.board) (sym is) (midway_at j h taken)

-- An act that isn't a move breaks its rule; the end and the parking of a letter are moves.
breaks_by : (s : ScriptData) (h : List Entry) (e : Entry) (p : ℕ) (a : Act) (before after : List Place)
    → places_at e ≡ before ++ record { node = p; act = a } ∷ after → OneByOne (IsMove s h) (places_of h) before
    → (IsMove s h (places_of h ++ before) (record { node = p; act = a }) → ⊥) → Breaks s h e (rule_of a)
breaks_by s h e p (Born t v) before after acts moves never =
    record { before = before; act = record { node = p; act = Born t v }; after = after; acts = acts; moves = moves; fails = never; is = refl }
breaks_by s h e p (Did t k values) before after acts moves never =
    record { before = before; act = record { node = p; act = Did t k values }; after = after; acts = acts; moves = moves; fails = never; is = refl }
breaks_by s h e p (Turned v) before after acts moves never =
    record { before = before; act = record { node = p; act = Turned v }; after = after; acts = acts; moves = moves; fails = never; is = refl }
breaks_by s h e p (Showed v) before after acts moves never =
    record { before = before; act = record { node = p; act = Showed v }; after = after; acts = acts; moves = moves; fails = never; is = refl }
breaks_by s h e p (Swept v) before after acts moves never =
    record { before = before; act = record { node = p; act = Swept v }; after = after; acts = acts; moves = moves; fails = never; is = refl }
breaks_by s h e p (Waits t u r) before after acts moves never =
    record { before = before; act = record { node = p; act = Waits t u r }; after = after; acts = acts; moves = moves; fails = never; is = refl }
breaks_by s h e p (Voted t k vote) before after acts moves never =
    record { before = before; act = record { node = p; act = Voted t k vote }; after = after; acts = acts; moves = moves; fails = never; is = refl }
breaks_by s h e p (Freed t) before after acts moves never =
    record { before = before; act = record { node = p; act = Freed t }; after = after; acts = acts; moves = moves; fails = never; is = refl }
breaks_by s h e p (Decided t commit) before after acts moves never =
    record { before = before; act = record { node = p; act = Decided t commit }; after = after; acts = acts; moves = moves; fails = never; is = refl }
breaks_by s h e p (Applied t commit) before after acts moves never =
    record { before = before; act = record { node = p; act = Applied t commit }; after = after; acts = acts; moves = moves; fails = never; is = refl }
breaks_by s h e p (Parked t k x holder) before after acts moves never = absurd (never tt)
breaks_by s h e p Finished before after acts moves never = absurd (never tt)

pub breaks_first : (s : ScriptData) (h : List Entry) (e : Entry) (rule : Rule) → FirstFails s h e rule → Breaks s h e rule
breaks_first s h e rule f =
    subst (Breaks s h e) f.is (breaks_by s h e f.act.node f.act.act f.before f.after f.acts f.moves f.fails)

-- Where a later test fails.
pub breaks_fit : (s : ScriptData) (h : List Entry) (e : Entry) (steps : List NotedStep) (b : BoardData) → AreNoted s h (places_at e) steps b
    → list_all (λ (st : NotedStep). st.keeps) steps ≡ false → Breaks s h e rules.Fits
breaks_fit s h e steps b noted none = (noted.moves, (λ all. absurd (let is = noted.keeps.1 all in cc (is, none))))

pub keeps_all : (s : ScriptData) (h : List Entry) (e : Entry) (steps : List NotedStep) (b : BoardData) → AreNoted s h (places_at e) steps b
    → list_all (λ (st : NotedStep). st.keeps) steps ≡ true → KeepToScript s h e
keeps_all s h e steps b noted all = noted.keeps.0 all

pub breaks_vote : (s : ScriptData) (h : List Entry) (e : Entry) (steps : List NotedStep) (b : BoardData) → AreNoted s h (places_at e) steps b
    → list_all (λ (st : NotedStep). st.keeps) steps ≡ true → list_all (λ (st : NotedStep). st.right) steps ≡ false → Breaks s h e rules.Right
breaks_vote s h e steps b noted keep none =
    (noted.moves, noted.keeps.0 keep, (λ all. absurd (let is = noted.right.1 (right_yes s h (places_of h) (places_at e) all) in cc (is, none))))

pub breaks_read : (s : ScriptData) (h : List Entry) (e : Entry) (steps : List NotedStep) (b : BoardData) (ws : List WorthsData) → AreNoted s h (places_at e) steps b
    → list_all (λ (st : NotedStep). st.keeps) steps ≡ true → IsRewritten s h (places_at e) false ws → Breaks s h e rules.Right
breaks_read s h e steps b ws noted keep written =
    (noted.moves, noted.keeps.0 keep, (λ all. absurd (let is = written.reads.1 (right_reads s h (places_of h) (places_at e) all) in cc is)))

pub all_right : (s : ScriptData) (h : List Entry) (e : Entry) (steps : List NotedStep) (b : BoardData) (ws : List WorthsData) → AreNoted s h (places_at e) steps b
    → list_all (λ (st : NotedStep). st.right) steps ≡ true → IsRewritten s h (places_at e) true ws → AreRight s h e
all_right s h e steps b ws noted said written =
    right_both s h (places_of h) (places_at e) (noted.right.0 said) (written.reads.0 refl)

pub breaks_delay : (s : ScriptData) (h : List Entry) (e : Entry) (steps : List NotedStep) (b : BoardData) (ws : List WorthsData) → AreNoted s h (places_at e) steps b
    → list_all (λ (st : NotedStep). st.keeps) steps ≡ true → list_all (λ (st : NotedStep). st.right) steps ≡ true → IsRewritten s h (places_at e) true ws
    → (DoesAtOnce s h e → ⊥) → Breaks s h e rules.AtOnce
breaks_delay s h e steps b ws noted keep said written late =
    (noted.moves, noted.keeps.0 keep, all_right s h e steps b ws noted said written, late)

-- Where none fails.
pub may_come : (s : ScriptData) (h : List Entry) (e : Entry) (steps : List NotedStep) (b : BoardData) (ws : List WorthsData) → AreNoted s h (places_at e) steps b
    → list_all (λ (st : NotedStep). st.keeps) steps ≡ true → list_all (λ (st : NotedStep). st.right) steps ≡ true → IsRewritten s h (places_at e) true ws
    → DoesAtOnce s h e → MayCome s h e
may_come s h e steps b ws noted keep said written once = record {
  moves = noted.moves;
  keeps = noted.keeps.0 keep;
  right = all_right s h e steps b ws noted said written;
  at_once = once;
}

places_more : (h : List Entry) (e : Entry) → places_of (h ++ e ∷ []) ≡ places_of h ++ places_at e
places_more h e = places_of-append h (e ∷ []) ∙ ap (λ (xs : List Place). places_of h ++ xs) (append-nil (places_at e))

pub taken_more : (j : JudgeData) (h : List Entry) (e : Entry) (steps : List NotedStep) (b : BoardData) (ws : List WorthsData) → HasJudged j h
    → MayCome j.script h e → AreNoted j.script h (places_at e) steps b → IsRewritten j.script h (places_at e) true ws
    → HasJudged (record { script = j.script; gates = j.gates; users = j.users; board = b; worths = ws }) (h ++ e ∷ [])
taken_more j h e steps b ws taken may noted written = record {
  accepted = accepted_more j.script h e taken.accepted may;
  valid = taken.valid;
  gates = taken.gates;
  users = taken.users;
  run = subst (IsMoveRun j.script) (sym (places_more h e)) (run_on j.script h (places_of h) (places_at e) taken.run noted.moves);
  board = subst (λ (xs : List Place). IsBoardOf j.script xs b) (sym (places_more h e)) noted.board;
  worths = subst (λ (xs : List Place). AreAllWorths j.script xs ws) (sym (places_more h e)) (written.known refl).worths;
}

pub taken_settled : (j : JudgeData) (b : BoardData) (h : List Entry) → HasJudged j h
    → ((s : ScriptData) (xs : List Place) → IsBoardOf s xs j.board → IsBoardOf s xs b)
    → HasJudged (record { script = j.script; gates = j.gates; users = j.users; board = b; worths = j.worths }) h
taken_settled j b h taken settles = record {
  accepted = taken.accepted;
  valid = taken.valid;
  gates = taken.gates;
  users = taken.users;
  run = taken.run;
  board = settles j.script (places_of h) taken.board;
  worths = taken.worths;
}

-- What the second walk says of these acts and steps, said of the entry.
abbrev at_actor : Entry → List Act → List Place
at_actor e acts = map (λ (a : Act). record { node = e.actor.0; act = a }) acts

pub rewritten : (s : ScriptData) (h : List Entry) (e : Entry) (acts : List Act) (sts steps : List NotedStep) (b : BoardData) (ws news : List WorthsData)
    (found right : Bool) → acts ≡ e.acts → sts ≡ steps → found ≡ right → AreNoted s h (places_at e) steps b → AreKnown s (places_of h) ws
    → (AreNoted s h (at_actor e acts) sts b → AreKnown s (places_of h) ws → IsRewritten s h (at_actor e acts) found news)
    → IsRewritten s h (places_at e) right news
rewritten s h e acts sts steps b ws news found right same so is noted known done =
    let here = subst (λ (as' : List Act). AreNoted s h (at_actor e as') sts b) (sym same)
    (subst (λ (ss : List NotedStep). AreNoted s h (places_at e) ss b) (sym so) noted) in
    subst (λ (as' : List Act). IsRewritten s h (at_actor e as') right news) same
    (subst (λ (r : Bool). IsRewritten s h (at_actor e acts) r news) is (done here known))

pub decided_once : (s : ScriptData) (h : List Entry) (e : Entry) (acts : List Act) (r : Bool) → acts ≡ e.acts
    → Decides r (IsDoneAtOnce s (places_of h) e.actor.0 e.took.body acts) → Decides r (DoesAtOnce s h e)
decided_once s h e acts r same decides =
    subst (λ (as' : List Act). Decides r (IsDoneAtOnce s (places_of h) e.actor.0 e.took.body as')) same decides

-- Before all acts.
pub may_begin : (k : Kind) (n : ℤ) → MayBegin (value_start k n)
may_begin Sum n = tt
may_begin Top n = tt
may_begin Bag n = refl

pub one_first : (items : List ItemRow) (i : ℕ) (item : ItemRow) (ws : List WorthsData) (w : WorthsData) → length ws ≡ i → slice_get items i ≡ Some item
    → ((x : ℕ) (u : WorthsData) → slice_get ws x ≡ Some u → AreWorths (first_value (slice_get items x)) [] u)
    → AreWorths (value_start item.kind item.initial) [] w
    → (x : ℕ) (u : WorthsData) → slice_get (ws ++ w ∷ []) x ≡ Some u → AreWorths (first_value (slice_get items x)) [] u
one_first items i item ws w many at all one x u found =
    elim (slice_get_split ws w x u found) [
      | inl p ↦ all x u p.1
      | inr p ↦
          let place : x ≡ i = p.0 ∙ many in
          subst (AreWorths (first_value (slice_get items x)) []) p.1
          (subst (λ (o : Option ItemRow). AreWorths (first_value o) [] w) (sym (ap (slice_get items) place ∙ at)) one)
    ]

-- No act, no entry.
pub none_taken : (s : ScriptData) (g : GatesData) (u : UsersData) (b : BoardData) (ws : List WorthsData) → IsValid s → AreGatesOf s g → AreUsersOf s u
    → IsBoardOf s [] b → AreAllWorths s [] ws
    → HasJudged (record { script = s; gates = g; users = u; board = b; worths = ws }) []
none_taken s g u b ws valid gates users board worths = record {
  accepted = λ n e at. absurd (cc at);
  valid = valid;
  gates = gates;
  users = users;
  run = λ i y at. absurd (cc at);
  board = board;
  worths = worths;
}

-- Nothing is refused where no rule was broken.
pub no_refusal : (stamp : Stamp) (r : Result (Option Rule) NoMemory) → refused_for stamp r ≡ None → r ≡ Ok None
no_refusal stamp (Ok None) is = refl
no_refusal stamp (Ok (Some rule)) is = absurd (cc is)
no_refusal stamp (Err e) is = absurd (cc is)

pub at_ok : {T E : Type 0} (P : T → Type 0) (r : Result T E) (x : T) → r ≡ Ok x → IfOk r P → P x
at_ok {T = T} {E = E} P r x is all = subst (λ (q : Result T E). IfOk q P) is all
