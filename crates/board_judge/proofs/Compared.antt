-- Acts that close transactions: the worths with what those did, act by act, and what reads show.
use Rattle.std.proofs.Common.{◌≡◌, ℕ, zero, suc, min, Bool, true, false, List, [], ◌∷◌, ◌++◌, length, refl, sym, ap, subst, ◌∙◌, arith, append_assoc, append-nil, Option, Some, None, map, take, drop}
use Rattle.std.specs.Prelude.{is_some, if◌then◌else◌, slice_get}
use Rattle.std.specs.Option.{option_map}
use Rattle.std.proofs.lemmas.List.{take_all}
use Rattle.std.proofs.lemmas.Option.{slice_get-map}
use Rattle.tv_base.specs.declared.numbers.TreeNo.{TreeNo}
use Rattle.letter_types.specs.declared.acts.Act.{Act}
use Rattle.letter_types.specs.declared.acts.Act.TheVariants.{Born, Did, Turned, Showed, Swept, Finished, Waits, Parked, Voted, Freed, Decided, Applied}
use Rattle.letter_types.specs.declared.entries.Entry.{Entry}
use Rattle.script_parts.specs.ScriptData.{ScriptData, subs_at}
use Rattle.script_parts.specs.Valid.{IsValid}
use Rattle.board_rules.specs.ButCause.{IsMoveButCauseAt}
use Rattle.board_rules.specs.Histories.{Place, places_of, version_or}
use Rattle.board_rules.specs.Moves.{IsMove, OneByOne}
use Rattle.board_rules.specs.Serial.{commits_by, is_settled_in}
use Rattle.board_rules.specs.Worth.{first_value}
use Rattle.board_rules.proofs.Places.{version_stays}
use Rattle.board_rules.proofs.Judging.{fails_at}
use Rattle.board_tallies.specs.Board.{BoardData, IsBoardOf, closes_in}
use Rattle.worth_steps.specs.Kept.{AreWorths, WorthsData}
use Rattle.worth_steps.specs.Worth.{Noted}
use Rattle.board_judge.specs.Notes.{AreKnown, noted_on, subs_noted}
use Rattle.board_judge.specs.Settled.{IsMoveRun}
use Rattle.board_judge.proofs.NotedWorth.{if_noted, noted_more}
use Rattle.board_judge.proofs.OneMore.{settled_born}
use Rattle.board_judge.specs.declared.noting.NotedStep.{NotedStep}
use Rattle.board_judge.specs.inside.Rewriting.{HasNoted, HasNotedClosed, IsClosing, IsCompared, IsRewritten, closed_noted}
use Rattle.board_judge.specs.inside.Steps.{AreClosings, AreNoted}
use Rattle.board_judge.specs.inside.Votes.{DecidesRead, HasVersions, IsRightRead}
use Rattle.board_judge.proofs.Going.{one_last, run_more}
use Rattle.board_judge.proofs.Rewritten.{kinds_many, there_too}
use Rattle.board_judge.proofs.Voting.{but_cause}

-- What an act closes takes effect, and so is born.
closed_settled : (s : ScriptData) (upto : List Place) (a : Act) (t : ℕ) → closes_in s upto a ≡ Some t → is_settled_in s upto t ≡ true
closed_settled s upto a t is = by (commits_by s a) is where
  inner : (u : ℕ) (b : Bool) → is_settled_in s upto u ≡ b → (if b then Some u else None) ≡ Some t → is_settled_in s upto t ≡ true
  inner u true settled so = (let same : u ≡ t = cc so in subst (λ (k : ℕ). is_settled_in s upto k ≡ true) same settled)
  inner u false settled so = absurd (none so) where
    none : {A : Type 0} {x : A} → None ≡ Some x → ⊥
    none e = absurd (cc e)

  by : (o : Option ℕ) → elim o [ Some u ↦ if is_settled_in s upto u then Some u else None | None ↦ None ] ≡ Some t → is_settled_in s upto t ≡ true
  by None so = absurd (cc so)
  by (Some u) so = inner u (is_settled_in s upto u) refl so

closed_alike : (s : ScriptData) (xs later : List Place) (y : Place) (closed : Option TreeNo) (b : BoardData) (x : ℕ) → IsValid s → IsMoveRun s (xs ++ y ∷ [])
    → IsClosing s xs later y closed b
    → closed_noted s ((xs ++ y ∷ []) ++ later) x closed ≡ if_noted s (xs ++ y ∷ []) x (closes_in s (xs ++ y ∷ []) y.act)
closed_alike s xs later y closed b x valid run closing = by closed closing.closes ∙ ap (if_noted s (xs ++ y ∷ []) x) closing.closes where
  by : (o : Option TreeNo) → option_map (λ (t : TreeNo). t.0) o ≡ closes_in s (xs ++ y ∷ []) y.act
      → closed_noted s ((xs ++ y ∷ []) ++ later) x o ≡ if_noted s (xs ++ y ∷ []) x (option_map (λ (t : TreeNo). t.0) o)
  by None is = refl
  by (Some t) is =
      let born = settled_born s (xs ++ y ∷ []) t.0 valid run (closed_settled s (xs ++ y ∷ []) y.act t.0 (sym is)) in
      ap (λ (o : Option _). subs_noted (version_or 0 o) x (subs_at s t.0)) (version_stays t.0 (xs ++ y ∷ []) later born)

-- The worths with one act more.
pub known_more : (s : ScriptData) (xs later : List Place) (y : Place) (closed : Option TreeNo) (b : BoardData) (ws vs : List WorthsData)
    → IsClosing s xs later y closed b → AreKnown s xs ws → HasNoted (λ x. closed_noted s ((xs ++ y ∷ []) ++ later) x closed) ws vs
    → AreKnown s (xs ++ y ∷ []) vs
known_more s xs later y closed b ws vs closing known noted = record {
  valid = known.valid;
  run = run;
  worths = record {
    count = kinds_many ws vs noted.kinds ∙ known.worths.count;
    each = λ x z is. (let (w, was) = there_too vs ws x z (sym noted.kinds) is in further x w z was is);
  };
} where
  run : IsMoveRun s (xs ++ y ∷ [])
  run = run_more s xs y known.run closing.move

  further : (x : ℕ) (w z : WorthsData) → slice_get ws x ≡ Some w → slice_get vs x ≡ Some z
      → AreWorths (first_value (slice_get s.items x)) (noted_on s (xs ++ y ∷ []) x) z
  further x w z was is =
      subst (λ (ns : List Noted). AreWorths (first_value (slice_get s.items x)) ns z)
      (ap (λ (ns : List Noted). noted_on s xs x ++ ns) (closed_alike s xs later y closed b x known.valid run closing)
      ∙ sym (noted_more s xs y x known.valid known.run closing.move))
      (noted.each x w z was is (first_value (slice_get s.items x)) (noted_on s xs x) (known.worths.each x w was))

-- A Did's tree has its version for good.
pub has_versions : (s : ScriptData) (xs later : List Place) (p : ℕ) (a : Act) → IsMoveButCauseAt s [] xs p a
    → HasVersions ((xs ++ record { node = p; act = a } ∷ []) ++ later) (xs ++ record { node = p; act = a } ∷ []) a
has_versions s xs later p (Did t k values) move =
    sym (version_stays t.0 (xs ++ record { node = p; act = Did t k values } ∷ []) later
    (subst (λ (o : Option _). is_some o ≡ true) (sym (version_stays t.0 xs (record { node = p; act = Did t k values } ∷ []) move.born)) move.born))
has_versions s xs later p (Voted t k vote) move = tt
has_versions s xs later p (Born t v) move = tt
has_versions s xs later p (Turned v) move = tt
has_versions s xs later p (Showed v) move = tt
has_versions s xs later p (Swept v) move = tt
has_versions s xs later p Finished move = tt
has_versions s xs later p (Waits t u r) move = tt
has_versions s xs later p (Parked t k x holder) move = tt
has_versions s xs later p (Freed t) move = tt
has_versions s xs later p (Decided t commit) move = tt
has_versions s xs later p (Applied t commit) move = tt

-- The acts of an entry.
abbrev placed_at : ℕ → Act → Place
placed_at p a = record { node = p; act = a }

closings_at : (s : ScriptData) (xs ys : List Place) (sts : List NotedStep) (i : ℕ) (y : Place) (st : NotedStep) → AreClosings s xs ys sts
    → slice_get ys i ≡ Some y → slice_get sts i ≡ Some st
    → option_map (λ (t : TreeNo). t.0) st.noted.closed ≡ closes_in s ((xs ++ take i ys) ++ y ∷ []) y.act
closings_at s xs [] sts i y st all here there = absurd (cc here)
closings_at s xs (z ∷ ys) [] i y st all here there = absurd all
closings_at s xs (z ∷ ys) (w ∷ sts) zero y st all here there =
    let same : z ≡ y = cc here in
    let step : st ≡ w = sym (cc there) in
    ap (λ (u : NotedStep). option_map (λ (t : TreeNo). t.0) u.noted.closed) step ∙ all.0
    ∙ ap (λ (u : Place). closes_in s (xs ++ u ∷ []) u.act) same
    ∙ ap (λ (zs : List Place). closes_in s (zs ++ y ∷ []) y.act) (sym (append-nil xs))
closings_at s xs (z ∷ ys) (w ∷ sts) (suc i) y st all here there =
    closings_at s (xs ++ z ∷ []) ys sts i y st all.1 here there
    ∙ ap (λ (zs : List Place). closes_in s (zs ++ y ∷ []) y.act) (append_assoc xs (z ∷ []) (take i ys))

closings_many : (s : ScriptData) (xs ys : List Place) (sts : List NotedStep) → AreClosings s xs ys sts → length sts ≡ length ys
closings_many s xs [] [] all = refl
closings_many s xs [] (st ∷ sts) all = absurd all
closings_many s xs (y ∷ ys) [] all = absurd all
closings_many s xs (y ∷ ys) (st ∷ sts) all = ap suc (closings_many s (xs ++ y ∷ []) ys sts all.1)

split_at : (ys : List Place) (i : ℕ) (y : Place) → slice_get ys i ≡ Some y → ys ≡ take i ys ++ y ∷ drop (suc i) ys
split_at [] i y is = absurd (cc is)
split_at (z ∷ ys) zero y is = (let same : z ≡ y = cc is in ap (λ (u : Place). u ∷ ys) same)
split_at (z ∷ ys) (suc i) y is = ap (λ (us : List Place). z ∷ us) (split_at ys i y is)

taken_more : (ys : List Place) (i : ℕ) (y : Place) → slice_get ys i ≡ Some y → take (suc i) ys ≡ take i ys ++ y ∷ []
taken_more [] i y is = absurd (cc is)
taken_more (z ∷ ys) zero y is = (let same : z ≡ y = cc is in ap (λ (u : Place). u ∷ []) same)
taken_more (z ∷ ys) (suc i) y is = ap (λ (us : List Place). z ∷ us) (taken_more ys i y is)

-- an act of an entry whose acts were noted
pub closing_at : (s : ScriptData) (h : List Entry) (ys : List Place) (sts : List NotedStep) (b : BoardData) (i p : ℕ) (a : Act) (st : NotedStep)
    → AreNoted s h ys sts b → slice_get ys i ≡ Some (record { node = p; act = a }) → slice_get sts i ≡ Some st
    → IsClosing s (places_of h ++ take i ys) (drop (suc i) ys) (record { node = p; act = a }) st.noted.closed b
closing_at s h ys sts b i p a st noted here there = record {
  move = but_cause s h [] (places_of h ++ take i ys) p a
      (fails_at (IsMove s h) (places_of h) (take i ys) (placed_at p a) (drop (suc i) ys)
      (subst (OneByOne (IsMove s h) (places_of h)) (split_at ys i (placed_at p a) here) noted.moves));
  closes = closings_at s (places_of h) ys sts i (placed_at p a) st noted.closings here there;
  board = subst (λ (zs : List Place). IsBoardOf s zs b)
      (ap (λ (zs : List Place). places_of h ++ zs) (split_at ys i (placed_at p a) here) ∙ regroup (places_of h) (take i ys) (placed_at p a) (drop (suc i) ys)) noted.board;
} where
  regroup : (xs zs : List Place) (y : Place) (us : List Place) → xs ++ (zs ++ y ∷ us) ≡ ((xs ++ zs) ++ y ∷ []) ++ us
  regroup xs zs y us = sym (append_assoc xs zs (y ∷ us)) ∙ sym (append_assoc (xs ++ zs) (y ∷ []) us)

-- What the walk has found, act by act.
pub rewritten_none : (s : ScriptData) (h : List Entry) (ws : List WorthsData) → AreKnown s (places_of h) ws → IsRewritten s h [] true ws
rewritten_none s h ws known = record {
  reads = ((λ so. tt), (λ so. refl));
  known = λ so. subst (λ (xs : List Place). AreKnown s xs ws) (sym (append-nil (places_of h))) known;
}

abbrev ShowsRight : ScriptData → List Place → Place → Type 0
ShowsRight s xs x = IsRightRead s (xs ++ x ∷ []) x.act

pub rewritten_more : (s : ScriptData) (h : List Entry) (ys : List Place) (i : ℕ) (y : Place) (ws vs : List WorthsData) → slice_get ys i ≡ Some y
    → IsRewritten s h (take i ys) true ws → IsCompared s (places_of h ++ take i ys) y true vs → IsRewritten s h (take (suc i) ys) true vs
rewritten_more s h ys i y ws vs at before one = subst (λ (zs : List Place). IsRewritten s h zs true vs) (sym (taken_more ys i y at)) (record {
  reads = ((λ so. one_last (ShowsRight s) (places_of h) (take i ys) y (before.reads.0 refl) (one.reads.0 refl)), (λ so. refl));
  known = λ so. subst (λ (zs : List Place). AreKnown s zs vs) (append_assoc (places_of h) (take i ys) (y ∷ [])) one.known;
})

pub rewritten_wrong : (s : ScriptData) (h : List Entry) (ys : List Place) (i : ℕ) (y : Place) (vs : List WorthsData) → slice_get ys i ≡ Some y
    → IsCompared s (places_of h ++ take i ys) y false vs → IsRewritten s h ys false vs
rewritten_wrong s h ys i y vs at one = record {
  reads = (
    (λ never. absurd (cc never)),
    (λ all. one.reads.1 (fails_at (ShowsRight s) (places_of h) (take i ys) y (drop (suc i) ys)
        (subst (OneByOne (ShowsRight s) (places_of h)) (split_at ys i y at) all))),
  );
  known = λ never. absurd (cc never);
}

pub rewritten_all : (s : ScriptData) (h : List Entry) (ys : List Place) (sts : List NotedStep) (b : BoardData) (n : ℕ) (ws : List WorthsData)
    → AreNoted s h ys sts b → n ≡ min (length sts) (length ys) → IsRewritten s h (take n ys) true ws → IsRewritten s h ys true ws
rewritten_all s h ys sts b n ws noted is all =
    let many = closings_many s (places_of h) ys sts noted.closings in
    subst (λ (zs : List Place). IsRewritten s h zs true ws) (take_all n ys (omega (arith, many, is))) all

-- what is found of an act, by the deeds of the transaction that its step closes and by what it shows then
pub compared_by : (s : ScriptData) (b : BoardData) (st : NotedStep) (a : Act) (ws vs shown : List WorthsData) (right : Bool)
    → HasNotedClosed s b st.noted.closed ws vs → shown ≡ vs → DecidesRead s b shown a right
    → (xs later : List Place) (p : ℕ) → IsClosing s xs later (placed_at p a) st.noted.closed b → AreKnown s xs ws → IsCompared s xs (placed_at p a) right vs
compared_by s b st a ws vs shown right noted same decides xs later p closing known =
    let y = placed_at p a in
    let more = known_more s xs later y st.noted.closed b ws vs closing known (noted ((xs ++ y ∷ []) ++ later) closing.board) in
    record {
      reads = decides ((xs ++ y ∷ []) ++ later) (xs ++ y ∷ []) closing.board (subst (AreKnown s (xs ++ y ∷ [])) (sym same) more)
          (has_versions s xs later p a closing.move);
      known = more;
    }

-- One turn of the walk.
abbrev placed : ℕ → List Act → List Place
placed p acts = map (λ (a : Act). record { node = p; act = a }) acts

here_placed : (acts : List Act) (i p : ℕ) (a : Act) → slice_get acts i ≡ Some a → slice_get (placed p acts) i ≡ Some (placed_at p a)
here_placed acts i p a is = slice_get-map (placed_at p) acts i ∙ ap (option_map (placed_at p)) is

pub pushed : {A : Type 0} (xs : List A) (x : A) → length (xs ++ x ∷ []) ≡ suc (length xs)
pushed [] x = refl
pushed (y ∷ xs) x = ap suc (pushed xs x)

module _ (s : ScriptData) (h : List Entry) (acts : List Act) (steps : List NotedStep) (b : BoardData) (i p : ℕ) (a : Act) (st : NotedStep) (right : Bool)
    (ws vs : List WorthsData) where
  compared : AreNoted s h (placed p acts) steps b → slice_get acts i ≡ Some a → slice_get steps i ≡ Some st → IsRewritten s h (take i (placed p acts)) true ws
      → ((xs later : List Place) → IsClosing s xs later (placed_at p a) st.noted.closed b → AreKnown s xs ws → IsCompared s xs (placed_at p a) right vs)
      → IsCompared s (places_of h ++ take i (placed p acts)) (placed_at p a) right vs
  compared noted here there before compares =
      compares (places_of h ++ take i (placed p acts)) (drop (suc i) (placed p acts))
      (closing_at s h (placed p acts) steps b i p a st noted (here_placed acts i p a here) there) (before.known refl)

  pub turn_wrong : right ≡ false → AreNoted s h (placed p acts) steps b → slice_get acts i ≡ Some a → slice_get steps i ≡ Some st
      → IsRewritten s h (take i (placed p acts)) true ws
      → ((xs later : List Place) → IsClosing s xs later (placed_at p a) st.noted.closed b → AreKnown s xs ws → IsCompared s xs (placed_at p a) right vs)
      → IsRewritten s h (placed p acts) false vs
  turn_wrong is noted here there before compares =
      rewritten_wrong s h (placed p acts) i (placed_at p a) vs (here_placed acts i p a here)
      (subst (λ (r : Bool). IsCompared s (places_of h ++ take i (placed p acts)) (placed_at p a) r vs) is (compared noted here there before compares))

  pub turn_right : (n : ℕ) → n ≡ suc i → right ≡ true → AreNoted s h (placed p acts) steps b → slice_get acts i ≡ Some a → slice_get steps i ≡ Some st
      → IsRewritten s h (take i (placed p acts)) true ws
      → ((xs later : List Place) → IsClosing s xs later (placed_at p a) st.noted.closed b → AreKnown s xs ws → IsCompared s xs (placed_at p a) right vs)
      → IsRewritten s h (take n (placed p acts)) true vs
  turn_right n next is noted here there before compares =
      subst (λ (k : ℕ). IsRewritten s h (take k (placed p acts)) true vs) (sym next)
      (rewritten_more s h (placed p acts) i (placed_at p a) ws vs (here_placed acts i p a here) before
      (subst (λ (r : Bool). IsCompared s (places_of h ++ take i (placed p acts)) (placed_at p a) r vs) is (compared noted here there before compares)))

pub walk_ends : (s : ScriptData) (h : List Entry) (acts : List Act) (steps : List NotedStep) (b : BoardData) (p n : ℕ) (ws : List WorthsData)
    → AreNoted s h (placed p acts) steps b → n ≡ min (length steps) (length acts) → IsRewritten s h (take n (placed p acts)) true ws
    → IsRewritten s h (placed p acts) true ws
walk_ends s h acts steps b p n ws noted is all =
    rewritten_all s h (placed p acts) steps b n ws noted (is ∙ ap (min (length steps)) (sym (many acts))) all where
      many : (es : List Act) → length (placed p es) ≡ length es
      many [] = refl
      many (e ∷ es) = ap suc (many es)
