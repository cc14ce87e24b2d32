-- Which acts are moves, by the causes that votes name; and which votes and reads are right, by their values.
use Rattle.std.proofs.Common.{◌≡◌, ◌==◌, ℕ, Bool, true, false, List, [], ◌∷◌, ◌++◌, refl, sym, ap, subst, ◌∙◌, Option, Some, None, eqb-true}
use Rattle.std.specs.Prelude.{is_some, Decides}
use Rattle.std.specs.Option.{option_or}
use Rattle.std.proofs.lemmas.Bool.{and_from, and_parts}
use Rattle.std.proofs.lemmas.Bool.Decides.{Decides-int_eq}
use Rattle.std.proofs.Common.{int_eq}
use Rattle.tv_base.proofs.Truths.{same_test}
use Rattle.tv_base.specs.declared.numbers.ItemNo.{ItemNo}
use Rattle.tv_base.specs.declared.numbers.Version.{Version}
use Rattle.commute_ops.specs.declared.value.Value.{Value}
use Rattle.letter_types.specs.declared.acts.Act.{Act}
use Rattle.letter_types.specs.declared.acts.Act.TheVariants.{Born, Did, Turned, Showed, Swept, Finished, Waits, Parked, Voted, Freed, Decided, Applied}
use Rattle.letter_types.specs.declared.entries.Entry.{Entry}
use Rattle.letter_types.specs.declared.votes.Cause.{Cause}
use Rattle.letter_types.specs.declared.votes.Cause.TheVariants.{Conflict, Newer, Short}
use Rattle.letter_types.specs.declared.votes.Vote.TheVariants.{Yes, No}
use Rattle.script_parts.specs.ScriptData.{ScriptData, ops_of, reads}
use Rattle.script_parts.specs.Valid.{IsValid}
use Rattle.script_parts.specs.declared.parts.SubOp.{SubOp}
use Rattle.board_rules.specs.ButCause.{IsMoveButCauseAt}
use Rattle.board_rules.specs.Histories.{Place, is_strict_tree, places_of, version_in}
use Rattle.board_rules.specs.Moves.{IsMoveAt}
use Rattle.board_rules.specs.Right.{IsShown, gets_among}
use Rattle.board_rules.specs.Stands.{cause_of, refusal_in, short_of}
use Rattle.board_rules.specs.Worth.{worth_in}
use Rattle.board_judge.specs.inside.Shorts.{short_ops}
use Rattle.board_judge.proofs.Fitting.{reads_get}
use Rattle.board_judge.proofs.OneMore.{version_kept}
use Rattle.board_judge.specs.declared.votes.NamedVote.{NamedVote}
use Rattle.board_judge.specs.inside.Votes.{HasVersions, IsRightRead, IsRightYes, Values, ballot_of, did_of, same_cause, yes_of}

-- An act that isn't a vote is a move where it is one but for the cause.
pub no_ballot : (s : ScriptData) (h : List Entry) (xs : List Place) (p : ℕ) (a : Act) → ballot_of a ≡ None → IsMoveButCauseAt s h xs p a → IsMoveAt s h xs p a
no_ballot s h xs p (Voted t k vote) is move = absurd (cc is)
no_ballot s h xs p (Born t v) is move = move
no_ballot s h xs p (Did t k values) is move = move
no_ballot s h xs p (Turned v) is move = move
no_ballot s h xs p (Showed v) is move = move
no_ballot s h xs p (Swept v) is move = move
no_ballot s h xs p Finished is move = move
no_ballot s h xs p (Waits t u r) is move = move
no_ballot s h xs p (Parked t k x holder) is move = move
no_ballot s h xs p (Freed t) is move = move
no_ballot s h xs p (Decided t commit) is move = move
no_ballot s h xs p (Applied t commit) is move = move

-- what was before its entry makes no difference but for the cause
pub but_cause : (s : ScriptData) (h f : List Entry) (xs : List Place) (p : ℕ) (a : Act) → IsMoveAt s h xs p a → IsMoveButCauseAt s f xs p a
but_cause s h f xs p (Voted t k vote) move =
    record { strict = move.strict; born = move.born; asked = move.asked; once = move.once; node = move.node }
but_cause s h f xs p (Born t v) move = move
but_cause s h f xs p (Did t k values) move = move
but_cause s h f xs p (Turned v) move = move
but_cause s h f xs p (Showed v) move = move
but_cause s h f xs p (Swept v) move = move
but_cause s h f xs p Finished move = move
but_cause s h f xs p (Waits t u r) move = move
but_cause s h f xs p (Parked t k x holder) move = move
but_cause s h f xs p (Freed t) move = move
but_cause s h f xs p (Decided t commit) move = move
but_cause s h f xs p (Applied t commit) move = move

-- A vote is of a strict tree, and is a move where it names the cause.
abbrev cause_for : ScriptData → List Entry → List Place → ℕ → NamedVote → Option Cause
cause_for s h xs p b = cause_of s h xs p b.asked.tree.0 (ops_of s b.asked.tree.0 b.asked.sub.0)

record IsCast (s : ScriptData) (h : List Entry) (xs : List Place) (p : ℕ) (a : Act) (b : NamedVote) : Type 0 where
  strict : is_strict_tree s b.asked.tree.0 ≡ true
  moves : b.refusal ≡ cause_for s h xs p b → IsMoveAt s h xs p a
  names : IsMoveAt s h xs p a → b.refusal ≡ cause_for s h xs p b

cast : (s : ScriptData) (h : List Entry) (xs : List Place) (p : ℕ) (a : Act) (b : NamedVote) → ballot_of a ≡ Some b → IsMoveButCauseAt s h xs p a
    → IsCast s h xs p a b
cast s h xs p (Voted t k vote) b is move = subst (IsCast s h xs p (Voted t k vote)) (let same : record { asked = record { tree = t; sub = k }; refusal = refusal_in vote } ≡ b = cc is in same) (record {
  strict = move.strict;
  moves = λ cause. record { strict = move.strict; born = move.born; asked = move.asked; once = move.once; node = move.node; cause = cause };
  names = λ vote. vote.cause;
})
cast s h xs p (Born t v) b is move = absurd (cc is)
cast s h xs p (Did t k values) b is move = absurd (cc is)
cast s h xs p (Turned v) b is move = absurd (cc is)
cast s h xs p (Showed v) b is move = absurd (cc is)
cast s h xs p (Swept v) b is move = absurd (cc is)
cast s h xs p Finished b is move = absurd (cc is)
cast s h xs p (Waits t u r) b is move = absurd (cc is)
cast s h xs p (Parked t k x holder) b is move = absurd (cc is)
cast s h xs p (Freed t) b is move = absurd (cc is)
cast s h xs p (Decided t commit) b is move = absurd (cc is)
cast s h xs p (Applied t commit) b is move = absurd (cc is)

pub cast_strict : (s : ScriptData) (h : List Entry) (xs : List Place) (p : ℕ) (a : Act) (b : NamedVote) → ballot_of a ≡ Some b → IsMoveButCauseAt s h xs p a
    → is_strict_tree s b.asked.tree.0 ≡ true
cast_strict s h xs p a b is move = (cast s h xs p a b is move).strict

-- Two causes.
same_is : (a b : Option Cause) → same_cause a b ≡ true → a ≡ b
same_is None None is = refl
same_is (Some (Conflict x h)) (Some (Conflict y k)) is =
    let one = and_parts (x.0 == y.0) (h.0 == k.0) is in
    λ i. Some (Conflict (record { 0 = eqb-true x.0 y.0 one.0 i }) (record { 0 = eqb-true h.0 k.0 one.1 i }))
same_is (Some (Newer x v)) (Some (Newer y w)) is =
    let one = and_parts (x.0 == y.0) (v.0 == w.0) is in
    λ i. Some (Newer (record { 0 = eqb-true x.0 y.0 one.0 i }) (record { 0 = eqb-true v.0 w.0 one.1 i }))
same_is (Some (Short x n)) (Some (Short y m)) is =
    let one = and_parts (x.0 == y.0) (int_eq n m) is in
    λ i. Some (Short (record { 0 = eqb-true x.0 y.0 one.0 i }) ((Decides-int_eq n m).0 one.1 i))
same_is None (Some d) is = absurd (cc is)
same_is (Some (Conflict x h)) None is = absurd (cc is)
same_is (Some (Conflict x h)) (Some (Newer y w)) is = absurd (cc is)
same_is (Some (Conflict x h)) (Some (Short y m)) is = absurd (cc is)
same_is (Some (Newer x v)) None is = absurd (cc is)
same_is (Some (Newer x v)) (Some (Conflict y k)) is = absurd (cc is)
same_is (Some (Newer x v)) (Some (Short y m)) is = absurd (cc is)
same_is (Some (Short x n)) None is = absurd (cc is)
same_is (Some (Short x n)) (Some (Conflict y k)) is = absurd (cc is)
same_is (Some (Short x n)) (Some (Newer y w)) is = absurd (cc is)

same_self : (a : Option Cause) → same_cause a a ≡ true
same_self None = refl
same_self (Some (Conflict x h)) = and_from (x.0 == x.0) (h.0 == h.0) (same_test x.0) (same_test h.0)
same_self (Some (Newer x v)) = and_from (x.0 == x.0) (v.0 == v.0) (same_test x.0) (same_test v.0)
same_self (Some (Short x n)) = and_from (x.0 == x.0) (int_eq n n) (same_test x.0) ((Decides-int_eq n n).1 refl)

pub decide_vote : (s : ScriptData) (h : List Entry) (xs : List Place) (p : ℕ) (a : Act) (b : NamedVote) (cause : Option Cause) (r : Bool)
    → ballot_of a ≡ Some b → IsMoveButCauseAt s h xs p a → cause ≡ cause_of s h xs p b.asked.tree.0 (ops_of s b.asked.tree.0 b.asked.sub.0)
    → r ≡ same_cause b.refusal cause → Decides r (IsMoveAt s h xs p a)
decide_vote s h xs p a b cause r is move found same =
    let vote = cast s h xs p a b is move in (
      (λ so. vote.moves (same_is b.refusal cause (sym same ∙ so) ∙ found)),
      (λ m. same ∙ ap (same_cause b.refusal) (found ∙ sym (vote.names m)) ∙ same_self b.refusal),
    )

-- The first of two causes.
pub or_first : (a rest : Option Cause) → is_some a ≡ true → a ≡ option_or a rest
or_first None rest is = absurd (cc is)
or_first (Some d) rest is = refl

pub or_next : (a rest : Option Cause) → is_some a ≡ false → rest ≡ option_or a rest
or_next None rest is = refl
or_next (Some d) rest is = absurd (cc is)

pub short_same : (s : ScriptData) (h : List Entry) (v : ℕ) (os : List SubOp) → short_ops s (places_of h) v os ≡ short_of s h v os
short_same s h v [] = refl
short_same s h v (o ∷ os) = ap (option_or _) (short_same s h v os)

-- What is shown at a version that is there.
pub decide_shown : (at : ℕ → ℕ → Value) (os : List SubOp) (values : List (ItemNo × Value)) (one other : Option Version) (r : Bool) → one ≡ other
    → Decides r (IsShown at os values one) → Decides r (IsShown at os values other)
decide_shown at os values one other r same = subst (λ (o : Option Version). Decides r (IsShown at os values o)) same

pub decide_unborn : (at : ℕ → ℕ → Value) (os : List SubOp) (values : List (ItemNo × Value)) → Decides false (IsShown at os values None)
decide_unborn at os values = ((λ never. absurd (cc never)), (λ never. absurd never))

-- Votes.
pub decide_yes : (s : ScriptData) (h : List Entry) (xs : List Place) (p : ℕ) (a : Act) (v : Values) (r : Bool) → yes_of a ≡ Some v
    → IsMoveButCauseAt s h xs p a
    → Decides r (IsShown (worth_in s (places_of h)) (gets_among (ops_of s v.asked.tree.0 v.asked.sub.0)) v.values (version_in v.asked.tree.0 xs))
    → Decides r (IsRightYes s h (xs ++ record { node = p; act = a } ∷ []) a)
decide_yes s h xs p (Voted t k (Yes values)) v r is move shown =
    let same : v ≡ record { asked = record { tree = t; sub = k }; values = values } = sym (cc is) in
    let here = subst (λ (w : Values). Decides r (IsShown (worth_in s (places_of h)) (gets_among (ops_of s w.asked.tree.0 w.asked.sub.0)) w.values (version_in w.asked.tree.0 xs))) same shown in
    let there = decide_shown (worth_in s (places_of h)) (gets_among (ops_of s t.0 k.0)) values (version_in t.0 xs)
    (version_in t.0 (xs ++ record { node = p; act = Voted t k (Yes values) } ∷ [])) r
    (sym (version_kept t.0 xs (record { node = p; act = Voted t k (Yes values) }) refl)) here in
    ((λ so strict. there.0 so), (λ all. there.1 (all move.strict)))
decide_yes s h xs p (Voted t k (No cause)) v r is move shown = absurd (cc is)
decide_yes s h xs p (Born t w) v r is move shown = absurd (cc is)
decide_yes s h xs p (Did t k values) v r is move shown = absurd (cc is)
decide_yes s h xs p (Turned w) v r is move shown = absurd (cc is)
decide_yes s h xs p (Showed w) v r is move shown = absurd (cc is)
decide_yes s h xs p (Swept w) v r is move shown = absurd (cc is)
decide_yes s h xs p Finished v r is move shown = absurd (cc is)
decide_yes s h xs p (Waits t u q) v r is move shown = absurd (cc is)
decide_yes s h xs p (Parked t k x holder) v r is move shown = absurd (cc is)
decide_yes s h xs p (Freed t) v r is move shown = absurd (cc is)
decide_yes s h xs p (Decided t commit) v r is move shown = absurd (cc is)
decide_yes s h xs p (Applied t commit) v r is move shown = absurd (cc is)

pub no_yes : (s : ScriptData) (h : List Entry) (upto : List Place) (a : Act) → yes_of a ≡ None → Decides true (IsRightYes s h upto a)
no_yes s h upto (Voted t k (Yes values)) is = absurd (cc is)
no_yes s h upto (Voted t k (No cause)) is = ((λ so strict. tt), (λ all. refl))
no_yes s h upto (Born t v) is = ((λ so. tt), (λ all. refl))
no_yes s h upto (Did t k values) is = ((λ so. tt), (λ all. refl))
no_yes s h upto (Turned v) is = ((λ so. tt), (λ all. refl))
no_yes s h upto (Showed v) is = ((λ so. tt), (λ all. refl))
no_yes s h upto (Swept v) is = ((λ so. tt), (λ all. refl))
no_yes s h upto Finished is = ((λ so. tt), (λ all. refl))
no_yes s h upto (Waits t u r) is = ((λ so. tt), (λ all. refl))
no_yes s h upto (Parked t k x holder) is = ((λ so. tt), (λ all. refl))
no_yes s h upto (Freed t) is = ((λ so. tt), (λ all. refl))
no_yes s h upto (Decided t commit) is = ((λ so. tt), (λ all. refl))
no_yes s h upto (Applied t commit) is = ((λ so. tt), (λ all. refl))

-- Reads.
record IsRead (s : ScriptData) (upto : List Place) (a : Act) (v : Values) : Type 0 where
  others : reads s v.asked.tree.0 ≡ false → Decides true (IsRightRead s upto a)
  reading : (xs : List Place) (r : Bool) → IsValid s → HasVersions xs upto a → reads s v.asked.tree.0 ≡ true
      → Decides r (IsShown (worth_in s upto) (gets_among (ops_of s v.asked.tree.0 v.asked.sub.0)) v.values (version_in v.asked.tree.0 xs))
      → Decides r (IsRightRead s upto a)

is_read_by : (s : ScriptData) (upto : List Place) (a : Act) (v : Values) → did_of a ≡ Some v → IsRead s upto a v
is_read_by s upto (Did t k values) v is =
    subst (IsRead s upto (Did t k values)) (let same : record { asked = record { tree = t; sub = k }; values = values } ≡ v = cc is in same) (record {
      others = λ no_read. ((λ so reading. absurd (cc (reading, no_read))), (λ all. refl));
      reading = λ xs r valid same reading shown.
          let here = decide_shown (worth_in s upto) (gets_among (ops_of s t.0 k.0)) values (version_in t.0 xs) (version_in t.0 upto) r (sym same) shown in
          let all = subst (λ (os : List SubOp). Decides r (IsShown (worth_in s upto) os values (version_in t.0 upto))) (reads_get s t.0 k.0 valid reading) here in
          ((λ so is_reading. all.0 so), (λ f. all.1 (f reading)));
    })
is_read_by s upto (Voted t k vote) v is = absurd (cc is)
is_read_by s upto (Born t w) v is = absurd (cc is)
is_read_by s upto (Turned w) v is = absurd (cc is)
is_read_by s upto (Showed w) v is = absurd (cc is)
is_read_by s upto (Swept w) v is = absurd (cc is)
is_read_by s upto Finished v is = absurd (cc is)
is_read_by s upto (Waits t u q) v is = absurd (cc is)
is_read_by s upto (Parked t k x holder) v is = absurd (cc is)
is_read_by s upto (Freed t) v is = absurd (cc is)
is_read_by s upto (Decided t commit) v is = absurd (cc is)
is_read_by s upto (Applied t commit) v is = absurd (cc is)

pub no_read : (s : ScriptData) (upto : List Place) (a : Act) (v : Values) → did_of a ≡ Some v → reads s v.asked.tree.0 ≡ false
    → Decides true (IsRightRead s upto a)
no_read s upto a v is = (is_read_by s upto a v is).others

pub decide_read : (s : ScriptData) (xs upto : List Place) (a : Act) (v : Values) (r : Bool) → did_of a ≡ Some v → IsValid s → HasVersions xs upto a
    → reads s v.asked.tree.0 ≡ true
    → Decides r (IsShown (worth_in s upto) (gets_among (ops_of s v.asked.tree.0 v.asked.sub.0)) v.values (version_in v.asked.tree.0 xs))
    → Decides r (IsRightRead s upto a)
decide_read s xs upto a v r is = (is_read_by s upto a v is).reading xs r

pub no_did : (s : ScriptData) (upto : List Place) (a : Act) → did_of a ≡ None → Decides true (IsRightRead s upto a)
no_did s upto (Did t k values) is = absurd (cc is)
no_did s upto (Voted t k vote) is = ((λ so. tt), (λ all. refl))
no_did s upto (Born t v) is = ((λ so. tt), (λ all. refl))
no_did s upto (Turned v) is = ((λ so. tt), (λ all. refl))
no_did s upto (Showed v) is = ((λ so. tt), (λ all. refl))
no_did s upto (Swept v) is = ((λ so. tt), (λ all. refl))
no_did s upto Finished is = ((λ so. tt), (λ all. refl))
no_did s upto (Waits t u r) is = ((λ so. tt), (λ all. refl))
no_did s upto (Parked t k x holder) is = ((λ so. tt), (λ all. refl))
no_did s upto (Freed t) is = ((λ so. tt), (λ all. refl))
no_did s upto (Decided t commit) is = ((λ so. tt), (λ all. refl))
no_did s upto (Applied t commit) is = ((λ so. tt), (λ all. refl))

-- The first of three causes.
pub cause_first : (a b d e : Option Cause) → a ≡ b → is_some a ≡ true → a ≡ option_or b (option_or d e)
cause_first a b d e is some = or_first a (option_or d e) some ∙ ap (λ (o : Option Cause). option_or o (option_or d e)) is

pub cause_second : (a b c d e : Option Cause) → a ≡ b → is_some a ≡ false → c ≡ d → is_some c ≡ true → c ≡ option_or b (option_or d e)
cause_second a b c d e is none so some =
    or_first c e some ∙ ap (λ (o : Option Cause). option_or o e) so ∙ or_next a (option_or d e) none ∙ ap (λ (o : Option Cause). option_or o (option_or d e)) is

pub cause_third : (a b c d f e : Option Cause) → a ≡ b → is_some a ≡ false → c ≡ d → is_some c ≡ false → f ≡ e → f ≡ option_or b (option_or d e)
cause_third a b c d f e is none so unfound last =
    last ∙ or_next c e unfound ∙ ap (λ (o : Option Cause). option_or o e) so ∙ or_next a (option_or d e) none ∙ ap (λ (o : Option Cause). option_or o (option_or d e)) is
