-- What subtransactions told first, and what was first decided, among acts: more acts leave it, and none is told if
-- none is counted.
use Rattle.std.proofs.Common.{◌≡◌, ℕ, ◌+◌, ◌==◌, ◌&&◌, Bool, true, false, List, [], ◌∷◌, ◌++◌, map, reverse, refl, sym, ap, ◌∙◌, arith, Option, Some, None}
use Rattle.std.specs.Prelude.{if◌then◌else◌}
use Rattle.std.specs.Option.{option_or}
use Rattle.std.proofs.lemmas.Bool.Decides.{nat_tests}
use Rattle.tv_base.proofs.Truths.{same_test}
use Rattle.tv_base.specs.declared.numbers.SubNo.{SubNo}
use Rattle.tv_base.specs.declared.numbers.TreeNo.{TreeNo}
use Rattle.letter_types.specs.declared.acts.Act.{Act}
use Rattle.letter_types.specs.declared.acts.Act.TheVariants as acts
use Rattle.letter_types.specs.declared.bodies.Notice.{Notice}
use Rattle.letter_types.specs.declared.bodies.Notice.TheVariants.{Did as DidNotice, Yes, No}
use Rattle.letter_types.specs.declared.entries.Entry.{Entry}
use Rattle.board_rules.specs.Outcomes.{acts_in, decision_by, decision_in}
use Rattle.board_rules.specs.Histories.{Place, places_at, places_of}
use Rattle.board_rules.proofs.Places.{option_or_assoc, places_more}
use Rattle.world_model.specs.Counts.{one_if, tally}
use Rattle.world_model.specs.Done.{turned_if}
use Rattle.world_model.specs.Notices.{act_of}
use Rattle.world_model.specs.Strict.{notice_by}
use Rattle.tree_laws.specs.Applied.{decided_as, has_decided}
use Rattle.tree_laws.specs.Turns.{has_turn, turns}
use Rattle.tree_laws.proofs.histories.Acts.{acts_more, of_act}
use Rattle.tree_laws.proofs.apt.AptVersions.{before}
use Rattle.run_laws.proofs.keeping.ParksOnce.{told_by}

-- what the act tells of subtransaction k of tree t
abbrev pub said_by : ℕ → ℕ → Act → Option Notice
said_by t k (acts.Did u j values) = if (u.0 == t) && (j.0 == k) then Some (DidNotice values) else None
said_by t k (acts.Voted u j vote) = if (u.0 == t) && (j.0 == k) then Some (notice_by vote) else None
said_by t k acts.Finished = None
said_by t k _ = None

-- what the first of these acts tells that tells of it
abbrev pub said_in : ℕ → ℕ → List Act → Option Notice
said_in t k [] = None
said_in t k (a ∷ does) = option_or (said_by t k a) (said_in t k does)

-- More acts behind.
said_append : (t k : ℕ) (does more : List Act) → said_in t k (does ++ more) ≡ option_or (said_in t k does) (said_in t k more)
said_append t k [] more = refl
said_append t k (a ∷ does) more =
    ap (λ (o : Option Notice). option_or (said_by t k a) o) (said_append t k does more) ∙ sym (option_or_assoc (said_by t k a) (said_in t k does) (said_in t k more))

decision_append : (t : ℕ) (does more : List Act) → decision_in t (does ++ more) ≡ option_or (decision_in t does) (decision_in t more)
decision_append t [] more = refl
decision_append t (a ∷ does) more =
    ap (λ (o : Option Bool). option_or (decision_by t a) o) (decision_append t does more) ∙ sym (option_or_assoc (decision_by t a) (decision_in t does) (decision_in t more))

pub said_stays : (t k : ℕ) (does more : List Act) (n : Notice) → said_in t k does ≡ Some n → said_in t k (does ++ more) ≡ Some n
said_stays t k does more n is = said_append t k does more ∙ ap (λ (o : Option Notice). option_or o (said_in t k more)) is

pub said_new : (t k : ℕ) (does more : List Act) → said_in t k does ≡ None → said_in t k (does ++ more) ≡ said_in t k more
said_new t k does more is = said_append t k does more ∙ ap (λ (o : Option Notice). option_or o (said_in t k more)) is

pub decision_stays : (t : ℕ) (does more : List Act) (b : Bool) → decision_in t does ≡ Some b → decision_in t (does ++ more) ≡ Some b
decision_stays t does more b is = decision_append t does more ∙ ap (λ (o : Option Bool). option_or o (decision_in t more)) is

pub decision_new : (t : ℕ) (does more : List Act) → decision_in t does ≡ None → decision_in t (does ++ more) ≡ decision_in t more
decision_new t does more is = decision_append t does more ∙ ap (λ (o : Option Bool). option_or o (decision_in t more)) is

-- The acts of a row.
same_sub : (t k : ℕ) → ((t == t) && (k == k)) ≡ true
same_sub t k = grind (arith, nat_tests)

pub said_here : (t : TreeNo) (k : SubNo) (n : Notice) (more : List Act) → said_in t.0 k.0 (act_of t k n ∷ more) ≡ Some n
said_here t k (DidNotice values) more = rw (same_sub t.0 k.0) refl
said_here t k (Yes values) more = rw (same_sub t.0 k.0) refl
said_here t k (No cause) more = rw (same_sub t.0 k.0) refl

pub turned_said : (t k : ℕ) (raises : Bool) (v : ℕ) (more : List Act) → said_in t k (turned_if raises v ++ more) ≡ said_in t k more
turned_said t k true v more = refl
turned_said t k false v more = refl

pub told_undecided : (t : ℕ) (u : TreeNo) (k : SubNo) (n : Notice) (more : List Act) → decision_in t (act_of u k n ∷ more) ≡ decision_in t more
told_undecided t u k (DidNotice values) more = refl
told_undecided t u k (Yes values) more = refl
told_undecided t u k (No cause) more = refl

pub decided_here : (t : TreeNo) (b : Bool) (more : List Act) → decision_in t.0 (acts.Decided t b ∷ more) ≡ Some b
decided_here t b more = rw (same_test t.0) refl

-- Where no act is counted, none tells.
unsaid_by : (t k : ℕ) (u j : ℕ) (n : Notice) (rest : Option Notice) (test : Bool) → ((u == t) && (j == k)) ≡ test → one_if ((u == t) && (j == k)) ≡ 0 → rest ≡ None
    → option_or (if (u == t) && (j == k) then Some n else None) rest ≡ None
unsaid_by t k u j n rest true is none rests = absurd (omega (arith, none, ap one_if is))
unsaid_by t k u j n rest false is none rests = rw is rests

unsaid : (t k : ℕ) (does : List Act) → tally (has_turn t k) does ≡ 0 → said_in t k does ≡ None
unsaid t k [] none = refl
unsaid t k (acts.Did u j values ∷ does) none =
    unsaid_by t k u.0 j.0 (DidNotice values) (said_in t k does) ((u.0 == t) && (j.0 == k)) refl (omega (arith, none)) (unsaid t k does (omega (arith, none)))
unsaid t k (acts.Voted u j vote ∷ does) none =
    unsaid_by t k u.0 j.0 (notice_by vote) (said_in t k does) ((u.0 == t) && (j.0 == k)) refl (omega (arith, none)) (unsaid t k does (omega (arith, none)))
unsaid t k (acts.Finished ∷ does) none = unsaid t k does (omega (arith, none))
unsaid t k (_ ∷ does) none = unsaid t k does (omega (arith, none))

undecided : (t : ℕ) (does : List Act) → tally (has_decided t true) does + tally (has_decided t false) does ≡ 0 → decision_in t does ≡ None
undecided t [] none = refl
undecided t (acts.Decided u commit ∷ does) none =
    let other : (u.0 == t) ≡ false = told_by (u.0 == t) commit (omega (arith, none)) in rw other (undecided t does (omega (arith, none)))
undecided t (acts.Finished ∷ does) none = undecided t does (omega (arith, none))
undecided t (_ ∷ does) none = undecided t does (omega (arith, none))

-- The acts of a past.
tally_acts : (f : Act → ℕ) (xs : List Place) → tally f (acts_in xs) ≡ tally (of_act f) xs
tally_acts f [] = refl
tally_acts f (x ∷ xs) = omega (arith, tally_acts f xs)

turns_in : (past : List Entry) (t k : ℕ) → tally (of_act (has_turn t k)) (places_of (reverse past)) ≡ turns past t k
turns_in [] t k = refl
turns_in (e ∷ past) t k = omega (arith, acts_more (has_turn t k) past e, turns_in past t k)

decided_in : (past : List Entry) (t : ℕ) (b : Bool) → tally (of_act (has_decided t b)) (places_of (reverse past)) ≡ decided_as past t b
decided_in [] t b = refl
decided_in (e ∷ past) t b = omega (arith, acts_more (has_decided t b) past e, decided_in past t b)

-- the acts before
abbrev pub acts_before : List Entry → List Act
acts_before past = acts_in (before past)

pub unsaid_before : (past : List Entry) (t k : ℕ) → turns past t k ≡ 0 → said_in t k (acts_before past) ≡ None
unsaid_before past t k none =
    unsaid t k (acts_before past) (omega (arith, none, tally_acts (has_turn t k) (before past), turns_in past t k))

pub undecided_before : (past : List Entry) (t : ℕ) → decided_as past t true + decided_as past t false ≡ 0 → decision_in t (acts_before past) ≡ None
undecided_before past t none =
    undecided t (acts_before past)
    (omega (
      arith,
      none,
      tally_acts (has_decided t true) (before past),
      tally_acts (has_decided t false) (before past),
      decided_in past t true,
      decided_in past t false,
    ))

acts_in-append : (xs ys : List Place) → acts_in (xs ++ ys) ≡ acts_in xs ++ acts_in ys
acts_in-append [] ys = refl
acts_in-append (x ∷ xs) ys = ap (λ (does : List Act). x.act ∷ does) (acts_in-append xs ys)

placed_acts : (node : ℕ) (does : List Act) → acts_in (map (λ (a : Act). record { node = node; act = a }) does) ≡ does
placed_acts node [] = refl
placed_acts node (a ∷ does) = ap (λ (rest : List Act). a ∷ rest) (placed_acts node does)

pub acts_next : (e : Entry) (past : List Entry) → acts_before (e ∷ past) ≡ acts_before past ++ e.acts
acts_next e past =
    ap (λ (xs : List Place). acts_in xs) (places_more e past) ∙ acts_in-append (before past) (places_at e)
    ∙ ap (λ (does : List Act). acts_before past ++ does) (placed_acts e.actor.0 e.acts)
