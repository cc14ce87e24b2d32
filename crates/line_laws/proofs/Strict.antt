-- How a strict transaction came out stays, once it is complete: its decision and its votes are there, and name what the
-- script has.
use Rattle.std.proofs.Common.{◌≡◌, ℕ, ◌+◌, ◌<◌, ◌==◌, ◌&&◌, ◌||◌, ◌∙◌, Bool, true, false, not, List, [], ◌∷◌, ◌++◌, length, take, reverse, refl, sym, ap, subst, arith, Option, Some, None, take_all}
use Rattle.std.specs.Prelude.{if◌then◌else◌, codes, is_some}
use Rattle.std.specs.List.{AllByRecursion}
use Rattle.std.specs.Option.{option_and_then, option_map_or, option_or}
use Rattle.tv_base.proofs.Truths.{left_true}
use Rattle.letter_types.specs.declared.acts.Act.{Act}
use Rattle.letter_types.specs.declared.acts.Act.TheVariants.{Decided, Finished, Voted}
use Rattle.letter_types.specs.declared.entries.Entry.{Entry}
use Rattle.letter_types.specs.declared.votes.Cause.{Cause}
use Rattle.letter_types.specs.declared.votes.Vote.{Vote}
use Rattle.letter_types.specs.declared.votes.Vote.TheVariants.{Yes, No}
use Rattle.script_parts.specs.ScriptData.{ScriptData, node_of, subs_at}
use Rattle.script_parts.specs.Valid.{IsValid}
use Rattle.script_parts.specs.declared.parts.Sub.{Sub}
use Rattle.script_parts.proofs.SubsOf.{has_root}
use Rattle.board_rules.specs.Histories.{Place, applies, decides_as, is_strict_tree, is_whole_in, places_of, was_applied, was_decided_as}
use Rattle.board_rules.specs.Outcomes.{acts_in, cause_from, decision_by, decision_in, got_from, got_of, vote_by, vote_in}
use Rattle.board_rules.specs.Rules.{AreByRule}
use Rattle.board_rules.specs.Stands.{refusal_in, votes, was_voted}
use Rattle.board_rules.proofs.ActTests.{applies_as, applies_as_one}
use Rattle.board_rules.proofs.Positions.{ActAt, act_found, there_all}
use Rattle.board_rules.proofs.Precedence.{decision}
use Rattle.board_rules.proofs.Rules.{deciding}
use Rattle.board_rules.proofs.Wholes.{any_first, whole_applied}
use Rattle.history_text.specs.TreeNames.{got_text}
use Rattle.report_text.specs.Outcomes.{decided_text, outcome_of, why_text}
use Rattle.world_model.specs.Runs.{IsStepRun}
use Rattle.run_laws.proofs.act_order.Rules.{follows_rules}
use Rattle.run_laws.proofs.replies_told.Said.{decision_stays}
use Rattle.audit_laws.specs.OfScript.{IsActOf, IsCauseOf, IsVoteOf}
use Rattle.growth_laws.specs.Growth.{Extends}
use Rattle.line_laws.proofs.Names.{got_same, why_same}

-- A whole strict tree was decided, once each of its subtransactions had voted.

record HasDecided (s : ScriptData) (xs : List Place) (k : ℕ) : Type 0 where
  commit : Bool
  decided : was_decided_as k commit xs ≡ true
  voted : (j : ℕ) → j < length (subs_at s k) → was_voted k j xs ≡ true

has_decided : (s : ScriptData) (xs : List Place) (k : ℕ) → AreByRule s xs → 0 < length (subs_at s k) → is_strict_tree s k ≡ true
    → is_whole_in s xs k ≡ true → HasDecided s xs k
has_decided s xs k rules some strict whole =
    let p : ℕ = node_of s k 0 in
    let there : was_applied k p (take (length xs) xs) ≡ true =
    ap (λ (ys : List Place). was_applied k p ys) (take_all (length xs) xs (omega arith)) ∙ whole_applied s xs k 0 p strict whole some refl in
    let a = act_found (applies k) xs p (length xs) there in
    let c = applies_as_one k a.at.act a.at.passes in
    let applied : ActAt (applies_as k c.0) xs a.place p = record { act = a.at.act; is = a.at.is; passes = c.1 } in
    let d = decision s xs a.place p k c.0 rules applied in
    let votes_there = (deciding s xs d.place d.node k c.0 rules d.at).voted in
    record {
      commit = c.0;
      decided = there_all (λ (x : Place). decides_as k c.0 x.act) xs d.place (record { node = d.node; act = d.at.act }) d.at.is d.at.passes;
      voted = λ j lt. any_first (λ (x : Place). votes k j x.act) d.place xs (votes_there j lt);
    }

-- So the first decision and the first votes are there, and stay.
some_left : {X : Type 0} (o p : Option X) → is_some o ≡ true → is_some (option_or o p) ≡ true
some_left None p is = absurd (cc is)
some_left (Some x) p is = refl

some_right : {X : Type 0} (o p : Option X) → is_some p ≡ true → is_some (option_or o p) ≡ true
some_right None p is = is
some_right (Some x) p is = refl

what_is : {X : Type 0} (o : Option X) → is_some o ≡ true → (x : X) × (o ≡ Some x)
what_is None is = absurd (cc is)
what_is (Some x) is = (x, refl)

decision_by_some : (k : ℕ) (c : Bool) (a : Act) → decides_as k c a ≡ true → is_some (decision_by k a) ≡ true
decision_by_some k c (Decided u d) is = rw (left_true (u.0 == k) (if c then d else not d) is) refl
decision_by_some k c Finished is = absurd (cc is)
decision_by_some k c _ is = absurd (cc is)

decision_at : (k : ℕ) (c : Bool) (x : Place) (xs : List Place) (b : Bool) → decides_as k c x.act ≡ b → (b || was_decided_as k c xs) ≡ true
    → (was_decided_as k c xs ≡ true → is_some (decision_in k (acts_in xs)) ≡ true) → is_some (decision_in k (acts_in (x ∷ xs))) ≡ true
decision_at k c x xs true is some rest = some_left (decision_by k x.act) (decision_in k (acts_in xs)) (decision_by_some k c x.act is)
decision_at k c x xs false is some rest = some_right (decision_by k x.act) (decision_in k (acts_in xs)) (rest some)

decision_some : (k : ℕ) (c : Bool) (xs : List Place) → was_decided_as k c xs ≡ true → is_some (decision_in k (acts_in xs)) ≡ true
decision_some k c [] is = absurd (cc is)
decision_some k c (x ∷ xs) is = decision_at k c x xs (decides_as k c x.act) refl is (decision_some k c xs)

vote_by_some : (k j : ℕ) (a : Act) → votes k j a ≡ true → is_some (vote_by k j a) ≡ true
vote_by_some k j (Voted u i v) is = rw is refl
vote_by_some k j Finished is = absurd (cc is)
vote_by_some k j _ is = absurd (cc is)

vote_at : (k j : ℕ) (x : Place) (xs : List Place) (b : Bool) → votes k j x.act ≡ b → (b || was_voted k j xs) ≡ true
    → (was_voted k j xs ≡ true → is_some (vote_in k j (acts_in xs)) ≡ true) → is_some (vote_in k j (acts_in (x ∷ xs))) ≡ true
vote_at k j x xs true is some rest = some_left (vote_by k j x.act) (vote_in k j (acts_in xs)) (vote_by_some k j x.act is)
vote_at k j x xs false is some rest = some_right (vote_by k j x.act) (vote_in k j (acts_in xs)) (rest some)

vote_some : (k j : ℕ) (xs : List Place) → was_voted k j xs ≡ true → is_some (vote_in k j (acts_in xs)) ≡ true
vote_some k j [] is = absurd (cc is)
vote_some k j (x ∷ xs) is = vote_at k j x xs (votes k j x.act) refl is (vote_some k j xs)

or_stays : {X : Type 0} (o p q : Option X) → (is_some p ≡ true → q ≡ p) → is_some (option_or o p) ≡ true → option_or o q ≡ option_or o p
or_stays None p q same is = same is
or_stays (Some x) p q same is = refl

vote_stays : (k j : ℕ) (acts more : List Act) → is_some (vote_in k j acts) ≡ true → vote_in k j (acts ++ more) ≡ vote_in k j acts
vote_stays k j [] more is = absurd (cc is)
vote_stays k j (a ∷ acts) more is =
    or_stays (vote_by k j a) (vote_in k j acts) (vote_in k j (acts ++ more)) (vote_stays k j acts more)
    is

-- What a line is made of, where the votes of subtransactions from j on are the same in both lists of acts.
abbrev SameVotes : List Act → List Act → ℕ → ℕ → List Sub → Type 0
SameVotes acts more k j subs = (n : ℕ) → n < length subs → vote_in k (j + n) more ≡ vote_in k (j + n) acts

first_vote : (acts more : List Act) (k j : ℕ) (sub : Sub) (subs : List Sub) → SameVotes acts more k j (sub ∷ subs)
    → vote_in k j more ≡ vote_in k j acts
first_vote acts more k j sub subs same = subst (λ (i : ℕ). vote_in k i more ≡ vote_in k i acts) (omega arith) (same 0 (omega arith))

next_votes : (acts more : List Act) (k j : ℕ) (sub : Sub) (subs : List Sub) → SameVotes acts more k j (sub ∷ subs)
    → SameVotes acts more k (j + 1) subs
next_votes acts more k j sub subs same =
    λ n lt. subst (λ (i : ℕ). vote_in k i more ≡ vote_in k i acts) (omega arith) (same (n + 1) (omega (arith, lt)))

same_gets : (acts more : List Act) (k j : ℕ) (subs : List Sub) → SameVotes acts more k j subs → got_from more k j subs ≡ got_from acts k j subs
same_gets acts more k j [] same = refl
same_gets acts more k j (sub ∷ subs) same =
    ap (λ (o : Option Vote). option_map_or got_of o [] ++ got_from more k (j + 1) subs) (first_vote acts more k j sub subs same)
    ∙ ap (λ ws. option_map_or got_of (vote_in k j acts) [] ++ ws)
    (same_gets acts more k (j + 1) subs (next_votes acts more k j sub subs same))

same_cause : (acts more : List Act) (k j : ℕ) (subs : List Sub) → SameVotes acts more k j subs
    → cause_from more k j subs ≡ cause_from acts k j subs
same_cause acts more k j [] same = refl
same_cause acts more k j (sub ∷ subs) same =
    ap (λ (o : Option Vote). option_or (option_and_then refusal_in o) (cause_from more k (j + 1) subs)) (first_vote acts more k j sub subs same)
    ∙ ap (λ (o : Option Cause). option_or (option_and_then refusal_in (vote_in k j acts)) o)
    (same_cause acts more k (j + 1) subs (next_votes acts more k j sub subs same))

-- A cause that a vote names is one of the script.
vote_by_known : (s : ScriptData) (k j : ℕ) (a : Act) (v : Vote) → IsActOf s a → vote_by k j a ≡ Some v → IsVoteOf s v
vote_by_known s k j (Voted u i w) v of is = by ((u.0 == k) && (i.0 == j)) is where
  by : (b : Bool) → (if b then Some w else None) ≡ Some v → IsVoteOf s v
  by true at = let same : w ≡ v = cc at in subst (IsVoteOf s) same of.1
  by false at = absurd (cc at)
vote_by_known s k j Finished v of is = absurd (cc is)
vote_by_known s k j _ v of is = absurd (cc is)

or_known : {X : Type 0} (P : X → Type 0) (o p : Option X) (x : X) → (o ≡ Some x → P x) → (p ≡ Some x → P x) → option_or o p ≡ Some x → P x
or_known P None p x one rest is = rest is
or_known P (Some y) p x one rest is = one is

vote_known : (s : ScriptData) (k j : ℕ) (acts : List Act) (v : Vote) → AllByRecursion (IsActOf s) acts → vote_in k j acts ≡ Some v → IsVoteOf s v
vote_known s k j [] v all is = absurd (cc is)
vote_known s k j (a ∷ acts) v all is =
    or_known (IsVoteOf s) (vote_by k j a) (vote_in k j acts) v (vote_by_known s k j a v all.0) (vote_known s k j acts v all.1) is

refusal_known : (s : ScriptData) (o : Option Vote) (c : Cause) → ((v : Vote) → o ≡ Some v → IsVoteOf s v)
    → option_and_then refusal_in o ≡ Some c → IsCauseOf s c
refusal_known s None c known is = absurd (cc is)
refusal_known s (Some (Yes ws)) c known is = absurd (cc is)
refusal_known s (Some (No d)) c known is = let same : d ≡ c = cc is in subst (IsCauseOf s) same (known (No d) refl)

cause_known : (s : ScriptData) (acts : List Act) (k j : ℕ) (subs : List Sub) (c : Cause) → AllByRecursion (IsActOf s) acts
    → cause_from acts k j subs ≡ Some c → IsCauseOf s c
cause_known s acts k j [] c all is = absurd (cc is)
cause_known s acts k j (sub ∷ subs) c all is =
    or_known (IsCauseOf s) (option_and_then refusal_in (vote_in k j acts)) (cause_from acts k (j + 1) subs) c
    (refusal_known s (vote_in k j acts) c (λ v there. vote_known s k j acts v all there))
    (cause_known s acts k (j + 1) subs c all) is

-- So the text stays.
text_same : (s t : ScriptData) (acts more : List Act) (k : ℕ) (subs : List Sub) (commit : Bool) → Extends s t → AllByRecursion (IsActOf s) acts
    → SameVotes acts more k 0 subs → decided_text t more k subs commit ≡ decided_text s acts k subs commit
text_same s t acts more k subs true e all same =
    ap (λ ws. codes " committed" ++ got_text t ws) (same_gets acts more k 0 subs same)
    ∙ ap (λ (text : List ℕ). codes " committed" ++ text) (got_same s t (got_from acts k 0 subs) e)
text_same s t acts more k subs false e all same =
    ap (λ (o : Option Cause). codes " aborted" ++ why_text t o) (same_cause acts more k 0 subs same)
    ∙ ap (λ (text : List ℕ). codes " aborted" ++ text) (why_same s t (cause_from acts k 0 subs) e (λ c is. cause_known s acts k 0 subs c all is))

outcome_by : (s t : ScriptData) (acts more : List Act) (k : ℕ) (subs : List Sub) (b : Bool) → Extends s t → AllByRecursion (IsActOf s) acts
    → SameVotes acts (acts ++ more) k 0 subs → decision_in k acts ≡ Some b
    → outcome_of t (acts ++ more) k subs ≡ outcome_of s acts k subs
outcome_by s t acts more k subs b e all same is =
    ap (λ (o : Option Bool). option_map_or (decided_text t (acts ++ more) k subs) o []) (decision_stays k acts more b is)
    ∙ text_same s t acts (acts ++ more) k subs b e all same
    ∙ sym (ap (λ (o : Option Bool). option_map_or (decided_text s acts k subs) o []) is)

pub outcome_stays : (s t : ScriptData) (past : List Entry) (k : ℕ) (subs : List Sub) (more : List Act) → IsValid s → Extends s t → IsStepRun s past
    → k < length s.trees → is_strict_tree s k ≡ true → is_whole_in s (places_of (reverse past)) k ≡ true → subs_at s k ≡ subs
    → AllByRecursion (IsActOf s) (acts_in (places_of (reverse past)))
    → outcome_of t (acts_in (places_of (reverse past)) ++ more) k subs ≡ outcome_of s (acts_in (places_of (reverse past))) k subs
outcome_stays s t past k subs more valid e run lt strict whole is all =
    let xs : List Place = places_of (reverse past) in
    let acts : List Act = acts_in xs in
    let d = has_decided s xs k (follows_rules s past valid run).acts (has_root s k valid lt) strict whole in
    let decided = what_is (decision_in k acts) (decision_some k d.commit xs d.decided) in
    let same : SameVotes acts (acts ++ more) k 0 subs =
    λ (n : ℕ) small. subst (λ (i : ℕ). vote_in k i (acts ++ more) ≡ vote_in k i acts) (omega arith)
    (vote_stays k n acts more (vote_some k n xs (d.voted n (subst (λ (ys : List Sub). n < length ys) (sym is) small)))) in
    outcome_by s t acts more k subs decided.0 e all same decided.1
