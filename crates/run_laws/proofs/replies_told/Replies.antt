-- In every run a reply says what was told, in the words of the report, and names the lowest no.
use Rattle.std.proofs.Common.{◌≡◌, ◌≢◌, ◌⊎◌, inl, inr, ℕ, ◌+◌, ◌<◌, ◌≤◌, ◌==◌, ◌&&◌, Bool, true, false, not, List, [], ◌∷◌, ◌++◌, length, reverse, refl, sym, ap, subst, ◌∙◌, arith, Option, Some, None}
use Rattle.std.specs.Prelude.{if◌then◌else◌, is_some}
use Rattle.std.specs.Option.{option_and_then, option_map_or, option_or, unwrap_or}
use Rattle.std.proofs.lemmas.Bool.{cases_eq}
use Rattle.tv_base.specs.declared.numbers.Version.{Version}
use Rattle.letter_types.specs.declared.acts.Act.{Act}
use Rattle.letter_types.specs.declared.acts.Act.TheVariants as acts
use Rattle.letter_types.specs.declared.bodies.Answer.{Answer}
use Rattle.letter_types.specs.declared.bodies.Answer.TheVariants.{Aborted, Whole}
use Rattle.letter_types.specs.declared.bodies.Body.{Body}
use Rattle.letter_types.specs.declared.bodies.Body.TheVariants.{Go, Reply}
use Rattle.letter_types.specs.declared.bodies.Notice.{Notice}
use Rattle.letter_types.specs.declared.bodies.Notice.TheVariants.{Did as DidNotice, Yes, No}
use Rattle.letter_types.specs.declared.entries.Entry.{Entry}
use Rattle.letter_types.specs.declared.entries.Outgoing.{Outgoing}
use Rattle.letter_types.specs.declared.votes.Cause.{Cause}
use Rattle.letter_types.specs.declared.votes.Vote.{Vote}
use Rattle.letter_types.specs.declared.votes.Vote.TheVariants as votes
use Rattle.tree_home.specs.Homes.{Gets}
use Rattle.tx_trees.specs.ScriptData.{ScriptData, subs_at}
use Rattle.tx_trees.specs.Valid.{IsValid}
use Rattle.tx_trees.specs.declared.parts.Sub.{Sub}
use Rattle.tx_trees.specs.declared.parts.TreeKind.{TreeKind}
use Rattle.tx_trees.specs.declared.parts.TreeKind.TheVariants.{Read, Strict, Update}
use Rattle.world_model.specs.declared.refusal.NegativeVote.{NegativeVote}
use Rattle.world_model.specs.Counts.{Each}
use Rattle.world_model.specs.Named.{is_strict_at, tree_kind_at}
use Rattle.world_model.specs.Notices.{values_of}
use Rattle.world_model.specs.Runs.{IsStepRun}
use Rattle.world_model.specs.Strict.{answer_by, notice_by}
use Rattle.world_model.proofs.Bridge.{reverse_more}
use Rattle.world_model.proofs.Every.{each_append, each_both, each_map}
use Rattle.board_rules.specs.Outcomes.{acts_in, cause_from, decision_in, did_from, did_in, got_from, got_of, vote_in}
use Rattle.board_rules.specs.Histories.{places_of}
use Rattle.board_rules.specs.Stands.{refusal_in}
use Rattle.run_laws.proofs.each_tree.EveryApt.{all_apt}
use Rattle.run_laws.specs.Replies.{AnswersAsDecided, AnswersByActs, IsLowestNo, IsRightReply, NamesCause, NamesLowestNo, RepliesNameNoes, RepliesTell, ReplyNamesNo}
use Rattle.run_laws.proofs.strict.StrictKinds.{strict_by_kind}
use Rattle.run_laws.proofs.replies_told.Runs.{SentTold, all_sent, versions_before}
use Rattle.run_laws.proofs.replies_told.Said.{acts_before, said_in}
use Rattle.run_laws.proofs.replies_told.Senders.{FromHome, SentFromHome, all_from_home}
use Rattle.run_laws.proofs.replies_told.Told.{Answers, BodyTold, FitsKind, Gathered, Minds, OutTold, SaidNo}

-- What was told first is a Did, or the vote.
did_at : (t k u j : ℕ) (values given : Gets) (rest : Option Notice) (later : Option Gets) (test : Bool) → ((u == t) && (j == k)) ≡ test
    → option_or (if (u == t) && (j == k) then Some (DidNotice values) else None) rest ≡ Some (DidNotice given) → (rest ≡ Some (DidNotice given) → later ≡ Some given)
    → option_or (if (u == t) && (j == k) then Some values else None) later ≡ Some given
did_at t k u j values given rest later true is at next =
    let same : Some (DidNotice values) ≡ Some (DidNotice given) = rw is at at in let one : values ≡ given = cc same in rw is (ap Some one)
did_at t k u j values given rest later false is at next = let other : rest ≡ Some (DidNotice given) = rw is at at in rw is (next other)

not_did : (vote : Vote) (given : Gets) → Some (notice_by vote) ≡ Some (DidNotice given) → ⊥
not_did (votes.Yes values) given is = cc is
not_did (votes.No cause) given is = cc is

voted_at : (t k u j : ℕ) (vote : Vote) (given : Gets) (rest : Option Notice) (test : Bool) → ((u == t) && (j == k)) ≡ test
    → option_or (if (u == t) && (j == k) then Some (notice_by vote) else None) rest ≡ Some (DidNotice given) → rest ≡ Some (DidNotice given)
voted_at t k u j vote given rest true is at = absurd (not_did vote given (rw is at at))
voted_at t k u j vote given rest false is at = rw is at at

pub said_did : (t k : ℕ) (does : List Act) (given : Gets) → said_in t k does ≡ Some (DidNotice given) → did_in t k does ≡ Some given
said_did t k [] given is = absurd (cc is)
said_did t k (acts.Did u j values ∷ does) given is =
    did_at t k u.0 j.0 values given (said_in t k does) (did_in t k does) ((u.0 == t) && (j.0 == k)) refl is (λ rest. said_did t k does given rest)
said_did t k (acts.Voted u j vote ∷ does) given is =
    said_did t k does given (voted_at t k u.0 j.0 vote given (said_in t k does) ((u.0 == t) && (j.0 == k)) refl is)
said_did t k (acts.Finished ∷ does) given is = said_did t k does given is
said_did t k (_ ∷ does) given is = said_did t k does given is

same_vote : (w vote : Vote) → Some (notice_by w) ≡ Some (notice_by vote) → w ≡ vote
same_vote (votes.Yes values) (votes.Yes given) is = let one : values ≡ given = cc is in ap votes.Yes one
same_vote (votes.Yes values) (votes.No cause) is = absurd (cc is)
same_vote (votes.No cause) (votes.Yes given) is = absurd (cc is)
same_vote (votes.No cause) (votes.No named) is = let one : cause ≡ named = cc is in ap votes.No one

did_rest : (t k u j : ℕ) (values : Gets) (vote : Vote) (rest : Option Notice) (test : Bool) → ((u == t) && (j == k)) ≡ test
    → option_or (if (u == t) && (j == k) then Some (DidNotice values) else None) rest ≡ Some (notice_by vote) → rest ≡ Some (notice_by vote)
did_rest t k u j values vote rest true is at = absurd (not_did vote values (sym (rw is at at)))
did_rest t k u j values vote rest false is at = rw is at at

vote_at : (t k u j : ℕ) (w vote : Vote) (rest : Option Notice) (later : Option Vote) (test : Bool) → ((u == t) && (j == k)) ≡ test
    → option_or (if (u == t) && (j == k) then Some (notice_by w) else None) rest ≡ Some (notice_by vote) → (rest ≡ Some (notice_by vote) → later ≡ Some vote)
    → option_or (if (u == t) && (j == k) then Some w else None) later ≡ Some vote
vote_at t k u j w vote rest later true is at next =
    let same : Some (notice_by w) ≡ Some (notice_by vote) = rw is at at in rw is (ap Some (same_vote w vote same))
vote_at t k u j w vote rest later false is at next = let other : rest ≡ Some (notice_by vote) = rw is at at in rw is (next other)

said_vote : (t k : ℕ) (does : List Act) (vote : Vote) → said_in t k does ≡ Some (notice_by vote) → vote_in t k does ≡ Some vote
said_vote t k [] vote is = absurd (cc is)
said_vote t k (acts.Did u j values ∷ does) vote is =
    said_vote t k does vote (did_rest t k u.0 j.0 values vote (said_in t k does) ((u.0 == t) && (j.0 == k)) refl is)
said_vote t k (acts.Voted u j w ∷ does) vote is =
    vote_at t k u.0 j.0 w vote (said_in t k does) (vote_in t k does) ((u.0 == t) && (j.0 == k)) refl is (λ rest. said_vote t k does vote rest)
said_vote t k (acts.Finished ∷ does) vote is = said_vote t k does vote is
said_vote t k (_ ∷ does) vote is = said_vote t k does vote is

-- The values that are gathered.
-- of an update tree none
update_notice : (kind : Option TreeKind) (n : Notice) → kind ≡ Some Update → FitsKind kind n → values_of n ≡ []
update_notice kind n is fits = let same : n ≡ DidNotice [] = subst (λ (x : Option TreeKind). FitsKind x n) is fits in ap values_of same

gathered_update : (s : ScriptData) (does : List Act) (t : ℕ) (o : Option NegativeVote) (k : ℕ) (subs : List Sub) (values : Gets) → tree_kind_at s t ≡ Some Update
    → Gathered s does t o k subs values → values ≡ []
gathered_update s does t o k [] values kind it = it
gathered_update s does t o k (sub ∷ subs) values kind it =
    let slot = it.1.1.1.0 in
    let first : it.0 ≡ [] = sym slot.gives ∙ update_notice (tree_kind_at s t) slot.notice kind slot.fits in
    let rest : it.1.0 ≡ [] = gathered_update s does t o (k + 1) subs it.1.0 kind it.1.1.1.1 in
    it.1.1.0 ∙ ap (λ (x : Gets). x ++ it.1.0) first ∙ rest

-- of a read tree those of its Dids
read_first : (kind : Option TreeKind) (does : List Act) (t k : ℕ) (n : Notice) (first : Gets) → kind ≡ Some Read → FitsKind kind n → said_in t k does ≡ Some n
    → values_of n ≡ first → unwrap_or (did_in t k does) [] ≡ first
read_first kind does t k (DidNotice values) first is fits said gives = ap (λ (o : Option Gets). unwrap_or o []) (said_did t k does values said) ∙ gives
read_first kind does t k (Yes values) first is fits said gives = absurd (subst (λ (x : Option TreeKind). FitsKind x (Yes values)) is fits)
read_first kind does t k (No cause) first is fits said gives = absurd (subst (λ (x : Option TreeKind). FitsKind x (No cause)) is fits)

gathered_read : (s : ScriptData) (does : List Act) (t : ℕ) (o : Option NegativeVote) (k : ℕ) (subs : List Sub) (values : Gets) → tree_kind_at s t ≡ Some Read
    → Gathered s does t o k subs values → values ≡ did_from does t k subs
gathered_read s does t o k [] values kind it = it
gathered_read s does t o k (sub ∷ subs) values kind it =
    let slot = it.1.1.1.0 in
    let first = read_first (tree_kind_at s t) does t k slot.notice it.0 kind slot.fits slot.said slot.gives in
    let rest = gathered_read s does t o (k + 1) subs it.1.0 kind it.1.1.1.1 in
    it.1.1.0 ∙ ap (λ (x : Gets). x ++ it.1.0) (sym first) ∙ ap (λ (x : Gets). unwrap_or (did_in t k does) [] ++ x) rest

-- of a strict tree without a no those of its votes
yes_first : (kind : Option TreeKind) (does : List Act) (t k : ℕ) (n : Notice) (first : Gets) → kind ≡ Some Strict → FitsKind kind n → Minds n None k
    → said_in t k does ≡ Some n → values_of n ≡ first → option_map_or got_of (vote_in t k does) [] ≡ first
yes_first kind does t k (DidNotice values) first is fits minds said gives = absurd (subst (λ (x : Option TreeKind). FitsKind x (DidNotice values)) is fits)
yes_first kind does t k (Yes values) first is fits minds said gives = ap (λ (o : Option Vote). option_map_or got_of o []) (said_vote t k does (votes.Yes values) said) ∙ gives
yes_first kind does t k (No cause) first is fits minds said gives = absurd minds

gathered_yes : (s : ScriptData) (does : List Act) (t k : ℕ) (subs : List Sub) (values : Gets) → tree_kind_at s t ≡ Some Strict
    → Gathered s does t None k subs values → values ≡ got_from does t k subs
gathered_yes s does t k [] values kind it = it
gathered_yes s does t k (sub ∷ subs) values kind it =
    let slot = it.1.1.1.0 in
    let first = yes_first (tree_kind_at s t) does t k slot.notice it.0 kind slot.fits slot.minds slot.said slot.gives in
    let rest = gathered_yes s does t (k + 1) subs it.1.0 kind it.1.1.1.1 in
    it.1.1.0 ∙ ap (λ (x : Gets). x ++ it.1.0) (sym first) ∙ ap (λ (x : Gets). option_map_or got_of (vote_in t k does) [] ++ x) rest

-- The cause of the no of least number is that of the first that votes no.
no_cause : (kind : Option TreeKind) (does : List Act) (t k : ℕ) (n : Notice) (r : NegativeVote) → kind ≡ Some Strict → FitsKind kind n → Minds n (Some r) k
    → said_in t k does ≡ Some n → k < r.sub.0 → option_and_then refusal_in (vote_in t k does) ≡ None
no_cause kind does t k (DidNotice values) r is fits minds said lt = absurd (subst (λ (x : Option TreeKind). FitsKind x (DidNotice values)) is fits)
no_cause kind does t k (Yes values) r is fits minds said lt = ap (option_and_then refusal_in) (said_vote t k does (votes.Yes values) said)
no_cause kind does t k (No cause) r is fits minds said lt = absurd (omega (arith, minds, lt))

gathered_cause : (s : ScriptData) (does : List Act) (t : ℕ) (r : NegativeVote) (k : ℕ) (subs : List Sub) (values : Gets) → tree_kind_at s t ≡ Some Strict
    → said_in t r.sub.0 does ≡ Some (No r.cause) → k ≤ r.sub.0 → r.sub.0 < k + length subs → Gathered s does t (Some r) k subs values
    → cause_from does t k subs ≡ Some r.cause
gathered_cause s does t r k [] values kind said le lt it = absurd (omega (arith, le, lt))
gathered_cause s does t r k (sub ∷ subs) values kind said le lt it =
    by (cases_eq k r.sub.0) (λ less. gathered_cause s does t r (k + 1) subs it.1.0 kind said less (omega (arith, lt)) it.1.1.1.1) where
      by : (k ≡ r.sub.0) ⊎ (k ≢ r.sub.0) → (k + 1 ≤ r.sub.0 → cause_from does t (k + 1) subs ≡ Some r.cause) → cause_from does t k (sub ∷ subs) ≡ Some r.cause
      by (inl same) later =
          let here : vote_in t k does ≡ Some (votes.No r.cause) = said_vote t k does (votes.No r.cause) (ap (λ (i : ℕ). said_in t i does) same ∙ said) in
          ap (λ (o : Option Vote). option_or (option_and_then refusal_in o) (cause_from does t (k + 1) subs)) here
      by (inr ne) later =
          let slot = it.1.1.1.0 in
          let less : k < r.sub.0 = omega (arith, le, ne) in
          let none = no_cause (tree_kind_at s t) does t k slot.notice r kind slot.fits slot.minds slot.said less in
          ap (λ (o : Option Cause). option_or o (cause_from does t (k + 1) subs)) none ∙ later (omega (arith, less))

-- So a reply says it.
as_decided : (s : ScriptData) (does : List Act) (t : ℕ) (answer : Answer) (o : Option NegativeVote) (values : Gets)
    → tree_kind_at s t ≡ Some Strict → Gathered s does t o 0 (subs_at s t) values → SaidNo s does t o → decision_in t does ≡ Some (not (is_some o))
    → (o ≡ None → answer ≡ Whole values) → ((r : NegativeVote) → o ≡ Some r → answer ≡ Aborted r.cause)
    → AnswersAsDecided does t (subs_at s t) (decision_in t does) answer
as_decided s does t answer None values kind gathered noes decided whole aborted =
    subst (λ (x : Option Bool). AnswersAsDecided does t (subs_at s t) x answer) (sym decided)
    (whole refl ∙ ap Whole (gathered_yes s does t 0 (subs_at s t) values kind gathered))
as_decided s does t answer (Some r) values kind gathered noes decided whole aborted =
    let cause = gathered_cause s does t r 0 (subs_at s t) values kind noes.0 (omega arith) (omega (arith, noes.1)) gathered in
    subst (λ (x : Option Bool). AnswersAsDecided does t (subs_at s t) x answer) (sym decided)
    (subst (λ (x : Option Cause). NamesCause x answer) (sym cause) (aborted r refl))

answers_by : (s : ScriptData) (does : List Act) (vs : ℕ → Option Version) (t : ℕ) (v : Version) (answer : Answer) (kind : Option TreeKind) → tree_kind_at s t ≡ kind
    → Answers s does vs t v answer → AnswersByActs does t (subs_at s t) kind answer
answers_by s does vs t v answer (Some Update) is it =
    let plain : is_strict_at s t ≡ false = rw (is, is_strict_at) refl in
    it.says ∙ ap (λ (o : Option NegativeVote). answer_by o it.whole) (it.plain plain)
    ∙ ap Whole (gathered_update s does t it.least 0 (subs_at s t) it.whole.values is it.gathered)
answers_by s does vs t v answer (Some Read) is it =
    let plain : is_strict_at s t ≡ false = rw (is, is_strict_at) refl in
    it.says ∙ ap (λ (o : Option NegativeVote). answer_by o it.whole) (it.plain plain)
    ∙ ap Whole (gathered_read s does t it.least 0 (subs_at s t) it.whole.values is it.gathered)
answers_by s does vs t v answer (Some Strict) is it =
    as_decided s does t answer it.least it.whole.values is it.gathered it.noes (it.strict (strict_by_kind s t is))
    (λ none. it.says ∙ ap (λ (o : Option NegativeVote). answer_by o it.whole) none) (λ r some. it.says ∙ ap (λ (o : Option NegativeVote). answer_by o it.whole) some)
answers_by s does vs t v answer None is it = absurd (it.kind is)

right_reply : (s : ScriptData) (past : List Entry) (from to : ℕ) (b : Body) → BodyTold s (acts_before past) (versions_before past) to b → FromHome s from b
    → IsRightReply s (reverse past) from to b
right_reply s past from to (Reply t v answer) it home = record {
  home = home it.1.kind;
  client = it.0;
  version = it.1.version;
  says = answers_by s (acts_before past) (versions_before past) t.0 v answer (tree_kind_at s t.0) refl it.1;
}
right_reply s past from to Go it home = tt
right_reply s past from to _ it home = tt

pub each_reversed : (Q : Entry → Type 0) (past : List Entry) → Each Q past → Each Q (reverse past)
each_reversed Q [] all = tt
each_reversed Q (e ∷ past) all =
    subst (λ (h : List Entry). Each Q h) (sym (reverse_more e past)) (each_append Q (reverse past) (e ∷ []) (each_reversed Q past all.1) (all.0, tt))

right_sent : (s : ScriptData) (past : List Entry) (e : Entry) → SentTold s past e → SentFromHome s e
    → Each (λ (o : Outgoing). IsRightReply s (reverse past) e.actor.0 o.to.0 o.body) e.sent
right_sent s past e sent homes =
    each_map (λ (o : Outgoing). OutTold s (acts_before past) (versions_before past) o × FromHome s e.actor.0 o.body)
    (λ (o : Outgoing). IsRightReply s (reverse past) e.actor.0 o.to.0 o.body) e.sent
    (λ o it. right_reply s past e.actor.0 o.to.0 o.body it.0 it.1)
    (each_both (OutTold s (acts_before past) (versions_before past)) (λ (o : Outgoing). FromHome s e.actor.0 o.body) e.sent sent homes)

pub replies_tell : (s : ScriptData) (past : List Entry) → IsValid s → IsStepRun s past → RepliesTell s (reverse past)
replies_tell s past valid run =
    let apt = all_apt s past valid run in
    let Q : Entry → Type 0 = λ e. Each (λ (o : Outgoing). IsRightReply s (reverse past) e.actor.0 o.to.0 o.body) e.sent in
    each_reversed Q past
    (each_map (λ (e : Entry). SentTold s past e × SentFromHome s e) Q past (λ e it. right_sent s past e it.0 it.1)
    (each_both (λ (e : Entry). SentTold s past e) (λ (e : Entry). SentFromHome s e) past (all_sent s past valid apt run) (all_from_home s past valid apt run)))

-- The cause of the first that votes no, in words of its own.
record LowestFrom (does : List Act) (t k n : ℕ) (cause : Cause) : Type 0 where
  sub : ℕ
  above : k ≤ sub
  below : sub < n
  voted : vote_in t sub does ≡ Some (votes.No cause)
  lower : (i : ℕ) (named : Cause) → k ≤ i → i < sub → vote_in t i does ≡ Some (votes.No named) → ⊥

lowest_from : (does : List Act) (t k n : ℕ) (subs : List Sub) (cause : Cause) → k + length subs ≡ n → cause_from does t k subs ≡ Some cause
    → LowestFrom does t k n cause
lowest_from does t k n [] cause size is = absurd (cc is)
lowest_from does t k n (sub ∷ subs) cause size is =
    by (vote_in t k does) refl is (λ rest. lowest_from does t (k + 1) n subs cause (omega (arith, size)) rest) where
      next : ((named : Cause) → vote_in t k does ≡ Some (votes.No named) → ⊥) → LowestFrom does t (k + 1) n cause → LowestFrom does t k n cause
      next none later = record {
        sub = later.sub;
        above = omega (arith, later.above);
        below = later.below;
        voted = later.voted;
        lower = λ i named le less at. at_lower none later i named le less at (cases_eq i k);
      } where
        at_lower : ((named : Cause) → vote_in t k does ≡ Some (votes.No named) → ⊥) → (later : LowestFrom does t (k + 1) n cause) → (i : ℕ) (named : Cause) → k ≤ i
            → i < later.sub → vote_in t i does ≡ Some (votes.No named) → (i ≡ k) ⊎ (i ≢ k) → ⊥
        at_lower none later i named le less at (inl same) = none named (subst (λ (j : ℕ). vote_in t j does ≡ Some (votes.No named)) same at)
        at_lower none later i named le less at (inr ne) = later.lower i named (omega (arith, le, ne)) less at

      by : (found : Option Vote) → vote_in t k does ≡ found → option_or (option_and_then refusal_in found) (cause_from does t (k + 1) subs) ≡ Some cause
          → (cause_from does t (k + 1) subs ≡ Some cause → LowestFrom does t (k + 1) n cause) → LowestFrom does t k n cause
      by None at found later = next (λ named no. absurd (cc (at, no))) (later found)
      by (Some (votes.Yes values)) at found later = next (λ named no. absurd (cc (at, no))) (later found)
      by (Some (votes.No named)) at found later =
          let same : named ≡ cause = cc found in
          record {
            sub = k;
            above = omega arith;
            below = omega (arith, size);
            voted = at ∙ ap (λ (x : Cause). Some (votes.No x)) same;
            lower = λ i other le less no. absurd (omega (arith, le, less));
          }

lowest_no : (does : List Act) (t : ℕ) (subs : List Sub) (cause : Cause) → cause_from does t 0 subs ≡ Some cause → IsLowestNo does t (length subs) cause
lowest_no does t subs cause is =
    let l : LowestFrom does t 0 (length subs) cause = lowest_from does t 0 (length subs) subs cause (omega arith) is in
    record { sub = l.sub; below = l.below; votes = l.voted; lower = λ k named less at. l.lower k named (omega arith) less at }

named_by : (s : ScriptData) (does : List Act) (t : ℕ) (cause : Cause) (kind : Option TreeKind) → AnswersByActs does t (subs_at s t) kind (Aborted cause)
    → (decision_in t does ≡ Some false) × IsLowestNo does t (length (subs_at s t)) cause
named_by s does t cause (Some Update) it = absurd (cc it)
named_by s does t cause (Some Read) it = absurd (cc it)
named_by s does t cause None it = absurd it
named_by s does t cause (Some Strict) it = by (decision_in t does) refl it where
  names : (found : Option Cause) → cause_from does t 0 (subs_at s t) ≡ found → NamesCause found (Aborted cause) → IsLowestNo does t (length (subs_at s t)) cause
  names None at is = absurd is
  names (Some named) at is =
      let same : cause ≡ named = cc is in lowest_no does t (subs_at s t) cause (at ∙ ap Some (sym same))

  by : (decision : Option Bool) → decision_in t does ≡ decision → AnswersAsDecided does t (subs_at s t) decision (Aborted cause)
      → (decision_in t does ≡ Some false) × IsLowestNo does t (length (subs_at s t)) cause
  by None at is = absurd is
  by (Some true) at is = absurd (cc is)
  by (Some false) at is = (at, names (cause_from does t 0 (subs_at s t)) refl is)

names_no : (s : ScriptData) (does : List Act) (t : ℕ) (answer : Answer) (kind : Option TreeKind) → AnswersByActs does t (subs_at s t) kind answer
    → NamesLowestNo s does t answer
names_no s does t (Aborted cause) kind it = named_by s does t cause kind it
names_no s does t (Whole values) kind it = tt

reply_names : (s : ScriptData) (h : List Entry) (from to : ℕ) (b : Body) → IsRightReply s h from to b → ReplyNamesNo s h b
reply_names s h from to (Reply t v answer) it = names_no s (acts_in (places_of h)) t.0 answer (tree_kind_at s t.0) it.says
reply_names s h from to Go it = tt
reply_names s h from to _ it = tt

pub replies_name : (s : ScriptData) (past : List Entry) → IsValid s → IsStepRun s past → RepliesNameNoes s (reverse past)
replies_name s past valid run =
    let h : List Entry = reverse past in
    each_map (λ (e : Entry). Each (λ (o : Outgoing). IsRightReply s h e.actor.0 o.to.0 o.body) e.sent) (λ (e : Entry). Each (λ (o : Outgoing). ReplyNamesNo s h o.body) e.sent) h
    (λ e it.
    each_map (λ (o : Outgoing). IsRightReply s h e.actor.0 o.to.0 o.body) (λ (o : Outgoing). ReplyNamesNo s h o.body) e.sent
    (λ o right. reply_names s h e.actor.0 o.to.0 o.body right) it)
    (replies_tell s past valid run)
