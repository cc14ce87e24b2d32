-- How the stage of a transaction goes on, in runs of every script.
use Rattle.std.proofs.Common.{◌≡◌, ◌⊎◌, inl, inr, ℕ, ◌+◌, ◌-◌, ◌<◌, ◌≤◌, Bool, true, false, List, ◌∷◌, length, set, refl, ap, ◌∙◌, arith, Option, Some, None}
use Rattle.std.specs.Prelude.{nat_lt, slice_get}
use Rattle.std.proofs.lemmas.Bool.{cases_lt}
use Rattle.std.proofs.lemmas.Bool.Decides.{nat_tests}
use Rattle.std.proofs.lemmas.List.{length-set}
use Rattle.tv_base.specs.declared.numbers.SubNo.{SubNo}
use Rattle.tv_base.specs.declared.numbers.TreeNo.{TreeNo}
use Rattle.letter_types.specs.declared.entries.Entry.{Entry}
use Rattle.tree_home.specs.HeldAnswers.{acked_of, held_for, last_answer}
use Rattle.tree_home.specs.Homes.{Gets, OpenTrees, home_in, misses, missing_count, with_notice}
use Rattle.tree_home.specs.declared.homes.Answered.{Answered as AnsweredTree}
use Rattle.tree_home.specs.declared.homes.Held.{Held}
use Rattle.tree_home.specs.declared.homes.OpenTree.{OpenTree}
use Rattle.tree_home.proofs.Always.{forgotten-gone}
use Rattle.tree_home.proofs.Gathered.{home_in-noted}
use Rattle.tx_trees.specs.ScriptData.{ScriptData, subs_at, visited_by}
use Rattle.world_model.specs.Core.{Refusals}
use Rattle.world_model.specs.Counts.{tally}
use Rattle.world_model.specs.Named.{is_strict_at}
use Rattle.world_model.specs.Notices.{answer_noted, homes_noted}
use Rattle.world_model.specs.Strict.{answer_letters}
use Rattle.world_model.proofs.Sends.{on}
use Rattle.tree_laws.specs.Dids.{answers, notices, replies_to}
use Rattle.tree_laws.specs.Stages.{AllTurned, IsHolding, StageAt, Answered, Gathers, Holds, Unborn, decisions, held_at, home_at, is_noted}
use Rattle.tree_laws.specs.Turns.{has_turn, turns}
use Rattle.tree_laws.proofs.homes.Answering.{answers_tree, one_here}
use Rattle.tree_laws.proofs.homes.Noting.{Last, More, Noting, all_noted, noting}

-- an entry leaves tree t as it is
pub record Leaves (s : ScriptData) (past : List Entry) (e : Entry) (t : ℕ) : Type 0 where
  pub turned : (k : ℕ) → tally (has_turn t k) e.acts ≡ 0
  pub home : home_at s (e ∷ past) t ≡ home_at s past t
  pub held : held_at s (e ∷ past) t ≡ held_at s past t
  pub answers : tally (on (replies_to t)) e.sent ≡ 0
  pub notes : (k : ℕ) → notices s (e ∷ past) t k ≡ notices s past t k
  pub decisions : decisions s (e ∷ past) t ≡ decisions s past t

all_stay : (s : ScriptData) (past : List Entry) (e : Entry) (t : ℕ) → Leaves s past e t → AllTurned s past t → AllTurned s (e ∷ past) t
all_stay s past e t l all = record {
  turned = λ k lt. omega (arith, all.turned k lt, l.turned k);
  notes = λ k. l.notes k ∙ all.notes k;
}

-- so its stage stays
pub stays : (s : ScriptData) (past : List Entry) (e : Entry) (t : ℕ) → Leaves s past e t → StageAt s past t → StageAt s (e ∷ past) t
stays s past e t l (Unborn u) = Unborn (record {
  root = omega (arith, u.root, l.turned 0);
  home = l.home ∙ u.home;
  held = l.held ∙ u.held;
  answers = omega (arith, u.answers, l.answers);
  notes = λ k. l.notes k ∙ u.notes k;
  decisions = l.decisions ∙ u.decisions;
})
stays s past e t l (Gathers h g) = Gathers h (record {
  root = omega (arith, g.root, l.turned 0);
  home = l.home ∙ g.home;
  held = l.held ∙ g.held;
  places = g.places;
  missing = g.missing;
  answers = omega (arith, g.answers, l.answers);
  notes = λ k lt. omega (arith, g.notes k lt, l.turned k, l.notes k);
  no_others = λ k le. l.notes k ∙ g.no_others k le;
  decisions = l.decisions ∙ g.decisions;
})
stays s past e t l (Holds h g) = Holds h (record {
  strict = g.strict;
  names = g.names;
  waits = g.waits;
  home = l.home ∙ g.home;
  held = l.held ∙ g.held;
  answers = omega (arith, g.answers, l.answers);
  all = all_stay s past e t l g.all;
  decisions = l.decisions ∙ g.decisions;
})
stays s past e t l (Answered a) = Answered (record {
  home = l.home ∙ a.home;
  held = l.held ∙ a.held;
  answers = omega (arith, a.answers, l.answers);
  all = all_stay s past e t l a.all;
  decisions = l.decisions ∙ a.decisions;
})

-- a subtransaction of tree t other than its root has its turn, and sends its notice
pub record Adds (s : ScriptData) (past : List Entry) (e : Entry) (t : ℕ) : Type 0 where
  pub root : tally (has_turn t 0) e.acts ≡ 0
  pub home : home_at s (e ∷ past) t ≡ home_at s past t
  pub held : held_at s (e ∷ past) t ≡ held_at s past t
  pub answers : tally (on (replies_to t)) e.sent ≡ 0
  pub notes : (k : ℕ) → notices s (e ∷ past) t k ≡ notices s past t k + tally (has_turn t k) e.acts
  pub no_others : (k : ℕ) → length (subs_at s t) ≤ k → tally (has_turn t k) e.acts ≡ 0
  pub decisions : decisions s (e ∷ past) t ≡ decisions s past t

-- so a tree that gathers its notices goes on to
pub adds : (s : ScriptData) (past : List Entry) (e : Entry) (t k : ℕ) → k < length (subs_at s t) → turns past t k ≡ 0
    → 1 ≤ turns past t 0 → Adds s past e t → StageAt s past t → StageAt s (e ∷ past) t
adds s past e t k lt new root a (Unborn u) = absurd (omega (arith, root, u.root))
adds s past e t k lt new root a (Gathers h g) = Gathers h (record {
  root = omega (arith, g.root, a.root);
  home = a.home ∙ g.home;
  held = a.held ∙ g.held;
  places = g.places;
  missing = g.missing;
  answers = omega (arith, g.answers, a.answers);
  notes = λ j less. omega (arith, g.notes j less, a.notes j);
  no_others = λ j le. omega (arith, g.no_others j le, a.notes j, a.no_others j le);
  decisions = a.decisions ∙ g.decisions;
})
adds s past e t k lt new root a (Holds h g) = absurd (omega (arith, new, g.all.turned k lt))
adds s past e t k lt new root a (Answered g) = absurd (omega (arith, new, g.all.turned k lt))

-- what comes of the answer that a notice gives: the home of a strict tree holds it and tells the decision, that of any
-- other sends it
pub record Settles (s : ScriptData) (past : List Entry) (e : Entry) (t : ℕ) (found : Option AnsweredTree) : Type 0 where
  pub none : found ≡ None → (held_at s (e ∷ past) t ≡ held_at s past t) × ((tally (on (replies_to t)) e.sent ≡ 0) × (decisions s (e ∷ past) t ≡ decisions s past t))
  pub strict : (a : AnsweredTree) → found ≡ Some a → is_strict_at s t ≡ true
      → (held_at s (e ∷ past) t ≡ Some (held_for (length (visited_by s t)) a)) × ((tally (on (replies_to t)) e.sent ≡ 0) × (decisions s (e ∷ past) t ≡ decisions s past t + length (visited_by s t)))
  pub plain : (a : AnsweredTree) → found ≡ Some a → is_strict_at s t ≡ false
      → (held_at s (e ∷ past) t ≡ held_at s past t) × ((tally (on (replies_to t)) e.sent ≡ 1) × (decisions s (e ∷ past) t ≡ decisions s past t))

-- the home takes down the notice of subtransaction k, where tree t is open as h among hs
pub record Notes (s : ScriptData) (past : List Entry) (e : Entry) (t : TreeNo) (k : SubNo) (values : Gets) (hs : OpenTrees) (h : OpenTree) : Type 0 where
  pub home : home_at s (e ∷ past) t.0 ≡ home_in t (homes_noted t k values hs)
  pub settles : Settles s past e t.0 (answer_noted t k values hs)
  pub root : turns (e ∷ past) t.0 0 ≡ 1
  pub opened : home_in t hs ≡ Some h
  pub unheld : held_at s past t.0 ≡ None
  pub places : length h.notices ≡ length (subs_at s t.0)
  pub answers : answers past t.0 ≡ 0
  pub notes : (i : ℕ) → i < length (subs_at s t.0)
      → turns (e ∷ past) t.0 i ≡ notices s (e ∷ past) t.0 i + is_noted (slice_get (set h.notices k.0 (Some values)) i)
  pub once : (i : ℕ) → i < length (subs_at s t.0) → turns (e ∷ past) t.0 i ≤ 1
  pub no_others : (i : ℕ) → length (subs_at s t.0) ≤ i → notices s (e ∷ past) t.0 i ≡ 0
  pub decisions : decisions s past t.0 ≡ 0
  pub visits : 1 ≤ length (visited_by s t.0)

-- with the last notice all have had their turns
all_noted_there : (s : ScriptData) (past : List Entry) (e : Entry) (t : TreeNo) (k : SubNo) (values : Gets) (hs : OpenTrees) (h : OpenTree) (i : ℕ)
    → Notes s past e t k values hs h → missing_count (set h.notices k.0 (Some values)) ≡ 0 → i < length (subs_at s t.0)
    → (turns (e ∷ past) t.0 i ≡ 1) × (notices s (e ∷ past) t.0 i ≡ 0)
all_noted_there s past e t k values hs h i n none lt =
    let places = length-set h.notices k.0 (Some values) ∙ n.places in
    let one = all_noted (set h.notices k.0 (Some values)) i none (omega (arith, places, lt)) in
    (omega (arith, one, n.notes i lt, n.once i lt), omega (arith, one, n.notes i lt, n.once i lt))

no_note : (s : ScriptData) (past : List Entry) (e : Entry) (t : TreeNo) (k : SubNo) (values : Gets) (hs : OpenTrees) (h : OpenTree) (i : ℕ)
    → Notes s past e t k values hs h → missing_count (set h.notices k.0 (Some values)) ≡ 0
    → (i < length (subs_at s t.0)) ⊎ (length (subs_at s t.0) ≤ i) → notices s (e ∷ past) t.0 i ≡ 0
no_note s past e t k values hs h i n none (inl lt) = (all_noted_there s past e t k values hs h i n none lt).1
no_note s past e t k values hs h i n none (inr le) = n.no_others i le

all_turned : (s : ScriptData) (past : List Entry) (e : Entry) (t : TreeNo) (k : SubNo) (values : Gets) (hs : OpenTrees) (h : OpenTree)
    → Notes s past e t k values hs h → missing_count (set h.notices k.0 (Some values)) ≡ 0 → AllTurned s (e ∷ past) t.0
all_turned s past e t k values hs h n none = record {
  turned = λ i lt. (all_noted_there s past e t k values hs h i n none lt).0;
  notes = λ i. no_note s past e t k values hs h i n none (cases_lt i (length (subs_at s t.0)));
}

-- then the tree is decided, or answered
ends_by : (s : ScriptData) (past : List Entry) (e : Entry) (t : TreeNo) (k : SubNo) (values : Gets) (hs : OpenTrees) (h : OpenTree) (a : AnsweredTree)
    → Notes s past e t k values hs h → home_at s (e ∷ past) t.0 ≡ None → answer_noted t k values hs ≡ Some a → a.tree ≡ t
    → AllTurned s (e ∷ past) t.0 → (test : Bool) → is_strict_at s t.0 ≡ test → StageAt s (e ∷ past) t.0
ends_by s past e t k values hs h a n gone is its all true strict =
    let it = n.settles.strict a is strict in
    Holds (held_for (length (visited_by s t.0)) a) (record {
      strict = strict;
      names = ap (λ (u : TreeNo). u.0) its;
      waits = n.visits;
      home = gone;
      held = it.0;
      answers = omega (arith, n.answers, it.1.0);
      all = all;
      decisions = omega (arith, n.decisions, it.1.1);
    })
ends_by s past e t k values hs h a n gone is its all false plain =
    let it = n.settles.plain a is plain in
    Answered (record {
      home = gone;
      held = it.0 ∙ n.unheld;
      answers = omega (arith, n.answers, it.1.0);
      all = all;
      decisions = omega (arith, n.decisions, it.1.1);
    })

noted_by : (s : ScriptData) (past : List Entry) (e : Entry) (t : TreeNo) (k : SubNo) (values : Gets) (hs : OpenTrees) (h : OpenTree)
    → Notes s past e t k values hs h → misses t k hs ≡ true → Noting t k values hs → StageAt s (e ∷ past) t.0
noted_by s past e t k values hs h n miss (More after answer some) =
    let there = home_in-noted t k values hs h n.opened in
    let few : 1 ≤ missing_count (set h.notices k.0 (Some values)) = rw there at some in
    let it = n.settles.none answer in
    Gathers (with_notice k values h) (record {
      root = n.root;
      home = n.home ∙ ap (home_in t) after ∙ there;
      held = it.0 ∙ n.unheld;
      places = length-set h.notices k.0 (Some values) ∙ n.places;
      missing = few;
      answers = omega (arith, n.answers, it.1.0);
      notes = n.notes;
      no_others = n.no_others;
      decisions = omega (arith, n.decisions, it.1.1);
    })
noted_by s past e t k values hs h n miss (Last a after answer here none) =
    let there = home_in-noted t k values hs h n.opened in
    let over : missing_count (set h.notices k.0 (Some values)) ≡ 0 = rw there at none in
    ends_by s past e t k values hs h a n (n.home ∙ ap (home_in t) after ∙ forgotten-gone t hs) answer (answers_tree t k values hs a miss here)
    (all_turned s past e t k values hs h n over) (is_strict_at s t.0) refl

-- so a notice is taken down
pub notes_stage : (s : ScriptData) (past : List Entry) (e : Entry) (t : TreeNo) (k : SubNo) (values : Gets) (hs : OpenTrees) (h : OpenTree)
    → Notes s past e t k values hs h → misses t k hs ≡ true → StageAt s (e ∷ past) t.0
notes_stage s past e t k values hs h n miss = noted_by s past e t k values hs h n miss (noting t k values hs miss)

-- A node tells that what was decided of tree t was applied, where its home holds an answer.
pub record Acks (s : ScriptData) (past : List Entry) (e : Entry) (t : ℕ) (rs : Refusals) : Type 0 where
  pub turned : (k : ℕ) → tally (has_turn t k) e.acts ≡ 0
  pub home : home_at s (e ∷ past) t ≡ home_at s past t
  pub held : held_at s (e ∷ past) t ≡ acked_of (held_at s past t)
  pub answers : tally (on (replies_to t)) e.sent ≡ tally (on (replies_to t)) (answer_letters s rs (last_answer (held_at s past t)))
  pub notes : (k : ℕ) → notices s (e ∷ past) t k ≡ notices s past t k
  pub decisions : decisions s (e ∷ past) t + 1 ≡ decisions s past t

all_acked : (s : ScriptData) (past : List Entry) (e : Entry) (t : ℕ) (rs : Refusals) → Acks s past e t rs → AllTurned s past t
    → AllTurned s (e ∷ past) t
all_acked s past e t rs a all = record {
  turned = λ k lt. omega (arith, all.turned k lt, a.turned k);
  notes = λ k. a.notes k ∙ all.notes k;
}

held_acked : (s : ScriptData) (past : List Entry) (e : Entry) (t : ℕ) (rs : Refusals) (h : Held) → Acks s past e t rs → IsHolding s past t h
    → (test : Bool) → nat_lt 1 h.waits ≡ test → StageAt s (e ∷ past) t
held_acked s past e t rs h a g true is =
    let more : 1 < h.waits = grind (arith, nat_tests) in
    Holds (held_for (h.waits - 1) h.answered) (record {
      strict = g.strict;
      names = g.names;
      waits = omega (arith, more);
      home = a.home ∙ g.home;
      held = a.held ∙ ap acked_of g.held ∙ rw is refl;
      answers = (
          let silent : last_answer (held_at s past t) ≡ None = ap last_answer g.held ∙ rw is refl in
          omega (arith, g.answers, a.answers, ap (λ (o : Option AnsweredTree). tally (on (replies_to t)) (answer_letters s rs o)) silent)
          );
      all = all_acked s past e t rs a g.all;
      decisions = omega (arith, more, a.decisions, g.decisions);
    })
held_acked s past e t rs h a g false is =
    let last : h.waits ≡ 1 = (let some = g.waits in grind (arith, nat_tests)) in
    Answered (record {
      home = a.home ∙ g.home;
      held = a.held ∙ ap acked_of g.held ∙ rw is refl;
      answers = (
          let free : last_answer (held_at s past t) ≡ Some h.answered = ap last_answer g.held ∙ rw is refl in
          omega (
            arith,
            g.answers,
            a.answers,
            ap (λ (o : Option AnsweredTree). tally (on (replies_to t)) (answer_letters s rs o)) free,
            one_here h.answered.tree.0 t g.names,
          )
          );
      all = all_acked s past e t rs a g.all;
      decisions = omega (arith, last, a.decisions, g.decisions);
    })

-- so one acknowledgement fewer is missing, or the client is answered
pub acks_stage : (s : ScriptData) (past : List Entry) (e : Entry) (t : ℕ) (rs : Refusals) → Acks s past e t rs → StageAt s past t
    → StageAt s (e ∷ past) t
acks_stage s past e t rs a (Unborn u) = absurd (omega (arith, a.decisions, u.decisions))
acks_stage s past e t rs a (Gathers h g) = absurd (omega (arith, a.decisions, g.decisions))
acks_stage s past e t rs a (Holds h g) = held_acked s past e t rs h a g (nat_lt 1 h.waits) refl
acks_stage s past e t rs a (Answered g) = absurd (omega (arith, a.decisions, g.decisions))
