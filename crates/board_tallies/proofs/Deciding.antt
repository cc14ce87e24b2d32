-- The tests by the tallies decide which acts are moves.
use Rattle.std.proofs.Common.{◌≡◌, ◌⊎◌, inl, inr, ℕ, zero, suc, ◌+◌, ◌<◌, ◌≤◌, ◌==◌, Bool, true, false, List, [], ◌∷◌, length, refl, sym, ap, subst, ◌∙◌, get_or, arith, Option, Some, None}
use Rattle.std.specs.Prelude.{if◌then◌else◌, ◌&&◌, ◌||◌, All, is_none, is_some, not, slice_get}
use Rattle.std.specs.Bool.{Decides}
use Rattle.std.proofs.lemmas.Bool.{cases_lt, eq-eqb, not_from_false, eqb-true, not-true, or_from, or_parts}
use Rattle.std.proofs.lemmas.Bool.Decides.{Decides-and, Decides-eqb, Decides-like}
use Rattle.std.proofs.lemmas.Option.{get_or_from_slice_get, slice_get_within}
use Rattle.tv_base.specs.declared.numbers.ItemNo.{ItemNo}
use Rattle.tv_base.specs.declared.numbers.Version.{Version}
use Rattle.commute_ops.specs.declared.value.Value.{Value}
use Rattle.script_parts.proofs.SubsOf.{found_subs, sub_nodes}
use Rattle.script_parts.specs.ScriptData.{ScriptData, home_of, is_read, is_strict, is_update, node_of, reads, sub_at, subs_at, updates, visits}
use Rattle.script_parts.specs.Valid.{IsValid}
use Rattle.script_parts.specs.declared.parts.Sub.{Sub}
use Rattle.script_parts.specs.declared.parts.Tree.{Tree}
use Rattle.script_parts.specs.declared.parts.TreeKind.{TreeKind}
use Rattle.script_parts.specs.declared.parts.TreeKind.TheVariants.{Update, Read, Strict}
use Rattle.board_rules.specs.ButCause.{IsVotingAsked}
use Rattle.board_rules.specs.Histories.{Place, is_strict_tree, is_whole_in, version_in, was_applied, was_born, was_decided_as, was_done}
use Rattle.board_rules.specs.Moves.{IsApplying, IsAsked, IsAskedBy, IsBirth, IsDecision, IsDeed, IsFreeing, IsWaiting, read_after, update_after}
use Rattle.board_rules.specs.Stands.{voted_yes, was_freed, was_voted}
use Rattle.board_tallies.specs.Board.{AreMarks, ShowsNode, ShowsTree, is_whole_by, marked_to}
use Rattle.board_tallies.specs.inside.May.{are_apart, takes_turn, may_apply_at, may_bear, may_begin, may_decide, may_do, may_free, may_vote, may_wait, runs_at, takes_version}
use Rattle.board_tallies.specs.declared.numbers.Numbers.{Numbers}
use Rattle.board_tallies.specs.declared.states.TreeState.{TreeState}
use Rattle.board_tallies.proofs.Standing.{whole_is}

-- Small tests.
pub is_number : (m a b : ℕ) → a ≡ b → Decides (m == a) (m ≡ b)
is_number m a b same = Decides-like (m == a) (λ e. e ∙ same) (λ e. e ∙ sym same) (Decides-eqb m a)

is_flag : (b c : Bool) → b ≡ c → Decides b (c ≡ true)
is_flag b c same = (λ is. sym same ∙ is, λ is. same ∙ is)

pub not_flag : (b c : Bool) → b ≡ c → Decides (not b) (c ≡ false)
not_flag true c same = (λ is. absurd (cc is), λ is. absurd (let no : true ≡ false = same ∙ is in cc no))
not_flag false c same = (λ is. sym same, λ is. refl)

is_unborn : (o p : Option Version) → o ≡ p → Decides (is_none o) (p ≡ None)
is_unborn None p same = (λ is. sym same, λ is. refl)
is_unborn (Some v) p same = (λ is. absurd (cc is), λ is. absurd (let no : Some v ≡ None = same ∙ is in cc no))

-- A subtransaction at its node.
at_by : (nodes p : ℕ) (found : Option Sub) → ((sub : Sub) → found ≡ Some sub → sub.node.0 < nodes)
    → Decides (elim found [ Some sub ↦ sub.node.0 == p | None ↦ false ])
    ((p < nodes) × (elim found [ Some sub ↦ sub.node.0 | None ↦ nodes ] ≡ p))
at_by nodes p None small = (λ is. absurd (cc is), λ h. absurd (omega (arith, h.0, h.1)))
at_by nodes p (Some sub) small = (
  λ is. let same : sub.node.0 ≡ p = eqb-true sub.node.0 p is in (omega (arith, small sub refl, same), same),
  λ h. eq-eqb sub.node.0 p h.1,
)

small_at : (subs : List Sub) (n k : ℕ) (sub : Sub) → All (λ (x : Sub). x.node.0 < n) subs → slice_get subs k ≡ Some sub → sub.node.0 < n
small_at subs n k sub small at =
    subst (λ (x : Sub). x.node.0 < n) (get_or_from_slice_get subs k sub sub at) (small k sub (slice_get_within subs k sub at))

runs_decides : (s : ScriptData) (t k p : ℕ) → IsValid s → Decides (runs_at (subs_at s t) k p) ((p < s.nodes) × (node_of s t k ≡ p))
runs_decides s t k p valid =
    at_by s.nodes p (sub_at s t k) (λ sub at. small_at (subs_at s t) s.nodes k sub (sub_nodes s t valid) at)

-- A subtransaction's turn.
asked_decides : (had : ℕ → Bool) (marks : List Bool) (k : ℕ) (found : Option Sub) → AreMarks marks had
    → Decides (elim found [ Some sub ↦ (k == 0) || get_or marks sub.parent.0 false | None ↦ false ]) (IsAskedBy had k found)
asked_decides had marks k None are = (λ is. absurd (cc is), λ is. absurd is)
asked_decides had marks k (Some sub) are =
    is_flag ((k == 0) || get_or marks sub.parent.0 false) ((k == 0) || had sub.parent.0)
    (ap (λ (b : Bool). (k == 0) || b) (are.each sub.parent.0))

abbrev turn_test : List Bool → ℕ → ℕ → Option Sub → Bool
turn_test marks k p found =
    elim found [
      | Some sub ↦ (sub.node.0 == p) && ((k == 0) || get_or marks sub.parent.0 false) && not (get_or marks k false)
      | None ↦ false
    ]

turn_by : (nodes p k : ℕ) (had : ℕ → Bool) (marks : List Bool) (found : Option Sub)
    → ((sub : Sub) → found ≡ Some sub → sub.node.0 < nodes) → AreMarks marks had
    → Decides (turn_test marks k p found)
    (((p < nodes) × (elim found [ Some sub ↦ sub.node.0 | None ↦ nodes ] ≡ p)) × IsAskedBy had k found × (had k ≡ false))
turn_by nodes p k had marks None small are = (λ is. absurd (cc is), λ h. absurd h.1)
turn_by nodes p k had marks (Some sub) small are =
    Decides-like (turn_test marks k p (Some sub)) (λ h. (h.0.0, h.0.1, h.1)) (λ h. ((h.0, h.1), h.2))
    (Decides-and ((sub.node.0 == p) && ((k == 0) || get_or marks sub.parent.0 false)) (not (get_or marks k false))
    (Decides-and (sub.node.0 == p) ((k == 0) || get_or marks sub.parent.0 false) (at_by nodes p (Some sub) small)
    (asked_decides had marks k (Some sub) are))
    (not_flag (get_or marks k false) (had k) (are.each k)))

turn_decides : (s : ScriptData) (t k p : ℕ) (had : ℕ → Bool) (marks : List Bool) → IsValid s → AreMarks marks had
    → Decides (takes_turn (subs_at s t) marks k p)
    (((p < s.nodes) × (node_of s t k ≡ p)) × IsAsked s had t k × (had k ≡ false))
turn_decides s t k p had marks valid are =
    turn_by s.nodes p k had marks (sub_at s t k) (λ sub at. small_at (subs_at s t) s.nodes k sub (sub_nodes s t valid) at) are

marked_more : (n : ℕ) (had : ℕ → Bool) → ((k : ℕ) → k < n → had k ≡ true) → had n ≡ true → (k : ℕ) → k < suc n → had k ≡ true
marked_more n had below here k lt = by (cases_lt k n) where
  by : (k < n) ⊎ (n ≤ k) → had k ≡ true
  by (inl less) = below k less
  by (inr more) = let same : n ≡ k = omega (arith, lt, more) in sym (ap had same) ∙ here

-- each of the first n is marked
marked_decides : (n : ℕ) (marks : List Bool) (had : ℕ → Bool) → AreMarks marks had
    → Decides (marked_to n marks) ((k : ℕ) → k < n → had k ≡ true)
marked_decides zero marks had are = (λ is k lt. absurd (omega (arith, lt)), λ h. refl)
marked_decides (suc n) marks had are =
    let rest = marked_decides n marks had are in
    let here = is_flag (get_or marks n false) (had n) (are.each n) in
    Decides-like (marked_to (suc n) marks) (λ h. marked_more n had h.0 h.1)
    (λ h. (λ k lt. h k (omega (arith, lt)), h n (omega arith))) (Decides-and (marked_to n marks) (get_or marks n false) rest here)

-- The kind of a tree.
pub kind_found : (test : TreeKind → Bool) (trees : List Tree) (t : ℕ) (tree : Tree) → slice_get trees t ≡ Some tree
    → elim (slice_get trees t) [ Some one ↦ test one.kind | None ↦ false ] ≡ test tree.kind
kind_found test trees t tree at =
    ap (λ (found : Option Tree). elim found [ Some one ↦ test one.kind | None ↦ false ]) at

commutes_decides : (kind : TreeKind) → Decides (not (is_strict kind)) ((is_update kind || is_read kind) ≡ true)
commutes_decides Update = (λ is. refl, λ is. refl)
commutes_decides Read = (λ is. refl, λ is. refl)
commutes_decides Strict = (λ is. absurd (cc is), λ is. absurd (cc is))

-- the version that is taken
record Takes (update read : ℕ) (kind : TreeKind) (v : ℕ) : Type 0 where
  updates : is_update kind ≡ true → v ≡ update
  reads : is_read kind ≡ true → v ≡ read
  strict : is_strict kind ≡ true → (v ≡ update) × (v ≡ read + 1)

takes_decides : (update read v : ℕ) (kind : TreeKind) (n : Numbers) → n.update.0 ≡ update → n.read.0 ≡ read
    → Decides (takes_version kind n v) (Takes update read kind v)
takes_decides update read v Update n one two =
    Decides-like (v == n.update.0)
    (λ e. record { updates = λ is. e; reads = λ is. absurd (cc is); strict = λ is. absurd (cc is) }) (λ takes. takes.updates refl)
    (is_number v n.update.0 update one)
takes_decides update read v Read n one two =
    Decides-like (v == n.read.0)
    (λ e. record { updates = λ is. absurd (cc is); reads = λ is. e; strict = λ is. absurd (cc is) }) (λ takes. takes.reads refl)
    (is_number v n.read.0 read two)
takes_decides update read v Strict n one two =
    Decides-like ((v == n.update.0) && (v == n.read.0 + 1))
    (λ e. record { updates = λ is. absurd (cc is); reads = λ is. absurd (cc is); strict = λ is. e }) (λ takes. takes.strict refl)
    (Decides-and (v == n.update.0) (v == n.read.0 + 1) (is_number v n.update.0 update one)
    (is_number v (n.read.0 + 1) (read + 1) (ap (λ m. m + 1) two)))

no_values : (given : List (ItemNo × Value)) → (length given == 0) ≡ true → given ≡ []
no_values [] is = refl
no_values (x ∷ xs) is = absurd (let none : length (x ∷ xs) ≡ 0 = eqb-true (length (x ∷ xs)) 0 is in omega (arith, none))

given_decides : (update : Bool) (given : List (ItemNo × Value))
    → Decides (not update || (length given == 0)) (update ≡ true → given ≡ [])
given_decides false given = (λ is no. absurd (cc no), λ h. refl)
given_decides true given = (λ is yes_it. no_values given is, λ h. eq-eqb (length given) 0 (ap length (h refl)))

decided_decides : (f : Bool → Bool) (committed aborted : Bool) → committed ≡ f true → aborted ≡ f false
    → Decides (not (committed || aborted)) ((c : Bool) → f c ≡ false)
decided_decides f committed aborted one two = (there, back) where
  each : (committed ≡ false) × (aborted ≡ false) → (c : Bool) → f c ≡ false
  each none true = sym one ∙ none.0
  each none false = sym two ∙ none.1

  there : not (committed || aborted) ≡ true → (c : Bool) → f c ≡ false
  there is = each (or_parts committed aborted (not-true (committed || aborted) is))

  back : ((c : Bool) → f c ≡ false) → not (committed || aborted) ≡ true
  back none = not_from_false (committed || aborted) (or_from committed aborted (one ∙ none true) (two ∙ none false))

same_decides : {P : Type 0} (commit all : Bool) → Decides all P
    → Decides (if commit then all else not all) ((P → commit ≡ true) × (commit ≡ true → P))
same_decides true all d = (λ is. (λ p. refl, λ is_so. d.0 is), λ h. d.1 (h.1 refl))
same_decides false true d = (λ is. absurd (cc is), λ h. absurd (let no = h.0 (d.0 refl) in cc no))
same_decides false false d =
    (λ is. (λ p. absurd (let no = d.1 p in cc no), λ no. absurd (cc no)), λ h. refl)

either_decides : (f : Bool → Bool) (commit committed aborted : Bool) → committed ≡ f true → aborted ≡ f false
    → Decides (if commit then committed else aborted) (f commit ≡ true)
either_decides f true committed aborted one two = is_flag committed (f true) one
either_decides f false committed aborted one two = is_flag aborted (f false) two

-- What is known where an act at node p is looked at: the tree is there, and the tallies are of these acts.
pub record IsSeen (s : ScriptData) (xs : List Place) (p t : ℕ) (tree : Tree) (st : TreeState) (n : Numbers) : Type 0 where
  pub valid : IsValid s
  pub at : slice_get s.trees t ≡ Some tree
  pub shows : ShowsTree t xs st
  pub numbers : ShowsNode p xs n

own_subs : (s : ScriptData) (t : ℕ) (tree : Tree) (P : List Sub → Type 0) → slice_get s.trees t ≡ Some tree → P (subs_at s t)
    → P tree.subs
own_subs s t tree P at is = subst P (found_subs s t tree at) is

rooted : (s : ScriptData) (xs : List Place) (p t : ℕ) (tree : Tree) (st : TreeState) (n : Numbers) → IsSeen s xs p t tree st n
    → Decides (runs_at tree.subs 0 p) ((p < s.nodes) × (home_of s t ≡ p))
rooted s xs p t tree st n seen =
    own_subs s t tree (λ subs. Decides (runs_at subs 0 p) ((p < s.nodes) × (home_of s t ≡ p))) seen.at
    (runs_decides s t 0 p seen.valid)

strict_kind_of : (s : ScriptData) (xs : List Place) (p t : ℕ) (tree : Tree) (st : TreeState) (n : Numbers)
    → IsSeen s xs p t tree st n → Decides (is_strict tree.kind) (is_strict_tree s t ≡ true)
strict_kind_of s xs p t tree st n seen =
    is_flag (is_strict tree.kind) (is_strict_tree s t) (sym (kind_found is_strict s.trees t tree seen.at))

begins : (s : ScriptData) (xs : List Place) (p t : ℕ) (tree : Tree) (st : TreeState) (n : Numbers) → IsSeen s xs p t tree st n
    → Decides (may_begin tree st p) (((p < s.nodes) × (home_of s t ≡ p)) × (version_in t xs ≡ None))
begins s xs p t tree st n seen =
    Decides-and (runs_at tree.subs 0 p) (is_none st.born) (rooted s xs p t tree st n seen)
    (is_unborn st.born (version_in t xs) seen.shows.born)

pub bear_decides : (s : ScriptData) (xs : List Place) (p t v : ℕ) (tree : Tree) (st : TreeState) (n : Numbers)
    → IsSeen s xs p t tree st n → Decides (may_bear tree st n p v) (IsBirth s xs p t v)
bear_decides s xs p t v tree st n seen =
    let update : updates s t ≡ is_update tree.kind = kind_found is_update s.trees t tree seen.at in
    let read : reads s t ≡ is_read tree.kind = kind_found is_read s.trees t tree seen.at in
    let strict : is_strict_tree s t ≡ is_strict tree.kind = kind_found is_strict s.trees t tree seen.at in
    Decides-like (may_bear tree st n p v)
    (λ h. record {
      unborn = h.0.1;
      home = h.0.0;
      update = λ is. h.1.updates (sym update ∙ is);
      read = λ is. h.1.reads (sym read ∙ is);
      strict = λ is. h.1.strict (sym strict ∙ is);
    })
    (λ birth. (
      (birth.home, birth.unborn),
      record {
        updates = λ is. birth.update (update ∙ is);
        reads = λ is. birth.read (read ∙ is);
        strict = λ is. birth.strict (strict ∙ is);
      },
    ))
    (Decides-and (may_begin tree st p) (takes_version tree.kind n v) (begins s xs p t tree st n seen)
    (takes_decides (update_after xs p) (read_after xs p) v tree.kind n seen.numbers.update seen.numbers.read))

pub wait_decides : (s : ScriptData) (xs : List Place) (p t u r : ℕ) (tree : Tree) (st : TreeState) (n : Numbers)
    → IsSeen s xs p t tree st n → Decides (may_wait tree st n p u r) (IsWaiting s xs p t u r)
wait_decides s xs p t u r tree st n seen =
    Decides-like (may_wait tree st n p u r)
    (λ h. record {
      strict = h.0.0;
      unborn = h.0.1.1;
      home = h.0.1.0;
      update = h.1.0.0;
      read = h.1.0.1;
      apart = h.1.1;
    })
    (λ waits. ((waits.strict, (waits.home, waits.unborn)), ((waits.update, waits.read), waits.apart)))
    (Decides-and (is_strict tree.kind && may_begin tree st p) (are_apart n u r)
    (Decides-and (is_strict tree.kind) (may_begin tree st p) (strict_kind_of s xs p t tree st n seen)
    (begins s xs p t tree st n seen))
    (Decides-and ((u == n.update.0) && (r == n.read.0)) (not (u == r + 1))
    (Decides-and (u == n.update.0) (r == n.read.0) (is_number u n.update.0 (update_after xs p) seen.numbers.update)
    (is_number r n.read.0 (read_after xs p) seen.numbers.read))
    (not_flag (u == r + 1) (u == r + 1) refl)))

pub do_decides : (s : ScriptData) (xs : List Place) (p t k : ℕ) (given : List (ItemNo × Value)) (tree : Tree) (st : TreeState)
    (n : Numbers) → IsSeen s xs p t tree st n → Decides (may_do tree st p k given) (IsDeed s xs p t k given)
do_decides s xs p t k given tree st n seen =
    let update : updates s t ≡ is_update tree.kind = kind_found is_update s.trees t tree seen.at in
    let read : reads s t ≡ is_read tree.kind = kind_found is_read s.trees t tree seen.at in
    let either : (updates s t || reads s t) ≡ (is_update tree.kind || is_read tree.kind) = (λ i. update i || read i) in
    Decides-like (may_do tree st p k given)
    (λ h. record {
      commutes = either ∙ h.0.0.0;
      born = h.0.0.1;
      asked = h.0.1.1;
      once = h.0.1.2;
      node = h.0.1.0;
      values = λ is. h.1 (sym update ∙ is);
    })
    (λ deed. (((sym either ∙ deed.commutes, deed.born), (deed.node, deed.asked, deed.once)), λ is. deed.values (update ∙ is)))
    (Decides-and (not (is_strict tree.kind) && is_some st.born && takes_turn tree.subs st.done k p)
    (not (is_update tree.kind) || (length given == 0))
    (Decides-and (not (is_strict tree.kind) && is_some st.born) (takes_turn tree.subs st.done k p)
    (Decides-and (not (is_strict tree.kind)) (is_some st.born) (commutes_decides tree.kind)
    (is_flag (is_some st.born) (was_born xs t) (ap is_some seen.shows.born)))
    (own_subs s t tree
    (λ subs. Decides (takes_turn subs st.done k p)
    (((p < s.nodes) × (node_of s t k ≡ p)) × IsAsked s (λ j. was_done t j xs) t k × (was_done t k xs ≡ false)))
    seen.at (turn_decides s t k p (λ j. was_done t j xs) st.done seen.valid seen.shows.done)))
    (given_decides (is_update tree.kind) given))

pub vote_decides : (s : ScriptData) (xs : List Place) (p t k : ℕ) (tree : Tree) (st : TreeState) (n : Numbers)
    → IsSeen s xs p t tree st n → Decides (may_vote tree st p k) (IsVotingAsked s xs p t k)
vote_decides s xs p t k tree st n seen =
    Decides-like (may_vote tree st p k)
    (λ h. record { strict = h.0.0; born = h.0.1; asked = h.1.1; once = h.1.2; node = h.1.0 })
    (λ vote. ((vote.strict, vote.born), (vote.node, vote.asked, vote.once)))
    (Decides-and (is_strict tree.kind && is_some st.born) (takes_turn tree.subs st.voted k p)
    (Decides-and (is_strict tree.kind) (is_some st.born) (strict_kind_of s xs p t tree st n seen)
    (is_flag (is_some st.born) (was_born xs t) (ap is_some seen.shows.born)))
    (own_subs s t tree
    (λ subs. Decides (takes_turn subs st.voted k p)
    (((p < s.nodes) × (node_of s t k ≡ p)) × IsAsked s (λ j. was_voted t j xs) t k × (was_voted t k xs ≡ false)))
    seen.at (turn_decides s t k p (λ j. was_voted t j xs) st.voted seen.valid seen.shows.voted)))

visits_decides : (s : ScriptData) (xs : List Place) (p t : ℕ) (tree : Tree) (st : TreeState) (n : Numbers)
    → IsSeen s xs p t tree st n → Decides (visits tree.subs p) (visits (subs_at s t) p ≡ true)
visits_decides s xs p t tree st n seen =
    is_flag (visits tree.subs p) (visits (subs_at s t) p)
    (ap (λ (subs : List Sub). visits subs p) (sym (found_subs s t tree seen.at)))

pub free_decides : (s : ScriptData) (xs : List Place) (p t : ℕ) (tree : Tree) (st : TreeState) (n : Numbers)
    → IsSeen s xs p t tree st n → Decides (may_free tree st p) (IsFreeing s xs p t)
free_decides s xs p t tree st n seen =
    Decides-like (may_free tree st p)
    (λ h. record { update = h.0.0.0; visited = h.0.0.1; whole = h.0.1; once = h.1 })
    (λ frees. (((frees.update, frees.visited), frees.whole), frees.once))
    (Decides-and (is_update tree.kind && visits tree.subs p && is_whole_by tree st) (not (get_or st.freed p false))
    (Decides-and (is_update tree.kind && visits tree.subs p) (is_whole_by tree st)
    (Decides-and (is_update tree.kind) (visits tree.subs p)
    (is_flag (is_update tree.kind) (updates s t) (sym (kind_found is_update s.trees t tree seen.at)))
    (visits_decides s xs p t tree st n seen))
    (is_flag (is_whole_by tree st) (is_whole_in s xs t) (whole_is s xs t tree st seen.at seen.shows)))
    (not_flag (get_or st.freed p false) (was_freed t p xs) (seen.shows.freed.each p)))

all_decides : (s : ScriptData) (t : ℕ) (tree : Tree) (marks : List Bool) (had : ℕ → Bool) → slice_get s.trees t ≡ Some tree
    → AreMarks marks had → Decides (marked_to (length tree.subs) marks) ((k : ℕ) → k < length (subs_at s t) → had k ≡ true)
all_decides s t tree marks had at are =
    own_subs s t tree (λ subs. Decides (marked_to (length subs) marks) ((k : ℕ) → k < length (subs_at s t) → had k ≡ true)) at
    (marked_decides (length (subs_at s t)) marks had are)

pub decide_decides : (s : ScriptData) (xs : List Place) (p t : ℕ) (commit : Bool) (tree : Tree) (st : TreeState) (n : Numbers)
    → IsSeen s xs p t tree st n → Decides (may_decide tree st p commit) (IsDecision s xs p t commit)
decide_decides s xs p t commit tree st n seen =
    Decides-like (may_decide tree st p commit)
    (λ h. record {
      strict = h.0.0.0.0;
      home = h.0.0.0.1;
      voted = h.0.0.1;
      once = h.0.1;
      yes_if = h.1.0;
      only_if = h.1.1;
    })
    (λ d. ((((d.strict, d.home), d.voted), d.once), (d.yes_if, d.only_if)))
    (Decides-and
    (is_strict tree.kind && runs_at tree.subs 0 p && marked_to (length tree.subs) st.voted && not (st.committed || st.aborted))
    (if commit then marked_to (length tree.subs) st.yes else not (marked_to (length tree.subs) st.yes))
    (Decides-and (is_strict tree.kind && runs_at tree.subs 0 p && marked_to (length tree.subs) st.voted)
    (not (st.committed || st.aborted))
    (Decides-and (is_strict tree.kind && runs_at tree.subs 0 p) (marked_to (length tree.subs) st.voted)
    (Decides-and (is_strict tree.kind) (runs_at tree.subs 0 p) (strict_kind_of s xs p t tree st n seen)
    (rooted s xs p t tree st n seen))
    (all_decides s t tree st.voted (λ k. was_voted t k xs) seen.at seen.shows.voted))
    (decided_decides (λ c. was_decided_as t c xs) st.committed st.aborted seen.shows.committed seen.shows.aborted))
    (same_decides commit (marked_to (length tree.subs) st.yes)
    (all_decides s t tree st.yes (λ k. voted_yes t k xs) seen.at seen.shows.yes)))

pub apply_decides : (s : ScriptData) (xs : List Place) (p t : ℕ) (commit : Bool) (tree : Tree) (st : TreeState) (n : Numbers)
    → IsSeen s xs p t tree st n → Decides (may_apply_at tree st p commit) (IsApplying s xs p t commit)
apply_decides s xs p t commit tree st n seen =
    Decides-like (may_apply_at tree st p commit)
    (λ h. record { strict = h.0.0.0; visited = h.0.0.1; decided = h.0.1; once = h.1 })
    (λ applies. (((applies.strict, applies.visited), applies.decided), applies.once))
    (Decides-and (is_strict tree.kind && visits tree.subs p && (if commit then st.committed else st.aborted))
    (not (get_or st.applied p false))
    (Decides-and (is_strict tree.kind && visits tree.subs p) (if commit then st.committed else st.aborted)
    (Decides-and (is_strict tree.kind) (visits tree.subs p) (strict_kind_of s xs p t tree st n seen)
    (visits_decides s xs p t tree st n seen))
    (either_decides (λ c. was_decided_as t c xs) commit st.committed st.aborted seen.shows.committed seen.shows.aborted))
    (not_flag (get_or st.applied p false) (was_applied t p xs) (seen.shows.applied.each p)))
