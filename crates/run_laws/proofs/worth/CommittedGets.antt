-- In every run what a strict transaction that commits got is what its items are worth after the members of the serial
-- order before it: a yes is right before its entry, and what its entry did before is quiet.
use Rattle.std.proofs.Common.{◌≡◌, ℕ, suc, ◌+◌, ◌≤◌, ◌==◌, Bool, true, false, not, List, [], ◌∷◌, ◌++◌, length, reverse, take, refl, sym, ap, subst, ◌∙◌, append_assoc, arith, cond, Some}
use Rattle.std.specs.Prelude.{if◌then◌else◌, slice_get}
use Rattle.std.specs.List.{AllByRecursion, before_first, position_or_len}
use Rattle.std.proofs.lemmas.Bool.{and_from}
use Rattle.std.proofs.lemmas.List.{length-append, length-take}
use Rattle.std.proofs.lemmas.Option.{slice_get_within}
use Rattle.tv_base.proofs.Truths.{same_test}
use Rattle.tv_base.specs.declared.numbers.ItemNo.{ItemNo}
use Rattle.tv_base.specs.declared.numbers.SubNo.{SubNo}
use Rattle.tv_base.specs.declared.numbers.TreeNo.{TreeNo}
use Rattle.tv_base.specs.declared.numbers.Version.{Version}
use Rattle.commute_ops.specs.declared.value.Value.{Value}
use Rattle.letter_types.specs.declared.acts.Act.{Act}
use Rattle.letter_types.specs.declared.acts.Act.TheVariants.{Voted, Finished}
use Rattle.letter_types.specs.declared.entries.Entry.{Entry}
use Rattle.letter_types.specs.declared.votes.Vote.TheVariants.{Yes, No}
use Rattle.script_parts.specs.declared.parts.SubOp.{SubOp}
use Rattle.script_parts.specs.ScriptData.{ScriptData, ops_of}
use Rattle.script_parts.specs.Valid.{IsValid}
use Rattle.world_model.specs.Runs.{IsStepRun}
use Rattle.board_rules.specs.Histories.{Place, places_at, version_in}
use Rattle.board_rules.specs.Right.{IsShown, gets_among, is_get, with_worths}
use Rattle.board_rules.specs.Serial.{serial_in}
use Rattle.board_rules.specs.Stands.{votes_yes}
use Rattle.board_rules.specs.Worth.{worth, worth_after, worth_in}
use Rattle.board_rules.proofs.BeforeTree.{before_tree}
use Rattle.board_rules.proofs.Gets.{CommittedVote, worth_before_entry}
use Rattle.board_rules.proofs.ItemAt.{item_at, op_row}
use Rattle.board_rules.proofs.Positions.{ActAt, is_taken}
use Rattle.board_rules.proofs.Rules.{yes_vote}
use Rattle.board_rules.proofs.Votes.{AreQuiet}
use Rattle.tree_laws.proofs.apt.AptVersions.{before}
use Rattle.run_laws.proofs.act_order.RowActs.{is_lasting, lasting}
use Rattle.run_laws.proofs.act_order.Fronts.{act_of_place, front, placed}
use Rattle.run_laws.proofs.act_order.InEntries.{InEntry, entry_run, in_entry}
use Rattle.run_laws.proofs.act_order.Lasts.{Applies, Frees, Lasts, Reads, Updates, Votes, lasts}
use Rattle.run_laws.proofs.act_order.Rules.{follows_rules}
use Rattle.run_laws.specs.Gets.{GetsAreTheFoldBefore, GotTheFoldBefore, worth_before}
use Rattle.run_laws.proofs.act_order.AtFront.{front_quiet}
use Rattle.run_laws.proofs.strict.CommitsStand.{CommitAt, commit_at}
use Rattle.run_laws.proofs.births.ReadPlaces.{each_in_place}
use Rattle.run_laws.proofs.worth.Right.{place_right}
use Rattle.run_laws.proofs.worth.RightReads.{each_op}
use Rattle.run_laws.proofs.worth.WorthStays.{first_acts}
use Rattle.run_laws.proofs.worth.WritersFirst.{kept_version, shows_in}

-- The members before a tree, in both words for them.
first_by : (t u n : ℕ) (ts : List ℕ) (b : Bool) → take n ts ≡ before_tree t ts
    → take (cond (not b) (1 + n) 0) (u ∷ ts) ≡ (if b then [] else u ∷ before_tree t ts)
first_by t u n ts true rest = refl
first_by t u n ts false rest =
    let next : 1 + n ≡ suc n = omega arith in
    ap (λ (m : ℕ). take m (u ∷ ts)) next ∙ ap (λ (us : List ℕ). u ∷ us) rest

before_is : (t : ℕ) (ts : List ℕ) → before_first (λ (u : ℕ). u == t) ts ≡ before_tree t ts
before_is t [] = refl
before_is t (u ∷ ts) = first_by t u (position_or_len (λ (w : ℕ). w == t) ts) ts (u == t) (before_is t ts)

-- Gets of items that are worth the same.
same_gets : (f g : ℕ → Value) (os : List SubOp) → AllByRecursion (λ (o : SubOp). f o.item.0 ≡ g o.item.0) os
    → with_worths f (gets_among os) ≡ with_worths g (gets_among os)
same_gets f g [] all = refl
same_gets f g (o ∷ os) all = by (is_get o.deed) all.0 (same_gets f g os all.1) where
  by : (b : Bool) → f o.item.0 ≡ g o.item.0 → with_worths f (gets_among os) ≡ with_worths g (gets_among os)
      → with_worths f (if b then o ∷ gets_among os else gets_among os) ≡ with_worths g (if b then o ∷ gets_among os else gets_among os)
  by true one rest =
      ap (λ (w : Value). (o.item, w) ∷ with_worths f (gets_among os)) one
      ∙ ap (λ (ws : List (ItemNo × Value)). (o.item, g o.item.0) ∷ ws) rest
  by false one rest = rest

-- What is before an act that lasts in its entry is quiet.
none_before : (s : ScriptData) (past : List Entry) (e : Entry) (j : ℕ) (a : Act) → Lasts s past e j a → lasting (take j e.acts) ≡ []
none_before s past e j a (Updates p r t k g asks of is none) = none
none_before s past e j a (Reads p r t k values g asks of is none) = none
none_before s past e j a (Votes p r t k g asks of is none) = none
none_before s past e j a (Applies p r t v commit g is so none) = none
none_before s past e j a (Frees p r t g is so none) = none

quiet_before : (s : ScriptData) (past : List Entry) (i : ℕ) (y : Place) → IsValid s → IsStepRun s past → is_lasting y.act ≡ true
    → (l : InEntry past i y) → AreQuiet (before past) (length (before l.earlier)) i
quiet_before s past i y valid run so l = λ j z least lt is.
    let act = act_of_place l.entry l.place y l.is in
    let none = none_before s l.earlier l.entry l.place y.act
    (lasts s l.earlier l.entry l.place y.act valid (entry_run s past i y run l) act.0 so) in
    let xs : List Place = front l.earlier l.entry l.place in
    let there : slice_get xs j ≡ Some z = sym (ap (λ (ys : List Place). slice_get ys j) l.front) ∙ is_taken (before past) i j z lt is in
    front_quiet l.earlier l.entry l.place none j z least (slice_get_within xs j z there) there

-- The acts before its entry are the first ones.
earlier_acts : (past : List Entry) (i : ℕ) (y : Place) (l : InEntry past i y) → take (length (before l.earlier)) (before past) ≡ before l.earlier
earlier_acts past i y l =
    sym (ap (λ (es : List Entry). take (length (before l.earlier)) (before es)) (append_assoc l.later (l.entry ∷ []) l.earlier ∙ l.all))
    ∙ first_acts l.earlier (l.later ++ l.entry ∷ [])

earlier_below : (past : List Entry) (i : ℕ) (y : Place) (l : InEntry past i y) → length (before l.earlier) ≤ i
earlier_below past i y l =
    let size : length (take i (before past)) ≡ length (before l.earlier) + length (take l.place (places_at l.entry)) =
    ap length l.front ∙ length-append (before l.earlier) (take l.place (places_at l.entry)) in
    omega (arith, size, length-take i (before past))

-- A yes of a tree that commits: the position, and what is known of it.
record CommittedYes (s : ScriptData) (past : List Entry) (i p : ℕ) (t : TreeNo) (k : SubNo) (values : List (ItemNo × Value)) : Type 0 where
  valid : IsValid s
  run : IsStepRun s past
  is : slice_get (before past) i ≡ Some (placed p (Voted t k (Yes values)))
  commit : CommitAt (before past) t.0

yes_at : (s : ScriptData) (past : List Entry) (i p : ℕ) (t : TreeNo) (k : SubNo) (values : List (ItemNo × Value))
    → CommittedYes s past i p t k values → ActAt (votes_yes t.0 k.0) (before past) i p
yes_at s past i p t k values g =
    record { act = Voted t k (Yes values); is = g.is; passes = and_from (t.0 == t.0) (k.0 == k.0) (same_test t.0) (same_test k.0) }

-- each of its items was worth, before its entry, what it is worth after the members before the tree
item_fold : (s : ScriptData) (past : List Entry) (i p j : ℕ) (t : TreeNo) (k : SubNo) (values : List (ItemNo × Value)) (o : SubOp) (w : Version)
    → CommittedYes s past i p t k values → (l : InEntry past i (placed p (Voted t k (Yes values)))) → version_in t.0 (before past) ≡ Some w
    → slice_get (ops_of s t.0 k.0) j ≡ Some o
    → worth s (reverse l.earlier) o.item.0 w.0 ≡ worth_before s (reverse past) t.0 o.item.0 w.0
item_fold s past i p j t k values o w g l born at =
    let zs : List Place = before past in
    let y : Place = placed p (Voted t k (Yes values)) in
    let rules = follows_rules s past g.valid g.run in
    let voted : ActAt (votes_yes t.0 k.0) zs i p = yes_at s past i p t k values g in
    let row = op_row s t.0 k.0 j o g.valid at in
    let node : row.row.node.0 ≡ p = sym row.node ∙ (yes_vote s zs i p t.0 k.0 rules.acts voted).node in
    let c : CommittedVote s zs p o.item.0 t.0 k.0 w i g.commit.place = record {
      rules = rules;
      item = item_at s p o.item.0 row.row g.valid row.there node;
      voted = voted;
      on = record { index = j; op = o; is = at; on = same_test o.item.0 };
      home = g.commit.node;
      decided = g.commit.at;
      version = born;
    } in
    ap (λ (xs : List Place). worth_in s xs o.item.0 w.0) (sym (earlier_acts past i y l))
    ∙ worth_before_entry s zs p o.item.0 t.0 k.0 w i g.commit.place c g.valid (length (before l.earlier)) (earlier_below past i y l)
    (quiet_before s past i y g.valid g.run refl l)
    ∙ ap (worth_after s o.item.0) (sym (before_is t.0 (serial_in s zs w.0)))

-- so its values are the fold over them
yes_fold : (s : ScriptData) (past : List Entry) (i p : ℕ) (t : TreeNo) (k : SubNo) (values : List (ItemNo × Value))
    → CommittedYes s past i p t k values
    → IsShown (worth_before s (reverse past) t.0) (gets_among (ops_of s t.0 k.0)) values (version_in t.0 (before past))
yes_fold s past i p t k values g =
    let y : Place = placed p (Voted t k (Yes values)) in
    let os : List SubOp = ops_of s t.0 k.0 in
    let l = in_entry past i y g.is in
    let xs : List Place = front l.earlier l.entry l.place in
    let rule = yes_vote s (before past) i p t.0 k.0 (follows_rules s past g.valid g.run).acts (yes_at s past i p t k values g) in
    let right = place_right s l.earlier l.entry l.place y g.valid (entry_run s past i y g.run l) l.is in
    let o = shows_in (worth s (reverse l.earlier)) (gets_among os) values (version_in t.0 (xs ++ y ∷ [])) (right rule.strict) in
    let born : version_in t.0 (before past) ≡ Some o.version =
    kept_version past i t.0 y o.version g.is (ap (λ (ys : List Place). version_in t.0 (ys ++ y ∷ [])) l.front ∙ o.is) in
    let f : ℕ → Value = λ x. worth s (reverse l.earlier) x o.version.0 in
    let h : ℕ → Value = λ x. worth_before s (reverse past) t.0 x o.version.0 in
    subst (IsShown (worth_before s (reverse past) t.0) (gets_among os) values) (sym born)
    (o.right
    ∙ same_gets f h os
    (each_op (λ (op : SubOp). f op.item.0 ≡ h op.item.0) os (λ j op at. item_fold s past i p j t k values op o.version g l born at)))

act_fold : (s : ScriptData) (past : List Entry) (i p : ℕ) (a : Act) → IsValid s → IsStepRun s past
    → slice_get (before past) i ≡ Some (placed p a) → GotTheFoldBefore s (reverse past) a
act_fold s past i p (Voted t k (Yes values)) valid run is = λ committed.
    yes_fold s past i p t k values (record { valid = valid; run = run; is = is; commit = commit_at t.0 (before past) committed })
act_fold s past i p (Voted t k (No cause)) valid run is = tt
act_fold s past i p Finished valid run is = tt
act_fold s past i p _ valid run is = tt

pub gets_are_the_fold : (s : ScriptData) (past : List Entry) → IsValid s → IsStepRun s past → GetsAreTheFoldBefore s (reverse past)
gets_are_the_fold s past valid run =
    each_in_place (λ (xs : List Place) (y : Place). GotTheFoldBefore s (reverse past) y.act) (reverse past)
    (λ i y is. act_fold s past i y.node y.act valid run is)
