-- What is known of transactions after one act more.
use Rattle.std.proofs.Common.{◌≡◌, ℕ, ◌<◌, ◌==◌, Bool, true, false, List, [], ◌∷◌, ◌++◌, length, refl, sym, ap, subst, ◌∙◌, get_or, arith, Option, Some, None}
use Rattle.std.specs.Prelude.{if◌then◌else◌, not, ◌||◌, ◌&&◌, slice_set}
use Rattle.std.specs.List.{list_any}
use Rattle.std.specs.Option.{option_or}
use Rattle.std.proofs.Math.Bool.{and-false, or-false}
use Rattle.std.proofs.lemmas.Bool.{and_left, and_right, eqb-true, eqb-false}
use Rattle.std.proofs.lemmas.List.{get_or-set_other, get_or-set_same, length-set}
use Rattle.std.proofs.lemmas.List.Folds.{list_any-append}
use Rattle.tv_base.specs.declared.numbers.ItemNo.{ItemNo}
use Rattle.tv_base.specs.declared.numbers.SubNo.{SubNo}
use Rattle.tv_base.specs.declared.numbers.TreeNo.{TreeNo}
use Rattle.tv_base.specs.declared.numbers.Version.{Version}
use Rattle.commute_ops.specs.declared.value.Value.{Value}
use Rattle.letter_types.specs.declared.acts.Act.{Act}
use Rattle.letter_types.specs.declared.acts.Act.TheVariants.{Born, Did, Turned, Showed, Swept, Finished, Waits, Parked, Voted, Freed, Decided, Applied}
use Rattle.letter_types.specs.declared.votes.Vote.{Vote}
use Rattle.letter_types.specs.declared.votes.Vote.TheVariants.{Yes, No}
use Rattle.board_rules.specs.Histories.{Place, applies, born_as, decides_as, does, version_in}
use Rattle.board_rules.specs.Stands.{frees, votes, votes_yes}
use Rattle.board_rules.proofs.Places.{option_or_none, version_in-append}
use Rattle.board_tallies.specs.Board.{AreMarks, ShowsTree, first_state, state_at}
use Rattle.board_tallies.specs.inside.Noting.{is_yes, news_by, state_with, states_told, states_with}
use Rattle.board_tallies.specs.declared.states.StateNews.{StateNews}
use Rattle.board_tallies.specs.declared.states.StateNews.TheVariants as news
use Rattle.board_tallies.specs.declared.states.TreeState.{TreeState}
use Rattle.board_tallies.proofs.Numbering.{placed_at}

-- Marks and flags after one act more.
any_next : (test : Place → Bool) (xs : List Place) (x : Place) (b : Bool) → test x ≡ b
    → list_any test (xs ++ x ∷ []) ≡ (list_any test xs || b)
any_next test xs x b is =
    list_any-append test xs (x ∷ []) ∙ ap (λ (c : Bool). list_any test xs || c) (or-false (test x) ∙ is)

keep_flag : (test : Place → Bool) (xs : List Place) (x : Place) (flag : Bool) → test x ≡ false → flag ≡ list_any test xs
    → flag ≡ list_any test (xs ++ x ∷ [])
keep_flag test xs x flag not_it is = is ∙ sym (any_next test xs x false not_it ∙ or-false (list_any test xs))

set_flag : (test : Place → Bool) (xs : List Place) (x : Place) (flag b : Bool) → test x ≡ b → flag ≡ list_any test xs
    → (flag || b) ≡ list_any test (xs ++ x ∷ [])
set_flag test xs x flag b so is = ap (λ (c : Bool). c || b) is ∙ sym (any_next test xs x b so)

keep_marks : (test : ℕ → Place → Bool) (xs : List Place) (x : Place) (marks : List Bool) → ((k : ℕ) → test k x ≡ false)
    → AreMarks marks (λ (k : ℕ). list_any (test k) xs) → AreMarks marks (λ (k : ℕ). list_any (test k) (xs ++ x ∷ []))
keep_marks test xs x marks none are =
    record { many = are.many; each = λ (k : ℕ). keep_flag (test k) xs x (get_or marks k false) (none k) (are.each k) }

mark_set : (marks : List Bool) (j k : ℕ) (b : Bool) → j < length marks
    → get_or (slice_set marks j (b || get_or marks j false)) k false ≡ (get_or marks k false || (b && (j == k)))
mark_set marks j k b lt = by (j == k) refl where
  either : (c d : Bool) → (c || d) ≡ (d || (c && true))
  either true true = refl
  either true false = refl
  either false true = refl
  either false false = refl

  neither : (c d : Bool) → d ≡ (d || (c && false))
  neither true true = refl
  neither true false = refl
  neither false true = refl
  neither false false = refl

  by : (here : Bool) → (j == k) ≡ here
      → get_or (slice_set marks j (b || get_or marks j false)) k false ≡ (get_or marks k false || (b && (j == k)))
  by true is =
      let same : j ≡ k = eqb-true j k is in
      ap (λ (i : ℕ). get_or (slice_set marks j (b || get_or marks j false)) i false) (sym same)
      ∙ get_or-set_same marks j (b || get_or marks j false) false lt
      ∙ either b (get_or marks j false)
      ∙ (λ i. get_or marks (same i) false || (b && sym is i))
  by false is =
      let other : k ≡ j → ⊥ = λ e. eqb-false j k is (sym e) in
      get_or-set_other marks j k (b || get_or marks j false) false other
      ∙ neither b (get_or marks k false)
      ∙ ap (λ (c : Bool). get_or marks k false || (b && c)) (sym is)

set_marks : (test : ℕ → Place → Bool) (xs : List Place) (x : Place) (marks : List Bool) (j : ℕ) (b : Bool) → j < 64
    → ((k : ℕ) → test k x ≡ (b && (j == k))) → AreMarks marks (λ (k : ℕ). list_any (test k) xs)
    → AreMarks (slice_set marks j (b || get_or marks j false)) (λ (k : ℕ). list_any (test k) (xs ++ x ∷ []))
set_marks test xs x marks j b lt so are = record {
  many = length-set marks j (b || get_or marks j false) ∙ are.many;
  each = λ (k : ℕ).
      mark_set marks j k b (omega (arith, lt, are.many))
      ∙ set_flag (test k) xs x (get_or marks k false) (b && (j == k)) (so k) (are.each k);
}

-- the version of a first birth
set_born : (t : ℕ) (xs : List Place) (x : Place) (born o : Option Version) → born_as t x.act ≡ o → born ≡ version_in t xs
    → option_or born o ≡ version_in t (xs ++ x ∷ [])
set_born t xs x born o so is =
    ap (λ (c : Option Version). option_or c o) is
    ∙ sym
    (version_in-append t xs (x ∷ []) ∙ ap (λ (c : Option Version). option_or (version_in t xs) c) (option_or_none (born_as t x.act) ∙ so))

keep_born : (t : ℕ) (xs : List Place) (x : Place) (born : Option Version) → born_as t x.act ≡ None → born ≡ version_in t xs
    → born ≡ version_in t (xs ++ x ∷ [])
keep_born t xs x born so is = sym (option_or_none born) ∙ set_born t xs x born None so is

-- the act tells nothing of tree t
pub record IsAside (t : ℕ) (act : Act) : Type 0 where
  pub born : born_as t act ≡ None
  pub done : (k : ℕ) → does t k act ≡ false
  pub voted : (k : ℕ) → votes t k act ≡ false
  pub yes : (k : ℕ) → votes_yes t k act ≡ false
  pub applied : applies t act ≡ false
  pub freed : frees t act ≡ false
  pub decided : (c : Bool) → decides_as t c act ≡ false

-- then its state stays
pub aside_shown : (t p : ℕ) (act : Act) (xs : List Place) (st : TreeState) → IsAside t act → ShowsTree t xs st
    → ShowsTree t (xs ++ placed_at p act ∷ []) st
aside_shown t p act xs st aside shows =
    let x : Place = placed_at p act in
    record {
      born = keep_born t xs x st.born aside.born shows.born;
      done = keep_marks (λ (k : ℕ) (y : Place). does t k y.act) xs x st.done aside.done shows.done;
      voted = keep_marks (λ (k : ℕ) (y : Place). votes t k y.act) xs x st.voted aside.voted shows.voted;
      yes = keep_marks (λ (k : ℕ) (y : Place). votes_yes t k y.act) xs x st.yes aside.yes shows.yes;
      applied =
          keep_marks (λ (q : ℕ) (y : Place). (y.node == q) && applies t y.act) xs x st.applied
          (λ q. and_right (p == q) (applies t act) aside.applied) shows.applied;
      freed =
          keep_marks (λ (q : ℕ) (y : Place). (y.node == q) && frees t y.act) xs x st.freed
          (λ q. and_right (p == q) (frees t act) aside.freed) shows.freed;
      committed = keep_flag (λ (y : Place). decides_as t true y.act) xs x st.committed (aside.decided true) shows.committed;
      aborted = keep_flag (λ (y : Place). decides_as t false y.act) xs x st.aborted (aside.decided false) shows.aborted;
    }

-- an act that tells nothing at all
pub none_told : (t p : ℕ) (act : Act) → news_by p act ≡ None → IsAside t act
none_told t p (Born u v) is = absurd (cc is)
none_told t p (Did u k values) is = absurd (cc is)
none_told t p (Voted u k vote) is = absurd (cc is)
none_told t p (Freed u) is = absurd (cc is)
none_told t p (Decided u commit) is = absurd (cc is)
none_told t p (Applied u commit) is = absurd (cc is)
none_told t p (Turned v) is =
    record { born = refl; done = λ k. refl; voted = λ k. refl; yes = λ k. refl; applied = refl; freed = refl; decided = λ c. refl }
none_told t p (Showed v) is =
    record { born = refl; done = λ k. refl; voted = λ k. refl; yes = λ k. refl; applied = refl; freed = refl; decided = λ c. refl }
none_told t p (Swept v) is =
    record { born = refl; done = λ k. refl; voted = λ k. refl; yes = λ k. refl; applied = refl; freed = refl; decided = λ c. refl }
none_told t p (Waits u a b) is =
    record { born = refl; done = λ k. refl; voted = λ k. refl; yes = λ k. refl; applied = refl; freed = refl; decided = λ c. refl }
none_told t p (Parked u a b h) is =
    record { born = refl; done = λ k. refl; voted = λ k. refl; yes = λ k. refl; applied = refl; freed = refl; decided = λ c. refl }
none_told t p Finished is =
    record { born = refl; done = λ k. refl; voted = λ k. refl; yes = λ k. refl; applied = refl; freed = refl; decided = λ c. refl }

other_yes : (t k : ℕ) (u : TreeNo) (j : SubNo) (vote : Vote) → (u.0 == t) ≡ false → votes_yes t k (Voted u j vote) ≡ false
other_yes t k u j (Yes values) is = and_left (u.0 == t) (j.0 == k) is
other_yes t k u j (No cause) is = refl

born_aside : (t : ℕ) (u : TreeNo) (v : Version) → (u.0 == t) ≡ false → IsAside t (Born u v)
born_aside t u v is = record {
  born = ap (λ (b : Bool). if b then Some v else None) is;
  done = λ k. refl;
  voted = λ k. refl;
  yes = λ k. refl;
  applied = refl;
  freed = refl;
  decided = λ c. refl;
}

deed_aside : (t : ℕ) (u : TreeNo) (j : SubNo) (values : List (ItemNo × Value)) → (u.0 == t) ≡ false → IsAside t (Did u j values)
deed_aside t u j values is = record {
  born = refl;
  done = λ k. and_left (u.0 == t) (j.0 == k) is;
  voted = λ k. refl;
  yes = λ k. refl;
  applied = refl;
  freed = refl;
  decided = λ c. refl;
}

vote_aside : (t : ℕ) (u : TreeNo) (j : SubNo) (vote : Vote) → (u.0 == t) ≡ false → IsAside t (Voted u j vote)
vote_aside t u j vote is = record {
  born = refl;
  done = λ k. refl;
  voted = λ k. and_left (u.0 == t) (j.0 == k) is;
  yes = λ k. other_yes t k u j vote is;
  applied = refl;
  freed = refl;
  decided = λ c. refl;
}

freeing_aside : (t : ℕ) (u : TreeNo) → (u.0 == t) ≡ false → IsAside t (Freed u)
freeing_aside t u is = record {
  born = refl;
  done = λ k. refl;
  voted = λ k. refl;
  yes = λ k. refl;
  applied = refl;
  freed = is;
  decided = λ c. refl;
}

decision_aside : (t : ℕ) (u : TreeNo) (commit : Bool) → (u.0 == t) ≡ false → IsAside t (Decided u commit)
decision_aside t u commit is = record {
  born = refl;
  done = λ k. refl;
  voted = λ k. refl;
  yes = λ k. refl;
  applied = refl;
  freed = refl;
  decided = λ c. and_left (u.0 == t) (if c then commit else not commit) is;
}

applying_aside : (t : ℕ) (u : TreeNo) (commit : Bool) → (u.0 == t) ≡ false → IsAside t (Applied u commit)
applying_aside t u commit is = record {
  born = refl;
  done = λ k. refl;
  voted = λ k. refl;
  yes = λ k. refl;
  applied = is;
  freed = refl;
  decided = λ c. refl;
}

-- What an act tells of its own tree. The tests that the others pass are those of an act that tells nothing.
born_told : (t p : ℕ) (u : TreeNo) (v : Version) (xs : List Place) (st : TreeState) → (u.0 == t) ≡ true → ShowsTree t xs st
    → ShowsTree t (xs ++ placed_at p (Born u v) ∷ []) (state_with (news.Born v) st)
born_told t p u v xs st is shows =
    let x : Place = placed_at p (Born u v) in
    record {
      born = set_born t xs x st.born (Some v) (ap (λ (b : Bool). if b then Some v else None) is) shows.born;
      done = keep_marks (λ (k : ℕ) (y : Place). does t k y.act) xs x st.done (λ k. refl) shows.done;
      voted = keep_marks (λ (k : ℕ) (y : Place). votes t k y.act) xs x st.voted (λ k. refl) shows.voted;
      yes = keep_marks (λ (k : ℕ) (y : Place). votes_yes t k y.act) xs x st.yes (λ k. refl) shows.yes;
      applied =
          keep_marks (λ (q : ℕ) (y : Place). (y.node == q) && applies t y.act) xs x st.applied (λ q. and-false (p == q)) shows.applied;
      freed = keep_marks (λ (q : ℕ) (y : Place). (y.node == q) && frees t y.act) xs x st.freed (λ q. and-false (p == q)) shows.freed;
      committed = keep_flag (λ (y : Place). decides_as t true y.act) xs x st.committed refl shows.committed;
      aborted = keep_flag (λ (y : Place). decides_as t false y.act) xs x st.aborted refl shows.aborted;
    }

deed_told : (t p : ℕ) (u : TreeNo) (j : SubNo) (values : List (ItemNo × Value)) (xs : List Place) (st : TreeState) → j.0 < 64
    → (u.0 == t) ≡ true → ShowsTree t xs st
    → ShowsTree t (xs ++ placed_at p (Did u j values) ∷ []) (state_with (news.Done j) st)
deed_told t p u j values xs st lt is shows =
    let x : Place = placed_at p (Did u j values) in
    record {
      born = keep_born t xs x st.born refl shows.born;
      done =
          set_marks (λ (k : ℕ) (y : Place). does t k y.act) xs x st.done j.0 true lt (λ k. ap (λ (b : Bool). b && (j.0 == k)) is)
          shows.done;
      voted = keep_marks (λ (k : ℕ) (y : Place). votes t k y.act) xs x st.voted (λ k. refl) shows.voted;
      yes = keep_marks (λ (k : ℕ) (y : Place). votes_yes t k y.act) xs x st.yes (λ k. refl) shows.yes;
      applied =
          keep_marks (λ (q : ℕ) (y : Place). (y.node == q) && applies t y.act) xs x st.applied (λ q. and-false (p == q)) shows.applied;
      freed = keep_marks (λ (q : ℕ) (y : Place). (y.node == q) && frees t y.act) xs x st.freed (λ q. and-false (p == q)) shows.freed;
      committed = keep_flag (λ (y : Place). decides_as t true y.act) xs x st.committed refl shows.committed;
      aborted = keep_flag (λ (y : Place). decides_as t false y.act) xs x st.aborted refl shows.aborted;
    }

own_yes : (t k : ℕ) (u : TreeNo) (j : SubNo) (vote : Vote) → (u.0 == t) ≡ true
    → votes_yes t k (Voted u j vote) ≡ (is_yes vote && (j.0 == k))
own_yes t k u j (Yes values) is = ap (λ (b : Bool). b && (j.0 == k)) is
own_yes t k u j (No cause) is = refl

vote_told : (t p : ℕ) (u : TreeNo) (j : SubNo) (vote : Vote) (xs : List Place) (st : TreeState) → j.0 < 64 → (u.0 == t) ≡ true
    → ShowsTree t xs st → ShowsTree t (xs ++ placed_at p (Voted u j vote) ∷ []) (state_with (news.Voted j (is_yes vote)) st)
vote_told t p u j vote xs st lt is shows =
    let x : Place = placed_at p (Voted u j vote) in
    record {
      born = keep_born t xs x st.born refl shows.born;
      done = keep_marks (λ (k : ℕ) (y : Place). does t k y.act) xs x st.done (λ k. refl) shows.done;
      voted =
          set_marks (λ (k : ℕ) (y : Place). votes t k y.act) xs x st.voted j.0 true lt (λ k. ap (λ (b : Bool). b && (j.0 == k)) is)
          shows.voted;
      yes =
          set_marks (λ (k : ℕ) (y : Place). votes_yes t k y.act) xs x st.yes j.0 (is_yes vote) lt (λ k. own_yes t k u j vote is)
          shows.yes;
      applied =
          keep_marks (λ (q : ℕ) (y : Place). (y.node == q) && applies t y.act) xs x st.applied (λ q. and-false (p == q)) shows.applied;
      freed = keep_marks (λ (q : ℕ) (y : Place). (y.node == q) && frees t y.act) xs x st.freed (λ q. and-false (p == q)) shows.freed;
      committed = keep_flag (λ (y : Place). decides_as t true y.act) xs x st.committed refl shows.committed;
      aborted = keep_flag (λ (y : Place). decides_as t false y.act) xs x st.aborted refl shows.aborted;
    }

and_own : (a b : Bool) → b ≡ true → (a && b) ≡ (true && a)
and_own true b is = is
and_own false b is = refl

freeing_told : (t p : ℕ) (u : TreeNo) (xs : List Place) (st : TreeState) → p < 64 → (u.0 == t) ≡ true → ShowsTree t xs st
    → ShowsTree t (xs ++ placed_at p (Freed u) ∷ []) (state_with (news.Freed (record { 0 = p })) st)
freeing_told t p u xs st lt is shows =
    let x : Place = placed_at p (Freed u) in
    record {
      born = keep_born t xs x st.born refl shows.born;
      done = keep_marks (λ (k : ℕ) (y : Place). does t k y.act) xs x st.done (λ k. refl) shows.done;
      voted = keep_marks (λ (k : ℕ) (y : Place). votes t k y.act) xs x st.voted (λ k. refl) shows.voted;
      yes = keep_marks (λ (k : ℕ) (y : Place). votes_yes t k y.act) xs x st.yes (λ k. refl) shows.yes;
      applied =
          keep_marks (λ (q : ℕ) (y : Place). (y.node == q) && applies t y.act) xs x st.applied (λ q. and-false (p == q)) shows.applied;
      freed =
          set_marks (λ (q : ℕ) (y : Place). (y.node == q) && frees t y.act) xs x st.freed p true lt
          (λ q. and_own (p == q) (u.0 == t) is) shows.freed;
      committed = keep_flag (λ (y : Place). decides_as t true y.act) xs x st.committed refl shows.committed;
      aborted = keep_flag (λ (y : Place). decides_as t false y.act) xs x st.aborted refl shows.aborted;
    }

applying_told : (t p : ℕ) (u : TreeNo) (commit : Bool) (xs : List Place) (st : TreeState) → p < 64 → (u.0 == t) ≡ true
    → ShowsTree t xs st → ShowsTree t (xs ++ placed_at p (Applied u commit) ∷ []) (state_with (news.Applied (record { 0 = p })) st)
applying_told t p u commit xs st lt is shows =
    let x : Place = placed_at p (Applied u commit) in
    record {
      born = keep_born t xs x st.born refl shows.born;
      done = keep_marks (λ (k : ℕ) (y : Place). does t k y.act) xs x st.done (λ k. refl) shows.done;
      voted = keep_marks (λ (k : ℕ) (y : Place). votes t k y.act) xs x st.voted (λ k. refl) shows.voted;
      yes = keep_marks (λ (k : ℕ) (y : Place). votes_yes t k y.act) xs x st.yes (λ k. refl) shows.yes;
      applied =
          set_marks (λ (q : ℕ) (y : Place). (y.node == q) && applies t y.act) xs x st.applied p true lt
          (λ q. and_own (p == q) (u.0 == t) is) shows.applied;
      freed = keep_marks (λ (q : ℕ) (y : Place). (y.node == q) && frees t y.act) xs x st.freed (λ q. and-false (p == q)) shows.freed;
      committed = keep_flag (λ (y : Place). decides_as t true y.act) xs x st.committed refl shows.committed;
      aborted = keep_flag (λ (y : Place). decides_as t false y.act) xs x st.aborted refl shows.aborted;
    }

decision_told : (t p : ℕ) (u : TreeNo) (commit : Bool) (xs : List Place) (st : TreeState) → (u.0 == t) ≡ true → ShowsTree t xs st
    → ShowsTree t (xs ++ placed_at p (Decided u commit) ∷ []) (state_with (news.Decided commit) st)
decision_told t p u commit xs st is shows =
    let x : Place = placed_at p (Decided u commit) in
    record {
      born = keep_born t xs x st.born refl shows.born;
      done = keep_marks (λ (k : ℕ) (y : Place). does t k y.act) xs x st.done (λ k. refl) shows.done;
      voted = keep_marks (λ (k : ℕ) (y : Place). votes t k y.act) xs x st.voted (λ k. refl) shows.voted;
      yes = keep_marks (λ (k : ℕ) (y : Place). votes_yes t k y.act) xs x st.yes (λ k. refl) shows.yes;
      applied =
          keep_marks (λ (q : ℕ) (y : Place). (y.node == q) && applies t y.act) xs x st.applied (λ q. and-false (p == q)) shows.applied;
      freed = keep_marks (λ (q : ℕ) (y : Place). (y.node == q) && frees t y.act) xs x st.freed (λ q. and-false (p == q)) shows.freed;
      committed =
          set_flag (λ (y : Place). decides_as t true y.act) xs x st.committed commit (ap (λ (b : Bool). b && commit) is)
          shows.committed;
      aborted =
          set_flag (λ (y : Place). decides_as t false y.act) xs x st.aborted (not commit) (ap (λ (b : Bool). b && not commit) is)
          shows.aborted;
    }

-- One tree's state is changed.
changed_at : (states : List TreeState) (u : TreeNo) (n : StateNews) (t : ℕ) (P : TreeState → Type 0) → u.0 < length states
    → ((u.0 == t) ≡ true → P (state_with n (state_at states t))) → ((u.0 == t) ≡ false → P (state_at states t))
    → P (state_at (states_told (Some (u, n)) states) t)
changed_at states u n t P lt own other = by (u.0 == t) refl where
  y : TreeState
  y = state_with n (state_at states u.0)

  by : (b : Bool) → (u.0 == t) ≡ b → P (state_at (states_told (Some (u, n)) states) t)
  by true is =
      let same : t ≡ u.0 = sym (eqb-true u.0 t is) in
      let set : state_at (states_told (Some (u, n)) states) t ≡ state_with n (state_at states t)
      = ap (λ (k : ℕ). state_at (states_told (Some (u, n)) states) k) same
      ∙ get_or-set_same states u.0 (state_with n (state_at states u.0)) first_state lt
      ∙ ap (λ (k : ℕ). state_with n (state_at states k)) (sym same) in
      subst P (sym set) (own is)
  by false is =
      let apart : t ≡ u.0 → ⊥ = λ e. eqb-false u.0 t is (sym e) in
      let set : state_at (states_told (Some (u, n)) states) t ≡ state_at states t
      = get_or-set_other states u.0 t (state_with n (state_at states u.0)) first_state apart in
      subst P (sym set) (other is)

-- the tree that the act tells of is one of so many, and what is marked has a mark
abbrev pub IsWithin : ℕ → ℕ → Act → Type 0
IsWithin n p (Born u v) = u.0 < n
IsWithin n p (Did u k values) = (u.0 < n) × (k.0 < 64)
IsWithin n p (Voted u k vote) = (u.0 < n) × (k.0 < 64)
IsWithin n p (Freed u) = (u.0 < n) × (p < 64)
IsWithin n p (Decided u commit) = u.0 < n
IsWithin n p (Applied u commit) = (u.0 < n) × (p < 64)
IsWithin n p Finished = Unit {0}
IsWithin n p _ = Unit {0}

-- the states of all trees after the act
pub states_next : (states : List TreeState) (p : ℕ) (act : Act) (xs : List Place) → IsWithin (length states) p act → (t : ℕ)
    → ShowsTree t xs (state_at states t) → ShowsTree t (xs ++ placed_at p act ∷ []) (state_at (states_with p act states) t)
states_next states p (Born u v) xs lt t shows =
    changed_at states u (news.Born v) t (ShowsTree t (xs ++ placed_at p (Born u v) ∷ [])) lt
    (λ is. born_told t p u v xs (state_at states t) is shows)
    (λ is. aside_shown t p (Born u v) xs (state_at states t) (born_aside t u v is) shows)
states_next states p (Did u j values) xs lt t shows =
    changed_at states u (news.Done j) t (ShowsTree t (xs ++ placed_at p (Did u j values) ∷ [])) lt.0
    (λ is. deed_told t p u j values xs (state_at states t) lt.1 is shows)
    (λ is. aside_shown t p (Did u j values) xs (state_at states t) (deed_aside t u j values is) shows)
states_next states p (Voted u j vote) xs lt t shows =
    changed_at states u (news.Voted j (is_yes vote)) t (ShowsTree t (xs ++ placed_at p (Voted u j vote) ∷ [])) lt.0
    (λ is. vote_told t p u j vote xs (state_at states t) lt.1 is shows)
    (λ is. aside_shown t p (Voted u j vote) xs (state_at states t) (vote_aside t u j vote is) shows)
states_next states p (Freed u) xs lt t shows =
    changed_at states u (news.Freed (record { 0 = p })) t (ShowsTree t (xs ++ placed_at p (Freed u) ∷ [])) lt.0
    (λ is. freeing_told t p u xs (state_at states t) lt.1 is shows)
    (λ is. aside_shown t p (Freed u) xs (state_at states t) (freeing_aside t u is) shows)
states_next states p (Decided u commit) xs lt t shows =
    changed_at states u (news.Decided commit) t (ShowsTree t (xs ++ placed_at p (Decided u commit) ∷ [])) lt
    (λ is. decision_told t p u commit xs (state_at states t) is shows)
    (λ is. aside_shown t p (Decided u commit) xs (state_at states t) (decision_aside t u commit is) shows)
states_next states p (Applied u commit) xs lt t shows =
    changed_at states u (news.Applied (record { 0 = p })) t (ShowsTree t (xs ++ placed_at p (Applied u commit) ∷ [])) lt.0
    (λ is. applying_told t p u commit xs (state_at states t) lt.1 is shows)
    (λ is. aside_shown t p (Applied u commit) xs (state_at states t) (applying_aside t u commit is) shows)
states_next states p (Turned v) xs lt t shows =
    aside_shown t p (Turned v) xs (state_at states t) (none_told t p (Turned v) refl) shows
states_next states p (Showed v) xs lt t shows =
    aside_shown t p (Showed v) xs (state_at states t) (none_told t p (Showed v) refl) shows
states_next states p (Swept v) xs lt t shows =
    aside_shown t p (Swept v) xs (state_at states t) (none_told t p (Swept v) refl) shows
states_next states p (Waits u a b) xs lt t shows =
    aside_shown t p (Waits u a b) xs (state_at states t) (none_told t p (Waits u a b) refl) shows
states_next states p (Parked u a b h) xs lt t shows =
    aside_shown t p (Parked u a b h) xs (state_at states t) (none_told t p (Parked u a b h) refl) shows
states_next states p Finished xs lt t shows =
    aside_shown t p Finished xs (state_at states t) (none_told t p Finished refl) shows
