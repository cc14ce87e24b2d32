-- A small list of acts, with two update transactions and strict transactions of two versions at one node, follows its
-- rules; what its item is worth, computed. Between the decision and the Applied of a strict transaction the item isn't
-- closed, and what the node has made of it is another. What a strict transaction gets is the fold over the transactions
-- before it. What would be if an update slipped in, or a vote came too late; where an update is deferred, and where it
-- is done.
use Rattle.std.proofs.Common.{◌≡◌, ◌==◌, ℕ, zero, suc, ◌<◌, ◌≤◌, true, false, List, [], ◌∷◌, ◌++◌, refl, sym, ap, ◌∙◌, arith, Some, take}
use Rattle.std.specs.Prelude.{ℤ, pos, None, slice_get}
use Rattle.std.specs.List.{IsDistinct}
use Rattle.std.specs.Str.{bytes_eq}
use Rattle.tv_base.specs.declared.numbers.Version.{Version}
use Rattle.commute_ops.specs.declared.kinds.Kind.TheVariants.{Sum as SumKind}
use Rattle.commute_ops.specs.declared.kinds.Op.TheVariants.{Add}
use Rattle.commute_ops.specs.declared.value.Value.TheVariants.{Sum}
use Rattle.letter_types.specs.declared.acts.Act.{Act}
use Rattle.letter_types.specs.declared.acts.Act.TheVariants.{Born, Did, Turned, Showed, Parked, Voted, Freed, Decided, Applied}
use Rattle.letter_types.specs.declared.bodies.Body.{Body}
use Rattle.letter_types.specs.declared.bodies.Body.TheVariants.{Root}
use Rattle.letter_types.specs.declared.votes.Cause.TheVariants.{Conflict, Newer}
use Rattle.letter_types.specs.declared.votes.Vote.TheVariants.{Yes}
use Rattle.script_parts.specs.Counts.{trees_puts}
use Rattle.script_parts.specs.Forms.{most_amount}
use Rattle.script_parts.specs.ScriptData.{ScriptData, ops_of, updates}
use Rattle.script_parts.specs.Valid.{IsLimited, IsValid, item_names, load, tree_names}
use Rattle.script_parts.specs.declared.parts.Deed.TheVariants.{Apply, Get, Set, Draw}
use Rattle.script_parts.specs.declared.parts.Deed.{Deed}
use Rattle.script_parts.specs.declared.parts.Form.TheVariants.{One}
use Rattle.script_parts.specs.declared.parts.ItemRow.{ItemRow}
use Rattle.script_parts.specs.declared.parts.ScriptRow.TheVariants.{Tree as TreeRow, Advance}
use Rattle.script_parts.specs.declared.parts.SubOp.{SubOp}
use Rattle.script_parts.specs.declared.parts.Tree.{Tree}
use Rattle.script_parts.specs.declared.parts.TreeKind.{TreeKind}
use Rattle.script_parts.specs.declared.parts.TreeKind.TheVariants.{Update, Strict}
use Rattle.board_rules.specs.Histories.{Place, is_strict_tree, is_whole_in, version_in, was_applied, was_decided_as, was_done}
use Rattle.board_rules.specs.Moves.{OneByOne}
use Rattle.board_rules.specs.Right.{IsDoneAtOnce}
use Rattle.board_rules.specs.Serial.{serial_in}
use Rattle.board_rules.specs.Stands.{conflict_of, newer_of}
use Rattle.board_rules.specs.Worth.{worth_after, worth_in}
use Rattle.board_rules.proofs.AtPositions.{one_at}
use Rattle.board_rules.proofs.Births.{IsPhaseMove, births_whole}
use Rattle.board_rules.proofs.ClosedWorth.{IsClosed, made_is_worth}
use Rattle.board_rules.proofs.Effects.{made_in}
use Rattle.board_rules.proofs.Gets.{CommittedVote, worth_before_entry}
use Rattle.board_rules.proofs.ItemAt.{item_at}
use Rattle.board_rules.proofs.Rules.{FollowsRules, IsByRule, is_writer}
use Rattle.board_rules.proofs.SerialOrder.{is_up_to}
use Rattle.board_rules.proofs.TreeSubs.{touches}
use Rattle.board_rules.proofs.Votes.{AreQuiet, is_quiet}

-- Items a with 10 and b with 3 at node 0. Tree 0 adds 5 to a, tree 1 sets a to 7 and gets b, tree 2 adds 1 to b and 2
-- to a, tree 3 draws 4 of a and gets b.
abbrev row : ℕ → ℤ → ItemRow
row name initial = record { name = name ∷ []; node = record { 0 = 0 }; kind = SumKind; initial = initial }

abbrev on : ℕ → Deed → SubOp
on x deed = record { item = record { 0 = x }; deed = deed }

abbrev tree : ℕ → TreeKind → List SubOp → Tree
tree name kind ops = record {
  name = name ∷ [];
  kind = kind;
  subs = record { parent = record { 0 = 0 }; node = record { 0 = 0 }; ops = ops } ∷ [];
  written = None;
}

abbrev pub four : ScriptData
four = record {
  form = One;
  nodes = 1;
  items = row 97 (pos 10) ∷ row 98 (pos 3) ∷ [];
  trees =
      tree 116 Update (on 0 (Apply (Add (pos 5))) ∷ [])
      ∷ tree 117 Strict (on 0 (Set (pos 7)) ∷ on 1 Get ∷ [])
      ∷ tree 118 Update (on 1 (Apply (Add (pos 1))) ∷ on 0 (Apply (Add (pos 2))) ∷ [])
      ∷ tree 119 Strict (on 0 (Draw (pos 4)) ∷ on 1 Get ∷ []) ∷ [];
  rows =
      TreeRow (record { 0 = 0 }) ∷ TreeRow (record { 0 = 1 }) ∷ TreeRow (record { 0 = 2 }) ∷ Advance ∷ TreeRow (record { 0 = 3 }) ∷ [];
  picks = [];
  begun = false;
}

abbrev at0 : Act → Place
at0 a = record { node = 0; act = a }

abbrev born : ℕ → ℕ → Place
born t v = at0 (Born (record { 0 = t }) (record { 0 = v }))

abbrev did : ℕ → Place
did t = at0 (Did (record { 0 = t }) (record { 0 = 0 }) [])

-- a yes vote that shows b
abbrev voted : ℕ → ℤ → Place
voted t n = at0 (Voted (record { 0 = t }) (record { 0 = 0 }) (Yes ((record { 0 = 1 }, Sum (record { 0 = n })) ∷ [])))

abbrev freed : ℕ → Place
freed t = at0 (Freed (record { 0 = t }))

abbrev decided : ℕ → Place
decided t = at0 (Decided (record { 0 = t }) true)

abbrev applied : ℕ → Place
applied t = at0 (Applied (record { 0 = t }) true)

-- up to the decision of tree 1, and all
abbrev pub early : List Place
early = born 0 1 ∷ did 0 ∷ freed 0 ∷ born 1 1 ∷ voted 1 (pos 3) ∷ decided 1 ∷ []

abbrev pub acts : List Place
acts =
    born 0 1 ∷ did 0 ∷ freed 0 ∷ born 1 1 ∷ voted 1 (pos 3) ∷ decided 1 ∷ applied 1
    ∷ born 2 1 ∷ did 2 ∷ freed 2 ∷ at0 (Turned (record { 0 = 2 })) ∷ at0 (Showed (record { 0 = 1 }))
    ∷ born 3 2 ∷ voted 3 (pos 4) ∷ decided 3 ∷ applied 3 ∷ []

-- The values.
pub serial : serial_in four acts 2 ≡ 0 ∷ 1 ∷ 2 ∷ 3 ∷ []
serial = refl

pub worth_first : worth_in four acts 0 1 ≡ Sum (record { 0 = pos 9 })
worth_first = refl

pub worth_next : worth_in four acts 0 2 ≡ Sum (record { 0 = pos 5 })
worth_next = refl

-- a Did of tree 2 would meet the lock of tree 1 until that is applied, and the two values differ
pub would_wait : conflict_of four early 0 2 (ops_of four 2 0) ≡ Some (Conflict (record { 0 = 1 }) (record { 0 = 1 }))
would_wait = refl

-- so an entry that takes its Root parks it, and one that does it then isn't right; after the Applied it is
abbrev second : Body
second = Root (record { 0 = 2 })

abbrev does_second : List Act
does_second = Born (record { 0 = 2 }) (record { 0 = 1 }) ∷ Did (record { 0 = 2 }) (record { 0 = 0 }) [] ∷ []

abbrev parks_second : List Act
parks_second = Parked (record { 0 = 2 }) (record { 0 = 0 }) (record { 0 = 1 }) (record { 0 = 1 }) ∷ []

pub parks_at_once : IsDoneAtOnce four early 0 second parks_second
parks_at_once = record { done = λ c. refl; parked = refl }

pub not_done_yet : IsDoneAtOnce four early 0 second does_second → ⊥
not_done_yet h = let early_did : true ≡ false = h.done refl in cc early_did

pub done_then : IsDoneAtOnce four (early ++ applied 1 ∷ []) 0 second does_second
done_then = record { done = λ c. refl; parked = refl }

pub worth_open : worth_in four early 0 1 ≡ Sum (record { 0 = pos 7 })
worth_open = refl

pub made_open : made_in four early 0 0 1 ≡ Sum (record { 0 = pos 15 })
made_open = refl

-- What would be if tree 2 did on item a while tree 1 holds it, between its decision and its Applied: the list would
-- follow every other rule, and the node would hold another value than the item is worth.
abbrev slipped : List Place
slipped =
    born 0 1 ∷ did 0 ∷ freed 0 ∷ born 1 1 ∷ voted 1 (pos 3) ∷ decided 1 ∷ born 2 1 ∷ did 2 ∷ freed 2 ∷ applied 1 ∷ []

pub worth_slipped : worth_in four slipped 0 1 ≡ Sum (record { 0 = pos 9 })
worth_slipped = refl

pub made_slipped : made_in four slipped 0 0 1 ≡ Sum (record { 0 = pos 7 })
made_slipped = refl

-- What would be if strict tree 1, of version 1, voted yes though update tree 0, of version 2, has done on item a and is
-- whole: no lock is against it, but a newer version does.
abbrev before_late : List Place
before_late = born 1 1 ∷ at0 (Turned (record { 0 = 2 })) ∷ born 0 2 ∷ did 0 ∷ freed 0 ∷ []

abbrev after_late : List Place
after_late = before_late ++ voted 1 (pos 3) ∷ decided 1 ∷ applied 1 ∷ []

pub late_unlocked : conflict_of four before_late 0 1 (ops_of four 1 0) ≡ None
late_unlocked = refl

pub late_refused : newer_of four before_late 0 1 (ops_of four 1 0) ≡ Some (Newer (record { 0 = 0 }) (record { 0 = 2 }))
late_refused = refl

pub worth_late : worth_in four after_late 0 2 ≡ Sum (record { 0 = pos 12 })
worth_late = refl

pub made_late : made_in four after_late 0 0 2 ≡ Sum (record { 0 = pos 7 })
made_late = refl

-- The list follows its rules.
only_first : (Q : ℕ → Type 0) → Q 0 → (k : ℕ) → k < 1 → Q k
only_first Q first zero lt = first
only_first Q first (suc k) lt = absurd (omega (arith, lt))

all_by_rule : OneByOne (λ xs y. IsByRule four xs y.node y.act) [] acts
all_by_rule = (
  tt,
  (
    record { born = refl; there = omega arith; once = refl; node = refl; free = λ _. refl },
    (
      record { update = refl; visited = refl; whole = refl; once = refl },
      (
        tt,
        (
          record { strict = refl; born = refl; there = omega arith; once = refl; node = refl; free = refl; newest = refl },
          (
            record {
              strict = refl;
              home = (omega arith, refl);
              voted = only_first _ refl;
              once = λ c. refl;
              yes_if = λ _. refl;
              only_if = λ _. only_first _ refl;
            },
            (
              record { strict = refl; visited = refl; decided = refl; once = refl },
              (
                tt,
                (
                  record { born = refl; there = omega arith; once = refl; node = refl; free = λ _. refl },
                  (
                    record { update = refl; visited = refl; whole = refl; once = refl },
                    (
                      tt,
                      (
                        tt,
                        (
                          tt,
                          (
                            record { strict = refl; born = refl; there = omega arith; once = refl; node = refl; free = refl; newest = refl },
                            (
                              record {
                                strict = refl;
                                home = (omega arith, refl);
                                voted = only_first _ refl;
                                once = λ c. refl;
                                yes_if = λ _. refl;
                                only_if = λ _. only_first _ refl;
                              },
                              (record { strict = refl; visited = refl; decided = refl; once = refl }, tt),
                            ),
                          ),
                        ),
                      ),
                    ),
                  ),
                ),
              ),
            ),
          ),
        ),
      ),
    ),
  ),
)

shown_whole : (t : ℕ) (w : Version) → is_writer four t ≡ true → version_in t (take 11 acts) ≡ Some w → w.0 ≤ 1
    → is_whole_in four (take 11 acts) t ≡ true
shown_whole zero w writes born le = refl
shown_whole (suc zero) w writes born le = refl
shown_whole (suc (suc zero)) w writes born le = refl
shown_whole (suc (suc (suc zero))) w writes born le = absurd (cc born)
shown_whole (suc (suc (suc (suc t)))) w writes born le = absurd (cc writes)

all_phases : OneByOne (λ xs y. IsPhaseMove four xs y.node y.act) [] acts
all_phases = (
  record { unborn = refl; home = (omega arith, refl); update = λ _. refl; read = λ is. absurd (cc is); strict = λ is. absurd (cc is) },
  (
    tt,
    (
      tt,
      (
        record { unborn = refl; home = (omega arith, refl); update = λ is. absurd (cc is); read = λ is. absurd (cc is); strict = λ _. (refl, refl) },
        (
          tt,
          (
            tt,
            (
              tt,
              (
                record { unborn = refl; home = (omega arith, refl); update = λ _. refl; read = λ is. absurd (cc is); strict = λ is. absurd (cc is) },
                (
                  tt,
                  (
                    tt,
                    (
                      record { node = omega arith; next = refl; near = only_first _ (omega arith) },
                      (
                        record { node = omega arith; next = refl; below = only_first _ (omega arith); whole = shown_whole },
                        (
                          record { unborn = refl; home = (omega arith, refl); update = λ is. absurd (cc is); read = λ is. absurd (cc is); strict = λ _. (refl, refl) },
                          (tt, (tt, (tt, tt))),
                        ),
                      ),
                    ),
                  ),
                ),
              ),
            ),
          ),
        ),
      ),
    ),
  ),
)

pub sample_follows : FollowsRules four acts
sample_follows = record {
  acts = one_at (λ xs y. IsByRule four xs y.node y.act) [] acts all_by_rule;
  births = births_whole four acts (one_at (λ xs y. IsPhaseMove four xs y.node y.act) [] acts all_phases);
}

-- The script is valid.
loads_small : (x : ℕ) → x < 2 → load x four ≤ most_amount four.form
loads_small zero lt = omega arith
loads_small (suc zero) lt = omega arith
loads_small (suc (suc x)) lt = absurd (omega (arith, lt))

puts_few : (x : ℕ) → x < 2 → trees_puts x four.trees ≤ 64
puts_few zero lt = omega arith
puts_few (suc zero) lt = omega arith
puts_few (suc (suc x)) lt = absurd (omega (arith, lt))

limited : IsLimited four
limited = record {
  subs = omega arith;
  ops = omega arith;
  puts = puts_few;
  advances = omega arith;
  loses = omega arith;
  strict = omega arith;
  pairs = omega arith;
  places = omega arith;
}

items_apart : IsDistinct bytes_eq (item_names four.items)
unfolding IsDistinct
items_apart = ((refl, tt), (tt, tt))

trees_apart : IsDistinct bytes_eq (tree_names four.trees)
unfolding IsDistinct
trees_apart = ((refl, (refl, (refl, tt))), ((refl, (refl, tt)), ((refl, tt), (tt, tt))))

two_apart : IsDistinct (λ (a b : ℕ). a == b) (0 ∷ 1 ∷ [])
unfolding IsDistinct
two_apart = ((refl, tt), (tt, tt))

pub four_valid : IsValid four
four_valid = record {
  some_nodes = omega arith;
  few_nodes = omega arith;
  few_items = omega arith;
  few_trees = omega arith;
  items = (
    record { node = omega arith; bag = λ is. absurd (cc is); name = refl; small = omega arith },
    (record { node = omega arith; bag = λ is. absurd (cc is); name = refl; small = omega arith }, tt),
  );
  trees = (
    record {
      root = omega arith;
      few = omega arith;
      subs = (
        record { root = λ is. refl; parent = λ lt. absurd (omega arith); node = omega arith; few = omega arith; ops = ((refl, refl), tt); amounts = (refl, tt) },
        tt,
      );
      name = refl;
      once = λ is. absurd (cc is);
    },
    (
      record {
        root = omega arith;
        few = omega arith;
        subs = (
          record {
            root = λ is. refl;
            parent = λ lt. absurd (omega arith);
            node = omega arith;
            few = omega arith;
            ops = ((refl, refl), ((refl, refl), tt));
            amounts = (refl, (refl, tt));
          },
          tt,
        );
        name = refl;
        once = λ is. two_apart;
      },
      (
        record {
          root = omega arith;
          few = omega arith;
          subs = (
            record {
              root = λ is. refl;
              parent = λ lt. absurd (omega arith);
              node = omega arith;
              few = omega arith;
              ops = ((refl, refl), ((refl, refl), tt));
              amounts = (refl, (refl, tt));
            },
            tt,
          );
          name = refl;
          once = λ is. absurd (cc is);
        },
        (
          record {
            root = omega arith;
            few = omega arith;
            subs = (
              record {
                root = λ is. refl;
                parent = λ lt. absurd (omega arith);
                node = omega arith;
                few = omega arith;
                ops = ((refl, refl), ((refl, refl), tt));
                amounts = (refl, (refl, tt));
              },
              tt,
            );
            name = refl;
            once = λ is. two_apart;
          },
          tt,
        ),
      ),
    ),
  );
  loads = loads_small;
  rows = (refl, (refl, (refl, (refl, refl))));
  begun = λ is. absurd (cc is);
  distinct_items = items_apart;
  distinct_trees = trees_apart;
  limited = limited;
  first_form = λ is. refl;
  unfailed = λ is. refl;
  failed = (tt, (tt, (tt, (tt, tt))));
}

-- Item a is closed up to version 2.
closed_whole : (t k : ℕ) → updates four t ≡ true → is_up_to 2 (version_in t acts) ≡ true → touches four 0 (t, k) ≡ true
    → was_done t k acts ≡ true → is_whole_in four acts t ≡ true
closed_whole zero k up to touch done = refl
closed_whole (suc zero) k up to touch done = absurd (cc up)
closed_whole (suc (suc zero)) k up to touch done = refl
closed_whole (suc (suc (suc zero))) k up to touch done = absurd (cc up)
closed_whole (suc (suc (suc (suc t)))) k up to touch done = absurd (cc up)

closed_applied : (t k : ℕ) → is_strict_tree four t ≡ true → is_up_to 2 (version_in t acts) ≡ true → touches four 0 (t, k) ≡ true
    → was_decided_as t true acts ≡ true → was_applied t 0 acts ≡ true
closed_applied zero k strict to touch committed = absurd (cc strict)
closed_applied (suc zero) k strict to touch committed = refl
closed_applied (suc (suc zero)) k strict to touch committed = absurd (cc strict)
closed_applied (suc (suc (suc zero))) k strict to touch committed = refl
closed_applied (suc (suc (suc (suc t)))) k strict to touch committed = absurd (cc strict)

pub sample_closed : IsClosed four acts 0 0 2
sample_closed = record { whole = closed_whole; applied = closed_applied }

-- the law at this list
pub sample_worth : made_in four acts 0 0 2 ≡ worth_in four acts 0 2
sample_worth = made_is_worth four acts 0 0 2 four_valid sample_follows (item_at four 0 0 (row 97 (pos 10)) four_valid refl refl) sample_closed

-- Tree 3, of version 2, gets item b at its vote, before which its entry does no more than bear it. What b was worth
-- before the entry is the fold over the trees before tree 3 in the serial order.
born_quiet : (y : Place) → slice_get acts 12 ≡ Some y → is_quiet y.act ≡ true
born_quiet y is = let same : born 3 2 ≡ y = cc is in sym (ap (λ (z : Place). is_quiet z.act) same)

entry_quiet : AreQuiet acts 12 13
entry_quiet i y from below is = let one : i ≡ 12 = omega (arith, from, below) in born_quiet y (sym (ap (slice_get acts) one) ∙ is)

sample_vote : CommittedVote four acts 0 1 3 0 (record { 0 = 2 }) 13 14
sample_vote = record {
  rules = sample_follows;
  item = item_at four 0 1 (row 98 (pos 3)) four_valid refl refl;
  voted = record { act = (voted 3 (pos 4)).act; is = refl; passes = refl };
  on = record { index = 1; op = on 1 Get; is = refl; on = refl };
  home = 0;
  decided = record { act = (decided 3).act; is = refl; passes = refl };
  version = refl;
}

pub sample_gets : worth_in four (take 12 acts) 1 2 ≡ worth_after four 1 (0 ∷ 1 ∷ 2 ∷ [])
sample_gets = worth_before_entry four acts 0 1 3 0 (record { 0 = 2 }) 13 14 sample_vote four_valid 12 (omega arith) entry_quiet

pub worth_got : worth_in four (take 12 acts) 1 2 ≡ Sum (record { 0 = pos 4 })
worth_got = refl
