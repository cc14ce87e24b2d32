-- What is noted from the end of a history says what the definitions say.
use Rattle.std.proofs.Common.{◌≡◌, ℕ, zero, suc, ◌+◌, ◌-◌, ◌<◌, ◌≤◌, Bool, true, false, List, [], ◌∷◌, ◌++◌, length, drop, refl, ap, sym, ◌∙◌, slice_set, get_or, arith, subst}
use Rattle.std.specs.Prelude.{if◌then◌else◌, ◌==◌, ◌&&◌, ◌||◌, cond, filter, filter_map, map, reverse, Option, Some, None, is_some, replicate, slice_get}
use Rattle.std.specs.List.{AllByRecursion, cons_option}
use Rattle.std.specs.Option.{option_map, option_or}
use Rattle.std.proofs.lemmas.Bool.Decides.{nat_tests}
use Rattle.std.proofs.lemmas.List.{get_or-replicate, length-replicate, length-set, reverse-append}
use Rattle.std.proofs.lemmas.Bool.{and_left}
use Rattle.std.proofs.Math.Bool.{and-false, or-false}
use Rattle.std.proofs.lemmas.Option.{cond_some, get_or_from_slice_get}
use Rattle.tv_base.specs.declared.numbers.ItemNo.{ItemNo}
use Rattle.tv_base.specs.declared.numbers.SubNo.{SubNo}
use Rattle.tv_base.specs.declared.numbers.TreeNo.{TreeNo}
use Rattle.tv_base.specs.declared.numbers.Version.{Version}
use Rattle.tv_base.proofs.Truths.{left_true, or_none}
use Rattle.commute_ops.specs.declared.value.Value.{Value}
use Rattle.letter_types.specs.declared.acts.Act.{Act}
use Rattle.letter_types.specs.declared.acts.Act.TheVariants.{Born, Did, Turned, Showed, Swept, Finished, Waits, Parked, Voted, Freed, Decided, Applied}
use Rattle.letter_types.specs.declared.entries.Entry.{Entry}
use Rattle.tx_trees.proofs.SubsOf.{few_nodes}
use Rattle.tx_trees.specs.ScriptData.{ScriptData, is_strict, is_update, updates}
use Rattle.tx_trees.specs.Valid.{AreSubs, IsTree, IsValid}
use Rattle.tx_trees.specs.declared.parts.ItemRow.{ItemRow}
use Rattle.tx_trees.specs.declared.parts.Sub.{Sub}
use Rattle.tx_trees.specs.declared.parts.Tree.{Tree}
use Rattle.tx_trees.specs.declared.parts.TreeKind.{TreeKind}
use Rattle.tx_trees.specs.declared.parts.TreeKind.TheVariants.{Update, Read, Strict}
use Rattle.board_model.specs.declared.serial.Member.{Member}
use Rattle.board_model.specs.declared.standings.Standing.{Standing}
use Rattle.board_model.specs.declared.tallies.Tally.{Tally}
use Rattle.board_model.specs.inside.Closed.{Closed, closed_after_act, none_closed, with_tree_closed}
use Rattle.board_model.specs.inside.Closed.{closed_back}
use Rattle.board_rules.specs.Histories.{Place, all_applied, all_done, applies, born_as, decides_as, does, is_strict_tree, is_complete, places_at, places_of, version_in, version_of, was_applied, was_decided_as, was_done}
use Rattle.board_rules.specs.Serial.{commits_by, commit_order, is_in, is_member, takes_effect, is_version, members, with_closed}
use Rattle.board_model.specs.SerialList.{is_of_version, trees_of_members}
use Rattle.board_model.specs.inside.SerialList.{counted_at, counts_by, found_back, member_of, with_version}
use Rattle.board_model.specs.Standings.{standing_of, standings_from, standings_of}
use Rattle.board_model.specs.inside.Tallies.{all_marked, all_met, blank, is_through_by, tallies_with_act, noted_back, on_row, standing_by, stood_by, with_applied, with_born, with_decided, with_sub_done}
use Rattle.board_model.proofs.Walk.{opened}

pub noted_back-append : (a b : List Place) (rows : List Tally) → noted_back (a ++ b) rows ≡ noted_back a (noted_back b rows)
noted_back-append [] b rows = refl
noted_back-append (x ∷ a) b rows = ap (λ (z : List Tally). tallies_with_act x.node x.act z) (noted_back-append a b rows)

pub closed_back-append : (s : ScriptData) (a b : List Place) (c : Closed) → closed_back s (a ++ b) c ≡ closed_back s a (closed_back s b c)
closed_back-append s [] b c = refl
closed_back-append s (x ∷ a) b c = ap (λ (z : Closed). closed_after_act s x.act z) (closed_back-append s a b c)

-- one entry more from the end
pub entry_back : (es : List Entry) (n k : ℕ) (e : Entry) → n ≡ length es → k < n → slice_get es (n - 1 - k) ≡ Some e
    → places_of (drop (n - (k + 1)) es) ≡ places_at e ++ places_of (drop (n - k) es)
entry_back es n k e len small is =
    let at : n - (k + 1) ≡ n - 1 - k = omega arith in
    let next : n - 1 - k + 1 ≡ n - k = omega arith in
    ap (λ (i : ℕ). places_of (drop i es)) at
    ∙ opened (λ (z : List Entry). places_of z) es (n - 1 - k) e (omega arith) (sym (get_or_from_slice_get es (n - 1 - k) e e is))
    ∙ ap (λ (i : ℕ). places_at e ++ places_of (drop i es)) next

-- what a row says of tree t
pub record Tells (t : ℕ) (xs : List Place) (row : Tally) : Type 0 where
  pub born : row.born ≡ version_in t xs
  pub many : length row.done ≡ 64
  pub done : (k : ℕ) → k < 64 → get_or row.done k false ≡ was_done t k xs
  pub nodes : length row.applied ≡ 64
  pub applied : (p : ℕ) → p < 64 → get_or row.applied p false ≡ was_applied t p xs
  pub committed : row.committed ≡ was_decided_as t true xs

-- the same of all rows, where the list begins with tree t
abbrev pub AllTell : ℕ → List Place → List Tally → Type 0
AllTell t xs [] = Unit {0}
AllTell t xs (row ∷ rows) = Tells t xs row × AllTell (t + 1) xs rows

abbrev Kept : List Place → Place → Type 0
Kept xs x = (t : ℕ) (row : Tally) → Tells t xs row → Tells t (x ∷ xs) row

abbrev KeptBut : ℕ → List Place → Place → Type 0
KeptBut u xs x = (t : ℕ) (row : Tally) → (u == t) ≡ false → Tells t xs row → Tells t (x ∷ xs) row

all_kept : (t : ℕ) (xs : List Place) (x : Place) (rows : List Tally) → Kept xs x → AllTell t xs rows → AllTell t (x ∷ xs) rows
all_kept t xs x [] keep h = tt
all_kept t xs x (row ∷ rows) keep h = (keep t row h.0, all_kept (t + 1) xs x rows keep h.1)

past_kept : (u t : ℕ) (xs : List Place) (x : Place) (rows : List Tally) → u < t → KeptBut u xs x → AllTell t xs rows → AllTell t (x ∷ xs) rows
past_kept u t xs x [] small keep h = tt
past_kept u t xs x (row ∷ rows) small keep h =
    let no : (u == t) ≡ false = grind (arith, nat_tests) in
    (keep t row no h.0, past_kept u (t + 1) xs x rows (omega arith) keep h.1)

-- one row changed
one_changed : (d u t : ℕ) (f : Tally → Tally) (xs : List Place) (x : Place) (rows : List Tally) → u ≡ t + d
    → ((row : Tally) → Tells u xs row → Tells u (x ∷ xs) (f row)) → KeptBut u xs x
    → AllTell t xs rows → AllTell t (x ∷ xs) (on_row d f rows)
one_changed d u t f xs x [] e change keep h = tt
one_changed zero u t f xs x (row ∷ rows) e change keep h =
    let same : t ≡ u = omega arith in
    (changed_at t same, past_kept u (t + 1) xs x rows (omega arith) keep h.1) where
      changed_at : (k : ℕ) → k ≡ u → Tells t (x ∷ xs) (f row)
      changed_at k e2 =
          let same : u ≡ t = omega arith in
          subst (λ (i : ℕ). Tells i (x ∷ xs) (f row)) same (change row (subst (λ (i : ℕ). Tells i xs row) (sym same) h.0))
one_changed (suc d) u t f xs x (row ∷ rows) e change keep h =
    let no : (u == t) ≡ false = grind (arith, nat_tests) in
    (keep t row no h.0, one_changed d u (t + 1) f xs x rows (omega arith) change keep h.1)

or_comm : (a b : Bool) → (a || b) ≡ (b || a)
or_comm true true = refl
or_comm true false = refl
or_comm false true = refl
or_comm false false = refl

get_set : (xs : List Bool) (j k : ℕ) → k < length xs → get_or (slice_set xs j true) k false ≡ ((j == k) || get_or xs k false)
get_set [] j k small = absurd (omega arith)
get_set (x ∷ xs) zero zero small = refl
get_set (x ∷ xs) zero (suc k) small =
    let no : (zero == suc k) ≡ false = grind (arith, nat_tests) in
    sym (ap (λ (b : Bool). b || get_or xs k false) no)
get_set (x ∷ xs) (suc j) zero small =
    let no : (suc j == zero) ≡ false = grind (arith, nat_tests) in
    sym (ap (λ (b : Bool). b || x) no)
get_set (x ∷ xs) (suc j) (suc k) small =
    let same : (j == k) ≡ (suc j == suc k) = grind (arith, nat_tests) in
    get_set xs j k (omega arith) ∙ ap (λ (b : Bool). b || get_or xs k false) same

born_told : (t : ℕ) (v : Version) (p : ℕ) (u : TreeNo) (xs : List Place) (row : Tally) → u.0 ≡ t → Tells t xs row
    → Tells t (record { node = p; act = Born u v } ∷ xs) (with_born v row)
born_told t v p u xs row e h =
    let yes : (u.0 == t) ≡ true = grind (arith, nat_tests) in
    record {
      born = sym (ap (λ (b : Bool). option_or (if b then Some v else None) (version_in t xs)) yes);
      many = h.many;
      done = h.done;
      nodes = h.nodes;
      applied = λ (q : ℕ) small. h.applied q small ∙ or_none (p == q) (was_applied t q xs);
      committed = h.committed;
    }

and_true : (b : Bool) → b ≡ (b && true)
and_true true = refl
and_true false = refl

-- an act that says nothing of tree t
untouched : (t : ℕ) (x : Place) (xs : List Place) (row : Tally) → born_as t x.act ≡ None → ((k : ℕ) → does t k x.act ≡ false)
    → decides_as t true x.act ≡ false → applies t x.act ≡ false → Tells t xs row → Tells t (x ∷ xs) row
untouched t x xs row bears did committed applied h =
    record {
      born = h.born ∙ sym (ap (λ (o : Option Version). option_or o (version_in t xs)) bears);
      many = h.many;
      done = λ (k : ℕ) small. h.done k small ∙ sym (ap (λ (b : Bool). b || was_done t k xs) (did k));
      nodes = h.nodes;
      applied = λ (q : ℕ) small.
          h.applied q small ∙ or_none (x.node == q) (was_applied t q xs)
          ∙ sym (ap (λ (b : Bool). ((x.node == q) && b) || was_applied t q xs) applied);
      committed = h.committed ∙ sym (ap (λ (b : Bool). b || was_decided_as t true xs) committed);
    }

did_told : (t p : ℕ) (u : TreeNo) (j : SubNo) (vs : List (ItemNo × Value)) (xs : List Place) (row : Tally) → u.0 ≡ t → Tells t xs row
    → Tells t (record { node = p; act = Did u j vs } ∷ xs) (with_sub_done j.0 row)
did_told t p u j vs xs row e h =
    let yes : (u.0 == t) ≡ true = grind (arith, nat_tests) in
    record {
      born = h.born;
      many = length-set row.done j.0 true ∙ h.many;
      done = λ (k : ℕ) small.
          get_set row.done j.0 k (omega (arith, h.many))
          ∙ ap (λ (b : Bool). (j.0 == k) || b) (h.done k small)
          ∙ sym (ap (λ (b : Bool). (b && (j.0 == k)) || was_done t k xs) yes);
      nodes = h.nodes;
      applied = λ (q : ℕ) small. h.applied q small ∙ or_none (p == q) (was_applied t q xs);
      committed = h.committed;
    }

decided_told : (t p : ℕ) (u : TreeNo) (commit : Bool) (xs : List Place) (row : Tally) → u.0 ≡ t → Tells t xs row
    → Tells t (record { node = p; act = Decided u commit } ∷ xs) (with_decided commit row)
decided_told t p u commit xs row e h =
    let yes : (u.0 == t) ≡ true = grind (arith, nat_tests) in
    record {
      born = h.born;
      many = h.many;
      done = h.done;
      nodes = h.nodes;
      applied = λ (q : ℕ) small. h.applied q small ∙ or_none (p == q) (was_applied t q xs);
      committed =
          ap (λ (b : Bool). commit || b) h.committed
          ∙ sym (ap (λ (b : Bool). (b && commit) || was_decided_as t true xs) yes);
    }

applied_told : (t p : ℕ) (u : TreeNo) (commit : Bool) (xs : List Place) (row : Tally) → u.0 ≡ t → Tells t xs row
    → Tells t (record { node = p; act = Applied u commit } ∷ xs) (with_applied p row)
applied_told t p u commit xs row e h =
    let yes : (u.0 == t) ≡ true = grind (arith, nat_tests) in
    record {
      born = h.born;
      many = h.many;
      done = h.done;
      nodes = length-set row.applied p true ∙ h.nodes;
      applied = λ (q : ℕ) small.
          get_set row.applied p q (omega (arith, h.nodes))
          ∙ ap (λ (b : Bool). (p == q) || b) (h.applied q small)
          ∙ ap (λ (b : Bool). b || was_applied t q xs) (and_true (p == q))
          ∙ sym (ap (λ (b : Bool). ((p == q) && b) || was_applied t q xs) yes);
      committed = h.committed;
    }

not_born : (b : Bool) (v : Version) → b ≡ false → (if b then Some v else None) ≡ None
not_born b v e = cc

-- the rows after one act more from the end
noted_tells : (p : ℕ) (a : Act) (xs : List Place) (rows : List Tally) → AllTell 0 xs rows
    → AllTell 0 (record { node = p; act = a } ∷ xs) (tallies_with_act p a rows)
noted_tells p (Born u v) xs rows h =
    let x : Place = record { node = p; act = Born u v } in
    one_changed u.0 u.0 0 (with_born v) xs x rows (omega arith) (λ (row : Tally) told. born_told u.0 v p u xs row refl told)
    (λ (t : ℕ) (row : Tally) no told. untouched t x xs row (not_born (u.0 == t) v no) (λ (k : ℕ). refl) refl refl told) h
noted_tells p (Did u j vs) xs rows h =
    let x : Place = record { node = p; act = Did u j vs } in
    one_changed u.0 u.0 0 (with_sub_done j.0) xs x rows (omega arith) (λ (row : Tally) told. did_told u.0 p u j vs xs row refl told)
    (λ (t : ℕ) (row : Tally) no told. untouched t x xs row refl (λ (k : ℕ). and_left (u.0 == t) (j.0 == k) no) refl refl told) h
noted_tells p (Decided u commit) xs rows h =
    let x : Place = record { node = p; act = Decided u commit } in
    one_changed u.0 u.0 0 (with_decided commit) xs x rows (omega arith) (λ (row : Tally) told. decided_told u.0 p u commit xs row refl told)
    (λ (t : ℕ) (row : Tally) no told. untouched t x xs row refl (λ (k : ℕ). refl) (and_left (u.0 == t) commit no) refl told) h
noted_tells p (Applied u commit) xs rows h =
    let x : Place = record { node = p; act = Applied u commit } in
    one_changed u.0 u.0 0 (with_applied p) xs x rows (omega arith) (λ (row : Tally) told. applied_told u.0 p u commit xs row refl told)
    (λ (t : ℕ) (row : Tally) no told. untouched t x xs row refl (λ (k : ℕ). refl) refl no told) h
noted_tells p Finished xs rows h =
    all_kept 0 xs (record { node = p; act = Finished }) rows (λ (t : ℕ) (row : Tally) told. untouched t (record { node = p; act = Finished }) xs row refl (λ (k : ℕ). refl) refl refl told) h
noted_tells p (Turned v) xs rows h =
    all_kept 0 xs (record { node = p; act = Turned v }) rows (λ (t : ℕ) (row : Tally) told. untouched t (record { node = p; act = Turned v }) xs row refl (λ (k : ℕ). refl) refl refl told) h
noted_tells p (Showed v) xs rows h =
    all_kept 0 xs (record { node = p; act = Showed v }) rows (λ (t : ℕ) (row : Tally) told. untouched t (record { node = p; act = Showed v }) xs row refl (λ (k : ℕ). refl) refl refl told) h
noted_tells p (Swept v) xs rows h =
    all_kept 0 xs (record { node = p; act = Swept v }) rows (λ (t : ℕ) (row : Tally) told. untouched t (record { node = p; act = Swept v }) xs row refl (λ (k : ℕ). refl) refl refl told) h
noted_tells p (Waits u a b) xs rows h =
    all_kept 0 xs (record { node = p; act = Waits u a b }) rows (λ (t : ℕ) (row : Tally) told. untouched t (record { node = p; act = Waits u a b }) xs row refl (λ (k : ℕ). refl) refl refl told) h
noted_tells p (Parked u a b c) xs rows h =
    all_kept 0 xs (record { node = p; act = Parked u a b c }) rows (λ (t : ℕ) (row : Tally) told. untouched t (record { node = p; act = Parked u a b c }) xs row refl (λ (k : ℕ). refl) refl refl told) h
noted_tells p (Voted u a b) xs rows h =
    all_kept 0 xs (record { node = p; act = Voted u a b }) rows (λ (t : ℕ) (row : Tally) told. untouched t (record { node = p; act = Voted u a b }) xs row refl (λ (k : ℕ). refl) refl refl told) h
noted_tells p (Freed u) xs rows h =
    all_kept 0 xs (record { node = p; act = Freed u }) rows (λ (t : ℕ) (row : Tally) told. untouched t (record { node = p; act = Freed u }) xs row refl (λ (k : ℕ). refl) refl refl told) h

blank_tells : (t n : ℕ) → AllTell t [] (replicate n blank)
blank_tells t zero = tt
blank_tells t (suc n) = (
  record {
    born = refl;
    many = length-replicate 64 false;
    done = λ (k : ℕ) small. get_or-replicate 64 k false false small;
    nodes = length-replicate 64 false;
    applied = λ (p : ℕ) small. get_or-replicate 64 p false false small;
    committed = refl;
  },
  blank_tells (t + 1) n,
)

all_told : (n : ℕ) (xs : List Place) → AllTell 0 xs (noted_back xs (replicate n blank))
all_told n [] = blank_tells 0 n
all_told n (x ∷ xs) = noted_tells x.node x.act xs (noted_back xs (replicate n blank)) (all_told n xs)

length-on_row : (t : ℕ) (f : Tally → Tally) (rows : List Tally) → length (on_row t f rows) ≡ length rows
length-on_row t f [] = refl
length-on_row zero f (row ∷ rows) = refl
length-on_row (suc t) f (row ∷ rows) = let rest = length-on_row t f rows in grind arith

length-noted : (p : ℕ) (a : Act) (rows : List Tally) → length (tallies_with_act p a rows) ≡ length rows
length-noted p (Born u v) rows = length-on_row u.0 (with_born v) rows
length-noted p (Did u j vs) rows = length-on_row u.0 (with_sub_done j.0) rows
length-noted p (Decided u commit) rows = length-on_row u.0 (with_decided commit) rows
length-noted p (Applied u commit) rows = length-on_row u.0 (with_applied p) rows
length-noted p Finished rows = refl
length-noted p (Turned v) rows = refl
length-noted p (Showed v) rows = refl
length-noted p (Swept v) rows = refl
length-noted p (Waits u a b) rows = refl
length-noted p (Parked u a b c) rows = refl
length-noted p (Voted u a b) rows = refl
length-noted p (Freed u) rows = refl

pub length-noted_back : (xs : List Place) (n : ℕ) → length (noted_back xs (replicate n blank)) ≡ n
length-noted_back [] n = length-replicate n blank
length-noted_back (x ∷ xs) n = length-noted x.node x.act (noted_back xs (replicate n blank)) ∙ length-noted_back xs n

marked : (t n : ℕ) (xs : List Place) (row : Tally) → n ≤ 64 → Tells t xs row → all_marked n row.done ≡ all_done t n xs
marked t zero xs row small h = refl
marked t (suc n) xs row small h =
    ap (λ (b : Bool). b && get_or row.done n false) (marked t n xs row (omega arith) h)
    ∙ ap (λ (b : Bool). all_done t n xs && b) (h.done n (omega arith))

met : (t nodes : ℕ) (items : List ItemRow) (kind : TreeKind) (k : ℕ) (ks : List Sub) (xs : List Place) (row : Tally) → nodes ≤ 64
    → AreSubs nodes items kind k ks → Tells t xs row → all_met ks row.applied ≡ all_applied t ks xs
met t nodes items kind k [] xs row few all h = refl
met t nodes items kind k (one ∷ ks) xs row few all h =
    let node : one.node.0 < nodes = all.0.node in
    ap (λ (b : Bool). b && all_met ks row.applied) (h.applied one.node.0 (omega arith))
    ∙ ap (λ (b : Bool). was_applied t one.node.0 xs && b) (met t nodes items kind (k + 1) ks xs row few all.1 h)

by_kind : (t nodes : ℕ) (items : List ItemRow) (kind : TreeKind) (ks : List Sub) (xs : List Place) (row : Tally) → nodes ≤ 64
    → length ks ≤ 64 → AreSubs nodes items kind 0 ks → Tells t xs row
    → is_through_by kind ks row ≡ (if is_strict kind then all_applied t ks xs else all_done t (length ks) xs)
by_kind t nodes items Update ks xs row few small all h = marked t (length ks) xs row small h
by_kind t nodes items Read ks xs row few small all h = marked t (length ks) xs row small h
by_kind t nodes items Strict ks xs row few small all h = met t nodes items Strict 0 ks xs row few all h

-- what a row says of its tree is what the history says
standing_is : (s : ScriptData) (h : List Entry) (t : ℕ) (tree : Tree) (row : Tally) → s.nodes ≤ 64 → IsTree s.nodes s.items tree
    → slice_get s.trees t ≡ Some tree → Tells t (places_of h) row → standing_by tree row ≡ standing_of s h t
standing_is s h t tree row few is here told =
    let xs : List Place = places_of h in
    let P : Option Tree → Type 0 = λ (o : Option Tree). is_through_by tree.kind tree.subs row
    ≡ (if elim o as (λ (z : Option Tree). Bool) [ Some one ↦ is_strict one.kind | None ↦ false ]
    then all_applied t (elim o as (λ (z : Option Tree). List Sub) [ Some one ↦ one.subs | None ↦ [] ]) xs
    else all_done t (length {A = Sub} (elim o as (λ (z : Option Tree). List Sub) [ Some one ↦ one.subs | None ↦ [] ])) xs) in
    let through : is_through_by tree.kind tree.subs row ≡ is_complete s xs t
    = subst P (sym here) (by_kind t s.nodes s.items tree.kind tree.subs xs row few is.few is.subs told) in
    let make : Option Version → Bool → Bool → Standing = λ (o : Option Version) (b c : Bool). record { born = o; whole = is_some o && b; committed = c } in
    ap (λ (o : Option Version). make o (is_through_by tree.kind tree.subs row) row.committed) told.born
    ∙ ap (λ (b : Bool). make (version_of h t) b row.committed) through
    ∙ ap (λ (c : Bool). make (version_of h t) (is_complete s xs t) c) told.committed

-- the second list is in the first from place t on
abbrev IsFrom : List Tree → ℕ → List Tree → Type 0
IsFrom all t ts = (i : ℕ) → slice_get all (t + i) ≡ slice_get ts i

stood_from : (s : ScriptData) (h : List Entry) (t : ℕ) (ts : List Tree) (rows : List Tally) → s.nodes ≤ 64
    → AllByRecursion (IsTree s.nodes s.items) ts → IsFrom s.trees t ts → length rows ≡ length ts → AllTell t (places_of h) rows
    → stood_by rows ts ≡ standings_from s h t ts
stood_from s h t [] [] few all from len told = refl
stood_from s h t [] (row ∷ rows) few all from len told = absurd (omega arith)
stood_from s h t (tree ∷ ts) [] few all from len told = absurd (omega arith)
stood_from s h t (tree ∷ ts) (row ∷ rows) few all from len told =
    let zero_at : t ≡ t + 0 = omega arith in
    let here : slice_get s.trees t ≡ Some tree = ap (λ (k : ℕ). slice_get s.trees k) zero_at ∙ from 0 in
    let next : IsFrom s.trees (t + 1) ts = λ (i : ℕ). ap (λ (k : ℕ). slice_get s.trees k) (further t i) ∙ from (suc i) in
    ap (λ (z : Standing). z ∷ stood_by rows ts) (standing_is s h t tree row few all.0 here told.0)
    ∙ ap (λ (z : List Standing). standing_of s h t ∷ z) (stood_from s h (t + 1) ts rows few all.1 next (omega arith) told.1) where
      further : (t i : ℕ) → t + 1 + i ≡ t + suc i
      further t i = omega arith

-- what the pass says of the trees
pub stood_all : (s : ScriptData) (h : List Entry) → IsValid s
    → stood_by (noted_back (places_of h) (replicate (length s.trees) blank)) s.trees ≡ standings_of s h
stood_all s h valid =
    stood_from s h 0 s.trees (noted_back (places_of h) (replicate (length s.trees) blank)) (few_nodes s valid) valid.trees
    (λ (i : ℕ). ap (λ (k : ℕ). slice_get s.trees k) (from_zero i)) (length-noted_back (places_of h) (length s.trees))
    (all_told (length s.trees) (places_of h)) where
      from_zero : (i : ℕ) → 0 + i ≡ i
      from_zero i = omega arith

-- the tree of this number
abbrev the_tree : ℕ → TreeNo
the_tree t = record { 0 = t }

abbrev after_close : Option ℕ → Closed → Closed
after_close None c = c
after_close (Some t) c = with_tree_closed (the_tree t) c

choice_close : (b : Bool) (t : ℕ) (c : Closed) → (if b then with_tree_closed (the_tree t) c else c) ≡ after_close (if b then Some t else None) c
choice_close true t c = refl
choice_close false t c = refl

act_closes : (s : ScriptData) (a : Act) (c : Closed) → closed_after_act s a c ≡ after_close (commits_by s a) c
act_closes s (Did t k vs) c = choice_close (updates s t.0) t.0 c
act_closes s (Decided t commit) c = choice_close (is_strict_tree s t.0 && commit) t.0 c
act_closes s (Born u v) c = refl
act_closes s (Applied u commit) c = refl
act_closes s Finished c = refl
act_closes s (Turned v) c = refl
act_closes s (Showed v) c = refl
act_closes s (Swept v) c = refl
act_closes s (Waits u a b) c = refl
act_closes s (Parked u a b d) c = refl
act_closes s (Voted u a b) c = refl
act_closes s (Freed u) c = refl

-- the marks and the order are those of these trees
record Keeps (n : ℕ) (ts : List ℕ) (c : Closed) : Type 0 where
  count : length c.marks ≡ n
  marks : (t : ℕ) → t < n → get_or c.marks t false ≡ is_in t ts
  order : reverse c.order ≡ map the_tree ts

keeps_close : (n : ℕ) (o : Option ℕ) (ts : List ℕ) (c : Closed) → ((t : ℕ) → o ≡ Some t → t < n) → Keeps n ts c
    → Keeps n (with_closed o ts) (after_close o c)
keeps_close n None ts c small h = h
keeps_close n (Some t) ts c small h = by (is_in t ts) refl where
  out : Keeps n (t ∷ ts) (record { marks = slice_set c.marks t true; order = c.order ++ the_tree t ∷ [] })
  out = record {
    count = length-set c.marks t true ∙ h.count;
    marks = λ (u : ℕ) lt. get_set c.marks t u (omega (arith, h.count)) ∙ ap (λ (b : Bool). (t == u) || b) (h.marks u lt);
    order = reverse-append c.order (the_tree t ∷ []) ∙ ap (λ (z : List TreeNo). the_tree t ∷ z) h.order;
  }

  by : (b : Bool) → is_in t ts ≡ b → Keeps n (if is_in t ts then ts else t ∷ ts)
      (if get_or c.marks t false then c else record { marks = slice_set c.marks t true; order = c.order ++ the_tree t ∷ [] })
  by true e =
      let mark : get_or c.marks t false ≡ true = h.marks t (small t refl) ∙ e in
      rw (e, mark) h
  by false e =
      let mark : get_or c.marks t false ≡ false = h.marks t (small t refl) ∙ e in
      rw (e, mark) out

tree_there : (ts : List Tree) (t : ℕ) (f : Tree → Bool) → (elim (slice_get ts t) [ Some tree ↦ f tree | None ↦ false ]) ≡ true → t < length ts
tree_there [] t f e = absurd (cc e)
tree_there (tree ∷ ts) zero f e = omega arith
tree_there (tree ∷ ts) (suc t) f e = omega (arith, tree_there ts t f e)

closes_small : (s : ScriptData) (a : Act) (t : ℕ) → commits_by s a ≡ Some t → t < length s.trees
closes_small s (Did u k vs) t e =
    let c = cond_some (updates s u.0) u.0 t e in
    let small = tree_there s.trees u.0 (λ (tree : Tree). is_update tree.kind) c.0 in
    omega (arith, small, c.1)
closes_small s (Decided u commit) t e =
    let c = cond_some (is_strict_tree s u.0 && commit) u.0 t e in
    let small = tree_there s.trees u.0 (λ (tree : Tree). is_strict tree.kind) (left_true (is_strict_tree s u.0) commit c.0) in
    omega (arith, small, c.1)
closes_small s (Born u v) t e = absurd (cc e)
closes_small s (Applied u commit) t e = absurd (cc e)
closes_small s Finished t e = absurd (cc e)
closes_small s (Turned v) t e = absurd (cc e)
closes_small s (Showed v) t e = absurd (cc e)
closes_small s (Swept v) t e = absurd (cc e)
closes_small s (Waits u a b) t e = absurd (cc e)
closes_small s (Parked u a b d) t e = absurd (cc e)
closes_small s (Voted u a b) t e = absurd (cc e)
closes_small s (Freed u) t e = absurd (cc e)

all_kept_closed : (s : ScriptData) (xs : List Place)
    → Keeps (length s.trees) (commit_order s xs) (closed_back s xs (none_closed (length s.trees)))
all_kept_closed s [] = record {
  count = length-replicate (length s.trees) false;
  marks = λ (t : ℕ) lt. get_or-replicate (length s.trees) t false false lt;
  order = refl;
}
all_kept_closed s (x ∷ xs) =
    let n : ℕ = length s.trees in
    let c : Closed = closed_back s xs (none_closed n) in
    subst (λ (z : Closed). Keeps n (commit_order s (x ∷ xs)) z) (sym (act_closes s x.act c))
    (keeps_close n (commits_by s x.act) (commit_order s xs) c (closes_small s x.act) (all_kept_closed s xs))

-- the standing of tree k + i
standing_get : (s : ScriptData) (h : List Entry) (k : ℕ) (ts : List Tree) (i : ℕ)
    → slice_get (standings_from s h k ts) i ≡ option_map (λ (tree : Tree). standing_of s h (k + i)) (slice_get ts i)
standing_get s h k [] i = refl
standing_get s h k (tree ∷ ts) zero = let e : k ≡ k + 0 = omega arith in ap (λ (n : ℕ). Some (standing_of s h n)) e
standing_get s h k (tree ∷ ts) (suc i) =
    let e : k + 1 + i ≡ k + suc i = omega arith in
    standing_get s h (k + 1) ts i ∙ ap (λ (n : ℕ). option_map (λ (one : Tree). standing_of s h n) (slice_get ts i)) e

kind_settled : (kind : TreeKind) (st : Standing) → counts_by kind st ≡ ((is_update kind && st.whole) || (is_strict kind && st.committed))
kind_settled Update st = sym (or-false st.whole)
kind_settled Read st = refl
kind_settled Strict st = refl

settled_at : Option Tree → Standing → Bool
settled_at o st = (elim o [ Some tree ↦ is_update tree.kind | None ↦ false ] && st.whole) || (elim o [ Some tree ↦ is_strict tree.kind | None ↦ false ] && st.committed)

member_at : (o : Option Tree) (st : Standing) (t : TreeNo)
    → counted_at o (option_map (λ (tree : Tree). st) o) t ≡ (if settled_at o st then with_version st.born t else None)
unfolding settled_at
member_at None st t = refl
member_at (Some tree) st t = ap (λ (b : Bool). if b then with_version st.born t else None) (kind_settled tree.kind st)

member_is : (s : ScriptData) (h : List Entry) (t : ℕ)
    → member_of s.trees (standings_of s h) (the_tree t) ≡ (if takes_effect s h t then with_version (version_of h t) (the_tree t) else None)
unfolding settled_at
member_is s h t =
    let e : 0 + t ≡ t = omega arith in
    ap (λ (o : Option Standing). counted_at (slice_get s.trees t) o (the_tree t))
    (standing_get s h 0 s.trees t ∙ ap (λ (n : ℕ). option_map (λ (tree : Tree). standing_of s h n) (slice_get s.trees t)) e)
    ∙ member_at (slice_get s.trees t) (standing_of s h t) (the_tree t)

trees_choice : (b : Bool) (m : Member) (ms : List Member) → trees_of_members (cond b (m ∷ ms) ms) ≡ cond b (m.tree.0 ∷ trees_of_members ms) (trees_of_members ms)
trees_choice true m ms = refl
trees_choice false m ms = refl

one_member : (v t : ℕ) (o : Option Version) (b : Bool) (ms : List Member)
    → trees_of_members (filter (is_of_version v) (cons_option (if b then with_version o (the_tree t) else None) ms))
    ≡ cond (is_version v o && b) (t ∷ trees_of_members (filter (is_of_version v) ms)) (trees_of_members (filter (is_of_version v) ms))
one_member v t o false ms =
    let rest : List ℕ = trees_of_members (filter (is_of_version v) ms) in
    sym (ap (λ (c : Bool). cond c (t ∷ rest) rest) (and-false (is_version v o)))
one_member v t None true ms = refl
one_member v t (Some w) true ms =
    let f : List Member = filter (is_of_version v) ms in
    trees_choice (w.0 == v) (record { version = w; tree = the_tree t }) f
    ∙ ap (λ (c : Bool). cond c (t ∷ trees_of_members f) (trees_of_members f)) (and_true (w.0 == v))

members_from : (s : ScriptData) (h : List Entry) (v : ℕ) (ts : List ℕ)
    → trees_of_members (filter (is_of_version v) (filter_map (member_of s.trees (standings_of s h)) (map the_tree ts))) ≡ filter (is_member s h v) ts
members_from s h v [] = refl
members_from s h v (t ∷ ts) =
    let f : TreeNo → Option Member = member_of s.trees (standings_of s h) in
    let rest : List Member = filter_map f (map the_tree ts) in
    ap (λ (o : Option Member). trees_of_members (filter (is_of_version v) (cons_option o rest))) (member_is s h t)
    ∙ one_member v t (version_of h t) (takes_effect s h t) rest
    ∙ ap (λ (z : List ℕ). cond (is_member s h v t) (t ∷ z) z) (members_from s h v ts)

-- the trees that were found, version by version
pub found_all : (s : ScriptData) (h : List Entry) (v : ℕ)
    → trees_of_members (filter (is_of_version v) (found_back s.trees (standings_of s h) (closed_back s (places_of h) (none_closed (length s.trees))).order))
    ≡ members s h v
found_all s h v =
    let kept = all_kept_closed s (places_of h) in
    ap (λ (z : List TreeNo). trees_of_members (filter (is_of_version v) (filter_map (member_of s.trees (standings_of s h)) z))) kept.order
    ∙ members_from s h v (commit_order s (places_of h))
