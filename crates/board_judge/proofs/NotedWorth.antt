-- The worth of an item is that of the deeds of the transactions that take effect, noted in order of closing; and one
-- act more notes the deeds of the transaction that it closes.
use Rattle.std.proofs.Common.{◌≡◌, ◌==◌, ◌&&◌, ℕ, zero, suc, Bool, true, false, List, [], ◌∷◌, ◌++◌, refl, sym, ap, ◌∙◌, append_assoc, append-nil, Option, Some, None}
use Rattle.std.specs.Prelude.{if◌then◌else◌, cond, filter, fold, slice_get, is_some}
use Rattle.std.specs.List.{AllByRecursion}
use Rattle.std.proofs.lemmas.List.Elements.{filter-append}
use Rattle.std.proofs.lemmas.List.Sums.{fold-append}
use Rattle.tv_base.specs.declared.numbers.Version.{Version}
use Rattle.commute_ops.specs.declared.value.Value.{Value}
use Rattle.script_parts.specs.Deeds.{after_deed}
use Rattle.script_parts.specs.ScriptData.{ScriptData, subs_at}
use Rattle.script_parts.specs.Valid.{IsValid}
use Rattle.script_parts.specs.declared.parts.Sub.{Sub}
use Rattle.script_parts.specs.declared.parts.SubOp.{SubOp}
use Rattle.board_rules.specs.ButCause.{IsMoveButCause}
use Rattle.board_rules.specs.Histories.{Place, version_in, version_or}
use Rattle.board_rules.specs.Serial.{commit_order, is_member_in, is_settled_in, is_version, members_in, serial_in}
use Rattle.board_rules.specs.Worth.{after_ops, after_subs, after_tree, first_value, worth_in}
use Rattle.board_rules.proofs.Places.{version_stays}
use Rattle.board_rules.proofs.ReadDids.{filter_same}
use Rattle.worth_steps.specs.Worth.{Noted, after_noted, in_order, noted_in, worth_of}
use Rattle.board_judge.specs.Notes.{noted_on, ops_noted, subs_noted, tree_noted, trees_noted}
use Rattle.board_judge.specs.Settled.{IsMoveRun, closes_in, settled_order}
use Rattle.board_judge.proofs.OneMore.{filter_twice, settled_born, settled_order_more, with_last}

-- Deeds noted in one version.
ops_in_version_by : (v u x : ℕ) (same : Bool) → (u == v) ≡ same → (os : List SubOp)
    → noted_in v (ops_noted u x os) ≡ (if same then ops_noted u x os else [])
ops_in_version_by v u x true is [] = refl
ops_in_version_by v u x false is [] = refl
ops_in_version_by v u x true is (o ∷ os) = here (o.item.0 == x) (ops_in_version_by v u x true is os) where
  here : (on : Bool) → noted_in v (ops_noted u x os) ≡ ops_noted u x os
      → noted_in v (if on then record { version = u; deed = o.deed } ∷ ops_noted u x os else ops_noted u x os)
      ≡ (if on then record { version = u; deed = o.deed } ∷ ops_noted u x os else ops_noted u x os)
  here true rest = rw is (ap (λ (ns : List Noted). record { version = u; deed = o.deed } ∷ ns) rest)
  here false rest = rest
ops_in_version_by v u x false is (o ∷ os) = here (o.item.0 == x) (ops_in_version_by v u x false is os) where
  here : (on : Bool) → noted_in v (ops_noted u x os) ≡ []
      → noted_in v (if on then record { version = u; deed = o.deed } ∷ ops_noted u x os else ops_noted u x os) ≡ []
  here true rest = rw is rest
  here false rest = rest

ops_in_version : (v u x : ℕ) (os : List SubOp) → noted_in v (ops_noted u x os) ≡ (if u == v then ops_noted u x os else [])
ops_in_version v u x os = ops_in_version_by v u x (u == v) refl os

both_in : (b : Bool) (ms ns : List Noted) → (if b then ms else []) ++ (if b then ns else []) ≡ (if b then ms ++ ns else [])
both_in true ms ns = refl
both_in false ms ns = refl

none_in : (b : Bool) (none : List Noted) → none ≡ [] → (if b then none else []) ≡ []
none_in true none is = is
none_in false none is = refl

subs_in_version : (v u x : ℕ) (subs : List Sub) → noted_in v (subs_noted u x subs) ≡ (if u == v then subs_noted u x subs else [])
subs_in_version v u x [] = sym (none_in (u == v) [] refl)
subs_in_version v u x (sub ∷ subs) =
    filter-append (λ (n : Noted). n.version == v) (ops_noted u x sub.ops) (subs_noted u x subs)
    ∙ ap (λ (ns : List Noted). ns ++ noted_in v (subs_noted u x subs)) (ops_in_version v u x sub.ops)
    ∙ ap (λ (ns : List Noted). (if u == v then ops_noted u x sub.ops else []) ++ ns) (subs_in_version v u x subs)
    ∙ both_in (u == v) (ops_noted u x sub.ops) (subs_noted u x subs)

-- the version in which a tree's deeds are noted is this one
abbrev in_version : List Place → ℕ → ℕ → Bool
in_version xs v t = version_or 0 (version_in t xs) == v

trees_in_version : (s : ScriptData) (xs : List Place) (v x : ℕ) (ts : List ℕ)
    → noted_in v (trees_noted s xs x ts) ≡ trees_noted s xs x (filter (in_version xs v) ts)
trees_in_version s xs v x [] = refl
trees_in_version s xs v x (t ∷ ts) =
    filter-append (λ (n : Noted). n.version == v) (tree_noted s xs x t) (trees_noted s xs x ts)
    ∙ ap (λ (ns : List Noted). ns ++ noted_in v (trees_noted s xs x ts)) (subs_in_version v (version_or 0 (version_in t xs)) x (subs_at s t))
    ∙ ap (λ (ns : List Noted). (if in_version xs v t then tree_noted s xs x t else []) ++ ns) (trees_in_version s xs v x ts)
    ∙ by (in_version xs v t) where
      by : (b : Bool) → (if b then tree_noted s xs x t else []) ++ trees_noted s xs x (filter (in_version xs v) ts)
          ≡ trees_noted s xs x (cond b (t ∷ filter (in_version xs v) ts) (filter (in_version xs v) ts))
      by true = refl
      by false = refl

noted-append : (s : ScriptData) (xs : List Place) (x : ℕ) (ts us : List ℕ)
    → trees_noted s xs x (ts ++ us) ≡ trees_noted s xs x ts ++ trees_noted s xs x us
noted-append s xs x [] us = refl
noted-append s xs x (t ∷ ts) us =
    ap (λ (ns : List Noted). tree_noted s xs x t ++ ns) (noted-append s xs x ts us)
    ∙ sym (append_assoc (tree_noted s xs x t) (trees_noted s xs x ts) (trees_noted s xs x us))

-- The members of a version.
version_there : (v : ℕ) (o : Option Version) → is_some o ≡ true → (version_or 0 o == v) ≡ is_version v o
version_there v None is = absurd (cc is)
version_there v (Some w) is = refl

members_noted : (s : ScriptData) (xs : List Place) (v : ℕ) → IsValid s → IsMoveRun s xs
    → filter (in_version xs v) (settled_order s xs) ≡ members_in s xs v
members_noted s xs v valid run =
    filter_twice (in_version xs v) (is_settled_in s xs) (commit_order s xs)
    ∙ filter_same (λ (t : ℕ). is_settled_in s xs t && in_version xs v t) (is_member_in s xs v) (commit_order s xs)
    (λ t. by t (is_settled_in s xs t) refl) where
      and_last : (b : Bool) → (b && true) ≡ b
      and_last true = refl
      and_last false = refl

      and_none : (b : Bool) → (b && false) ≡ false
      and_none true = refl
      and_none false = refl

      by : (t : ℕ) (settled : Bool) → is_settled_in s xs t ≡ settled → (settled && in_version xs v t) ≡ (is_version v (version_in t xs) && settled)
      by t true is = version_there v (version_in t xs) (settled_born s xs t valid run is) ∙ sym (and_last (is_version v (version_in t xs)))
      by t false is = sym (and_none (is_version v (version_in t xs)))

in_serial_order : (s : ScriptData) (xs : List Place) (x : ℕ) → IsValid s → IsMoveRun s xs → (v : ℕ)
    → in_order (noted_on s xs x) v ≡ trees_noted s xs x (serial_in s xs v)
in_serial_order s xs x valid run zero =
    trees_in_version s xs 0 x (settled_order s xs) ∙ ap (trees_noted s xs x) (members_noted s xs 0 valid run)
in_serial_order s xs x valid run (suc v) =
    ap (λ (ns : List Noted). ns ++ noted_in (suc v) (noted_on s xs x)) (in_serial_order s xs x valid run v)
    ∙ ap (λ (ns : List Noted). trees_noted s xs x (serial_in s xs v) ++ ns)
    (trees_in_version s xs (suc v) x (settled_order s xs) ∙ ap (trees_noted s xs x) (members_noted s xs (suc v) valid run))
    ∙ sym (noted-append s xs x (serial_in s xs v) (members_in s xs (suc v)))

-- What the deeds make.
after_ops_noted : (v x : ℕ) (os : List SubOp) (w : Value) → fold after_noted w (ops_noted v x os) ≡ after_ops x os w
after_ops_noted v x [] w = refl
after_ops_noted v x (o ∷ os) w = by (o.item.0 == x) (after_ops_noted v x os) where
  by : (on : Bool) → ((z : Value) → fold after_noted z (ops_noted v x os) ≡ after_ops x os z)
      → fold after_noted w (if on then record { version = v; deed = o.deed } ∷ ops_noted v x os else ops_noted v x os)
      ≡ after_ops x os (if on then after_deed o.deed w else w)
  by true rest = rest (after_deed o.deed w)
  by false rest = rest w

after_subs_noted : (v x : ℕ) (subs : List Sub) (w : Value) → fold after_noted w (subs_noted v x subs) ≡ after_subs x subs w
after_subs_noted v x [] w = refl
after_subs_noted v x (sub ∷ subs) w =
    fold-append after_noted w (ops_noted v x sub.ops) (subs_noted v x subs)
    ∙ ap (λ (z : Value). fold after_noted z (subs_noted v x subs)) (after_ops_noted v x sub.ops w)
    ∙ after_subs_noted v x subs (after_ops x sub.ops w)

after_trees_noted : (s : ScriptData) (xs : List Place) (x : ℕ) (ts : List ℕ) (w : Value)
    → fold after_noted w (trees_noted s xs x ts) ≡ fold (after_tree s x) w ts
after_trees_noted s xs x [] w = refl
after_trees_noted s xs x (t ∷ ts) w =
    fold-append after_noted w (tree_noted s xs x t) (trees_noted s xs x ts)
    ∙ ap (λ (z : Value). fold after_noted z (trees_noted s xs x ts)) (after_subs_noted (version_or 0 (version_in t xs)) x (subs_at s t) w)
    ∙ after_trees_noted s xs x ts (after_tree s x w t)

-- so they make the worth
pub noted_is_worth : (s : ScriptData) (xs : List Place) (x v : ℕ) → IsValid s → IsMoveRun s xs
    → worth_of (first_value (slice_get s.items x)) (noted_on s xs x) v ≡ worth_in s xs x v
noted_is_worth s xs x v valid run =
    ap (fold after_noted (first_value (slice_get s.items x))) (in_serial_order s xs x valid run v)
    ∙ after_trees_noted s xs x (serial_in s xs v) (first_value (slice_get s.items x))

-- One act more.
each_passes : (P : ℕ → Type 0) (test : ℕ → Bool) (ts : List ℕ) → ((t : ℕ) → test t ≡ true → P t) → AllByRecursion P (filter test ts)
each_passes P test [] all = tt
each_passes P test (t ∷ ts) all = by (test t) refl (each_passes P test ts all) where
  by : (b : Bool) → test t ≡ b → AllByRecursion P (filter test ts) → AllByRecursion P (cond b (t ∷ filter test ts) (filter test ts))
  by true is rest = (all t is, rest)
  by false is rest = rest

same_versions : (s : ScriptData) (xs ys : List Place) (x : ℕ) (ts : List ℕ) → AllByRecursion (λ (t : ℕ). version_in t ys ≡ version_in t xs) ts
    → trees_noted s ys x ts ≡ trees_noted s xs x ts
same_versions s xs ys x [] all = refl
same_versions s xs ys x (t ∷ ts) all =
    ap (λ (o : Option Version). subs_noted (version_or 0 o) x (subs_at s t) ++ trees_noted s ys x ts) all.0
    ∙ ap (λ (ns : List Noted). tree_noted s xs x t ++ ns) (same_versions s xs ys x ts all.1)

-- the deeds of a tree, if there is one
abbrev pub if_noted : ScriptData → List Place → ℕ → Option ℕ → List Noted
if_noted s xs x None = []
if_noted s xs x (Some t) = tree_noted s xs x t

pub noted_more : (s : ScriptData) (xs : List Place) (y : Place) (x : ℕ) → IsValid s → IsMoveRun s xs → IsMoveButCause s [] xs y
    → noted_on s (xs ++ y ∷ []) x ≡ noted_on s xs x ++ if_noted s (xs ++ y ∷ []) x (closes_in s (xs ++ y ∷ []) y.act)
noted_more s xs y x valid run move =
    ap (trees_noted s (xs ++ y ∷ []) x) (settled_order_more s xs y valid run move)
    ∙ by (closes_in s (xs ++ y ∷ []) y.act) where
      old : trees_noted s (xs ++ y ∷ []) x (settled_order s xs) ≡ noted_on s xs x
      old = same_versions s xs (xs ++ y ∷ []) x (settled_order s xs)
          (each_passes (λ (t : ℕ). version_in t (xs ++ y ∷ []) ≡ version_in t xs) (is_settled_in s xs) (commit_order s xs)
          (λ t is. version_stays t xs (y ∷ []) (settled_born s xs t valid run is)))

      by : (o : Option ℕ) → trees_noted s (xs ++ y ∷ []) x (with_last (settled_order s xs) o) ≡ noted_on s xs x ++ if_noted s (xs ++ y ∷ []) x o
      by None = old ∙ sym (append-nil (noted_on s xs x))
      by (Some t) =
          noted-append s (xs ++ y ∷ []) x (settled_order s xs) (t ∷ [])
          ∙ ap (λ (ns : List Noted). ns ++ trees_noted s (xs ++ y ∷ []) x (t ∷ [])) old
          ∙ ap (λ (ns : List Noted). noted_on s xs x ++ ns) (append-nil (tree_noted s (xs ++ y ∷ []) x t))
