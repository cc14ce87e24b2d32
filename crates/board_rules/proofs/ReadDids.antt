-- The Did of a read transaction changes no worth.
use Rattle.std.proofs.Common.{◌≡◌, ℕ, zero, suc, Bool, true, false, List, [], ◌∷◌, ◌++◌, length, refl, sym, ap, ◌∙◌, arith, Option, Some, None}
use Rattle.std.specs.Prelude.{if◌then◌else◌, ◌==◌, ◌&&◌, ◌||◌, filter, is_some, slice_get}
use Rattle.std.proofs.Math.Bool.{or-false}
use Rattle.std.proofs.lemmas.Bool.Decides.{nat_tests}
use Rattle.tv_base.specs.declared.numbers.SubNo.{SubNo}
use Rattle.tv_base.specs.declared.numbers.TreeNo.{TreeNo}
use Rattle.tv_base.specs.declared.numbers.ItemNo.{ItemNo}
use Rattle.tv_base.specs.declared.numbers.Version.{Version}
use Rattle.commute_ops.specs.declared.value.Value.{Value}
use Rattle.letter_types.specs.declared.acts.Act.TheVariants.{Did}
use Rattle.script_parts.specs.ScriptData.{ScriptData, is_read, is_strict, is_update, reads, subs_at, updates}
use Rattle.script_parts.specs.declared.parts.Sub.{Sub}
use Rattle.script_parts.specs.declared.parts.Tree.{Tree}
use Rattle.script_parts.specs.declared.parts.TreeKind.{TreeKind}
use Rattle.script_parts.specs.declared.parts.TreeKind.TheVariants.{Update, Read, Strict}
use Rattle.board_rules.specs.Histories.{Place, all_applied, all_done, is_strict_tree, is_complete, is_whole_in, version_in, was_applied, was_born, was_decided_as, was_done}
use Rattle.board_rules.specs.Serial.{commits_by, commit_order, is_member_in, is_settled_in, is_version, members_in, serial_in, with_closed}
use Rattle.board_rules.specs.Worth.{worth_after, worth_in}
use Rattle.board_rules.proofs.Places.{option_or_none, version_in-append, was_applied-append, was_decided_as-append, was_done-append}

-- a read tree is no update tree, and not strict
kind_apart : (kind : TreeKind) → is_read kind ≡ true → (is_update kind ≡ false) × (is_strict kind ≡ false)
kind_apart Update is = absurd (cc is)
kind_apart Read is = (refl, refl)
kind_apart Strict is = absurd (cc is)

tree_apart : (s : ScriptData) (t : ℕ) (found : Option Tree) → slice_get s.trees t ≡ found → reads s t ≡ true
    → (updates s t ≡ false) × (is_strict_tree s t ≡ false)
tree_apart s t None at read = absurd (let no : reads s t ≡ false = rw (at, reads) refl in cc (no, read))
tree_apart s t (Some tree) at read =
    let kind : is_read tree.kind ≡ true = sym (rw (at, reads) refl) ∙ read in
    let parts = kind_apart tree.kind kind in
    (rw (at, updates) parts.0, rw (at, is_strict_tree) parts.1)

or_and_false : (a b : Bool) → (a || ((b && false) || false)) ≡ a
or_and_false true b = refl
or_and_false false true = refl
or_and_false false false = refl

-- the Did of tree t, after these acts
abbrev with_did : List Place → ℕ → TreeNo → SubNo → List (ItemNo × Value) → List Place
with_did xs node t k values = xs ++ record { node = node; act = Did t k values } ∷ []

version_same : (xs : List Place) (node u : ℕ) (t : TreeNo) (k : SubNo) (values : List (ItemNo × Value))
    → version_in u (with_did xs node t k values) ≡ version_in u xs
version_same xs node u t k values =
    version_in-append u xs (record { node = node; act = Did t k values } ∷ []) ∙ option_or_none (version_in u xs)

committed_same : (xs : List Place) (node u : ℕ) (t : TreeNo) (k : SubNo) (values : List (ItemNo × Value))
    → was_decided_as u true (with_did xs node t k values) ≡ was_decided_as u true xs
committed_same xs node u t k values =
    was_decided_as-append u true xs (record { node = node; act = Did t k values } ∷ []) ∙ or-false (was_decided_as u true xs)

applied_same : (xs : List Place) (node u : ℕ) (t : TreeNo) (k : SubNo) (values : List (ItemNo × Value)) (ks : List Sub)
    → all_applied u ks (with_did xs node t k values) ≡ all_applied u ks xs
applied_same xs node u t k values [] = refl
applied_same xs node u t k values (j ∷ ks) =
    let one = was_applied-append u j.node.0 xs (record { node = node; act = Did t k values } ∷ [])
    ∙ or_and_false (was_applied u j.node.0 xs) (node == j.node.0) in
    ap (λ (b : Bool). b && all_applied u ks (with_did xs node t k values)) one
    ∙ ap (λ (b : Bool). was_applied u j.node.0 xs && b) (applied_same xs node u t k values ks)

done_same : (xs : List Place) (node u : ℕ) (t : TreeNo) (k : SubNo) (values : List (ItemNo × Value)) (n : ℕ) → (t.0 == u) ≡ false
    → all_done u n (with_did xs node t k values) ≡ all_done u n xs
done_same xs node u t k values zero other = refl
done_same xs node u t k values (suc n) other =
    let one = was_done-append u n xs (record { node = node; act = Did t k values } ∷ [])
    ∙ ap (λ (b : Bool). was_done u n xs || ((b && (k.0 == n)) || false)) other ∙ or-false (was_done u n xs) in
    ap (λ (b : Bool). b && was_done u n (with_did xs node t k values)) (done_same xs node u t k values n other)
    ∙ ap (λ (b : Bool). all_done u n xs && b) one

-- another tree is whole as before
whole_same : (s : ScriptData) (xs : List Place) (node u : ℕ) (t : TreeNo) (k : SubNo) (values : List (ItemNo × Value)) → (t.0 == u) ≡ false
    → is_whole_in s (with_did xs node t k values) u ≡ is_whole_in s xs u
whole_same s xs node u t k values other =
    let ys = with_did xs node t k values in
    ap (λ (o : Option Version). is_some o && is_complete s ys u) (version_same xs node u t k values)
    ∙ ap (λ (b : Bool). was_born xs u && (if is_strict_tree s u then b else all_done u (length (subs_at s u)) ys))
    (applied_same xs node u t k values (subs_at s u))
    ∙ ap (λ (b : Bool). was_born xs u && (if is_strict_tree s u then all_applied u (subs_at s u) xs else b))
    (done_same xs node u t k values (length (subs_at s u)) other)

settled_by : (s : ScriptData) (xs : List Place) (node u : ℕ) (t : TreeNo) (k : SubNo) (values : List (ItemNo × Value)) → reads s t.0 ≡ true
    → (test : Bool) → (t.0 == u) ≡ test → is_settled_in s (with_did xs node t k values) u ≡ is_settled_in s xs u
settled_by s xs node u t k values read true is =
    let same : t.0 ≡ u = grind (arith, nat_tests) in
    let apart = tree_apart s u (slice_get s.trees u) refl (sym (ap (reads s) same) ∙ read) in
    let none = λ (zs : List Place).
    ap (λ (b : Bool). (b && is_whole_in s zs u) || (is_strict_tree s u && was_decided_as u true zs)) apart.0
    ∙ ap (λ (b : Bool). b && was_decided_as u true zs) apart.1 in
    none (with_did xs node t k values) ∙ sym (none xs)
settled_by s xs node u t k values read false is =
    ap (λ (b : Bool). (updates s u && b) || (is_strict_tree s u && was_decided_as u true (with_did xs node t k values)))
    (whole_same s xs node u t k values is)
    ∙ ap (λ (b : Bool). (updates s u && is_whole_in s xs u) || (is_strict_tree s u && b)) (committed_same xs node u t k values)

member_same : (s : ScriptData) (xs : List Place) (node v u : ℕ) (t : TreeNo) (k : SubNo) (values : List (ItemNo × Value))
    → reads s t.0 ≡ true → is_member_in s (with_did xs node t k values) v u ≡ is_member_in s xs v u
member_same s xs node v u t k values read =
    ap (λ (o : Option Version). is_version v o && is_settled_in s (with_did xs node t k values) u) (version_same xs node u t k values)
    ∙ ap (λ (b : Bool). is_version v (version_in u xs) && b) (settled_by s xs node u t k values read (t.0 == u) refl)

closings_same : (s : ScriptData) (xs : List Place) (node : ℕ) (t : TreeNo) (k : SubNo) (values : List (ItemNo × Value))
    → updates s t.0 ≡ false → commit_order s (with_did xs node t k values) ≡ commit_order s xs
closings_same s [] node t k values apart = ap (λ (b : Bool). with_closed (if b then Some t.0 else None) []) apart
closings_same s (x ∷ xs) node t k values apart = ap (with_closed (commits_by s x.act)) (closings_same s xs node t k values apart)

pub filter_same : (p q : ℕ → Bool) (ts : List ℕ) → ((t : ℕ) → p t ≡ q t) → filter p ts ≡ filter q ts
filter_same p q [] same = refl
filter_same p q (t ∷ ts) same = let one = same t in let rest = filter_same p q ts same in cc

members_same : (s : ScriptData) (xs : List Place) (node v : ℕ) (t : TreeNo) (k : SubNo) (values : List (ItemNo × Value))
    → reads s t.0 ≡ true → members_in s (with_did xs node t k values) v ≡ members_in s xs v
members_same s xs node v t k values read =
    let ys = with_did xs node t k values in
    filter_same (is_member_in s ys v) (is_member_in s xs v) (commit_order s ys) (λ u. member_same s xs node v u t k values read)
    ∙ ap (filter (is_member_in s xs v)) (closings_same s xs node t k values (tree_apart s t.0 (slice_get s.trees t.0) refl read).0)

serial_same : (s : ScriptData) (xs : List Place) (node v : ℕ) (t : TreeNo) (k : SubNo) (values : List (ItemNo × Value))
    → reads s t.0 ≡ true → serial_in s (with_did xs node t k values) v ≡ serial_in s xs v
serial_same s xs node zero t k values read = members_same s xs node zero t k values read
serial_same s xs node (suc v) t k values read =
    ap (λ (ts : List ℕ). ts ++ members_in s (with_did xs node t k values) (suc v)) (serial_same s xs node v t k values read)
    ∙ ap (λ (ts : List ℕ). serial_in s xs v ++ ts) (members_same s xs node (suc v) t k values read)

-- with the Did of a read tree every item is worth what it was worth before
pub worth_before_read : (s : ScriptData) (xs : List Place) (node x v : ℕ) (t : TreeNo) (k : SubNo) (values : List (ItemNo × Value))
    → reads s t.0 ≡ true → worth_in s (with_did xs node t k values) x v ≡ worth_in s xs x v
worth_before_read s xs node x v t k values read = ap (worth_after s x) (serial_same s xs node v t k values read)
