-- Deeds noted on the items' worths, one after the other, and taken back.
use Rattle.std.proofs.Common.{◌≡◌, ◌==◌, ℕ, zero, suc, ◌+◌, ◌<◌, ◌≤◌, Bool, true, false, List, [], ◌∷◌, ◌++◌, length, ltb, refl, sym, ap, subst, ◌∙◌, arith, add-one, append_assoc, append-nil, Option, Some, None, map, take, get_or, ℤ}
use Rattle.std.specs.Prelude.{if◌then◌else◌, slice_get, slice_set}
use Rattle.std.specs.List.{AllByRecursion}
use Rattle.std.specs.Option.{option_map}
use Rattle.std.proofs.lemmas.Bool.Decides.{nat_tests}
use Rattle.std.proofs.lemmas.List.{take_all}
use Rattle.std.proofs.lemmas.Option.{slice_get-get_or, slice_get-map, slice_get_past, slice_get_read, slice_get_within}
use Rattle.commute_ops.specs.Ops.{value_start}
use Rattle.commute_ops.specs.declared.kinds.Kind.{Kind}
use Rattle.commute_ops.specs.declared.kinds.Kind.TheVariants.{Sum as SumKind, Top as TopKind, Bag as BagKind}
use Rattle.commute_ops.specs.declared.value.Value.{Value}
use Rattle.script_parts.specs.ScriptData.{ScriptData, subs_at}
use Rattle.script_parts.specs.Valid.{IsValid}
use Rattle.script_parts.specs.declared.parts.Deed.{Deed}
use Rattle.script_parts.specs.declared.parts.ItemRow.{ItemRow}
use Rattle.script_parts.specs.declared.parts.Sub.{Sub}
use Rattle.script_parts.specs.declared.parts.SubOp.{SubOp}
use Rattle.script_parts.specs.declared.parts.Tree.{Tree}
use Rattle.script_parts.proofs.SubsOf.{all_at}
use Rattle.board_rules.specs.Histories.{Place}
use Rattle.board_rules.specs.Worth.{first_value}
use Rattle.board_rules.proofs.TreeSubs.{found_ops}
use Rattle.worth_steps.specs.Kept.{AreWorths, WorthsData, worths_back}
use Rattle.worth_steps.specs.Worth.{Noted, deed_suits}
use Rattle.board_judge.specs.Notes.{AreKnown, Suits, SuitsAt, ops_noted, subs_noted}
use Rattle.board_judge.proofs.Fitting.{each_op, ops_suit}
use Rattle.board_judge.specs.declared.rewriting.Altered.{Altered}
use Rattle.board_judge.specs.inside.Rewriting.{AllSubsSuit, AllSuit, AreOfKinds, HasNoted, SuitsKind, altered_back, kinds_of, one_noted, unaltered}

-- Taking back.
unaltered_last : (trail : List Altered) (a : Altered) (ws : List WorthsData) → unaltered (trail ++ a ∷ []) ws ≡ unaltered trail (altered_back a ws)
unaltered_last [] a ws = refl
unaltered_last (b ∷ trail) a ws = ap (altered_back b) (unaltered_last trail a ws)

pub unaltered_step : (left trail : List Altered) (a : Altered) (ws vs us : List WorthsData) → trail ≡ left ++ a ∷ [] → vs ≡ altered_back a ws
    → unaltered trail ws ≡ us → unaltered left vs ≡ us
unaltered_step left trail a ws vs us is so all =
    ap (unaltered left) so ∙ sym (unaltered_last left a ws) ∙ sym (ap (λ (bs : List Altered). unaltered bs ws) is) ∙ all

pub unaltered_more : (trail next : List Altered) (a : Altered) (ws vs : List WorthsData) → next ≡ trail ++ a ∷ [] → altered_back a vs ≡ ws
    → unaltered next vs ≡ unaltered trail ws
unaltered_more trail next a ws vs is so =
    ap (λ (bs : List Altered). unaltered bs vs) is ∙ unaltered_last trail a vs ∙ ap (unaltered trail) so

pub undone : (ws : List WorthsData) (a : Altered) (w : WorthsData) → slice_get ws a.item.0 ≡ Some w
    → slice_set ws a.item.0 (worths_back a.change w) ≡ altered_back a ws
undone ws a w is =
    sym (ap (λ (o : Option WorthsData). elim o [ Some z ↦ slice_set ws a.item.0 (worths_back a.change z) | None ↦ ws ]) is)

pub undone_nowhere : (ws : List WorthsData) (a : Altered) → slice_get ws a.item.0 ≡ None → ws ≡ altered_back a ws
undone_nowhere ws a is =
    sym (ap (λ (o : Option WorthsData). elim o [ Some z ↦ slice_set ws a.item.0 (worths_back a.change z) | None ↦ ws ]) is)

-- The worths of one item.
set_there : (ws : List WorthsData) (i : ℕ) (w z : WorthsData) → slice_get ws i ≡ Some w → slice_get (slice_set ws i z) i ≡ Some z
set_there [] i w z is = absurd (cc is)
set_there (v ∷ ws) zero w z is = refl
set_there (v ∷ ws) (suc i) w z is = set_there ws i w z is

set_beside : (ws : List WorthsData) (i x : ℕ) (z : WorthsData) → (i == x) ≡ false → slice_get (slice_set ws i z) x ≡ slice_get ws x
set_beside [] i x z other = refl
set_beside (v ∷ ws) zero zero z other = absurd (cc other)
set_beside (v ∷ ws) zero (suc x) z other = refl
set_beside (v ∷ ws) (suc i) zero z other = refl
set_beside (v ∷ ws) (suc i) (suc x) z other = set_beside ws i x z (grind (arith, nat_tests, other))

set_back : (ws : List WorthsData) (i : ℕ) (w z : WorthsData) → slice_get ws i ≡ Some w → slice_set (slice_set ws i z) i w ≡ ws
set_back [] i w z is = absurd (cc is)
set_back (v ∷ ws) zero w z is = (let same : w ≡ v = sym (cc is) in ap (λ (u : WorthsData). u ∷ ws) same)
set_back (v ∷ ws) (suc i) w z is = ap (λ (us : List WorthsData). v ∷ us) (set_back ws i w z is)

set_kinds : (ws : List WorthsData) (i : ℕ) (w z : WorthsData) → slice_get ws i ≡ Some w → z.kind ≡ w.kind → kinds_of (slice_set ws i z) ≡ kinds_of ws
set_kinds [] i w z is kind = refl
set_kinds (v ∷ ws) zero w z is kind =
    (let same : w ≡ v = sym (cc is) in ap (λ (k : Kind). k ∷ kinds_of ws) (kind ∙ ap (λ (u : WorthsData). u.kind) same))
set_kinds (v ∷ ws) (suc i) w z is kind = ap (λ (ks : List Kind). v.kind ∷ ks) (set_kinds ws i w z is kind)

pub set_same : (ws : List WorthsData) (i : ℕ) (w : WorthsData) → slice_get ws i ≡ Some w → slice_set ws i w ≡ ws
set_same [] i w is = refl
set_same (v ∷ ws) zero w is = (let same : w ≡ v = sym (cc is) in ap (λ (u : WorthsData). u ∷ ws) same)
set_same (v ∷ ws) (suc i) w is = ap (λ (us : List WorthsData). v ∷ us) (set_same ws i w is)

pub altered_here : (ws : List WorthsData) (a : Altered) (w z : WorthsData) → slice_get ws a.item.0 ≡ Some w → worths_back a.change z ≡ w
    → altered_back a (slice_set ws a.item.0 z) ≡ ws
altered_here ws a w z is back =
    sym (undone (slice_set ws a.item.0 z) a z (set_there ws a.item.0 w z is))
    ∙ ap (slice_set (slice_set ws a.item.0 z) a.item.0) back
    ∙ set_back ws a.item.0 w z is

-- Kinds.
kind_at : (ws : List WorthsData) (x : ℕ) → slice_get (kinds_of ws) x ≡ option_map (λ (w : WorthsData). w.kind) (slice_get ws x)
kind_at ws x = slice_get-map (λ (w : WorthsData). w.kind) ws x

pub kinds_many : (ws vs : List WorthsData) → kinds_of vs ≡ kinds_of ws → length vs ≡ length ws
kinds_many ws vs same = sym (mapped vs) ∙ ap length same ∙ mapped ws where
  mapped : (us : List WorthsData) → length (kinds_of us) ≡ length us
  mapped [] = refl
  mapped (u ∷ us) = ap suc (mapped us)

pub there_too : (ws vs : List WorthsData) (x : ℕ) (w : WorthsData) → kinds_of vs ≡ kinds_of ws → slice_get ws x ≡ Some w
    → (v : WorthsData) × (slice_get vs x ≡ Some v)
there_too ws vs x w same is = by (slice_get vs x) refl where
  by : (o : Option WorthsData) → slice_get vs x ≡ o → (v : WorthsData) × (slice_get vs x ≡ Some v)
  by (Some v) at = (v, at)
  by None at =
      let kinds : slice_get (kinds_of vs) x ≡ slice_get (kinds_of ws) x = ap (λ (ks : List Kind). slice_get ks x) same in
      let none : slice_get (kinds_of vs) x ≡ None = kind_at vs x ∙ ap (option_map (λ (u : WorthsData). u.kind)) at in
      let some : slice_get (kinds_of ws) x ≡ Some w.kind = kind_at ws x ∙ ap (option_map (λ (u : WorthsData). u.kind)) is in
      absurd (cc (none, some, kinds))

-- Deeds noted, one after the other.
pub noted_none : (ws : List WorthsData) → HasNoted (λ x. []) ws ws
noted_none ws = record {
  kinds = refl;
  each = λ x w z was is first ns kept.
      let same : w ≡ z = cc (was, is) in
      subst (λ (ms : List Noted). AreWorths first ms z) (sym (append-nil ns)) (subst (λ (u : WorthsData). AreWorths first ns u) same kept);
}

pub noted_alike : (f g : ℕ → List Noted) (olds news : List WorthsData) → ((x : ℕ) → f x ≡ g x) → HasNoted f olds news → HasNoted g olds news
noted_alike f g olds news same noted = record {
  kinds = noted.kinds;
  each = λ x w z was is first ns kept. subst (λ (ms : List Noted). AreWorths first (ns ++ ms) z) (same x) (noted.each x w z was is first ns kept);
}

pub noted_then : (f g : ℕ → List Noted) (olds mids news : List WorthsData) → HasNoted f olds mids → HasNoted g mids news
    → HasNoted (λ x. f x ++ g x) olds news
noted_then f g olds mids news one two = record {
  kinds = two.kinds ∙ one.kinds;
  each = λ x w z was is first ns kept.
      let (v, at) = there_too olds mids x w one.kinds was in
      further x w v z was at is first ns kept;
} where
  further : (x : ℕ) (w v z : WorthsData) → slice_get olds x ≡ Some w → slice_get mids x ≡ Some v → slice_get news x ≡ Some z
      → (first : Value) (ns : List Noted) → AreWorths first ns w → AreWorths first (ns ++ (f x ++ g x)) z
  further x w v z was at is first ns kept =
      subst (λ (ms : List Noted). AreWorths first ms z) (append_assoc ns (f x) (g x))
      (two.each x v z at is first (ns ++ f x) (one.each x w v was at first ns kept))

pub noted_one : (ws : List WorthsData) (i : ℕ) (n : Noted) (w z : WorthsData) → slice_get ws i ≡ Some w → z.kind ≡ w.kind
    → ((first : Value) (ns : List Noted) → AreWorths first ns w → AreWorths first (ns ++ n ∷ []) z) → HasNoted (one_noted i n) ws (slice_set ws i z)
noted_one ws i n w z here kind more = record {
  kinds = set_kinds ws i w z here kind;
  each = λ x u v was is. by x u v was is (i == x) refl;
} where
  by : (x : ℕ) (u v : WorthsData) → slice_get ws x ≡ Some u → slice_get (slice_set ws i z) x ≡ Some v → (same : Bool) → (i == x) ≡ same
      → (first : Value) (ns : List Noted) → AreWorths first ns u → AreWorths first (ns ++ (if same then n ∷ [] else [])) v
  by x u v was is true same first ns kept =
      let one : i ≡ x = grind (arith, nat_tests, same) in
      let old : w ≡ u = (let at : slice_get ws x ≡ Some w = ap (slice_get ws) (sym one) ∙ here in cc (at, was)) in
      let new : z ≡ v = (let at : slice_get (slice_set ws i z) x ≡ Some z = ap (slice_get (slice_set ws i z)) (sym one) ∙ set_there ws i w z here in cc (at, is)) in
      subst (λ (y : WorthsData). AreWorths first (ns ++ n ∷ []) y) new (more first ns (subst (λ (y : WorthsData). AreWorths first ns y) (sym old) kept))
  by x u v was is false other first ns kept =
      let new : u ≡ v = (let at : slice_get ws x ≡ Some v = sym (set_beside ws i x z other) ∙ is in cc (was, at)) in
      subst (λ (ms : List Noted). AreWorths first ms v) (sym (append-nil ns)) (subst (λ (y : WorthsData). AreWorths first ns y) new kept)

-- with one operation, or one subtransaction, more
ops_next : (v x i : ℕ) (os : List SubOp) (o : SubOp) → slice_get os i ≡ Some o
    → ops_noted v x (take i os) ++ one_noted o.item.0 (record { version = v; deed = o.deed }) x ≡ ops_noted v x (take (suc i) os)
ops_next v x i [] o at = absurd (cc at)
ops_next v x zero (y ∷ os) o at =
    let same : o ≡ y = sym (cc at) in
    ap (λ (z : SubOp). one_noted z.item.0 (record { version = v; deed = z.deed }) x) same
ops_next v x (suc i) (y ∷ os) o at = by (y.item.0 == x) (ops_next v x i os o at) where
  by : (b : Bool) → ops_noted v x (take i os) ++ one_noted o.item.0 (record { version = v; deed = o.deed }) x ≡ ops_noted v x (take (suc i) os)
      → (if b then record { version = v; deed = y.deed } ∷ ops_noted v x (take i os) else ops_noted v x (take i os))
      ++ one_noted o.item.0 (record { version = v; deed = o.deed }) x
      ≡ (if b then record { version = v; deed = y.deed } ∷ ops_noted v x (take (suc i) os) else ops_noted v x (take (suc i) os))
  by true more = ap (λ (ns : List Noted). record { version = v; deed = y.deed } ∷ ns) more
  by false more = more

subs_next : (v x i : ℕ) (subs : List Sub) (sub : Sub) → slice_get subs i ≡ Some sub
    → subs_noted v x (take i subs) ++ ops_noted v x sub.ops ≡ subs_noted v x (take (suc i) subs)
subs_next v x i [] sub at = absurd (cc at)
subs_next v x zero (y ∷ subs) sub at =
    let same : sub ≡ y = sym (cc at) in
    ap (λ (z : Sub). ops_noted v x z.ops) same ∙ sym (append-nil (ops_noted v x y.ops))
subs_next v x (suc i) (y ∷ subs) sub at =
    append_assoc (ops_noted v x y.ops) (subs_noted v x (take i subs)) (ops_noted v x sub.ops)
    ∙ ap (λ (ns : List Noted). ops_noted v x y.ops ++ ns) (subs_next v x i subs sub at)

pub ops_on : (v i : ℕ) (os : List SubOp) (d : SubOp) (olds mids news : List WorthsData) → i < length os
    → HasNoted (λ x. ops_noted v x (take i os)) olds mids
    → HasNoted (one_noted (get_or os i d).item.0 (record { version = v; deed = (get_or os i d).deed })) mids news
    → HasNoted (λ x. ops_noted v x (take (i + 1) os)) olds news
ops_on v i os d olds mids news lt before one =
    let o = get_or os i d in
    noted_alike (λ x. ops_noted v x (take i os) ++ one_noted o.item.0 (record { version = v; deed = o.deed }) x) (λ x. ops_noted v x (take (i + 1) os)) olds news
    (λ x. ops_next v x i os o (slice_get-get_or os i d lt) ∙ ap (λ (n : ℕ). ops_noted v x (take n os)) (sym (add-one i)))
    (noted_then (λ x. ops_noted v x (take i os)) (one_noted o.item.0 (record { version = v; deed = o.deed })) olds mids news before one)

pub ops_all : (v n : ℕ) (os : List SubOp) (olds news : List WorthsData) → length os ≤ n → HasNoted (λ x. ops_noted v x (take n os)) olds news
    → HasNoted (λ x. ops_noted v x os) olds news
ops_all v n os olds news le all =
    noted_alike (λ x. ops_noted v x (take n os)) (λ x. ops_noted v x os) olds news (λ x. ap (ops_noted v x) (take_all n os le)) all

pub subs_on : (v i : ℕ) (subs : List Sub) (sub : Sub) (olds mids news : List WorthsData) → slice_get subs i ≡ Some sub
    → HasNoted (λ x. subs_noted v x (take i subs)) olds mids
    → HasNoted (λ x. ops_noted v x sub.ops) mids news
    → HasNoted (λ x. subs_noted v x (take (i + 1) subs)) olds news
subs_on v i subs sub olds mids news at before one =
    noted_alike (λ x. subs_noted v x (take i subs) ++ ops_noted v x sub.ops) (λ x. subs_noted v x (take (i + 1) subs)) olds news
    (λ x. subs_next v x i subs sub at ∙ ap (λ (n : ℕ). subs_noted v x (take n subs)) (sym (add-one i)))
    (noted_then (λ x. subs_noted v x (take i subs)) (λ x. ops_noted v x sub.ops) olds mids news before one)

pub subs_all : (v n : ℕ) (subs : List Sub) (olds news : List WorthsData) → length subs ≤ n → HasNoted (λ x. subs_noted v x (take n subs)) olds news
    → HasNoted (λ x. subs_noted v x subs) olds news
subs_all v n subs olds news le all =
    noted_alike (λ x. subs_noted v x (take n subs)) (λ x. subs_noted v x subs) olds news (λ x. ap (subs_noted v x) (take_all n subs le)) all

-- What suits.
each_place : {A : Type 0} (P : A → Type 0) (xs : List A) → ((i : ℕ) (x : A) → slice_get xs i ≡ Some x → P x) → AllByRecursion P xs
each_place P [] all = tt
each_place P (x ∷ xs) all = (all zero x refl, each_place P xs (λ i y at. all (suc i) y at))

pub suits_there : (ws : List WorthsData) (i : ℕ) (d : Deed) → SuitsKind d (slice_get (kinds_of ws) i)
    → (w : WorthsData) × (slice_get ws i ≡ Some w) × (deed_suits w.kind d ≡ true)
suits_there ws i d suits = by (slice_get ws i) refl (subst (SuitsKind d) (kind_at ws i) suits) where
  by : (o : Option WorthsData) → slice_get ws i ≡ o → SuitsKind d (option_map (λ (w : WorthsData). w.kind) o)
      → (w : WorthsData) × (slice_get ws i ≡ Some w) × (deed_suits w.kind d ≡ true)
  by None at never = absurd never
  by (Some w) at so = (w, at, so)

pub within_kinds : (ws : List WorthsData) (i : ℕ) (d : Deed) → SuitsKind d (slice_get (kinds_of ws) i) → i < length ws
within_kinds ws i d suits = let (w, at, so) = suits_there ws i d suits in slice_get_within ws i w at

suits_row : (rows : List ItemRow) (o : SubOp) → SuitsAt o (slice_get rows o.item.0)
    → SuitsKind o.deed (slice_get (map (λ (row : ItemRow). row.kind) rows) o.item.0)
suits_row rows o suits =
    subst (SuitsKind o.deed) (sym (slice_get-map (λ (row : ItemRow). row.kind) rows o.item.0)) (by (slice_get rows o.item.0) suits) where
      by : (row : Option ItemRow) → SuitsAt o row → SuitsKind o.deed (option_map (λ (one : ItemRow). one.kind) row)
      by None never = never
      by (Some row) so = so

-- the operations of a valid script's tree suit worths of its items' kinds
pub tree_suits : (s : ScriptData) (t : ℕ) (ws : List WorthsData) → IsValid s → AreOfKinds s ws → AllSubsSuit (kinds_of ws) (subs_at s t)
tree_suits s t ws valid kinds = each_place (λ (sub : Sub). AllSuit (kinds_of ws) sub.ops) (subs_at s t) (λ k sub at.
    each_op (Suits s) (λ (o : SubOp). SuitsKind o.deed (slice_get (kinds_of ws) o.item.0)) sub.ops
    (λ o suits. subst (λ (ks : List Kind). SuitsKind o.deed (slice_get ks o.item.0)) (sym kinds) (suits_row s.items o suits))
    (subst (AllByRecursion (Suits s)) (found_ops s t k sub at) (ops_suit s t k valid)))

pub all_suit : (kinds ks : List Kind) (os : List SubOp) (i : ℕ) (d : SubOp) → ks ≡ kinds → AllSuit kinds os → i < length os
    → SuitsKind (get_or os i d).deed (slice_get ks (get_or os i d).item.0)
all_suit kinds ks os i d same all lt =
    let o = get_or os i d in
    subst (λ (cs : List Kind). SuitsKind o.deed (slice_get cs o.item.0)) (sym same)
    (all_at (λ (p : SubOp). SuitsKind p.deed (slice_get kinds p.item.0)) os i o all (slice_get-get_or os i d lt))

pub all_subs_suit : (kinds ks : List Kind) (subs : List Sub) (i : ℕ) (sub : Sub) → ks ≡ kinds → AllSubsSuit kinds subs → slice_get subs i ≡ Some sub
    → AllSuit ks sub.ops
all_subs_suit kinds ks subs i sub same all at =
    subst (λ (cs : List Kind). AllSuit cs sub.ops) (sym same) (all_at (λ (k : Sub). AllSuit kinds k.ops) subs i sub all at)

-- what is found of a tree, or isn't
pub subs_nowhere : (s : ScriptData) (trees : List Tree) (t : ℕ) → trees ≡ s.trees → false ≡ ltb t (length trees) → subs_at s t ≡ []
subs_nowhere s trees t is past =
    let le : length trees ≤ t = grind (arith, nat_tests, past) in
    ap (λ (found : Option Tree). elim found [ Some tree ↦ tree.subs | None ↦ [] ]) (sym (ap (λ (ts : List Tree). slice_get ts t) is) ∙ slice_get_past trees t le)

pub subs_found : (s : ScriptData) (trees : List Tree) (t : ℕ) (tree : Tree) → trees ≡ s.trees → true ≡ ltb t (length trees) → tree ≡ get_or trees t tree
    → subs_at s t ≡ tree.subs
subs_found s trees t tree is within at =
    let lt : t < length trees = grind (arith, nat_tests, within) in
    ap (λ (found : Option Tree). elim found [ Some one ↦ one.subs | None ↦ [] ])
    (sym (ap (λ (ts : List Tree). slice_get ts t) is) ∙ slice_get_read trees (length trees) t tree refl lt at)

pub noted_nothing : (s : ScriptData) (v t : ℕ) (ws : List WorthsData) → subs_at s t ≡ [] → HasNoted (λ x. subs_noted v x (subs_at s t)) ws ws
noted_nothing s v t ws none = subst (λ (subs : List Sub). HasNoted (λ x. subs_noted v x subs) ws ws) (sym none) (noted_none ws)

-- worths that are known are of the items' kinds
start_kind : (k j : Kind) (n m : ℤ) → value_start k n ≡ value_start j m → j ≡ k
start_kind SumKind SumKind n m is = refl
start_kind TopKind TopKind n m is = refl
start_kind BagKind BagKind n m is = refl
start_kind SumKind TopKind n m is = absurd (cc is)
start_kind SumKind BagKind n m is = absurd (cc is)
start_kind TopKind SumKind n m is = absurd (cc is)
start_kind TopKind BagKind n m is = absurd (cc is)
start_kind BagKind SumKind n m is = absurd (cc is)
start_kind BagKind TopKind n m is = absurd (cc is)

pub known_kinds : (s : ScriptData) (xs : List Place) (ws : List WorthsData) → AreKnown s xs ws → AreOfKinds s ws
known_kinds s xs ws known = all s.items ws known.worths.count (λ x row w at is.
    start_kind row.kind w.kind row.initial w.first (sym (ap first_value at) ∙ (known.worths.each x w is).starts)) where
      all : (rows : List ItemRow) (vs : List WorthsData) → length vs ≡ length rows
          → ((x : ℕ) (row : ItemRow) (w : WorthsData) → slice_get rows x ≡ Some row → slice_get vs x ≡ Some w → w.kind ≡ row.kind)
          → kinds_of vs ≡ map (λ (row : ItemRow). row.kind) rows
      all [] [] count each = refl
      all [] (v ∷ vs) count each = absurd (omega (arith, count))
      all (row ∷ rows) [] count each = absurd (omega (arith, count))
      all (row ∷ rows) (v ∷ vs) count each =
          let more : kinds_of vs ≡ map (λ (one : ItemRow). one.kind) rows = all rows vs (omega (arith, count)) (λ x r w at is. each (suc x) r w at is) in
          ap (λ (k : Kind). k ∷ kinds_of vs) (each zero row v refl refl) ∙ ap (λ (ks : List Kind). row.kind ∷ ks) more
