-- What a complete read transaction shows stays: its Dids gave it, and what they gave is what its items are worth in
-- every later history.
use Rattle.std.proofs.Common.{◌≡◌, ℕ, suc, ◌<◌, ◌∙◌, true, List, [], ◌∷◌, ◌++◌, length, reverse, refl, sym, ap, subst, Option, Some}
use Rattle.std.specs.Prelude.{slice_get}
use Rattle.std.proofs.lemmas.List.{reverse-append}
use Rattle.tv_base.specs.declared.numbers.ItemNo.{ItemNo}
use Rattle.tv_base.specs.declared.numbers.Version.{Version}
use Rattle.tv_base.proofs.ByPlace.{slice_get-old, slice_get_left}
use Rattle.commute_ops.specs.declared.value.Value.{Value}
use Rattle.letter_types.specs.declared.acts.Act.{Act}
use Rattle.letter_types.specs.declared.acts.Act.TheVariants.{Did}
use Rattle.letter_types.specs.declared.entries.Entry.{Entry}
use Rattle.script_parts.specs.Counts.{ops_in}
use Rattle.script_parts.specs.ScriptData.{ScriptData, is_read, ops_of, reads, sub_at}
use Rattle.script_parts.specs.Valid.{IsValid}
use Rattle.script_parts.specs.declared.parts.Sub.{Sub}
use Rattle.script_parts.specs.declared.parts.SubOp.{SubOp}
use Rattle.script_parts.specs.declared.parts.Tree.{Tree}
use Rattle.script_parts.specs.declared.parts.TreeKind.TheVariants.{Read}
use Rattle.script_parts.proofs.SubsOf.{found_subs}
use Rattle.board_rules.specs.Histories.{Place, all_done, does, places_of, version_of, was_done}
use Rattle.board_rules.specs.Right.{IsShown, shown, with_worths}
use Rattle.board_rules.specs.Worth.{worth}
use Rattle.board_rules.proofs.ActTests.{does_is}
use Rattle.board_rules.proofs.AtPositions.{at_position}
use Rattle.board_rules.proofs.Places.{places_of-append}
use Rattle.board_rules.proofs.Positions.{found_all}
use Rattle.board_rules.proofs.SerialOrder.{done_of}
use Rattle.world_model.specs.Runs.{IsStepRun}
use Rattle.world_model.proofs.Scripts.{get_below}
use Rattle.run_laws.specs.Stays.{ReadsStayRight, Shows}
use Rattle.run_laws.proofs.worth.ShownStays.{shown_stays}
use Rattle.growth_laws.specs.Growth.{Extends}

-- Where two readings agree on the operations of each subtransaction, they agree on all.
parts_of : (p q : ItemNo × Value) (ps qs : List (ItemNo × Value)) → p ∷ ps ≡ q ∷ qs → (p ≡ q) × (ps ≡ qs)
parts_of p q ps qs is = (cc is, cc is)

both : (f g : ℕ → Value) (xs ys : List SubOp) → with_worths f xs ≡ with_worths g xs → with_worths f ys ≡ with_worths g ys
    → with_worths f (xs ++ ys) ≡ with_worths g (xs ++ ys)
both f g [] ys one rest = rest
both f g (o ∷ xs) ys one rest =
    let parts = parts_of (o.item, f o.item.0) (o.item, g o.item.0) (with_worths f xs) (with_worths g xs) one in
    let same : f o.item.0 ≡ g o.item.0 = ap (λ (p : ItemNo × Value). p.1) parts.0 in
    let tails : with_worths f xs ≡ with_worths g xs = parts.1 in
    let more : with_worths f (xs ++ ys) ≡ with_worths g (xs ++ ys) = both f g xs ys tails rest in
    ap (λ (w : Value). (o.item, w) ∷ with_worths f (xs ++ ys)) same ∙ ap (λ ws. (o.item, g o.item.0) ∷ ws) more

all_subs : (f g : ℕ → Value) (xs : List Sub) → ((n : ℕ) (x : Sub) → slice_get xs n ≡ Some x → with_worths f x.ops ≡ with_worths g x.ops)
    → with_worths f (ops_in xs) ≡ with_worths g (ops_in xs)
all_subs f g [] each = refl
all_subs f g (x ∷ xs) each = both f g x.ops (ops_in xs) (each 0 x refl) (all_subs f g xs (λ n y at. each (suc n) y at))

-- A subtransaction that was done has its act.
record DidAt (t k : ℕ) (xs : List Place) : Type 0 where
  place : ℕ
  node : ℕ
  values : List (ItemNo × Value)
  at : slice_get xs place ≡ Some (record { node = node; act = Did (record { 0 = t }) (record { 0 = k }) values })

did_at : (t k : ℕ) (xs : List Place) → was_done t k xs ≡ true → DidAt t k xs
did_at t k xs is =
    let f = found_all (λ (x : Place). does t k x.act) xs is in
    let d = does_is t k f.item.act f.passes in
    record {
      place = f.place;
      node = f.item.node;
      values = d.0;
      at = f.is ∙ ap (λ (a : Act). Some (record { node = f.item.node; act = a })) d.1;
    }

-- what a read's Did gave is what its items are worth in the whole history
gave : (s : ScriptData) (h : List Entry) (t k : ℕ) (d : DidAt t k (places_of h)) → ReadsStayRight s h → reads s t ≡ true
    → IsShown (worth s h) (ops_of s t k) d.values (version_of h t)
gave s h t k d right read =
    (at_position (λ before xs x. Shows (worth s h) s h x.act) h right d.place
    (record { node = d.node; act = Did (record { 0 = t }) (record { 0 = k }) d.values }) d.at).holds
    read

shown_at : (of : ℕ → ℕ → Value) (ops : List SubOp) (values : List (ItemNo × Value)) (o : Option Version) (v : Version) → o ≡ Some v
    → IsShown of ops values o → values ≡ with_worths (λ (x : ℕ). of x v.0) ops
shown_at of ops values o v is right = subst (IsShown of ops values) is right

-- The places of the history that goes on.
pub places_later : (past later : List Entry) → places_of (reverse (later ++ past)) ≡ places_of (reverse past) ++ places_of (reverse later)
places_later past later = ap places_of (reverse-append later past) ∙ places_of-append (reverse past) (reverse later)

abbrev further : (t k : ℕ) (past later : List Entry) → DidAt t k (places_of (reverse past)) → DidAt t k (places_of (reverse (later ++ past)))
further t k past later d = record {
  place = d.place;
  node = d.node;
  values = d.values;
  at = ap (λ (xs : List Place). slice_get xs d.place) (places_later past later)
      ∙ slice_get_left (places_of (reverse past)) (places_of (reverse later)) d.place
      (record { node = d.node; act = Did (record { 0 = t }) (record { 0 = k }) d.values }) d.at;
}

-- A tree is in both scripts.
pub record IsInBoth (s t : ScriptData) (k : ℕ) (x : Tree) : Type 0 where
  pub here : slice_get s.trees k ≡ Some x
  pub there : slice_get t.trees k ≡ Some x

pub in_both : (s t : ScriptData) (k : ℕ) (x : Tree) → Extends s t → k < length s.trees → slice_get s.trees k ≡ Some x → IsInBoth s t k x
in_both s t k x e lt at = record {
  here = at;
  there = ap (λ (ts : List Tree). slice_get ts k) e.trees.1 ∙ slice_get-old s.trees e.trees.0 k lt ∙ at;
}

ops_here : (s : ScriptData) (k n : ℕ) (x : Tree) (y : Sub) → slice_get s.trees k ≡ Some x → slice_get x.subs n ≡ Some y → ops_of s k n ≡ y.ops
ops_here s k n x y at sub =
    let found : sub_at s k n ≡ Some y = ap (λ (ys : List Sub). slice_get ys n) (found_subs s k x at) ∙ sub in
    rw (found, ops_of) refl

reads_here : (s : ScriptData) (k : ℕ) (x : Tree) → slice_get s.trees k ≡ Some x → x.kind ≡ Read → reads s k ≡ true
reads_here s k x at kind = rw (at, reads) (ap is_read kind)

-- What a subtransaction shows, by the Did that it has.
shown_by : (s : ScriptData) (past : List Entry) (k n : ℕ) (x : Tree) (y : Sub) (v : Version) (d : DidAt k n (places_of (reverse past))) → IsValid s
    → IsStepRun s past → slice_get s.trees k ≡ Some x → x.kind ≡ Read → slice_get x.subs n ≡ Some y → version_of (reverse past) k ≡ Some v
    → d.values ≡ shown s (reverse past) v.0 y.ops
shown_by s past k n x y v d valid run at kind sub born =
    let h : List Entry = reverse past in
    subst (λ (os : List SubOp). d.values ≡ shown s h v.0 os) (ops_here s k n x y at sub)
    (shown_at (worth s h) (ops_of s k n) d.values (version_of h k) v born
    (gave s h k n d (shown_stays s past valid run) (reads_here s k x at kind)))

pub values_stay : (s t : ScriptData) (past later : List Entry) (k : ℕ) (x : Tree) (v : Version) → IsValid s → IsValid t → IsStepRun s past
    → IsStepRun t (later ++ past) → IsInBoth s t k x → x.kind ≡ Read → all_done k (length x.subs) (places_of (reverse past)) ≡ true
    → version_of (reverse past) k ≡ Some v → version_of (reverse (later ++ past)) k ≡ Some v
    → shown t (reverse (later ++ past)) v.0 (ops_in x.subs) ≡ shown s (reverse past) v.0 (ops_in x.subs)
values_stay s t past later k x v valid valid' run run' is kind all now then =
    all_subs (λ (i : ℕ). worth t (reverse (later ++ past)) i v.0) (λ (i : ℕ). worth s (reverse past) i v.0) x.subs (λ n y at.
    let d : DidAt k n (places_of (reverse past)) =
    did_at k n (places_of (reverse past)) (done_of k (length x.subs) n (places_of (reverse past)) (get_below x.subs n y at) all) in
    sym (shown_by t (later ++ past) k n x y v (further k n past later d) valid' run' is.there kind at then)
    ∙ shown_by s past k n x y v d valid run is.here kind at now)
