-- What is kept of an item shows what it is worth, before any deed and with each deed more. One deed more edits one
-- action.
use Rattle.std.proofs.Common.{◌≡◌, ℕ, zero, suc, Bool, true, false, IsTrue, List, [], ◌∷◌, ◌++◌, refl, ℤ, ap, sym, ◌∙◌, subst, Some, None}
use Rattle.std.specs.Prelude.{if◌then◌else◌, ◌==◌, ◌||◌, fold}
use Rattle.std.proofs.lemmas.List.Sums.{fold-append}
use Rattle.commute_ops.specs.declared.kinds.Kind.{Kind}
use Rattle.commute_ops.specs.declared.kinds.Kind.TheVariants.{Sum, Top, Bag}
use Rattle.commute_ops.specs.declared.kinds.Op.TheVariants as ops
use Rattle.commute_ops.specs.declared.value.Value.{Value}
use Rattle.commute_ops.specs.declared.value.Value.TheVariants as values
use Rattle.commute_ops.specs.Ops.{value_start}
use Rattle.script_parts.specs.Deeds.{after_deed}
use Rattle.script_parts.specs.Valid.{deed_fits}
use Rattle.script_parts.specs.declared.parts.Deed.{Deed}
use Rattle.script_parts.specs.declared.parts.Deed.TheVariants.{Apply, Get, Set, Draw}
use Rattle.script_parts.specs.declared.parts.TreeKind.{TreeKind}
use Rattle.script_parts.specs.declared.parts.TreeKind.TheVariants as trees
use Rattle.worth_steps.specs.declared.puts.Put.{Put}
use Rattle.worth_steps.specs.declared.steps.WorthStep.{WorthStep}
use Rattle.worth_steps.specs.Kept.{AreWorths, AreWorthsOf, WorthsData}
use Rattle.worth_steps.specs.Puts.{ArePuts, Rises}
use Rattle.worth_steps.specs.Steps.{AreSteps, Ascends, Chained}
use Rattle.worth_steps.specs.Worth.{MayBegin, Noted, after_noted, alters, deed_suits, in_order, last_altered, noted_in, value_kind, worth_of}
use Rattle.worth_steps.specs.inside.Editing.{edited, put_of, revalued, with_put}
use Rattle.worth_steps.specs.inside.Showing.{AreOrdered, newest_by_kind, shown_by_kind, shown_value, value_number}
use Rattle.worth_steps.proofs.Acting.{deeds_by, last_more, steps_ascend, steps_more, steps_none, worth_is}
use Rattle.worth_steps.proofs.Bagged.{puts_more, puts_none, rises_more}

-- What some tree may have on an item suits it.

one_of : (a b c : Bool) → (a ≡ true → a || (b || c) ≡ true) × (b ≡ true → a || (b || c) ≡ true) × (c ≡ true → a || (b || c) ≡ true)
one_of true b c = (λ e. refl, λ e. refl, λ e. refl)
one_of false true c = (λ e. refl, λ e. refl, λ e. refl)
one_of false false c = (λ e. absurd (cc e), λ e. absurd (cc e), λ e. e)

pub fits_suits : (t : TreeKind) (k : Kind) (d : Deed) → IsTrue (deed_fits t k d) → IsTrue (deed_suits k d)
fits_suits trees.Update k d f = (one_of (deed_fits trees.Update k d) (deed_fits trees.Read k d) (deed_fits trees.Strict k d)).0 f
fits_suits trees.Read k d f = (one_of (deed_fits trees.Update k d) (deed_fits trees.Read k d) (deed_fits trees.Strict k d)).1 f
fits_suits trees.Strict k d f = (one_of (deed_fits trees.Update k d) (deed_fits trees.Read k d) (deed_fits trees.Strict k d)).2 f

-- A get.

abbrev a_get : ℕ → Noted
a_get u = record { version = u; deed = Get }

stays_by : (b : Bool) (w : Value) → (if b then after_deed Get w else w) ≡ w
stays_by true w = refl
stays_by false w = refl

get_in : (u v : ℕ) (ns : List Noted) (w : Value) → fold after_noted w (noted_in v (ns ++ a_get u ∷ [])) ≡ fold after_noted w (noted_in v ns)
get_in u v ns w = deeds_by v ns (a_get u) w ∙ stays_by (u == v) (fold after_noted w (noted_in v ns))

get_worth : (u : ℕ) (ns : List Noted) (w : Value) (v : ℕ) → worth_of w (ns ++ a_get u ∷ []) v ≡ worth_of w ns v
get_worth u ns w zero = get_in u zero ns w
get_worth u ns w (suc v) =
    fold-append after_noted w (in_order (ns ++ a_get u ∷ []) v) (noted_in (suc v) (ns ++ a_get u ∷ []))
    ∙ ap (λ (x : Value). fold after_noted x (noted_in (suc v) (ns ++ a_get u ∷ []))) (get_worth u ns w v)
    ∙ get_in u (suc v) ns (worth_of w ns v)
    ∙ sym (fold-append after_noted w (in_order ns v) (noted_in (suc v) ns))

get_steps : (k : Kind) (n : ℤ) (u : ℕ) (ns : List Noted) (ss : List WorthStep) → AreSteps k n ns ss → AreSteps k n (ns ++ a_get u ∷ []) ss
get_steps k n u ns ss are = record {
  acts = λ v m. get_in u v ns (value_start k m) ∙ are.acts v m;
  chained = are.chained;
  newest = last_more ns (a_get u) ∙ are.newest;
}

get_puts : (u : ℕ) (ns : List Noted) (ps : List Put) → ArePuts ns ps → ArePuts (ns ++ a_get u ∷ []) ps
get_puts u ns ps are = record {
  shows = λ v. get_worth u ns (values.Bag []) v ∙ are.shows v;
  newest = last_more ns (a_get u) ∙ are.newest;
}

get_of : (k : Kind) (u : ℕ) (ns : List Noted) (w : WorthsData) → AreWorthsOf k ns w → AreWorthsOf k (ns ++ a_get u ∷ []) w
get_of Sum u ns w are = get_steps w.kind w.first u ns w.steps are
get_of Top u ns w are = get_steps w.kind w.first u ns w.steps are
get_of Bag u ns w are = get_puts u ns w.puts are

pub noted_get : (first : Value) (ns : List Noted) (u : ℕ) (d : Deed) (w : WorthsData) → alters d ≡ false → AreWorths first ns w
    → AreWorths first (ns ++ record { version = u; deed = d } ∷ []) w
noted_get first ns u (Apply op) w none are = absurd (cc none)
noted_get first ns u (Set n) w none are = absurd (cc none)
noted_get first ns u (Draw n) w none are = absurd (cc none)
noted_get first ns u Get w none are = record {
  starts = are.starts;
  ascends = are.ascends;
  rises = are.rises;
  kept = get_of w.kind u ns w are.kept;
}

-- A put.

pub noted_put : (first : Value) (ns : List Noted) (u : ℕ) (d : Deed) (k : Kind) (n : ℤ) (ss : List WorthStep) (ps qs : List Put) (p : Put)
    → IsTrue (deed_suits k d) → Some p ≡ put_of u d → qs ≡ with_put p ps
    → AreWorths first ns (record { kind = k; first = n; steps = ss; puts = ps })
    → AreWorths first (ns ++ record { version = u; deed = d } ∷ []) (record { kind = k; first = n; steps = ss; puts = qs })
noted_put first ns u (Apply (ops.Add a)) k n ss ps qs p f is made are = absurd (cc is)
noted_put first ns u (Apply (ops.Top a)) k n ss ps qs p f is made are = absurd (cc is)
noted_put first ns u Get k n ss ps qs p f is made are = absurd (cc is)
noted_put first ns u (Set a) k n ss ps qs p f is made are = absurd (cc is)
noted_put first ns u (Draw a) k n ss ps qs p f is made are = absurd (cc is)
noted_put first ns u (Apply (ops.Put a)) Sum n ss ps qs p f is made are = absurd (cc f)
noted_put first ns u (Apply (ops.Put a)) Top n ss ps qs p f is made are = absurd (cc f)
noted_put first ns u (Apply (ops.Put a)) Bag n ss ps qs p f is made are =
    let x : Put = record { number = a; version = record { 0 = u } } in
    let same : x ≡ p = cc is in
    let all : with_put x ps ≡ qs = ap (λ (y : Put). with_put y ps) same ∙ sym made in
    record {
      starts = are.starts;
      ascends = are.ascends;
      rises = subst Rises all (rises_more x ps are.rises);
      kept = subst (ArePuts (ns ++ record { version = u; deed = Apply (ops.Put a) } ∷ [])) all (puts_more ns ps x are.rises are.kept);
    }

-- Any other deed.

apart_by : (k : Kind) (d : Deed) (u : ℕ) → IsTrue (deed_suits k d) → alters d ≡ true → None ≡ put_of u d → k ≡ Bag → ⊥
apart_by Sum d u f new none is = cc is
apart_by Top d u f new none is = cc is
apart_by Bag (Apply (ops.Add a)) u f new none is = absurd (cc f)
apart_by Bag (Apply (ops.Top a)) u f new none is = absurd (cc f)
apart_by Bag (Apply (ops.Put a)) u f new none is = absurd (cc none)
apart_by Bag Get u f new none is = absurd (cc new)
apart_by Bag (Set a) u f new none is = absurd (cc f)
apart_by Bag (Draw a) u f new none is = absurd (cc f)

chained_of : (k : Kind) (n : ℤ) (ns : List Noted) (ss : List WorthStep) (ps : List Put) → (k ≡ Bag → ⊥)
    → AreWorthsOf k ns (record { kind = k; first = n; steps = ss; puts = ps }) → AreSteps k n ns ss
chained_of Sum n ns ss ps apart are = are
chained_of Top n ns ss ps apart are = are
chained_of Bag n ns ss ps apart are = absurd (apart refl)

of_steps : (k : Kind) (n : ℤ) (ns : List Noted) (ss : List WorthStep) (ps : List Put) → (k ≡ Bag → ⊥) → AreSteps k n ns ss
    → AreWorthsOf k ns (record { kind = k; first = n; steps = ss; puts = ps })
of_steps Sum n ns ss ps apart are = are
of_steps Top n ns ss ps apart are = are
of_steps Bag n ns ss ps apart are = absurd (apart refl)

pub noted_step : (first : Value) (ns : List Noted) (u : ℕ) (d : Deed) (k : Kind) (n : ℤ) (ss ts : List WorthStep) (ps : List Put)
    → IsTrue (deed_suits k d) → alters d ≡ true → None ≡ put_of u d
    → (Ascends ss → Chained k n ss → ts ≡ revalued k n (edited u d ss))
    → AreWorths first ns (record { kind = k; first = n; steps = ss; puts = ps })
    → AreWorths first (ns ++ record { version = u; deed = d } ∷ []) (record { kind = k; first = n; steps = ts; puts = ps })
noted_step first ns u d k n ss ts ps f new none made are =
    let x : Noted = record { version = u; deed = d } in
    let apart = apart_by k d u f new none in
    let steps : AreSteps k n ns ss = chained_of k n ns ss ps apart are.kept in
    let is : revalued k n (edited u d ss) ≡ ts = sym (made are.ascends steps.chained) in
    record {
      starts = are.starts;
      ascends = subst Ascends is (steps_ascend k n u d ss are.ascends);
      rises = are.rises;
      kept = of_steps k n (ns ++ x ∷ []) ts ps apart
          (subst (AreSteps k n (ns ++ x ∷ [])) is (steps_more k n ns ss x apart f new are.ascends steps));
    }

-- Before any deed.

starts_as : (first : Value) → MayBegin first → first ≡ value_start (value_kind first) (value_number first)
starts_as (values.Sum n) may = refl
starts_as (values.Top n) may = refl
starts_as (values.Bag ns) may = ap values.Bag may

none_of : (k : Kind) (n : ℤ) → AreWorthsOf k [] (record { kind = k; first = n; steps = []; puts = [] })
none_of Sum n = steps_none Sum n
none_of Top n = steps_none Top n
none_of Bag n = puts_none

pub none_noted : (first : Value) (k : Kind) (n : ℤ) (ss : List WorthStep) (ps : List Put) → MayBegin first
    → k ≡ value_kind first → n ≡ value_number first → ss ≡ [] → ps ≡ []
    → AreWorths first [] (record { kind = k; first = n; steps = ss; puts = ps })
none_noted first k n ss ps may kind number none empty =
    let start : WorthsData = record { kind = value_kind first; first = value_number first; steps = []; puts = [] } in
    let same : start ≡ record { kind = k; first = n; steps = ss; puts = ps }
    = λ i. record { kind = sym kind i; first = sym number i; steps = sym none i; puts = sym empty i } in
    subst (AreWorths first []) same (record {
      starts = starts_as first may;
      ascends = tt;
      rises = tt;
      kept = none_of (value_kind first) (value_number first);
    })

-- What is shown.

pub ordered : (first : Value) (ns : List Noted) (w : WorthsData) → AreWorths first ns w → AreOrdered w
ordered first ns w are = record { ascends = are.ascends; rises = are.rises }

shown_of : (k : Kind) (n : ℤ) (ns : List Noted) (ss : List WorthStep) (ps : List Put) (v : ℕ) → Ascends ss
    → AreWorthsOf k ns (record { kind = k; first = n; steps = ss; puts = ps })
    → shown_by_kind k (record { kind = k; first = n; steps = ss; puts = ps }) v ≡ worth_of (value_start k n) ns v
shown_of Sum n ns ss ps v up are = worth_is Sum n ns ss v up are
shown_of Top n ns ss ps v up are = worth_is Top n ns ss v up are
shown_of Bag n ns ss ps v up are = sym (are.shows v)

pub shown_is_worth : (first : Value) (ns : List Noted) (w : WorthsData) (v : ℕ) → AreWorths first ns w
    → shown_value w v ≡ worth_of first ns v
shown_is_worth first ns w v are =
    shown_of w.kind w.first ns w.steps w.puts v are.ascends are.kept ∙ ap (λ (x : Value). worth_of x ns v) (sym are.starts)

newest_of : (k : Kind) (ns : List Noted) (w : WorthsData) → AreWorthsOf k ns w → newest_by_kind k w ≡ last_altered ns
newest_of Sum ns w are = sym are.newest
newest_of Top ns w are = sym are.newest
newest_of Bag ns w are = sym are.newest

pub newest_is_last : (first : Value) (ns : List Noted) (w : WorthsData) → AreWorths first ns w
    → newest_by_kind w.kind w ≡ last_altered ns
newest_is_last first ns w are = newest_of w.kind ns w are.kept
