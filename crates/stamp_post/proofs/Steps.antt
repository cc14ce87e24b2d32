-- Each step keeps the rule.
use Rattle.std.proofs.Common.{◌≡◌, ◌≢◌, ℕ, zero, suc, ◌+◌, ◌-◌, ◌*◌, ◌%◌, ◌^◌, ◌<◌, ◌≤◌, Bool, List, [], ◌∷◌, ◌++◌, length, set, get_or, refl, sym, ap, ◌∙◌, subst, inl, inr, ⊎_elim, arith, length-append, length-set, get_or-set_same, mul-le-mul_right, eq-eqb, ne_eqb, Option, Some, None}
use Rattle.std.specs.Prelude.{slice_get}
use Rattle.std.proofs.lemmas.List.{append-nil}
use Rattle.std.proofs.lemmas.Option.{slice_get_within}
use Rattle.tv_base.proofs.ByPlace.{slice_get_split}
use mathlib.Core.Option.{none, some, some-injective, some-ne-none}
use native.Mathlib.Decide.{ℕ_discrete}
use lib.ListN.{get_elem?}
use Rattle.atomic_table.specs.Table.{State, keeps, step, Allows, Splits, Joins, Final, Seen}
use Rattle.atomic_table.proofs.Lists.{at_set}
use Rattle.letter_types.specs.declared.entries.Letter.{Letter}
use Rattle.letter_types.specs.declared.entries.LetterId.{LetterId}
use Rattle.letter_types.specs.declared.entries.Outgoing.{Outgoing}
use Rattle.letter_types.specs.declared.entries.Posting.{Posting}
use Rattle.letter_types.specs.Letters.{go}
use Rattle.letter_types.specs.Postal.{IsMessageRun}
use Rattle.stamp_post.specs.declared.rule.JoinedSeat.{JoinedSeat}
use Rattle.stamp_post.specs.declared.rule.JoinedReceipt.{JoinedReceipt}
use Rattle.stamp_post.specs.declared.rule.View.{View}
use Rattle.stamp_post.specs.declared.rule.View.TheVariants.{Gathering, Acting, Sending, Carrying, Spent}
use Rattle.stamp_post.specs.Logs.{most, own_postings, posting, Stands, AreFirst, WasSent}
use Rattle.stamp_post.specs.Rules.{HoldsGo, HoldsTaken, HoldsUnsent, Fits, KeepsLog, Ruled}
use Rattle.stamp_post.specs.Moves.{Stamped}
use Rattle.stamp_post.specs.Shown.{joined_seat, joined_receipt, Gathers}
use Rattle.stamp_post.proofs.Lists.{view_split, own_here, own_other, IsByMade, none_by, log_bounded, sent_as, put_at, put_here, put_else}
use Rattle.stamp_post.proofs.Claims.{stands_last, sent_before, postal_more, was_taken, fits_more, move, moved_in, moved_out, AllOf, sent_there, stays, fits_moved, is_id, is_stamp, id_here, id_other_place, id_other_stamp, all_id, all_new, is_of_posting, all_stamp}

-- what holds of all views after a step, a split and a join
set_views : (P : ℕ → View → Type 0) (views : List View) (id : ℕ) (w : View) → ((j : ℕ) (v : View) → j ≢ id
    → get_elem? views j ≡ some v → P j v) → P id w
    → (j : ℕ) (v : View) → get_elem? (set views id w) j ≡ some v → P j v
set_views P views id w rest mine j v at = ⊎_elim
    (λ (t : (j ≡ id) × (w ≡ v)). subst (λ (z : ℕ × View). P z.0 z.1) (λ i. (sym t.0 i, t.1 i)) mine)
    (λ (t : (j ≢ id) × (get_elem? views j ≡ some v)). rest j v t.0 t.1)
    (at_set views id j w v at)

split_views : (P : ℕ → View → Type 0) (views : List View) (id : ℕ) (left right : View) → ((j : ℕ) (v : View) → j ≢ id
    → get_elem? views j ≡ some v → P j v) → P id left → P (length (set views id left)) right
    → (j : ℕ) (v : View) → get_elem? (set views id left ++ right ∷ []) j ≡ some v → P j v
split_views P views id left right rest mine new j v at = ⊎_elim
    (λ (was : get_elem? (set views id left) j ≡ some v). set_views P views id left rest mine j v was)
    (λ (t : (j ≡ length (set views id left)) × (right ≡ v)). subst (λ (z : ℕ × View). P z.0 z.1)
    (λ i. (sym t.0 i, t.1 i)) new)
    (view_split (set views id left) right v j at)

join_views : (P : ℕ → View → Type 0) (views : List View) (id other : ℕ) (w : View) → ((j : ℕ) (v : View) → j ≢ id
    → j ≢ other → get_elem? views j ≡ some v → P j v) → P id w → P other Spent
    → (j : ℕ) (v : View) → get_elem? (set (set views id w) other Spent) j ≡ some v → P j v
join_views P views id other w rest mine spent j v at = ⊎_elim
    (λ (t : (j ≡ other) × (Spent ≡ v)). subst (λ (z : ℕ × View). P z.0 z.1) (λ i. (sym t.0 i, t.1 i)) spent)
    (λ (t : (j ≢ other) × (get_elem? (set views id w) j ≡ some v)). ⊎_elim
    (λ (u : (j ≡ id) × (w ≡ v)). subst (λ (z : ℕ × View). P z.0 z.1) (λ i. (sym u.0 i, u.1 i)) mine)
    (λ (u : (j ≢ id) × (get_elem? views j ≡ some v)). rest j v u.0 t.0 u.1)
    (at_set views id j w v t.1))
    (at_set (set views id w) other j Spent v at)

other_view : (views : List View) (id other : ℕ) (w v : View) → other ≢ id → get_elem? (set views id w) other ≡ some v
    → get_elem? views other ≡ some v
other_view views id other w v apart at =
    ⊎_elim {C = get_elem? views other ≡ some v} (λ (t : (other ≡ id) × (w ≡ v)). absurd (apart t.0)) (λ t. t.1)
    (at_set views id other w v at)

suc_apart : (j i : ℕ) → j ≢ i → suc j ≢ suc i
suc_apart j i ne e = ne (omega arith)

none_at : {A : Type 0} (k : ℕ) (a : A) → slice_get [] k ≡ Some a → ⊥
none_at k a e = grind (arith, e)

no_postings : (client : ℕ) → IsMessageRun client []
no_postings client = record {
  stamps = λ k e at. absurd (none_at k e at);
  sent = λ k e at. absurd (none_at k e at);
  once = λ j k e f lt at at'. absurd (none_at j e at);
  addressee = λ k e at. absurd (none_at k e at);
  known = λ k e at. absurd (none_at k e at);
}

-- the table at the start
pub begins : (actors : ℕ) → actors < 256 → KeepsLog actors (0 ∷ 0 ∷ []) (Gathering 0 (Some (go (actors - 1))) [] [] ∷ [])
begins actors small = record {
  log = [];
  owner = λ a. 0;
  made = 0;
  holder = λ s p. 1;
  two = refl;
  clock = refl;
  postal = no_postings (actors - 1);
  few = (omega arith, small);
  by_made = λ k e at. absurd (none_at k e at);
  each = λ a. omega arith;
  gone = λ k e at. absurd (none_at k e at);
  fits = one;
}
  where
    one : (id : ℕ) (v : View) → get_elem? (Gathering 0 (Some (go (actors - 1))) [] [] ∷ []) id ≡ some v
        → Fits (actors - 1) [] (λ a. 0) 0 (λ s p. 1) id v
    one zero v e = subst (Fits (actors - 1) [] (λ a. 0) 0 (λ s p. 1) 0) (some-injective _ _ e)
        (refl, refl, (λ k s at. absurd (none_at k s at)), (inl refl, refl), λ k r at. absurd (none_at k r at))
    one (suc id) v e = absurd (some-ne-none v (sym e))

made_more : (made : ℕ) (log : List Posting) (p : Posting) → IsByMade made log → p.actor.0 < made
    → IsByMade made (log ++ p ∷ [])
made_more made log p by_made lt k x at = elim (slice_get_split log p k x at) [
  | inl t ↦ by_made k x t.1
  | inr t ↦ subst (λ (y : Posting). y.actor.0 < made) t.1 lt
]

each_more : (log : List Posting) (p : Posting) → ((a : ℕ) → length (own_postings a log) ≤ most)
    → length (own_postings p.actor.0 log) < most → (a : ℕ) → Dec (p.actor.0 ≡ a)
    → length (own_postings a (log ++ p ∷ [])) ≤ most
each_more log p each room a (yes same) =
    let short : length (own_postings a log) < most = subst (λ (n : ℕ). length (own_postings n log) < most) same room in
    omega (arith, ap length (own_here a log p same), length-append (own_postings a log) (p ∷ []))
each_more log p each room a (no apart) = omega (arith, ap length (own_other a log p apart), each a)

abbrev IsGone : List Posting → (ℕ → ℕ → ℕ) → Type 0
IsGone log holder = (k : ℕ) (e : Posting) → slice_get log k ≡ Some e → holder e.took.id.stamp.0 e.took.id.place ≡ 0

-- a letter that a seat holds was taken by no posting
first_taken : (log : List Posting) (holder : ℕ → ℕ → ℕ) (at : ℕ) (l : Letter) → IsGone log holder
    → holder l.id.stamp.0 l.id.place ≡ suc at
    → (k : ℕ) (d : Posting) → slice_get log k ≡ Some d → d.took.id ≢ l.id
first_taken log holder at l gone held k d there same = absurd
    (omega (arith, sym (gone k d there) ∙ ap (λ (i : LetterId). holder i.stamp.0 i.place) same ∙ held))

gone_moved : (client : ℕ) (log : List Posting) (holder : ℕ → ℕ → ℕ) (sel : ℕ → ℕ → Bool) (old new : ℕ)
    → AllOf client log holder sel (suc old) → IsMessageRun client log → IsGone log holder → IsGone log (move holder sel new)
gone_moved client log holder sel old new all postal gone k e at = stays client log holder sel
    (suc old) new all e.took 0 (was_taken client log k e postal at) (gone k e at) (λ z. absurd (omega arith))

total_bound : (m n : ℕ) → m < 256 → n ≤ m * most → n ≤ 256 * most
total_bound m n lt le = let small : m ≤ 256 = omega arith in let up : m * most ≤ 256 * most =
    mul-le-mul_right most small in omega arith

-- the step of the clock
pub stamps : (actors slots id n : ℕ) (own : List Posting) (l : Letter) (unsent : Option Posting)
    (rest : List (ℕ × Unit {0})) (sent : List Outgoing) → length own < most
    → Allows (Ruled actors) slots id (Acting n own (Some l) unsent, rest) 1 (λ x. (x + 1) % 2 ^ 64)
    (Stamped sent (step slots 1 1 0 none) (Acting n own (Some l) unsent, rest))
stamps actors slots id n own l unsent rest sent room s r wide at small =
    let client : ℕ = actors - 1 in
    let x : ℕ = get_or s.words 1 0 in
    let f = r.fits id (Acting n own (Some l) unsent) at in
    let held = f.3.0 in
    let p : Posting = posting (x + 1) n l sent in
    let w : View = Acting n (own ++ p ∷ []) None (Some p) in
    let log : List Posting = r.log ++ p ∷ [] in
    let few = r.few in
    let mine : n < r.made = f.0 in
    let clock : x ≡ length r.log = r.clock in
    let total = log_bounded r.made most r.log r.by_made r.each in
    let made_few : r.made < 256 = omega (arith, few.0, few.1) in
    let fits_word : x + 1 < 18446744073709551616 = omega (
      arith,
      clock,
      total_bound r.made (length r.log) made_few total,
    ) in
    let next : (x + 1) % 18446744073709551616 ≡ x + 1 = omega (arith, fits_word) in
    let long : length log ≡ x + 1 = omega (arith, clock, length-append r.log (p ∷ [])) in
    let is_own : own ≡ own_postings n r.log = f.2 in
    let before = sent_before client r.log l held.0 in
    let above : length r.log < x + 1 = omega (arith, clock) in
    let all1 = all_id client r.log r.holder l.id (suc id) held.1 in
    let h1 : ℕ → ℕ → ℕ = move r.holder (is_id l.id) 0 in
    let all2 = all_new client r.log h1 (x + 1) (suc id) above in
    let h2 : ℕ → ℕ → ℕ = move h1 (is_stamp (x + 1)) (suc id) in
    let gone2 = gone_moved client r.log h1 (is_stamp (x + 1)) id (suc id) all2 r.postal
    (gone_moved client r.log r.holder (is_id l.id) id 0 all1 r.postal r.gone) in
    let stamped : x + 1 ≡ length r.log + 1 = omega (arith, clock) in
    let known : n < client + 1 = omega (arith, mine, few.0) in (
      w,
      keeps,
      tt,
      record {
        log = log;
        owner = r.owner;
        made = r.made;
        holder = h2;
        two = length-set s.words 1 ((x + 1) % 18446744073709551616) ∙ r.two;
        clock = get_or-set_same s.words 1 ((x + 1) % 18446744073709551616) 0 (omega (arith, r.two)) ∙ next ∙ sym long;
        postal = postal_more client r.log p r.postal stamped held.0 (first_taken r.log r.holder id l r.gone held.1)
            f.3.1 known;
        few = few;
        by_made = made_more r.made r.log p r.by_made mine;
        each = λ a. each_more r.log p r.each (subst (λ (es : List Posting). length es < most) is_own room) a
            (ℕ_discrete n a);
        gone = λ k d here. elim (slice_get_split r.log p k d here) [
          | inl t ↦ gone2 k d t.1
          | inr t ↦ subst (λ (y : Posting). h2 y.took.id.stamp.0 y.took.id.place ≡ 0) t.1
              (moved_out h1 (is_stamp (x + 1)) (suc id) l.id.stamp.0 l.id.place (ne_eqb l.id.stamp.0 (x + 1)
              (λ q. absurd (omega (arith, before, above, q))))
              ∙ moved_in r.holder (is_id l.id) 0 l.id.stamp.0 l.id.place (id_here l.id))
        ];
        fits = set_views (λ j v. Fits client log r.owner r.made h2 j v) s.views id w
            (λ j v apart here. fits_more client r.log r.owner r.made h2 j p id v f.1 apart
            (fits_moved client r.log h1 (is_stamp (x + 1)) (suc id) (suc id) all2 r.owner r.made j
            (suc_apart j id apart) v
            (fits_moved client r.log r.holder (is_id l.id) (suc id) 0 all1 r.owner r.made j (suc_apart j id apart) v
            (r.fits j v here)))) (
              f.0,
              f.1,
              ap (λ es. es ++ p ∷ []) is_own ∙ sym (own_here n r.log p refl),
              tt,
              (
                stands_last r.log p stamped,
                refl,
                λ k o le out. moved_in h1 (is_stamp (x + 1)) (suc id) (x + 1) k
                    (eq-eqb (x + 1) (x + 1) refl),
              ),
              (λ l' p' none_is _. absurd (grind (arith, none_is))),
            );
      },
      (fits_word, refl),
    )

-- a new actor leaves what the others know
module _ (client : ℕ) (log : List Posting) (owner : ℕ → ℕ) (made : ℕ) (holder : ℕ → ℕ → ℕ) (at id : ℕ) where
  taken_same : (owner' : ℕ → ℕ) (made' n : ℕ) (t : Option Letter) → HoldsTaken client log owner made holder id n t
      → HoldsTaken client log owner' made' holder id n t
  taken_same owner' made' n None h = h
  taken_same owner' made' n (Some l) h = h

  unsent_same : (owner' : ℕ → ℕ) (made' n : ℕ) (u : Option Posting) → HoldsUnsent client log owner made holder id n u
      → HoldsUnsent client log owner' made' holder id n u
  unsent_same owner' made' n None h = h
  unsent_same owner' made' n (Some p) h = h

  go_same : (owner' : ℕ → ℕ) (made' : ℕ) (t : Option Letter) → HoldsGo client log owner made holder id t
      → HoldsGo client log owner' made' holder id t
  go_same owner' made' None h = h
  go_same owner' made' (Some l) h = h

  fits_made : (v : View) → id ≢ 0 → Fits client log owner made holder id v → Fits client log (put_at owner made at)
      (made + 1) holder id v
  fits_made (Gathering m first seats receipts) apart f = absurd (apart f.0)
  fits_made (Acting n own taken unsent) apart f = let lt : n < made = f.0 in (
    omega (arith, lt),
    put_else owner made at n (λ e. omega (arith, lt, e)) ∙ f.1,
    f.2,
    taken_same (put_at owner made at) (made + 1) n taken f.3,
    unsent_same (put_at owner made at) (made + 1) n unsent f.4,
    f.5,
  )
  fits_made (Sending n own p next) apart f = f
  fits_made (Carrying l) apart f = f
  fits_made Spent apart f = tt

  -- an actor that was joined leaves what the others know
  fits_joined : (n other : ℕ) (v : View) → owner n ≡ other → id ≢ other → id ≢ 0
      → Fits client log owner made holder id v → Fits client log (put_at owner n at) made holder id v
  fits_joined n other (Gathering m first seats receipts) his apart not_first f = absurd (not_first f.0)
  fits_joined n other (Acting k own taken unsent) his apart not_first f = (
    f.0,
    put_else owner n at k (λ e. apart (sym f.1 ∙ ap owner e ∙ his)) ∙ f.1,
    f.2,
    taken_same (put_at owner n at) made k taken f.3,
    unsent_same (put_at owner n at) made k unsent f.4,
    f.5,
  )
  fits_joined n other (Sending k own p next) his apart not_first f = f
  fits_joined n other (Carrying l) his apart not_first f = f
  fits_joined n other Spent his apart not_first f = tt

pub splits_actor : (actors id m : ℕ) (first : Option Letter) (seats : List JoinedSeat) (receipts : List JoinedReceipt)
    → m < actors
    → Splits (Ruled actors) id (Gathering m first seats receipts) (Gathering (m + 1) first seats receipts)
    (Acting m [] None None)
splits_actor actors id m first seats receipts room s r at =
    let client : ℕ = actors - 1 in
    let f = r.fits id (Gathering m first seats receipts) at in
    let same : m ≡ r.made = f.1 in
    let w : View = Gathering (m + 1) first seats receipts in
    let views : List View = set s.views id w in
    let owner : ℕ → ℕ = put_at r.owner r.made (length views) in
    let le : r.made ≤ m = omega (arith, same) in
    let none_yet : own_postings m r.log ≡ [] = none_by r.made m r.log r.by_made le in record {
      log = r.log;
      owner = owner;
      made = r.made + 1;
      holder = r.holder;
      two = r.two;
      clock = r.clock;
      postal = r.postal;
      few = (omega (arith, same, room), r.few.1);
      by_made = λ k p here. let lt = r.by_made k p here in omega (arith, lt);
      each = r.each;
      gone = r.gone;
      fits = split_views (λ j v. Fits client r.log owner (r.made + 1) r.holder j v) s.views id w (Acting m [] None None)
          (λ j v apart here. fits_made client r.log r.owner r.made r.holder (length views) j v
          (λ e. apart (e ∙ sym f.0)) (r.fits j v here)) (
            f.0,
            omega (arith, same),
            (λ k x there. let old = f.2 k x there in let lt : x.number < r.made = old.1 in (
              put_else r.owner r.made (length views) x.number (λ e. omega (arith, lt, e)) ∙ old.0,
              omega (arith, lt),
              old.2,
            )),
            go_same client r.log r.owner r.made r.holder (length views) id owner (r.made + 1) first f.3,
            f.4,
          ) (
            omega (arith, same),
            put_here r.owner r.made (length views) m same,
            sym none_yet,
            tt,
            tt,
            λ l p none_is _. absurd (grind (arith, none_is)),
          );
    }

-- letters of one seat go to a new seat
splits : (actors id : ℕ) (v left right : View) (sel : ℕ → ℕ → Bool)
    → ((s : State (Unit {0}) View) (r : Ruled actors s) → Fits (actors - 1) r.log r.owner r.made r.holder id v → (N : ℕ)
    → AllOf (actors - 1) r.log r.holder sel (suc id) × Fits (actors - 1) r.log r.owner r.made
    (move r.holder sel (suc N)) id left × Fits (actors - 1) r.log r.owner r.made
    (move r.holder sel (suc N)) N right)
    → Splits (Ruled actors) id v left right
splits actors id v left right sel how s r at =
    let client : ℕ = actors - 1 in
    let N : ℕ = length (set s.views id left) in
    let h = how s r (r.fits id v at) N in
    let holder : ℕ → ℕ → ℕ = move r.holder sel (suc N) in record {
      log = r.log;
      owner = r.owner;
      made = r.made;
      holder = holder;
      two = r.two;
      clock = r.clock;
      postal = r.postal;
      few = r.few;
      by_made = r.by_made;
      each = r.each;
      gone = gone_moved client r.log r.holder sel id (suc N) h.0 r.postal r.gone;
      fits = split_views (λ j u. Fits client r.log r.owner r.made holder j u) s.views id left right
          (λ j u apart here. fits_moved client r.log r.holder sel (suc id) (suc N) h.0 r.owner r.made j
          (suc_apart j id apart) u (r.fits j u here))
          h.1
          h.2;
    }

pub splits_go : (actors id m : ℕ) (l : Letter) (seats : List JoinedSeat) (receipts : List JoinedReceipt)
    → Splits (Ruled actors) id (Gathering m (Some l) seats receipts) (Gathering m None seats receipts) (Carrying l)
splits_go actors id m l seats receipts = splits actors id (Gathering m (Some l) seats receipts)
    (Gathering m None seats receipts) (Carrying l) (is_id l.id) (λ s r f N. (
      all_id (actors - 1) r.log r.holder l.id (suc id) f.3.1,
      (f.0, f.1, f.2, tt, f.4),
      (f.3.0, moved_in r.holder (is_id l.id) (suc N) l.id.stamp.0 l.id.place (id_here l.id)),
    ))

-- the letter that the actor has taken isn't one of its last posting's, so it stays
taken_stays : (client : ℕ) (log : List Posting) (owner : ℕ → ℕ) (made : ℕ) (holder : ℕ → ℕ → ℕ) (id n stamp new : ℕ)
    (taken : Option Letter) → ((l : Letter) → taken ≡ Some l → l.id.stamp.0 ≢ stamp)
    → HoldsTaken client log owner made holder id n taken → HoldsTaken client log owner made
    (move holder (is_stamp stamp) new) id n taken
taken_stays client log owner made holder id n stamp new None apart h = tt
taken_stays client log owner made holder id n stamp new (Some l) apart h = (
  (
    h.0.0,
    moved_out holder (is_stamp stamp) new l.id.stamp.0 l.id.place (ne_eqb l.id.stamp.0 stamp (apart l refl))
        ∙ h.0.1,
  ),
  h.1,
)

pub splits_outbox : (actors id n : ℕ) (own : List Posting) (taken : Option Letter) (p : Posting)
    → Splits (Ruled actors) id (Acting n own taken (Some p)) (Acting n own taken None) (Sending n own p 0)
splits_outbox actors id n own taken p = splits actors id (Acting n own taken (Some p)) (Acting n own taken None)
    (Sending n own p 0) (is_stamp p.stamp.0) (λ s r f N. (
      all_stamp (actors - 1) r.log r.owner r.made r.holder id p f.4.0 f.4.2,
      (
        f.0,
        f.1,
        f.2,
        taken_stays (actors - 1) r.log r.owner r.made r.holder id n p.stamp.0 (suc N) taken
            (λ l is. f.5 l p is refl) f.3,
        tt,
        λ l p' _ none_is. absurd (grind (arith, none_is)),
      ),
      (
        ([], sym (append-nil own ∙ f.2)),
        f.4.0,
        f.4.1,
        λ k o le out. moved_in r.holder (is_stamp p.stamp.0)
            (suc N) p.stamp.0 k (eq-eqb p.stamp.0 p.stamp.0 refl),
      ),
    ))

pub splits_envelope : (actors id n : ℕ) (own : List Posting) (p : Posting) (next : ℕ) (o : Outgoing)
    → slice_get p.sent next ≡ Some o
    → Splits (Ruled actors) id (Sending n own p next) (Sending n own p (next + 1))
    (Carrying (sent_as p.stamp.0 p.actor.0 next o))
splits_envelope actors id n own p next o out = let l : Letter = sent_as p.stamp.0 p.actor.0 next o in
    splits actors id (Sending n own p next) (Sending n own p (next + 1)) (Carrying l) (is_id l.id) (λ s r f N. (
      all_id (actors - 1) r.log r.holder l.id (suc id) (f.3 next o (omega arith) out),
      (
        f.0,
        f.1,
        f.2,
        λ k x le there. moved_out r.holder (is_id l.id) (suc N) p.stamp.0 k
            (id_other_place l.id p.stamp.0 k (λ q. absurd (omega (arith, le, q)))) ∙ f.3 k x (omega (arith, le)) there,
      ),
      (
        sent_there (actors - 1) r.log p next o f.1 out,
        moved_in r.holder (is_id l.id) (suc N) p.stamp.0 next
            (id_here l.id),
      ),
    ))

pub splits_witness : (actors id n : ℕ) (own : List Posting) (p : Posting) (next : ℕ)
    → Splits (Ruled actors) id (Sending n own p next) (Sending n own p next) (Sending n own p (length p.sent))
splits_witness actors id n own p next s r at =
    let client : ℕ = actors - 1 in
    let f = r.fits id (Sending n own p next) at in record {
      log = r.log;
      owner = r.owner;
      made = r.made;
      holder = r.holder;
      two = r.two;
      clock = r.clock;
      postal = r.postal;
      few = r.few;
      by_made = r.by_made;
      each = r.each;
      gone = r.gone;
      fits = split_views (λ j v. Fits client r.log r.owner r.made r.holder j v) s.views id (Sending n own p next)
          (Sending n own p (length p.sent)) (λ j v apart here. r.fits j v here) f (
            f.0,
            f.1,
            f.2,
            λ k o le there. absurd (omega (arith, le, slice_get_within p.sent k o there)),
          );
    }

-- a letter that comes isn't one of the last posting's, which are all here
comes_apart : (client : ℕ) (log : List Posting) (owner : ℕ → ℕ) (made : ℕ) (holder : ℕ → ℕ → ℕ) (id n other : ℕ)
    (unsent : Option Posting) (l : Letter) → HoldsUnsent client log owner made holder id n unsent
    → WasSent client log l → holder l.id.stamp.0 l.id.place ≡ suc other → other ≢ id → (p : Posting) → unsent ≡ Some p
    → l.id.stamp.0 ≢ p.stamp.0
comes_apart client log owner made holder id n other None l h sent there apart p is same = absurd (grind (arith, is))
comes_apart client log owner made holder id n other (Some d) l h sent there apart p is same =
    let one : d ≡ p = grind (arith, is) in
    let same' : l.id.stamp.0 ≡ d.stamp.0 = same ∙ ap (λ (x : Posting). x.stamp.0) (sym one) in
    let o = is_of_posting client log d l h.0 sent same' in
    let here : holder l.id.stamp.0 l.id.place ≡ suc id = ap (λ (x : ℕ). holder x l.id.place) same'
    ∙ h.2 l.id.place o.0 (omega arith) o.1 in
    apart (omega (arith, here, there))

-- the letters of the last posting stay
unsent_stays : (client : ℕ) (log : List Posting) (owner : ℕ → ℕ) (made : ℕ) (holder : ℕ → ℕ → ℕ) (id n new : ℕ)
    (unsent : Option Posting) (l : Letter) → ((p : Posting) → unsent ≡ Some p → l.id.stamp.0 ≢ p.stamp.0)
    → HoldsUnsent client log owner made holder id n unsent → HoldsUnsent client log owner made
    (move holder (is_id l.id) new) id n unsent
unsent_stays client log owner made holder id n new None l apart h = tt
unsent_stays client log owner made holder id n new (Some p) l apart h = (
  h.0,
  h.1,
  λ k o le at. moved_out holder (is_id l.id) new p.stamp.0 k (id_other_stamp l.id p.stamp.0 k
      (λ q. apart p refl (sym q))) ∙ h.2 k o le at,
)

-- an envelope reaches its addressee
pub joins_envelope : (actors id n : ℕ) (own : List Posting) (unsent : Option Posting) (other : ℕ) (l : Letter)
    → l.to.0 ≡ n
    → Joins (Ruled actors) id (Acting n own None unsent) other (Carrying l) (Acting n own (Some l) unsent) Spent
joins_envelope actors id n own unsent other l home s r at apart there =
    let client : ℕ = actors - 1 in
    let f = r.fits id (Acting n own None unsent) at in
    let w : View = Acting n own (Some l) unsent in
    let h = r.fits other (Carrying l) (other_view s.views id other w (Carrying l) apart there) in
    let all = all_id client r.log r.holder l.id (suc other) h.1 in
    let holder : ℕ → ℕ → ℕ = move r.holder (is_id l.id) (suc id) in
    let differs = comes_apart client r.log r.owner r.made r.holder id n other unsent l f.4 h.0 h.1 apart in record {
      log = r.log;
      owner = r.owner;
      made = r.made;
      holder = holder;
      two = r.two;
      clock = r.clock;
      postal = r.postal;
      few = r.few;
      by_made = r.by_made;
      each = r.each;
      gone = gone_moved client r.log r.holder (is_id l.id) other (suc id) all r.postal r.gone;
      fits = join_views (λ j u. Fits client r.log r.owner r.made holder j u) s.views id other w
          (λ j u _ not_other here. fits_moved client r.log r.holder (is_id l.id) (suc other)
          (suc id) all r.owner r.made j (suc_apart j other not_other) u (r.fits j u here)) (
            f.0,
            f.1,
            f.2,
            ((h.0, moved_in r.holder (is_id l.id) (suc id) l.id.stamp.0 l.id.place (id_here l.id)), home),
            unsent_stays client r.log r.owner r.made r.holder id n (suc id) unsent l differs f.4,
            (λ l' p is is'. let one : l ≡ l' = grind (arith, is) in
                subst (λ (x : Letter). x.id.stamp.0 ≢ p.stamp.0) one (differs p is')),
          )
          tt;
    }

pub joins_seat : (actors id m : ℕ) (first : Option Letter) (seats : List JoinedSeat) (receipts : List JoinedReceipt)
    (other n : ℕ) (own : List Posting) (taken : Option Letter) (unsent : Option Posting)
    → Joins (Ruled actors) id (Gathering m first seats receipts) other (Acting n own taken unsent)
    (Gathering m first (seats ++ joined_seat n own ∷ []) receipts) Spent
joins_seat actors id m first seats receipts other n own taken unsent s r at apart there =
    let client : ℕ = actors - 1 in
    let f = r.fits id (Gathering m first seats receipts) at in
    let w : View = Gathering m first (seats ++ joined_seat n own ∷ []) receipts in
    let h = r.fits other (Acting n own taken unsent) (other_view s.views id other w
    (Acting n own taken unsent) apart there) in
    let owner : ℕ → ℕ = put_at r.owner n id in record {
      log = r.log;
      owner = owner;
      made = r.made;
      holder = r.holder;
      two = r.two;
      clock = r.clock;
      postal = r.postal;
      few = r.few;
      by_made = r.by_made;
      each = r.each;
      gone = r.gone;
      fits = join_views (λ j u. Fits client r.log owner r.made r.holder j u) s.views id other w
          (λ j u not_first not_other here. fits_joined client r.log r.owner r.made r.holder id j n other u h.1
          not_other (λ e. not_first (e ∙ sym f.0)) (r.fits j u here)) (
            f.0,
            f.1,
            (λ k x here. elim (slice_get_split seats (joined_seat n own) k x here) [
              | inl t ↦ (let old = f.2 k x t.1 in (
                put_else r.owner n id x.number (λ e. apart (sym h.1 ∙ ap r.owner (sym e) ∙ old.0)) ∙ old.0,
                old.1,
                old.2,
              ))
              | inr t ↦ subst (λ (y : JoinedSeat). (owner y.number ≡ id) × (y.number < r.made)
                  × (y.own ≡ own_postings y.number r.log)) t.1 (put_here r.owner n id n refl, h.0, h.2)
            ]),
            go_same client r.log r.owner r.made r.holder id id owner r.made first f.3,
            f.4,
          )
          tt;
    }

pub joins_receipt : (actors id m : ℕ) (first : Option Letter) (seats : List JoinedSeat)
    (receipts : List JoinedReceipt) (other n : ℕ) (own : List Posting) (p : Posting) (next : ℕ)
    → Joins (Ruled actors) id (Gathering m first seats receipts) other (Sending n own p next)
    (Gathering m first seats (receipts ++ joined_receipt n own p ∷ [])) Spent
joins_receipt actors id m first seats receipts other n own p next s r at apart there =
    let client : ℕ = actors - 1 in
    let f = r.fits id (Gathering m first seats receipts) at in
    let w : View = Gathering m first seats (receipts ++ joined_receipt n own p ∷ []) in
    let h = r.fits other (Sending n own p next) (other_view s.views id other w (Sending n own p next) apart there) in
    record {
      log = r.log;
      owner = r.owner;
      made = r.made;
      holder = r.holder;
      two = r.two;
      clock = r.clock;
      postal = r.postal;
      few = r.few;
      by_made = r.by_made;
      each = r.each;
      gone = r.gone;
      fits = join_views (λ j u. Fits client r.log r.owner r.made r.holder j u) s.views id other w
          (λ j u _ _ here. r.fits j u here) (
            f.0,
            f.1,
            f.2,
            f.3,
            (λ k x here. elim (slice_get_split receipts (joined_receipt n own p) k x here) [
              | inl t ↦ f.4 k x t.1
              | inr t ↦ subst (λ (y : JoinedReceipt). AreFirst r.log y.number y.own × Stands r.log y.posting) t.1
                  (h.0, h.1)
            ]),
          )
          tt;
    }

-- what the last state shows
pub shows : (actors id m : ℕ) (first : Option Letter) (seats : List JoinedSeat) (receipts : List JoinedReceipt)
    (s : State (Unit {0}) View) → Seen (Ruled actors) id (Gathering m first seats receipts) s
    → Gathers actors seats receipts
shows actors id m first seats receipts s (r, at) = let f = r.fits id (Gathering m first seats receipts) at in record {
  log = r.log;
  postal = r.postal;
  own = λ k x here. (f.2 k x here).2;
  stands = λ k x here. (f.4 k x here).1;
  begins = λ k x here. (f.4 k x here).0;
}

word_of : (words : List ℕ) (i n : ℕ) → get_elem? words i ≡ some n → get_or words i 0 ≡ n
word_of [] i n e = absurd (some-ne-none n (sym e))
word_of (x ∷ xs) zero n e = some-injective x n e
word_of (x ∷ xs) (suc i) n e = word_of xs i n e

-- and how long the log is
pub commits_by : (actors id m n : ℕ) (v : View) (first : Option Letter) (seats : List JoinedSeat)
    (receipts : List JoinedReceipt) (words : List ℕ) (slots : List (Unit {0})) → v ≡ Gathering m first seats receipts
    → Final (Seen (Ruled actors) id v) words slots → get_elem? words 1 ≡ some n → (g : Gathers actors seats receipts)
    × (length g.log ≡ n)
unfolding shows
commits_by actors id m n v first seats receipts words slots is last count =
    let s = last.0 in
    let seen = subst (λ (u : View). Seen (Ruled actors) id u s) is last.1 in (
      shows actors id m first seats receipts s seen,
      sym (seen.0.clock) ∙ ap (λ (ws : List ℕ). get_or ws 1 0) last.2
          ∙ word_of words 1 n count,
    )
