-- What is gathered of all actors is a run of the script, which has each receipt's entry.
use Rattle.std.proofs.Common.{◌≡◌, ℕ, zero, suc, ◌+◌, ◌-◌, ◌<◌, List, [], ◌∷◌, ◌++◌, length, map, refl, sym, ap, ◌∙◌, subst, arith, append_assoc, None, Some, ◌⊎◌, inl, inr}
use Rattle.std.specs.Prelude.{slice_get, sum_by}
use Rattle.std.proofs.lemmas.List.{length-map, map-append}
use Rattle.std.proofs.lemmas.Option.{same_Some}
use Rattle.tv_base.proofs.ByPlace.{slice_get_left, slice_get_split, get_map, get_some}
use Rattle.letter_types.specs.declared.entries.Entry.{Entry}
use Rattle.letter_types.specs.declared.entries.Letter.{Letter}
use Rattle.letter_types.specs.declared.entries.Posting.{Posting}
use Rattle.letter_types.specs.Letters.{find_id, go}
use Rattle.letter_types.specs.Postal.{IsMessageRun, letters_sent, delivery_of}
use Rattle.letter_types.specs.Steps.{Out}
use Rattle.letter_types.proofs.Ids.{id_stamp}
use Rattle.letter_types.proofs.Postings.{entry_at}
use Rattle.stamp_post.specs.declared.rule.JoinedReceipt.{JoinedReceipt}
use Rattle.stamp_post.specs.declared.rule.JoinedSeat.{JoinedSeat}
use Rattle.stamp_post.specs.Logs.{own_postings}
use Rattle.stamp_post.specs.Shown.{Gathers, PostId, ReceiptData, SeatData, joined_seat, receipt_joined, seat_data, seat_joined}
use Rattle.tx_trees.specs.ScriptData.{ScriptData, client_of}
use Rattle.world_model.specs.Runs.{IsRunOf, IsWorldRun, after}
use Rattle.world_model.specs.Tables.{actor_row, start_actor}
use Rattle.history_merge.specs.Histories.{HasReceiptEntry, last_acts}
use Rattle.history_merge.specs.Merging.{AllRun, IsLogOf, IsMerged, IsWholeLog, joined_from}
use Rattle.history_merge.specs.Recording.{AreRecorded}
use Rattle.history_merge.proofs.Lefts.{left}
use Rattle.history_merge.proofs.Merges.{merged}
use Rattle.history_merge.proofs.OneMore.{acts_more}
use Rattle.history_merge.proofs.Parts.{rows_together, sum_rows}

joined_at : (n : ℕ) (rows : List (List Entry)) (a : ℕ) (es : List Entry) → slice_get rows a ≡ Some es
    → slice_get (joined_from n rows) a ≡ Some (joined_seat (n + a) (map delivery_of es))
joined_at n [] a es at = absurd (cc at)
joined_at n (x ∷ rows) zero es at =
    let same : x ≡ es = cc at in
    let here : n ≡ n + 0 = omega arith in λ k. Some (joined_seat (here k) (map delivery_of (same k)))
joined_at n (x ∷ rows) (suc a) es at =
    let there : (n + 1) + a ≡ n + suc a = omega arith in
    joined_at (n + 1) rows a es at ∙ ap (λ (m : ℕ). Some (joined_seat m (map delivery_of es))) there

-- one actor more
pub joined_more : (n : ℕ) (rows : List (List Entry)) (es : List Entry)
    → joined_from n (rows ++ es ∷ []) ≡ joined_from n rows ++ joined_seat (n + length rows) (map delivery_of es) ∷ []
joined_more n [] es = let here : n ≡ n + 0 = omega arith in λ k. joined_seat (here k) (map delivery_of es) ∷ []
joined_more n (x ∷ rows) es =
    let there : (n + 1) + length rows ≡ n + suc (length rows) = omega arith in
    ap (λ (ss : List JoinedSeat). joined_seat n (map delivery_of x) ∷ ss)
    (joined_more (n + 1) rows es ∙ ap (λ (m : ℕ). joined_from (n + 1) rows ++ joined_seat m (map delivery_of es) ∷ []) there)

-- the seat of one actor more
pub seats_more : (post : PostId) (n : ℕ) (seats : List SeatData) (seat : SeatData) (rows : List (List Entry)) (es : List Entry) → n ≡ length rows
    → seat ≡ seat_data post n (map delivery_of es) None None → map seat_joined seats ≡ joined_from 0 rows
    → map seat_joined (seats ++ seat ∷ []) ≡ joined_from 0 (rows ++ es ∷ [])
seats_more post n seats seat rows es long is joined =
    let number : n ≡ 0 + length rows = omega arith in
    map-append seat_joined seats (seat ∷ [])
    ∙ (λ k. joined k ++ joined_seat ((ap (λ (x : SeatData). x.number) is ∙ number) k) ((ap (λ (x : SeatData). x.own) is) k) ∷ [])
    ∙ sym (joined_more 0 rows es)

runs_by : (s : ScriptData) (rows : List (List Entry)) (es : List Entry) (a : ℕ) (xs : List Entry) → AllRun s rows
    → IsRunOf (actor_row s (length rows)) (start_actor s (length rows)) es
    → ((a < length rows) × (slice_get rows a ≡ Some xs)) ⊎ ((a ≡ length rows) × (es ≡ xs))
    → IsRunOf (actor_row s a) (start_actor s a) xs
runs_by s rows es a xs runs run (inl p) = runs a xs p.1
runs_by s rows es a xs runs run (inr p) =
    subst (λ (n : ℕ). IsRunOf (actor_row s n) (start_actor s n) xs) (sym p.0)
    (subst (λ (ys : List Entry). IsRunOf (actor_row s (length rows)) (start_actor s (length rows)) ys) p.1 run)

pub runs_more : (s : ScriptData) (rows : List (List Entry)) (es : List Entry) → AllRun s rows
    → IsRunOf (actor_row s (length rows)) (start_actor s (length rows)) es → AllRun s (rows ++ es ∷ [])
runs_more s rows es runs run a xs at = runs_by s rows es a xs runs run (slice_get_split rows es a xs at)

-- the log that gathering tells of is one of the actors' entries
pub is_log : (actors : ℕ) (rows : List (List Entry)) (receipts : List JoinedReceipt) (g : Gathers actors (joined_from 0 rows) receipts)
    → IsLogOf g.log rows
is_log actors rows receipts g = record {
  stamps = g.postal.stamps;
  own = λ a es at.
      let here : 0 + a ≡ a = omega arith in
      g.own a (joined_seat (0 + a) (map delivery_of es)) (joined_at 0 rows a es at) ∙ ap (λ (n : ℕ). own_postings n g.log) here;
}

pub world_run : (s : ScriptData) (rows : List (List Entry)) (log : List Posting) (h : List Entry) → IsMessageRun (client_of s) log → AllRun s rows
    → length rows ≡ s.nodes + 2 → IsMerged log rows h → IsWorldRun s h
world_run s rows log h postal runs long merged = record {
  postal = subst (λ (ps : List Posting). IsMessageRun (client_of s) ps) (sym merged.postings) postal;
  actors = λ a lt.
      let row = get_some rows a (omega arith) in
      subst (λ (es : List Entry). IsRunOf (actor_row s a) (start_actor s a) es) (sym (merged.own a row.0 row.1)) (runs a row.0 row.1);
}

-- entries whose postings are cut at one
record Cut (es : List Entry) (before : List Posting) (p : Posting) : Type 0 where
  pub front : List Entry
  pub entry : Entry
  pub back : List Entry
  pub whole : es ≡ front ++ (entry ∷ back)
  pub front_is : map delivery_of front ≡ before
  pub entry_is : delivery_of entry ≡ p

cut : (es : List Entry) (before : List Posting) (p : Posting) (rest : List Posting) → map delivery_of es ≡ before ++ (p ∷ rest) → Cut es before p
cut [] [] p rest is = absurd (cc is)
cut [] (y ∷ before) p rest is = absurd (cc is)
cut (e ∷ es) [] p rest is = record { front = []; entry = e; back = es; whole = refl; front_is = refl; entry_is = cc is }
cut (e ∷ es) (y ∷ before) p rest is =
    let c = cut es before p rest (cc is) in
    let same : delivery_of e ≡ y = cc is in
    record {
      front = e ∷ c.front;
      entry = c.entry;
      back = c.back;
      whole = ap (λ (xs : List Entry). e ∷ xs) c.whole;
      front_is = λ k. same k ∷ c.front_is k;
      entry_is = c.entry_is;
    }

-- the acts of an entry of a run
acts_there : {St : Type 0} (row : St → Letter → Out St) (st : St) (xs : List Entry) (e : Entry) (ys : List Entry)
    → IsRunOf row st (xs ++ (e ∷ ys)) → e.acts ≡ (row (after row st xs) e.took).acts
acts_there row st [] e ys run = run.1
acts_there row st (x ∷ xs) e ys run = acts_there row (row st x.took).state xs e ys run.2

-- the letter that a posting took has a smaller stamp
earlier : (client : ℕ) (log : List Posting) (k : ℕ) (p : Posting) → IsMessageRun client log → slice_get log k ≡ Some p
    → (p.took ≡ go client) ⊎ ((j : ℕ) × (f : Posting) × (j < k) × (slice_get log j ≡ Some f) × (find_id p.took.id (letters_sent f) ≡ Some p.took))
    → p.took.id.stamp.0 < p.stamp.0
earlier client log k p postal at (inl is) = omega (arith, ap (λ (l : Letter). l.id.stamp.0) is, postal.stamps k p at)
earlier client log k p postal at (inr (j, f, lt, there, found)) =
    omega (arith, id_stamp f p.took found, postal.stamps j f there, postal.stamps k p at)

pub told : (s : ScriptData) (actors : ℕ) (rows : List (List Entry)) (receipts : List ReceiptData) (h : List Entry)
    (g : Gathers actors (joined_from 0 rows) (map receipt_joined receipts)) → AllRun s rows → length rows ≡ actors → 0 < actors → IsMerged g.log rows h
    → (k : ℕ) (r : ReceiptData) → slice_get receipts k ≡ Some r → HasReceiptEntry s h r
told s actors rows receipts h g runs long some_there merged k r at =
    let joined = get_map receipt_joined receipts k r at in
    let stands = g.stands k (receipt_joined r) joined in
    let place = stands.0 in
    let there = entry_at h place r.posting (subst (λ (ps : List Posting). slice_get ps place ≡ Some r.posting) (sym merged.postings) stands.1) in
    let log_at : (j : ℕ) (e : Entry) → slice_get h j ≡ Some e → slice_get g.log j ≡ Some (delivery_of e) =
    λ j e here. subst (λ (ps : List Posting). slice_get ps j ≡ Some (delivery_of e)) merged.postings (get_map delivery_of h j e here) in
    let once : (j : ℕ) (e : Entry) → slice_get h j ≡ Some e → e.stamp.0 ≡ place + 1 → j ≡ place =
    λ j e here is. omega (arith, g.postal.stamps j (delivery_of e) (log_at j e here)) in
    record {
      place = place;
      entry = there.0;
      at = there.1;
      stamp = stands.2;
      once = once;
      posting = there.2;
      acts = λ before own_is.
          let begins = g.begins k (receipt_joined r) joined in
          let all : own_postings r.number g.log ≡ before ++ (r.posting ∷ begins.0) =
          begins.1 ∙ ap (λ (ps : List Posting). ps ++ begins.0) own_is ∙ append_assoc before (r.posting ∷ []) begins.0 in
          let mine = left (λ (p : Posting). p.actor.0) r.number g.log before r.posting begins.0 all in
          let known = g.postal.known mine.place r.posting mine.at in
          let row = get_some rows r.number (omega (arith, mine.is)) in
          let log = is_log actors rows (map receipt_joined receipts) g in
          let c = cut row.0 before r.posting begins.0 (log.own r.number row.0 row.1 ∙ all) in
          let in_history = left (λ (e : Entry). e.actor.0) r.number h c.front c.entry c.back (merged.own r.number row.0 row.1 ∙ c.whole) in
          let stamp : c.entry.stamp.0 ≡ place + 1 = ap (λ (p : Posting). p.stamp.0) c.entry_is ∙ stands.2 in
          let here : in_history.place ≡ place = once in_history.place c.entry in_history.at stamp in
          let same : c.entry ≡ there.0 = same_Some c.entry there.0 (sym in_history.at ∙ ap (slice_get h) here ∙ there.1) in
          let run = subst (λ (es : List Entry). IsRunOf (actor_row s r.number) (start_actor s r.number) es) c.whole (runs r.number row.0 row.1) in
          let postings : map delivery_of (c.front ++ c.entry ∷ []) ≡ r.own =
          map-append delivery_of c.front (c.entry ∷ []) ∙ (λ i. c.front_is i ++ c.entry_is i ∷ []) ∙ sym own_is in
          ap (λ (e : Entry). e.acts) (sym same)
          ∙ acts_there (actor_row s r.number) (start_actor s r.number) c.front c.entry c.back run
          ∙ sym (acts_more (actor_row s r.number) (start_actor s r.number) [] c.front c.entry)
          ∙ ap (last_acts s r.number) postings;
      later = earlier (actors - 1) g.log place r.posting g.postal stands.1 (g.postal.sent place r.posting stands.1);
    }

-- what is gathered of seats that are the rows'
of_rows : (actors n count : ℕ) (seats : List JoinedSeat) (rows : List (List Entry)) (receipts : List JoinedReceipt) → n ≡ actors → seats ≡ joined_from 0 rows
    → ((g : Gathers n seats receipts) × (length g.log ≡ count)) → (g : Gathers actors (joined_from 0 rows) receipts) × (length g.log ≡ count)
of_rows actors n count seats rows receipts same joined gathered =
    subst (λ (z : ℕ × List JoinedSeat). (g : Gathers z.0 z.1 receipts) × (length g.log ≡ count)) (λ k. (same k, joined k)) gathered

-- its log is the whole log of the rows
pub whole_log : (actors n count : ℕ) (seats : List JoinedSeat) (rows : List (List Entry)) (receipts : List JoinedReceipt) → n ≡ actors → seats ≡ joined_from 0 rows
    → ((g : Gathers n seats receipts) × (length g.log ≡ count)) → length rows ≡ actors → 0 < actors → (log : List Posting) × IsWholeLog count log rows
whole_log actors n count seats rows receipts same joined gathered long some_there =
    let g = of_rows actors n count seats rows receipts same joined gathered in (
      g.0.log,
      record {
        log_of = is_log actors rows receipts g.0;
        long = g.1;
        known = λ k p at. omega (arith, g.0.postal.known k p at, long);
      },
    )

as_many : (count : ℕ) (log : List Posting) (rows : List (List Entry)) → IsWholeLog count log rows → sum_by (length {A = Entry}) rows ≡ count
as_many count log rows is =
    rows_together (λ (p : Posting). p.actor.0) rows log
    (λ a es at. sym (length-map es delivery_of) ∙ ap (length {A = Posting}) (is.log_of.own a es at)) is.known
    ∙ is.long

-- there are as many postings as these have entries
pub all_counted : {X : Type 0} (f : X → List Entry) (count : ℕ) (rows : List (List Entry)) (cells : List X)
    → ((log : List Posting) × IsWholeLog count log rows) → rows ≡ map f cells → count ≡ sum_by (λ c. length (f c)) cells
all_counted f count rows cells (log, is) same =
    sym (as_many count log rows is) ∙ ap (sum_by (length {A = Entry})) same ∙ sum_rows f cells

get_right : {X : Type 0} (xs ys : List X) (k : ℕ) (y : X) → slice_get ys k ≡ Some y → slice_get (xs ++ ys) (length xs + k) ≡ Some y
get_right [] ys k y at = let here : 0 + k ≡ k = omega arith in ap (slice_get ys) here ∙ at
get_right (x ∷ xs) ys k y at =
    let there : suc (length xs) + k ≡ suc (length xs + k) = omega arith in ap (slice_get (x ∷ (xs ++ ys))) there ∙ get_right xs ys k y at

-- what is gathered of receipts that are joined behind others
gathers_last : (actors : ℕ) (seats : List JoinedSeat) (known told : List JoinedReceipt) → Gathers actors seats (known ++ told) → Gathers actors seats told
gathers_last actors seats known told g = record {
  log = g.log;
  postal = g.postal;
  own = g.own;
  stands = λ k r at. g.stands (length known + k) r (get_right known told k r at);
  begins = λ k r at. g.begins (length known + k) r (get_right known told k r at);
}

-- what is said once all is gathered, where as many entries are recorded
pub finishes_as : (s : ScriptData) (actors n count : ℕ) (seats : List JoinedSeat) (rows : List (List Entry)) (known : List JoinedReceipt)
    (receipts : List ReceiptData) (h : List Entry) → n ≡ actors → seats ≡ joined_from 0 rows
    → ((g : Gathers n seats (known ++ map receipt_joined receipts)) × (length g.log ≡ count))
    → AllRun s rows → length rows ≡ actors → actors ≡ s.nodes + 2 → length h ≡ count → AreRecorded s known h
    → IsWorldRun s h × ((k : ℕ) (r : ReceiptData) → slice_get receipts k ≡ Some r → HasReceiptEntry s h r)
unfolding gathers_last of_rows
finishes_as s actors n count seats rows known receipts h same joined gathered runs long all many recorded =
    let g = of_rows actors n count seats rows (known ++ map receipt_joined receipts) same joined gathered in
    let whole : IsWholeLog count g.0.log rows = record {
      log_of = is_log actors rows (known ++ map receipt_joined receipts) g.0;
      long = g.1;
      known = λ k p at. omega (arith, g.0.postal.known k p at, long);
    } in
    let is : IsMerged g.0.log rows h =
    merged s count rows g.0.log known h whole runs many
    (λ k r at. g.0.begins k r (slice_get_left known (map receipt_joined receipts) k r at)) recorded in
    let client : actors - 1 ≡ client_of s = omega arith in (
      world_run s rows g.0.log h (subst (λ (m : ℕ). IsMessageRun m g.0.log) client g.0.postal) runs (long ∙ all) is,
      told s actors rows receipts h (gathers_last actors (joined_from 0 rows) known (map receipt_joined receipts) g.0) runs long (omega arith) is,
    )
