-- What the client does with a message is its row of the table.
use Rattle.std.proofs.Common.{if◌then◌else◌, ◌≡◌, ℕ, ◌+◌, ◌-◌, ◌^◌, ◌≤◌, ◌==◌, ◌&&◌, ◌||◌, Bool, true, false, List, [], ◌∷◌, ◌++◌, length, take, drop, refl, sym, ap, ◌∙◌, arith}
use Rattle.std.specs.Prelude.{max, min, nat_lt, not}
use Rattle.std.proofs.lemmas.List.{take_all}
use Rattle.std.proofs.lemmas.Bool.Decides.{nat_tests}
use Rattle.tx_trees.specs.ScriptData.{ScriptData}
use Rattle.tx_trees.specs.declared.parts.ScriptRow.{ScriptRow}
use Rattle.tx_trees.specs.declared.parts.ScriptRow.TheVariants.{Tree as TreeRow, Advance as AdvanceRow, Settle as SettleRow, Lose as LoseRow}
use Rattle.letter_types.specs.declared.acts.Act.{Act}
use Rattle.letter_types.specs.declared.acts.Act.TheVariants.{Finished}
use Rattle.letter_types.specs.declared.bodies.Body.{Body}
use Rattle.letter_types.specs.declared.bodies.Body.TheVariants.{Go, Reply, Advanced, Ask}
use Rattle.letter_types.specs.declared.entries.Outgoing.{Outgoing}
use Rattle.letter_types.specs.declared.entries.StepOut.{StepOut}
use Rattle.letter_types.specs.Steps.{Out, still, made}
use Rattle.world_model.specs.Client.{Client, have_ended, submitted, rows_letters, advances_sent, next_after, client_finishes, submit, wanted, client_row}
use Rattle.tx_trees.specs.Counts.{is_lossy}
use Rattle.client_rows.specs.News.{answered_after, ended_after, client_with_news, sent_first}
use Rattle.client_rows.specs.inside.Heard.{heard_of, heard_row, submit_at}
use Rattle.client_rows.specs.inside.Places.{is_over}
use Rattle.client_rows.specs.inside.Places.{place_at, knowing, furthest, furthest_place}
use Rattle.client_rows.specs.declared.news.News.{News}
use Rattle.client_rows.specs.declared.news.News.TheVariants.{Answered, Ended, EndedTo}
use Rattle.client_rows.specs.declared.news.Heard.TheVariants.{Nothing, Told, Asked}
use Rattle.client_rows.specs.declared.places.RowPlace.{RowPlace}
use Rattle.client_rows.proofs.Further.{over-ended}

-- each row of the table is that of what the client hears
pub row-heard : (s : ScriptData) (c : Client) (body : Body) → client_row s c body ≡ heard_row s c (heard_of s body)
row-heard s c Go = refl
row-heard s c (Reply t v answer) = elim (nat_lt t.0 (length s.trees)) as (λ (b : Bool).
    (if b then submit_at s (Answered t) c else still c) ≡ heard_row s c (if b then Told (Answered t) else Nothing))
    [ true ↦ refl | false ↦ refl ]
row-heard s c (Advanced v) = elim (is_lossy s) as (λ (b : Bool).
    submit s (record c { ended = if b then max c.ended v.0 else min (c.ended + 1) (2 ^ 64 - 1) }) []
    ≡ submit_at s (if b then EndedTo v else Ended) c) [ true ↦ refl | false ↦ refl ]
row-heard s c (Ask e) = elim (is_lossy s) as (λ (b : Bool).
    (if b then wanted s e c else still c) ≡ heard_row s c (if b then Asked e else Nothing)) [ true ↦ refl | false ↦ refl ]
row-heard s c _ = refl

-- which rows are submitted follows from what is answered and has ended
submitted-knowing : (c : Client) (before rows : List ScriptRow)
    → submitted c before rows ≡ submitted (knowing c.answered c.ended) before rows
submitted-knowing c before [] = refl
submitted-knowing c before (TreeRow t ∷ rows) = ap (λ (n : ℕ). n + 1) (submitted-knowing c (before ++ TreeRow t ∷ []) rows)
submitted-knowing c before (AdvanceRow ∷ rows) = ap (λ (n : ℕ). n + 1) (submitted-knowing c (before ++ AdvanceRow ∷ []) rows)
submitted-knowing c before (LoseRow ∷ rows) = ap (λ (n : ℕ). n + 1) (submitted-knowing c (before ++ LoseRow ∷ []) rows)
submitted-knowing c before (SettleRow ∷ rows) =
    ap (λ (n : ℕ). if have_ended c before then n + 1 else 0) (submitted-knowing c (before ++ SettleRow ∷ []) rows)

-- the client comes as far as it may
next_after-furthest : (s : ScriptData) (c : Client) → next_after s c ≡ furthest c.answered c.ended s.rows c.next
next_after-furthest s c = ap (λ (n : ℕ). c.next + n) (submitted-knowing c (take c.next s.rows) (drop c.next s.rows))

-- the numbers of a place say whether the client finishes there
finishes-place : (s : ScriptData) (c : Client) (at : RowPlace) → at ≡ place_at s.rows c.answered at.next
    → (last : Bool) → (at.next == length s.rows) ≡ last
    → ((at.next == length s.rows) && (is_over at c.ended && not c.finished)) ≡ client_finishes s at.next c
finishes-place s c at here false is = rw is refl
finishes-place s c at here true is =
    let end : length s.rows ≤ at.next = grind (arith, nat_tests) in
    let over : have_ended c s.rows ≡ is_over at c.ended =
    ap (λ (rows : List ScriptRow). have_ended c rows) (sym (take_all at.next s.rows end)) ∙ over-ended c s.rows at.next
    ∙ ap (λ (p : RowPlace). is_over p c.ended) (sym here) in
    ap (λ (b : Bool). (at.next == length s.rows) && (b && not c.finished)) (sym over)

-- states, messages and acts that are equal make equal rows
same_row : (answered : List Bool) (ended n m : ℕ) (f g : Bool) (sent sent' : List Outgoing) (acts acts' : List Act)
    → n ≡ m → f ≡ g → sent ≡ sent' → acts ≡ acts'
    → ◌≡◌ {A = Out Client}
    (record { state = record { next = n; answered = answered; ended = ended; finished = f }; sent = sent; acts = acts })
    (record { state = record { next = m; answered = answered; ended = ended; finished = g }; sent = sent'; acts = acts' })
same_row answered ended n m f g sent sent' acts acts' next finished letters deeds = cc

-- what a call made of news: how far the client came from `c`, and what goes out
pub record Submission (s : ScriptData) (news : News) (c : Client) (at : RowPlace) (ends : Bool) (out : StepOut) : Type 0 where
  pub place : at
      ≡ place_at s.rows (answered_after news c.answered)
      (furthest (answered_after news c.answered) (ended_after news c.ended) s.rows c.next)
  pub finish : ends ≡ ((at.next == length s.rows) && (is_over at (ended_after news c.ended) && not c.finished))
  pub sent : out.sent
      ≡ sent_first s news ++ rows_letters s (advances_sent s c) (take (at.next - c.next) (drop c.next s.rows))
  pub acts : out.acts ≡ (if ends then Finished ∷ [] else [])

-- the state that the call leaves
abbrev pub state_after : News → Client → RowPlace → Bool → Client
state_after news c at ends = record {
  next = at.next;
  answered = answered_after news c.answered;
  ended = ended_after news c.ended;
  finished = c.finished || ends;
}

-- the client finishes at the place that it comes to exactly if its table says so
pub finish_at : (s : ScriptData) (news : News) (c : Client) (at : RowPlace) (ends : Bool)
    → at ≡ furthest_place s.rows (answered_after news c.answered) (ended_after news c.ended) c.next
    → ends ≡ ((at.next == length s.rows) && (is_over at (ended_after news c.ended) && not c.finished))
    → ends ≡ client_finishes s (next_after s (client_with_news news c)) (client_with_news news c)
finish_at s news c at ends place finish =
    let after : Client = client_with_news news c in
    let next : at.next ≡ next_after s after = ap (λ (p : RowPlace). p.next) place ∙ sym (next_after-furthest s after) in
    let here : at ≡ place_at s.rows after.answered at.next =
    place ∙ ap (place_at s.rows after.answered) (sym (ap (λ (p : RowPlace). p.next) place)) in
    finish ∙ finishes-place s after at here (at.next == length s.rows) refl ∙ ap (λ (n : ℕ). client_finishes s n after) next

pub submission-row : (s : ScriptData) (news : News) (c : Client) (at : RowPlace) (ends : Bool) (out : StepOut)
    → Submission s news c at ends out → made (state_after news c at ends) out ≡ submit_at s news c
submission-row s news c at ends out made_here =
    let after : Client = client_with_news news c in
    let next : at.next ≡ next_after s after = ap (λ (p : RowPlace). p.next) made_here.place ∙ sym (next_after-furthest s after) in
    let finish : ends ≡ client_finishes s (next_after s after) after =
    finish_at s news c at ends made_here.place made_here.finish in
    let many : at.next - c.next ≡ submitted after (take c.next s.rows) (drop c.next s.rows) = omega (arith, next) in
    same_row (answered_after news c.answered) (ended_after news c.ended) at.next (next_after s after)
    (c.finished || ends) (c.finished || client_finishes s (next_after s after) after)
    out.sent (sent_first s news
    ++ rows_letters s (advances_sent s c) (take (submitted after (take c.next s.rows) (drop c.next s.rows)) (drop c.next s.rows)))
    out.acts (if client_finishes s (next_after s after) after then Finished ∷ [] else [])
    next (ap (λ (b : Bool). c.finished || b) finish)
    (made_here.sent ∙ ap (λ (n : ℕ). sent_first s news ++ rows_letters s (advances_sent s c) (take n (drop c.next s.rows))) many)
    (made_here.acts ∙ ap (λ (b : Bool). if b then Finished ∷ [] else []) finish)

-- from equal rows, answers, ends and places the client comes to equal places
pub same_place : (news : News) {rows rows' : List ScriptRow} {known known' : List Bool} {ended ended' next next' : ℕ}
    → rows ≡ rows' → known ≡ known' → ended ≡ ended' → next ≡ next'
    → place_at rows (answered_after news known) (furthest (answered_after news known) ended rows next)
    ≡ place_at rows' (answered_after news known') (furthest (answered_after news known') ended' rows' next')
same_place news {rows} {rows'} {known} {known'} {ended} {ended'} {next} {next'} r k e n =
    ap (λ (x : List ScriptRow). place_at x (answered_after news known) (furthest (answered_after news known) ended x next)) r
    ∙ ap (λ (x : List Bool). place_at rows' (answered_after news x) (furthest (answered_after news x) ended rows' next)) k
    ∙ ap (λ (x : ℕ). place_at rows' (answered_after news known') (furthest (answered_after news known') x rows' next)) e
    ∙ ap (λ (x : ℕ). place_at rows' (answered_after news known') (furthest (answered_after news known') ended' rows' x)) n

-- with equal rows and ends the client finishes alike
pub same_finish : (at : RowPlace) (finished : Bool) {rows rows' : List ScriptRow} {ended ended' : ℕ} → rows ≡ rows' → ended ≡ ended'
    → ((at.next == length rows) && (is_over at ended && not finished)) ≡ ((at.next == length rows') && (is_over at ended' && not finished))
same_finish at finished {rows} {rows'} {ended} {ended'} r e =
    ap (λ (x : List ScriptRow). (at.next == length x) && (is_over at ended && not finished)) r
    ∙ ap (λ (x : ℕ). (at.next == length rows') && (is_over at x && not finished)) e
