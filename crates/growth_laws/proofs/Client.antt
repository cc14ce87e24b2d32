-- What the client does with a message is the same before the script grew and after, as long as a row is left.
use Rattle.std.proofs.Common.{◌≡◌, ℕ, zero, suc, ◌+◌, ◌<◌, ◌≤◌, ◌==◌, ◌&&◌, ◌||◌, ◌∙◌, Bool, true, false, not, List, [], ◌∷◌, ◌++◌, length, take, drop, replicate, refl, sym, ap, arith, length-append, length-drop}
use Rattle.std.specs.Prelude.{if◌then◌else◌, ◌-◌, ◌^◌, max, min, nat_lt, slice_set}
use Rattle.std.proofs.lemmas.Bool.{lt-ltb}
use Rattle.std.proofs.lemmas.Bool.Decides.{nat_tests}
use Rattle.std.proofs.lemmas.List.{drop-append-le, take-append-le}
use Rattle.tv_base.specs.declared.numbers.Version.{Version}
use Rattle.letter_types.specs.declared.acts.Act.TheVariants.{Finished}
use Rattle.letter_types.specs.declared.bodies.Body.{Body}
use Rattle.letter_types.specs.declared.bodies.Body.TheVariants.{Go, Root, Reply, Advance, AdvanceNo, Advanced, Ask, Lose, Wanted}
use Rattle.letter_types.specs.declared.entries.Outgoing.{Outgoing}
use Rattle.letter_types.specs.Steps.{Out, still}
use Rattle.script_parts.specs.Adding.{advances_in}
use Rattle.script_parts.specs.Counts.{is_lossy}
use Rattle.script_parts.specs.ScriptData.{ScriptData, home_of}
use Rattle.script_parts.specs.Valid.{IsValid}
use Rattle.script_parts.specs.declared.parts.ScriptRow.{ScriptRow}
use Rattle.script_parts.specs.declared.parts.ScriptRow.TheVariants.{Tree as TreeRow, Advance as AdvanceRow, Settle as SettleRow, Lose as LoseRow}
use Rattle.world_model.specs.Client.{Client, advance_letter, advances_sent, client_finishes, client_row, have_ended, next_after, nudge, rows_letters, submit, submitted, wanted, with_answer, with_end}
use Rattle.world_model.specs.Counts.{Each}
use Rattle.world_model.proofs.Clients.{few_submitted}
use Rattle.world_model.proofs.Fits.{each_drop, each_take}
use Rattle.world_model.proofs.MeantRows.{NamesTree, rows_name}
use Rattle.world_model.proofs.Sends.{asked_each}
use Rattle.growth_laws.specs.Growth.{with_places}
use Rattle.growth_laws.proofs.More.{More, with_more}
use Rattle.growth_laws.proofs.Lookups.{home_same}
use Rattle.growth_laws.proofs.Rows.{IsKnown}
use Rattle.growth_laws.proofs.Submitting.{submitted_same, submitted_stops}

-- the same with more places
abbrev pub out_with_places : ℕ → Out Client → Out Client
out_with_places k o = record { state = with_places k o.state; sent = o.sent; acts = o.acts }

-- The letters of rows that were there.
advance_same : (s : ScriptData) (m : More s) (k : ℕ) → advance_letter (with_more s m) k ≡ advance_letter s k
advance_same s m k = ap (λ (b : Bool). if b then AdvanceNo (k + 1) else Advance) m.lossy

rows_same : (s : ScriptData) (m : More s) (k : ℕ) (rows : List ScriptRow) → Each (NamesTree s) rows
    → rows_letters (with_more s m) k rows ≡ rows_letters s k rows
rows_same s m k [] all = refl
rows_same s m k (TreeRow t ∷ rows) all =
    ap (λ (n : ℕ). record { to = record { 0 = n }; body = Root t } ∷ rows_letters (with_more s m) k rows) (home_same s m t.0 all.0)
    ∙ ap (λ (os : List Outgoing). record { to = record { 0 = home_of s t.0 }; body = Root t } ∷ os) (rows_same s m k rows all.1)
rows_same s m k (AdvanceRow ∷ rows) all =
    ap (λ (b : Body). record { to = record { 0 = s.nodes }; body = b } ∷ rows_letters (with_more s m) (k + 1) rows) (advance_same s m k)
    ∙ ap (λ (os : List Outgoing). record { to = record { 0 = s.nodes }; body = advance_letter s k } ∷ os) (rows_same s m (k + 1) rows all.1)
rows_same s m k (LoseRow ∷ rows) all =
    ap (λ (os : List Outgoing). record { to = record { 0 = s.nodes }; body = Lose } ∷ os) (rows_same s m k rows all.1)
rows_same s m k (SettleRow ∷ rows) all = rows_same s m k rows all.1

-- The client submits, where a row is left after that.

-- what comes of so many rows, of whether all is over, and of what is sent
abbrev submitting : Client → ℕ → Bool → List Outgoing → Out Client
submitting c next over sent = record {
  state = record { next = next; answered = c.answered; ended = c.ended; finished = c.finished || over };
  sent = sent;
  acts = if over then Finished ∷ [] else [];
}

same_three : (c : Client) (m n : ℕ) (a b : Bool) (xs ys : List Outgoing) → m ≡ n → a ≡ b → xs ≡ ys → submitting c m a xs ≡ submitting c n b ys
same_three c m n a b xs ys p q r = ap (λ (i : ℕ). submitting c i a xs) p ∙ ap (λ (t : Bool). submitting c n t xs) q ∙ ap (λ (zs : List Outgoing). submitting c n b zs) r

not_over : (next n : ℕ) (b : Bool) → next < n → ((next == n) && b) ≡ false
not_over next n b lt = let no : (next == n) ≡ false = grind (arith, nat_tests) in rw no refl

pub submit_same : (s : ScriptData) (m : More s) (c : Client) (first : List Outgoing) → IsValid s → next_after s c < length s.rows
    → submit (with_more s m) (with_places (length m.trees) c) first ≡ out_with_places (length m.trees) (submit s c first)
submit_same s m c first valid lt =
    let w : ScriptData = with_more s m in
    let k : ℕ = length m.trees in
    let d : Client = with_places k c in
    let front : List ScriptRow = take c.next s.rows in
    let rest : List ScriptRow = drop c.next s.rows in
    let n : ℕ = submitted c front rest in
    let le : c.next ≤ length s.rows = omega (arith, lt) in
    let few : n < length rest = omega (arith, lt, length-drop c.next s.rows) in
    let fronts : take c.next w.rows ≡ front = take-append-le c.next s.rows m.rows le in
    let rests : drop c.next w.rows ≡ rest ++ m.rows = drop-append-le c.next s.rows m.rows le in
    let counts : submitted d (take c.next w.rows) (drop c.next w.rows) ≡ n =
    ap (λ (xs : List ScriptRow). submitted d xs (drop c.next w.rows)) fronts
    ∙ ap (λ (xs : List ScriptRow). submitted d front xs) rests
    ∙ submitted_same k c front (rest ++ m.rows) ∙ submitted_stops c front rest m.rows few in
    let nexts : next_after w d ≡ next_after s c = ap (λ (i : ℕ). c.next + i) counts in
    let longer : next_after w d < length w.rows = omega (arith, nexts, lt, length-append s.rows m.rows) in
    let over : client_finishes w (next_after w d) d ≡ client_finishes s (next_after s c) c =
    not_over (next_after w d) (length w.rows) (have_ended d w.rows && not c.finished) longer
    ∙ sym (not_over (next_after s c) (length s.rows) (have_ended c s.rows && not c.finished) lt) in
    let sent : rows_letters w (advances_sent w d) (take (submitted d (take c.next w.rows) (drop c.next w.rows)) (drop c.next w.rows))
    ≡ rows_letters s (advances_sent s c) (take n rest) =
    ap (λ (xs : List ScriptRow). rows_letters w (advances_in xs) (take (submitted d (take c.next w.rows) (drop c.next w.rows)) (drop c.next w.rows))) fronts
    ∙ ap (λ (i : ℕ). rows_letters w (advances_sent s c) (take i (drop c.next w.rows))) counts
    ∙ ap (λ (xs : List ScriptRow). rows_letters w (advances_sent s c) (take n xs)) rests
    ∙ ap (λ (xs : List ScriptRow). rows_letters w (advances_sent s c) xs) (take-append-le n rest m.rows (few_submitted c front rest))
    ∙ rows_same s m (advances_sent s c) (take n rest)
    (each_take (NamesTree s) n rest (each_drop (NamesTree s) c.next s.rows (rows_name s valid))) in
    same_three d (next_after w d) (next_after s c) (client_finishes w (next_after w d) d) (client_finishes s (next_after s c) c)
    (first ++ rows_letters w (advances_sent w d) (take (submitted d (take c.next w.rows) (drop c.next w.rows)) (drop c.next w.rows)))
    (first ++ rows_letters s (advances_sent s c) (take n rest)) nexts over (ap (λ (os : List Outgoing). first ++ os) sent)

-- What is heard.
set_left : (answered more : List Bool) (t : ℕ) → t < length answered → slice_set (answered ++ more) t true ≡ slice_set answered t true ++ more
set_left [] more t lt = absurd (omega arith)
set_left (x ∷ answered) more zero lt = refl
set_left (x ∷ answered) more (suc t) lt = ap (λ (xs : List Bool). x ∷ xs) (set_left answered more t (omega arith))

answer_same : (k t : ℕ) (c : Client) → t < length c.answered → with_answer t (with_places k c) ≡ with_places k (with_answer t c)
answer_same k t c lt = ap (λ (xs : List Bool). record c { answered = xs }) (set_left c.answered (replicate k false) t lt)

end_same : (s : ScriptData) (m : More s) (k : ℕ) (v : Version) (c : Client)
    → with_end (with_more s m) v (with_places k c) ≡ with_places k (with_end s v c)
end_same s m k v c =
    ap (λ (b : Bool). record (with_places k c) { ended = if b then max c.ended v.0 else min (c.ended + 1) (2 ^ 64 - 1) }) m.lossy

-- The client takes a letter.
reply_same : (s : ScriptData) (m : More s) (c : Client) (t : ℕ) (test more : Bool) → IsValid s → nat_lt t (length s.trees) ≡ test
    → nat_lt t (length (s.trees ++ m.trees)) ≡ more → t < length s.trees → length c.answered ≡ length s.trees
    → (if test then submit s (with_answer t c) (nudge s ∷ []) else still c).state.next < length s.rows
    → (if more then submit (with_more s m) (with_answer t (with_places (length m.trees) c)) (nudge s ∷ []) else still (with_places (length m.trees) c))
    ≡ out_with_places (length m.trees) (if test then submit s (with_answer t c) (nudge s ∷ []) else still c)
reply_same s m c t true true valid is more lt places left =
    ap (λ (d : Client). submit (with_more s m) d (nudge s ∷ [])) (answer_same (length m.trees) t c (omega (arith, lt, places)))
    ∙ submit_same s m (with_answer t c) (nudge s ∷ []) valid left
reply_same s m c t false more valid is _ lt places left = absurd (let no : false ≡ true = sym is ∙ lt-ltb t (length s.trees) lt in cc no)
reply_same s m c t true false valid is more lt places left =
    absurd (let no : false ≡ true = sym more ∙ lt-ltb t (length (s.trees ++ m.trees)) (omega (arith, lt, length-append s.trees m.trees)) in cc no)

ask_same : (s : ScriptData) (m : More s) (c : Client) (e : ℕ) → c.next ≤ length s.rows
    → client_row (with_more s m) (with_places (length m.trees) c) (Ask e) ≡ out_with_places (length m.trees) (client_row s c (Ask e))
ask_same s m c e le =
    let d : Client = with_places (length m.trees) c in
    ap (λ (b : Bool). if b then wanted (with_more s m) e d else still d) m.lossy
    ∙ ap (λ (xs : List ScriptRow). if is_lossy s then record {
      state = d;
      sent = record { to = record { 0 = s.nodes }; body = Wanted e (advances_in xs) } ∷ [];
      acts = [];
    } else still d) (take-append-le c.next s.rows m.rows le)
    ∙ by (is_lossy s) where
      by : (b : Bool) → (if b then record {
        state = with_places (length m.trees) c;
        sent = record { to = record { 0 = s.nodes }; body = Wanted e (advances_sent s c) } ∷ [];
        acts = [];
      } else still (with_places (length m.trees) c)) ≡ out_with_places (length m.trees) (if b then wanted s e c else still c)
      by true = refl
      by false = refl

pub client_same : (s : ScriptData) (m : More s) (c : Client) (body : Body) → IsValid s → IsKnown s body
    → length c.answered ≡ length s.trees → c.next ≤ length s.rows → (client_row s c body).state.next < length s.rows
    → client_row (with_more s m) (with_places (length m.trees) c) body ≡ out_with_places (length m.trees) (client_row s c body)
client_same s m c Go valid lt places le left = submit_same s m c [] valid left
client_same s m c (Reply t v answer) valid lt places le left =
    reply_same s m c t.0 (nat_lt t.0 (length s.trees)) (nat_lt t.0 (length (s.trees ++ m.trees))) valid refl refl lt places left
client_same s m c (Advanced v) valid lt places le left =
    ap (λ (d : Client). submit (with_more s m) d []) (end_same s m (length m.trees) v c) ∙ submit_same s m (with_end s v c) [] valid left
client_same s m c (Ask e) valid lt places le left = ask_same s m c e le
client_same s m c _ valid lt places le left = refl

-- The client never goes back.
pick_later : (n : ℕ) (b : Bool) (x y : Out Client) → n ≤ x.state.next → n ≤ y.state.next → n ≤ (if b then x else y).state.next
pick_later n true x y l r = l
pick_later n false x y l r = r

pub goes_on : (s : ScriptData) (c : Client) (body : Body) → c.next ≤ (client_row s c body).state.next
goes_on s c Go = omega arith
goes_on s c (Reply t v answer) =
    pick_later c.next (nat_lt t.0 (length s.trees)) (submit s (with_answer t.0 c) (nudge s ∷ [])) (still c) (omega arith) (omega arith)
goes_on s c (Advanced v) = omega arith
goes_on s c (Ask e) = asked_each (λ (o : Out Client). c.next ≤ o.state.next) s c e (omega arith) (λ is. omega arith)
goes_on s c _ = omega arith
