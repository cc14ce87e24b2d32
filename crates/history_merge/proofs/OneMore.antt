-- One entry more of an actor: where its entries lead, and the acts of the last of its postings.
use Rattle.std.proofs.Common.{◌≡◌, ℕ, List, [], ◌∷◌, ◌++◌, length, map, refl, sym, ap, ◌∙◌, None, Some}
use Rattle.std.proofs.lemmas.List.{length-map, map-append}
use Rattle.letter_types.specs.declared.acts.Act.{Act}
use Rattle.letter_types.specs.declared.entries.Entry.{Entry}
use Rattle.letter_types.specs.declared.entries.Letter.{Letter}
use Rattle.letter_types.specs.declared.entries.Outgoing.{Outgoing}
use Rattle.letter_types.specs.declared.entries.Posting.{Posting}
use Rattle.letter_types.specs.Postal.{delivery_of}
use Rattle.letter_types.specs.Steps.{Out}
use Rattle.stamp_post.specs.Logs.{posting}
use Rattle.stamp_post.specs.Shown.{PostId, SeatData, seat_data}
use Rattle.tx_trees.specs.ScriptData.{ScriptData}
use Rattle.world_model.specs.Runs.{IsRunOf, after}
use Rattle.world_model.specs.Tables.{actor_row, start_actor}
use Rattle.history_merge.specs.Histories.{entries_by, entries_from, last_acts, last_acts_from}
use Rattle.history_merge.specs.OwnLogs.{led_to, row_there}

pub run_more : {St : Type 0} (row : St → Letter → Out St) (st : St) (es : List Entry) (e : Entry) → IsRunOf row st es
    → e.sent ≡ (row (after row st es) e.took).sent → e.acts ≡ (row (after row st es) e.took).acts
    → IsRunOf row st (es ++ e ∷ [])
run_more row st [] e run sent acts = (sent, acts, tt)
run_more row st (x ∷ es) e run sent acts = (run.0, run.1, run_more row (row st x.took).state es e run.2 sent acts)

pub after_more : {St : Type 0} (row : St → Letter → Out St) (st : St) (es : List Entry) (e : Entry)
    → after row st (es ++ e ∷ []) ≡ (row (after row st es) e.took).state
after_more row st [] e = refl
after_more row st (x ∷ es) e = after_more row (row st x.took).state es e

pub acts_more : {St : Type 0} (row : St → Letter → Out St) (st : St) (acts : List Act) (es : List Entry) (e : Entry)
    → last_acts_from row st acts (map delivery_of (es ++ e ∷ [])) ≡ (row (after row st es) e.took).acts
acts_more row st acts [] e = refl
acts_more row st acts (x ∷ es) e = acts_more row (row st x.took).state (row st x.took).acts es e

pub postings_more : (es : List Entry) (e : Entry) → map delivery_of (es ++ e ∷ []) ≡ map delivery_of es ++ delivery_of e ∷ []
postings_more es e = map-append delivery_of es (e ∷ [])

-- the entries of postings have these postings
pub postings_of : {St : Type 0} (row : St → Letter → Out St) (st : St) (own : List Posting) → map delivery_of (entries_from row st own) ≡ own
postings_of row st [] = refl
postings_of row st (p ∷ own) = ap (λ (ps : List Posting). p ∷ ps) (postings_of row (row st p.took).state own)

pub entries_count : (s : ScriptData) (n : ℕ) (own : List Posting) → length (entries_by s n own) ≡ length own
entries_count s n own =
    sym (length-map (entries_by s n own) delivery_of) ∙ ap (length {A = Posting}) (postings_of (actor_row s n) (start_actor s n) own)

-- those of a run's postings are the run
pub entries_of_run : {St : Type 0} (row : St → Letter → Out St) (st : St) (es : List Entry) → IsRunOf row st es
    → entries_from row st (map delivery_of es) ≡ es
entries_of_run row st [] run = refl
entries_of_run row st (e ∷ es) run =
    λ k. record { stamp = e.stamp; actor = e.actor; took = e.took; sent = e.sent; acts = sym run.1 k }
    ∷ entries_of_run row (row st e.took).state es run.2 k

-- the first postings' entries are the first entries
pub entries_front : {St : Type 0} (row : St → Letter → Out St) (st : St) (own rest : List Posting)
    → (back : List Entry) × (entries_from row st (own ++ rest) ≡ entries_from row st own ++ back)
entries_front row st [] rest = (entries_from row st rest, refl)
entries_front row st (p ∷ own) rest =
    let more = entries_front row (row st p.took).state own rest in (
      more.0,
      ap (λ (es : List Entry). record { stamp = p.stamp; actor = p.actor; took = p.took; sent = p.sent; acts = (row st p.took).acts } ∷ es) more.1,
    )

entries_more : {St : Type 0} (row : St → Letter → Out St) (st : St) (own : List Posting) (e : Entry)
    → e.acts ≡ (row (after row st (entries_from row st own)) e.took).acts
    → entries_from row st (own ++ delivery_of e ∷ []) ≡ entries_from row st own ++ e ∷ []
entries_more row st [] e acts =
    λ k. record { stamp = e.stamp; actor = e.actor; took = e.took; sent = e.sent; acts = sym acts k } ∷ []
entries_more row st (p ∷ own) e acts =
    ap (λ (es : List Entry). record { stamp = p.stamp; actor = p.actor; took = p.took; sent = p.sent; acts = (row st p.took).acts } ∷ es)
    (entries_more row (row st p.took).state own e acts)

-- an entry that is the row of the actor's table where its entries lead
pub record IsRow (s : ScriptData) (n : ℕ) (es : List Entry) (e : Entry) (l : Letter) : Type 0 where
  pub took : e.took ≡ l
  pub sent : e.sent ≡ (row_there s n es l).sent
  pub acts : e.acts ≡ (row_there s n es l).acts

pub runs_on : (s : ScriptData) (n : ℕ) (es : List Entry) (e : Entry) (l : Letter) → IsRow s n es e l
    → IsRunOf (actor_row s n) (start_actor s n) es → IsRunOf (actor_row s n) (start_actor s n) (es ++ e ∷ [])
runs_on s n es e l is run =
    run_more (actor_row s n) (start_actor s n) es e run (is.sent ∙ (λ k. (row_there s n es (sym is.took k)).sent))
    (is.acts ∙ (λ k. (row_there s n es (sym is.took k)).acts))

-- its acts are those that the table says of its postings' last
pub acts_are : (s : ScriptData) (n : ℕ) (es : List Entry) (e : Entry) (l : Letter) → IsRow s n es e l
    → e.acts ≡ last_acts s n (map delivery_of (es ++ e ∷ []))
acts_are s n es e l is =
    is.acts ∙ (λ k. (row_there s n es (sym is.took k)).acts) ∙ sym (acts_more (actor_row s n) (start_actor s n) [] es e)

-- with its posting, the entries of the postings are those with it
pub entries_on : (s : ScriptData) (n : ℕ) (own : List Posting) (e : Entry) (l : Letter) → IsRow s n (entries_by s n own) e l
    → entries_by s n (own ++ delivery_of e ∷ []) ≡ entries_by s n own ++ e ∷ []
entries_on s n own e l is =
    entries_more (actor_row s n) (start_actor s n) own e (is.acts ∙ (λ k. (row_there s n (entries_by s n own) (sym is.took k)).acts))

-- where the entries lead with one more
pub leads_on : (s : ScriptData) (n : ℕ) (es : List Entry) (e : Entry) (l : Letter) → e.took ≡ l
    → led_to s n (es ++ e ∷ []) ≡ (row_there s n es l).state
leads_on s n es e l took = after_more (actor_row s n) (start_actor s n) es e ∙ (λ k. (row_there s n es (took k)).state)

-- the seat of an actor that has taken a letter and stamped its posting
pub seat_stamped : (post other : PostId) (n stamp : ℕ) (own : List Posting) (l took : Letter) (sent : List Outgoing) (first second third : SeatData)
    → other ≡ post → first ≡ seat_data post n own None None
    → second ≡ seat_data other first.number first.own (Some l) first.unsent
    → third ≡ seat_data other second.number (second.own ++ posting stamp second.number took sent ∷ []) None (Some (posting stamp second.number took sent))
    → third ≡ seat_data post n (own ++ posting stamp n took sent ∷ []) None (Some (posting stamp n took sent))
seat_stamped post other n stamp own l took sent first second third same a b d =
    let taken : second ≡ seat_data post n own (Some l) None = b ∙ (λ k. seat_data (same k) (a k).number (a k).own (Some l) (a k).unsent) in
    d ∙ (λ k. seat_data (same k) (taken k).number ((taken k).own ++ posting stamp (taken k).number took sent ∷ []) None (Some (posting stamp (taken k).number took sent)))
