-- What a step of a coordinator that forgets can be.
use Rattle.std.proofs.Common.{◌≡◌, ℕ, ◌+◌, ◌<◌, ◌&&◌, ◌==◌, Bool, true, false, List, [], length, refl, sym, ap, subst, ◌∙◌, Option, Some, None, arith}
use Rattle.std.specs.Prelude.{if◌then◌else◌, max, nat_lt, not}
use Rattle.std.proofs.lemmas.Bool.{and_parts, eqb-true, ltb-true}
use Rattle.tv_base.specs.declared.numbers.Version.{Version}
use Rattle.tv_base.specs.Outside.{one_more}
use Rattle.phase_out.specs.Counts.{by_verdict, nudged, told_done, told_asked}
use Rattle.phase_out.specs.Rounds.{all_in, is_of, verdict_of}
use Rattle.phase_out.specs.declared.count.Counted.TheVariants as counted
use Rattle.letter_types.specs.declared.bodies.Body.{Body}
use Rattle.letter_types.specs.declared.bodies.Body.TheVariants.{AdvanceNo, AskAsked, AskedRow, DoneRow, Lose, Nudge, Numbers, Obeyed, Wanted}
use Rattle.letter_types.specs.declared.bodies.What.{What}
use Rattle.letter_types.specs.declared.entries.Outgoing.{Outgoing}
use Rattle.letter_types.specs.Steps.{Out, still}
use Rattle.world_model.specs.Coordinator.{to_nodes}
use Rattle.world_model.specs.Restarting.{Restarting, after_doing, begin_counting, by_count, by_counted, end_counting, enter, forget, in_restart_phase, is_answer, next_advance, recover, restart_row_of, restarting_row, target, with_told, with_wanted}
use Rattle.world_model.specs.declared.restarting.RestartPhase.{RestartPhase}
use Rattle.world_model.specs.declared.restarting.RestartPhase.TheVariants.{Idle, Recovering, Doing, Counting, Paused}
use Rattle.advance_laws.proofs.counting.KeptRows.{with_asked, with_done}

-- the letter changes nothing in this phase
abbrev pub IsLeft : Body → RestartPhase → ℕ → Restarting → Type 0
IsLeft Lose phase from c = ⊥
IsLeft (AdvanceNo i) phase from c = ⊥
IsLeft (Numbers e u r l) Recovering from c = ((e == c.epoch) && nat_lt from (length c.told)) ≡ false
IsLeft (Wanted e k) Recovering from c = ((e == c.epoch) && (from == c.nodes + 1)) ≡ false
IsLeft (Obeyed e what v) (Doing doing) from c = is_answer e what v doing c ≡ false
IsLeft (DoneRow v k row) (Counting reads) from c = is_of from v k row c.count.current ≡ false
IsLeft (AskedRow v k row) (Counting reads) from c = (is_of from v k row c.count.current && all_in c.count.current.dones) ≡ false
IsLeft Nudge (Counting reads) from c = ⊥
IsLeft Nudge (Paused reads) from c = ⊥
IsLeft _ _ from c = Unit {0}

-- the coordinator hears from a node, or from the client, what it asked for in this epoch
pub data HearsMore (c : Restarting) (from : ℕ) (body : Body) (d : Restarting) : Type 0 where
  OfNode : (u r l : Version) → body ≡ Numbers c.epoch u r l → from < length c.told
      → d ≡ with_told from (record { update = u; read = r; low = l }) c → HearsMore c from body d
  OfClient : (k : ℕ) → body ≡ Wanted c.epoch k → from ≡ c.nodes + 1 → d ≡ record c { heard = Some k } → HearsMore c from body d

-- the count with a row more
abbrev pub done_kept : ℕ → List ℕ → Restarting → Restarting
done_kept from row c = record c { count = record c.count { current = with_done from row c.count.current } }

abbrev pub asked_kept : ℕ → List ℕ → Restarting → Restarting
asked_kept from row c = record c { count = record c.count { current = with_asked from row c.count.current } }

-- what a row of completions has asked for
abbrev pub asks_with : ℕ → List ℕ → Restarting → List Outgoing
asks_with from row c =
    if all_in (with_done from row c.count.current).dones && not (all_in c.count.current.dones)
    then to_nodes c.nodes (AskAsked c.count.current.version c.count.current.number) else []

-- a row of requests of this round, after all completions
pub record TakesRequests (c : Restarting) (from : ℕ) (body : Body) (reads : Bool) (v : Version) (k : ℕ) (row : List ℕ) : Type 0 where
  pub phase : c.phase ≡ Counting reads
  pub body_is : body ≡ AskedRow v k row
  pub here : is_of from v k row c.count.current ≡ true
  pub after_dones : all_in c.count.current.dones ≡ true

-- the letter changes nothing; all but the epoch is forgotten; more advancements are wanted, and one begins where none
-- is under way; more is heard, and it goes on once all is; an order was obeyed by one node more, or by the last one; or
-- the count goes on: a nudge is remembered, or ends a pause, or a row is kept, or judged
pub data RestartStep (c : Restarting) (from : ℕ) (body : Body) (out : Out Restarting) : Type 0 where
  Rests : IsLeft body c.phase from c → out ≡ still c → RestartStep c from body out
  Forgets : body ≡ Lose → out ≡ forget c → RestartStep c from body out
  Wants : (i : ℕ) → body ≡ AdvanceNo i → (c.phase ≡ Idle → ⊥) → out ≡ still (with_wanted i c) → RestartStep c from body out
  Goes : (i : ℕ) → body ≡ AdvanceNo i → c.phase ≡ Idle → out ≡ enter (next_advance (max c.wanted i) c.ended) (with_wanted i c)
      → RestartStep c from body out
  Recovers : (d : Restarting) → c.phase ≡ Recovering → HearsMore c from body d → out ≡ recover d → RestartStep c from body out
  Acks : (what : What) → c.phase ≡ Doing what → body ≡ Obeyed c.epoch what (target what c.ended) → (one_more c.acks == c.nodes) ≡ false
      → out ≡ still (record c { acks = one_more c.acks }) → RestartStep c from body out
  Ends : (what : What) → c.phase ≡ Doing what → body ≡ Obeyed c.epoch what (target what c.ended) → (one_more c.acks == c.nodes) ≡ true
      → out ≡ after_doing what c → RestartStep c from body out
  Flags : (reads : Bool) → c.phase ≡ Counting reads → body ≡ Nudge → out ≡ still (record c { count = nudged c.count })
      → RestartStep c from body out
  Resumes : (reads : Bool) → c.phase ≡ Paused reads → body ≡ Nudge → out ≡ begin_counting reads c → RestartStep c from body out
  KeepsDone : (reads : Bool) (v : Version) (k : ℕ) (row : List ℕ) → c.phase ≡ Counting reads → body ≡ DoneRow v k row
      → is_of from v k row c.count.current ≡ true → out ≡ record { state = done_kept from row c; sent = asks_with from row c; acts = [] }
      → RestartStep c from body out
  KeepsAsked : (reads : Bool) (v : Version) (k : ℕ) (row : List ℕ) → TakesRequests c from body reads v k row
      → verdict_of (with_asked from row c.count.current) ≡ None → out ≡ still (asked_kept from row c) → RestartStep c from body out
  Agrees : (reads : Bool) (v : Version) (k : ℕ) (row : List ℕ) → TakesRequests c from body reads v k row
      → verdict_of (with_asked from row c.count.current) ≡ Some true → out ≡ end_counting reads (asked_kept from row c)
      → RestartStep c from body out
  Recounts : (reads : Bool) (v : Version) (k : ℕ) (row : List ℕ) → TakesRequests c from body reads v k row
      → verdict_of (with_asked from row c.count.current) ≡ Some false → c.count.flag ≡ true
      → out ≡ begin_counting reads (asked_kept from row c) → RestartStep c from body out
  Pauses : (reads : Bool) (v : Version) (k : ℕ) (row : List ℕ) → TakesRequests c from body reads v k row
      → verdict_of (with_asked from row c.count.current) ≡ Some false → c.count.flag ≡ false
      → out ≡ still (in_restart_phase (Paused reads) (asked_kept from row c)) → RestartStep c from body out

-- an answer to the present order
answer_is : (e : ℕ) (what : What) (v : Version) (doing : What) (c : Restarting) → is_answer e what v doing c ≡ true
    → Obeyed e what v ≡ Obeyed c.epoch doing (target doing c.ended)
answer_is e what v doing c is = grind arith

-- Steps by their tests.
numbers_step : (e : ℕ) (u r l : Version) (from : ℕ) (c : Restarting) (test : Bool) → c.phase ≡ Recovering
    → ((e == c.epoch) && nat_lt from (length c.told)) ≡ test
    → RestartStep c from (Numbers e u r l) (if test then recover (with_told from (record { update = u; read = r; low = l }) c) else still c)
numbers_step e u r l from c true at is =
    let parts = and_parts (e == c.epoch) (nat_lt from (length c.told)) is in
    Recovers (with_told from (record { update = u; read = r; low = l }) c) at
    (OfNode u r l (ap (λ (n : ℕ). Numbers n u r l) (eqb-true e c.epoch parts.0)) (ltb-true from (length c.told) parts.1) refl) refl
numbers_step e u r l from c false at is =
    Rests (subst (λ (phase : RestartPhase). IsLeft (Numbers e u r l) phase from c) (sym at) is) refl

wanted_step : (e k from : ℕ) (c : Restarting) (test : Bool) → c.phase ≡ Recovering → ((e == c.epoch) && (from == c.nodes + 1)) ≡ test
    → RestartStep c from (Wanted e k) (if test then recover (record c { heard = Some k }) else still c)
wanted_step e k from c true at is =
    let parts = and_parts (e == c.epoch) (from == c.nodes + 1) is in
    Recovers (record c { heard = Some k }) at
    (OfClient k (ap (λ (n : ℕ). Wanted n k) (eqb-true e c.epoch parts.0)) (eqb-true from (c.nodes + 1) parts.1) refl) refl
wanted_step e k from c false at is = Rests (subst (λ (phase : RestartPhase). IsLeft (Wanted e k) phase from c) (sym at) is) refl

last_step : (what : What) (from : ℕ) (body : Body) (c : Restarting) (last : Bool) → c.phase ≡ Doing what
    → body ≡ Obeyed c.epoch what (target what c.ended) → (one_more c.acks == c.nodes) ≡ last
    → RestartStep c from body (if last then after_doing what c else still (record c { acks = one_more c.acks }))
last_step what from body c true at bd is = Ends what at bd is refl
last_step what from body c false at bd is = Acks what at bd is refl

obeyed_step : (e : ℕ) (what : What) (v : Version) (doing : What) (from : ℕ) (c : Restarting) (test : Bool) → c.phase ≡ Doing doing
    → is_answer e what v doing c ≡ test
    → RestartStep c from (Obeyed e what v)
    (if test then (if one_more c.acks == c.nodes then after_doing doing c else still (record c { acks = one_more c.acks })) else still c)
obeyed_step e what v doing from c true at is =
    last_step doing from (Obeyed e what v) c (one_more c.acks == c.nodes) at (answer_is e what v doing c is) refl
obeyed_step e what v doing from c false at is =
    Rests (subst (λ (phase : RestartPhase). IsLeft (Obeyed e what v) phase from c) (sym at) is) refl

asks_by : (b : Bool) (from : ℕ) (row : List ℕ) (c : Restarting) (reads : Bool)
    → by_counted reads (if b then counted.AsksRequests else counted.Goes) (done_kept from row c)
    ≡ record { state = done_kept from row c; sent = if b then to_nodes c.nodes (AskAsked c.count.current.version c.count.current.number) else []; acts = [] }
asks_by true from row c reads = refl
asks_by false from row c reads = refl

done_step : (v : Version) (k : ℕ) (row : List ℕ) (reads : Bool) (from : ℕ) (c : Restarting) (test : Bool) → c.phase ≡ Counting reads
    → is_of from v k row c.count.current ≡ test → RestartStep c from (DoneRow v k row) (by_count reads (told_done from v k row c.count) c)
done_step v k row reads from c true at is =
    KeepsDone reads v k row at refl is (rw is (asks_by _ from row c reads))
done_step v k row reads from c false at is =
    Rests (subst (λ (phase : RestartPhase). IsLeft (DoneRow v k row) phase from c) (sym at) is) (rw is refl)

-- a row of requests that the round takes is judged
judged : (v : Version) (k : ℕ) (row : List ℕ) (reads : Bool) (from : ℕ) (c : Restarting) (verdict : Option Bool)
    → TakesRequests c from (AskedRow v k row) reads v k row → verdict_of (with_asked from row c.count.current) ≡ verdict
    → by_count reads (told_asked from v k row c.count) c ≡ by_counted reads (by_verdict verdict c.count.flag) (asked_kept from row c)
judged v k row reads from c verdict takes is = grind arith

judged_step : (v : Version) (k : ℕ) (row : List ℕ) (reads : Bool) (from : ℕ) (c : Restarting) (verdict : Option Bool) (flag : Bool)
    → TakesRequests c from (AskedRow v k row) reads v k row → verdict_of (with_asked from row c.count.current) ≡ verdict → c.count.flag ≡ flag
    → RestartStep c from (AskedRow v k row) (by_count reads (told_asked from v k row c.count) c)
judged_step v k row reads from c None flag takes is at = KeepsAsked reads v k row takes is (judged v k row reads from c None takes is)
judged_step v k row reads from c (Some true) flag takes is at = Agrees reads v k row takes is (judged v k row reads from c (Some true) takes is)
judged_step v k row reads from c (Some false) true takes is at =
    Recounts reads v k row takes is at
    (judged v k row reads from c (Some false) takes is
    ∙ ap (λ (b : Bool). by_counted reads (if b then counted.Recounts else counted.Pauses) (asked_kept from row c)) at)
judged_step v k row reads from c (Some false) false takes is at =
    Pauses reads v k row takes is at
    (judged v k row reads from c (Some false) takes is
    ∙ ap (λ (b : Bool). by_counted reads (if b then counted.Recounts else counted.Pauses) (asked_kept from row c)) at)

asked_step : (v : Version) (k : ℕ) (row : List ℕ) (reads : Bool) (from : ℕ) (c : Restarting) (test : Bool) → c.phase ≡ Counting reads
    → (is_of from v k row c.count.current && all_in c.count.current.dones) ≡ test
    → RestartStep c from (AskedRow v k row) (by_count reads (told_asked from v k row c.count) c)
asked_step v k row reads from c true at is =
    let parts = and_parts (is_of from v k row c.count.current) (all_in c.count.current.dones) is in
    judged_step v k row reads from c (verdict_of (with_asked from row c.count.current)) c.count.flag
    (record { phase = at; body_is = refl; here = parts.0; after_dones = parts.1 }) refl refl
asked_step v k row reads from c false at is =
    Rests (subst (λ (phase : RestartPhase). IsLeft (AskedRow v k row) phase from c) (sym at) is) (rw is refl)

-- Each letter in each phase.
step_of : (c : Restarting) (from : ℕ) (body : Body) (phase : RestartPhase) → c.phase ≡ phase → RestartStep c from body (restart_row_of body phase from c)
step_of c from Lose phase at = Forgets refl refl
step_of c from (AdvanceNo i) Idle at = Goes i refl at refl
step_of c from (AdvanceNo i) Recovering at = Wants i refl (λ idle. cc (sym at ∙ idle)) refl
step_of c from (AdvanceNo i) (Doing what) at = Wants i refl (λ idle. cc (sym at ∙ idle)) refl
step_of c from (AdvanceNo i) (Counting reads) at = Wants i refl (λ idle. cc (sym at ∙ idle)) refl
step_of c from (AdvanceNo i) (Paused reads) at = Wants i refl (λ idle. cc (sym at ∙ idle)) refl
step_of c from (Numbers e u r l) Recovering at = numbers_step e u r l from c _ at refl
step_of c from (Wanted e k) Recovering at = wanted_step e k from c _ at refl
step_of c from (Obeyed e what v) (Doing doing) at = obeyed_step e what v doing from c _ at refl
step_of c from (DoneRow v k row) (Counting reads) at = done_step v k row reads from c _ at refl
step_of c from (AskedRow v k row) (Counting reads) at = asked_step v k row reads from c _ at refl
step_of c from Nudge (Counting reads) at = Flags reads at refl refl
step_of c from Nudge (Paused reads) at = Resumes reads at refl refl
step_of c from body phase at = Rests (subst (λ (other : RestartPhase). IsLeft body other from c) (sym at) tt) refl

-- each letter that comes to it
pub restart_step : (c : Restarting) (from : ℕ) (body : Body) → RestartStep c from body (restarting_row c from body)
restart_step c from body = step_of c from body c.phase refl
