-- What a step of the coordinator can be, if its numbers can still grow.
use Rattle.std.proofs.Common.{if◌then◌else◌, ◌≡◌, ◌⊎◌, inl, inr, ℕ, ◌+◌, ◌-◌, ◌^◌, ◌<◌, ◌==◌, ◌&&◌, not, Bool, true, false, List, [], ◌∷◌, refl, sym, ap, subst, ◌∙◌, arith, Option, Some, None}
use Rattle.tv_base.specs.declared.numbers.Version.{Version}
use Rattle.tv_base.specs.Outside.{one_more}
use Rattle.std.proofs.lemmas.Bool.{and_parts}
use Rattle.phase_out.specs.Counts.{begin_count, by_verdict, nudged, told_asked, told_done}
use Rattle.phase_out.specs.Rounds.{is_of, all_in, verdict_of}
use Rattle.phase_out.specs.declared.count.Counted.TheVariants as counted
use Rattle.letter_types.specs.declared.bodies.Body.{Body}
use Rattle.letter_types.specs.declared.bodies.Body.TheVariants.{Nudge, Advance, Turn, Turned, Shown, Swept, AskDone, AskAsked, DoneRow, AskedRow}
use Rattle.letter_types.specs.Steps.{Out, still}
use Rattle.world_model.specs.Coordinator.{Coordinator, version, to_nodes, in_phase, begin_phase, counted_version, begin_round, acknowledged, as_counted, end_count, advanced, end_advance, go_by, row_of, coordinator_row}
use Rattle.world_model.specs.declared.phase.Phase.{Phase}
use Rattle.world_model.specs.declared.phase.Phase.TheVariants.{Idle, Turning, Counting, Paused, Showing, Sweeping}
use Rattle.advance_laws.proofs.counting.KeptRows.{with_asked, with_done}

-- a number that isn't its type's last grows by one
pub one_more_is : (n : ℕ) → n < 2 ^ 64 - 1 → one_more n ≡ n + 1
one_more_is n lt = omega (arith, lt)

-- the coordinator's numbers can still grow
pub record HasRoom (c : Coordinator) : Type 0 where
  pub update : c.update + 1 < 2 ^ 64 - 1
  pub waits : c.waits < 2 ^ 64 - 1
  pub round : c.count.number < 2 ^ 64 - 1
  pub acks : c.acks < 2 ^ 64 - 1

-- round k begins: it misses every row and asks every node for its completions
abbrev pub round_begun : Bool → ℕ → Coordinator → Out Coordinator
round_begun reads k c =
    begin_phase (Counting reads) (AskDone (counted_version reads c) k)
    (record c { count = begin_count (counted_version reads c) k c.nodes })

-- every node is asked for its requests where a test says so
abbrev pub asks_if : Bool → Coordinator → Out Coordinator
asks_if test c = record {
  state = c;
  sent = if test then to_nodes c.nodes (AskAsked c.count.current.version c.count.current.number) else [];
  acts = [];
}

-- the coordinator with one more row of completions, which has requests asked for if it fills the last missing place
abbrev pub keep_done : ℕ → List ℕ → Coordinator → Out Coordinator
keep_done from row c =
    asks_if (all_in (with_done from row c.count.current).dones && not (all_in c.count.current.dones))
    (record c { count = record c.count { current = with_done from row c.count.current } })

-- with one more row of requests
abbrev pub asked_kept : ℕ → List ℕ → Coordinator → Coordinator
asked_kept from row c = record c { count = record c.count { current = with_asked from row c.count.current } }

-- in the next update version, with so many that wait
abbrev pub in_next : Phase → ℕ → Coordinator → Coordinator
in_next phase waits c = in_phase phase (record c { update = c.update + 1; waits = waits })

-- an advancement has ended, and none waits
abbrev pub finished : Coordinator → Out Coordinator
finished c = record { state = in_next Idle 0 c; sent = advanced c ∷ []; acts = [] }

-- it has ended, and the next begins in the same step
abbrev pub gone_on : Coordinator → Out Coordinator
gone_on c = record {
  state = in_next Turning (c.waits - 1) c;
  sent = advanced c ∷ to_nodes c.nodes (Turn (version (c.update + 2)));
  acts = [];
}

-- the phase waits for this letter as an acknowledgement
abbrev pub IsAnswer : Phase → Body → Type 0
IsAnswer Turning (Turned v) = Unit {0}
IsAnswer Showing (Shown v) = Unit {0}
IsAnswer Sweeping (Swept v) = Unit {0}
IsAnswer _ _ = ⊥

-- an advancement is in progress
abbrev pub IsRunning : Phase → Type 0
IsRunning Idle = ⊥
IsRunning _ = Unit {0}

-- the coordinator takes nothing from this letter
abbrev pub Ignored : Body → Phase → ℕ → Coordinator → Type 0
Ignored Advance phase from c = ⊥
Ignored Nudge (Counting reads) from c = ⊥
Ignored Nudge (Paused reads) from c = ⊥
Ignored (Turned v) Turning from c = ⊥
Ignored (Shown v) Showing from c = ⊥
Ignored (Swept v) Sweeping from c = ⊥
Ignored (DoneRow v k row) (Counting reads) from c = is_of from v k row c.count.current ≡ false
Ignored (AskedRow v k row) (Counting reads) from c = (is_of from v k row c.count.current && all_in c.count.current.dones) ≡ false
Ignored _ _ from c = Unit {0}

-- a row of requests of this round, after all completions
pub record TakesAsked (c : Coordinator) (from : ℕ) (body : Body) (reads : Bool) (v : Version) (k : ℕ) (row : List ℕ)
    : Type 0 where
  pub phase : c.phase ≡ Counting reads
  pub body_is : body ≡ AskedRow v k row
  pub here : is_of from v k row c.count.current ≡ true
  pub after_dones : all_in c.count.current.dones ≡ true

-- the letter is ignored; an advance waits, or a nudge is remembered; a phase begins, or is acknowledged, or was for the
-- last time, and the next begins; a round is resumed, keeps a row, or is judged
pub data Outcome (c : Coordinator) (from : ℕ) (body : Body) (out : Out Coordinator) : Type 0 where
  Rests : (phase : Phase) → c.phase ≡ phase → Ignored body phase from c → out ≡ still c → Outcome c from body out
  Queues : (phase : Phase) → c.phase ≡ phase → IsRunning phase → body ≡ Advance → out ≡ still (record c { waits = c.waits + 1 })
      → Outcome c from body out
  Flags : (reads : Bool) → c.phase ≡ Counting reads → body ≡ Nudge → out ≡ still (record c { count = nudged c.count })
      → Outcome c from body out
  Turns : c.phase ≡ Idle → body ≡ Advance → out ≡ begin_phase Turning (Turn (version (c.update + 1))) c
      → Outcome c from body out
  Acks : (phase : Phase) → c.phase ≡ phase → IsAnswer phase body → (c.acks + 1 == c.nodes) ≡ false
      → out ≡ still (record c { acks = c.acks + 1 }) → Outcome c from body out
  LastTurned : (v : Version) → c.phase ≡ Turning → body ≡ Turned v → (c.acks + 1 == c.nodes) ≡ true
      → out ≡ round_begun false (c.count.number + 1) c → Outcome c from body out
  LastShown : (v : Version) → c.phase ≡ Showing → body ≡ Shown v → (c.acks + 1 == c.nodes) ≡ true
      → out ≡ round_begun true (c.count.number + 1) c → Outcome c from body out
  Finishes : (v : Version) → c.phase ≡ Sweeping → body ≡ Swept v → (c.acks + 1 == c.nodes) ≡ true → (c.waits == 0) ≡ true
      → out ≡ finished c → Outcome c from body out
  GoesOn : (v : Version) → c.phase ≡ Sweeping → body ≡ Swept v → (c.acks + 1 == c.nodes) ≡ true → (c.waits == 0) ≡ false
      → out ≡ gone_on c
      → Outcome c from body out
  Resumes : (reads : Bool) → c.phase ≡ Paused reads → body ≡ Nudge → out ≡ round_begun reads (c.count.number + 1) c
      → Outcome c from body out
  KeepsDone : (reads : Bool) (v : Version) (k : ℕ) (row : List ℕ) → c.phase ≡ Counting reads → body ≡ DoneRow v k row
      → is_of from v k row c.count.current ≡ true → out ≡ keep_done from row c → Outcome c from body out
  KeepsAsked : (reads : Bool) (v : Version) (k : ℕ) (row : List ℕ) → TakesAsked c from body reads v k row
      → verdict_of (with_asked from row c.count.current) ≡ None → out ≡ still (asked_kept from row c) → Outcome c from body out
  Agrees : (reads : Bool) (v : Version) (k : ℕ) (row : List ℕ) → TakesAsked c from body reads v k row
      → verdict_of (with_asked from row c.count.current) ≡ Some true → out ≡ end_count reads (asked_kept from row c)
      → Outcome c from body out
  Recounts : (reads : Bool) (v : Version) (k : ℕ) (row : List ℕ) → TakesAsked c from body reads v k row
      → verdict_of (with_asked from row c.count.current) ≡ Some false → c.count.flag ≡ true
      → out ≡ round_begun reads (c.count.number + 1) (asked_kept from row c) → Outcome c from body out
  Pauses : (reads : Bool) (v : Version) (k : ℕ) (row : List ℕ) → TakesAsked c from body reads v k row
      → verdict_of (with_asked from row c.count.current) ≡ Some false → c.count.flag ≡ false
      → out ≡ still (in_phase (Paused reads) (asked_kept from row c)) → Outcome c from body out

-- a round begins with the next number
next_round : (reads : Bool) (c : Coordinator) → c.count.number < 2 ^ 64 - 1 → begin_round reads c ≡ round_begun reads (c.count.number + 1) c
next_round reads c lt = ap (λ (k : ℕ). round_begun reads k c) (one_more_is c.count.number lt)

-- one acknowledgement more: the last one, or one before it
acknowledged-last : (next : Out Coordinator) (c : Coordinator) → HasRoom c → (c.acks + 1 == c.nodes) ≡ true
    → acknowledged next c ≡ next
acknowledged-last next c room is = rw (one_more_is c.acks room.acks) (rw is refl)

acknowledged-more : (next : Out Coordinator) (c : Coordinator) → HasRoom c → (c.acks + 1 == c.nodes) ≡ false
    → acknowledged next c ≡ still (record c { acks = c.acks + 1 })
acknowledged-more next c room is = rw (one_more_is c.acks room.acks) (rw is refl)

end_advance-finishes : (c : Coordinator) → HasRoom c → (c.waits == 0) ≡ true
    → end_advance c ≡ finished c
end_advance-finishes c room none = rw none (rw (one_more_is c.update (omega (arith, room.update))) refl)

end_advance-goes_on : (c : Coordinator) → HasRoom c → (c.waits == 0) ≡ false
    → end_advance c
    ≡ gone_on c
end_advance-goes_on c room some =
    let once : one_more c.update ≡ c.update + 1 = one_more_is c.update (omega (arith, room.update)) in
    let twice : one_more (c.update + 1) ≡ c.update + 2 = one_more_is (c.update + 1) room.update ∙ omega arith in
    rw some (rw once (rw twice refl))

turned_out : (c : Coordinator) (from : ℕ) (v : Version) → HasRoom c → c.phase ≡ Turning → (b : Bool)
    → (c.acks + 1 == c.nodes) ≡ b → Outcome c from (Turned v) (acknowledged (begin_round false c) c)
turned_out c from v room at true is =
    LastTurned v at refl is (acknowledged-last (begin_round false c) c room is ∙ next_round false c room.round)
turned_out c from v room at false is = Acks Turning at tt is (acknowledged-more (begin_round false c) c room is)

shown_out : (c : Coordinator) (from : ℕ) (v : Version) → HasRoom c → c.phase ≡ Showing → (b : Bool)
    → (c.acks + 1 == c.nodes) ≡ b → Outcome c from (Shown v) (acknowledged (begin_round true c) c)
shown_out c from v room at true is =
    LastShown v at refl is (acknowledged-last (begin_round true c) c room is ∙ next_round true c room.round)
shown_out c from v room at false is = Acks Showing at tt is (acknowledged-more (begin_round true c) c room is)

swept_out : (c : Coordinator) (from : ℕ) (v : Version) → HasRoom c → c.phase ≡ Sweeping → (b d : Bool)
    → (c.acks + 1 == c.nodes) ≡ b → (c.waits == 0) ≡ d → Outcome c from (Swept v) (acknowledged (end_advance c) c)
swept_out c from v room at true true is none =
    Finishes v at refl is none (acknowledged-last (end_advance c) c room is ∙ end_advance-finishes c room none)
swept_out c from v room at true false is some =
    GoesOn v at refl is some (acknowledged-last (end_advance c) c room is ∙ end_advance-goes_on c room some)
swept_out c from v room at false d is any = Acks Sweeping at tt is (acknowledged-more (end_advance c) c room is)

asks_by : (test reads : Bool) (c : Coordinator)
    → as_counted reads (if test then counted.AsksRequests else counted.Goes) c ≡ asks_if test c
asks_by true reads c = refl
asks_by false reads c = refl

done_out : (c : Coordinator) (reads : Bool) (from : ℕ) (v : Version) (k : ℕ) (row : List ℕ) → c.phase ≡ Counting reads
    → (b : Bool) → is_of from v k row c.count.current ≡ b
    → Outcome c from (DoneRow v k row) (go_by reads (told_done from v k row c.count) c)
done_out c reads from v k row at true is = KeepsDone reads v k row at refl is (rw is (asks_by _ reads _))
done_out c reads from v k row at false is = Rests (Counting reads) at is (rw is refl)

-- a row of requests that the round takes is judged
judged : (c : Coordinator) (reads : Bool) (from : ℕ) (v : Version) (k : ℕ) (row : List ℕ) (verdict : Option Bool)
    → TakesAsked c from (AskedRow v k row) reads v k row → verdict_of (with_asked from row c.count.current) ≡ verdict
    → go_by reads (told_asked from v k row c.count) c ≡ as_counted reads (by_verdict verdict c.count.flag) (asked_kept from row c)
judged c reads from v k row verdict takes is = grind arith

judged_out : (c : Coordinator) (reads : Bool) (from : ℕ) (v : Version) (k : ℕ) (row : List ℕ) → HasRoom c
    → TakesAsked c from (AskedRow v k row) reads v k row → (verdict : Option Bool)
    → verdict_of (with_asked from row c.count.current) ≡ verdict
    → (flag : Bool) → c.count.flag ≡ flag → Outcome c from (AskedRow v k row) (as_counted reads (by_verdict verdict flag) (asked_kept from row c))
judged_out c reads from v k row room takes None is flag fl = KeepsAsked reads v k row takes is refl
judged_out c reads from v k row room takes (Some true) is flag fl = Agrees reads v k row takes is refl
judged_out c reads from v k row room takes (Some false) is true fl =
    Recounts reads v k row takes is fl (next_round reads (asked_kept from row c) room.round)
judged_out c reads from v k row room takes (Some false) is false fl = Pauses reads v k row takes is fl refl

asked_out : (c : Coordinator) (reads : Bool) (from : ℕ) (v : Version) (k : ℕ) (row : List ℕ) → HasRoom c
    → c.phase ≡ Counting reads → (b : Bool) → (is_of from v k row c.count.current && all_in c.count.current.dones) ≡ b
    → Outcome c from (AskedRow v k row) (go_by reads (told_asked from v k row c.count) c)
asked_out c reads from v k row room at true is =
    let parts = and_parts (is_of from v k row c.count.current) (all_in c.count.current.dones) is in
    let takes : TakesAsked c from (AskedRow v k row) reads v k row =
    record { phase = at; body_is = refl; here = parts.0; after_dones = parts.1 } in
    let verdict = verdict_of (with_asked from row c.count.current) in
    subst (λ (o : Out Coordinator). Outcome c from (AskedRow v k row) o) (sym (judged c reads from v k row verdict takes refl))
    (judged_out c reads from v k row room takes verdict refl c.count.flag refl)
asked_out c reads from v k row room at false is = Rests (Counting reads) at is (rw is refl)

row_out : (body : Body) (phase : Phase) (from : ℕ) (c : Coordinator) → HasRoom c → c.phase ≡ phase
    → Outcome c from body (row_of body phase from c)
row_out Advance Idle from c room at =
    Turns at refl (ap (λ (n : ℕ). begin_phase Turning (Turn (version n)) c) (one_more_is c.update (omega (arith, room.update))))
row_out Advance Turning from c room at =
    Queues Turning at tt refl (ap (λ (n : ℕ). still (record c { waits = n })) (one_more_is c.waits room.waits))
row_out Advance Showing from c room at =
    Queues Showing at tt refl (ap (λ (n : ℕ). still (record c { waits = n })) (one_more_is c.waits room.waits))
row_out Advance Sweeping from c room at =
    Queues Sweeping at tt refl (ap (λ (n : ℕ). still (record c { waits = n })) (one_more_is c.waits room.waits))
row_out Advance (Counting reads) from c room at =
    Queues (Counting reads) at tt refl (ap (λ (n : ℕ). still (record c { waits = n })) (one_more_is c.waits room.waits))
row_out Advance (Paused reads) from c room at =
    Queues (Paused reads) at tt refl (ap (λ (n : ℕ). still (record c { waits = n })) (one_more_is c.waits room.waits))
row_out (Turned v) Turning from c room at = turned_out c from v room at (c.acks + 1 == c.nodes) refl
row_out (DoneRow v k row) (Counting reads) from c room at = done_out c reads from v k row at (is_of from v k row c.count.current) refl
row_out (AskedRow v k row) (Counting reads) from c room at =
    asked_out c reads from v k row room at (is_of from v k row c.count.current && all_in c.count.current.dones) refl
row_out Nudge (Counting reads) from c room at = Flags reads at refl refl
row_out Nudge (Paused reads) from c room at = Resumes reads at refl (next_round reads c room.round)
row_out (Shown v) Showing from c room at = shown_out c from v room at (c.acks + 1 == c.nodes) refl
row_out (Swept v) Sweeping from c room at = swept_out c from v room at (c.acks + 1 == c.nodes) (c.waits == 0) refl refl
row_out body phase from c room at = Rests phase at tt refl

-- every step of the coordinator is one of these
pub outcome : (c : Coordinator) (from : ℕ) (body : Body) → HasRoom c → Outcome c from body (coordinator_row c from body)
outcome c from body room = row_out body c.phase from c room refl

-- The coordinator's version stays or grows by one.
ends_update : (reads : Bool) (c : Coordinator) → (end_count reads c).state.update ≡ c.update
ends_update true c = refl
ends_update false c = refl

pub update_next : (c : Coordinator) (from : ℕ) (body : Body) (out : Out Coordinator) → Outcome c from body out
    → (out.state.update ≡ c.update) ⊎ (out.state.update ≡ c.update + 1)
update_next c from body out (Rests phase at ignored is) = inl (ap (λ (o : Out Coordinator). o.state.update) is)
update_next c from body out (Queues phase at goes bd is) = inl (ap (λ (o : Out Coordinator). o.state.update) is)
update_next c from body out (Flags reads at bd is) = inl (ap (λ (o : Out Coordinator). o.state.update) is)
update_next c from body out (Turns at bd is) = inl (ap (λ (o : Out Coordinator). o.state.update) is)
update_next c from body out (Acks phase at answer more is) = inl (ap (λ (o : Out Coordinator). o.state.update) is)
update_next c from body out (LastTurned v at bd last is) = inl (ap (λ (o : Out Coordinator). o.state.update) is)
update_next c from body out (LastShown v at bd last is) = inl (ap (λ (o : Out Coordinator). o.state.update) is)
update_next c from body out (Finishes v at bd last none is) = inr (ap (λ (o : Out Coordinator). o.state.update) is)
update_next c from body out (GoesOn v at bd last some is) = inr (ap (λ (o : Out Coordinator). o.state.update) is)
update_next c from body out (Resumes reads at bd is) = inl (ap (λ (o : Out Coordinator). o.state.update) is)
update_next c from body out (KeepsDone reads v k row at bd here is) = inl (ap (λ (o : Out Coordinator). o.state.update) is)
update_next c from body out (KeepsAsked reads v k row takes verdict is) = inl (ap (λ (o : Out Coordinator). o.state.update) is)
update_next c from body out (Agrees reads v k row takes verdict is) =
    inl (ap (λ (o : Out Coordinator). o.state.update) is ∙ ends_update reads (asked_kept from row c))
update_next c from body out (Recounts reads v k row takes verdict flag is) =
    inl (ap (λ (o : Out Coordinator). o.state.update) is)
update_next c from body out (Pauses reads v k row takes verdict flag is) = inl (ap (λ (o : Out Coordinator). o.state.update) is)
