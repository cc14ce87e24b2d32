-- What the steps of a coordinator that forgets cost, in entries, as messages do: each step is paid for.
use Rattle.std.proofs.Common.{if◌then◌else◌, ◌≡◌, ◌⊎◌, inl, inr, ℕ, zero, suc, ◌+◌, ◌*◌, ◌<◌, ◌≤◌, ◌&&◌, not, Bool, true, false, List, [], ◌∷◌, length, set, refl, sym, ap, subst, ◌∙◌, arith, Option, Some, None}
use Rattle.std.specs.Prelude.{max, is_some, slice_set}
use Rattle.std.specs.List.{list_all}
use Rattle.tv_base.specs.Outside.{one_more}
use Rattle.tv_base.specs.declared.numbers.Version.{Version}
use Rattle.phase_out.specs.Counts.{nudged}
use Rattle.phase_out.specs.Rounds.{NodeRows, all_in}
use Rattle.letter_types.specs.declared.bodies.Body.{Body}
use Rattle.letter_types.specs.declared.bodies.Body.TheVariants.{Go, Advance, Advanced, AdvanceNo, Ask, AskAsked, AskDone, AskedRow, DoneRow, Lose, Numbers, Obeyed, Order, Show, Shown, Sweep, Swept, Turn, Turned, Wanted}
use Rattle.letter_types.specs.declared.bodies.What.{What}
use Rattle.letter_types.specs.declared.bodies.What.TheVariants.{Turn as ToTurn, Show as ToShow, Sweep as ToSweep}
use Rattle.letter_types.specs.Steps.{Out, still}
use Rattle.world_model.specs.Coordinator.{to_nodes}
use Rattle.world_model.specs.Counts.{tally}
use Rattle.world_model.specs.Restarting.{Restarting, AllTold, after_doing, begin_counting, with_advances, end_counting, enter, forget, in_restart_phase, next_advance, orders, resume, resume_if, with_wanted}
use Rattle.world_model.specs.declared.restarting.RestartPhase.{RestartPhase}
use Rattle.world_model.specs.declared.restarting.RestartPhase.TheVariants.{Idle, Recovering, Doing, Counting, Paused}
use Rattle.world_model.proofs.Bags.{tally-append}
use Rattle.world_model.proofs.Lawful.{is_nudge}
use Rattle.world_model.proofs.Sends.{on}
use Rattle.advance_laws.proofs.phases.Outcomes.{one_more_is}
use Rattle.advance_laws.proofs.right.Good.{Knows}
use Rattle.advance_laws.proofs.recovery.RecoverSteps.{next_each}
use Rattle.advance_laws.proofs.recovery.RestartSteps.{HearsMore, OfClient, OfNode, RestartStep, asked_kept, asks_with, done_kept}
use Rattle.advance_laws.proofs.recovery.RestartSteps.{Acks, Agrees, Ends, Flags, Forgets as StepForgets, Goes, KeepsAsked, KeepsDone, Pauses, Recounts, Recovers, Rests, Resumes as StepResumes, Wants}

-- how many entries a letter of advancements costs: an order or a question is taken, and so is its answer
abbrev pub price : Body → ℕ
price (Turn v) = 2
price (Show v) = 2
price (Sweep v) = 2
price (Order e what v) = 2
price (Ask e) = 2
price (AskDone v k) = 2
price (AskAsked v k) = 2
price (Turned v) = 1
price (Shown v) = 1
price (Swept v) = 1
price (Obeyed e what v) = 1
price (Numbers e u r l) = 1
price (Wanted e k) = 1
price (DoneRow v k row) = 1
price (AskedRow v k row) = 1
price Advance = 1
price (AdvanceNo i) = 1
price (Advanced v) = 1
price Lose = 1
price Go = 0
price _ = 0

-- what the advancement in progress has cost so far, with n nodes: 2 for each order, and 4 for each node in a round
abbrev pub begun : ℕ → RestartPhase → ℕ
begun n Idle = 0
begun n Recovering = 0
begun n (Doing ToTurn) = 2 * n
begun n (Counting reads) = if reads then 12 * n else 6 * n
begun n (Paused reads) = if reads then 12 * n else 6 * n
begun n (Doing ToShow) = 8 * n
begun n (Doing ToSweep) = 14 * n

-- with those that have ended
abbrev pub spent : ℕ → Restarting → ℕ
spent n c = c.ended * (14 * n + 1) + begun n c.phase

-- the second wave of questions, while it hasn't begun
abbrev pub unasked : ℕ → RestartPhase → NodeRows → ℕ
unasked n (Counting reads) dones = if all_in dones then 0 else 2 * n
unasked n Idle dones = 0
unasked n _ dones = 0

-- a round for the nudge that is remembered
abbrev pub promised : ℕ → RestartPhase → Bool → ℕ
promised n (Counting reads) flag = if flag then 4 * n else 0
promised n Idle flag = 0
promised n _ flag = 0

-- what is still to be sent for what was paid
abbrev pub owed : ℕ → Restarting → ℕ
owed n c = unasked n c.phase c.count.current.dones + promised n c.phase c.count.flag

-- what it sends is what it begins, and a nudge pays for a round
abbrev pub Pays : ℕ → Restarting → Body → Out Restarting → Type 0
Pays n c body out =
    tally (on price) out.sent + spent n c + owed n out.state ≤ spent n out.state + owed n c + 4 * n * is_nudge body

-- what it was told by a node, or nothing
pub data TellsMore (c : Restarting) (from : ℕ) (body : Body) (told : AllTold) : Type 0 where
  Same : told ≡ c.told → TellsMore c from body told
  OneMore : (u r l : Version) → body ≡ Numbers c.epoch u r l → from < length c.told
      → told ≡ slice_set c.told from (Some (record { update = u; read = r; low = l })) → TellsMore c from body told

-- it pays for what it sends; it forgets; it waits for what it hasn't heard; or it resumes
pub data StepCosts (n : ℕ) (c : Restarting) (from : ℕ) (body : Body) (out : Out Restarting) : Type 0 where
  Spends : Knows c.phase → Knows out.state.phase → out.state.epoch ≡ c.epoch → Pays n c body out
      → StepCosts n c from body out
  Forgets : body ≡ Lose → out ≡ forget c → StepCosts n c from body out
  Waits : c.phase ≡ Recovering → out.state.phase ≡ Recovering → out.state.epoch ≡ c.epoch → TellsMore c from body out.state.told
      → out.sent ≡ [] → StepCosts n c from body out
  Resumes : (k : ℕ) (d : Restarting) → c.phase ≡ Recovering → HearsMore c from body d → list_all is_some d.told ≡ true
      → out ≡ resume k d
      → StepCosts n c from body out

-- Letters to all nodes.
pub to_nodes_price : (n : ℕ) (body : Body) → price body ≡ 2 → tally (on price) (to_nodes n body) ≡ 2 * n
to_nodes_price zero body two = refl
to_nodes_price (suc n) body two =
    omega (
      arith,
      two,
      to_nodes_price n body two,
      tally-append (on price) (to_nodes n body) (record { to = record { 0 = n }; body = body } ∷ []),
    )

all_price : (m n : ℕ) (body : Body) → m ≡ n → price body ≡ 2 → tally (on price) (to_nodes m body) ≡ 2 * n
all_price m n body nodes two = to_nodes_price m body two ∙ ap (λ (k : ℕ). 2 * k) nodes

-- orders as a phase begins
abbrev pub ordered : ℕ → RestartPhase → ℕ
ordered n (Doing what) = 2 * n
ordered n Idle = 0
ordered n _ = 0

pub orders_price : (n : ℕ) (phase : RestartPhase) (c : Restarting) → c.nodes ≡ n
    → tally (on price) (orders phase c) ≡ ordered n phase
orders_price n phase c nodes = grind (arith, all_price)

-- Phases.
begun_at : (n : ℕ) (c : Restarting) (phase : RestartPhase) → c.phase ≡ phase → begun n c.phase ≡ begun n phase
begun_at n c phase at = ap (λ (p : RestartPhase). begun n p) at

-- a phase that begins with its orders, and in which nothing is owed
pub record IsEntered (n : ℕ) (phase : RestartPhase) : Type 0 where
  pub known : Knows phase
  pub unasked : (dones : NodeRows) → unasked n phase dones ≡ 0
  pub promised : (flag : Bool) → promised n phase flag ≡ 0

pub doing_entered : (n : ℕ) (what : What) → IsEntered n (Doing what)
doing_entered n what = record { known = λ is. cc is; unasked = λ dones. refl; promised = λ flag. refl }

pub next_entered : (n wanted f : ℕ) → IsEntered n (next_advance wanted f)
next_entered n wanted f =
    next_each (IsEntered n) wanted f (λ lt. doing_entered n ToTurn)
    (λ le. record { known = λ is. cc is; unasked = λ dones. refl; promised = λ flag. refl })

pub next_orders : (n wanted f : ℕ) → ordered n (next_advance wanted f) ≡ begun n (next_advance wanted f)
next_orders n wanted f = next_each (λ (p : RestartPhase). ordered n p ≡ begun n p) wanted f (λ lt. refl) (λ le. refl)

-- Steps.
pub recovers_or : (phase : RestartPhase) → (phase ≡ Recovering) ⊎ Knows phase
recovers_or phase = grind arith

spends : (n : ℕ) (c : Restarting) (from : ℕ) (body : Body) (out next : Out Restarting) → out ≡ next → Knows c.phase
    → Knows next.state.phase → next.state.epoch ≡ c.epoch → Pays n c body next → StepCosts n c from body out
spends n c from body out next is was now epoch pays =
    subst (λ (o : Out Restarting). StepCosts n c from body o) (sym is) (Spends was now epoch pays)

-- a step that leaves all but what is wanted
stays_as : (n : ℕ) (c : Restarting) (from : ℕ) (body : Body) (w : ℕ) → (c.phase ≡ Recovering) ⊎ Knows c.phase
    → StepCosts n c from body (still (record c { wanted = w }))
stays_as n c from body w (inl at) = Waits at at refl (Same refl) refl
stays_as n c from body w (inr known) = Spends known known refl (omega arith)

stays : (n : ℕ) (c : Restarting) (from : ℕ) (body : Body) (w : ℕ) → StepCosts n c from body (still (record c { wanted = w }))
stays n c from body w = stays_as n c from body w (recovers_or c.phase)

-- a phase begins with its orders
enters : (n : ℕ) (c d : Restarting) (from : ℕ) (body : Body) (out : Out Restarting) (phase : RestartPhase) → d.nodes ≡ n
    → d.epoch ≡ c.epoch → d.ended ≡ c.ended → Knows c.phase
    → ordered n phase + begun n c.phase ≤ begun n phase + owed n c → IsEntered n phase
    → out ≡ enter phase d → StepCosts n c from body out
enters n c d from body out phase nodes epoch ended was few e is = grind (arith, orders_price)

-- a round begins
counts : (n : ℕ) (reads : Bool) (c d : Restarting) (from : ℕ) (body : Body) (out : Out Restarting) → 1 ≤ n → d.nodes ≡ n
    → d.epoch ≡ c.epoch → d.ended ≡ c.ended → Knows c.phase
    → begun n c.phase + 4 * n ≤ begun n (Counting reads) + owed n c + 4 * n * is_nudge body
    → out ≡ begin_counting reads d → StepCosts n c from body out
counts n reads c d from body out some nodes epoch ended was few is = grind (arith, all_price)

-- every node has obeyed
ends : (n : ℕ) (c : Restarting) (from : ℕ) (body : Body) (out : Out Restarting) (what : What) → 1 ≤ n → c.nodes ≡ n
    → one_more c.ended ≡ c.ended + 1 → c.phase ≡ Doing what → out ≡ after_doing what c → StepCosts n c from body out
ends n c from body out ToTurn some nodes next at is =
    counts n false c c from body out some nodes refl refl (λ no. cc (sym at ∙ no))
    (omega (arith, begun_at n c (Doing ToTurn) at)) is
ends n c from body out ToShow some nodes next at is =
    counts n true c c from body out some nodes refl refl (λ no. cc (sym at ∙ no))
    (omega (arith, begun_at n c (Doing ToShow) at)) is
ends n c from body out ToSweep some nodes next at is =
    let phase : RestartPhase = next_advance c.wanted (one_more c.ended) in
    let e : IsEntered n phase = next_entered n c.wanted (one_more c.ended) in
    let more : one_more c.ended * (14 * n + 1) ≡ c.ended * (14 * n + 1) + 14 * n + 1 =
    ap (λ (f : ℕ). f * (14 * n + 1)) next ∙ (omega arith) in
    spends n c from body out (after_doing ToSweep c) is (λ no. cc (sym at ∙ no)) e.known refl (omega (
      arith,
      orders_price n phase (with_advances c.wanted (one_more c.ended) c) nodes,
      next_orders n c.wanted (one_more c.ended),
      e.unasked c.count.current.dones,
      e.promised c.count.flag,
      begun_at n c (Doing ToSweep) at,
      more,
    ))

-- the pairs agree
agrees : (n : ℕ) (reads : Bool) (c d : Restarting) (from : ℕ) (body : Body) (out : Out Restarting) → d.nodes ≡ n
    → d.epoch ≡ c.epoch → d.ended ≡ c.ended → c.phase ≡ Counting reads → out ≡ end_counting reads d
    → StepCosts n c from body out
agrees n false c d from body out nodes epoch ended at is =
    enters n c d from body out (Doing ToShow) nodes epoch ended (λ no. cc (sym at ∙ no))
    (omega (arith, begun_at n c (Counting false) at))
    (doing_entered n ToShow) is
agrees n true c d from body out nodes epoch ended at is =
    enters n c d from body out (Doing ToSweep) nodes epoch ended (λ no. cc (sym at ∙ no))
    (omega (arith, begun_at n c (Counting true) at))
    (doing_entered n ToSweep) is

-- the row that fills the last place of the first wave begins the second
pub done_pays : (n m : ℕ) (new old : Bool) (body : Body) → m ≡ n → price body ≡ 2 → (old ≡ true → new ≡ true)
    → tally (on price) (if new && not old then to_nodes m body else []) + (if new then 0 else 2 * n)
    ≡ (if old then 0 else 2 * n)
done_pays n m new old body nodes two grows = grind (arith, all_price)

pub put_all : (ks : NodeRows) (f : ℕ) (row : List ℕ) → all_in ks ≡ true → all_in (set ks f (Some row)) ≡ true
put_all [] f row all = refl
put_all (None ∷ ks) f row all = absurd (cc all)
put_all (Some old ∷ ks) zero row all = all
put_all (Some old ∷ ks) (suc f) row all = put_all ks f row all

keeps_done : (n : ℕ) (reads : Bool) (c : Restarting) (from : ℕ) (row : List ℕ) (body : Body) (out : Out Restarting)
    → c.nodes ≡ n → c.phase ≡ Counting reads
    → out ≡ record { state = done_kept from row c; sent = asks_with from row c; acts = [] }
    → StepCosts n c from body out
keeps_done n reads c from row body out nodes at is = grind (arith, done_pays, put_all)

-- What it hears while it recovers.
pub tells_more : (c d : Restarting) (from : ℕ) (body : Body) → HearsMore c from body d → TellsMore c from body d.told
tells_more c d from body (OfNode u r l bd lt is) = OneMore u r l bd lt (ap (λ (x : Restarting). x.told) is)
tells_more c d from body (OfClient k bd client is) = Same (ap (λ (x : Restarting). x.told) is)

waits : (n : ℕ) (c d : Restarting) (from : ℕ) (body : Body) → c.phase ≡ Recovering → HearsMore c from body d
    → StepCosts n c from body (still d)
waits n c d from body at (OfNode u r l bd lt is) =
    Waits at (ap (λ (x : Restarting). x.phase) is ∙ at) (ap (λ (x : Restarting). x.epoch) is)
    (tells_more c d from body (OfNode u r l bd lt is)) refl
waits n c d from body at (OfClient k bd client is) =
    Waits at (ap (λ (x : Restarting). x.phase) is ∙ at) (ap (λ (x : Restarting). x.epoch) is)
    (tells_more c d from body (OfClient k bd client is)) refl

resumes_if : (n : ℕ) (c d : Restarting) (from : ℕ) (body : Body) (all : Bool) (heard : Option ℕ) → c.phase ≡ Recovering
    → HearsMore c from body d → list_all is_some d.told ≡ all → StepCosts n c from body (resume_if all heard d)
resumes_if n c d from body true (Some k) at hears all = Resumes k d at hears all refl
resumes_if n c d from body true None at hears all = waits n c d from body at hears
resumes_if n c d from body false heard at hears all = waits n c d from body at hears

-- each step, where numbers are small
pub step_costs : (n : ℕ) (c : Restarting) (from : ℕ) (body : Body) (out : Out Restarting) → 1 ≤ n → c.nodes ≡ n
    → (Knows c.phase → c.ended ≤ 100) → RestartStep c from body out → StepCosts n c from body out
step_costs n c from body out some nodes few (Rests left is) =
    subst (λ (o : Out Restarting). StepCosts n c from body o) (sym is) (stays n c from body c.wanted)
step_costs n c from body out some nodes few (StepForgets bd is) = Forgets bd is
step_costs n c from body out some nodes few (Wants i bd busy is) =
    subst (λ (o : Out Restarting). StepCosts n c from body o) (sym is) (stays n c from body (max c.wanted i))
step_costs n c from body out some nodes few (Goes i bd at is) =
    enters n c (with_wanted i c) from body out (next_advance (max c.wanted i) c.ended) nodes refl refl (λ no. cc (sym at ∙ no))
    (omega (arith, begun_at n c Idle at, next_orders n (max c.wanted i) c.ended)) (next_entered n (max c.wanted i) c.ended) is
step_costs n c from body out some nodes few (Recovers d at more is) =
    subst (λ (o : Out Restarting). StepCosts n c from body o) (sym is)
    (resumes_if n c d from body (list_all is_some d.told) d.heard at more refl)
step_costs n c from body out some nodes few (Acks what at bd more is) =
    spends n c from body out (still (record c { acks = one_more c.acks })) is (λ no. cc (sym at ∙ no)) (λ no. cc (sym at ∙ no))
    refl (omega arith)
step_costs n c from body out some nodes few (Ends what at bd last is) =
    ends n c from body out what some nodes
    (one_more_is c.ended (let small = few (λ no. cc (sym at ∙ no)) in omega (arith, small))) at is
step_costs n c from body out some nodes few (Flags reads at bd is) =
    let one : 4 * n * is_nudge body ≡ 4 * n * 1 = ap (λ (b : Body). 4 * n * is_nudge b) bd in
    let now : promised n c.phase true ≡ 4 * n = ap (λ (p : RestartPhase). promised n p true) at in
    spends n c from body out (still (record c { count = nudged c.count })) is (λ no. cc (sym at ∙ no)) (λ no. cc (sym at ∙ no))
    refl (omega (arith, one, now))
step_costs n c from body out some nodes few (StepResumes reads at bd is) =
    let one : 4 * n * is_nudge body ≡ 4 * n * 1 = ap (λ (b : Body). 4 * n * is_nudge b) bd in
    counts n reads c c from body out some nodes refl refl (λ no. cc (sym at ∙ no))
    (omega (arith, one, begun_at n c (Paused reads) at)) is
step_costs n c from body out some nodes few (KeepsDone reads v k row at bd here is) =
    keeps_done n reads c from row body out nodes at is
step_costs n c from body out some nodes few (KeepsAsked reads v k row takes verdict is) =
    spends n c from body out (still (asked_kept from row c)) is (λ no. cc (sym takes.phase ∙ no))
    (λ no. cc (sym takes.phase ∙ no)) refl (omega arith)
step_costs n c from body out some nodes few (Agrees reads v k row takes verdict is) =
    agrees n reads c (asked_kept from row c) from body out nodes refl refl takes.phase is
step_costs n c from body out some nodes few (Recounts reads v k row takes verdict flag is) =
    let round : promised n c.phase c.count.flag ≡ 4 * n =
    ap (λ (p : RestartPhase). promised n p c.count.flag) takes.phase ∙ ap (λ (b : Bool). if b then 4 * n else 0) flag in
    counts n reads c (asked_kept from row c) from body out some nodes refl refl (λ no. cc (sym takes.phase ∙ no))
    (omega (arith, round, begun_at n c (Counting reads) takes.phase)) is
step_costs n c from body out some nodes few (Pauses reads v k row takes verdict flag is) =
    spends n c from body out (still (in_restart_phase (Paused reads) (asked_kept from row c))) is
    (λ no. cc (sym takes.phase ∙ no)) (λ no. cc no) refl (omega (arith, begun_at n c (Counting reads) takes.phase))
