-- A script and a seed have one run: entry by entry, the message is the one at the place that they name, and says the
-- rest.
use Rattle.std.proofs.Common.{◌≡◌, ℕ, zero, suc, ◌+◌, ◌≤◌, ◌==◌, ◌∙◌, Bool, true, false, List, [], ◌∷◌, ◌++◌, length, take, drop, reverse, refl, sym, ap, subst, arith, append_assoc, Option, Some, None, take_all}
use Rattle.std.specs.Prelude.{◌%◌, nat_lt, slice_get}
use Rattle.std.proofs.lemmas.Bool.Decides.{nat_tests}
use Rattle.std.proofs.lemmas.List.{reverse-append}
use Rattle.tv_base.specs.declared.numbers.ActorNo.{ActorNo}
use Rattle.tv_base.specs.declared.numbers.Stamp.{Stamp}
use Rattle.letter_types.specs.declared.acts.Act.{Act}
use Rattle.letter_types.specs.declared.entries.Entry.{Entry}
use Rattle.letter_types.specs.declared.entries.Letter.{Letter}
use Rattle.letter_types.specs.declared.entries.Outgoing.{Outgoing}
use Rattle.letter_types.specs.Steps.{Out}
use Rattle.script_parts.specs.Counts.{is_lossy}
use Rattle.script_parts.specs.ScriptData.{ScriptData}
use Rattle.world_model.specs.Runs.{AtClient, AtCoordinator, AtNode, AtRestarting, IsStepRun, MayFollow, Moves, Says, client_in, coordinator_in, in_flight, keeping_in, restarting_in}
use Rattle.world_model.specs.Scheduled.{IsScheduled, number_for, waiting_at}
use Rattle.world_model.specs.Tables.{ActorData, ClientData, CoordinatorData, NodeData, RestartingData, actor_row}
use Rattle.world_model.proofs.Bridge.{reverse_more}
use Rattle.growth_laws.specs.Schedules.{ScheduledRunsAreOne}

-- What the table of an actor says, by which actor it is.
abbrev state_by : ScriptData → List Entry → ℕ → Bool → Bool → Bool → ActorData
state_by s past a true at lossy = NodeData (keeping_in s past a)
state_by s past a false true true = RestartingData (restarting_in s past)
state_by s past a false true false = CoordinatorData (coordinator_in s past)
state_by s past a false false lossy = ClientData (client_in s past)

abbrev said : ScriptData → List Entry → ℕ → Letter → Out ActorData
said s past a l = actor_row s a (state_by s past a (nat_lt a s.nodes) (a == s.nodes) (is_lossy s)) l

says_by : (s : ScriptData) (past : List Entry) (e : Entry) (below at lossy : Bool) → nat_lt e.actor.0 s.nodes ≡ below → (e.actor.0 == s.nodes) ≡ at
    → is_lossy s ≡ lossy → Moves s past e → Says (actor_row s e.actor.0 (state_by s past e.actor.0 below at lossy) e.took) e
says_by s past e true at lossy p q r (AtNode lt says) = says
says_by s past e true at lossy p q r (AtCoordinator here keeps says) = absurd (grind (arith, nat_tests))
says_by s past e true at lossy p q r (AtRestarting here loses says) = absurd (grind (arith, nat_tests))
says_by s past e true at lossy p q r (AtClient here says) = absurd (grind (arith, nat_tests))
says_by s past e false at lossy p q r (AtNode lt says) = absurd (grind (arith, nat_tests))
says_by s past e false true true p q r (AtCoordinator here keeps says) = absurd (let none : true ≡ false = sym r ∙ keeps in cc none)
says_by s past e false true false p q r (AtCoordinator here keeps says) = says
says_by s past e false false lossy p q r (AtCoordinator here keeps says) = absurd (grind (arith, nat_tests))
says_by s past e false true true p q r (AtRestarting here loses says) = says
says_by s past e false true false p q r (AtRestarting here loses says) = absurd (let none : false ≡ true = sym r ∙ loses in cc none)
says_by s past e false false lossy p q r (AtRestarting here loses says) = absurd (grind (arith, nat_tests))
says_by s past e false true lossy p q r (AtClient here says) = absurd (grind (arith, nat_tests))
says_by s past e false false lossy p q r (AtClient here says) = says

says_so : (s : ScriptData) (past : List Entry) (e : Entry) → Moves s past e → Says (said s past e.actor.0 e.took) e
says_so s past e moves = says_by s past e (nat_lt e.actor.0 s.nodes) (e.actor.0 == s.nodes) (is_lossy s) refl refl refl moves

-- So the letter that an entry took says all of it.
entries_one : (s : ScriptData) (past : List Entry) (e d : Entry) → MayFollow s past e → MayFollow s past d → e.took ≡ d.took → e ≡ d
entries_one s past e d m n same =
    let stamps : e.stamp ≡ d.stamp = ap (λ (k : ℕ). record { 0 = k }) (m.stamp ∙ sym n.stamp) in
    let numbers : e.actor.0 ≡ d.actor.0 = sym m.addressee ∙ ap (λ (l : Letter). l.to.0) same ∙ n.addressee in
    let actors : e.actor ≡ d.actor = ap (λ (k : ℕ). record { 0 = k }) numbers in
    let outs : said s past e.actor.0 e.took ≡ said s past d.actor.0 d.took =
    ap (λ (k : ℕ). said s past k e.took) numbers ∙ ap (λ (l : Letter). said s past d.actor.0 l) same in
    let one = says_so s past e m.moves in
    let two = says_so s past d n.moves in
    let sents : e.sent ≡ d.sent = one.0 ∙ ap (λ (o : Out ActorData). o.sent) outs ∙ sym two.0 in
    let acts : e.acts ≡ d.acts = one.1 ∙ ap (λ (o : Out ActorData). o.acts) outs ∙ sym two.1 in
    ap (λ (x : Stamp). record { stamp = x; actor = e.actor; took = e.took; sent = e.sent; acts = e.acts }) stamps
    ∙ ap (λ (x : ActorNo). record { stamp = d.stamp; actor = x; took = e.took; sent = e.sent; acts = e.acts }) actors
    ∙ ap (λ (x : Letter). record { stamp = d.stamp; actor = d.actor; took = x; sent = e.sent; acts = e.acts }) same
    ∙ ap (λ (x : List Outgoing). record { stamp = d.stamp; actor = d.actor; took = d.took; sent = x; acts = e.acts }) sents
    ∙ ap (λ (x : List Act). record { stamp = d.stamp; actor = d.actor; took = d.took; sent = d.sent; acts = x }) acts

-- An entry of a run may follow those before it.
split_at : {X : Type 0} (xs : List X) (n : ℕ) (x : X) → slice_get xs n ≡ Some x → xs ≡ take n xs ++ x ∷ drop (suc n) xs
split_at [] n x at = absurd (cc at)
split_at (y ∷ xs) zero x at = let same : y ≡ x = cc at in ap (λ z. z ∷ xs) same
split_at (y ∷ xs) (suc n) x at = ap (λ zs. y ∷ zs) (split_at xs n x at)

later_run : (s : ScriptData) (later past : List Entry) → IsStepRun s (later ++ past) → IsStepRun s past
later_run s [] past run = run
later_run s (e ∷ later) past run = later_run s later past run.1

follows : (s : ScriptData) (h : List Entry) (n : ℕ) (e : Entry) → IsStepRun s (reverse h) → slice_get h n ≡ Some e
    → MayFollow s (reverse (take n h)) e
follows s h n e run at =
    let front : List Entry = take n h in
    let back : List Entry = drop (suc n) h in
    let turned : reverse h ≡ reverse back ++ (e ∷ reverse front) =
    ap reverse (split_at h n e at) ∙ reverse-append front (e ∷ back) ∙ ap (λ (xs : List Entry). xs ++ reverse front) (reverse_more e back)
    ∙ append_assoc (reverse back) (e ∷ []) (reverse front) in
    (later_run s (reverse back) (e ∷ reverse front) (subst (λ (xs : List Entry). IsStepRun s xs) turned run)).0

-- The entries one after the other.
take_more : {X : Type 0} (xs : List X) (n : ℕ) (x : X) → slice_get xs n ≡ Some x → take (suc n) xs ≡ take n xs ++ x ∷ []
take_more [] n x at = absurd (cc at)
take_more (y ∷ xs) zero x at = let same : y ≡ x = cc at in ap (λ z. z ∷ []) same
take_more (y ∷ xs) (suc n) x at = ap (λ zs. y ∷ zs) (take_more xs n x at)

-- behind the end
past_end : {X : Type 0} (xs : List X) (n : ℕ) → slice_get xs n ≡ None → length xs ≤ n
past_end [] n at = omega arith
past_end (x ∷ xs) zero at = absurd (cc at)
past_end (x ∷ xs) (suc n) at = omega (arith, past_end xs n at)

take_past : {X : Type 0} (xs : List X) (n : ℕ) → slice_get xs n ≡ None → take n xs ≡ xs
take_past xs n at = take_all n xs (past_end xs n at)

take_longer : {X : Type 0} (xs : List X) (n : ℕ) → slice_get xs n ≡ None → take (suc n) xs ≡ xs
take_longer xs n at = take_all (suc n) xs (omega (arith, past_end xs n at))

-- where the one has ended, the other has too
none_waits : (s : ScriptData) (seed : Option ℕ) (h g : List Entry) (n : ℕ) (e : Entry) → IsScheduled s seed h → IsScheduled s seed g
    → take n h ≡ take n g → slice_get h n ≡ Some e → slice_get g n ≡ None → h ≡ g
none_waits s seed h g n e one two same at none =
    let over : waiting_at s h n ≡ [] = ap (λ (xs : List Entry). in_flight s (reverse xs)) (same ∙ take_past g n none) ∙ two.left in
    let k : ℕ = number_for s.picks seed n % length (waiting_at s h n) in
    let some : slice_get (waiting_at s h n) k ≡ Some e.took = one.places n e at in
    let gone : None ≡ Some e.took = sym (ap (λ (ls : List Letter). slice_get ls k) over) ∙ some in
    absurd (cc gone)

same_entry : (s : ScriptData) (seed : Option ℕ) (h g : List Entry) (n : ℕ) (e d : Entry) → IsStepRun s (reverse h) → IsStepRun s (reverse g)
    → IsScheduled s seed h → IsScheduled s seed g → take n h ≡ take n g → slice_get h n ≡ Some e → slice_get g n ≡ Some d → e ≡ d
same_entry s seed h g n e d run run' one two same at at' =
    let waits : waiting_at s h n ≡ waiting_at s g n = ap (λ (xs : List Entry). in_flight s (reverse xs)) same in
    let here : slice_get (waiting_at s g n) (number_for s.picks seed n % length (waiting_at s g n)) ≡ Some e.took =
    subst (λ (ls : List Letter). slice_get ls (number_for s.picks seed n % length ls) ≡ Some e.took) waits (one.places n e at) in
    let both : Some e.took ≡ Some d.took = sym here ∙ two.places n d at' in
    let took : e.took ≡ d.took = cc both in
    let follows' : MayFollow s (reverse (take n h)) d =
    subst (λ (xs : List Entry). MayFollow s (reverse xs) d) (sym same) (follows s g n d run' at') in
    entries_one s (reverse (take n h)) e d (follows s h n e run at) follows' took

next_same : (s : ScriptData) (seed : Option ℕ) (h g : List Entry) (n : ℕ) (o p : Option Entry) → IsStepRun s (reverse h) → IsStepRun s (reverse g)
    → IsScheduled s seed h → IsScheduled s seed g → take n h ≡ take n g → slice_get h n ≡ o → slice_get g n ≡ p
    → take (suc n) h ≡ take (suc n) g
next_same s seed h g n None None run run' one two same at at' =
    take_longer h n at ∙ sym (take_past h n at) ∙ same ∙ take_past g n at' ∙ sym (take_longer g n at')
next_same s seed h g n (Some e) None run run' one two same at at' =
    ap (λ (xs : List Entry). take (suc n) xs) (none_waits s seed h g n e one two same at at')
next_same s seed h g n None (Some d) run run' one two same at at' =
    ap (λ (xs : List Entry). take (suc n) xs) (sym (none_waits s seed g h n d two one (sym same) at' at))
next_same s seed h g n (Some e) (Some d) run run' one two same at at' =
    take_more h n e at ∙ ap (λ (xs : List Entry). xs ++ e ∷ []) same
    ∙ ap (λ (x : Entry). take n g ++ x ∷ []) (same_entry s seed h g n e d run run' one two same at at') ∙ sym (take_more g n d at')

fronts_same : (s : ScriptData) (seed : Option ℕ) (h g : List Entry) (n : ℕ) → IsStepRun s (reverse h) → IsStepRun s (reverse g)
    → IsScheduled s seed h → IsScheduled s seed g → take n h ≡ take n g
fronts_same s seed h g zero run run' one two = refl
fronts_same s seed h g (suc n) run run' one two =
    next_same s seed h g n (slice_get h n) (slice_get g n) run run' one two (fronts_same s seed h g n run run' one two) refl refl

pub scheduled_runs_are_one : ScheduledRunsAreOne
scheduled_runs_are_one s seed h g run run' one two =
    let n : ℕ = length h + length g in
    sym (take_all n h (omega arith)) ∙ fronts_same s seed h g n run run' one two ∙ take_all n g (omega arith)
