-- What the client's next entry does: whether it finishes.
use Rattle.std.proofs.Common.{◌≡◌, ℕ, ◌==◌, ◌||◌, ◌∙◌, Bool, true, false, List, [], ◌∷◌, length, reverse, Some, refl, sym, ap, subst, arith}
use Rattle.std.specs.Prelude.{if◌then◌else◌, nat_lt, slice_get, IfSome, Option}
use Rattle.std.proofs.lemmas.Bool.Decides.{nat_tests}
use Rattle.letter_types.specs.declared.acts.Act.{Act}
use Rattle.letter_types.specs.declared.acts.Act.TheVariants.{Finished}
use Rattle.letter_types.specs.declared.bodies.Body.{Body}
use Rattle.letter_types.specs.declared.bodies.Body.TheVariants as bodies
use Rattle.letter_types.specs.declared.entries.Entry.{Entry}
use Rattle.letter_types.specs.declared.entries.Letter.{Letter}
use Rattle.letter_types.specs.declared.entries.Outgoing.{Outgoing}
use Rattle.letter_types.specs.Steps.{still}
use Rattle.tx_trees.specs.ScriptData.{ScriptData, client_of}
use Rattle.tx_trees.specs.Valid.{IsValid}
use Rattle.tx_trees.specs.Counts.{is_lossy}
use Rattle.world_model.specs.Client.{Client, client_finishes, client_row, next_after, nudge, submit, wanted, with_answer, with_end}
use Rattle.world_model.specs.Runs.{actor_in, client_in}
use Rattle.world_model.specs.Tables.{ActorData, ClientData, actor_row}
use Rattle.world_core.specs.declared.actor.ActorState.{ActorState}
use Rattle.world_core.specs.declared.actor.ActorState.TheVariants as states
use Rattle.world_core.specs.Actors.{IsWorldOf, WorldData, actor_data}
use Rattle.world_core.specs.Growth.{FinishesWith, StaysUnfinished}
use Rattle.world_core.specs.inside.Growth.{IsEndOf, end_acts}
use Rattle.world_core.proofs.Worlds.{entry_made, may_follow}

finished_not : (b : Bool) → end_acts b ≡ [] → b ≡ false
finished_not true is = absurd (cc is)
finished_not false is = refl

or_false : (b c : Bool) → c ≡ false → (b || c) ≡ b
or_false true c is = refl
or_false false c is = is

-- a step of the client without the act leaves it as finished as it was
submit_stays : (s : ScriptData) (c : Client) (first : List Outgoing) → (submit s c first).acts ≡ []
    → (submit s c first).state.finished ≡ c.finished
submit_stays s c first is =
    or_false c.finished (client_finishes s (next_after s c) c) (finished_not (client_finishes s (next_after s c) c) is)

reply_stays : (s : ScriptData) (c d : Client) (first : List Outgoing) (b : Bool) → d.finished ≡ c.finished
    → (if b then submit s d first else still c).acts ≡ [] → (if b then submit s d first else still c).state.finished ≡ c.finished
reply_stays s c d first true same is = submit_stays s d first is ∙ same
reply_stays s c d first false same is = refl

asked_stays : (s : ScriptData) (e : ℕ) (c : Client) (b : Bool) → (if b then wanted s e c else still c).state.finished ≡ c.finished
asked_stays s e c true = refl
asked_stays s e c false = refl

row_stays : (s : ScriptData) (c : Client) (body : Body) → (client_row s c body).acts ≡ [] → (client_row s c body).state.finished ≡ c.finished
row_stays s c bodies.Go is = submit_stays s c [] is
row_stays s c (bodies.Reply t v answer) is = reply_stays s c (with_answer t.0 c) (nudge s ∷ []) (nat_lt t.0 (length s.trees)) refl is
row_stays s c (bodies.Advanced v) is = submit_stays s (with_end s v c) [] is
row_stays s c (bodies.Ask e) is = asked_stays s e c (is_lossy s)
row_stays s c _ is = refl

-- an actor's state, where the actor is the client
client_here : (s : ScriptData) (past : List Entry) (a : ℕ) → (a == client_of s) ≡ true → actor_in s past a ≡ ClientData (client_in s past)
client_here s past a at =
    let below : nat_lt a s.nodes ≡ false = grind (arith, nat_tests) in
    let other : (a == s.nodes) ≡ false = grind (arith, nat_tests) in
    rw (below, other) refl

-- it is seen as a client
abbrev as_client : ActorData → Client → Client
as_client (ClientData c) d = c
as_client _ d = d

-- the client's state after an entry of actor a, by whether that is the client
stays_at : (s : ScriptData) (past : List Entry) (e : Entry) (b : Bool) → (e.actor.0 == client_of s) ≡ b
    → (b ≡ true → (client_row s (client_in s past) e.took.body).state.finished ≡ (client_in s past).finished)
    → (client_in s (e ∷ past)).finished ≡ (client_in s past).finished
stays_at s past e true is by = rw is (by refl)
stays_at s past e false is by = rw is refl

silent : (s : ScriptData) (past : List Entry) (l : Letter) (st : ActorState) (ends : Bool) → actor_data st ≡ ClientData (client_in s past)
    → IsEndOf s l st ends → ends ≡ false → (client_row s (client_in s past) l.body).acts ≡ []
silent s past l (states.Client c) ends seen row is =
    let same : c.client ≡ client_in s past = ap (λ (d : ActorData). as_client d c.client) seen in
    ap (λ (d : Client). (client_row s d l.body).acts) (sym same) ∙ row ∙ ap end_acts is
silent s past l (states.Node n) ends seen row is = absurd (cc seen)
silent s past l (states.Coordinator c) ends seen row is = absurd (cc seen)
silent s past l (states.Restarting c) ends seen row is = absurd (cc seen)

pub stays_unfinished : (s : ScriptData) (w : WorldData) (l : Letter) (st : ActorState) (ends : Bool) → IsWorldOf s w
    → slice_get w.actors l.to.0 ≡ Some st → IsEndOf s l st ends → ends ≡ false → StaysUnfinished s (reverse w.history) l
stays_unfinished s w l st ends world there row is e took run =
    let past : List Entry = reverse w.history in
    let to : e.took.to.0 ≡ e.actor.0 = run.0.addressee in
    stays_at s past e (e.actor.0 == client_of s) refl
    (λ (at : (e.actor.0 == client_of s) ≡ true).
    let here : (l.to.0 == client_of s) ≡ true = ap (λ (n : ℕ). n == client_of s) (sym (ap (λ (x : Letter). x.to.0) took) ∙ to) ∙ at in
    let seen : actor_data st ≡ ClientData (client_in s past) = (world.actors l.to.0 st there).seen ∙ client_here s past l.to.0 here in
    row_stays s (client_in s past) e.took.body
    (ap (λ (x : Letter). (client_row s (client_in s past) x.body).acts) took ∙ silent s past l st ends seen row is))

acts_of : (s : ScriptData) (l : Letter) (a : ℕ) (st : ActorState) (ends : Bool) → IsEndOf s l st ends → ends ≡ true
    → (actor_row s a (actor_data st) l).acts ≡ Finished ∷ []
acts_of s l a (states.Client c) ends row is = row ∙ ap end_acts is
acts_of s l a (states.Node n) ends row is = absurd (let none : true ≡ false = sym is ∙ row in cc none)
acts_of s l a (states.Coordinator c) ends row is = absurd (let none : true ≡ false = sym is ∙ row in cc none)
acts_of s l a (states.Restarting c) ends row is = absurd (let none : true ≡ false = sym is ∙ row in cc none)

pub finishes_with : (s : ScriptData) (w : WorldData) (k : ℕ) (l : Letter) (st : ActorState) (ends : Bool) → IsWorldOf s w → IsValid s
    → slice_get w.bag k ≡ Some l → slice_get w.actors l.to.0 ≡ Some st → IsEndOf s l st ends → ends ≡ true
    → FinishesWith s (reverse w.history) l
finishes_with s w k l st ends world valid at there row is =
    let past : List Entry = reverse w.history in
    let seen : actor_data st ≡ actor_in s past l.to.0 = (world.actors l.to.0 st there).seen in
    let sent : List Outgoing = (actor_row s l.to.0 (actor_in s past l.to.0) l).sent in
    let acts : List Act = (actor_row s l.to.0 (actor_in s past l.to.0) l).acts in
    record {
      entry = entry_made (length w.history) l sent acts;
      took = refl;
      run = (may_follow s w k l sent acts world valid at refl refl, world.run);
      acts = ap (λ (d : ActorData). (actor_row s l.to.0 d l).acts) (sym seen) ∙ acts_of s l l.to.0 st ends row is;
    }

-- the same of the letter at a place of the bag
pub ends_there : (s : ScriptData) (w : WorldData) (k : ℕ) (l : Letter) (st : ActorState) (ends : Bool) → IsWorldOf s w → IsValid s
    → slice_get w.bag k ≡ Some l → slice_get w.actors l.to.0 ≡ Some st → IsEndOf s l st ends → ends ≡ true
    → IfSome (slice_get w.bag k) (FinishesWith s (reverse w.history))
ends_there s w k l st ends world valid at there row is =
    subst (λ (o : Option Letter). IfSome o (FinishesWith s (reverse w.history))) (sym at) (finishes_with s w k l st ends world valid at there row is)

pub stays_there : (s : ScriptData) (w : WorldData) (k : ℕ) (l : Letter) (st : ActorState) (ends : Bool) → IsWorldOf s w
    → slice_get w.bag k ≡ Some l → slice_get w.actors l.to.0 ≡ Some st → IsEndOf s l st ends → ends ≡ false
    → IfSome (slice_get w.bag k) (StaysUnfinished s (reverse w.history))
stays_there s w k l st ends world at there row is =
    subst (λ (o : Option Letter). IfSome o (StaysUnfinished s (reverse w.history))) (sym at) (stays_unfinished s w l st ends world there row is)
