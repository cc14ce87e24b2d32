-- In every run of every valid script a transaction that the client knows to be answered was answered before, and is
-- complete.
use Rattle.std.proofs.Common.{◌≡◌, ◌≢◌, ◌⊎◌, inl, inr, ℕ, zero, suc, ◌+◌, ◌<◌, ◌≤◌, ◌==◌, Bool, true, false, List, [], ◌∷◌, length, get_or, replicate, set, reverse, refl, sym, ap, subst, ◌∙◌, arith, Some}
use Rattle.std.specs.Prelude.{is_some, slice_get}
use Rattle.std.proofs.lemmas.Bool.{and_from, cases_eq}
use Rattle.std.proofs.lemmas.Bool.Decides.{nat_tests}
use Rattle.std.proofs.lemmas.List.{get_or-set_other}
use Rattle.tx_trees.proofs.SubsOf.{home_below}
use Rattle.letter_types.specs.declared.entries.Entry.{Entry}
use Rattle.letter_types.specs.declared.entries.Letter.{Letter}
use Rattle.tx_trees.specs.ScriptData.{ScriptData, client_of, home_of, node_of, sub_at, subs_at}
use Rattle.tx_trees.specs.Valid.{IsValid}
use Rattle.board_rules.specs.Histories.{IsWhole, Place, all_applied, all_done, is_complete, places_of, version_of, was_applied}
use Rattle.world_model.specs.Client.{Client}
use Rattle.world_model.specs.Counts.{one_if, tally}
use Rattle.world_model.specs.Named.{is_strict_at}
use Rattle.world_model.specs.Runs.{IsStepRun, client_in, in_flight}
use Rattle.world_model.proofs.Bags.{tally-drop}
use Rattle.world_model.proofs.Flows.{client_kept, flow}
use Rattle.world_model.proofs.Scripts.{SubAt, get_below, sub_here, sub_there}
use Rattle.advance_laws.proofs.right.ClientSteps.{Aside, Begins, ClientStep, Ends, Hears, Tells, client_step}
use Rattle.tree_laws.specs.Dids.{answers, is_born, replies, replies_to}
use Rattle.tree_laws.specs.Stages.{AllTurned, StageAt, Answered, Gathers, Holds, Unborn}
use Rattle.tree_laws.proofs.histories.Acts.{of_act}
use Rattle.tree_laws.proofs.decided.AptDecided.{applied_when_answered}
use Rattle.tree_laws.proofs.apt.AptMakes.{node_in_script, node_visited}
use Rattle.tree_laws.proofs.stages.AptStagesOwn.{sub_of_node}
use Rattle.tree_laws.proofs.stages.AptStagesRun.{stages_of_trees}
use Rattle.tree_laws.proofs.apt.AptTurns.{births_are_turns}
use Rattle.tree_laws.proofs.homes.Counted.{all_done_of, births_in, dids_in, was_done_of}
use Rattle.run_laws.proofs.each_tree.EveryApt.{all_apt}
use Rattle.run_laws.proofs.each_tree.EveryDid.{dids_are_turns}
use Rattle.run_laws.proofs.each_tree.EveryWhole.{all_applied_of, strict_is, was_applied_of}
use Rattle.run_laws.proofs.strict.Releases.{born_some}

-- What the client has heard.
hears : (answered : List Bool) (t u : ℕ) → (u ≡ t) ⊎ (u ≢ t)
    → one_if (get_or (set answered u true) t false) ≤ one_if (get_or answered t false) + one_if (u == t)
hears answered t u (inl same) =
    let test : (u == t) ≡ true = grind (arith, nat_tests) in
    let here : one_if (u == t) ≡ 1 = ap one_if test in
    omega (arith, here, one_most (get_or (set answered u true) t false)) where
      one_most : (b : Bool) → one_if b ≤ 1
      one_most true = omega arith
      one_most false = omega arith
hears answered t u (inr ne) =
    omega (arith, ap one_if (get_or-set_other answered u t true false (λ same. ne (sym same))))

abbrev HasHeard : Client → ℕ → ℕ
HasHeard c t = one_if (get_or c.answered t false)

same_heard : (s : ScriptData) (past : List Entry) (e : Entry) (t : ℕ) → e.actor.0 ≢ client_of s
    → HasHeard (client_in s (e ∷ past)) t ≤ HasHeard (client_in s past) t + replies_to t e.took.body
same_heard s past e t ne = omega (arith, ap (λ (c : Client). HasHeard c t) (client_kept s past e ne))

heard_next : (s : ScriptData) (past : List Entry) (e : Entry) (t : ℕ) → ClientStep s past e
    → HasHeard (client_in s (e ∷ past)) t ≤ HasHeard (client_in s past) t + replies_to t e.took.body
heard_next s past e t (Begins is made) = omega (arith, ap (λ (c : Client). HasHeard c t) made.state)
heard_next s past e t (Hears u v answer is lt made) =
    omega (
      arith,
      ap (λ (c : Client). HasHeard c t) made.state,
      hears (client_in s past).answered t u.0 (cases_eq u.0 t),
      ap (replies_to t) is,
    )
heard_next s past e t (Ends v is made) = omega (arith, ap (λ (c : Client). HasHeard c t) made.state)
heard_next s past e t (Tells n is loses made) = omega (arith, ap (λ (c : Client). HasHeard c t) made.state)
heard_next s past e t (Aside ne) = same_heard s past e t ne

heard_more : (s : ScriptData) (past : List Entry) (e : Entry) (t : ℕ) → IsValid s → IsStepRun s (e ∷ past)
    → HasHeard (client_in s (e ∷ past)) t ≤ HasHeard (client_in s past) t + replies_to t e.took.body
heard_more s past e t valid run = heard_next s past e t (client_step s past e valid run)

none_heard : (n t : ℕ) → one_if (get_or (replicate n false) t false) ≡ 0
none_heard zero t = refl
none_heard (suc n) zero = refl
none_heard (suc n) (suc t) = none_heard n t

-- an answer that it has heard, or that is in flight, was sent
heard_few : (s : ScriptData) (past : List Entry) (t : ℕ) → IsValid s → IsStepRun s past
    → HasHeard (client_in s past) t + replies s past t ≤ answers past t
heard_few s [] t valid run = omega (arith, none_heard (length s.trees) t)
heard_few s (e ∷ past) t valid run =
    omega (arith, heard_few s past t valid run.1, heard_more s past e t valid run, flow (replies_to t) s past e run.0)

-- so one that it has heard after an entry was sent before it
pub answered_before : (s : ScriptData) (past : List Entry) (e : Entry) (t : ℕ) → IsValid s → IsStepRun s (e ∷ past)
    → get_or (client_in s (e ∷ past)).answered t false ≡ true → 1 ≤ answers past t
answered_before s past e t valid run is =
    omega (
      arith,
      ap one_if is,
      heard_more s past e t valid run,
      heard_few s past t valid run.1,
      tally-drop (λ (l : Letter). replies_to t l.body) e.took.id (in_flight s past) e.took run.0.waits,
    )

pub answered_yet : (s : ScriptData) (past : List Entry) (t : ℕ) → IsValid s → IsStepRun s past
    → get_or (client_in s past).answered t false ≡ true → 1 ≤ answers past t
answered_yet s past t valid run is = omega (arith, ap one_if is, heard_few s past t valid run)

-- An answered tree is whole.
turned : (s : ScriptData) (past : List Entry) (t : ℕ) → 1 ≤ answers past t → StageAt s past t → AllTurned s past t
turned s past t some (Unborn u) = absurd (omega (arith, some, u.answers))
turned s past t some (Gathers h g) = absurd (omega (arith, some, g.answers))
turned s past t some (Holds h g) = absurd (omega (arith, some, g.answers))
turned s past t some (Answered a) = a.all

complete_by : (s : ScriptData) (past : List Entry) (t : ℕ) (test : Bool) → IsValid s → IsStepRun s past → t < length s.trees
    → 1 ≤ answers past t → AllTurned s past t → is_strict_at s t ≡ test → is_complete s (places_of (reverse past)) t ≡ true
complete_by s past t true valid run lt some all strict =
    let xs : List Place = places_of (reverse past) in
    let applied : all_applied t (subs_at s t) xs ≡ true =
    all_applied_of t (subs_at s t) xs
    (λ k x at.
    let c = sub_there s t k lt (get_below (subs_at s t) k x at) in
    let node : node_of s t k ≡ x.node.0 = (let sub : sub_at s t k ≡ Some x = at in rw (sub, node_of) refl) in
    subst (λ (q : ℕ). was_applied t q xs ≡ true) node
    (was_applied_of past t (node_of s t k)
    (applied_when_answered s past t (node_of s t k) valid (all_apt s past valid run) run lt strict some (node_in_script s t k c valid)
    (node_visited s t k c)))) in
    rw (strict_is s t (slice_get s.trees t) refl ∙ strict) applied
complete_by s past t false valid run lt some all plain =
    let xs : List Place = places_of (reverse past) in
    let done : all_done t (length (subs_at s t)) xs ≡ true =
    all_done_of t (length (subs_at s t)) xs
    (λ k less. was_done_of t k xs (omega (arith, dids_in past t k, dids_are_turns s past t k valid run plain, all.turned k less))) in
    rw (strict_is s t (slice_get s.trees t) refl ∙ plain) done

pub answered_whole : (s : ScriptData) (past : List Entry) (t : ℕ) → IsValid s → IsStepRun s past → t < length s.trees → 1 ≤ answers past t
    → IsWhole s (reverse past) t
answered_whole s past t valid run lt some =
    let xs : List Place = places_of (reverse past) in
    let apt = all_apt s past valid run in
    let all = turned s past t some (stages_of_trees s past valid apt run t lt) in
    let root : SubAt s t 0 = sub_of_node s (home_of s t) t 0 refl (home_below s t valid lt) in
    let birth : 1 ≤ tally (of_act (is_born t)) xs =
    omega (
      arith,
      births_in past t,
      births_are_turns s past t valid apt run,
      all.turned 0 (get_below (subs_at s t) 0 root.sub (sub_here s t 0 root)),
    ) in
    and_from (is_some (version_of (reverse past) t)) (is_complete s xs t) (born_some t xs birth)
    (complete_by s past t (is_strict_at s t) valid run lt some all refl)
