-- In every run of every valid script no read or commuting step waits but for a strict transaction's lock: the entry
-- that took a subtransaction's message does it, or defers it if such a lock is in its way. What is in the way is such a
-- lock; without strict transactions nothing is, so each entry that took a subtransaction's message has its Did.
use Rattle.std.proofs.Common.{◌≡◌, inl, inr, ℕ, ◌-◌, ◌<◌, ◌≤◌, ◌==◌, ◌&&◌, Bool, true, false, List, ◌∷◌, reverse, refl, sym, ap, subst, ◌∙◌, arith, Some, None, []}
use Rattle.std.specs.Prelude.{if◌then◌else◌, drop, length, map, take}
use Rattle.std.proofs.lemmas.Bool.{and_parts, cases_lt}
use Rattle.std.proofs.lemmas.List.{length-reverse, take_all}
use Rattle.std.proofs.lemmas.Bool.Decides.{nat_tests}
use Rattle.tv_base.specs.declared.numbers.ItemNo.{ItemNo}
use Rattle.tv_base.specs.declared.numbers.SubNo.{SubNo}
use Rattle.tv_base.specs.declared.numbers.TreeNo.{TreeNo}
use Rattle.letter_types.specs.Kept.{brought, first_called, is_called, is_called_for}
use Rattle.letter_types.specs.declared.acts.Act.{Act}
use Rattle.letter_types.specs.declared.acts.Act.TheVariants as acts
use Rattle.letter_types.specs.declared.bodies.Body.{Body}
use Rattle.letter_types.specs.declared.bodies.Body.TheVariants.{Go, Root, Sub as SubLetter, Wake}
use Rattle.letter_types.specs.declared.entries.Entry.{Entry}
use Rattle.letter_types.specs.declared.entries.Letter.{Letter}
use Rattle.letter_types.specs.declared.kept.KeptLetter.{KeptLetter}
use Rattle.letter_types.specs.declared.votes.Cause.TheVariants.{Conflict}
use Rattle.script_parts.specs.Counts.{has_strict}
use Rattle.script_parts.proofs.SubsOf.{home_below, sub_node_below}
use Rattle.tx_trees.specs.ScriptData.{ScriptData, node_of, updates}
use Rattle.tx_trees.specs.Valid.{IsValid}
use Rattle.board_rules.specs.Histories.{Place, places_at, places_of}
use Rattle.board_rules.specs.Right.{IsAtOnce, IsDoneAtOnce, IsDoneOrParked, in_way_of, is_parking, parkings}
use Rattle.board_rules.proofs.NoVotes.{AreNoVotes, IsNoVote, none_in_way}
use Rattle.board_rules.proofs.Places.{places_more}
use Rattle.world_model.specs.Counts.{one_if, tally}
use Rattle.world_model.specs.Keeping.{AreKeptAt, AsksFor}
use Rattle.world_model.specs.Kept.{kept_in}
use Rattle.world_model.specs.Runs.{IsStepRun, client_in, keeping_in}
use Rattle.world_model.proofs.Cases.{Brings, Case, Coordinates, NodeDoes, NodeKeeps, Submits, case}
use Rattle.world_model.proofs.EachOutstanding.{each_took}
use Rattle.world_model.proofs.KeptThere.{kept_in_past}
use Rattle.world_model.proofs.Plain.{no_strict}
use Rattle.world_model.proofs.Bags.{one_if_both}
use Rattle.world_model.specs.Meant.{IsLetterMeant, IsMeant}
use Rattle.tree_laws.proofs.conflicts.AtHome.{all_append}
use Rattle.world_model.proofs.Meant.{letters_are_meant}
use Rattle.tree_laws.proofs.kept.Parkings.{none_parks}
use Rattle.tree_laws.proofs.kept.DoneOrParked.{Answers, AskedMeets, keeping_answers, meets_way, row_answers, way_holds}
use Rattle.advance_laws.proofs.governed.Brought.{brought_meant}
use Rattle.advance_laws.proofs.phases.Progress.{brings_to}
use Rattle.tree_laws.proofs.decided.AptRulings.{client_acts}
use Rattle.tree_laws.proofs.histories.Histories.{before_more, first_of, run_before}
use Rattle.run_laws.proofs.each_tree.EveryApt.{all_apt}
use Rattle.run_laws.specs.Waiting.{IsHolder}
use Rattle.run_laws.proofs.each_tree.EveryDid.{is_vote_of, none_votes}
use Rattle.run_laws.proofs.strict.Holders.{holders}

-- In a script without strict trees nothing votes.
no_vote : (a : Act) → ((t k : ℕ) → is_vote_of t k a ≡ 0) → IsNoVote a
no_vote (acts.Voted t k vote) none = absurd (omega (arith, none t.0 k.0, one_if_both t.0 k.0))
no_vote acts.Finished none = tt
no_vote _ none = tt

quiet_places : (node : ℕ) (xs : List Act) → ((t k : ℕ) → tally (is_vote_of t k) xs ≡ 0)
    → AreNoVotes (map (λ (a : Act). record { node = node; act = a }) xs)
quiet_places node [] none = tt
quiet_places node (a ∷ xs) none =
    (no_vote a (λ t k. omega (arith, none t k)), quiet_places node xs (λ t k. omega (arith, none t k)))

pub no_votes : (s : ScriptData) (past : List Entry) → has_strict s ≡ false → IsValid s → IsStepRun s past
    → AreNoVotes (places_of (reverse past))
no_votes s [] plain valid run = tt
no_votes s (e ∷ past) plain valid run =
    subst AreNoVotes (sym (places_more e past))
    (all_append (λ (y : Place). IsNoVote y.act) (places_of (reverse past)) (places_at e) (no_votes s past plain valid run.1)
    (quiet_places e.actor.0 e.acts (λ t k.
    none_votes s past e t k (no_strict s t plain) (case s past e run.0 (all_apt s (e ∷ past) valid run).0))))

-- What a letter asks for meets what is in its way.
asked_meets : (s : ScriptData) (past : List Entry) (p from : ℕ) (body : Body) → IsValid s → IsStepRun s past → p < s.nodes
    → IsMeant s from p body → AskedMeets s (places_of (reverse past)) p (keeping_in s past p).core body
asked_meets s past p from (Root t) valid run lt meant =
    λ up. meets_way s past p t (record { 0 = 0 }) valid run lt (sym meant.home) up (λ plain. no_votes s past plain valid run)
asked_meets s past p from (SubLetter t k v) valid run lt meant =
    λ up. meets_way s past p t k valid run lt (sym meant.node) up (λ plain. no_votes s past plain valid run)
asked_meets s past p from _ valid run lt meant = tt

-- A Wake brings a letter of its subtransaction.
pub called_asks : (p : ℕ) (t : TreeNo) (k : SubNo) (xs : List KeptLetter) (r : Letter) → AreKeptAt p xs → first_called t k xs ≡ Some r
    → AsksFor t k r.body
called_asks p t k [] r all is = absurd (cc is)
called_asks p t k (x ∷ xs) r all is = by (λ later. called_asks p t k xs r all.1 later) (is_called_for t k x) refl is where
  by : (first_called t k xs ≡ Some r → AsksFor t k r.body) → (b : Bool) → is_called_for t k x ≡ b
      → (if b then Some x.letter else first_called t k xs) ≡ Some r → AsksFor t k r.body
  by rest false other is = rest is
  by rest true here is =
      let parts = (and_parts (is_called x.why) ((x.tree.0 == t.0) && (x.sub.0 == k.0)) here).1 in
      let both = and_parts (x.tree.0 == t.0) (x.sub.0 == k.0) parts in
      let tree : x.tree.0 ≡ t.0 = (let same = both.0 in grind (arith, nat_tests)) in
      let sub : x.sub.0 ≡ k.0 = (let same = both.1 in grind (arith, nat_tests)) in
      let letter : x.letter ≡ r = cc is in
      subst (λ (l : Letter). AsksFor t k l.body) letter
      (subst (λ (u : TreeNo). AsksFor u k x.letter.body) (λ i. record { 0 = tree i })
      (subst (λ (j : SubNo). AsksFor x.tree j x.letter.body) (λ i. record { 0 = sub i }) all.0.asks))

of_asked : (s : ScriptData) (xs : List Place) (p : ℕ) (t : TreeNo) (k : SubNo) (body : Body) (did : List Act) → AsksFor t k body
    → Answers s xs p body did → IsDoneOrParked s xs p t k did
of_asked s xs p t k (Root u) did asks answers =
    let first : 0 ≡ k.0 = sym asks.1 in
    subst (λ (j : SubNo). IsDoneOrParked s xs p t j did) (λ i. record { 0 = first i })
    (subst (λ (w : TreeNo). IsDoneOrParked s xs p w (record { 0 = 0 }) did) asks.0 answers)
of_asked s xs p t k (SubLetter u j v) did asks answers =
    subst (λ (i : SubNo). IsDoneOrParked s xs p t i did) asks.1 (subst (λ (w : TreeNo). IsDoneOrParked s xs p w j did) asks.0 answers)
of_asked s xs p t k _ did asks answers = absurd asks

-- So is the letter that came.
by_letter : (s : ScriptData) (xs : List Place) (p : ℕ) (l r : Letter) (b : Body) (did : List Act) → l.body ≡ b → Some l ≡ Some r
    → Answers s xs p r.body did → Answers s xs p b did
by_letter s xs p l r b did is same answers =
    let one : l ≡ r = cc same in
    subst (λ (c : Body). Answers s xs p c did) (sym (ap (λ (q : Letter). q.body) one) ∙ is) answers

taken_at_once : (s : ScriptData) (xs : List Place) (p : ℕ) (kept : List KeptLetter) (l r : Letter) (b : Body) (did : List Act)
    → AreKeptAt p kept → l.body ≡ b → brought kept l b ≡ Some r → Answers s xs p r.body did → IsDoneAtOnce s xs p b did
taken_at_once s xs p kept l r (Wake t k) did all is brings answers =
    of_asked s xs p t k r.body did (called_asks p t k kept r all brings) answers
taken_at_once s xs p kept l r (Root t) did all is brings answers = by_letter s xs p l r (Root t) did is brings answers
taken_at_once s xs p kept l r (SubLetter t k v) did all is brings answers = by_letter s xs p l r (SubLetter t k v) did is brings answers
taken_at_once s xs p kept l r Go did all is brings answers = by_letter s xs p l r Go did is brings answers
taken_at_once s xs p kept l r b did all is brings answers = by_letter s xs p l r b did is brings answers

-- No letter to another actor asks for a subtransaction.
elsewhere : (s : ScriptData) (xs : List Place) (from to : ℕ) (b : Body) (did : List Act) → IsValid s → IsMeant s from to b → s.nodes ≤ to
    → parkings did ≡ [] → IsDoneAtOnce s xs to b did
elsewhere s xs from to (Root t) did valid meant le none = absurd (omega (arith, meant.home, home_below s t.0 valid meant.tree, le))
elsewhere s xs from to (SubLetter t k v) did valid meant le none =
    absurd (omega (arith, meant.node, sub_node_below s t.0 k.0 valid meant.sub, le))
elsewhere s xs from to (Wake t k) did valid meant le none = absurd (omega (arith, meant.below, le))
elsewhere s xs from to Go did valid meant le none = none
elsewhere s xs from to _ did valid meant le none = none

other_at_once : (s : ScriptData) (past : List Entry) (e : Entry) → IsValid s → IsStepRun s (e ∷ past) → s.nodes ≤ e.actor.0
    → parkings e.acts ≡ [] → IsDoneAtOnce s (places_of (reverse past)) e.actor.0 e.took.body e.acts
other_at_once s past e valid run le none =
    let meant = each_took (IsLetterMeant s) s past e run.0 (letters_are_meant s past valid run.1) in
    elsewhere s (places_of (reverse past)) e.took.from.0 e.actor.0 e.took.body e.acts valid
    (subst (λ (q : ℕ). IsMeant s e.took.from.0 q e.took.body) run.0.addressee meant) le none

-- An entry, by its case.
node_at_once : (s : ScriptData) (past : List Entry) (e : Entry) (p : ℕ) (r : Letter) → Brings s past e p r
    → Answers s (places_of (reverse past)) p r.body e.acts → IsDoneAtOnce s (places_of (reverse past)) e.actor.0 e.took.body e.acts
node_at_once s past e p r b answers =
    subst (λ (q : ℕ). IsDoneAtOnce s (places_of (reverse past)) q e.took.body e.acts) (sym b.at)
    (taken_at_once s (places_of (reverse past)) p (kept_in s past p) e.took r e.took.body e.acts (kept_in_past s past p) refl b.brings answers)

brought_meets : (s : ScriptData) (past : List Entry) (e : Entry) (p : ℕ) (r : Letter) → IsValid s → IsStepRun s (e ∷ past) → Brings s past e p r
    → AskedMeets s (places_of (reverse past)) p (keeping_in s past p).core r.body
brought_meets s past e p r valid run b =
    asked_meets s past p r.from.0 r.body valid run.1 b.below (brought_meant s past e p r valid (brings_to s past e p r b) run)

at_once : (s : ScriptData) (past : List Entry) (e : Entry) → IsValid s → IsStepRun s (e ∷ past) → Case s past e
    → IsDoneAtOnce s (places_of (reverse past)) e.actor.0 e.took.body e.acts
at_once s past e valid run (NodeDoes p r d) =
    node_at_once s past e p r d.brings
    (subst (Answers s (places_of (reverse past)) p r.body) (sym d.acts)
    (row_answers s (places_of (reverse past)) p r.from.0 r.body (keeping_in s past p).core d.now
    (brought_meets s past e p r valid run d.brings)))
at_once s past e valid run (NodeKeeps p r k d) =
    node_at_once s past e p r d.brings
    (subst (Answers s (places_of (reverse past)) p r.body) (sym d.acts)
    (keeping_answers s (places_of (reverse past)) p r.body (keeping_in s past p).core k d.keeps
    (brought_meets s past e p r valid run d.brings)))
at_once s past e valid run (Coordinates at made) =
    other_at_once s past e valid run (omega (arith, at)) (ap parkings made.acts)
at_once s past e valid run (Submits at says) =
    other_at_once s past e valid run (omega (arith, at))
    (none_parks e.acts
    (ap (λ (xs : List Act). tally (λ (a : Act). one_if (is_parking a)) xs) says.1
    ∙ client_acts (λ (a : Act). one_if (is_parking a)) s (client_in s past) e.took.body refl))

-- each entry of a history
pub all_at_once : (s : ScriptData) (past : List Entry) → IsValid s → IsStepRun s past → IsAtOnce s (reverse past)
all_at_once s [] valid run = λ n e here. absurd (cc here)
all_at_once s (e ∷ past) valid run =
    before_more (λ (h : List Entry) (x : Entry). IsDoneAtOnce s (places_of h) x.actor.0 x.took.body x.acts) e past
    (all_at_once s past valid run.1)
    (at_once s past e valid run (case s past e run.0 (all_apt s (e ∷ past) valid run).0))

-- What is in the way is a lock of a strict tree whose decision wasn't applied there.
pub strict_in_way : (s : ScriptData) (past : List Entry) (p t k : ℕ) (x : ItemNo) (u : TreeNo) → IsValid s → IsStepRun s past
    → p < s.nodes → node_of s t k ≡ p → in_way_of s (places_of (reverse past)) p t k ≡ Some (Conflict x u) → IsHolder s past p u.0
strict_in_way s past p t k x u valid run lt home is =
    holders s past p valid (all_apt s past valid run) run lt u
    (way_holds s past p (record { 0 = t }) (record { 0 = k }) x u valid run lt home (λ plain. no_votes s past plain valid run) is)

-- In a script without strict trees nothing is in the way of any subtransaction, at any time.
way_by : (s : ScriptData) (xs : List Place) (p t k : ℕ) (b : Bool) → updates s t ≡ b → IsValid s → AreNoVotes xs
    → in_way_of s xs p t k ≡ None
way_by s xs p t k true up valid none = rw up (none_in_way s xs p t k valid up none)
way_by s xs p t k false up valid none = rw up refl

after_part : (s : ScriptData) (past : List Entry) (n : ℕ) → n ≤ length past → has_strict s ≡ false → IsValid s → IsStepRun s past
    → AreNoVotes (places_of (take n (reverse past)))
after_part s past n le plain valid run =
    subst (λ (h : List Entry). AreNoVotes (places_of h)) (sym (first_of past n le))
    (no_votes s (drop (length past - n) past) plain valid (run_before s past (length past - n) run))

after_all : (s : ScriptData) (past : List Entry) (n : ℕ) → length past ≤ n → has_strict s ≡ false → IsValid s → IsStepRun s past
    → AreNoVotes (places_of (take n (reverse past)))
after_all s past n le plain valid run =
    subst (λ (h : List Entry). AreNoVotes (places_of h)) (sym (take_all n (reverse past) (omega (arith, le, length-reverse past))))
    (no_votes s past plain valid run)

pub nothing_in_way : (s : ScriptData) (past : List Entry) (n p t k : ℕ) → IsValid s → has_strict s ≡ false → IsStepRun s past
    → in_way_of s (places_of (take n (reverse past))) p t k ≡ None
nothing_in_way s past n p t k valid plain run =
    way_by s (places_of (take n (reverse past))) p t k (updates s t) refl valid
    (elim (cases_lt (length past) n) [
      | inl more ↦ after_all s past n (omega (arith, more)) plain valid run
      | inr le ↦ after_part s past n le plain valid run
    ])
