-- In every run of every valid script a node's three versions are what its acts so far say. What the acts of a row and
-- of a deferred message lead to.
use Rattle.std.proofs.Common.{◌≡◌, ◌≢◌, ◌⊎◌, inl, inr, ℕ, ◌<◌, ◌==◌, Bool, true, false, List, ◌∷◌, ◌++◌, map, refl, sym, ap, subst, ◌∙◌, arith, Option, Some, None, reverse, []}
use Rattle.std.specs.Prelude.{if◌then◌else◌, fold, nat_lt}
use Rattle.std.proofs.lemmas.Bool.{cases_eq}
use Rattle.std.proofs.lemmas.Bool.Decides.{nat_tests}
use Rattle.std.proofs.lemmas.List.Sums.{fold-append}
use Rattle.tv_base.specs.declared.numbers.ItemNo.{ItemNo}
use Rattle.tv_base.specs.declared.numbers.SubNo.{SubNo}
use Rattle.tv_base.specs.declared.numbers.TreeNo.{TreeNo}
use Rattle.tv_base.specs.declared.numbers.Version.{Version}
use Rattle.letter_types.specs.declared.acts.Act.{Act}
use Rattle.letter_types.specs.declared.bodies.Body.{Body}
use Rattle.letter_types.specs.declared.bodies.Body.TheVariants.{Root, Sub as SubLetter, Done, Turn, Show, Sweep, Decide, Decided, Release, AskDone, AskAsked, Order, Ask}
use Rattle.letter_types.specs.declared.bodies.Notice.{Notice}
use Rattle.letter_types.specs.declared.entries.Entry.{Entry}
use Rattle.letter_types.specs.declared.votes.Vote.{Vote}
use Rattle.letter_types.specs.Steps.{Out}
use Rattle.node_versions.specs.declared.turns.Turns.{Turns}
use Rattle.node_versions.specs.Turns.{raised}
use Rattle.script_parts.specs.declared.parts.TreeKind.{TreeKind}
use Rattle.script_parts.specs.declared.parts.TreeKind.TheVariants.{Update, Read, Strict}
use Rattle.script_parts.specs.ScriptData.{ScriptData}
use Rattle.script_parts.specs.Valid.{IsValid}
use Rattle.tree_home.specs.declared.homes.Answered.{Answered}
use Rattle.world_model.specs.Asked.{asked_ops, asked_version, tree_part}
use Rattle.world_model.specs.Core.{Core}
use Rattle.world_model.specs.Done.{TreeOut, note_part, raised_if, turned_if}
use Rattle.world_model.specs.Named.{is_strict_at, tree_kind_at}
use Rattle.world_model.specs.Node.{Effect, Node}
use Rattle.world_model.specs.Notices.{act_of, values_of}
use Rattle.world_model.specs.Reads.{getting}
use Rattle.world_model.specs.Runs.{IsStepRun, keeping_in, node_in}
use Rattle.world_model.specs.Strict.{CoreKeeping, answered, core_by_kind, core_keeping, core_row, decided, locks_by, none_refuses, note_core, noted_vote, refused_there, voting}
use Rattle.world_model.specs.Updates.{touching}
use Rattle.world_model.specs.Votes.{vote_of}
use Rattle.world_model.proofs.Cases.{Case, Coordinates, NodeDoes, NodeKeeps, Submits, case}
use Rattle.world_model.proofs.Epochs.{ask_each, order_each}
use Rattle.world_model.proofs.Every.{node_kept}
use Rattle.world_model.proofs.Keepings.{of_kept}
use Rattle.board_rules.specs.Histories.{Place, places_at, places_of, version_or}
use Rattle.board_rules.specs.Moves.{number_after, showed_to, swept_to, turned_to, low_after, read_after, update_after}
use Rattle.board_rules.proofs.Places.{places_more}
use Rattle.tree_laws.proofs.apt.AptVersions.{before}
use Rattle.run_laws.proofs.each_tree.EveryApt.{all_apt}
use Rattle.run_laws.proofs.act_order.Fronts.{placed}
use Rattle.letter_types.specs.declared.acts.Act.TheVariants as acts
use Rattle.letter_types.specs.declared.bodies.Notice.TheVariants as notices

-- and acts here set it, one after the other
abbrev pub set_by : (Act → Option Version) → ℕ → List Act → ℕ
set_by set n acts = fold (λ (m : ℕ) (a : Act). version_or m (set a)) n acts

-- The three numbers.
-- node p's versions are these after the acts of a past
pub record AreNumbers (past : List Entry) (p : ℕ) (turns : Turns) : Type 0 where
  pub update : update_after (places_of (reverse past)) p ≡ turns.update.0
  pub read : read_after (places_of (reverse past)) p ≡ turns.read.0
  pub low : low_after (places_of (reverse past)) p ≡ turns.low.0

-- Acts that lead from a node's versions to others.
pub record Leads (xs : List Act) (was now : Turns) : Type 0 where
  pub update : set_by turned_to was.update.0 xs ≡ now.update.0
  pub read : set_by showed_to was.read.0 xs ≡ now.read.0
  pub low : set_by swept_to was.low.0 xs ≡ now.low.0

-- The row of a core: its acts lead from its versions to those that it has then.
abbrev LeadsOut : Core → Out Core → Type 0
LeadsOut c out = Leads out.acts c.node.turns out.state.node.turns

more_by : (set : Act → Option Version) (n : ℕ) (xs : List Act) (a : Act) → set a ≡ None → set_by set n (xs ++ a ∷ []) ≡ set_by set n xs
more_by set n xs a none =
    fold-append (λ (m : ℕ) (b : Act). version_or m (set b)) n xs (a ∷ []) ∙ ap (version_or (set_by set n xs)) none

decided_leads : (s : ScriptData) (c : Core) (o : TreeOut) (found : Option Answered) (was : Turns) → Leads o.out.acts was o.out.state.turns
    → Leads (decided s c o found).acts was (decided s c o found).state.node.turns
decided_leads s c o None was l = l
decided_leads s c o (Some a) was l =
    let last : Act = acts.Decided a.tree (none_refuses a.tree c.refusals) in
    record {
      update = more_by turned_to was.update.0 o.out.acts last refl ∙ l.update;
      read = more_by showed_to was.read.0 o.out.acts last refl ∙ l.read;
      low = more_by swept_to was.low.0 o.out.acts last refl ∙ l.low;
    }

root_leads : (t : TreeNo) (v : Version) (notice : Notice) (was : Turns)
    → Leads (acts.Born t v ∷ act_of t (record { 0 = 0 }) notice ∷ []) was was
root_leads t v (notices.Did values) was = record { update = refl; read = refl; low = refl }
root_leads t v (notices.Yes values) was = record { update = refl; read = refl; low = refl }
root_leads t v (notices.No cause) was = record { update = refl; read = refl; low = refl }

sub_leads : (raises : Bool) (v : ℕ) (t : TreeNo) (k : SubNo) (notice : Notice) (was : Turns)
    → Leads (turned_if raises v ++ act_of t k notice ∷ []) was (raised_if raises v was)
sub_leads true v t k (notices.Did values) was = record { update = refl; read = refl; low = refl }
sub_leads true v t k (notices.Yes values) was = record { update = refl; read = refl; low = refl }
sub_leads true v t k (notices.No cause) was = record { update = refl; read = refl; low = refl }
sub_leads false v t k (notices.Did values) was = record { update = refl; read = refl; low = refl }
sub_leads false v t k (notices.Yes values) was = record { update = refl; read = refl; low = refl }
sub_leads false v t k (notices.No cause) was = record { update = refl; read = refl; low = refl }

part_leads : (s : ScriptData) (p from : ℕ) (v : Version) (raises : Bool) (e : Effect) (body : Body) (st : Node)
    → Leads (tree_part s p from v raises e body st).out.acts st.turns (tree_part s p from v raises e body st).out.state.turns
part_leads s p from v raises e (Root t) st = root_leads t v e.notice st.turns
part_leads s p from v raises e (SubLetter t k w) st = sub_leads raises v.0 t k e.notice st.turns
part_leads s p from v raises e _ st = record { update = refl; read = refl; low = refl }

kind_leads : (s : ScriptData) (p from : ℕ) (t : TreeNo) (body : Body) (kind : Option TreeKind) (c : Core)
    → LeadsOut c (core_by_kind s p from t body kind c)
kind_leads s p from t body (Some Update) c =
    let v : Version = asked_version c.node.turns.update body in
    part_leads s p from v (nat_lt c.node.turns.update.0 v.0) (touching v (asked_ops s body) c.node.items) body c.node
kind_leads s p from t body (Some Read) c =
    let v : Version = asked_version c.node.turns.read body in
    part_leads s p from v false (getting v (asked_ops s body) c.node.items) body c.node
kind_leads s p from t body (Some Strict) c =
    let v : Version = asked_version c.node.turns.update body in
    let raises : Bool = nat_lt c.node.turns.update.0 v.0 in
    let vote : Vote = vote_of c.locks c.node.items t v (asked_ops s body) in
    let o : TreeOut = tree_part s p from v raises (voting vote c.node.items) body c.node in
    let noted : Core = record c { locks = locks_by vote t (asked_ops s body) c.locks; refusals = noted_vote body vote c.refusals } in
    decided_leads s noted o o.answered c.node.turns (part_leads s p from v raises (voting vote c.node.items) body c.node)
kind_leads s p from t body None c = record { update = refl; read = refl; low = refl }

pick : (c : Core) (b : Bool) (x y : Out Core) → LeadsOut c x → LeadsOut c y → LeadsOut c (if b then x else y)
pick c true x y l r = l
pick c false x y l r = r

note_leads : (s : ScriptData) (from : ℕ) (t : TreeNo) (k : SubNo) (v : Version) (notice : Notice) (c : Core)
    → LeadsOut c (note_core s from t k v notice c)
note_leads s from t k v notice c =
    let o : TreeOut = note_part from t.0 k.0 v.0 (values_of notice) c.node in
    let noted : Core = record c { refusals = refused_there t k notice c } in
    pick c (is_strict_at s t.0) (decided s noted o o.answered) (answered s c o)
    (decided_leads s noted o o.answered c.node.turns (record { update = refl; read = refl; low = refl }))
    (record { update = refl; read = refl; low = refl })

turn_leads : (v : Version) (was : Turns) (test : Bool) → nat_lt was.update.0 v.0 ≡ test
    → Leads (turned_if (nat_lt was.update.0 v.0) v.0) was (raised v was)
turn_leads v was true is = rw is (record { update = refl; read = refl; low = refl })
turn_leads v was false is = rw is (record { update = refl; read = refl; low = refl })

row_leads : (s : ScriptData) (p from : ℕ) (body : Body) (c : Core) → LeadsOut c (core_row s p c from body)
row_leads s p from (Root t) c = kind_leads s p from t (Root t) (tree_kind_at s t.0) c
row_leads s p from (SubLetter t k v) c = kind_leads s p from t (SubLetter t k v) (tree_kind_at s t.0) c
row_leads s p from (Done t k v notice) c = note_leads s from t k v notice c
row_leads s p from (Decide t v commit) c = record { update = refl; read = refl; low = refl }
row_leads s p from (Decided t v) c = record { update = refl; read = refl; low = refl }
row_leads s p from (Release t) c = record { update = refl; read = refl; low = refl }
row_leads s p from (Turn v) c = turn_leads v c.node.turns (nat_lt c.node.turns.update.0 v.0) refl
row_leads s p from (Show v) c = record { update = refl; read = refl; low = refl }
row_leads s p from (Sweep v) c = record { update = refl; read = refl; low = refl }
row_leads s p from (AskDone v k) c = record { update = refl; read = refl; low = refl }
row_leads s p from (AskAsked v k) c = record { update = refl; read = refl; low = refl }
row_leads s p from (Order e what v) c =
    order_each (LeadsOut c) s e what v c (record { update = refl; read = refl; low = refl })
    (record { update = refl; read = refl; low = refl }) (λ to. turn_leads v c.node.turns (nat_lt c.node.turns.update.0 v.0) refl)
    (λ to new. record { update = refl; read = refl; low = refl }) (λ to new. record { update = refl; read = refl; low = refl })
row_leads s p from (Ask e) c =
    ask_each (LeadsOut c) s e c (record { update = refl; read = refl; low = refl }) (record { update = refl; read = refl; low = refl })
row_leads s p from _ c = record { update = refl; read = refl; low = refl }

-- so of a letter that is kept
parked_leads : (raises : Bool) (v : ℕ) (t : TreeNo) (k : SubNo) (item : ItemNo) (holder : TreeNo) (was : Turns)
    → Leads (turned_if raises v ++ acts.Parked t k item holder ∷ []) was (raised_if raises v was)
parked_leads true v t k item holder was = record { update = refl; read = refl; low = refl }
parked_leads false v t k item holder was = record { update = refl; read = refl; low = refl }

keeping_leads : (s : ScriptData) (c : Core) (body : Body) (k : CoreKeeping) → core_keeping s c body ≡ Some k
    → Leads k.acts c.node.turns k.state.node.turns
keeping_leads s c body k is =
    of_kept s c (λ (x : CoreKeeping). Leads x.acts c.node.turns x.state.node.turns) body k (record {
      parks = λ t j raises v m. parked_leads raises v.0 t j m.item m.holder c.node.turns;
      waits = λ t. record { update = refl; read = refl; low = refl };
    }) is

-- One number with one entry more: an act elsewhere leaves it, and one here sets it.
off : (set : Act → Option Version) (p node n : ℕ) (a : Act) → (node == p) ≡ false → number_after set p n (placed node a) ≡ n
off set p node n a is = rw is refl

on : (set : Act → Option Version) (p node n : ℕ) (a : Act) → (node == p) ≡ true → number_after set p n (placed node a) ≡ version_or n (set a)
on set p node n a is = rw is refl

elsewhere : (set : Act → Option Version) (p node n : ℕ) (xs : List Act) → (node == p) ≡ false
    → fold (number_after set p) n (map (placed node) xs) ≡ n
elsewhere set p node n [] is = refl
elsewhere set p node n (a ∷ xs) is =
    ap (λ (m : ℕ). fold (number_after set p) m (map (placed node) xs)) (off set p node n a is) ∙ elsewhere set p node n xs is

here : (set : Act → Option Version) (p node n : ℕ) (xs : List Act) → (node == p) ≡ true
    → fold (number_after set p) n (map (placed node) xs) ≡ set_by set n xs
here set p node n [] is = refl
here set p node n (a ∷ xs) is =
    ap (λ (m : ℕ). fold (number_after set p) m (map (placed node) xs)) (on set p node n a is)
    ∙ here set p node (version_or n (set a)) xs is

more : (set : Act → Option Version) (first p : ℕ) (e : Entry) (past : List Entry)
    → fold (number_after set p) first (before (e ∷ past))
    ≡ fold (number_after set p) (fold (number_after set p) first (before past)) (places_at e)
more set first p e past =
    ap (λ (xs : List Place). fold (number_after set p) first xs) (places_more e past)
    ∙ fold-append (number_after set p) first (before past) (places_at e)

more_here : (set : Act → Option Version) (first p : ℕ) (e : Entry) (past : List Entry) (was now : ℕ) → (e.actor.0 == p) ≡ true
    → fold (number_after set p) first (before past) ≡ was → set_by set was e.acts ≡ now
    → fold (number_after set p) first (before (e ∷ past)) ≡ now
more_here set first p e past was now at old lead =
    more set first p e past ∙ ap (λ (n : ℕ). fold (number_after set p) n (places_at e)) old
    ∙ here set p e.actor.0 was e.acts at ∙ lead

more_elsewhere : (set : Act → Option Version) (first p : ℕ) (e : Entry) (past : List Entry) → (e.actor.0 == p) ≡ false
    → fold (number_after set p) first (before (e ∷ past)) ≡ fold (number_after set p) first (before past)
more_elsewhere set first p e past at =
    more set first p e past ∙ elsewhere set p e.actor.0 (fold (number_after set p) first (before past)) e.acts at

-- The three numbers of a node.
led : (past : List Entry) (e : Entry) (p : ℕ) (was now : Turns) → e.actor.0 ≡ p → Leads e.acts was now → AreNumbers past p was
    → AreNumbers (e ∷ past) p now
led past e p was now at lead are =
    let same : (e.actor.0 == p) ≡ true = grind (arith, nat_tests) in
    record {
      update = more_here turned_to 1 p e past was.update.0 now.update.0 same are.update lead.update;
      read = more_here showed_to 0 p e past was.read.0 now.read.0 same are.read lead.read;
      low = more_here swept_to 0 p e past was.low.0 now.low.0 same are.low lead.low;
    }

kept : (s : ScriptData) (past : List Entry) (e : Entry) (p : ℕ) → e.actor.0 ≢ p → AreNumbers past p (node_in s past p).turns
    → AreNumbers (e ∷ past) p (node_in s (e ∷ past) p).turns
kept s past e p ne are =
    let none : (e.actor.0 == p) ≡ false = grind (arith, nat_tests) in
    subst (λ (n : Node). AreNumbers (e ∷ past) p n.turns) (sym (node_kept s past e p ne)) (record {
      update = more_elsewhere turned_to 1 p e past none ∙ are.update;
      read = more_elsewhere showed_to 0 p e past none ∙ are.read;
      low = more_elsewhere swept_to 0 p e past none ∙ are.low;
    })

at_node : (s : ScriptData) (past : List Entry) (e : Entry) (h p : ℕ) → e.actor.0 ≡ h
    → Leads e.acts (node_in s past h).turns (node_in s (e ∷ past) h).turns → AreNumbers past p (node_in s past p).turns
    → (h ≡ p) ⊎ (h ≢ p) → AreNumbers (e ∷ past) p (node_in s (e ∷ past) p).turns
at_node s past e h p at lead are (inl is) =
    let there : Leads e.acts (node_in s past p).turns (node_in s (e ∷ past) p).turns =
    subst (λ (q : ℕ). Leads e.acts (node_in s past q).turns (node_in s (e ∷ past) q).turns) is lead in
    led past e p (node_in s past p).turns (node_in s (e ∷ past) p).turns (at ∙ is) there are
at_node s past e h p at lead are (inr ne) = kept s past e p (λ is. ne (sym at ∙ is)) are

numbers_next : (s : ScriptData) (past : List Entry) (e : Entry) (p : ℕ) → p < s.nodes → AreNumbers past p (node_in s past p).turns
    → Case s past e → AreNumbers (e ∷ past) p (node_in s (e ∷ past) p).turns
numbers_next s past e p lt are (NodeDoes h r d) =
    let c : Core = (keeping_in s past h).core in
    at_node s past e h p d.brings.at
    (subst (λ (xs : List Act). Leads xs c.node.turns (node_in s (e ∷ past) h).turns) (sym d.acts)
    (subst (λ (x : Core). Leads (core_row s h c r.from.0 r.body).acts c.node.turns x.node.turns) (sym d.core)
    (row_leads s h r.from.0 r.body c)))
    are (cases_eq h p)
numbers_next s past e p lt are (NodeKeeps h r k d) =
    let c : Core = (keeping_in s past h).core in
    at_node s past e h p d.brings.at
    (subst (λ (xs : List Act). Leads xs c.node.turns (node_in s (e ∷ past) h).turns) (sym d.acts)
    (subst (λ (x : Core). Leads k.acts c.node.turns x.node.turns) (sym d.core) (keeping_leads s c r.body k d.keeps)))
    are (cases_eq h p)
numbers_next s past e p lt are (Coordinates at made) = kept s past e p (λ is. omega (arith, at, is, lt)) are
numbers_next s past e p lt are (Submits at says) = kept s past e p (λ is. omega (arith, at, is, lt)) are

-- in every run
pub node_numbers : (s : ScriptData) (past : List Entry) → IsValid s → IsStepRun s past → (p : ℕ) → p < s.nodes
    → AreNumbers past p (node_in s past p).turns
node_numbers s [] valid run p lt = record { update = refl; read = refl; low = refl }
node_numbers s (e ∷ past) valid run p lt =
    numbers_next s past e p lt (node_numbers s past valid run.1 p lt) (case s past e run.0 (all_apt s (e ∷ past) valid run).0)
