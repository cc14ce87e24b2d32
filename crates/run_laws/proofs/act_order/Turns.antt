-- When a subtransaction is done or votes: it is one of its transaction, at its node, and the transaction is born
-- before.
use Rattle.std.proofs.Common.{◌≡◌, ℕ, zero, suc, ◌<◌, ◌≤◌, true, false, List, [], ◌∷◌, ◌++◌, map, length, take, refl, sym, ap, ◌∙◌, subst, arith, Option, Some, None}
use Rattle.std.specs.Prelude.{is_some, nat_lt, slice_get}
use Rattle.tv_base.specs.declared.numbers.SubNo.{SubNo}
use Rattle.tv_base.specs.declared.numbers.TreeNo.{TreeNo}
use Rattle.tv_base.specs.declared.numbers.Version.{Version}
use Rattle.letter_types.specs.declared.acts.Act.{Act}
use Rattle.letter_types.specs.declared.acts.Act.TheVariants as acts
use Rattle.letter_types.specs.declared.bodies.Body.{Body}
use Rattle.letter_types.specs.declared.bodies.Body.TheVariants.{Root}
use Rattle.letter_types.specs.declared.entries.Entry.{Entry}
use Rattle.letter_types.specs.declared.entries.Letter.{Letter}
use Rattle.letter_types.specs.declared.votes.Vote.{Vote}
use Rattle.tree_home.specs.declared.homes.Answered.{Answered}
use Rattle.script_parts.specs.declared.parts.TreeKind.{TreeKind}
use Rattle.script_parts.specs.declared.parts.TreeKind.TheVariants.{Update, Read, Strict}
use Rattle.script_parts.specs.ScriptData.{ScriptData, node_of, subs_at}
use Rattle.script_parts.specs.Valid.{IsValid}
use Rattle.world_model.specs.Asked.{asked_ops, tree_part}
use Rattle.world_model.specs.Core.{Core}
use Rattle.world_model.specs.Counts.{one_if, tally}
use Rattle.world_model.specs.Done.{TreeOut}
use Rattle.world_model.specs.Named.{tree_kind_at}
use Rattle.world_model.specs.Runs.{IsStepRun, keeping_in}
use Rattle.world_model.specs.Strict.{core_by_kind, core_row, decided, locks_by, none_refuses, noted_vote, voting}
use Rattle.world_model.specs.Votes.{vote_of}
use Rattle.world_model.proofs.Scripts.{SubAt, get_below, sub_here}
use Rattle.board_rules.specs.Histories.{Place, does, places_at, version_in, was_born, was_done}
use Rattle.board_rules.specs.Stands.{votes, was_voted}
use Rattle.board_rules.proofs.Places.{version_stays}
use Rattle.tree_laws.specs.Carried.{CarriesVersion}
use Rattle.tree_laws.specs.Turns.{has_turn, turns}
use Rattle.tree_laws.proofs.histories.Acts.{acts_more, of_act}
use Rattle.tree_laws.proofs.decided.AptDecisions.{letters_carry_versions}
use Rattle.tree_laws.proofs.stages.AptStagesOwn.{Doing, root_home, sub_of_node, sub_place}
use Rattle.tree_laws.proofs.apt.AptTurns.{turns_at_most_once}
use Rattle.tree_laws.proofs.apt.AptVersions.{before}
use Rattle.advance_laws.proofs.governed.Brought.{each_of_brought}
use Rattle.advance_laws.proofs.phases.Progress.{brings_to}
use Rattle.run_laws.proofs.act_order.RowActs.{is_lasting}
use Rattle.run_laws.proofs.each_tree.EveryApt.{all_apt}
use Rattle.run_laws.proofs.act_order.Fronts.{born_first, counted_front, front, none_found, place_of, placed}
use Rattle.run_laws.proofs.act_order.Lasts.{AsksIn, OfRoot, OfSub}

-- The subtransaction is there, at its node.
pub record IsThere (s : ScriptData) (p : ℕ) (t : TreeNo) (k : SubNo) : Type 0 where
  pub at : SubAt s t.0 k.0
  pub below : k.0 < length (subs_at s t.0)
  pub node : node_of s t.0 k.0 ≡ p

there_by : (s : ScriptData) (p : ℕ) (t : TreeNo) (k : SubNo) → p ≡ node_of s t.0 k.0 → p < s.nodes → IsThere s p t k
there_by s p t k node lt =
    let c = sub_of_node s p t.0 k.0 (sym node) lt in
    record { at = c; below = get_below (subs_at s t.0) k.0 c.sub (sub_here s t.0 k.0 c); node = sym node }

pub is_there : (s : ScriptData) (past : List Entry) (e : Entry) (p : ℕ) (r : Letter) (t : TreeNo) (k : SubNo) → Doing s past e p r → AsksIn r.body t k
    → IsThere s p t k
is_there s past e p r t k g (OfRoot is first) =
    there_by s p t k (root_home s past e p t r g is ∙ ap (λ (j : SubNo). node_of s t.0 j.0) (sym first)) g.does.brings.below
is_there s past e p r t k g (OfSub v is) = there_by s p t k (sub_place s past e p t k v r g is) g.does.brings.below

-- The tree is born before: by an earlier entry, or by the first act of this one.
pub record BearsFirst (t : ℕ) (xs : List Act) : Type 0 where
  pub version : Version
  pub more : List Act
  pub is : xs ≡ acts.Born (record { 0 = t }) version ∷ more

decided_first : (s : ScriptData) (t : ℕ) (c : Core) (o : TreeOut) (a : Option Answered) → BearsFirst t o.out.acts → BearsFirst t (decided s c o a).acts
decided_first s t c o None b = b
decided_first s t c o (Some a) b =
    let last : List Act = acts.Decided a.tree (none_refuses a.tree c.refusals) ∷ [] in
    record { version = b.version; more = b.more ++ last; is = ap (λ (xs : List Act). xs ++ last) b.is }

root_first : (s : ScriptData) (p from : ℕ) (t : TreeNo) (kind : TreeKind) (c : Core) → BearsFirst t.0 (core_by_kind s p from t (Root t) (Some kind) c).acts
root_first s p from t Update c = record { version = _; more = _; is = refl }
root_first s p from t Read c = record { version = _; more = _; is = refl }
root_first s p from t Strict c =
    let body : Body = Root t in
    let v : Version = c.node.turns.update in
    let vote : Vote = vote_of c.locks c.node.items t v (asked_ops s body) in
    let o : TreeOut = tree_part s p from v (nat_lt c.node.turns.update.0 v.0) (voting vote c.node.items) body c.node in
    let noted : Core = record c { locks = locks_by vote t (asked_ops s body) c.locks; refusals = noted_vote body vote c.refusals } in
    decided_first s t.0 noted o o.answered (record { version = _; more = _; is = refl })

born_by : (t n j : ℕ) (xs : List Place) (v : Version) (more : List Act) (a : Act) → slice_get (acts.Born (record { 0 = t }) v ∷ more) j ≡ Some a
    → is_lasting a ≡ true → is_some (version_in t (xs ++ take j (map (placed n) (acts.Born (record { 0 = t }) v ∷ more)))) ≡ true
born_by t n zero xs v more a is lasts =
    let same : acts.Born (record { 0 = t }) v ≡ a = cc is in
    let quiet : is_lasting a ≡ false = ap is_lasting (sym same) in
    absurd (cc (lasts, quiet))
born_by t n (suc j) xs v more a is lasts = born_first t n v xs (take j (map (placed n) more))

pub carried : (s : ScriptData) (past : List Entry) (e : Entry) (p : ℕ) (r : Letter) → Doing s past e p r → CarriesVersion (before past) r.body
carried s past e p r g =
    each_of_brought (λ (l : Letter). CarriesVersion (before past) l.body) s past e p r (brings_to s past e p r g.does.brings) g.run.0
    (letters_carry_versions s past g.valid g.apt.1 g.run.1)

pub born_stays : (t : ℕ) (xs ys : List Place) → is_some (version_in t xs) ≡ true → is_some (version_in t (xs ++ ys)) ≡ true
born_stays t xs ys some = ap (λ (o : Option Version). is_some o) (version_stays t xs ys some) ∙ some

pub born_before : (s : ScriptData) (past : List Entry) (e : Entry) (j : ℕ) (a : Act) (p : ℕ) (r : Letter) (t : TreeNo) (k : SubNo) (kind : TreeKind)
    → Doing s past e p r → AsksIn r.body t k → tree_kind_at s t.0 ≡ Some kind → slice_get e.acts j ≡ Some a → is_lasting a ≡ true
    → was_born (front past e j) t.0 ≡ true
born_before s past e j a p r t k kind g (OfRoot is first) of at lasts =
    let c : Core = (keeping_in s past p).core in
    let b = root_first s p r.from.0 t kind c in
    let row : e.acts ≡ acts.Born (record { 0 = t.0 }) b.version ∷ b.more =
    g.does.acts ∙ ap (λ (x : Body). (core_row s p c r.from.0 x).acts) is
    ∙ ap (λ (o : Option TreeKind). (core_by_kind s p r.from.0 t (Root t) o c).acts) of ∙ b.is in
    ap (λ (xs : List Act). is_some (version_in t.0 (before past ++ take j (map (placed e.actor.0) xs)))) row
    ∙ born_by t.0 e.actor.0 j (before past) b.version b.more a (subst (λ (xs : List Act). slice_get xs j ≡ Some a) row at) lasts
born_before s past e j a p r t k kind g (OfSub v is) of at lasts =
    let has : version_in t.0 (before past) ≡ Some v = subst (CarriesVersion (before past)) is (carried s past e p r g) in
    born_stays t.0 (before past) (take j (places_at e)) (ap (λ (o : Option Version). is_some o) has)

-- It has its turn once.
pub turns_in : (past : List Entry) (t k : ℕ) → tally (of_act (has_turn t k)) (before past) ≡ turns past t k
turns_in [] t k = refl
turns_in (e ∷ past) t k = omega (arith, acts_more (has_turn t k) past e, turns_in past t k)

pub turn_once : (s : ScriptData) (past : List Entry) (e : Entry) (j : ℕ) (a : Act) (t k : ℕ) → SubAt s t k → IsValid s → IsStepRun s (e ∷ past)
    → slice_get e.acts j ≡ Some a → has_turn t k a ≡ 1 → tally (of_act (has_turn t k)) (front past e j) ≡ 0
turn_once s past e j a t k c valid run at one =
    omega (
      arith,
      one,
      counted_front (of_act (has_turn t k)) past e j (placed e.actor.0 a) (place_of e j a at),
      turns_in (e ∷ past) t k,
      turns_at_most_once s (e ∷ past) t k c valid (all_apt s (e ∷ past) valid run) run,
    )

done_counts : (t k : ℕ) (a : Act) → one_if (does t k a) ≤ has_turn t k a
done_counts t k (acts.Did u j values) = omega arith
done_counts t k acts.Finished = omega arith
done_counts t k _ = omega arith

vote_counts : (t k : ℕ) (a : Act) → one_if (votes t k a) ≤ has_turn t k a
vote_counts t k (acts.Voted u j vote) = omega arith
vote_counts t k acts.Finished = omega arith
vote_counts t k _ = omega arith

pub not_done : (t k : ℕ) (xs : List Place) → tally (of_act (has_turn t k)) xs ≡ 0 → was_done t k xs ≡ false
not_done t k xs none = none_found (of_act (has_turn t k)) (λ (x : Place). does t k x.act) xs (λ x. done_counts t k x.act) none

pub not_voted : (t k : ℕ) (xs : List Place) → tally (of_act (has_turn t k)) xs ≡ 0 → was_voted t k xs ≡ false
not_voted t k xs none = none_found (of_act (has_turn t k)) (λ (x : Place). votes t k x.act) xs (λ x. vote_counts t k x.act) none
