-- In every run a yes gives what its gets are worth at its transaction's version, in the history before its entry.
use Rattle.std.proofs.Common.{if◌then◌else◌, ◌≡◌, ℕ, List, [], ◌∷◌, ◌++◌, reverse, refl, sym, ap, subst, ◌∙◌, Option, Some, None}
use Rattle.std.specs.Prelude.{slice_get}
use Rattle.std.specs.List.{AllByRecursion}
use Rattle.tv_base.specs.declared.numbers.ItemNo.{ItemNo}
use Rattle.tv_base.specs.declared.numbers.SubNo.{SubNo}
use Rattle.tv_base.specs.declared.numbers.TreeNo.{TreeNo}
use Rattle.tv_base.specs.declared.numbers.Version.{Version}
use Rattle.commute_ops.specs.declared.value.Value.{Value}
use Rattle.letter_types.specs.declared.acts.Act.{Act}
use Rattle.letter_types.specs.declared.acts.Act.TheVariants as acts
use Rattle.letter_types.specs.declared.entries.Entry.{Entry}
use Rattle.letter_types.specs.declared.entries.Letter.{Letter}
use Rattle.letter_types.specs.declared.votes.Cause.{Cause}
use Rattle.letter_types.specs.declared.votes.Vote.{Vote}
use Rattle.letter_types.specs.declared.votes.Vote.TheVariants.{Yes}
use Rattle.item_versions.specs.Table.{Table}
use Rattle.script_parts.specs.declared.parts.Deed.{Deed}
use Rattle.script_parts.specs.declared.parts.Deed.TheVariants.{Apply, Get, Set, Draw}
use Rattle.script_parts.specs.declared.parts.SubOp.{SubOp}
use Rattle.script_parts.specs.declared.parts.TreeKind.TheVariants.{Strict}
use Rattle.script_parts.specs.ScriptData.{ScriptData, ops_of}
use Rattle.world_model.specs.Asked.{asked_ops, asked_version}
use Rattle.world_model.specs.Core.{Core}
use Rattle.world_model.specs.Named.{tree_kind_at}
use Rattle.world_model.specs.Reads.{got_by_deed, gets, seen_in, with_get}
use Rattle.world_model.specs.Runs.{keeping_in, node_in}
use Rattle.world_model.specs.Votes.{cause_in, voted}
use Rattle.world_model.proofs.Bags.{one_if_both}
use Rattle.board_rules.specs.Histories.{places_at, version_in}
use Rattle.board_rules.specs.Right.{IsRightVote, IsShown, gets_among, is_get, with_worths}
use Rattle.board_rules.specs.Stands.{conflict_of}
use Rattle.board_rules.specs.Worth.{worth}
use Rattle.tree_laws.specs.Turns.{has_turn}
use Rattle.tree_laws.proofs.decided.AptDecisions.{dated_here}
use Rattle.tree_laws.proofs.stages.AptStagesOwn.{Doing}
use Rattle.tree_laws.proofs.apt.AptVersions.{before}
use Rattle.run_laws.proofs.act_order.Fronts.{front, placed}
use Rattle.run_laws.proofs.act_order.Lasts.{AsksIn, cause_there}
use Rattle.run_laws.proofs.act_order.Turns.{born_before}
use Rattle.run_laws.proofs.items.Writes.{asked_born}
use Rattle.run_laws.proofs.strict.YesVotes.{asked_same, no_cause}
use Rattle.run_laws.proofs.births.Asking.{upto_version}
use Rattle.run_laws.proofs.worth.RightReads.{each_op}
use Rattle.run_laws.proofs.strict.VoteSees.{conflict_met, vote_seen}

-- gets that find these values give them, among operations that may be others
get_first : (f : ℕ → Value) (v : Version) (o : SubOp) (os : List SubOp) (items : Table) (d : Deed) → seen_in v o.item items ≡ Some (f o.item.0)
    → gets v os items ≡ with_worths f (gets_among os)
    → with_get o.item (got_by_deed v o.item d items) (gets v os items)
    ≡ with_worths f (if is_get d then o ∷ gets_among os else gets_among os)
get_first f v o os items Get seen rest =
    ap (λ (w : Option Value). with_get o.item w (gets v os items)) seen ∙ ap (λ (ws : List (ItemNo × Value)). (o.item, f o.item.0) ∷ ws) rest
get_first f v o os items (Apply op) seen rest = rest
get_first f v o os items (Set n) seen rest = rest
get_first f v o os items (Draw n) seen rest = rest

pub gets_worth : (f : ℕ → Value) (v : Version) (os : List SubOp) (items : Table)
    → AllByRecursion (λ (o : SubOp). seen_in v o.item items ≡ Some (f o.item.0)) os → gets v os items ≡ with_worths f (gets_among os)
gets_worth f v [] items all = refl
gets_worth f v (o ∷ os) items all = get_first f v o os items o.deed all.0 (gets_worth f v os items all.1)

-- a vote's tree has its version up to there
pub vote_version : (s : ScriptData) (past : List Entry) (e : Entry) (j p : ℕ) (r : Letter) (t : TreeNo) (k : SubNo) (vote : Vote)
    → Doing s past e p r → AsksIn r.body t k → tree_kind_at s t.0 ≡ Some Strict → slice_get e.acts j ≡ Some (acts.Voted t k vote)
    → version_in t.0 (front past e j ++ placed e.actor.0 (acts.Voted t k vote) ∷ []) ≡ Some (asked_version (node_in s past p).turns.update r.body)
vote_version s past e j p r t k vote g asks of at =
    let c : Core = (keeping_in s past p).core in
    upto_version past e j t.0 (acts.Voted t k vote) (asked_version c.node.turns.update r.body)
    (born_before s past e j (acts.Voted t k vote) p r t k Strict g asks of at refl)
    (asked_born s (before past ++ places_at e) t k Strict r.body c asks of refl (dated_here s past e p r g.valid g.apt.1 g.run g.does))

-- so a yes is right
yes_is_right : (s : ScriptData) (past : List Entry) (e : Entry) (j p : ℕ) (r : Letter) (t : TreeNo) (k : SubNo) → Doing s past e p r → AsksIn r.body t k
    → tree_kind_at s t.0 ≡ Some Strict → (values : List (ItemNo × Value))
    → values ≡ gets (asked_version (node_in s past p).turns.update r.body) (asked_ops s r.body) (node_in s past p).items
    → slice_get e.acts j ≡ Some (acts.Voted t k (Yes values)) → cause_there s (keeping_in s past p).core t r.body ≡ None
    → IsShown (worth s (reverse past)) (gets_among (ops_of s t.0 k.0)) values
    (version_in t.0 (front past e j ++ placed e.actor.0 (acts.Voted t k (Yes values)) ∷ []))
yes_is_right s past e j p r t k g asks of values given at free =
    let c : Core = (keeping_in s past p).core in
    let v : Version = asked_version c.node.turns.update r.body in
    let os : List SubOp = ops_of s t.0 k.0 in
    let a : Act = acts.Voted t k (Yes values) in
    let ops : asked_ops s r.body ≡ os = asked_same s t k r.body asks in
    let n = no_cause s c t v os (ap (cause_in c.locks c.node.items t v) (sym ops) ∙ free) in
    let none : conflict_of s (before past) p t.0 os ≡ None = sym (conflict_met s past e p r t k g asks of) ∙ n.met in
    let one : has_turn t.0 k.0 a ≡ 1 = one_if_both t.0 k.0 in
    let right : values ≡ with_worths (λ (x : ℕ). worth s (reverse past) x v.0) (gets_among os) =
    given ∙ ap (λ (xs : List SubOp). gets v xs c.node.items) ops
    ∙ gets_worth (λ (x : ℕ). worth s (reverse past) x v.0) v os c.node.items
    (each_op (λ (o : SubOp). seen_in v o.item c.node.items ≡ Some (worth s (reverse past) o.item.0 v.0)) os
    (λ i o is. vote_seen s past e j p i a r t k o g asks of at one none is)) in
    subst (IsShown (worth s (reverse past)) (gets_among os) values) (sym (vote_version s past e j p r t k (Yes values) g asks of at)) right

-- and any vote
pub vote_is_right : (s : ScriptData) (past : List Entry) (e : Entry) (j p : ℕ) (r : Letter) (t : TreeNo) (k : SubNo) (o : Option Cause)
    (values : List (ItemNo × Value)) → Doing s past e p r → AsksIn r.body t k → tree_kind_at s t.0 ≡ Some Strict
    → values ≡ gets (asked_version (node_in s past p).turns.update r.body) (asked_ops s r.body) (node_in s past p).items
    → cause_there s (keeping_in s past p).core t r.body ≡ o → slice_get e.acts j ≡ Some (acts.Voted t k (voted o values))
    → IsRightVote s (reverse past) (ops_of s t.0 k.0)
    (version_in t.0 (front past e j ++ placed e.actor.0 (acts.Voted t k (voted o values)) ∷ [])) (voted o values)
vote_is_right s past e j p r t k None values g asks of given is at = yes_is_right s past e j p r t k g asks of values given at is
vote_is_right s past e j p r t k (Some cause) values g asks of given is at = tt
