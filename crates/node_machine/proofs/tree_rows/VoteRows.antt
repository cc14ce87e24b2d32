-- The plans of a vote and of a notice are their rows, and the tree may be decided.
use Rattle.std.proofs.Common.{◌≡◌, ℕ, ◌<◌, ◌==◌, Bool, true, false, List, [], ◌∷◌, length, refl, ap, sym, subst, ◌∙◌, arith, Option, Some, None}
use Rattle.std.specs.Prelude.{IsSome, nat_lt, not, ◌||◌, slice_get, if◌then◌else◌}
use Rattle.std.proofs.lemmas.Bool.{and_parts}
use Rattle.std.proofs.lemmas.Bool.Decides.{nat_tests}
use Rattle.tv_base.specs.declared.numbers.SubNo.{SubNo}
use Rattle.tv_base.specs.declared.numbers.TreeNo.{TreeNo}
use Rattle.tv_base.specs.declared.numbers.Version.{Version}
use Rattle.item_versions.specs.Table.{StagedItems, pending}
use Rattle.item_versions.specs.Window.{in_window}
use Rattle.letter_types.specs.declared.bodies.Body.{Body}
use Rattle.letter_types.specs.declared.bodies.Body.TheVariants.{Root, Sub as SubLetter}
use Rattle.letter_types.specs.declared.bodies.Notice.{Notice}
use Rattle.letter_types.specs.declared.bodies.Notice.TheVariants as notices
use Rattle.letter_types.specs.declared.votes.Vote.{Vote}
use Rattle.letter_types.specs.declared.votes.Vote.TheVariants as votes
use Rattle.nc_locks.specs.declared.modes.Lock.{Lock}
use Rattle.tree_home.specs.HeldAnswers.{held_answers, held_in}
use Rattle.tree_home.specs.Homes.{Gets, begun, home_in, misses, misses_of, open_trees}
use Rattle.tree_home.specs.Maps.{by_tree}
use Rattle.tree_home.specs.declared.homes.Answered.{Answered}
use Rattle.tree_home.specs.declared.homes.OpenTree.{OpenTree}
use Rattle.tx_trees.specs.ScriptData.{ScriptData, home_of, subs_at}
use Rattle.tx_trees.specs.declared.parts.Sub.{Sub}
use Rattle.tx_trees.specs.declared.parts.SubOp.{SubOp}
use Rattle.world_model.specs.Asked.{asked_ops, asked_version, tree_part}
use Rattle.world_model.specs.Core.{Core, Refusals, refused_by}
use Rattle.world_model.specs.Done.{TreeOut, note_part}
use Rattle.world_model.specs.Named.{is_near, is_strict_at}
use Rattle.world_model.specs.Node.{Effect, Node}
use Rattle.world_model.specs.Notices.{answer_noted, values_of}
use Rattle.world_model.specs.Strict.{answered, decided, is_near_answer, is_unheld, locks_by, note_core, notice_by, noted_vote, refused_there, strict_core, voted_core, voting}
use Rattle.world_model.specs.Votes.{vote_of}
use Rattle.tree_step.proofs.Begun.{root_answered}
use Rattle.tree_step.specs.Changes.{part_row}
use Rattle.tree_step.specs.Due.{is_due}
use Rattle.tree_step.specs.Node.{IsOf, data_of}
use Rattle.tree_step.specs.steps.TreeStep.{TreeStep}
use Rattle.tree_step.specs.inside.Opening.{root_answer}
use Rattle.node_machine.proofs.tree_rows.NoHeldAnswerOpen.{answered_gone, root_unheld}
use Rattle.tree_step.specs.CoreChanges.{locks_with, refusals_with, with_votes}
use Rattle.tree_step.specs.Core.{AreApart, core_of}
use Rattle.tree_step.specs.steps.VoteChange.{VoteChange}
use Rattle.tree_step.specs.declared.node_core.NodeCore.{NodeCore}
use Rattle.node_machine.specs.Answering.{MayDecide}
use Rattle.node_machine.specs.inside.Voting.{change_by, refusal_there}

-- the negative votes after a notice
noes_noted : (b : Bool) (t : TreeNo) (k : SubNo) (notice : Notice) (rs : Refusals)
    → refusals_with (refusal_there b t k notice rs) rs ≡ (if b then refused_by t k notice rs else rs)
noes_noted true t k (notices.Did values) rs = refl
noes_noted true t k (notices.Yes values) rs = refl
noes_noted true t k (notices.No cause) rs = refl
noes_noted false t k notice rs = refl

locks_noted : (b : Bool) (t : TreeNo) (k : SubNo) (notice : Notice) (rs : Refusals) (ls : List Lock)
    → locks_with (refusal_there b t k notice rs) ls ≡ ls
locks_noted true t k (notices.Did values) rs ls = refl
locks_noted true t k (notices.Yes values) rs ls = refl
locks_noted true t k (notices.No cause) rs ls = refl
locks_noted false t k notice rs ls = refl

voted_note : (t : TreeNo) (k : SubNo) (notice : Notice) (c : Core)
    → with_votes (refusal_there (misses t k c.node.homes) t k notice c.refusals) c
    ≡ record c { refusals = refused_there t k notice c }
voted_note t k notice c =
    let b = misses t k c.node.homes in
    λ i. record c {
      locks = locks_noted b t k notice c.refusals c.locks i;
      refusals = noes_noted b t k notice c.refusals i;
    }

-- a notice of a tree that isn't strict
pub note_answered : (s : ScriptData) (from : ℕ) (t : TreeNo) (k : SubNo) (v : Version) (notice : Notice) (c : Core)
    (o : TreeOut) → is_strict_at s t.0 ≡ false → o ≡ note_part from t.0 k.0 v.0 (values_of notice) c.node
    → answered s c o ≡ note_core s from t k v notice c
note_answered s from t k v notice c o kind row =
    let out = note_part from t.0 k.0 v.0 (values_of notice) c.node in
    ap (λ (x : TreeOut). answered s c x) row
    ∙ sym (ap (λ (b : Bool). if b then decided s (record c { refusals = refused_there t k notice c }) out out.answered
    else answered s c out) kind)

-- a notice of a strict tree
pub note_decided : (s : ScriptData) (from : ℕ) (t : TreeNo) (k : SubNo) (v : Version) (notice : Notice) (c : Core)
    (o : TreeOut) (change : VoteChange) → is_strict_at s t.0 ≡ true
    → o ≡ note_part from t.0 k.0 v.0 (values_of notice) c.node
    → change ≡ refusal_there (misses t k c.node.homes) t k notice c.refusals
    → decided s (with_votes change c) o o.answered ≡ note_core s from t k v notice c
note_decided s from t k v notice c o change kind row is =
    let out = note_part from t.0 k.0 v.0 (values_of notice) c.node in
    ap (λ (x : TreeOut). decided s (with_votes change c) x x.answered) row
    ∙ ap (λ (x : VoteChange). decided s (with_votes x c) out out.answered) is
    ∙ ap (λ (x : Core). decided s x out out.answered) (voted_note t k notice c)
    ∙ sym (ap (λ (b : Bool). if b then decided s (record c { refusals = refused_there t k notice c }) out out.answered
    else answered s c out) kind)

-- if a notice is missing, its tree is open
misses_some : (k : SubNo) (o : Option OpenTree) → misses_of k o ≡ true → IsSome o
misses_some k None is = cc
misses_some k (Some h) is = refl

near_by : (b near : Bool) → b ≡ true → (not b || near) ≡ true → near ≡ true
near_by true near is both = both
near_by false near is both = cc

-- a strict tree that is answered at a notice may be decided
note_by : (s : ScriptData) (from : ℕ) (t : TreeNo) (k : SubNo) (v : Version) (values : Gets) (n : NodeCore)
    (part : TreeStep) (o : Option Answered)
    → IsOf s n.parts → 0 < length (subs_at s t.0) → is_strict_at s t.0 ≡ true
    → is_near_answer s (data_of n.parts) (answer_noted t k values (open_trees n.parts.homes)) ≡ true
    → AreApart (open_trees n.parts.homes) (held_answers n.parts.homes)
    → part_row part (data_of n.parts) ≡ note_part from t.0 k.0 v.0 values (data_of n.parts)
    → part.answered ≡ o → MayDecide s part n o
note_by s from t k v values n part None script there kind near apart row is = tt
note_by s from t k v values n part (Some a) script there kind near apart row is =
    let hs = open_trees n.parts.homes in
    let told : answer_noted t k values hs ≡ Some a = sym (ap (λ (o : TreeOut). o.answered) row) ∙ is in
    let at = answered_gone t k values hs a told in
    let here : IsSome (home_in t hs) = misses_some k (home_in t hs) at.0 in
    let strict : is_strict_at s a.tree.0 ≡ true = ap (λ (u : TreeNo). is_strict_at s u.0) at.1 ∙ kind in
    let known : is_near_answer s (data_of n.parts) (Some a) ≡ true =
    sym (ap (λ (o : Option Answered). is_near_answer s (data_of n.parts) o) told) ∙ near in
    record {
      script = script;
      there = subst (λ (u : TreeNo). 0 < length (subs_at s u.0)) (sym at.1) there;
      gone = ap (λ (o : TreeOut). home_in a.tree o.out.state.homes) row ∙ at.2;
      unheld = ap (λ (u : TreeNo). held_in u (held_answers n.parts.homes)) at.1 ∙ apart t here;
      near = ap (λ (o : TreeOut). in_window o.out.state.turns.low.0 a.version.0) row
          ∙ near_by (is_strict_at s a.tree.0) (is_near (data_of n.parts) a.version) strict known;
    }

pub note_decides : (s : ScriptData) (from : ℕ) (t : TreeNo) (k : SubNo) (v : Version) (values : Gets) (n : NodeCore)
    (part : TreeStep)
    → IsOf s n.parts → 0 < length (subs_at s t.0) → is_strict_at s t.0 ≡ true
    → is_near_answer s (data_of n.parts) (answer_noted t k values (open_trees n.parts.homes)) ≡ true
    → AreApart (open_trees n.parts.homes) (held_answers n.parts.homes)
    → part_row part (data_of n.parts) ≡ note_part from t.0 k.0 v.0 values (data_of n.parts)
    → MayDecide s part n part.answered
note_decides s from t k v values n part script there kind near apart row =
    note_by s from t k v values n part part.answered script there kind near apart row refl

-- what a vote changes
locks_voted : (t : TreeNo) (vote : Vote) (ops : List SubOp) (body : Body) (rs : Refusals) (ls : List Lock)
    → locks_with (change_by t vote ops body rs) ls ≡ locks_by vote t ops ls
locks_voted t (votes.Yes values) ops body rs ls = refl
locks_voted t (votes.No cause) ops (Root u) rs ls = refl
locks_voted t (votes.No cause) ops _ rs ls = refl

noes_voted : (t : TreeNo) (vote : Vote) (ops : List SubOp) (body : Body) (rs : Refusals)
    → refusals_with (change_by t vote ops body rs) rs ≡ noted_vote body vote rs
noes_voted t (votes.Yes values) ops (Root u) rs = refl
noes_voted t (votes.No cause) ops (Root u) rs = refl
noes_voted t (votes.Yes values) ops _ rs = refl
noes_voted t (votes.No cause) ops _ rs = refl

voted_vote : (t : TreeNo) (vote : Vote) (ops : List SubOp) (body : Body) (c : Core)
    → with_votes (change_by t vote ops body c.refusals) c
    ≡ record c { locks = locks_by vote t ops c.locks; refusals = noted_vote body vote c.refusals }
voted_vote t vote ops body c = λ i. record c {
  locks = locks_voted t vote ops body c.refusals c.locks i;
  refusals = noes_voted t vote ops body c.refusals i;
}

-- the plan of a vote, by its parts
pub vote_row : (s : ScriptData) (p from : ℕ) (t : TreeNo) (body : Body) (n : NodeCore) (part : TreeStep)
    (v : Version) (raises : Bool) (staged : StagedItems) (notice : Notice) (vote : Vote) (ops : List SubOp)
    (change : VoteChange)
    → part_row part (data_of n.parts)
    ≡ tree_part s p from v raises (record { items = pending staged n.parts.items; notice = notice }) body (data_of n.parts)
    → staged ≡ [] → notice ≡ notice_by vote → raises ≡ nat_lt n.parts.turns.update.0 v.0
    → change ≡ change_by t vote ops body (by_tree n.refusals) → ops ≡ asked_ops s body
    → vote ≡ vote_of n.locks n.parts.items t v ops → v ≡ asked_version n.parts.turns.update body
    → decided s (with_votes change (core_of n)) (part_row part (data_of n.parts)) part.answered
    ≡ strict_core s p from t body (core_of n)
vote_row s p from t body n part v raises staged notice vote ops change row none told above is asked cast at =
    let c = core_of n in
    let st = data_of n.parts in
    let items = n.parts.items in
    let effect : record { items = pending staged items; notice = notice } ≡ voting vote items =
    λ i. record { items = pending (none i) items; notice = told i } in
    let o = tree_part s p from v (nat_lt st.turns.update.0 v.0) (voting vote items) body st in
    ap (λ (x : TreeOut). decided s (with_votes change c) x x.answered)
    (row ∙ ap (λ (e : Effect). tree_part s p from v raises e body st) effect
    ∙ ap (λ (b : Bool). tree_part s p from v b (voting vote items) body st) above)
    ∙ ap (λ (x : VoteChange). decided s (with_votes x c) o o.answered)
    (is ∙ ap (λ (os : List SubOp). change_by t vote os body c.refusals) asked)
    ∙ ap (λ (x : Core). decided s x o o.answered) (voted_vote t vote (asked_ops s body) body c)
    ∙ ap (λ (w : Vote). voted_core s p from t v w body c)
    (cast ∙ ap (λ (os : List SubOp). vote_of n.locks items t v os) asked)
    ∙ ap (λ (w : Version). voted_core s p from t w (vote_of n.locks items t w (asked_ops s body)) body c) at

-- the tree of a root that a node takes is there
rooted : (xs : List Sub) (m p : ℕ) → ((elim (slice_get xs 0) [ Some sub ↦ sub.node.0 | None ↦ m ]) == p) ≡ true → p < m
    → 0 < length xs
rooted [] m p is lt = grind (arith, nat_tests)
rooted (x ∷ xs) m p is lt = omega arith

root_there : (s : ScriptData) (p from : ℕ) (st : Node) (t : TreeNo) → is_due s p st from (Root t) ≡ true → p < s.nodes
    → 0 < length (subs_at s t.0)
root_there s p from st t due lt =
    rooted (subs_at s t.0) s.nodes p (and_parts (home_of s t.0 == p) _ due).0 lt

version_by : (b : Bool) (t : TreeNo) (v : Version) (values : Gets) (a : Answered)
    → (if b then Some (record { tree = t; version = v; values = values }) else None) ≡ Some a → a.version ≡ v
version_by true t v values a is =
    let same : record { tree = t; version = v; values = values } ≡ a = cc in
    sym (ap (λ (x : Answered). x.version) same)
version_by false t v values a is = cc

root_version : (n : ℕ) (t : TreeNo) (v : Version) (values : Gets) (a : Answered) → root_answer n t v values ≡ Some a
    → a.version ≡ v
root_version n t v values a is = version_by (n == 1) t v values a is

-- a strict tree that is answered at its root may be decided
root_by : (s : ScriptData) (p from : ℕ) (t : TreeNo) (v : Version) (raises : Bool) (e : Effect) (n : NodeCore)
    (part : TreeStep) (o : Option Answered)
    → IsOf s n.parts → 0 < length (subs_at s t.0) → is_unheld (Root t) (held_answers n.parts.homes) ≡ true
    → in_window n.parts.turns.low.0 v.0 ≡ true
    → part_row part (data_of n.parts) ≡ tree_part s p from v raises e (Root t) (data_of n.parts)
    → part.answered ≡ o → MayDecide s part n o
root_by s p from t v raises e n part None script there unheld near row is = tt
root_by s p from t v raises e n part (Some a) script there unheld near row is =
    let values = values_of e.notice in
    let k = length (subs_at s t.0) in
    let old = open_trees n.parts.homes in
    let told : answer_noted t (record { 0 = 0 }) values (begun t k v old) ≡ Some a =
    sym (ap (λ (o : TreeOut). o.answered) row) ∙ is in
    let at = answered_gone t (record { 0 = 0 }) values (begun t k v old) a told in
    let version = root_version k t v values a (root_answered t k v values old there ∙ told) in
    record {
      script = script;
      there = subst (λ (u : TreeNo). 0 < length (subs_at s u.0)) (sym at.1) there;
      gone = ap (λ (o : TreeOut). home_in a.tree o.out.state.homes) row ∙ at.2;
      unheld = ap (λ (u : TreeNo). held_in u (held_answers n.parts.homes)) at.1
          ∙ root_unheld t (held_answers n.parts.homes) unheld;
      near = ap (λ (o : TreeOut). in_window o.out.state.turns.low.0 a.version.0) row
          ∙ ap (λ (w : Version). in_window n.parts.turns.low.0 w.0) version ∙ near;
    }

none_by : (s : ScriptData) (n : NodeCore) (part : TreeStep) → part.answered ≡ None → MayDecide s part n part.answered
none_by s n part none = subst (λ (o : Option Answered). MayDecide s part n o) (sym none) tt

pub vote_decides : (s : ScriptData) (p from : ℕ) (v : Version) (raises : Bool) (e : Effect) (body : Body) (n : NodeCore)
    (part : TreeStep)
    → IsOf s n.parts → p < s.nodes → is_due s p (data_of n.parts) from body ≡ true
    → is_unheld body (held_answers n.parts.homes) ≡ true → in_window n.parts.turns.low.0 v.0 ≡ true
    → part_row part (data_of n.parts) ≡ tree_part s p from v raises e body (data_of n.parts)
    → MayDecide s part n part.answered
vote_decides s p from v raises e (Root t) n part script lt due unheld near row =
    root_by s p from t v raises e n part part.answered script (root_there s p from (data_of n.parts) t due lt) unheld near
    row refl
vote_decides s p from v raises e (SubLetter t k w) n part script lt due unheld near row =
    none_by s n part (ap (λ (o : TreeOut). o.answered) row)
vote_decides s p from v raises e _ n part script lt due unheld near row =
    none_by s n part (ap (λ (o : TreeOut). o.answered) row)
