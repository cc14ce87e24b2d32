-- In every run of every valid script each Did and each vote is of a subtransaction that was asked for: it is a root, or its
-- parent has had its turn.
use Rattle.std.proofs.Common.{◌≡◌, ℕ, ◌<◌, ◌≤◌, ◌==◌, ◌||◌, Bool, true, false, List, ◌∷◌, take, refl, sym, ap, subst, ◌∙◌, arith, Option, Some}
use Rattle.std.specs.Prelude.{slice_get}
use Rattle.std.proofs.lemmas.Bool.Decides.{nat_tests}
use Rattle.tv_base.specs.declared.numbers.ItemNo.{ItemNo}
use Rattle.tv_base.specs.declared.numbers.SubNo.{SubNo}
use Rattle.tv_base.specs.declared.numbers.TreeNo.{TreeNo}
use Rattle.commute_ops.specs.declared.value.Value.{Value}
use Rattle.letter_types.specs.declared.acts.Act.{Act}
use Rattle.letter_types.specs.declared.acts.Act.TheVariants as acts
use Rattle.letter_types.specs.declared.entries.Entry.{Entry}
use Rattle.letter_types.specs.declared.entries.Letter.{Letter}
use Rattle.letter_types.specs.declared.votes.Vote.{Vote}
use Rattle.letter_types.specs.declared.votes.Vote.TheVariants.{Yes, No}
use Rattle.script_parts.specs.declared.parts.Sub.{Sub}
use Rattle.script_parts.specs.declared.parts.TreeKind.TheVariants.{Read, Strict, Update}
use Rattle.script_parts.specs.ScriptData.{ScriptData, reads, updates}
use Rattle.script_parts.specs.Valid.{IsValid}
use Rattle.world_model.specs.Named.{is_strict_at, tree_kind_at}
use Rattle.world_model.specs.Notices.{act_of}
use Rattle.world_model.specs.Runs.{IsStepRun}
use Rattle.world_model.specs.Strict.{notice_by}
use Rattle.world_model.proofs.Scripts.{SubAt, sub_here}
use Rattle.world_model.proofs.Bags.{one_if_both}
use Rattle.board_rules.specs.Histories.{Place, does, places_at, was_done}
use Rattle.board_rules.specs.Moves.{IsAsked, IsAskedBy, IsDeed}
use Rattle.board_rules.specs.Rules.{IsFreeDeed}
use Rattle.board_rules.specs.Stands.{votes, was_voted}
use Rattle.board_rules.proofs.Wholes.{any_more}
use Rattle.tree_laws.proofs.conflicts.ByActs.{kind_updates}
use Rattle.tree_laws.proofs.kept.Parkings.{kind_reads_by}
use Rattle.tree_laws.specs.Dids.{asks}
use Rattle.tree_laws.specs.Turns.{has_turn, turns}
use Rattle.tree_laws.proofs.stages.AptStagesOwn.{Doing, asked}
use Rattle.tree_laws.proofs.apt.AptTurns.{sub_has_turns}
use Rattle.tree_laws.proofs.apt.AptVersions.{before}
use Rattle.tree_laws.proofs.homes.Counted.{dids_in, was_done_of}
use Rattle.run_laws.proofs.each_tree.EveryDid.{dids_are_turns}
use Rattle.run_laws.proofs.each_tree.EveryWhole.{strict_is}
use Rattle.run_laws.proofs.strict.Decisions.{no_dids, was_voted_of}
use Rattle.run_laws.proofs.births.Deeds.{turn_sums}
use Rattle.run_laws.proofs.act_order.Fronts.{front}
use Rattle.run_laws.proofs.act_order.Lasts.{AsksIn, Applies, Frees, Lasts, OfRoot, OfSub, Reads, Updates, Votes, lasts}
use Rattle.run_laws.proofs.act_order.Turns.{born_before, is_there, not_voted, turn_once, turns_in}
use Rattle.board_rules.specs.ButCause.{IsVotingAsked}

-- A subtransaction is asked for where its parent has had its turn, if it has one.
is_asked : (s : ScriptData) (t k : ℕ) (had : ℕ → Bool) (c : SubAt s t k) → (0 < k → had c.sub.parent.0 ≡ true) → IsAsked s had t k
is_asked s t k had c parent =
    subst (λ (found : Option Sub). IsAskedBy had k found) (sym (sub_here s t k c)) (by (k == 0) refl) where
      by : (root : Bool) → (k == 0) ≡ root → (root || had c.sub.parent.0) ≡ true
      by true is = refl
      by false is = parent (grind (arith, nat_tests, is))

-- the letter of a subtransaction that isn't the root is sent where its parent has its turn
parent_turn : (s : ScriptData) (past : List Entry) (e : Entry) (p : ℕ) (r : Letter) (t : TreeNo) (k : SubNo) → Doing s past e p r
    → AsksIn r.body t k → (c : SubAt s t.0 k.0) → 0 < k.0 → 1 ≤ turns past t.0 c.sub.parent.0
parent_turn s past e p r t k g (OfRoot is first) c later = absurd (omega (arith, later, ap (λ (x : SubNo). x.0) first))
parent_turn s past e p r t k g (OfSub v is) c later =
    let one : asks t.0 k.0 r.body ≡ 1 = ap (asks t.0 k.0) is ∙ one_if_both t.0 k.0 in
    omega (arith, asked s past e p t.0 k.0 r g one, sub_has_turns s past t.0 k.0 c g.valid g.apt.1 g.run.1 later)

-- A Did: its tree isn't strict, so its parent was done.
did_asked : (s : ScriptData) (past : List Entry) (e : Entry) (j p : ℕ) (r : Letter) (t : TreeNo) (k : SubNo) → Doing s past e p r
    → AsksIn r.body t k → is_strict_at s t.0 ≡ false → IsAsked s (λ (i : ℕ). was_done t.0 i (front past e j)) t.0 k.0
did_asked s past e j p r t k g asks plain =
    let c = (is_there s past e p r t k g asks).at in
    is_asked s t.0 k.0 (λ (i : ℕ). was_done t.0 i (front past e j)) c
    (λ later.
    let parent = c.sub.parent.0 in
    any_more (λ (x : Place). does t.0 parent x.act) (before past) (take j (places_at e))
    (was_done_of t.0 parent (before past)
    (omega (
      arith,
      parent_turn s past e p r t k g asks c later,
      dids_in past t.0 parent,
      dids_are_turns s past t.0 parent g.valid g.run.1 plain,
    ))))

-- A vote: its tree is strict, so its parent has voted.
vote_asked : (s : ScriptData) (past : List Entry) (e : Entry) (j p : ℕ) (r : Letter) (t : TreeNo) (k : SubNo) → Doing s past e p r
    → AsksIn r.body t k → is_strict_at s t.0 ≡ true → IsAsked s (λ (i : ℕ). was_voted t.0 i (front past e j)) t.0 k.0
vote_asked s past e j p r t k g asks strict =
    let c = (is_there s past e p r t k g asks).at in
    is_asked s t.0 k.0 (λ (i : ℕ). was_voted t.0 i (front past e j)) c
    (λ later.
    let parent = c.sub.parent.0 in
    any_more (λ (x : Place). votes t.0 parent x.act) (before past) (take j (places_at e))
    (was_voted_of t.0 parent (before past)
    (omega (
      arith,
      parent_turn s past e p r t k g asks c later,
      turn_sums t.0 parent (before past),
      turns_in past t.0 parent,
      no_dids s past t.0 parent g.valid g.run.1 strict,
    ))))

-- So each Did that follows its rule is a move of the Board.
abbrev DidAs : TreeNo → SubNo → List (ItemNo × Value) → Act → Type 0
DidAs t k values (acts.Did u i given) = (t ≡ u) × ((k ≡ i) × (values ≡ given))
DidAs t k values acts.Finished = ⊥
DidAs t k values _ = ⊥

same_did : (t : TreeNo) (k : SubNo) (values : List (ItemNo × Value)) (a : Act) → acts.Did t k values ≡ a → DidAs t k values a
same_did t k values a is = subst (DidAs t k values) is (refl, (refl, refl))

no_vote : (t : TreeNo) (k : SubNo) (values : List (ItemNo × Value)) (u : TreeNo) (i : SubNo) (v : Vote)
    → DidAs t k values (act_of u i (notice_by v)) → ⊥
no_vote t k values u i (Yes given) same = same
no_vote t k values u i (No cause) same = same

did_by : (s : ScriptData) (past : List Entry) (e : Entry) (j : ℕ) (t : TreeNo) (k : SubNo) (values : List (ItemNo × Value))
    → Lasts s past e j (acts.Did t k values) → IsFreeDeed s (front past e j) e.actor.0 t.0 k.0
    → IsDeed s (front past e j) e.actor.0 t.0 k.0 values
did_by s past e j t k values (Updates p r u i g asks of is none) d =
    let same = same_did t k values _ is in
    let plain : is_strict_at s t.0 ≡ false =
    subst (λ (x : TreeNo). is_strict_at s x.0 ≡ false) (sym same.0) (rw (of, is_strict_at) refl) in
    let up : updates s t.0 ≡ true = ap (λ (x : TreeNo). updates s x.0) same.0 ∙ kind_updates s u.0 Update of in
    let here : AsksIn r.body t k =
    subst (λ (x : TreeNo). AsksIn r.body x k) (sym same.0) (subst (λ (y : SubNo). AsksIn r.body u y) (sym same.1.0) asks) in
    record {
      commutes = rw up refl;
      born = d.born;
      asked = did_asked s past e j p r t k g here plain;
      once = d.once;
      node = (omega (arith, g.does.brings.at, g.does.brings.below), d.node);
      values = λ up. same.1.1;
    }
did_by s past e j t k values (Reads p r u i given g asks of is none) d =
    let same = same_did t k values _ is in
    let plain : is_strict_at s t.0 ≡ false =
    subst (λ (x : TreeNo). is_strict_at s x.0 ≡ false) (sym same.0) (rw (of, is_strict_at) refl) in
    let read : updates s t.0 ≡ false = ap (λ (x : TreeNo). updates s x.0) same.0 ∙ kind_updates s u.0 Read of in
    let shows : reads s t.0 ≡ true = ap (λ (x : TreeNo). reads s x.0) same.0 ∙ kind_reads_by s u.0 (Some Read) of in
    let here : AsksIn r.body t k =
    subst (λ (x : TreeNo). AsksIn r.body x k) (sym same.0) (subst (λ (y : SubNo). AsksIn r.body u y) (sym same.1.0) asks) in
    record {
      commutes = rw (read, shows) refl;
      born = d.born;
      asked = did_asked s past e j p r t k g here plain;
      once = d.once;
      node = (omega (arith, g.does.brings.at, g.does.brings.below), d.node);
      values = λ up. absurd (cc (up, read));
    }
did_by s past e j t k values (Votes p r u i g asks of is none) d = absurd (no_vote t k values u i _ (same_did t k values _ is))
did_by s past e j t k values (Applies p r u v commit g is so none) d = absurd (same_did t k values _ so)
did_by s past e j t k values (Frees p r u g is so none) d = absurd (same_did t k values _ so)

pub deed_is : (s : ScriptData) (past : List Entry) (e : Entry) (j : ℕ) (t : TreeNo) (k : SubNo) (values : List (ItemNo × Value)) → IsValid s
    → IsStepRun s (e ∷ past) → slice_get e.acts j ≡ Some (acts.Did t k values) → IsFreeDeed s (front past e j) e.actor.0 t.0 k.0
    → IsDeed s (front past e j) e.actor.0 t.0 k.0 values
deed_is s past e j t k values valid run at d = did_by s past e j t k values (lasts s past e j (acts.Did t k values) valid run at refl) d

-- Each vote is asked for.
abbrev VotedAs : TreeNo → SubNo → Act → Type 0
VotedAs t k (acts.Voted u i vote) = (t ≡ u) × (k ≡ i)
VotedAs t k acts.Finished = ⊥
VotedAs t k _ = ⊥

same_vote : (t : TreeNo) (k : SubNo) (vote : Vote) (a : Act) → acts.Voted t k vote ≡ a → VotedAs t k a
same_vote t k vote a is = subst (VotedAs t k) is (refl, refl)

its_vote : (t : TreeNo) (k : SubNo) (u : TreeNo) (i : SubNo) (v : Vote) → VotedAs t k (act_of u i (notice_by v)) → (t ≡ u) × (k ≡ i)
its_vote t k u i (Yes given) same = same
its_vote t k u i (No cause) same = same

vote_by : (s : ScriptData) (past : List Entry) (e : Entry) (j : ℕ) (t : TreeNo) (k : SubNo) (vote : Vote)
    → slice_get e.acts j ≡ Some (acts.Voted t k vote) → Lasts s past e j (acts.Voted t k vote)
    → IsVotingAsked s (front past e j) e.actor.0 t.0 k.0
vote_by s past e j t k vote at (Votes p r u i g asks of is none) =
    let same = its_vote t k u i _ (same_vote t k vote _ is) in
    let kind : tree_kind_at s t.0 ≡ Some Strict = ap (λ (x : TreeNo). tree_kind_at s x.0) same.0 ∙ of in
    let here : AsksIn r.body t k =
    subst (λ (x : TreeNo). AsksIn r.body x k) (sym same.0) (subst (λ (y : SubNo). AsksIn r.body u y) (sym same.1) asks) in
    let strict : is_strict_at s t.0 ≡ true = rw (kind, is_strict_at) refl in
    let there = is_there s past e p r t k g here in
    let own : has_turn t.0 k.0 (acts.Voted t k vote) ≡ 1 = one_if_both t.0 k.0 in
    record {
      strict = strict_is s t.0 (slice_get s.trees t.0) refl ∙ strict;
      born = born_before s past e j (acts.Voted t k vote) p r t k Strict g here kind at refl;
      asked = vote_asked s past e j p r t k g here strict;
      once = not_voted t.0 k.0 (front past e j)
          (turn_once s past e j (acts.Voted t k vote) t.0 k.0 there.at g.valid g.run at own);
      node = (omega (arith, g.does.brings.at, g.does.brings.below), there.node ∙ sym g.does.brings.at);
    }
vote_by s past e j t k vote at (Updates p r u i g asks of is none) = absurd (same_vote t k vote _ is)
vote_by s past e j t k vote at (Reads p r u i given g asks of is none) = absurd (same_vote t k vote _ is)
vote_by s past e j t k vote at (Applies p r u v commit g is so none) = absurd (same_vote t k vote _ so)
vote_by s past e j t k vote at (Frees p r u g is so none) = absurd (same_vote t k vote _ so)

pub voting_is : (s : ScriptData) (past : List Entry) (e : Entry) (j : ℕ) (t : TreeNo) (k : SubNo) (vote : Vote) → IsValid s
    → IsStepRun s (e ∷ past) → slice_get e.acts j ≡ Some (acts.Voted t k vote) → IsVotingAsked s (front past e j) e.actor.0 t.0 k.0
voting_is s past e j t k vote valid run at = vote_by s past e j t k vote at (lasts s past e j (acts.Voted t k vote) valid run at refl)
