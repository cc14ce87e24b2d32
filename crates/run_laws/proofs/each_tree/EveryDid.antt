-- In every run of every valid script: only subtransactions of strict transactions vote, so one of any other transaction
-- has its turn if it is done.
use Rattle.std.proofs.Common.{◌≡◌, ℕ, ◌+◌, ◌<◌, ◌==◌, ◌&&◌, Bool, true, false, List, [], ◌∷◌, refl, sym, ap, subst, ◌∙◌, arith, Option, Some, None}
use Rattle.std.specs.Prelude.{nat_lt}
use Rattle.std.proofs.lemmas.Bool.Decides.{nat_tests}
use Rattle.tv_base.specs.declared.numbers.SubNo.{SubNo}
use Rattle.tv_base.specs.declared.numbers.TreeNo.{TreeNo}
use Rattle.tv_base.specs.declared.numbers.Version.{Version}
use Rattle.letter_types.specs.declared.acts.Act.{Act}
use Rattle.letter_types.specs.declared.acts.Act.TheVariants as acts
use Rattle.letter_types.specs.declared.bodies.Body.{Body}
use Rattle.letter_types.specs.declared.bodies.Body.TheVariants.{Root, Sub as SubLetter}
use Rattle.letter_types.specs.declared.bodies.Notice.{Notice}
use Rattle.letter_types.specs.declared.bodies.Notice.TheVariants.{Did as DidNotice, Yes, No}
use Rattle.letter_types.specs.declared.entries.Entry.{Entry}
use Rattle.tree_home.specs.Homes.{Gets}
use Rattle.tx_trees.specs.ScriptData.{ScriptData}
use Rattle.tx_trees.specs.Valid.{IsValid}
use Rattle.tx_trees.specs.declared.parts.TreeKind.{TreeKind}
use Rattle.tx_trees.specs.declared.parts.TreeKind.TheVariants.{Update, Read, Strict}
use Rattle.world_model.specs.Asked.{asked_ops, asked_version, tree_part}
use Rattle.world_model.specs.Core.{Core}
use Rattle.world_model.specs.Counts.{one_if, tally}
use Rattle.world_model.specs.Done.{turned_if}
use Rattle.world_model.specs.Named.{is_named, is_strict_at, tree_kind_at}
use Rattle.world_model.specs.Node.{Effect, Node}
use Rattle.world_model.specs.Notices.{act_of}
use Rattle.world_model.specs.Reads.{gets, getting}
use Rattle.world_model.specs.Runs.{IsStepRun, client_in, keeping_in}
use Rattle.world_model.specs.Strict.{core_by_kind, core_row}
use Rattle.world_model.specs.Updates.{touching}
use Rattle.world_model.proofs.Bags.{tally-append}
use Rattle.world_model.proofs.Cases.{Case, Coordinates, NodeDoes, NodeKeeps, Submits, case, apt_named}
use Rattle.tree_laws.specs.Dids.{dids, is_did_act}
use Rattle.tree_laws.specs.Turns.{has_turn, turns}
use Rattle.tree_laws.proofs.decided.AptRulings.{client_acts, keeping_acts}
use Rattle.tree_laws.proofs.histories.Turns.{OfTreeActs, Works, core_works, work_version}
use Rattle.run_laws.proofs.each_tree.EveryApt.{all_apt}

-- the vote of subtransaction k of tree t
abbrev pub is_vote_of : ℕ → ℕ → Act → ℕ
is_vote_of t k (acts.Voted u j vote) = one_if ((u.0 == t) && (j.0 == k))
is_vote_of t k acts.Finished = 0
is_vote_of t k _ = 0

votes_of : (t k : ℕ) → OfTreeActs (is_vote_of t k)
votes_of t k (acts.Voted u j vote) none = absurd (cc none)
votes_of t k acts.Finished none = refl
votes_of t k _ none = refl

-- a turn is a Did or a vote
pub turn_is : (t k : ℕ) (a : Act) → has_turn t k a ≡ is_did_act t k a + is_vote_of t k a
turn_is t k (acts.Did u j values) = omega arith
turn_is t k (acts.Voted u j vote) = omega arith
turn_is t k acts.Finished = refl
turn_is t k _ = refl

pub turns_are : (t k : ℕ) (xs : List Act) → tally (has_turn t k) xs ≡ tally (is_did_act t k) xs + tally (is_vote_of t k) xs
turns_are t k [] = refl
turns_are t k (a ∷ xs) = omega (arith, turn_is t k a, turns_are t k xs)

-- The row of a letter makes no vote of a tree that isn't strict.
no_turned : (t k v : ℕ) (raises : Bool) → tally (is_vote_of t k) (turned_if raises v) ≡ 0
no_turned t k v true = refl
no_turned t k v false = refl

-- its notice tells what was done
part_votes : (t k : ℕ) (s : ScriptData) (p from : ℕ) (v : Version) (raises : Bool) (e : Effect) (values : Gets) (body : Body) (st : Node)
    → e.notice ≡ DidNotice values → tally (is_vote_of t k) (tree_part s p from v raises e body st).out.acts ≡ 0
part_votes t k s p from v raises e values (Root u) st is =
    ap (λ (n : Notice). tally (is_vote_of t k) (acts.Born u v ∷ act_of u (record { 0 = 0 }) n ∷ [])) is
part_votes t k s p from v raises e values (SubLetter u j w) st is =
    omega (
      arith,
      tally-append (is_vote_of t k) (turned_if raises v.0) (act_of u j e.notice ∷ []),
      no_turned t k v.0 raises,
      ap (λ (n : Notice). is_vote_of t k (act_of u j n)) is,
    )
part_votes t k s p from v raises e values _ st is = refl

kind_votes : (s : ScriptData) (p from t k : ℕ) (u : TreeNo) (body : Body) (kind : Option TreeKind) (c : Core) → tree_kind_at s u.0 ≡ kind
    → is_strict_at s u.0 ≡ false → tally (is_vote_of t k) (core_by_kind s p from u body kind c).acts ≡ 0
kind_votes s p from t k u body (Some Update) c is plain =
    let v : Version = asked_version c.node.turns.update body in
    part_votes t k s p from v (nat_lt c.node.turns.update.0 v.0) (touching v (asked_ops s body) c.node.items) [] body c.node refl
kind_votes s p from t k u body (Some Read) c is plain =
    let v : Version = asked_version c.node.turns.read body in
    part_votes t k s p from v false (getting v (asked_ops s body) c.node.items) (gets v (asked_ops s body) c.node.items) body c.node refl
kind_votes s p from t k u body (Some Strict) c is plain =
    let strict : is_strict_at s u.0 ≡ true = rw (is, is_strict_at) refl in absurd (cc (plain, strict))
kind_votes s p from t k u body None c is plain = refl

-- a letter of another tree
other_vote : (t k : ℕ) (u : TreeNo) (j : SubNo) (n : Notice) → (u.0 == t) ≡ false → is_vote_of t k (act_of u j n) ≡ 0
other_vote t k u j (DidNotice values) ne = refl
other_vote t k u j (Yes values) ne = rw ne refl
other_vote t k u j (No cause) ne = rw ne refl

plain_here : (s : ScriptData) (t u : ℕ) → (u == t) ≡ true → is_strict_at s t ≡ false → is_strict_at s u ≡ false
plain_here s t u is plain =
    let same : u ≡ t = grind (arith, nat_tests) in subst (λ (w : ℕ). is_strict_at s w ≡ false) (sym same) plain

root_votes : (s : ScriptData) (p from t k : ℕ) (u : TreeNo) (c : Core) (test : Bool) → p < s.nodes → is_named s p from (Root u) ≡ true
    → is_strict_at s t ≡ false → (u.0 == t) ≡ test → tally (is_vote_of t k) (core_row s p c from (Root u)).acts ≡ 0
root_votes s p from t k u c true lt named plain is =
    kind_votes s p from t k u (Root u) (tree_kind_at s u.0) c refl (plain_here s t u.0 is plain)
root_votes s p from t k u c false lt named plain is =
    let w = core_works s p from (Root u) c lt named in
    omega (arith, w.acts (is_vote_of t k) (votes_of t k), other_vote t k u (record { 0 = 0 }) w.notice is)

sub_votes : (s : ScriptData) (p from t k : ℕ) (u : TreeNo) (j : SubNo) (v : Version) (c : Core) (test : Bool) → p < s.nodes
    → is_named s p from (SubLetter u j v) ≡ true → is_strict_at s t ≡ false → (u.0 == t) ≡ test
    → tally (is_vote_of t k) (core_row s p c from (SubLetter u j v)).acts ≡ 0
sub_votes s p from t k u j v c true lt named plain is =
    kind_votes s p from t k u (SubLetter u j v) (tree_kind_at s u.0) c refl (plain_here s t u.0 is plain)
sub_votes s p from t k u j v c false lt named plain is =
    let w = core_works s p from (SubLetter u j v) c lt named in
    omega (arith, w.acts (is_vote_of t k) (votes_of t k), other_vote t k u j w.notice is)

row_by : (s : ScriptData) (p from t k : ℕ) (body : Body) (c : Core)
    → Works s (work_version s c body) body (core_row s p c from body).sent (core_row s p c from body).acts → p < s.nodes
    → is_named s p from body ≡ true → is_strict_at s t ≡ false → tally (is_vote_of t k) (core_row s p c from body).acts ≡ 0
row_by s p from t k (Root u) c w lt named plain = root_votes s p from t k u c (u.0 == t) lt named plain refl
row_by s p from t k (SubLetter u j v) c w lt named plain = sub_votes s p from t k u j v c (u.0 == t) lt named plain refl
row_by s p from t k _ c w lt named plain = w.acts (is_vote_of t k) (votes_of t k)

row_votes : (s : ScriptData) (p from t k : ℕ) (body : Body) (c : Core) → p < s.nodes → is_named s p from body ≡ true
    → is_strict_at s t ≡ false → tally (is_vote_of t k) (core_row s p c from body).acts ≡ 0
row_votes s p from t k body c lt named plain = row_by s p from t k body c (core_works s p from body c lt named) lt named plain

-- So does an entry.
pub none_votes : (s : ScriptData) (past : List Entry) (e : Entry) (t k : ℕ) → is_strict_at s t ≡ false → Case s past e
    → tally (is_vote_of t k) e.acts ≡ 0
none_votes s past e t k plain (NodeDoes p r d) =
    let c : Core = (keeping_in s past p).core in
    ap (λ (xs : List Act). tally (is_vote_of t k) xs) d.acts
    ∙ row_votes s p r.from.0 t k r.body c d.brings.below (apt_named s p c r d.brings.apt) plain
none_votes s past e t k plain (NodeKeeps p r x d) =
    ap (λ (xs : List Act). tally (is_vote_of t k) xs) d.acts
    ∙ keeping_acts (is_vote_of t k) s (keeping_in s past p).core r.body x
    (record { turned = λ v. refl; parked = λ u j i w. refl; waits = λ u v w. refl })
    d.keeps
none_votes s past e t k plain (Coordinates at made) = ap (λ (xs : List Act). tally (is_vote_of t k) xs) made.acts
none_votes s past e t k plain (Submits at says) =
    ap (λ (xs : List Act). tally (is_vote_of t k) xs) says.1
    ∙ client_acts (is_vote_of t k) s (client_in s past) e.took.body refl

-- where a tree isn't strict, each turn of its subtransactions is a Did
pub dids_are_turns : (s : ScriptData) (past : List Entry) (t k : ℕ) → IsValid s → IsStepRun s past → is_strict_at s t ≡ false
    → dids past t k ≡ turns past t k
dids_are_turns s [] t k valid run plain = refl
dids_are_turns s (e ∷ past) t k valid run plain =
    omega (
      arith,
      dids_are_turns s past t k valid run.1 plain,
      turns_are t k e.acts,
      none_votes s past e t k plain (case s past e run.0 (all_apt s (e ∷ past) valid run).0),
    )
