-- An act of an entry that lasts, by what its node does: a subtransaction of an update or a read transaction is done,
-- one of a strict transaction votes, a decision is applied, or marks are freed. No act before it in its entry lasts.
use Rattle.std.proofs.Common.{◌≡◌, ℕ, ◌≤◌, Bool, true, List, [], ◌∷◌, length, take, refl, sym, ap, ◌∙◌, arith, Option, Some, None}
use Rattle.std.specs.Prelude.{slice_get}
use Rattle.tv_base.specs.declared.numbers.ItemNo.{ItemNo}
use Rattle.tv_base.specs.declared.numbers.SubNo.{SubNo}
use Rattle.tv_base.specs.declared.numbers.TreeNo.{TreeNo}
use Rattle.tv_base.specs.declared.numbers.Version.{Version}
use Rattle.commute_ops.specs.declared.value.Value.{Value}
use Rattle.letter_types.specs.declared.acts.Act.{Act}
use Rattle.letter_types.specs.declared.acts.Act.TheVariants as acts
use Rattle.letter_types.specs.declared.bodies.Body.{Body}
use Rattle.letter_types.specs.declared.bodies.Body.TheVariants.{Root, Sub as SubLetter, Decide, Release, Go}
use Rattle.letter_types.specs.declared.entries.Entry.{Entry}
use Rattle.letter_types.specs.declared.entries.Letter.{Letter}
use Rattle.letter_types.specs.declared.votes.Cause.{Cause}
use Rattle.letter_types.specs.declared.votes.Vote.{Vote}
use Rattle.script_parts.specs.declared.parts.TreeKind.{TreeKind}
use Rattle.script_parts.specs.declared.parts.TreeKind.TheVariants.{Update, Read, Strict}
use Rattle.script_parts.specs.ScriptData.{ScriptData}
use Rattle.script_parts.specs.Valid.{IsValid}
use Rattle.world_model.specs.Asked.{asked_ops, asked_version}
use Rattle.world_model.specs.Core.{Core}
use Rattle.world_model.specs.Counts.{one_if, tally}
use Rattle.world_model.specs.Named.{tree_kind_at}
use Rattle.world_model.specs.Notices.{act_of}
use Rattle.world_model.specs.Runs.{IsStepRun, client_in, keeping_in}
use Rattle.world_model.specs.Strict.{notice_by}
use Rattle.world_model.specs.Votes.{cause_in, vote_of}
use Rattle.world_model.proofs.Cases.{Case, Coordinates, NodeDoes, NodeKeeps, Submits, case}
use Rattle.tree_laws.proofs.decided.AptRulings.{client_acts}
use Rattle.tree_laws.proofs.stages.AptStagesOwn.{Doing}
use Rattle.tree_laws.proofs.apt.AptSteps.{enters}
use Rattle.run_laws.proofs.act_order.RowActs.{asked_acts, is_lasting, keeping_lasts, lasting, lasting_acts, none_lasts, row_lasts}
use Rattle.run_laws.proofs.each_tree.EveryApt.{all_apt}
use Rattle.run_laws.proofs.act_order.Fronts.{one_lasts}

-- a letter that asks for subtransaction k of tree t
pub data AsksIn (body : Body) (t : TreeNo) (k : SubNo) : Type 0 where
  OfRoot : body ≡ Root t → k ≡ record { 0 = 0 } → AsksIn body t k
  OfSub : (v : Version) → body ≡ SubLetter t k v → AsksIn body t k

-- how it votes, if its tree is strict
abbrev pub vote_there : ScriptData → Core → TreeNo → Body → Vote
vote_there s c t body = vote_of c.locks c.node.items t (asked_version c.node.turns.update body) (asked_ops s body)

-- and the cause of a no, if it is one
abbrev pub cause_there : ScriptData → Core → TreeNo → Body → Option Cause
cause_there s c t body = cause_in c.locks c.node.items t (asked_version c.node.turns.update body) (asked_ops s body)

pub data Lasts (s : ScriptData) (past : List Entry) (e : Entry) (j : ℕ) (a : Act) : Type 0 where
  Updates : (p : ℕ) (r : Letter) (t : TreeNo) (k : SubNo) → Doing s past e p r → AsksIn r.body t k → tree_kind_at s t.0 ≡ Some Update
      → a ≡ acts.Did t k [] → lasting (take j e.acts) ≡ [] → Lasts s past e j a
  Reads : (p : ℕ) (r : Letter) (t : TreeNo) (k : SubNo) (values : List (ItemNo × Value)) → Doing s past e p r → AsksIn r.body t k
      → tree_kind_at s t.0 ≡ Some Read → a ≡ acts.Did t k values → lasting (take j e.acts) ≡ [] → Lasts s past e j a
  Votes : (p : ℕ) (r : Letter) (t : TreeNo) (k : SubNo) → Doing s past e p r → AsksIn r.body t k → tree_kind_at s t.0 ≡ Some Strict
      → a ≡ act_of t k (notice_by (vote_there s (keeping_in s past p).core t r.body)) → lasting (take j e.acts) ≡ [] → Lasts s past e j a
  Applies : (p : ℕ) (r : Letter) (t : TreeNo) (v : Version) (commit : Bool) → Doing s past e p r → r.body ≡ Decide t v commit
      → a ≡ acts.Applied t commit → lasting (take j e.acts) ≡ [] → Lasts s past e j a
  Frees : (p : ℕ) (r : Letter) (t : TreeNo) → Doing s past e p r → r.body ≡ Release t → a ≡ acts.Freed t → lasting (take j e.acts) ≡ []
      → Lasts s past e j a

-- At most one act of a row lasts.
asked_few : (s : ScriptData) (c : Core) (t : TreeNo) (k : SubNo) (body : Body) (kind : Option TreeKind) → length (asked_acts s c t k body kind) ≤ 1
asked_few s c t k body (Some Update) = omega arith
asked_few s c t k body (Some Read) = omega arith
asked_few s c t k body (Some Strict) = omega arith
asked_few s c t k body None = omega arith

few : (s : ScriptData) (c : Core) (body : Body) → length (lasting_acts s c body) ≤ 1
few s c (Root t) = asked_few s c t (record { 0 = 0 }) (Root t) (tree_kind_at s t.0)
few s c (SubLetter t k v) = asked_few s c t k (SubLetter t k v) (tree_kind_at s t.0)
few s c (Decide t v commit) = omega arith
few s c (Release t) = omega arith
few s c Go = omega arith
few s c _ = omega arith

-- which it is
pub same_act : (a b : Act) → a ∷ [] ≡ b ∷ [] → b ≡ a
same_act a b is = cc is

asked_by : (s : ScriptData) (past : List Entry) (e : Entry) (j : ℕ) (a : Act) (p : ℕ) (r : Letter) (t : TreeNo) (k : SubNo) (kind : Option TreeKind)
    → Doing s past e p r → AsksIn r.body t k → tree_kind_at s t.0 ≡ kind → asked_acts s (keeping_in s past p).core t k r.body kind ≡ a ∷ []
    → lasting (take j e.acts) ≡ [] → Lasts s past e j a
asked_by s past e j a p r t k (Some Update) g asks kind is none = Updates p r t k g asks kind (same_act _ a is) none
asked_by s past e j a p r t k (Some Read) g asks kind is none = Reads p r t k _ g asks kind (same_act _ a is) none
asked_by s past e j a p r t k (Some Strict) g asks kind is none = Votes p r t k g asks kind (same_act _ a is) none
asked_by s past e j a p r t k None g asks kind is none = absurd (cc is)

does_by : (s : ScriptData) (past : List Entry) (e : Entry) (j : ℕ) (a : Act) (p : ℕ) (r : Letter) (body : Body) → Doing s past e p r → r.body ≡ body
    → lasting_acts s (keeping_in s past p).core body ≡ a ∷ [] → lasting (take j e.acts) ≡ [] → Lasts s past e j a
does_by s past e j a p r (Root t) g is acts none =
    let c : Core = (keeping_in s past p).core in
    let k : SubNo = record { 0 = 0 } in
    asked_by s past e j a p r t k (tree_kind_at s t.0) g (OfRoot is refl) refl
    (ap (λ (b : Body). asked_acts s c t k b (tree_kind_at s t.0)) is ∙ acts) none
does_by s past e j a p r (SubLetter t k v) g is acts none =
    let c : Core = (keeping_in s past p).core in
    asked_by s past e j a p r t k (tree_kind_at s t.0) g (OfSub v is) refl
    (ap (λ (b : Body). asked_acts s c t k b (tree_kind_at s t.0)) is ∙ acts) none
does_by s past e j a p r (Decide t v commit) g is acts none = Applies p r t v commit g is (same_act _ a acts) none
does_by s past e j a p r (Release t) g is acts none = Frees p r t g is (same_act _ a acts) none
does_by s past e j a p r Go g is acts none = absurd (cc acts)
does_by s past e j a p r _ g is acts none = absurd (cc acts)

none_here : (xs : List Act) (j : ℕ) (a : Act) → slice_get xs j ≡ Some a → is_lasting a ≡ true → lasting xs ≡ [] → ⊥
none_here xs j a is lasts none =
    let one = one_lasts xs j a is lasts (omega (arith, ap length none)) in absurd (let first = one.0 in cc (first, none))

lasts_case : (s : ScriptData) (past : List Entry) (e : Entry) (j : ℕ) (a : Act) → IsValid s → IsStepRun s (e ∷ past) → slice_get e.acts j ≡ Some a
    → is_lasting a ≡ true → Case s past e → Lasts s past e j a
lasts_case s past e j a valid run is lasts (NodeDoes p r d) =
    let apt = all_apt s (e ∷ past) valid run in
    let c : Core = (keeping_in s past p).core in
    let row : lasting e.acts ≡ lasting_acts s c r.body = ap lasting d.acts ∙ row_lasts s p r.from.0 r.body c in
    let one = one_lasts e.acts j a is lasts (omega (arith, ap length row, few s c r.body)) in
    does_by s past e j a p r r.body (record { valid = valid; apt = apt; run = run; enters = enters s past e valid apt run; does = d }) refl
    (sym row ∙ one.0) one.1
lasts_case s past e j a valid run is lasts (NodeKeeps p r k d) =
    absurd (none_here e.acts j a is lasts (ap lasting d.acts ∙ keeping_lasts s (keeping_in s past p).core r.body k d.keeps))
lasts_case s past e j a valid run is lasts (Coordinates at made) = absurd (none_here e.acts j a is lasts (ap lasting made.acts))
lasts_case s past e j a valid run is lasts (Submits at says) =
    absurd (none_here e.acts j a is lasts
    (none_lasts e.acts
    (ap (λ (xs : List Act). tally (λ (b : Act). one_if (is_lasting b)) xs) says.1
    ∙ client_acts (λ (b : Act). one_if (is_lasting b)) s (client_in s past) e.took.body refl)))

pub lasts : (s : ScriptData) (past : List Entry) (e : Entry) (j : ℕ) (a : Act) → IsValid s → IsStepRun s (e ∷ past) → slice_get e.acts j ≡ Some a
    → is_lasting a ≡ true → Lasts s past e j a
lasts s past e j a valid run is lasts_so =
    lasts_case s past e j a valid run is lasts_so (case s past e run.0 (all_apt s (e ∷ past) valid run).0)
