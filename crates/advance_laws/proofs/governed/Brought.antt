-- The message that is brought to a node, which came there now or is one that the node deferred. It is outstanding, and
-- meant for the node.
use Rattle.std.proofs.Common.{◌≡◌, ℕ, ◌<◌, ◌≤◌, true, List, [], ◌∷◌, subst, arith, Some}
use Rattle.tv_base.specs.declared.numbers.SubNo.{SubNo}
use Rattle.tv_base.specs.declared.numbers.TreeNo.{TreeNo}
use Rattle.tx_trees.proofs.SubsOf.{home_below}
use Rattle.letter_types.specs.declared.bodies.Body.{Body}
use Rattle.letter_types.specs.declared.bodies.Body.TheVariants.{Go, Root, Sub as SubLetter, Done, Decide, Decided}
use Rattle.letter_types.specs.declared.entries.Entry.{Entry}
use Rattle.letter_types.specs.declared.entries.Letter.{Letter}
use Rattle.letter_types.specs.declared.kept.KeptLetter.{KeptLetter}
use Rattle.letter_types.specs.Kept.{brought}
use Rattle.tx_trees.specs.ScriptData.{ScriptData}
use Rattle.tx_trees.specs.Valid.{IsValid}
use Rattle.world_model.specs.Counts.{Each, tally}
use Rattle.world_model.specs.Keeping.{AreKeptAt, AsksFor}
use Rattle.world_model.specs.Kept.{kept_in, outstanding}
use Rattle.world_model.specs.Runs.{IsStepRun, MayFollow}
use Rattle.world_model.proofs.EachOutstanding.{EachKept, each_brought, each_kept, each_took, kept_here}
use Rattle.world_model.proofs.KeptThere.{kept_in_past}
use Rattle.world_model.proofs.Outstanding.{IsOutstanding}
use Rattle.world_model.specs.Meant.{IsLetterMeant, IsMeant}
use Rattle.world_model.proofs.Meant.{letters_are_meant}
use Rattle.world_model.proofs.MeantRows.{strict_below}
use Rattle.advance_laws.specs.Balance.{version_is}

-- an entry of node p brings letter r to it
pub record BringsTo (s : ScriptData) (past : List Entry) (e : Entry) (p : ℕ) (r : Letter) : Type 0 where
  pub at : e.actor.0 ≡ p
  pub below : p < s.nodes
  pub brings : brought (kept_in s past p) e.took e.took.body ≡ Some r

-- what holds of each outstanding letter holds of it
pub each_of_brought : (P : Letter → Type 0) (s : ScriptData) (past : List Entry) (e : Entry) (p : ℕ) (r : Letter) → BringsTo s past e p r
    → MayFollow s past e → Each P (outstanding s past) → P r
each_of_brought P s past e p r b m all =
    each_brought P (kept_in s past p) e.took r e.took.body (each_kept P s past all p b.below) (each_took P s past e m all) b.brings

each_at_most : (f : Letter → ℕ) (n : ℕ) (ls : List Letter) → tally f ls ≤ n → Each (λ (l : Letter). f l ≤ n) ls
each_at_most f n [] le = tt
each_at_most f n (l ∷ ls) le = (omega (arith, le), each_at_most f n ls (omega (arith, le)))

-- so it is outstanding
pub brought_outstanding : (s : ScriptData) (past : List Entry) (e : Entry) (p : ℕ) (r : Letter) → BringsTo s past e p r → MayFollow s past e
    → IsOutstanding s past r
brought_outstanding s past e p r b m f =
    each_of_brought (λ (l : Letter). f l ≤ tally f (outstanding s past)) s past e p r b m
    (each_at_most f (tally f (outstanding s past)) (outstanding s past) (omega arith))

-- it is addressed to its node
pub brought_to : (s : ScriptData) (past : List Entry) (e : Entry) (p : ℕ) (r : Letter) → BringsTo s past e p r → IsStepRun s (e ∷ past)
    → r.to.0 ≡ p
brought_to s past e p r b run =
    each_brought (λ (l : Letter). l.to.0 ≡ p) (kept_in s past p) e.took r e.took.body (kept_here s past p run.1)
    (omega (arith, run.0.addressee, b.at)) b.brings

-- and meant for it
pub brought_meant : (s : ScriptData) (past : List Entry) (e : Entry) (p : ℕ) (r : Letter) → IsValid s → BringsTo s past e p r
    → IsStepRun s (e ∷ past) → IsMeant s r.from.0 p r.body
brought_meant s past e p r valid b run =
    subst (λ (q : ℕ). IsMeant s r.from.0 q r.body) (brought_to s past e p r b run)
    (each_of_brought (IsLetterMeant s) s past e p r b run.0 (letters_are_meant s past valid run.1))

-- a letter that asks for a subtransaction
abbrev pub IsAsking : Body → Type 0
IsAsking (Root t) = Unit {0}
IsAsking (SubLetter t k v) = Unit {0}
IsAsking _ = ⊥

asks_for : (t : TreeNo) (k : SubNo) (body : Body) → AsksFor t k body → IsAsking body
asks_for t k (Root u) asks = tt
asks_for t k (SubLetter u j v) asks = tt
asks_for t k _ asks = absurd asks

-- nothing else is kept
each_asks : (p : ℕ) (xs : List KeptLetter) → AreKeptAt p xs → EachKept (λ (l : Letter). IsAsking l.body) xs
each_asks p [] all = tt
each_asks p (x ∷ xs) all = (asks_for x.tree x.sub x.letter.body all.0.asks, each_asks p xs all.1)

pub kept_ask : (s : ScriptData) (past : List Entry) (p : ℕ) → EachKept (λ (l : Letter). IsAsking l.body) (kept_in s past p)
kept_ask s past p = each_asks p (kept_in s past p) (kept_in_past s past p)

-- a counted letter comes from a node
pub sender_below : (s : ScriptData) (from to v : ℕ) (body : Body) → IsValid s → IsMeant s from to body → version_is v body ≡ true
    → from < s.nodes
sender_below s from to v (SubLetter t k w) valid meant is = meant.sender
sender_below s from to v (Done t k w notice) valid meant is = meant.sender
sender_below s from to v (Decide t w commit) valid meant is =
    omega (arith, meant.home, home_below s t.0 valid (strict_below s t.0 meant.strict))
sender_below s from to v (Decided t w) valid meant is = meant.visited.below
sender_below s from to v Go valid meant is = absurd (cc is)
sender_below s from to v _ valid meant is = absurd (cc is)
