-- What records make of a script that has gone on from one: all but items and picks, which come before.
use Rattle.std.specs.Prelude.{ℕ, true, false, ◌≡◌, ◌<◌, List, ◌++◌, length, Ok}
use Rattle.tv_base.specs.declared.numbers.NodeNo.{NodeNo}
use Rattle.script_parts.specs.Adding.{adds_advance, adds_fail, adds_lose, adds_op, adds_settle, adds_sub, adds_tree}
use Rattle.script_parts.specs.Counts.{has_strict, is_lossy}
use Rattle.script_parts.specs.ScriptData.{ScriptData}
use Rattle.script_parts.specs.declared.parts.Deed.{Deed}
use Rattle.script_parts.specs.declared.parts.Tree.{Tree}
use Rattle.script_parts.specs.declared.parts.TreeKind.{TreeKind}
use Rattle.growth_laws.specs.Growth.{Extends, IsFront}

-- Script t has gone on from script s, maybe by a first strict transaction or by a first row that makes the coordinator
-- forget. The transaction to which it may still add, if there is one, is none of s.
pub record HasGrown (s t : ScriptData) : Type 0 where
  pub form : t.form ≡ s.form
  pub nodes : t.nodes ≡ s.nodes
  pub items : t.items ≡ s.items
  pub picks : t.picks ≡ s.picks
  pub more : List Tree
  pub trees : t.trees ≡ s.trees ++ more
  pub rows : IsFront s.rows t.rows
  pub begun : t.begun ≡ true → 0 < length more

-- script u is script t with one record more
pub data HasOneMore (t u : ScriptData) : Type 0 where
  OfTree : (name : List ℕ) (kind : TreeKind) (node : NodeNo) → adds_tree t name kind node ≡ Ok u → HasOneMore t u
  OfSub : (parent : ℕ) (node : NodeNo) → adds_sub t parent node ≡ Ok u → HasOneMore t u
  OfOp : (name : List ℕ) (deed : Deed) → adds_op t name deed ≡ Ok u → HasOneMore t u
  OfFail : (k : ℕ) → adds_fail t k ≡ Ok u → HasOneMore t u
  OfAdvance : adds_advance t ≡ Ok u → HasOneMore t u
  OfSettle : adds_settle t ≡ Ok u → HasOneMore t u
  OfLose : adds_lose t ≡ Ok u → HasOneMore t u

-- A script in which no transaction is begun, as behind a settle row, has gone on from itself. With each record it goes
-- on further. If it has strict transactions, and rows that make the coordinator forget, exactly if the script had some,
-- it extends the script.
pub record RecordsGrow : Type 0 where
  pub first : (s : ScriptData) → s.begun ≡ false → HasGrown s s
  pub next : (s t u : ScriptData) → HasGrown s t → HasOneMore t u → HasGrown s u
  pub extends : (s t : ScriptData) → HasGrown s t → has_strict t ≡ has_strict s → is_lossy t ≡ is_lossy s → Extends s t
