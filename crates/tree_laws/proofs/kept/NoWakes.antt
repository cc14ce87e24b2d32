-- No row of a core, of the coordinator or of the client sends a Wake.
use Rattle.std.proofs.Common.{◌≡◌, ℕ, Bool, true, false, List, [], ◌∷◌, length, take, drop, refl, arith}
use Rattle.std.specs.Prelude.{if◌then◌else◌, nat_lt}
use Rattle.tv_base.specs.declared.numbers.SubNo.{SubNo}
use Rattle.tv_base.specs.declared.numbers.TreeNo.{TreeNo}
use Rattle.letter_types.specs.declared.bodies.Body.{Body}
use Rattle.letter_types.specs.declared.bodies.Body.TheVariants.{Go, Root, Sub as SubLetter, Done, Reply, Decide, Decided, Turn, Show, Sweep, AskDone, AskAsked, Advanced, Ask, Order}
use Rattle.letter_types.specs.declared.entries.Outgoing.{Outgoing}
use Rattle.letter_types.specs.Steps.{Out, still}
use Rattle.script_parts.specs.ScriptData.{ScriptData, subs_at}
use Rattle.world_model.specs.Calls.{is_wake_of}
use Rattle.world_model.specs.Children.{sub_letters}
use Rattle.world_model.specs.Client.{Client, advances_sent, client_row, nudge, rows_letters, submit, submitted, wanted, with_answer, with_end}
use Rattle.script_parts.specs.Counts.{is_lossy}
use Rattle.world_model.specs.Core.{Core}
use Rattle.world_model.specs.Counts.{tally}
use Rattle.world_model.specs.Strict.{core_row}
use Rattle.world_model.proofs.Bags.{tally-append}
use Rattle.world_model.proofs.Every.{each_none, each_zero}
use Rattle.letter_types.specs.declared.entries.Entry.{Entry}
use Rattle.world_model.proofs.Coordination.{IsCoordinated, OfCoordinator, coordinated_each}
use Rattle.world_model.proofs.Sends.{on, roots_none, subs_none}
use Rattle.world_model.proofs.RowSends.{OfChildren, OfRow, OfTree, core_each}

-- no Wake of subtransaction k of tree t
abbrev IsNoWake : TreeNo → SubNo → ℕ → Body → Type 0
IsNoWake t k to body = is_wake_of t k body ≡ 0

abbrev pub HaveNoWake : TreeNo → SubNo → List Outgoing → Type 0
HaveNoWake t k os = tally (on (is_wake_of t k)) os ≡ 0

children_none : (t : TreeNo) (k : SubNo) (s : ScriptData) (u : TreeNo) → OfChildren (IsNoWake t k) s u
children_none t k s u v parent =
    each_zero (on (is_wake_of t k)) (sub_letters u.0 v parent 0 (subs_at s u.0))
    (subs_none (is_wake_of t k) u.0 v parent 0 (subs_at s u.0) (λ w j x. refl))

tree_none : (t : TreeNo) (k : SubNo) (s : ScriptData) (u : TreeNo) → OfTree (IsNoWake t k) s u
tree_none t k s u = record {
  children = children_none t k s u;
  reply = λ v answer. refl;
  release = λ q some up at. refl;
  decide = λ q v commit strict at. refl;
}

row_none : (t : TreeNo) (k : SubNo) (s : ScriptData) (c : Core) (body : Body) → OfRow (IsNoWake t k) s c body
row_none t k s c (Root u) = tree_none t k s u
row_none t k s c (SubLetter u j v) = (children_none t k s u, λ w notice fits. refl)
row_none t k s c (Done u j v notice) = tree_none t k s u
row_none t k s c (Decide u v commit) = refl
row_none t k s c (Decided u v) = λ a answer is. refl
row_none t k s c (Turn v) = refl
row_none t k s c (Show v) = refl
row_none t k s c (Sweep v) = refl
row_none t k s c (Order e what v) = refl
row_none t k s c (Ask e) = λ u r l. refl
row_none t k s c (AskDone v j) = λ row is. refl
row_none t k s c (AskAsked v j) = λ row is. refl
row_none t k s c _ = tt

pub core_none : (t : TreeNo) (k : SubNo) (s : ScriptData) (p from : ℕ) (c : Core) (body : Body)
    → HaveNoWake t k (core_row s p c from body).sent
core_none t k s p from c body =
    each_none (on (is_wake_of t k)) (core_row s p c from body).sent (core_each (IsNoWake t k) s p from body c (row_none t k s c body))

-- the coordinator
orders_none : (t : TreeNo) (k : SubNo) → OfCoordinator (λ body. is_wake_of t k body ≡ 0)
orders_none t k = record {
  turn = λ v. refl;
  show = λ v. refl;
  sweep = λ v. refl;
  order = λ e what v. refl;
  ask = λ e. refl;
  ask_done = λ v j. refl;
  ask_asked = λ v j. refl;
  advanced = λ v. refl;
}

pub coordinator_none : (t : TreeNo) (k : SubNo) (s : ScriptData) (e : Entry) → IsCoordinated s e → HaveNoWake t k e.sent
coordinator_none t k s e made =
    each_none (on (is_wake_of t k)) e.sent (coordinated_each (λ body. is_wake_of t k body ≡ 0) s e (orders_none t k) made)

-- the client
submit_none : (t : TreeNo) (k : SubNo) (s : ScriptData) (c : Client) (first : List Outgoing) → HaveNoWake t k first
    → HaveNoWake t k (submit s c first).sent
submit_none t k s c first none =
    let rows = take (submitted c (take c.next s.rows) (drop c.next s.rows)) (drop c.next s.rows) in
    omega (
      arith,
      tally-append (on (is_wake_of t k)) first (rows_letters s (advances_sent s c) rows),
      roots_none (is_wake_of t k) s (advances_sent s c) rows (record { root = λ u. refl; advance = refl; numbered = λ i. refl; lose = refl }),
      none,
    )

pick_none : (t : TreeNo) (k : SubNo) (b : Bool) (x y : Out Client) → HaveNoWake t k x.sent → HaveNoWake t k y.sent
    → HaveNoWake t k (if b then x else y).sent
pick_none t k true x y l r = l
pick_none t k false x y l r = r

pub client_none : (t : TreeNo) (k : SubNo) (s : ScriptData) (c : Client) (body : Body) → HaveNoWake t k (client_row s c body).sent
client_none t k s c Go = submit_none t k s c [] refl
client_none t k s c (Reply u v answer) =
    pick_none t k (nat_lt u.0 (length s.trees)) (submit s (with_answer u.0 c) (nudge s ∷ [])) (still c)
    (submit_none t k s (with_answer u.0 c) (nudge s ∷ []) refl) refl
client_none t k s c (Advanced v) = submit_none t k s (with_end s v c) [] refl
client_none t k s c (Ask e) = pick_none t k (is_lossy s) (wanted s e c) (still c) refl refl
client_none t k s c _ = refl
