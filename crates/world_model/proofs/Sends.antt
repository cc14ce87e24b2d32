-- What is sent, by what it asks for, under a number that looks at bodies.
use Rattle.std.proofs.Common.{◌≡◌, ℕ, ◌+◌, ◌==◌, ◌&&◌, Bool, true, false, List, ◌∷◌, refl, arith, []}
use Rattle.std.specs.Prelude.{if◌then◌else◌, nat_lt}
use Rattle.tv_base.specs.declared.numbers.SubNo.{SubNo}
use Rattle.tv_base.specs.declared.numbers.TreeNo.{TreeNo}
use Rattle.tv_base.specs.declared.numbers.Version.{Version}
use Rattle.letter_types.specs.declared.bodies.Body.{Body}
use Rattle.letter_types.specs.declared.bodies.Body.TheVariants.{Root, Sub as SubLetter, Advance as AdvanceLetter, AdvanceNo, Ask, Lose as LoseLetter}
use Rattle.letter_types.specs.declared.entries.Outgoing.{Outgoing}
use Rattle.letter_types.specs.Steps.{Out, still}
use Rattle.script_parts.specs.ScriptData.{ScriptData}
use Rattle.script_parts.specs.declared.parts.ScriptRow.{ScriptRow}
use Rattle.script_parts.specs.declared.parts.ScriptRow.TheVariants.{Tree as TreeRow, Advance, Settle, Lose}
use Rattle.script_parts.specs.declared.parts.Sub.{Sub}
use Rattle.script_parts.specs.Counts.{is_lossy}
use Rattle.world_model.specs.Children.{sub_letters}
use Rattle.world_model.specs.Client.{Client, advance_letter, client_row, rows_letters, wanted}
use Rattle.world_model.specs.Counts.{Each, tally}
use Rattle.world_model.proofs.Orders.{of}

-- what was sent, by a number of its body
abbrev pub on : (Body → ℕ) → Outgoing → ℕ
on f o = f o.body

-- Letters that no number counts.
rest_at : (f : Body → ℕ) (u v parent i : ℕ) (x : Sub) (xs : List Sub) → ((t : TreeNo) (k : SubNo) (w : Version) → f (SubLetter t k w) ≡ 0)
    → (test : Bool) → (nat_lt parent i && (x.parent.0 == parent)) ≡ test
    → tally (on f) (sub_letters u v parent (i + 1) xs) ≡ 0 → tally (on f) (sub_letters u v parent i (x ∷ xs)) ≡ 0
rest_at f u v parent i x xs none true is rest = rw is (omega (arith, none (record { 0 = u }) (record { 0 = i }) (record { 0 = v }), rest))
rest_at f u v parent i x xs none false is rest = rw is rest

-- a number that counts no Sub
pub subs_none : (f : Body → ℕ) (u v parent i : ℕ) (xs : List Sub) → ((t : TreeNo) (k : SubNo) (w : Version) → f (SubLetter t k w) ≡ 0)
    → tally (on f) (sub_letters u v parent i xs) ≡ 0
subs_none f u v parent i [] none = refl
subs_none f u v parent i (x ∷ xs) none =
    rest_at f u v parent i x xs none (nat_lt parent i && (x.parent.0 == parent)) refl (subs_none f u v parent (i + 1) xs none)

-- a fact of the letter that asks for an advancement, and one of the client that is asked how many it wanted
pub advance_each : (P : Body → Type 0) (s : ScriptData) (k : ℕ) → (is_lossy s ≡ false → P AdvanceLetter) → (is_lossy s ≡ true → P (AdvanceNo (k + 1)))
    → P (advance_letter s k)
advance_each P s k plain numbered = by (is_lossy s) refl where
  by : (loses : Bool) → is_lossy s ≡ loses → P (if loses then AdvanceNo (k + 1) else AdvanceLetter)
  by true is = numbered is
  by false is = plain is

pub asked_each : (P : Out Client → Type 0) (s : ScriptData) (c : Client) (e : ℕ) → P (still c) → (is_lossy s ≡ true → P (wanted s e c))
    → P (client_row s c (Ask e))
asked_each P s c e left tells = by (is_lossy s) refl where
  by : (loses : Bool) → is_lossy s ≡ loses → P (if loses then wanted s e c else still c)
  by true is = tells is
  by false is = left

-- a fact of all letters of the script's rows
pub record OfRows (P : ℕ → Body → Type 0) : Type 0 where
  pub root : (to : ℕ) (t : TreeNo) → P to (Root t)
  pub advance : (to : ℕ) → P to AdvanceLetter
  pub numbered : (to i : ℕ) → P to (AdvanceNo i)
  pub lose : (to : ℕ) → P to LoseLetter

pub rows_each : (P : ℕ → Body → Type 0) (s : ScriptData) (k : ℕ) (rows : List ScriptRow) → OfRows P → Each (of P) (rows_letters s k rows)
rows_each P s k [] h = tt
rows_each P s k (TreeRow t ∷ rows) h = (h.root _ t, rows_each P s k rows h)
rows_each P s k (Advance ∷ rows) h =
    (advance_each (P s.nodes) s k (λ is. h.advance s.nodes) (λ is. h.numbered s.nodes (k + 1)), rows_each P s (k + 1) rows h)
rows_each P s k (Settle ∷ rows) h = rows_each P s k rows h
rows_each P s k (Lose ∷ rows) h = (h.lose s.nodes, rows_each P s k rows h)

-- a number that counts no letter of the script's rows
pub record CountsNoRow (f : Body → ℕ) : Type 0 where
  pub root : (t : TreeNo) → f (Root t) ≡ 0
  pub advance : f AdvanceLetter ≡ 0
  pub numbered : (i : ℕ) → f (AdvanceNo i) ≡ 0
  pub lose : f LoseLetter ≡ 0

advance_none : (f : Body → ℕ) (s : ScriptData) (k : ℕ) → CountsNoRow f → f (advance_letter s k) ≡ 0
advance_none f s k none = advance_each (λ body. f body ≡ 0) s k (λ is. none.advance) (λ is. none.numbered (k + 1))

pub roots_none : (f : Body → ℕ) (s : ScriptData) (k : ℕ) (rows : List ScriptRow) → CountsNoRow f → tally (on f) (rows_letters s k rows) ≡ 0
roots_none f s k [] none = refl
roots_none f s k (TreeRow t ∷ rows) none = omega (arith, none.root t, roots_none f s k rows none)
roots_none f s k (Advance ∷ rows) none = omega (arith, advance_none f s k none, roots_none f s (k + 1) rows none)
roots_none f s k (Settle ∷ rows) none = roots_none f s k rows none
roots_none f s k (Lose ∷ rows) none = omega (arith, none.lose, roots_none f s k rows none)
