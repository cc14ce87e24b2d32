-- The values of read transactions, each taken when its version is reached. Only the code of the report cites it.
use Rattle.std.specs.Prelude.{◌≡◌, ◌<◌, ◌≤◌, ℕ, ◌+◌, true, ◌==◌, List, [], ◌∷◌, ◌++◌, length, Option, Some, None, slice_get, slice_index_or}
use Rattle.std.specs.List.{list_any}
use Rattle.std.specs.List.Sorted.{IsNonDecreasingBy}
use Rattle.tv_base.specs.declared.numbers.Version.{Version}
use Rattle.commute_ops.specs.declared.value.Value.{Value}
use Rattle.letter_types.specs.declared.entries.Entry.{Entry}
use Rattle.tx_trees.specs.ScriptData.{ScriptData, reads, subs_at}
use Rattle.tx_trees.specs.declared.parts.Sub.{Sub}
use Rattle.tx_trees.specs.declared.parts.Tree.{Tree}
use Rattle.tx_trees.specs.declared.parts.TreeKind.{TreeKind}
use Rattle.tx_trees.specs.declared.parts.TreeKind.TheVariants.{Update, Read, Strict}
use Rattle.board_model.specs.Balances.{worths}
use Rattle.board_model.specs.Carried.{IsCarried}
use Rattle.board_rules.specs.Histories.{version_of}
use Rattle.board_model.specs.declared.serial.Member.{Member}
use Rattle.board_model.specs.declared.standings.Standing.{Standing}
use Rattle.report_text.specs.declared.served.Served.{Served}
use Rattle.report_text.specs.Report.{gets_text}
use Rattle.board_model.specs.declared.serial.Run.{Run}

-- the version of a read transaction
abbrev pub read_version : TreeKind → Option Version → Option Version
read_version Read born = born
read_version Update born = None
read_version Strict born = None

-- transaction t with its version, if there is one
abbrev pub ask_at : Option Version → ℕ → List Member
ask_at None t = []
ask_at (Some v) t = record { version = v; tree = record { 0 = t } } ∷ []

-- the read transactions that are born, with their versions, if the list begins with transaction t
abbrev pub asks_from : ℕ → List Tree → List Standing → List Member
asks_from t [] sts = []
asks_from t (tree ∷ ts) [] = []
asks_from t (tree ∷ ts) (st ∷ sts) = ask_at (read_version tree.kind st.born) t ++ asks_from (t + 1) ts sts

-- each is a transaction with its version, by version; and all read transactions that are born are there
pub record AreAsked (s : ScriptData) (h : List Entry) (asks : List Member) : Type 0 where
  pub ascending : IsNonDecreasingBy (λ (m : Member). m.version.0) asks
  pub right : (i : ℕ) (d : Member) → i < length asks
      → version_of h (slice_index_or asks i d).tree.0 ≡ Some (slice_index_or asks i d).version
  pub there : (i : ℕ) (d : Member) → i < length asks → (slice_index_or asks i d).tree.0 < length s.trees
  pub all : (t : ℕ) (v : Version) → reads s t ≡ true → version_of h t ≡ Some v
      → list_any (λ (m : Member). m.tree.0 == t) asks ≡ true

abbrev pub values_at : ScriptData → List Entry → Option Version → List Sub → List ℕ
values_at s h None ks = []
values_at s h (Some v) ks = gets_text s h v.0 ks

-- what transaction t shows at its version
abbrev pub values_of_tree : ScriptData → List Entry → ℕ → List ℕ
values_of_tree s h t = values_at s h (version_of h t) (subs_at s t)

-- what the first n that were asked for show is listed by transaction number
abbrev pub AreTold : ScriptData → List Entry → List Member → ℕ → List (List ℕ) → Type 0
AreTold s h asks n texts =
    (i : ℕ) (d : Member) → i < n
    → slice_get texts (slice_index_or asks i d).tree.0 ≡ Some (values_of_tree s h (slice_index_or asks i d).tree.0)

-- what all that were asked for in a run show is listed
abbrev pub AreAllTold : Run → List Member → List (List ℕ) → Type 0
AreAllTold run asks texts = AreTold run.script.now run.history.now asks (length asks) texts

-- what all items are worth in a run at version v
abbrev pub worths_in : Run → ℕ → List Value
worths_in run v = worths run.script.now run.history.now v

-- those before the place show their values, and the others are of the version that was reached or of later ones
pub record IsServed (s : ScriptData) (h : List Entry) (serial asks : List Member) (texts : List (List ℕ))
    (r : Served) : Type 0 where
  pub place : r.place ≤ length asks
  pub carried : IsCarried s serial r.carried
  pub ahead : (i : ℕ) (d : Member) → r.place ≤ i → i < length asks
      → r.carried.version.0 ≤ (slice_index_or asks i d).version.0
  pub count : length texts ≡ length s.trees
  pub told : AreTold s h asks r.place texts

-- the same of a run
abbrev pub IsServedIn : Run → List Member → List (List ℕ) → Served → Type 0
IsServedIn run asks texts r = IsServed run.script.now run.history.now run.serial.now asks texts r

-- the version of the transaction that was asked for at this place
abbrev pub IsAskedFor : List Member → ℕ → Version → Type 0
IsAskedFor asks place v = (d : Member) → v ≡ (slice_index_or asks place d).version

-- what each read transaction shows is listed by transaction number
pub record AreRead (s : ScriptData) (h : List Entry) (texts : List (List ℕ)) : Type 0 where
  pub count : length texts ≡ length s.trees
  pub each : (t : ℕ) (v : Version) → reads s t ≡ true → version_of h t ≡ Some v
      → slice_get texts t ≡ Some (gets_text s h v.0 (subs_at s t))
