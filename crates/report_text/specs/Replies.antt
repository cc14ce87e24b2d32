-- The line of a transaction by its reply; the replies that a history took; and which entries took them.
use Rattle.std.specs.Prelude.{◌≡◌, if◌then◌else◌, ℕ, ◌+◌, ◌==◌, List, [], ◌∷◌, ◌++◌, length, codes, Option, Some, None, is_some, slice_get}
use Rattle.std.specs.Option.{option_and_then, option_or}
use Rattle.tv_base.specs.declared.numbers.ItemNo.{ItemNo}
use Rattle.tv_base.specs.declared.numbers.Version.{Version}
use Rattle.commute_ops.specs.declared.value.Value.{Value}
use Rattle.letter_types.specs.declared.bodies.Answer.{Answer}
use Rattle.letter_types.specs.declared.bodies.Answer.TheVariants.{Aborted, Whole}
use Rattle.letter_types.specs.declared.bodies.Body.{Body}
use Rattle.letter_types.specs.declared.bodies.Body.TheVariants.{Reply}
use Rattle.letter_types.specs.declared.entries.Entry.{Entry}
use Rattle.tx_trees.specs.ScriptData.{ScriptData}
use Rattle.tx_trees.specs.declared.parts.Tree.{Tree}
use Rattle.tx_trees.specs.declared.parts.TreeKind.{TreeKind}
use Rattle.tx_trees.specs.declared.parts.TreeKind.TheVariants.{Read, Strict, Update}
use Rattle.history_text.specs.TreeNames.{got_text}
use Rattle.report_text.specs.Outcomes.{strict_line, why_text}
use Rattle.report_text.specs.Report.{read_line, update_line}
use Rattle.report_text.specs.declared.replies.Replies.{Replies}

-- the values of an answer, and how it says that a strict transaction came out
abbrev pub answer_values : Answer → List (ItemNo × Value)
answer_values (Whole values) = values
answer_values (Aborted cause) = []

abbrev pub outcome_by : ScriptData → Answer → List ℕ
outcome_by s (Whole values) = codes " committed" ++ got_text s values
outcome_by s (Aborted cause) = codes " aborted" ++ why_text s (Some cause)

-- the line of a transaction, by its reply
abbrev pub line_by : ScriptData → Tree → TreeKind → Version → Answer → List ℕ
line_by s tree Update v answer = update_line tree.name v.0 tree.written
line_by s tree Read v answer = read_line tree.name v.0 (got_text s (answer_values answer))
line_by s tree Strict v answer = strict_line tree.name v.0 (outcome_by s answer)

-- the version and the answer of transaction t, if a message of this body is its reply
abbrev pub reply_by : ℕ → Body → Option (Version × Answer)
reply_by t (Reply u v answer) = if u.0 == t then Some (v, answer) else None
reply_by t _ = None

-- the same of the first entry of a history that took one
abbrev pub reply_in : List Entry → ℕ → Option (Version × Answer)
reply_in [] t = None
reply_in (e ∷ h) t = option_or (reply_by t e.took.body) (reply_in h t)

-- and of a message of this body, to be taken next, if no entry took one
abbrev pub reply_or_next : List Entry → Body → ℕ → Option (Version × Answer)
reply_or_next h next t = option_or (reply_in h t) (reply_by t next)

-- the line of a transaction by what its reply says, if there is one
abbrev pub line_if_any : ScriptData → Tree → Option (Version × Answer) → List ℕ
line_if_any s tree None = []
line_if_any s tree (Some r) = line_by s tree tree.kind r.0 r.1

-- the lines of the transactions by their replies, if the list begins with transaction t
abbrev pub reply_lines : ScriptData → List Entry → Body → ℕ → List Tree → List ℕ
reply_lines s h next t [] = []
reply_lines s h next t (x ∷ xs) = line_if_any s x (reply_or_next h next t) ++ reply_lines s h next (t + 1) xs

-- place n, if the message of this body that was taken there is the reply of transaction t
abbrev pub reply_place : ℕ → Body → ℕ → Option ℕ
reply_place n b t = if is_some (reply_by t b) then Some n else None

-- the place of the first entry that took the reply of transaction t, if the history begins with place n
abbrev pub first_place : ℕ → List Entry → ℕ → Option ℕ
first_place n [] t = None
first_place n (e ∷ h) t = option_or (reply_place n e.took.body t) (first_place (n + 1) h t)

-- the place that is listed for transaction t
abbrev pub place_listed : List (Option ℕ) → ℕ → Option ℕ
place_listed places t = option_and_then (λ (p : Option ℕ). p) (slice_get places t)

-- all of the history was looked at, and the first entry that took a transaction's reply is listed for it
pub record AreRepliesOf (r : Replies) (h : List Entry) : Type 0 where
  pub looked : r.looked ≡ length h
  pub listed : (t : ℕ) → place_listed r.places t ≡ first_place 0 h t
