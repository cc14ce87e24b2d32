-- A text has one verdict: what the one takes the other can't refuse.
use Rattle.std.proofs.Common.{◌≡◌, ℕ, ◌+◌, ◌≤◌, List, [], ◌∷◌, ◌++◌, length, take, refl, sym, ap, ◌∙◌, subst, arith, append_assoc, Some}
use Rattle.std.specs.Prelude.{Err, Ok, Result, slice_get}
use Rattle.std.proofs.lemmas.List.{take-append-le, take_all}
use Rattle.tv_base.proofs.ByPlace.{slice_get_last, slice_get_left}
use Rattle.letter_types.specs.declared.entries.Entry.{Entry}
use Rattle.tx_trees.specs.ScriptData.{ScriptData}
use Rattle.tx_trees.specs.Valid.{IsValid}
use Rattle.board_rules.specs.declared.rule_names.Rule.{Rule}
use Rattle.board_rules.specs.Judging.{Breaks, IsAccepted, MayCome}
use Rattle.board_rules.specs.Right.{HasFinished}
use Rattle.board_rules.proofs.Judging.{broken_may_not, broken_once}
use Rattle.history_text.specs.Printable.{Begins}
use Rattle.history_reader.proofs.OneEntry.{one_entry}
use Rattle.history_audit.specs.declared.rules.AuditRule.{AuditRule}
use Rattle.history_audit.specs.declared.rules.AuditRule.TheVariants.{Text, Postal, Judged, End}
use Rattle.history_reader.specs.Walks.{IsPostal, IsUnposted, IsUnread}
use Rattle.history_reader.proofs.Fronts.{Fronts, Longer, Same, Shorter, fronts, nothing_begins}
use Rattle.history_reader.proofs.SameEntries.{postal_front, same_entry}
use Rattle.history_audit.specs.Verdicts.{IsTaken, Verdict, Yes, Unread, Unposted, Broken, Unfinished}

-- why a verdict of what was taken stops there
data Why (s : ScriptData) (h : List Entry) (rest : List ℕ) : Result ℕ (ℕ × AuditRule) → Type 0 where
  Whole : rest ≡ [] → HasFinished h → Why s h rest (Ok (length h))
  NoEntry : IsUnread s rest → Why s h rest (Err (length h + 1, Text))
  NoLetter : IsUnposted s h rest → Why s h rest (Err (length h + 1, Postal))
  NoMove : (e : Entry) (more : List ℕ) (rule : Rule) → Begins s rest e more → IsPostal s (h ++ e ∷ []) → Breaks s h e rule
      → Why s h rest (Err (length h + 1, Judged rule))
  Early : rest ≡ [] → (HasFinished h → ⊥) → Why s h rest (Err (length h, End))

record Stop (s : ScriptData) (text : List ℕ) (a : Result ℕ (ℕ × AuditRule)) : Type 0 where
  entries : List Entry
  rest : List ℕ
  taken : IsTaken s text entries rest
  why : Why s entries rest a

stop_of : (s : ScriptData) (text : List ℕ) (a : Result ℕ (ℕ × AuditRule)) → Verdict s text a → Stop s text a
stop_of s text a (Yes h taken finished) = record { entries = h; rest = []; taken = taken; why = Whole refl finished }
stop_of s text a (Unread h rest taken at) = record { entries = h; rest = rest; taken = taken; why = NoEntry at }
stop_of s text a (Unposted h rest taken at) = record { entries = h; rest = rest; taken = taken; why = NoLetter at }
stop_of s text a (Broken h rest e more rule taken begins post breaks) =
    record { entries = h; rest = rest; taken = taken; why = NoMove e more rule begins post breaks }
stop_of s text a (Unfinished h taken not) = record { entries = h; rest = []; taken = taken; why = Early refl not }

module _ (s : ScriptData) (valid : IsValid s) (h : List Entry) (rest : List ℕ) where
  -- what the text begins with there, and went as letters do, is one entry
  one_next : (e f : Entry) (more q : List ℕ) → Begins s rest e more → Begins s rest f q → IsPostal s (h ++ e ∷ [])
      → IsPostal s (h ++ f ∷ []) → e ≡ f
  one_next e f more q begins other post same = same_entry s h e f (one_entry s rest e f more q valid begins other).1 post same

  -- nothing goes on there
  no_next : (a : Result ℕ (ℕ × AuditRule)) → Why s h rest a → (f : Entry) (q : List ℕ) → Begins s rest f q
      → IsPostal s (h ++ f ∷ []) → MayCome s h f → ⊥
  no_next a (Whole none finished) f q begins post may = nothing_begins s rest f q none begins
  no_next a (NoEntry at) f q begins post may = at.none f q begins
  no_next a (NoLetter at) f q begins post may = at.none f q begins post
  no_next a (NoMove e more rule next well breaks) f q begins post may =
      broken_may_not s h f rule (subst (λ (x : Entry). Breaks s h x rule) (one_next e f more q next begins well post) breaks) may
  no_next a (Early none not) f q begins post may = nothing_begins s rest f q none begins

  same_rule : (e f : Entry) (more q : List ℕ) (rule other : Rule) → Begins s rest e more → Begins s rest f q
      → IsPostal s (h ++ e ∷ []) → IsPostal s (h ++ f ∷ []) → Breaks s h e rule → Breaks s h f other → rule ≡ other
  same_rule e f more q rule other begins next post well breaks fails =
      broken_once s h f rule other
      (subst (λ (x : Entry). Breaks s h x rule) (one_next e f more q begins next post well) breaks) fails

  -- and why is one thing
  one_why : (a b : Result ℕ (ℕ × AuditRule)) → Why s h rest a → Why s h rest b → a ≡ b
  one_why a b (Whole is finished) (Whole so ended) = refl
  one_why a b (Whole is finished) (NoEntry at) = absurd (at.more is)
  one_why a b (Whole is finished) (NoLetter at) = absurd (nothing_begins s rest at.entry at.behind is at.begins)
  one_why a b (Whole is finished) (NoMove e more rule begins post breaks) = absurd (nothing_begins s rest e more is begins)
  one_why a b (Whole is finished) (Early so not) = absurd (not finished)
  one_why a b (NoEntry at) (Whole is finished) = absurd (at.more is)
  one_why a b (NoEntry at) (NoEntry too) = refl
  one_why a b (NoEntry at) (NoLetter other) = absurd (at.none other.entry other.behind other.begins)
  one_why a b (NoEntry at) (NoMove e more rule begins post breaks) = absurd (at.none e more begins)
  one_why a b (NoEntry at) (Early is not) = absurd (at.more is)
  one_why a b (NoLetter at) (Whole is finished) = absurd (nothing_begins s rest at.entry at.behind is at.begins)
  one_why a b (NoLetter at) (NoEntry other) = absurd (other.none at.entry at.behind at.begins)
  one_why a b (NoLetter at) (NoLetter too) = refl
  one_why a b (NoLetter at) (NoMove f q rule next post breaks) = absurd (at.none f q next post)
  one_why a b (NoLetter at) (Early is not) = absurd (nothing_begins s rest at.entry at.behind is at.begins)
  one_why a b (NoMove e more rule begins post breaks) (Whole is finished) = absurd (nothing_begins s rest e more is begins)
  one_why a b (NoMove e more rule begins post breaks) (NoEntry at) = absurd (at.none e more begins)
  one_why a b (NoMove e more rule begins post breaks) (NoLetter at) = absurd (at.none e more begins post)
  one_why a b (NoMove e more rule begins post breaks) (NoMove f q other next well fails) =
      ap (λ (r : Rule). Err (length h + 1, Judged r)) (same_rule e f more q rule other begins next post well breaks fails)
  one_why a b (NoMove e more rule begins post breaks) (Early is not) = absurd (nothing_begins s rest e more is begins)
  one_why a b (Early is not) (Whole so finished) = absurd (not finished)
  one_why a b (Early is not) (NoEntry at) = absurd (at.more is)
  one_why a b (Early is not) (NoLetter at) = absurd (nothing_begins s rest at.entry at.behind is at.begins)
  one_why a b (Early is not) (NoMove e more rule begins post breaks) = absurd (nothing_begins s rest e more is begins)
  one_why a b (Early is not) (Early so never) = refl

-- an entry of an accepted history might come there
accepted_at : (s : ScriptData) (h : List Entry) (f : Entry) (more : List Entry) → IsAccepted s (h ++ f ∷ more) → MayCome s h f
accepted_at s h f more all =
    let le : length h ≤ length h = omega arith in
    let front : take (length h) (h ++ f ∷ more) ≡ h = take-append-le (length h) h (f ∷ more) le ∙ take_all (length h) h le in
    let at : slice_get (h ++ f ∷ more) (length h) ≡ Some f =
    subst (λ (xs : List Entry). slice_get xs (length h) ≡ Some f) (append_assoc h (f ∷ []) more)
    (slice_get_left (h ++ f ∷ []) more (length h) f (slice_get_last h f)) in
    subst (λ (xs : List Entry). MayCome s xs f) front (all (length h) f at)

-- so what stops at one history doesn't go on to a longer one
no_longer : (s : ScriptData) → IsValid s → (text : List ℕ) (h : List Entry) (rest : List ℕ) (a : Result ℕ (ℕ × AuditRule))
    (g : List Entry) (left : List ℕ) (f : Entry) (more : List Entry) (q : List ℕ) → Why s h rest a → IsTaken s text g left
    → g ≡ h ++ f ∷ more → Begins s rest f q → ⊥
no_longer s valid text h rest a g left f more q why taken is begins =
    let post : IsPostal s ((h ++ f ∷ []) ++ more) = subst (IsPostal s) (is ∙ sym (append_assoc h (f ∷ []) more)) taken.read.postal in
    no_next s valid h rest a why f q begins (postal_front s (h ++ f ∷ []) more post)
    (accepted_at s h f more (subst (IsAccepted s) is taken.accepted))

one_stop : (s : ScriptData) → IsValid s → (text : List ℕ) (a b : Result ℕ (ℕ × AuditRule)) (x : Stop s text a) (y : Stop s text b)
    → Fronts s x.entries x.rest y.entries y.rest → a ≡ b
one_stop s valid text a b x y (Same is so) =
    one_why s valid y.entries y.rest a b
    (subst (λ (h : List Entry). Why s h y.rest a) is (subst (λ (rest : List ℕ). Why s x.entries rest a) so x.why)) y.why
one_stop s valid text a b x y (Longer f more q is begins) =
    absurd (no_longer s valid text x.entries x.rest a y.entries y.rest f more q x.why y.taken is begins)
one_stop s valid text a b x y (Shorter e more q is begins) =
    absurd (no_longer s valid text y.entries y.rest b x.entries x.rest e more q y.why x.taken is begins)

pub one_verdict : (s : ScriptData) (text : List ℕ) (a b : Result ℕ (ℕ × AuditRule)) → IsValid s → Verdict s text a → Verdict s text b
    → a ≡ b
one_verdict s text a b valid v w =
    let x = stop_of s text a v in
    let y = stop_of s text b w in
    one_stop s valid text a b x y
    (fronts s valid text x.entries x.rest y.entries y.rest x.taken.read y.taken.read)
