-- An audit goes on by an entry, and where it stops.
use Rattle.std.proofs.Common.{◌≡◌, ◌∙◌, ℕ, ◌+◌, Bool, true, false, List, [], ◌∷◌, ◌++◌, length, refl, sym, ap, subst}
use Rattle.std.specs.Prelude.{Err, Ok}
use Rattle.letter_types.specs.declared.entries.Entry.{Entry}
use Rattle.tx_trees.specs.ScriptData.{ScriptData}
use Rattle.board_rules.specs.Histories.{places_of}
use Rattle.board_rules.specs.Judging.{Breaks, IsAccepted}
use Rattle.board_rules.specs.Right.{has_finished}
use Rattle.board_judge.specs.Judged.{HasJudged, IsRefusal, JudgeData}
use Rattle.board_judge.specs.declared.judge.Refused.{Refused}
use Rattle.board_judge.specs.declared.judge.Refused.TheVariants as refused
use Rattle.history_text.specs.Printable.{Begins}
use Rattle.history_reader.specs.Walks.{ComesBehind, IsUnposted, IsUnpostedAt, IsUnread, IsWalked, WalkData}
use Rattle.history_reader.specs.declared.walk.Fault.{Fault}
use Rattle.history_reader.specs.declared.walk.Fault.TheVariants as faults
use Rattle.history_audit.specs.Audited.{IsAudited}
use Rattle.history_audit.specs.Verdicts.{IsTaken, Verdict, Yes, Unread, Unposted, Broken, Unfinished}
use Rattle.history_audit.specs.declared.rules.AuditRule.TheVariants as rules
use Rattle.history_audit.specs.inside.Auditing.{IsUnderAudit, end_of, judged_refusal, unread_of}

module _ (s : ScriptData) (text : List ℕ) (h : List Entry) (w : WalkData) (j : JudgeData) (a : IsUnderAudit s text h w j) where
  taken_so_far : IsTaken s text h w.rest
  taken_so_far = record {
    read = a.walked.read;
    accepted = subst (λ (z : ScriptData). IsAccepted z h) a.judge a.taken.accepted;
  }

  -- the walk, by its own script
  walked_by : IsWalked w.script text h w
  walked_by = subst (λ (z : ScriptData). IsWalked z text h w) (sym a.walk) a.walked

  begins_by : (e : Entry) (more : List ℕ) → Begins w.script w.rest e more → Begins s w.rest e more
  begins_by e more = subst (λ (z : ScriptData). Begins z w.rest e more) a.walk

  walked_more : (e : Entry) (v : WalkData) → ComesBehind w e v → IsWalked s text (h ++ e ∷ []) v
  walked_more e v goes = subst (λ (z : ScriptData). IsWalked z text (h ++ e ∷ []) v) a.walk (goes.walked text h walked_by)

  number_is : (number : ℕ) → number ≡ w.count + 1 → number ≡ length h + 1
  number_is number is = is ∙ ap (λ (n : ℕ). n + 1) a.walked.count

  -- the next entry is read and taken
  pub goes_on : (v : WalkData) (k : JudgeData) (e : Entry) → ComesBehind w e v → v.script ≡ w.script → k.script ≡ j.script
      → HasJudged k (h ++ e ∷ []) → IsUnderAudit s text (h ++ e ∷ []) v k
  goes_on v k e goes of_walk of_judge more = record {
    walk = of_walk ∙ a.walk;
    judge = of_judge ∙ a.judge;
    walked = walked_more e v goes;
    taken = more;
  }

  -- it can't be read
  pub unread : (fault : Fault) (number : ℕ) → number ≡ w.count + 1 → (fault ≡ faults.Text → IsUnread w.script w.rest) → (fault ≡ faults.Postal → IsUnpostedAt w)
      → IsAudited s text (Err (unread_of fault number))
  unread faults.NoMemory number is none unposted = tt
  unread faults.Text number is none unposted =
      subst (λ (n : ℕ). Verdict s text (Err (n, rules.Text))) (sym (number_is number is))
      (Unread h w.rest taken_so_far (subst (λ (z : ScriptData). IsUnread z w.rest) a.walk (none refl)))
  unread faults.Postal number is none unposted =
      subst (λ (n : ℕ). Verdict s text (Err (n, rules.Postal))) (sym (number_is number is))
      (Unposted h w.rest taken_so_far
      (subst (λ (z : ScriptData). IsUnposted z h w.rest) a.walk (unposted refl text h walked_by)))

  -- it is refused
  pub broken : (v : WalkData) (e : Entry) (refusal : Refused) (number : ℕ) → ComesBehind w e v → number ≡ w.count + 1 → IsRefusal j e refusal
      → IsAudited s text (Err (judged_refusal refusal number))
  broken v e refused.NoMemory number goes is breaks = tt
  broken v e (refused.Wrong wrong) number goes is breaks =
      subst (λ (n : ℕ). Verdict s text (Err (n, rules.Judged wrong.rule))) (sym (number_is number is))
      (Broken h w.rest e v.rest wrong.rule taken_so_far (begins_by e v.rest goes.begins) (walked_more e v goes).read.postal
      (subst (λ (z : ScriptData). Breaks z h e wrong.rule) a.judge (breaks.1 h a.taken)))

  -- none is left
  pub ended : (count : ℕ) (finished : Bool) → w.rest ≡ [] → count ≡ w.count → finished ≡ has_finished (places_of h)
      → IsAudited s text (end_of count finished)
  ended count true none is finished =
      subst (λ (n : ℕ). Verdict s text (Ok n)) (sym (is ∙ a.walked.count))
      (Yes h (subst (IsTaken s text h) none taken_so_far) (sym finished))
  ended count false none is finished =
      subst (λ (n : ℕ). Verdict s text (Err (n, rules.End))) (sym (is ∙ a.walked.count))
      (Unfinished h (subst (IsTaken s text h) none taken_so_far) (λ end. absurd (let so : has_finished (places_of h) ≡ true = end in cc (so, finished))))
