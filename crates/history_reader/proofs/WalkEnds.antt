-- A walk that goes on, comes to the text's end, or fails.
use Rattle.std.proofs.Common.{◌≡◌, ◌∙◌, ℕ, ◌+◌, List, [], ◌∷◌, ◌++◌, length, refl, sym, ap, subst}
use Rattle.std.specs.Prelude.{Err, Ok, Some, map, slice_get}
use Rattle.std.proofs.lemmas.List.{length-map}
use Rattle.tv_base.proofs.ByPlace.{slice_get_last}
use Rattle.letter_types.specs.declared.entries.Entry.{Entry}
use Rattle.letter_types.specs.Postal.{IsMessageRun, delivery_of}
use Rattle.tx_trees.specs.ScriptData.{ScriptData, client_of}
use Rattle.history_reader.specs.declared.reading.HistoryRefusal.TheVariants as refusals
use Rattle.history_reader.specs.declared.walk.Fault.{Fault}
use Rattle.history_reader.specs.declared.walk.Fault.TheVariants as faults
use Rattle.history_reader.specs.Walks.{IsRead, IsReadOutcome, IsUnposted, IsUnpostedAt, IsUnread, IsWalked, Reading, Unposted, Unread, WalkData, ComesBehind, Whole}
use Rattle.history_reader.specs.inside.Refusals.{refusal_for}
use Rattle.history_reader.proofs.OneMore.{append_postal}

module _ (s : ScriptData) (text : List ℕ) (h : List Entry) (w : WalkData) (walked : IsWalked s text h w) where
  pub walks_on : (e : Entry) (new : WalkData) → w.script ≡ s → ComesBehind w e new → IsWalked s text (h ++ e ∷ []) new
  walks_on e new is goes =
      subst (λ (t : ScriptData). IsWalked t text (h ++ e ∷ []) new) is
      (goes.walked text h (subst (λ (t : ScriptData). IsWalked t text h w) (sym is) walked))

  -- the entry's stamp is the next one
  pub next_stamp : (e : Entry) (new : WalkData) → w.script ≡ s → ComesBehind w e new → e.stamp.0 ≡ length h + 1
  next_stamp e new is goes =
      let post : IsMessageRun (client_of s) (map delivery_of h ++ delivery_of e ∷ []) = append_postal s h e (walks_on e new is goes).read.postal in
      let last : slice_get (map delivery_of h ++ delivery_of e ∷ []) (length (map delivery_of h)) ≡ Some (delivery_of e) =
      slice_get_last (map delivery_of h) (delivery_of e) in
      post.stamps (length (map delivery_of h)) (delivery_of e) last ∙ ap (λ (n : ℕ). n + 1) (length-map h delivery_of)

  pub read_whole : w.rest ≡ [] → Reading s text (Ok h)
  read_whole end = Whole h (subst (IsRead s text h) end walked.read)

  unread_there : w.script ≡ s → IsUnread w.script w.rest → Reading s text (Err (refusals.Text (length h + 1)))
  unread_there is at = Unread h w.rest walked.read (subst (λ (t : ScriptData). IsUnread t w.rest) is at)

  unposted_there : w.script ≡ s → IsUnpostedAt w → Reading s text (Err (refusals.Postal (length h + 1)))
  unposted_there is at =
      Unposted h w.rest walked.read (subst (λ (t : ScriptData). IsWalked t text h w → IsUnposted t h w.rest) is (at text h) walked)

  -- what it failed in, with the number of the entry
  pub fails : (fault : Fault) (number : ℕ) → w.script ≡ s → number ≡ w.count + 1 → (fault ≡ faults.Text → IsUnread w.script w.rest)
      → (fault ≡ faults.Postal → IsUnpostedAt w) → IsReadOutcome s text (Err (refusal_for fault number))
  fails faults.Text number is count unread unposted =
      subst (λ (n : ℕ). Reading s text (Err (refusals.Text n))) (sym (count ∙ ap (λ (n : ℕ). n + 1) walked.count))
      (unread_there is (unread refl))
  fails faults.Postal number is count unread unposted =
      subst (λ (n : ℕ). Reading s text (Err (refusals.Postal n))) (sym (count ∙ ap (λ (n : ℕ). n + 1) walked.count))
      (unposted_there is (unposted refl))
  fails faults.NoMemory number is count unread unposted = tt
