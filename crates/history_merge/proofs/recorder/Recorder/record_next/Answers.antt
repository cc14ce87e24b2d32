use Rattle.std.proofs.Common.{◌≡◌, ◌+◌, ℕ, List, [], ◌∷◌, ◌++◌, length, sym, ap, ◌∙◌, subst}
use Rattle.letter_types.specs.declared.entries.Entry.{Entry}
use Rattle.stamp_post.specs.declared.rule.JoinedReceipt.{JoinedReceipt}
use Rattle.stamp_post.specs.Shown.{GathererData, receipt_joined}
use Rattle.history_merge.specs.Recording.{AreRecorded, IsFirstAt, waiting_in}
use Rattle.history_merge.proofs.Recordings.{recorded_more}
use Rattle.history_merge.proofs.recorder.Recorder.record_next.Goals as goal

pub record_first-requires : goal.record_first-requires
record_first-requires g c =
    let number : c.len.result + 1 ≡ length c.self.inside.done + 1 = ap (λ (n : ℕ). n + 1) c.len.ensures.len in
    subst (λ (n : ℕ). IsFirstAt n (waiting_in c.self.inside.waiting) c.in-Some.place) number c.in-Some.ensures.found

pub invariant_of-self-2 : goal.invariant_of-self-2
invariant_of-self-2 g c =
    let s = g.K.ClusterName.script in
    let es : List Entry = c.self.inside.done in
    let told = receipt_joined c.in_ok-witness.witness in
    let (e, (taken, all), vouches) = c.in_ok-witness.ensures.recorded in
    let known : c.note.new.gatherer.known ≡ c.self.inside.gatherer.known ++ told ∷ [] = ap (λ (d : GathererData). d.known) c.note.ensures in
    let more = recorded_more s c.self.inside.gatherer.known told es e c.self.invariant.1 taken.stamp_is vouches in (
      ap (λ (d : GathererData). d.post) c.note.ensures ∙ c.requires,
      subst (λ (rs : List JoinedReceipt). AreRecorded s rs c.record_first.new.done) (sym known)
          (subst (AreRecorded s (c.self.inside.gatherer.known ++ told ∷ [])) (sym all) more),
    )
