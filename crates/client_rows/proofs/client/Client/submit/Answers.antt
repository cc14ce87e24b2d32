use Rattle.std.proofs.Common.{ℕ, if◌then◌else◌, [], ◌∷◌, ◌≡◌, ◌∙◌, ◌++◌, ◌+◌, ◌-◌, ◌^◌, ◌<◌, take, drop, sym, ap, subst, List, arith}
use Rattle.letter_types.specs.declared.acts.Act.{Act}
use Rattle.letter_types.specs.declared.acts.Act.TheVariants.{Finished}
use Rattle.letter_types.specs.declared.entries.Outgoing.{Outgoing}
use Rattle.letter_types.specs.declared.entries.StepOut.{StepOut}
use Rattle.tx_trees.specs.Adding.{advances_in}
use Rattle.tx_trees.specs.declared.parts.ScriptRow.{ScriptRow}
use Rattle.client_rows.specs.Changes.{IsClientStepOf}
use Rattle.world_model.specs.Client.{Client, advances_sent, rows_letters}
use Rattle.client_rows.specs.Kept.{Kept, IsKeptOf}
use Rattle.client_rows.specs.Held.{kept_here}
use Rattle.client_rows.specs.News.{sent_first}
use Rattle.client_rows.specs.inside.Heard.{submit_at}
use Rattle.client_rows.specs.inside.Places.{place_reached}
use Rattle.client_rows.specs.declared.change.ClientChange.TheVariants.{Submit}
use Rattle.client_rows.proofs.Bounds.{submission-step}
use Rattle.client_rows.proofs.Counts.{few_more_asked}
use Rattle.client_rows.proofs.Submits.{Submission, same_finish}
use Rattle.client_rows.proofs.client.Client.submit.Goals as goal

pub push_rows-requires : goal.push_rows-requires
push_rows-requires c =
    let s = c.args.script.now in
    let held : Kept = kept_here c.self.inside in
    let from = held.client.next in
    let kept : IsKeptOf s held = subst (λ (k : Kept). IsKeptOf s k) (sym c.self.view_is) c.requires.kept in
    let asked : held.asked ≡ advances_in (take from s.rows) = ap (λ (k : Kept). k.asked) kept.numbers in
    let few : held.asked + advances_in (take (c.reaches-at.result.next - from) (drop from s.rows)) < 2 ^ 32 =
    omega (arith, asked, few_more_asked from (c.reaches-at.result.next - from) s.rows, c.nodes-valid.ensures.valid.limited.advances) in
    subst (λ (rows : List ScriptRow). held.asked + advances_in (take (c.reaches-at.result.next - from) (drop from rows)) < 2 ^ 32)
    (sym c.rows-rows.ensures) few

pub returns : goal.returns
returns c =
    let s = c.args.script.now in
    let news = c.args.news in
    let at = c.reaches-at.result in
    let held : Kept = kept_here c.self.inside in
    let old : Client = held.client in
    let kept : IsKeptOf s held = subst (λ (k : Kept). IsKeptOf s k) (sym c.self.view_is) c.requires.kept in
    let asked : held.asked ≡ advances_sent s old = ap (λ (k : Kept). k.asked) kept.numbers in
    let first : c.push_first.new.sent ≡ sent_first s news =
    c.in_ok-push_first.ensures ∙ ap (λ (os : List Outgoing). os ++ sent_first s news) c.requires.none_sent in
    let out : StepOut = record { sent = c.push_rows.new.sent; acts = c.push_end.new.acts } in
    let made_here : Submission s news old at c.finishes-finishes.result out = record {
      place = subst
          (λ (k : Kept). at ≡ place_reached s.rows news k.client)
          (sym c.self.view_is) c.reaches-at.ensures.place;
      finish = c.finishes-finishes.ensures ∙ same_finish at old.finished c.rows-rows.ensures c.ended_after.ensures;
      sent = c.in_ok-push_rows.ensures
          ∙ (λ x. first x ++ rows_letters s held.asked (take (at.next - old.next) (drop old.next c.rows-rows.result.now)))
          ∙ ap (λ (k : ℕ). sent_first s news ++ rows_letters s k (take (at.next - old.next) (drop old.next c.rows-rows.result.now))) asked
          ∙ ap (λ (rows : List ScriptRow).
          sent_first s news ++ rows_letters s (advances_sent s old) (take (at.next - old.next) (drop old.next rows))) c.rows-rows.ensures;
      acts = c.in_ok-push_end.ensures ∙ ap (λ (ds : List Act). ds ++ (if c.finishes-finishes.result then Finished ∷ [] else [])) c.requires.no_acts;
    } in
    subst
    (λ (k : Kept). IsClientStepOf s (submit_at s news k.client) k
    (record { change = Submit news at c.finishes-finishes.result; out = out }))
    c.self.view_is
    (submission-step s held news at c.finishes-finishes.result out kept c.reaches-at.ensures.within made_here)
