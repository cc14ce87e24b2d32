use Rattle.std.proofs.Common.{◌+◌, ◌++◌, ℕ, List, [], drop, ap, sym, ◌∙◌, append_assoc, arith}
use Rattle.std.specs.Prelude.{Option}
use Rattle.std.specs.Option.{option_map_or}
use Rattle.letter_types.specs.declared.acts.Act.{Act}
use Rattle.letter_types.specs.declared.votes.Vote.{Vote}
use Rattle.tx_trees.specs.ScriptData.{ScriptData}
use Rattle.tx_trees.specs.declared.parts.Sub.{Sub}
use Rattle.board_rules.specs.Outcomes.{got_from, got_of, vote_in}
use Rattle.board_model.proofs.Walk.{opened}
use Rattle.history_text.specs.TreeNames.{got_text}
use Rattle.report_text.proofs.OutcomeLines.{got_text-append}
use Rattle.report_text.proofs.outcomes.push_all_got.Goals as goal

pub loop-k-preserved : goal.loop-k-preserved
loop-k-preserved c =
    let s : ScriptData = c.args.script.now in
    let b : List Act = c.args.voters.ballot.now in
    let t : ℕ = c.args.voters.number.0 in
    let k : ℕ = c.loop-k.k in
    let subs : List Sub = c.items-subs.result.now in
    let text : List ℕ = c.loop-k.text in
    let rest : List ℕ = got_text s (got_from b t (k + 1) (drop (k + 1) subs)) in
    ap (λ (z : List ℕ). z ++ rest)
    (c.in_ok-push_vote_got.ensures ∙ ap (λ (o : Option Vote). text ++ got_text s (option_map_or got_of o [])) c.vote-vote.ensures)
    ∙ append_assoc text (got_text s (option_map_or got_of (vote_in t k b) [])) rest
    ∙ ap (λ (z : List ℕ). text ++ z) (sym (got_text-append s (option_map_or got_of (vote_in t k b) []) (got_from b t (k + 1) (drop (k + 1) subs))))
    ∙ sym (opened (λ (z : List Sub). text ++ got_text s (got_from b t k z)) subs k c.index-subs-k.result (omega arith) c.index-subs-k.is)
    ∙ c.loop-k.invariant
