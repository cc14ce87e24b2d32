-- In every run the report's line of a transaction says what its reply says.
use Rattle.std.proofs.Common.{◌≡◌, ℕ, Bool, true, false, List, [], ◌++◌, reverse, refl, sym, ap, subst, ◌∙◌, Option, Some, None}
use Rattle.std.specs.Prelude.{codes}
use Rattle.std.specs.Option.{option_map_or}
use Rattle.std.proofs.lemmas.List.{reverse-reverse}
use Rattle.tv_base.specs.declared.numbers.Version.{Version}
use Rattle.letter_types.specs.declared.acts.Act.{Act}
use Rattle.letter_types.specs.declared.bodies.Answer.{Answer}
use Rattle.letter_types.specs.declared.bodies.Body.{Body}
use Rattle.letter_types.specs.declared.bodies.Body.TheVariants.{Go, Reply}
use Rattle.letter_types.specs.declared.entries.Entry.{Entry}
use Rattle.letter_types.specs.declared.entries.Outgoing.{Outgoing}
use Rattle.letter_types.specs.declared.votes.Cause.{Cause}
use Rattle.tx_trees.specs.ScriptData.{ScriptData, subs_at}
use Rattle.tx_trees.specs.Valid.{IsValid}
use Rattle.tx_trees.specs.declared.parts.Sub.{Sub}
use Rattle.tx_trees.specs.declared.parts.Tree.{Tree}
use Rattle.tx_trees.specs.declared.parts.TreeKind.{TreeKind}
use Rattle.tx_trees.specs.declared.parts.TreeKind.TheVariants.{Read, Strict, Update}
use Rattle.world_model.specs.Counts.{Each}
use Rattle.world_model.specs.Named.{tree_kind_at}
use Rattle.world_model.specs.Runs.{IsStepRun, IsWorldRun}
use Rattle.world_model.proofs.Every.{each_both, each_map}
use Rattle.world_model.proofs.Posts.{steps}
use Rattle.board_rules.specs.Histories.{places_of, version_of}
use Rattle.board_rules.specs.Outcomes.{acts_in, cause_from, decision_in}
use Rattle.report_text.specs.Outcomes.{decided_text, outcome_of, strict_line, why_text}
use Rattle.report_text.specs.Replies.{line_by, outcome_by}
use Rattle.report_text.specs.Report.{gets_text, read_line, tree_line}
use Rattle.run_laws.specs.Replies.{AnswersAsDecided, AnswersByActs, IsRightReply, NamesCause, ReplyShows, ShowsWorths}
use Rattle.run_laws.proofs.replies_told.Replies.{replies_tell}
use Rattle.run_laws.proofs.replies_told.Shown.{replies_show}
use Rattle.audit_laws.specs.ReplyLines.{IsItsLine, LinesSayReplies}

-- what is decided of a tree and what its reply says of that have one text
decided_says : (s : ScriptData) (does : List Act) (t : ℕ) (subs : List Sub) (answer : Answer) (decision : Option Bool) → AnswersAsDecided does t subs decision answer
    → option_map_or (decided_text s does t subs) decision [] ≡ outcome_by s answer
decided_says s does t subs answer None it = absurd it
decided_says s does t subs answer (Some true) it = sym (ap (outcome_by s) it)
decided_says s does t subs answer (Some false) it = by (cause_from does t 0 subs) it where
  by : (found : Option Cause) → NamesCause found answer → codes " aborted" ++ why_text s found ≡ outcome_by s answer
  by None names = absurd names
  by (Some cause) names = sym (ap (outcome_by s) names)

line_of : (s : ScriptData) (h : List Entry) (t : ℕ) (v : Version) (answer : Answer) (tree : Tree) (kind : TreeKind) → subs_at s t ≡ tree.subs → version_of h t ≡ Some v
    → AnswersByActs (acts_in (places_of h)) t (subs_at s t) (Some kind) answer → ShowsWorths s h t (Some kind) v answer
    → tree_line tree kind (Some v) (λ w. gets_text s h w tree.subs) (outcome_of s (acts_in (places_of h)) t tree.subs) ≡ line_by s tree kind v answer
line_of s h t v answer tree Update subs version right shows = refl
line_of s h t v answer tree Read subs version right shows =
    ap (λ (ks : List Sub). read_line tree.name v.0 (gets_text s h v.0 ks)) (sym subs) ∙ sym (ap (λ (a : Answer). line_by s tree Read v a) shows)
line_of s h t v answer tree Strict subs version right shows =
    ap (λ (ks : List Sub). strict_line tree.name v.0 (outcome_of s (acts_in (places_of h)) t ks)) (sym subs)
    ∙ ap (strict_line tree.name v.0) (decided_says s (acts_in (places_of h)) t (subs_at s t) answer (decision_in t (acts_in (places_of h))) right)

its_line : (s : ScriptData) (h : List Entry) (from to : ℕ) (b : Body) → IsRightReply s h from to b → ReplyShows s h b → IsItsLine s h b
its_line s h from to (Reply t v answer) right shows = λ tree at.
    let subs : subs_at s t.0 ≡ tree.subs = rw (at, subs_at) refl in
    let kind : tree_kind_at s t.0 ≡ Some tree.kind = rw (at, tree_kind_at) refl in
    let by_acts = subst (λ (k : Option TreeKind). AnswersByActs (acts_in (places_of h)) t.0 (subs_at s t.0) k answer) kind right.says in
    let by_worths = subst (λ (k : Option TreeKind). ShowsWorths s h t.0 k v answer) kind shows in
    ap (λ (o : Option Version). tree_line tree tree.kind o (λ w. gets_text s h w tree.subs) (outcome_of s (acts_in (places_of h)) t.0 tree.subs)) right.version
    ∙ line_of s h t.0 v answer tree tree.kind subs right.version by_acts by_worths
its_line s h from to Go right shows = tt
its_line s h from to _ right shows = tt

both_lines : (s : ScriptData) (h : List Entry) (e : Entry) → Each (λ (o : Outgoing). IsRightReply s h e.actor.0 o.to.0 o.body) e.sent → Each (λ (o : Outgoing). ReplyShows s h o.body) e.sent
    → Each (λ (o : Outgoing). IsItsLine s h o.body) e.sent
both_lines s h e right shows =
    each_map (λ (o : Outgoing). IsRightReply s h e.actor.0 o.to.0 o.body × ReplyShows s h o.body) (λ (o : Outgoing). IsItsLine s h o.body) e.sent
    (λ o it. its_line s h e.actor.0 o.to.0 o.body it.0 it.1)
    (each_both (λ (o : Outgoing). IsRightReply s h e.actor.0 o.to.0 o.body) (λ (o : Outgoing). ReplyShows s h o.body) e.sent right shows)

pub lines_past : (s : ScriptData) (past : List Entry) → IsValid s → IsStepRun s past → LinesSayReplies s (reverse past)
lines_past s past valid run =
    let h : List Entry = reverse past in
    let right : Entry → Type 0 = λ e. Each (λ (o : Outgoing). IsRightReply s h e.actor.0 o.to.0 o.body) e.sent in
    let shows : Entry → Type 0 = λ e. Each (λ (o : Outgoing). ReplyShows s h o.body) e.sent in
    each_map (λ (e : Entry). right e × shows e) (λ (e : Entry). Each (λ (o : Outgoing). IsItsLine s h o.body) e.sent) h
    (λ e it. both_lines s h e it.0 it.1) (each_both right shows h (replies_tell s past valid run) (replies_show s past valid run))

pub lines_say : (s : ScriptData) (h : List Entry) → IsValid s → IsWorldRun s h → LinesSayReplies s h
lines_say s h valid run = subst (LinesSayReplies s) (reverse-reverse h) (lines_past s (reverse h) valid (steps s h run))
