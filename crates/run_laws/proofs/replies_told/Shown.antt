-- In every run the reply of a read transaction says what its items are worth.
use Rattle.std.proofs.Common.{◌≡◌, ℕ, suc, ◌+◌, ◌==◌, ◌&&◌, Bool, true, false, List, [], ◌∷◌, ◌++◌, take, reverse, refl, sym, ap, subst, ◌∙◌, arith, Option, Some, None}
use Rattle.std.specs.Prelude.{if◌then◌else◌, slice_get}
use Rattle.std.specs.Option.{option_or}
use Rattle.std.proofs.lemmas.Bool.Decides.{nat_tests}
use Rattle.tv_base.specs.declared.numbers.Version.{Version}
use Rattle.commute_ops.specs.declared.value.Value.{Value}
use Rattle.letter_types.specs.declared.acts.Act.{Act}
use Rattle.letter_types.specs.declared.acts.Act.TheVariants as acts
use Rattle.letter_types.specs.declared.bodies.Answer.{Answer}
use Rattle.letter_types.specs.declared.bodies.Answer.TheVariants.{Whole}
use Rattle.letter_types.specs.declared.bodies.Body.{Body}
use Rattle.letter_types.specs.declared.bodies.Body.TheVariants.{Go, Reply}
use Rattle.letter_types.specs.declared.bodies.Notice.{Notice}
use Rattle.letter_types.specs.declared.bodies.Notice.TheVariants.{Did as DidNotice, Yes, No}
use Rattle.letter_types.specs.declared.entries.Entry.{Entry}
use Rattle.letter_types.specs.declared.entries.Outgoing.{Outgoing}
use Rattle.tree_home.specs.Homes.{Gets}
use Rattle.tx_trees.specs.Counts.{ops_in}
use Rattle.tx_trees.specs.ScriptData.{ScriptData, ops_of, reads, subs_at}
use Rattle.tx_trees.specs.Valid.{IsValid}
use Rattle.tx_trees.specs.declared.parts.Sub.{Sub}
use Rattle.tx_trees.specs.declared.parts.SubOp.{SubOp}
use Rattle.tx_trees.specs.declared.parts.Tree.{Tree}
use Rattle.tx_trees.specs.declared.parts.TreeKind.{TreeKind}
use Rattle.tx_trees.specs.declared.parts.TreeKind.TheVariants.{Read, Strict, Update}
use Rattle.world_model.specs.declared.refusal.NegativeVote.{NegativeVote}
use Rattle.world_model.specs.Counts.{Each}
use Rattle.world_model.specs.Named.{is_strict_at, tree_kind_at}
use Rattle.world_model.specs.Notices.{values_of}
use Rattle.world_model.specs.Runs.{IsStepRun}
use Rattle.world_model.specs.Strict.{answer_by}
use Rattle.world_model.proofs.Every.{each_append, each_map}
use Rattle.board_rules.specs.Outcomes.{acts_in, did_by, did_in}
use Rattle.board_rules.specs.Histories.{Place, places_at, places_of, version_of}
use Rattle.board_rules.specs.Moves.{AtEachAct, OneByOne}
use Rattle.board_rules.specs.Right.{IsShown, shown, with_worths}
use Rattle.board_rules.specs.Worth.{worth}
use Rattle.board_rules.proofs.TreeSubs.{found_ops}
use Rattle.run_laws.specs.Stays.{Shows}
use Rattle.run_laws.proofs.each_tree.EveryApt.{all_apt}
use Rattle.run_laws.proofs.worth.ShownStays.{shown_stays}
use Rattle.run_laws.specs.Replies.{RepliesShow, ReplyShows, ShowsWorths}
use Rattle.run_laws.proofs.replies_told.Replies.{each_reversed, said_did}
use Rattle.run_laws.proofs.replies_told.Runs.{SentTold, all_sent, versions_before}
use Rattle.run_laws.proofs.replies_told.Said.{acts_before, said_in}
use Rattle.run_laws.proofs.replies_told.Told.{Answers, BodyTold, FitsKind, Gathered, OutTold}

-- What holds at each act whatever came before holds of each act.
one_each : (Q : Place → Type 0) (xs ys : List Place) → OneByOne (λ (zs : List Place) (y : Place). Q y) xs ys → Each Q ys
one_each Q xs [] all = tt
one_each Q xs (y ∷ ys) all = (all.0, one_each Q (xs ++ y ∷ []) ys all.1)

entries_each : (Q : Place → Type 0) (h : List Entry) → ((n : ℕ) (e : Entry) → slice_get h n ≡ Some e → Each Q (places_at e)) → Each Q (places_of h)
entries_each Q [] all = tt
entries_each Q (e ∷ h) all = each_append Q (places_at e) (places_of h) (all 0 e refl) (entries_each Q h (λ n x at. all (suc n) x at))

each_act : (Q : Place → Type 0) (h : List Entry) → AtEachAct (λ (before : List Entry) (xs : List Place) (x : Place). Q x) h → Each Q (places_of h)
each_act Q h all = entries_each Q h (λ n e at. one_each Q (places_of (take n h)) (places_at e) (all n e at))

-- So the values of a read tree's Did are worths.
did_worths : (s : ScriptData) (h : List Entry) (t k u j : ℕ) (values given : Gets) (later : Option Gets) (test : Bool) → ((u == t) && (j == k)) ≡ test
    → (reads s u ≡ true → IsShown (worth s h) (ops_of s u j) values (version_of h u)) → reads s t ≡ true
    → option_or (if (u == t) && (j == k) then Some values else None) later ≡ Some given
    → (later ≡ Some given → IsShown (worth s h) (ops_of s t k) given (version_of h t)) → IsShown (worth s h) (ops_of s t k) given (version_of h t)
did_worths s h t k u j values given later true is shows read at rest =
    let tree : u ≡ t = grind (arith, nat_tests) in
    let sub : j ≡ k = grind (arith, nat_tests) in
    let found : Some values ≡ Some given = rw is at at in
    let one : values ≡ given = cc found in
    subst (λ (x : Gets). IsShown (worth s h) (ops_of s t k) x (version_of h t)) one
    (subst (λ (i : ℕ). IsShown (worth s h) (ops_of s t i) values (version_of h t)) sub
    (subst (λ (i : ℕ). reads s i ≡ true → IsShown (worth s h) (ops_of s i j) values (version_of h i)) tree shows read))
did_worths s h t k u j values given later false is shows read at rest = rest (rw is at at)

worths_by : (s : ScriptData) (h : List Entry) (t k : ℕ) (given : Gets) (x : Place) (xs : List Place) (a : Act) → Shows (worth s h) s h a → reads s t ≡ true
    → option_or (did_by t k a) (did_in t k (acts_in xs)) ≡ Some given
    → (did_in t k (acts_in xs) ≡ Some given → IsShown (worth s h) (ops_of s t k) given (version_of h t)) → IsShown (worth s h) (ops_of s t k) given (version_of h t)
worths_by s h t k given x xs (acts.Did u j values) shows read at rest =
    did_worths s h t k u.0 j.0 values given (did_in t k (acts_in xs)) ((u.0 == t) && (j.0 == k)) refl shows read at rest
worths_by s h t k given x xs acts.Finished shows read at rest = rest at
worths_by s h t k given x xs _ shows read at rest = rest at

worths_in : (s : ScriptData) (h : List Entry) (t k : ℕ) (given : Gets) (xs : List Place) → Each (λ (x : Place). Shows (worth s h) s h x.act) xs → reads s t ≡ true
    → did_in t k (acts_in xs) ≡ Some given → IsShown (worth s h) (ops_of s t k) given (version_of h t)
worths_in s h t k given [] all read at = absurd (cc at)
worths_in s h t k given (x ∷ xs) all read at =
    worths_by s h t k given x xs x.act all.0 read at (λ later. worths_in s h t k given xs all.1 read later)

-- All values of a read tree.
worths_append : (f : ℕ → Value) (a b : List SubOp) → with_worths f (a ++ b) ≡ with_worths f a ++ with_worths f b
worths_append f [] b = refl
worths_append f (o ∷ a) b = let rest = worths_append f a b in cc rest

read_given : (kind : Option TreeKind) (does : List Act) (t k : ℕ) (n : Notice) (first : Gets) → kind ≡ Some Read → FitsKind kind n → said_in t k does ≡ Some n
    → values_of n ≡ first → did_in t k does ≡ Some first
read_given kind does t k (DidNotice values) first is fits said gives = said_did t k does values said ∙ ap Some gives
read_given kind does t k (Yes values) first is fits said gives = absurd (subst (λ (x : Option TreeKind). FitsKind x (Yes values)) is fits)
read_given kind does t k (No cause) first is fits said gives = absurd (subst (λ (x : Option TreeKind). FitsKind x (No cause)) is fits)

at_version : (s : ScriptData) (h : List Entry) (os : List SubOp) (values : Gets) (found : Option Version) (v : Version) → found ≡ Some v
    → IsShown (worth s h) os values found → values ≡ shown s h v.0 os
at_version s h os values found v is it = subst (λ (o : Option Version). IsShown (worth s h) os values o) is it

gathered_worths : (s : ScriptData) (h : List Entry) (t : ℕ) (o : Option NegativeVote) (k : ℕ) (subs : List Sub) (values : Gets) (v : Version) → tree_kind_at s t ≡ Some Read
    → reads s t ≡ true → version_of h t ≡ Some v → Each (λ (x : Place). Shows (worth s h) s h x.act) (places_of h)
    → ((i : ℕ) (sub : Sub) → slice_get subs i ≡ Some sub → ops_of s t (k + i) ≡ sub.ops)
    → Gathered s (acts_in (places_of h)) t o k subs values → values ≡ shown s h v.0 (ops_in subs)
gathered_worths s h t o k [] values v kind read version all ops it = it
gathered_worths s h t o k (sub ∷ subs) values v kind read version all ops it =
    let f : ℕ → Value = λ x. worth s h x v.0 in
    let slot = it.1.1.1.0 in
    let given = read_given (tree_kind_at s t) (acts_in (places_of h)) t k slot.notice it.0 kind slot.fits slot.said slot.gives in
    let here : k + 0 ≡ k = omega arith in
    let own : ops_of s t k ≡ sub.ops = ap (ops_of s t) (sym here) ∙ ops 0 sub refl in
    let first : it.0 ≡ with_worths f (ops_of s t k) =
    at_version s h (ops_of s t k) it.0 (version_of h t) v version (worths_in s h t k it.0 (places_of h) all read given) in
    let rest : it.1.0 ≡ with_worths f (ops_in subs) =
    gathered_worths s h t o (k + 1) subs it.1.0 v kind read version all
    (λ i x at. let next : (k + 1) + i ≡ k + suc i = omega arith in ap (ops_of s t) next ∙ ops (suc i) x at) it.1.1.1.1 in
    it.1.1.0 ∙ ap (λ (x : Gets). x ++ it.1.0) (first ∙ ap (with_worths f) own) ∙ ap (λ (x : Gets). with_worths f sub.ops ++ x) rest
    ∙ sym (worths_append f sub.ops (ops_in subs))

-- a read tree reads
reads_by : (s : ScriptData) (t : ℕ) (o : Option Tree) → slice_get s.trees t ≡ o → tree_kind_at s t ≡ Some Read → reads s t ≡ true
reads_by s t None at is = absurd (let none : None ≡ Some Read = sym (rw (at, tree_kind_at) refl) ∙ is in cc none)
reads_by s t (Some tree) at is =
    let there : tree_kind_at s t ≡ Some tree.kind = rw (at, tree_kind_at) refl in
    let kind : tree.kind ≡ Read = cc (there, is) in
    rw (at, reads, kind) refl

-- Each reply of a read tree.
shows_by : (s : ScriptData) (past : List Entry) (t : ℕ) (v : Version) (answer : Answer) (kind : Option TreeKind) → tree_kind_at s t ≡ kind
    → Each (λ (x : Place). Shows (worth s (reverse past)) s (reverse past) x.act) (places_of (reverse past))
    → Answers s (acts_before past) (versions_before past) t v answer → ShowsWorths s (reverse past) t kind v answer
shows_by s past t v answer (Some Read) is all it =
    let plain : is_strict_at s t ≡ false = rw (is, is_strict_at) refl in
    it.says ∙ ap (λ (o : Option NegativeVote). answer_by o it.whole) (it.plain plain)
    ∙ ap Whole (gathered_worths s (reverse past) t it.least 0 (subs_at s t) it.whole.values v is (reads_by s t (slice_get s.trees t) refl is) it.version all
    (λ i sub at. let same : 0 + i ≡ i = omega arith in ap (ops_of s t) same ∙ found_ops s t i sub at) it.gathered)
shows_by s past t v answer (Some Update) is all it = tt
shows_by s past t v answer (Some Strict) is all it = tt
shows_by s past t v answer None is all it = tt

reply_shows : (s : ScriptData) (past : List Entry) (to : ℕ) (b : Body) → Each (λ (x : Place). Shows (worth s (reverse past)) s (reverse past) x.act) (places_of (reverse past))
    → BodyTold s (acts_before past) (versions_before past) to b → ReplyShows s (reverse past) b
reply_shows s past to (Reply t v answer) all it = shows_by s past t.0 v answer (tree_kind_at s t.0) refl all it.1
reply_shows s past to Go all it = tt
reply_shows s past to _ all it = tt

pub replies_show : (s : ScriptData) (past : List Entry) → IsValid s → IsStepRun s past → RepliesShow s (reverse past)
replies_show s past valid run =
    let h : List Entry = reverse past in
    let all : Each (λ (x : Place). Shows (worth s h) s h x.act) (places_of h) = each_act (λ (x : Place). Shows (worth s h) s h x.act) h (shown_stays s past valid run) in
    let Q : Entry → Type 0 = λ e. Each (λ (o : Outgoing). ReplyShows s h o.body) e.sent in
    each_reversed Q past
    (each_map (λ (e : Entry). SentTold s past e) Q past
    (λ e sent.
    each_map (OutTold s (acts_before past) (versions_before past)) (λ (o : Outgoing). ReplyShows s h o.body) e.sent
    (λ o it. reply_shows s past o.to.0 o.body all it) sent)
    (all_sent s past valid (all_apt s past valid run) run))
