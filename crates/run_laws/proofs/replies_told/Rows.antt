-- What every row of a core makes of what holds of its transactions, which it keeps, and what it sends.
use Rattle.std.proofs.Common.{◌≡◌, ℕ, ◌<◌, Bool, true, false, not, List, [], ◌∷◌, ◌++◌, length, refl, sym, ap, subst, ◌∙◌, append_assoc, Option, Some, None}
use Rattle.std.specs.Prelude.{if◌then◌else◌, is_some, nat_lt}
use Rattle.tv_base.specs.declared.numbers.SubNo.{SubNo}
use Rattle.tv_base.specs.declared.numbers.TreeNo.{TreeNo}
use Rattle.tv_base.specs.declared.numbers.Version.{Version}
use Rattle.letter_types.specs.Steps.{Out}
use Rattle.letter_types.specs.declared.acts.Act.{Act}
use Rattle.letter_types.specs.declared.acts.Act.TheVariants as acts
use Rattle.letter_types.specs.declared.bodies.Answer.TheVariants.{Whole}
use Rattle.letter_types.specs.declared.bodies.Body.{Body}
use Rattle.letter_types.specs.declared.bodies.Body.TheVariants.{Root, Sub as SubLetter, Done, Go, Decide, Decided, Release, Turn, Show, Sweep, AskDone, AskAsked, Ask, Order}
use Rattle.letter_types.specs.declared.bodies.Notice.{Notice}
use Rattle.letter_types.specs.declared.bodies.Notice.TheVariants.{Did as DidNotice, Yes, No}
use Rattle.letter_types.specs.declared.entries.Outgoing.{Outgoing}
use Rattle.letter_types.specs.declared.votes.Vote.{Vote}
use Rattle.letter_types.specs.declared.votes.Vote.TheVariants as votes
use Rattle.tree_home.proofs.Always.{begun-there}
use Rattle.tree_home.specs.HeldAnswers.{HeldAnswers, answer_when_acked, held_for}
use Rattle.tree_home.specs.Homes.{Gets, OpenTrees, begun, forgotten, misses, new_tree}
use Rattle.tree_home.specs.declared.homes.Answered.{Answered}
use Rattle.tree_home.specs.declared.homes.Held.{Held}
use Rattle.tree_home.specs.declared.homes.OpenTree.{OpenTree}
use Rattle.tx_trees.specs.ScriptData.{ScriptData, client_of, home_of, subs_at, visited_by}
use Rattle.tx_trees.specs.declared.parts.TreeKind.{TreeKind}
use Rattle.tx_trees.specs.declared.parts.TreeKind.TheVariants.{Update, Read, Strict}
use Rattle.world_model.proofs.Epochs.{ask_each, order_each}
use Rattle.world_model.proofs.Every.{each_append, each_map}
use Rattle.world_model.proofs.Sends.{on, subs_none}
use Rattle.world_model.specs.declared.refusal.NegativeVote.{NegativeVote}
use Rattle.world_model.specs.Asked.{asked_ops, tree_part}
use Rattle.world_model.specs.Children.{done_letter, sub_letters}
use Rattle.world_model.specs.Core.{Core, Refusals, refused_by}
use Rattle.world_model.specs.Counts.{Each, tally}
use Rattle.world_model.specs.Done.{TreeOut, note_part, turned_if}
use Rattle.world_model.specs.Named.{is_strict_at, tree_kind_at}
use Rattle.world_model.specs.Node.{Effect}
use Rattle.world_model.specs.Notices.{act_of, answer_noted, homes_noted, reply_letters, values_of}
use Rattle.world_model.specs.Reads.{getting}
use Rattle.world_model.specs.Strict.{answer_letters, answered, core_by_kind, core_row, decided, locks_by, none_refuses, noted_vote, notice_by, refused_there, release_letters, to_each, voting}
use Rattle.world_model.specs.Updates.{touching}
use Rattle.world_model.specs.Votes.{vote_of}
use Rattle.board_rules.specs.Outcomes.{decision_in}
use Rattle.tree_laws.proofs.homes.Answering.{home_there}
use Rattle.tree_laws.proofs.histories.Turns.{each_told, kind_version, releases_none}
use Rattle.run_laws.proofs.replies_told.Acks.{acked_answers, acked_told}
use Rattle.run_laws.proofs.strict.StrictKinds.{kind_of_strict, strict_by_kind}
use Rattle.run_laws.proofs.replies_told.Homes.{Given, begun_told, given, holding_told, last_closes, plain_noted, refused_minds, refused_told, strict_noted}
use Rattle.run_laws.proofs.replies_told.Said.{decided_here, decision_new, said_here, said_in, said_new, said_stays, told_undecided, turned_said}
use Rattle.run_laws.proofs.replies_told.Told.{Answers, FitsKind, Gathered, HeldTold, Minds, OutTold, Slot, Told, below_same, body_more, gathered_more, quiet, speaks, told_more}

-- a row keeps all that holds, and sends what was told
pub record RowTold (s : ScriptData) (does : List Act) (vs : ℕ → Option Version) (out : Out Core) : Type 0 where
  pub told : Told s (does ++ out.acts) vs out.state.node.homes out.state.holds out.state.refusals
  pub sent : Each (OutTold s (does ++ out.acts) vs) out.sent

abbrev pub CoreTold : ScriptData → List Act → (ℕ → Option Version) → Core → Type 0
CoreTold s does vs c = Told s does vs c.node.homes c.holds c.refusals

more_acts : (s : ScriptData) (does more : List Act) (vs : ℕ → Option Version) (hs : OpenTrees) (holds : HeldAnswers) (rs : Refusals)
    → Told s does vs hs holds rs → Told s (does ++ more) vs hs holds rs
more_acts s does more vs hs holds rs it = told_more s does more vs vs hs holds rs (λ t v is. is) it

out_more : (s : ScriptData) (does more : List Act) (vs : ℕ → Option Version) (os : List Outgoing) → Each (OutTold s does vs) os
    → Each (OutTold s (does ++ more) vs) os
out_more s does more vs os all =
    each_map (OutTold s does vs) (OutTold s (does ++ more) vs) os (λ o it. body_more s does more vs vs o.to.0 o.body (λ t v is. is) it) all

-- A tree that isn't strict is answered.
reply_told : (s : ScriptData) (does : List Act) (vs : ℕ → Option Version) (hs : OpenTrees) (holds : HeldAnswers) (rs : Refusals) (t : TreeNo) (k : SubNo) (values : Gets)
    → is_strict_at s t.0 ≡ false → (tree_kind_at s t.0 ≡ None → ⊥) → ((h : OpenTree) → hs t.0 ≡ Some h → vs t.0 ≡ Some h.version)
    → Slot s does t.0 (rs t.0) k.0 values → Told s does vs hs holds rs → (found : Option Answered) → answer_noted t k values hs ≡ found
    → Each (OutTold s does vs) (reply_letters (client_of s) found)
reply_told s does vs hs holds rs t k values plain kind version slot it None is = tt
reply_told s does vs hs holds rs t k values plain kind version slot it (Some a) is =
    let g : Given s does hs t (rs t.0) a = given s does vs hs holds rs t k values a slot it is in (
      (
        refl,
        subst (λ (u : TreeNo). Answers s does vs u.0 a.version (Whole a.values)) (sym g.tree)
            (record {
              least = None;
              whole = a;
              says = refl;
              version = version g.home g.there ∙ ap Some (sym g.version);
              kind = kind;
              gathered = subst (λ (o : Option NegativeVote). Gathered s does t.0 o 0 (subs_at s t.0) a.values) (it.plain t.0 plain) g.values;
              noes = tt;
              strict = λ so. absurd (cc (so, plain));
              plain = λ so. refl;
            }),
      ),
      tt,
    )

plain_settles : (s : ScriptData) (does : List Act) (vs : ℕ → Option Version) (c : Core) (t : TreeNo) (k : SubNo) (values : Gets) (hs : OpenTrees) (o : TreeOut)
    → o.out.state.homes ≡ homes_noted t k values hs → o.answered ≡ answer_noted t k values hs → is_strict_at s t.0 ≡ false → (tree_kind_at s t.0 ≡ None → ⊥)
    → ((h : OpenTree) → hs t.0 ≡ Some h → vs t.0 ≡ Some h.version) → Slot s (does ++ o.out.acts) t.0 (c.refusals t.0) k.0 values
    → Told s (does ++ o.out.acts) vs hs c.holds c.refusals → Each (OutTold s (does ++ o.out.acts) vs) o.out.sent → RowTold s does vs (answered s c o)
plain_settles s does vs c t k values hs o homes answer plain kind version slot it sent =
    let now : List Act = does ++ o.out.acts in
    record {
      told = subst (λ (x : OpenTrees). Told s now vs x c.holds c.refusals) (sym homes) (plain_noted s now vs hs c.holds c.refusals t k values plain slot it);
      sent = each_append (OutTold s now vs) (o.out.sent ++ release_letters s o.answered) (reply_letters (client_of s) o.answered)
          (each_append (OutTold s now vs) o.out.sent (release_letters s o.answered) sent
          (quiet s now vs (release_letters s o.answered) (releases_none s (on speaks) o.answered (λ q u. refl))))
          (reply_told s now vs hs c.holds c.refusals t k values plain kind version slot it o.answered (sym answer));
    }

-- A strict tree is decided.
strict_settles : (s : ScriptData) (does : List Act) (vs : ℕ → Option Version) (c : Core) (t : TreeNo) (k : SubNo) (values : Gets) (hs : OpenTrees) (o : TreeOut) (found : Option Answered)
    → o.answered ≡ found → o.out.state.homes ≡ homes_noted t k values hs → o.answered ≡ answer_noted t k values hs → is_strict_at s t.0 ≡ true
    → ((h : OpenTree) → hs t.0 ≡ Some h → vs t.0 ≡ Some h.version) → ((h : OpenTree) → hs t.0 ≡ Some h → decision_in t.0 (does ++ o.out.acts) ≡ None)
    → Slot s (does ++ o.out.acts) t.0 (c.refusals t.0) k.0 values
    → Told s (does ++ o.out.acts) vs hs c.holds c.refusals → Each (OutTold s (does ++ o.out.acts) vs) o.out.sent → RowTold s does vs (decided s c o found)
strict_settles s does vs c t k values hs o None is homes answer strict version undecided slot it sent =
    let now : List Act = does ++ o.out.acts in
    record {
      told = subst (λ (x : OpenTrees). Told s now vs x c.holds c.refusals) (sym homes)
          (strict_noted s now vs hs c.holds c.refusals t k values (sym answer ∙ is) slot it);
      sent = sent;
    }
strict_settles s does vs c t k values hs o (Some a) is homes answer strict version undecided slot it sent =
    let now : List Act = does ++ o.out.acts in
    let g : Given s now hs t (c.refusals t.0) a = given s now vs hs c.holds c.refusals t k values a slot it (sym answer ∙ is) in
    let commit : Bool = none_refuses a.tree c.refusals in
    let more : List Act = acts.Decided a.tree commit ∷ [] in
    let n : ℕ = length (visited_by s a.tree.0) in
    let all : (now ++ more) ≡ does ++ (o.out.acts ++ more) = append_assoc does o.out.acts more in
    let tree = g.tree in
    let decision : decision_in t.0 (now ++ more) ≡ Some (not (is_some (c.refusals t.0))) =
    decision_new t.0 now more (undecided g.home g.there)
    ∙ subst (λ (u : TreeNo). decision_in t.0 (acts.Decided u (none_refuses u c.refusals) ∷ []) ≡ Some (none_refuses t c.refusals)) (sym tree)
    (decided_here t (none_refuses t c.refusals) []) in
    let held : HeldTold s (now ++ more) vs t.0 (c.refusals t.0) (held_for n a) = record {
      names = ap (λ (u : TreeNo). u.0) tree;
      strict = kind_of_strict s t.0 strict;
      version = version g.home g.there ∙ ap Some (sym g.version);
      gathered = gathered_more s now more t.0 (c.refusals t.0) (c.refusals t.0) 0 (subs_at s t.0) a.values (below_same (c.refusals t.0)) g.values;
      decided = decision;
    } in
    let closed : o.out.state.homes ≡ forgotten t hs = homes ∙ last_closes t k values hs a (sym answer ∙ is) in
    let told : Told s (now ++ more) vs o.out.state.homes (decided s c o (Some a)).state.holds c.refusals =
    subst (λ (x : OpenTrees). Told s (now ++ more) vs x (decided s c o (Some a)).state.holds c.refusals) (sym closed)
    (holding_told s (now ++ more) vs hs c.holds c.refusals t a n held (more_acts s now more vs hs c.holds c.refusals it)) in
    let letters : List Outgoing = to_each (Decide a.tree a.version commit) (visited_by s a.tree.0) in
    record {
      told = subst (λ (x : List Act). Told s x vs o.out.state.homes (decided s c o (Some a)).state.holds c.refusals) all told;
      sent = subst (λ (x : List Act). Each (OutTold s x vs) (o.out.sent ++ letters)) all
          (each_append (OutTold s (now ++ more) vs) o.out.sent letters (out_more s now more vs o.out.sent sent)
          (quiet s (now ++ more) vs letters (each_told (on speaks) (Decide a.tree a.version commit) (visited_by s a.tree.0) (λ q. refl))));
    }

-- A root: its tree begins.
pub record RootComes (s : ScriptData) (does : List Act) (vs : ℕ → Option Version) (c : Core) (t : TreeNo) : Type 0 where
  pub unsaid : said_in t.0 0 does ≡ None
  pub unheld : c.holds t.0 ≡ None
  pub undecided : decision_in t.0 does ≡ None
  pub version : vs t.0 ≡ Some (kind_version c (tree_kind_at s t.0))
  pub first : 0 < length (subs_at s t.0)
  pub kind : tree_kind_at s t.0 ≡ None → ⊥

begun_version : (s : ScriptData) (vs : ℕ → Option Version) (t : TreeNo) (n : ℕ) (v : Version) (hs : OpenTrees) (h : OpenTree) → vs t.0 ≡ Some v
    → begun t n v hs t.0 ≡ Some h → vs t.0 ≡ Some h.version
begun_version s vs t n v hs h version at =
    let there = begun-there t n v hs in
    let same : new_tree n v ≡ h = cc (there, at) in
    version ∙ ap (λ (x : OpenTree). Some x.version) same

root_said : (does : List Act) (t : TreeNo) (v : Version) (n : Notice) → said_in t.0 0 does ≡ None
    → said_in t.0 0 (does ++ acts.Born t v ∷ act_of t (record { 0 = 0 }) n ∷ []) ≡ Some n
root_said does t v n none =
    said_new t.0 0 does (acts.Born t v ∷ act_of t (record { 0 = 0 }) n ∷ []) none ∙ said_here t (record { 0 = 0 }) n []

fits_vote : (vote : Vote) → FitsKind (Some Strict) (notice_by vote)
fits_vote (votes.Yes values) = tt
fits_vote (votes.No cause) = tt

root_row : (s : ScriptData) (does : List Act) (vs : ℕ → Option Version) (p from : ℕ) (t : TreeNo) (kind : Option TreeKind) (c : Core) → tree_kind_at s t.0 ≡ kind
    → RootComes s does vs c t → CoreTold s does vs c → RowTold s does vs (core_by_kind s p from t (Root t) kind c)
root_row s does vs p from t (Some Update) c is r it =
    let v : Version = c.node.turns.update in
    let e : Effect = touching v (asked_ops s (Root t)) c.node.items in
    let raises : Bool = nat_lt c.node.turns.update.0 v.0 in
    let o : TreeOut = tree_part s p from v raises e (Root t) c.node in
    let k : SubNo = record { 0 = 0 } in
    let n : ℕ = length (subs_at s t.0) in
    let marked : Core = record c { locks = (core_by_kind s p from t (Root t) (Some Update) c).state.locks } in
    let hs : OpenTrees = begun t n v c.node.homes in
    let plain : is_strict_at s t.0 ≡ false = rw (is, is_strict_at) refl in
    let version : vs t.0 ≡ Some v = r.version ∙ ap (λ (x : Option TreeKind). Some (kind_version c x)) is in
    plain_settles s does vs marked t k (values_of e.notice) hs o refl refl plain r.kind (λ h at. begun_version s vs t n v c.node.homes h version at)
    (record {
      notice = e.notice;
      said = root_said does t v e.notice r.unsaid;
      fits = subst (λ (x : Option TreeKind). FitsKind x e.notice) (sym is) refl;
      gives = refl;
      minds = tt;
    })
    (begun_told s (does ++ o.out.acts) vs c.node.homes c.holds c.refusals t v r.unheld (more_acts s does o.out.acts vs c.node.homes c.holds c.refusals it))
    (quiet s (does ++ o.out.acts) vs o.out.sent (subs_none speaks t.0 v.0 0 0 (subs_at s t.0) (λ u j x. refl)))
root_row s does vs p from t (Some Read) c is r it =
    let v : Version = c.node.turns.read in
    let e : Effect = getting v (asked_ops s (Root t)) c.node.items in
    let o : TreeOut = tree_part s p from v false e (Root t) c.node in
    let k : SubNo = record { 0 = 0 } in
    let n : ℕ = length (subs_at s t.0) in
    let hs : OpenTrees = begun t n v c.node.homes in
    let plain : is_strict_at s t.0 ≡ false = rw (is, is_strict_at) refl in
    let version : vs t.0 ≡ Some v = r.version ∙ ap (λ (x : Option TreeKind). Some (kind_version c x)) is in
    plain_settles s does vs c t k (values_of e.notice) hs o refl refl plain r.kind (λ h at. begun_version s vs t n v c.node.homes h version at)
    (record {
      notice = e.notice;
      said = root_said does t v e.notice r.unsaid;
      fits = subst (λ (x : Option TreeKind). FitsKind x e.notice) (sym is) tt;
      gives = refl;
      minds = tt;
    })
    (begun_told s (does ++ o.out.acts) vs c.node.homes c.holds c.refusals t v r.unheld (more_acts s does o.out.acts vs c.node.homes c.holds c.refusals it))
    (quiet s (does ++ o.out.acts) vs o.out.sent (subs_none speaks t.0 v.0 0 0 (subs_at s t.0) (λ u j x. refl)))
root_row s does vs p from t (Some Strict) c is r it =
    let v : Version = c.node.turns.update in
    let vote : Vote = vote_of c.locks c.node.items t v (asked_ops s (Root t)) in
    let e : Effect = voting vote c.node.items in
    let raises : Bool = nat_lt c.node.turns.update.0 v.0 in
    let o : TreeOut = tree_part s p from v raises e (Root t) c.node in
    let k : SubNo = record { 0 = 0 } in
    let n : ℕ = length (subs_at s t.0) in
    let noted : Core = record c { locks = locks_by vote t (asked_ops s (Root t)) c.locks; refusals = noted_vote (Root t) vote c.refusals } in
    let hs : OpenTrees = begun t n v c.node.homes in
    let strict : is_strict_at s t.0 ≡ true = rw (is, is_strict_at) refl in
    let version : vs t.0 ≡ Some v = r.version ∙ ap (λ (x : Option TreeKind). Some (kind_version c x)) is in
    let said : said_in t.0 0 (does ++ o.out.acts) ≡ Some e.notice = root_said does t v e.notice r.unsaid in
    strict_settles s does vs noted t k (values_of e.notice) hs o o.answered refl refl refl strict
    (λ h at. begun_version s vs t n v c.node.homes h version at)
    (λ h at. decision_new t.0 does o.out.acts r.undecided ∙ told_undecided t.0 t k e.notice [])
    (record {
      notice = e.notice;
      said = said;
      fits = subst (λ (x : Option TreeKind). FitsKind x e.notice) (sym is) (fits_vote vote);
      gives = refl;
      minds = refused_minds c.refusals t k e.notice;
    })
    (refused_told s (does ++ o.out.acts) vs hs c.holds c.refusals t k e.notice strict r.unheld
    (λ gone. let there = begun-there t n v c.node.homes in absurd (cc (gone, there))) said r.first
    (begun_told s (does ++ o.out.acts) vs c.node.homes c.holds c.refusals t v r.unheld (more_acts s does o.out.acts vs c.node.homes c.holds c.refusals it)))
    (quiet s (does ++ o.out.acts) vs o.out.sent (subs_none speaks t.0 v.0 0 0 (subs_at s t.0) (λ u j x. refl)))
root_row s does vs p from t None c is r it = absurd (r.kind is)

-- Another subtransaction: it tells its home.
pub record SubComes (s : ScriptData) (does : List Act) (t : TreeNo) (k : SubNo) : Type 0 where
  pub unsaid : said_in t.0 k.0 does ≡ None
  pub kind : tree_kind_at s t.0 ≡ None → ⊥

sub_said : (does : List Act) (t : TreeNo) (k : SubNo) (raises : Bool) (v : ℕ) (n : Notice) → said_in t.0 k.0 does ≡ None
    → said_in t.0 k.0 (does ++ (turned_if raises v ++ act_of t k n ∷ [])) ≡ Some n
sub_said does t k raises v n none =
    said_new t.0 k.0 does (turned_if raises v ++ act_of t k n ∷ []) none ∙ turned_said t.0 k.0 raises v (act_of t k n ∷ []) ∙ said_here t k n []

sub_sends : (s : ScriptData) (does : List Act) (vs : ℕ → Option Version) (t : TreeNo) (k : SubNo) (v : ℕ) (n : Notice) → said_in t.0 k.0 does ≡ Some n
    → FitsKind (tree_kind_at s t.0) n → Each (OutTold s does vs) (sub_letters t.0 v k.0 0 (subs_at s t.0) ++ done_letter (home_of s t.0) t.0 k.0 v n ∷ [])
sub_sends s does vs t k v n said fits =
    each_append (OutTold s does vs) (sub_letters t.0 v k.0 0 (subs_at s t.0)) (done_letter (home_of s t.0) t.0 k.0 v n ∷ [])
    (quiet s does vs (sub_letters t.0 v k.0 0 (subs_at s t.0)) (subs_none speaks t.0 v k.0 0 (subs_at s t.0) (λ u j x. refl))) ((said, fits), tt)

no_letters : (P : Outgoing → Type 0) (os : List Outgoing) → Each P os → Each P ((os ++ []) ++ [])
no_letters P os all = each_append P (os ++ []) [] (each_append P os [] all tt) tt

sub_row : (s : ScriptData) (does : List Act) (vs : ℕ → Option Version) (p from : ℕ) (t : TreeNo) (k : SubNo) (x : Version) (kind : Option TreeKind) (c : Core)
    → tree_kind_at s t.0 ≡ kind → SubComes s does t k → CoreTold s does vs c → RowTold s does vs (core_by_kind s p from t (SubLetter t k x) kind c)
sub_row s does vs p from t k x (Some Update) c is r it =
    let body : Body = SubLetter t k x in
    let e : Effect = touching x (asked_ops s body) c.node.items in
    let raises : Bool = nat_lt c.node.turns.update.0 x.0 in
    let o : TreeOut = tree_part s p from x raises e body c.node in
    record {
      told = more_acts s does o.out.acts vs c.node.homes c.holds c.refusals it;
      sent = no_letters (OutTold s (does ++ o.out.acts) vs) o.out.sent
          (sub_sends s (does ++ o.out.acts) vs t k x.0 e.notice (sub_said does t k raises x.0 e.notice r.unsaid)
          (subst (λ (y : Option TreeKind). FitsKind y e.notice) (sym is) refl));
    }
sub_row s does vs p from t k x (Some Read) c is r it =
    let body : Body = SubLetter t k x in
    let e : Effect = getting x (asked_ops s body) c.node.items in
    let o : TreeOut = tree_part s p from x false e body c.node in
    record {
      told = more_acts s does o.out.acts vs c.node.homes c.holds c.refusals it;
      sent = no_letters (OutTold s (does ++ o.out.acts) vs) o.out.sent
          (sub_sends s (does ++ o.out.acts) vs t k x.0 e.notice (sub_said does t k false x.0 e.notice r.unsaid)
          (subst (λ (y : Option TreeKind). FitsKind y e.notice) (sym is) tt));
    }
sub_row s does vs p from t k x (Some Strict) c is r it =
    let body : Body = SubLetter t k x in
    let vote : Vote = vote_of c.locks c.node.items t x (asked_ops s body) in
    let e : Effect = voting vote c.node.items in
    let raises : Bool = nat_lt c.node.turns.update.0 x.0 in
    let o : TreeOut = tree_part s p from x raises e body c.node in
    record {
      told = more_acts s does o.out.acts vs c.node.homes c.holds c.refusals it;
      sent = sub_sends s (does ++ o.out.acts) vs t k x.0 e.notice (sub_said does t k raises x.0 e.notice r.unsaid)
          (subst (λ (y : Option TreeKind). FitsKind y e.notice) (sym is) (fits_vote vote));
    }
sub_row s does vs p from t k x None c is r it = absurd (r.kind is)

-- A notice at its home.
pub record NoteComes (s : ScriptData) (does : List Act) (vs : ℕ → Option Version) (c : Core) (t : TreeNo) (k : SubNo) (n : Notice) : Type 0 where
  pub said : said_in t.0 k.0 does ≡ Some n
  pub fits : FitsKind (tree_kind_at s t.0) n
  pub below : k.0 < length (subs_at s t.0)
  pub kind : tree_kind_at s t.0 ≡ None → ⊥
  pub undecided : (h : OpenTree) → c.node.homes t.0 ≡ Some h → decision_in t.0 does ≡ None
  pub version : (h : OpenTree) → c.node.homes t.0 ≡ Some h → vs t.0 ≡ Some h.version

-- a tree that is open has no answer held
unheld_by : (s : ScriptData) (does : List Act) (vs : ℕ → Option Version) (hs : OpenTrees) (holds : HeldAnswers) (rs : Refusals) (t : ℕ) (h : OpenTree) (o : Option Held)
    → holds t ≡ o → hs t ≡ Some h → Told s does vs hs holds rs → holds t ≡ None
unheld_by s does vs hs holds rs t h None is at it = is
unheld_by s does vs hs holds rs t h (Some x) is at it = let gone = it.apart t x is in absurd (cc (gone, at))

-- the notice of a tree that isn't strict is no no
plain_minds : (s : ScriptData) (t : ℕ) (n : Notice) (kind : Option TreeKind) (o : Option NegativeVote) (k : ℕ) → tree_kind_at s t ≡ kind → is_strict_at s t ≡ false
    → FitsKind kind n → Minds n o k
plain_minds s t (DidNotice values) kind o k is plain fits = tt
plain_minds s t (Yes values) kind o k is plain fits = tt
plain_minds s t (No cause) (Some Update) o k is plain fits = absurd (cc fits)
plain_minds s t (No cause) (Some Read) o k is plain fits = absurd fits
plain_minds s t (No cause) (Some Strict) o k is plain fits = let strict = strict_by_kind s t is in absurd (cc (strict, plain))
plain_minds s t (No cause) None o k is plain fits = absurd fits

note_row : (s : ScriptData) (does : List Act) (vs : ℕ → Option Version) (from : ℕ) (t : TreeNo) (k : SubNo) (v : Version) (notice : Notice) (c : Core) (strict : Bool)
    → is_strict_at s t.0 ≡ strict → NoteComes s does vs c t k notice → CoreTold s does vs c
    → RowTold s does vs
    (if strict then decided s (record c { refusals = refused_there t k notice c }) (note_part from t.0 k.0 v.0 (values_of notice) c.node) (note_part from t.0 k.0 v.0 (values_of notice) c.node).answered
    else answered s c (note_part from t.0 k.0 v.0 (values_of notice) c.node))
note_row s does vs from t k v notice c false plain r it =
    plain_settles s does vs c t k (values_of notice) c.node.homes (note_part from t.0 k.0 v.0 (values_of notice) c.node) refl refl plain r.kind r.version
    (record {
      notice = notice;
      said = said_stays t.0 k.0 does [] notice r.said;
      fits = r.fits;
      gives = refl;
      minds = plain_minds s t.0 notice (tree_kind_at s t.0) (c.refusals t.0) k.0 refl plain r.fits;
    })
    (more_acts s does [] vs c.node.homes c.holds c.refusals it) tt
note_row s does vs from t k v notice c true strict r it = by (misses t k c.node.homes) refl where
  by : (test : Bool) → misses t k c.node.homes ≡ test
      → RowTold s does vs
      (decided s (record c { refusals = if test then refused_by t k notice c.refusals else c.refusals }) (note_part from t.0 k.0 v.0 (values_of notice) c.node)
      (note_part from t.0 k.0 v.0 (values_of notice) c.node).answered)
  by true miss =
      let o : TreeOut = note_part from t.0 k.0 v.0 (values_of notice) c.node in
      let hs : OpenTrees = c.node.homes in
      let there = home_there t k hs miss in
      let open_there : hs t.0 ≡ Some there.0 = there.1 in
      let said : said_in t.0 k.0 (does ++ []) ≡ Some notice = said_stays t.0 k.0 does [] notice r.said in
      strict_settles s does vs (record c { refusals = refused_by t k notice c.refusals }) t k (values_of notice) hs o o.answered refl refl refl strict
      r.version (λ h at. decision_new t.0 does [] (r.undecided h at))
      (record {
        notice = notice;
        said = said;
        fits = r.fits;
        gives = refl;
        minds = refused_minds c.refusals t k notice;
      })
      (refused_told s (does ++ []) vs hs c.holds c.refusals t k notice strict
      (unheld_by s does vs hs c.holds c.refusals t.0 there.0 (c.holds t.0) refl there.1 it) (λ gone. absurd (cc (gone, open_there))) said r.below
      (more_acts s does [] vs hs c.holds c.refusals it)) tt
  by false miss =
      let o : TreeOut = note_part from t.0 k.0 v.0 (values_of notice) c.node in
      let none : o.answered ≡ None = rw miss refl in
      let same : o.out.state.homes ≡ c.node.homes = rw miss refl in
      subst (λ (found : Option Answered). RowTold s does vs (decided s c o found)) (sym none)
      (record {
        told = subst (λ (x : OpenTrees). Told s (does ++ []) vs x c.holds c.refusals) (sym same) (more_acts s does [] vs c.node.homes c.holds c.refusals it);
        sent = tt;
      })

-- A letter of no subtransaction.
rest_row : (s : ScriptData) (does : List Act) (vs : ℕ → Option Version) (c : Core) (out : Out Core) → CoreTold s does vs c
    → out.state.node.homes ≡ c.node.homes → out.state.holds ≡ c.holds → out.state.refusals ≡ c.refusals → tally (on speaks) out.sent ≡ 0 → RowTold s does vs out
rest_row s does vs c out it homes holds refusals silent = record {
  told = subst (λ (hs : OpenTrees). Told s (does ++ out.acts) vs hs out.state.holds out.state.refusals) (sym homes)
      (subst (λ (x : HeldAnswers). Told s (does ++ out.acts) vs c.node.homes x out.state.refusals) (sym holds)
      (subst (λ (x : Refusals). Told s (does ++ out.acts) vs c.node.homes c.holds x) (sym refusals)
      (more_acts s does out.acts vs c.node.homes c.holds c.refusals it)));
  sent = quiet s (does ++ out.acts) vs out.sent silent;
}

answer_told : (s : ScriptData) (does : List Act) (vs : ℕ → Option Version) (hs : OpenTrees) (holds : HeldAnswers) (rs : Refusals) (t : TreeNo) (found : Option Answered)
    → answer_when_acked t holds ≡ found → Told s does vs hs holds rs → Each (OutTold s does vs) (answer_letters s rs found)
answer_told s does vs hs holds rs t None is it = tt
answer_told s does vs hs holds rs t (Some a) is it = ((refl, acked_answers s does vs hs holds rs t a is it), tt)

-- what has to hold of a letter that comes
abbrev pub Comes : ScriptData → List Act → (ℕ → Option Version) → Core → Body → Type 0
Comes s does vs c (Root t) = RootComes s does vs c t
Comes s does vs c (SubLetter t k v) = SubComes s does t k
Comes s does vs c (Done t k v notice) = NoteComes s does vs c t k notice
Comes s does vs c Go = Unit {0}
Comes s does vs c _ = Unit {0}

pub core_told : (s : ScriptData) (does : List Act) (vs : ℕ → Option Version) (p from : ℕ) (body : Body) (c : Core) → Comes s does vs c body → CoreTold s does vs c
    → RowTold s does vs (core_row s p c from body)
core_told s does vs p from (Root t) c comes it = root_row s does vs p from t (tree_kind_at s t.0) c refl comes it
core_told s does vs p from (SubLetter t k v) c comes it = sub_row s does vs p from t k v (tree_kind_at s t.0) c refl comes it
core_told s does vs p from (Done t k v notice) c comes it = note_row s does vs from t k v notice c (is_strict_at s t.0) refl comes it
core_told s does vs p from (Decide t v commit) c comes it = rest_row s does vs c _ it refl refl refl refl
core_told s does vs p from (Decided t v) c comes it =
    let now = more_acts s does [] vs c.node.homes c.holds c.refusals it in
    record {
      told = acked_told s (does ++ []) vs c.node.homes c.holds c.refusals t now;
      sent = answer_told s (does ++ []) vs c.node.homes c.holds c.refusals t (answer_when_acked t c.holds) refl now;
    }
core_told s does vs p from (Release t) c comes it = rest_row s does vs c _ it refl refl refl refl
core_told s does vs p from (Turn v) c comes it = rest_row s does vs c _ it refl refl refl refl
core_told s does vs p from (Show v) c comes it = rest_row s does vs c _ it refl refl refl refl
core_told s does vs p from (Sweep v) c comes it = rest_row s does vs c _ it refl refl refl refl
core_told s does vs p from (AskDone v k) c comes it = rest_row s does vs c _ it refl refl refl refl
core_told s does vs p from (AskAsked v k) c comes it = rest_row s does vs c _ it refl refl refl refl
core_told s does vs p from (Order e what v) c comes it =
    order_each (RowTold s does vs) s e what v c (rest_row s does vs c _ it refl refl refl refl) (rest_row s does vs c _ it refl refl refl refl)
    (λ is. rest_row s does vs c _ it refl refl refl refl) (λ is new. rest_row s does vs c _ it refl refl refl refl)
    (λ is new. rest_row s does vs c _ it refl refl refl refl)
core_told s does vs p from (Ask e) c comes it =
    ask_each (RowTold s does vs) s e c (rest_row s does vs c _ it refl refl refl refl) (rest_row s does vs c _ it refl refl refl refl)
core_told s does vs p from Go c comes it = rest_row s does vs c _ it refl refl refl refl
core_told s does vs p from _ c comes it = rest_row s does vs c _ it refl refl refl refl
