-- A node does a message of a transaction of its own: what becomes of that transaction's stage.
use Rattle.std.proofs.Common.{◌≡◌, ◌≢◌, ◌⊎◌, inl, inr, ℕ, zero, suc, ◌+◌, ◌<◌, ◌≤◌, ◌==◌, ◌&&◌, Bool, true, List, [], ◌∷◌, length, set, refl, sym, ap, subst, ◌∙◌, arith, Option, Some, None}
use Rattle.std.specs.Prelude.{if◌then◌else◌, nat_lt, slice_get}
use Rattle.std.proofs.lemmas.Bool.{cases_eq}
use Rattle.std.proofs.lemmas.Bool.Decides.{nat_tests}
use Rattle.std.proofs.lemmas.List.{length-append}
use Rattle.tv_base.proofs.Truths.{left_true, right_true}
use Rattle.tv_base.specs.declared.numbers.SubNo.{SubNo}
use Rattle.tv_base.specs.declared.numbers.TreeNo.{TreeNo}
use Rattle.tv_base.specs.declared.numbers.Version.{Version}
use Rattle.letter_types.specs.Steps.{Out}
use Rattle.letter_types.specs.declared.bodies.Body.{Body}
use Rattle.letter_types.specs.declared.bodies.Body.TheVariants.{Root, Sub as SubLetter, Done, Decided}
use Rattle.letter_types.specs.declared.bodies.Notice.{Notice}
use Rattle.letter_types.specs.declared.entries.Entry.{Entry}
use Rattle.letter_types.specs.declared.entries.Letter.{Letter}
use Rattle.tree_home.proofs.Always.{begun-there}
use Rattle.tree_home.proofs.Maps.{put_at-same}
use Rattle.tree_home.specs.HeldAnswers.{acked_of, answer_when_acked, held_in, last_answer}
use Rattle.tree_home.specs.Homes.{Gets, OpenTrees, begun, misses, new_tree}
use Rattle.tree_home.specs.declared.homes.Answered.{Answered as AnsweredTree}
use Rattle.tree_home.specs.declared.homes.Held.{Held}
use Rattle.tree_home.specs.declared.homes.OpenTree.{OpenTree}
use Rattle.tx_trees.specs.ScriptData.{ScriptData, home_of, node_of, sub_at, subs_at, visited, visited_by, visits}
use Rattle.tx_trees.specs.Valid.{IsValid}
use Rattle.tx_trees.specs.declared.parts.Sub.{Sub}
use Rattle.world_model.specs.AllApt.{AllApt}
use Rattle.world_model.specs.Core.{Core}
use Rattle.world_model.specs.Counts.{one_if, tally}
use Rattle.world_model.specs.Named.{is_named, is_strict_at, suits}
use Rattle.world_model.specs.Notices.{answer_noted, values_of}
use Rattle.world_model.specs.Runs.{IsStepRun, MayFollow, keeping_in}
use Rattle.world_model.specs.Strict.{answer_letters, core_row}
use Rattle.world_model.proofs.Cases.{Does, does_number, apt_named}
use Rattle.world_model.proofs.Scripts.{SubAt, get_below, sub_here, sub_there, tree_below}
use Rattle.world_model.proofs.Sends.{on}
use Rattle.tree_laws.specs.Dids.{asks, letters_asking, notices, replies_to, tells_done}
use Rattle.tree_laws.specs.Stages.{IsGathering, IsUnborn, StageAt, Answered, Gathers, Holds, Unborn, decides, held_at, home_at, is_noted}
use Rattle.tree_laws.specs.Turns.{has_turn, turns}
use Rattle.tree_laws.proofs.stages.AptStages.{Notes, Settles, acks_stage, adds, notes_stage}
use Rattle.tree_laws.proofs.stages.AptStagesRows.{RowBegins, RowNotes, RowSettles, answer_quiet, core_begins, core_notes}
use Rattle.tree_laws.proofs.stages.AptStagesSteps.{Beside, decides_no_asking, does_beside, done_flow, notes_by, sent_by, told, turned_by}
use Rattle.tree_laws.proofs.apt.AptSteps.{Enters, done_before}
use Rattle.tree_laws.proofs.apt.AptTurns.{no_turn_yet, parent_before, sub_has_turns, tree_there, turns_at_most_once, turns_below_root}
use Rattle.tree_laws.proofs.homes.Answering.{one_here}
use Rattle.tree_laws.proofs.homes.Noting.{misses_root, noted_other, noted_same}
use Rattle.tree_laws.proofs.homes.Staging.{first_one, missing_at, none_places, root_noted, told_none, told_one}

-- A subtransaction that belongs to a node is there.
there_by : (s : ScriptData) (p t k : ℕ) (found : Option Sub) → sub_at s t k ≡ found → node_of s t k ≡ p → p < s.nodes → SubAt s t k
there_by s p t k None at is lt = let out : node_of s t k ≡ s.nodes = rw (at, node_of) refl in absurd (omega (arith, out, is, lt))
there_by s p t k (Some x) at is lt =
    sub_there s t k (tree_there s t k x (slice_get s.trees t) refl at) (get_below (subs_at s t) k x at)

pub sub_of_node : (s : ScriptData) (p t k : ℕ) → node_of s t k ≡ p → p < s.nodes → SubAt s t k
sub_of_node s p t k is lt = there_by s p t k (sub_at s t k) refl is lt

-- A tree visits its home.
visits_first : (subs : List Sub) (x : Sub) → slice_get subs 0 ≡ Some x → visits subs x.node.0 ≡ true
visits_first [] x at = absurd (cc at)
visits_first (y ∷ subs) x at =
    let same : y ≡ x = cc at in
    let here : (y.node.0 == x.node.0) ≡ true = (let eq : y.node.0 ≡ x.node.0 = ap (λ (z : Sub). z.node.0) same in grind (arith, nat_tests)) in
    rw here refl

visits_at : (subs : List Sub) (q n : ℕ) → visits subs q ≡ true → (q < n → 1 ≤ length (visited subs n)) → q < suc n → (q ≡ n) ⊎ (q ≢ n)
    → 1 ≤ length (visited subs (suc n))
visits_at subs q n is earlier lt (inl eq) =
    let here : visits subs n ≡ true = subst (λ (i : ℕ). visits subs i ≡ true) eq is in
    let more : List ℕ = if visits subs n then n ∷ [] else [] in
    let one : length more ≡ 1 = rw here refl in
    omega (arith, length-append (visited subs n) more, one)
visits_at subs q n is earlier lt (inr ne) =
    let more : List ℕ = if visits subs n then n ∷ [] else [] in
    omega (arith, length-append (visited subs n) more, earlier (omega (arith, lt, ne)))

visits_some : (subs : List Sub) (q n : ℕ) → visits subs q ≡ true → q < n → 1 ≤ length (visited subs n)
visits_some subs q zero is lt = absurd (omega arith)
visits_some subs q (suc n) is lt = visits_at subs q n is (λ less. visits_some subs q n is less) lt (cases_eq q n)

pub visits_home : (s : ScriptData) (t : ℕ) → SubAt s t 0 → home_of s t < s.nodes → 1 ≤ length (visited_by s t)
visits_home s t c lt =
    let at = sub_here s t 0 c in
    let home : home_of s t ≡ c.sub.node.0 = rw (at, home_of, node_of) refl in
    visits_some (subs_at s t) c.sub.node.0 s.nodes (visits_first (subs_at s t) c.sub at) (omega (arith, home, lt))

-- What is held, and what is sent, by the row's answer.
settles_by : (s : ScriptData) (past : List Entry) (e : Entry) (p t : ℕ) (r : Letter) (found : Option AnsweredTree) → MayFollow s past e
    → Does s past e p r → p ≡ home_of s t → decides t r.body ≡ 0
    → RowSettles s t (keeping_in s past p).core.holds (core_row s p (keeping_in s past p).core r.from.0 r.body) found
    → Settles s past e t found
settles_by s past e p t r found m d at none row =
    let held : held_at s (e ∷ past) t ≡ (core_row s p (keeping_in s past p).core r.from.0 r.body).state.holds t =
    subst (λ (q : ℕ). (keeping_in s (e ∷ past) q).core.holds t ≡ (core_row s p (keeping_in s past p).core r.from.0 r.body).state.holds t) at
    (ap (λ (x : Core). x.holds t) d.core) in
    let before : (keeping_in s past p).core.holds t ≡ held_at s past t = ap (λ (q : ℕ). (keeping_in s past q).core.holds t) at in
    let replies = sent_by (replies_to t) s past e p r (λ u k. refl) d in
    let flows = done_flow (decides t) s past e (decides_no_asking t) m in
    let done = does_number (λ (l : Letter). decides t l.body) s past e p r d in
    let told_of = sent_by (decides t) s past e p r (λ u k. refl) d in
    record {
      none = λ is. (held ∙ (row.none is).0 ∙ before, (replies ∙ (row.none is).1.0, omega (arith, flows, done, none, told_of, (row.none is).1.1)));
      strict = λ a is so.
          (held ∙ (row.strict a is so).0, (replies ∙ (row.strict a is so).1.0, omega (arith, flows, done, none, told_of, (row.strict a is so).1.1)));
      plain = λ a is so.
          (held ∙ (row.plain a is so).0 ∙ before, (replies ∙ (row.plain a is so).1.0, omega (arith, flows, done, none, told_of, (row.plain a is so).1.1)));
    }

-- a root's tree isn't born
pub unborn_by : (s : ScriptData) (past : List Entry) (t : ℕ) → SubAt s t 0 → turns past t 0 ≡ 0 → 0 < length (subs_at s t) → StageAt s past t → IsUnborn s past t
unborn_by s past t c none lt (Unborn u) = u
unborn_by s past t c none lt (Gathers h g) = absurd (omega (arith, none, g.root))
unborn_by s past t c none lt (Holds h g) = absurd (omega (arith, none, g.all.turned 0 lt))
unborn_by s past t c none lt (Answered g) = absurd (omega (arith, none, g.all.turned 0 lt))

-- all that is known where a node does a letter
pub record Doing (s : ScriptData) (past : List Entry) (e : Entry) (p : ℕ) (r : Letter) : Type 0 where
  pub valid : IsValid s
  pub apt : AllApt s (e ∷ past)
  pub run : IsStepRun s (e ∷ past)
  pub enters : Enters s past e
  pub does : Does s past e p r

-- a letter that asks for a subtransaction is outstanding
pub asked : (s : ScriptData) (past : List Entry) (e : Entry) (p t k : ℕ) (r : Letter) → Doing s past e p r → asks t k r.body ≡ 1
    → 1 ≤ letters_asking s past t k
asked s past e p t k r g one =
    omega (
      arith,
      one,
      done_before (λ (l : Letter). asks t k l.body) s past e g.run.0,
      does_number (λ (l : Letter). asks t k l.body) s past e p r g.does,
    )

pub turned_here : (s : ScriptData) (past : List Entry) (e : Entry) (p t k : ℕ) (r : Letter) → Doing s past e p r
    → tally (has_turn t k) e.acts ≡ asks t k r.body
turned_here s past e p t k r g =
    omega (arith, turned_by s past e t k g.enters, does_number (λ (l : Letter). asks t k l.body) s past e p r g.does)

pub notes_here : (s : ScriptData) (past : List Entry) (e : Entry) (p t k : ℕ) (r : Letter) → Doing s past e p r
    → notices s (e ∷ past) t k + tells_done t k r.body ≡ notices s past t k + told t k r.body
notes_here s past e p t k r g =
    omega (
      arith,
      notes_by s past e t k g.run.0 g.enters,
      does_number (λ (l : Letter). tells_done t k l.body) s past e p r g.does,
      does_number (λ (l : Letter). told t k l.body) s past e p r g.does,
    )

pub home_here : (s : ScriptData) (past : List Entry) (e : Entry) (p t : ℕ) (r : Letter) → Doing s past e p r → p ≡ home_of s t
    → home_at s (e ∷ past) t ≡ (core_row s p (keeping_in s past p).core r.from.0 r.body).state.node.homes t
home_here s past e p t r g at =
    subst (λ (q : ℕ). (keeping_in s (e ∷ past) q).core.node.homes t ≡ (core_row s p (keeping_in s past p).core r.from.0 r.body).state.node.homes t) at
    (ap (λ (x : Core). x.node.homes t) g.does.core)

-- Where a letter of a tree belongs.
pub root_home : (s : ScriptData) (past : List Entry) (e : Entry) (p : ℕ) (t : TreeNo) (r : Letter) → Doing s past e p r → r.body ≡ Root t
    → p ≡ home_of s t.0
root_home s past e p t r g is =
    let named : is_named s p r.from.0 (Root t) ≡ true =
    ap (is_named s p r.from.0) (sym is) ∙ apt_named s p (keeping_in s past p).core r g.does.brings.apt in
    let here : home_of s t.0 ≡ p = grind (arith, nat_tests) in
    sym here

pub sub_place : (s : ScriptData) (past : List Entry) (e : Entry) (p : ℕ) (t : TreeNo) (k : SubNo) (v : Version) (r : Letter) → Doing s past e p r
    → r.body ≡ SubLetter t k v → p ≡ node_of s t.0 k.0
sub_place s past e p t k v r g is =
    let named : is_named s p r.from.0 (SubLetter t k v) ≡ true =
    ap (is_named s p r.from.0) (sym is) ∙ apt_named s p (keeping_in s past p).core r g.does.brings.apt in
    let test : (node_of s t.0 k.0 == p) ≡ true = left_true (node_of s t.0 k.0 == p) (nat_lt r.from.0 s.nodes) named in
    let here : node_of s t.0 k.0 ≡ p = grind (arith, nat_tests) in
    sym here

-- a notice at its home, of a subtransaction of the tree, that suits the tree
pub record NoteAt (s : ScriptData) (p : ℕ) (t : TreeNo) (k : SubNo) (notice : Notice) : Type 0 where
  pub home : p ≡ home_of s t.0
  pub below : k.0 < length (subs_at s t.0)
  pub suits : suits (is_strict_at s t.0) notice ≡ true

pub note_at : (s : ScriptData) (past : List Entry) (e : Entry) (p : ℕ) (t : TreeNo) (k : SubNo) (v : Version) (notice : Notice) (r : Letter)
    → Doing s past e p r → r.body ≡ Done t k v notice → NoteAt s p t k notice
note_at s past e p t k v notice r g is =
    let named : is_named s p r.from.0 (Done t k v notice) ≡ true =
    ap (is_named s p r.from.0) (sym is) ∙ apt_named s p (keeping_in s past p).core r g.does.brings.apt in
    let inner : Bool = nat_lt r.from.0 s.nodes && suits (is_strict_at s t.0) notice in
    let place : Bool = nat_lt k.0 (length (subs_at s t.0)) in
    let first : (home_of s t.0 == p) ≡ true = left_true (home_of s t.0 == p) (place && inner) named in
    let rest : (place && inner) ≡ true = right_true (home_of s t.0 == p) (place && inner) named in
    let second : place ≡ true = left_true place inner rest in
    record {
      home = (let here : home_of s t.0 ≡ p = grind (arith, nat_tests) in sym here);
      below = grind (arith, nat_tests);
      suits = right_true (nat_lt r.from.0 s.nodes) (suits (is_strict_at s t.0) notice) (right_true place inner rest);
    }

pub ack_home : (s : ScriptData) (past : List Entry) (e : Entry) (p : ℕ) (t : TreeNo) (v : Version) (r : Letter) → Doing s past e p r
    → r.body ≡ Decided t v → p ≡ home_of s t.0
ack_home s past e p t v r g is =
    let named : is_named s p r.from.0 (Decided t v) ≡ true =
    ap (is_named s p r.from.0) (sym is) ∙ apt_named s p (keeping_in s past p).core r g.does.brings.apt in
    let test : (home_of s t.0 == p) ≡ true = left_true (home_of s t.0 == p) (nat_lt r.from.0 s.nodes) named in
    let here : home_of s t.0 ≡ p = grind (arith, nat_tests) in
    sym here

-- a tree that gathers misses a notice that is in flight
pub note_waits : (s : ScriptData) (past : List Entry) (e : Entry) (p : ℕ) (t : TreeNo) (k : SubNo) (v : Version) (notice : Notice) (r : Letter)
    → Doing s past e p r → r.body ≡ Done t k v notice → 1 ≤ notices s past t.0 k.0
note_waits s past e p t k v notice r g is =
    omega (
      arith,
      notes_here s past e p t.0 k.0 r g,
      ap (tells_done t.0 k.0) is,
      ap (told t.0 k.0) is,
      told_one t.0 k.0 k.0 refl,
    )

pub note_missed : (s : ScriptData) (past : List Entry) (e : Entry) (p : ℕ) (t : TreeNo) (k : SubNo) (v : Version) (notice : Notice) (r : Letter) (h : OpenTree)
    → Doing s past e p r → r.body ≡ Done t k v notice → p ≡ home_of s t.0 → k.0 < length (subs_at s t.0) → IsGathering s past t.0 h
    → misses t k (keeping_in s past p).core.node.homes ≡ true
note_missed s past e p t k v notice r h g is at lt it =
    let root : SubAt s t.0 0 = sub_of_node s p t.0 0 (sym at) g.does.brings.below in
    let sub : SubAt s t.0 k.0 = sub_there s t.0 k.0 (tree_below s t.0 0 root) lt in
    let most = turns_at_most_once s past t.0 k.0 sub g.valid g.apt.1 g.run.1 in
    let opened : (keeping_in s past p).core.node.homes t.0 ≡ Some h = ap (λ (q : ℕ). (keeping_in s past q).core.node.homes t.0) at ∙ it.home in
    rw opened (missing_at h.notices k.0 (omega (arith, it.places, lt))
    (omega (arith, it.notes k.0 lt, note_waits s past e p t k v notice r g is, most)))

-- A root: it hasn't had its turn.
pub root_unturned : (s : ScriptData) (past : List Entry) (e : Entry) (p : ℕ) (t : TreeNo) (r : Letter) → Doing s past e p r → r.body ≡ Root t
    → turns past t.0 0 ≡ 0
root_unturned s past e p t r g is =
    let sub : SubAt s t.0 0 = sub_of_node s p t.0 0 (sym (root_home s past e p t r g is)) g.does.brings.below in
    no_turn_yet s past t.0 0 sub g.valid g.apt.1 g.run.1 (asked s past e p t.0 0 r g (ap (asks t.0 0) is ∙ told_one t.0 0 0 refl))

root_notes : (s : ScriptData) (past : List Entry) (e : Entry) (p : ℕ) (t : TreeNo) (r : Letter) (out : Out Core) → Doing s past e p r
    → r.body ≡ Root t → p ≡ home_of s t.0 → SubAt s t.0 0 → core_row s p (keeping_in s past p).core r.from.0 r.body ≡ out
    → (b : RowBegins s t (keeping_in s past p).core out) → IsUnborn s past t.0
    → Notes s past e t (record { 0 = 0 }) b.values (begun t (length (subs_at s t.0)) b.version (keeping_in s past p).core.node.homes) (new_tree (length (subs_at s t.0)) b.version)
root_notes s past e p t r out g is at c row b u =
    let n : ℕ = length (subs_at s t.0) in
    let lt : 0 < n = get_below (subs_at s t.0) 0 c.sub (sub_here s t.0 0 c) in
    let k : SubNo = record { 0 = 0 } in
    let hs : OpenTrees = begun t n b.version (keeping_in s past p).core.node.homes in
    let turn = λ (i : ℕ). turned_here s past e p t.0 i r g ∙ ap (asks t.0 i) is ∙ first_one t.0 i in
    let same : (i : ℕ) → notices s (e ∷ past) t.0 i ≡ 0 = λ i. omega (arith, notes_here s past e p t.0 i r g, ap (tells_done t.0 i) is, ap (told t.0 i) is, u.notes i) in
    let sub = λ (i : ℕ) (less : i < n). sub_there s t.0 i (tree_there s t.0 0 c.sub (slice_get s.trees t.0) refl (sub_here s t.0 0 c)) less in
    record {
      home = home_here s past e p t.0 r g at ∙ ap (λ (o : Out Core). o.state.node.homes t.0) row ∙ b.row.home;
      settles = settles_by s past e p t.0 r (answer_noted t k b.values hs) g.run.0 g.does at (ap (decides t.0) is)
          (subst (λ (o : Out Core). RowSettles s t.0 (keeping_in s past p).core.holds o (answer_noted t k b.values hs)) (sym row) b.row.settles);
      root = omega (arith, turn 0, u.root);
      opened = begun-there t n b.version (keeping_in s past p).core.node.homes;
      unheld = u.held;
      places = none_places n;
      answers = u.answers;
      notes = λ i less.
          let before = turns_below_root s past t.0 i (sub i less) g.valid g.apt.1 g.run.1 in
          omega (arith, turn i, before, u.root, same i, root_noted n i b.values lt (cases_eq i 0));
      once = λ i less. turns_at_most_once s (e ∷ past) t.0 i (sub i less) g.valid g.apt g.run;
      no_others = λ i le. same i;
      decisions = u.decisions;
      visits = visits_home s t.0 c (omega (arith, at, g.does.brings.below));
    }

pub root_stage : (s : ScriptData) (past : List Entry) (e : Entry) (p : ℕ) (t : TreeNo) (r : Letter) → Doing s past e p r → r.body ≡ Root t
    → StageAt s past t.0 → StageAt s (e ∷ past) t.0
root_stage s past e p t r g is stage =
    let c : Core = (keeping_in s past p).core in
    let named : is_named s p r.from.0 (Root t) ≡ true = ap (is_named s p r.from.0) (sym is) ∙ apt_named s p c r g.does.brings.apt in
    let at : p ≡ home_of s t.0 = root_home s past e p t r g is in
    let sub : SubAt s t.0 0 = sub_of_node s p t.0 0 (sym at) g.does.brings.below in
    let lt : 0 < length (subs_at s t.0) = get_below (subs_at s t.0) 0 sub.sub (sub_here s t.0 0 sub) in
    let out : Out Core = core_row s p c r.from.0 (Root t) in
    let b : RowBegins s t c out = core_begins s p r.from.0 t c g.does.brings.below named in
    notes_stage s past e t (record { 0 = 0 }) b.values (begun t (length (subs_at s t.0)) b.version c.node.homes)
    (new_tree (length (subs_at s t.0)) b.version)
    (root_notes s past e p t r out g is at sub (ap (core_row s p c r.from.0) is) b
    (unborn_by s past t.0 sub (root_unturned s past e p t r g is) lt stage))
    (misses_root t (record { 0 = 0 }) (length (subs_at s t.0)) b.version c.node.homes lt)

-- Another subtransaction.
pub sub_stage : (s : ScriptData) (past : List Entry) (e : Entry) (p : ℕ) (t : TreeNo) (k : SubNo) (v : Version) (r : Letter) → Doing s past e p r
    → r.body ≡ SubLetter t k v → 0 < k.0 → StageAt s past t.0 → StageAt s (e ∷ past) t.0
sub_stage s past e p t k v r g is some stage =
    let sub : SubAt s t.0 k.0 = sub_of_node s p t.0 k.0 (sym (sub_place s past e p t k v r g is)) g.does.brings.below in
    let at = sub_here s t.0 k.0 sub in
    let lt : k.0 < length (subs_at s t.0) = get_below (subs_at s t.0) k.0 sub.sub at in
    let one : asks t.0 k.0 r.body ≡ 1 = ap (asks t.0 k.0) is ∙ told_one t.0 k.0 k.0 refl in
    let waiting = asked s past e p t.0 k.0 r g one in
    let none = no_turn_yet s past t.0 k.0 sub g.valid g.apt.1 g.run.1 waiting in
    let up : sub.sub.parent.0 < k.0 = parent_before s t.0 k.0 sub.sub g.valid at some in
    let parent : SubAt s t.0 sub.sub.parent.0 = sub_there s t.0 sub.sub.parent.0 (tree_there s t.0 k.0 sub.sub (slice_get s.trees t.0) refl at) (omega (arith, up, lt)) in
    let root : 1 ≤ turns past t.0 0 =
    omega (
      arith,
      waiting,
      sub_has_turns s past t.0 k.0 sub g.valid g.apt.1 g.run.1 some,
      turns_below_root s past t.0 sub.sub.parent.0 parent g.valid g.apt.1 g.run.1,
    ) in
    let turn = λ (i : ℕ). turned_here s past e p t.0 i r g ∙ ap (asks t.0 i) is in
    let b : Beside s past e t.0 = does_beside s past e p t.0 r g.run.0 g.does (rw is tt) in
    adds s past e t.0 k.0 lt none root
    (record {
      root = turn 0 ∙ told_none t.0 k.0 0 (omega (arith, some));
      home = b.home;
      held = b.held;
      answers = b.answers;
      notes = λ i. omega (arith, notes_here s past e p t.0 i r g, ap (tells_done t.0 i) is, ap (told t.0 i) is, turn i);
      no_others = λ i le. turn i ∙ told_none t.0 k.0 i (omega (arith, le, lt));
      decisions = b.decisions;
    })
    stage

-- A notice.
noted_here : (t k i : ℕ) (ns : List (Option Gets)) (values : Gets) (now before turn tells : ℕ) → k < length ns
    → turn ≡ before + is_noted (slice_get ns i) → now + tells ≡ before → tells ≡ one_if ((t == t) && (k == i)) → turn ≤ 1 → (i ≡ k) ⊎ (i ≢ k)
    → turn ≡ now + is_noted (slice_get (set ns k (Some values)) i)
noted_here t k i ns values now before turn tells lt count flows one most (inl is) =
    let new = subst (λ (j : ℕ). is_noted (slice_get (set ns k (Some values)) j) ≡ 1) (sym is) (noted_same ns k values lt) in
    omega (arith, count, flows, one, most, new, told_one t k i (sym is))
noted_here t k i ns values now before turn tells lt count flows one most (inr ne) =
    omega (arith, count, flows, one, noted_other ns k i values ne, told_none t k i ne)

note_notes : (s : ScriptData) (past : List Entry) (e : Entry) (p : ℕ) (t : TreeNo) (k : SubNo) (v : Version) (notice : Notice) (r : Letter) (h : OpenTree)
    → Doing s past e p r → r.body ≡ Done t k v notice → p ≡ home_of s t.0 → SubAt s t.0 0 → k.0 < length (subs_at s t.0) → IsGathering s past t.0 h
    → RowNotes s t k (values_of notice) (keeping_in s past p).core.node.homes (keeping_in s past p).core.holds
    (core_row s p (keeping_in s past p).core r.from.0 r.body)
    → Notes s past e t k (values_of notice) (keeping_in s past p).core.node.homes h
note_notes s past e p t k v notice r h g is at c lt it row =
    let hs : OpenTrees = (keeping_in s past p).core.node.homes in
    let turn = λ (i : ℕ). turned_here s past e p t.0 i r g ∙ ap (asks t.0 i) is in
    let sub = λ (i : ℕ) (less : i < length (subs_at s t.0)). sub_there s t.0 i (tree_there s t.0 0 c.sub (slice_get s.trees t.0) refl (sub_here s t.0 0 c)) less in
    let flows : (i : ℕ) → notices s (e ∷ past) t.0 i + tells_done t.0 i r.body ≡ notices s past t.0 i = λ i. omega (arith, notes_here s past e p t.0 i r g, ap (told t.0 i) is) in
    record {
      home = home_here s past e p t.0 r g at ∙ row.home;
      settles = settles_by s past e p t.0 r (answer_noted t k (values_of notice) hs) g.run.0 g.does at (ap (decides t.0) is) row.settles;
      root = omega (arith, turn 0, it.root);
      opened = ap (λ (q : ℕ). (keeping_in s past q).core.node.homes t.0) at ∙ it.home;
      unheld = it.held;
      places = it.places;
      answers = it.answers;
      notes = λ i less.
          let most = turns_at_most_once s past t.0 i (sub i less) g.valid g.apt.1 g.run.1 in
          omega (
            arith,
            turn i,
            noted_here t.0 k.0 i h.notices (values_of notice) (notices s (e ∷ past) t.0 i) (notices s past t.0 i) (turns past t.0 i) (tells_done t.0 i r.body)
                (omega (arith, it.places, lt)) (it.notes i less) (flows i) (ap (tells_done t.0 i) is) most (cases_eq i k.0),
          );
      once = λ i less. turns_at_most_once s (e ∷ past) t.0 i (sub i less) g.valid g.apt g.run;
      no_others = λ i le. omega (arith, it.no_others i le, notes_here s past e p t.0 i r g, ap (told t.0 i) is);
      decisions = it.decisions;
      visits = visits_home s t.0 c (omega (arith, at, g.does.brings.below));
    }

note_by : (s : ScriptData) (past : List Entry) (e : Entry) (p : ℕ) (t : TreeNo) (k : SubNo) (v : Version) (notice : Notice) (r : Letter)
    → Doing s past e p r → r.body ≡ Done t k v notice → NoteAt s p t k notice → 1 ≤ notices s past t.0 k.0 → StageAt s past t.0
    → StageAt s (e ∷ past) t.0
note_by s past e p t k v notice r g is n some (Unborn u) = absurd (omega (arith, some, u.notes k.0))
note_by s past e p t k v notice r g is n some (Holds h it) = absurd (omega (arith, some, it.all.notes k.0))
note_by s past e p t k v notice r g is n some (Answered it) = absurd (omega (arith, some, it.all.notes k.0))
note_by s past e p t k v notice r g is n some (Gathers h it) =
    let co : Core = (keeping_in s past p).core in
    let root : SubAt s t.0 0 = sub_of_node s p t.0 0 (sym n.home) g.does.brings.below in
    notes_stage s past e t k (values_of notice) co.node.homes h
    (note_notes s past e p t k v notice r h g is n.home root n.below it
    (subst (λ (b : Body). RowNotes s t k (values_of notice) co.node.homes co.holds (core_row s p co r.from.0 b)) (sym is)
    (core_notes s p r.from.0 t k v notice co)))
    (note_missed s past e p t k v notice r h g is n.home n.below it)

pub note_stage : (s : ScriptData) (past : List Entry) (e : Entry) (p : ℕ) (t : TreeNo) (k : SubNo) (v : Version) (notice : Notice) (r : Letter)
    → Doing s past e p r → r.body ≡ Done t k v notice → StageAt s past t.0 → StageAt s (e ∷ past) t.0
note_stage s past e p t k v notice r g is stage =
    note_by s past e p t k v notice r g is (note_at s past e p t k v notice r g is) (note_waits s past e p t k v notice r g is) stage

-- What a node tells of a decision.
pub decided_stage : (s : ScriptData) (past : List Entry) (e : Entry) (p : ℕ) (t : TreeNo) (v : Version) (r : Letter) → Doing s past e p r
    → r.body ≡ Decided t v → StageAt s past t.0 → StageAt s (e ∷ past) t.0
decided_stage s past e p t v r g is stage =
    let c : Core = (keeping_in s past p).core in
    let at : p ≡ home_of s t.0 = ack_home s past e p t v r g is in
    let row : core_row s p c r.from.0 r.body ≡ core_row s p c r.from.0 (Decided t v) = ap (core_row s p c r.from.0) is in
    let opened : c.node.homes t.0 ≡ home_at s past t.0 = ap (λ (q : ℕ). (keeping_in s past q).core.node.homes t.0) at in
    let before : c.holds t.0 ≡ held_at s past t.0 = ap (λ (q : ℕ). (keeping_in s past q).core.holds t.0) at in
    let core : (keeping_in s (e ∷ past) p).core ≡ (core_row s p c r.from.0 (Decided t v)).state = g.does.core ∙ ap (λ (o : Out Core). o.state) row in
    let held : held_at s (e ∷ past) t.0 ≡ acked_of (c.holds t.0) =
    subst (λ (q : ℕ). (keeping_in s (e ∷ past) q).core.holds t.0 ≡ acked_of (c.holds t.0)) at
    (ap (λ (x : Core). x.holds t.0) core ∙ put_at-same t.0 (acked_of (held_in t c.holds)) c.holds) in
    acks_stage s past e t.0 c.refusals
    (record {
      turned = λ k. turned_here s past e p t.0 k r g ∙ ap (asks t.0 k) is;
      home = home_here s past e p t.0 r g at ∙ ap (λ (o : Out Core). o.state.node.homes t.0) row ∙ opened;
      held = held ∙ ap acked_of before;
      answers = sent_by (replies_to t.0) s past e p r (λ u k. refl) g.does ∙ ap (λ (o : Out Core). tally (on (replies_to t.0)) o.sent) row
          ∙ ap (λ (o : Option Held). tally (on (replies_to t.0)) (answer_letters s c.refusals (last_answer o))) before;
      notes = λ k. omega (arith, notes_here s past e p t.0 k r g, ap (tells_done t.0 k) is, ap (told t.0 k) is);
      decisions = omega (
        arith,
        done_flow (decides t.0) s past e (decides_no_asking t.0) g.run.0,
        does_number (λ (l : Letter). decides t.0 l.body) s past e p r g.does,
        ap (decides t.0) is,
        one_here t.0 t.0 refl,
        sent_by (decides t.0) s past e p r (λ u k. refl) g.does,
        ap (λ (o : Out Core). tally (on (decides t.0)) o.sent) row,
        answer_quiet s t.0 c.refusals (answer_when_acked t c.holds),
      );
    })
    stage
