-- In every run of every valid script: a transaction that an entry bears takes the version of its node, a read
-- transaction that which is read, and any other that which is updated; a strict transaction is born only if that
-- follows the one that is read.
use Rattle.std.proofs.Common.{◌≡◌, ◌⊎◌, inl, inr, ℕ, ◌+◌, ◌<◌, ◌≤◌, ◌==◌, Bool, true, false, List, [], ◌∷◌, ◌++◌, refl, sym, ap, subst, ◌∙◌, arith, Option, Some, None}
use Rattle.std.specs.Prelude.{if◌then◌else◌, slice_get}
use Rattle.std.specs.Option.{option_or}
use Rattle.std.proofs.lemmas.Bool.Decides.{nat_tests}
use Rattle.tv_base.specs.declared.numbers.TreeNo.{TreeNo}
use Rattle.tv_base.specs.declared.numbers.Version.{Version}
use Rattle.letter_types.specs.declared.bodies.Body.{Body}
use Rattle.letter_types.specs.declared.bodies.Body.TheVariants.{Root, Sub as SubLetter}
use Rattle.letter_types.specs.declared.entries.Entry.{Entry}
use Rattle.letter_types.specs.declared.entries.Letter.{Letter}
use Rattle.tx_trees.specs.ScriptData.{ScriptData, is_read, is_strict, reads}
use Rattle.tx_trees.specs.Valid.{IsValid}
use Rattle.tx_trees.specs.declared.parts.Tree.{Tree}
use Rattle.tx_trees.specs.declared.parts.TreeKind.{TreeKind}
use Rattle.tx_trees.specs.declared.parts.TreeKind.TheVariants.{Update, Read, Strict}
use Rattle.board_rules.specs.Histories.{Place, places_at, version_in}
use Rattle.board_rules.proofs.Places.{version_in-append, places_more}
use Rattle.world_model.specs.AllApt.{AllApt}
use Rattle.world_model.specs.Core.{Core}
use Rattle.world_model.specs.Counts.{one_if, tally}
use Rattle.world_model.specs.Named.{is_strict_at, tree_kind_at}
use Rattle.world_model.specs.Node.{Node}
use Rattle.world_model.specs.Runs.{IsStepRun, client_in, keeping_in, node_in}
use Rattle.world_model.specs.Strict.{core_keeping, is_born_now, kept_by_kind, root_waiting}
use Rattle.world_model.proofs.Cases.{Case, Coordinates, Does, NodeDoes, NodeKeeps, Submits, case, does_number}
use Rattle.tree_laws.specs.Dids.{asks, is_born, letters_asking}
use Rattle.tree_laws.proofs.histories.Acts.{acts_more, of_act}
use Rattle.tree_laws.proofs.decided.AptRulings.{client_acts, keeping_acts}
use Rattle.tree_laws.proofs.apt.AptSteps.{Enters, does_as, done_before, none_strays, strays}
use Rattle.tree_laws.proofs.apt.AptTurns.{born_of, one_birth}
use Rattle.tree_laws.proofs.apt.AptVersions.{DoneIn, before, dated_run, done_dated, not_born, version_is}
use Rattle.tree_laws.proofs.homes.Staging.{told_one}
use Rattle.tree_laws.proofs.histories.Turns.{kind_version, work_version}
use Rattle.tree_laws.proofs.homes.Counted.{unborn}
use Rattle.run_laws.proofs.each_tree.EveryApt.{all_apt}

-- who bears tree t, and in which version
pub record IsBornAt (s : ScriptData) (past : List Entry) (e : Entry) (t : ℕ) (w : Version) : Type 0 where
  pub node : e.actor.0 < s.nodes
  pub read : reads s t ≡ true → w.0 ≡ (node_in s past e.actor.0).turns.read.0
  pub update : reads s t ≡ false → w.0 ≡ (node_in s past e.actor.0).turns.update.0
  pub strict : is_strict_at s t ≡ true
      → (node_in s past e.actor.0).turns.update.0 ≡ (node_in s past e.actor.0).turns.read.0 + 1

-- An entry without births bears no tree.
births_at : (t : ℕ) (e : Entry) → tally (of_act (is_born t)) (places_at e) ≡ tally (is_born t) e.acts
births_at t e =
    omega (
      arith,
      ap (λ (xs : List Place). tally (of_act (is_born t)) xs) (places_more e []),
      acts_more (is_born t) [] e,
    )

no_births : (s : ScriptData) (past : List Entry) (e : Entry) (t : ℕ) (w : Version) → tally (is_born t) e.acts ≡ 0
    → version_in t (places_at e) ≡ Some w → IsBornAt s past e t w
no_births s past e t w none some =
    let unborn_here : version_in t (places_at e) ≡ None = unborn t (places_at e) (births_at t e ∙ none) in
    absurd (cc (unborn_here, some))

-- The version in which a tree is born, by its kind.
read_turn : (c : Core) (kind : TreeKind) → is_read kind ≡ true → kind_version c (Some kind) ≡ c.node.turns.read
read_turn c Update is = absurd (cc is)
read_turn c Read is = refl
read_turn c Strict is = absurd (cc is)

update_turn : (c : Core) (kind : TreeKind) → is_read kind ≡ false → kind_version c (Some kind) ≡ c.node.turns.update
update_turn c Update is = refl
update_turn c Read is = absurd (cc is)
update_turn c Strict is = refl

reader_turn : (s : ScriptData) (t : ℕ) (c : Core) (found : Option Tree) → slice_get s.trees t ≡ found → reads s t ≡ true
    → kind_version c (tree_kind_at s t) ≡ c.node.turns.read
reader_turn s t c None is of = let no : reads s t ≡ false = rw (is, reads) refl in absurd (cc (of, no))
reader_turn s t c (Some tree) is of =
    let kind : tree_kind_at s t ≡ Some tree.kind = rw (is, tree_kind_at) refl in
    ap (kind_version c) kind ∙ read_turn c tree.kind (rw (is, reads) at of)

writer_turn : (s : ScriptData) (t : ℕ) (c : Core) (found : Option Tree) → slice_get s.trees t ≡ found → reads s t ≡ false
    → kind_version c (tree_kind_at s t) ≡ c.node.turns.update
writer_turn s t c None is of = let none : tree_kind_at s t ≡ None = rw (is, tree_kind_at) refl in ap (kind_version c) none
writer_turn s t c (Some tree) is of =
    let kind : tree_kind_at s t ≡ Some tree.kind = rw (is, tree_kind_at) refl in
    ap (kind_version c) kind ∙ update_turn c tree.kind (rw (is, reads) at of)

-- a strict tree's root that isn't kept
now_by : (st : Node) (t : TreeNo) (c : Core) (test : Bool) → (if test then None else Some (root_waiting t c)) ≡ None → test ≡ true
now_by st t c true is = refl
now_by st t c false is = absurd (cc is)

strict_now : (s : ScriptData) (t : TreeNo) (c : Core) (kind : Option TreeKind) → elim kind [ Some x ↦ is_strict x | None ↦ false ] ≡ true
    → kept_by_kind s c t (Root t) kind ≡ None → is_born_now c.node ≡ true
strict_now s t c (Some Strict) is now = now_by c.node t c (is_born_now c.node) now
strict_now s t c (Some Update) is now = absurd (cc is)
strict_now s t c (Some Read) is now = absurd (cc is)
strict_now s t c None is now = absurd (cc is)

-- A root bears its tree.
root_version : (s : ScriptData) (past : List Entry) (e : Entry) (p : ℕ) (u : TreeNo) (w : Version) (r : Letter) → IsValid s
    → AllApt s past → IsStepRun s (e ∷ past) → Does s past e p r → r.body ≡ Root u → version_in u.0 (places_at e) ≡ Some w
    → w.0 ≡ (kind_version (keeping_in s past p).core (tree_kind_at s u.0)).0
root_version s past e p u w r valid apt run d is some =
    let c : Core = (keeping_in s past p).core in
    let zs : List Place = before past ++ places_at e in
    let v : Version = work_version s c (Root u) in
    let n = does_as s past e p r run.0 (none_strays s past valid apt run.1) d in
    let dated : DoneIn zs v (Root u) =
    subst (λ (b : Body). DoneIn zs (work_version s c b) b) is
    (subst (λ (x : Version). DoneIn zs x r.body) n.1.0
    (subst (λ (b : Body). DoneIn zs n.0.version b) n.1.1 (done_dated s past e valid apt run (dated_run s past valid apt run.1) n.0))) in
    let waits : 1 ≤ letters_asking s past u.0 0 =
    omega (
      arith,
      does_number (λ (l : Letter). asks u.0 0 l.body) s past e p r d,
      done_before (λ (l : Letter). asks u.0 0 l.body) s past e run.0,
      ap (asks u.0 0) is,
      told_one u.0 0 0 refl,
    ) in
    let fresh : version_in u.0 (before past) ≡ None = not_born s past u.0 valid apt run.1 waits in
    let all : version_in u.0 zs ≡ version_in u.0 (places_at e) =
    version_in-append u.0 (before past) (places_at e) ∙ ap (λ (o : Option Version). option_or o (version_in u.0 (places_at e))) fresh in
    let same : Some w ≡ Some v = sym some ∙ sym all ∙ version_is (version_in u.0 zs) v dated in
    cc same

root_born : (s : ScriptData) (past : List Entry) (e : Entry) (p : ℕ) (u : TreeNo) (w : Version) (r : Letter) → IsValid s
    → AllApt s past → IsStepRun s (e ∷ past) → Does s past e p r → r.body ≡ Root u → version_in u.0 (places_at e) ≡ Some w
    → IsBornAt s past e u.0 w
root_born s past e p u w r valid apt run d is some =
    let c : Core = (keeping_in s past p).core in
    let at = d.brings.at in
    let number = root_version s past e p u w r valid apt run d is some in
    let found = slice_get s.trees u.0 in
    record {
      node = omega (arith, at, d.brings.below);
      read = λ of.
          number ∙ ap (λ (v : Version). v.0) (reader_turn s u.0 c found refl of)
          ∙ ap (λ (q : ℕ). (node_in s past q).turns.read.0) (sym at);
      update = λ of.
          number ∙ ap (λ (v : Version). v.0) (writer_turn s u.0 c found refl of)
          ∙ ap (λ (q : ℕ). (node_in s past q).turns.update.0) (sym at);
      strict = λ of.
          let now : is_born_now (node_in s past p) ≡ true =
          strict_now s u c (tree_kind_at s u.0) of (ap (core_keeping s c) (sym is) ∙ d.now) in
          let turns : (node_in s past p).turns.update.0 ≡ (node_in s past p).turns.read.0 + 1 = grind (arith, nat_tests) in
          subst (λ (q : ℕ). (node_in s past q).turns.update.0 ≡ (node_in s past q).turns.read.0 + 1) (sym at) turns;
    }

-- the letter that an entry does, by its body
asks_root : (s : ScriptData) (to t : ℕ) (body : Body) → strays s to body ≡ 0 → (asks t 0 body ≡ 0) ⊎ ((u : TreeNo) × ((body ≡ Root u) × (u.0 ≡ t)))
asks_root s to t (Root u) near = by (u.0 == t) refl where
  by : (test : Bool) → (u.0 == t) ≡ test → (asks t 0 (Root u) ≡ 0) ⊎ ((x : TreeNo) × ((Root u ≡ Root x) × (x.0 ≡ t)))
  by true is = inr (u, (refl, grind (arith, nat_tests)))
  by false is = inl (rw is refl)
asks_root s to t (SubLetter u k v) near =
    let later : one_if (k.0 == 0) ≡ 0 = omega (arith, near) in
    inl (grind (arith, nat_tests))
asks_root s to t _ near = inl refl

does_born : (s : ScriptData) (past : List Entry) (e : Entry) (p t : ℕ) (w : Version) (r : Letter) → IsValid s → AllApt s past
    → IsStepRun s (e ∷ past) → Does s past e p r → (n : Enters s past e) → n.body ≡ r.body → version_in t (places_at e) ≡ Some w
    → (asks t 0 n.body ≡ 0) ⊎ ((u : TreeNo) × ((n.body ≡ Root u) × (u.0 ≡ t))) → IsBornAt s past e t w
does_born s past e p t w r valid apt run d n same some (inl none) =
    no_births s past e t w (n.acts (is_born t) (born_of t) ∙ one_birth s n.to t n.version n.notice n.body n.near ∙ none) some
does_born s past e p t w r valid apt run d n same some (inr (u, (is, its))) =
    subst (λ (x : ℕ). IsBornAt s past e x w) its
    (root_born s past e p u w r valid apt run d (sym same ∙ is) (subst (λ (x : ℕ). version_in x (places_at e) ≡ Some w) (sym its) some))

born_by_case : (s : ScriptData) (past : List Entry) (e : Entry) (t : ℕ) (w : Version) → IsValid s → AllApt s past
    → IsStepRun s (e ∷ past) → version_in t (places_at e) ≡ Some w → Case s past e → IsBornAt s past e t w
born_by_case s past e t w valid apt run some (NodeDoes p r d) =
    let n = does_as s past e p r run.0 (none_strays s past valid apt run.1) d in
    does_born s past e p t w r valid apt run d n.0 n.1.1 some (asks_root s n.0.to t n.0.body n.0.near)
born_by_case s past e t w valid apt run some (NodeKeeps p r k d) =
    no_births s past e t w
    (ap (tally (is_born t)) d.acts
    ∙ keeping_acts (is_born t) s (keeping_in s past p).core r.body k
    (record { turned = λ v. refl; parked = λ u j i x. refl; waits = λ u v x. refl })
    d.keeps)
    some
born_by_case s past e t w valid apt run some (Coordinates at made) =
    no_births s past e t w (ap (tally (is_born t)) made.acts) some
born_by_case s past e t w valid apt run some (Submits at says) =
    no_births s past e t w (ap (tally (is_born t)) says.1 ∙ client_acts (is_born t) s (client_in s past) e.took.body refl) some

-- a tree that an entry bears takes its node's version
pub birth_at : (s : ScriptData) (past : List Entry) (e : Entry) (t : ℕ) (w : Version) → IsValid s → IsStepRun s (e ∷ past)
    → version_in t (places_at e) ≡ Some w → IsBornAt s past e t w
birth_at s past e t w valid run some =
    let apt = all_apt s (e ∷ past) valid run in
    born_by_case s past e t w valid apt.1 run some (case s past e run.0 apt.0)
