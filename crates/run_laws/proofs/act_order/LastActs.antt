-- A decision is the last act of its entry, so its transaction has had all its turns before it.
use Rattle.std.proofs.Common.{◌≡◌, ◌⊎◌, inl, inr, ℕ, zero, suc, ◌+◌, ◌<◌, ◌≤◌, Bool, true, false, List, [], ◌∷◌, ◌++◌, map, length, take, refl, sym, ap, ◌∙◌, subst, arith, append-nil, Option, Some, None}
use Rattle.std.specs.Prelude.{if◌then◌else◌, nat_lt, slice_get}
use Rattle.std.proofs.Math.Seq.{take-append_seam}
use Rattle.std.proofs.lemmas.List.Elements.{filter-append}
use Rattle.tv_base.proofs.ByPlace.{slice_get_split}
use Rattle.tv_base.specs.declared.numbers.SubNo.{SubNo}
use Rattle.tv_base.specs.declared.numbers.TreeNo.{TreeNo}
use Rattle.tv_base.specs.declared.numbers.Version.{Version}
use Rattle.letter_types.specs.declared.acts.Act.{Act}
use Rattle.letter_types.specs.declared.acts.Act.TheVariants as acts
use Rattle.letter_types.specs.declared.bodies.Body.{Body}
use Rattle.letter_types.specs.declared.bodies.Body.TheVariants.{Root, Sub as SubLetter, Done, Turn, Show, Sweep, Decide, Decided, Release, AskDone, AskAsked, Order, Ask}
use Rattle.letter_types.specs.declared.bodies.Notice.{Notice}
use Rattle.letter_types.specs.declared.bodies.Notice.TheVariants as notices
use Rattle.letter_types.specs.declared.entries.Entry.{Entry}
use Rattle.letter_types.specs.declared.votes.Vote.{Vote}
use Rattle.letter_types.specs.Steps.{Out}
use Rattle.tree_home.specs.declared.homes.Answered.{Answered}
use Rattle.script_parts.specs.declared.parts.TreeKind.{TreeKind}
use Rattle.script_parts.specs.declared.parts.TreeKind.TheVariants.{Update, Read, Strict}
use Rattle.script_parts.specs.ScriptData.{ScriptData}
use Rattle.world_model.specs.Asked.{asked_ops, asked_version, tree_part}
use Rattle.world_model.specs.Core.{Core}
use Rattle.world_model.specs.Counts.{one_if, tally}
use Rattle.world_model.specs.Done.{TreeOut, note_part, turned_if}
use Rattle.world_model.specs.Named.{is_strict_at, tree_kind_at}
use Rattle.world_model.specs.Node.{Effect, Node}
use Rattle.world_model.specs.Notices.{act_of, values_of}
use Rattle.world_model.specs.Reads.{getting}
use Rattle.world_model.specs.Strict.{core_by_kind, core_row, decided, locks_by, none_refuses, note_core, noted_vote, refused_there, voting}
use Rattle.world_model.specs.Updates.{touching}
use Rattle.world_model.specs.Votes.{vote_of}
use Rattle.world_model.proofs.Bags.{tally-append}
use Rattle.world_model.proofs.Epochs.{ask_each, order_each}
use Rattle.board_rules.specs.Histories.{Place, places_at}
use Rattle.tree_laws.specs.Turns.{has_turn, turns}
use Rattle.tree_laws.proofs.histories.Acts.{of_act}
use Rattle.tree_laws.proofs.apt.AptVersions.{before}
use Rattle.run_laws.proofs.act_order.RowActs.{is_lasting, lasting, tally_lasting}
use Rattle.run_laws.proofs.strict.Agreed.{turns_others}
use Rattle.run_laws.proofs.act_order.Fronts.{first_places, front, placed}
use Rattle.run_laws.proofs.act_order.Turns.{turns_in}

-- A decision is the last act of its entry.
abbrev pub is_decided : Act → Bool
is_decided (acts.Decided t commit) = true
is_decided acts.Finished = false
is_decided _ = false

abbrev decisions_in : List Act → ℕ
decisions_in xs = tally (λ (a : Act). one_if (is_decided a)) xs

counted : (xs : List Act) (j : ℕ) (a : Act) → slice_get xs j ≡ Some a → is_decided a ≡ true → 1 ≤ decisions_in xs
counted [] j a is so = absurd (cc is)
counted (x ∷ xs) zero a is so =
    let same : x ≡ a = cc is in
    let one : one_if (is_decided x) ≡ 1 = ap (λ (y : Act). one_if (is_decided y)) same ∙ ap one_if so in omega (arith, one)
counted (x ∷ xs) (suc j) a is so = omega (arith, counted xs j a is so)

-- acts without one
none_there : (xs : List Act) (j : ℕ) (a : Act) → decisions_in xs ≡ 0 → slice_get xs j ≡ Some a → is_decided a ≡ true → lasting (take j xs) ≡ lasting xs
none_there xs j a none is so = absurd (omega (arith, none, counted xs j a is so))

told_none : (t : TreeNo) (k : SubNo) (n : Notice) → one_if (is_decided (act_of t k n)) ≡ 0
told_none t k (notices.Did values) = refl
told_none t k (notices.Yes values) = refl
told_none t k (notices.No cause) = refl

turned_none : (raises : Bool) (v : ℕ) → decisions_in (turned_if raises v) ≡ 0
turned_none true v = refl
turned_none false v = refl

part_none : (s : ScriptData) (p from : ℕ) (v : Version) (raises : Bool) (e : Effect) (body : Body) (st : Node)
    → decisions_in (tree_part s p from v raises e body st).out.acts ≡ 0
part_none s p from v raises e (Root t) st = omega (arith, told_none t (record { 0 = 0 }) e.notice)
part_none s p from v raises e (SubLetter t k w) st =
    omega (
      arith,
      tally-append (λ (a : Act). one_if (is_decided a)) (turned_if raises v.0) (act_of t k e.notice ∷ []),
      turned_none raises v.0,
      told_none t k e.notice,
    )
part_none s p from v raises e _ st = refl

last_by : (xs : List Act) (x : Act) (j : ℕ) (a : Act) → decisions_in xs ≡ 0 → is_lasting x ≡ false → slice_get (xs ++ x ∷ []) j ≡ Some a
    → is_decided a ≡ true → lasting (take j (xs ++ x ∷ [])) ≡ lasting (xs ++ x ∷ [])
last_by xs x j a none quiet is so = by (slice_get_split xs x j a is) where
  goes : lasting (xs ++ x ∷ []) ≡ lasting xs
  goes =
      filter-append is_lasting xs (x ∷ [])
      ∙ ap (λ (b : Bool). lasting xs ++ (if b then x ∷ [] else [])) quiet ∙ append-nil (lasting xs)

  by : ((j < length xs) × (slice_get xs j ≡ Some a)) ⊎ ((j ≡ length xs) × (x ≡ a)) → lasting (take j (xs ++ x ∷ [])) ≡ lasting (xs ++ x ∷ [])
  by (inl early) = absurd (omega (arith, none, counted xs j a early.1 so))
  by (inr last) =
      ap (λ (n : ℕ). lasting (take n (xs ++ x ∷ []))) last.0 ∙ ap lasting (take-append_seam xs (x ∷ [])) ∙ sym goes

decided_last : (s : ScriptData) (c : Core) (o : TreeOut) (found : Option Answered) (j : ℕ) (a : Act) → decisions_in o.out.acts ≡ 0
    → slice_get (decided s c o found).acts j ≡ Some a → is_decided a ≡ true
    → lasting (take j (decided s c o found).acts) ≡ lasting (decided s c o found).acts
decided_last s c o None j a none is so = none_there o.out.acts j a none is so
decided_last s c o (Some b) j a none is so =
    last_by o.out.acts (acts.Decided b.tree (none_refuses b.tree c.refusals)) j a none refl is so

kind_last : (s : ScriptData) (p from : ℕ) (t : TreeNo) (body : Body) (kind : Option TreeKind) (c : Core) (j : ℕ) (a : Act)
    → slice_get (core_by_kind s p from t body kind c).acts j ≡ Some a → is_decided a ≡ true
    → lasting (take j (core_by_kind s p from t body kind c).acts) ≡ lasting (core_by_kind s p from t body kind c).acts
kind_last s p from t body (Some Update) c j a is so =
    let v : Version = asked_version c.node.turns.update body in
    let raises : Bool = nat_lt c.node.turns.update.0 v.0 in
    let e : Effect = touching v (asked_ops s body) c.node.items in
    none_there (tree_part s p from v raises e body c.node).out.acts j a (part_none s p from v raises e body c.node) is so
kind_last s p from t body (Some Read) c j a is so =
    let v : Version = asked_version c.node.turns.read body in
    let e : Effect = getting v (asked_ops s body) c.node.items in
    none_there (tree_part s p from v false e body c.node).out.acts j a (part_none s p from v false e body c.node) is so
kind_last s p from t body (Some Strict) c j a is so =
    let v : Version = asked_version c.node.turns.update body in
    let raises : Bool = nat_lt c.node.turns.update.0 v.0 in
    let vote : Vote = vote_of c.locks c.node.items t v (asked_ops s body) in
    let o : TreeOut = tree_part s p from v raises (voting vote c.node.items) body c.node in
    let noted : Core = record c { locks = locks_by vote t (asked_ops s body) c.locks; refusals = noted_vote body vote c.refusals } in
    decided_last s noted o o.answered j a (part_none s p from v raises (voting vote c.node.items) body c.node) is so
kind_last s p from t body None c j a is so = none_there [] j a refl is so

note_last : (s : ScriptData) (from : ℕ) (t : TreeNo) (k : SubNo) (v : Version) (notice : Notice) (c : Core) (strict : Bool) (j : ℕ) (a : Act)
    → is_strict_at s t.0 ≡ strict → slice_get (note_core s from t k v notice c).acts j ≡ Some a → is_decided a ≡ true
    → lasting (take j (note_core s from t k v notice c).acts) ≡ lasting (note_core s from t k v notice c).acts
note_last s from t k v notice c true j a at is so =
    let o : TreeOut = note_part from t.0 k.0 v.0 (values_of notice) c.node in
    let noted : Core = record c { refusals = refused_there t k notice c } in
    let same : (note_core s from t k v notice c).acts ≡ (decided s noted o o.answered).acts = rw at refl in
    subst (λ (xs : List Act). lasting (take j xs) ≡ lasting xs) (sym same)
    (decided_last s noted o o.answered j a refl (subst (λ (xs : List Act). slice_get xs j ≡ Some a) same is) so)
note_last s from t k v notice c false j a at is so =
    let same : (note_core s from t k v notice c).acts ≡ [] = rw at refl in
    absurd (none_left j a (subst (λ (xs : List Act). slice_get xs j ≡ Some a) same is)) where
      none_left : (i : ℕ) (b : Act) → slice_get [] i ≡ Some b → ⊥
      none_left i b no_such = absurd (cc no_such)

-- the acts of an order, whichever it is
abbrev AreLast : List Act → Type 0
AreLast xs = (j : ℕ) (a : Act) → slice_get xs j ≡ Some a → is_decided a ≡ true → lasting (take j xs) ≡ lasting xs

pub row_last : (s : ScriptData) (p from : ℕ) (body : Body) (c : Core) (j : ℕ) (a : Act) → slice_get (core_row s p c from body).acts j ≡ Some a
    → is_decided a ≡ true → lasting (take j (core_row s p c from body).acts) ≡ lasting (core_row s p c from body).acts
row_last s p from (Root t) c j a is so = kind_last s p from t (Root t) (tree_kind_at s t.0) c j a is so
row_last s p from (SubLetter t k v) c j a is so = kind_last s p from t (SubLetter t k v) (tree_kind_at s t.0) c j a is so
row_last s p from (Done t k v notice) c j a is so = note_last s from t k v notice c (is_strict_at s t.0) j a refl is so
row_last s p from (Decide t v commit) c j a is so = none_there (acts.Applied t commit ∷ []) j a refl is so
row_last s p from (Decided t v) c j a is so = none_there [] j a refl is so
row_last s p from (Release t) c j a is so = none_there (acts.Freed t ∷ []) j a refl is so
row_last s p from (Turn v) c j a is so =
    let raises : Bool = nat_lt c.node.turns.update.0 v.0 in none_there (turned_if raises v.0) j a (turned_none raises v.0) is so
row_last s p from (Show v) c j a is so = none_there (acts.Showed v ∷ []) j a refl is so
row_last s p from (Sweep v) c j a is so = none_there (acts.Swept v ∷ []) j a refl is so
row_last s p from (AskDone v k) c j a is so = none_there [] j a refl is so
row_last s p from (AskAsked v k) c j a is so = none_there [] j a refl is so
row_last s p from (Order e what v) c j a is so =
    order_each (λ (o : Out Core). AreLast o.acts) s e what v c (λ i b. none_there [] i b refl) (λ i b. none_there [] i b refl)
    (λ to i b. let raises : Bool = nat_lt c.node.turns.update.0 v.0 in none_there (turned_if raises v.0) i b (turned_none raises v.0))
    (λ to new i b. none_there (acts.Showed v ∷ []) i b refl) (λ to new i b. none_there (acts.Swept v ∷ []) i b refl) j a is so
row_last s p from (Ask e) c j a is so =
    ask_each (λ (o : Out Core). AreLast o.acts) s e c (λ i b. none_there [] i b refl) (λ i b. none_there [] i b refl) j a is so
row_last s p from _ c j a is so = none_there [] j a refl is so

-- so all turns are had before it
placed_sum : (f : Act → ℕ) (n : ℕ) (xs : List Act) → tally (of_act f) (map (placed n) xs) ≡ tally f xs
placed_sum f n [] = refl
placed_sum f n (a ∷ xs) = omega (arith, placed_sum f n xs)

pub front_sum : (f : Act → ℕ) (past : List Entry) (e : Entry) (j : ℕ)
    → tally (of_act f) (front past e j) ≡ tally (of_act f) (before past) + tally f (take j e.acts)
front_sum f past e j =
    omega (
      arith,
      tally-append (of_act f) (before past) (take j (places_at e)),
      ap (λ (ys : List Place). tally (of_act f) ys) (first_places e j),
      placed_sum f e.actor.0 (take j e.acts),
    )

pub turns_before : (past : List Entry) (e : Entry) (j t k : ℕ) → lasting (take j e.acts) ≡ lasting e.acts
    → tally (of_act (has_turn t k)) (front past e j) ≡ turns (e ∷ past) t k
turns_before past e j t k last =
    omega (
      arith,
      front_sum (has_turn t k) past e j,
      turns_in past t k,
      tally_lasting (has_turn t k) (turns_others t k) (take j e.acts),
      ap (λ (xs : List Act). tally (has_turn t k) xs) last,
      tally_lasting (has_turn t k) (turns_others t k) e.acts,
    )
