-- The acts of an entry that last: those of subtransactions, and those that let locks go. Folds and numbers of them
-- alone.
use Rattle.std.proofs.Common.{◌≡◌, ℕ, ◌+◌, Bool, true, false, List, [], ◌∷◌, ◌++◌, refl, ap, ◌∙◌, arith, Option, Some, None}
use Rattle.std.specs.Prelude.{if◌then◌else◌, filter, fold, nat_lt}
use Rattle.std.proofs.lemmas.List.{append-nil}
use Rattle.std.proofs.lemmas.List.Elements.{filter-append}
use Rattle.tv_base.specs.declared.numbers.SubNo.{SubNo}
use Rattle.tv_base.specs.declared.numbers.TreeNo.{TreeNo}
use Rattle.tv_base.specs.declared.numbers.Version.{Version}
use Rattle.letter_types.specs.declared.acts.Act.{Act}
use Rattle.letter_types.specs.declared.acts.Act.TheVariants as acts
use Rattle.letter_types.specs.declared.bodies.Body.{Body}
use Rattle.letter_types.specs.declared.bodies.Body.TheVariants.{Root, Sub as SubLetter, Done, Turn, Show, Sweep, Decide, Decided, Release, AskDone, AskAsked, Order, Ask}
use Rattle.letter_types.specs.declared.bodies.Notice.{Notice}
use Rattle.letter_types.specs.declared.bodies.Notice.TheVariants as notices
use Rattle.letter_types.specs.declared.votes.Vote.{Vote}
use Rattle.script_parts.specs.ScriptData.{ScriptData}
use Rattle.script_parts.specs.declared.parts.TreeKind.{TreeKind}
use Rattle.script_parts.specs.declared.parts.TreeKind.TheVariants.{Update, Read, Strict}
use Rattle.tree_home.specs.declared.homes.Answered.{Answered}
use Rattle.world_model.specs.Asked.{asked_ops, asked_version, tree_part}
use Rattle.world_model.specs.Core.{Core}
use Rattle.world_model.specs.Counts.{one_if, tally}
use Rattle.world_model.specs.Done.{TreeOut, note_part, turned_if}
use Rattle.world_model.specs.Named.{is_strict_at, tree_kind_at}
use Rattle.world_model.specs.Notices.{act_of, values_of}
use Rattle.world_model.specs.Reads.{gets}
use Rattle.world_model.specs.Strict.{CoreKeeping, core_by_kind, core_keeping, core_row, decided, locks_by, none_refuses, note_core, noted_vote, notice_by, refused_there, voting}
use Rattle.world_model.specs.Votes.{vote_of}
use Rattle.world_model.proofs.Keepings.{of_kept}
use Rattle.world_model.proofs.Epochs.{order_each, ask_each}
use Rattle.letter_types.specs.Steps.{Out}

-- a Did, a vote, an Applied or a Freed
abbrev pub is_lasting : Act → Bool
is_lasting (acts.Did t k values) = true
is_lasting (acts.Voted t k vote) = true
is_lasting (acts.Applied t commit) = true
is_lasting (acts.Freed t) = true
is_lasting acts.Finished = false
is_lasting _ = false

abbrev pub lasting : List Act → List Act
lasting xs = filter is_lasting xs

-- What leaves a value at every other act makes of acts what it makes of those that last.
pub fold_lasting : {W : Type 0} (f : W → Act → W) → ((w : W) (a : Act) → is_lasting a ≡ false → f w a ≡ w) → (w : W) (xs : List Act)
    → fold f w xs ≡ fold f w (lasting xs)
fold_lasting f others w [] = refl
fold_lasting f others w (a ∷ xs) = by (is_lasting a) refl (λ v. fold_lasting f others v xs) where
  by : (test : Bool) → is_lasting a ≡ test → ((v : _) → fold f v xs ≡ fold f v (lasting xs))
      → fold f w (a ∷ xs) ≡ fold f w (if test then a ∷ lasting xs else lasting xs)
  by true is rest = rest (f w a)
  by false is rest = ap (λ v. fold f v xs) (others w a is) ∙ rest w

pub tally_lasting : (g : Act → ℕ) → ((a : Act) → is_lasting a ≡ false → g a ≡ 0) → (xs : List Act) → tally g xs ≡ tally g (lasting xs)
tally_lasting g others [] = refl
tally_lasting g others (a ∷ xs) = by (is_lasting a) refl (tally_lasting g others xs) where
  by : (test : Bool) → is_lasting a ≡ test → tally g xs ≡ tally g (lasting xs)
      → tally g (a ∷ xs) ≡ tally g (if test then a ∷ lasting xs else lasting xs)
  by true is rest = omega (arith, rest)
  by false is rest = omega (arith, rest, others a is)

-- What lasts of a row: the act of the subtransaction that a letter asks for, by the kind of its tree; and what a decision
-- and a Release do.
abbrev pub asked_acts : ScriptData → Core → TreeNo → SubNo → Body → Option TreeKind → List Act
asked_acts s c t k body (Some Update) = acts.Did t k [] ∷ []
asked_acts s c t k body (Some Read) = acts.Did t k (gets (asked_version c.node.turns.read body) (asked_ops s body) c.node.items) ∷ []
asked_acts s c t k body (Some Strict) =
    act_of t k (notice_by (vote_of c.locks c.node.items t (asked_version c.node.turns.update body) (asked_ops s body))) ∷ []
asked_acts s c t k body None = []

abbrev pub lasting_acts : ScriptData → Core → Body → List Act
lasting_acts s c (Root t) = asked_acts s c t (record { 0 = 0 }) (Root t) (tree_kind_at s t.0)
lasting_acts s c (SubLetter t k v) = asked_acts s c t k (SubLetter t k v) (tree_kind_at s t.0)
lasting_acts s c (Decide t v commit) = acts.Applied t commit ∷ []
lasting_acts s c (Release t) = acts.Freed t ∷ []
lasting_acts s c _ = []

told_lasts : (t : TreeNo) (k : SubNo) (n : Notice) → lasting (act_of t k n ∷ []) ≡ act_of t k n ∷ []
told_lasts t k (notices.Did values) = refl
told_lasts t k (notices.Yes values) = refl
told_lasts t k (notices.No cause) = refl

turned_goes : (raises : Bool) (v : ℕ) (xs : List Act) → lasting (turned_if raises v ++ xs) ≡ lasting xs
turned_goes true v xs = refl
turned_goes false v xs = refl

decided_goes : (s : ScriptData) (c : Core) (o : TreeOut) (a : Option Answered) → lasting (decided s c o a).acts ≡ lasting o.out.acts
decided_goes s c o None = refl
decided_goes s c o (Some a) =
    filter-append is_lasting o.out.acts (acts.Decided a.tree (none_refuses a.tree c.refusals) ∷ []) ∙ append-nil (lasting o.out.acts)

root_lasts : (s : ScriptData) (p from : ℕ) (t : TreeNo) (kind : Option TreeKind) (c : Core)
    → lasting (core_by_kind s p from t (Root t) kind c).acts ≡ asked_acts s c t (record { 0 = 0 }) (Root t) kind
root_lasts s p from t (Some Update) c = refl
root_lasts s p from t (Some Read) c = refl
root_lasts s p from t (Some Strict) c =
    let body : Body = Root t in
    let v : Version = c.node.turns.update in
    let vote : Vote = vote_of c.locks c.node.items t v (asked_ops s body) in
    let o : TreeOut = tree_part s p from v (nat_lt c.node.turns.update.0 v.0) (voting vote c.node.items) body c.node in
    let noted : Core = record c { locks = locks_by vote t (asked_ops s body) c.locks; refusals = noted_vote body vote c.refusals } in
    decided_goes s noted o o.answered ∙ told_lasts t (record { 0 = 0 }) (notice_by vote)
root_lasts s p from t None c = refl

sub_lasts : (s : ScriptData) (p from : ℕ) (t : TreeNo) (k : SubNo) (v : Version) (kind : Option TreeKind) (c : Core)
    → lasting (core_by_kind s p from t (SubLetter t k v) kind c).acts ≡ asked_acts s c t k (SubLetter t k v) kind
sub_lasts s p from t k v (Some Update) c = turned_goes (nat_lt c.node.turns.update.0 v.0) v.0 (acts.Did t k [] ∷ [])
sub_lasts s p from t k v (Some Read) c = refl
sub_lasts s p from t k v (Some Strict) c =
    let body : Body = SubLetter t k v in
    let vote : Vote = vote_of c.locks c.node.items t v (asked_ops s body) in
    let raises : Bool = nat_lt c.node.turns.update.0 v.0 in
    let o : TreeOut = tree_part s p from v raises (voting vote c.node.items) body c.node in
    let noted : Core = record c { locks = locks_by vote t (asked_ops s body) c.locks; refusals = noted_vote body vote c.refusals } in
    decided_goes s noted o o.answered ∙ turned_goes raises v.0 (act_of t k (notice_by vote) ∷ []) ∙ told_lasts t k (notice_by vote)
sub_lasts s p from t k v None c = refl

note_lasts : (s : ScriptData) (from : ℕ) (t : TreeNo) (k : SubNo) (v : Version) (notice : Notice) (c : Core) (strict : Bool)
    → is_strict_at s t.0 ≡ strict → lasting (note_core s from t k v notice c).acts ≡ []
note_lasts s from t k v notice c true is =
    let o : TreeOut = note_part from t.0 k.0 v.0 (values_of notice) c.node in
    let noted : Core = record c { refusals = refused_there t k notice c } in
    rw is (decided_goes s noted o o.answered)
note_lasts s from t k v notice c false is = rw is refl

-- so of the row of any letter
pub row_lasts : (s : ScriptData) (p from : ℕ) (body : Body) (c : Core) → lasting (core_row s p c from body).acts ≡ lasting_acts s c body
row_lasts s p from (Root t) c = root_lasts s p from t (tree_kind_at s t.0) c
row_lasts s p from (SubLetter t k v) c = sub_lasts s p from t k v (tree_kind_at s t.0) c
row_lasts s p from (Done t k v notice) c = note_lasts s from t k v notice c (is_strict_at s t.0) refl
row_lasts s p from (Decide t v commit) c = refl
row_lasts s p from (Decided t v) c = refl
row_lasts s p from (Release t) c = refl
row_lasts s p from (Turn v) c = by (nat_lt c.node.turns.update.0 v.0) where
  by : (raises : Bool) → lasting (turned_if raises v.0) ≡ []
  by true = refl
  by false = refl
row_lasts s p from (Show v) c = refl
row_lasts s p from (Sweep v) c = refl
row_lasts s p from (AskDone v k) c = refl
row_lasts s p from (AskAsked v k) c = refl
row_lasts s p from (Order e what v) c =
    order_each (λ (o : Out Core). lasting o.acts ≡ []) s e what v c refl refl (λ to. by (nat_lt c.node.turns.update.0 v.0))
    (λ to new. refl) (λ to new. refl) where
      by : (raises : Bool) → lasting (turned_if raises v.0) ≡ []
      by true = refl
      by false = refl
row_lasts s p from (Ask e) c = ask_each (λ (o : Out Core). lasting o.acts ≡ []) s e c refl refl
row_lasts s p from _ c = refl

-- and nothing lasts of a letter that is kept
pub keeping_lasts : (s : ScriptData) (c : Core) (body : Body) (k : CoreKeeping) → core_keeping s c body ≡ Some k → lasting k.acts ≡ []
keeping_lasts s c body k is =
    of_kept s c (λ (x : CoreKeeping). lasting x.acts ≡ []) body k (record {
      parks = λ t j raises v m. turned_goes raises v.0 (acts.Parked t j m.item m.holder ∷ []);
      waits = λ t. refl;
    }) is

-- acts among which none counts
pub none_lasts : (xs : List Act) → tally (λ (a : Act). one_if (is_lasting a)) xs ≡ 0 → lasting xs ≡ []
none_lasts [] none = refl
none_lasts (a ∷ xs) none = by (is_lasting a) (λ rest. none_lasts xs rest) none where
  by : (test : Bool) → (tally (λ (b : Act). one_if (is_lasting b)) xs ≡ 0 → lasting xs ≡ [])
      → one_if test + tally (λ (b : Act). one_if (is_lasting b)) xs ≡ 0 → (if test then a ∷ lasting xs else lasting xs) ≡ []
  by true rest some = absurd (omega (arith, some))
  by false rest some = rest (omega (arith, some))
