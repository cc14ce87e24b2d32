-- Words of different values differ.
use Rattle.std.proofs.Common.{◌≡◌, ◌<◌, ◌^◌, ◌∙◌, ◌∷◌, ◌++◌, [], List, Bool, true, false, ℕ, length, get_or, drop, refl, sym, ap, subst, arith, append_assoc}
use Rattle.std.specs.Prelude.{if◌then◌else◌, ◌==◌, codes, decimal, ℤ, pos, negsuc, Option, Some, slice_get}
use Rattle.std.specs.Fmt.{signed_decimal}
use Rattle.std.proofs.lemmas.Bool.{eq-eqb, eqb-true}
use Rattle.std.proofs.lemmas.List.{append-nil, append_cancel_left}
use Rattle.tv_base.specs.declared.numbers.ActorNo.{ActorNo}
use Rattle.tv_base.specs.declared.numbers.ItemNo.{ItemNo}
use Rattle.tv_base.specs.declared.numbers.TreeNo.{TreeNo}
use Rattle.tv_base.specs.declared.numbers.Version.{Version}
use Rattle.commute_ops.specs.declared.kinds.Kind.{Kind}
use Rattle.commute_ops.specs.declared.kinds.Kind.TheVariants as kinds
use Rattle.commute_ops.specs.declared.value.Value.{Value}
use Rattle.commute_ops.specs.declared.value.Value.TheVariants.{Sum, Top, Bag}
use Rattle.letter_types.specs.declared.bodies.Answer.{Answer}
use Rattle.letter_types.specs.declared.bodies.Answer.TheVariants as answers
use Rattle.letter_types.specs.declared.bodies.Notice.{Notice}
use Rattle.letter_types.specs.declared.bodies.Notice.TheVariants as notices
use Rattle.letter_types.specs.declared.bodies.What.{What}
use Rattle.letter_types.specs.declared.bodies.What.TheVariants as whats
use Rattle.letter_types.specs.declared.votes.Cause.{Cause}
use Rattle.letter_types.specs.declared.votes.Cause.TheVariants.{Conflict, Newer, Short}
use Rattle.letter_types.specs.declared.votes.Vote.{Vote}
use Rattle.letter_types.specs.declared.votes.Vote.TheVariants as votes
use Rattle.tx_trees.specs.ScriptData.{ScriptData, client_of}
use Rattle.tx_trees.specs.Valid.{IsValid}
use Rattle.tx_trees.specs.declared.parts.ItemRow.{ItemRow}
use Rattle.tx_trees.specs.declared.parts.Tree.{Tree}
use Rattle.tx_trees.proofs.SubsOf.{few_nodes}
use Rattle.history_text.specs.TreeNames.{actor_text, item_text, tree_text}
use Rattle.history_text.specs.Values.{bag_text, count_text, more_numbers, value_text}
use Rattle.history_text.specs.LineParts.{commit_word, what_word}
use Rattle.history_text.specs.Printable.{AreGot, HasStrictness, IsActor, IsAmount, IsCause, IsGot, IsOfKind, IsWord}
use Rattle.history_text.specs.Parts.{parts_at}
use Rattle.history_text.specs.Words.{AllAmounts, amount_words, cause_words, got_in_words, got_words}
use Rattle.history_text.proofs.Bags.{bag_parts, within}
use Rattle.history_text.proofs.Digits.{decimal_one, prints_plain}
use Rattle.history_text.proofs.Each.{each_one}
use Rattle.history_text.proofs.Gots.{cut_got, item_lacks, of_item}
use Rattle.history_text.proofs.OneToOne.{item_one, signed_one, tree_one}
use Rattle.history_text.specs.Numbers.{is_plain_number}
use Rattle.history_reader.specs.inside.BodyWords.{AreLineWords, IsAnswer, IsNotice, IsVote, answer_words, notice_words, number_words, vote_words, whole_words}
use Rattle.history_reader.proofs.ListsRead.{strictness_one, whole_strict}

-- lists with nothing behind them
pub ends_one : {X : Type 0} (xs ys : List X) → xs ++ [] ≡ ys ++ [] → xs ≡ ys
ends_one xs ys is = sym (append-nil xs) ∙ is ∙ append-nil ys

-- numbers that differ
pub apart : (m n : ℕ) → (m == n) ≡ false → m ≡ n → ⊥
apart m n off is =
    let on : (m == n) ≡ true = eq-eqb m n is in
    cc

-- bytes at a place of two texts that are one
byte_at : (i : ℕ) (x y : List ℕ) → x ≡ y → get_or x i 0 ≡ get_or y i 0
byte_at i x y is = ap (λ (l : List ℕ). get_or l i 0) is

pub number_one : (m n : ℕ) → IsWord m → IsWord n → decimal m ≡ decimal n → m ≡ n
number_one m n hm hn is = decimal_one m n (omega arith) (omega arith) is

pub version_one : (v w : Version) → IsWord v.0 → IsWord w.0 → decimal v.0 ≡ decimal w.0 → v ≡ w
version_one v w hv hw is = ap (λ (n : ℕ). let x : Version = record { 0 = n } in x) (number_one v.0 w.0 hv hw is)

actor_by : (s : ScriptData) (p q r t : Bool) (a b : ℕ) → (a == s.nodes) ≡ p → (a == client_of s) ≡ q → (b == s.nodes) ≡ r → (b == client_of s) ≡ t → a < 2 ^ 64 → b < 2 ^ 64
    → (if p then codes "coordinator" else if q then codes "client" else count_text (codes "n") a) ≡ (if r then codes "coordinator" else if t then codes "client" else count_text (codes "n") b) → a ≡ b
actor_by s true q true t a b hp hq hr ht ha hb is = eqb-true a s.nodes hp ∙ sym (eqb-true b s.nodes hr)
actor_by s true q false true a b hp hq hr ht ha hb is = absurd (apart 111 108 refl (byte_at 1 _ _ is))
actor_by s true q false false a b hp hq hr ht ha hb is = absurd (apart 99 110 refl (byte_at 0 _ _ is))
actor_by s false true true t a b hp hq hr ht ha hb is = absurd (apart 108 111 refl (byte_at 1 _ _ is))
actor_by s false true false true a b hp hq hr ht ha hb is = eqb-true a (client_of s) hq ∙ sym (eqb-true b (client_of s) ht)
actor_by s false true false false a b hp hq hr ht ha hb is = absurd (apart 99 110 refl (byte_at 0 _ _ is))
actor_by s false false true t a b hp hq hr ht ha hb is = absurd (apart 110 99 refl (byte_at 0 _ _ is))
actor_by s false false false true a b hp hq hr ht ha hb is = absurd (apart 110 99 refl (byte_at 0 _ _ is))
actor_by s false false false false a b hp hq hr ht ha hb is =
    let tails : decimal a ≡ decimal b = cc in
    decimal_one a b (omega arith) (omega arith) tails

pub actor_one : (s : ScriptData) (a b : ActorNo) → IsValid s → IsActor s a.0 → IsActor s b.0 → actor_text s a.0 ≡ actor_text s b.0 → a ≡ b
actor_one s a b valid ha hb is =
    let few = few_nodes s valid in
    ap (λ (n : ℕ). let x : ActorNo = record { 0 = n } in x) (actor_by s (a.0 == s.nodes) (a.0 == client_of s) (b.0 == s.nodes) (b.0 == client_of s) a.0 b.0 refl refl refl refl (omega (arith, few)) (omega (arith, few)) is)

-- an amount has a digit
no_empty : (n : ℤ) → IsAmount n → [] ≡ signed_decimal n → ⊥
no_empty (pos n) may is =
    let plain : false ≡ true = ap is_plain_number is ∙ prints_plain n (omega arith) in
    cc
no_empty (negsuc n) may is = cc

bag_one : (ns ms : List ℤ) → AllAmounts ns → AllAmounts ms → bag_text ns ≡ bag_text ms → ns ≡ ms
bag_one [] [] hn hm is = refl
bag_one [] (m ∷ ms) hn hm is =
    let inner : [] ≡ signed_decimal m ++ more_numbers ms = within [] m ms is in
    let first : [] ∷ [] ≡ amount_words (m ∷ ms) = ap (parts_at 44) inner ∙ bag_parts m ms hm in
    let empty : [] ≡ signed_decimal m = cc in
    absurd (no_empty m hm.0 empty)
bag_one (n ∷ ns) [] hn hm is =
    let inner : [] ≡ signed_decimal n ++ more_numbers ns = within [] n ns (sym is) in
    let first : [] ∷ [] ≡ amount_words (n ∷ ns) = ap (parts_at 44) inner ∙ bag_parts n ns hn in
    let empty : [] ≡ signed_decimal n = cc in
    absurd (no_empty n hn.0 empty)
bag_one (n ∷ ns) (m ∷ ms) hn hm is =
    let whole : 123 ∷ ((signed_decimal n ++ more_numbers ns) ++ 125 ∷ []) ≡ bag_text (m ∷ ms) = ap (λ (t : List ℕ). 123 ∷ t) (append_assoc (signed_decimal n) (more_numbers ns) (125 ∷ [])) ∙ is in
    let inner = within (signed_decimal n ++ more_numbers ns) m ms whole in
    each_one signed_decimal (λ x. IsAmount x) signed_one (n ∷ ns) (m ∷ ms) (sym (bag_parts n ns hn) ∙ ap (parts_at 44) inner ∙ bag_parts m ms hm) hn hm

value_one : (kind : Kind) (v w : Value) → IsOfKind kind v → IsOfKind kind w → value_text v ≡ value_text w → v ≡ w
value_one kinds.Sum (Sum n) (Sum m) hv hw is = ap (λ (z : ℤ). Sum (record { 0 = z })) (signed_one n.0 m.0 is hv hw)
value_one kinds.Top (Top n) (Top m) hv hw is = ap (λ (z : ℤ). Top (record { 0 = z })) (signed_one n.0 m.0 is hv hw)
value_one kinds.Bag (Bag ns) (Bag ms) hv hw is = ap (λ (z : List ℤ). Bag z) (bag_one ns ms hv.1 hw.1 is)
value_one kinds.Sum (Sum n) (Top m) hv hw is = absurd hw
value_one kinds.Sum (Sum n) (Bag m) hv hw is = absurd hw
value_one kinds.Sum (Top n) w hv hw is = absurd hv
value_one kinds.Sum (Bag n) w hv hw is = absurd hv
value_one kinds.Top (Top n) (Sum m) hv hw is = absurd hw
value_one kinds.Top (Top n) (Bag m) hv hw is = absurd hw
value_one kinds.Top (Sum n) w hv hw is = absurd hv
value_one kinds.Top (Bag n) w hv hw is = absurd hv
value_one kinds.Bag (Bag ns) (Sum m) hv hw is = absurd hw
value_one kinds.Bag (Bag ns) (Top m) hv hw is = absurd hw
value_one kinds.Bag (Sum n) w hv hw is = absurd hv
value_one kinds.Bag (Top n) w hv hw is = absurd hv

pub got_one : (s : ScriptData) → IsValid s → (g h : ItemNo × Value) → got_in_words s g ≡ got_in_words s h → IsGot s g → IsGot s h → g ≡ h
got_one s valid g h is mg mh =
    let (row, at, less, kind) = of_item s.items g.0.0 g.1 mg in
    let c = cut_got s (got_in_words s g) (item_text s g.0.0) (value_text g.1) h valid refl (item_lacks s g.0.0 valid less) is mh in
    let items : g.0.0 ≡ h.0.0 = item_one s g.0.0 h.0.0 valid less c.there c.name_is in
    let rows : Some row ≡ Some c.row = sym at ∙ ap (slice_get s.items) items ∙ c.at in
    let same : row ≡ c.row = cc in
    let values : g.1 ≡ h.1 = value_one row.kind g.1 h.1 kind (subst (λ (r : ItemRow). IsOfKind r.kind h.1) (sym same) c.of_kind) c.text_is in
    λ i. (record { 0 = items i }, values i)

pub gots_one : (s : ScriptData) → IsValid s → (vs ws : List (ItemNo × Value)) → got_words s vs ≡ got_words s ws → AreGot s vs → AreGot s ws → vs ≡ ws
gots_one s valid vs ws is mv mw = each_one (got_in_words s) (IsGot s) (got_one s valid) vs ws is mv mw

-- a tree is known by its name, and an item by its own
pub tree_same : (s : ScriptData) → IsValid s → (t u : TreeNo) → t.0 < length s.trees → u.0 < length s.trees → tree_text s t.0 ≡ tree_text s u.0 → t ≡ u
tree_same s valid t u ht hu is = ap (λ (n : ℕ). let x : TreeNo = record { 0 = n } in x) (tree_one s t.0 u.0 valid ht hu is)

pub item_same : (s : ScriptData) → IsValid s → (x y : ItemNo) → x.0 < length s.items → y.0 < length s.items → item_text s x.0 ≡ item_text s y.0 → x ≡ y
item_same s valid x y hx hy is = ap (λ (n : ℕ). let z : ItemNo = record { 0 = n } in z) (item_one s x.0 y.0 valid hx hy is)

-- the first word of some, and a word of them by its place
abbrev pub word_at : ℕ → List (List ℕ) → List ℕ
word_at i ws = get_or ws i []

first_byte : (i : ℕ) (xs ys : List (List ℕ)) → xs ≡ ys → get_or (word_at 0 xs) i 0 ≡ get_or (word_at 0 ys) i 0
first_byte i xs ys is = ap (λ (ws : List (List ℕ)). get_or (word_at 0 ws) i 0) is

pub cause_one : (s : ScriptData) → IsValid s → (c d : Cause) → cause_words s c ≡ cause_words s d → IsCause s c → IsCause s d → c ≡ d
cause_one s valid (Conflict x t) (Conflict y u) is mc md =
    let a = item_same s valid x y mc.0 md.0 (ap (word_at 1) is) in
    let b = tree_same s valid t u mc.1 md.1 (ap (word_at 2) is) in
    λ i. Conflict (a i) (b i)
cause_one s valid (Newer x v) (Newer y w) is mc md =
    let a = item_same s valid x y mc.0 md.0 (ap (word_at 1) is) in
    let b = version_one v w mc.1 md.1 (ap (word_at 2) is) in
    λ i. Newer (a i) (b i)
cause_one s valid (Short x n) (Short y m) is mc md =
    let a = item_same s valid x y mc.0 md.0 (ap (word_at 1) is) in
    let b = signed_one n m (ap (word_at 2) is) mc.1 md.1 in
    λ i. Short (a i) (b i)
cause_one s valid (Conflict x t) (Newer y w) is mc md = absurd (apart 99 110 refl (first_byte 0 _ _ is))
cause_one s valid (Conflict x t) (Short y m) is mc md = absurd (apart 99 115 refl (first_byte 0 _ _ is))
cause_one s valid (Newer x v) (Conflict y u) is mc md = absurd (apart 110 99 refl (first_byte 0 _ _ is))
cause_one s valid (Newer x v) (Short y m) is mc md = absurd (apart 110 115 refl (first_byte 0 _ _ is))
cause_one s valid (Short x n) (Conflict y u) is mc md = absurd (apart 115 99 refl (first_byte 0 _ _ is))
cause_one s valid (Short x n) (Newer y w) is mc md = absurd (apart 115 110 refl (first_byte 0 _ _ is))

pub vote_one : (s : ScriptData) → IsValid s → (v w : Vote) → vote_words s v ≡ vote_words s w → IsVote s v → IsVote s w → v ≡ w
vote_one s valid (votes.Yes vs) (votes.Yes ws) is mv mw = ap (λ (x : List (ItemNo × Value)). votes.Yes x) (gots_one s valid vs ws (ends_one _ _ (ap (drop 1) is)) mv.1.0 mw.1.0)
vote_one s valid (votes.No c) (votes.No d) is mv mw = ap (λ (x : Cause). votes.No x) (cause_one s valid c d (ends_one _ _ (ap (drop 1) is)) mv.1.0 mw.1.0)
vote_one s valid (votes.Yes vs) (votes.No d) is mv mw = absurd (apart 121 110 refl (first_byte 0 _ _ is))
vote_one s valid (votes.No c) (votes.Yes ws) is mv mw = absurd (apart 110 121 refl (first_byte 0 _ _ is))

clash : (o : Option Tree) → HasStrictness true o → HasStrictness false o → ⊥
clash o t f =
    let same : true ≡ false = strictness_one o true false t f in
    cc

pub notice_one : (s : ScriptData) → IsValid s → (t : ℕ) (m n : Notice) → notice_words s t m ≡ notice_words s t n → IsNotice s t m → IsNotice s t n → m ≡ n
notice_one s valid t (notices.Did vs) (notices.Did ws) is hm hn = ap (λ (x : List (ItemNo × Value)). notices.Did x) (gots_one s valid vs ws (ends_one _ _ is) hm.1.0 hn.1.0)
notice_one s valid t (notices.Did vs) (notices.Yes ws) is hm hn = absurd (clash (slice_get s.trees t) hn.0 hm.0)
notice_one s valid t (notices.Did vs) (notices.No d) is hm hn = absurd (clash (slice_get s.trees t) hn.0 hm.0)
notice_one s valid t (notices.Yes vs) (notices.Did ws) is hm hn = absurd (clash (slice_get s.trees t) hm.0 hn.0)
notice_one s valid t (notices.No c) (notices.Did ws) is hm hn = absurd (clash (slice_get s.trees t) hm.0 hn.0)
notice_one s valid t (notices.Yes vs) (notices.Yes ws) is hm hn = ap (λ (x : List (ItemNo × Value)). notices.Yes x) (gots_one s valid vs ws (ends_one _ _ (ap (drop 1) is)) hm.1.1.0 hn.1.1.0)
notice_one s valid t (notices.No c) (notices.No d) is hm hn = ap (λ (x : Cause). notices.No x) (cause_one s valid c d (ends_one _ _ (ap (drop 1) is)) hm.1.1.0 hn.1.1.0)
notice_one s valid t (notices.Yes vs) (notices.No d) is hm hn = absurd (apart 121 110 refl (first_byte 0 _ _ is))
notice_one s valid t (notices.No c) (notices.Yes ws) is hm hn = absurd (apart 110 121 refl (first_byte 0 _ _ is))

-- where a tree is strict, it was committed or aborted
not_aborted : (s : ScriptData) (t : ℕ) (vs : List (ItemNo × Value)) (d : Cause) → HasStrictness true (slice_get s.trees t) → answer_words s t (answers.Whole vs) ≡ answer_words s t (answers.Aborted d) → ⊥
not_aborted s t vs d strict is =
    apart 99 97 refl (first_byte 0 _ _ (ap (λ (w : List (List ℕ)). w ++ (got_words s vs ++ [])) (sym (whole_strict (slice_get s.trees t) strict)) ∙ is))

pub answer_one : (s : ScriptData) → IsValid s → (t : ℕ) (a b : Answer) → answer_words s t a ≡ answer_words s t b → IsAnswer s t a → IsAnswer s t b → a ≡ b
answer_one s valid t (answers.Whole vs) (answers.Whole ws) is ha hb =
    ap (λ (x : List (ItemNo × Value)). answers.Whole x) (gots_one s valid vs ws (ends_one _ _ (append_cancel_left (whole_words (slice_get s.trees t)) (got_words s vs ++ []) (got_words s ws ++ []) is)) ha.1.0 hb.1.0)
answer_one s valid t (answers.Aborted c) (answers.Aborted d) is ha hb = ap (λ (x : Cause). answers.Aborted x) (cause_one s valid c d (ends_one _ _ (ap (drop 1) is)) ha.1.1.0 hb.1.1.0)
answer_one s valid t (answers.Whole vs) (answers.Aborted d) is ha hb = absurd (not_aborted s t vs d hb.0 is)
answer_one s valid t (answers.Aborted c) (answers.Whole ws) is ha hb = absurd (not_aborted s t ws c ha.0 (sym is))

pub commit_one : (a b : Bool) → commit_word a ≡ commit_word b → a ≡ b
commit_one true true is = refl
commit_one false false is = refl
commit_one true false is = absurd (apart 99 97 refl (byte_at 0 _ _ is))
commit_one false true is = absurd (apart 97 99 refl (byte_at 0 _ _ is))

pub what_one : (a b : What) → what_word a ≡ what_word b → a ≡ b
what_one whats.Turn whats.Turn is = refl
what_one whats.Show whats.Show is = refl
what_one whats.Sweep whats.Sweep is = refl
what_one whats.Turn whats.Show is = absurd (apart 116 115 refl (byte_at 0 _ _ is))
what_one whats.Turn whats.Sweep is = absurd (apart 116 115 refl (byte_at 0 _ _ is))
what_one whats.Show whats.Turn is = absurd (apart 115 116 refl (byte_at 0 _ _ is))
what_one whats.Show whats.Sweep is = absurd (apart 104 119 refl (byte_at 1 _ _ is))
what_one whats.Sweep whats.Turn is = absurd (apart 115 116 refl (byte_at 0 _ _ is))
what_one whats.Sweep whats.Show is = absurd (apart 119 104 refl (byte_at 1 _ _ is))

pub row_one : (ns ms : List ℕ) → AreLineWords ns → AreLineWords ms → number_words ns ≡ number_words ms → ns ≡ ms
row_one ns ms hn hm is = each_one decimal (λ n. IsWord n) (λ m n e hm hn. number_one m n hm hn e) ns ms is hn hm
