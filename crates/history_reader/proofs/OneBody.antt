-- Words of different letters differ.
use Rattle.std.proofs.Common.{◌≡◌, ◌∙◌, ◌∷◌, ◌⊎◌, [], List, Bool, ℕ, length, get_or, drop, inl, inr, refl, sym, ap, subst, arith}
use Rattle.std.specs.Prelude.{codes, decimal}
use Rattle.std.specs.List.{position_or_len}
use Rattle.std.specs.Str.{bytes_eq}
use Rattle.tv_base.specs.declared.numbers.SubNo.{SubNo}
use Rattle.tv_base.specs.declared.numbers.TreeNo.{TreeNo}
use Rattle.tv_base.specs.declared.numbers.Version.{Version}
use Rattle.letter_types.specs.declared.bodies.Answer.{Answer}
use Rattle.letter_types.specs.declared.bodies.Body.{Body}
use Rattle.letter_types.specs.declared.bodies.Body.TheVariants.{Go, Root, Sub, Done, Reply, Nudge, Advance, Turn, Show, Sweep, Turned, Shown, Swept, AskDone, AskAsked, DoneRow, AskedRow, Advanced, Decide, Decided, Release, Wake, Lose, AdvanceNo, Ask, Numbers, Wanted, Order, Obeyed}
use Rattle.letter_types.specs.declared.bodies.Notice.{Notice}
use Rattle.letter_types.specs.declared.bodies.What.{What}
use Rattle.tx_trees.specs.ScriptData.{ScriptData}
use Rattle.tx_trees.specs.Valid.{IsValid}
use Rattle.history_text.specs.TreeNames.{tree_text}
use Rattle.history_text.specs.Printable.{IsBody, IsSubOf, IsTreeOf, IsWord}
use Rattle.history_reader.specs.inside.BodyWords.{IsAnswer, IsNotice, answer_words, body_words, notice_words}
use Rattle.history_reader.proofs.OneWords.{answer_one, apart, commit_one, ends_one, notice_one, number_one, row_one, tree_same, version_one, what_one, word_at}
use Rattle.history_reader.proofs.SubsThere.{small_sub, tree_of_sub}

-- the heads of letters
abbrev heads : List (List ℕ)
heads =
    codes "go"
    ∷ codes "root"
    ∷ codes "sub"
    ∷ codes "done"
    ∷ codes "reply"
    ∷ codes "nudge"
    ∷ codes "advance"
    ∷ codes "turn"
    ∷ codes "show"
    ∷ codes "sweep"
    ∷ codes "turned"
    ∷ codes "shown"
    ∷ codes "swept"
    ∷ codes "askdone"
    ∷ codes "askasked"
    ∷ codes "donerow"
    ∷ codes "askedrow"
    ∷ codes "advanced"
    ∷ codes "decide"
    ∷ codes "decided"
    ∷ codes "release"
    ∷ codes "wake"
    ∷ codes "lose"
    ∷ codes "ask"
    ∷ codes "numbers"
    ∷ codes "wanted"
    ∷ codes "order"
    ∷ codes "obeyed" ∷ []

-- a head's place among them
abbrev pub place : List (List ℕ) → ℕ
place ws = position_or_len (bytes_eq (word_at 0 ws)) heads

abbrev pub index : Body → ℕ
index Go = 0
index (Root t) = 1
index (Sub t k v) = 2
index (Done t k v n) = 3
index (Reply t v a) = 4
index Nudge = 5
index Advance = 6
index (AdvanceNo i) = 6
index (Turn v) = 7
index (Show v) = 8
index (Sweep v) = 9
index (Turned v) = 10
index (Shown v) = 11
index (Swept v) = 12
index (AskDone v e) = 13
index (AskAsked v e) = 14
index (DoneRow v e r) = 15
index (AskedRow v e r) = 16
index (Advanced v) = 17
index (Decide t v c) = 18
index (Decided t v) = 19
index (Release t) = 20
index (Wake t k) = 21
index Lose = 22
index (Ask e) = 23
index (Numbers e v1 v2 v3) = 24
index (Wanted e i) = 25
index (Order e w v) = 26
index (Obeyed e w v) = 27

pub index_is : (s : ScriptData) (b : Body) → place (body_words s b) ≡ index b
index_is s Go = refl
index_is s (Root t) = refl
index_is s (Sub t k v) = refl
index_is s (Done t k v n) = refl
index_is s (Reply t v a) = refl
index_is s Nudge = refl
index_is s Advance = refl
index_is s (AdvanceNo i) = refl
index_is s (Turn v) = refl
index_is s (Show v) = refl
index_is s (Sweep v) = refl
index_is s (Turned v) = refl
index_is s (Shown v) = refl
index_is s (Swept v) = refl
index_is s (AskDone v e) = refl
index_is s (AskAsked v e) = refl
index_is s (DoneRow v e r) = refl
index_is s (AskedRow v e r) = refl
index_is s (Advanced v) = refl
index_is s (Decide t v c) = refl
index_is s (Decided t v) = refl
index_is s (Release t) = refl
index_is s (Wake t k) = refl
index_is s Lose = refl
index_is s (Ask e) = refl
index_is s (Numbers e v1 v2 v3) = refl
index_is s (Wanted e i) = refl
index_is s (Order e w v) = refl
index_is s (Obeyed e w v) = refl

-- letters with a head of this place
abbrev forms : List (Body → Type 0)
forms =
    (λ (b : Body). (b ≡ Go))
    ∷ (λ (b : Body). (t : TreeNo) × (b ≡ Root t))
    ∷ (λ (b : Body). (t : TreeNo) × (k : SubNo) × (v : Version) × (b ≡ Sub t k v))
    ∷ (λ (b : Body). (t : TreeNo) × (k : SubNo) × (v : Version) × (n : Notice) × (b ≡ Done t k v n))
    ∷ (λ (b : Body). (t : TreeNo) × (v : Version) × (a : Answer) × (b ≡ Reply t v a))
    ∷ (λ (b : Body). (b ≡ Nudge))
    ∷ (λ (b : Body). (b ≡ Advance) ⊎ ((i : ℕ) × (b ≡ AdvanceNo i)))
    ∷ (λ (b : Body). (v : Version) × (b ≡ Turn v))
    ∷ (λ (b : Body). (v : Version) × (b ≡ Show v))
    ∷ (λ (b : Body). (v : Version) × (b ≡ Sweep v))
    ∷ (λ (b : Body). (v : Version) × (b ≡ Turned v))
    ∷ (λ (b : Body). (v : Version) × (b ≡ Shown v))
    ∷ (λ (b : Body). (v : Version) × (b ≡ Swept v))
    ∷ (λ (b : Body). (v : Version) × (e : ℕ) × (b ≡ AskDone v e))
    ∷ (λ (b : Body). (v : Version) × (e : ℕ) × (b ≡ AskAsked v e))
    ∷ (λ (b : Body). (v : Version) × (e : ℕ) × (r : List ℕ) × (b ≡ DoneRow v e r))
    ∷ (λ (b : Body). (v : Version) × (e : ℕ) × (r : List ℕ) × (b ≡ AskedRow v e r))
    ∷ (λ (b : Body). (v : Version) × (b ≡ Advanced v))
    ∷ (λ (b : Body). (t : TreeNo) × (v : Version) × (c : Bool) × (b ≡ Decide t v c))
    ∷ (λ (b : Body). (t : TreeNo) × (v : Version) × (b ≡ Decided t v))
    ∷ (λ (b : Body). (t : TreeNo) × (b ≡ Release t))
    ∷ (λ (b : Body). (t : TreeNo) × (k : SubNo) × (b ≡ Wake t k))
    ∷ (λ (b : Body). (b ≡ Lose))
    ∷ (λ (b : Body). (e : ℕ) × (b ≡ Ask e))
    ∷ (λ (b : Body). (e : ℕ) × (v1 : Version) × (v2 : Version) × (v3 : Version) × (b ≡ Numbers e v1 v2 v3))
    ∷ (λ (b : Body). (e : ℕ) × (i : ℕ) × (b ≡ Wanted e i))
    ∷ (λ (b : Body). (e : ℕ) × (w : What) × (v : Version) × (b ≡ Order e w v))
    ∷ (λ (b : Body). (e : ℕ) × (w : What) × (v : Version) × (b ≡ Obeyed e w v)) ∷ []

abbrev pub IsOf : ℕ → Body → Type 0
IsOf i b = get_or forms i (λ (x : Body). ⊥) b

pub is_of : (b : Body) → IsOf (index b) b
is_of Go = refl
is_of (Root t) = (t, refl)
is_of (Sub t k v) = (t, k, v, refl)
is_of (Done t k v n) = (t, k, v, n, refl)
is_of (Reply t v a) = (t, v, a, refl)
is_of Nudge = refl
is_of Advance = inl refl
is_of (AdvanceNo i) = inr (i, refl)
is_of (Turn v) = (v, refl)
is_of (Show v) = (v, refl)
is_of (Sweep v) = (v, refl)
is_of (Turned v) = (v, refl)
is_of (Shown v) = (v, refl)
is_of (Swept v) = (v, refl)
is_of (AskDone v e) = (v, e, refl)
is_of (AskAsked v e) = (v, e, refl)
is_of (DoneRow v e r) = (v, e, r, refl)
is_of (AskedRow v e r) = (v, e, r, refl)
is_of (Advanced v) = (v, refl)
is_of (Decide t v c) = (t, v, c, refl)
is_of (Decided t v) = (t, v, refl)
is_of (Release t) = (t, refl)
is_of (Wake t k) = (t, k, refl)
is_of Lose = refl
is_of (Ask e) = (e, refl)
is_of (Numbers e v1 v2 v3) = (e, v1, v2, v3, refl)
is_of (Wanted e i) = (e, i, refl)
is_of (Order e w v) = (e, w, v, refl)
is_of (Obeyed e w v) = (e, w, v, refl)

module _ (s : ScriptData) (valid : IsValid s) where
  -- a letter of the same words and the same head
  by_form : (b c d : Body) → c ≡ d → body_words s b ≡ body_words s c → IsBody s c → (body_words s b ≡ body_words s d → IsBody s d → b ≡ d) → b ≡ c
  by_form b c d e is mc same = same (is ∙ ap (body_words s) e) (subst (IsBody s) e mc) ∙ sym e

  pub tr : (i : ℕ) {xs ys : List (List ℕ)} (t u : TreeNo) → IsTreeOf s t.0 → IsTreeOf s u.0 → xs ≡ ys → word_at i xs ≡ tree_text s t.0 → word_at i ys ≡ tree_text s u.0 → t ≡ u
  tr i t u ht hu is a b = tree_same s valid t u ht hu (sym a ∙ ap (word_at i) is ∙ b)

  pub su : (i : ℕ) {xs ys : List (List ℕ)} (t u : ℕ) (k j : SubNo) → IsSubOf s t k.0 → IsSubOf s u j.0 → xs ≡ ys → word_at i xs ≡ decimal k.0 → word_at i ys ≡ decimal j.0 → k ≡ j
  su i t u k j hk hj is a b =
      ap (λ (n : ℕ). let x : SubNo = record { 0 = n } in x)
      (number_one k.0 j.0 (omega (arith, small_sub s t k.0 valid hk)) (omega (arith, small_sub s u j.0 valid hj)) (sym a ∙ ap (word_at i) is ∙ b))

  pub ve : (i : ℕ) {xs ys : List (List ℕ)} (v w : Version) → IsWord v.0 → IsWord w.0 → xs ≡ ys → word_at i xs ≡ decimal v.0 → word_at i ys ≡ decimal w.0 → v ≡ w
  ve i v w hv hw is a b = version_one v w hv hw (sym a ∙ ap (word_at i) is ∙ b)

  nu : (i : ℕ) {xs ys : List (List ℕ)} (m n : ℕ) → IsWord m → IsWord n → xs ≡ ys → word_at i xs ≡ decimal m → word_at i ys ≡ decimal n → m ≡ n
  nu i m n hm hn is a b = number_one m n hm hn (sym a ∙ ap (word_at i) is ∙ b)

  body_by : (b c : Body) → IsOf (index b) c → body_words s b ≡ body_words s c → IsBody s b → IsBody s c → b ≡ c
  body_by Go other e is mb mc = sym e
  body_by (Root t) other (t', e_is) is mb mc =
      by_form (Root t) other (Root t') e_is is mc
      (λ ws m. let pt = tr 1 t t' mb.1.0 m.1.0 ws refl refl in
      λ j. Root (pt j))
  body_by (Sub t k v) other (t', k', v', e_is) is mb mc =
      by_form (Sub t k v) other (Sub t' k' v') e_is is mc
      (λ ws m. let pt = tr 1 t t' (tree_of_sub s t.0 k.0 mb.1.0) (tree_of_sub s t'.0 k'.0 m.1.0) ws refl refl in
      let pk = su 2 t.0 t'.0 k k' mb.1.0 m.1.0 ws refl refl in
      let pv = ve 4 v v' mb.1.1.0 m.1.1.0 ws refl refl in
      λ j. Sub (pt j) (pk j) (pv j))
  body_by (Done t k v n) other (t', k', v', n', e_is) is mb mc =
      by_form (Done t k v n) other (Done t' k' v' n') e_is is mc
      (λ ws m. let pt = tr 1 t t' (tree_of_sub s t.0 k.0 mb.1.0) (tree_of_sub s t'.0 k'.0 m.1.0) ws refl refl in
      let pk = su 2 t.0 t'.0 k k' mb.1.0 m.1.0 ws refl refl in
      let pv = ve 4 v v' mb.1.1.0 m.1.1.0 ws refl refl in
      let pn = notice_one s valid t.0 n n' (subst (λ (x : TreeNo). notice_words s t.0 n ≡ notice_words s x.0 n') (sym pt) (ap (drop 5) ws)) mb.1.1.1 (subst (λ (x : TreeNo). IsNotice s x.0 n') (sym pt) m.1.1.1) in
      λ j. Done (pt j) (pk j) (pv j) (pn j))
  body_by (Reply t v a) other (t', v', a', e_is) is mb mc =
      by_form (Reply t v a) other (Reply t' v' a') e_is is mc
      (λ ws m. let pt = tr 1 t t' mb.1.0 m.1.0 ws refl refl in
      let pv = ve 3 v v' mb.1.1.0 m.1.1.0 ws refl refl in
      let pa = answer_one s valid t.0 a a' (subst (λ (x : TreeNo). answer_words s t.0 a ≡ answer_words s x.0 a') (sym pt) (ap (drop 4) ws)) mb.1.1.1 (subst (λ (x : TreeNo). IsAnswer s x.0 a') (sym pt) m.1.1.1) in
      λ j. Reply (pt j) (pv j) (pa j))
  body_by Nudge other e is mb mc = sym e
  body_by Advance other (inl e) is mb mc = sym e
  body_by Advance other (inr (i', e)) is mb mc = by_form Advance other (AdvanceNo i') e is mc (λ ws m. absurd (apart 1 2 refl (ap length ws)))
  body_by (AdvanceNo i) other (inl e) is mb mc = by_form (AdvanceNo i) other Advance e is mc (λ ws m. absurd (apart 2 1 refl (ap length ws)))
  body_by (AdvanceNo i) other (inr (i', e)) is mb mc = by_form (AdvanceNo i) other (AdvanceNo i') e is mc (λ ws m. ap (λ (x : ℕ). AdvanceNo x) (nu 1 i i' (omega (arith, mb.1.0)) (omega (arith, m.1.0)) ws refl refl))
  body_by (Turn v) other (v', e_is) is mb mc =
      by_form (Turn v) other (Turn v') e_is is mc
      (λ ws m. let pv = ve 1 v v' mb.0 m.0 ws refl refl in
      λ j. Turn (pv j))
  body_by (Show v) other (v', e_is) is mb mc =
      by_form (Show v) other (Show v') e_is is mc
      (λ ws m. let pv = ve 1 v v' mb.0 m.0 ws refl refl in
      λ j. Show (pv j))
  body_by (Sweep v) other (v', e_is) is mb mc =
      by_form (Sweep v) other (Sweep v') e_is is mc
      (λ ws m. let pv = ve 1 v v' mb.0 m.0 ws refl refl in
      λ j. Sweep (pv j))
  body_by (Turned v) other (v', e_is) is mb mc =
      by_form (Turned v) other (Turned v') e_is is mc
      (λ ws m. let pv = ve 1 v v' mb.0 m.0 ws refl refl in
      λ j. Turned (pv j))
  body_by (Shown v) other (v', e_is) is mb mc =
      by_form (Shown v) other (Shown v') e_is is mc
      (λ ws m. let pv = ve 1 v v' mb.0 m.0 ws refl refl in
      λ j. Shown (pv j))
  body_by (Swept v) other (v', e_is) is mb mc =
      by_form (Swept v) other (Swept v') e_is is mc
      (λ ws m. let pv = ve 1 v v' mb.0 m.0 ws refl refl in
      λ j. Swept (pv j))
  body_by (AskDone v e) other (v', e', e_is) is mb mc =
      by_form (AskDone v e) other (AskDone v' e') e_is is mc
      (λ ws m. let pv = ve 1 v v' mb.0 m.0 ws refl refl in
      let pe = nu 3 e e' mb.1.0 m.1.0 ws refl refl in
      λ j. AskDone (pv j) (pe j))
  body_by (AskAsked v e) other (v', e', e_is) is mb mc =
      by_form (AskAsked v e) other (AskAsked v' e') e_is is mc
      (λ ws m. let pv = ve 1 v v' mb.0 m.0 ws refl refl in
      let pe = nu 3 e e' mb.1.0 m.1.0 ws refl refl in
      λ j. AskAsked (pv j) (pe j))
  body_by (DoneRow v e r) other (v', e', r', e_is) is mb mc =
      by_form (DoneRow v e r) other (DoneRow v' e' r') e_is is mc
      (λ ws m. let pv = ve 1 v v' mb.0 m.0 ws refl refl in
      let pe = nu 3 e e' mb.1.0 m.1.0 ws refl refl in
      let pr = row_one r r' mb.1.1.0.1 m.1.1.0.1 (ends_one _ _ (ap (drop 4) ws)) in
      λ j. DoneRow (pv j) (pe j) (pr j))
  body_by (AskedRow v e r) other (v', e', r', e_is) is mb mc =
      by_form (AskedRow v e r) other (AskedRow v' e' r') e_is is mc
      (λ ws m. let pv = ve 1 v v' mb.0 m.0 ws refl refl in
      let pe = nu 3 e e' mb.1.0 m.1.0 ws refl refl in
      let pr = row_one r r' mb.1.1.0.1 m.1.1.0.1 (ends_one _ _ (ap (drop 4) ws)) in
      λ j. AskedRow (pv j) (pe j) (pr j))
  body_by (Advanced v) other (v', e_is) is mb mc =
      by_form (Advanced v) other (Advanced v') e_is is mc
      (λ ws m. let pv = ve 1 v v' mb.0 m.0 ws refl refl in
      λ j. Advanced (pv j))
  body_by (Decide t v c) other (t', v', c', e_is) is mb mc =
      by_form (Decide t v c) other (Decide t' v' c') e_is is mc
      (λ ws m. let pt = tr 1 t t' mb.1.0 m.1.0 ws refl refl in
      let pv = ve 3 v v' mb.1.1.0 m.1.1.0 ws refl refl in
      let pc = commit_one c c' (ap (word_at 4) ws) in
      λ j. Decide (pt j) (pv j) (pc j))
  body_by (Decided t v) other (t', v', e_is) is mb mc =
      by_form (Decided t v) other (Decided t' v') e_is is mc
      (λ ws m. let pt = tr 1 t t' mb.1.0 m.1.0 ws refl refl in
      let pv = ve 3 v v' mb.1.1.0 m.1.1.0 ws refl refl in
      λ j. Decided (pt j) (pv j))
  body_by (Release t) other (t', e_is) is mb mc =
      by_form (Release t) other (Release t') e_is is mc
      (λ ws m. let pt = tr 1 t t' mb.1.0 m.1.0 ws refl refl in
      λ j. Release (pt j))
  body_by (Wake t k) other (t', k', e_is) is mb mc =
      by_form (Wake t k) other (Wake t' k') e_is is mc
      (λ ws m. let pt = tr 1 t t' (tree_of_sub s t.0 k.0 mb.1.0) (tree_of_sub s t'.0 k'.0 m.1.0) ws refl refl in
      let pk = su 2 t.0 t'.0 k k' mb.1.0 m.1.0 ws refl refl in
      λ j. Wake (pt j) (pk j))
  body_by Lose other e is mb mc = sym e
  body_by (Ask e) other (e', e_is) is mb mc =
      by_form (Ask e) other (Ask e') e_is is mc
      (λ ws m. let pe = nu 1 e e' mb.0 m.0 ws refl refl in
      λ j. Ask (pe j))
  body_by (Numbers e v1 v2 v3) other (e', v1', v2', v3', e_is) is mb mc =
      by_form (Numbers e v1 v2 v3) other (Numbers e' v1' v2' v3') e_is is mc
      (λ ws m. let pe = nu 1 e e' mb.0 m.0 ws refl refl in
      let pv1 = ve 3 v1 v1' mb.1.0 m.1.0 ws refl refl in
      let pv2 = ve 5 v2 v2' mb.1.1.0 m.1.1.0 ws refl refl in
      let pv3 = ve 7 v3 v3' mb.1.1.1.0 m.1.1.1.0 ws refl refl in
      λ j. Numbers (pe j) (pv1 j) (pv2 j) (pv3 j))
  body_by (Wanted e i) other (e', i', e_is) is mb mc =
      by_form (Wanted e i) other (Wanted e' i') e_is is mc
      (λ ws m. let pe = nu 1 e e' mb.0 m.0 ws refl refl in
      let pi = nu 2 i i' (omega (arith, mb.1.0)) (omega (arith, m.1.0)) ws refl refl in
      λ j. Wanted (pe j) (pi j))
  body_by (Order e w v) other (e', w', v', e_is) is mb mc =
      by_form (Order e w v) other (Order e' w' v') e_is is mc
      (λ ws m. let pe = nu 1 e e' mb.0 m.0 ws refl refl in
      let pw = what_one w w' (ap (word_at 2) ws) in
      let pv = ve 3 v v' mb.1.0 m.1.0 ws refl refl in
      λ j. Order (pe j) (pw j) (pv j))
  body_by (Obeyed e w v) other (e', w', v', e_is) is mb mc =
      by_form (Obeyed e w v) other (Obeyed e' w' v') e_is is mc
      (λ ws m. let pe = nu 1 e e' mb.0 m.0 ws refl refl in
      let pw = what_one w w' (ap (word_at 2) ws) in
      let pv = ve 3 v v' mb.1.0 m.1.0 ws refl refl in
      λ j. Obeyed (pe j) (pw j) (pv j))

  pub body_one : (b c : Body) → body_words s b ≡ body_words s c → IsBody s b → IsBody s c → b ≡ c
  body_one b c is mb mc =
      let same : index c ≡ index b = sym (index_is s c) ∙ ap place (sym is) ∙ index_is s b in
      body_by b c (subst (λ (i : ℕ). IsOf i c) same (is_of c)) is mb mc
