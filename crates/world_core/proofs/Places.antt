-- Messages by their places, as a history gets one more entry.
use Rattle.std.proofs.Common.{◌≡◌, ℕ, zero, suc, ◌+◌, ◌-◌, ◌<◌, ◌≤◌, List, [], ◌∷◌, ◌++◌, ◌∙◌, length, map, take, drop, refl, sym, ap, subst, arith, append_assoc}
use Rattle.std.specs.Prelude.{get_or, slice_get, Some}
use Rattle.std.specs.List.{All}
use Rattle.std.specs.List.{remove}
use Rattle.std.proofs.Math.Seq.{get_or-append_seam}
use Rattle.std.proofs.lemmas.Grind.{flat_map-append}
use Rattle.std.proofs.lemmas.List.{append-nil, get_or-drop, get_or_append_left, get_or_default, length-append, length-drop, length-map, map-append, take-map, drop-map}
use Rattle.std.proofs.lemmas.Option.{get_or_from_slice_get}
use Rattle.std.proofs.lemmas.List.Edits.{remove-append_left}
use Rattle.std.proofs.lemmas.List.Elements.{All-append, All-take}
use Rattle.letter_types.specs.declared.entries.Entry.{Entry}
use Rattle.letter_types.specs.declared.entries.Letter.{Letter}
use Rattle.letter_types.specs.Letters.{go, letters_of}
use Rattle.run_history.specs.Messages.{messages_of}
use Rattle.world_core.specs.inside.Flows.{ArePlacesOf, message_at, places_from}

-- one more entry's messages come behind
pub messages_more : (es : List Entry) (e : Entry) → messages_of (es ++ e ∷ []) ≡ messages_of es ++ letters_of e
messages_more es e =
    flat_map-append letters_of es (e ∷ [])
    ∙ ap (λ (ls : List Letter). messages_of es ++ ls) (append-nil (letters_of e))

-- places behind a list are those of what comes behind it
at_places : {X : Type 0} (xs ys : List X) (d : X) (i : ℕ) → i + 1 ≡ length xs
    → map (λ p. get_or (xs ++ ys) p d) (places_from i (length ys)) ≡ ys
at_places {X} xs [] d i is = refl
at_places {X} xs (y ∷ ys) d i is =
    let all : xs ++ y ∷ ys ≡ (xs ++ y ∷ []) ++ ys = sym (append_assoc xs (y ∷ []) ys) in
    let here : get_or (xs ++ y ∷ ys) (i + 1) d ≡ y =
    ap (λ (n : ℕ). get_or (xs ++ y ∷ ys) n d) is ∙ get_or-append_seam xs y ys d in
    let rest = ap (λ (zs : List X). map (λ p. get_or zs p d) (places_from (i + 1) (length ys))) all
    ∙ at_places (xs ++ y ∷ []) ys d (i + 1) (omega (arith, is, length-append xs (y ∷ []))) in
    (λ x. here x ∷ rest x)

pub new_messages : (g : Letter) (es : List Entry) (e : Entry) (n : ℕ) → n ≡ length (letters_of e)
    → map (message_at g (messages_of (es ++ e ∷ []))) (places_from (length (messages_of es)) n) ≡ letters_of e
new_messages g es e n count =
    (λ x. map (λ p. get_or (g ∷ messages_more es e x) p g) (places_from (length (messages_of es)) (count x)))
    ∙ at_places (g ∷ messages_of es) (letters_of e) g (length (messages_of es)) (omega arith)

-- messages stay at their places
pub messages_stay : (g : Letter) (es : List Entry) (e : Entry) (ps : List ℕ) → ArePlacesOf es ps
    → map (message_at g (messages_of (es ++ e ∷ []))) ps ≡ map (message_at g (messages_of es)) ps
messages_stay g es e [] placed = refl
messages_stay g es e (p ∷ ps) placed =
    let first = ap (λ (ls : List Letter). get_or (g ∷ ls) p g) (messages_more es e)
    ∙ get_or_append_left (g ∷ messages_of es) (letters_of e) g p (omega (arith, placed 0 p (omega arith))) in
    let rest = messages_stay g es e ps (λ k d lt. placed (suc k) d (omega (arith, lt))) in
    (λ x. first x ∷ rest x)

pub placed_more : (es : List Entry) (e : Entry) (ps : List ℕ) → ArePlacesOf es ps → ArePlacesOf (es ++ e ∷ []) ps
placed_more es e ps placed k d lt =
    omega (arith, placed k d lt, ap (length {A = Letter}) (messages_more es e), length-append (messages_of es) (letters_of e))

places_below : (i n m : ℕ) → i + n ≤ m → (k d : ℕ) → k < length (places_from i n) → get_or (places_from i n) k d ≤ m
places_below i zero m le k d lt = absurd (omega (arith, lt))
places_below i (suc n) m le zero d lt = omega (arith, le)
places_below i (suc n) m le (suc k) d lt = places_below (i + 1) n m (omega (arith, le)) k d (omega (arith, lt))

pub new_placed : (es : List Entry) (e : Entry) (n : ℕ) → n ≡ length (letters_of e)
    → ArePlacesOf (es ++ e ∷ []) (places_from (length (messages_of es)) n)
new_placed es e n count =
    places_below (length (messages_of es)) n (length (messages_of (es ++ e ∷ [])))
    (omega (arith, count, ap (length {A = Letter}) (messages_more es e), length-append (messages_of es) (letters_of e)))

-- one more place
pub places_more : (i n : ℕ) → places_from i (n + 1) ≡ places_from i n ++ (i + n + 1) ∷ []
places_more i zero =
    let at : i + 1 ≡ i + 0 + 1 = omega arith in
    ap (λ (k : ℕ). k ∷ []) at
places_more i (suc n) =
    let at : i + 1 + n + 1 ≡ i + suc n + 1 = omega arith in
    let count : suc n + 1 ≡ suc (n + 1) = omega arith in
    ap (places_from i) count
    ∙ ap (λ (ks : List ℕ). (i + 1) ∷ ks) (places_more (i + 1) n ∙ ap (λ (k : ℕ). places_from (i + 1) n ++ k ∷ []) at)

-- what is taken out of a list
pub All-remove : {X : Type 0} (P : X → Type 0) (xs : List X) (k : ℕ) → All P xs → All P (remove xs k)
All-remove {X} P xs k all =
    All-append P (take k xs) (drop (suc k) xs) (All-take P k xs all)
    (λ j d lt. subst P (sym (get_or-drop (suc k) xs j d)) (all (suc k + j) d (omega (arith, lt, length-drop (suc k) xs))))

-- how many messages come behind
more_count : (h : List Entry) (e : Entry) (from to : ℕ) → from ≡ length (messages_of h) → to ≡ length (messages_of (h ++ e ∷ []))
    → to - from ≡ length (letters_of e)
more_count h e from to f t =
    omega (arith, f, t, ap (length {A = Letter}) (messages_more h e), length-append (messages_of h) (letters_of e))

-- the bag after an entry: one message is gone, and those that the entry sent are last
pub bag_after : (g : Letter) (h : List Entry) (e : Entry) (bag left : List ℕ) (from to k : ℕ) → k < length bag → ArePlacesOf h bag
    → from ≡ length (messages_of h) → to ≡ length (messages_of (h ++ e ∷ []))
    → left ≡ remove (bag ++ places_from from (to - from)) k
    → map (message_at g (messages_of (h ++ e ∷ []))) left ≡ remove (map (message_at g (messages_of h)) bag) k ++ letters_of e
bag_after g h e bag left from to k lt placed f t is =
    let after = message_at g (messages_of (h ++ e ∷ [])) in
    let more = places_from from (to - from) in
    let all = bag ++ more in
    let old = map (message_at g (messages_of h)) bag in
    let fresh : map after more ≡ letters_of e =
    ap (λ (n : ℕ). map after (places_from n (to - from))) f ∙ new_messages g h e (to - from) (more_count h e from to f t) in
    let both : map after all ≡ old ++ letters_of e =
    map-append after bag more ∙ (λ x. messages_stay g h e bag placed x ++ fresh x) in
    ap (map after) is
    ∙ map-append after (take k all) (drop (suc k) all)
    ∙ (λ x. sym (take-map after k all) x ++ sym (drop-map after (suc k) all) x)
    ∙ ap (λ (ls : List Letter). remove ls k) both
    ∙ remove-append_left old (letters_of e) k (omega (arith, lt, length-map bag (message_at g (messages_of h))))

pub placed_after : (h : List Entry) (e : Entry) (bag left : List ℕ) (from to k : ℕ) → ArePlacesOf h bag
    → from ≡ length (messages_of h) → to ≡ length (messages_of (h ++ e ∷ []))
    → left ≡ remove (bag ++ places_from from (to - from)) k → ArePlacesOf (h ++ e ∷ []) left
placed_after h e bag left from to k placed f t is =
    let P = λ (p : ℕ). p ≤ length (messages_of (h ++ e ∷ [])) in
    let fresh : All P (places_from from (to - from)) =
    subst (λ (n : ℕ). All P (places_from n (to - from))) (sym f) (new_placed h e (to - from) (more_count h e from to f t)) in
    subst (λ (ks : List ℕ). ArePlacesOf (h ++ e ∷ []) ks) (sym is)
    (All-remove P (bag ++ places_from from (to - from)) k
    (All-append P bag (places_from from (to - from)) (placed_more h e bag placed) fresh))

-- Go of whoever a message is to stands for the first message, where that is Go
pub message_to : (first : Letter) (sent : List Letter) (p : ℕ) (l : Letter) → first ≡ go first.to.0 → p ≤ length sent
    → l ≡ message_at first sent p → message_at (go l.to.0) sent p ≡ l
message_to first sent zero l of le is = ap (λ (m : Letter). go m.to.0) is ∙ sym of ∙ sym is
message_to first sent (suc k) l of le is = get_or_default sent k (go l.to.0) first (omega (arith, le)) ∙ sym is

-- a place of the bag has a message
pub place_in : (es : List Entry) (bag : List ℕ) (k p : ℕ) → ArePlacesOf es bag → k < length bag → slice_get bag k ≡ Some p
    → p ≤ length (messages_of es)
place_in es bag k p placed lt at = omega (arith, placed k p lt, get_or_from_slice_get bag k p p at)
