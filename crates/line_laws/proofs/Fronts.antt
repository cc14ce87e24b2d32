-- The lines of transactions that are complete are a front of every later report; and if the client would finish, all
-- are complete.
use Rattle.std.proofs.Common.{◌≡◌, ℕ, zero, suc, ◌+◌, ◌<◌, ◌==◌, ◌&&◌, ◌||◌, ◌∙◌, Bool, true, false, List, [], ◌∷◌, ◌++◌, drop, length, map, reverse, refl, sym, ap, subst, arith, append_assoc, Option, Some}
use Rattle.std.specs.Prelude.{if◌then◌else◌, is_some, slice_get}
use Rattle.std.proofs.Math.Bool.{or-false}
use Rattle.std.proofs.Math.Seq.{drop-append_seam}
use Rattle.tv_base.specs.declared.numbers.Version.{Version}
use Rattle.letter_types.specs.declared.acts.Act.{Act}
use Rattle.letter_types.specs.declared.acts.Act.TheVariants.{Finished}
use Rattle.letter_types.specs.declared.entries.Entry.{Entry}
use Rattle.script_parts.specs.ScriptData.{ScriptData, subs_at}
use Rattle.script_parts.specs.Valid.{IsValid}
use Rattle.script_parts.specs.declared.parts.Sub.{Sub}
use Rattle.script_parts.specs.declared.parts.Tree.{Tree}
use Rattle.board_rules.specs.Histories.{IsWhole, Place, all_applied, all_done, is_complete, is_strict_tree, is_whole_in, places_of, version_in, was_applied, was_born, was_done}
use Rattle.board_rules.specs.Right.{HasFinished, has_finished}
use Rattle.board_rules.proofs.Places.{has_finished-append, option_or_none, places_more, version_in-append, was_applied-append, was_done-append}
use Rattle.headline.proofs.Finished.{whole_at_end}
use Rattle.report_text.specs.Report.{trees_text}
use Rattle.audit_laws.specs.ReplyLines.{line_in}
use Rattle.world_model.specs.Runs.{IsStepRun}
use Rattle.world_model.proofs.Scripts.{get_below}
use Rattle.line_laws.specs.Fronts.{FrontsStay}
use Rattle.line_laws.proofs.Lines.{lines_stay}

-- The act Finished makes no tree whole.

no_other : (b : Bool) → ((b && false) || false) ≡ false
no_other true = refl
no_other false = refl

born_same : (k n : ℕ) (xs : List Place) → version_in k (xs ++ record { node = n; act = Finished } ∷ []) ≡ version_in k xs
born_same k n xs = version_in-append k xs (record { node = n; act = Finished } ∷ []) ∙ option_or_none (version_in k xs)

done_same : (k n m : ℕ) (xs : List Place) → all_done k m (xs ++ record { node = n; act = Finished } ∷ []) ≡ all_done k m xs
done_same k n zero xs = refl
done_same k n (suc m) xs =
    ap (λ (b : Bool). b && was_done k m (xs ++ record { node = n; act = Finished } ∷ [])) (done_same k n m xs)
    ∙ ap (λ (b : Bool). all_done k m xs && b) (was_done-append k m xs (record { node = n; act = Finished } ∷ []) ∙ or-false (was_done k m xs))

one_applied : (k n p : ℕ) (xs : List Place) → was_applied k p (xs ++ record { node = n; act = Finished } ∷ []) ≡ was_applied k p xs
one_applied k n p xs =
    was_applied-append k p xs (record { node = n; act = Finished } ∷ [])
    ∙ ap (λ (b : Bool). was_applied k p xs || b) (no_other (n == p)) ∙ or-false (was_applied k p xs)

applied_same : (k n : ℕ) (subs : List Sub) (xs : List Place) → all_applied k subs (xs ++ record { node = n; act = Finished } ∷ []) ≡ all_applied k subs xs
applied_same k n [] xs = refl
applied_same k n (sub ∷ subs) xs =
    ap (λ (b : Bool). b && all_applied k subs (xs ++ record { node = n; act = Finished } ∷ [])) (one_applied k n sub.node.0 xs)
    ∙ ap (λ (b : Bool). was_applied k sub.node.0 xs && b) (applied_same k n subs xs)

whole_same : (s : ScriptData) (k n : ℕ) (xs : List Place) → is_whole_in s (xs ++ record { node = n; act = Finished } ∷ []) k ≡ is_whole_in s xs k
whole_same s k n xs =
    let ys : List Place = xs ++ record { node = n; act = Finished } ∷ [] in
    ap (λ (o : Option Version). is_some o && is_complete s ys k) (born_same k n xs)
    ∙ ap (λ (b : Bool). was_born xs k && (if is_strict_tree s k then b else all_done k (length (subs_at s k)) ys)) (applied_same k n (subs_at s k) xs)
    ∙ ap (λ (b : Bool). was_born xs k && (if is_strict_tree s k then all_applied k (subs_at s k) xs else b)) (done_same k n (length (subs_at s k)) xs)

-- Where the client would finish, each tree is whole already.
last_places : (past : List Entry) (e : Entry) → e.acts ≡ Finished ∷ []
    → places_of (reverse (e ∷ past)) ≡ places_of (reverse past) ++ record { node = e.actor.0; act = Finished } ∷ []
last_places past e is =
    places_more e past
    ∙ ap (λ (acts : List Act). places_of (reverse past) ++ map (λ (a : Act). record { node = e.actor.0; act = a }) acts) is

pub finished_there : (past : List Entry) (e : Entry) → e.acts ≡ Finished ∷ [] → HasFinished (reverse (e ∷ past))
finished_there past e is =
    ap has_finished (last_places past e is)
    ∙ has_finished-append (places_of (reverse past)) (record { node = e.actor.0; act = Finished } ∷ []) ∙ or_true (has_finished (places_of (reverse past))) where
      or_true : (b : Bool) → (b || true) ≡ true
      or_true true = refl
      or_true false = refl

pub whole_before : (s : ScriptData) (past : List Entry) (e : Entry) (k : ℕ) → IsValid s → IsStepRun s (e ∷ past) → e.acts ≡ Finished ∷ []
    → k < length s.trees → IsWhole s (reverse past) k
whole_before s past e k valid run is lt =
    let later : IsWhole s (reverse (e ∷ past)) k = whole_at_end s (e ∷ past) k valid run (finished_there past e is) lt in
    sym (whole_same s k e.actor.0 (places_of (reverse past))) ∙ ap (λ (xs : List Place). is_whole_in s xs k) (sym (last_places past e is)) ∙ later

-- The lines one after the other.
text_split : (s : ScriptData) (h : List Entry) (k : ℕ) (xs ys : List Tree)
    → trees_text s h k (xs ++ ys) ≡ trees_text s h k xs ++ trees_text s h (k + length xs) ys
text_split s h k [] ys = ap (λ (i : ℕ). trees_text s h i ys) (omega arith)
text_split s h k (x ∷ xs) ys =
    let line : List ℕ = line_in s h k x in
    ap (λ (text : List ℕ). line ++ text) (text_split s h (k + 1) xs ys
    ∙ ap (λ (i : ℕ). trees_text s h (k + 1) xs ++ trees_text s h i ys) (omega arith))
    ∙ sym (append_assoc line (trees_text s h (k + 1) xs) (trees_text s h (k + suc (length xs)) ys))

texts_same : (s t : ScriptData) (h g : List Entry) (k : ℕ) (xs : List Tree)
    → ((n : ℕ) (x : Tree) → slice_get xs n ≡ Some x → line_in t g (k + n) x ≡ line_in s h (k + n) x)
    → trees_text t g k xs ≡ trees_text s h k xs
texts_same s t h g k [] same = refl
texts_same s t h g k (x ∷ xs) same =
    let here : line_in t g k x ≡ line_in s h k x =
    subst (λ (i : ℕ). line_in t g i x ≡ line_in s h i x) (omega arith) (same 0 x refl) in
    ap (λ (line : List ℕ). line ++ trees_text t g (k + 1) xs) here
    ∙ ap (λ (text : List ℕ). line_in s h k x ++ text)
    (texts_same s t h g (k + 1) xs
    (λ n y at. subst (λ (i : ℕ). line_in t g i y ≡ line_in s h i y) (omega arith) (same (suc n) y at)))

pub fronts_stay : FrontsStay
fronts_stay s t past later e valid valid' goes run is run' =
    let h : List Entry = reverse past in
    let g : List Entry = reverse (later ++ past) in
    let more : List Tree = goes.trees.0 in
    let all : trees_text t g 0 t.trees ≡ trees_text t g 0 (s.trees ++ more) = ap (λ (ts : List Tree). trees_text t g 0 ts) goes.trees.1 in
    let front : trees_text t g 0 s.trees ≡ trees_text s h 0 s.trees =
    texts_same s t h g 0 s.trees (λ n x at. subst (λ (i : ℕ). line_in t g i x ≡ line_in s h i x) (omega arith)
    (lines_stay s t past later n x valid valid' goes run.1 run' at
    (whole_before s past e n valid run is (get_below s.trees n x at)))) in
    let rest : more ≡ drop (length s.trees) t.trees =
    sym (ap (λ (ts : List Tree). drop (length s.trees) ts) goes.trees.1 ∙ drop-append_seam s.trees more) in
    all ∙ text_split t g 0 s.trees more
    ∙ ap (λ (i : ℕ). trees_text t g 0 s.trees ++ trees_text t g i more) (omega arith)
    ∙ ap (λ (text : List ℕ). text ++ trees_text t g (length s.trees) more) front
    ∙ ap (λ (ts : List Tree). trees_text s h 0 s.trees ++ trees_text t g (length s.trees) ts) rest
