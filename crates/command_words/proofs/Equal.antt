-- The recursion over the words and clap agree on each command line.
use Rattle.std.proofs.Common.{◌≡◌, ◌≢◌, ◌∙◌, List, [], ◌∷◌, ◌++◌, Option, Some, None, codes, refl, sym, ap, subst, ℕ, Bool, true, false}
use Rattle.std.specs.List.{list_any}
use Rattle.std.specs.Prelude.{map, ◌||◌}
use Rattle.clap.proofs.WalkLemmas.{list_any-map}
use Rattle.std.proofs.Common.{suc, arith}
use Rattle.std.proofs.lemmas.Bool.{ne_eqb}
use Rattle.command_words.specs.Parser.{IsParse, the_app}
use Rattle.command_words.specs.inside.Parser.{is_on, line_from, line_of_rows}
use Rattle.command_words.specs.declared.WordsError.{WordsError}
use Rattle.command_words.specs.declared.WordsError.TheVariants as errors
use Rattle.clap.specs.declared.parser.matches.ArgMatches.{ArgMatches}
use Rattle.command_words.proofs.Getters.{same_line}
use Rattle.std.proofs.Common.{Ok, Err}
use Rattle.command_words.specs.Lines.{HasReadLine}
use Rattle.command_words.specs.declared.Line.{Line}
use Rattle.std.specs.Prelude.{drop, length, is_some, option_and_then, slice_get, ◌==◌, if◌then◌else◌}
use Rattle.std.specs.Str.{bytes_eq, chars}
use Rattle.std.proofs.lemmas.Slice.Eq.{bytes_eq-Decides}
use Rattle.clap.specs.Lexer.{long_of, short_of, strip_byte, short_of_rest}
use Rattle.clap.specs.Words.{Kinds, Row, Text, fault_of, first_value, found_of, matches_of}
use Rattle.clap.specs.Walk.{Walk, has_row, used, walked}
use Rattle.clap.specs.Faults.{turn_fault}
use Rattle.clap.specs.declared.error.kind.ErrorKind.{ErrorKind}
use Rattle.command_words.specs.Grammar.{line_of_options}
use Rattle.command_words.proofs.Fields.{line_by_mode, name_of, option_is, line_of_fields, no_fields, Opt, mode, workers, seed, trees, option_of, Fields, by_option, fill, fill_history, field_of, with_field}
use Rattle.command_words.proofs.Plain.{is_option_word, is_short_word, line_taken, plain_line, taken}
use Rattle.command_words.proofs.Steps.{Says, IsUnknown, Rel, at_rows, waits_at, full_at, top, rule, history, total, Total, Holds, step_total, new_row, mode_wanted, unknown_is, not_flag}
use Rattle.command_words.proofs.Steps as s

-- what a word is, where it is not `--`
data Word (x : Text) : Type 0 where
  known : (q : Opt) (v : Option Text) → Says x (name_of q) v → Word x
  flag : (v : Option Text) → Says x (codes "history") v → Word x
  unknown : (name : Text) (v : Option Text) → Says x name v → IsUnknown name → Word x
  short : (f : ℕ) (fs : Text) (c : ℕ) → long_of x ≡ None → bytes_eq x (45 ∷ 45 ∷ []) ≡ false → short_of x ≡ Some (f ∷ fs) → slice_get (chars (f ∷ fs)) 0 ≡ Some c → Word x
  no_char : (f : ℕ) (fs : Text) → long_of x ≡ None → bytes_eq x (45 ∷ 45 ∷ []) ≡ false → short_of x ≡ Some (f ∷ fs) → slice_get (chars (f ∷ fs)) 0 ≡ None → Word x
  plain_text : long_of x ≡ None → bytes_eq x (45 ∷ 45 ∷ []) ≡ false → short_of x ≡ None → Word x

short_some : (rest : Text) → short_of_rest rest ≡ Some [] → ⊥
short_some [] e = cc
short_some (x ∷ xs) e = by (x == 45) e
  where
    by : (b : Bool) → (let o : Option Text = if b then None else Some (x ∷ xs) in o) ≡ Some [] → ⊥
    by true h = cc
    by false h = cc

short_not_nil : (o : Option Text) → option_and_then short_of_rest o ≡ Some [] → ⊥
short_not_nil None e = cc
short_not_nil (Some rest) e = short_some rest e

word_is : (x : Text) → bytes_eq x (45 ∷ 45 ∷ []) ≡ false → Word x
word_is x plain = by_long (long_of x) refl
  where
    by_name : (name : Text) (v : Option Text) → long_of x ≡ Some (name, v) → (o : Option Opt) → option_of name ≡ o → (b : Bool) → bytes_eq (codes "history") name ≡ b → Word x
    by_name name v e (Some q) eo b eb = known q v (record { is = e ∙ ap (λ (n : Text). Some (n, v)) (sym (option_is name q eo)); plain = plain })
    by_name name v e None eo true eb = flag v (record { is = e ∙ ap (λ (n : Text). Some (n, v)) (sym ((bytes_eq-Decides (codes "history") name).0 eb)); plain = plain })
    by_name name v e None eo false eb = unknown name v (record { is = e; plain = plain }) (unknown_is name eo eb)

    by_char : (f : ℕ) (fs : Text) (o : Option ℕ) → long_of x ≡ None → short_of x ≡ Some (f ∷ fs) → slice_get (chars (f ∷ fs)) 0 ≡ o → Word x
    by_char f fs (Some c) l sh e = short f fs c l plain sh e
    by_char f fs None l sh e = no_char f fs l plain sh e

    by_short : (o : Option Text) → long_of x ≡ None → short_of x ≡ o → Word x
    by_short None l sh = plain_text l plain sh
    by_short (Some []) l sh = absurd (short_not_nil (strip_byte 45 x) sh)
    by_short (Some (f ∷ fs)) l sh = by_char f fs (slice_get (chars (f ∷ fs)) 0) l sh refl

    by_long : (l : Option (Text × Option Text)) → long_of x ≡ l → Word x
    by_long None e = by_short (short_of x) e refl
    by_long (Some p) e = by_name p.0 p.1 e (option_of p.0) refl (bytes_eq (codes "history") p.0) refl

abbrev Agrees : Option Fields → Total → Type 0
Agrees None t = t.0 ≢ []
Agrees (Some g) t = (t.0 ≡ mode_wanted (is_some g.mode_given)) × Holds g t.1

-- ---- a fault at a word is the fault of the words, and a word that passes leaves the rest
fails : (w : Walk) (x : Text) (xs : List Text) (k : ErrorKind) (ks : Kinds) → turn_fault top [] w x ≡ k ∷ ks → total w (x ∷ xs) ≡ (k ∷ ks, [])
unfolding total
fails w x xs k ks e = ap (λ (t : Kinds). step_total t (total (walked top.rules [] w x) xs)) e

passes : (w v : Walk) (x : Text) (xs : List Text) → turn_fault top [] w x ≡ [] → walked top.rules [] w x ≡ v → total w (x ∷ xs) ≡ total v xs
unfolding total
passes w v x xs e f = ap (λ (t : Kinds). step_total t (total (walked top.rules [] w x) xs)) e ∙ ap (λ (u : Walk). total u xs) f

some_fault : (k : ErrorKind) (ks faults : Kinds) → faults ≡ k ∷ ks → faults ≢ []
some_fault k ks faults e z = cc

some_kind : (k : ErrorKind) (ks : Kinds) (t : Total) → t ≡ (k ∷ ks, []) → t.0 ≢ []
some_kind k ks t e = some_fault k ks t.0 (ap (λ (z : Total). z.0) e)

option_known : (q : Opt) → option_of (name_of q) ≡ Some q
option_known mode = refl
option_known workers = refl
option_known seed = refl
option_known trees = refl

no_option : (name : Text) → IsUnknown name → option_of name ≡ None
no_option name u = rw (u.mode_not, u.workers_not, u.seed_not, u.trees_not) refl

-- ---- what follows agrees
record Rest (xs : List Text) : Type 0 where
  idle_agrees : (g : Fields) (rows : List Row) → Rel g rows → Agrees (taken g None xs) (total (at_rows rows) xs)
  waits_agrees : (g : Fields) (o : Opt) (rows : List Row) → Rel g rows → Agrees (taken g (Some o) xs) (total (waits_at o rows) xs)
  full_agrees : (g : Fields) (o : Opt) (v : Text) (rows : List Row) → Rel g rows → has_row (name_of o) rows ≡ false → Agrees (taken (with_field o v g) None xs) (total (full_at o v rows) xs)
  doomed : (o : Opt) (v : Text) (rows : List Row) → has_row (name_of o) rows ≡ true → (total (full_at o v rows) xs).0 ≢ []

-- the recursion at a word
abbrev then_given : List Text → Fields → Option Opt → Option Fields
then_given xs = λ h waiting. taken h waiting xs

given_idle : (g : Fields) (x : Text) (xs : List Text) (l : Option (Text × Option Text)) → long_of x ≡ l → taken g None (x ∷ xs) ≡ by_option g l (then_given xs)
unfolding taken
given_idle g x xs l e = ap (λ (z : Option (Text × Option Text)). by_option g z (then_given xs)) e

idle_known : (g : Fields) (rows : List Row) (x : Text) (xs : List Text) (q : Opt) (v : Option Text) → Says x (name_of q) v → Rel g rows → Rest xs → Agrees (taken g None (x ∷ xs)) (total (at_rows rows) (x ∷ xs))
idle_known g rows x xs q (Some v) says r rest =
    let own : taken g None (x ∷ xs) ≡ option_and_then (λ h. taken h None xs) (fill q v g) = given_idle g x xs _ says.is ∙ ap (λ (o : Option Opt). option_and_then (λ p. option_and_then (λ h. taken h None xs) (fill p v g)) o) (option_known q) in
    by (is_some (field_of q g)) refl own
  where
    by : (b : Bool) → is_some (field_of q g) ≡ b → taken g None (x ∷ xs) ≡ option_and_then (λ h. taken h None xs) (fill q v g) → Agrees (taken g None (x ∷ xs)) (total (at_rows rows) (x ∷ xs))
    by true e own =
        let none : taken g None (x ∷ xs) ≡ None = own ∙ rw e refl in
        subst (λ (o : Option Fields). Agrees o (total (at_rows rows) (x ∷ xs))) (sym none) (some_kind _ _ _ (fails (at_rows rows) x xs _ _ (s.value_again q rows x v says (r.has q ∙ e))))
    by false e own =
        let fresh = r.has q ∙ e in
        let some : taken g None (x ∷ xs) ≡ taken (with_field q v g) None xs = own ∙ rw e refl in
        let t = passes (at_rows rows) _ x xs (s.value_passes q rows x v says fresh) (s.value_walks q rows x v says) ∙ ap (λ (z : List Row). total (at_rows z) xs) (s.used_push q v rows fresh) in
        subst (λ (o : Option Fields). Agrees o (total (at_rows rows) (x ∷ xs))) (sym some) (subst (Agrees (taken (with_field q v g) None xs)) (sym t) (rest.idle_agrees (with_field q v g) (rows ++ new_row (rule q) v ∷ []) (s.rel_value g rows q v r fresh)))
idle_known g rows x xs q None says r rest =
    let own : taken g None (x ∷ xs) ≡ taken g (Some q) xs = given_idle g x xs _ says.is ∙ rw (not_flag q, option_known q) refl in
    let t = passes (at_rows rows) (waits_at q rows) x xs (s.waits_passes q rows x says) (s.waits_walks q rows x says) in
    subst (λ (o : Option Fields). Agrees o (total (at_rows rows) (x ∷ xs))) (sym own) (subst (Agrees (taken g (Some q) xs)) (sym t) (rest.waits_agrees g q rows r))

idle_flag : (g : Fields) (rows : List Row) (x : Text) (xs : List Text) (v : Option Text) → Says x (codes "history") v → Rel g rows → Rest xs → Agrees (taken g None (x ∷ xs)) (total (at_rows rows) (x ∷ xs))
idle_flag g rows x xs (Some v) says r rest =
    subst (λ (o : Option Fields). Agrees o (total (at_rows rows) (x ∷ xs))) (sym (given_idle g x xs _ says.is)) (some_kind _ _ _ (fails (at_rows rows) x xs _ _ (s.flag_value_fails rows None x v says)))
idle_flag g rows x xs None says r rest = by g.history_given refl (given_idle g x xs _ says.is)
  where
    by : (b : Bool) → g.history_given ≡ b → taken g None (x ∷ xs) ≡ option_and_then (λ h. taken h None xs) (fill_history g) → Agrees (taken g None (x ∷ xs)) (total (at_rows rows) (x ∷ xs))
    by true e own =
        let none : taken g None (x ∷ xs) ≡ None = own ∙ rw e refl in
        subst (λ (o : Option Fields). Agrees o (total (at_rows rows) (x ∷ xs))) (sym none) (some_kind _ _ _ (fails (at_rows rows) x xs _ _ (s.flag_again rows x says (r.flag ∙ e))))
    by false e own =
        let fresh = r.flag ∙ e in
        let h : Fields = record g { history_given = true } in
        let some : taken g None (x ∷ xs) ≡ taken h None xs = own ∙ rw e refl in
        let t = passes (at_rows rows) _ x xs (s.flag_passes rows x says fresh) (s.flag_walks rows x says) ∙ ap (λ (z : List Row). total (at_rows z) xs) (s.flag_push rows fresh) in
        subst (λ (o : Option Fields). Agrees o (total (at_rows rows) (x ∷ xs))) (sym some) (subst (Agrees (taken h None xs)) (sym t) (rest.idle_agrees h (rows ++ new_row history (codes "true") ∷ []) (s.rel_flag g rows r fresh)))

none_agrees : (o : Option Fields) (faults : Total) (k : ErrorKind) (ks : Kinds) → o ≡ None → faults ≡ (k ∷ ks, []) → Agrees o faults
none_agrees o faults k ks e f = subst (λ (z : Option Fields). Agrees z faults) (sym e) (some_kind k ks faults f)

unknown_none : (g : Fields) (x : Text) (xs : List Text) (name : Text) (v : Option Text) → long_of x ≡ Some (name, v) → IsUnknown name → taken g None (x ∷ xs) ≡ None
unknown_none g x xs name (Some v) e u = given_idle g x xs _ e ∙ rw (no_option name u) refl
unknown_none g x xs name None e u = given_idle g x xs _ e ∙ rw (u.history_not, no_option name u) refl

idle_step : (g : Fields) (rows : List Row) (x : Text) (xs : List Text) → Word x → Rel g rows → Rest xs → Agrees (taken g None (x ∷ xs)) (total (at_rows rows) (x ∷ xs))
idle_step g rows x xs (known q v says) r rest = idle_known g rows x xs q v says r rest
idle_step g rows x xs (flag v says) r rest = idle_flag g rows x xs v says r rest
idle_step g rows x xs (unknown name v says u) r rest = none_agrees _ _ _ _ (unknown_none g x xs name v says.is u) (fails (at_rows rows) x xs _ _ (s.unknown_fails rows None x name v says u))
idle_step g rows x xs (short f fs c l p sh e) r rest = none_agrees _ _ _ _ (given_idle g x xs _ l) (fails (at_rows rows) x xs _ _ (s.short_fails rows None x f fs c l p sh e))
idle_step g rows x xs (no_char f fs l p sh e) r rest = none_agrees _ _ _ _ (given_idle g x xs _ l) (fails (at_rows rows) x xs _ _ (s.no_char_fails rows None x f fs l p sh e))
idle_step g rows x xs (plain_text l p sh) r rest = none_agrees _ _ _ _ (given_idle g x xs _ l) (fails (at_rows rows) x xs _ _ (s.stray_fails rows None x l p sh))

-- ---- where an option waits
given_waits : (g : Fields) (o : Opt) (x : Text) (xs : List Text) (b : Bool) → is_option_word x ≡ b → taken g (Some o) (x ∷ xs) ≡ (if b then None else option_and_then (λ h. taken h None xs) (fill o x g))
unfolding taken
given_waits g o x xs b e = ap (λ (z : Bool). if z then None else option_and_then (λ h. taken h None xs) (fill o x g)) e

long_word : (x : Text) (p : Text × Option Text) → long_of x ≡ Some p → is_option_word x ≡ true
long_word x p e = rw e refl

comes : (g : Fields) (o : Opt) (rows : List Row) (x : Text) (xs : List Text) → is_option_word x ≡ false → turn_fault top [] (waits_at o rows) x ≡ [] → walked top.rules [] (waits_at o rows) x ≡ full_at o x rows → Rel g rows → Rest xs
    → Agrees (taken g (Some o) (x ∷ xs)) (total (waits_at o rows) (x ∷ xs))
comes g o rows x xs no_word turn walk r rest = by (is_some (field_of o g)) refl (given_waits g o x xs false no_word) (passes (waits_at o rows) (full_at o x rows) x xs turn walk)
  where
    by : (b : Bool) → is_some (field_of o g) ≡ b → taken g (Some o) (x ∷ xs) ≡ option_and_then (λ h. taken h None xs) (fill o x g) → total (waits_at o rows) (x ∷ xs) ≡ total (full_at o x rows) xs
        → Agrees (taken g (Some o) (x ∷ xs)) (total (waits_at o rows) (x ∷ xs))
    by true e own t =
        let none : taken g (Some o) (x ∷ xs) ≡ None = own ∙ rw e refl in
        subst (λ (z : Option Fields). Agrees z (total (waits_at o rows) (x ∷ xs))) (sym none) (λ q. rest.doomed o x rows (r.has o ∙ e) (ap (λ (z : Total). z.0) (sym t) ∙ q))
    by false e own t =
        let some : taken g (Some o) (x ∷ xs) ≡ taken (with_field o x g) None xs = own ∙ rw e refl in
        subst (λ (z : Option Fields). Agrees z (total (waits_at o rows) (x ∷ xs))) (sym some) (subst (Agrees (taken (with_field o x g) None xs)) (sym t) (rest.full_agrees g o x rows r (r.has o ∙ e)))

waits_flag : (o : Opt) (rows : List Row) (x : Text) (xs : List Text) (v : Option Text) → Says x (codes "history") v → (total (waits_at o rows) (x ∷ xs)).0 ≢ []
waits_flag o rows x xs None says = some_kind _ _ _ (fails (waits_at o rows) x xs _ _ (s.waits_flag_fails o rows x says))
waits_flag o rows x xs (Some v) says = some_kind _ _ _ (fails (waits_at o rows) x xs _ _ (s.waits_flag_value_fails o rows x v says))

waits_step : (g : Fields) (o : Opt) (rows : List Row) (x : Text) (xs : List Text) → Word x → Rel g rows → Rest xs → Agrees (taken g (Some o) (x ∷ xs)) (total (waits_at o rows) (x ∷ xs))
waits_step g o rows x xs (known q v says) r rest = none_agrees _ _ _ _ (given_waits g o x xs true (long_word x _ says.is)) (fails (waits_at o rows) x xs _ _ (s.waits_known_fails o q rows x v says))
waits_step g o rows x xs (flag v says) r rest = subst (λ (z : Option Fields). Agrees z (total (waits_at o rows) (x ∷ xs))) (sym (given_waits g o x xs true (long_word x _ says.is))) (waits_flag o rows x xs v says)
waits_step g o rows x xs (unknown name v says u) r rest = none_agrees _ _ _ _ (given_waits g o x xs true (long_word x _ says.is)) (fails (waits_at o rows) x xs _ _ (s.unknown_fails_waiting o rows x name v says u))
waits_step g o rows x xs (short f fs c l p sh e) r rest = none_agrees _ _ _ _ (given_waits g o x xs true (rw (l, sh, e) refl)) (fails (waits_at o rows) x xs _ _ (s.short_fails_waiting o rows x f fs c l p sh e))
waits_step g o rows x xs (no_char f fs l p sh e) r rest = comes g o rows x xs (rw (l, sh, e, p) refl) (s.no_char_passes o rows x f fs l p sh e) (s.no_char_walks o rows x f fs l p sh e) r rest
waits_step g o rows x xs (plain_text l p sh) r rest = comes g o rows x xs (rw (l, sh, p) refl) (s.comes_passes o rows x p l sh) (s.comes_walks o rows x p l sh) r rest

-- ---- where a value has come
same_passes : (w v : Walk) (x : Text) (xs : List Text) → turn_fault top [] w x ≡ turn_fault top [] v x → walked top.rules [] w x ≡ walked top.rules [] v x → total w (x ∷ xs) ≡ total v (x ∷ xs)
unfolding total
same_passes w v x xs e f = ap (λ (t : Kinds). step_total t (total (walked top.rules [] w x) xs)) e ∙ ap (λ (u : Walk). step_total (turn_fault top [] v x) (total u xs)) f

full_flag : (o : Opt) (v : Text) (rows : List Row) (x : Text) (xs : List Text) (w : Option Text) → Says x (codes "history") w → has_row (name_of o) rows ≡ false → total (full_at o v rows) (x ∷ xs) ≡ total (at_rows (used (rule o) (v ∷ []) rows)) (x ∷ xs)
full_flag o v rows x xs None says fresh = same_passes _ _ x xs (s.full_turn_flag o rows v x fresh says) (s.full_walk_flag o rows v x says)
full_flag o v rows x xs (Some w) says fresh = fails (full_at o v rows) x xs _ _ (s.flag_value_fails rows _ x w says) ∙ sym (fails (at_rows (used (rule o) (v ∷ []) rows)) x xs _ _ (s.flag_value_fails _ None x w says))

full_same : (o : Opt) (v : Text) (rows : List Row) (x : Text) (xs : List Text) → Word x → has_row (name_of o) rows ≡ false → total (full_at o v rows) (x ∷ xs) ≡ total (at_rows (used (rule o) (v ∷ []) rows)) (x ∷ xs)
full_same o v rows x xs (known q w says) fresh = same_passes _ _ x xs (s.full_turn o q rows v x w fresh says) (s.full_walk o q rows v x w says)
full_same o v rows x xs (flag w says) fresh = full_flag o v rows x xs w says fresh
full_same o v rows x xs (unknown name w says u) fresh = fails (full_at o v rows) x xs _ _ (s.unknown_fails rows _ x name w says u) ∙ sym (fails (at_rows (used (rule o) (v ∷ []) rows)) x xs _ _ (s.unknown_fails _ None x name w says u))
full_same o v rows x xs (short f fs c l p sh e) fresh = fails (full_at o v rows) x xs _ _ (s.short_fails rows _ x f fs c l p sh e) ∙ sym (fails (at_rows (used (rule o) (v ∷ []) rows)) x xs _ _ (s.short_fails _ None x f fs c l p sh e))
full_same o v rows x xs (no_char f fs l p sh e) fresh = fails (full_at o v rows) x xs _ _ (s.no_char_fails rows _ x f fs l p sh e) ∙ sym (fails (at_rows (used (rule o) (v ∷ []) rows)) x xs _ _ (s.no_char_fails _ None x f fs l p sh e))
full_same o v rows x xs (plain_text l p sh) fresh = fails (full_at o v rows) x xs _ _ (s.stray_fails rows _ x l p sh) ∙ sym (fails (at_rows (used (rule o) (v ∷ []) rows)) x xs _ _ (s.stray_fails _ None x l p sh))

full_step : (g : Fields) (o : Opt) (v : Text) (rows : List Row) (x : Text) (xs : List Text) → Word x → Rel g rows → has_row (name_of o) rows ≡ false → Rest xs → Agrees (taken (with_field o v g) None (x ∷ xs)) (total (full_at o v rows) (x ∷ xs))
full_step g o v rows x xs word r fresh rest =
    let t = full_same o v rows x xs word fresh ∙ ap (λ (z : List Row). total (at_rows z) (x ∷ xs)) (s.used_push o v rows fresh) in
    subst (Agrees (taken (with_field o v g) None (x ∷ xs))) (sym t) (idle_step (with_field o v g) (rows ++ new_row (rule o) v ∷ []) x xs word (s.rel_value g rows o v r fresh) rest)

doomed_step : (o : Opt) (v : Text) (rows : List Row) (x : Text) (xs : List Text) → Word x → has_row (name_of o) rows ≡ true → (total (full_at o v rows) (x ∷ xs)).0 ≢ []
doomed_step o v rows x xs (known q w says) again = some_kind _ _ _ (fails (full_at o v rows) x xs _ _ (s.full_again o q rows v x w again says))
doomed_step o v rows x xs (flag None says) again = some_kind _ _ _ (fails (full_at o v rows) x xs _ _ (s.full_again_flag o rows v x again says))
doomed_step o v rows x xs (flag (Some w) says) again = some_kind _ _ _ (fails (full_at o v rows) x xs _ _ (s.flag_value_fails rows _ x w says))
doomed_step o v rows x xs (unknown name w says u) again = some_kind _ _ _ (fails (full_at o v rows) x xs _ _ (s.unknown_fails rows _ x name w says u))
doomed_step o v rows x xs (short f fs c l p sh e) again = some_kind _ _ _ (fails (full_at o v rows) x xs _ _ (s.short_fails rows _ x f fs c l p sh e))
doomed_step o v rows x xs (no_char f fs l p sh e) again = some_kind _ _ _ (fails (full_at o v rows) x xs _ _ (s.no_char_fails rows _ x f fs l p sh e))
doomed_step o v rows x xs (plain_text l p sh) again = some_kind _ _ _ (fails (full_at o v rows) x xs _ _ (s.stray_fails rows _ x l p sh))

-- ---- all the words
abbrev Clean : List Text → Type 0
Clean [] = Unit {0}
Clean (x ∷ xs) = (bytes_eq x (45 ∷ 45 ∷ []) ≡ false) × Clean xs

nothing_left : Rest []
unfolding taken
nothing_left = record {
  idle_agrees = λ g rows r. s.ends_at g rows r;
  waits_agrees = λ g o rows r. some_fault _ _ _ (s.waits_ends o rows);
  full_agrees = λ g o v rows r fresh. subst (Agrees (Some (with_field o v g))) (sym (s.full_ends o rows v fresh ∙ ap (λ (z : List Row). total (at_rows z) []) (s.used_push o v rows fresh))) (s.ends_at (with_field o v g) (rows ++ new_row (rule o) v ∷ []) (s.rel_value g rows o v r fresh));
  doomed = λ o v rows again. some_fault _ _ _ (s.full_ends_again o rows v again);
}

rest_is : (xs : List Text) → Clean xs → Rest xs
rest_is [] clean = nothing_left
rest_is (x ∷ xs) clean =
    let rest = rest_is xs clean.1 in
    let word = word_is x clean.0 in
    record {
      idle_agrees = λ g rows r. idle_step g rows x xs word r rest;
      waits_agrees = λ g o rows r. waits_step g o rows x xs word r rest;
      full_agrees = λ g o v rows r fresh. full_step g o v rows x xs word r fresh rest;
      doomed = λ o v rows again. doomed_step o v rows x xs word again;
    }

clean_is : (xs : List Text) → list_any (λ w. bytes_eq w (codes "--")) xs ≡ false → Clean xs
clean_is [] e = tt
clean_is (x ∷ xs) e = by (bytes_eq x (codes "--")) refl e (clean_is xs)
  where
    by : (b : Bool) → bytes_eq x (codes "--") ≡ b → list_any (λ w. bytes_eq w (codes "--")) (x ∷ xs) ≡ false → (list_any (λ w. bytes_eq w (codes "--")) xs ≡ false → Clean xs) → Clean (x ∷ xs)
    by true b e more = absurd (let t : list_any (λ w. bytes_eq w (codes "--")) (x ∷ xs) ≡ true = rw b refl in cc)
    by false b e more = (b, more (rw b at e))

own_total : (words : List Text) → list_any (λ w. bytes_eq w (codes "--")) (drop 1 words) ≡ false → Agrees (taken no_fields None (drop 1 words)) (total (at_rows []) (drop 1 words))
own_total words clean = (rest_is (drop 1 words) (clean_is (drop 1 words) clean)).idle_agrees no_fields [] s.rel_start

line_eq : (m w se t hist : Option Text) (g : Fields) → g.mode_given ≡ m → g.workers_given ≡ w → g.seed_given ≡ se → g.trees_given ≡ t → g.history_given ≡ is_on hist → line_by_mode g.mode_given g ≡ line_from m w se t hist
line_eq None w se t hist g a b c d e = rw a refl
line_eq (Some word) w se t hist g a b c d e = rw (a, b, c, d, e) refl

line_same : (g : Fields) (rows : List Row) → Holds g rows → line_of_fields g ≡ line_of_rows rows
line_same g rows h = line_eq _ _ _ _ _ g (sym (h.values mode)) (sym (h.values workers)) (sym (h.values seed)) (sym (h.values trees)) (sym h.on)

no_mode : (g : Fields) → is_some g.mode_given ≡ false → line_of_fields g ≡ None
no_mode g e = by g.mode_given e
  where
    by : (m : Option Text) → is_some m ≡ false → line_by_mode m g ≡ None
    by None e = refl
    by (Some word) e = absurd cc

lines_by : (own : Option Fields) (faults : Kinds) (rows at_end : List Row) → Agrees own (faults, rows) → (faults ≡ [] → rows ≡ at_end)
    → option_and_then line_of_fields own ≡ (if length faults == 0 then line_of_rows at_end else None)
lines_by None [] rows at_end h same = absurd (h refl)
lines_by None (k ∷ ks) rows at_end h same =
    let more : (length (k ∷ ks) == 0) ≡ false = ne_eqb (suc (length ks)) 0 (λ e. omega arith) in
    sym (ap (λ (b : Bool). let l : Option Line = if b then line_of_rows at_end else None in l) more)
lines_by (Some g) faults rows at_end h same = by (is_some g.mode_given) refl
  where
    by : (b : Bool) → is_some g.mode_given ≡ b → line_of_fields g ≡ (if length faults == 0 then line_of_rows at_end else None)
    by true e =
        let none : faults ≡ [] = h.0 ∙ ap mode_wanted e in
        line_same g rows h.1 ∙ ap line_of_rows (same none) ∙ (let t : (length faults == 0) ≡ true = ap (λ (ks : Kinds). length ks == 0) none in sym (ap (λ (b : Bool). let l : Option Line = if b then line_of_rows at_end else None in l) t))
    by false e =
        let some = h.0 ∙ ap mode_wanted e in
        no_mode g e ∙ (let t : (length faults == 0) ≡ false = ap (λ (ks : Kinds). length ks == 0) some in sym (ap (λ (b : Bool). let l : Option Line = if b then line_of_rows at_end else None in l) t))

pub lines_agree : (words : List Text) → list_any (λ w. bytes_eq w (codes "--")) (drop 1 words) ≡ false
    → line_taken words ≡ (if length (fault_of the_app words) == 0 then line_of_rows (matches_of the_app words) else None)
lines_agree words clean =
    let own = taken no_fields None (drop 1 words) in
    let t = total (at_rows []) (drop 1 words) in
    lines_by own (fault_of the_app words) t.1 (matches_of the_app words)
    (subst (λ (ks : Kinds). Agrees own (ks, t.1)) (sym (s.fault_is words)) (own_total words clean))
    (λ e. s.rows_are (at_rows []) (drop 1 words) (sym (s.fault_is words) ∙ e))

-- ---- `--` ends no options here: it is refused
put_none : {A B : Type 0} (o : Option A) (f : A → Option B) → ((a : A) → f a ≡ None) → option_and_then f o ≡ None
put_none None f h = refl
put_none (Some a) f h = h a

option_none : (g : Fields) (l : Option (Text × Option Text)) (next : Fields → Option Opt → Option Fields) → ((h : Fields) (w : Option Opt) → next h w ≡ None) → by_option g l next ≡ None
option_none g None next h = refl
option_none g (Some (name, Some v)) next h = put_none (option_of name) _ (λ o. put_none (fill o v g) _ (λ k. h k None))
option_none g (Some (name, None)) next h = by (bytes_eq (codes "history") name) refl
  where
    by : (b : Bool) → bytes_eq (codes "history") name ≡ b → by_option g (Some (name, None)) next ≡ None
    by true e = rw e (put_none (fill_history g) _ (λ k. h k None))
    by false e = rw e (put_none (option_of name) _ (λ o. h g (Some o)))

dashes_none : (xs : List Text) (g : Fields) (w : Option Opt) → list_any (λ x. bytes_eq x (codes "--")) xs ≡ true → taken g w xs ≡ None
dashes_none [] g w e = absurd cc
dashes_none (x ∷ xs) g w e = by (bytes_eq x (codes "--")) refl w (λ t h v. dashes_none xs h v t)
  where
    by : (b : Bool) → bytes_eq x (codes "--") ≡ b → (w : Option Opt) → (list_any (λ x. bytes_eq x (codes "--")) xs ≡ true → (h : Fields) (v : Option Opt) → taken h v xs ≡ None) → taken g w (x ∷ xs) ≡ None
    by true d None more =
        let is : x ≡ codes "--" = (bytes_eq-Decides x (codes "--")).0 d in
        given_idle g x xs None (ap long_of is ∙ refl)
    by true d (Some o) more = given_waits g o x xs true (dashed_word (is_some (long_of x) || is_short_word x) d)
      where
        dashed_word : (b : Bool) → bytes_eq x (codes "--") ≡ true → (b || bytes_eq x (codes "--")) ≡ true
        dashed_word true q = refl
        dashed_word false q = q
    by false d None more = given_idle g x xs (long_of x) refl ∙ option_none g (long_of x) _ (more (rw d at e))
    by false d (Some o) more = given_waits g o x xs (is_option_word x) refl ∙ either_none (is_option_word x) (put_none (fill o x g) _ (λ k. more (rw d at e) k None))
      where
        either_none : (b : Bool) → option_and_then (λ h. taken h None xs) (fill o x g) ≡ None → (if b then None else option_and_then (λ h. taken h None xs) (fill o x g)) ≡ None
        either_none true q = refl
        either_none false q = q

drop_map : {X : Type 0} (f : X → Text) (xs : List X) → drop 1 (map f xs) ≡ map f (drop 1 xs)
drop_map f [] = refl
drop_map f (x ∷ xs) = refl

pub dashes_are : {X : Type 0} (f : X → Text) (xs : List X) → list_any (λ w. bytes_eq (f w) (codes "--")) (drop 1 xs) ≡ list_any (λ w. bytes_eq w (codes "--")) (drop 1 (map f xs))
dashes_are f xs = list_any-map (λ w. bytes_eq w (codes "--")) f (drop 1 xs) ∙ ap (list_any (λ w. bytes_eq w (codes "--"))) (sym (drop_map f xs))

pub own_dashed : (words : List Text) → list_any (λ w. bytes_eq w (codes "--")) (drop 1 words) ≡ true → line_of_options words ≡ None
own_dashed words e = plain_line words ∙ ap (option_and_then line_of_fields) (dashes_none (drop 1 words) no_fields None e)

pub own_refused : (words : List Text) → list_any (λ w. bytes_eq w (codes "--")) (drop 1 words) ≡ false → fault_of the_app words ≢ [] → line_of_options words ≡ None
own_refused words clean bad = plain_line words ∙ lines_agree words clean ∙ by (fault_of the_app words) bad
  where
    by : (ks : Kinds) → ks ≢ [] → (let l : Option Line = if length ks == 0 then line_of_rows (matches_of the_app words) else None in l) ≡ None
    by [] h = absurd (h refl)
    by (k ∷ ks) h =
        let more : (length (k ∷ ks) == 0) ≡ false = ne_eqb (suc (length ks)) 0 (λ e. omega arith) in
        ap (λ (b : Bool). let l : Option Line = if b then line_of_rows (matches_of the_app words) else None in l) more

pub own_taken : (words : List Text) → list_any (λ w. bytes_eq w (codes "--")) (drop 1 words) ≡ false → fault_of the_app words ≡ [] → line_of_options words ≡ line_of_rows (matches_of the_app words)
own_taken words clean none = plain_line words ∙ lines_agree words clean ∙ (let t : (length (fault_of the_app words) == 0) ≡ true = ap (λ (ks : Kinds). length ks == 0) none in ap (λ (b : Bool). let l : Option Line = if b then line_of_rows (matches_of the_app words) else None in l) t)

-- ---- what the call answers
abbrev pub dashes_in : List Text → Bool
dashes_in words = list_any (λ w. bytes_eq w (codes "--")) (drop 1 words)

pub refused_tells : (words : List Text) (e : WordsError) → dashes_in words ≡ false → IsParse (Err e) words → HasReadLine (line_of_options words) (Err e)
refused_tells words errors.NoMemory clean h = tt
refused_tells words errors.Refused clean h = own_refused words clean h

pub taken_line : (words : List Text) (m : ArgMatches) (a b c d e : Option Text) → dashes_in words ≡ false → IsParse (Ok m) words
    → a ≡ first_value (found_of m) (codes "mode") → b ≡ first_value (found_of m) (codes "workers") → c ≡ first_value (found_of m) (codes "seed")
    → d ≡ first_value (found_of m) (codes "trees") → e ≡ first_value (found_of m) (codes "history") → line_of_options words ≡ line_from a b c d e
taken_line words m a b c d e clean h ha hb hc hd he = own_taken words clean h.0 ∙ ap line_of_rows (sym h.1) ∙ sym (same_line m a b c d e ha hb hc hd he)
