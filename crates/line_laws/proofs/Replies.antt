-- Where the client would finish, each transaction has a reply that was taken or is taken next, and that says its line.
use Rattle.std.proofs.Common.{◌≡◌, ◌≢◌, ℕ, zero, suc, ◌+◌, ◌==◌, ◌∙◌, Bool, true, false, List, [], ◌∷◌, ◌++◌, drop, length, replicate, set, get_or, reverse, refl, sym, ap, subst, arith, Option, Some, None}
use Rattle.std.specs.Prelude.{is_some, slice_get}
use Rattle.std.specs.Option.{option_or}
use Rattle.std.proofs.lemmas.Bool.Decides.{nat_tests}
use Rattle.std.proofs.lemmas.Grind.{reverse_onto}
use Rattle.std.proofs.lemmas.List.{get_or-set_other, reverse-reverse}
use Rattle.tv_base.specs.declared.numbers.Version.{Version}
use Rattle.letter_types.specs.declared.bodies.Answer.{Answer}
use Rattle.letter_types.specs.declared.bodies.Body.{Body}
use Rattle.letter_types.specs.declared.bodies.Body.TheVariants.{Go, Reply}
use Rattle.letter_types.specs.declared.entries.Entry.{Entry}
use Rattle.letter_types.specs.declared.entries.Letter.{Letter}
use Rattle.letter_types.specs.declared.entries.LetterId.{LetterId}
use Rattle.letter_types.specs.declared.entries.Outgoing.{Outgoing}
use Rattle.script_parts.specs.ScriptData.{ScriptData}
use Rattle.script_parts.specs.Valid.{IsValid}
use Rattle.script_parts.specs.declared.parts.Tree.{Tree}
use Rattle.board_rules.proofs.Places.{option_or_assoc}
use Rattle.world_model.specs.Client.{Client}
use Rattle.world_model.specs.Counts.{Each}
use Rattle.world_model.specs.Runs.{IsStepRun, client_in, in_flight}
use Rattle.world_model.proofs.Every.{each_map, each_step, each_taken}
use Rattle.world_model.proofs.Flows.{client_kept}
use Rattle.world_model.proofs.Scripts.{get_below}
use Rattle.advance_laws.proofs.right.ClientSteps.{Aside, Begins, ClientStep, Ends, Hears, Tells, client_step}
use Rattle.run_laws.proofs.replies_told.Replies.{each_reversed}
use Rattle.headline.proofs.Finished.{at_end}
use Rattle.report_text.specs.Replies.{line_by, line_if_any, reply_by, reply_in, reply_lines, reply_or_next}
use Rattle.report_text.specs.Report.{trees_text}
use Rattle.audit_laws.specs.ReplyLines.{IsItsLine, line_in}
use Rattle.audit_laws.proofs.ReplyLines.{lines_past}
use Rattle.line_laws.specs.Replies.{RepliesSayLines, RepliesStay}
use Rattle.line_laws.proofs.Fronts.{finished_there}

abbrev Said : Type 0
Said = Option (Version × Answer)

-- The reply of a history that goes on.
reply_in-append : (h later : List Entry) (t : ℕ) → reply_in (h ++ later) t ≡ option_or (reply_in h t) (reply_in later t)
reply_in-append [] later t = refl
reply_in-append (e ∷ h) later t =
    ap (option_or (reply_by t e.took.body)) (reply_in-append h later t)
    ∙ sym (option_or_assoc (reply_by t e.took.body) (reply_in h t) (reply_in later t))

pub replies_stay : RepliesStay
replies_stay h later k r is = reply_in-append h later k ∙ ap (λ (o : Said). option_or o (reply_in later k)) is

one_more : (past : List Entry) (e : Entry) (t : ℕ) → reply_in (reverse (e ∷ past)) t ≡ reply_or_next (reverse past) e.took.body t
one_more past e t =
    ap (λ (h : List Entry). reply_in h t) (reverse_onto past e []) ∙ reply_in-append (reverse past) (e ∷ []) t
    ∙ ap (option_or (reply_in (reverse past) t)) (or_none (reply_by t e.took.body)) where
      or_none : (o : Said) → option_or o None ≡ o
      or_none None = refl
      or_none (Some r) = refl

-- What the client has heard was taken.
some_before : (a b : Said) → is_some a ≡ true → is_some (option_or a b) ≡ true
some_before None b is = absurd (cc is)
some_before (Some r) b is = refl

some_here : (a b : Said) → is_some b ≡ true → is_some (option_or a b) ≡ true
some_here None b is = is
some_here (Some r) b is = refl

abbrev Heard : Client → ℕ → Type 0
Heard c t = get_or c.answered t false ≡ true

abbrev IsTaken : List Entry → ℕ → Type 0
IsTaken past t = is_some (reply_in (reverse past) t) ≡ true

hears : (past : List Entry) (answered : List Bool) (t u : ℕ) (v : Version) (answer : Answer) (b : Body) (test : Bool) → (u == t) ≡ test
    → b ≡ Reply (record { 0 = u }) v answer → (get_or answered t false ≡ true → IsTaken past t)
    → get_or (set answered u true) t false ≡ true → is_some (reply_or_next (reverse past) b t) ≡ true
hears past answered t u v answer b true same is old now =
    some_here (reply_in (reverse past) t) (reply_by t b) (ap (λ (c : Body). is_some (reply_by t c)) is ∙ (rw same refl))
hears past answered t u v answer b false other is old now =
    let ne : t ≢ u = λ (e : t ≡ u). absurd (grind (arith, nat_tests)) in
    some_before (reply_in (reverse past) t) (reply_by t b) (old (sym (get_or-set_other answered u t true false ne) ∙ now))

heard_next : (s : ScriptData) (past : List Entry) (e : Entry) (t : ℕ) → ClientStep s past e → (Heard (client_in s past) t → IsTaken past t)
    → Heard (client_in s (e ∷ past)) t → is_some (reply_or_next (reverse past) e.took.body t) ≡ true
heard_next s past e t (Begins is made) old now =
    some_before (reply_in (reverse past) t) (reply_by t e.took.body) (old (sym (ap (λ (c : Client). get_or c.answered t false) made.state) ∙ now))
heard_next s past e t (Hears u v answer is lt made) old now =
    hears past (client_in s past).answered t u.0 v answer e.took.body (u.0 == t) refl is old
    (sym (ap (λ (c : Client). get_or c.answered t false) made.state) ∙ now)
heard_next s past e t (Ends v is made) old now =
    some_before (reply_in (reverse past) t) (reply_by t e.took.body) (old (sym (ap (λ (c : Client). get_or c.answered t false) made.state) ∙ now))
heard_next s past e t (Tells n is loses made) old now =
    some_before (reply_in (reverse past) t) (reply_by t e.took.body) (old (sym (ap (λ (c : Client). get_or c.answered t false) made.state) ∙ now))
heard_next s past e t (Aside ne) old now =
    some_before (reply_in (reverse past) t) (reply_by t e.took.body)
    (old (sym (ap (λ (c : Client). get_or c.answered t false) (client_kept s past e ne)) ∙ now))

none_heard : (n t : ℕ) → get_or (replicate n false) t false ≡ false
none_heard zero t = refl
none_heard (suc n) zero = refl
none_heard (suc n) (suc t) = none_heard n t

heard_taken : (s : ScriptData) (past : List Entry) (t : ℕ) → IsValid s → IsStepRun s past → Heard (client_in s past) t → IsTaken past t
heard_taken s [] t valid run now = absurd (cc (sym (none_heard (length s.trees) t) ∙ now))
heard_taken s (e ∷ past) t valid run now =
    ap is_some (one_more past e t)
    ∙ heard_next s past e t (client_step s past e valid run) (λ old. heard_taken s past t valid run.1 old) now

-- What holds of all that was sent, and of Go, holds of all that was taken.
all_flight : (P : Body → Type 0) (s : ScriptData) (past : List Entry) → P Go → Each (λ (e : Entry). Each (λ (o : Outgoing). P o.body) e.sent) past
    → Each (λ (l : Letter). P l.body) (in_flight s past)
all_flight P s [] go sent = (go, tt)
all_flight P s (e ∷ past) go sent =
    each_step (λ (l : Letter). P l.body) s past e (all_flight P s past go sent.1)
    (each_map (λ (o : Outgoing). P o.body) (λ (o : Outgoing). (i : LetterId) → P o.body) e.sent (λ o it i. it) sent.0)

all_taken : (P : Body → Type 0) (s : ScriptData) (past : List Entry) → P Go → Each (λ (e : Entry). Each (λ (o : Outgoing). P o.body) e.sent) past
    → IsStepRun s past → Each (λ (e : Entry). P e.took.body) past
all_taken P s [] go sent run = tt
all_taken P s (e ∷ past) go sent run =
    (each_taken (λ (l : Letter). P l.body) s past e run.0 (all_flight P s past go sent.1), all_taken P s past go sent.1 run.1)

-- A reply says the line of its transaction.
abbrev IsLineOf : ScriptData → List Entry → ℕ → Tree → Said → Type 0
IsLineOf s h t x None = Unit {0}
IsLineOf s h t x (Some r) = line_in s h t x ≡ line_by s x x.kind r.0 r.1

said_if : (s : ScriptData) (h : List Entry) (t u : ℕ) (x : Tree) (v : Version) (answer : Answer) (test : Bool) → (u == t) ≡ test
    → slice_get s.trees t ≡ Some x → IsItsLine s h (Reply (record { 0 = u }) v answer)
    → IsLineOf s h t x (reply_by t (Reply (record { 0 = u }) v answer))
said_if s h t u x v answer true same at says =
    let eq : u ≡ t = grind (arith, nat_tests) in
    rw same (subst (λ (i : ℕ). line_in s h i x ≡ line_by s x x.kind v answer) eq
    (says x (subst (λ (i : ℕ). slice_get s.trees i ≡ Some x) (sym eq) at)))
said_if s h t u x v answer false other at says = rw other tt

said_by : (s : ScriptData) (h : List Entry) (t : ℕ) (x : Tree) (b : Body) → slice_get s.trees t ≡ Some x → IsItsLine s h b
    → IsLineOf s h t x (reply_by t b)
said_by s h t x (Reply u v answer) at says = said_if s h t u.0 x v answer (u.0 == t) refl at says
said_by s h t x Go at says = tt
said_by s h t x _ at says = tt

said_or : (s : ScriptData) (h : List Entry) (t : ℕ) (x : Tree) (a b : Said) → IsLineOf s h t x a → IsLineOf s h t x b → IsLineOf s h t x (option_or a b)
said_or s h t x None b one two = two
said_or s h t x (Some r) b one two = one

said_in : (s : ScriptData) (g h : List Entry) (t : ℕ) (x : Tree) → slice_get s.trees t ≡ Some x → Each (λ (e : Entry). IsItsLine s h e.took.body) g
    → IsLineOf s h t x (reply_in g t)
said_in s [] h t x at says = tt
said_in s (e ∷ g) h t x at says =
    said_or s h t x (reply_by t e.took.body) (reply_in g t) (said_by s h t x e.took.body at says.0) (said_in s g h t x at says.1)

line_is : (s : ScriptData) (h : List Entry) (t : ℕ) (x : Tree) (o : Said) → is_some o ≡ true → IsLineOf s h t x o → line_if_any s x o ≡ line_in s h t x
line_is s h t x None some line = absurd (cc some)
line_is s h t x (Some r) some line = sym line

-- The lines one after the other.
texts_same : (s : ScriptData) (h : List Entry) (next : Body) (t : ℕ) (xs : List Tree)
    → ((n : ℕ) (x : Tree) → slice_get xs n ≡ Some x → line_if_any s x (reply_or_next h next (t + n)) ≡ line_in s h (t + n) x)
    → reply_lines s h next t xs ≡ trees_text s h t xs
texts_same s h next t [] same = refl
texts_same s h next t (x ∷ xs) same =
    let here : line_if_any s x (reply_or_next h next t) ≡ line_in s h t x =
    subst (λ (i : ℕ). line_if_any s x (reply_or_next h next i) ≡ line_in s h i x) (omega arith) (same 0 x refl) in
    ap (λ (line : List ℕ). line ++ reply_lines s h next (t + 1) xs) here
    ∙ ap (λ (text : List ℕ). line_in s h t x ++ text)
    (texts_same s h next (t + 1) xs
    (λ n y at. subst (λ (i : ℕ). line_if_any s y (reply_or_next h next i) ≡ line_in s h i y) (omega arith) (same (suc n) y at)))

get_drop : {X : Type 0} (k n : ℕ) (xs : List X) (x : X) → slice_get (drop k xs) n ≡ Some x → slice_get xs (k + n) ≡ Some x
get_drop zero n xs x at = subst (λ (i : ℕ). slice_get xs i ≡ Some x) (omega arith) at
get_drop (suc k) n [] x at = absurd (cc at)
get_drop (suc k) n (y ∷ xs) x at =
    subst (λ (i : ℕ). slice_get (y ∷ xs) i ≡ Some x) (more k n) (get_drop k n xs x at) where
      more : (k n : ℕ) → suc (k + n) ≡ suc k + n
      more k n = omega arith

pub replies_say_lines : RepliesSayLines
replies_say_lines s past e k valid run is =
    let h : List Entry = reverse past in
    let P : Body → Type 0 = IsItsLine s h in
    let Sent : Entry → Type 0 = λ (x : Entry). Each (λ (o : Outgoing). P o.body) x.sent in
    let sent : Each Sent past = subst (Each Sent) (reverse-reverse past) (each_reversed Sent h (lines_past s past valid run.1)) in
    let taken : Each (λ (x : Entry). P x.took.body) h = each_reversed (λ (x : Entry). P x.took.body) past (all_taken P s past tt sent run.1) in
    let next : P e.took.body = each_taken (λ (l : Letter). P l.body) s past e run.0 (all_flight P s past tt sent) in
    texts_same s h e.took.body k (drop k s.trees)
    (λ n x found.
    let t : ℕ = k + n in
    let at : slice_get s.trees t ≡ Some x = get_drop k n s.trees x found in
    let heard : Heard (client_in s (e ∷ past)) t = (at_end s (e ∷ past) valid run (finished_there past e is)).heard t (get_below s.trees t x at) in
    let some : is_some (reply_or_next h e.took.body t) ≡ true =
    sym (ap is_some (one_more past e t)) ∙ heard_taken s (e ∷ past) t valid run heard in
    line_is s h t x (reply_or_next h e.took.body t) some
    (said_or s h t x (reply_in h t) (reply_by t e.took.body) (said_in s h h t x at taken) (said_by s h t x e.took.body at next)))
