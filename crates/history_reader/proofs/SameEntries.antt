-- Where letters went as letters do, entries that tell the same are equal: a letter that was taken is Go, or the one that an
-- earlier entry sent under its id.
use Rattle.std.proofs.Common.{◌≡◌, ◌⊎◌, inl, inr, ℕ, ◌+◌, ◌<◌, List, [], ◌∷◌, ◌++◌, length, sym, ap, ◌∙◌, subst, refl, arith, append_assoc, Some}
use Rattle.std.specs.Prelude.{map, slice_get}
use Rattle.std.proofs.lemmas.List.{map-append}
use Rattle.std.proofs.lemmas.Option.{slice_get_within}
use Rattle.tv_base.proofs.ByPlace.{slice_get-old, slice_get_left}
use Rattle.letter_types.specs.declared.entries.Entry.{Entry}
use Rattle.letter_types.specs.declared.entries.Letter.{Letter}
use Rattle.letter_types.specs.declared.entries.LetterId.{LetterId}
use Rattle.letter_types.specs.declared.entries.Posting.{Posting}
use Rattle.letter_types.specs.Letters.{find_id, go}
use Rattle.letter_types.specs.Postal.{IsMessageRun, delivery_of, letters_sent}
use Rattle.letter_types.proofs.Ids.{id_stamp}
use Rattle.tx_trees.specs.ScriptData.{ScriptData, client_of}
use Rattle.history_reader.specs.OneEntry.{TellTheSame}
use Rattle.history_reader.specs.Walks.{IsPostal}
use Rattle.history_reader.proofs.Postings.{CameFrom, came}

-- Go and what was sent have different ids, and under an id one letter was sent at most
go_apart : (client : ℕ) (l m : Letter) (j : ℕ) (f : Posting) → l ≡ go client → f.stamp.0 ≡ j + 1
    → find_id m.id (letters_sent f) ≡ Some m → l.id.stamp.0 ≡ m.id.stamp.0 → ⊥
go_apart client l m j f is stamp found same =
    let first : l.id.stamp.0 ≡ 0 = ap (λ (x : Letter). x.id.stamp.0) is in
    omega (arith, first, stamp, id_stamp f m found, same)

one_letter : (client : ℕ) (log : List Posting) (l m : Letter) → CameFrom client log l → CameFrom client log m → l.id ≡ m.id → l ≡ m
one_letter client log l m (inl is) (inl so) same = is ∙ sym so
one_letter client log l m (inl is) (inr (j, f, at, stamp, found)) same =
    absurd (go_apart client l m j f is stamp found (ap (λ (i : LetterId). i.stamp.0) same))
one_letter client log l m (inr (j, f, at, stamp, found)) (inl is) same =
    absurd (go_apart client m l j f is stamp found (ap (λ (i : LetterId). i.stamp.0) (sym same)))
one_letter client log l m (inr (j, f, at, stamp, found)) (inr (k, g, here, so, known)) same =
    let stamps : l.id.stamp.0 ≡ m.id.stamp.0 = ap (λ (i : LetterId). i.stamp.0) same in
    let place : j ≡ k = omega (arith, id_stamp f l found, id_stamp g m known, stamps, stamp, so) in
    let there : Some f ≡ Some g = sym at ∙ ap (slice_get log) place ∙ here in
    let sender : f ≡ g = cc there in
    let two : Some l ≡ Some m =
    sym found ∙ ap (λ (i : LetterId). find_id i (letters_sent f)) same
    ∙ ap (λ (p : Posting). find_id m.id (letters_sent p)) sender ∙ known in
    cc two

-- the first entries went as letters do
sent_front : (client : ℕ) (log rest : List Posting) (k : ℕ) (e : Posting) → k < length log
    → (e.took ≡ go client) ⊎ ((j : ℕ) × (f : Posting) × (j < k) × (slice_get (log ++ rest) j ≡ Some f)
    × (find_id e.took.id (letters_sent f) ≡ Some e.took))
    → (e.took ≡ go client) ⊎ ((j : ℕ) × (f : Posting) × (j < k) × (slice_get log j ≡ Some f)
    × (find_id e.took.id (letters_sent f) ≡ Some e.took))
sent_front client log rest k e within (inl is) = inl is
sent_front client log rest k e within (inr (j, f, lt, at, found)) =
    inr (j, f, lt, sym (slice_get-old log rest j (omega (arith, lt, within))) ∙ at, found)

run_front : (client : ℕ) (log rest : List Posting) → IsMessageRun client (log ++ rest) → IsMessageRun client log
run_front client log rest post = record {
  stamps = λ k e at. post.stamps k e (slice_get_left log rest k e at);
  sent = λ k e at.
      sent_front client log rest k e (slice_get_within log k e at) (post.sent k e (slice_get_left log rest k e at));
  once = λ j k e f lt at here. post.once j k e f lt (slice_get_left log rest j e at) (slice_get_left log rest k f here);
  addressee = λ k e at. post.addressee k e (slice_get_left log rest k e at);
  known = λ k e at. post.known k e (slice_get_left log rest k e at);
}

pub postal_front : (s : ScriptData) (h g : List Entry) → IsPostal s (h ++ g) → IsPostal s h
postal_front s h g all =
    run_front (client_of s) (map delivery_of h) (map delivery_of g)
    (subst (IsMessageRun (client_of s)) (map-append delivery_of h g) all)

-- so the entry that comes next is fixed
came_last : (s : ScriptData) (h : List Entry) (e : Entry) → IsPostal s (h ++ e ∷ [])
    → CameFrom (client_of s) (map delivery_of h) e.took
came_last s h e post =
    came (client_of s) (map delivery_of h) (delivery_of e)
    (subst (IsMessageRun (client_of s)) (map-append delivery_of h (e ∷ [])) post)

pub same_entry : (s : ScriptData) (h : List Entry) (e f : Entry) → TellTheSame e f → IsPostal s (h ++ e ∷ []) → IsPostal s (h ++ f ∷ [])
    → e ≡ f
same_entry s h e f alike post other =
    let took : e.took ≡ f.took =
    one_letter (client_of s) (map delivery_of h) e.took f.took (came_last s h e post) (came_last s h f other) alike.took in
    λ i. record { stamp = alike.stamp i; actor = alike.actor i; took = took i; sent = alike.sent i; acts = alike.acts i }

-- and so are all, one after the other
abbrev pub AllTellTheSame : List Entry → List Entry → Type 0
AllTellTheSame [] [] = Unit {0}
AllTellTheSame (e ∷ h) (f ∷ g) = TellTheSame e f × AllTellTheSame h g
AllTellTheSame h g = ⊥

next_postal : (s : ScriptData) (before : List Entry) (e : Entry) (h : List Entry) → IsPostal s (before ++ e ∷ h)
    → IsPostal s ((before ++ e ∷ []) ++ h)
next_postal s before e h post = subst (IsPostal s) (sym (append_assoc before (e ∷ []) h)) post

same_behind : (s : ScriptData) (before h g : List Entry) → AllTellTheSame h g → IsPostal s (before ++ h) → IsPostal s (before ++ g) → h ≡ g
same_behind s before [] [] alike post other = refl
same_behind s before [] (f ∷ g) alike post other = absurd alike
same_behind s before (e ∷ h) [] alike post other = absurd alike
same_behind s before (e ∷ h) (f ∷ g) alike post other =
    let first = next_postal s before e h post in
    let second = next_postal s before f g other in
    let one : e ≡ f =
    same_entry s before e f alike.0 (postal_front s (before ++ e ∷ []) h first) (postal_front s (before ++ f ∷ []) g second) in
    let rest : h ≡ g =
    same_behind s (before ++ e ∷ []) h g alike.1 first
    (subst (λ (x : Entry). IsPostal s ((before ++ x ∷ []) ++ g)) (sym one) second) in
    λ i. one i ∷ rest i

pub same_entries : (s : ScriptData) (h g : List Entry) → AllTellTheSame h g → IsPostal s h → IsPostal s g → h ≡ g
same_entries s h g alike post other = same_behind s [] h g alike post other
