-- The lines of letters and of acts are printed as their words.
use Rattle.std.proofs.Common.{◌≡◌, ◌∷◌, ◌++◌, [], List, true, false, ℕ, refl, sym, ap, append_assoc}
use Rattle.std.specs.Prelude.{codes}
use Rattle.std.specs.List.{AllByRecursion}
use Rattle.letter_types.specs.declared.acts.Act.{Act}
use Rattle.letter_types.specs.declared.acts.Act.TheVariants as acts
use Rattle.letter_types.specs.declared.entries.Outgoing.{Outgoing}
use Rattle.tx_trees.specs.ScriptData.{ScriptData}
use Rattle.tx_trees.specs.Valid.{IsValid}
use Rattle.history_text.specs.History.{act_line, act_lines, sent_line, sent_lines}
use Rattle.history_text.specs.LineParts.{act_parts, body_parts, parts_text}
use Rattle.history_text.specs.TreeNames.{actor_text}
use Rattle.history_text.specs.Printable.{IsAct, IsSent}
use Rattle.history_text.specs.Parts.{lacks, parts_at}
use Rattle.history_reader.specs.inside.Heads.{act_line_words, sent_words}
use Rattle.history_reader.specs.inside.Lines.{begins}
use Rattle.history_reader.proofs.Forms.{act_tail, body_tail}
use Rattle.history_reader.proofs.LineLists.{ArePrinted, IsPrinted, bad_line, good_line, no_line}
use Rattle.history_reader.proofs.Solid.{actor_solid}
use Rattle.history_reader.proofs.Spelling.{both, line, word}

-- a letter's line without its end
abbrev pub sent_text : ScriptData → Outgoing → List ℕ
sent_text s o = codes "sent" ++ ((32 ∷ actor_text s o.to.0) ++ parts_text s (body_parts o.body))

abbrev pub act_line_text : ScriptData → Act → List ℕ
act_line_text s a = codes "act" ++ parts_text s (act_parts a)

sent_is : (s : ScriptData) (o : Outgoing) → IsValid s → IsSent s o → IsPrinted (sent_line s o) (sent_text s o) (sent_words s o)
sent_is s o valid may =
    let actor : List ℕ = actor_text s o.to.0 in
    let body : List ℕ = parts_text s (body_parts o.body) in
    record {
      is = ap (λ (t : List ℕ). codes "sent " ++ t) (sym (append_assoc actor body (10 ∷ [])));
      of = line (codes "sent") (record { no_space = refl; no_end = refl }) (both (word actor (actor_solid s o.to.0 valid may.0)) (body_tail s valid o.body may.1));
    }

act_is : (s : ScriptData) (a : Act) → IsValid s → IsAct s a → IsPrinted (act_line s a) (act_line_text s a) (act_line_words s a)
act_is s a valid may = record { is = refl; of = line (codes "act") (record { no_space = refl; no_end = refl }) (act_tail s valid a may) }

-- a space is behind the word that begins an act's line
pub act_begun : (s : ScriptData) (a : Act) (rest : List ℕ) → begins (codes "act ") (act_line s a ++ rest) ≡ true
act_begun s (acts.Born t v) rest = refl
act_begun s (acts.Did t k vs) rest = refl
act_begun s (acts.Turned v) rest = refl
act_begun s (acts.Showed v) rest = refl
act_begun s (acts.Swept v) rest = refl
act_begun s acts.Finished rest = refl
act_begun s (acts.Waits t u r) rest = refl
act_begun s (acts.Parked t k x h) rest = refl
act_begun s (acts.Voted t k vote) rest = refl
act_begun s (acts.Freed t) rest = refl
act_begun s (acts.Decided t b) rest = refl
act_begun s (acts.Applied t b) rest = refl

pub letters_printed : (s : ScriptData) → IsValid s → ArePrinted (codes "sent ") (sent_line s) (sent_lines s) (sent_words s) (IsSent s)
letters_printed s valid = record { text = sent_text s; none = refl; more = λ x xs. refl; begun = λ x rest. refl; line = λ x may. sent_is s x valid may }

pub acts_printed : (s : ScriptData) → IsValid s → ArePrinted (codes "act ") (act_line s) (act_lines s) (act_line_words s) (IsAct s)
acts_printed s valid = record { text = act_line_text s; none = refl; more = λ x xs. refl; begun = act_begun s; line = λ x may. act_is s x valid may }

pub no_letter_line : (s : ScriptData) (old now : List ℕ) (read : List Outgoing) → IsValid s → old ≡ sent_lines s read ++ now → AllByRecursion (IsSent s) read → begins (codes "sent ") now ≡ true → lacks 10 now ≡ true
    → (xs : List Outgoing) (rest : List ℕ) → old ≡ sent_lines s xs ++ rest → AllByRecursion (IsSent s) xs → begins (codes "sent ") rest ≡ false → ⊥
no_letter_line s old now read valid is mr on lack = no_line (codes "sent ") (sent_line s) (sent_lines s) (sent_words s) (IsSent s) (letters_printed s valid) old now read is mr on lack

pub bad_letter_line : (s : ScriptData) (old now line new : List ℕ) (read : List Outgoing) → IsValid s → old ≡ sent_lines s read ++ now → AllByRecursion (IsSent s) read → begins (codes "sent ") now ≡ true
    → now ≡ line ++ 10 ∷ new → lacks 10 line ≡ true → ((x : Outgoing) → parts_at 32 line ≡ sent_words s x → IsSent s x → ⊥)
    → (xs : List Outgoing) (rest : List ℕ) → old ≡ sent_lines s xs ++ rest → AllByRecursion (IsSent s) xs → begins (codes "sent ") rest ≡ false → ⊥
bad_letter_line s old now line new read valid is mr on cut whole only = bad_line (codes "sent ") (sent_line s) (sent_lines s) (sent_words s) (IsSent s) (letters_printed s valid) old now line new read is mr on cut whole only

pub good_letter_line : (s : ScriptData) (old now line new : List ℕ) (read : List Outgoing) (x : Outgoing) → IsValid s → old ≡ sent_lines s read ++ now → now ≡ line ++ 10 ∷ new → parts_at 32 line ≡ sent_words s x → IsSent s x
    → old ≡ sent_lines s (read ++ x ∷ []) ++ new
good_letter_line s old now line new read x valid is cut parts may = good_line (codes "sent ") (sent_line s) (sent_lines s) (sent_words s) (IsSent s) (letters_printed s valid) old now line new read x is cut parts may

pub no_act_line : (s : ScriptData) (old now : List ℕ) (read : List Act) → IsValid s → old ≡ act_lines s read ++ now → AllByRecursion (IsAct s) read → begins (codes "act ") now ≡ true → lacks 10 now ≡ true
    → (xs : List Act) (rest : List ℕ) → old ≡ act_lines s xs ++ rest → AllByRecursion (IsAct s) xs → begins (codes "act ") rest ≡ false → ⊥
no_act_line s old now read valid is mr on lack = no_line (codes "act ") (act_line s) (act_lines s) (act_line_words s) (IsAct s) (acts_printed s valid) old now read is mr on lack

pub bad_act_line : (s : ScriptData) (old now line new : List ℕ) (read : List Act) → IsValid s → old ≡ act_lines s read ++ now → AllByRecursion (IsAct s) read → begins (codes "act ") now ≡ true
    → now ≡ line ++ 10 ∷ new → lacks 10 line ≡ true → ((x : Act) → parts_at 32 line ≡ act_line_words s x → IsAct s x → ⊥)
    → (xs : List Act) (rest : List ℕ) → old ≡ act_lines s xs ++ rest → AllByRecursion (IsAct s) xs → begins (codes "act ") rest ≡ false → ⊥
bad_act_line s old now line new read valid is mr on cut whole only = bad_line (codes "act ") (act_line s) (act_lines s) (act_line_words s) (IsAct s) (acts_printed s valid) old now line new read is mr on cut whole only

pub good_act_line : (s : ScriptData) (old now line new : List ℕ) (read : List Act) (x : Act) → IsValid s → old ≡ act_lines s read ++ now → now ≡ line ++ 10 ∷ new → parts_at 32 line ≡ act_line_words s x → IsAct s x
    → old ≡ act_lines s (read ++ x ∷ []) ++ new
good_act_line s old now line new read x valid is cut parts may = good_line (codes "act ") (act_line s) (act_lines s) (act_line_words s) (IsAct s) (acts_printed s valid) old now line new read x is cut parts may
