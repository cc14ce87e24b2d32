-- An entry is its first line, the lines of its letters and those of its acts.
use Rattle.std.proofs.Common.{◌≡◌, ◌+◌, ◌-◌, ◌≤◌, ◌∙◌, ◌∷◌, ◌++◌, [], List, true, false, ℕ, length, take, drop, inl, inr, refl, sym, ap, subst, arith, append_assoc, length-append}
use Rattle.std.specs.Prelude.{codes, decimal}
use Rattle.std.specs.List.{AllByRecursion}
use Rattle.std.proofs.lemmas.List.{drop_at, take-append-drop}
use Rattle.std.proofs.lemmas.Slice.Eq.{bytes_eq-Decides}
use Rattle.letter_types.specs.declared.acts.Act.{Act}
use Rattle.letter_types.specs.declared.entries.Entry.{Entry}
use Rattle.letter_types.specs.declared.entries.LetterId.{LetterId}
use Rattle.letter_types.specs.declared.entries.Outgoing.{Outgoing}
use Rattle.tx_trees.specs.ScriptData.{ScriptData}
use Rattle.tx_trees.specs.Valid.{IsValid}
use Rattle.history_text.specs.History.{act_line, act_lines, entry_line, entry_lines, sent_line, sent_lines, took_text}
use Rattle.history_text.specs.TreeNames.{actor_text}
use Rattle.history_text.specs.Printable.{Begins, EndsEntry, IsAct, IsPrintable, IsSent}
use Rattle.history_text.specs.Parts.{lacks, parts_at}
use Rattle.history_text.proofs.Cuts.{one_cut}
use Rattle.history_reader.specs.declared.heads.Head.{Head}
use Rattle.history_reader.specs.inside.Heads.{IsHead, IsId, act_line_words, head_words, id_word, sent_words}
use Rattle.history_reader.specs.inside.Lines.{begins, ends_so}
use Rattle.history_reader.proofs.LineLists.{no_lack, same_rest}
use Rattle.history_reader.proofs.Printed.{acts_printed, letters_printed}
use Rattle.history_reader.proofs.Solid.{actor_solid, number_solid, solid-append}
use Rattle.history_reader.proofs.Spelling.{IsLine, IsSolid, both, fixed, line, one_text, word}

id_solid : (id : LetterId) → IsId id → IsSolid (id_word id)
id_solid id may =
    solid-append (decimal id.stamp.0) (codes "." ++ decimal id.place) (number_solid id.stamp.0 may.0)
    (solid-append (codes ".") (decimal id.place) (record { no_space = refl; no_end = refl }) (number_solid id.place (omega (arith, may.1))))

-- the first line without its end
abbrev pub head_text : ScriptData → Head → List ℕ
head_text s h = codes "entry" ++ ((32 ∷ decimal h.stamp.0) ++ ((32 ∷ actor_text s h.actor.0) ++ took_text h.took))

pub head_is : (s : ScriptData) (h : Head) → IsValid s → IsHead s h → IsLine (head_text s h) (head_words s h)
head_is s h valid may =
    line (codes "entry") (record { no_space = refl; no_end = refl })
    (both (word (decimal h.stamp.0) (number_solid h.stamp.0 may.0))
    (both (word (actor_text s h.actor.0) (actor_solid s h.actor.0 valid may.1))
    (both (fixed (codes "took") refl refl) (word (id_word h.took) (id_solid h.took may.2)))))

-- what the first line says of an entry
abbrev pub head_of : Entry → Head
head_of e = record { stamp = e.stamp; actor = e.actor; took = e.took.id }

pub head_may : (s : ScriptData) (e : Entry) → IsPrintable s e → IsHead s (head_of e)
head_may s e may = (may.stamp, may.actor, may.took)

first_line : (s : ScriptData) (e : Entry) → entry_line s e ≡ head_text s (head_of e) ++ 10 ∷ []
first_line s e =
    let stamp : List ℕ = decimal e.stamp.0 in
    let actor : List ℕ = actor_text s e.actor.0 in
    let took : List ℕ = took_text e.took.id in
    ap (λ (t : List ℕ). codes "entry " ++ (stamp ++ (32 ∷ t))) (sym (append_assoc actor took (10 ∷ [])))
    ∙ ap (λ (t : List ℕ). codes "entry " ++ t) (sym (append_assoc stamp (32 ∷ (actor ++ took)) (10 ∷ [])))

-- an entry's lines, cut behind the first
pub entry_cut : (s : ScriptData) (e : Entry) (rest : List ℕ) → entry_lines s e ++ rest ≡ head_text s (head_of e) ++ 10 ∷ (sent_lines s e.sent ++ (act_lines s e.acts ++ rest))
entry_cut s e rest =
    let sent : List ℕ = sent_lines s e.sent in
    let acts : List ℕ = act_lines s e.acts in
    let head : List ℕ = head_text s (head_of e) in
    append_assoc (entry_line s e) (sent ++ acts) rest
    ∙ ap (λ (t : List ℕ). t ++ ((sent ++ acts) ++ rest)) (first_line s e)
    ∙ append_assoc head (10 ∷ []) ((sent ++ acts) ++ rest)
    ∙ ap (λ (t : List ℕ). head ++ 10 ∷ t) (append_assoc sent acts rest)

ends_other : (word rest : List ℕ) → (begins word [] ≡ false) → ((more : List ℕ) → begins word (codes "entry " ++ more) ≡ false) → EndsEntry rest → begins word rest ≡ false
ends_other word rest none entry (inl is) = ap (begins word) is ∙ none
ends_other word rest none entry (inr (more, is)) = ap (begins word) is ∙ entry more

-- behind letters comes no letter, and behind acts no act
pub acts_follow : (s : ScriptData) (acts : List Act) (rest : List ℕ) → EndsEntry rest → begins (codes "sent ") (act_lines s acts ++ rest) ≡ false
acts_follow s [] rest ends = ends_other (codes "sent ") rest refl (λ more. refl) ends
acts_follow s (a ∷ acts) rest ends = refl

pub rest_follows : (rest : List ℕ) → EndsEntry rest → begins (codes "act ") rest ≡ false
rest_follows rest ends = ends_other (codes "act ") rest refl (λ more. refl) ends

pub no_first_line : (s : ScriptData) (text : List ℕ) → lacks 10 text ≡ true → (e : Entry) (rest : List ℕ) → Begins s text e rest → ⊥
no_first_line s text lack e rest b = no_lack (head_text s (head_of e)) _ (ap (lacks 10) (sym (b.lines ∙ entry_cut s e rest)) ∙ lack)

-- the first line and what comes behind it
pub behind_head : (s : ScriptData) (text one new : List ℕ) (e : Entry) (rest : List ℕ) → IsValid s → text ≡ one ++ 10 ∷ new → lacks 10 one ≡ true → Begins s text e rest
    → (one ≡ head_text s (head_of e)) × (new ≡ sent_lines s e.sent ++ (act_lines s e.acts ++ rest))
behind_head s text one new e rest valid cut whole b =
    one_cut 10 one (head_text s (head_of e)) new (sent_lines s e.sent ++ (act_lines s e.acts ++ rest)) whole (head_is s (head_of e) valid (head_may s e b.may)).whole (sym cut ∙ (b.lines ∙ entry_cut s e rest))

pub no_head : (s : ScriptData) (text one new : List ℕ) → IsValid s → text ≡ one ++ 10 ∷ new → lacks 10 one ≡ true → ((h : Head) → parts_at 32 one ≡ head_words s h → IsHead s h → ⊥)
    → (e : Entry) (rest : List ℕ) → Begins s text e rest → ⊥
no_head s text one new valid cut whole only e rest b =
    let both = behind_head s text one new e rest valid cut whole b in
    let may = head_may s e b.may in
    only (head_of e) (ap (parts_at 32) both.0 ∙ (head_is s (head_of e) valid may).parts) may

pub no_letters : (s : ScriptData) (text one new : List ℕ) → IsValid s → text ≡ one ++ 10 ∷ new → lacks 10 one ≡ true
    → ((xs : List Outgoing) (rest : List ℕ) → new ≡ sent_lines s xs ++ rest → AllByRecursion (IsSent s) xs → begins (codes "sent ") rest ≡ false → ⊥)
    → (e : Entry) (rest : List ℕ) → Begins s text e rest → ⊥
no_letters s text one new valid cut whole only e rest b =
    only e.sent (act_lines s e.acts ++ rest) (behind_head s text one new e rest valid cut whole b).1 b.may.sent (acts_follow s e.acts rest b.ends)

behind_letters : (s : ScriptData) (text one new next : List ℕ) (sent : List Outgoing) (e : Entry) (rest : List ℕ) → IsValid s → text ≡ one ++ 10 ∷ new → lacks 10 one ≡ true
    → new ≡ sent_lines s sent ++ next → AllByRecursion (IsSent s) sent → begins (codes "sent ") next ≡ false → Begins s text e rest → next ≡ act_lines s e.acts ++ rest
behind_letters s text one new next sent e rest valid cut whole is may off b =
    same_rest (codes "sent ") (sent_line s) (sent_lines s) (sent_words s) (IsSent s) (letters_printed s valid) sent e.sent next (act_lines s e.acts ++ rest)
    (sym is ∙ (behind_head s text one new e rest valid cut whole b).1) may b.may.sent off (acts_follow s e.acts rest b.ends)

pub no_acts : (s : ScriptData) (text one new next : List ℕ) (sent : List Outgoing) → IsValid s → text ≡ one ++ 10 ∷ new → lacks 10 one ≡ true
    → new ≡ sent_lines s sent ++ next → AllByRecursion (IsSent s) sent → begins (codes "sent ") next ≡ false
    → ((xs : List Act) (rest : List ℕ) → next ≡ act_lines s xs ++ rest → AllByRecursion (IsAct s) xs → begins (codes "act ") rest ≡ false → ⊥)
    → (e : Entry) (rest : List ℕ) → Begins s text e rest → ⊥
no_acts s text one new next sent valid cut whole is may off only e rest b =
    only e.acts rest (behind_letters s text one new next sent e rest valid cut whole is may off b) b.may.acts (rest_follows rest b.ends)

-- what is left behind the acts is the rest
behind_acts : (s : ScriptData) (text one new next last : List ℕ) (sent : List Outgoing) (acts : List Act) (e : Entry) (rest : List ℕ) → IsValid s → text ≡ one ++ 10 ∷ new → lacks 10 one ≡ true
    → new ≡ sent_lines s sent ++ next → AllByRecursion (IsSent s) sent → begins (codes "sent ") next ≡ false
    → next ≡ act_lines s acts ++ last → AllByRecursion (IsAct s) acts → begins (codes "act ") last ≡ false → Begins s text e rest → last ≡ rest
behind_acts s text one new next last sent acts e rest valid cut whole is may off then_is all stop b =
    same_rest (codes "act ") (act_line s) (act_lines s) (act_line_words s) (IsAct s) (acts_printed s valid) acts e.acts last rest
    (sym then_is ∙ behind_letters s text one new next sent e rest valid cut whole is may off b) all b.may.acts stop (rest_follows rest b.ends)

pub no_end : (s : ScriptData) (text one new next last : List ℕ) (sent : List Outgoing) (acts : List Act) → IsValid s → text ≡ one ++ 10 ∷ new → lacks 10 one ≡ true
    → new ≡ sent_lines s sent ++ next → AllByRecursion (IsSent s) sent → begins (codes "sent ") next ≡ false
    → next ≡ act_lines s acts ++ last → AllByRecursion (IsAct s) acts → begins (codes "act ") last ≡ false → ends_so last ≡ false
    → (e : Entry) (rest : List ℕ) → Begins s text e rest → ⊥
no_end s text one new next last sent acts valid cut whole is may off then_is all stop other e rest b =
    let same : last ≡ rest = behind_acts s text one new next last sent acts e rest valid cut whole is may off then_is all stop b in
    by rest b.ends (ap ends_so (sym same) ∙ other)
  where
    by : (rest : List ℕ) → EndsEntry rest → ends_so rest ≡ false → ⊥
    by rest (inl is) h =
        let on : ends_so rest ≡ true = ap ends_so is in
        cc
    by rest (inr (more, is)) h =
        let on : ends_so rest ≡ true = ap ends_so is in
        cc

begun_by : (head text : List ℕ) → begins head text ≡ true → text ≡ head ++ drop (length head) text
begun_by head text h =
    sym (take-append-drop (length head) text) ∙ ap (λ (t : List ℕ). t ++ drop (length head) text) (sym ((bytes_eq-Decides head (take (length head) text)).0 h))

pub ends_by : (text : List ℕ) → ends_so text ≡ true → EndsEntry text
ends_by [] h = inl refl
ends_by (b ∷ bs) h = inr (drop 6 (b ∷ bs), begun_by (codes "entry ") (b ∷ bs) h)

-- an entry that was read
pub entry_read : (s : ScriptData) (text one new next last : List ℕ) (h : Head) (e : Entry) → IsValid s → text ≡ one ++ 10 ∷ new → parts_at 32 one ≡ head_words s h → IsHead s h
    → new ≡ sent_lines s e.sent ++ next → AllByRecursion (IsSent s) e.sent → next ≡ act_lines s e.acts ++ last → AllByRecursion (IsAct s) e.acts → ends_so last ≡ true
    → e.stamp ≡ h.stamp → e.actor ≡ h.actor → e.took.id ≡ h.took → Begins s text e last
entry_read s text one new next last h e valid cut parts head is sent then_is acts ends stamp actor took =
    let heads : head_of e ≡ h = λ i. record { stamp = stamp i; actor = actor i; took = took i } in
    let may : IsHead s (head_of e) = subst (IsHead s) (sym heads) head in
    let first : one ≡ head_text s (head_of e) = one_text one (head_text s (head_of e)) (parts ∙ ap (head_words s) (sym heads) ∙ sym (head_is s (head_of e) valid may).parts) in
    record {
      lines =
          cut ∙ ap (λ (t : List ℕ). t ++ 10 ∷ new) first
          ∙ ap (λ (t : List ℕ). head_text s (head_of e) ++ 10 ∷ t) (is ∙ ap (λ (t : List ℕ). sent_lines s e.sent ++ t) then_is)
          ∙ sym (entry_cut s e last);
      may = record { stamp = may.0; actor = may.1; took = may.2; sent = sent; acts = acts };
      ends = ends_by last ends;
    }

-- how many bytes the lines have
pub heard_length : (s : ScriptData) (text rest : List ℕ) (e : Entry) (n : ℕ) → Begins s text e rest → n ≡ length text - length rest → (n ≤ length text) × Begins s text e (drop n text)
heard_length s text rest e n b is =
    let lens : length text ≡ length (entry_lines s e) + length rest = ap length b.lines ∙ length-append (entry_lines s e) rest in
    let size : length (entry_lines s e) ≡ n = omega arith in
    let left : drop n text ≡ rest = ap (drop n) b.lines ∙ drop_at (entry_lines s e) rest n size in
    (omega arith, subst (Begins s text e) (sym left) b)
