-- A text begins with one entry, but for what the letter that was taken says.
use Rattle.std.proofs.Common.{◌≡◌, ◌∙◌, ◌++◌, List, ℕ, drop, refl, sym, ap, arith}
use Rattle.std.specs.Prelude.{codes, decimal}
use Rattle.letter_types.specs.declared.acts.Act.{Act}
use Rattle.letter_types.specs.declared.entries.Entry.{Entry}
use Rattle.letter_types.specs.declared.entries.LetterId.{LetterId}
use Rattle.letter_types.specs.declared.entries.Outgoing.{Outgoing}
use Rattle.tx_trees.specs.ScriptData.{ScriptData}
use Rattle.tx_trees.specs.Valid.{IsValid}
use Rattle.history_text.specs.History.{act_line, act_lines, sent_line, sent_lines}
use Rattle.history_text.specs.Printable.{Begins, IsAct, IsSent}
use Rattle.history_text.specs.Parts.{parts_at}
use Rattle.history_text.proofs.Cuts.{one_cut}
use Rattle.history_text.proofs.Lacking.{decimal_lacks}
use Rattle.history_reader.specs.OneEntry.{TellTheSame}
use Rattle.history_reader.specs.inside.Heads.{IsId, act_line_words, head_words, id_word, sent_words}
use Rattle.history_reader.proofs.LineLists.{same_lines, same_rest}
use Rattle.history_reader.proofs.OneAct.{act_one}
use Rattle.history_reader.proofs.OneBody.{body_one}
use Rattle.history_reader.proofs.OneWords.{actor_one, number_one, word_at}
use Rattle.history_reader.proofs.Printed.{acts_printed, letters_printed}
use Rattle.history_reader.proofs.WholeEntries.{acts_follow, behind_head, entry_cut, head_is, head_may, head_of, head_text, rest_follows}

id_one : (a b : LetterId) → IsId a → IsId b → id_word a ≡ id_word b → a ≡ b
id_one a b ha hb is =
    let both = one_cut 46 (decimal a.stamp.0) (decimal b.stamp.0) (decimal a.place) (decimal b.place) (decimal_lacks 46 a.stamp.0 refl (omega (arith, ha.0))) (decimal_lacks 46 b.stamp.0 refl (omega (arith, hb.0))) is in
    let stamps : a.stamp.0 ≡ b.stamp.0 = number_one a.stamp.0 b.stamp.0 ha.0 hb.0 both.0 in
    let places : a.place ≡ b.place = number_one a.place b.place (omega (arith, ha.1)) (omega (arith, hb.1)) both.1 in
    λ i. record { stamp = record { 0 = stamps i }; place = places i }

sent_one : (s : ScriptData) → IsValid s → (a b : Outgoing) → sent_words s a ≡ sent_words s b → IsSent s a → IsSent s b → a ≡ b
sent_one s valid a b is ha hb =
    let to : a.to ≡ b.to = actor_one s a.to b.to valid ha.0 hb.0 (ap (word_at 1) is) in
    let body : a.body ≡ b.body = body_one s valid a.body b.body (ap (drop 2) is) ha.1 hb.1 in
    λ i. record { to = to i; body = body i }

line_act_one : (s : ScriptData) → IsValid s → (a b : Act) → act_line_words s a ≡ act_line_words s b → IsAct s a → IsAct s b → a ≡ b
line_act_one s valid a b is ha hb = act_one s valid a b (ap (drop 1) is) ha hb

-- two entries that a text begins with tell the same, and the same comes behind them
pub one_entry : (s : ScriptData) (text : List ℕ) (e f : Entry) (rest more : List ℕ) → IsValid s → Begins s text e rest → Begins s text f more → (rest ≡ more) × TellTheSame e f
one_entry s text e f rest more valid be bf =
    let he = head_is s (head_of e) valid (head_may s e be.may) in
    let hf = head_is s (head_of f) valid (head_may s f bf.may) in
    let cut = behind_head s text (head_text s (head_of e)) (sent_lines s e.sent ++ (act_lines s e.acts ++ rest)) f more valid (be.lines ∙ entry_cut s e rest) he.whole bf in
    let words : head_words s (head_of e) ≡ head_words s (head_of f) = sym he.parts ∙ ap (parts_at 32) cut.0 ∙ hf.parts in
    let stamps : e.stamp.0 ≡ f.stamp.0 = number_one e.stamp.0 f.stamp.0 be.may.stamp bf.may.stamp (ap (word_at 1) words) in
    let behind = same_rest (codes "sent ") (sent_line s) (sent_lines s) (sent_words s) (IsSent s) (letters_printed s valid) e.sent f.sent (act_lines s e.acts ++ rest) (act_lines s f.acts ++ more)
    cut.1 be.may.sent bf.may.sent (acts_follow s e.acts rest be.ends) (acts_follow s f.acts more bf.ends) in
    let last = same_rest (codes "act ") (act_line s) (act_lines s) (act_line_words s) (IsAct s) (acts_printed s valid) e.acts f.acts rest more
    behind be.may.acts bf.may.acts (rest_follows rest be.ends) (rest_follows more bf.ends) in (
      last,
      record {
        stamp = λ i. record { 0 = stamps i };
        actor = actor_one s e.actor f.actor valid be.may.actor bf.may.actor (ap (word_at 2) words);
        took = id_one e.took.id f.took.id be.may.took bf.may.took (ap (word_at 4) words);
        sent = same_lines (codes "sent ") (sent_line s) (sent_lines s) (sent_words s) (IsSent s) (letters_printed s valid) (sent_one s valid) e.sent f.sent (act_lines s e.acts ++ rest) (act_lines s f.acts ++ more)
            cut.1 be.may.sent bf.may.sent (acts_follow s e.acts rest be.ends) (acts_follow s f.acts more bf.ends);
        acts = same_lines (codes "act ") (act_line s) (act_lines s) (act_line_words s) (IsAct s) (acts_printed s valid) (line_act_one s valid) e.acts f.acts rest more
            behind be.may.acts bf.may.acts (rest_follows rest be.ends) (rest_follows more bf.ends);
      },
    )
