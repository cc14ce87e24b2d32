-- An entry of a run as the client sees it, of both kinds of scripts.
use Rattle.std.proofs.Common.{◌≡◌, ℕ, ◌<◌, ◌==◌, true, List, [], ◌∷◌, length, refl, ap, subst, ◌∙◌, arith, ◌≢◌}
use Rattle.std.specs.Prelude.{nat_lt}
use Rattle.std.proofs.lemmas.Bool.Decides.{nat_tests}
use Rattle.tv_base.specs.declared.numbers.TreeNo.{TreeNo}
use Rattle.tv_base.specs.declared.numbers.Version.{Version}
use Rattle.tx_trees.proofs.SubsOf.{home_below, sub_node_below}
use Rattle.letter_types.specs.declared.bodies.Answer.{Answer}
use Rattle.letter_types.specs.declared.bodies.Body.{Body}
use Rattle.letter_types.specs.declared.bodies.Body.TheVariants.{Go, Root, Sub as SubLetter, Done, Reply, Nudge, Advance, Turn, Show, Sweep, Turned, Shown, Swept, AskDone, AskAsked, DoneRow, AskedRow, Advanced, Decide, Decided, Release, Wake, Lose, AdvanceNo, Wanted, Ask, Order as OrderLetter, Numbers, Obeyed}
use Rattle.letter_types.specs.declared.entries.Entry.{Entry}
use Rattle.letter_types.specs.Steps.{Out}
use Rattle.tx_trees.specs.ScriptData.{ScriptData, client_of}
use Rattle.tx_trees.specs.Valid.{IsValid}
use Rattle.world_model.specs.Client.{Client, client_row, nudge, submit, wanted, with_answer, with_end}
use Rattle.world_model.specs.Runs.{AtClient, AtCoordinator, AtNode, AtRestarting, IsStepRun, Moves, Says, client_in}
use Rattle.world_model.specs.Tables.{client_table}
use Rattle.tx_trees.specs.Counts.{is_lossy}
use Rattle.world_model.proofs.EachOutstanding.{each_took}
use Rattle.world_model.proofs.Nexts.{MadeByClient}
use Rattle.world_model.specs.Meant.{IsLetterMeant, IsMeant}
use Rattle.world_model.proofs.Meant.{letters_are_meant}
use Rattle.world_model.proofs.MeantRows.{strict_below}

-- the client begins, or hears an answer, or that an advancement has ended, or tells how many it wanted; or another actor does
-- something
pub data ClientStep (s : ScriptData) (past : List Entry) (e : Entry) : Type 0 where
  Begins : e.took.body ≡ Go → MadeByClient s past e (submit s (client_in s past) []) → ClientStep s past e
  Hears : (t : TreeNo) (v : Version) (answer : Answer) → e.took.body ≡ Reply t v answer → t.0 < length s.trees
      → MadeByClient s past e (submit s (with_answer t.0 (client_in s past)) (nudge s ∷ [])) → ClientStep s past e
  Ends : (v : Version) → e.took.body ≡ Advanced v → MadeByClient s past e (submit s (with_end s v (client_in s past)) [])
      → ClientStep s past e
  Tells : (n : ℕ) → e.took.body ≡ Ask n → is_lossy s ≡ true → MadeByClient s past e (wanted s n (client_in s past)) → ClientStep s past e
  Aside : e.actor.0 ≢ client_of s → ClientStep s past e

made_by_client : (s : ScriptData) (past : List Entry) (e : Entry) (out : Out Client) → e.actor.0 ≡ client_of s
    → Says (client_table s (client_in s past) e.took) e → client_row s (client_in s past) e.took.body ≡ out → MadeByClient s past e out
made_by_client s past e out at says is = record {
  state =
      let here : (e.actor.0 == client_of s) ≡ true = grind (arith, nat_tests) in
      rw here (ap (λ (o : Out Client). o.state) is);
  sent = says.0 ∙ ap (λ (o : Out Client). o.sent) is;
  acts = says.1 ∙ ap (λ (o : Out Client). o.acts) is;
}

-- an answer of a tree of the script
hear_row : (s : ScriptData) (c : Client) (t : TreeNo) (v : Version) (answer : Answer) → t.0 < length s.trees
    → client_row s c (Reply t v answer) ≡ submit s (with_answer t.0 c) (nudge s ∷ [])
hear_row s c t v answer lt = let there : nat_lt t.0 (length s.trees) ≡ true = grind (arith, nat_tests) in rw there refl

wanted_row : (s : ScriptData) (c : Client) (n : ℕ) → is_lossy s ≡ true → client_row s c (Ask n) ≡ wanted s n c
wanted_row s c n loses = rw loses refl

client_by : (s : ScriptData) (past : List Entry) (e : Entry) (b : Body) → IsValid s → e.actor.0 ≡ client_of s
    → Says (client_table s (client_in s past) e.took) e → e.took.body ≡ b → IsMeant s e.took.from.0 (client_of s) b → ClientStep s past e
client_by s past e Go valid at says is meant =
    Begins is (made_by_client s past e (submit s (client_in s past) []) at says (ap (client_row s (client_in s past)) is))
client_by s past e (Reply t v answer) valid at says is meant =
    Hears t v answer is meant.0
    (made_by_client s past e (submit s (with_answer t.0 (client_in s past)) (nudge s ∷ [])) at says
    (ap (client_row s (client_in s past)) is ∙ hear_row s (client_in s past) t v answer meant.0))
client_by s past e (Advanced v) valid at says is meant =
    Ends v is (made_by_client s past e (submit s (with_end s v (client_in s past)) []) at says (ap (client_row s (client_in s past)) is))
client_by s past e (Root t) valid at says is meant = absurd (omega (arith, meant.home, home_below s t.0 valid meant.tree))
client_by s past e (SubLetter t k v) valid at says is meant = absurd (omega (arith, meant.node, sub_node_below s t.0 k.0 valid meant.sub))
client_by s past e (Done t k v notice) valid at says is meant = absurd (omega (arith, meant.home, home_below s t.0 valid meant.tree))
client_by s past e (Decide t v commit) valid at says is meant = absurd (omega (arith, meant.visited.below))
client_by s past e (Decided t v) valid at says is meant =
    absurd (omega (arith, meant.home, home_below s t.0 valid (strict_below s t.0 meant.strict)))
client_by s past e (Release t) valid at says is meant = absurd (omega (arith, meant.visited.below))
client_by s past e (Wake t k) valid at says is meant = absurd (omega (arith, meant.below))
client_by s past e Nudge valid at says is meant = absurd (omega (arith, meant))
client_by s past e Advance valid at says is meant = absurd (omega (arith, meant.0))
client_by s past e (Turned v) valid at says is meant = absurd (omega (arith, meant.0.1))
client_by s past e (Shown v) valid at says is meant = absurd (omega (arith, meant.0.1))
client_by s past e (Swept v) valid at says is meant = absurd (omega (arith, meant.0.1))
client_by s past e (DoneRow v k row) valid at says is meant = absurd (omega (arith, meant.0.1))
client_by s past e (AskedRow v k row) valid at says is meant = absurd (omega (arith, meant.0.1))
client_by s past e (Turn v) valid at says is meant = absurd (omega (arith, meant.0))
client_by s past e (Show v) valid at says is meant = absurd (omega (arith, meant.0))
client_by s past e (Sweep v) valid at says is meant = absurd (omega (arith, meant.0))
client_by s past e (AskDone v k) valid at says is meant = absurd (omega (arith, meant))
client_by s past e (AskAsked v k) valid at says is meant = absurd (omega (arith, meant))
client_by s past e Lose valid at says is meant = absurd (omega (arith, meant.0))
client_by s past e (AdvanceNo i) valid at says is meant = absurd (omega (arith, meant.0))
client_by s past e (Wanted n k) valid at says is meant = absurd (omega (arith, meant.0))
client_by s past e (Ask n) valid at says is meant =
    Tells n is meant.1
    (made_by_client s past e (wanted s n (client_in s past)) at says (ap (client_row s (client_in s past)) is ∙ wanted_row s (client_in s past) n meant.1))
client_by s past e (OrderLetter n what v) valid at says is meant = absurd (omega (arith, meant.0))
client_by s past e (Numbers n u w l) valid at says is meant = absurd (omega (arith, meant.0.1))
client_by s past e (Obeyed n what v) valid at says is meant = absurd (omega (arith, meant.0.1))

took_meant : (s : ScriptData) (past : List Entry) (e : Entry) → IsValid s → IsStepRun s (e ∷ past) → e.actor.0 ≡ client_of s
    → IsMeant s e.took.from.0 (client_of s) e.took.body
took_meant s past e valid run at =
    subst (λ (n : ℕ). IsMeant s e.took.from.0 n e.took.body) (run.0.addressee ∙ at)
    (each_took (IsLetterMeant s) s past e run.0 (letters_are_meant s past valid run.1))

by_moves : (s : ScriptData) (past : List Entry) (e : Entry) → IsValid s → IsStepRun s (e ∷ past) → Moves s past e → ClientStep s past e
by_moves s past e valid run (AtNode lt says) = Aside (λ at. omega (arith, lt, at))
by_moves s past e valid run (AtCoordinator there keeps says) = Aside (λ at. omega (arith, there, at))
by_moves s past e valid run (AtRestarting there loses says) = Aside (λ at. omega (arith, there, at))
by_moves s past e valid run (AtClient at says) = client_by s past e e.took.body valid at says refl (took_meant s past e valid run at)

-- each entry of a run
pub client_step : (s : ScriptData) (past : List Entry) (e : Entry) → IsValid s → IsStepRun s (e ∷ past) → ClientStep s past e
client_step s past e valid run = by_moves s past e valid run run.0.moves
