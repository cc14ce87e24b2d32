-- What the client keeps beside its state is right for a script that has gone on, too.
use Rattle.std.proofs.Common.{◌≡◌, ℕ, ◌+◌, ◌∙◌, Bool, false, List, [], ◌∷◌, ◌++◌, get_or, length, replicate, take, refl, sym, ap, arith}
use Rattle.std.specs.Prelude.{if◌then◌else◌}
use Rattle.std.proofs.lemmas.List.{length-append, length-replicate, take-append-le}
use Rattle.script_parts.specs.Adding.{advances_in}
use Rattle.script_parts.specs.ScriptData.{ScriptData}
use Rattle.script_parts.specs.declared.parts.ScriptRow.{ScriptRow}
use Rattle.script_parts.specs.declared.parts.ScriptRow.TheVariants.{Tree as TreeRow, Advance as AdvanceRow, Settle as SettleRow, Lose as LoseRow}
use Rattle.client_rows.specs.Kept.{IsKeptOf, Kept, trees_in, unanswered_in}
use Rattle.world_model.specs.Client.{Client}
use Rattle.growth_laws.specs.Growth.{with_places}
use Rattle.growth_laws.proofs.More.{More, with_more}
use Rattle.growth_laws.proofs.Submitting.{more_places}

-- more places change none of the numbers of rows that are submitted
unanswered_same : (answered : List Bool) (k : ℕ) (rows : List ScriptRow)
    → unanswered_in (answered ++ replicate k false) rows ≡ unanswered_in answered rows
unanswered_same answered k [] = refl
unanswered_same answered k (TreeRow t ∷ rows) =
    ap (λ (b : Bool). (if b then 0 else 1) + unanswered_in (answered ++ replicate k false) rows) (more_places answered k t.0)
    ∙ ap (λ (n : ℕ). (if get_or answered t.0 false then 0 else 1) + n) (unanswered_same answered k rows)
unanswered_same answered k (AdvanceRow ∷ rows) = unanswered_same answered k rows
unanswered_same answered k (SettleRow ∷ rows) = unanswered_same answered k rows
unanswered_same answered k (LoseRow ∷ rows) = unanswered_same answered k rows

pub kept_grows : (s : ScriptData) (m : More s) (c : Kept) → IsKeptOf s c
    → IsKeptOf (with_more s m) (record c { client = with_places (length m.trees) c.client })
kept_grows s m c kept =
    let k : ℕ = length m.trees in
    let d : Client = with_places k c.client in
    let rows : take c.client.next (s.rows ++ m.rows) ≡ take c.client.next s.rows = take-append-le c.client.next s.rows m.rows kept.next in
    record {
      numbers =
          ap (λ (x : Kept). record { client = d; sent = x.sent; unanswered = x.unanswered; asked = x.asked }) kept.numbers
          ∙ ap (λ (n : ℕ). record {
            client = d;
            sent = trees_in (take c.client.next s.rows);
            unanswered = n;
            asked = advances_in (take c.client.next s.rows);
          }) (sym (unanswered_same c.client.answered k (take c.client.next s.rows)))
          ∙ ap (λ (rs : List ScriptRow). record {
            client = d;
            sent = trees_in rs;
            unanswered = unanswered_in (c.client.answered ++ replicate k false) rs;
            asked = advances_in rs;
          }) (sym rows);
      next = omega (arith, kept.next, length-append s.rows m.rows);
      answered =
          omega (arith, kept.answered, length-append c.client.answered (replicate k false), length-replicate k false, length-append s.trees m.trees);
    }
