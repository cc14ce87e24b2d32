-- A letter that is taken from its sender.
use Rattle.std.proofs.Common.{◌≡◌, ℕ, zero, suc, ◌<◌, Bool, true, false, List, [], ◌∷◌, length, refl, sym, ap, ◌∙◌, arith, Option, Some, None}
use Rattle.std.specs.Prelude.{if◌then◌else◌, slice_get, slice_set, slice_index_or}
use Rattle.tv_base.specs.declared.numbers.ActorNo.{ActorNo}
use Rattle.letter_types.specs.declared.bodies.Body.TheVariants.{Go}
use Rattle.letter_types.specs.declared.entries.Outgoing.{Outgoing}
use Rattle.history_reader.specs.declared.in_flight.Sender.{Sender}
use Rattle.history_reader.specs.inside.Finding.{addressee_of, is_spent, spent_at, spent_by}

pub spent_here : (place : ℕ) (os : List Outgoing) (o : Outgoing) → slice_get os place ≡ Some o
    → slice_set os place (record { to = o.to; body = Go }) ≡ spent_at place os
spent_here place [] o at = absurd (cc at)
spent_here zero (d ∷ os) o at =
    let one : d ≡ o = cc at in
    ap (λ (x : Outgoing). record { to = x.to; body = Go } ∷ os) (sym one)
spent_here (suc place) (d ∷ os) o at = ap (λ (xs : List Outgoing). d ∷ xs) (spent_here place os o at)

pub sender_spent : (number place : ℕ) (senders : List Sender) (old new : Sender) → number < length senders
    → old ≡ slice_index_or senders number old → new.from ≡ old.from → new.sent ≡ spent_at place old.sent
    → slice_set senders number new ≡ spent_by number place senders
sender_spent number place [] old new lt at from sent = absurd (omega (arith, lt))
sender_spent zero place (d ∷ senders) old new lt at from sent =
    let first : new ≡ record { from = d.from; sent = spent_at place d.sent } =
    (λ i. record { from = from i; sent = sent i }) ∙ ap (λ (x : Sender). record { from = x.from; sent = spent_at place x.sent }) at in
    ap (λ (x : Sender). x ∷ senders) first
sender_spent (suc number) place (d ∷ senders) old new lt at from sent =
    ap (λ (xs : List Sender). d ∷ xs) (sender_spent number place senders old new (omega (arith, lt)) at from sent)

pub spent_to : (place : ℕ) (os : List Outgoing) (to : ActorNo) → Some to ≡ addressee_of (slice_get os place)
    → slice_set os place (record { to = to; body = Go }) ≡ spent_at place os
spent_to place os to is = by (slice_get os place) refl is
  where
    same : (o : Outgoing) (b : Bool) → Some to ≡ (if b then None else Some o.to) → to ≡ o.to
    same o true is = absurd (cc is)
    same o false is = cc is

    by : (at : Option Outgoing) → slice_get os place ≡ at → Some to ≡ addressee_of at
        → slice_set os place (record { to = to; body = Go }) ≡ spent_at place os
    by None at is = absurd (cc is)
    by (Some o) at is =
        ap (λ (t : ActorNo). slice_set os place (record { to = t; body = Go })) (same o (is_spent o.body) is)
        ∙ spent_here place os o at
