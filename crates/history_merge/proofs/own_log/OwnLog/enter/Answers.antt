use Rattle.std.proofs.Common.{◌≡◌, ℕ, List, [], ◌∷◌, ◌++◌, length, map, refl, sym, ap, ◌∙◌, subst, arith, None, Some}
use Rattle.std.proofs.lemmas.List.{length_push}
use Rattle.letter_types.specs.declared.entries.Entry.{Entry}
use Rattle.letter_types.specs.declared.entries.Posting.{Posting}
use Rattle.letter_types.specs.Postal.{delivery_of}
use Rattle.stamp_post.specs.declared.rule.JoinedReceipt.{JoinedReceipt}
use Rattle.stamp_post.specs.Logs.{posting}
use Rattle.stamp_post.specs.Shown.{OutboxData, SeatData, joined_receipt, outbox_data, receipt_joined, seat_data}
use Rattle.tx_trees.specs.ScriptData.{ScriptData}
use Rattle.tx_trees.specs.Valid.{IsValid}
use Rattle.world_model.specs.Runs.{IsRunOf}
use Rattle.world_model.specs.Tables.{actor_row, start_actor}
use Rattle.world_model.proofs.Addressees.{sent_addressed}
use Rattle.history_merge.specs.Histories.{entries_by, last_acts}
use Rattle.history_merge.specs.OwnLogs.{LogData, led_to, log_data, row_there}
use Rattle.history_merge.proofs.OneMore.{IsRow, acts_are, entries_count, entries_on, postings_of, runs_on, seat_stamped}
use Rattle.history_merge.proofs.own_log.OwnLog.enter.Given.{Over}
use Rattle.history_merge.proofs.own_log.OwnLog.enter.Goals as goal

pub stamp-stamp-requires-clause-addressed : goal.stamp-stamp-requires-clause-addressed
stamp-stamp-requires-clause-addressed g c =
    let s = g.K.ClusterName.script in
    let n = c.self.inside.number in
    let es = entries_by s n c.self.inside.seat.own in
    let valid : IsValid s = subst IsValid c.requires.script.0 c.nodes-valid.ensures.valid in
    let actors = ap (λ p. p.actors) c.requires.post.0 ∙ c.requires.script.1 in
    let row : c.args.out.sent ≡ (row_there s n es c.args.envelope.letter).sent =
    subst (λ (x : LogData). c.args.out.sent ≡ (row_there s x.number x.entries c.args.envelope.letter).sent) (sym c.self.view_is) c.requires.sent in
    sent_addressed s n c.args.post.now.actors es (led_to s n es) c.args.envelope.letter c.args.out.sent valid refl
    row actors

-- as many postings as entries
as_many : (s : ScriptData) (n : ℕ) (own : List Posting) (now : LogData) → log_data n (entries_by s n own) ≡ now → length own ≡ length now.entries
as_many s n own now is = sym (entries_count s n own) ∙ ap (λ (x : LogData). length x.entries) is

pub stamp-stamp-requires-clause-room : goal.stamp-stamp-requires-clause-room
stamp-stamp-requires-clause-room g c =
    let same : length c.take-took.new.seat.own ≡ length c.self.inside.seat.own = ap (λ (x : SeatData). length x.own) c.take-took.ensures.seat in
    let many = as_many g.K.ClusterName.script c.self.inside.number c.self.inside.seat.own c.args.self.now c.self.view_is in
    omega (arith, same, many, c.requires.few)

pub overflow_add-self : goal.overflow_add-self
overflow_add-self g c =
    let many = as_many g.K.ClusterName.script c.self.inside.number c.self.inside.seat.own c.args.self.now c.self.view_is in
    omega (arith, many, c.self.invariant.1, c.requires.few)

pub outbox-outbox-requires-clause-unsent : goal.outbox-outbox-requires-clause-unsent
outbox-outbox-requires-clause-unsent g c =
    let p : Posting = posting c.stamp-stamp.result.0 c.self.inside.number c.take-took.result c.args.out.sent in
    let seat : c.stamp-stamp.new.seat ≡ seat_data g.K.PostName.post c.self.inside.number (c.self.inside.seat.own ++ p ∷ []) None (Some p) =
    seat_stamped g.K.PostName.post c.args.post.now c.self.inside.number c.stamp-stamp.result.0 c.self.inside.seat.own
    c.args.envelope.letter c.take-took.result c.args.out.sent c.self.inside.seat c.take-took.new.seat c.stamp-stamp.new.seat c.requires.post.0
    c.self.invariant.0 c.take-took.ensures.seat c.stamp-stamp.ensures in
    (p, ap (λ (x : SeatData). x.unsent) seat, refl, sym c.requires.copy)

pub new-requires-clause-vouches : goal.new-requires-clause-vouches
new-requires-clause-vouches g c =
    let s = g.K.ClusterName.script in
    let n = c.self.inside.number in
    let l = c.args.envelope.letter in
    let own = c.self.inside.seat.own in
    let e : Entry = record {
      stamp = c.stamp-stamp.result;
      actor = record { 0 = n };
      took = c.take-took.result;
      sent = c.args.out.sent;
      acts = c.args.out.acts;
    } in
    let row : IsRow s n (entries_by s n own) e l = record {
      took = c.take-took.ensures.letter;
      sent = subst (λ (x : LogData). c.args.out.sent ≡ (row_there s x.number x.entries l).sent) (sym c.self.view_is) c.requires.sent;
      acts = subst (λ (x : LogData). c.args.out.acts ≡ (row_there s x.number x.entries l).acts) (sym c.self.view_is) c.requires.acts;
    } in
    let seat : c.stamp-stamp.new.seat ≡ seat_data g.K.PostName.post n (own ++ delivery_of e ∷ []) None (Some (delivery_of e)) =
    seat_stamped g.K.PostName.post c.args.post.now n c.stamp-stamp.result.0 own l c.take-took.result c.args.out.sent c.self.inside.seat
    c.take-took.new.seat c.stamp-stamp.new.seat c.requires.post.0 c.self.invariant.0 c.take-took.ensures.seat c.stamp-stamp.ensures in
    let same : Some c.outbox-outbox.result.posting ≡ Some (delivery_of e) = sym c.outbox-outbox.ensures.posting ∙ ap (λ (x : SeatData). x.unsent) seat in
    let last : c.outbox-outbox.result.posting ≡ delivery_of e = cc same in
    let told : receipt_joined c.witness-witness.result ≡ joined_receipt n (own ++ delivery_of e ∷ []) (delivery_of e) =
    ap receipt_joined c.witness-witness.ensures.witness ∙ ap (λ (o : OutboxData). joined_receipt o.number o.own o.posting) c.outbox-outbox.ensures.outbox
    ∙ (λ k. joined_receipt (seat k).number (seat k).own (last k)) in
    (entries_by s n own, ap (λ (r : JoinedReceipt). entries_by s r.number r.own) told ∙ entries_on s n own e l row)

-- the new entry, and that it is the row
abbrev new_entry : (g : Over) (c : goal.After-push_back_reserved g) → Entry
new_entry g c = record {
  stamp = c.stamp-stamp.result;
  actor = record { 0 = c.self.inside.number };
  took = c.take-took.result;
  sent = c.args.out.sent;
  acts = c.args.out.acts;
}

is_row : (g : Over) (c : goal.After-push_back_reserved g)
    → IsRow g.K.ClusterName.script c.self.inside.number (entries_by g.K.ClusterName.script c.self.inside.number c.self.inside.seat.own)
    (new_entry g c) c.args.envelope.letter
is_row g c =
    let s = g.K.ClusterName.script in
    let l = c.args.envelope.letter in
    record {
      took = c.take-took.ensures.letter;
      sent = subst (λ (x : LogData). c.args.out.sent ≡ (row_there s x.number x.entries l).sent) (sym c.self.view_is) c.requires.sent;
      acts = subst (λ (x : LogData). c.args.out.acts ≡ (row_there s x.number x.entries l).acts) (sym c.self.view_is) c.requires.acts;
    }

-- the entries with the new one
more : (g : Over) (c : goal.After-push_back_reserved g)
    → entries_by g.K.ClusterName.script c.self.inside.number (c.self.inside.seat.own ++ delivery_of (new_entry g c) ∷ [])
    ≡ entries_by g.K.ClusterName.script c.self.inside.number c.self.inside.seat.own ++ new_entry g c ∷ []
more g c = entries_on g.K.ClusterName.script c.self.inside.number c.self.inside.seat.own (new_entry g c) c.args.envelope.letter (is_row g c)

-- the seat once the entry was stamped
stamped : (g : Over) (c : goal.After-push_back_reserved g)
    → c.stamp-stamp.new.seat ≡ seat_data g.K.PostName.post c.self.inside.number (c.self.inside.seat.own ++ delivery_of (new_entry g c) ∷ []) None (Some (delivery_of (new_entry g c)))
stamped g c =
    seat_stamped g.K.PostName.post c.args.post.now c.self.inside.number c.stamp-stamp.result.0 c.self.inside.seat.own
    c.args.envelope.letter c.take-took.result c.args.out.sent c.self.inside.seat c.take-took.new.seat c.stamp-stamp.new.seat c.requires.post.0
    c.self.invariant.0 c.take-took.ensures.seat c.stamp-stamp.ensures

-- the outbox is of the new posting
out_is : (g : Over) (c : goal.After-push_back_reserved g)
    → c.outbox-outbox.result ≡ outbox_data g.K.PostName.post c.self.inside.number (c.self.inside.seat.own ++ delivery_of (new_entry g c) ∷ []) (delivery_of (new_entry g c)) 0
out_is g c =
    let p = delivery_of (new_entry g c) in
    let same : Some c.outbox-outbox.result.posting ≡ Some p = sym c.outbox-outbox.ensures.posting ∙ ap (λ (x : SeatData). x.unsent) (stamped g c) in
    let last : c.outbox-outbox.result.posting ≡ p = cc same in
    c.outbox-outbox.ensures.outbox
    ∙ (λ k. outbox_data (c.requires.post.0 k) (stamped g c k).number (stamped g c k).own (last k) 0)

pub invariant_of-self : goal.invariant_of-self
invariant_of-self g c =
    let s = g.K.ClusterName.script in
    let n = c.self.inside.number in
    let own = c.self.inside.seat.own in
    let e = new_entry g c in
    let seat : c.outbox-outbox.new.seat ≡ seat_data g.K.PostName.post n (own ++ delivery_of e ∷ []) None None =
    c.outbox-outbox.ensures.seat
    ∙ (λ k. seat_data (c.requires.post.0 k) (stamped g c k).number (stamped g c k).own (stamped g c k).taken None) in
    let now : c.outbox-outbox.new.seat.own ≡ own ++ delivery_of e ∷ [] = ap (λ (x : SeatData). x.own) seat in (
      seat ∙ (λ k. seat_data g.K.PostName.post n (sym now k) None None),
      omega (arith, ap (length {A = Posting}) now, length_push own (delivery_of e), c.self.invariant.1),
      subst (λ (ps : List Posting). IsRunOf (actor_row s n) (start_actor s n) (entries_by s n ps)) (sym now)
          (subst (λ (xs : List Entry). IsRunOf (actor_row s n) (start_actor s n) xs) (sym (more g c))
          (runs_on s n (entries_by s n own) e c.args.envelope.letter (is_row g c) c.self.invariant.2)),
    )

-- the entries that the log has then
now_has : (g : Over) (c : goal.After-push_back_reserved g)
    → entries_by g.K.ClusterName.script c.self.inside.number c.outbox-outbox.new.seat.own
    ≡ entries_by g.K.ClusterName.script c.self.inside.number c.self.inside.seat.own ++ new_entry g c ∷ []
now_has g c =
    ap (entries_by g.K.ClusterName.script c.self.inside.number) (ap (λ (x : SeatData). x.own) c.outbox-outbox.ensures.seat ∙ ap (λ (x : SeatData). x.own) (stamped g c))
    ∙ more g c

pub returns-clause-handled : goal.returns-clause-handled
returns-clause-handled g c =
    let s = g.K.ClusterName.script in
    let n = c.self.inside.number in
    let own = c.self.inside.seat.own in
    let e = new_entry g c in
    let number : n ≡ c.args.self.now.number = ap (λ (x : LogData). x.number) c.self.view_is in
    let postings : own ++ delivery_of e ∷ [] ≡ map delivery_of (entries_by s n c.outbox-outbox.new.seat.own) =
    sym (postings_of (actor_row s n) (start_actor s n) (own ++ delivery_of e ∷ [])) ∙ ap (map delivery_of) (more g c ∙ sym (now_has g c)) in
    record {
      entry = e;
      entries = now_has g c ∙ ap (λ (x : LogData). x.entries ++ e ∷ []) c.self.view_is;
      last = c.push_back_reserved.ensures.items ∙ ap (λ (x : Entry). c.args.made.now.items ++ x ∷ []) c.new.ensures;
      took = c.take-took.ensures.letter;
      outbox = c.witness-witness.ensures.out ∙ out_is g c ∙ (λ k. outbox_data g.K.PostName.post (number k) (postings k) (delivery_of e) 0);
    }

pub returns-clause-delivered : goal.returns-clause-delivered
returns-clause-delivered g c =
    let s = g.K.ClusterName.script in
    let n = c.self.inside.number in
    let own = c.self.inside.seat.own in
    let e = new_entry g c in
    let es = entries_by s n own in
    let home : n ≡ c.args.envelope.letter.to.0 = ap (λ (x : LogData). x.number) c.self.view_is ∙ sym c.requires.addressee in
    let postings : map delivery_of (es ++ e ∷ []) ≡ own ++ delivery_of e ∷ [] =
    ap (map delivery_of) (sym (more g c)) ∙ postings_of (actor_row s n) (start_actor s n) (own ++ delivery_of e ∷ []) in
    record {
      entry = e;
      last = c.push_back_reserved.ensures.items ∙ ap (λ (x : Entry). c.args.made.now.items ++ x ∷ []) c.new.ensures;
      took = c.take-took.ensures.letter;
      before = own;
      outbox = c.witness-witness.ensures.out ∙ out_is g c ∙ (λ k. outbox_data g.K.PostName.post (home k) (own ++ delivery_of e ∷ []) (delivery_of e) 0);
      acts = acts_are s n es e c.args.envelope.letter (is_row g c) ∙ (λ k. last_acts s (home k) (postings k));
    }
