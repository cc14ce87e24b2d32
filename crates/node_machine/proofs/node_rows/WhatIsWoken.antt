-- What a message that is done wakes.
use Rattle.std.proofs.Common.{◌≡◌, ◌&&◌, ℕ, Bool, true, false, List, ◌++◌, refl, sym, ap, ◌∙◌, Some, None}
use Rattle.std.specs.Prelude.{if◌then◌else◌}
use Rattle.std.proofs.lemmas.List.{append-nil}
use Rattle.tv_base.specs.declared.numbers.SubNo.{SubNo}
use Rattle.tv_base.specs.declared.numbers.TreeNo.{TreeNo}
use Rattle.tv_base.specs.declared.numbers.Version.{Version}
use Rattle.letter_types.specs.declared.bodies.Body.{Body}
use Rattle.letter_types.specs.declared.bodies.Body.TheVariants.{Root, Sub as SubLetter, Show, Decide, Wake, Order}
use Rattle.letter_types.specs.declared.bodies.What.{What}
use Rattle.letter_types.specs.declared.bodies.What.TheVariants.{Turn, Show as ShowIt, Sweep}
use Rattle.letter_types.specs.declared.entries.Letter.{Letter}
use Rattle.letter_types.specs.declared.entries.Outgoing.{Outgoing}
use Rattle.letter_types.specs.declared.kept.KeptLetter.{KeptLetter}
use Rattle.letter_types.specs.declared.kept.KeepReason.{KeepReason}
use Rattle.letter_types.specs.declared.kept.KeepReason.TheVariants.{ForShow, ForHolder, Called}
use Rattle.letter_types.specs.Kept.{brought, first_called, kept_without, wakes, wakes_by, with_called, without_called}
use Rattle.letter_types.specs.Steps.{Out}
use Rattle.letter_types.proofs.Ids.{none_woken}
use Rattle.node_machine.proofs.deferred.AllCalled.{none_called}
use Rattle.world_model.specs.Core.{Core}
use Rattle.world_model.specs.Epochs.{plain_order, is_obeyed_now}
use Rattle.world_model.specs.Keeping.{AreKeptAt, AsksFor, KeepingNode, woken_by}
use Rattle.node_machine.specs.inside.Bringing.{done_out, reason_of_order, waking_out, woken_for, woken_reason}
use Rattle.node_machine.specs.Waits.{waits_alike}
use Rattle.node_machine.proofs.node_rows.BroughtAddressed.{called_at}

-- if it wakes none, none is called, and no Wake is sent
pub silent : (n : KeepingNode) (o : Out Core)
    → record { state = record { core = o.state; kept = n.kept }; sent = o.sent; acts = o.acts }
    ≡ waking_out (woken_for None) n o
silent n o =
    let kept = none_called (woken_for None) n.kept (λ why. refl) in
    let sent : o.sent ++ wakes (woken_for None) n.kept ≡ o.sent =
    ap (λ (ls : List Outgoing). o.sent ++ ls) (none_woken (woken_for None) n.kept (λ why. refl))
    ∙ append-nil o.sent in
    λ i. record { state = record { core = o.state; kept = sym kept i }; sent = sym sent i; acts = o.acts }

-- a message that may be deferred wakes none
asking_wakes_none : (c : Core) (t : TreeNo) (k : SubNo) (b : Body) → AsksFor t k b → (why : KeepReason)
    → woken_by c b why ≡ false
asking_wakes_none c t k (Root u) asks why = refl
asking_wakes_none c t k (SubLetter u j v) asks why = refl
asking_wakes_none c t k _ asks why = absurd asks

-- so if a Wake brought it, it only goes
pub wake_done : (p : ℕ) (t : TreeNo) (k : SubNo) (l r : Letter) (n : KeepingNode) (o : Out Core) → l.body ≡ Wake t k
    → AreKeptAt p n.kept → brought n.kept l l.body ≡ Some r
    → record { state = record { core = o.state; kept = without_called t k n.kept }; sent = o.sent; acts = o.acts }
    ≡ done_out l r n o
wake_done p t k l r n o wake at is =
    let first : first_called t k n.kept ≡ Some r = sym (ap (λ (b : Body). brought n.kept l b) wake) ∙ is in
    let asks = (called_at p t k n.kept r at first).asks in
    let off = asking_wakes_none n.core t k r.body asks in
    let rest : kept_without n.kept l.body ≡ without_called t k n.kept = ap (λ (b : Body). kept_without n.kept b) wake in
    let kept : with_called (woken_by n.core r.body) (kept_without n.kept l.body) ≡ without_called t k n.kept =
    none_called (woken_by n.core r.body) (kept_without n.kept l.body) off ∙ rest in
    let sent : o.sent ++ wakes (woken_by n.core r.body) (kept_without n.kept l.body) ≡ o.sent =
    ap (λ (ls : List Outgoing). o.sent ++ ls) (none_woken (woken_by n.core r.body) (kept_without n.kept l.body) off)
    ∙ append-nil o.sent in
    λ i. record { state = record { core = o.state; kept = sym kept i }; sent = sym sent i; acts = o.acts }

-- a message that is no Wake brings itself
abbrev pub is_wake : Body → Bool
is_wake (Wake t k) = true
is_wake (Root t) = false
is_wake _ = false

pub not_wake : (b : Body) → ((t : TreeNo) (k : SubNo) → b ≡ Wake t k → ⊥) → is_wake b ≡ false
not_wake (Wake t k) other = absurd (other t k refl)
not_wake _ other = refl

itself_by : (kept : List KeptLetter) (l r : Letter) (b : Body) → is_wake b ≡ false → brought kept l b ≡ Some r → l ≡ r
itself_by kept l r (Wake t k) off is = let no : true ≡ false = off in cc
itself_by kept l r _ off is = let same : Some l ≡ Some r = is in cc

stays_by : (kept : List KeptLetter) (b : Body) → is_wake b ≡ false → kept_without kept b ≡ kept
stays_by kept (Wake t k) off = let no : true ≡ false = off in cc
stays_by kept _ off = refl

-- and wakes what its reason says
shown_wakes : (v : Version) (w : KeepReason) → waits_alike ForShow w ≡ wakes_by (Show v) w
shown_wakes v ForShow = refl
shown_wakes v (ForHolder h) = refl
shown_wakes v Called = refl

decided_wakes : (t : TreeNo) (v : Version) (commit : Bool) (w : KeepReason)
    → waits_alike (ForHolder t) w ≡ wakes_by (Decide t v commit) w
decided_wakes t v commit ForShow = refl
decided_wakes t v commit (ForHolder h) = refl
decided_wakes t v commit Called = refl

none_both : (b : Bool) → false ≡ (b && false)
none_both true = refl
none_both false = refl

order_wakes : (e : ℕ) (what : What) (v : Version) (c : Core) (w : KeepReason)
    → woken_for (reason_of_order e what v c) w ≡ (is_obeyed_now e what v c && wakes_by (plain_order what v) w)
order_wakes e Turn v c w = none_both (is_obeyed_now e Turn v c)
order_wakes e ShowIt v c w = by (is_obeyed_now e ShowIt v c) where
  by : (b : Bool) → woken_for (if b then Some ForShow else None) w ≡ (b && wakes_by (Show v) w)
  by true = shown_wakes v w
  by false = refl
order_wakes e Sweep v c w = none_both (is_obeyed_now e Sweep v c)

reason_by : (c : Core) (b : Body) (w : KeepReason) → woken_for (woken_reason c b) w ≡ woken_by c b w
reason_by c (Show v) w = shown_wakes v w
reason_by c (Decide t v commit) w = decided_wakes t v commit w
reason_by c (Order e what v) w = order_wakes e what v c w
reason_by c _ w = refl

reason_wakes : (c : Core) (b : Body) → woken_for (woken_reason c b) ≡ woken_by c b
reason_wakes c b = λ i w. reason_by c b w i

pub waking_done : (l r : Letter) (n : KeepingNode) (o : Out Core) → is_wake l.body ≡ false
    → brought n.kept l l.body ≡ Some r
    → waking_out (woken_for (woken_reason n.core l.body)) n o ≡ done_out l r n o
waking_done l r n o off is =
    let itself = itself_by n.kept l r l.body off is in
    let stays = stays_by n.kept l.body off in
    let woken = reason_wakes n.core l.body ∙ ap (λ (m : Letter). woken_by n.core m.body) itself in
    λ i. record {
      state = record { core = o.state; kept = with_called (woken i) (sym stays i) };
      sent = o.sent ++ wakes (woken i) (sym stays i);
      acts = o.acts;
    }
