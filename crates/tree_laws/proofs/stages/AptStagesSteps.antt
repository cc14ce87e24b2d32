-- What an entry of a run of enabled messages makes of the stage of a transaction, by the message that a node does.
use Rattle.std.proofs.Common.{◌≡◌, ◌≢◌, ◌⊎◌, inl, inr, ℕ, zero, suc, ◌+◌, ◌==◌, ◌&&◌, false, List, [], ◌∷◌, map, refl, sym, ap, subst, ◌∙◌, arith}
use Rattle.std.proofs.lemmas.Bool.{cases_eq}
use Rattle.tv_base.specs.declared.numbers.SubNo.{SubNo}
use Rattle.tv_base.specs.declared.numbers.TreeNo.{TreeNo}
use Rattle.tv_base.specs.declared.numbers.Version.{Version}
use Rattle.letter_types.specs.Kept.{kept_without, wakes}
use Rattle.letter_types.specs.Steps.{Out}
use Rattle.letter_types.specs.declared.bodies.Body.{Body}
use Rattle.letter_types.specs.declared.bodies.Body.TheVariants.{Root, Sub as SubLetter, Done, Go, Wake}
use Rattle.letter_types.specs.declared.bodies.Notice.{Notice}
use Rattle.letter_types.specs.declared.entries.Entry.{Entry}
use Rattle.letter_types.specs.declared.entries.Letter.{Letter}
use Rattle.letter_types.specs.declared.entries.Outgoing.{Outgoing}
use Rattle.letter_types.specs.declared.kept.KeptLetter.{KeptLetter}
use Rattle.tx_trees.specs.ScriptData.{ScriptData, home_of, subs_at}
use Rattle.world_model.specs.Children.{done_letter, sub_letters}
use Rattle.world_model.specs.Core.{Core}
use Rattle.world_model.specs.Counts.{one_if, tally}
use Rattle.world_model.specs.Keeping.{AreKeptAt, AsksFor, KeepingNode, woken_by}
use Rattle.world_model.specs.Kept.{kept_by, kept_in, of_done, outstanding}
use Rattle.world_model.specs.Runs.{MayFollow, in_flight, keeping_in}
use Rattle.world_model.specs.Strict.{CoreKeeping, core_row}
use Rattle.world_model.proofs.Bags.{tally-append}
use Rattle.world_model.proofs.Cases.{Does, Keeps, does_number, keeps_number}
use Rattle.world_model.proofs.Flows.{outstanding_flow}
use Rattle.world_model.proofs.Keepings.{of_kept}
use Rattle.world_model.proofs.KeptThere.{kept_in_past}
use Rattle.world_model.proofs.Outstanding.{keeping_elsewhere}
use Rattle.world_model.proofs.Sends.{on, roots_none, subs_none}
use Rattle.tree_laws.specs.Dids.{asks, notices, replies_to, tells_done}
use Rattle.tree_laws.specs.Stages.{decides, decisions, held_at, home_at}
use Rattle.tree_laws.specs.Turns.{has_turn}
use Rattle.tree_laws.proofs.stages.AptStages.{Leaves}
use Rattle.tree_laws.proofs.stages.AptStagesRows.{Aside, IsApart, core_aside}
use Rattle.tree_laws.proofs.apt.AptSteps.{Enters, wakes_none}
use Rattle.tree_laws.proofs.apt.AptTurns.{one_turn, turn_of}
use Rattle.tree_laws.proofs.histories.Turns.{OfTreeLetters, is_tree_letter, sent_for}

-- Only letters that ask for a subtransaction are kept. So others that have still to be done are in flight.
pub record CountsNoAsking (f : Body → ℕ) : Type 0 where
  pub roots : (t : TreeNo) → f (Root t) ≡ 0
  pub subs : (t : TreeNo) (k : SubNo) (v : Version) → f (SubLetter t k v) ≡ 0
  pub wakes : (t : TreeNo) (k : SubNo) → f (Wake t k) ≡ 0

asked_none : (f : Body → ℕ) (t : TreeNo) (k : SubNo) (b : Body) → CountsNoAsking f → AsksFor t k b → f b ≡ 0
asked_none f t k (Root u) none asks = none.roots u
asked_none f t k (SubLetter u j v) none asks = none.subs u j v
asked_none f t k _ none asks = absurd asks

kept_zero : (f : Body → ℕ) (p : ℕ) (xs : List KeptLetter) → CountsNoAsking f → AreKeptAt p xs
    → tally (λ (l : Letter). f l.body) (map (λ (x : KeptLetter). x.letter) xs) ≡ 0
kept_zero f p [] none all = refl
kept_zero f p (x ∷ xs) none all = omega (arith, asked_none f x.tree x.sub x.letter.body none all.0.asks, kept_zero f p xs none all.1)

pub kept_by_zero : (f : Body → ℕ) (s : ScriptData) (past : List Entry) (n : ℕ) → CountsNoAsking f
    → tally (λ (l : Letter). f l.body) (kept_by s past n) ≡ 0
kept_by_zero f s past zero none = refl
kept_by_zero f s past (suc n) none =
    omega (
      arith,
      tally-append (λ (l : Letter). f l.body) (kept_by s past n) (map (λ (x : KeptLetter). x.letter) (kept_in s past n)),
      kept_by_zero f s past n none,
      kept_zero f n (kept_in s past n) none (kept_in_past s past n),
    )

pub all_in_flight : (f : Body → ℕ) (s : ScriptData) (past : List Entry) → CountsNoAsking f
    → tally (λ (l : Letter). f l.body) (outstanding s past) ≡ tally (λ (l : Letter). f l.body) (in_flight s past)
all_in_flight f s past none =
    omega (arith, tally-append (λ (l : Letter). f l.body) (in_flight s past) (kept_by s past s.nodes), kept_by_zero f s past s.nodes none)

-- so the law of letters in flight goes by the letter that is done
pub done_flow : (f : Body → ℕ) (s : ScriptData) (past : List Entry) (e : Entry) → CountsNoAsking f → MayFollow s past e
    → tally (λ (l : Letter). f l.body) (in_flight s (e ∷ past)) + of_done (λ (l : Letter). f l.body) s past e
    ≡ tally (λ (l : Letter). f l.body) (in_flight s past) + tally (on f) e.sent
done_flow f s past e none m =
    omega (arith, outstanding_flow f s past e none.wakes m, all_in_flight f s past none, all_in_flight f s (e ∷ past) none)

pub tells_no_asking : (t k : ℕ) → CountsNoAsking (tells_done t k)
tells_no_asking t k = record { roots = λ u. refl; subs = λ u j v. refl; wakes = λ u j. refl }

pub decides_no_asking : (t : ℕ) → CountsNoAsking (decides t)
decides_no_asking t = record { roots = λ u. refl; subs = λ u j v. refl; wakes = λ u j. refl }

-- Notices: one is sent for each Sub that is done.
pub tells_of : (t k : ℕ) → OfTreeLetters (on (tells_done t k))
tells_of t k o is = by o.body is where
  by : (b : Body) → is_tree_letter b ≡ false → tells_done t k b ≡ 0
  by (Done u j v notice) none = absurd (cc none)
  by Go none = refl
  by _ none = refl

-- a letter for which the notice of subtransaction k of tree t is sent
abbrev pub told : ℕ → ℕ → Body → ℕ
told t k (SubLetter u j v) = one_if ((u.0 == t) && (j.0 == k))
told t k Go = 0
told t k _ = 0

pub sent_tells : (s : ScriptData) (t k : ℕ) (v : Version) (notice : Notice) (body : Body)
    → tally (on (tells_done t k)) (sent_for s v notice body) ≡ told t k body
sent_tells s t k v notice (Root u) = subs_none (tells_done t k) u.0 v.0 0 0 (subs_at s u.0) (λ w j x. refl)
sent_tells s t k v notice (SubLetter u j w) =
    omega (
      arith,
      tally-append (on (tells_done t k)) (sub_letters u.0 w.0 j.0 0 (subs_at s u.0)) (done_letter (home_of s u.0) u.0 j.0 w.0 notice ∷ []),
      subs_none (tells_done t k) u.0 w.0 j.0 0 (subs_at s u.0) (λ x i y. refl),
    )
sent_tells s t k v notice Go = refl
sent_tells s t k v notice _ = refl

-- what an entry does, by the letter that is done
pub turned_by : (s : ScriptData) (past : List Entry) (e : Entry) (t k : ℕ) → Enters s past e
    → tally (has_turn t k) e.acts ≡ of_done (λ (l : Letter). asks t k l.body) s past e
turned_by s past e t k n =
    omega (arith, n.acts (has_turn t k) (turn_of t k), one_turn t k n.version n.notice n.body, n.done (asks t k) refl)

pub notes_by : (s : ScriptData) (past : List Entry) (e : Entry) (t k : ℕ) → MayFollow s past e → Enters s past e
    → notices s (e ∷ past) t k + of_done (λ (l : Letter). tells_done t k l.body) s past e
    ≡ notices s past t k + of_done (λ (l : Letter). told t k l.body) s past e
notes_by s past e t k m n =
    omega (
      arith,
      done_flow (tells_done t k) s past e (tells_no_asking t k) m,
      n.sends (on (tells_done t k)) (tells_of t k),
      sent_tells s t k n.version n.notice n.body,
      roots_none (tells_done t k) s n.before n.rows (record { root = λ u. refl; advance = refl; numbered = λ i. refl; lose = refl }),
      n.done (told t k) refl,
    )

-- The home of tree w, where node p goes on.
home_by : (s : ScriptData) (past : List Entry) (e : Entry) (p w : ℕ) (c : Core) → e.actor.0 ≡ p → (keeping_in s (e ∷ past) p).core ≡ c
    → c.node.homes w ≡ (keeping_in s past p).core.node.homes w → (p ≡ home_of s w) ⊎ (p ≢ home_of s w)
    → home_at s (e ∷ past) w ≡ home_at s past w
home_by s past e p w c at is same (inl here) =
    subst (λ (q : ℕ). (keeping_in s (e ∷ past) q).core.node.homes w ≡ (keeping_in s past q).core.node.homes w) here
    (ap (λ (x : Core). x.node.homes w) is ∙ same)
home_by s past e p w c at is same (inr ne) =
    ap (λ (n : KeepingNode). n.core.node.homes w) (keeping_elsewhere s past e (home_of s w) (λ eq. ne (sym at ∙ eq)))

held_by : (s : ScriptData) (past : List Entry) (e : Entry) (p w : ℕ) (c : Core) → e.actor.0 ≡ p → (keeping_in s (e ∷ past) p).core ≡ c
    → c.holds w ≡ (keeping_in s past p).core.holds w → (p ≡ home_of s w) ⊎ (p ≢ home_of s w)
    → held_at s (e ∷ past) w ≡ held_at s past w
held_by s past e p w c at is same (inl here) =
    subst (λ (q : ℕ). (keeping_in s (e ∷ past) q).core.holds w ≡ (keeping_in s past q).core.holds w) here
    (ap (λ (x : Core). x.holds w) is ∙ same)
held_by s past e p w c at is same (inr ne) =
    ap (λ (n : KeepingNode). n.core.holds w) (keeping_elsewhere s past e (home_of s w) (λ eq. ne (sym at ∙ eq)))

-- what is sent beside the row's letters are Wakes
pub sent_by : (f : Body → ℕ) (s : ScriptData) (past : List Entry) (e : Entry) (p : ℕ) (r : Letter) → ((t : TreeNo) (k : SubNo) → f (Wake t k) ≡ 0)
    → Does s past e p r → tally (on f) e.sent ≡ tally (on f) (core_row s p (keeping_in s past p).core r.from.0 r.body).sent
sent_by f s past e p r none d =
    let row : Out Core = core_row s p (keeping_in s past p).core r.from.0 r.body in
    let more : List Outgoing = wakes (woken_by (keeping_in s past p).core r.body) (kept_without (kept_in s past p) e.took.body) in
    omega (
      arith,
      ap (λ (os : List Outgoing). tally (on f) os) d.sent,
      tally-append (on f) row.sent more,
      wakes_none (on f) (woken_by (keeping_in s past p).core r.body) (kept_without (kept_in s past p) e.took.body) (λ x. none x.tree x.sub),
    )

-- A row beside tree w.
pub record Beside (s : ScriptData) (past : List Entry) (e : Entry) (w : ℕ) : Type 0 where
  pub home : home_at s (e ∷ past) w ≡ home_at s past w
  pub held : held_at s (e ∷ past) w ≡ held_at s past w
  pub answers : tally (on (replies_to w)) e.sent ≡ 0
  pub decisions : decisions s (e ∷ past) w ≡ decisions s past w

pub does_beside : (s : ScriptData) (past : List Entry) (e : Entry) (p w : ℕ) (r : Letter) → MayFollow s past e → Does s past e p r
    → IsApart w (keeping_in s past p).core.holds r.body → Beside s past e w
does_beside s past e p w r m d apart =
    let c : Core = (keeping_in s past p).core in
    let row : Out Core = core_row s p c r.from.0 r.body in
    let a : Aside w r.body c.node.homes c.holds row = core_aside w s p r.from.0 r.body c apart in
    record {
      home = home_by s past e p w row.state d.brings.at d.core a.home (cases_eq p (home_of s w));
      held = held_by s past e p w row.state d.brings.at d.core a.held (cases_eq p (home_of s w));
      answers = sent_by (replies_to w) s past e p r (λ t k. refl) d ∙ a.replies;
      decisions = omega (
        arith,
        done_flow (decides w) s past e (decides_no_asking w) m,
        does_number (λ (l : Letter). decides w l.body) s past e p r d,
        sent_by (decides w) s past e p r (λ t k. refl) d,
        a.decides,
      );
    }

-- numbers of tree w's letters that a letter isn't counted by
pub record Uncounted (w : ℕ) (body : Body) : Type 0 where
  pub asks : (k : ℕ) → asks w k body ≡ 0
  pub tells : (k : ℕ) → tells_done w k body ≡ 0
  pub told : (k : ℕ) → told w k body ≡ 0

pub does_leaves : (s : ScriptData) (past : List Entry) (e : Entry) (p w : ℕ) (r : Letter) → MayFollow s past e → Enters s past e → Does s past e p r
    → IsApart w (keeping_in s past p).core.holds r.body → Uncounted w r.body → Leaves s past e w
does_leaves s past e p w r m n d apart u =
    let b : Beside s past e w = does_beside s past e p w r m d apart in
    record {
      turned = λ k. omega (arith, turned_by s past e w k n, does_number (λ (l : Letter). asks w k l.body) s past e p r d, u.asks k);
      home = b.home;
      held = b.held;
      answers = b.answers;
      notes = λ k. omega (
        arith,
        notes_by s past e w k m n,
        does_number (λ (l : Letter). tells_done w k l.body) s past e p r d,
        does_number (λ (l : Letter). told w k l.body) s past e p r d,
        u.tells k,
        u.told k,
      );
      decisions = b.decisions;
    }

-- A node keeps a letter.
abbrev LeavesHome : Core → CoreKeeping → Type 0
LeavesHome c k = (k.state.node.homes ≡ c.node.homes) × (k.state.holds ≡ c.holds)

pub keeps_leaves : (s : ScriptData) (past : List Entry) (e : Entry) (p w : ℕ) (r : Letter) (k : CoreKeeping) → MayFollow s past e → Enters s past e
    → Keeps s past e p r k → Leaves s past e w
keeps_leaves s past e p w r k m n d =
    let c : Core = (keeping_in s past p).core in
    let same : LeavesHome c k = of_kept s c (LeavesHome c) r.body k (record { parks = λ t j raises v met. (refl, refl); waits = λ t. (refl, refl) }) d.keeps in
    record {
      turned = λ j. omega (arith, turned_by s past e w j n, keeps_number (λ (l : Letter). asks w j l.body) s past e p r k d);
      home = home_by s past e p w k.state d.brings.at d.core (ap (λ hs. hs w) same.0) (cases_eq p (home_of s w));
      held = held_by s past e p w k.state d.brings.at d.core (ap (λ hs. hs w) same.1) (cases_eq p (home_of s w));
      answers = ap (λ (os : List Outgoing). tally (on (replies_to w)) os) d.sent;
      notes = λ j. omega (
        arith,
        notes_by s past e w j m n,
        keeps_number (λ (l : Letter). tells_done w j l.body) s past e p r k d,
        keeps_number (λ (l : Letter). told w j l.body) s past e p r k d,
      );
      decisions = omega (
        arith,
        done_flow (decides w) s past e (decides_no_asking w) m,
        keeps_number (λ (l : Letter). decides w l.body) s past e p r k d,
        ap (λ (os : List Outgoing). tally (on (decides w)) os) d.sent,
      );
    }
