-- Answers that are held: what an acknowledgement makes of them, and what holds of them whatever comes.
use Rattle.std.proofs.Common.{◌≡◌, ℕ, ◌-◌, ◌<◌, true, false, refl, ap, sym, subst, ◌∙◌, arith, Option, Some, None, inl, inr}
use Rattle.std.specs.Prelude.{IsSome, IsTrue}
use Rattle.std.proofs.lemmas.Bool.{cases_lt, cases_eq, eq-eqb, lt-ltb, le-ltb}
use Rattle.std.proofs.lemmas.Bool.Decides.{nat_tests}
use Rattle.tree_home.specs.declared.homes.Held.{Held}
use Rattle.tree_home.specs.Maps.{put_at}
use Rattle.tree_home.specs.HeldAnswers.{HeldAnswers, acked_of, held_for, last_answer, waits_for_more}
use Rattle.tree_home.specs.HeldLaws.{AckedCountsDown, AckedKeepsOthers, AckedWaits, AllWait, HeldForOneComesBack, HeldIsThere, HoldingKeepsOthers, HoldingWaits, LastSetsFree}
use Rattle.tree_home.proofs.Maps.{put_at-same, put_at-other, put_back}

-- where more than one acknowledgement is missing, an answer is held, and one more makes one fewer missing
pub more-there : (o : Option Held) → IsTrue (waits_for_more o) → IsSome o
more-there None more = more
more-there (Some h) more = refl

pub more-missed : (o : Option Held) (h : Held) → IsTrue (waits_for_more o) → o ≡ Some h → 1 < h.waits
more-missed None h more is = cc
more-missed (Some g) h more is =
    let same : g ≡ h = cc in
    let less : 1 < g.waits = grind (arith, nat_tests) in
    subst (λ (x : Held). 1 < x.waits) same less

pub more-fewer : (o : Option Held) (h : Held) → IsTrue (waits_for_more o) → o ≡ Some h
    → acked_of o ≡ Some (held_for (h.waits - 1) h.answered)
more-fewer o h more is =
    ap acked_of is ∙ rw (lt-ltb 1 h.waits (more-missed o h more is)) refl

pub more-waits : (o : Option Held) → IsTrue (waits_for_more o) → last_answer o ≡ None
more-waits None more = refl
more-waits (Some h) more = rw more refl

-- where no more is missing, the answer is set free
pub last-gone : (o : Option Held) → waits_for_more o ≡ false → acked_of o ≡ None
last-gone None last = refl
last-gone (Some h) last = rw last refl

pub last-free : (o : Option Held) (h : Held) → waits_for_more o ≡ false → o ≡ Some h → last_answer o ≡ Some h.answered
last-free None h last is = cc
last-free (Some g) h last is =
    let same : g ≡ h = cc in
    rw last (ap (λ (x : Held). Some x.answered) same)

pub holding-others : HoldingKeepsOthers
holding-others u a n hs ne = put_at-other a.tree.0 u.0 (Some (held_for n a)) hs ne

pub acked-others : AckedKeepsOthers
acked-others t u hs ne = put_at-other t.0 u.0 (acked_of (hs t.0)) hs ne

pub held-there : HeldIsThere
held-there a n hs = put_at-same a.tree.0 (Some (held_for n a)) hs

pub acked-counts_down : AckedCountsDown
acked-counts_down t hs h here more =
    let test : waits_for_more (Some h) ≡ true = lt-ltb 1 h.waits more in (
      ap last_answer here ∙ more-waits (Some h) test,
      put_at-same t.0 (acked_of (hs t.0)) hs ∙ ap acked_of here ∙ more-fewer (Some h) h test refl,
    )

pub last-sets_free : LastSetsFree
last-sets_free t hs h here one =
    let test : waits_for_more (Some h) ≡ false = le-ltb 1 h.waits (omega arith) in (
      ap last_answer here ∙ last-free (Some h) h test refl,
      put_at-same t.0 (acked_of (hs t.0)) hs ∙ ap acked_of here ∙ last-gone (Some h) test,
    )

pub held-comes_back : HeldForOneComesBack
held-comes_back a hs none =
    let there = held-there a 1 hs in (
      ap last_answer there,
      ap (λ (o : Option Held). put_at a.tree.0 (acked_of o) (put_at a.tree.0 (Some (held_for 1 a)) hs)) there
          ∙ put_back a.tree.0 (Some (held_for 1 a)) None hs none,
    )

-- where what is put in misses an acknowledgement, each answer still does
waits-put : (k : ℕ) (o : Option Held) (hs : HeldAnswers) → ((h : Held) → o ≡ Some h → 0 < h.waits) → AllWait hs
    → AllWait (put_at k o hs)
waits-put k o hs one all u h is =
    elim (cases_eq u.0 k) [
      | inl eq ↦ let here : put_at k o hs u.0 ≡ o = rw (eq-eqb u.0 k eq) refl in one h (sym here ∙ is)
      | inr ne ↦ all u h (sym (put_at-other k u.0 o hs ne) ∙ is)
    ]

pub holding-waits : HoldingWaits
holding-waits a n hs some all =
    let one : (h : Held) → Some (held_for n a) ≡ Some h → 0 < h.waits =
    λ h is. let same : held_for n a ≡ h = cc in subst (λ (x : Held). 0 < x.waits) same some in
    waits-put a.tree.0 (Some (held_for n a)) hs one all

acked_of-waits : (o : Option Held) (h : Held) → acked_of o ≡ Some h → 0 < h.waits
acked_of-waits None h is = cc
acked_of-waits (Some g) h is =
    elim (cases_lt 1 g.waits) [
      | inl more ↦
          let fewer = rw (lt-ltb 1 g.waits more) at is in
          let same : held_for (g.waits - 1) g.answered ≡ h = cc in
          subst (λ (x : Held). 0 < x.waits) same (omega arith)
      | inr few ↦ absurd (let gone = rw (le-ltb 1 g.waits few) at is in cc)
    ]

pub acked-waits : AckedWaits
acked-waits t hs all = waits-put t.0 (acked_of (hs t.0)) hs (acked_of-waits (hs t.0)) all

pub ruleset acking = (more-there, more-waits, last-gone, last-free)
