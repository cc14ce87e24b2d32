-- What a node makes of an order or a question of a coordinator that forgets, and the messages that it wakes.
use Rattle.std.proofs.Common.{◌≡◌, ℕ, ◌<◌, ◌≤◌, Bool, true, false, not, List, [], ◌∷◌, ◌++◌, refl, ap, arith}
use Rattle.std.specs.Prelude.{if◌then◌else◌, nat_lt, ◌&&◌}
use Rattle.std.proofs.lemmas.Bool.Decides.{nat_tests}
use Rattle.std.proofs.lemmas.Bool.{ltb-false}
use Rattle.tv_base.specs.declared.numbers.Version.{Version}
use Rattle.letter_types.specs.declared.bodies.Body.{Body}
use Rattle.letter_types.specs.declared.bodies.Body.TheVariants.{Wake, Ask, Numbers, Obeyed, Order}
use Rattle.letter_types.specs.declared.bodies.What.{What}
use Rattle.letter_types.specs.declared.bodies.What.TheVariants as whats
use Rattle.letter_types.specs.declared.entries.Outgoing.{Outgoing}
use Rattle.letter_types.specs.declared.kept.KeptLetter.{KeptLetter}
use Rattle.letter_types.specs.declared.kept.KeepReason.{KeepReason}
use Rattle.letter_types.specs.Kept.{wakes, wakes_by}
use Rattle.letter_types.proofs.Ids.{none_woken}
use Rattle.node_versions.specs.declared.turns.Turns.{Turns}
use Rattle.tx_trees.specs.ScriptData.{ScriptData}
use Rattle.world_model.specs.Advancing.{to_coordinator}
use Rattle.world_model.specs.Core.{Core}
use Rattle.world_model.specs.Counts.{Each}
use Rattle.world_model.specs.Epochs.{plain_order, is_obeyed_now, was_obeyed}
use Rattle.world_model.specs.Keeping.{woken_by}
use Rattle.world_model.specs.Strict.{core_row}

-- all of these are Wakes
abbrev pub IsWake : Body → Type 0
IsWake (Wake t k) = Unit {0}
IsWake _ = ⊥

abbrev pub AreWakes : List Outgoing → Type 0
AreWakes os = Each (λ (o : Outgoing). IsWake o.body) os

wake_more : (b : Bool) (o : Outgoing) (os : List Outgoing) → IsWake o.body → AreWakes os → AreWakes (if b then o ∷ os else os)
wake_more true o os one rest = (one, rest)
wake_more false o os one rest = rest

pub wakes_are : (test : KeepReason → Bool) (kept : List KeptLetter) → AreWakes (wakes test kept)
wakes_are test [] = tt
wakes_are test (x ∷ xs) = wake_more (test x.why) _ (wakes test xs) tt (wakes_are test xs)

-- an order or a question of this epoch
abbrev pub IsOfEpoch : ℕ → Body → Type 0
IsOfEpoch n (Order e what v) = e ≡ n
IsOfEpoch n (Ask e) = e ≡ n
IsOfEpoch n _ = ⊥

-- the numbers of a node that has obeyed
abbrev pub turned_to : What → Version → Turns → Turns
turned_to whats.Turn v t = record t { update = v }
turned_to whats.Show v t = record t { read = v }
turned_to whats.Sweep v t = record t { low = v }

-- the version of a node that the order raises
abbrev pub version_of : What → Turns → ℕ
version_of whats.Turn t = t.update.0
version_of whats.Show t = t.read.0
version_of whats.Sweep t = t.low.0

-- core c becomes core d, by a letter of an epoch before its own, which changes nothing; by a question, which is answered; by an
-- order that was obeyed before; or by one that is obeyed now
pub data Heed (s : ScriptData) (c d : Core) (body : Body) (sent : List Outgoing) : Type 0 where
  Leaves : (n : ℕ) → IsOfEpoch n body → n < c.epoch → d ≡ c → sent ≡ [] → Heed s c d body sent
  Answers : (n : ℕ) → body ≡ Ask n → c.epoch ≤ n → d ≡ record c { epoch = n }
      → sent ≡ to_coordinator s (Numbers n c.node.turns.update c.node.turns.read c.node.turns.low) → Heed s c d body sent
  Repeats : (n : ℕ) (what : What) (v : Version) → body ≡ Order n what v → c.epoch ≤ n → v.0 ≤ version_of what c.node.turns
      → d ≡ record c { epoch = n } → sent ≡ to_coordinator s (Obeyed n what v) → Heed s c d body sent
  Obeys : (n : ℕ) (what : What) (v : Version) (more : List Outgoing) → body ≡ Order n what v → c.epoch ≤ n
      → version_of what c.node.turns < v.0 → d.epoch ≡ n → d.node.turns ≡ turned_to what v c.node.turns
      → sent ≡ to_coordinator s (Obeyed n what v) ++ more → AreWakes more → Heed s c d body sent

-- by the row of the letter, and what is woken of the letters that are kept
abbrev pub HeedsRow : ScriptData → ℕ → ℕ → Core → List KeptLetter → Body → Type 0
HeedsRow s p from c kept body =
    Heed s c (core_row s p c from body).state body ((core_row s p c from body).sent ++ wakes (woken_by c body) kept)

-- an order that takes no effect wakes nothing
unwoken : (c : Core) (n : ℕ) (what : What) (v : Version) (kept : List KeptLetter) → is_obeyed_now n what v c ≡ false
    → wakes (woken_by c (Order n what v)) kept ≡ []
unwoken c n what v kept none =
    none_woken (woken_by c (Order n what v)) kept (λ y. ap (λ (b : Bool). b && wakes_by (plain_order what v) y) none)

late_none : (late before : Bool) → late ≡ true → (not late && not before) ≡ false
late_none late before is = rw is refl

before_none : (late before : Bool) → before ≡ true → (not late && not before) ≡ false
before_none true before is = refl
before_none false before is = rw is refl

was_version : (what : What) (v : Version) (c : Core) → was_obeyed what v c.node ≡ true → v.0 ≤ version_of what c.node.turns
was_version whats.Turn v c is = grind (arith, nat_tests)
was_version whats.Show v c is = grind (arith, nat_tests)
was_version whats.Sweep v c is = grind (arith, nat_tests)

new_version : (what : What) (v : Version) (c : Core) → was_obeyed what v c.node ≡ false → version_of what c.node.turns < v.0
new_version whats.Turn v c is = grind (arith, nat_tests)
new_version whats.Show v c is = grind (arith, nat_tests)
new_version whats.Sweep v c is = grind (arith, nat_tests)

turned_now : (v : Version) (t : Turns) → nat_lt t.update.0 v.0 ≡ true → (if nat_lt t.update.0 v.0 then record t { update = v } else t) ≡ record t { update = v }
turned_now v t is = rw is refl

order_obeyed : (s : ScriptData) (p from n : ℕ) (what : What) (v : Version) (c : Core) (kept : List KeptLetter) → nat_lt n c.epoch ≡ false
    → was_obeyed what v c.node ≡ false → HeedsRow s p from c kept (Order n what v)
order_obeyed s p from n whats.Turn v c kept new first =
    let less : nat_lt c.node.turns.update.0 v.0 ≡ true = let lt = new_version whats.Turn v c first in grind (arith, nat_tests) in
    rw (new, first) (Obeys n whats.Turn v (wakes (woken_by c (Order n whats.Turn v)) kept) refl (ltb-false n c.epoch new)
    (new_version whats.Turn v c first) refl (rw less refl) refl (wakes_are (woken_by c (Order n whats.Turn v)) kept))
order_obeyed s p from n whats.Show v c kept new first =
    rw (new, first) (Obeys n whats.Show v (wakes (woken_by c (Order n whats.Show v)) kept) refl (ltb-false n c.epoch new)
    (new_version whats.Show v c first) refl refl refl (wakes_are (woken_by c (Order n whats.Show v)) kept))
order_obeyed s p from n whats.Sweep v c kept new first =
    rw (new, first) (Obeys n whats.Sweep v (wakes (woken_by c (Order n whats.Sweep v)) kept) refl (ltb-false n c.epoch new)
    (new_version whats.Sweep v c first) refl refl refl (wakes_are (woken_by c (Order n whats.Sweep v)) kept))

pub order_heeded : (s : ScriptData) (p from n : ℕ) (what : What) (v : Version) (c : Core) (kept : List KeptLetter) → HeedsRow s p from c kept (Order n what v)
order_heeded s p from n what v c kept = by (nat_lt n c.epoch) (was_obeyed what v c.node) refl refl where
  by : (late before : Bool) → nat_lt n c.epoch ≡ late → was_obeyed what v c.node ≡ before → HeedsRow s p from c kept (Order n what v)
  by true before is was =
      let none = unwoken c n what v kept (late_none (nat_lt n c.epoch) (was_obeyed what v c.node) is) in
      let less : n < c.epoch = grind (arith, nat_tests) in
      rw is (Leaves n refl less refl none)
  by false true is was =
      let none = unwoken c n what v kept (before_none (nat_lt n c.epoch) (was_obeyed what v c.node) was) in
      rw (is, was) (Repeats n what v refl (ltb-false n c.epoch is) (was_version what v c was) refl (ap (λ (os : List Outgoing). to_coordinator s (Obeyed n what v) ++ os) none))
  by false false is was = order_obeyed s p from n what v c kept is was

pub ask_heeded : (s : ScriptData) (p from n : ℕ) (c : Core) (kept : List KeptLetter) → HeedsRow s p from c kept (Ask n)
ask_heeded s p from n c kept = by (nat_lt n c.epoch) refl where
  none : wakes (woken_by c (Ask n)) kept ≡ []
  none = none_woken (woken_by c (Ask n)) kept (λ y. refl)

  by : (late : Bool) → nat_lt n c.epoch ≡ late → HeedsRow s p from c kept (Ask n)
  by true is =
      let less : n < c.epoch = grind (arith, nat_tests) in
      rw is (Leaves n refl less refl none)
  by false is =
      rw is (Answers n refl (ltb-false n c.epoch is) refl
      (ap (λ (os : List Outgoing). to_coordinator s (Numbers n c.node.turns.update c.node.turns.read c.node.turns.low) ++ os) none))
