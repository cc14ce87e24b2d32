-- What the tests of notices, decisions and acknowledgements say.
use Rattle.std.proofs.Common.{◌≡◌, ℕ, ◌<◌, ◌==◌, ◌&&◌, Bool, true, false, List, [], ◌∷◌, length, refl, arith}
use Rattle.std.specs.Prelude.{nat_lt}
use Rattle.std.proofs.lemmas.Bool.{ltb-true}
use Rattle.tv_base.specs.declared.numbers.TreeNo.{TreeNo}
use Rattle.tv_base.specs.declared.numbers.Version.{Version}
use Rattle.item_versions.specs.Window.{in_window}
use Rattle.tx_trees.specs.Counts.{has_strict}
use Rattle.tx_trees.specs.ScriptData.{ScriptData, home_of, subs_at, visits}
use Rattle.tx_trees.specs.declared.parts.Sub.{Sub}
use Rattle.world_model.specs.Core.{Core}
use Rattle.world_model.specs.Decisions.{can_decide}
use Rattle.world_model.specs.Named.{is_near, is_strict_at}
use Rattle.tree_step.specs.Core.{IsCoreReady}
use Rattle.tree_step.specs.declared.node_core.NodeCore.{NodeCore}
use Rattle.node_machine.specs.Apt.{acked_apt, decide_apt}

-- a node is ready for what another node of the script sent
pub ready_from : (s : ScriptData) (p from : ℕ) (n : NodeCore) → IsCoreReady s p n → from < s.nodes → IsCoreReady s from n
ready_from s p from n ready lt = record {
  parts = record {
    there = lt;
    script = ready.parts.script;
    small = ready.parts.small;
    window = ready.parts.window;
  };
  apart = ready.apart;
}

-- what a decision that is enabled says
pub record IsDecision (s : ScriptData) (p from : ℕ) (c : Core) (t : TreeNo) (v : Version) (commit : Bool) : Type 0 where
  pub there : 0 < length (subs_at s t.0)
  pub sent : from < s.nodes
  pub near : in_window c.node.turns.low.0 v.0 ≡ true
  pub strict : is_strict_at s t.0 ≡ true
  pub can : can_decide s p t v commit c.node.items ≡ true

visits_some : (xs : List Sub) (p : ℕ) → visits xs p ≡ true → 0 < length xs
visits_some [] p is = absurd (cc)
visits_some (x ∷ xs) p is = omega arith

decision_tests : (h a b d e f : Bool) → ((h && (a && b)) && (d && (e && f))) ≡ true
    → (a ≡ true) × (b ≡ true) × (d ≡ true) × (e ≡ true) × (f ≡ true)
decision_tests true true true true true true is = (refl, refl, refl, refl, refl)
decision_tests true true true true true false is = absurd (cc)
decision_tests true true true true false f is = absurd (cc)
decision_tests true true true false e f is = absurd (cc)
decision_tests true true false d e f is = absurd (cc)
decision_tests true false b d e f is = absurd (cc)
decision_tests false a b d e f is = absurd (cc)

pub is_decision : (s : ScriptData) (p from : ℕ) (c : Core) (t : TreeNo) (v : Version) (commit : Bool)
    → decide_apt s p from c t v commit ≡ true → IsDecision s p from c t v commit
is_decision s p from c t v commit apt =
    let all = decision_tests (has_strict s) (visits (subs_at s t.0) p) (nat_lt from s.nodes) (is_near c.node v)
    (is_strict_at s t.0) (can_decide s p t v commit c.node.items) apt in
    record {
      there = visits_some (subs_at s t.0) p all.0;
      sent = ltb-true from s.nodes all.1;
      near = all.2;
      strict = all.3;
      can = all.4;
    }

-- what an acknowledgement that is enabled says
pub record IsAck (s : ScriptData) (from : ℕ) (c : Core) (v : Version) : Type 0 where
  pub sent : from < s.nodes
  pub near : in_window c.node.turns.low.0 v.0 ≡ true

ack_tests : (h a b d : Bool) → ((h && (a && b)) && d) ≡ true → (b ≡ true) × (d ≡ true)
ack_tests true true true true is = (refl, refl)
ack_tests true true true false is = absurd (cc)
ack_tests true true false d is = absurd (cc)
ack_tests true false b d is = absurd (cc)
ack_tests false a b d is = absurd (cc)

pub is_ack : (s : ScriptData) (p from : ℕ) (c : Core) (t : TreeNo) (v : Version)
    → acked_apt s p from c t v ≡ true → IsAck s from c v
is_ack s p from c t v apt =
    let all = ack_tests (has_strict s) (home_of s t.0 == p) (nat_lt from s.nodes) (is_near c.node v) apt in
    record { sent = ltb-true from s.nodes all.0; near = all.1 }
