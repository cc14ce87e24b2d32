-- The step of a notice.
use Rattle.std.proofs.Common.{◌≡◌, ℕ, ◌+◌, ◌<◌, ◌≤◌, [], false, Option, refl, sym, subst, arith}
use Rattle.std.proofs.lemmas.List.Elements.{All-nil}
use Rattle.std.specs.Prelude.{IsTrue}
use Rattle.tv_base.specs.declared.numbers.NodeNo.{NodeNo}
use Rattle.tv_base.specs.declared.numbers.Version.{Version}
use Rattle.tree_home.specs.declared.homes.Answered.{Answered}
use Rattle.tree_home.specs.Homes.{Gets, open_trees}
use Rattle.item_versions.specs.Window.{in_window}
use Rattle.item_versions.proofs.Window.{in_window-high, in_window-low}
use Rattle.letter_types.specs.declared.entries.Outgoing.{Outgoing}
use Rattle.pair_counters.specs.Numbers.{AllBelow, MOST_COUNT}
use Rattle.pair_counters.specs.Rows.{counts_of}
use Rattle.world_model.specs.Done.{counted_sub}
use Rattle.world_model.specs.Notices.{answer_noted, homes_noted}
use Rattle.tree_step.specs.AtNode.{IsNotedPart}
use Rattle.tree_step.specs.Changes.{MayHome, home_after}
use Rattle.tree_step.specs.Node.{IsInWindow, data_of}
use Rattle.tree_step.specs.declared.asked.Request.{Request}
use Rattle.tree_step.specs.steps.Change.{Tree}
use Rattle.tree_step.specs.steps.HomeChange.{HomeChange}
use Rattle.tree_step.specs.steps.TreeStep.{TreeStep}
use Rattle.tree_step.specs.declared.node.NodeParts.{NodeParts}

-- the step of a notice: a completion is counted, the home does this, and this is what the tree is answered
abbrev pub noting : NodeNo → Version → HomeChange → Option Answered → TreeStep
noting q v home answered = record {
  parts = record {
    change = Tree (record {
      raises = false;
      staged = [];
      counting = record { version = v; root = false; from = q; asked = 0 };
      home = home;
    });
    out = record { sent = []; acts = [] };
  };
  answered = answered;
}

-- it is the row
pub noted_part : (r : Request) (vs : Gets) (n : NodeParts) (home : HomeChange) (a : Option Answered)
    → r.from.0 < (counts_of n.counters).nodes → AllBelow MOST_COUNT (counts_of n.counters).numbers → IsInWindow n
    → IsTrue (in_window n.turns.low.0 r.version.0)
    → home_after home (open_trees n.homes) ≡ homes_noted r.tree r.sub vs (open_trees n.homes)
    → a ≡ answer_noted r.tree r.sub vs (open_trees n.homes) → MayHome home (open_trees n.homes)
    → IsNotedPart r vs n (noting r.from r.version home a)
noted_part r vs n home a from small window near homes answered may = record {
  row = λ i. record {
    out = record {
      state = record (data_of n) { counts = counted_sub r.version.0 r.from.0 [] (data_of n).counts; homes = homes i };
      sent = [];
      acts = [];
    };
    answered = answered i;
  };
  may = record {
    fits = record {
      counting = record {
        from = subst (λ (l : ℕ). l ≤ r.version.0) (sym window.counters) (in_window-low n.turns.low.0 r.version.0 near);
        up_to = subst (λ (l : ℕ). r.version.0 ≤ l + 2) (sym window.counters) (in_window-high n.turns.low.0 r.version.0 near);
        node = from;
        there = omega arith;
        nodes = All-nil (λ (o : Outgoing). o.to.0 < (counts_of n.counters).nodes);
        few = omega arith;
      };
      items = window.items;
      home = may;
    };
    small = small;
    window = window;
  };
  counted = refl;
}
