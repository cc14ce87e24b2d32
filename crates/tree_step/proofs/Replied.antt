-- Letters behind those of a step change nothing of what it counts; one of them may be the answer to the client.
use Rattle.std.proofs.Common.{◌≡◌, ℕ, ◌<◌, ◌≤◌, List, ◌++◌, length, take, refl, ap, sym, subst, ◌∙◌, arith}
use Rattle.std.specs.Prelude.{⊤, All, if◌then◌else◌}
use Rattle.std.proofs.lemmas.List.{length-append, take-append-le}
use Rattle.item_versions.specs.Table.{pending}
use Rattle.letter_types.specs.declared.entries.Outgoing.{Outgoing}
use Rattle.pair_counters.specs.Counts.{Counts}
use Rattle.pair_counters.specs.Rows.{counts_of}
use Rattle.tx_trees.specs.ScriptData.{ScriptData, client_of}
use Rattle.world_model.specs.Done.{counted_root, counted_sub, raised_if}
use Rattle.world_model.specs.Notices.{reply_letters}
use Rattle.tree_step.specs.Changes.{after_change, home_after, IsReplied, MayChange, MayCount, MayDo, SendsRequests}
use Rattle.tree_step.specs.Node.{Node}
use Rattle.tree_step.specs.inside.Sent.{MOST_SENT}
use Rattle.tree_step.specs.steps.Change.{Change, Still, Tree, Turn, Show, Sweep}
use Rattle.tree_step.specs.steps.TreeChange.{TreeChange}
use Rattle.tree_step.specs.steps.TreeStep.{TreeStep}
use Rattle.tree_step.specs.declared.counting.Counting.{Counting}
use Rattle.tree_step.specs.declared.node.NodeParts.{NodeParts}

-- the requests that are counted are among the messages that are sent
abbrev pub HasRequests : Change → List Outgoing → Type 0
HasRequests (Tree c) sent = c.counting.asked ≤ length sent
HasRequests _ sent = ⊤

-- so they are if they are all that is sent
pub has_sent : (c : Change) (sent : List Outgoing) → SendsRequests c sent → HasRequests c sent
has_sent (Tree c) sent counted = omega (arith, counted)
has_sent Still sent counted = tt
has_sent (Turn v) sent counted = tt
has_sent (Show v) sent counted = tt
has_sent (Sweep v) sent counted = tt

-- and if the change fits a node
pub has_fit : (c : Change) (sent : List Outgoing) (n : NodeParts) → MayChange c sent n → HasRequests c sent
has_fit (Tree c) sent n may = may.counting.there
has_fit Still sent n may = tt
has_fit (Turn v) sent n may = tt
has_fit (Show v) sent n may = tt
has_fit (Sweep v) sent n may = tt

-- a node after a subtransaction or a notice, by the requests that are counted
abbrev after_requests : TreeChange → Node → List Outgoing → Node
after_requests c st os = record st {
  turns = raised_if c.raises c.counting.version.0 st.turns;
  items = pending c.staged st.items;
  counts =
      if c.counting.root then counted_root c.counting.version.0 c.counting.from.0 os st.counts
      else counted_sub c.counting.version.0 c.counting.from.0 os st.counts;
  homes = home_after c.home st.homes;
}

-- with messages after them the node afterwards is the same
pub after_more : (c : Change) (sent more : List Outgoing) (st : Node) → HasRequests c sent
    → after_change c (sent ++ more) st ≡ after_change c sent st
after_more (Tree c) sent more st has =
    ap (λ (os : List Outgoing). after_requests c st os) (take-append-le c.counting.asked sent more has)
after_more Still sent more st has = refl
after_more (Turn v) sent more st has = refl
after_more (Show v) sent more st has = refl
after_more (Sweep v) sent more st has = refl

count_more : (c : Counting) (sent more : List Outgoing) (k : Counts) → MayCount c sent k → MayCount c (sent ++ more) k
count_more c sent more k may =
    let same : take c.asked sent ≡ take c.asked (sent ++ more) = sym (take-append-le c.asked sent more may.there) in
    record {
      from = may.from;
      up_to = may.up_to;
      node = may.node;
      there = omega (arith, length-append sent more, may.there);
      nodes = subst (λ (os : List Outgoing). All (λ (o : Outgoing). o.to.0 < k.nodes) os) same may.nodes;
      few = subst (λ (os : List Outgoing). length os ≤ MOST_SENT) same may.few;
    }

change_more : (c : Change) (sent more : List Outgoing) (n : NodeParts) → MayChange c sent n → MayChange c (sent ++ more) n
change_more (Tree c) sent more n may = record {
  counting = count_more c.counting sent more (counts_of n.counters) may.counting;
  items = may.items;
  home = may.home;
}
change_more Still sent more n may = may
change_more (Turn v) sent more n may = may
change_more (Show v) sent more n may = may
change_more (Sweep v) sent more n may = may

-- and so is whether a node may do it
pub do_more : (c : Change) (sent more : List Outgoing) (n : NodeParts) → MayDo c sent n → MayDo c (sent ++ more) n
do_more c sent more n may = record {
  fits = change_more c sent more n may.fits;
  small = may.small;
  window = may.window;
}

-- the answer is put after what is sent
pub is_replied : (s : ScriptData) (part : TreeStep) (client : ℕ) (sent : List Outgoing) → client ≡ client_of s
    → sent ≡ part.parts.out.sent ++ reply_letters client part.answered
    → SendsRequests part.parts.change part.parts.out.sent
    → IsReplied s part (record {
      change = part.parts.change;
      out = record { sent = sent; acts = part.parts.out.acts };
    })
is_replied s part client sent to letters counted =
    let old = part.parts.out.sent in
    let more = reply_letters (client_of s) part.answered in
    let is : sent ≡ old ++ more =
    letters ∙ ap (λ (c : ℕ). part.parts.out.sent ++ reply_letters c part.answered) to in
    record {
      row = λ st. λ i. record {
        state = (ap (λ (os : List Outgoing). after_change part.parts.change os st) is
            ∙ after_more part.parts.change old more st (has_sent part.parts.change old counted)) i;
        sent = is i;
        acts = part.parts.out.acts;
      };
      may = λ n may. subst (λ (os : List Outgoing). MayDo part.parts.change os n) (sym is)
          (do_more part.parts.change old more n may);
    }
