-- A subtransaction is done: what its node keeps, sends and acts, whatever kind of transaction it is of. What its
-- operations make of the items, and the values of its gets, are given.
use Rattle.std.specs.Prelude.{ℕ, Bool, if◌then◌else◌, List, [], ◌∷◌, ◌++◌, Option}
use Rattle.node_versions.specs.declared.turns.Turns.{Turns}
use Rattle.pair_counters.specs.Numbers.{Numbers, asked_one, asked_all, done_one}
use Rattle.tree_home.specs.Homes.{Gets, begun}
use Rattle.tree_home.specs.declared.homes.Answered.{Answered}
use Rattle.letter_types.specs.declared.bodies.Notice.{Notice}
use Rattle.script_parts.specs.ScriptData.{ScriptData, subs_at, home_of}
use Rattle.letter_types.specs.declared.acts.Act.{Act}
use Rattle.letter_types.specs.declared.acts.Act.TheVariants.{Born, Turned}
use Rattle.letter_types.specs.declared.entries.Outgoing.{Outgoing}
use Rattle.letter_types.specs.Steps.{Out}
use Rattle.world_model.specs.Node.{Effect, Node}
use Rattle.world_model.specs.Children.{sub_letters, done_letter, addressees}
use Rattle.world_model.specs.Notices.{act_of, homes_noted, answer_noted, values_of}

-- a root at node p: one request and one completion of p with itself, and a request to each child's node
abbrev pub counted_root : ℕ → ℕ → List Outgoing → Numbers → Numbers
counted_root v p children n = done_one v p (asked_all v (addressees children) (asked_one v p n))

-- a subtransaction that q asked for: a request to the addressee of each message, and a completion from q
abbrev pub counted_sub : ℕ → ℕ → List Outgoing → Numbers → Numbers
counted_sub v q letters n = done_one v q (asked_all v (addressees letters) n)

-- what comes of a transaction's message at a node: what goes out before the transaction is answered, and its answer, if
-- its home misses no notice any more
pub record TreeOut : Type 0 where
  pub out : Out Node
  pub answered : Option Answered

-- the root of transaction t at node p in version v, with this effect, if its home has begun the transaction: its
-- children are asked for, and its home takes down its notice
abbrev pub root_part : ScriptData → ℕ → ℕ → ℕ → Effect → Node → TreeOut
root_part s p t v e st = record {
  out = record {
    state = record st {
      items = e.items;
      counts = counted_root v p (sub_letters t v 0 0 (subs_at s t)) st.counts;
      homes = homes_noted (record { 0 = t }) (record { 0 = 0 }) (values_of e.notice) st.homes;
    };
    sent = sub_letters t v 0 0 (subs_at s t);
    acts = Born (record { 0 = t }) (record { 0 = v }) ∷ act_of (record { 0 = t }) (record { 0 = 0 }) e.notice ∷ [];
  };
  answered = answer_noted (record { 0 = t }) (record { 0 = 0 }) (values_of e.notice) st.homes;
}

-- a transaction of that many subtransactions has begun at its home
abbrev pub with_open_tree : ℕ → ℕ → ℕ → Node → Node
with_open_tree t n v st = record st { homes = begun (record { 0 = t }) n (record { 0 = v }) st.homes }

-- what subtransaction k of transaction t sends in version v: a Sub to each child, and its notice to the home
abbrev pub sub_sent : ScriptData → ℕ → ℕ → ℕ → Notice → List Outgoing
sub_sent s t k v notice = sub_letters t v k 0 (subs_at s t) ++ done_letter (home_of s t) t k v notice ∷ []

-- the update version if a subtransaction raises it, and the act of that
abbrev pub raised_if : Bool → ℕ → Turns → Turns
raised_if raises v turns = if raises then record turns { update = record { 0 = v } } else turns

abbrev pub turned_if : Bool → ℕ → List Act
turned_if raises v = if raises then Turned (record { 0 = v }) ∷ [] else []

-- subtransaction k of transaction t, which node q asked for, in version v, with this effect
abbrev pub sub_done : ScriptData → ℕ → ℕ → ℕ → ℕ → Bool → Effect → Node → Out Node
sub_done s q t k v raises e st = record {
  state = record st {
    turns = raised_if raises v st.turns;
    items = e.items;
    counts = counted_sub v q (sub_sent s t k v e.notice) st.counts;
  };
  sent = sub_sent s t k v e.notice;
  acts = turned_if raises v ++ act_of (record { 0 = t }) (record { 0 = k }) e.notice ∷ [];
}

-- a transaction's home takes a notice from node q, and counts the completion
abbrev pub note_part : ℕ → ℕ → ℕ → ℕ → Gets → Node → TreeOut
note_part q t k v values st = record {
  out = record {
    state = record st {
      counts = done_one v q st.counts;
      homes = homes_noted (record { 0 = t }) (record { 0 = k }) values st.homes;
    };
    sent = [];
    acts = [];
  };
  answered = answer_noted (record { 0 = t }) (record { 0 = k }) values st.homes;
}
