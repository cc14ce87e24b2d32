-- What an act makes of the numbers of its node and of the state of its transaction, and how that is taken back.
use Rattle.std.specs.Prelude.{if◌then◌else◌, ℕ, Bool, true, false, not, ◌&&◌, ◌||◌, ◌≡◌, ◌≤◌, ◌<◌, List, [], length, replicate, IsTrue, Option, Some, None, get_or, slice_set, slice_get}
use Rattle.std.specs.Option.{option_or, unwrap_or}
use Rattle.board_rules.specs.Moves.{showed_to, swept_to, turned_to}
use Rattle.tv_base.specs.declared.numbers.TreeNo.{TreeNo}
use Rattle.tv_base.specs.declared.numbers.Version.{Version}
use Rattle.letter_types.specs.declared.acts.Act.{Act}
use Rattle.letter_types.specs.declared.acts.Act.TheVariants.{Born, Did, Finished, Voted, Freed, Decided, Applied}
use Rattle.letter_types.specs.declared.votes.Vote.{Vote}
use Rattle.letter_types.specs.declared.votes.Vote.TheVariants.{Yes, No}
use Rattle.script_parts.specs.ScriptData.{is_read, is_strict, is_update}
use Rattle.script_parts.specs.declared.parts.Tree.{Tree}
use Rattle.script_parts.specs.declared.parts.TreeKind.{TreeKind}
use Rattle.board_rules.specs.Right.{finishes}
use Rattle.board_tallies.specs.Board.{AreCounted, BoardData, first_numbers, first_state, numbers_at, pending_version, state_at, whole_at}
use Rattle.board_tallies.specs.declared.numbers.Numbers.{Numbers}
use Rattle.board_tallies.specs.declared.states.StateNews.{StateNews}
use Rattle.board_tallies.specs.declared.states.StateNews.TheVariants as news
use Rattle.board_tallies.specs.declared.states.StateWas.{StateWas}
use Rattle.board_tallies.specs.declared.states.StateWas.TheVariants as was
use Rattle.board_tallies.specs.declared.states.TreeState.{TreeState}
use Rattle.board_tallies.specs.declared.pending.Pending.{Pending}

-- the numbers of a node after its act
abbrev pub numbers_with : Act → Numbers → Numbers
numbers_with act n = record {
  update = unwrap_or (turned_to act) n.update;
  read = unwrap_or (showed_to act) n.read;
  low = unwrap_or (swept_to act) n.low;
}

-- those of all nodes after an act of node p
abbrev pub nodes_with : ℕ → Act → List Numbers → List Numbers
nodes_with p act nodes = slice_set nodes p (numbers_with act (numbers_at nodes p))

-- the vote is a yes
abbrev pub is_yes : Vote → Bool
is_yes (Yes values) = true
is_yes (No cause) = false

-- what an act at node p tells, and of which transaction
abbrev pub news_by : ℕ → Act → Option (TreeNo × StateNews)
news_by p (Born t v) = Some (t, news.Born v)
news_by p (Did t k values) = Some (t, news.Done k)
news_by p (Voted t k vote) = Some (t, news.Voted k (is_yes vote))
news_by p (Freed t) = Some (t, news.Freed (record { 0 = p }))
news_by p (Decided t commit) = Some (t, news.Decided commit)
news_by p (Applied t commit) = Some (t, news.Applied (record { 0 = p }))
news_by p Finished = None
news_by p _ = None

-- the state of a transaction with what is told of it: the version of its first birth, and marks
abbrev pub with_birth : Version → TreeState → TreeState
with_birth v st = record st { born = option_or st.born (Some v) }

abbrev pub with_deed : ℕ → TreeState → TreeState
with_deed k st = record st { done = slice_set st.done k true }

abbrev pub with_vote : ℕ → Bool → TreeState → TreeState
with_vote k said st =
    record st { voted = slice_set st.voted k true; yes = slice_set st.yes k (said || get_or st.yes k false) }

abbrev pub with_applying : ℕ → TreeState → TreeState
with_applying p st = record st { applied = slice_set st.applied p true }

abbrev pub with_freeing : ℕ → TreeState → TreeState
with_freeing p st = record st { freed = slice_set st.freed p true }

abbrev pub with_decision : Bool → TreeState → TreeState
with_decision commit st = record st { committed = st.committed || commit; aborted = st.aborted || not commit }

abbrev pub state_with : StateNews → TreeState → TreeState
state_with (news.Born v) st = with_birth v st
state_with (news.Done k) st = with_deed k.0 st
state_with (news.Voted k said) st = with_vote k.0 said st
state_with (news.Applied p) st = with_applying p.0 st
state_with (news.Freed p) st = with_freeing p.0 st
state_with (news.Decided commit) st = with_decision commit st

-- what of it was before
abbrev pub state_was : StateNews → TreeState → StateWas
state_was (news.Born v) st = was.Born st.born
state_was (news.Done k) st = was.Done k (get_or st.done k.0 false)
state_was (news.Voted k said) st = was.Voted k (get_or st.voted k.0 false) (get_or st.yes k.0 false)
state_was (news.Applied p) st = was.Applied p (get_or st.applied p.0 false)
state_was (news.Freed p) st = was.Freed p (get_or st.freed p.0 false)
state_was (news.Decided commit) st = was.Decided st.committed st.aborted

-- the states of all transactions after an act at node p
abbrev pub states_told : Option (TreeNo × StateNews) → List TreeState → List TreeState
states_told None states = states
states_told (Some told) states = slice_set states told.0.0 (state_with told.1 (state_at states told.0.0))

abbrev pub states_with : ℕ → Act → List TreeState → List TreeState
states_with p act states = states_told (news_by p act) states

-- the version in which the transaction of this place isn't complete yet, if it is there; and whether it reads
abbrev pub pending_at : List Tree → List TreeState → ℕ → Option Version
pending_at trees states t = elim (slice_get trees t) [ Some tree ↦ pending_version tree (state_at states t) | None ↦ None ]

abbrev pub reads_at : List Tree → ℕ → Bool
reads_at trees t = elim (slice_get trees t) [ Some tree ↦ is_read tree.kind | None ↦ false ]

-- the transaction of this place is there, and of a kind that passes the test
abbrev pub kind_passes : (TreeKind → Bool) → List Tree → ℕ → Bool
kind_passes test trees t = elim (slice_get trees t) [ Some tree ↦ test tree.kind | None ↦ false ]

-- the transaction that an act has made a member of the serial order, if these are the states after it
abbrev pub closed_by : List Tree → List TreeState → Act → Option TreeNo
closed_by trees states (Did t k values) =
    if kind_passes is_update trees t.0 && whole_at trees states t.0 then Some t else None
closed_by trees states (Decided t commit) =
    if (kind_passes is_strict trees t.0 && commit) && (state_at states t.0).committed then Some t else None
closed_by trees states Finished = None
closed_by trees states _ = None

-- from the first of these places up to the second transactions are complete, and there one isn't
pub record GoesOn (ts : List Tree) (states : List TreeState) (since until : ℕ) : Type 0 where
  pub further : since ≤ until
  pub within : since ≤ length states → until ≤ length states
  pub whole : (t : ℕ) → since ≤ t → t < until → IsTrue (whole_at ts states t)
  pub next : until < length states → whole_at ts states until ≡ false

-- the tallies after an act at node p
pub record IsNoted (ts : List Tree) (p : ℕ) (act : Act) (old new : BoardData) : Type 0 where
  pub nodes : new.nodes ≡ nodes_with p act old.nodes
  pub trees : new.trees ≡ states_with p act old.trees
  pub pending : AreCounted ts old.trees old.pending → AreCounted ts new.trees new.pending
  pub passed : GoesOn ts new.trees old.passed new.passed
  pub finished : new.finished ≡ (old.finished || finishes act)

-- the tallies of that many nodes and transactions at first
abbrev pub first_board : ℕ → ℕ → BoardData
first_board nodes trees = record {
  nodes = replicate nodes first_numbers;
  trees = replicate trees first_state;
  pending = [];
  passed = 0;
  finished = false;
}

-- if the counts were those of the states before a change, they are those of the states after it
abbrev pub StayCounted : List Tree → List TreeState → List Pending → List TreeState → List Pending → Type 0
StayCounted trees states ps states' ps' = AreCounted trees states ps → AreCounted trees states' ps'
