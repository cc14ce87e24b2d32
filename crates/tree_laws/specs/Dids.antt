-- How often subtransactions are asked for and done.
use Rattle.std.specs.Prelude.{ℕ, ◌==◌, ◌&&◌, ◌+◌, List, [], ◌∷◌}
use Rattle.letter_types.specs.declared.acts.Act.{Act}
use Rattle.letter_types.specs.declared.acts.Act.TheVariants.{Born, Did}
use Rattle.letter_types.specs.declared.bodies.Body.{Body}
use Rattle.letter_types.specs.declared.bodies.Body.TheVariants.{Go, Root, Sub, Done, Reply}
use Rattle.letter_types.specs.declared.entries.Entry.{Entry}
use Rattle.letter_types.specs.declared.entries.Letter.{Letter}
use Rattle.letter_types.specs.declared.entries.Outgoing.{Outgoing}
use Rattle.tx_trees.specs.ScriptData.{ScriptData}
use Rattle.tx_trees.specs.declared.parts.ScriptRow.{ScriptRow}
use Rattle.tx_trees.specs.declared.parts.ScriptRow.TheVariants.{Tree as TreeRow}
use Rattle.world_model.specs.Counts.{tally, one_if}
use Rattle.world_model.specs.Kept.{outstanding}
use Rattle.world_model.specs.Runs.{in_flight}

-- a message that asks for subtransaction k of transaction t
abbrev pub asks : ℕ → ℕ → Body → ℕ
asks t k (Root u) = one_if ((u.0 == t) && (0 == k))
asks t k (Sub u j v) = one_if ((u.0 == t) && (j.0 == k))
asks t k _ = 0

abbrev pub is_go : Body → ℕ
is_go Go = 1
is_go _ = 0

-- the act of doing subtransaction k of transaction t
abbrev pub is_did_act : ℕ → ℕ → Act → ℕ
is_did_act t k (Did u j values) = one_if ((u.0 == t) && (j.0 == k))
is_did_act t k _ = 0

-- the act of bearing transaction t
abbrev pub is_born : ℕ → Act → ℕ
is_born t (Born u v) = one_if (u.0 == t)
is_born t _ = 0

-- how many messages that have still to be done ask for subtransaction k of transaction t
abbrev pub letters_asking : ScriptData → List Entry → ℕ → ℕ → ℕ
letters_asking s past t k = tally (λ (l : Letter). asks t k l.body) (outstanding s past)

-- how many messages in flight are Go
abbrev pub goes : ScriptData → List Entry → ℕ
goes s past = tally (λ (l : Letter). is_go l.body) (in_flight s past)

-- how often subtransaction k of transaction t was done
abbrev pub dids : List Entry → ℕ → ℕ → ℕ
dids [] t k = 0
dids (e ∷ past) t k = tally (is_did_act t k) e.acts + dids past t k

-- how often transaction t was born
abbrev pub births : List Entry → ℕ → ℕ
births [] t = 0
births (e ∷ past) t = tally (is_born t) e.acts + births past t

-- a message that brings the notice of subtransaction k of transaction t
abbrev pub tells_done : ℕ → ℕ → Body → ℕ
tells_done t k (Done u j v notice) = one_if ((u.0 == t) && (j.0 == k))
tells_done t k _ = 0

-- a message that answers transaction t
abbrev pub replies_to : ℕ → Body → ℕ
replies_to t (Reply u v answer) = one_if (u.0 == t)
replies_to t _ = 0

-- how many messages in flight bring the notice of subtransaction k of transaction t
abbrev pub notices : ScriptData → List Entry → ℕ → ℕ → ℕ
notices s past t k = tally (λ (l : Letter). tells_done t k l.body) (in_flight s past)

-- how many messages in flight answer transaction t
abbrev pub replies : ScriptData → List Entry → ℕ → ℕ
replies s past t = tally (λ (l : Letter). replies_to t l.body) (in_flight s past)

-- how often transaction t was answered
abbrev pub answers : List Entry → ℕ → ℕ
answers [] t = 0
answers (e ∷ past) t = tally (λ (o : Outgoing). replies_to t o.body) e.sent + answers past t

-- a row that sends the root of transaction t
abbrev pub is_row_of : ℕ → ScriptRow → ℕ
is_row_of t (TreeRow u) = one_if (u.0 == t)
is_row_of t _ = 0

-- how many of these rows send the root of transaction t
abbrev pub roots_sent : ℕ → List ScriptRow → ℕ
roots_sent t rows = tally (is_row_of t) rows
