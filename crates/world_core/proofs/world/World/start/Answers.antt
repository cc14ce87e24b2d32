use Rattle.std.proofs.Common.{◌≡◌, ℕ, ◌+◌, ◌∙◌, ◌∷◌, [], ap, arith, map}
use Rattle.letter_bag.specs.Bag.{BagData}
use Rattle.letter_types.specs.declared.entries.Letter.{Letter}
use Rattle.letter_types.specs.Letters.{go}
use Rattle.run_history.specs.Messages.{messages_of}
use Rattle.world_core.specs.inside.Flows.{message_at}
use Rattle.world_core.proofs.First.{first_world}
use Rattle.world_core.proofs.world.World.start.Goals as goal
use Rattle.tx_trees.specs.ScriptData.{client_of}

pub returns-clause-world : goal.returns-clause-world
returns-clause-world c =
    let s = c.args.script.now in
    let bag : c.put.new.self.items ≡ 0 ∷ [] = grind (arith, ap (λ (b : BagData ℕ). b.items) c.in_ok-put.ensures.ok, ap (λ (b : BagData ℕ). b.items) c.new-bag.ensures) in
    let first : c.go.result ≡ go (client_of s) = c.go.ensures ∙ ap (λ (n : ℕ). go (n + 1)) c.nodes.ensures.nodes in
    first_world _ _ c.in_ok-actors.ensures.count c.in_ok-actors.ensures.states
    (ap (map (message_at c.go.result (messages_of c.new.result))) bag ∙ ap (λ (l : Letter). l ∷ []) first) c.new.ensures
