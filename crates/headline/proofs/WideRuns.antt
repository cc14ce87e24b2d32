-- A run by the wider condition of being enabled is a run by the window of versions: each message in flight is enabled.
use Rattle.std.proofs.Common.{if◌then◌else◌, ◌≡◌, ℕ, ◌+◌, ◌<◌, ◌==◌, ◌&&◌, Bool, true, false, List, [], ◌∷◌, reverse, refl, sym, ap, subst, ◌∙◌, arith, Option, Some, None}
use Rattle.std.specs.Prelude.{length, nat_le, nat_lt}
use Rattle.std.proofs.lemmas.Bool.{and_parts}
use Rattle.std.proofs.lemmas.Bool.Decides.{nat_tests}
use Rattle.std.proofs.lemmas.List.{reverse-reverse}
use Rattle.tv_base.proofs.Truths.{at_most, same_test}
use Rattle.item_versions.specs.Window.{IsWindowedTable}
use Rattle.item_versions.proofs.WhereHeld.{or_more}
use Rattle.item_versions.proofs.Window.{may_collect_all-windowed}
use Rattle.letter_types.specs.declared.bodies.Body.{Body}
use Rattle.letter_types.specs.declared.bodies.Body.TheVariants.{Go, Order, Sweep}
use Rattle.letter_types.specs.declared.entries.Entry.{Entry}
use Rattle.letter_types.specs.declared.entries.Letter.{Letter}
use Rattle.letter_types.specs.Kept.{brought}
use Rattle.letter_types.specs.Letters.{find_id, own}
use Rattle.letter_types.specs.Steps.{Out}
use Rattle.tx_trees.specs.ScriptData.{ScriptData}
use Rattle.tx_trees.specs.Valid.{IsValid}
use Rattle.world_model.specs.Named.{is_named, is_new, is_timely}
use Rattle.world_model.specs.Node.{Node}
use Rattle.world_model.specs.Apt.{is_widely_timely}
use Rattle.world_model.specs.Core.{Core}
use Rattle.world_model.specs.Epochs.{is_core_timely, is_widely_core_timely, plain_order}
use Rattle.world_model.specs.Keeping.{KeepingNode, brought_row, is_apt_brought, keeping_row, start_keeping, wide_keeping_row}
use Rattle.world_model.specs.Strict.{can_make_at, decides_near, is_core_apt, is_of_script, is_unheld, is_widely_core_apt}
use Rattle.world_model.specs.Runs.{IsRunOf, MayFollow, AtNode, Says, IsStepRun, IsWideRun, IsWorldRun, after, keeping_in, in_flight}
use Rattle.world_model.specs.Tables.{wide_actor_row}
use Rattle.world_model.proofs.Actors.{IsTableOf, RowsRun, rows_run, runs_of_rows}
use Rattle.world_model.proofs.Back.{run_more, says_node, table_run_of, world_run}
use Rattle.world_model.proofs.Bridge.{run_less, state_more}
use Rattle.world_model.proofs.Posts.{follows_by, moves_by, rows_less, steps, waits_of, who_of}
use Rattle.tree_laws.proofs.apt.AptWindows.{tables_in_window}
use Rattle.run_laws.proofs.each_tree.EveryApt.{all_apt}
use Rattle.run_laws.proofs.each_tree.Taken.{apt_here}

-- An apt letter is widely apt.
widely_timely : (s : ScriptData) (st : Node) (b : Body) → IsWindowedTable st.turns.low.0 st.items → is_timely s st b ≡ true
    → is_widely_timely s st b ≡ true
widely_timely s st (Sweep v) near timely =
    may_collect_all-windowed st.turns.low.0 v st.items
    (at_most st.turns.low.0 v.0 (nat_le v.0 st.turns.read.0 && nat_le v.0 st.turns.update.0) timely) near
widely_timely s st Go near timely = refl
widely_timely s st _ near timely = refl

-- also an order of a coordinator that forgets
widely_core_timely : (s : ScriptData) (c : Core) (b : Body) → IsWindowedTable c.node.turns.low.0 c.node.items → is_core_timely s c b ≡ true
    → is_widely_core_timely s c b ≡ true
widely_core_timely s c (Order e what v) near timely =
    or_more (nat_lt e c.epoch) (is_timely s c.node (plain_order what v)) (is_widely_timely s c.node (plain_order what v))
    (widely_timely s c.node (plain_order what v) near) timely
widely_core_timely s c Go near timely = refl
widely_core_timely s c (Sweep v) near timely = widely_timely s c.node (Sweep v) near timely
widely_core_timely s c _ near timely = refl

wide_by : (h a b c d e f g : Bool) → (h && (a && (b && c && (d && e && f)))) ≡ true → (d ≡ true → g ≡ true)
    → (h && (a && (b && c && (g && f)))) ≡ true
wide_by h a b c true e f true is wide = grind arith
wide_by h a b c true e f false is wide = absurd (let not_so : false ≡ true = wide refl in cc not_so)
wide_by h a b c false e f g is wide = absurd (let not_so : false ≡ true = sym (none h a (b && c)) ∙ is in cc not_so) where
  none : (x y z : Bool) → (x && (y && (z && false))) ≡ false
  none x y z = grind arith

widely_apt : (s : ScriptData) (p : ℕ) (c : Core) (l : Letter) → IsWindowedTable c.node.turns.low.0 c.node.items
    → is_core_apt s p c l ≡ true → is_widely_core_apt s p c l ≡ true
widely_apt s p c l near apt =
    wide_by (is_of_script s l.body) (is_named s p l.from.0 l.body) (is_new s c.node l.body)
    (is_unheld l.body c.holds) (is_core_timely s c l.body) (decides_near s c.node l.body) (can_make_at s p c l.body)
    (is_widely_core_timely s c l.body) apt (λ timely. widely_core_timely s c l.body near timely)

-- so both tables have the same row where the letter that is brought is apt
same_by : (s : ScriptData) (p : ℕ) (n : KeepingNode) (l : Letter) (o : Option Letter)
    → IsWindowedTable n.core.node.turns.low.0 n.core.node.items → is_apt_brought s p n o ≡ true
    → brought_row (is_widely_core_apt s p) s p l n o ≡ brought_row (is_core_apt s p) s p l n o
same_by s p n l None near apt = refl
same_by s p n l (Some r) near apt =
    let (here, core) = and_parts (r.to.0 == p) (is_core_apt s p n.core r) apt in
    let wide = widely_apt s p n.core r near core in
    rw (here, core, wide) refl

-- Each letter in flight is apt: an entry of its addressee's row may follow.
abbrev entry_with : ScriptData → List Entry → Entry → Out KeepingNode → Entry
entry_with s past e out = record {
  stamp = record { 0 = length past + 1 };
  actor = e.actor;
  took = e.took;
  sent = out.sent;
  acts = out.acts;
}

-- both tables say the same of a letter in flight to a node
same_row : (s : ScriptData) (past : List Entry) (e : Entry) → IsValid s → IsStepRun s past → e.actor.0 < s.nodes
    → find_id e.took.id (in_flight s past) ≡ Some e.took → e.took.to.0 ≡ e.actor.0
    → wide_keeping_row s e.actor.0 (keeping_in s past e.actor.0) e.took ≡ keeping_row s e.actor.0 (keeping_in s past e.actor.0) e.took
same_row s past e valid run lt waits to =
    let p = e.actor.0 in
    let st = keeping_in s past p in
    let now = entry_with s past e (keeping_row s p st e.took) in
    let follows : MayFollow s past now = record {
      stamp = refl;
      waits = waits;
      addressee = to;
      moves = AtNode lt (refl, refl);
    } in
    let more : IsStepRun s (now ∷ past) = (follows, run) in
    same_by s p st e.took (brought st.kept e.took e.took.body) (tables_in_window s past p valid (all_apt s past valid run) run lt)
    (apt_here s past now valid more lt)

same_at : (s : ScriptData) (past : List Entry) (e : Entry) (p : ℕ) → IsValid s → IsStepRun s past → MayFollow s past e → p < s.nodes
    → (e.actor.0 == p) ≡ true → wide_keeping_row s p (keeping_in s past p) e.took ≡ keeping_row s p (keeping_in s past p) e.took
same_at s past e p valid run m lt is =
    let at : e.actor.0 ≡ p = grind (arith, nat_tests) in
    subst (λ (q : ℕ). wide_keeping_row s q (keeping_in s past q) e.took ≡ keeping_row s q (keeping_in s past q) e.took) at
    (same_row s past e valid run (omega (arith, at, lt)) m.waits m.addressee)

-- From the window to the wider aptness.
state_by : (wide st : KeepingNode) (here : KeepingNode) (test : Bool) → (test ≡ true → wide ≡ here)
    → (if test then wide else st) ≡ (if test then here else st)
state_by wide st here true same = same refl
state_by wide st here false same = refl

-- a node's own entries lead to the same state
wide_after : (s : ScriptData) (past : List Entry) (p : ℕ) → IsValid s → IsStepRun s past → p < s.nodes
    → after (wide_keeping_row s p) (start_keeping s p) (own p (reverse past)) ≡ keeping_in s past p
wide_after s [] p valid run lt = refl
wide_after s (e ∷ past) p valid run lt =
    let st = keeping_in s past p in
    state_more (wide_keeping_row s p) (start_keeping s p) p e past st (wide_after s past p valid run.1 lt)
    ∙ state_by (wide_keeping_row s p st e.took).state st (keeping_row s p st e.took).state (e.actor.0 == p)
    (λ is. ap (λ (o : Out KeepingNode). o.state) (same_at s past e p valid run.1 run.0 lt is))

wide_nodes : (s : ScriptData) (past : List Entry) (p : ℕ) → IsValid s → IsStepRun s past → p < s.nodes
    → IsRunOf (wide_keeping_row s p) (start_keeping s p) (own p (reverse past))
wide_nodes s [] p valid run lt = tt
wide_nodes s (e ∷ past) p valid run lt =
    run_more (wide_keeping_row s p) (start_keeping s p) p e past (keeping_in s past p) (wide_after s past p valid run.1 lt)
    (wide_nodes s past p valid run.1 lt)
    (λ is. subst (λ (o : Out KeepingNode). Says o e) (sym (same_at s past e p valid run.1 run.0 lt is)) (says_node s past e p run.0.moves lt is))

wide_rows : (s : ScriptData) (past : List Entry) → IsValid s → IsStepRun s past → RowsRun (wide_keeping_row s) s (reverse past)
wide_rows s past valid run =
    let tables = table_run_of s past run in
    record {
      postal = tables.postal;
      nodes = λ p lt. wide_nodes s past p valid run lt;
      coordinator = tables.coordinator;
      restarting = tables.restarting;
      client = tables.client;
    }

-- And back: by induction a shorter past is a run by the window, so the next letter is apt.
wide_says : (s : ScriptData) (e : Entry) (past : List Entry) → IsValid s → IsStepRun s past → RowsRun (wide_keeping_row s) s (reverse (e ∷ past))
    → e.actor.0 < s.nodes → Says (keeping_row s e.actor.0 (keeping_in s past e.actor.0) e.took) e
wide_says s e past valid run wide lt =
    let p = e.actor.0 in
    let says = (run_less (wide_keeping_row s p) (start_keeping s p) p e past (keeping_in s past p) (wide_after s past p valid run lt) (wide.nodes p lt)).1
    (same_test p) in
    subst (λ (o : Out KeepingNode). Says o e)
    (same_row s past e valid run lt (waits_of s e past run wide.postal) (who_of s e past wide.postal).0) says

wide_steps : (s : ScriptData) (past : List Entry) → IsValid s → RowsRun (wide_keeping_row s) s (reverse past) → IsStepRun s past
wide_steps s [] valid wide = tt
wide_steps s (e ∷ past) valid wide =
    let run = wide_steps s past valid (rows_less (wide_keeping_row s) s e past wide) in (
      follows_by s e past run wide.postal
          (moves_by s e past (λ lt. wide_says s e past valid run wide lt) wide.coordinator wide.restarting wide.client (who_of s e past wide.postal).1),
      run,
    )

-- The two shapes.
by_wider : (s : ScriptData) → IsTableOf s (wide_actor_row s) (wide_keeping_row s)
by_wider s = record { node = λ p st l. refl; coordinator = λ a c l. refl; restarting = λ a c l. refl; client = λ a c l. refl }

pub widened : (s : ScriptData) (h : List Entry) → IsValid s → IsWorldRun s h → IsWideRun s h
widened s h valid world =
    let wide : RowsRun (wide_keeping_row s) s h =
    subst (λ (x : List Entry). RowsRun (wide_keeping_row s) s x) (reverse-reverse h) (wide_rows s (reverse h) valid (steps s h world)) in
    record { postal = world.postal; actors = runs_of_rows (wide_actor_row s) (wide_keeping_row s) s h (by_wider s) wide }

pub narrowed : (s : ScriptData) (h : List Entry) → IsValid s → IsWideRun s h → IsWorldRun s h
narrowed s h valid wide =
    let rows : RowsRun (wide_keeping_row s) s (reverse (reverse h)) =
    subst (λ (x : List Entry). RowsRun (wide_keeping_row s) s x) (sym (reverse-reverse h))
    (rows_run (wide_actor_row s) (wide_keeping_row s) s h (by_wider s) wide.postal wide.actors) in
    subst (λ (x : List Entry). IsWorldRun s x) (reverse-reverse h) (world_run s (reverse h) (wide_steps s (reverse h) valid rows))
