-- In every run of a script with strict transactions the locks of a node are what the acts of the past say.
use Rattle.std.proofs.Common.{◌≡◌, ◌≢◌, ◌⊎◌, inl, inr, ℕ, ◌<◌, ◌==◌, ◌&&◌, Bool, true, false, List, [], ◌∷◌, map, reverse, refl, sym, ap, subst, ◌∙◌, arith, Option, Some, None}
use Rattle.std.specs.Prelude.{if◌then◌else◌, fold}
use Rattle.std.proofs.lemmas.Bool.{cases_eq}
use Rattle.std.proofs.lemmas.Bool.Decides.{nat_tests}
use Rattle.std.proofs.lemmas.List.Sums.{fold-append}
use Rattle.letter_types.specs.Kept.{brought}
use Rattle.letter_types.specs.declared.acts.Act.{Act}
use Rattle.letter_types.specs.declared.entries.Entry.{Entry}
use Rattle.letter_types.specs.declared.entries.Letter.{Letter}
use Rattle.letter_types.specs.Steps.{Out, still}
use Rattle.nc_locks.specs.declared.modes.Lock.{Lock}
use Rattle.script_parts.specs.Counts.{has_strict}
use Rattle.script_parts.specs.ScriptData.{ScriptData}
use Rattle.world_model.specs.Core.{Core}
use Rattle.world_model.specs.Keeping.{KeepingNode, brought_row, keeping_row, kept_row}
use Rattle.world_model.specs.Runs.{MayFollow, keeping_in}
use Rattle.world_model.specs.Strict.{CoreKeeping, core_keeping, core_row, core_step, is_core_apt}
use Rattle.world_model.proofs.Every.{moved_says}
use Rattle.world_model.proofs.Outstanding.{keeping_elsewhere, keeping_here}
use Rattle.board_rules.specs.Histories.{Place, places_at, places_of}
use Rattle.board_rules.specs.Locked.{locks_after_act, locks_after_place, locks_at}
use Rattle.board_rules.proofs.Places.{places_more}
use Rattle.tree_laws.specs.Locks.{RunLocks, locks_after_acts}
use Rattle.tree_laws.proofs.conflicts.ByActs.{after_turned, locks_follow_acts}
use Rattle.world_model.proofs.Keepings.{of_kept}

-- a letter that is kept leaves the locks, and so do the acts of that
abbrev LeavesLocks : ScriptData → Core → CoreKeeping → Type 0
LeavesLocks s c k = k.state.locks ≡ locks_after_acts s c.locks k.acts

kept_leaves : (s : ScriptData) (c : Core) (l : Letter) (k : CoreKeeping) → core_keeping s c l.body ≡ Some k → LeavesLocks s c k
kept_leaves s c l k is =
    of_kept s c (LeavesLocks s c) l.body k (record {
      parks = λ t j raises v m. sym (after_turned s c.locks raises v.0 _);
      waits = λ t. refl;
    }) is

-- what a node does with a letter
abbrev Follows : ScriptData → KeepingNode → Out KeepingNode → Type 0
Follows s n out = out.state.core.locks ≡ locks_after_acts s n.core.locks out.acts

row_follows : (s : ScriptData) (p : ℕ) (l r : Letter) (n : KeepingNode) (o : Option CoreKeeping) → has_strict s ≡ true
    → is_core_apt s p n.core r ≡ true → core_keeping s n.core r.body ≡ o → Follows s n (kept_row s p l r n o)
row_follows s p l r n (Some k) strict apt is = kept_leaves s n.core r k is
row_follows s p l r n None strict apt is =
    let step : core_step s p n.core r ≡ core_row s p n.core r.from.0 r.body = rw apt refl in
    subst (λ (o : Out Core). o.state.locks ≡ locks_after_acts s n.core.locks o.acts) step (locks_follow_acts s p n.core r strict)

apt_follows : (s : ScriptData) (p : ℕ) (l r : Letter) (n : KeepingNode) (here apt : Bool) → has_strict s ≡ true
    → is_core_apt s p n.core r ≡ apt
    → Follows s n (if here && apt then kept_row s p l r n (core_keeping s n.core r.body) else still n)
apt_follows s p l r n true true strict is = row_follows s p l r n (core_keeping s n.core r.body) strict is refl
apt_follows s p l r n true false strict is = refl
apt_follows s p l r n false apt strict is = refl

brought_follows : (s : ScriptData) (p : ℕ) (l : Letter) (n : KeepingNode) (o : Option Letter) → has_strict s ≡ true
    → Follows s n (brought_row (is_core_apt s p) s p l n o)
brought_follows s p l n None strict = refl
brought_follows s p l n (Some r) strict = apt_follows s p l r n (r.to.0 == p) (is_core_apt s p n.core r) strict refl

pub step_follows : (s : ScriptData) (p : ℕ) (n : KeepingNode) (l : Letter) → has_strict s ≡ true → Follows s n (keeping_row s p n l)
step_follows s p n l strict = brought_follows s p l n (brought n.kept l l.body) strict

-- The acts of an entry, of its node and of another.
own_acts : (s : ScriptData) (p : ℕ) (ls : List Lock) (xs : List Act) (q : ℕ) → q ≡ p
    → fold (locks_after_place s p) ls (map (λ (a : Act). record { node = q; act = a }) xs) ≡ locks_after_acts s ls xs
own_acts s p ls [] q is = refl
own_acts s p ls (a ∷ xs) q is =
    let here : (q == p) ≡ true = grind (arith, nat_tests) in
    ap (λ (b : Bool). fold (locks_after_place s p) (if b then locks_after_act s a ls else ls)
    (map (λ (x : Act). record { node = q; act = x }) xs)) here
    ∙ own_acts s p (locks_after_act s a ls) xs q is

other_acts : (s : ScriptData) (p : ℕ) (ls : List Lock) (xs : List Act) (q : ℕ) → q ≢ p
    → fold (locks_after_place s p) ls (map (λ (a : Act). record { node = q; act = a }) xs) ≡ ls
other_acts s p ls [] q ne = refl
other_acts s p ls (a ∷ xs) q ne =
    let other : (q == p) ≡ false = grind (arith, nat_tests) in
    ap (λ (b : Bool). fold (locks_after_place s p) (if b then locks_after_act s a ls else ls)
    (map (λ (x : Act). record { node = q; act = x }) xs)) other
    ∙ other_acts s p ls xs q ne

then_locks : (s : ScriptData) (e : Entry) (past : List Entry) (p : ℕ)
    → locks_at s (places_of (reverse (e ∷ past))) p
    ≡ fold (locks_after_place s p) (locks_at s (places_of (reverse past)) p) (places_at e)
then_locks s e past p =
    ap (λ (xs : List Place). locks_at s xs p) (places_more e past)
    ∙ fold-append (locks_after_place s p) [] (places_of (reverse past)) (places_at e)

entry_locks : (s : ScriptData) (past : List Entry) (e : Entry) (p : ℕ) → has_strict s ≡ true → MayFollow s past e → p < s.nodes
    → (keeping_in s past p).core.locks ≡ locks_at s (places_of (reverse past)) p → (e.actor.0 ≡ p) ⊎ (e.actor.0 ≢ p)
    → (keeping_in s (e ∷ past) p).core.locks ≡ fold (locks_after_place s p) (locks_at s (places_of (reverse past)) p) (places_at e)
entry_locks s past e p strict m lt before (inl at) =
    let n = keeping_in s past p in
    ap (λ (x : KeepingNode). x.core.locks) (keeping_here s past e p at)
    ∙ step_follows s p n e.took strict
    ∙ ap (locks_after_acts s n.core.locks) (sym (moved_says s past e p lt at m.moves).1)
    ∙ ap (λ (ls : List Lock). locks_after_acts s ls e.acts) before
    ∙ sym (own_acts s p (locks_at s (places_of (reverse past)) p) e.acts e.actor.0 at)
entry_locks s past e p strict m lt before (inr ne) =
    ap (λ (x : KeepingNode). x.core.locks) (keeping_elsewhere s past e p ne)
    ∙ before
    ∙ sym (other_acts s p (locks_at s (places_of (reverse past)) p) e.acts e.actor.0 ne)

pub run_locks : RunLocks
run_locks s [] p strict run lt = refl
run_locks s (e ∷ past) p strict run lt =
    entry_locks s past e p strict run.0 lt (run_locks s past p strict run.1 lt) (cases_eq e.actor.0 p)
    ∙ sym (then_locks s e past p)
