-- The client's end in the entry that was made last; what a worker holds that stops.
use Rattle.std.proofs.Common.{◌≡◌, ℕ, suc, ◌-◌, ◌<◌, false, List, [], ◌∷◌, length, get_or, refl, ap, sym, ◌∙◌, arith, Option, Some, None, inl, inr}
use Rattle.std.specs.List.{last_or, list_any}
use Rattle.letter_types.specs.declared.entries.Entry.{Entry}
use Rattle.board_rules.specs.Right.{finishes}
use Rattle.stamp_post.specs.Shown.{EnvelopeData, PostId}
use Rattle.actor_schedule.specs.declared.stop.InHand.{InHand}
use Rattle.actor_schedule.specs.declared.stop.InHand.TheVariants.{Nothing}
use Rattle.actor_schedule.specs.Stops.{KeepsLetter}
use Rattle.node_threads.specs.Benches.{KeepsOne, ends_last, ends_with}

last_at : (o : Option Entry) (es : List Entry) (x : Entry) → 0 < length es → x ≡ get_or es (length es - 1) x → last_or o es ≡ Some x
last_at o [] x some at = absurd (omega (arith, some))
last_at o (e ∷ []) x some at = ap Some (sym at)
last_at o (e ∷ f ∷ es) x some at =
    let here : suc (suc (length es)) - 1 ≡ suc (length es) = omega arith in
    let behind : suc (length es) - 1 ≡ length es = omega arith in
    last_at (Some e) (f ∷ es) x (omega arith)
    (at ∙ ap (λ (i : ℕ). get_or (e ∷ f ∷ es) i x) here ∙ ap (λ (i : ℕ). get_or (f ∷ es) i x) (sym behind))

pub ends_at : (es : List Entry) (x : Entry) → 0 < length es → x ≡ get_or es (length es - 1) x → list_any finishes x.acts ≡ ends_last es
ends_at es x some at = ap ends_with (sym (last_at None es x some at))

pub ends_nowhere : (es : List Entry) → length es ≡ 0 → false ≡ ends_last es
ends_nowhere [] none = refl
ends_nowhere (e ∷ es) none = absurd (omega (arith, none))

pub ruleset ending = (ends_at, ends_nowhere)

-- what keeps a letter of the post keeps one
pub keeps_letter : (post : PostId) (e : EnvelopeData) (held : InHand) → e.post ≡ post → KeepsLetter post e held → KeepsOne post held
keeps_letter post e held is keeps = inr (e, is, keeps)

pub keeps_none : (post : PostId) (held : InHand) → held ≡ Nothing → KeepsOne post held
keeps_none post held none = inl none

pub ruleset keeping = (keeps_letter, keeps_none)
