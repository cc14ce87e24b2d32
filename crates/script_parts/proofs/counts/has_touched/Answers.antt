use Rattle.std.proofs.Common.{◌≡◌, ◌-◌, ◌<◌, ℕ, List, length, get_or, ap, sym, ◌∙◌, arith, suc, true, false, Bool, refl}
use Rattle.std.specs.Prelude.{◌&&◌}
use Rattle.script_parts.specs.ScriptData.{is_strict}
use Rattle.script_parts.specs.Adding.{has_touched, touch}
use Rattle.script_parts.specs.declared.parts.Tree.{Tree}
use Rattle.script_parts.proofs.Last.{last_at}
use Rattle.script_parts.proofs.counts.has_touched.Goals as goal

touched_is : (k : ℕ) (ts : List Tree) (t : Tree) → 0 < length ts → t ≡ get_or ts (length ts - 1) t → has_touched k ts ≡ (is_strict t.kind && touch k t.subs)
touched_is k ts t some is =
    let e : suc (length ts - 1) ≡ length ts = omega arith in
    rw (last_at ts (length ts - 1) t e is, has_touched) refl

and_true : (b d : Bool) → b ≡ true → d ≡ (b && d)
and_true true d e = refl
and_true false d e = absurd cc

and_false : (b d : Bool) → b ≡ false → b ≡ (b && d)
and_false true d e = absurd cc
and_false false d e = refl

pub returns-then-is_strict : goal.returns-then-is_strict
returns-then-is_strict c =
    let t = c.index-trees-trees.result in
    c.touch.ensures
    ∙ ap (touch c.args.item) c.items.ensures.items
    ∙ and_true (is_strict t.kind) (touch c.args.item t.subs) (sym c.is_strict.ensures ∙ c.if-is_strict.true)
    ∙ sym (touched_is c.args.item c.args.trees.now t c.requires c.index-trees-trees.is)

pub returns-else-is_strict : goal.returns-else-is_strict
returns-else-is_strict c =
    let t = c.index-trees-trees.result in
    c.is_strict.ensures
    ∙ and_false (is_strict t.kind) (touch c.args.item t.subs) (sym c.is_strict.ensures ∙ c.if-is_strict.false)
    ∙ sym (touched_is c.args.item c.args.trees.now t c.requires c.index-trees-trees.is)
