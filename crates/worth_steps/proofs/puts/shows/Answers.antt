use Rattle.std.proofs.Common.{◌∙◌, ◌+◌, ◌++◌, ℕ, ap, sym, refl, take, drop, arith}
use Rattle.worth_steps.specs.Puts.{shown_to}
use Rattle.worth_steps.proofs.Bagged.{is_shown, not_shown, rest_hidden}
use Rattle.worth_steps.proofs.puts.shows.Goals as goal
use Rattle.worth_steps.proofs.puts.shows.Goals.{then-put-version+else-not-is_at, else-put-version}

pub returns-then-not-is_at-clause-no : goal.returns-then-not-is_at-clause-no
returns-then-not-is_at-clause-no c = λ e.
    not_shown c.args.version.0 c.args.puts.now c.args.numbers.now c.loop-put.put-index c.loop-put.met _ c.loop-put-test.true c.if-put-version.true
    c.loop-put.invariant.within c.loop-put.invariant.met (c.if-not-is_at.ensures.no refl)

pub loop-put-preserved : goal.loop-put-preserved
loop-put-preserved c =
    let v = c.args.version.0 in
    let ps = c.args.puts.now in
    let ns = c.args.numbers.now in
    let i = c.loop-put.put-index in
    let m = c.loop-put.met in
    elim c.if-put-version.branch [
      | then-put-version+else-not-is_at w ↦
          let next = is_shown v ps ns i m _ c.loop-put-test.true w.if-put-version.true c.loop-put.invariant.met (w.if-not-is_at.ensures.yes refl) in
          record {
            within = omega (arith, w.met-is, next.0);
            met = ap (λ (k : ℕ). take k ns ++ shown_to v (drop (i + 1) ps)) w.met-is ∙ next.1;
          }
      | else-put-version w ↦ record {
        within = omega (arith, w.met-is, c.loop-put.invariant.within);
        met =
            ap (λ (k : ℕ). take k ns ++ shown_to v (drop (i + 1) ps)) w.met-is
            ∙ ap (λ xs. take m ns ++ xs) (sym (rest_hidden v ps i _ c.loop-put-test.true w.if-put-version.false))
            ∙ c.loop-put.invariant.met;
      }
    ]
