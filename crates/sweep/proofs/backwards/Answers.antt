-- The step of the sweep: the record's turn is the path's, and its hint goes in front of those that are there. Assumes nothing.
use Prim.Native.Nat.{ℕ, ◌*◌, ◌-◌, ◌≤◌, ◌<◌}
use native.Mathlib.Omega.{arith}
use mathlib.Core.Path.{◌∙◌, ap, ap₂}
use mathlib.Core.List.{List, ◌∷◌, ◌++◌}
use lib.ListN.{drop, set}
use Rattle.format.specs.declared.Record.{Record}
use Rattle.join.specs.Open.{Open}
use Rattle.choice.specs.Path.{step_most}
use Rattle.weigh.specs.Weigh.{turned}
use Rattle.sweep.proofs.Sweeping.{swept_next, set_back}
use Rattle.std.proofs.Common.{rules}
use Rattle.sweep.proofs.backwards.Goals as goal

pub loop-i-preserved : goal.loop-i-preserved
loop-i-preserved c =
    let l = c.loop-i in
    let g = c.args in
    let t = c.weigh-t in
    let some : 0 < l.i = c.loop-i-test.true in
    let most : ℕ = step_most * (g.n - l.i) in
    let kept_in : l.kept.0 ≤ most = omega (arith, l.invariant.kept_most, l.auto.i) in
    let stored_in : l.stored.0 ≤ most = omega (arith, l.invariant.stored_most, l.auto.i) in
    let is = ap₂ (λ (o : Open) (x : Record). turned g.rates o x l.kept.0 l.stored.0) c.before_at.ensures c.record_at.ensures in
    record {
      same = search rules;
      kept_most = omega (arith, t.ensures.kept_most most kept_in stored_in, some);
      stored_most = omega (arith, t.ensures.stored_most most kept_in stored_in, some);
      done = t.result.hint ∷ l.invariant.done;
      swept = swept_next l.invariant.swept some l.auto.i t.result (t.ensures.is ∙ is);
      area =
          ap (λ (p : List ℕ). set p (l.i - 1) t.result.hint) l.invariant.area
          ∙ set_back g.choice.now (l.invariant.done ++ drop g.n g.choice.now) l.i t.result.hint some (omega (arith, l.auto.i, c.requires.in_choice));
    }
