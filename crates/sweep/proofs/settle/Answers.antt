-- The step of the sweep from the front: the byte at i is settled, and the rest settles to what is to come. Assumes nothing.
use native.Mathlib.Omega.{arith}
use mathlib.Core.Path.{◌∙◌}
use Rattle.sweep.proofs.Sweeping.{forth_turn}
use Rattle.std.proofs.Common.{rules}
use Rattle.sweep.proofs.settle.Goals as goal

pub loop-i-preserved : goal.loop-i-preserved
loop-i-preserved c =
    let g = c.args in
    let l = c.loop-i in
    record {
      same = search rules;
      area = l.invariant.area ∙ forth_turn l.choice g.n l.i l.b c.next_bit-b.result (omega arith) (omega arith) c.next_bit-b.ensures;
    }
