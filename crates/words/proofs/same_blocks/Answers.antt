-- The goals of `words::same_blocks` that are left. Its invariant is in `Invariants`. Assumes nothing.
use Prim.Native.Nat.{◌-◌}
use native.Mathlib.Omega.{arith}
use mathlib.Core.Bool.{true}
use lib.ListN.{length}
use Rattle.words.proofs.Stretches.{next_tells, ends_tell}
use Rattle.words.proofs.same_blocks.Goals as goal

pub loop-i-preserved : goal.loop-i-preserved
loop-i-preserved c = next_tells c.args.a.now c.args.b.now c.loop-i.i 64 true c.if-not-same_run-2.ensures true c.loop-i.invariant

pub returns : goal.returns
returns c =
    let g = c.args in
    ends_tell g.a.now g.b.now c.loop-i.i (length g.a.now - 64) 64 true true (omega arith) (omega arith) (omega arith) c.loop-i.invariant c.if-not-same_run.ensures
