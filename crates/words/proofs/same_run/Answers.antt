-- The goals of `words::same_run` that are left. Its invariant is in `Invariants`. Assumes nothing.
use Prim.Native.Nat.{◌+◌, ◌*◌}
use native.Mathlib.Omega.{arith}
use mathlib.Core.Path.{◌≡◌}
use Rattle.words.proofs.Stretches.{both_tell}
use Rattle.words.proofs.same_run.Goals as goal

pub loop-k-preserved : goal.loop-k-preserved
loop-k-preserved g c =
    let a = c.args in
    let e : 8 * (c.loop-k.k + 1) ≡ 8 * c.loop-k.k + 8 = omega arith in
    rw e (both_tell a.a.now a.b.now a.i (8 * c.loop-k.k) 8 c.loop-k.all c.same_word-all.result c.loop-k.invariant c.same_word-all.ensures)
