-- The goals of `words::same_bytes` that are left. Its invariant is in `Invariants`. Assumes nothing.
use Prim.Native.Nat.{◌-◌, ◌≤◌, min}
use native.Mathlib.Omega.{arith}
use mathlib.Core.Path.{◌≡◌}
use lib.ListN.{length}
use Rattle.std.proofs.lemmas.Bool.Decides.{nat_tests}
use Rattle.words.proofs.Stretches.{step_tells}
use Rattle.words.proofs.same_bytes.Goals as goal

pub loop-k-preserved : goal.loop-k-preserved
loop-k-preserved c =
    let g = c.args in
    let l = c.loop-k in
    let some : 1 ≤ length g.a.now = grind (arith, nat_tests) in
    let place : c.min.result ≡ min l.k (length g.a.now - 1) = omega arith in
    step_tells g.a.now g.b.now 1 l.k l.all c.same_byte-all.result some (λ h. omega arith) l.invariant (rw place at c.same_byte-all.ensures)
