-- The goals of `run_at` that are left: the size fits, and the invariant goes on with one record more. Assumes nothing.
use Prim.Native.Nat.{◌+◌}
use native.Mathlib.Omega.{arith}
use Rattle.format.specs.declared.Record.TheVariants.{New}
use Rattle.writer.specs.Write.{RunOf}
use Rattle.writer.proofs.Writing.{run_stored, run_more}
use Rattle.writer.proofs.run_at.Goals as goal
use Rattle.writer.proofs.run_at.Goals.{After-size_of-size-in-loop-k}

stored_too : (c : After-size_of-size-in-loop-k) → let g = c.args in
    let l = c.loop-k in
    RunOf g.list.now g.choice.now g.n l.k (record { entry = New c.size_of-size-in-loop-k.result; next = l.k + 1 })
stored_too c =
    let g = c.args in
    let l = c.loop-k in
    run_stored g.list.now g.choice.now g.n l.k (omega arith) c.record_at.result c.record_at.ensures c.size_of-size-in-loop-k.result c.size_of-size-in-loop-k.ensures c.if-choice-k-eq0.false

pub overflow_add-size : goal.overflow_add-size
overflow_add-size c =
    omega (arith, c.requires.most, c.loop-k.invariant.stands.sizes, (stored_too (goal.at.overflow_add-size c).After-size_of-size-in-loop-k).stands.sizes)

pub loop-k-preserved : goal.loop-k-preserved
loop-k-preserved c = run_more c.loop-k.invariant (stored_too (goal.at.loop-k-preserved c).After-size_of-size-in-loop-k)
