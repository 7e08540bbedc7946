-- A record that joins the one after it is laid into that one's place, and one that does not is laid before it. Assumes nothing.
use native.Mathlib.Omega.{arith}
use mathlib.Core.Path.{refl}
use Rattle.linear.proofs.Loading.{laid_apart, laid_joined, joined_most}
use Rattle.linear.proofs.load.Goals as goal
use Rattle.linear.proofs.load.Goals.{then-joins_next, else-joins_next}

pub overflow_add-size : goal.overflow_add-size
overflow_add-size c =
    rw c.cell-size.ensures
    (omega (arith, joined_most c.loop-i.invariant (omega arith) c.record_at-record.ensures refl c.size_of-size.ensures c.joins_next.ensures c.if-joins_next.true c.requires.1))

pub loop-i-preserved : goal.loop-i-preserved
loop-i-preserved c =
    rw c.store.ensures
    (elim c.if-joins_next.branch [
      | then-joins_next w ↦
          rw (w.loaded-is, w.size-is, w.cell-size.ensures)
          (laid_joined c.loop-i.invariant (omega arith) c.record_at-record.ensures c.kind_of-kind.ensures c.size_of-size.ensures c.joins_next.ensures w.if-joins_next.true)
      | else-joins_next w ↦
          rw (w.loaded-is, w.size-is)
          (laid_apart c.loop-i.invariant (omega arith) c.record_at-record.ensures c.kind_of-kind.ensures c.size_of-size.ensures c.joins_next.ensures w.if-joins_next.false)
    ])
