-- `pool::write_pooled` meets its contract. The invariant: `Writing` says what stands in the area before the two cursors, and what is to come. The measure
-- is the number of bytes to come. Assumes nothing.
use Rattle.format.specs.Meaning.{whole}
use Rattle.pool.proofs.Taking.{to_come}
use Rattle.pool.proofs.Writing.{Writing}
use Rattle.pool.proofs.write_pooled.Given as goal

abbrev pub invariant-loop-at : goal.invariant-loop-at
invariant-loop-at l = Writing l.first l.second l.fn.area l.at l.initial.written l.written

abbrev pub decreases-loop-at : goal.decreases-loop-at
decreases-loop-at l = whole (to_come l.first l.second l.at)
