-- `pool::count_pooled` meets its contract. The invariant: `Counting` says what is counted before the two cursors, and what is to come. The measure is the
-- number of bytes to come. Assumes nothing.
use Rattle.format.specs.Meaning.{whole}
use Rattle.pool.proofs.Taking.{to_come}
use Rattle.pool.proofs.Counting.{Counting}
use Rattle.pool.proofs.count_pooled.Given as goal

abbrev pub invariant-loop-at : goal.invariant-loop-at
invariant-loop-at l = Counting l.first l.second l.at l.last l.entries

abbrev pub decreases-loop-at : goal.decreases-loop-at
decreases-loop-at l = whole (to_come l.first l.second l.at)
