-- `compare::same_origins` meets its contract. The invariant, `SoFar`: the origins of the bytes to come decide the answer. The measure is the number of
-- bytes to come. Assumes nothing.
use Rattle.format.specs.Meaning.{whole}
use Rattle.cursors.specs.Cursor.{remaining}
use Rattle.compare.proofs.Comparing.{SoFar}
use Rattle.compare.proofs.same_origins.Given as goal

abbrev pub invariant-loop-at : goal.invariant-loop-at
invariant-loop-at l = SoFar l.first l.second l.at

abbrev pub decreases-loop-at : goal.decreases-loop-at
decreases-loop-at l = whole (remaining l.first l.at.first)
