-- The goals of `count_pooled` that are left: both cursors begin at the front and have a record at each step; the piece taken is counted. Assumes nothing.
use native.Mathlib.Omega.{arith}
use Rattle.cursors.proofs.Cursors.{fronts_are}
use Rattle.pool.proofs.Taking.{step_ready, Turned, turned, turned_less}
use Rattle.pool.proofs.Counting.{counting_start, counting_next}
use Rattle.pool.proofs.count_pooled.Goals as goal
use Rattle.pool.proofs.count_pooled.Goals.{After-preferred-piece}

taken : (c : After-preferred-piece) → let g = c.args in
    let l = c.loop-at in
    Turned g.first.now g.second.now l.at c.preferred-piece.result c.step-one.new.self
taken c = turned c.loop-at.invariant.beside (omega (arith, c.loop-at-test.true)) c.step-one.ensures c.preferred-piece.ensures

pub loop-at-init : goal.loop-at-init
loop-at-init c = rw (fronts_are c.default-at.ensures) (counting_start c.requires)

pub step-one-requires : goal.step-one-requires
step-one-requires c = step_ready c.loop-at.invariant.beside (omega (arith, c.loop-at-test.true))

pub loop-at-smaller : goal.loop-at-smaller
loop-at-smaller c = turned_less (taken (goal.at.loop-at-smaller c).After-preferred-piece)

pub loop-at-preserved : goal.loop-at-preserved
loop-at-preserved c = let e = c.entries_in-entries.ensures in counting_next c.loop-at.invariant (taken (goal.at.loop-at-preserved c).After-preferred-piece) e.0 e.1
