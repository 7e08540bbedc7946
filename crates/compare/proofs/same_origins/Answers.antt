-- The goals of `same_origins` that are left: no where a list ends before the other or two pieces differ, else the same is asked of the bytes to come.
-- Assumes nothing.
use native.Mathlib.Omega.{arith}
use mathlib.Core.Path.{sym, ◌∙◌}
use Rattle.cursors.proofs.Cursors.{Turn, turn, turn_less}
use Rattle.compare.proofs.Comparing.{ready, other_of_more, same_of_end, other_of_piece, so_far_next}
use Rattle.compare.proofs.same_origins.Goals as goal
use Rattle.compare.proofs.same_origins.Goals.{After-step-one}

turned : (c : After-step-one) → let g = c.args in
    let l = c.loop-at in
    Turn g.first.now g.second.now l.at c.step-one.result c.step-one.new.self
turned c = turn (ready c.loop-at.invariant (omega (arith, c.loop-at-test.true)) (omega (arith, c.if-m-at.false))) c.step-one.ensures

pub returns-then-m-at : goal.returns-then-m-at
returns-then-m-at c = sym (other_of_more c.loop-at.invariant (omega (arith, c.loop-at-test.true)) (omega (arith, c.if-m-at.true)))

pub returns-then-not-alike : goal.returns-then-not-alike
returns-then-not-alike c = sym (other_of_piece c.loop-at.invariant (turned (goal.at.returns-then-not-alike c).After-step-one) (sym c.alike.ensures ∙ c.if-not-alike.true))

pub loop-at-smaller : goal.loop-at-smaller
loop-at-smaller c = turn_less (turned (goal.at.loop-at-smaller c).After-step-one)

pub loop-at-preserved : goal.loop-at-preserved
loop-at-preserved c = so_far_next c.loop-at.invariant (turned (goal.at.loop-at-preserved c).After-step-one) (sym c.alike.ensures ∙ c.if-not-alike.false)

pub returns : goal.returns
returns c = same_of_end c.loop-at.invariant (omega (arith, c.loop-at-test.false))
