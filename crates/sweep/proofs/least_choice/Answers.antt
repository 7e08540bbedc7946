-- `sweep::least_choice` meets its contract: what the two sweeps leave is the least choice. Assumes nothing.
use Rattle.sweep.proofs.Sweeping.{least_in}
use Rattle.sweep.proofs.least_choice.Goals as goal

pub returns : goal.returns
returns c =
    let g = c.args in
    least_in g.rates g.list.now g.choice.now _ _ c.backwards-cost.result.0 c.backwards-cost.ensures c.settle.ensures
