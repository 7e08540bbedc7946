-- `cursors::Pair::step` meets its contract. Assumes nothing.
use native.Mathlib.Omega.{arith}
use Rattle.cursors.proofs.Cursors.{within_less, end_most}
use Rattle.cursors.proofs.Pair.step.Goals as goal

pub rest_at-b-requires : goal.rest_at-b-requires
rest_at-b-requires c =
    let p = c.requires in
    (omega (arith, p.also_goes_on), omega (arith, within_less p.at_second p.also_goes_on), omega (arith, end_most p.at_second p.also_goes_on))
