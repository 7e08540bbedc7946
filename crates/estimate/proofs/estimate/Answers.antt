-- `estimate::estimate` meets its contract: refused as the checks say, or the least choice and the figures of its list. Assumes nothing.
use native.Mathlib.Omega.{arith}
use mathlib.Core.Path.{sym, ◌∙◌}
use lib.ListN.{length}
use Rattle.admit.proofs.Admitting.{Admitted, admitted_of_through}
use Rattle.estimate.proofs.Estimating.{estimated}
use Rattle.estimate.proofs.estimate.Goals as goal
use Rattle.estimate.proofs.estimate.Goals.{In-Ok}

-- all checks have passed
passed : (c : In-Ok) → let g = c.args in
    Admitted g.price g.list.now g.version.now g.store.now (length g.choice.now) (length g.list.now) (length g.version.now)
passed c = admitted_of_through _ _ _ _ _ _ _ c.in-Ok._totals (sym c.admit-w.ensures ∙ c.in-Ok.is)

pub least_choice-cost-requires : goal.least_choice-cost-requires
least_choice-cost-requires c =
    let s = (passed (goal.at.least_choice-cost-requires c).In-Ok).sound in
    record { rates_fit = rw c.rates_of.ensures s.fits.rates_fit; n_most = omega (arith, s.fits.counted.list_at_most); in_list = omega arith; in_choice = s.in_choice }

pub returns : goal.returns
returns c =
    let g = c.args in
    let least = rw c.rates_of.ensures at c.least_choice-cost.ensures in
    let made = estimated g.price g.list.now g.version.now g.store.now g.choice.now (passed (goal.at.returns c).In-Ok).fine least c.count-counts.ensures in
    record { answered = rw (c.default.ensures.1.1.1.0, c.default.ensures.1.1.1.1) made.answered; choice_after = made.area_after }
