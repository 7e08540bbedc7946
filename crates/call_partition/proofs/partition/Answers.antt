-- `call_partition::partition` meets its contract: refused as the checks say, or the least choice and what is written of it. Assumes nothing.
use native.Mathlib.Omega.{arith}
use mathlib.Core.Path.{sym, ◌∙◌}
use lib.ListN.{length}
use Rattle.format.specs.Record.{records_of}
use Rattle.price.specs.Price.{rates_of}
use Rattle.choice.proofs.Least.{least_fits}
use Rattle.admit.proofs.Admitting.{Admitted, admitted_of_through}
use Rattle.writer.proofs.Deciding.{finishable, decided}
use Rattle.std.proofs.Common.{rules}
use Rattle.call_partition.proofs.partition.Goals as goal
use Rattle.call_partition.proofs.partition.Goals.{In-Ok}

-- all checks have passed
passed : (c : In-Ok) → let g = c.args in
    Admitted g.price g.list.now g.version.now g.store.now (length g.choice.now) (length g.list_area.now) (length g.block_area.now)
passed c = admitted_of_through _ _ _ _ _ _ _ c.in-Ok._totals (sym c.admit-w.ensures ∙ c.in-Ok.is)

pub least_choice-requires : goal.least_choice-requires
least_choice-requires c =
    let s = (passed (goal.at.least_choice-requires c).In-Ok).sound in
    record { rates_fit = rw c.rates_of-rates.ensures s.fits.rates_fit; n_most = omega (arith, s.fits.counted.list_at_most); in_list = omega arith; in_choice = s.in_choice }

pub finish-requires : goal.finish-requires
finish-requires c = finishable (passed (goal.at.finish-requires c).In-Ok).sound c.rates_of-rates.ensures (search rules)

pub returns : goal.returns
returns c =
    let g = c.args in
    let rates = c.rates_of-rates.ensures in
    let chosen = rw rates at c.least_choice.ensures in
    let d = decided (passed (goal.at.returns c).In-Ok).fine (least_fits (rates_of g.price) (records_of g.list.now)) chosen.area (rw rates at c.finish.ensures) in
    record { answered = d.answered; areas_after = d.areas_after }
