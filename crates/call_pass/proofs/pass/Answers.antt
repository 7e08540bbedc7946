-- `call_pass::pass` meets its contract: refused as the checks say, or the choice that the machine leaves and what is written of it. Assumes nothing.
use native.Mathlib.Omega.{arith}
use mathlib.Core.Path.{sym, ◌∙◌}
use lib.ListN.{length}
use Rattle.format.specs.Record.{records_of}
use Rattle.price.specs.Price.{rates_of}
use Rattle.admit.proofs.Admitting.{Admitted, admitted_of_through}
use Rattle.writer.proofs.Deciding.{finishable, decided}
use Rattle.linear.proofs.Theorems.{pass_holds}
use Rattle.std.proofs.Common.{rules}
use Rattle.call_pass.proofs.pass.Goals as goal
use Rattle.call_pass.proofs.pass.Goals.{In-Ok}

-- all checks have passed
passed : (c : In-Ok) → let g = c.args in
    Admitted g.price g.list.now g.version.now g.store.now (length g.choice.now) (length g.list_area.now) (length g.block_area.now)
passed c = admitted_of_through _ _ _ _ _ _ _ c.in-Ok._totals (sym c.admit-w.ensures ∙ c.in-Ok.is)

pub pass_choice-looks-requires : goal.pass_choice-looks-requires
pass_choice-looks-requires c =
    let s = (passed (goal.at.pass_choice-looks-requires c).In-Ok).sound in
    record {
      rates_fit = rw c.rates_of-rates.ensures s.fits.rates_fit;
      list_at_most = s.fits.counted.list_at_most;
      room = omega (arith, s.in_choice, s.fits.counted.whole_records);
      sized = s.covered.is_well_formed.sized;
      whole_most = omega (arith, s.covered.whole_is, s.fits.version_at_most);
    }

pub finish-requires : goal.finish-requires
finish-requires c = finishable (passed (goal.at.finish-requires c).In-Ok).sound c.rates_of-rates.ensures (search rules)

pub returns : goal.returns
returns c =
    let g = c.args in
    let x = passed (goal.at.returns c).In-Ok in
    let holds = pass_holds (rates_of g.price) (records_of g.list.now) x.sound.covered.is_well_formed.sized in
    let rates = c.rates_of-rates.ensures in
    let chosen = rw rates at c.pass_choice-looks.ensures in
    let made = rw (rates, chosen.looks_are) at c.finish.ensures in
    let d = decided x.fine holds.choice chosen.area made in
    record { answered = d.answered; areas_after = d.areas_after; few_looks = rw made.answered holds.few }
