-- The table of worked examples holds of the definitions, in one theorem.
-- Assumes nothing.
use mathlib.Core.Path.{refl}
use Rattle.machine.specs.Looks.{run, pass, end_items}
use Rattle.linear.specs.Pass.{pass_outcomes, choice_of}
use Rattle.demand.specs.Worked.{TableHolds}

pub table_holds : TableHolds
unfolding run pass end_items pass_outcomes choice_of
table_holds = (refl, refl, refl, refl)
