-- The table of worked examples of estimate holds of the definition, in one theorem.
-- Assumes nothing.
use mathlib.Core.Path.{refl}
use Rattle.estimate.specs.Worked.{TableHolds}

pub table_holds : TableHolds
table_holds = refl
