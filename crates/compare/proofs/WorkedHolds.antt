-- The table of worked examples of compare holds of the definition, in one theorem.
-- Assumes nothing.
use mathlib.Core.Path.{refl}
use Rattle.compare.specs.Worked.{TableHolds}

pub table_holds : TableHolds
table_holds = refl
