-- The table of worked examples of pool holds of the definitions, in one theorem.
-- Assumes nothing.
use mathlib.Core.Path.{refl}
use Rattle.pool.specs.Worked.{TableHolds}

pub table_holds : TableHolds
table_holds = refl
