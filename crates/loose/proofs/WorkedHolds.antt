-- The table of worked examples of check_loose and tidy holds of the definitions, in one theorem.
-- Assumes nothing.
use mathlib.Core.Path.{refl}
use Rattle.loose.specs.Worked.{TableHolds}

pub table_holds : TableHolds
table_holds = refl
