-- The table of worked examples of commit holds of the definition, in one theorem.
-- Assumes nothing.
use mathlib.Core.Path.{refl}
use Rattle.commit.specs.Worked.{TableHolds}

pub table_holds : TableHolds
table_holds = refl
