-- Where list, block and store are accepted, and the area is long enough, so is the call.
-- Assumes nothing.
use Rattle.std.specs.Prelude.{Ok}
use Prim.Native.Nat.{ℕ, ◌≤◌}
use mathlib.Core.Path.{◌≡◌}
use mathlib.Core.List.{List}
use lib.Dec.{leb}
use lib.ListN.{length}
use borrow.Author.Tests.{le-leb}
use Rattle.format.specs.declared.Fault.TheVariants.{AreaTooShort}
use Rattle.format.specs.Refusal.{need}
use Rattle.format.specs.Record.{records_of}
use Rattle.format.specs.Meaning.{whole}
use Rattle.format.proofs.Rulings.{then_of_fine}
use Rattle.show.specs.Check.{inputs_ruling}
use Rattle.rebuild.specs.Rebuild.{rebuild_ruling}

pub rebuild_fine : (list block st area : List ℕ) → inputs_ruling list block st ≡ Ok tt → whole (records_of list) ≤ length area → rebuild_ruling list block st area ≡ Ok tt
rebuild_fine list block st area e h =
    then_of_fine (inputs_ruling list block st) (need (leb (whole (records_of list)) (length area)) AreaTooShort 0) e (rw (le-leb (whole (records_of list)) (length area) h))
