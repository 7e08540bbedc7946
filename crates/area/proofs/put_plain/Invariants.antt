-- `area::put_plain` meets its contract. The invariant: the first i bytes of src stand in the area. Assumes nothing.
use mathlib.Core.Path.{◌≡◌}
use lib.ListN.{take}
use Rattle.area.specs.Area.{pasted}
use Rattle.area.proofs.put_plain.Given as goal

abbrev pub invariant-loop-i : goal.invariant-loop-i
invariant-loop-i l = l.area ≡ pasted l.at (take l.i l.src) l.initial.area
