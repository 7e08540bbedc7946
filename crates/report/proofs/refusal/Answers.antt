-- `report::refusal` meets its contract: the number, then the place. Assumes nothing.
use native.Mathlib.Omega.{arith}
use lib.ListN.{length-append}
use Rattle.report.proofs.Composing.{area_kept, wrote_append}
use Rattle.report.proofs.Numerals.{length_decimal}
use Rattle.report.proofs.refusal.Goals as goal

pub push_field-requires : goal.push_field-requires
push_field-requires c = record { behind = omega (arith, length_decimal) }

pub push_last-requires : goal.push_last-requires
push_last-requires c =
    let same = area_kept (record { behind = omega (arith, length_decimal) }) c.push_field.ensures in
    record { behind = grind (arith, length_decimal, length-append) }

pub returns : goal.returns
returns c = wrote_append (omega arith) (rw (c.from-2.ensures, c.from.ensures) at c.push_field.ensures) c.push_last.ensures
