-- `report::bad_file` meets its contract. Assumes nothing.
use native.Mathlib.Omega.{arith}
use Rattle.report.proofs.Composing.{wrote_append}
use Rattle.report.proofs.bad_file.Goals as goal

pub returns : goal.returns
returns c = wrote_append (omega arith) (wrote_append (omega arith) c.push.ensures c.push-2.ensures) c.push-3.ensures
