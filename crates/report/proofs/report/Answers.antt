-- `report::report` meets its contract: the records, then the figures. Assumes nothing.
use native.Mathlib.Omega.{arith}
use Rattle.report.proofs.Composing.{area_kept, wrote_append, length_lines, length_least, length_pass}
use Rattle.report.proofs.report.Goals as goal

pub push_records-requires : goal.push_records-requires
push_records-requires c = record { behind = omega (arith, length_lines c.args.list.now) }

pub push_least-requires : goal.push_least-requires
push_least-requires c =
    let same = area_kept (record { behind = omega (arith, length_lines c.args.list.now) }) c.push_records.ensures in
    record { behind = omega (arith, length_lines c.args.list.now, length_least c.args.x) }

pub push_pass-requires : goal.push_pass-requires
push_pass-requires c =
    let lines = area_kept (record { behind = omega (arith, length_lines c.args.list.now) }) c.push_records.ensures in
    let least = area_kept (record { behind = omega (arith, length_lines c.args.list.now, length_least c.args.x) }) c.push_least.ensures in
    record { behind = omega (arith, length_lines c.args.list.now, length_least c.args.x, length_pass c.args.y) }

pub returns : goal.returns
returns c =
    let lines = area_kept (record { behind = omega (arith, length_lines c.args.list.now) }) c.push_records.ensures in
    wrote_append (omega arith) c.push_records.ensures (wrote_append (omega (arith, length_lines c.args.list.now)) c.push_least.ensures c.push_pass.ensures)
