-- `report::Text::push_records` meets its contract: one more record is written after each turn. Assumes nothing.
use native.Mathlib.Omega.{arith}
use Rattle.report.proofs.Composing.{room_next, listed_next, listed_end}
use Rattle.report.proofs.Text.push_records.Goals as goal

pub push_record-requires : goal.push_record-requires
push_record-requires c = rw c.record_at.ensures (room_next c.loop-i.invariant c.requires c.loop-i-test.true)

pub loop-i-preserved : goal.loop-i-preserved
loop-i-preserved c = listed_next c.loop-i.invariant (omega (arith, c.requires.behind)) c.loop-i-test.true (rw c.record_at.ensures at c.push_record.ensures)

pub returns : goal.returns
returns c = listed_end c.loop-i.invariant c.loop-i-test.false
