-- `report::Text::push_records` meets its contract. The invariant: `Listed` says what is written before record i and what is to come. Assumes nothing.
use Rattle.report.proofs.Composing.{Listed}
use Rattle.report.proofs.Text.push_records.Given as goal

abbrev pub invariant-loop-i : goal.invariant-loop-i
invariant-loop-i l = Listed l.list l.initial.self l.self l.i-end l.i
