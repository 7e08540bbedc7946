-- Each record takes the choice of the item at hand, and what it covers is taken off that item, or ends it. Assumes nothing.
use native.Mathlib.Omega.{arith}
use mathlib.Core.Path.{◌≡◌, ap, ◌∙◌}
use Rattle.format.specs.Record.{row_at, record_of}
use Rattle.format.specs.Meaning.{size_of}
use Rattle.linear.proofs.Reading.{off_start, off_room, off_within, off_beyond}
use Rattle.linear.proofs.read_off.Goals as goal
use Rattle.linear.proofs.read_off.Goals.{then-size-uncovered, else-size-uncovered}

pub loop-i-init : goal.loop-i-init
loop-i-init c = rw c.cell-uncovered.ensures (off_start c.requires)

pub bounds-choice-i : goal.bounds-choice-i
bounds-choice-i c = off_room c.requires c.loop-i.invariant (omega arith)

pub loop-i-preserved : goal.loop-i-preserved
loop-i-preserved c =
    let h = c.loop-i.invariant in
    let size : c.size_of-size.result ≡ size_of (record_of (row_at c.args.list.now c.loop-i.i)) = c.size_of-size.ensures ∙ ap size_of c.record_at.ensures in
    elim c.if-size-uncovered.branch [
      | then-size-uncovered w ↦ rw (w.at-is, w.uncovered-is) (off_within c.requires h (omega arith) size w.if-size-uncovered.true c.bit_of.ensures)
      | else-size-uncovered w ↦
          rw (w.at-is, w.uncovered-is, w.cell-uncovered-else-size-uncovered.ensures)
          (off_beyond c.requires h (omega arith) size w.if-size-uncovered.false c.bit_of.ensures)
    ]
