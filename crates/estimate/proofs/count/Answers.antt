-- The goals of `count` that are left: the sums fit, as what the next turn of the loop has counted is within what the list may have. Assumes nothing.
use Rattle.std.specs.Prelude.{Some}
use Prim.Native.Nat.{◌+◌, ◌/◌}
use native.Mathlib.Omega.{arith}
use mathlib.Core.Path.{◌≡◌, ◌∙◌, ap}
use lib.ListN.{length}
use Rattle.format.specs.Record.{row_at, record_of}
use Rattle.choice.specs.Choice.{bit_at, chosen_record}
use Rattle.estimate.proofs.Counting.{Counting, counting_start, counting_next, entries_most, stored_within}
use Rattle.estimate.proofs.count.Goals as goal
use Rattle.estimate.proofs.count.Goals.{After-stored_in-stored}

pub loop-i-init : goal.loop-i-init
loop-i-init c = let g = c.args in counting_start g.list.now g.choice.now

pub overflow_add-entries : goal.overflow_add-entries
overflow_add-entries c = omega (arith, entries_most c.args.list.now c.args.choice.now c.requires c.loop-i.invariant, c.entries_in-entries.ensures.1)

next : (c : After-stored_in-stored) → let g = c.args in let l = c.loop-i in
    Counting g.list.now g.choice.now (length g.list.now / 12) (l.i + 1) (Some c.chosen-record.result) (l.entries + c.entries_in-entries.result) (l.stored + c.stored_in-stored.result)
next c =
    let g = c.args in
    let l = c.loop-i in
    let is : c.chosen-record.result ≡ chosen_record (bit_at g.choice.now l.i) (record_of (row_at g.list.now l.i)) = c.chosen-record.ensures ∙ ap (chosen_record (bit_at g.choice.now l.i)) c.record_at.ensures in
    counting_next g.list.now g.choice.now _ l.i l.last l.entries l.stored l.invariant _ is (omega arith) _ _ c.entries_in-entries.ensures.0 c.stored_in-stored.ensures

pub overflow_add-stored : goal.overflow_add-stored
overflow_add-stored c = omega (arith, stored_within c.args.list.now c.args.choice.now c.requires (next (goal.at.overflow_add-stored c).After-stored_in-stored))

pub loop-i-preserved : goal.loop-i-preserved
loop-i-preserved c = next (goal.at.loop-i-preserved c).After-stored_in-stored
