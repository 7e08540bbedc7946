-- The goals of `write_list` that are left: the invariant goes on with one entry more, and what stands at the end. Assumes nothing.
use Prim.Native.Nat.{◌/◌}
use native.Mathlib.Omega.{arith}
use lib.ListN.{length}
use Rattle.emit.proofs.Listing.{listing_next, listing_end}
use Rattle.writer.proofs.Writing.{chosen_from_none}
use Rattle.writer.proofs.write_list.Goals as goal

pub loop-i-preserved : goal.loop-i-preserved
loop-i-preserved c =
    let r = c.run_at-r.ensures in
    (r.within, listing_next c.requires.room c.loop-i.invariant.1 r.stands c.emit.ensures)

pub returns : goal.returns
returns c =
    let g = c.args in
    let l = c.loop-i in
    let none = chosen_from_none g.list.now g.choice.now (length g.list.now / 12) l.i (omega arith) in
    let end = listing_end c.requires.room l.invariant.1 none c.flush.ensures in
    record { area_after = grind (arith, end, l.invariant.1.same_area, c.new-written.ensures.same_area); length_is = end.1 }
