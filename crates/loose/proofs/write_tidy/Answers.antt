-- The goals of `write_tidy` that are left: each record has room, the invariant goes on with one more, and what stands at the end. Assumes nothing.
use Prim.Native.Nat.{◌+◌, ◌/◌}
use native.Mathlib.Omega.{arith}
use lib.ListN.{length}
use Rattle.format.specs.Record.{records_from}
use Rattle.format.proofs.Rows.{records_from_next, records_from_none}
use Rattle.emit.specs.Emit.{Entry}
use Rattle.emit.proofs.Listing.{entry_one, listing_room, listing_size, listing_next, listing_last, listing_end}
use Rattle.loose.proofs.Accepting.{form_room}
use Rattle.loose.proofs.write_tidy.Goals as goal
use Rattle.loose.proofs.write_tidy.Goals.{After-record_at}

stands : (c : After-record_at) → let list = c.args.list.now in
    Entry (records_from list (length list / 12) c.loop-i.i) c.record_at.result (records_from list (length list / 12) (c.loop-i.i + 1))
stands c =
    let list = c.args.list.now in
    let i = c.loop-i.i in
    rw (records_from_next list (length list / 12) i (omega arith), c.record_at.ensures) (entry_one _ (records_from list (length list / 12) (i + 1)))

pub emit-requires : goal.emit-requires
emit-requires c =
    let room = form_room c.requires in
    let g = c.loop-i.invariant in
    let e = stands (goal.at.emit-requires c).After-record_at in
    record { record_in_bounds = listing_room room g e; record_bound = omega (arith, listing_size room g e) }

pub loop-i-preserved : goal.loop-i-preserved
loop-i-preserved c = listing_next (form_room c.requires) c.loop-i.invariant (stands (goal.at.loop-i-preserved c).After-record_at) c.emit.ensures

pub flush-requires : goal.flush-requires
flush-requires c =
    let list = c.args.list.now in
    let l = c.loop-i in
    listing_last (form_room c.requires) l.invariant (records_from_none list (length list / 12) l.i (omega arith))

pub returns : goal.returns
returns c =
    let list = c.args.list.now in
    let l = c.loop-i in
    let end = listing_end (form_room c.requires) l.invariant (records_from_none list (length list / 12) l.i (omega arith)) c.flush.ensures in
    record { area_after = grind (arith, end, l.invariant.same_area, c.new-written.ensures.same_area); length_is = end.1 }
