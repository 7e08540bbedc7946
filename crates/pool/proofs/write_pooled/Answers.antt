-- The goals of `write_pooled` that are left: both cursors begin at the front; the piece taken has room, and is the next entry. Assumes nothing.
use native.Mathlib.Omega.{arith}
use Rattle.emit.proofs.Listing.{listing_room, listing_size}
use Rattle.cursors.proofs.Cursors.{fronts_are}
use Rattle.pool.proofs.Taking.{Turned, turned, turned_less}
use Rattle.pool.proofs.Writing.{room, writing_start, writing_next, writing_end}
use Rattle.pool.proofs.write_pooled.Goals as goal
use Rattle.pool.proofs.write_pooled.Goals.{After-preferred}

taken : (c : After-preferred) → let g = c.args in
    let l = c.loop-at in
    Turned g.first.now g.second.now l.at c.preferred.result c.step-one.new.self
taken c = turned c.loop-at.invariant.beside (omega (arith, c.loop-at-test.true)) c.step-one.ensures c.preferred.ensures

pub loop-at-init : goal.loop-at-init
loop-at-init c = let e = c.new-written.ensures in rw (fronts_are c.default-at.ensures) (writing_start c.requires e.as_lent e.empty)

pub emit-requires : goal.emit-requires
emit-requires c =
    let fits = room c.requires in
    let g = c.loop-at.invariant.listing in
    let e = (taken (goal.at.emit-requires c).After-preferred).entry in
    record { record_in_bounds = listing_room fits g e; record_bound = omega (arith, listing_size fits g e) }

pub loop-at-smaller : goal.loop-at-smaller
loop-at-smaller c = turned_less (taken (goal.at.loop-at-smaller c).After-preferred)

pub loop-at-preserved : goal.loop-at-preserved
loop-at-preserved c = writing_next c.requires c.loop-at.invariant (taken (goal.at.loop-at-preserved c).After-preferred) c.emit.ensures

pub returns : goal.returns
returns c =
    let l = c.loop-at in
    let end = writing_end c.requires l.invariant (omega (arith, c.loop-at-test.false)) c.flush.ensures in
    grind (arith, end, l.invariant.listing.same_area, c.new-written.ensures.same_area)
