-- `tidy_twice::tidy_twice` meets its contract: as many records as the first call says are handed on of what it wrote; each call's contract is the call's own, and
-- that both give the same follows from them. Assumes nothing.
use native.Mathlib.Omega.{arith}
use mathlib.Core.Path.{refl, sym}
use lib.Seq.{length-take-le}
use Rattle.loose.specs.Loose.{Tidied}
use Rattle.loose.proofs.Accepting.{tidy_made}
use Rattle.demand.proofs.TidyingHolds.{list_there, tidied_again}
use Rattle.tidy_twice.proofs.tidy_twice.Goals as goal
use Rattle.tidy_twice.proofs.tidy_twice.Goals.{After-tidy-once}

-- the first call
made : (c : After-tidy-once) → let g = c.args in Tidied g.list.now g.store.now g.first.now c.tidy-once.result c.tidy-once.new.list_area
made c = let e = c.tidy-once.ensures in tidy_made (e.answered, e.list_after)

pub slice_bounds-tidy-end : goal.slice_bounds-tidy-end
slice_bounds-tidy-end c = omega (arith, list_there (made (goal.at.slice_bounds-tidy-end c).After-tidy-once) c.in-Ok.is)

pub slice_bounds-tidy-end-2 : goal.slice_bounds-tidy-end-2
slice_bounds-tidy-end-2 c =
    let there = list_there (made (goal.at.slice_bounds-tidy-end-2 c).After-tidy-once) c.in-Ok.is in
    sym (length-take-le _ c.tidy-once.new.list_area (omega (arith, there)))

pub returns : goal.returns
returns c =
    let e = c.tidy-again.ensures in
    record { two_calls = tidied_again (made (goal.at.returns c).After-tidy-once) c.in-Ok.is refl (tidy_made (e.answered, e.list_after)) }
