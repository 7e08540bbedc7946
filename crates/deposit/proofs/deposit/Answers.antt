-- `deposit::deposit` meets its contract: as many bytes as the first call says are handed on of what it wrote; each call's contract is the call's own, and
-- that the version comes back follows from them. Assumes nothing.
use native.Mathlib.Omega.{arith}
use mathlib.Core.Path.{refl}
use Rattle.area.specs.Area.{areas}
use Rattle.call_partition.proofs.Meeting.{partitioned}
use Rattle.rebuild_volume.specs.RebuildVolume.{VolumeRebuilt}
use Rattle.rebuild_volume.proofs.Accepting.{volume_made}
use Rattle.demand.proofs.VolumesHolds.{volume_there, deposited_next}
use Rattle.demand.specs.Volumes.{kept}
use Rattle.deposit.proofs.deposit.Goals as goal
use Rattle.deposit.proofs.deposit.Goals.{After-rebuild_volume-rebuilt}

-- the first call
made : (c : After-rebuild_volume-rebuilt) → let g = c.args in
    VolumeRebuilt g.index.now g.lists.now g.blocks.now g.area.now c.rebuild_volume-rebuilt.result c.rebuild_volume-rebuilt.new.area
made c =
    let g = c.args in
    let e = c.rebuild_volume-rebuilt.ensures in
    volume_made {index = g.index.now} {lists = g.lists.now} {blocks = g.blocks.now} {area = g.area.now} (e.answered, e.area_after)

pub slice_bounds-partition-end : goal.slice_bounds-partition-end
slice_bounds-partition-end c =
    let g = c.args in
    omega (arith, volume_there {k = kept g.index.now g.lists.now g.blocks.now} (made (goal.at.slice_bounds-partition-end c).After-rebuild_volume-rebuilt) c.in-Ok.is)

pub returns : goal.returns
returns c =
    let g = c.args in
    let e = c.partition-deposited.ensures in
    let next = partitioned g.price g.list.now g.version.now _ (areas g.choice.now g.list_area.now g.block_area.now) (e.answered, e.areas_after) in
    record { deposits = deposited_next {k = kept g.index.now g.lists.now g.blocks.now} (made (goal.at.returns c).After-rebuild_volume-rebuilt) c.in-Ok.is refl next }
