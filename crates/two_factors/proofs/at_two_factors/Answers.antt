-- What the greater factor does follows from the two calls' contracts. Assumes nothing.
use Rattle.price.specs.Price.{price_at}
use Rattle.area.specs.Area.{areas}
use Rattle.call_partition.proofs.Meeting.{partitioned}
use Rattle.demand.proofs.FactorHolds.{dearer_index}
use Rattle.two_factors.proofs.at_two_factors.Goals as goal

pub returns-clause-dearer_index : goal.returns-clause-dearer_index
returns-clause-dearer_index c =
    let a = c.args in
    let e1 = c.partition-first.ensures in
    let e2 = c.partition-second.ensures in
    let first = partitioned (price_at a.en a.em a.f) a.list.now a.version.now a.store.now (areas a.choice1.now a.list1.now a.block1.now) (e1.answered, e1.areas_after) in
    let second = partitioned (price_at a.en a.em a.g) a.list.now a.version.now a.store.now (areas a.choice2.now a.list2.now a.block2.now) (e2.answered, e2.areas_after) in
    dearer_index a.en a.em a.f a.g a.list.now a.version.now a.store.now _ _ first second
