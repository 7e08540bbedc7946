-- The goals of `rebuild::fill` that are left. Its invariant is in `Invariants`. Assumes nothing.
use Prim.Native.Nat.{◌+◌, ◌≤◌}
use native.Mathlib.Omega.{arith}
use mathlib.Core.Path.{◌≡◌, refl}
use lib.ListN.{length}
use Rattle.format.specs.Meaning.{part_of}
use Rattle.format.proofs.Rebuilding.{bytes_in}
use Rattle.rebuild.proofs.Copying.{copied_out, copied_room, copied_next}
use Rattle.show.proofs.Lending.{lent_bytes}
use Rattle.rebuild.proofs.fill.Goals as goal
use Rattle.rebuild.proofs.fill.Goals.{After-part_of-part}

part_is : (c : After-part_of-part) → let g = c.args in
    c.part_of-part.result.now ≡ bytes_in g.block.now g.store.now (part_of c.loop-i.used c.record_at-record.result)
part_is c = let g = c.args in lent_bytes c.part_of-part.result g.block g.store (part_of c.loop-i.used c.record_at-record.result) c.part_of-part.ensures

room : (c : After-part_of-part) → let l = c.loop-i in l.out + length c.part_of-part.result.now ≤ length l.area
room c = copied_room c.requires c.loop-i.invariant c.record_at-record.ensures (omega arith) (part_is c)

pub put-requires : goal.put-requires
put-requires c = omega (arith, room (goal.at.put-requires c).After-part_of-part)

pub loop-i-preserved : goal.loop-i-preserved
loop-i-preserved c =
    copied_next c.requires c.loop-i.invariant c.record_at-record.ensures (omega arith) (part_is (goal.at.loop-i-preserved c).After-part_of-part) c.put.ensures refl c.stored_after-used.ensures

pub returns-clause-length_is : goal.returns-clause-length_is
returns-clause-length_is c = copied_out c.requires c.loop-i.invariant (omega arith)
