-- The goals of `write_block` that are left: what is put has room, and the invariant goes on after a new record and after a match. Assumes nothing.
use Prim.Native.Nat.{ℕ, ◌+◌, ◌-◌}
use native.Mathlib.Omega.{arith}
use mathlib.Core.Path.{◌≡◌, refl, ◌∙◌, ap}
use mathlib.Core.List.{List}
use lib.ListN.{take, drop}
use Rattle.format.specs.Meaning.{size_of}
use Rattle.writer.proofs.Writing.{storing_match, storing_room, storing_new}
use Rattle.writer.proofs.write_block.Goals as goal
use Rattle.writer.proofs.write_block.Goals.{in-New, in_default}

part_is : (at n s : ℕ) (v : List ℕ) → n ≡ s → take (at + n - at) (drop at v) ≡ take s (drop at v)
part_is at n s v e = let more : at + n - at ≡ s = omega (arith, e) in ap (λ (k : ℕ). take k (drop at v)) more

pub put-requires : goal.put-requires
put-requires c =
    let l = c.loop-i in
    let part = part_is l.at c.size_of.result c.in-New.field-0 c.args.version.now (c.size_of.ensures ∙ ap size_of c.in-New.is) in
    omega (arith, storing_room l.invariant c.record_at-record.ensures c.loop-i-test.true c.in-New.is part c.requires.room)

pub loop-i-preserved : goal.loop-i-preserved
loop-i-preserved c =
    let l = c.loop-i in
    let at = ap (λ (k : ℕ). l.at + k) c.size_of.ensures in
    elim c.match-record.branch [
      | in-New w ↦
          let part = part_is l.at c.size_of.result w.in-New.field-0 c.args.version.now (c.size_of.ensures ∙ ap size_of w.in-New.is) in
          rw (w.block_area-is, w.out-is, w.fresh-is) (storing_new l.invariant c.record_at-record.ensures c.loop-i-test.true w.in-New.is part c.requires.room w.put.ensures at refl)
      | in_default w ↦ rw (w.block_area-is, w.out-is, w.fresh-is) (storing_match l.invariant c.record_at-record.ensures c.loop-i-test.true w.in_default.is at)
    ]
