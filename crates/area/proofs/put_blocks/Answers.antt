-- The goals of `area::put_blocks` that are left. Its invariant is in `Invariants`. Assumes nothing.
use Prim.Native.Nat.{◌+◌, ◌*◌, ◌-◌, ◌/◌, ◌≤◌}
use native.Mathlib.Omega.{arith}
use mathlib.Core.Path.{◌≡◌}
use lib.ListN.{length}
use Rattle.std.proofs.lemmas.Grind.{common_steps}
use Rattle.std.proofs.lemmas.Nat.{rows}
use Rattle.area.proofs.Pasting.{pasted_next, pasted_last}
use Rattle.area.proofs.put_blocks.Goals as goal

pub loop-k-preserved : goal.loop-k-preserved
loop-k-preserved g c =
    let a = c.args in
    let l = c.loop-k in
    let n = g.row.N in
    let e : n * (l.k + 1) ≡ n * l.k + n = grind arith in
    let room : n * l.k + n ≤ length a.src.now = grind (arith, common_steps, rows) in
    pasted_next a.at (n * l.k) a.src.now a.area.now l.area (omega arith) (omega arith) l.invariant n (n * (l.k + 1)) _ e (omega arith) (rw (← c.block_at.ensures) c.put_plain.ensures)

pub returns : goal.returns
returns g c =
    let a = c.args in
    let l = c.loop-k in
    let n = g.row.N in
    let whole : l.k ≡ length a.src.now / n = omega arith in
    let some : n * l.k ≤ length a.src.now = rw whole (omega arith) in
    let rest : length a.src.now - n ≤ n * l.k = rw whole (omega arith) in
    pasted_last a.at (n * l.k) a.src.now a.area.now l.area (omega arith) some l.invariant n (length a.src.now - n) _ rest (omega arith) (rw (← c.block_at-block.ensures) c.put_plain-2.ensures)
