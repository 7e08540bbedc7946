-- The goals of `rebuild_volume::accept_chunks` that are left. Its invariant is in `Invariants`. Assumes nothing.
use Prim.Native.Nat.{ℕ, ◌+◌, ◌-◌}
use native.Mathlib.Omega.{arith}
use mathlib.Core.Path.{◌≡◌, sym, ◌∙◌, ap}
use lib.ListN.{take, drop}
use Rattle.format.specs.Record.{records_of}
use Rattle.walk.specs.declared.Totals.{Totals}
use Rattle.walk.proofs.Telling.{fine_of_through, stop_of_stopped}
use Rattle.volume.specs.Volume.{Chunk, chunk}
use Rattle.volume.proofs.Cutting.{cut_lists, cut_blocks}
use Rattle.rebuild_volume.specs.RebuildVolume.{chunk_ruling}
use Rattle.rebuild_volume.proofs.Passing.{passed_stop, passed_most, passed_next}
use Rattle.rebuild_volume.proofs.accept_chunks.Goals as goal
use Rattle.rebuild_volume.proofs.accept_chunks.Goals.{After-read-w}

-- the chunk that is read
abbrev here : After-read-w → Chunk
here c =
    let l = c.loop-i in
    let r = c.index_row_at-row.result in
    chunk (take (l.l + r.list - l.l) (drop l.l c.args.lists.now)) (take (l.b + r.block - l.b) (drop l.b c.args.blocks.now))

pub slice_bounds-read-end : goal.slice_bounds-read-end
slice_bounds-read-end c = omega (arith, cut_lists c.loop-i.invariant.cut c.index_row_at-row.ensures (omega arith))

pub slice_bounds-read-end-in-loop-i : goal.slice_bounds-read-end-in-loop-i
slice_bounds-read-end-in-loop-i c = omega (arith, cut_blocks c.loop-i.invariant.cut c.index_row_at-row.ensures (omega arith))

long : (a b : ℕ) → a + b - a ≡ b
long a b = omega arith

pub returns-in_default : goal.returns-in_default
returns-in_default c =
    let p = (goal.at.returns-in_default c).After-read-w in
    let l = c.loop-i in
    let r = c.index_row_at-row in
    let stop = stop_of_stopped (chunk_ruling l.at (here p)) (records_of (here p).list) c.unwrap_err-refusal.result (sym c.read-w.ensures ∙ c.unwrap_err-refusal.ensures) in
    rw (passed_stop l.invariant r.ensures c.loop-i-test.true (long l.l r.result.list) (long l.b r.result.block) stop)

pub overflow_add-at : goal.overflow_add-at
overflow_add-at c =
    let p = (goal.at.overflow_add-at c).After-read-w in
    let l = c.loop-i in
    let r = c.index_row_at-row in
    let through = fine_of_through (chunk_ruling l.at (here p)) (records_of (here p).list) c.in-Ok.t (sym c.read-w.ensures ∙ c.in-Ok.is) in
    let most = passed_most l.invariant r.ensures c.loop-i-test.true (long l.l r.result.list) (long l.b r.result.block) through.0 in
    omega (arith, most, ap (λ (t : Totals). t.whole) through.1)

pub loop-i-preserved : goal.loop-i-preserved
loop-i-preserved c =
    let p = (goal.at.loop-i-preserved c).After-read-w in
    let l = c.loop-i in
    let r = c.index_row_at-row in
    let through = fine_of_through (chunk_ruling l.at (here p)) (records_of (here p).list) c.in-Ok.t (sym c.read-w.ensures ∙ c.in-Ok.is) in
    passed_next l.invariant r.ensures c.loop-i-test.true (long l.l r.result.list) (long l.b r.result.block) through.0 (omega arith) (omega arith) (ap (λ (t : Totals). l.at + t.whole) through.1)
