-- The goals of `walk::walk` that are left. Its invariant is in `Invariants`. Assumes nothing.
use Rattle.std.specs.Prelude.{Ok}
use Prim.Native.Nat.{◌/◌}
use native.Mathlib.Omega.{arith}
use mathlib.Core.Path.{◌≡◌, refl, sym, ◌∙◌, ap}
use lib.ListN.{length}
use Rattle.format.specs.Record.{row_at}
use Rattle.walk.specs.Checks.{checks, judged, next}
use Rattle.walk.proofs.Judged.{sizes_of_fine}
use Rattle.walk.proofs.Walking.{so_far_next, so_far_stop, so_far_end}
use Rattle.std.proofs.lemmas.Result.{err_from_is_err_and}
use Rattle.walk.proofs.walk.Goals as goal

pub returns-in_err-judge : goal.returns-in_err-judge
returns-in_err-judge c =
    let g = c.args in
    let l = c.loop-i in
    let p = err_from_is_err_and c.from_residual.result c.from_residual.ensures.1 in
    let stopped = rw c.row_at-row.ensures at (sym c.judge.ensures) ∙ c.in_err-judge.was in
    rw (p.1, p.2, so_far_stop (checks g.scope g.version.now g.store.now) g.list.now (length g.list.now / 12) l.i l.seen l.invariant.so_far c.in_err-judge.field-0.0 c.loop-i-test.true stopped)

pub loop-i-preserved : goal.loop-i-preserved
loop-i-preserved c =
    let g = c.args in
    let l = c.loop-i in
    let n = length g.list.now / 12 in
    let fine : judged (checks g.scope g.version.now g.store.now) l.seen (row_at g.list.now l.i) ≡ Ok tt =
    rw c.row_at-row.ensures at (sym c.judge.ensures) ∙ c.in_ok-judge.was in
    let fits = sizes_of_fine l.seen (row_at g.list.now l.i) g.version.now g.store.now g.scope fine in
    let far = so_far_next (checks g.scope g.version.now g.store.now) g.list.now n l.i l.seen l.invariant.so_far c.loop-i-test.true fine in
    let e : c.step-seen.result ≡ next l.seen (row_at g.list.now l.i) = c.step-seen.ensures ∙ ap (next l.seen) c.row_at-row.ensures in
    record { offset_most = rw (e, c.limit-limit.ensures) fits; so_far = rw e far }

pub returns : goal.returns
returns c =
    let g = c.args in
    let l = c.loop-i in
    let end = so_far_end (checks g.scope g.version.now g.store.now) g.list.now (length g.list.now / 12) l.i l.seen l.invariant.so_far refl (omega arith) in
    rw end.0 (ap Ok end.1)
