-- The goals of `volume::fill_volume` that are left. Its invariant is in `Invariants`. Assumes nothing.
use native.Mathlib.Omega.{arith}
use Rattle.volume.proofs.Building.{built_start, built_ready, built_next}
use Rattle.volume.proofs.fill_volume.Goals as goal

pub loop-i-init : goal.loop-i-init
loop-i-init c = built_start c.requires

pub fill_chunk-at-requires : goal.fill_chunk-at-requires
fill_chunk-at-requires c = built_ready c.requires c.loop-i.invariant c.index_row_at-row.ensures (omega arith) (omega arith) (omega arith)

pub loop-i-preserved : goal.loop-i-preserved
loop-i-preserved c = built_next c.requires c.loop-i.invariant c.index_row_at-row.ensures (omega arith) (omega arith) (omega arith) c.fill_chunk-at.ensures (omega arith) (omega arith)
