-- `words::same_ends` meets its contract: what its two runs tell. Assumes nothing.
use Prim.Native.Nat.{◌*◌, ◌-◌}
use native.Mathlib.Omega.{arith}
use lib.ListN.{length}
use Rattle.words.proofs.Stretches.{ends_tell}
use Rattle.words.proofs.same_ends.Goals as goal

pub returns : goal.returns
returns g c = let a = c.args in ends_tell a.a.now a.b.now (8 * g.row.N) (length a.a.now - 8 * g.row.N) (8 * g.row.N) c.same_run.result c.same_run-2.result (omega arith) (omega arith) (omega arith) c.same_run.ensures c.same_run-2.ensures
