-- `words::same_run` meets its contract. Invariant: `all` tells of the words so far. Assumes nothing.
use Prim.Native.Nat.{◌*◌}
use Rattle.words.proofs.Stretches.{TellsFrom}
use Rattle.words.proofs.same_run.Given as goal

abbrev pub invariant-loop-k : goal.invariant-loop-k
invariant-loop-k g l = TellsFrom l.all l.i (8 * l.k) l.a l.b
