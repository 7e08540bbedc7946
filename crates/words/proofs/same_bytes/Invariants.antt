-- `words::same_bytes` meets its contract. Invariant: `all` tells of the bytes so far, or of all. Assumes nothing.
use Prim.Native.Nat.{min}
use lib.ListN.{length}
use Rattle.words.proofs.Stretches.{TellsFirst}
use Rattle.words.proofs.same_bytes.Given as goal

abbrev pub invariant-loop-k : goal.invariant-loop-k
invariant-loop-k l = TellsFirst l.all (min l.k (length l.a)) l.a l.b
