-- `walk::walk` meets its contract. The invariant: before row i, `SoFar` says what the walk still has to rule on and what the totals are, and
-- the sizes have stayed within the limit. Assumes nothing.
use Prim.Native.Nat.{ℕ, ◌/◌, ◌≤◌}
use mathlib.Core.List.{List}
use lib.ListN.{length}
use Rattle.walk.specs.declared.Scope.{Scope}
use Rattle.walk.specs.declared.Seen.{Seen}
use Rattle.walk.specs.Checks.{checks}
use Rattle.walk.proofs.Walking.{SoFar}
use Rattle.walk.proofs.walk.Given as goal

pub record Inv (list version store : List ℕ) (scope : Scope) (limit : ℕ) (seen : Seen) (i : ℕ) : Type 0 where
  pub offset_most : seen.offset ≤ limit
  pub so_far : SoFar (checks scope version store) list (length list / 12) i seen

abbrev pub invariant-loop-i : goal.invariant-loop-i
invariant-loop-i l = Inv l.list l.version l.store l.fn.scope l.limit l.seen l.i
