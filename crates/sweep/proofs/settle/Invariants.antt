-- `sweep::settle` meets its contract. The invariant: the first i bytes are settled, and the rest settles to what is to come. Assumes nothing.
use Prim.Native.Nat.{ℕ, ◌-◌}
use mathlib.Core.Path.{◌≡◌}
use mathlib.Core.List.{List, ◌++◌}
use lib.ListN.{length, take, drop}
use Rattle.sweep.specs.Sweep.{forwards}
use Rattle.sweep.proofs.settle.Given as goal

pub record Inv (n : ℕ) (choice₀ choice : List ℕ) (i b : ℕ) : Type 0 where
  pub same : length choice ≡ length choice₀
  pub area : forwards n 0 choice₀ ≡ take i choice ++ forwards (n - i) b (drop i choice)

abbrev pub invariant-loop-i : goal.invariant-loop-i
invariant-loop-i l = Inv l.n l.initial.choice l.choice l.i l.b
