-- `sweep::backwards` meets its contract. The invariant: from record i on, the area holds the hints, and `kept` and `stored` are the least costs of
-- what follows the record before it, kept or stored, each at most a fixed sum for a record. Assumes nothing.
use Prim.Native.Nat.{ℕ, ◌+◌, ◌*◌, ◌≤◌}
use mathlib.Core.Path.{◌≡◌}
use mathlib.Core.List.{List, ◌++◌}
use lib.ListN.{length, take, drop}
use Rattle.price.specs.declared.Rates.{Rates}
use Rattle.choice.specs.Path.{step_most}
use Rattle.sweep.proofs.Sweeping.{Swept}
use Rattle.sweep.proofs.backwards.Given as goal

pub record Inv (rates : Rates) (list : List ℕ) (n : ℕ) (choice₀ choice : List ℕ) (i kept stored : ℕ) : Type 0 where
  pub same : length choice ≡ length choice₀
  pub kept_most : kept + step_most * i ≤ step_most * n
  pub stored_most : stored + step_most * i ≤ step_most * n
  pub done : List ℕ
  pub swept : Swept rates list n i kept stored done
  pub area : choice ≡ take i choice₀ ++ (done ++ drop n choice₀)

abbrev pub invariant-loop-i : goal.invariant-loop-i
invariant-loop-i l = Inv l.rates l.list l.n l.initial.choice l.choice l.i l.kept.0 l.stored.0
