-- Measure's answer, check by check.
-- Assumes nothing.
use Rattle.std.specs.Prelude.{Ok, Err}
use Prim.Native.Nat.{ℕ}
use mathlib.Core.Path.{◌≡◌}
use mathlib.Core.Bool.{true, false}
use mathlib.Core.List.{List, []}
use Rattle.format.specs.declared.Fault.TheVariants as fault
use Rattle.format.specs.declared.Refusal.{Refusal}
use Rattle.format.specs.Refusal.{refuse}
use Rattle.format.specs.Record.{list_fits, records_of}
use Rattle.walk.specs.declared.Scope.TheVariants as scope
use Rattle.walk.specs.Checks.{checks, walk_ruling}
use Rattle.price.specs.declared.Price.{Price}
use Rattle.price.specs.Price.{price_fits, rates_of}
use Rattle.measure.specs.Measure.{measures, measured}

module _ (price : Price) (list : List ℕ) where
  pub measured_price : price_fits price ≡ false → measured price list ≡ Err (refuse fault.Price 0)
  measured_price h = rw h

  module _ (h : price_fits price ≡ true) where
    pub measured_length : list_fits list ≡ false → measured price list ≡ Err (refuse fault.ListLength 0)
    measured_length k = rw (h, k)

    module _ (k : list_fits list ≡ true) where
      pub measured_stop : (x : Refusal) → walk_ruling (checks scope.Sizes [] []) list ≡ Err x → measured price list ≡ Err x
      measured_stop x w = rw (h, k, w)

      pub measured_fine : walk_ruling (checks scope.Sizes [] []) list ≡ Ok tt → measured price list ≡ Ok (measures (rates_of price) (records_of list))
      measured_fine w = rw (h, k, w)
