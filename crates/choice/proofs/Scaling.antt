-- The least choice at rates that are all multiplied by one number above 0 is the same.
-- Assumes nothing.
use Prim.Native.Nat.{ℕ, ◌<◌}
use mathlib.Core.Path.{◌≡◌, refl, ◌∙◌, ap, ap₂}
use mathlib.Core.Bool.{Bool}
use mathlib.Core.List.{List, [], ◌∷◌}
use lib.Dec.{leb}
use Rattle.format.specs.declared.Record.{Record}
use Rattle.price.specs.declared.Rates.{Rates}
use Rattle.price.specs.Price.{scaled}
use Rattle.price.proofs.Scaling.{leb_scaled, cost_scaled}
use Rattle.choice.specs.Choice.{Bit, choices, list_of, cost_of, lower, low, first_min, first_of, least}

-- two costs that compare any two choices alike have the same first least choice
module _ (f g : List Bit → ℕ) (alike : (c d : List Bit) → leb (f c) (f d) ≡ leb (g c) (g d)) where
  min_alike : (c : List Bit) (cs : List (List Bit)) → first_min f c cs ≡ first_min g c cs
  min_alike c [] = refl
  min_alike c (d ∷ cs) = ap (low f c) (min_alike d cs) ∙ ap (λ (t : Bool). lower t c (first_min g d cs)) (alike c (first_min g d cs))

  first_alike : (cs : List (List Bit)) → first_of f cs ≡ first_of g cs
  first_alike [] = refl
  first_alike (c ∷ cs) = min_alike c cs

pub least_scaled : (k : ℕ) → 0 < k → (r : Rates) (rs : List Record) → least (scaled k r) rs ≡ least r rs
least_scaled k above r rs = first_alike (cost_of (scaled k r) rs) (cost_of r rs) alike (choices rs)
  where
    alike : (c d : List Bit) → leb (cost_of (scaled k r) rs c) (cost_of (scaled k r) rs d) ≡ leb (cost_of r rs c) (cost_of r rs d)
    alike c d = ap₂ leb (cost_scaled k r (list_of rs c)) (cost_scaled k r (list_of rs d)) ∙ leb_scaled k above (cost_of r rs c) (cost_of r rs d)
