-- Comparisons that come out alike, and rates that are all multiplied by one number: every cost is multiplied by it, and where it is above 0 every
-- comparison of costs stays as it was.
-- Assumes nothing.
use Prim.Native.Nat.{ℕ, suc, ◌*◌, ◌≤◌, ◌<◌}
use native.Mathlib.Omega.{arith}
use native.Mathlib.Nat.{mul-le-mul_left, mul-lt-mul_of_pos_left}
use mathlib.Core.Path.{◌≡◌, refl, sym, ◌∙◌, ap₂}
use mathlib.Core.Bool.{Bool, true, false}
use mathlib.Core.List.{List}
use lib.Dec.{leb, ltb}
use borrow.Author.Tests.{leb-true, leb-false, le-leb, lt-leb}
use Rattle.format.specs.declared.Record.{Record}
use Rattle.price.specs.declared.Rates.{Rates}
use Rattle.price.specs.Price.{cost, scaled}

leb_same : (a b m n : ℕ) → (a ≤ b → m ≤ n) → (b < a → n < m) → leb a b ≡ leb m n
leb_same a b m n f g = go (leb a b) refl
  where
    go : (t : Bool) → leb a b ≡ t → t ≡ leb m n
    go true e = sym (le-leb m n (f (leb-true a b e)))
    go false e = sym (lt-leb m n (g (leb-false a b e)))

pub ltb_same : (a b m n : ℕ) → (a < b → m < n) → (b ≤ a → n ≤ m) → ltb a b ≡ ltb m n
ltb_same a b m n f g = leb_same (suc a) b (suc m) n (λ h. omega (arith, f (omega arith))) (λ h. omega (arith, g (omega arith)))

module _ (k : ℕ) (above : 0 < k) where
  pub leb_scaled : (a b : ℕ) → leb (k * a) (k * b) ≡ leb a b
  leb_scaled a b = sym (leb_same a b (k * a) (k * b) (λ h. mul-le-mul_left k h) (λ h. mul-lt-mul_of_pos_left h above))

  -- a comparison of two multiples
  pub ltb_scaled : (m n a b : ℕ) → m ≡ k * a → n ≡ k * b → ltb m n ≡ ltb a b
  ltb_scaled m n a b d e = ap₂ ltb d e ∙ sym (ltb_same a b (k * a) (k * b) (λ h. mul-lt-mul_of_pos_left h above) (λ h. mul-le-mul_left k h))

pub cost_scaled : (k : ℕ) (r : Rates) (l : List Record) → cost (scaled k r) l ≡ k * cost r l
cost_scaled k r l = omega arith
