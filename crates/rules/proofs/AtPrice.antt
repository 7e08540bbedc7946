-- The tests of the merges at a price's rates, in EN, EM and F. And at rates that are all multiplied by one number above 0 the tests are
-- the same.
-- Assumes nothing.
use Prim.Native.Nat.{ℕ, ◌+◌, ◌*◌, ◌<◌}
use native.Mathlib.Omega.{arith}
use mathlib.Core.Path.{◌≡◌, refl, ap}
use lib.Dec.{ltb}
use Rattle.price.specs.declared.Price.{Price}
use Rattle.price.specs.declared.Rates.{Rates}
use Rattle.price.specs.Price.{rates_of, scaled}
use Rattle.price.proofs.Scaling.{ltb_scaled}
use Rattle.rules.specs.Rules.{tests_of}

-- merge 1 needs 256 × size < F × (EM + EN); merges 2 and 3 need 256 × size < F × EM; merge 4 needs 256 × both sizes + F × EN < 2 × F × EM
pub record TestsAt (k : Price) : Type 0 where
  pub both_at : (s : ℕ) → (tests_of (rates_of k)).both s ≡ ltb (256 * s) (k.f * (k.em + k.en))
  pub side_at : (s : ℕ) → (tests_of (rates_of k)).side s ≡ ltb (256 * s) (k.f * k.em)
  pub pair_at_price : (s : ℕ) → (tests_of (rates_of k)).pair s ≡ ltb (256 * s + k.f * k.en) (2 * k.f * k.em)

pub tests_at : (k : Price) → TestsAt k
tests_at k =
    let sum : k.f * k.em + k.f * k.en ≡ k.f * (k.em + k.en) = omega arith in
    let twice : 2 * (k.f * k.em) ≡ 2 * k.f * k.em = omega arith in
    record {
      both_at = λ s. ap (ltb (256 * s)) sum;
      side_at = λ s. refl;
      pair_at_price = λ s. ap (ltb (256 * s + k.f * k.en)) twice;
    }

-- rates that are all multiplied by one number above 0 have the same tests
pub tests_scaled : (k : ℕ) → 0 < k → (r : Rates) → tests_of (scaled k r) ≡ tests_of r
tests_scaled k above r = λ i. record { both = λ s. both s i; side = λ s. side s i; pair = λ s. pair s i }
  where
    both : (s : ℕ) → (tests_of (scaled k r)).both s ≡ (tests_of r).both s
    both s = ltb_scaled k above (k * r.byte.0 * s) (k * r.kept.0 + k * r.fresh.0) (r.byte.0 * s) (r.kept.0 + r.fresh.0) (omega arith) (omega arith)

    side : (s : ℕ) → (tests_of (scaled k r)).side s ≡ (tests_of r).side s
    side s = ltb_scaled k above (k * r.byte.0 * s) (k * r.kept.0) (r.byte.0 * s) r.kept.0 (omega arith) refl

    pair : (s : ℕ) → (tests_of (scaled k r)).pair s ≡ (tests_of r).pair s
    pair s = ltb_scaled k above (k * r.byte.0 * s + k * r.fresh.0) (2 * (k * r.kept.0)) (r.byte.0 * s + r.fresh.0) (2 * r.kept.0) (omega arith) (omega arith)
