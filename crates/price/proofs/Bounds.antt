-- What a price in range keeps to, its rates and the cost of a list at them.
-- Assumes nothing.
use Prim.Native.Nat.{ℕ, ◌+◌, ◌*◌, ◌≤◌}
use native.Mathlib.Omega.{arith}
use native.Mathlib.Nat.{mul-le-mul}
use mathlib.Core.Path.{◌≡◌, refl}
use mathlib.Core.Bool.{true, ◌&&◌}
use mathlib.Core.List.{List, [], ◌∷◌}
use lib.Dec.{leb}
use lib.ListN.{length}
use borrow.Author.Tests.{leb-true}
use Rattle.format.specs.declared.Record.{Record}
use Rattle.format.specs.declared.Record.TheVariants.{New, Match}
use Rattle.format.specs.Meaning.{stored}
use Rattle.format.proofs.Rulings.{both_of_and}
use Rattle.price.specs.declared.Price.{Price}
use Rattle.price.specs.Price.{price_fits, rates_of, news, matches, index_bytes, cost, RatesFit}

pub product_most : (a b m n : ℕ) → a ≤ m → b ≤ n → a * b ≤ m * n
product_most a b m n h k = mul-le-mul {n₁ = a} {m₁ = b} {n₂ = m} {m₂ = n} h k

pub record InRange (k : Price) : Type 0 where
  pub en_most : k.en ≤ 255
  pub em_most : k.em ≤ 255
  pub f_most : k.f ≤ 65535
  pub f_least : 1 ≤ k.f

pub range_of_fits : (k : Price) → price_fits k ≡ true → InRange k
range_of_fits k h =
    let a = both_of_and (leb 1 k.en && leb k.en 255 && leb 1 k.em && leb k.em 255 && leb 1 k.f) (leb k.f 65535) h in
    let b = both_of_and (leb 1 k.en && leb k.en 255 && leb 1 k.em && leb k.em 255) (leb 1 k.f) a.0 in
    let c = both_of_and (leb 1 k.en && leb k.en 255 && leb 1 k.em) (leb k.em 255) b.0 in
    let d = both_of_and (leb 1 k.en && leb k.en 255) (leb 1 k.em) c.0 in
    let e = both_of_and (leb 1 k.en) (leb k.en 255) d.0 in
    record { en_most = leb-true k.en 255 e.1; em_most = leb-true k.em 255 c.1; f_most = leb-true k.f 65535 a.1; f_least = leb-true 1 k.f b.1 }

pub rates_fit : (k : Price) → price_fits k ≡ true → RatesFit (rates_of k)
rates_fit k h =
    let r = range_of_fits k h in
    record {
      fresh_most = product_most k.f k.en 65535 255 r.f_most r.en_most;
      kept_most = product_most k.f k.em 65535 255 r.f_most r.em_most;
      byte_most = omega arith;
    }

-- ---- the cost of a list at a price's rates

pub entries : (l : List Record) → news l + matches l ≡ length l
entries [] = refl
entries (New s ∷ l) = omega (arith, entries l)
entries (Match s a ∷ l) = omega (arith, entries l)

-- F × (EN × new entries + EM × matches) + 256 × stored bytes (clause 2.5)
pub cost_at : (k : Price) (l : List Record) → cost (rates_of k) l ≡ k.f * index_bytes k l + 256 * stored l
cost_at k l = omega arith

pub news_cons : (r : Record) (l : List Record) → news (r ∷ l) ≡ news (r ∷ []) + news l
news_cons (New s) l = omega arith
news_cons (Match s a) l = omega arith
