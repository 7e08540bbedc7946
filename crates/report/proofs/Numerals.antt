-- The fewest digits of a number are its decimal text, of at most 20 bytes.
-- Assumes nothing.
use Prim.Native.Nat.{ℕ, zero, suc, ◌+◌, ◌*◌, ◌-◌, ◌/◌, ◌%◌, ◌^◌, ◌≤◌, ◌<◌}
use native.Mathlib.Omega.{arith}
use native.Mathlib.Nat.{pow-succ', one-le-pow, pow-le-pow_right}
use mathlib.Core.Path.{◌≡◌, refl, ap}
use mathlib.Core.Bool.{Bool, true, false, cond}
use mathlib.Core.List.{[], ◌∷◌, ◌++◌}
use lib.Dec.{leb, ltb}
use lib.ListN.{length, length-append}
use borrow.Author.Tests.{lt-ltb, le-ltb, leb-true, leb-false}
use Rattle.io.specs.Digits.{hex_digit_ascii, last_digits, IsDigitCount}
use Rattle.report.specs.Text.{decimal_in, decimal}

digit_glyph : (d : ℕ) → d < 10 → hex_digit_ascii d ≡ 48 + d
digit_glyph d h = rw (lt-ltb d 10 h)

decimal_digits : (r k n : ℕ) → r ≤ k → 1 ≤ r → n < 10 ^ r → (1 < r → 10 ^ (r - 1) ≤ n) → last_digits 10 r n ≡ decimal_in k n
decimal_digits zero k n h i j l = absurd (omega arith)
decimal_digits (suc r) zero n h i j l = absurd (omega arith)
decimal_digits (suc zero) (suc k) n h i j l =
    let m : n < 10 = j in
    let e : n % 10 ≡ n = omega arith in
    rw (lt-ltb n 10 m, e) (ap (λ (d : ℕ). d ∷ []) (digit_glyph n m))
decimal_digits (suc (suc r)) (suc k) n h i j l =
    let p : 10 ^ suc (suc r) ≡ 10 * 10 ^ suc r = pow-succ' 10 (suc r) in
    let q : 10 ^ suc r ≡ 10 * 10 ^ r = pow-succ' 10 r in
    let one : 1 ≤ 10 ^ r = one-le-pow r 10 (omega arith) in
    let e : suc (suc r) - 1 ≡ suc r = omega arith in
    let least : 10 ^ suc r ≤ n = rw e at (l (omega arith)) in
    let many : 10 ≤ n = omega arith in
    let rest : last_digits 10 (suc r) (n / 10) ≡ decimal_in k (n / 10) = decimal_digits (suc r) k (n / 10) (omega arith) (omega arith) (omega arith) (λ g. let f : suc r - 1 ≡ r = omega arith in rw f (omega arith)) in
    rw (le-ltb n 10 many, rest, digit_glyph (n % 10) (omega arith))

-- a 64-bit number has at most 20 digits
digits_most : (r n : ℕ) → n < 18446744073709551616 → IsDigitCount 10 1 n r → r ≤ 20
digits_most r n h f = go (leb r 20) refl
  where
    go : (t : Bool) → leb r 20 ≡ t → r ≤ 20
    go true e = leb-true r 20 e
    go false e =
        let m : 20 < r = leb-false r 20 e in
        let p : 10 ^ 20 ≤ 10 ^ (r - 1) = pow-le-pow_right {n = 10} (omega arith) {i = 20} {j = r - 1} (omega arith) in
        absurd (omega (arith, f.2 (omega arith)))

pub decimal_of_fewest : (r n : ℕ) → n < 18446744073709551616 → IsDigitCount 10 1 n r → last_digits 10 r n ≡ decimal n
unfolding decimal
decimal_of_fewest r n h f = decimal_digits r 20 n (digits_most r n h f) f.0 f.1 f.2

length_in : (k n : ℕ) → length (decimal_in k n) ≤ k
length_in zero n = omega arith
length_in (suc k) n = go (ltb n 10) (length_in k (n / 10))
  where
    go : (t : Bool) → length (decimal_in k (n / 10)) ≤ k → length (cond t ((48 + n) ∷ []) (decimal_in k (n / 10) ++ ((48 + n % 10) ∷ []))) ≤ suc k
    go true h = omega arith
    go false h = omega (arith, length-append (decimal_in k (n / 10)) ((48 + n % 10) ∷ []))

pub length_decimal : (n : ℕ) → length (decimal n) ≤ 20
unfolding decimal
length_decimal n = length_in 20 n
