-- The file price (clause 9.2): EN, EM and F, 2 bytes each, lowest byte first; one of any length but 6 is bad, and gives none.
-- Assumes nothing.
use Rattle.std.specs.Prelude.{ℕ, ◌+◌, ◌*◌, cond, List, eqb, length, get_or, Option, Some, None}
use Rattle.price.specs.declared.Price.{Price}

-- the number in the 2 bytes from `at` on
abbrev pub pair_at : List ℕ → ℕ → ℕ
pair_at s at = get_or s at 0 + 256 * get_or s (at + 1) 0

abbrev pub price_in : List ℕ → Option Price
price_in s = cond (eqb (length s) 6) (Some (record { en = pair_at s 0; em = pair_at s 2; f = pair_at s 4 })) None
