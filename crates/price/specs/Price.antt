-- The price (section 2): F and all costs in 256ths of a disk byte, and new entries priced apart from matches.
-- Assumes nothing.
use Rattle.std.specs.Prelude.{ℕ, suc, ◌+◌, ◌*◌, ◌≤◌, ◌<◌, ◌≡◌, Bool, ◌&&◌, List, [], ◌∷◌, leb, length}
use Rattle.format.specs.declared.Record.{Record}
use Rattle.format.specs.declared.Record.TheVariants.{New, Match}
use Rattle.format.specs.Limits.{records_most, list_most}
use Rattle.format.specs.Record.{records_of}
use Rattle.format.specs.Meaning.{stored}
use Rattle.price.specs.declared.Cost.{Cost}
use Rattle.price.specs.declared.Price.{Price}
use Rattle.price.specs.declared.Rates.{Rates}

-- EN, EM and F
abbrev pub price_at : ℕ → ℕ → ℕ → Price
price_at en em f = record { en = en; em = em; f = f }

-- EN and EM are 1 to 255, F is 1 to 65,535
abbrev pub price_fits : Price → Bool
price_fits k = leb 1 k.en && leb k.en 255 && leb 1 k.em && leb k.em 255 && leb 1 k.f && leb k.f 65535

-- what a list costs by its parts, in 256ths of a disk byte: F × EN for a new entry, F × EM for a match, 256 for a stored byte
abbrev pub rates_of : Price → Rates
rates_of k = record { fresh = record { 0 = k.f * k.en }; kept = record { 0 = k.f * k.em }; byte = record { 0 = 256 } }

-- rates that are all multiplied by one number
abbrev pub scaled : ℕ → Rates → Rates
scaled k r = record { fresh = record { 0 = k * r.fresh.0 }; kept = record { 0 = k * r.kept.0 }; byte = record { 0 = k * r.byte.0 } }

-- ---- the cost of a list

-- the entries of a list by kind
abbrev pub news : List Record → ℕ
news [] = 0
news (New s ∷ l) = suc (news l)
news (Match s a ∷ l) = news l

abbrev pub matches : List Record → ℕ
matches [] = 0
matches (New s ∷ l) = matches l
matches (Match s a ∷ l) = suc (matches l)

-- the index bytes of a list: EN × new entries + EM × matches (clause 2.3)
abbrev pub index_bytes : Price → List Record → ℕ
index_bytes k l = k.en * news l + k.em * matches l

-- what a list costs at the rates r; at a price's rates, F × its index bytes + 256 × its stored bytes (`cost_at`)
abbrev pub cost : Rates → List Record → ℕ
cost r l = r.fresh.0 * news l + r.kept.0 * matches l + r.byte.0 * stored l

-- no entry costs more, 255 × 65,535, and no 2³² stored bytes, at 256 each
abbrev pub entry_most : ℕ
entry_most = 16711425

abbrev pub storing_most : ℕ
storing_most = 1099511627776

-- rates at which the cost of 4,096 records fits 64 bits
pub record RatesFit (r : Rates) : Type 0 where
  pub fresh_most : r.fresh.0 ≤ entry_most
  pub kept_most : r.kept.0 ≤ entry_most
  pub byte_most : r.byte.0 ≤ 256

-- what n stored bytes cost, where n is below 2³²
pub record Storing (r : Rates) (n : ℕ) (d : Cost) : Type 0 where
  pub is : d.0 ≡ r.byte.0 * n
  pub most : d.0 < storing_most

-- a count of the new entries of a list
pub record Tallied (list : List ℕ) (r : ℕ) : Type 0 where
  pub is : r ≡ news (records_of list)
  pub most : r ≤ length (records_of list)

-- what pricing a list asks: its length within the limit, and its stored bytes
pub record Countable (r : Rates) (list : List ℕ) (s : ℕ) : Type 0 where
  pub rates_fit : RatesFit r
  pub list_at_most : length list ≤ list_most
  pub stored_is : s ≡ stored (records_of list)

-- what pricing counts asks: entries within the limit, of which some are new
pub record Counted (r : Rates) (entries fresh : ℕ) : Type 0 where
  pub rates_fit : RatesFit r
  pub entries_most : entries ≤ records_most
  pub fresh_most : fresh ≤ entries
