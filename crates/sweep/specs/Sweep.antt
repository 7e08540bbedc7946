-- The two sweeps over plain lists, and what they leave: the least choice and its cost.
-- Assumes nothing.
use Rattle.std.specs.Prelude.{ℕ, zero, suc, ◌+◌, ◌-◌, ◌*◌, ◌/◌, ◌%◌, ◌≤◌, ◌≡◌, cond, List, [], ◌∷◌, ◌++◌, eqb, length, drop, Some, None}
use Rattle.format.specs.declared.Record.{Record}
use Rattle.format.specs.Limits.{records_most}
use Rattle.format.specs.Record.{row_at, record_of, records_of, records_from}
use Rattle.price.specs.declared.Rates.{Rates}
use Rattle.price.specs.Price.{RatesFit}
use Rattle.area.specs.Area.{over}
use Rattle.join.specs.Open.{Open}
use Rattle.choice.specs.Choice.{Bit, bit_byte, bit_bytes, cost_of, least}
use Rattle.choice.specs.Path.{best, hints, after, step}
use Rattle.weigh.specs.Weigh.{left_by}

-- two bits in a byte: what to do after a kept, and after a stored record
abbrev pub hint_byte : Bit × Bit → ℕ
hint_byte h = bit_byte h.0 + 2 * bit_byte h.1

abbrev pub hint_bytes : List (Bit × Bit) → List ℕ
hint_bytes [] = []
hint_bytes (h ∷ hs) = hint_byte h ∷ hint_bytes hs

-- the record before record i of a list, if there is one
abbrev pub before_at : List ℕ → ℕ → Open
before_at list i = cond (eqb i 0) None (Some (record_of (row_at list (i - 1))))

-- the least cost of the records, after the state o
abbrev pub best_of : Rates → List Record → Open → ℕ
best_of rates rs o = best after (step rates) rs o

-- the hints for the records, after the state that g gives for each bit before them
abbrev pub hints_of : Rates → (Bit → Open) → List Record → List (Bit × Bit)
hints_of rates g rs = hints after (step rates) g rs

-- what the sweeps ask: n records, and a byte for each
pub record Room (rates : Rates) (list : List ℕ) (n : ℕ) (choice : List ℕ) : Type 0 where
  pub rates_fit : RatesFit rates
  pub n_most : n ≤ records_most
  pub in_list : 12 * n ≤ length list
  pub in_choice : n ≤ length choice

-- after the sweep from the rear
pub record Back (rates : Rates) (list : List ℕ) (n : ℕ) (before after : List ℕ) (r : ℕ) : Type 0 where
  pub least_cost : r ≡ best_of rates (records_from list n 0) None
  pub area : after ≡ hint_bytes (hints_of rates (left_by None) (records_from list n 0)) ++ drop n before

-- the bit after the bit b, where the two to choose from are in the byte h
abbrev pub next_bit : ℕ → ℕ → ℕ
next_bit b h = cond (eqb b 0) (h % 2) (h / 2 % 2)

-- the sweep from the front, over the first n bytes
abbrev pub forwards : ℕ → ℕ → List ℕ → List ℕ
forwards zero b l = l
forwards (suc m) b [] = []
forwards (suc m) b (h ∷ hs) = next_bit b h ∷ forwards m (next_bit b h) hs

-- after both: the choice area begins with the least choice, and r is the cost of its list
pub record LeastIn (rates : Rates) (list before after : List ℕ) (r : ℕ) : Type 0 where
  pub area : after ≡ over (bit_bytes (least rates (records_of list))) before
  pub cost_is : r ≡ cost_of rates (records_of list) (least rates (records_of list))
