-- The least path: a cost that is a sum over the records, each one's part by the state before it and its bit; the least such cost, the choice that
-- has it, and what the two sweeps of the code leave. And the path of a choice's cost.
-- Assumes nothing.
use Rattle.std.specs.Prelude.{ℕ, ◌+◌, ◌*◌, ◌≤◌, ◌≡◌, Bool, true, false, cond, List, [], ◌∷◌, leb, Some}
use Rattle.format.specs.declared.Record.{Record}
use Rattle.format.specs.declared.Record.TheVariants.{New, Match}
use Rattle.format.specs.Limits.{records_most}
use Rattle.price.specs.declared.Cost.{Cost}
use Rattle.price.specs.declared.Rates.{Rates}
use Rattle.price.specs.Price.{entry_most, storing_most}
use Rattle.join.specs.Open.{Open, follows}
use Rattle.choice.specs.Choice.{Bit, keep, store, Free, only, either, freedom, chosen_record}

abbrev pub bit_for : Bool → Bit
bit_for true = keep
bit_for false = store

-- the bit to take, where keeping comes to m and storing to n
abbrev pub decide : Free → ℕ → ℕ → Bit
decide (only b) m n = b
decide either m n = bit_for (leb m n)

abbrev pub at : Bit → ℕ → ℕ → ℕ
at keep m n = m
at store m n = n

abbrev pub pick_bit : Bit → Bit × Bit → Bit
pick_bit keep h = h.0
pick_bit store h = h.1

abbrev pub follow : Bit → List (Bit × Bit) → List Bit
follow b [] = []
follow b (h ∷ hs) = pick_bit b h ∷ follow (pick_bit b h) hs

module _ {S : Type 0} (after : Record → Bit → S) (step : S → Record → Bit → ℕ) where
  -- the cost of a choice, from the state s on
  abbrev pub walk : List Record → S → List Bit → ℕ
  walk [] s c = 0
  walk (r ∷ rs) s [] = 0
  walk (r ∷ rs) s (b ∷ c) = step s r b + walk rs (after r b) c

  abbrev pub best : List Record → S → ℕ
  best [] s = 0
  best (r ∷ rs) s =
      let m = step s r keep + best rs (after r keep) in
      let n = step s r store + best rs (after r store) in
      at (decide (freedom r) m n) m n

  abbrev pub turn : List Record → S → Record → Bit
  turn rs s r = decide (freedom r) (step s r keep + best rs (after r keep)) (step s r store + best rs (after r store))

  abbrev pub pick : List Record → S → List Bit
  pick [] s = []
  pick (r ∷ rs) s = turn rs s r ∷ pick rs (after r (turn rs s r))

  -- g: the state before the first record, by the bit before it; at the front of a list it is the start's, whatever the bit
  abbrev pub hints : (Bit → S) → List Record → List (Bit × Bit)
  hints g [] = []
  hints g (r ∷ rs) = (turn rs (g keep) r, turn rs (g store) r) ∷ hints (after r) rs

-- ---- the cost of a choice: the state is the record before, as its bit leaves it

abbrev pub after : Record → Bit → Open
after r b = Some (chosen_record b r)

-- what an entry costs, by its kind, and what its stored bytes cost
abbrev pub entry_of : Rates → Record → ℕ
entry_of rates (New s) = rates.fresh.0
entry_of rates (Match s a) = rates.kept.0

abbrev pub bytes_in : Rates → Record → ℕ
bytes_in rates (New s) = rates.byte.0 * s
bytes_in rates (Match s a) = 0

-- what a record adds to the cost after the one before it: an entry, unless the two join, and its stored bytes
abbrev pub added : Rates → Open → Record → ℕ
added rates o r = cond (follows o r) 0 (entry_of rates r) + bytes_in rates r

abbrev pub step : Rates → Open → Record → Bit → ℕ
step rates o r b = added rates o (chosen_record b r)

-- no step costs more: an entry, and 2³² stored bytes
abbrev pub step_most : ℕ
step_most = entry_most + storing_most

-- nor do 4,096 steps
abbrev pub path_most : ℕ
path_most = records_most * step_most

-- what a record adds
pub record Adds (rates : Rates) (o : Open) (r : Record) (d : Cost) : Type 0 where
  pub is : d.0 ≡ added rates o r
  pub most : d.0 ≤ step_most
