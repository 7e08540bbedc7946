-- A choice (section 3): the choices for a list, the list of a choice, and the least choice.
-- Assumes nothing.
use Rattle.std.specs.Prelude.{ℕ, ◌≤◌, ◌≡◌, Bool, true, false, cond, List, [], ◌∷◌, ◌++◌, eqb, leb, get_or}
use Rattle.format.specs.declared.Record.{Record}
use Rattle.format.specs.declared.Record.TheVariants.{New, Match}
use Rattle.format.specs.Record.{from, records_of}
use Rattle.format.specs.Meaning.{size_of}
use Rattle.price.specs.declared.Price.{Price}
use Rattle.price.specs.declared.Rates.{Rates}
use Rattle.price.specs.Price.{rates_of, cost}
use Rattle.join.specs.Join.{tidy}

-- 0: kept as match; 1: new
pub data Bit : Type 0 where
  keep store : Bit

abbrev pub bit_byte : Bit → ℕ
bit_byte keep = 0
bit_byte store = 1

abbrev pub bit_bytes : List Bit → List ℕ
bit_bytes [] = []
bit_bytes (b ∷ c) = bit_byte b ∷ bit_bytes c

abbrev pub bit_of : ℕ → Bit
bit_of n = cond (eqb n 0) keep store

-- the bits in the first n bytes of a choice area
abbrev pub bit_at : List ℕ → ℕ → Bit
bit_at area i = bit_of (get_or area i 0)

abbrev pub bits_of : ℕ → List ℕ → List Bit
bits_of n area = from (bit_at area) 0 n

-- what a record leaves to choose
pub data Free : Type 0 where
  only : Bit → Free
  either : Free

-- a new record always has 1, a held match always 0; bits that would store one are no choice (clauses 3.2 and 3.3)
abbrev pub freedom : Record → Free
freedom (New s) = only store
freedom (Match s a) = cond a.held (only keep) either

abbrev pub May : Free → Bit → Type 0
May (only b) d = d ≡ b
May either d = Unit {0}

-- c is a choice for the records: one bit for each, and one that it may have
abbrev pub IsChoice : List Record → List Bit → Type 0
IsChoice [] [] = Unit {0}
IsChoice [] (b ∷ c) = ⊥
IsChoice (r ∷ rs) [] = ⊥
IsChoice (r ∷ rs) (b ∷ c) = May (freedom r) b × IsChoice rs c

abbrev pub put : Bit → List (List Bit) → List (List Bit)
put b [] = []
put b (c ∷ cs) = (b ∷ c) ∷ put b cs

abbrev pub spread : Free → List (List Bit) → List (List Bit)
spread (only b) cs = put b cs
spread either cs = put keep cs ++ put store cs

-- all choices, in order: of two, the one with 0 at the first record where they differ comes first
abbrev pub choices : List Record → List (List Bit)
choices [] = [] ∷ []
choices (r ∷ rs) = spread (freedom r) (choices rs)

-- c is d, or has 0 at the first record where they differ
abbrev pub Early : List Bit → List Bit → Type 0
Early [] [] = Unit {0}
Early [] (b ∷ d) = ⊥
Early (b ∷ c) [] = ⊥
Early (keep ∷ c) (keep ∷ d) = Early c d
Early (keep ∷ c) (store ∷ d) = Unit {0}
Early (store ∷ c) (keep ∷ d) = ⊥
Early (store ∷ c) (store ∷ d) = Early c d

-- a record by its bit: a stored match becomes a new record
abbrev pub chosen_record : Bit → Record → Record
chosen_record keep r = r
chosen_record store r = New (size_of r)

abbrev pub chosen : List Record → List Bit → List Record
chosen [] c = []
chosen (r ∷ rs) [] = []
chosen (r ∷ rs) (b ∷ c) = chosen_record b r ∷ chosen rs c

-- the list of a choice: each longest run of 1s becomes one new record, each 0 keeps its record as it was, and matches that join are one record
-- (clauses 3.4 to 3.7)
abbrev pub list_of : List Record → List Bit → List Record
list_of rs c = tidy (chosen rs c)

abbrev pub cost_of : Rates → List Record → List Bit → ℕ
cost_of r rs c = cost r (list_of rs c)

-- of two, the one of lower value; the first where the values are equal
abbrev pub lower : Bool → List Bit → List Bit → List Bit
lower true c d = c
lower false c d = d

abbrev pub low : (List Bit → ℕ) → List Bit → List Bit → List Bit
low f c d = lower (leb (f c) (f d)) c d

-- of several, the first of least value
abbrev pub first_min : (List Bit → ℕ) → List Bit → List (List Bit) → List Bit
first_min f c [] = c
first_min f c (d ∷ cs) = low f c (first_min f d cs)

abbrev pub first_of : (List Bit → ℕ) → List (List Bit) → List Bit
first_of f [] = []
first_of f (c ∷ cs) = first_min f c cs

-- the least choice: of all choices in order, the first whose list costs least, at the rates r
abbrev pub least : Rates → List Record → List Bit
least r rs = first_of (cost_of r rs) (choices rs)

-- the least choice for a list of bytes, at a price
abbrev pub least_of : Price → List ℕ → List Bit
least_of price list = least (rates_of price) (records_of list)

-- what makes a choice the least: it costs no more than any other, and where another costs as much it has 0 at the first record where they differ
pub record IsLeast (r : Rates) (rs : List Record) (c : List Bit) : Type 0 where
  pub choice : IsChoice rs c
  pub cheapest : (d : List Bit) → IsChoice rs d → cost_of r rs c ≤ cost_of r rs d
  pub foremost : (d : List Bit) → IsChoice rs d → cost_of r rs d ≡ cost_of r rs c → Early c d

-- 0 for each match and 1 for each new record
abbrev pub keep_all : List Record → List Bit
keep_all [] = []
keep_all (New s ∷ l) = store ∷ keep_all l
keep_all (Match s a ∷ l) = keep ∷ keep_all l
