-- The 12-byte record (clauses 1.3 to 1.5 and 5.4): its bytes read and written, what is well formed by itself, and the records of a list.
--
--   OFFSET  SIZE  FIELD
--   0       1     kind: 0 new, 1 match
--   1       1     mark: 1 where a match is held, else zero; zero in a new record
--   2       2     zero
--   4       4     size: bytes covered, 1 or more, lowest byte first
--   8       4     address: where a match begins in the store; zero in a new record
-- Assumes nothing.
use Rattle.std.specs.Prelude.{ℕ, zero, suc, ◌+◌, ◌-◌, ◌*◌, ◌/◌, ◌%◌, Bool, true, false, not, ◌&&◌, ◌||◌, cond, List, [], ◌∷◌, ◌++◌, eqb, leb, length, get_or}
use Rattle.format.specs.declared.Row.{Row}
use Rattle.format.specs.declared.Source.{Source}
use Rattle.format.specs.declared.Record.{Record}
use Rattle.format.specs.declared.Record.TheVariants.{New, Match}
use Rattle.format.specs.Limits.{list_most}

-- the number in the 4 bytes from `at` on, lowest byte first
abbrev pub word_at : List ℕ → ℕ → ℕ
word_at l at = get_or l at 0 + 256 * get_or l (at + 1) 0 + 65536 * get_or l (at + 2) 0 + 16777216 * get_or l (at + 3) 0

-- row i: the fields of the 12 bytes from 12 * i on, as they stand
abbrev pub row_at : List ℕ → ℕ → Row
row_at l i =
    record {
      kind = get_or l (12 * i) 0;
      byte1 = get_or l (12 * i + 1) 0;
      byte2 = get_or l (12 * i + 2) 0;
      byte3 = get_or l (12 * i + 3) 0;
      size = word_at l (12 * i + 4);
      address = word_at l (12 * i + 8);
    }

-- an address of the store, not held; and held
abbrev pub free_at : ℕ → Source
free_at a = record { address = a; held = false }

abbrev pub held_at : ℕ → Source
held_at a = record { address = a; held = true }

-- f i, f (i + 1), .. : m values
abbrev pub from : {A : Type 0} → (ℕ → A) → ℕ → ℕ → List A
from f i zero = []
from f i (suc m) = f i ∷ from f (i + 1) m

abbrev pub rows_of : List ℕ → List Row
rows_of l = from (row_at l) 0 (length l / 12)

abbrev pub is_new : Row → Bool
is_new r = eqb r.kind 0

-- where a match is drawn from; it is held where byte 1 is 1 (clause 1.12)
abbrev pub source_of : Row → Source
source_of r = record { address = r.address; held = eqb r.byte1 1 }

-- the record that a row stands for (a new record is ADD in VCDIFF, a match COPY)
abbrev pub record_of : Row → Record
record_of r = cond (is_new r) (New r.size) (Match r.size (source_of r))

abbrev pub records : List Row → List Record
records [] = []
records (r ∷ rs) = record_of r ∷ records rs

abbrev pub records_of : List ℕ → List Record
records_of l = records (rows_of l)

-- the records of a list from record i on, of n
abbrev pub records_from : List ℕ → ℕ → ℕ → List Record
records_from list n i = records (from (row_at list) i (n - i))

-- check 4 passes: kind 0 or 1, byte 1 no more than 1, bytes 2 and 3 zero, a size, and neither mark nor address in a new record
abbrev pub well_formed : Row → Bool
well_formed r = leb r.kind 1 && leb r.byte1 1 && eqb r.byte2 0 && eqb r.byte3 0 && leb 1 r.size && (not (is_new r) || (eqb r.byte1 0 && eqb r.address 0))

-- check 3 passes: a multiple of 12, and not over 49,152
abbrev pub list_fits : List ℕ → Bool
list_fits l = leb (length l) list_most && eqb (length l % 12) 0

-- a number below 2³² as 4 bytes, lowest first
abbrev pub word : ℕ → List ℕ
word x = x % 256 ∷ x / 256 % 256 ∷ x / 65536 % 256 ∷ x / 16777216 ∷ []

-- byte 1 of a match
abbrev pub mark_byte : Bool → ℕ
mark_byte held = cond held 1 0

-- the 12 bytes of a record, its mark included
abbrev pub bytes_of : Record → List ℕ
bytes_of (New s) = 0 ∷ 0 ∷ 0 ∷ 0 ∷ word s ++ word 0
bytes_of (Match s a) = 1 ∷ mark_byte a.held ∷ 0 ∷ 0 ∷ word s ++ word a.address

-- the bytes of a list
abbrev pub encode : List Record → List ℕ
encode [] = []
encode (r ∷ l) = bytes_of r ++ encode l
