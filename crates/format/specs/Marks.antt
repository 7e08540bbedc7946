-- The marks of a list: the list without them, and what they bind.
-- Assumes nothing.
use Rattle.std.specs.Prelude.{ℕ, ◌-◌, ◌%◌, ◌&&◌, cond, List, [], ◌∷◌, map, eqb, length, get_or}
use Rattle.format.specs.declared.Record.{Record}
use Rattle.format.specs.declared.Record.TheVariants.{New, Match}
use Rattle.format.specs.Record.{free_at, from}
use Rattle.format.specs.Origins.{Origin, fresh, drawn, origins}

-- a record without its mark, and the records of a list
abbrev pub bare : Record → Record
bare (New s) = New s
bare (Match s a) = Match s (free_at a.address)

abbrev pub bares : List Record → List Record
bares [] = []
bares (r ∷ l) = bare r ∷ bares l

-- byte i of a list without its marks: byte 1 of a match, where it is 1, becomes 0; every other byte stays
abbrev pub unmarked_byte : List ℕ → ℕ → ℕ
unmarked_byte l i = cond (eqb (i % 12) 1 && eqb (get_or l (i - 1) 0) 1 && eqb (get_or l i 0) 1) 0 (get_or l i 0)

-- the bytes of a list without its marks; of a list that was written, those of its records without their marks (`unmarked_encode`)
abbrev pub unmarked : List ℕ → List ℕ
unmarked l = from (unmarked_byte l) 0 (length l)

-- what is said of a byte of the version: it may be stored, or drawn from anywhere; or it must go on being drawn from the store, from this address
pub data Bond : Type 0 where
  free : Bond
  bound_to : ℕ → Bond

-- what the origin of a byte binds: only one drawn by a held match does
abbrev pub bond_of : Origin → Bond
bond_of fresh = free
bond_of (drawn a) = cond a.held (bound_to a.address) free

-- what a list says of each byte of the version
abbrev pub bonds : List Record → List Bond
bonds l = map bond_of (origins l)
