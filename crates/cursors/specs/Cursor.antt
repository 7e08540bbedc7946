-- A cursor in a list: a record and how many of its bytes are passed; what is left there, where it stands some bytes further, and one step of two
-- cursors. And what a list must be for it.
-- Assumes nothing.
use Rattle.std.specs.Prelude.{ℕ, ◌+◌, ◌/◌, ◌≤◌, ◌<◌, min, ◌≡◌, cond, List, ltb, length}
use Rattle.format.specs.declared.Record.{Record}
use Rattle.format.specs.Limits.{version_most}
use Rattle.format.specs.Record.{row_at, record_of, records_of, records_from}
use Rattle.format.specs.Meaning.{size_of, whole}
use Rattle.format.specs.WellFormed.{Sized}
use Rattle.cursors.specs.declared.Cursor.{Cursor}
use Rattle.cursors.specs.declared.Pair.{Pair}
use Rattle.cursors.specs.Cut.{lead, cut, without, Reaching}

-- before the first byte of a list
abbrev pub front : Cursor
front = record { place = 0; within = 0 }

-- two cursors before the first bytes of their lists
abbrev pub fronts : Pair
fronts = record { first = front; second = front }

-- what is left of the cursor's record
abbrev pub rest_at : List ℕ → Cursor → Record
rest_at list c = cut c.within (record_of (row_at list c.place))

-- the records from a cursor on, the first without the bytes passed
abbrev pub remaining : List ℕ → Cursor → List Record
remaining list c = without c.within (records_from list (length list / 12) c.place)

-- n bytes further in its record, and at the front of the next
abbrev pub further : Cursor → ℕ → Cursor
further c n = record { place = c.place; within = c.within + n }

abbrev pub behind : Cursor → Cursor
behind c = record { place = c.place + 1; within = 0 }

-- the cursor n bytes on, where r is left of its record
abbrev pub moved : Record → Cursor → ℕ → Cursor
moved r c n = cond (ltb n (size_of r)) (further c n) (behind c)

-- a cursor that stands in a list that was checked
pub record Stands (list : List ℕ) (c : Cursor) : Type 0 where
  pub sized : Sized (remaining list c)
  pub reaching : Reaching (remaining list c)
  pub most : c.within + whole (remaining list c) ≤ version_most

-- what a step asks: both cursors have a record
pub record StepReady (first second : List ℕ) (at : Pair) : Type 0 where
  pub at_first : Stands first at.first
  pub at_second : Stands second at.second
  pub goes_on : at.first.place < length first / 12
  pub also_goes_on : at.second.place < length second / 12

-- the size of the pieces: that of the shorter of the two stretches
abbrev pub piece_size : List ℕ → List ℕ → Pair → ℕ
piece_size first second at = min (size_of (rest_at first at.first)) (size_of (rest_at second at.second))

-- the two pieces s, and both cursors behind them
pub record Stepped (first second : List ℕ) (at : Pair) (s : Record × Record) (next : Pair) : Type 0 where
  pub one_is : s.0 ≡ lead (piece_size first second at) (rest_at first at.first)
  pub two_is : s.1 ≡ lead (piece_size first second at) (rest_at second at.second)
  pub first_is : next.first ≡ moved (rest_at first at.first) at.first (piece_size first second at)
  pub second_is : next.second ≡ moved (rest_at second at.second) at.second (piece_size first second at)

-- a list that was checked, but for check 5
pub record Checked (list : List ℕ) : Type 0 where
  pub sized : Sized (records_of list)
  pub reaching : Reaching (records_of list)
  pub whole_most : whole (records_of list) ≤ version_most
