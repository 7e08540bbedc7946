-- A list taken in record by record, with one left open, so that the next may join it.
-- Assumes nothing.
use Rattle.std.specs.Prelude.{ℕ, Bool, false, cond, List, [], ◌∷◌, Option, Some, None}
use Rattle.format.specs.declared.Record.{Record}
use Rattle.format.specs.Meaning.{size_of}
use Rattle.join.specs.Join.{joins, grown}

-- a record that is not written yet, or none
abbrev pub Open : Type 0
Open = Option Record

-- what is still to be written of an open record
abbrev pub pending : Open → List Record
pending None = []
pending (Some r) = r ∷ []

abbrev pub open_size : Open → ℕ
open_size None = 0
open_size (Some r) = size_of r

-- whether a record joins the open one
abbrev pub follows : Open → Record → Bool
follows None r = false
follows (Some o) r = joins o r

-- a record r taken in by the open one: what is written, and what is open then
abbrev pub flushed : Open → Record → List Record
flushed o r = cond (follows o r) [] (pending o)

abbrev pub opened : Open → Record → Open
opened None r = Some r
opened (Some o) r = Some (cond (joins o r) (grown o (size_of r)) r)
