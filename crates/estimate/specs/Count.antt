-- The entries and the stored bytes of a choice's list, counted without writing it.
-- Assumes nothing.
use Rattle.std.specs.Prelude.{ℕ, ◌/◌, ◌≤◌, ◌≡◌, List, length}
use Rattle.format.specs.Limits.{list_most, version_most}
use Rattle.format.specs.Record.{records_of}
use Rattle.format.specs.Meaning.{whole, stored}
use Rattle.writer.specs.Write.{list_in}
use Rattle.estimate.specs.declared.Counts.{Counts}

-- what the counting asks: a byte of choice for each record, and sizes within a version's greatest length
pub record CountReady (list choice : List ℕ) : Type 0 where
  pub list_at_most : length list ≤ list_most
  pub in_choice : length list / 12 ≤ length choice
  pub whole_most : whole (records_of list) ≤ version_most

pub record CountsOf (list choice : List ℕ) (r : Counts) : Type 0 where
  pub entries_are : r.entries ≡ length (list_in list choice)
  pub stored_are : r.stored ≡ stored (list_in list choice)
