-- What is written of a choice: its list and its stored block, each over the front of an area.
-- Assumes nothing.
use Rattle.std.specs.Prelude.{ℕ, ◌-◌, ◌*◌, ◌/◌, ◌≤◌, ◌<◌, ◌≡◌, List, length}
use Rattle.format.specs.declared.Record.{Record}
use Rattle.format.specs.Limits.{list_most, version_most}
use Rattle.format.specs.Record.{from, encode, records_of, records_from}
use Rattle.format.specs.Meaning.{whole, block_of}
use Rattle.area.specs.Area.{over}
use Rattle.price.specs.Price.{news}
use Rattle.emit.specs.Emit.{Entry}
use Rattle.choice.specs.Choice.{bit_at, bits_of, chosen, list_of}
use Rattle.writer.specs.declared.Run.{Run}
use Rattle.writer.specs.declared.Stored.{Stored}

-- the list that a choice area makes of a list, and its stored block
abbrev pub list_in : List ℕ → List ℕ → List Record
list_in list choice = list_of (records_of list) (bits_of (length list / 12) choice)

abbrev pub block_in : List ℕ → List ℕ → List ℕ → List ℕ
block_in list choice version = block_of (list_in list choice) version

-- what the choice leaves of the records from record i on, of n
abbrev pub chosen_from : List ℕ → List ℕ → ℕ → ℕ → List Record
chosen_from list choice n i = chosen (records_from list n i) (from (bit_at choice) i (n - i))

-- record i of n, a byte of choice for each, and sizes within a version's greatest length
pub record RunReady (list choice : List ℕ) (n i : ℕ) : Type 0 where
  pub in_list : 12 * n ≤ length list
  pub in_choice : n ≤ length choice
  pub some : i < n
  pub most : whole (chosen_from list choice n i) ≤ version_most

-- one entry stands for the records from i up to the next
pub record RunOf (list choice : List ℕ) (n i : ℕ) (r : Run) : Type 0 where
  pub later : i < r.next
  pub within : r.next ≤ n
  pub stands : Entry (chosen_from list choice n i) r.entry (chosen_from list choice n r.next)

-- a byte of choice for each record, sizes within a version's greatest length, and room
pub record ListReady (list choice area : List ℕ) : Type 0 where
  pub in_choice : length list / 12 ≤ length choice
  pub whole_most : whole (chosen (records_of list) (bits_of (length list / 12) choice)) ≤ version_most
  pub room : length (encode (list_in list choice)) ≤ length area

pub record ListWritten (list choice area after : List ℕ) (r : ℕ) : Type 0 where
  pub area_after : after ≡ over (encode (list_in list choice)) area
  pub length_is : r ≡ length (encode (list_in list choice))

-- sizes within the version, and room for the stored block of the list
pub record BlockReady (list version block : List ℕ) : Type 0 where
  pub in_version : whole (records_of list) ≤ length version
  pub room : length (block_of (records_of list) version) ≤ length block

pub record BlockWritten (list version block after : List ℕ) (r : Stored) : Type 0 where
  pub area_after : after ≡ over (block_of (records_of list) version) block
  pub length_is : r.bytes ≡ length (block_of (records_of list) version)
  pub fresh_is : r.fresh ≡ news (records_of list)

-- what the writing asks: lengths within the limits, sizes within the version, and areas as long as the inputs
pub record Writable (list choice version area block : List ℕ) : Type 0 where
  pub list_at_most : length list ≤ list_most
  pub version_at_most : length version ≤ version_most
  pub in_version : whole (records_of list) ≤ length version
  pub in_choice : length list / 12 ≤ length choice
  pub in_area : length list ≤ length area
  pub in_block : length version ≤ length block
