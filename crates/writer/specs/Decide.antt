-- Partition and pass: what both answer and write for a choice (clauses 4.7.2 to 4.7.4); estimate and commit answer so too.
-- Assumes nothing.
use Rattle.std.specs.Prelude.{ℕ, ◌≡◌, List, length, Ok}
use Rattle.format.specs.declared.Record.{Record}
use Rattle.format.specs.Refusal.{Ruling, Answer, answer, unless_refused}
use Rattle.format.specs.declared.Figures.{Figures}
use Rattle.format.specs.Record.{records_of, encode}
use Rattle.format.specs.Meaning.{stored, block_of}
use Rattle.price.specs.declared.Rates.{Rates}
use Rattle.price.specs.Price.{cost, RatesFit}
use Rattle.area.specs.Area.{over, Areas}
use Rattle.choice.specs.Choice.{Bit, bit_bytes, list_of}
use Rattle.writer.specs.Write.{list_in, block_in, Writable}

-- entries, stored bytes and cost of a list, and the looks it took
abbrev pub figures : Rates → List Record → ℕ → Figures
figures r l looks = record { cost = cost r l; entries = length l; stored = stored l; looks = looks; whole = 0 }

-- areas that begin with the choice c, the list l and its stored block for the version v; bytes beyond are unchanged
abbrev pub laid : List Bit → List Record → List ℕ → Areas → Areas
laid c l v x = record { choice = over (bit_bytes c) x.choice; list = over (encode l) x.list; block = over (block_of l v) x.block }

-- for the ruling q on the inputs and the choice c, found in so many looks: the answer, and the areas after the call
abbrev pub decided_answer : Ruling → Rates → List ℕ → List Bit → ℕ → Answer
decided_answer q rates list c looks = answer q (figures rates (list_of (records_of list) c) looks)

abbrev pub decided_areas : Ruling → List ℕ → List ℕ → List Bit → Areas → Areas
decided_areas q list v c before = unless_refused q (laid c (list_of (records_of list) c) v before) before

-- the answer r and the areas after a call that takes the choice c
pub record Decided (q : Ruling) (rates : Rates) (list v : List ℕ) (c : List Bit) (looks : ℕ) (before : Areas) (r : Answer) (after : Areas) : Type 0 where
  pub answered : r ≡ decided_answer q rates list c looks
  pub areas_after : after ≡ decided_areas q list v c before

-- what the end of a call asks: rates at which costs fit, and what the writing asks
pub record Finishable (rates : Rates) (list choice version area block : List ℕ) : Type 0 where
  pub rates_fit : RatesFit rates
  pub writable : Writable list choice version area block

-- the answer r and the areas for list and block after the end of a call, by the choice in its area
pub record Finished (rates : Rates) (list choice version : List ℕ) (looks : ℕ) (area block : List ℕ) (r : Answer) (area' block' : List ℕ) : Type 0 where
  pub answered : r ≡ Ok (figures rates (list_in list choice) looks)
  pub area_after : area' ≡ over (encode (list_in list choice)) area
  pub block_after : block' ≡ over (block_in list choice version) block
