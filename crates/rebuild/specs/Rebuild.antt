-- The call rebuild (section 4.3): its checks in their order, its answer, and the area after it.
-- Assumes nothing.
use Rattle.std.specs.Prelude.{ℕ, ◌≤◌, ◌≡◌, List, leb, length}
use Rattle.format.specs.declared.Fault.TheVariants.{AreaTooShort}
use Rattle.format.specs.Refusal.{Ruling, Answer, need, ◌then◌, answer, unless_refused, length_only}
use Rattle.format.specs.Record.{records_of}
use Rattle.format.specs.Meaning.{whole, stored, rebuilt}
use Rattle.format.specs.WellFormed.{Inside}
use Rattle.area.specs.Area.{over}
use Rattle.show.specs.Check.{inputs_ruling}

-- the order of clause 6.3: 2 to 10 as for check, then 9, where the area is shorter than the whole length
abbrev pub rebuild_ruling : List ℕ → List ℕ → List ℕ → List ℕ → Ruling
rebuild_ruling list block st area = inputs_ruling list block st then need (leb (whole (records_of list)) (length area)) AreaTooShort 0

-- the area begins with what the list rebuilds; bytes beyond are unchanged
abbrev pub filled : List ℕ → List ℕ → List ℕ → List ℕ → List ℕ
filled list block st area = over (rebuilt (records_of list) block st) area

abbrev pub rebuild_answer : List ℕ → List ℕ → List ℕ → List ℕ → Answer
rebuild_answer list block st area = answer (rebuild_ruling list block st area) (length_only (whole (records_of list)))

abbrev pub rebuild_area : List ℕ → List ℕ → List ℕ → List ℕ → List ℕ
rebuild_area list block st area = unless_refused (rebuild_ruling list block st area) (filled list block st area) area

-- the answer r, and the area after the call
pub record Rebuilt (list block st area : List ℕ) (r : Answer) (after : List ℕ) : Type 0 where
  pub answered : r ≡ rebuild_answer list block st area
  pub area_after : after ≡ rebuild_area list block st area

-- what the copying asks: matches in the store, the block as long as the new sizes, and room
pub record Ready (list block st area : List ℕ) : Type 0 where
  pub inside : Inside st (records_of list)
  pub block_fits : length block ≡ stored (records_of list)
  pub room : whole (records_of list) ≤ length area
