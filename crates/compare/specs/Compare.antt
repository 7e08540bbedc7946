-- The call compare (section 4.6): two lists, two stored blocks and one store.
-- Assumes nothing.
use Rattle.std.specs.Prelude.{ℕ, Bool, true, false, ◌&&◌, cond, List, Ok}
use Rattle.format.specs.Refusal.{Ruling, Answer, ◌then◌, answer, entries_only}
use Rattle.format.specs.declared.Figures.{Figures}
use Rattle.format.specs.Record.{records_of}
use Rattle.format.specs.Meaning.{rebuilt}
use Rattle.format.specs.Origins.{origins, same_origins}
use Rattle.words.specs.Same.{same_bytes}
use Rattle.show.specs.Check.{inputs_ruling}

-- the order of clause 6.4: as check without a place k, the first list wholly and then the second: 2, 3; record by record 4, 5, 6, 7; then 10
abbrev pub compare_ruling : List ℕ → List ℕ → List ℕ → List ℕ → List ℕ → Ruling
compare_ruling first second block₁ block₂ st = inputs_ruling first block₁ st then inputs_ruling second block₂ st

-- the bytes that a list rebuilds
abbrev pub version_of : List ℕ → List ℕ → List ℕ → List ℕ
version_of list block st = rebuilt (records_of list) block st

-- both rebuild the same bytes
abbrev pub same_version : List ℕ → List ℕ → List ℕ → List ℕ → List ℕ → Bool
same_version first second block₁ block₂ st = same_bytes (version_of first block₁ st) (version_of second block₂ st)

-- each byte of the version has the same origin in both: new in both, or drawn from the same address with the same mark
abbrev pub same_origins_in : List ℕ → List ℕ → Bool
same_origins_in first second = same_origins (origins (records_of first)) (origins (records_of second))

-- both (clause 4.6.2)
abbrev pub same_throughout : List ℕ → List ℕ → List ℕ → List ℕ → List ℕ → Bool
same_throughout first second block₁ block₂ st = same_version first second block₁ block₂ st && same_origins_in first second

-- yes or no is 1 or 0 in entries (clause 4.6.1)
abbrev pub yes_or_no : Bool → Figures
yes_or_no same = entries_only (cond same 1 0)

abbrev pub says_yes : Answer
says_yes = Ok (yes_or_no true)

abbrev pub says_no : Answer
says_no = Ok (yes_or_no false)

-- it says yes exactly where both rebuild the same bytes, each from the same origin
abbrev pub compared : List ℕ → List ℕ → List ℕ → List ℕ → List ℕ → Answer
compared first second block₁ block₂ st = answer (compare_ruling first second block₁ block₂ st) (yes_or_no (same_throughout first second block₁ block₂ st))
