-- The checks of a list with its stored block, in a scope; those of list, stored block and store; and the call check (section 4.4).
-- Assumes nothing.
use Rattle.std.specs.Prelude.{ℕ, List, [], eqb, leb, ltb, length}
use Rattle.format.specs.declared.Fault.TheVariants.{TooLong, ListLength, BlockLength, NoSuchRecord}
use Rattle.format.specs.Refusal.{Ruling, Answer, need, ◌then◌, answer, length_only}
use Rattle.format.specs.Limits.{store_most}
use Rattle.format.specs.Record.{list_fits, records_of}
use Rattle.format.specs.Meaning.{stored}
use Rattle.walk.specs.declared.Scope.{Scope}
use Rattle.walk.specs.declared.Scope.TheVariants as scope
use Rattle.walk.specs.Checks.{checks, walk_ruling}

-- a list with its stored block: 3; record by record as the scope says; then 10
abbrev pub read_ruling : Scope → List ℕ → List ℕ → List ℕ → Ruling
read_ruling x list block st =
    need (list_fits list) ListLength 0
    then walk_ruling (checks x [] st) list
    then need (eqb (length block) (stored (records_of list))) BlockLength 0

-- the order of clause 6.2: 2, 3; record by record 4, 5, 6, 7; then 10
abbrev pub inputs_ruling : List ℕ → List ℕ → List ℕ → Ruling
inputs_ruling list block st =
    need (leb (length st) store_most) TooLong 0
    then need (list_fits list) ListLength 0
    then walk_ruling (checks scope.Store [] st) list
    then need (eqb (length block) (stored (records_of list))) BlockLength 0

-- check: then 11
abbrev pub check_ruling : List ℕ → List ℕ → List ℕ → ℕ → Ruling
check_ruling list block st k = inputs_ruling list block st then need (ltb k (length (records_of list))) NoSuchRecord 0

abbrev pub checked : List ℕ → List ℕ → List ℕ → ℕ → Answer
checked list block st k = answer (check_ruling list block st k) (length_only 0)
