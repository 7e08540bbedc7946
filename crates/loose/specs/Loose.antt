-- The calls check_loose and tidy (sections 4.11 and 4.12): a list whose new records may stand side by side, and its tidy form.
-- Assumes nothing.
use Rattle.std.specs.Prelude.{ℕ, ◌≤◌, ◌≡◌, List, [], leb, length}
use Rattle.format.specs.declared.Fault.TheVariants.{TooLong, ListLength, AreaTooShort}
use Rattle.format.specs.declared.Record.{Record}
use Rattle.format.specs.Refusal.{Ruling, Answer, need, ◌then◌, answer, unless_refused, length_only, entries_only}
use Rattle.format.specs.Limits.{store_most, version_most}
use Rattle.format.specs.Record.{list_fits, records_of, encode}
use Rattle.format.specs.Meaning.{whole}
use Rattle.area.specs.Area.{over}
use Rattle.walk.specs.declared.Scope.TheVariants as scope
use Rattle.walk.specs.Checks.{checks, walk_ruling}
use Rattle.join.specs.Join.{tidy}

-- check_loose, in the order of clause 6.7: 2, 3; record by record 4, 6, 7
abbrev pub loose_ruling : List ℕ → List ℕ → Ruling
loose_ruling list st =
    need (leb (length st) store_most) TooLong 0
    then need (list_fits list) ListLength 0
    then walk_ruling (checks scope.Loose [] st) list

-- it is accepted or refused, and answers nothing else
abbrev pub loose_checked : List ℕ → List ℕ → Answer
loose_checked list st = answer (loose_ruling list st) (length_only 0)

-- tidy, in the order of clause 6.8: 9, where the room is shorter than the list handed in, before the records
abbrev pub tidy_ruling : List ℕ → List ℕ → ℕ → Ruling
tidy_ruling list st room =
    need (leb (length st) store_most) TooLong 0
    then need (list_fits list) ListLength 0
    then need (leb (length list) room) AreaTooShort 0
    then walk_ruling (checks scope.Loose [] st) list

-- the tidy form of a list (clause 3.12)
abbrev pub tidy_form : List ℕ → List Record
tidy_form list = tidy (records_of list)

-- the number of records written
abbrev pub tidy_answer : List ℕ → List ℕ → List ℕ → Answer
tidy_answer list st area = answer (tidy_ruling list st (length area)) (entries_only (length (tidy_form list)))

-- the area begins with the tidy form; bytes beyond are unchanged
abbrev pub tidy_area : List ℕ → List ℕ → List ℕ → List ℕ
tidy_area list st area = unless_refused (tidy_ruling list st (length area)) (over (encode (tidy_form list)) area) area

-- the answer r, and the list area after the call
pub record Tidied (list st area : List ℕ) (r : Answer) (after : List ℕ) : Type 0 where
  pub answered : r ≡ tidy_answer list st area
  pub area_after : after ≡ tidy_area list st area

-- what the writing asks: sizes within a version's greatest length, and room for the list
pub record Ready (list area : List ℕ) : Type 0 where
  pub whole_most : whole (records_of list) ≤ version_most
  pub room : length list ≤ length area

-- so many bytes of the tidy form are written over the front of the area
pub record Written (list area after : List ℕ) (r : ℕ) : Type 0 where
  pub area_after : after ≡ over (encode (tidy_form list)) area
  pub length_is : r ≡ length (encode (tidy_form list))
