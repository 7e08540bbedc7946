-- The call pool (section 4.13): two lists of one version, and the list that draws on the store wherever either of them does.
-- Assumes nothing.
use Rattle.std.specs.Prelude.{ℕ, ◌≡◌, List, [], ◌∷◌, leb, length}
use Rattle.format.specs.declared.Fault.TheVariants.{TooLong, ListLength, AreaTooShort, TooManyRecords}
use Rattle.format.specs.declared.Record.{Record}
use Rattle.format.specs.Refusal.{Ruling, Answer, need, ◌then◌, answer, unless_refused, entries_only}
use Rattle.format.specs.Limits.{records_most}
use Rattle.format.specs.Record.{list_fits, records_of, encode}
use Rattle.format.specs.Origins.{Origin, fresh, drawn, origins}
use Rattle.walk.specs.declared.Scope.TheVariants as scope
use Rattle.area.specs.Area.{over}
use Rattle.join.specs.Join.{gather}
use Rattle.admit.specs.Admit.{lengths_fit, cover_ruling}

-- a byte is drawn as the first list says if that is a match, else as the second says if that is a match, else it is new
abbrev pub pooled_byte : Origin → Origin → Origin
pooled_byte (drawn a) u = drawn a
pooled_byte fresh (drawn b) = drawn b
pooled_byte fresh fresh = fresh

-- byte by byte
abbrev pub pooled : List Origin → List Origin → List Origin
pooled [] us = []
pooled (o ∷ os) [] = []
pooled (o ∷ os) (u ∷ us) = pooled_byte o u ∷ pooled os us

-- the pooled list: the tidy list with these origins
abbrev pub pooled_list : List ℕ → List ℕ → List Record
pooled_list first second = gather (pooled (origins (records_of first)) (origins (records_of second)))

-- of each list: 3; record by record 4, 6, 7, 8; the short end
abbrev pub list_ruling : List ℕ → List ℕ → List ℕ → Ruling
list_ruling list v st = need (list_fits list) ListLength 0 then cover_ruling scope.LooseVersion list v st

-- the order of clause 6.9: 2; the first list wholly, then the second; 13; then 9, where the room is shorter than the result
abbrev pub pool_ruling : List ℕ → List ℕ → List ℕ → List ℕ → ℕ → Ruling
pool_ruling first second v st room =
    need (lengths_fit v st) TooLong 0
    then list_ruling first v st
    then list_ruling second v st
    then need (leb (length (pooled_list first second)) records_most) TooManyRecords 0
    then need (leb (length (encode (pooled_list first second))) room) AreaTooShort 0

-- the number of records written
abbrev pub pool_answer : List ℕ → List ℕ → List ℕ → List ℕ → List ℕ → Answer
pool_answer first second v st area = answer (pool_ruling first second v st (length area)) (entries_only (length (pooled_list first second)))

-- the area begins with the pooled list; bytes beyond are unchanged
abbrev pub pool_area : List ℕ → List ℕ → List ℕ → List ℕ → List ℕ → List ℕ
pool_area first second v st area = unless_refused (pool_ruling first second v st (length area)) (over (encode (pooled_list first second)) area) area

-- the answer r, and the list area after the call
pub record Pooled (first second v st area : List ℕ) (r : Answer) (after : List ℕ) : Type 0 where
  pub answered : r ≡ pool_answer first second v st area
  pub area_after : after ≡ pool_area first second v st area
