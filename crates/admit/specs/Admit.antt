-- Partition and pass: their checks in their order (clause 6.5); estimate and commit make them too.
-- Assumes nothing.
use Rattle.std.specs.Prelude.{ℕ, ◌/◌, ◌≡◌, Bool, true, ◌&&◌, List, eqb, leb, length}
use Rattle.format.specs.declared.Fault.TheVariants as fault
use Rattle.format.specs.Refusal.{Ruling, need, ◌then◌}
use Rattle.format.specs.Limits.{version_most, store_most}
use Rattle.format.specs.Record.{list_fits, records_of}
use Rattle.format.specs.Meaning.{whole}
use Rattle.walk.specs.declared.Scope.{Scope}
use Rattle.walk.specs.declared.Scope.TheVariants as scope
use Rattle.walk.specs.Checks.{checks, walk_ruling}
use Rattle.area.specs.Area.{Areas}
use Rattle.price.specs.declared.Price.{Price}
use Rattle.price.specs.Price.{price_fits}

-- check 2 passes: version and store are not too long
abbrev pub lengths_fit : List ℕ → List ℕ → Bool
lengths_fit v st = leb (length v) version_most && leb (length st) store_most

-- check 9 passes, for areas of lengths c, a and b: 1 byte per record, the length of the list, the length of the version
abbrev pub areas_fit : List ℕ → List ℕ → ℕ → ℕ → ℕ → Bool
areas_fit list v c a b = leb (length list / 12) c && leb (length list) a && leb (length v) b

-- checks 1, 2 and 3: the price, the lengths of version and store, the length of the list
abbrev pub first_ruling : Price → List ℕ → List ℕ → List ℕ → Ruling
first_ruling price list v st = need (price_fits price) fault.Price 0 then need (lengths_fit v st) fault.TooLong 0 then need (list_fits list) fault.ListLength 0

-- check 9: rooms of lengths c, a and b for choice, list and stored block
abbrev pub rooms_ruling : List ℕ → List ℕ → ℕ → ℕ → ℕ → Ruling
rooms_ruling list v c a b = need (areas_fit list v c a b) fault.AreaTooShort 0

-- record by record 4, 5, 6, 7, 8, or those that the scope asks for; then the short end, at place n
abbrev pub cover_ruling : Scope → List ℕ → List ℕ → List ℕ → Ruling
cover_ruling x list v st = walk_ruling (checks x v st) list then need (eqb (whole (records_of list)) (length v)) fault.Sizes (length (records_of list))

-- the order of clause 6.5: 1, 2, 3; then 9; then record by record 4, 5, 6, 7, 8, and the short end. In rooms of lengths c, a and b
abbrev pub admit_ruling : Price → List ℕ → List ℕ → List ℕ → ℕ → ℕ → ℕ → Ruling
admit_ruling price list v st c a b = first_ruling price list v st then rooms_ruling list v c a b then cover_ruling scope.Version list v st

-- all checks of a call of partition or pass, in the areas that are lent to it
abbrev pub partition_ruling : Price → List ℕ → List ℕ → List ℕ → Areas → Ruling
partition_ruling price list v st x = admit_ruling price list v st (length x.choice) (length x.list) (length x.block)

-- what is found in price, list, version and store by themselves: all checks, in areas of just the lengths needed
abbrev pub findings : Price → List ℕ → List ℕ → List ℕ → Ruling
findings price list v st = admit_ruling price list v st (length list / 12) (length list) (length v)

-- areas that are long enough for partition or pass of a list and a version
abbrev pub LongEnough : List ℕ → List ℕ → Areas → Type 0
LongEnough list v x = areas_fit list v (length x.choice) (length x.list) (length x.block) ≡ true
