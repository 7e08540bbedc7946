-- What a list means: its sizes, the stored block, the version it rebuilds, and the part that one record stands for.
-- Assumes nothing.
use Rattle.std.specs.Prelude.{ℕ, ◌+◌, List, [], ◌∷◌, ◌++◌, take, drop, get_or}
use Rattle.format.specs.declared.Record.{Record}
use Rattle.format.specs.declared.Record.TheVariants.{New, Match}

-- bytes covered
abbrev pub size_of : Record → ℕ
size_of (New s) = s
size_of (Match s a) = s

-- whole length: the sum of all sizes
abbrev pub whole : List Record → ℕ
whole [] = 0
whole (r ∷ l) = size_of r + whole l

-- stored bytes: the sum of the sizes of new records
abbrev pub stored : List Record → ℕ
stored [] = 0
stored (New s ∷ l) = s + stored l
stored (Match s a ∷ l) = stored l

-- the offset of record k: the sum of the sizes before it
abbrev pub offset : List Record → ℕ → ℕ
offset l k = whole (take k l)

-- the stored block of a list for the version v: the bytes of its new records, joined
abbrev pub block_of : List Record → List ℕ → List ℕ
block_of [] v = []
block_of (New s ∷ l) v = take s v ++ block_of l (drop s v)
block_of (Match s a ∷ l) v = block_of l (drop s v)

-- what a list rebuilds from a stored block b and a store st: the next stored bytes for a new record, the store's for a match
abbrev pub rebuilt : List Record → List ℕ → List ℕ → List ℕ
rebuilt [] b st = []
rebuilt (New s ∷ l) b st = take s b ++ rebuilt l (drop s b) st
rebuilt (Match s a ∷ l) b st = take s (drop a.address st) ++ rebuilt l b st

-- a stretch of the stored block or of the store: where it begins, and its size
pub data Part : Type 0 where
  of_block : ℕ → ℕ → Part
  of_store : ℕ → ℕ → Part

-- the part that a record stands for, where b stored bytes come before it
abbrev pub part_of : ℕ → Record → Part
part_of b (New s) = of_block b s
part_of b (Match s a) = of_store a.address s

-- the part that record k stands for
abbrev pub part_at : List Record → ℕ → Part
part_at l k = part_of (stored (take k l)) (get_or l k (New 0))
