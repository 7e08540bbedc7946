-- Well-formed lists (clauses 1.7 to 1.10).
-- Assumes nothing.
use Rattle.std.specs.Prelude.{ℕ, ◌+◌, ◌≤◌, ◌≡◌, List, [], ◌∷◌, length, take, drop}
use Rattle.format.specs.declared.Record.{Record}
use Rattle.format.specs.declared.Record.TheVariants.{New, Match}
use Rattle.format.specs.Limits.{version_most}
use Rattle.format.specs.Meaning.{size_of, whole, stored}

-- every size is 1 or more
abbrev pub Sized : List Record → Type 0
Sized [] = Unit {0}
Sized (r ∷ l) = (1 ≤ size_of r) × Sized l

-- the list does not begin with a new record
abbrev pub NotNew : List Record → Type 0
NotNew [] = Unit {0}
NotNew (New s ∷ l) = ⊥
NotNew (Match s a ∷ l) = Unit {0}

-- two new records never stand next to each other
abbrev pub Apart : List Record → Type 0
Apart [] = Unit {0}
Apart (New s ∷ l) = NotNew l × Apart l
Apart (Match s a ∷ l) = Apart l

-- every match lies in the store st
abbrev pub Inside : List ℕ → List Record → Type 0
Inside st [] = Unit {0}
Inside st (New s ∷ l) = Inside st l
Inside st (Match s a ∷ l) = (a.address + s ≤ length st) × Inside st l

-- the sizes add up to the length of the version v, and a match's bytes in v equal those in the store st
abbrev pub Agrees : List ℕ → List Record → List ℕ → Type 0
Agrees st [] v = v ≡ []
Agrees st (New s ∷ l) v = (s ≤ length v) × Agrees st l (drop s v)
Agrees st (Match s a ∷ l) v = (s ≤ length v) × (a.address + s ≤ length st) × (take s v ≡ take s (drop a.address st)) × Agrees st l (drop s v)

-- a list of the version v against the store st
pub record WellFormed (st : List ℕ) (l : List Record) (v : List ℕ) : Type 0 where
  pub sized : Sized l
  pub apart : Apart l
  pub agrees : Agrees st l v

-- a list that can be rebuilt from a stored block and a store
pub record Readable (l : List Record) (block st : List ℕ) : Type 0 where
  pub sized : Sized l
  pub apart : Apart l
  pub inside : Inside st l
  pub whole_most : whole l ≤ version_most
  pub block_fits : length block ≡ stored l
