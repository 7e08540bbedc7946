-- Records cut in two, and lists from a byte on.
-- Assumes nothing.
use Rattle.std.specs.Prelude.{ℕ, ◌+◌, ◌-◌, ◌≤◌, cond, List, [], ◌∷◌, ltb}
use Rattle.format.specs.declared.Source.{Source}
use Rattle.format.specs.declared.Record.{Record}
use Rattle.format.specs.declared.Record.TheVariants.{New, Match}
use Rattle.format.specs.Limits.{store_most}
use Rattle.format.specs.Meaning.{size_of}

-- the first n bytes of a record
abbrev pub lead : ℕ → Record → Record
lead n (New s) = New n
lead n (Match s a) = Match n a

-- a source n bytes on
abbrev pub moved_on : ℕ → Source → Source
moved_on n a = record { address = a.address + n; held = a.held }

-- what is left of a record after its first n bytes
abbrev pub cut : ℕ → Record → Record
cut n (New s) = New (s - n)
cut n (Match s a) = Match (s - n) (moved_on n a)

-- a list without the first n bytes of its first record
abbrev pub without : ℕ → List Record → List Record
without n [] = []
without n (r ∷ l) = cut n r ∷ l

-- the list r ∷ l from its byte n on, n at most the size of r
abbrev pub rest : ℕ → Record → List Record → List Record
rest n r l = cond (ltb n (size_of r)) (cut n r ∷ l) l

-- where a match ends in the store
abbrev pub end_of : Record → ℕ
end_of (New s) = 0
end_of (Match s a) = a.address + s

-- every match ends within the longest store
abbrev pub Reaching : List Record → Type 0
Reaching [] = Unit {0}
Reaching (r ∷ l) = (end_of r ≤ store_most) × Reaching l
