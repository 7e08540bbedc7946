-- Which neighbouring records join, and the tidy form of a list or of given origins: clauses 3.4 to 3.7, 3.12 and 3.13.
-- Assumes nothing.
use Rattle.std.specs.Prelude.{ℕ, ◌+◌, ◌≡◌, Bool, true, false, ◌&&◌, cond, List, [], ◌∷◌, eqb}
use Rattle.std.specs.Bool.{beq}
use Rattle.format.specs.declared.Source.{Source}
use Rattle.format.specs.declared.Record.{Record}
use Rattle.format.specs.declared.Record.TheVariants.{New, Match}
use Rattle.format.specs.Meaning.{size_of}
use Rattle.format.specs.Origins.{Origin, singles}

-- whether a match of s bytes drawn from a goes on in one drawn from b: its address is the first's address plus size, and both marks are equal (clause 3.6)
abbrev pub goes_on : ℕ → Source → Source → Bool
goes_on s a b = beq a.held b.held && eqb (a.address + s) b.address

-- whether two neighbours join: new records do, and matches do where the first goes on in the second
abbrev pub joins : Record → Record → Bool
joins (New s) (New t) = true
joins (New s) (Match t b) = false
joins (Match s a) (New t) = false
joins (Match s a) (Match t b) = goes_on s a b

-- a record that another of t bytes joined
abbrev pub grown : Record → ℕ → Record
grown (New s) t = New (s + t)
grown (Match s a) t = Match (s + t) a

-- whether a record joins the first of a list
abbrev pub joins_first : Record → List Record → Bool
joins_first r [] = false
joins_first r (q ∷ l) = joins r q

-- a record put before a list: it joins the first of the list, or stays by itself
abbrev pub join : Record → List Record → List Record
join r [] = r ∷ []
join r (q ∷ l) = cond (joins r q) (grown r (size_of q) ∷ l) (r ∷ q ∷ l)

-- each longest run of records that join becomes one
abbrev pub tidy : List Record → List Record
tidy [] = []
tidy (r ∷ l) = join r (tidy l)

-- the tidy list with these origins, one for each byte of the version
abbrev pub gather : List Origin → List Record
gather os = tidy (singles os)

-- no two neighbours join
abbrev pub Settled : List Record → Type 0
Settled [] = Unit {0}
Settled (r ∷ l) = (joins_first r l ≡ false) × Settled l
