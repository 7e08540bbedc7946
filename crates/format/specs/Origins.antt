-- Where each byte of a version comes from, by the records of its list; and whether it comes from the same place by another. Which list is tidy with given
-- origins is said in the crate join.
-- Assumes nothing.
use Rattle.std.specs.Prelude.{ℕ, Bool, true, false, ◌&&◌, List, [], ◌∷◌, ◌++◌, map, eqb, get_or, replicate}
use Rattle.std.specs.Bool.{beq}
use Rattle.format.specs.declared.Source.{Source}
use Rattle.format.specs.declared.Record.{Record}
use Rattle.format.specs.declared.Record.TheVariants.{New, Match}
use Rattle.format.specs.Record.{from}

-- a byte is new, or drawn from an address of the store by a match that is held or not
pub data Origin : Type 0 where
  fresh : Origin
  drawn : Source → Origin

-- drawn from address i, with this mark
abbrev pub drawn_at : Bool → ℕ → Origin
drawn_at held i = drawn (record { address = i; held = held })

-- the origin of each byte that a record covers: those of a match lie one after the other in the store
abbrev pub origins_of : Record → List Origin
origins_of (New s) = replicate s fresh
origins_of (Match s a) = from (drawn_at a.held) a.address s

-- the origin of each byte of the version
abbrev pub origins : List Record → List Origin
origins [] = []
origins (r ∷ l) = origins_of r ++ origins l

-- the origin of byte i of the version (clause 3.13)
abbrev pub origin_at : List Record → ℕ → Origin
origin_at l i = get_or (origins l) i fresh

-- the same address with the same mark
abbrev pub same_source : Source → Source → Bool
same_source a b = beq a.held b.held && eqb a.address b.address

-- two bytes have the same origin: new in both, or drawn from the same address with the same mark
abbrev pub same_origin : Origin → Origin → Bool
same_origin fresh fresh = true
same_origin fresh (drawn b) = false
same_origin (drawn a) fresh = false
same_origin (drawn a) (drawn b) = same_source a b

-- as many bytes in both, and each has the same origin in both
abbrev pub same_origins : List Origin → List Origin → Bool
same_origins [] [] = true
same_origins [] (u ∷ us) = false
same_origins (o ∷ os) [] = false
same_origins (o ∷ os) (u ∷ us) = same_origin o u && same_origins os us

-- a record of one byte of this origin, and one for each of some origins
abbrev pub single : Origin → Record
single fresh = New 1
single (drawn a) = Match 1 a

abbrev pub singles : List Origin → List Record
singles os = map single os
