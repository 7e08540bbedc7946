-- Checks 4 to 8 (clauses 5.4 to 5.8), and 15 and 16 of a volume's chunk, made record by record: which a call makes, and what the first that fails says.
-- Assumes nothing.
use Rattle.std.specs.Prelude.{ℕ, ◌+◌, Bool, true, false, not, ◌&&◌, ◌||◌, cond, List, [], ◌∷◌, ◌++◌, leb, length, take, drop, Ok}
use Rattle.format.specs.declared.Fault.{Fault}
use Rattle.format.specs.declared.Fault.TheVariants.{Malformed, Adjacent, Sizes, OutsideStore, Mismatch, OutsideEarlier, VolumeTooLong}
use Rattle.format.specs.declared.Row.{Row}
use Rattle.format.specs.Refusal.{Ruling, need, ◌then◌}
use Rattle.format.specs.Limits.{version_most, volume_most}
use Rattle.format.specs.Record.{is_new, well_formed, rows_of}
use Rattle.words.specs.Same.{same_bytes}
use Rattle.walk.specs.declared.Seen.{Seen}
use Rattle.walk.specs.declared.Scope.{Scope}
use Rattle.walk.specs.declared.Scope.TheVariants as scope

-- a match ends no later than at n
abbrev pub within : Row → ℕ → Bool
within r n = leb (r.address + r.size) n

-- a test of a record, by what was seen before it, and the fault where it does not hold
pub record Check : Type 0 where
  pub fault : Fault
  pub holds : Seen → Row → Bool

abbrev pub four : Check
four = record { fault = Malformed; holds = λ s r. well_formed r }

abbrev pub five : Check
five = record { fault = Adjacent; holds = λ s r. not (is_new r && s.fresh) }

abbrev pub six : ℕ → Check
six limit = record { fault = Sizes; holds = λ s r. leb (s.offset + r.size) limit }

-- a match lies in a store of n bytes
abbrev pub seven : ℕ → Check
seven n = record { fault = OutsideStore; holds = λ s r. is_new r || within r n }

abbrev pub eight : List ℕ → List ℕ → Check
eight v st = record { fault = Mismatch; holds = λ s r. is_new r || same_bytes (take r.size (drop s.offset v)) (take r.size (drop r.address st)) }

-- a match lies in the n bytes that are rebuilt before its chunk
abbrev pub fifteen : ℕ → Check
fifteen n = record { fault = OutsideEarlier; holds = λ s r. is_new r || within r n }

-- with this record the volume, of which n bytes are rebuilt before its chunk, does not pass its greatest length
abbrev pub sixteen : ℕ → Check
sixteen n = record { fault = VolumeTooLong; holds = λ s r. leb (n + (s.offset + r.size)) volume_most }

-- the version's length, or the greatest length of one where the call has no version
abbrev pub limit_of : Scope → List ℕ → ℕ
limit_of scope.Sizes v = version_most
limit_of scope.Store v = version_most
limit_of scope.Loose v = version_most
limit_of scope.Version v = length v
limit_of scope.LooseVersion v = length v
limit_of (scope.Chunk n) v = version_most

-- new records may not stand side by side, but in a loose list (clause 1.14)
abbrev pub tight : Scope → Bool
tight scope.Sizes = true
tight scope.Store = true
tight scope.Loose = false
tight scope.Version = true
tight scope.LooseVersion = false
tight (scope.Chunk n) = true

-- check 5, where it is made
abbrev pub neighbours : Scope → List Check
neighbours x = cond (tight x) (five ∷ []) []

-- check 16, where it is made: of a chunk, behind n bytes
abbrev pub together : Scope → List Check
together scope.Sizes = []
together scope.Store = []
together scope.Loose = []
together scope.Version = []
together scope.LooseVersion = []
together (scope.Chunk n) = sixteen n ∷ []

-- a call without a store makes neither 7 nor 8, one without a version no 8; of a chunk 16 comes first, and 15 stands in the place of 7
abbrev pub beyond : Scope → List ℕ → List ℕ → List Check
beyond scope.Sizes v st = []
beyond scope.Store v st = seven (length st) ∷ []
beyond scope.Loose v st = seven (length st) ∷ []
beyond scope.Version v st = seven (length st) ∷ eight v st ∷ []
beyond scope.LooseVersion v st = seven (length st) ∷ eight v st ∷ []
beyond (scope.Chunk n) v st = sixteen n ∷ fifteen n ∷ []

-- record by record 4, 5, 6, 7, 8 (clause 6.5); of a chunk 4, 5, 6, 16, 15
abbrev pub checks : Scope → List ℕ → List ℕ → List Check
checks x v st = four ∷ neighbours x ++ six (limit_of x v) ∷ beyond x v st

-- one record: the first check that fails, at the record's place
abbrev pub judged : List Check → Seen → Row → Ruling
judged [] s r = Ok tt
judged (c ∷ cs) s r = need (c.holds s r) c.fault s.place then judged cs s r

-- what is seen after a record
abbrev pub next : Seen → Row → Seen
next s r = record { place = s.place + 1; offset = s.offset + r.size; stored = cond (is_new r) (s.stored + r.size) s.stored; fresh = is_new r }

-- the records one after the other
abbrev pub walk_on : List Check → Seen → List Row → Ruling
walk_on cs s [] = Ok tt
walk_on cs s (r ∷ rs) = judged cs s r then walk_on cs (next s r) rs

abbrev pub front : Seen
front = record { place = 0; offset = 0; stored = 0; fresh = false }

abbrev pub walk_ruling : List Check → List ℕ → Ruling
walk_ruling cs list = walk_on cs front (rows_of list)
