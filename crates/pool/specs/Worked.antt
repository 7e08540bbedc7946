-- Worked examples of pool, as one table (clause 10.11): the two lists, the version, and the area before the call; then what pool answers, and the area
-- after it. The store of all is ABABC.
-- Assumes nothing.
use Rattle.std.specs.Prelude.{ℕ, ◌≡◌, List, [], ◌∷◌, ◌++◌, map, length, replicate, Ok, Err}
use Rattle.format.specs.declared.Fault.{Fault}
use Rattle.format.specs.declared.Fault.TheVariants as fault
use Rattle.format.specs.declared.Record.{Record}
use Rattle.format.specs.declared.Record.TheVariants.{New, Match}
use Rattle.format.specs.Refusal.{Answer, refuse, entries_only}
use Rattle.format.specs.Record.{free_at, held_at, encode}
use Rattle.pool.specs.Pool.{pool_answer, pool_area}

pub record Worked : Type 0 where
  pub first : List ℕ
  pub second : List ℕ
  pub version : List ℕ
  pub before : List ℕ
  pub told : Answer
  pub after : List ℕ

-- bytes that no call wrote
abbrev pub blank : ℕ → List ℕ
blank n = replicate n 7

-- two lists of a version that become this one, in an area longer by so many bytes, which stay
abbrev pub becomes : List Record → List Record → List ℕ → List Record → ℕ → Worked
becomes l k v p stay =
    record { first = encode l; second = encode k; version = v; before = blank (length (encode p)) ++ blank stay; told = Ok (entries_only (length p)); after = encode p ++ blank stay }

-- two lists of a version that are refused, in an area of so many bytes, which stay
abbrev pub refused : List ℕ → List ℕ → List ℕ → ℕ → Fault → ℕ → Worked
refused list₁ list₂ v room f place = record { first = list₁; second = list₂; version = v; before = blank room; told = Err (refuse f place); after = blank room }

abbrev pub m : ℕ → ℕ → Record
m s a = Match s (free_at a)

abbrev pub h : ℕ → ℕ → Record
h s a = Match s (held_at a)

-- the store, and versions
abbrev pub abab : List ℕ
abab = 65 ∷ 66 ∷ 65 ∷ 66 ∷ []

abbrev pub ababc : List ℕ
ababc = 65 ∷ 66 ∷ 65 ∷ 66 ∷ 67 ∷ []

abbrev pub table : List Worked
table =
    -- none; the first's match, then the second's where the first is new, then neither; new in both
    becomes [] [] [] [] 0
    ∷ becomes (m 2 0 ∷ New 3 ∷ []) (New 2 ∷ m 2 3 ∷ New 1 ∷ []) (65 ∷ 66 ∷ 66 ∷ 67 ∷ 90 ∷ []) (m 2 0 ∷ m 2 3 ∷ New 1 ∷ []) 0
    ∷ becomes (New 1 ∷ New 4 ∷ []) (New 3 ∷ New 2 ∷ []) (86 ∷ 87 ∷ 88 ∷ 89 ∷ 90 ∷ []) (New 5 ∷ []) 0
    -- both match: the first's address and mark, for as far as it goes; the second's match goes on behind it, with its address moved on
    ∷ becomes (m 2 2 ∷ New 2 ∷ []) (m 4 0 ∷ []) abab (m 2 2 ∷ m 2 2 ∷ []) 0
    ∷ becomes (New 1 ∷ m 1 3 ∷ New 2 ∷ []) (m 4 0 ∷ []) abab (m 1 0 ∷ m 1 3 ∷ m 2 2 ∷ []) 0
    ∷ becomes (h 2 2 ∷ New 2 ∷ []) (m 4 0 ∷ []) abab (h 2 2 ∷ m 2 2 ∷ []) 0
    ∷ becomes (m 2 2 ∷ New 2 ∷ []) (h 4 0 ∷ []) abab (m 2 2 ∷ h 2 2 ∷ []) 0
    -- pieces of the two lists that go on in each other are one record; but not where the marks differ
    ∷ becomes (m 2 0 ∷ New 3 ∷ []) (New 2 ∷ m 3 2 ∷ []) ababc (m 5 0 ∷ []) 0
    ∷ becomes (New 1 ∷ m 2 1 ∷ New 2 ∷ []) (m 5 0 ∷ []) ababc (m 5 0 ∷ []) 0
    ∷ becomes (New 1 ∷ h 2 1 ∷ New 2 ∷ []) (h 5 0 ∷ []) ababc (h 5 0 ∷ []) 0
    ∷ becomes (m 2 0 ∷ New 3 ∷ []) (New 2 ∷ h 3 2 ∷ []) ababc (m 2 0 ∷ h 3 2 ∷ []) 0
    -- a loose list with itself; with a list of no match, on either side: the tidy form
    ∷ becomes (New 1 ∷ New 1 ∷ m 1 0 ∷ m 1 1 ∷ []) (New 1 ∷ New 1 ∷ m 1 0 ∷ m 1 1 ∷ []) (89 ∷ 90 ∷ 65 ∷ 66 ∷ []) (New 2 ∷ m 2 0 ∷ []) 0
    ∷ becomes (New 5 ∷ []) (m 2 0 ∷ m 3 2 ∷ []) ababc (m 5 0 ∷ []) 0
    ∷ becomes (m 2 0 ∷ m 3 2 ∷ []) (New 5 ∷ []) ababc (m 5 0 ∷ []) 0
    -- bytes beyond stay; 9 by the length of the result
    ∷ becomes (m 2 0 ∷ New 3 ∷ []) (New 2 ∷ m 3 2 ∷ []) ababc (m 5 0 ∷ []) 13
    ∷ refused (encode (m 2 0 ∷ New 3 ∷ [])) (encode (New 2 ∷ m 3 2 ∷ [])) ababc 11 fault.AreaTooShort 0
    -- the first list wholly before the second, and both before 9
    ∷ refused (encode (m 2 0 ∷ m 3 3 ∷ [])) (encode (New 0 ∷ [])) ababc 24 fault.OutsideStore 1
    ∷ refused (encode (m 2 0 ∷ New 2 ∷ [])) (blank 13) ababc 24 fault.Sizes 2
    ∷ refused (encode (m 5 0 ∷ [])) (blank 13) ababc 24 fault.ListLength 0
    ∷ refused (encode (New 5 ∷ [])) (encode (m 2 0 ∷ m 3 2 ∷ [])) (65 ∷ 66 ∷ 65 ∷ 66 ∷ 90 ∷ []) 0 fault.Mismatch 1
    ∷ refused (encode (m 5 0 ∷ [])) (encode (New 2 ∷ New 2 ∷ [])) ababc 0 fault.Sizes 2
    ∷ refused (encode (m 5 0 ∷ [])) (encode (m 5 0 ∷ New 1 ∷ [])) ababc 24 fault.Sizes 1
    ∷ []

-- an example as the definitions have it
abbrev pub solved : Worked → Worked
solved s =
    record {
      first = s.first;
      second = s.second;
      version = s.version;
      before = s.before;
      told = pool_answer s.first s.second s.version ababc s.before;
      after = pool_area s.first s.second s.version ababc s.before;
    }

-- the definitions have each as the table has it
abbrev pub TableHolds : Type 0
TableHolds = map solved table ≡ table
