-- Worked examples of check_loose and tidy, as one table (clause 10.10): the list, and tidy's area before the call; then what check_loose answers, what
-- tidy answers, and the area after it. The store of all is 65 66 65 66 67.
-- Assumes nothing.
use Rattle.std.specs.Prelude.{ℕ, ◌≡◌, List, [], ◌∷◌, ◌++◌, map, length, replicate, Ok, Err}
use Rattle.format.specs.declared.Fault.TheVariants as fault
use Rattle.format.specs.declared.Record.{Record}
use Rattle.format.specs.declared.Record.TheVariants.{New, Match}
use Rattle.format.specs.Refusal.{Answer, refuse, length_only, entries_only}
use Rattle.format.specs.Record.{free_at, held_at, encode}
use Rattle.loose.specs.Loose.{loose_checked, tidy_answer, tidy_area}

pub record Worked : Type 0 where
  pub list : List ℕ
  pub before : List ℕ
  pub loose : Answer
  pub told : Answer
  pub after : List ℕ

-- bytes that no call wrote
abbrev pub blank : ℕ → List ℕ
blank n = replicate n 7

-- a list that both calls accept, in an area of so many bytes; its tidy form, and how many bytes of the area stay
abbrev pub becomes : List Record → ℕ → List Record → ℕ → Worked
becomes l room t stay =
    record { list = encode l; before = blank room; loose = Ok (length_only 0); told = Ok (entries_only (length t)); after = encode t ++ blank stay }

-- a list that tidy refuses, in an area of so many bytes, which stay; and what check_loose says of it
abbrev pub refused : List ℕ → ℕ → Answer → Answer → Worked
refused list room loose told = record { list = list; before = blank room; loose = loose; told = told; after = blank room }

-- that both refuse alike
abbrev pub both : List ℕ → ℕ → Answer → Worked
both list room told = refused list room told told

abbrev pub short : Answer
short = Err (refuse fault.AreaTooShort 0)

abbrev pub m : ℕ → ℕ → Record
m s a = Match s (free_at a)

abbrev pub h : ℕ → ℕ → Record
h s a = Match s (held_at a)

abbrev pub table : List Worked
table =
    -- none; new records side by side
    becomes [] 0 [] 0
    ∷ becomes (New 1 ∷ New 1 ∷ []) 24 (New 2 ∷ []) 12
    ∷ becomes (New 1 ∷ New 2 ∷ New 1 ∷ []) 36 (New 4 ∷ []) 24
    -- matches that go on; one byte apart; with different marks
    ∷ becomes (m 1 0 ∷ m 1 1 ∷ []) 24 (m 2 0 ∷ []) 12
    ∷ becomes (m 2 0 ∷ m 2 2 ∷ []) 24 (m 4 0 ∷ []) 12
    ∷ becomes (m 2 0 ∷ m 2 3 ∷ []) 24 (m 2 0 ∷ m 2 3 ∷ []) 0
    ∷ becomes (m 2 0 ∷ h 2 2 ∷ []) 24 (m 2 0 ∷ h 2 2 ∷ []) 0
    ∷ becomes (h 1 0 ∷ h 1 1 ∷ m 1 2 ∷ []) 36 (h 2 0 ∷ m 1 2 ∷ []) 12
    -- both kinds; and bytes beyond
    ∷ becomes (New 1 ∷ m 1 0 ∷ m 1 1 ∷ New 1 ∷ New 1 ∷ []) 60 (New 1 ∷ m 2 0 ∷ New 2 ∷ []) 24
    ∷ becomes (New 1 ∷ New 1 ∷ []) 25 (New 2 ∷ []) 13
    -- refused, and nothing is written: 9 by the length of the list handed in, before the records; 4, 6 and 7 at theirs; 3 before 9
    ∷ refused (encode (New 1 ∷ New 1 ∷ [])) 23 (Ok (length_only 0)) short
    ∷ both (encode (New 1 ∷ New 0 ∷ [])) 24 (Err (refuse fault.Malformed 1))
    ∷ refused (encode (New 1 ∷ New 0 ∷ [])) 23 (Err (refuse fault.Malformed 1)) short
    ∷ both (encode (New 1 ∷ New 16777216 ∷ [])) 24 (Err (refuse fault.Sizes 1))
    ∷ both (encode (New 1 ∷ New 1 ∷ m 2 4 ∷ [])) 36 (Err (refuse fault.OutsideStore 2))
    ∷ both (blank 13) 13 (Err (refuse fault.ListLength 0))
    ∷ both (blank 13) 12 (Err (refuse fault.ListLength 0))
    ∷ []

-- an example as the definitions have it
abbrev pub solved : Worked → Worked
solved s =
    let st : List ℕ = 65 ∷ 66 ∷ 65 ∷ 66 ∷ 67 ∷ [] in
    record { list = s.list; before = s.before; loose = loose_checked s.list st; told = tidy_answer s.list st s.before; after = tidy_area s.list st s.before }

-- the definitions have each as the table has it
abbrev pub TableHolds : Type 0
TableHolds = map solved table ≡ table
