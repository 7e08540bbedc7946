-- Worked examples of commit, as one table: the choice, the version, the lengths of the areas for list and stored block, and the answer. The list of all is
-- N1 M2 M2, the first match at 0 of the store 65 66 65 66 67, the second at 3 and held; the price is EN = EM = 10 and F 256.
-- Assumes nothing.
use Rattle.std.specs.Prelude.{ℕ, ◌*◌, ◌≡◌, List, [], ◌∷◌, map, replicate, Ok, Err}
use Rattle.format.specs.declared.Fault.TheVariants.{Sizes, Mismatch, AreaTooShort, Choice}
use Rattle.format.specs.declared.Record.{Record}
use Rattle.format.specs.declared.Record.TheVariants.{New, Match}
use Rattle.format.specs.Refusal.{Answer, refuse}
use Rattle.format.specs.Record.{free_at, held_at, encode}
use Rattle.commit.specs.Commit.{commit_answer}

pub record Worked : Type 0 where
  pub choice : List ℕ
  pub version : List ℕ
  pub room : ℕ × ℕ
  pub told : Answer

abbrev pub worked : List ℕ → List ℕ → ℕ × ℕ → Answer → Worked
worked c v r a = record { choice = c; version = v; room = r; told = a }

-- so many disk bytes, entries and stored bytes
abbrev pub accepted : ℕ → ℕ → ℕ → Answer
accepted n e s = Ok (record { cost = 256 * n; entries = e; stored = s; looks = 0; whole = 0 })

abbrev pub mixed : List Record
mixed = New 1 ∷ Match 2 (free_at 0) ∷ Match 2 (held_at 3) ∷ []

abbrev pub v : List ℕ
v = 90 ∷ 65 ∷ 66 ∷ 66 ∷ 67 ∷ []

abbrev pub table : List Worked
table =
    -- the two choices that there are, in areas just long enough
    worked (1 ∷ 0 ∷ 0 ∷ []) v (36, 5) (accepted 31 3 1)
    ∷ worked (1 ∷ 1 ∷ 0 ∷ []) v (36, 5) (accepted 23 2 3)
    -- no byte for a record, and one too many
    ∷ worked [] v (36, 5) (Err (refuse Choice 0))
    ∷ worked (1 ∷ 0 ∷ []) v (36, 5) (Err (refuse Choice 0))
    ∷ worked (1 ∷ 0 ∷ 0 ∷ 0 ∷ []) v (36, 5) (Err (refuse Choice 0))
    -- a 0 for the new record, a byte over 1, a 1 for the held match; the first of two
    ∷ worked (0 ∷ 0 ∷ 0 ∷ []) v (36, 5) (Err (refuse Choice 0))
    ∷ worked (2 ∷ 0 ∷ 0 ∷ []) v (36, 5) (Err (refuse Choice 0))
    ∷ worked (1 ∷ 2 ∷ 0 ∷ []) v (36, 5) (Err (refuse Choice 1))
    ∷ worked (1 ∷ 0 ∷ 1 ∷ []) v (36, 5) (Err (refuse Choice 2))
    ∷ worked (1 ∷ 255 ∷ 1 ∷ []) v (36, 5) (Err (refuse Choice 1))
    -- the length is looked at before the bytes
    ∷ worked (1 ∷ 2 ∷ 0 ∷ 0 ∷ []) v (36, 5) (Err (refuse Choice 0))
    -- the short end comes before 12, and so does 8; 9 comes before them all, by either area
    ∷ worked (1 ∷ 2 ∷ 0 ∷ []) (90 ∷ 65 ∷ 66 ∷ 66 ∷ 67 ∷ 68 ∷ []) (36, 6) (Err (refuse Sizes 3))
    ∷ worked (1 ∷ 2 ∷ 0 ∷ []) (90 ∷ 65 ∷ 66 ∷ 66 ∷ 68 ∷ []) (36, 5) (Err (refuse Mismatch 2))
    ∷ worked (1 ∷ 2 ∷ 0 ∷ []) (90 ∷ 65 ∷ 66 ∷ 66 ∷ 68 ∷ []) (35, 5) (Err (refuse AreaTooShort 0))
    ∷ worked (1 ∷ 2 ∷ 0 ∷ []) (90 ∷ 65 ∷ 66 ∷ 66 ∷ 68 ∷ []) (36, 4) (Err (refuse AreaTooShort 0))
    ∷ []

-- an example as the definition has it
abbrev pub solved : Worked → Worked
solved s =
    let told = commit_answer (record { en = 10; em = 10; f = 256 }) (encode mixed) s.version (65 ∷ 66 ∷ 65 ∷ 66 ∷ 67 ∷ []) s.choice (replicate s.room.0 0) (replicate s.room.1 0) in
    worked s.choice s.version s.room told

-- the definition has each as the table has it
abbrev pub TableHolds : Type 0
TableHolds = map solved table ≡ table
