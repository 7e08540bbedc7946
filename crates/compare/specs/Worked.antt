-- Worked examples of compare, as one table: two lists with their stored blocks, and the answer. The store of all is the bytes 65 66 65 66 67.
-- Assumes nothing.
use Rattle.std.specs.Prelude.{ℕ, ◌≡◌, List, [], ◌∷◌, map, Err}
use Rattle.format.specs.declared.Fault.TheVariants.{Malformed, Adjacent, OutsideStore, BlockLength}
use Rattle.format.specs.declared.Record.{Record}
use Rattle.format.specs.declared.Record.TheVariants.{New, Match}
use Rattle.format.specs.Refusal.{Answer, refuse}
use Rattle.format.specs.Record.{free_at, held_at, encode}
use Rattle.compare.specs.Compare.{says_yes, says_no, compared}

pub record Worked : Type 0 where
  pub first : List Record
  pub second : List Record
  pub block₁ : List ℕ
  pub block₂ : List ℕ
  pub told : Answer

abbrev pub worked : List Record → List ℕ → List Record → List ℕ → Answer → Worked
worked l b m c a = record { first = l; second = m; block₁ = b; block₂ = c; told = a }

abbrev pub store : List ℕ
store = 65 ∷ 66 ∷ 65 ∷ 66 ∷ 67 ∷ []

abbrev pub table : List Worked
table =
    -- two empty lists; an empty one and one byte
    worked [] [] [] [] says_yes
    ∷ worked [] [] (Match 1 (free_at 0) ∷ []) [] says_no
    -- cut differently: two matches and the run that they are; cuts that cross each other; a mark that changes at the cut
    ∷ worked (New 2 ∷ Match 3 (free_at 2) ∷ []) (65 ∷ 66 ∷ []) (New 2 ∷ Match 1 (free_at 2) ∷ Match 2 (free_at 3) ∷ []) (65 ∷ 66 ∷ []) says_yes
    ∷ worked (Match 1 (held_at 0) ∷ Match 4 (held_at 1) ∷ []) [] (Match 3 (held_at 0) ∷ Match 1 (held_at 3) ∷ Match 1 (held_at 4) ∷ []) [] says_yes
    ∷ worked (Match 2 (held_at 0) ∷ Match 3 (free_at 2) ∷ []) [] (Match 3 (held_at 0) ∷ Match 2 (free_at 3) ∷ []) [] says_no
    -- the same bytes from different places of the store; with other marks, of all bytes and of the last
    ∷ worked (Match 2 (free_at 0) ∷ []) [] (Match 2 (free_at 2) ∷ []) [] says_no
    ∷ worked (Match 2 (held_at 0) ∷ Match 3 (free_at 2) ∷ []) [] (Match 2 (free_at 0) ∷ Match 3 (free_at 2) ∷ []) [] says_no
    ∷ worked (Match 5 (free_at 0) ∷ []) [] (Match 4 (free_at 0) ∷ Match 1 (held_at 4) ∷ []) [] says_no
    -- the same bytes, new in one and drawn in the other: all of them; and with equal stored blocks
    ∷ worked (New 5 ∷ []) (65 ∷ 66 ∷ 65 ∷ 66 ∷ 67 ∷ []) (Match 5 (free_at 0) ∷ []) [] says_no
    ∷ worked (New 2 ∷ Match 3 (free_at 2) ∷ []) (65 ∷ 66 ∷ []) (Match 3 (free_at 0) ∷ New 2 ∷ []) (66 ∷ 67 ∷ []) says_no
    ∷ worked (New 2 ∷ Match 2 (free_at 0) ∷ []) (65 ∷ 66 ∷ []) (Match 2 (free_at 0) ∷ New 2 ∷ []) (65 ∷ 66 ∷ []) says_no
    -- the same origins, and a difference in the last stored byte; other bytes drawn
    ∷ worked (New 2 ∷ []) (65 ∷ 66 ∷ []) (New 2 ∷ []) (65 ∷ 67 ∷ []) says_no
    ∷ worked (Match 1 (free_at 0) ∷ Match 1 (free_at 1) ∷ []) [] (Match 1 (free_at 0) ∷ Match 1 (free_at 4) ∷ []) [] says_no
    -- one is a prefix of the other, drawn and stored
    ∷ worked (Match 4 (free_at 0) ∷ []) [] (Match 5 (free_at 0) ∷ []) [] says_no
    ∷ worked (Match 5 (free_at 0) ∷ []) [] (Match 4 (free_at 0) ∷ []) [] says_no
    ∷ worked (New 1 ∷ []) (65 ∷ []) (New 1 ∷ Match 1 (free_at 0) ∷ []) (65 ∷ []) says_no
    -- the first list's refusal stands, the second list's being 4 at 0; else the second list's, with its own place
    ∷ worked (Match 2 (free_at 0) ∷ Match 3 (free_at 3) ∷ []) [] (New 0 ∷ []) [] (Err (refuse OutsideStore 1))
    ∷ worked (New 1 ∷ []) [] (New 0 ∷ []) [] (Err (refuse BlockLength 0))
    ∷ worked (New 1 ∷ []) (65 ∷ []) (Match 1 (free_at 0) ∷ New 0 ∷ []) [] (Err (refuse Malformed 1))
    ∷ worked (New 1 ∷ []) (65 ∷ []) (New 1 ∷ New 1 ∷ []) (65 ∷ 66 ∷ []) (Err (refuse Adjacent 1))
    ∷ worked (New 1 ∷ []) (65 ∷ []) (New 1 ∷ []) [] (Err (refuse BlockLength 0))
    ∷ []

-- an example as the definition has it
abbrev pub solved : Worked → Worked
solved s = worked s.first s.block₁ s.second s.block₂ (compared (encode s.first) (encode s.second) s.block₁ s.block₂ store)

-- the definition has each as the table has it
abbrev pub TableHolds : Type 0
TableHolds = map solved table ≡ table
