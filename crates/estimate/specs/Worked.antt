-- Worked examples of estimate, as one table: the disk bytes that an entry costs, the list, the version, and the area for the choice before the call;
-- then the answer, and the area after it. The store of all is 65 66 67 68.
-- Assumes nothing.
use Rattle.std.specs.Prelude.{ℕ, ◌*◌, ◌≡◌, List, [], ◌∷◌, map, Ok, Err}
use Rattle.format.specs.declared.Source.{Source}
use Rattle.format.specs.declared.Fault.TheVariants as fault
use Rattle.format.specs.declared.Record.{Record}
use Rattle.format.specs.declared.Record.TheVariants.{New, Match}
use Rattle.format.specs.Refusal.{Answer, refuse}
use Rattle.format.specs.Record.{free_at, held_at, encode}
use Rattle.price.specs.declared.Price.{Price}
use Rattle.estimate.specs.Estimate.{estimate_answer, estimate_area}

pub record Worked : Type 0 where
  pub entry : ℕ
  pub list : List Record
  pub version : List ℕ
  pub before : List ℕ
  pub told : Answer
  pub after : List ℕ

abbrev pub worked : ℕ → List Record → List ℕ → List ℕ → Answer → List ℕ → Worked
worked e l v b t a = record { entry = e; list = l; version = v; before = b; told = t; after = a }

-- so many disk bytes, entries and stored bytes
abbrev pub accepted : ℕ → ℕ → ℕ → Answer
accepted n e s = Ok (record { cost = 256 * n; entries = e; stored = s; looks = 0; whole = 0 })

-- N1 M2, the match drawn from a; and its version for the address 0
abbrev pub pair : Source → List Record
pair a = New 1 ∷ Match 2 a ∷ []

abbrev pub v : List ℕ
v = 90 ∷ 65 ∷ 66 ∷ []

abbrev pub table : List Worked
table =
    -- kept, two entries and one byte; stored, one entry and three bytes; at 2 a tie, and the match is kept
    worked 1 (pair (free_at 0)) v (7 ∷ 7 ∷ []) (accepted 3 2 1) (1 ∷ 0 ∷ [])
    ∷ worked 2 (pair (free_at 0)) v (7 ∷ 7 ∷ []) (accepted 5 2 1) (1 ∷ 0 ∷ [])
    ∷ worked 3 (pair (free_at 0)) v (7 ∷ 7 ∷ []) (accepted 6 1 3) (1 ∷ 1 ∷ [])
    -- a held match is kept
    ∷ worked 3 (pair (held_at 0)) v (7 ∷ 7 ∷ []) (accepted 7 2 1) (1 ∷ 0 ∷ [])
    -- matches that go on in the store are one entry, with a byte of choice each; bytes beyond are unchanged
    ∷ worked 3 (Match 2 (free_at 0) ∷ Match 2 (free_at 2) ∷ []) (65 ∷ 66 ∷ 67 ∷ 68 ∷ []) (7 ∷ 7 ∷ 7 ∷ 7 ∷ []) (accepted 3 1 0) (0 ∷ 0 ∷ 7 ∷ 7 ∷ [])
    -- refused, and nothing is written: the match differs; the short end; 9 by the area for the choice, before both; 1 before that
    ∷ worked 3 (pair (free_at 1)) v (7 ∷ 7 ∷ []) (Err (refuse fault.Mismatch 1)) (7 ∷ 7 ∷ [])
    ∷ worked 3 (pair (free_at 0)) (90 ∷ 65 ∷ 66 ∷ 67 ∷ []) (7 ∷ 7 ∷ []) (Err (refuse fault.Sizes 2)) (7 ∷ 7 ∷ [])
    ∷ worked 3 (pair (free_at 1)) v (7 ∷ []) (Err (refuse fault.AreaTooShort 0)) (7 ∷ [])
    ∷ worked 3 (pair (free_at 0)) (90 ∷ 65 ∷ 66 ∷ 67 ∷ []) (7 ∷ []) (Err (refuse fault.AreaTooShort 0)) (7 ∷ [])
    ∷ worked 0 (pair (free_at 0)) v (7 ∷ []) (Err (refuse fault.Price 0)) (7 ∷ [])
    ∷ []

-- an example as the definition has it
abbrev pub solved : Worked → Worked
solved s =
    let price : Price = record { en = s.entry; em = s.entry; f = 256 } in
    let st : List ℕ = 65 ∷ 66 ∷ 67 ∷ 68 ∷ [] in
    let told = estimate_answer price (encode s.list) s.version st s.before in
    let after = estimate_area price (encode s.list) s.version st s.before in
    worked s.entry s.list s.version s.before told after

-- the definition has each as the table has it
abbrev pub TableHolds : Type 0
TableHolds = map solved table ≡ table
