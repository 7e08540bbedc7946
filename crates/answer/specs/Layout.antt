-- The answer area (clauses 7.5 to 7.8).
--
--   OFFSET  SIZE  FIELD (lowest byte first; what a call does not give is 0)
--   0       4     number: 0 accepted
--   4       4     place
--   8       8     cost, in 256ths of a disk byte
--   16      4     entries
--   20      4     stored bytes
--   24      4     looks
--   28      4     whole length
-- Assumes nothing.
use Rattle.std.specs.Prelude.{ℕ, ◌/◌, ◌%◌, ◌≡◌, cond, List, ◌++◌, ltb, length, drop, Ok, Err}
use Rattle.format.specs.Refusal.{Answer, number}
use Rattle.format.specs.Record.{word}
use Rattle.answer.specs.declared.Told.{Told}

-- the number and values for each answer (clause 12.5)
abbrev pub told_of : Answer → Told
told_of (Ok x) =
    record { number = 0; place = 0; cost = x.cost; entries = x.entries; stored = x.stored; looks = x.looks; whole = x.whole }
told_of (Err r) =
    record { number = number r.fault; place = r.place; cost = 0; entries = 0; stored = 0; looks = 0; whole = 0 }

-- the 32 bytes
abbrev pub layout : Told → List ℕ
layout t =
    word t.number ++ word t.place ++ word (t.cost % 4294967296) ++ word (t.cost / 4294967296)
    ++ word t.entries ++ word t.stored ++ word t.looks ++ word t.whole

-- an answer area with the answer a over its first 32 bytes
abbrev pub given : Answer → List ℕ → List ℕ
given a area = layout (told_of a) ++ drop 32 area

-- the number r that is returned, and the answer area after the call: under 32 bytes, 9 and as it was
pub record Answered (a : Answer) (area : List ℕ) (r : ℕ) (after : List ℕ) : Type 0 where
  pub returned : r ≡ cond (ltb (length area) 32) 9 (told_of a).number
  pub area_after : after ≡ cond (ltb (length area) 32) area (given a area)

-- other areas after the call: as they were where the answer area is under 32 bytes
abbrev pub lent : {A : Type 0} → List ℕ → A → A → A
lent answer after before = cond (ltb (length answer) 32) before after
