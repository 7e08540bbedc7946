-- The call estimate (section 4.8): cost, entries and stored bytes as partition would give them; it writes the choice area alone and needs no other.
-- Assumes nothing.
use Rattle.std.specs.Prelude.{ℕ, ◌≡◌, List, length}
use Rattle.format.specs.Refusal.{Ruling, Answer, unless_refused}
use Rattle.price.specs.declared.Price.{Price}
use Rattle.price.specs.Price.{rates_of}
use Rattle.area.specs.Area.{over}
use Rattle.choice.specs.Choice.{bit_bytes, least_of}
use Rattle.admit.specs.Admit.{admit_ruling}
use Rattle.writer.specs.Decide.{decided_answer}

-- the order of clause 6.5, with 9 by the choice area alone, as list and stored block are given just the lengths that they need
abbrev pub estimate_ruling : Price → List ℕ → List ℕ → List ℕ → List ℕ → Ruling
estimate_ruling price list v st choice = admit_ruling price list v st (length choice) (length list) (length v)

-- cost, entries and stored bytes of the least choice
abbrev pub estimate_answer : Price → List ℕ → List ℕ → List ℕ → List ℕ → Answer
estimate_answer price list v st choice = decided_answer (estimate_ruling price list v st choice) (rates_of price) list (least_of price list) 0

-- the area begins with the least choice; bytes beyond are unchanged
abbrev pub estimate_area : Price → List ℕ → List ℕ → List ℕ → List ℕ → List ℕ
estimate_area price list v st choice = unless_refused (estimate_ruling price list v st choice) (over (bit_bytes (least_of price list)) choice) choice

-- the answer r, and the choice area after the call
pub record Estimated (price : Price) (list v st choice : List ℕ) (r : Answer) (after : List ℕ) : Type 0 where
  pub answered : r ≡ estimate_answer price list v st choice
  pub area_after : after ≡ estimate_area price list v st choice
