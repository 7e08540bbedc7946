-- The call partition (section 4.7): the answer, and every area after the call, for any inputs.
-- Assumes nothing.
use Rattle.std.specs.Prelude.{ℕ, List}
use Rattle.format.specs.Refusal.{Answer}
use Rattle.price.specs.declared.Price.{Price}
use Rattle.price.specs.Price.{rates_of}
use Rattle.area.specs.Area.{Areas}
use Rattle.choice.specs.Choice.{least_of}
use Rattle.admit.specs.Admit.{partition_ruling}
use Rattle.writer.specs.Decide.{decided_answer, decided_areas, Decided}

-- the answer carries cost, entries and stored bytes of the least choice's list
abbrev pub partition_answer : Price → List ℕ → List ℕ → List ℕ → Areas → Answer
partition_answer price list v st before = decided_answer (partition_ruling price list v st before) (rates_of price) list (least_of price list) 0

-- the areas begin with the least choice, its list and its stored block; bytes beyond are unchanged
abbrev pub partition_areas : Price → List ℕ → List ℕ → List ℕ → Areas → Areas
partition_areas price list v st before = decided_areas (partition_ruling price list v st before) list v (least_of price list) before

-- the answer r, and the areas after the call
abbrev pub Partitioned : Price → List ℕ → List ℕ → List ℕ → Areas → Answer → Areas → Type 0
Partitioned price list v st before r after = Decided (partition_ruling price list v st before) (rates_of price) list v (least_of price list) 0 before r after
