-- A call that meets the clauses of partition's contract, as the laws speak of it.
-- Assumes nothing.
use Prim.Native.Nat.{ℕ}
use mathlib.Core.Path.{◌≡◌}
use mathlib.Core.List.{List}
use Rattle.format.specs.Refusal.{Answer}
use Rattle.price.specs.declared.Price.{Price}
use Rattle.area.specs.Area.{Areas}
use Rattle.call_partition.specs.Partition.{partition_answer, partition_areas, Partitioned}

pub partitioned : (price : Price) (list v st : List ℕ) (before : Areas) {r : Answer} {after : Areas}
    → (r ≡ partition_answer price list v st before) × (after ≡ partition_areas price list v st before) → Partitioned price list v st before r after
partitioned price list v st before h = record { answered = h.0; areas_after = h.1 }
