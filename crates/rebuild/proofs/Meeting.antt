-- A call that meets the clauses of rebuild's contract, as the laws speak of it.
-- Assumes nothing.
use Prim.Native.Nat.{ℕ}
use mathlib.Core.Path.{◌≡◌}
use mathlib.Core.List.{List}
use Rattle.format.specs.Refusal.{Answer}
use Rattle.rebuild.specs.Rebuild.{rebuild_answer, rebuild_area, Rebuilt}

pub rebuilt_made : (list block st area : List ℕ) {r : Answer} {after : List ℕ} → (r ≡ rebuild_answer list block st area) × (after ≡ rebuild_area list block st area)
    → Rebuilt list block st area r after
rebuilt_made list block st area h = record { answered = h.0; area_after = h.1 }
