-- A call that meets the clauses of pass's contract, as the laws speak of it.
-- Assumes nothing.
use Prim.Native.Nat.{ℕ, ◌≤◌}
use mathlib.Core.Path.{◌≡◌}
use mathlib.Core.List.{List}
use Rattle.format.specs.Refusal.{Answer, figures_in}
use Rattle.price.specs.declared.Price.{Price}
use Rattle.area.specs.Area.{Areas}
use Rattle.call_pass.specs.Pass.{pass_answer, pass_areas, looks_most, PassMade}

pub pass_made : (price : Price) (list v st : List ℕ) (before : Areas) {r : Answer} {after : Areas}
    → (r ≡ pass_answer price list v st before) × ((after ≡ pass_areas price list v st before) × ((figures_in r).looks ≤ looks_most list)) → PassMade price list v st before r after
pass_made price list v st before h = record { decided = record { answered = h.0; areas_after = h.1.0 }; few_looks = h.1.1 }
