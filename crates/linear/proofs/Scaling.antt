-- The pass at rates that are all multiplied by one number above 0 is the same, look by look, and leaves the same choice.
-- Assumes nothing.
use Prim.Native.Nat.{ℕ, ◌<◌}
use mathlib.Core.Path.{◌≡◌, ap}
use mathlib.Core.List.{List}
use Rattle.format.specs.declared.Record.{Record}
use Rattle.price.specs.declared.Rates.{Rates}
use Rattle.price.specs.Price.{scaled}
use Rattle.join.specs.Join.{tidy}
use Rattle.rules.specs.Rules.{Tests}
use Rattle.rules.proofs.AtPrice.{tests_scaled}
use Rattle.machine.specs.Looks.{pass, end_items}
use Rattle.linear.specs.Pass.{items, pass_outcomes, choice_of, pass_choice}

module _ (k : ℕ) (above : 0 < k) (r : Rates) (rs : List Record) where
  pub outcomes_scaled : pass_outcomes (scaled k r) rs ≡ pass_outcomes r rs
  unfolding pass_outcomes
  outcomes_scaled = ap (λ (t : Tests). (pass t (items (tidy rs))).outcomes) (tests_scaled k above r)

  pub pass_scaled : pass_choice (scaled k r) rs ≡ pass_choice r rs
  pass_scaled = ap (λ (t : Tests). choice_of rs (end_items t (items (tidy rs)))) (tests_scaled k above r)
