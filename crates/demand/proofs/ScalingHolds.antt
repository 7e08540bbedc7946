-- The law of scaling, and what follows at a factor of whole disk bytes.
-- Assumes nothing.
use Prim.Native.Nat.{ℕ, ◌*◌}
use native.Mathlib.Omega.{arith}
use mathlib.Core.Path.{◌≡◌, refl, ◌∙◌, ap, ap₂}
use mathlib.Core.List.{List}
use lib.ListN.{length}
use Rattle.format.specs.declared.Record.{Record}
use Rattle.format.specs.Record.{records_of}
use Rattle.price.specs.declared.Rates.{Rates}
use Rattle.price.specs.Price.{rates_of, scaled, cost}
use Rattle.price.proofs.Scaling.{cost_scaled}
use Rattle.measure.specs.Measure.{measure_ruling}
use Rattle.choice.specs.Choice.{least}
use Rattle.choice.proofs.Scaling.{least_scaled}
use Rattle.linear.specs.Pass.{pass_choice, pass_looks}
use Rattle.linear.proofs.Scaling.{outcomes_scaled, pass_scaled}
use Rattle.demand.specs.Scaling.{ScalingLaw, whole_rates, whole_price, whole_cost, WholeFactor}
use Rattle.demand.proofs.Giving.{measures_given, gives_of_decided}

pub scaling_law : ScalingLaw
scaling_law k r rs above =
    record {
      least_stays = least_scaled k above r rs;
      pass_stays = pass_scaled k above r rs;
      outcomes_stay = outcomes_scaled k above r rs;
      looks_stay = ap length (outcomes_scaled k above r rs);
      costs_grow = cost_scaled k r;
    }

-- the rates at F = 256 × g are those in disk bytes, all multiplied by 256
rates_whole : (en em g : ℕ) → rates_of (whole_price en em g) ≡ scaled 256 (whole_rates en em g)
rates_whole en em g =
    let fresh : 256 * g * en ≡ 256 * (g * en) = omega arith in
    let kept : 256 * g * em ≡ 256 * (g * em) = omega arith in
    ap₂ rates fresh kept
  where
    rates : ℕ → ℕ → Rates
    rates m n = record { fresh = record { 0 = m }; kept = record { 0 = n }; byte = record { 0 = 256 } }

cost_whole : (en em g : ℕ) (l : List Record) → cost (rates_of (whole_price en em g)) l ≡ whole_cost en em g l
cost_whole en em g l = ap (λ (r : Rates). cost r l) (rates_whole en em g) ∙ cost_scaled 256 (whole_rates en em g) l

pub whole_factor : WholeFactor
whole_factor en em g list v st x =
    let rs = records_of list in
    let law = scaling_law 256 (whole_rates en em g) rs (omega arith) in
    let is = rates_whole en em g in
    let r = rates_of (whole_price en em g) in
    let k = whole_cost en em g in
    let same = cost_whole en em g in
    record {
      measure_whole = measures_given r k same (measure_ruling (whole_price en em g) list) rs;
      partition_whole = λ made. gives_of_decided r k same x made (ap (λ (r : Rates). least r rs) is ∙ law.least_stays) refl;
      pass_whole = λ made. gives_of_decided r k same x made.decided (ap (λ (r : Rates). pass_choice r rs) is ∙ law.pass_stays) (ap (λ (r : Rates). pass_looks r rs) is ∙ law.looks_stay);
    }
