-- At EN = EM the calls give what they gave for one E: the cost is the former cost, and the tests of the merges are the former tests.
-- Assumes nothing.
use Prim.Native.Nat.{ℕ, ◌+◌, ◌*◌}
use native.Mathlib.Omega.{arith}
use mathlib.Core.Path.{◌≡◌, refl, ap}
use mathlib.Core.Bool.{Bool, true, false, ◌&&◌}
use mathlib.Core.List.{List}
use lib.Dec.{leb, ltb}
use lib.ListN.{length}
use Rattle.format.specs.declared.Record.{Record}
use Rattle.format.specs.Record.{records_of}
use Rattle.price.specs.Price.{rates_of, cost}
use Rattle.price.proofs.Bounds.{entries}
use Rattle.price.proofs.Scaling.{ltb_same}
use Rattle.measure.specs.Measure.{measure_ruling}
use Rattle.join.specs.Join.{tidy}
use Rattle.choice.specs.Choice.{list_of, cost_of, least}
use Rattle.choice.proofs.Path.{choices_cong}
use Rattle.rules.specs.Rules.{Tests, tests_of}
use Rattle.machine.specs.Looks.{pass, end_items}
use Rattle.linear.specs.Pass.{items, pass_outcomes, choice_of, pass_choice}
use Rattle.demand.specs.Former.{former_cost, former_least, former_tests, former_outcomes, former_pass, same_price, FormerAnswers}
use Rattle.demand.proofs.Giving.{measures_given, gives_of_decided}

-- a range asked for twice is asked for
range_once : (a b c d : Bool) → (a && b && a && b && c && d) ≡ (a && b && c && d)
range_once true true c d = refl
range_once true false c d = refl
range_once false b c d = refl

module _ (e f : ℕ) where
  cost_former : (l : List Record) → cost (rates_of (same_price e f)) l ≡ former_cost e f l
  cost_former l = rw (← entries l) (omega arith)

  tests_former : tests_of (rates_of (same_price e f)) ≡ former_tests e f
  tests_former = λ i. record { both = λ s. both s i; side = λ s. ltb (256 * s) (f * e); pair = λ s. pair s i }
    where
      both : (s : ℕ) → ltb (256 * s) (f * e + f * e) ≡ ltb (256 * s) (2 * (f * e))
      both s = let twice : f * e + f * e ≡ 2 * (f * e) = omega arith in ap (ltb (256 * s)) twice

      pair : (s : ℕ) → ltb (256 * s + f * e) (2 * (f * e)) ≡ ltb (256 * s) (f * e)
      pair s = ltb_same (256 * s + f * e) (2 * (f * e)) (256 * s) (f * e) (λ h. omega arith) (λ h. omega arith)

  module _ (rs : List Record) where
    least_former : least (rates_of (same_price e f)) rs ≡ former_least e f rs
    least_former = choices_cong (cost_of (rates_of (same_price e f)) rs) (λ c. former_cost e f (list_of rs c)) rs (λ c h. cost_former (list_of rs c))

    outcomes_former : pass_outcomes (rates_of (same_price e f)) rs ≡ former_outcomes e f rs
    unfolding pass_outcomes
    outcomes_former = ap (λ (t : Tests). (pass t (items (tidy rs))).outcomes) tests_former

    pass_former : pass_choice (rates_of (same_price e f)) rs ≡ former_pass e f rs
    pass_former = ap (λ (t : Tests). choice_of rs (end_items t (items (tidy rs)))) tests_former

pub former_answers : FormerAnswers
former_answers e f list v st x =
    let rs = records_of list in
    let r = rates_of (same_price e f) in
    let k = former_cost e f in
    let same = cost_former e f in
    let looks = outcomes_former e f rs in
    record {
      range_former = range_once (leb 1 e) (leb e 255) (leb 1 f) (leb f 65535);
      measure_former = measures_given r k same (measure_ruling (same_price e f) list) rs;
      partition_former = λ made. gives_of_decided r k same x made (least_former e f rs) refl;
      pass_former = λ made. gives_of_decided r k same x made.decided (pass_former e f rs) (ap length looks);
      looks_former = looks;
    }
