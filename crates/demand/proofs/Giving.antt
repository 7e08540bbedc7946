-- Calls at rates at which every list costs what a formula says give what that formula has.
-- Assumes nothing.
use Prim.Native.Nat.{ℕ}
use mathlib.Core.Path.{◌≡◌, ◌∙◌, ap, ap₂}
use mathlib.Core.List.{List}
use Rattle.format.specs.declared.Record.{Record}
use Rattle.format.specs.Refusal.{Ruling, answer}
use Rattle.format.specs.Record.{records_of}
use Rattle.price.specs.declared.Rates.{Rates}
use Rattle.price.specs.Price.{cost}
use Rattle.measure.specs.Measure.{measures}
use Rattle.choice.specs.Choice.{Bit, list_of}
use Rattle.writer.specs.Decide.{decided_areas, Decided}
use Rattle.demand.specs.Demand.{Call}
use Rattle.demand.specs.Gives.{measures_at, figures_at, Gives}

module _ (rates : Rates) (costs : List Record → ℕ) (same : (l : List Record) → cost rates l ≡ costs l) where
  pub measures_given : (q : Ruling) (l : List Record) → answer q (measures rates l) ≡ answer q (measures_at (costs l) l)
  measures_given q l = ap (λ (n : ℕ). answer q (measures_at n l)) (same l)

  -- a call that takes the choice c in m looks, where these are d and n
  pub gives_of_decided : {q : Ruling} {list v : List ℕ} {c d : List Bit} {m n : ℕ} (x : Call) → Decided q rates list v c m x.before x.answer x.after → c ≡ d → m ≡ n
      → Gives q costs list v d n x
  gives_of_decided {q} {list} {v} {c} {d} {m} {n} x made choice looks =
      let l = list_of (records_of list) c in
      record {
        answered =
            made.answered
            ∙ ap (λ (k : ℕ). answer q (figures_at k l m)) (same l)
            ∙ ap₂ (λ (y : List Bit) (k : ℕ). answer q (figures_at (costs (list_of (records_of list) y)) (list_of (records_of list) y) k)) choice looks;
        areas_after = made.areas_after ∙ ap (λ (y : List Bit). decided_areas q list v y x.before) choice;
      }
