-- Clauses 8.5.1 and 8.5.2: rates that are all multiplied by one number; and a factor of whole disk bytes, in 256ths, beside one in disk bytes.
--
-- In order: the law of scaling; the rates in disk bytes; what measure, partition and pass answer and write at F = 256 × G, by their contracts.
-- Assumes nothing.
use Rattle.std.specs.Prelude.{ℕ, ◌*◌, ◌<◌, ◌≡◌, List}
use Rattle.format.specs.declared.Record.{Record}
use Rattle.format.specs.Refusal.{answer}
use Rattle.format.specs.Record.{records_of}
use Rattle.price.specs.declared.Price.{Price}
use Rattle.price.specs.declared.Rates.{Rates}
use Rattle.price.specs.Price.{scaled, cost}
use Rattle.measure.specs.Measure.{measure_ruling, measured}
use Rattle.choice.specs.Choice.{least}
use Rattle.admit.specs.Admit.{partition_ruling}
use Rattle.call_partition.specs.Partition.{Partitioned}
use Rattle.linear.specs.Pass.{pass_outcomes, pass_looks, pass_choice}
use Rattle.call_pass.specs.Pass.{PassMade}
use Rattle.demand.specs.Demand.{Call}
use Rattle.demand.specs.Gives.{measures_at, Gives}

-- ---- the law of scaling

-- at rates that are all multiplied by k: the least choice, the pass's choice and how each of its looks ends stay as they were, and every cost is
-- multiplied by k
pub record Scales (k : ℕ) (r : Rates) (rs : List Record) : Type 0 where
  pub least_stays : least (scaled k r) rs ≡ least r rs
  pub pass_stays : pass_choice (scaled k r) rs ≡ pass_choice r rs
  pub outcomes_stay : pass_outcomes (scaled k r) rs ≡ pass_outcomes r rs
  pub looks_stay : pass_looks (scaled k r) rs ≡ pass_looks r rs
  pub costs_grow : (l : List Record) → cost (scaled k r) l ≡ k * cost r l

-- for every number above 0, all rates and every list
abbrev pub ScalingLaw : Type 0
ScalingLaw = (k : ℕ) (r : Rates) (rs : List Record) → 0 < k → Scales k r rs

-- ---- a factor of whole disk bytes

-- the rates for EN, EM and a factor of g disk bytes, in disk bytes: g × EN for a new entry, g × EM for a match, 1 for a stored byte
abbrev pub whole_rates : ℕ → ℕ → ℕ → Rates
whole_rates en em g = record { fresh = record { 0 = g * en }; kept = record { 0 = g * em }; byte = record { 0 = 1 } }

-- the same factor in 256ths
abbrev pub whole_price : ℕ → ℕ → ℕ → Price
whole_price en em g = record { en = en; em = em; f = 256 * g }

-- the cost in disk bytes, in 256ths
abbrev pub whole_cost : ℕ → ℕ → ℕ → List Record → ℕ
whole_cost en em g l = 256 * cost (whole_rates en em g) l

-- at F = 256 × g: what measure answers; and what any call x answers and writes that meets partition's contract, or pass's. The choices and the looks
-- are those of the rates in disk bytes
pub record AtWhole (en em g : ℕ) (list v st : List ℕ) (x : Call) : Type 0 where
  pub measure_whole : measured (whole_price en em g) list ≡ answer (measure_ruling (whole_price en em g) list) (measures_at (whole_cost en em g (records_of list)) (records_of list))
  pub partition_whole : Partitioned (whole_price en em g) list v st x.before x.answer x.after
      → Gives (partition_ruling (whole_price en em g) list v st x.before) (whole_cost en em g) list v (least (whole_rates en em g) (records_of list)) 0 x
  pub pass_whole : PassMade (whole_price en em g) list v st x.before x.answer x.after
      → Gives (partition_ruling (whole_price en em g) list v st x.before) (whole_cost en em g) list v (pass_choice (whole_rates en em g) (records_of list)) (pass_looks (whole_rates en em g) (records_of list)) x

-- for all prices of entries and factors, list, version and store, and for all answers and areas
abbrev pub WholeFactor : Type 0
WholeFactor = (en em g : ℕ) (list v st : List ℕ) (x : Call) → AtWhole en em g list v st x
