-- Clause 8.5.3: with EN = EM = E the answers are those for one entry size. These are said here a second time, without rates, with F in 256ths
-- and with runs joined: every entry, new or match, costs P = F × E.
--
-- In order: the former range, cost, least choice and pass; what measure, partition and pass answer and write at EN = EM, by their contracts.
-- Assumes nothing.
use Rattle.std.specs.Prelude.{ℕ, ◌+◌, ◌*◌, ◌≡◌, Bool, ◌&&◌, List, leb, ltb, length}
use Rattle.format.specs.declared.Record.{Record}
use Rattle.format.specs.Refusal.{answer}
use Rattle.format.specs.Record.{records_of}
use Rattle.format.specs.Meaning.{stored}
use Rattle.price.specs.declared.Price.{Price}
use Rattle.price.specs.Price.{price_fits, rates_of}
use Rattle.measure.specs.Measure.{measure_ruling, measured}
use Rattle.join.specs.Join.{tidy}
use Rattle.choice.specs.Choice.{Bit, choices, list_of, first_of}
use Rattle.admit.specs.Admit.{partition_ruling}
use Rattle.call_partition.specs.Partition.{Partitioned}
use Rattle.rules.specs.Rules.{Tests}
use Rattle.rules.specs.declared.Outcome.{Outcome}
use Rattle.machine.specs.Looks.{pass, end_items}
use Rattle.linear.specs.Pass.{items, pass_outcomes, choice_of}
use Rattle.call_pass.specs.Pass.{PassMade}
use Rattle.demand.specs.Demand.{Call}
use Rattle.demand.specs.Gives.{measures_at, Gives}

-- ---- the former definitions

-- number 1: E is 1 to 255, F is 1 to 65,535
abbrev pub former_fits : ℕ → ℕ → Bool
former_fits e f = leb 1 e && leb e 255 && leb 1 f && leb f 65535

-- F × E × entries + 256 × stored bytes
abbrev pub former_cost : ℕ → ℕ → List Record → ℕ
former_cost e f l = f * e * length l + 256 * stored l

-- of all choices in order, the first whose list costs least
abbrev pub former_least : ℕ → ℕ → List Record → List Bit
former_least e f rs = first_of (λ c. former_cost e f (list_of rs c)) (choices rs)

-- 256 × size was compared with 2P in merge 1, with P in merges 2 and 3, and for both sizes together with P in merge 4
abbrev pub former_tests : ℕ → ℕ → Tests
former_tests e f = record { both = λ s. ltb (256 * s) (2 * (f * e)); side = λ s. ltb (256 * s) (f * e); pair = λ s. ltb (256 * s) (f * e) }

-- the pass with these: how each look ended, and the choice
abbrev pub former_outcomes : ℕ → ℕ → List Record → List Outcome
former_outcomes e f rs = (pass (former_tests e f) (items (tidy rs))).outcomes

abbrev pub former_pass : ℕ → ℕ → List Record → List Bit
former_pass e f rs = choice_of rs (end_items (former_tests e f) (items (tidy rs)))

-- ---- at EN = EM

abbrev pub same_price : ℕ → ℕ → Price
same_price e f = record { en = e; em = e; f = f }

-- number 1 is given where it was; measure answers as it did; what any call x answers and writes that meets partition's contract, or pass's, is as it
-- was: choice, list, stored block, entries, stored bytes, cost and looks; and each look of the pass ends as it did
pub record AsFormer (e f : ℕ) (list v st : List ℕ) (x : Call) : Type 0 where
  pub range_former : price_fits (same_price e f) ≡ former_fits e f
  pub measure_former : measured (same_price e f) list ≡ answer (measure_ruling (same_price e f) list) (measures_at (former_cost e f (records_of list)) (records_of list))
  pub partition_former : Partitioned (same_price e f) list v st x.before x.answer x.after
      → Gives (partition_ruling (same_price e f) list v st x.before) (former_cost e f) list v (former_least e f (records_of list)) 0 x
  pub pass_former : PassMade (same_price e f) list v st x.before x.answer x.after
      → Gives (partition_ruling (same_price e f) list v st x.before) (former_cost e f) list v (former_pass e f (records_of list)) (length (former_outcomes e f (records_of list))) x
  pub looks_former : pass_outcomes (rates_of (same_price e f)) (records_of list) ≡ former_outcomes e f (records_of list)

-- for every E and F, list, version and store, and for all answers and areas
abbrev pub FormerAnswers : Type 0
FormerAnswers = (e f : ℕ) (list v st : List ℕ) (x : Call) → AsFormer e f list v st x
