-- The call measure (section 4.2).
-- Assumes nothing.
use Rattle.std.specs.Prelude.{ℕ, List, [], length}
use Rattle.format.specs.declared.Fault.TheVariants as fault
use Rattle.format.specs.declared.Record.{Record}
use Rattle.format.specs.Refusal.{Ruling, Answer, need, ◌then◌, answer}
use Rattle.format.specs.declared.Figures.{Figures}
use Rattle.format.specs.Record.{list_fits, records_of}
use Rattle.format.specs.Meaning.{whole, stored}
use Rattle.walk.specs.declared.Scope.TheVariants as scope
use Rattle.walk.specs.Checks.{checks, walk_ruling}
use Rattle.price.specs.declared.Price.{Price}
use Rattle.price.specs.declared.Rates.{Rates}
use Rattle.price.specs.Price.{price_fits, rates_of, cost}

-- the order of clause 6.1: 1, 3; record by record 4, 5, 6
abbrev pub measure_ruling : Price → List ℕ → Ruling
measure_ruling price list =
    need (price_fits price) fault.Price 0
    then need (list_fits list) fault.ListLength 0
    then walk_ruling (checks scope.Sizes [] []) list

-- entries, stored bytes, whole length and cost
abbrev pub measures : Rates → List Record → Figures
measures r l = record { cost = cost r l; entries = length l; stored = stored l; looks = 0; whole = whole l }

abbrev pub measured : Price → List ℕ → Answer
measured price list = answer (measure_ruling price list) (measures (rates_of price) (records_of list))
