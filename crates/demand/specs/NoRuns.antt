-- Clause 8.6.1: for a list of which no two neighbours join, partition and pass give what they would if no matches ever joined. That rule is said here by
-- itself, and what partition and pass give by it.
--
-- In order: the former rule, and by it the list of a choice, the least choice and the pass, each called plain; what partition and pass answer and
-- write for a list of which no two neighbours join, by their contracts. (No two new records stand side by side in a list that is accepted, so only
-- matches could.)
-- Assumes nothing.
use Rattle.std.specs.Prelude.{ℕ, ◌+◌, ◌≡◌, List, [], ◌∷◌, length}
use Rattle.format.specs.declared.Record.{Record}
use Rattle.format.specs.declared.Record.TheVariants.{New, Match}
use Rattle.format.specs.Refusal.{Ruling, answer, unless_refused}
use Rattle.format.specs.Record.{records_of}
use Rattle.price.specs.declared.Price.{Price}
use Rattle.price.specs.declared.Rates.{Rates}
use Rattle.price.specs.Price.{rates_of, cost}
use Rattle.join.specs.Join.{Settled}
use Rattle.choice.specs.Choice.{Bit, choices, chosen, first_of}
use Rattle.admit.specs.Admit.{partition_ruling}
use Rattle.writer.specs.Decide.{figures, laid}
use Rattle.call_partition.specs.Partition.{Partitioned}
use Rattle.rules.specs.Rules.{tests_of}
use Rattle.rules.specs.declared.Outcome.{Outcome}
use Rattle.machine.specs.Looks.{pass, end_items}
use Rattle.linear.specs.Pass.{items, choice_of}
use Rattle.call_pass.specs.Pass.{PassMade}
use Rattle.demand.specs.Demand.{Call}

-- ---- by the former rule

-- new records joined; matches that follow each other in the store take one entry each
abbrev pub plain_join : Record → List Record → List Record
plain_join (New s) [] = New s ∷ []
plain_join (New s) (New t ∷ l) = New (s + t) ∷ l
plain_join (New s) (Match t b ∷ l) = New s ∷ Match t b ∷ l
plain_join (Match s a) l = Match s a ∷ l

abbrev pub plain_tidy : List Record → List Record
plain_tidy [] = []
plain_tidy (r ∷ l) = plain_join r (plain_tidy l)

-- the list of a choice
abbrev pub plain_list : List Record → List Bit → List Record
plain_list rs c = plain_tidy (chosen rs c)

-- of all choices in order, the first whose list costs least
abbrev pub plain_least : Rates → List Record → List Bit
plain_least r rs = first_of (λ c. cost r (plain_list rs c)) (choices rs)

-- the pass looked at the records as handed in: how each look ended, and the choice
abbrev pub plain_outcomes : Rates → List Record → List Outcome
plain_outcomes r rs = (pass (tests_of r) (items rs)).outcomes

abbrev pub plain_pass : Rates → List Record → List Bit
plain_pass r rs = choice_of rs (end_items (tests_of r) (items rs))

-- ---- lists of which no two neighbours join

-- the call x, for the ruling q on its inputs, answers and writes what the choice c and the list l come to, found in so many looks
pub record GivesList (q : Ruling) (r : Rates) (v : List ℕ) (c : List Bit) (l : List Record) (looks : ℕ) (x : Call) : Type 0 where
  pub answered : x.answer ≡ answer q (figures r l looks)
  pub areas_after : x.after ≡ unless_refused q (laid c l v x.before) x.before

pub record AsBefore (price : Price) (list v st : List ℕ) (x : Call) : Type 0 where
  pub partition_stays : Partitioned price list v st x.before x.answer x.after
      → let c = plain_least (rates_of price) (records_of list) in
      GivesList (partition_ruling price list v st x.before) (rates_of price) v c (plain_list (records_of list) c) 0 x
  pub pass_stays : PassMade price list v st x.before x.answer x.after
      → let c = plain_pass (rates_of price) (records_of list) in
      GivesList (partition_ruling price list v st x.before) (rates_of price) v c (plain_list (records_of list) c) (length (plain_outcomes (rates_of price) (records_of list))) x

-- for every price, list, version and store, and for all answers and areas
abbrev pub NoRuns : Type 0
NoRuns = (price : Price) (list v st : List ℕ) (x : Call) → Settled (records_of list) → AsBefore price list v st x
