-- The call pass (section 4.10): the answer, and every area after the call, for any inputs. Checks and writing are those of partition.
-- Assumes nothing.
use Rattle.std.specs.Prelude.{ℕ, ◌*◌, ◌-◌, ◌≤◌, List, length}
use Rattle.format.specs.Refusal.{Answer, figures_in}
use Rattle.format.specs.Record.{records_of}
use Rattle.price.specs.declared.Price.{Price}
use Rattle.price.specs.Price.{rates_of}
use Rattle.area.specs.Area.{Areas}
use Rattle.join.specs.Join.{tidy}
use Rattle.choice.specs.Choice.{Bit}
use Rattle.admit.specs.Admit.{partition_ruling}
use Rattle.writer.specs.Decide.{decided_answer, decided_areas, Decided}
use Rattle.linear.specs.Pass.{pass_choice, pass_looks}

-- the choice of the machine's last list, for a list of bytes, and the looks
abbrev pub pass_choice_of : Price → List ℕ → List Bit
pass_choice_of price list = pass_choice (rates_of price) (records_of list)

abbrev pub pass_looks_of : Price → List ℕ → ℕ
pass_looks_of price list = pass_looks (rates_of price) (records_of list)

-- the answer carries cost, entries and stored bytes of that choice's list, and the looks
abbrev pub pass_answer : Price → List ℕ → List ℕ → List ℕ → Areas → Answer
pass_answer price list v st before = decided_answer (partition_ruling price list v st before) (rates_of price) list (pass_choice_of price list) (pass_looks_of price list)

-- the areas begin with that choice, its list and its stored block; bytes beyond are unchanged
abbrev pub pass_areas : Price → List ℕ → List ℕ → List ℕ → Areas → Areas
pass_areas price list v st before = decided_areas (partition_ruling price list v st before) list v (pass_choice_of price list) before

-- the looks are few for the records after joining
abbrev pub looks_most : List ℕ → ℕ
looks_most list = 2 * length (tidy (records_of list)) - 1

-- the answer r, and the areas after the call
pub record PassMade (price : Price) (list v st : List ℕ) (before : Areas) (r : Answer) (after : Areas) : Type 0 where
  pub decided : Decided (partition_ruling price list v st before) (rates_of price) list v (pass_choice_of price list) (pass_looks_of price list) before r after
  pub few_looks : (figures_in r).looks ≤ looks_most list
