-- Section 8.1: one statement on the calls partition, rebuild and pass together.
--
-- In order: the four calls; that each is that call, by its own contract; room for each; the statement, a field for each sentence; the demand,
-- closed: for every price, list, version and store, and for all answers and areas.
-- Assumes nothing.
use Rattle.std.specs.Prelude.{ℕ, ◌*◌, ◌-◌, ◌≤◌, ◌≡◌, List, length, take, Ok}
use Rattle.format.specs.Refusal.{Answer, Accepts, length_only, figures_in}
use Rattle.format.specs.Record.{records_of}
use Rattle.price.specs.declared.Price.{Price}
use Rattle.price.specs.Price.{rates_of, cost}
use Rattle.area.specs.Area.{over, Areas}
use Rattle.join.specs.Join.{tidy}
use Rattle.choice.specs.Choice.{Bit, list_of, IsLeast, keep_all}
use Rattle.admit.specs.Admit.{findings, LongEnough}
use Rattle.writer.specs.Decide.{figures, laid}
use Rattle.rebuild.specs.Rebuild.{Rebuilt}
use Rattle.call_partition.specs.Partition.{Partitioned}
use Rattle.call_pass.specs.Pass.{pass_choice_of, pass_looks_of, PassMade}
use Rattle.demand.specs.declared.Answers.{Answers}

-- a call of partition or pass: its areas before it, its answer, its areas after it
pub record Call : Type 0 where
  pub before : Areas
  pub answer : Answer
  pub after : Areas

-- a call of rebuild, with its one area
pub record Rebuilding : Type 0 where
  pub before : List ℕ
  pub answer : Answer
  pub after : List ℕ

-- partition; rebuild of what it wrote; partition of what it wrote, again; and pass, given what partition was first given
pub record Calls : Type 0 where
  pub first : Call
  pub rebuilt : Rebuilding
  pub again : Call
  pub passed : Call

-- the list and the stored block that a call wrote: as many bytes of its areas as its answer says
abbrev pub list_written : Answer → List ℕ → List ℕ
list_written r area = take (12 * (figures_in r).entries) area

abbrev pub block_written : Answer → List ℕ → List ℕ
block_written r area = take (figures_in r).stored area

abbrev pub written_list : Call → List ℕ
written_list x = list_written x.answer x.after.list

abbrev pub written_block : Call → List ℕ
written_block x = block_written x.answer x.after.block

-- each of the four is that call: its contract holds of its answer and its areas
pub record Made (price : Price) (list v st : List ℕ) (x : Calls) : Type 0 where
  pub first : Partitioned price list v st x.first.before x.first.answer x.first.after
  pub rebuilt : Rebuilt (written_list x.first) (written_block x.first) st x.rebuilt.before x.rebuilt.answer x.rebuilt.after
  pub again : Partitioned price (written_list x.first) v st x.again.before x.again.answer x.again.after
  pub passed : PassMade price list v st x.passed.before x.passed.answer x.passed.after

-- areas long enough: each call's for what that call is given (clause 5.9)
pub record Room (list v : List ℕ) (x : Calls) : Type 0 where
  pub first : LongEnough list v x.first.before
  pub rebuilt : length v ≤ length x.rebuilt.before
  pub again : LongEnough (written_list x.first) v x.again.before
  pub passed : LongEnough list v x.passed.before

-- what is said of the four calls, for the price and the list handed in
pub record Demand (price : Price) (list v : List ℕ) (x : Calls) : Type 0 where
  -- the choice that partition writes
  pub choice : List Bit
  -- clause 8.1.1: where no fault is found in list, version, store, price and areas, partition accepts them
  pub first_accepted : Accepts x.first.answer
  -- clause 8.1.2: the list it writes is the one that its choice makes
  pub first_written : x.first.after ≡ laid choice (list_of (records_of list) choice) v x.first.before
  -- and the entries, stored bytes and cost it answers are that list's
  pub first_figures : figures_in x.first.answer ≡ figures (rates_of price) (list_of (records_of list) choice) 0
  -- clause 8.1.3: every other choice makes a list that costs at least as much; where one costs as much, partition's has 0 at the first record where the
  -- two differ
  pub is_least : IsLeast (rates_of price) (records_of list) choice
  -- clause 8.1.4: rebuild makes the version again from the written list, its stored block and the store
  pub rebuilt_accepted : Accepts x.rebuilt.answer
  pub rebuilt_figures : figures_in x.rebuilt.answer ≡ length_only (length v)
  pub rebuilt_version : x.rebuilt.after ≡ over v x.rebuilt.before
  -- clauses 8.1.5 and 8.1.6: the written list, handed to partition again, comes back with the same stored block and figures, and with 0 for each match
  pub again_accepted : Accepts x.again.answer
  pub again_figures : figures_in x.again.answer ≡ figures_in x.first.answer
  pub again_written : x.again.after ≡ laid (keep_all (list_of (records_of list) choice)) (list_of (records_of list) choice) v x.again.before
  -- clause 8.1.7: the pass, given what partition was first given
  pub passed_accepted : Accepts x.passed.answer
  pub passed_figures : figures_in x.passed.answer ≡ figures (rates_of price) (list_of (records_of list) (pass_choice_of price list)) (pass_looks_of price list)
  pub passed_written : x.passed.after ≡ laid (pass_choice_of price list) (list_of (records_of list) (pass_choice_of price list)) v x.passed.before
  -- clauses 8.1.8 and 8.1.9: it costs no less than partition's list, no more than the list handed in, as measure prices that, and no more than the tidy
  -- form of that list
  pub no_less : (figures_in x.first.answer).cost ≤ (figures_in x.passed.answer).cost
  pub no_more : (figures_in x.passed.answer).cost ≤ cost (rates_of price) (records_of list)
  pub no_more_joined : (figures_in x.passed.answer).cost ≤ cost (rates_of price) (tidy (records_of list))
  -- clause 8.1.10: it counts at most 2n - 1 looks for n records after joining, and none for n = 0
  pub few_looks : (figures_in x.passed.answer).looks ≤ 2 * length (tidy (records_of list)) - 1

-- it holds of four calls where nothing is found in price, list, version and store, and the areas are long enough for them
abbrev pub Holds : Price → List ℕ → List ℕ → List ℕ → Calls → Type 0
Holds price list v st x = findings price list v st ≡ Ok tt → Room list v x → Demand price list v x

-- section 8.1: it holds of any four that are these calls
abbrev pub DemandThree : Type 0
DemandThree = (price : Price) (list v st : List ℕ) (x : Calls) → Made price list v st x → Holds price list v st x

-- ---- the calls as one function makes them

-- for their answers, and the areas before and after them
abbrev pub calls_of : Answers → Areas → Areas → List ℕ → List ℕ → Areas → Areas → Areas → Areas → Calls
calls_of r first first' out out' again again' passed passed' =
    record {
      first = record { before = first; answer = r.first; after = first' };
      rebuilt = record { before = out; answer = r.rebuilt; after = out' };
      again = record { before = again; answer = r.again; after = again' };
      passed = record { before = passed; answer = r.passed; after = passed' };
    }
