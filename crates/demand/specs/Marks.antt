-- Section 8.4, matches that must be held: what partition and pass make of held matches, by their contracts; and that measure, rebuild, check,
-- show and check_loose give the mark no meaning.
-- Assumes nothing.
use Rattle.std.specs.Prelude.{ℕ, ◌≡◌, true, List}
use Rattle.std.specs.Borrow.{Bor}
use Rattle.format.specs.declared.Source.{Source}
use Rattle.format.specs.declared.Record.{Record}
use Rattle.format.specs.declared.Record.TheVariants.{Match}
use Rattle.format.specs.Refusal.{Accepts}
use Rattle.format.specs.Record.{records_of, encode}
use Rattle.format.specs.Marks.{bares, unmarked, bonds}
use Rattle.price.specs.declared.Price.{Price}
use Rattle.price.specs.declared.Rates.{Rates}
use Rattle.measure.specs.Measure.{measured}
use Rattle.show.specs.Check.{checked}
use Rattle.show.specs.Show.{shown}
use Rattle.rebuild.specs.Rebuild.{rebuild_answer, rebuild_area}
use Rattle.loose.specs.Loose.{loose_checked}
use Rattle.choice.specs.Choice.{Bit, list_of}
use Rattle.choice.specs.Held.{KeepsHeld}
use Rattle.writer.specs.Decide.{laid}
use Rattle.call_partition.specs.Partition.{Partitioned}
use Rattle.rules.specs.Rules.{neither, tests_of, Untouched}
use Rattle.linear.specs.Pass.{item_for}
use Rattle.call_pass.specs.Pass.{PassMade}
use Rattle.demand.specs.Demand.{Call, written_list}

-- ---- partition and pass

-- the choice that the call x wrote keeps each held match; and a byte that must go on being drawn from the store is drawn from the same address
-- by a held match of the list that x wrote, and no other byte is
pub record HeldStay (list v : List ℕ) (x : Call) : Type 0 where
  pub choice : List Bit
  pub written : x.after ≡ laid choice (list_of (records_of list) choice) v x.before
  pub kept : KeepsHeld (records_of list) choice
  pub bonds_alike : bonds (records_of (written_list x)) ≡ bonds (records_of list)

-- whatever meets partition's contract, or pass's, and is accepted; and in a look of the pass, where a held match is of neither kind, no merge touches it
pub record HeldMatches : Type 0 where
  pub in_partition : (p : Price) (list v st : List ℕ) (x : Call) → Partitioned p list v st x.before x.answer x.after → Accepts x.answer → HeldStay list v x
  pub in_pass : (p : Price) (list v st : List ℕ) (x : Call) → PassMade p list v st x.before x.answer x.after → Accepts x.answer → HeldStay list v x
  pub in_look : (r : Rates) (s : ℕ) (a : Source) → a.held ≡ true → (item_for (Match s a) ≡ neither s) × Untouched (tests_of r) s

-- ---- the other calls

-- the answer for a list is the answer for the list without its marks, refused or not; so is the area that rebuild leaves, and the part that is shown.
-- And what is without its marks: of a list that was written, the records without theirs
pub record MarksUnread : Type 0 where
  pub without : (l : List Record) → unmarked (encode l) ≡ encode (bares l)
  pub in_measure : (p : Price) (list : List ℕ) → measured p (unmarked list) ≡ measured p list
  pub in_rebuild : (list block st area : List ℕ) → rebuild_answer (unmarked list) block st area ≡ rebuild_answer list block st area
  pub in_rebuilt : (list block st area : List ℕ) → rebuild_area (unmarked list) block st area ≡ rebuild_area list block st area
  pub in_check : (list block st : List ℕ) (k : ℕ) → checked (unmarked list) block st k ≡ checked list block st k
  pub in_show : (list : List ℕ) (block st : Bor (List ℕ)) (k : ℕ) → shown (unmarked list) block st k ≡ shown list block st k
  pub in_check_loose : (list st : List ℕ) → loose_checked (unmarked list) st ≡ loose_checked list st
