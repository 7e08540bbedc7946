-- Section 8.2, first an estimate, then the deposit: what an estimate with a commitment of its choice comes to beside partition, and what is so of
-- every commitment.
--
-- In order: the two calls in turn; a call of commit by itself; the laws, a field for each; the two calls as one function makes them.
-- Assumes nothing.
use Rattle.std.specs.Prelude.{ℕ, ◌/◌, ◌≤◌, ◌≡◌, Bool, true, false, List, length, take, Ok, Err}
use Rattle.format.specs.declared.Refusal.{Refusal}
use Rattle.format.specs.Refusal.{Ruling, Answer, Accepts, answer, unless_refused, length_only, figures_in}
use Rattle.format.specs.Record.{records_of, encode}
use Rattle.format.specs.Meaning.{block_of}
use Rattle.price.specs.declared.Price.{Price}
use Rattle.price.specs.Price.{rates_of}
use Rattle.area.specs.Area.{over, Areas, areas}
use Rattle.join.specs.Join.{tidy}
use Rattle.choice.specs.Choice.{Bit, bit_bytes, IsChoice, keep_all}
use Rattle.admit.specs.Admit.{areas_fit, admit_ruling}
use Rattle.writer.specs.Decide.{figures}
use Rattle.rebuild.specs.Rebuild.{Rebuilt}
use Rattle.call_partition.specs.Partition.{Partitioned}
use Rattle.estimate.specs.Estimate.{Estimated}
use Rattle.commit.specs.Commit.{choice_ruling, Committed}
use Rattle.demand.specs.declared.TwoAnswers.{TwoAnswers}
use Rattle.demand.specs.Demand.{Call, Rebuilding, written_list, written_block}
use Rattle.demand.specs.Marks.{HeldStay}

-- the areas for list and stored block are long enough for a commitment
abbrev pub room : List ℕ → List ℕ → Areas → Bool
room list v x = areas_fit list v (length list / 12) (length x.list) (length x.block)

-- an estimate and then a commitment of its choice on the same inputs; where the estimate is refused no commitment is made, and its answer stands
pub record InTurn (price : Price) (list v st : List ℕ) (before : Areas) (r : TwoAnswers) (after : Areas) : Type 0 where
  pub first : Estimated price list v st before.choice r.estimated after.choice
  pub second : Accepts r.estimated
      → Committed price list v st (take (length list / 12) after.choice) before.list before.block r.committed after.list after.block
  pub or_none : (x : Refusal) → r.estimated ≡ Err x → (r.committed ≡ Err x) × (after.list ≡ before.list) × (after.block ≡ before.block)

-- a call of commit: the choice that it is given stands in the place of a choice area, and stays
pub record Commits (price : Price) (list v st : List ℕ) (x : Call) : Type 0 where
  pub made : Committed price list v st x.before.choice x.before.list x.before.block x.answer x.after.list x.after.block
  pub choice_stays : x.after.choice ≡ x.before.choice

-- the call x, for the ruling q on its inputs, gives the list handed in with its runs joined, and the stored block and the figures of that
pub record GivesJoined (q : Ruling) (price : Price) (list v : List ℕ) (x : Call) : Type 0 where
  pub answered : x.answer ≡ answer q (figures (rates_of price) (tidy (records_of list)) 0)
  pub list_after : x.after.list ≡ unless_refused q (over (encode (tidy (records_of list))) x.before.list) x.before.list
  pub block_after : x.after.block ≡ unless_refused q (over (block_of (tidy (records_of list)) v) x.before.block) x.before.block

pub record SplitLaws : Type 0 where
  -- clause 8.2.1: estimate answers and chooses as partition does, where partition has room for list and stored block; refused or not
  pub estimated_alike : (p : Price) (list v st : List ℕ) (x : Call) (r : Answer) (after : List ℕ) → room list v x.before ≡ true
      → Partitioned p list v st x.before x.answer x.after → Estimated p list v st x.before.choice r after → (r ≡ x.answer) × (after ≡ x.after.choice)
  -- clause 8.2.2: an estimate and a commitment of its choice on the same inputs give what partition gives: answer, choice, list and stored block
  pub as_partition : (p : Price) (list v st : List ℕ) (before : Areas) (r : TwoAnswers) (after : Areas) → room list v before ≡ true
      → InTurn p list v st before r after → Partitioned p list v st before r.committed after
  -- where that room is not there, a commitment of whatever choice gives what partition gives: a refusal
  pub without_room : (p : Price) (list v st choice : List ℕ) (before : Areas) (r : Answer) (area block : List ℕ) → room list v before ≡ false
      → Committed p list v st choice before.list before.block r area block → Partitioned p list v st before r (areas before.choice area block)
  -- clause 8.2.4: 12 is answered exactly for byte strings that are not a choice, least or not
  pub any_choice : (list : List ℕ) (c : List Bit) → IsChoice (records_of list) c → choice_ruling list (bit_bytes c) ≡ Ok tt
  pub choices_alone : (list choice : List ℕ) → choice_ruling list choice ≡ Ok tt → (c : List Bit) × IsChoice (records_of list) c × (choice ≡ bit_bytes c)
  -- whatever choice it was: rebuild makes the version again from the list that was written, its stored block and the store
  pub comes_back : (p : Price) (list v st : List ℕ) (x : Call) (y : Rebuilding) → Commits p list v st x → Accepts x.answer
      → Rebuilt (written_list x) (written_block x) st y.before y.answer y.after → length v ≤ length y.before
      → (y.answer ≡ Ok (length_only (length v))) × (y.after ≡ over v y.before)
  -- a commitment costs no less than the estimate
  pub no_cheaper : (p : Price) (list v st choice : List ℕ) (r : Answer) (after : List ℕ) (x : Call) → Estimated p list v st choice r after → Accepts r
      → Commits p list v st x → Accepts x.answer → (figures_in r).cost ≤ (figures_in x.answer).cost
  -- with 0 for each match it gives the list handed in, joined; 12 is never its answer
  pub keeping_all : (p : Price) (list v st : List ℕ) (x : Call) → x.before.choice ≡ bit_bytes (keep_all (records_of list)) → Commits p list v st x
      → GivesJoined (admit_ruling p list v st (length list / 12) (length x.before.list) (length x.before.block)) p list v x
  -- held matches stay, as after partition
  pub held_stay : (p : Price) (list v st : List ℕ) (x : Call) → Commits p list v st x → Accepts x.answer → HeldStay list v x

-- ---- the calls as one function makes them

-- partition's own contract; and, by their contracts, the calls that were made: both in turn, or, without room, a commitment of what the choice area held,
-- whose answer then stands for both
pub record TwoCalls (price : Price) (list v st : List ℕ) (before : Areas) (r : TwoAnswers) (after : Areas) : Type 0 where
  pub partitioned : Partitioned price list v st before r.committed after
  pub in_turn : room list v before ≡ true → InTurn price list v st before r after
  pub alone : room list v before ≡ false
      → Committed price list v st before.choice before.list before.block r.committed after.list after.block × (r.estimated ≡ r.committed)
