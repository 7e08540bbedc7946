-- Section 8.9, what a dearer index does: one list, version and store at two factors, with EN and EM fixed.
--
-- In order: accepted calls, by their contracts; what a call comes to; what the greater factor does to it; the laws, a field for each; two calls as one
-- function makes them.
-- Assumes nothing.
use Rattle.std.specs.Prelude.{ℕ, ◌+◌, ◌*◌, ◌/◌, ◌≤◌, ◌<◌, ◌≡◌, List, length, take, get_or}
use Rattle.format.specs.Refusal.{Answer, Accepts, figures_in}
use Rattle.format.specs.Record.{records_of}
use Rattle.price.specs.declared.Price.{Price}
use Rattle.price.specs.Price.{price_at, index_bytes}
use Rattle.area.specs.Area.{Areas}
use Rattle.writer.specs.Write.{list_in}
use Rattle.call_partition.specs.Partition.{Partitioned}
use Rattle.estimate.specs.Estimate.{Estimated}
use Rattle.demand.specs.Demand.{Call, written_list}
use Rattle.demand.specs.Split.{Commits}

-- ---- accepted calls

-- partition at the price p
pub record PartitionAt (p : Price) (list v st : List ℕ) (x : Call) : Type 0 where
  pub made : Partitioned p list v st x.before x.answer x.after
  pub accepted : Accepts x.answer

-- a call of estimate, with its one area, for a choice
pub record Estimate : Type 0 where
  pub before : List ℕ
  pub answer : Answer
  pub after : List ℕ

-- estimate at the price p
pub record EstimateAt (p : Price) (list v st : List ℕ) (x : Estimate) : Type 0 where
  pub made : Estimated p list v st x.before x.answer x.after
  pub accepted : Accepts x.answer

-- commit, at the price p, of the choice that the estimate e wrote
pub record CommitAt (p : Price) (list v st : List ℕ) (e : Estimate) (x : Call) : Type 0 where
  pub made : Commits p list v st x
  pub accepted : Accepts x.answer
  pub handed_on : x.before.choice ≡ take (length list / 12) e.after

-- ---- what a call comes to

-- bytes of the index, and bytes of disk
pub record Taken : Type 0 where
  pub index : ℕ
  pub stored : ℕ

-- what a call took that wrote a list: the index bytes of the records read back from its area, and the stored bytes that it answered
abbrev pub took : Price → Call → Taken
took p x = record { index = index_bytes p (records_of (written_list x)); stored = (figures_in x.answer).stored }

-- what an estimate foresees: the index bytes of the list that its choice makes, and the stored bytes that it answered
abbrev pub foresees : Price → List ℕ → Estimate → Taken
foresees p list x = record { index = index_bytes p (list_in list x.after); stored = (figures_in x.answer).stored }

-- what is taken, the cost that was answered, and the area with the choice
pub record Outcome : Type 0 where
  pub taken : Taken
  pub cost : ℕ
  pub choice : List ℕ

abbrev pub outcome : Price → Call → Outcome
outcome p x = record { taken = took p x; cost = (figures_in x.answer).cost; choice = x.after.choice }

abbrev pub outlook : Price → List ℕ → Estimate → Outcome
outlook p list x = record { taken = foresees p list x; cost = (figures_in x.answer).cost; choice = x.after }

-- ---- what the greater factor does

-- from x to y index bytes are traded for stored bytes: no more of the one, no fewer of the other, and neither changes alone
pub record Traded (x y : Taken) : Type 0 where
  pub index_falls : y.index ≤ x.index
  pub stored_grows : x.stored ≤ y.stored
  pub index_stays : y.stored ≡ x.stored → y.index ≡ x.index
  pub stored_stays : y.index ≡ x.index → y.stored ≡ x.stored

-- and the cost does not fall, and none of n records that x stores is kept by y
pub record Dearer (n : ℕ) (x y : Outcome) : Type 0 where
  pub traded : Traded x.taken y.taken
  pub cost_grows : x.cost ≤ y.cost
  pub given_up : (i : ℕ) → i < n → get_or x.choice i 0 ≡ 1 → get_or y.choice i 0 ≡ 1

-- ---- the laws

pub record FactorLaws : Type 0 where
  -- clauses 8.9.1 to 8.9.4: two partitions
  pub of_partitions : (en em f g : ℕ) (list v st : List ℕ) (x y : Call) → PartitionAt (price_at en em f) list v st x → PartitionAt (price_at en em g) list v st y → f ≤ g
      → Dearer (length list / 12) (outcome (price_at en em f) x) (outcome (price_at en em g) y)
  -- clause 8.9.5: the cost is that of what was taken; so the answer tells the index bytes
  pub partition_cost : (p : Price) (list v st : List ℕ) (x : Call) → PartitionAt p list v st x
      → (figures_in x.answer).cost ≡ p.f * (took p x).index + 256 * (took p x).stored
  -- clause 8.9.6: so too for estimates
  pub of_estimates : (en em f g : ℕ) (list v st : List ℕ) (x y : Estimate) → EstimateAt (price_at en em f) list v st x → EstimateAt (price_at en em g) list v st y → f ≤ g
      → Dearer (length list / 12) (outlook (price_at en em f) list x) (outlook (price_at en em g) list y)
  pub estimate_cost : (p : Price) (list v st : List ℕ) (x : Estimate) → EstimateAt p list v st x
      → (figures_in x.answer).cost ≡ p.f * (foresees p list x).index + 256 * (foresees p list x).stored
  -- clause 8.9.7: a commitment, at whatever price, of the choice that an estimate wrote takes what that estimate foresaw
  pub as_foreseen : (p q : Price) (list v st : List ℕ) (e : Estimate) (x : Call) → EstimateAt p list v st e → CommitAt q list v st e x
      → took p x ≡ foresees p list e
  -- clause 8.9.8: so an estimate at one factor beside a commitment of the choice that an estimate at the other wrote
  pub then_committed : (en em f g : ℕ) (q : Price) (list v st : List ℕ) (x y : Estimate) (z : Call) → EstimateAt (price_at en em f) list v st x
      → EstimateAt (price_at en em g) list v st y → f ≤ g → CommitAt q list v st y z → Traded (foresees (price_at en em f) list x) (took (price_at en em g) z)
  pub committed_then : (en em f g : ℕ) (q : Price) (list v st : List ℕ) (x y : Estimate) (z : Call) → EstimateAt (price_at en em f) list v st x
      → EstimateAt (price_at en em g) list v st y → f ≤ g → CommitAt q list v st x z → Traded (took (price_at en em f) z) (foresees (price_at en em g) list y)

-- ---- the calls as one function makes them

-- a call, for the areas before it, its answer, and the areas after it
abbrev pub call_of : Areas → Answer → Areas → Call
call_of before r after = record { before = before; answer = r; after = after }

-- what is so of two calls of partition, at the factors f and g
abbrev pub DearerIndex : (en em f g : ℕ) (list : List ℕ) (x y : Call) → Type 0
DearerIndex en em f g list x y = f ≤ g → Accepts x.answer → Accepts y.answer → Dearer (length list / 12) (outcome (price_at en em f) x) (outcome (price_at en em g) y)
