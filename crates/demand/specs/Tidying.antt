-- The laws of check_loose and tidy (sections 4.11, 4.12 and 8.7), by the contracts of the calls.
--
-- In order: a call with a list area; a call of tidy; when two lists have the same origins; the laws, a field for each; tidying twice as one function makes it.
-- Assumes nothing.
use Rattle.std.specs.Prelude.{ℕ, ◌≤◌, ◌<◌, ◌≡◌, List, length, Ok, Err}
use Rattle.format.specs.declared.Fault.TheVariants.{Adjacent, BlockLength, NoSuchRecord}
use Rattle.format.specs.declared.Record.{Record}
use Rattle.format.specs.declared.Refusal.{Refusal}
use Rattle.format.specs.Refusal.{Answer, Accepts, figures_in, length_only, entries_only}
use Rattle.format.specs.Record.{records_of}
use Rattle.format.specs.Meaning.{whole, stored, rebuilt}
use Rattle.format.specs.Origins.{origin_at}
use Rattle.price.specs.declared.Price.{Price}
use Rattle.area.specs.Area.{over}
use Rattle.join.specs.Join.{Settled}
use Rattle.choice.specs.Choice.{bit_bytes, keep_all}
use Rattle.show.specs.Check.{inputs_ruling, checked}
use Rattle.rebuild.specs.Rebuild.{Rebuilt}
use Rattle.loose.specs.Loose.{loose_checked, tidy_answer, Tidied}
use Rattle.call_partition.specs.Partition.{Partitioned}
use Rattle.call_pass.specs.Pass.{PassMade}
use Rattle.demand.specs.declared.TwiceTidied.{TwiceTidied}
use Rattle.demand.specs.Demand.{Call, Rebuilding, list_written, written_list}
use Rattle.demand.specs.Split.{Commits}

-- a call of tidy or pool, with its one area, for a list
pub record ListCall : Type 0 where
  pub before : List ℕ
  pub answer : Answer
  pub after : List ℕ

-- the call x is one of tidy, by its contract
abbrev pub Tidies : List ℕ → List ℕ → ListCall → Type 0
Tidies list st x = Tidied list st x.before x.answer x.after

-- the list that it wrote: as many records of its area as its answer says
abbrev pub list_out : ListCall → List ℕ
list_out x = list_written x.answer x.after

-- it wrote this list, of n records, and no other byte
pub record Writes (list : List ℕ) (n : ℕ) (x : ListCall) : Type 0 where
  pub answered : x.answer ≡ Ok (entries_only n)
  pub area_after : x.after ≡ over list x.before

-- two lists cover equally many bytes, and each byte of the version has one origin in both: it is new in both, or drawn from the same address with the
-- same mark
pub record SameOrigins (l k : List Record) : Type 0 where
  pub equally_many : whole l ≡ whole k
  pub each_byte : (i : ℕ) → i < whole l → origin_at l i ≡ origin_at k i

pub record TidyingLaws : Type 0 where
  -- clause 4.11.1: check_loose answers as check does, but for number 5, k and the stored block: the same refusal, or none
  pub refused_as_check : (list block st : List ℕ) (k : ℕ) (r : Refusal) → checked list block st k ≡ Err r
      → (r.fault ≡ Adjacent → ⊥) → (r.fault ≡ BlockLength → ⊥) → (r.fault ≡ NoSuchRecord → ⊥) → loose_checked list st ≡ Err r
  pub accepted_as_check : (list block st : List ℕ) → inputs_ruling list block st ≡ Ok tt → loose_checked list st ≡ Ok (length_only 0)
  -- clause 4.11.2: it never answers 5
  pub never_five : (list st : List ℕ) (r : Refusal) → loose_checked list st ≡ Err r → r.fault ≡ Adjacent → ⊥
  -- clause 4.12.1: with room for the list, tidy refuses just what check_loose refuses
  pub refused_alike : (list st area : List ℕ) (r : Refusal) → length list ≤ length area
      → (tidy_answer list st area ≡ Err r → loose_checked list st ≡ Err r) × (loose_checked list st ≡ Err r → tidy_answer list st area ≡ Err r)
  -- clauses 4.12.2 and 4.12.3: of what tidy wrote no two neighbours are new or join, and each byte has the origin that it had
  pub none_joins : (list st : List ℕ) (x : ListCall) → Tidies list st x → Accepts x.answer → Settled (records_of (list_out x))
  pub origins_stay : (list st : List ℕ) (x : ListCall) → Tidies list st x → Accepts x.answer → SameOrigins (records_of list) (records_of (list_out x))
  -- clause 8.7.1: tidying what tidy wrote gives the same bytes and the same number
  pub twice : (list st : List ℕ) (x y : ListCall) → Tidies list st x → Accepts x.answer → Tidies (list_out x) st y → length (list_out x) ≤ length y.before
      → Writes (list_out x) (figures_in x.answer).entries y
  -- clause 8.7.2: the stored block needs no change: check accepts the tidy form with it, number 5 included, at each record
  pub checked_with_block : (list block st : List ℕ) (x : ListCall) (k : ℕ) → Tidies list st x → Accepts x.answer → length block ≡ stored (records_of list)
      → k < (figures_in x.answer).entries → checked (list_out x) block st k ≡ Ok (length_only 0)
  -- and rebuild makes of it what the loose list stands for
  pub rebuilt_with_block : (list block st : List ℕ) (x : ListCall) (y : Rebuilding) → Tidies list st x → Accepts x.answer → length block ≡ stored (records_of list)
      → Rebuilt (list_out x) block st y.before y.answer y.after → whole (records_of list) ≤ length y.before
      → (y.answer ≡ Ok (length_only (whole (records_of list)))) × (y.after ≡ over (rebuilt (records_of list) block st) y.before)
  -- clause 8.7.3: two accepted lists have one tidy form exactly when their origins are the same
  pub exactly_when : (list₁ list₂ st₁ st₂ : List ℕ) (x y : ListCall) → Tidies list₁ st₁ x → Accepts x.answer → Tidies list₂ st₂ y → Accepts y.answer
      → (list_out x ≡ list_out y → SameOrigins (records_of list₁) (records_of list₂)) × (SameOrigins (records_of list₁) (records_of list₂) → list_out x ≡ list_out y)
  -- clause 8.7.4: of a list that partition, pass or commit wrote, tidy writes that list
  pub of_partition : (p : Price) (list v st : List ℕ) (x : Call) (y : ListCall) → Partitioned p list v st x.before x.answer x.after → Accepts x.answer
      → Tidies (written_list x) st y → length (written_list x) ≤ length y.before → Writes (written_list x) (figures_in x.answer).entries y
  pub of_pass : (p : Price) (list v st : List ℕ) (x : Call) (y : ListCall) → PassMade p list v st x.before x.answer x.after → Accepts x.answer
      → Tidies (written_list x) st y → length (written_list x) ≤ length y.before → Writes (written_list x) (figures_in x.answer).entries y
  pub of_commit : (p : Price) (list v st : List ℕ) (x : Call) (y : ListCall) → Commits p list v st x → Accepts x.answer
      → Tidies (written_list x) st y → length (written_list x) ≤ length y.before → Writes (written_list x) (figures_in x.answer).entries y
  -- clause 8.7.5: of a tight list, tidy writes what a commitment with 0 for each match writes
  pub keeping_all : (p : Price) (list v st : List ℕ) (x : Call) (y : ListCall) → x.before.choice ≡ bit_bytes (keep_all (records_of list)) → Commits p list v st x
      → Accepts x.answer → Tidies list st y → length list ≤ length y.before → Writes (written_list x) (figures_in x.answer).entries y

-- ---- the calls as one function makes them

-- tidy, and tidy of what it wrote, each by its contract; the second answers and writes the same. Where the first is refused, no second is made, and its
-- answer stands
pub record TwoCalls (list st first second : List ℕ) (r : TwiceTidied) (first' second' : List ℕ) : Type 0 where
  pub once : Tidied list st first r.once first'
  pub again : Accepts r.once → Tidied (list_written r.once first') st second r.again second'
  pub same : Accepts r.once → length (list_written r.once first') ≤ length second → (r.again ≡ r.once) × (second' ≡ over (list_written r.once first') second)
  pub or_none : (x : Refusal) → r.once ≡ Err x → (r.again ≡ Err x) × (second' ≡ second)
