-- The laws of pool (sections 4.13 and 8.8), by the contracts of the calls.
--
-- In order: a call of pool; a list by itself; a list without matches; the laws, a field for each.
-- Assumes nothing.
use Rattle.std.specs.Prelude.{ℕ, ◌+◌, ◌≤◌, ◌<◌, ◌≡◌, true, List, [], ◌∷◌, leb, length, Ok, Err}
use Rattle.format.specs.declared.Fault.TheVariants as fault
use Rattle.format.specs.declared.Record.{Record}
use Rattle.format.specs.declared.Record.TheVariants.{New, Match}
use Rattle.format.specs.declared.Refusal.{Refusal}
use Rattle.format.specs.Refusal.{Ruling, need, ◌then◌, answer, unless_refused, Accepts, figures_in, length_only, entries_only}
use Rattle.format.specs.Limits.{list_most}
use Rattle.format.specs.Record.{records_of, encode}
use Rattle.format.specs.Meaning.{whole, stored, block_of}
use Rattle.format.specs.Origins.{fresh, origin_at}
use Rattle.price.specs.declared.Price.{Price}
use Rattle.price.specs.Price.{price_fits}
use Rattle.area.specs.Area.{over}
use Rattle.admit.specs.Admit.{lengths_fit, LongEnough}
use Rattle.show.specs.Check.{checked}
use Rattle.rebuild.specs.Rebuild.{Rebuilt}
use Rattle.call_partition.specs.Partition.{Partitioned}
use Rattle.loose.specs.Loose.{tidy_form}
use Rattle.pool.specs.Pool.{pooled_byte, list_ruling, pool_answer, Pooled}
use Rattle.demand.specs.Demand.{Call, Rebuilding}
use Rattle.demand.specs.Tidying.{ListCall, list_out, Tidies, Writes}

-- the call x is one of pool, by its contract
abbrev pub Pools : List ℕ → List ℕ → List ℕ → List ℕ → ListCall → Type 0
Pools first second v st x = Pooled first second v st x.before x.answer x.after

-- the stored block of the list that it wrote: the version's bytes under its new records
abbrev pub new_bytes : List ℕ → ListCall → List ℕ
new_bytes v x = block_of (records_of (list_out x)) v

-- a list by itself: check 2, the checks of one list, and room for its tidy form
abbrev pub sole_ruling : List ℕ → List ℕ → List ℕ → ℕ → Ruling
sole_ruling list v st room =
    need (lengths_fit v st) fault.TooLong 0
    then list_ruling list v st
    then need (leb (length (encode (tidy_form list))) room) fault.AreaTooShort 0

-- no record is a match
abbrev pub NoMatch : List Record → Type 0
NoMatch [] = Unit {0}
NoMatch (New s ∷ l) = NoMatch l
NoMatch (Match s a ∷ l) = ⊥

pub record PoolingLaws : Type 0 where
  -- clause 4.13.8: what partition refuses, with another number than 1, 5 and 9, pool refuses alike: the first list, and the second where pool of the
  -- first with itself is accepted
  pub first_refused : (p : Price) (first second v st area : List ℕ) (x : Call) (r : Refusal) → Partitioned p first v st x.before x.answer x.after → x.answer ≡ Err r
      → (r.fault ≡ fault.Price → ⊥) → (r.fault ≡ fault.AreaTooShort → ⊥) → (r.fault ≡ fault.Adjacent → ⊥) → pool_answer first second v st area ≡ Err r
  pub second_refused : (p : Price) (first second v st area : List ℕ) (x : Call) (y : ListCall) (r : Refusal) → Pools first first v st y → Accepts y.answer
      → Partitioned p second v st x.before x.answer x.after → x.answer ≡ Err r
      → (r.fault ≡ fault.Price → ⊥) → (r.fault ≡ fault.AreaTooShort → ⊥) → (r.fault ≡ fault.Adjacent → ⊥) → pool_answer first second v st area ≡ Err r
  -- and it never answers 5
  pub never_five : (first second v st area : List ℕ) (r : Refusal) → pool_answer first second v st area ≡ Err r → r.fault ≡ fault.Adjacent → ⊥
  -- clause 8.8.1: a list with itself gives its own tidy form, or its refusal
  pub itself : (list v st : List ℕ) (x : ListCall) → Pools list list v st x
      → (x.answer ≡ answer (sole_ruling list v st (length x.before)) (entries_only (length (tidy_form list))))
      × (x.after ≡ unless_refused (sole_ruling list v st (length x.before)) (over (encode (tidy_form list)) x.before) x.before)
  -- which is what tidy writes
  pub itself_as_tidy : (list v st : List ℕ) (x y : ListCall) → Pools list list v st x → Accepts x.answer → Tidies list st y → length list ≤ length y.before
      → Writes (list_out x) (figures_in x.answer).entries y
  -- clause 8.8.2: partition accepts what pool wrote
  pub partition_accepts : (p : Price) (first second v st : List ℕ) (x : ListCall) (y : Call) → Pools first second v st x → Accepts x.answer
      → Partitioned p (list_out x) v st y.before y.answer y.after → price_fits p ≡ true → LongEnough (list_out x) v y.before → Accepts y.answer
  -- clause 8.8.3: with the version's bytes under its new records check accepts it, at each record, and rebuild makes the version
  pub checked_with_block : (first second v st : List ℕ) (x : ListCall) (k : ℕ) → Pools first second v st x → Accepts x.answer → k < (figures_in x.answer).entries
      → checked (list_out x) (new_bytes v x) st k ≡ Ok (length_only 0)
  pub rebuilt_with_block : (first second v st : List ℕ) (x : ListCall) (y : Rebuilding) → Pools first second v st x → Accepts x.answer
      → Rebuilt (list_out x) (new_bytes v x) st y.before y.answer y.after → length v ≤ length y.before
      → (y.answer ≡ Ok (length_only (length v))) × (y.after ≡ over v y.before)
  -- clause 8.8.4: a byte is new exactly when it is new in both lists
  pub new_in_both : (first second v st : List ℕ) (x : ListCall) (i : ℕ) → Pools first second v st x → Accepts x.answer → i < length v
      → (origin_at (records_of (list_out x)) i ≡ fresh → (origin_at (records_of first) i ≡ fresh) × (origin_at (records_of second) i ≡ fresh))
      × ((origin_at (records_of first) i ≡ fresh) × (origin_at (records_of second) i ≡ fresh) → origin_at (records_of (list_out x)) i ≡ fresh)
  -- so its stored bytes are no more than either's
  pub stores_no_more : (first second v st : List ℕ) (x : ListCall) → Pools first second v st x → Accepts x.answer
      → (stored (records_of (list_out x)) ≤ stored (records_of first)) × (stored (records_of (list_out x)) ≤ stored (records_of second))
  -- clause 8.8.5: pooled with a list of no matches, on either side, a list gives what tidy writes of it
  pub second_without : (first second v st : List ℕ) (x y : ListCall) → Pools first second v st x → Accepts x.answer → NoMatch (records_of second)
      → Tidies first st y → length first ≤ length y.before → Writes (list_out x) (figures_in x.answer).entries y
  pub first_without : (first second v st : List ℕ) (x y : ListCall) → Pools first second v st x → Accepts x.answer → NoMatch (records_of first)
      → Tidies second st y → length second ≤ length y.before → Writes (list_out x) (figures_in x.answer).entries y
  -- clause 8.8.6: it covers the version, and each byte has its origin by the first list where that is a match, else by the second
  pub covers_version : (first second v st : List ℕ) (x : ListCall) → Pools first second v st x → Accepts x.answer → whole (records_of (list_out x)) ≡ length v
  pub each_byte : (first second v st : List ℕ) (x : ListCall) (i : ℕ) → Pools first second v st x → Accepts x.answer → i < length v
      → origin_at (records_of (list_out x)) i ≡ pooled_byte (origin_at (records_of first) i) (origin_at (records_of second) i)
  -- clause 8.8.7: of what pool wrote, tidy writes that list
  pub of_tidy : (first second v st : List ℕ) (x y : ListCall) → Pools first second v st x → Accepts x.answer → Tidies (list_out x) st y → length (list_out x) ≤ length y.before
      → Writes (list_out x) (figures_in x.answer).entries y
  -- clause 8.8.8: two lists, each accepted with itself, that have no more than 4,096 records together are accepted in an area as long as both
  pub few_together : (first second v st area : List ℕ) (x y : ListCall) → Pools first first v st x → Accepts x.answer → Pools second second v st y → Accepts y.answer
      → length first + length second ≤ list_most → length first + length second ≤ length area → Accepts (pool_answer first second v st area)
