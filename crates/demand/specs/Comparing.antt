-- The laws of compare (section 8.3), by the contracts of the other calls: its refusals are check's; it says yes exactly where the bytes that rebuild wrote are
-- the same, each from the same origin, and so exactly where what tidy wrote and the stored blocks are; a list and itself; the order of the two; a list
-- beside what tidy, partition, pass and commit wrote of it; and what counts of the store.
-- Assumes nothing.
use Rattle.std.specs.Prelude.{ℕ, ◌/◌, ◌≡◌, true, List, length, take, Ok, Err}
use Rattle.format.specs.declared.Fault.TheVariants.{NoSuchRecord}
use Rattle.format.specs.declared.Refusal.{Refusal}
use Rattle.format.specs.Refusal.{Answer, Accepts, answer, figures_in}
use Rattle.format.specs.Record.{records_of}
use Rattle.price.specs.declared.Price.{Price}
use Rattle.choice.specs.Choice.{bit_bytes, keep_all}
use Rattle.show.specs.Check.{inputs_ruling, checked}
use Rattle.rebuild.specs.Rebuild.{Rebuilt}
use Rattle.compare.specs.Compare.{yes_or_no, says_yes, says_no, compared}
use Rattle.call_partition.specs.Partition.{Partitioned}
use Rattle.call_pass.specs.Pass.{PassMade}
use Rattle.demand.specs.Demand.{Call, Rebuilding, written_list, written_block}
use Rattle.demand.specs.Split.{Commits}
use Rattle.demand.specs.Tidying.{ListCall, Tidies, list_out, SameOrigins}

-- the call x is one of rebuild, and accepted
pub record Rebuilds (list block st : List ℕ) (x : Rebuilding) : Type 0 where
  pub made : Rebuilt list block st x.before x.answer x.after
  pub accepted : Accepts x.answer

-- the version that a call of rebuild wrote: as many bytes of its area as its answer says
abbrev pub written_version : Rebuilding → List ℕ
written_version x = take (figures_in x.answer).whole x.after

-- the choice that a call wrote, or was given, for the list has 0 for each match and 1 for each new record
abbrev pub KeepsAll : List ℕ → Call → Type 0
KeepsAll list x = take (length list / 12) x.after.choice ≡ bit_bytes (keep_all (records_of list))

-- an answer is yes where P holds, and no where it does not
pub record Exactly (a : Answer) (P : Type 0) : Type 0 where
  pub yes_where : P → a ≡ says_yes
  pub no_elsewhere : (P → ⊥) → a ≡ says_no

pub record ComparingLaws : Type 0 where
  -- clause 8.3.1: the refusal of check, but for its 11, whatever k it was asked for; of the first list, and of the second where rebuild accepts the first
  pub first_refused : (first second block₁ block₂ st : List ℕ) (k : ℕ) (r : Refusal) → checked first block₁ st k ≡ Err r → (r.fault ≡ NoSuchRecord → ⊥)
      → compared first second block₁ block₂ st ≡ Err r
  pub second_refused : (first second block₁ block₂ st : List ℕ) (x : Rebuilding) (k : ℕ) (r : Refusal) → Rebuilds first block₁ st x → checked second block₂ st k ≡ Err r
      → (r.fault ≡ NoSuchRecord → ⊥) → compared first second block₁ block₂ st ≡ Err r
  -- clause 8.3.2: where rebuild accepts both, yes exactly where what it wrote is the same and each byte has the same origin in both
  pub as_rebuilt : (first second block₁ block₂ st : List ℕ) (x y : Rebuilding) → Rebuilds first block₁ st x → Rebuilds second block₂ st y
      → Exactly (compared first second block₁ block₂ st) ((written_version x ≡ written_version y) × SameOrigins (records_of first) (records_of second))
  -- so no, wherever it wrote different bytes
  pub different_bytes : (first second block₁ block₂ st : List ℕ) (x y : Rebuilding) → Rebuilds first block₁ st x → Rebuilds second block₂ st y
      → (written_version x ≡ written_version y → ⊥) → compared first second block₁ block₂ st ≡ says_no
  -- clause 8.3.3: where neither is refused, yes exactly where tidy writes the same list of both and the stored blocks are the same
  pub by_tidy_forms : (first second block₁ block₂ st : List ℕ) (x y : ListCall) → Accepts (compared first second block₁ block₂ st)
      → Tidies first st x → Accepts x.answer → Tidies second st y → Accepts y.answer
      → Exactly (compared first second block₁ block₂ st) ((list_out x ≡ list_out y) × (block₁ ≡ block₂))
  -- clause 8.3.4: a list and itself: yes, or the list's refusal
  pub itself : (list block st : List ℕ) → compared list list block block st ≡ answer (inputs_ruling list block st) (yes_or_no true)
  -- clause 8.3.5: the order of the two does not matter, where neither is refused
  pub either_order : (first second block₁ block₂ st : List ℕ) → inputs_ruling first block₁ st ≡ Ok tt → inputs_ruling second block₂ st ≡ Ok tt
      → compared first second block₁ block₂ st ≡ compared second first block₂ block₁ st
  -- clause 8.3.6: a list and what tidy wrote of it, with its stored block: yes, or the list's refusal
  pub of_tidy : (list block st : List ℕ) (x : ListCall) → Tidies list st x → Accepts x.answer
      → compared list (list_out x) block block st ≡ answer (inputs_ruling list block st) (yes_or_no true)
  -- clause 8.3.7: a list, the version that rebuild wrote of it, and what partition, pass or commit wrote of both: yes exactly where the choice keeps all
  -- matches
  pub of_partition : (p : Price) (list block st : List ℕ) (x : Call) (y : Rebuilding) → Rebuilds list block st y
      → Partitioned p list (written_version y) st x.before x.answer x.after → Accepts x.answer
      → Exactly (compared list (written_list x) block (written_block x) st) (KeepsAll list x)
  pub of_pass : (p : Price) (list block st : List ℕ) (x : Call) (y : Rebuilding) → Rebuilds list block st y
      → PassMade p list (written_version y) st x.before x.answer x.after → Accepts x.answer
      → Exactly (compared list (written_list x) block (written_block x) st) (KeepsAll list x)
  pub of_commit : (p : Price) (list block st : List ℕ) (x : Call) (y : Rebuilding) → Rebuilds list block st y
      → Commits p list (written_version y) st x → Accepts x.answer
      → Exactly (compared list (written_list x) block (written_block x) st) (KeepsAll list x)
  -- clause 8.3.8: of the store only the length matters
  pub store_by_length : (first second block₁ block₂ st st' : List ℕ) → length st ≡ length st'
      → compared first second block₁ block₂ st ≡ compared first second block₁ block₂ st'
