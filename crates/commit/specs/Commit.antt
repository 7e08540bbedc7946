-- The call commit (section 4.9, clause 5.12): the list and the stored block of a choice that is handed in, least or not, with their entries, stored
-- bytes and cost.
-- Assumes nothing.
use Rattle.std.specs.Prelude.{ℕ, suc, ◌/◌, ◌≡◌, Bool, cond, List, [], ◌∷◌, eqb, leb, length, Ok}
use Rattle.format.specs.declared.Fault.TheVariants as fault
use Rattle.format.specs.declared.Record.{Record}
use Rattle.format.specs.declared.Record.TheVariants.{New, Match}
use Rattle.format.specs.Refusal.{Ruling, Answer, need, ◌then◌, unless_refused}
use Rattle.format.specs.Record.{records_of, encode}
use Rattle.format.specs.Meaning.{block_of}
use Rattle.price.specs.declared.Price.{Price}
use Rattle.price.specs.Price.{rates_of}
use Rattle.area.specs.Area.{over}
use Rattle.choice.specs.Choice.{bits_of, list_of}
use Rattle.admit.specs.Admit.{admit_ruling}
use Rattle.writer.specs.Decide.{decided_answer}

-- whether a record may have the byte b: not one over 1, no 0 for a new record and no 1 for a held match (clause 5.12)
abbrev pub may_have : Record → ℕ → Bool
may_have (New s) b = eqb b 1
may_have (Match s a) b = cond a.held (eqb b 0) (leb b 1)

-- the records from record i on, each with its byte; the place is the first that may not have it
abbrev pub bytes_ruling : ℕ → List Record → List ℕ → Ruling
bytes_ruling i [] bs = Ok tt
bytes_ruling i (r ∷ rs) [] = Ok tt
bytes_ruling i (r ∷ rs) (b ∷ bs) = need (may_have r b) fault.Choice i then bytes_ruling (suc i) rs bs

-- check 12: one byte for each record, so the length first; then the bytes
abbrev pub choice_ruling : List ℕ → List ℕ → Ruling
choice_ruling list choice =
    need (eqb (length choice) (length (records_of list))) fault.Choice 0
    then bytes_ruling 0 (records_of list) choice

-- the order of clause 6.6: partition's checks, with 9 by the areas for list and stored block, of lengths a and b, as the choice is given just the length
-- that it needs; then 12, right after the short end
abbrev pub commit_ruling : Price → List ℕ → List ℕ → List ℕ → List ℕ → ℕ → ℕ → Ruling
commit_ruling price list v st choice a b =
    admit_ruling price list v st (length list / 12) a b
    then choice_ruling list choice

-- cost, entries and stored bytes of the choice's list
abbrev pub commit_answer : Price → List ℕ → List ℕ → List ℕ → List ℕ → List ℕ → List ℕ → Answer
commit_answer price list v st choice area block =
    decided_answer (commit_ruling price list v st choice (length area) (length block)) (rates_of price) list (bits_of (length list / 12) choice) 0

-- the areas begin with that list and its stored block; bytes beyond are unchanged
abbrev pub commit_list : Price → List ℕ → List ℕ → List ℕ → List ℕ → List ℕ → List ℕ → List ℕ
commit_list price list v st choice area block =
    let l = list_of (records_of list) (bits_of (length list / 12) choice) in
    unless_refused (commit_ruling price list v st choice (length area) (length block)) (over (encode l) area) area

abbrev pub commit_block : Price → List ℕ → List ℕ → List ℕ → List ℕ → List ℕ → List ℕ → List ℕ
commit_block price list v st choice area block =
    let l = list_of (records_of list) (bits_of (length list / 12) choice) in
    unless_refused (commit_ruling price list v st choice (length area) (length block)) (over (block_of l v) block) block

-- the answer r, and the areas for list and stored block after the call
pub record Committed (price : Price) (list v st choice area block : List ℕ) (r : Answer) (area' block' : List ℕ) : Type 0 where
  pub answered : r ≡ commit_answer price list v st choice area block
  pub list_after : area' ≡ commit_list price list v st choice area block
  pub block_after : block' ≡ commit_block price list v st choice area block
