-- Refusals: the number of each fault (section 5), and checks that are made one after the other.
-- Assumes nothing.
use Rattle.std.specs.Prelude.{ℕ, Bool, true, false, Result, Ok, Err}
use Rattle.format.specs.declared.Fault.{Fault}
use Rattle.format.specs.declared.Fault.TheVariants.{Price, TooLong, ListLength, Malformed, Adjacent, Sizes, OutsideStore, Mismatch, AreaTooShort, BlockLength, NoSuchRecord, Choice, TooManyRecords, Index, OutsideEarlier, VolumeTooLong}
use Rattle.format.specs.declared.Refusal.{Refusal}
use Rattle.format.specs.declared.Figures.{Figures}

-- the numbers (section 5)
abbrev pub number : Fault → ℕ
number Price = 1
number TooLong = 2
number ListLength = 3
number Malformed = 4
number Adjacent = 5
number Sizes = 6
number OutsideStore = 7
number Mismatch = 8
number AreaTooShort = 9
number BlockLength = 10
number NoSuchRecord = 11
number Choice = 12
number TooManyRecords = 13
number Index = 14
number OutsideEarlier = 15
number VolumeTooLong = 16

-- what a check, or several in their order, come to: fine, or the first refusal
abbrev pub Ruling : Type 0
Ruling = Result (Unit {0}) Refusal

-- what a call answers: its figures, or why it is refused
abbrev pub Answer : Type 0
Answer = Result Figures Refusal

-- of a refusal: a fault, and the record concerned, or the chunk of a volume, or 0
abbrev pub refuse : Fault → ℕ → Refusal
refuse f p = record { fault = f; place = p }

-- a fault at a place, unless the test holds
abbrev pub need : Bool → Fault → ℕ → Ruling
need true f p = Ok tt
need false f p = Err (refuse f p)

-- checks one after the other: the first refusal stands (clause 4.1.2)
infixr 20 ◌then◌
abbrev pub ◌then◌ : Ruling → Ruling → Ruling
◌then◌ (Ok _) r = r
◌then◌ (Err x) r = Err x

-- the figures of a call whose checks are fine, or its refusal
abbrev pub answer : Ruling → Figures → Answer
answer (Ok _) x = Ok x
answer (Err r) x = Err r

-- figures that give a whole length alone
abbrev pub length_only : ℕ → Figures
length_only n = record { cost = 0; entries = 0; stored = 0; looks = 0; whole = n }

-- figures that give entries alone: a number of records, or 1 for yes and 0 for no
abbrev pub entries_only : ℕ → Figures
entries_only n = record { cost = 0; entries = n; stored = 0; looks = 0; whole = 0 }

-- the call is accepted
abbrev pub Accepts : Answer → Type 0
Accepts (Ok x) = Unit {0}
Accepts (Err r) = ⊥

-- the figures of an answer, all 0 where the call is refused
abbrev pub figures_in : Answer → Figures
figures_in (Ok x) = x
figures_in (Err r) = length_only 0

-- what a call leaves of its areas: where it is refused, what they held
abbrev pub unless_refused : {A : Type 0} → Ruling → A → A → A
unless_refused (Ok _) after before = after
unless_refused (Err r) after before = before
