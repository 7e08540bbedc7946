-- The call show (section 4.5): which part, of which lent bytes.
-- Assumes nothing.
use Rattle.std.specs.Prelude.{ℕ, ◌+◌, ◌≤◌, List, length, take, drop}
use Rattle.std.specs.Borrow.{Bor}
use Rattle.format.specs.Refusal.{unless_refused}
use Rattle.format.specs.Record.{records_of}
use Rattle.format.specs.Meaning.{Part, of_block, of_store, part_at}
use Rattle.show.specs.Check.{check_ruling}

-- where lent bytes lie (block of memory, offset in it), and which bytes they are
abbrev pub Where : Type 0
Where = (ℕ × ℕ) × List ℕ

abbrev pub where_of : Bor (List ℕ) → Where
where_of r = (r.ref_ptr, r.now)

-- the n bytes from a on of the lent bytes s
abbrev pub stretch : Bor (List ℕ) → ℕ → ℕ → Where
stretch s a n = ((s.ref_ptr.0, a + s.ref_ptr.1), take n (drop a s.now))

-- a part, lent back
abbrev pub lent : Bor (List ℕ) → Bor (List ℕ) → Part → Where
lent block st (of_block a n) = stretch block a n
lent block st (of_store a n) = stretch st a n

-- a part is within the bytes it is taken from
abbrev pub Lies : Part → List ℕ → List ℕ → Type 0
Lies (of_block a n) block st = a + n ≤ length block
Lies (of_store a n) block st = a + n ≤ length st

-- the part that record k stands for, or the first 0 bytes of the stored block where check refuses
abbrev pub shown : List ℕ → Bor (List ℕ) → Bor (List ℕ) → ℕ → Where
shown list block st k = lent block st (unless_refused (check_ruling list block.now st.now k) (part_at (records_of list) k) (of_block 0 0))
