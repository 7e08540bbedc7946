-- The part that a record stands for: its bytes, and that it lies in the bytes that it is taken from.
-- Assumes nothing.
use Prim.Native.Nat.{ℕ, zero, suc, ◌+◌, ◌≤◌, ◌<◌}
use native.Mathlib.Omega.{arith}
use mathlib.Core.Path.{◌≡◌, ap}
use mathlib.Core.List.{List, [], ◌∷◌}
use lib.ListN.{length, take, get_or}
use denote.Ref.{Bor}
use Rattle.format.specs.declared.Record.{Record}
use Rattle.format.specs.declared.Record.TheVariants.{New, Match}
use Rattle.format.specs.Meaning.{stored, Part, of_block, of_store, part_of, part_at}
use Rattle.format.specs.WellFormed.{Inside}
use Rattle.format.proofs.Rebuilding.{bytes_in}
use Rattle.show.specs.Show.{Where, where_of, lent, Lies}

-- the bytes of a part that is lent back
pub lent_bytes : (r block st : Bor (List ℕ)) (p : Part) → where_of r ≡ lent block st p → r.now ≡ bytes_in block.now st.now p
lent_bytes r block st (of_block a n) e = ap (λ (w : Where). w.1) e
lent_bytes r block st (of_store a n) e = ap (λ (w : Where). w.1) e

-- the part that the first of some records stands for lies in the bytes it is taken from
pub lies_first : (r : Record) (l : List Record) (b st : List ℕ) (used : ℕ) → Inside st (r ∷ l) → used + stored (r ∷ l) ≡ length b → Lies (part_of used r) b st
lies_first (New s) l b st used h e = omega arith
lies_first (Match s a) l b st used h e = h.0

-- the part that record k stands for lies in the bytes it is taken from
pub lies_at : (l : List Record) (b st : List ℕ) (k : ℕ) → Inside st l → length b ≡ stored l → k < length l → Lies (part_at l k) b st
lies_at l b st k h e i = lies_shift (get_or l k (New 0)) (0 + stored (take k l)) (stored (take k l)) (omega arith) (go 0 l k h (omega arith) i)
  where
    lies_shift : (r : Record) (x y : ℕ) → x ≡ y → Lies (part_of x r) b st → Lies (part_of y r) b st
    lies_shift r x y q m = rw (← q) m

    go : (before : ℕ) (l : List Record) (k : ℕ) → Inside st l → before + stored l ≤ length b → k < length l → Lies (part_of (before + stored (take k l)) (get_or l k (New 0))) b st
    go before [] k h e i = absurd (omega arith)
    go before (New s ∷ l) zero h e i = omega arith
    go before (Match s a ∷ l) zero h e i = h.0
    go before (New s ∷ l) (suc k) h e i = lies_shift (get_or l k (New 0)) (before + s + stored (take k l)) (before + (s + stored (take k l))) (omega arith) (go (before + s) l k h (omega arith) (omega arith))
    go before (Match s a ∷ l) (suc k) h e i = go before l k h.1 e (omega arith)
