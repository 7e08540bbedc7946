-- A list, its stored block and the store that come from a version rebuild that version; lengths; and the part a record stands for is what
-- it rebuilds.
-- Assumes nothing.
use Prim.Native.Nat.{ℕ, zero, suc, ◌+◌, ◌≤◌, ◌<◌}
use native.Mathlib.Omega.{arith}
use mathlib.Core.Path.{◌≡◌, refl, sym, ◌∙◌, ap}
use mathlib.Core.List.{List, [], ◌∷◌, ◌++◌}
use lib.ListN.{length, take, drop, get_or, length-append, length-drop, take-append-drop}
use lib.Seq.{take_at, drop_at, length-take-le, drop-append-add, drop-drop}
use Rattle.format.specs.declared.Record.{Record}
use Rattle.format.specs.declared.Record.TheVariants.{New, Match}
use Rattle.format.specs.Meaning.{size_of, whole, stored, offset, block_of, rebuilt, Part, of_block, of_store, part_of, part_at}
use Rattle.format.specs.WellFormed.{Inside, Agrees}

pub stored_most : (l : List Record) → stored l ≤ whole l
stored_most [] = omega arith
stored_most (New s ∷ l) = omega (arith, stored_most l)
stored_most (Match s a ∷ l) = omega (arith, stored_most l)

pub whole_agrees : (st : List ℕ) (l : List Record) (v : List ℕ) → Agrees st l v → whole l ≡ length v
whole_agrees st [] v h = sym (ap length h)
whole_agrees st (New s ∷ l) v h = omega (arith, h.0, length-drop s v, whole_agrees st l (drop s v) h.1)
whole_agrees st (Match s a ∷ l) v h = omega (arith, h.0, length-drop s v, whole_agrees st l (drop s v) h.3)

pub inside_agrees : (st : List ℕ) (l : List Record) (v : List ℕ) → Agrees st l v → Inside st l
inside_agrees st [] v h = tt
inside_agrees st (New s ∷ l) v h = inside_agrees st l (drop s v) h.1
inside_agrees st (Match s a ∷ l) v h = (h.1, inside_agrees st l (drop s v) h.3)

pub inside_rest : (r : Record) (l : List Record) (st : List ℕ) → Inside st (r ∷ l) → Inside st l
inside_rest (New s) l st h = h
inside_rest (Match s a) l st h = h.1

pub rebuilt_block : (st : List ℕ) (l : List Record) (v : List ℕ) → Agrees st l v → rebuilt l (block_of l v) st ≡ v
rebuilt_block st [] v h = sym h
rebuilt_block st (New s ∷ l) v h =
    rw (take_at (take s v) (block_of l (drop s v)) s (length-take-le s v h.0), drop_at (take s v) (block_of l (drop s v)) s (length-take-le s v h.0), rebuilt_block st l (drop s v) h.1)
    (take-append-drop s v)
rebuilt_block st (Match s a ∷ l) v h = rw (← h.2, rebuilt_block st l (drop s v) h.3) (take-append-drop s v)

pub length_block : (l : List Record) (v : List ℕ) → whole l ≤ length v → length (block_of l v) ≡ stored l
length_block [] v h = refl
length_block (New s ∷ l) v h =
    length-append (take s v) (block_of l (drop s v)) ∙ omega (arith, length-take-le s v (omega arith), length_block l (drop s v) (omega (arith, length-drop s v)))
length_block (Match s a ∷ l) v h = length_block l (drop s v) (omega (arith, length-drop s v))

pub length_rebuilt : (l : List Record) (b st : List ℕ) → Inside st l → stored l ≤ length b → length (rebuilt l b st) ≡ whole l
length_rebuilt [] b st h k = refl
length_rebuilt (New s ∷ l) b st h k =
    rw (length-append, length-take-le s b (omega arith), length_rebuilt l (drop s b) st h (omega (arith, length-drop s b)))
length_rebuilt (Match s a ∷ l) b st h k =
    rw (length-append, length-take-le s (drop a.address st) (omega (arith, length-drop a.address st, h.0)), length_rebuilt l b st h.1 k)

-- the bytes of a part
abbrev pub bytes_in : List ℕ → List ℕ → Part → List ℕ
bytes_in b st (of_block a n) = take n (drop a b)
bytes_in b st (of_store a n) = take n (drop a st)

-- what a list rebuilds is what its first record stands for, where so many stored bytes come before it, and what the others rebuild
pub rebuilt_cons : (r : Record) (l : List Record) (b st : List ℕ) (used : ℕ)
    → rebuilt (r ∷ l) (drop used b) st ≡ bytes_in b st (part_of used r) ++ rebuilt l (drop (used + stored (r ∷ [])) b) st
rebuilt_cons (New s) l b st used =
    let e : used + s ≡ used + (s + 0) = omega arith in
    ap (λ (x : List ℕ). take s (drop used b) ++ rebuilt l x st) (drop-drop s used b ∙ ap (λ (k : ℕ). drop k b) e)
rebuilt_cons (Match s a) l b st used =
    let e : used ≡ used + 0 = omega arith in
    ap (λ (k : ℕ). take s (drop a.address st) ++ rebuilt l (drop k b) st) e

-- what record k stands for is what stands at its offset in the version
pub part_rebuilt : (l : List Record) (b st : List ℕ) (k : ℕ) → Inside st l → stored l ≤ length b → k < length l
    → take (size_of (get_or l k (New 0))) (drop (offset l k) (rebuilt l b st)) ≡ bytes_in b st (part_at l k)
part_rebuilt [] b st k h i j = absurd (omega arith)
part_rebuilt (New s ∷ l) b st zero h i j = take_at (take s b) (rebuilt l (drop s b) st) s (length-take-le s b (omega arith))
part_rebuilt (Match s a ∷ l) b st zero h i j = take_at (take s (drop a.address st)) (rebuilt l b st) s (length-take-le s (drop a.address st) (omega (arith, length-drop a.address st, h.0)))
part_rebuilt (New s ∷ l) b st (suc k) h i j =
    ap (take (size_of (get_or l k (New 0)))) (on (length-take-le s b (omega arith)))
    ∙ part_rebuilt l (drop s b) st k h (omega (arith, length-drop s b)) (omega arith)
    ∙ behind (get_or l k (New 0))
  where
    on : length (take s b) ≡ s → drop (s + offset l k) (take s b ++ rebuilt l (drop s b) st) ≡ drop (offset l k) (rebuilt l (drop s b) st)
    on e = ap (λ (x : ℕ). drop (x + offset l k) (take s b ++ rebuilt l (drop s b) st)) (sym e) ∙ drop-append-add (take s b) (rebuilt l (drop s b) st) (offset l k)

    behind : (r : Record) → bytes_in (drop s b) st (part_of (stored (take k l)) r) ≡ bytes_in b st (part_of (s + stored (take k l)) r)
    behind (New t) = ap (take t) (drop-drop (stored (take k l)) s b)
    behind (Match t a) = refl
part_rebuilt (Match s a ∷ l) b st (suc k) h i j =
    ap (take (size_of (get_or l k (New 0)))) (on (length-take-le s (drop a.address st) (omega (arith, length-drop a.address st, h.0))))
    ∙ part_rebuilt l b st k h.1 i (omega arith)
  where
    on : length (take s (drop a.address st)) ≡ s → drop (s + offset l k) (take s (drop a.address st) ++ rebuilt l b st) ≡ drop (offset l k) (rebuilt l b st)
    on e = ap (λ (x : ℕ). drop (x + offset l k) (take s (drop a.address st) ++ rebuilt l b st)) (sym e) ∙ drop-append-add (take s (drop a.address st)) (rebuilt l b st) (offset l k)
