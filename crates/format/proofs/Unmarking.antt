-- A list without its marks: its rows are those of the list, but for the marks; so check 4 passes the same ones, and the records differ in nothing but
-- their marks. And a list that was written, without its marks.
-- Assumes nothing.
use Prim.Native.Nat.{ℕ, zero, suc, ◌+◌, ◌*◌, ◌-◌, ◌/◌, ◌%◌, ◌≤◌, ◌<◌}
use native.Mathlib.Omega.{arith}
use native.Mathlib.Nat.{add-zero}
use mathlib.Core.Path.{◌≡◌, refl, sym, ◌∙◌, ap, ap₂}
use mathlib.Core.Bool.{Bool, true, false, not, ◌&&◌, ◌||◌, cond}
use mathlib.Core.List.{List, [], ◌∷◌, ◌++◌}
use lib.Dec.{eqb, leb}
use lib.ListN.{length, get_or, length-append}
use lib.Seq.{get_or-append-add}
use borrow.Author.Tests.{eqb-true, eq-eqb, ne_eqb}
use Rattle.format.specs.declared.Row.{Row}
use Rattle.format.specs.declared.Record.{Record}
use Rattle.format.specs.declared.Record.TheVariants.{New, Match}
use Rattle.format.specs.Record.{free_at, from, word_at, row_at, rows_of, is_new, source_of, record_of, records, records_of, well_formed, list_fits, bytes_of, encode}
use Rattle.format.specs.Limits.{list_most}
use Rattle.format.specs.Marks.{bare, bares, unmarked_byte, unmarked}
use Rattle.format.proofs.Rulings.{both_of_and}
use Rattle.format.proofs.Rows.{length_from, from_add}
use Rattle.format.proofs.Encoding.{length_bytes, from_shift}

-- ---- the bytes and the rows

get_d_from : (f : ℕ → ℕ) (i j m : ℕ) → j < m → get_or (from f i m) j 0 ≡ f (i + j)
get_d_from f i j zero h = absurd (omega arith)
get_d_from f i zero (suc m) h = ap f (sym (add-zero i))
get_d_from f i (suc j) (suc m) h = let e : i + 1 + j ≡ i + suc j = omega arith in get_d_from f (i + 1) j m (omega arith) ∙ ap f e

length_unmarked : (l : List ℕ) → length (unmarked l) ≡ length l
length_unmarked l = length_from (unmarked_byte l) 0 (length l)

-- a row without its mark
abbrev pub bare_row : Row → Row
bare_row r =
    record {
      kind = r.kind;
      byte1 = cond (eqb r.kind 1 && eqb r.byte1 1) 0 r.byte1;
      byte2 = r.byte2;
      byte3 = r.byte3;
      size = r.size;
      address = r.address;
    }

abbrev pub bare_rows : List Row → List Row
bare_rows [] = []
bare_rows (r ∷ rs) = bare_row r ∷ bare_rows rs

module _ (l : List ℕ) (i : ℕ) (h : 12 * i + 12 ≤ length l) where
  byte_at : (k : ℕ) → k < 12 → get_or (unmarked l) (12 * i + k) 0 ≡ unmarked_byte l (12 * i + k)
  byte_at k g = let e : 0 + (12 * i + k) ≡ 12 * i + k = omega arith in get_d_from (unmarked_byte l) 0 (12 * i + k) (length l) (omega arith) ∙ ap (unmarked_byte l) e

  -- every byte but byte 1
  same_byte : (k : ℕ) → k < 12 → (k ≡ 1 → ⊥) → get_or (unmarked l) (12 * i + k) 0 ≡ get_or l (12 * i + k) 0
  same_byte k g n =
      let other : (12 * i + k) % 12 ≡ 1 → ⊥ = λ e. n (omega arith) in
      byte_at k g ∙ rw (ne_eqb ((12 * i + k) % 12) 1 other)

  same_kind : get_or (unmarked l) (12 * i) 0 ≡ get_or l (12 * i) 0
  same_kind = let e : 12 * i + 0 ≡ 12 * i = omega arith in rw e at (same_byte 0 (omega arith) (λ z. omega arith))

  mark_at : get_or (unmarked l) (12 * i + 1) 0 ≡ (bare_row (row_at l i)).byte1
  mark_at =
      let one : (12 * i + 1) % 12 ≡ 1 = omega arith in
      let back : 12 * i + 1 - 1 ≡ 12 * i = omega arith in
      byte_at 1 (omega arith) ∙ rw (eq-eqb ((12 * i + 1) % 12) 1 one, back)

  same_word : (k : ℕ) → 1 < k → k + 4 ≤ 12 → word_at (unmarked l) (12 * i + k) ≡ word_at l (12 * i + k)
  same_word k low high = omega (arith, same_byte k (omega arith) (λ z. omega arith), at 1 (omega arith), at 2 (omega arith), at 3 (omega arith))
    where
      at : (j : ℕ) → j < 4 → get_or (unmarked l) (12 * i + k + j) 0 ≡ get_or l (12 * i + k + j) 0
      at j g = let e : 12 * i + (k + j) ≡ 12 * i + k + j = omega arith in rw e at (same_byte (k + j) (omega arith) (λ z. omega arith))

  row_unmarked : row_at (unmarked l) i ≡ bare_row (row_at l i)
  row_unmarked =
      cc (same_kind, mark_at, same_byte 2 (omega arith) (λ z. omega arith), same_byte 3 (omega arith) (λ z. omega arith), same_word 4 (omega arith) (omega arith), same_word 8 (omega arith) (omega arith))

from_unmarked : (l : List ℕ) (i m : ℕ) → 12 * (i + m) ≤ length l → from (row_at (unmarked l)) i m ≡ bare_rows (from (row_at l) i m)
from_unmarked l i zero h = refl
from_unmarked l i (suc m) h = ap₂ (λ (r : Row) (rs : List Row). r ∷ rs) (row_unmarked l i (omega arith)) (from_unmarked l (i + 1) m (omega arith))

pub rows_unmarked : (l : List ℕ) → rows_of (unmarked l) ≡ bare_rows (rows_of l)
rows_unmarked l = ap (λ (n : ℕ). from (row_at (unmarked l)) 0 (n / 12)) (length_unmarked l) ∙ from_unmarked l 0 (length l / 12) (omega arith)

-- ---- the checks

pub fits_unmarked : (l : List ℕ) → list_fits (unmarked l) ≡ list_fits l
fits_unmarked l = ap (λ (n : ℕ). leb n list_most && eqb (n % 12) 0) (length_unmarked l)

-- check 4 by kind and byte 1, the other fields as they stand
abbrev formed_by : Row → ℕ → ℕ → Bool
formed_by r k b = leb k 1 && leb b 1 && eqb r.byte2 0 && eqb r.byte3 0 && leb 1 r.size && (not (eqb k 0) || (eqb b 0 && eqb r.address 0))

pub formed_bare : (r : Row) → well_formed (bare_row r) ≡ well_formed r
formed_bare r = go (eqb r.kind 1 && eqb r.byte1 1) refl
  where
    go : (t : Bool) → eqb r.kind 1 && eqb r.byte1 1 ≡ t → formed_by r r.kind (cond t 0 r.byte1) ≡ formed_by r r.kind r.byte1
    go true e =
        let k = both_of_and (eqb r.kind 1) (eqb r.byte1 1) e in
        rw (eqb-true r.kind 1 k.0, eqb-true r.byte1 1 k.1)
    go false e = refl

-- ---- the records

record_bare : (r : Row) → bare (record_of (bare_row r)) ≡ bare (record_of r)
record_bare r = go (is_new r)
  where
    go : (t : Bool) → bare (cond t (New r.size) (Match r.size (source_of (bare_row r)))) ≡ bare (cond t (New r.size) (Match r.size (source_of r)))
    go true = refl
    go false = refl

records_bare : (rs : List Row) → bares (records (bare_rows rs)) ≡ bares (records rs)
records_bare [] = refl
records_bare (r ∷ rs) = ap₂ (λ (x : Record) (l : List Record). x ∷ l) (record_bare r) (records_bare rs)

-- what does not depend on the marks of records is the same for a list without them
pub unread : {A : Type 0} (f : List Record → A) → ((l : List Record) → f (bares l) ≡ f l) → (list : List ℕ) → f (records_of (unmarked list)) ≡ f (records_of list)
unread f h list =
    sym (h (records_of (unmarked list)))
    ∙ ap f (ap (λ (rs : List Row). bares (records rs)) (rows_unmarked list) ∙ records_bare (rows_of list))
    ∙ h (records_of list)

-- ---- a list that was written

-- the bytes after the first record are those of the rest
byte_beyond : (r : Record) (t : List ℕ) (i : ℕ) → unmarked_byte (bytes_of r ++ t) (i + 12) ≡ unmarked_byte t i
byte_beyond r t i = go (eqb (i % 12) 1) refl
  where
    at : (j : ℕ) → get_or (bytes_of r ++ t) (j + 12) 0 ≡ get_or t j 0
    at j = let e : j + 12 ≡ length (bytes_of r) + j = omega (arith, length_bytes r) in ap (λ (k : ℕ). get_or (bytes_of r ++ t) k 0) e ∙ get_or-append-add (bytes_of r) t j 0

    round : (i + 12) % 12 ≡ i % 12
    round = omega arith

    go : (x : Bool) → eqb (i % 12) 1 ≡ x → unmarked_byte (bytes_of r ++ t) (i + 12) ≡ unmarked_byte t i
    go true e =
        let back : i + 12 - 1 ≡ i - 1 + 12 = omega (arith, eqb-true (i % 12) 1 e) in
        rw (round, back, at i, at (i - 1))
    go false e = rw (round, e, at i)

unmarked_first : (r : Record) (t : List ℕ) → from (unmarked_byte (bytes_of r ++ t)) 0 12 ≡ bytes_of (bare r)
unmarked_first (New s) t = refl
unmarked_first (Match s a) t = go a.held
  where
    go : (h : Bool) → from (unmarked_byte (bytes_of (Match s (record { address = a.address; held = h })) ++ t)) 0 12 ≡ bytes_of (Match s (free_at a.address))
    go true = refl
    go false = refl

unmarked_cons : (r : Record) (t : List ℕ) → unmarked (bytes_of r ++ t) ≡ bytes_of (bare r) ++ unmarked t
unmarked_cons r t =
    let f = unmarked_byte (bytes_of r ++ t) in
    let e : length (bytes_of r ++ t) ≡ 12 + length t = length-append (bytes_of r) t ∙ ap (λ (n : ℕ). n + length t) (length_bytes r) in
    ap (from f 0) e
    ∙ from_add f 0 12 (length t)
    ∙ ap₂ (λ (x y : List ℕ). x ++ y) (unmarked_first r t) (from_shift f (unmarked_byte t) 12 (byte_beyond r t) 0 (length t))

-- it is that of the records without their marks
pub unmarked_encode : (l : List Record) → unmarked (encode l) ≡ encode (bares l)
unmarked_encode [] = refl
unmarked_encode (r ∷ l) = unmarked_cons r (encode l) ∙ ap (λ (x : List ℕ). bytes_of (bare r) ++ x) (unmarked_encode l)
