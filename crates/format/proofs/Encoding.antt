-- Laws of the record's bytes: lengths; a written list is read as it was; a read record is written as it was.
-- Assumes nothing.
use Prim.Native.Nat.{ℕ, zero, suc, ◌+◌, ◌*◌, ◌/◌, ◌%◌, ◌≤◌, ◌<◌}
use native.Mathlib.Omega.{arith}
use native.Mathlib.Nat.{pos_of_ne-zero}
use native.Mathlib.Numerals.{add-one}
use mathlib.Core.Path.{◌≡◌, refl, sym, ◌∙◌, ap, ap₂}
use mathlib.Core.Bool.{Bool, true, false, cond}
use mathlib.Core.List.{List, [], ◌∷◌, ◌++◌, append_assoc}
use lib.Dec.{eqb, leb}
use lib.ListN.{length, get_or, take, drop, length-append}
use lib.Seq.{get_or-append-add, drop-cons, drop-drop, take-add}
use borrow.Author.Tests.{eqb-true, eqb-false, eq-eqb, le-leb}
use Rattle.format.specs.declared.Row.{Row}
use Rattle.format.specs.declared.Record.{Record}
use Rattle.format.specs.declared.Record.TheVariants.{New, Match}
use Rattle.format.specs.Record.{word_at, row_at, from, rows_of, is_new, source_of, record_of, records, records_of, well_formed, list_fits, word, mark_byte, bytes_of, encode}
use Rattle.format.specs.Limits.{list_most}
use Rattle.format.proofs.Rulings.{and_of_both}
use Rattle.format.proofs.Rows.{Formed, formed_of_test}

pub length_bytes : (r : Record) → length (bytes_of r) ≡ 12
length_bytes (New s) = refl
length_bytes (Match s a) = refl

pub length_encode : (l : List Record) → length (encode l) ≡ 12 * length l
length_encode [] = refl
length_encode (r ∷ l) = length-append (bytes_of r) (encode l) ∙ omega (arith, length_bytes r, length_encode l)

pub encode_append : (x y : List Record) → encode (x ++ y) ≡ encode x ++ encode y
encode_append [] y = refl
encode_append (r ∷ x) y = ap (λ (l : List ℕ). bytes_of r ++ l) (encode_append x y) ∙ sym (append_assoc (bytes_of r) (encode x) (encode y))

-- ---- written, then read

-- the row that a record is written as
abbrev pub row_for : Record → Row
row_for (New s) = record { kind = 0; byte1 = 0; byte2 = 0; byte3 = 0; size = s; address = 0 }
row_for (Match s a) = record { kind = 1; byte1 = mark_byte a.held; byte2 = 0; byte3 = 0; size = s; address = a.address }

abbrev pub rows_for : List Record → List Row
rows_for [] = []
rows_for (r ∷ l) = row_for r ∷ rows_for l

word_back : (x : ℕ) → x % 256 + 256 * (x / 256 % 256) + 65536 * (x / 65536 % 256) + 16777216 * (x / 16777216) ≡ x
word_back x = omega arith

row_first : (r : Record) (t : List ℕ) → row_at (bytes_of r ++ t) 0 ≡ row_for r
row_first (New s) t = rw (word_back s)
row_first (Match s a) t = rw (word_back s, word_back a.address)

byte_after : (r : Record) (t : List ℕ) (i k : ℕ) → get_or (bytes_of r ++ t) (12 * (i + 1) + k) 0 ≡ get_or t (12 * i + k) 0
byte_after r t i k =
    let e : 12 * (i + 1) + k ≡ length (bytes_of r) + (12 * i + k) = omega (arith, length_bytes r) in
    ap (λ (j : ℕ). get_or (bytes_of r ++ t) j 0) e ∙ get_or-append-add (bytes_of r) t (12 * i + k) 0

kind_after : (r : Record) (t : List ℕ) (i : ℕ) → get_or (bytes_of r ++ t) (12 * (i + 1)) 0 ≡ get_or t (12 * i) 0
kind_after r t i =
    let e : 12 * (i + 1) ≡ 12 * (i + 1) + 0 = omega arith in
    let f : 12 * i + 0 ≡ 12 * i = omega arith in
    ap (λ (m : ℕ). get_or (bytes_of r ++ t) m 0) e ∙ byte_after r t i 0 ∙ ap (λ (m : ℕ). get_or t m 0) f

word_after : (r : Record) (t : List ℕ) (i k : ℕ) → word_at (bytes_of r ++ t) (12 * (i + 1) + k) ≡ word_at t (12 * i + k)
word_after r t i k = omega (arith, byte_after r t i k, at 1, at 2, at 3)
  where
    at : (j : ℕ) → get_or (bytes_of r ++ t) (12 * (i + 1) + k + j) 0 ≡ get_or t (12 * i + k + j) 0
    at j =
        let e : 12 * (i + 1) + k + j ≡ 12 * (i + 1) + (k + j) = omega arith in
        let f : 12 * i + (k + j) ≡ 12 * i + k + j = omega arith in
        ap (λ (m : ℕ). get_or (bytes_of r ++ t) m 0) e ∙ byte_after r t i (k + j) ∙ ap (λ (m : ℕ). get_or t m 0) f

row_after : (r : Record) (t : List ℕ) (i : ℕ) → row_at (bytes_of r ++ t) (i + 1) ≡ row_at t i
row_after r t i = cc (kind_after r t i, byte_after r t i 1, byte_after r t i 2, byte_after r t i 3, word_after r t i 4, word_after r t i 8)

-- values from k further on, where they are those of another function
pub from_shift : {A : Type 0} (f g : ℕ → A) (k : ℕ) → ((i : ℕ) → f (i + k) ≡ g i) → (i m : ℕ) → from f (i + k) m ≡ from g i m
from_shift f g k e i zero = refl
from_shift {A} f g k e i (suc m) =
    let next : i + k + 1 ≡ i + 1 + k = omega arith in
    ap₂ (λ (x : A) (l : List A). x ∷ l) (e i) (ap (λ (j : ℕ). from f j m) next ∙ from_shift f g k e (i + 1) m)

from_encode : (l : List Record) → from (row_at (encode l)) 0 (length l) ≡ rows_for l
from_encode [] = refl
from_encode (r ∷ l) =
    rw (row_first r (encode l)) (ap (λ (m : List Row). row_for r ∷ m) (from_shift (row_at (bytes_of r ++ encode l)) (row_at (encode l)) 1 (row_after r (encode l)) 0 (length l) ∙ from_encode l))

pub rows_encode : (l : List Record) → rows_of (encode l) ≡ rows_for l
rows_encode l =
    let e : length (encode l) / 12 ≡ length l = omega (arith, length_encode l) in
    ap (from (row_at (encode l)) 0) e ∙ from_encode l

mark_back : (h : Bool) → eqb (mark_byte h) 1 ≡ h
mark_back true = refl
mark_back false = refl

records_rows : (l : List Record) → records (rows_for l) ≡ l
records_rows [] = refl
records_rows (New s ∷ l) = ap (λ (k : List Record). New s ∷ k) (records_rows l)
records_rows (Match s a ∷ l) = ap₂ (λ (h : Bool) (k : List Record). Match s (record { address = a.address; held = h }) ∷ k) (mark_back a.held) (records_rows l)

-- a written list is read as it was
pub records_encode : (l : List Record) → records_of (encode l) ≡ l
records_encode l = ap records (rows_encode l) ∙ records_rows l

-- a written list of at most 4,096 records passes check 3
pub fits_encode : (l : List Record) → length l ≤ 4096 → list_fits (encode l) ≡ true
fits_encode l n =
    and_of_both (leb (length (encode l)) list_most) (eqb (length (encode l) % 12) 0) (le-leb (length (encode l)) list_most (omega (arith, length_encode l)))
    (eq-eqb (length (encode l) % 12) 0 (omega (arith, length_encode l)))

-- ---- read, then written

-- the bytes of an area are below 256
abbrev pub Bytes : List ℕ → Type 0
Bytes l = (i : ℕ) → get_or l i 0 < 256

word_forth : (a b c d : ℕ) → a < 256 → b < 256 → c < 256 → d < 256 → word (a + 256 * b + 65536 * c + 16777216 * d) ≡ a ∷ b ∷ c ∷ d ∷ []
word_forth a b c d ha hb hc hd =
    let x : ℕ = a + 256 * b + 65536 * c + 16777216 * d in
    let y₁ : x / 256 ≡ b + 256 * c + 65536 * d = omega arith in
    let y₂ : x / 65536 ≡ c + 256 * d = omega arith in
    let e₀ : x % 256 ≡ a = omega arith in
    let e₁ : (b + 256 * c + 65536 * d) % 256 ≡ b = omega arith in
    let e₂ : (c + 256 * d) % 256 ≡ c = omega arith in
    let e₃ : x / 16777216 ≡ d = omega arith in
    rw (e₀, y₁, e₁, y₂, e₂, e₃)

pub one_more : (l : List ℕ) (at : ℕ) → at < length l → drop at l ≡ get_or l at 0 ∷ drop (at + 1) l
one_more l at h = drop-cons l at 0 h ∙ ap (λ (j : ℕ). get_or l at 0 ∷ drop j l) (sym (add-one at))

four_bytes : (l : List ℕ) (at : ℕ) → at + 4 ≤ length l → take 4 (drop at l) ≡ get_or l at 0 ∷ get_or l (at + 1) 0 ∷ get_or l (at + 2) 0 ∷ get_or l (at + 3) 0 ∷ []
four_bytes l at h =
    let f₁ : at + 1 + 1 ≡ at + 2 = omega arith in
    let f₂ : at + 2 + 1 ≡ at + 3 = omega arith in
    rw (one_more l at (omega arith), one_more l (at + 1) (omega arith), f₁, one_more l (at + 2) (omega arith), f₂, one_more l (at + 3) (omega arith))

word_of : (l : List ℕ) (at : ℕ) → Bytes l → at + 4 ≤ length l → word (word_at l at) ≡ take 4 (drop at l)
word_of l at h k =
    word_forth (get_or l at 0) (get_or l (at + 1) 0) (get_or l (at + 2) 0) (get_or l (at + 3) 0) (h at) (h (at + 1)) (h (at + 2)) (h (at + 3)) ∙ sym (four_bytes l at k)

twelve_bytes : (l : List ℕ) (at : ℕ) → take 12 (drop at l) ≡ take 4 (drop at l) ++ (take 4 (drop (at + 4) l) ++ take 4 (drop (at + 8) l))
twelve_bytes l at =
    take-add 4 8 (drop at l)
    ∙ ap (λ (x : List ℕ). take 4 (drop at l) ++ x) (take-add 4 4 (drop 4 (drop at l)) ∙ rw (drop-drop 4 4 (drop at l), drop-drop 4 at l, drop-drop 8 at l))

mark_forth : (m : ℕ) → m ≤ 1 → mark_byte (eqb m 1) ≡ m
mark_forth zero h = refl
mark_forth (suc zero) h = refl
mark_forth (suc (suc m)) h = absurd (omega arith)

-- a read record is written as it was
pub bytes_read : (l : List ℕ) (i : ℕ) → Bytes l → 12 * i + 12 ≤ length l → well_formed (row_at l i) ≡ true → bytes_of (record_of (row_at l i)) ≡ take 12 (drop (12 * i) l)
bytes_read l i h k w =
    go (is_new (row_at l i)) refl
    ∙ ap (λ (x : List ℕ). x ++ (take 4 (drop (12 * i + 4) l) ++ take 4 (drop (12 * i + 8) l))) (sym (four_bytes l (12 * i) (omega arith)))
    ∙ sym (twelve_bytes l (12 * i))
  where
    f : Formed (row_at l i)
    f = formed_of_test (row_at l i) w

    go : (t : Bool) → is_new (row_at l i) ≡ t
        → bytes_of (cond t (New (word_at l (12 * i + 4))) (Match (word_at l (12 * i + 4)) (source_of (row_at l i))))
        ≡ get_or l (12 * i) 0 ∷ get_or l (12 * i + 1) 0 ∷ get_or l (12 * i + 2) 0 ∷ get_or l (12 * i + 3) 0 ∷ (take 4 (drop (12 * i + 4) l) ++ take 4 (drop (12 * i + 8) l))
    go true e =
        let z : word_at l (12 * i + 8) ≡ 0 = f.no_address e in
        rw (eqb-true (get_or l (12 * i) 0) 0 e, f.no_mark e, f.byte2_zero, f.byte3_zero, ← word_of l (12 * i + 4) h (omega arith), ← word_of l (12 * i + 8) h (omega arith), z)
    go false e =
        let one : get_or l (12 * i) 0 ≡ 1 = omega (arith, f.kind_most, not_zero (eqb-false (get_or l (12 * i) 0) 0 e)) in
        rw (one, mark_forth (get_or l (12 * i + 1) 0) f.byte1_most, f.byte2_zero, f.byte3_zero, ← word_of l (12 * i + 4) h (omega arith), ← word_of l (12 * i + 8) h (omega arith))
      where
        not_zero : (get_or l (12 * i) 0 ≡ 0 → ⊥) → 0 < get_or l (12 * i) 0
        not_zero n = pos_of_ne-zero n
