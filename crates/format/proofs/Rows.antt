-- Laws of rows: a list from row i on is row i and the list from row i + 1 on.
-- Assumes nothing.
use Prim.Native.Nat.{ℕ, zero, suc, ◌+◌, ◌*◌, ◌-◌, ◌/◌, ◌%◌, ◌≤◌, ◌<◌}
use native.Mathlib.Omega.{arith}
use native.Mathlib.Nat.{div-add-mod, add-zero}
use native.Mathlib.Numerals.{add-one}
use mathlib.Core.Path.{◌≡◌, refl, sym, ◌∙◌, ap, ap₂}
use mathlib.Core.Bool.{Bool, true, false, not, ◌&&◌, ◌||◌, cond}
use mathlib.Core.List.{List, [], ◌∷◌, ◌++◌}
use lib.Dec.{eqb, leb}
use lib.ListN.{length, take, get_or}
use borrow.Author.Tests.{leb-true, eqb-true}
use Rattle.format.specs.declared.Row.{Row}
use Rattle.format.specs.declared.Record.{Record}
use Rattle.format.specs.declared.Record.TheVariants.{New, Match}
use Rattle.format.specs.Record.{from, row_at, is_new, source_of, record_of, records, records_of, well_formed, list_fits, records_from}
use Rattle.format.specs.Limits.{list_most}
use Rattle.format.specs.Meaning.{size_of, stored}
use Rattle.format.proofs.Rulings.{both_of_and}

module _ {A : Type 0} (f : ℕ → A) where
  pub length_from : (i m : ℕ) → length (from f i m) ≡ m
  length_from i zero = refl
  length_from i (suc m) = ap suc (length_from (i + 1) m)

  pub from_add : (i m n : ℕ) → from f i (m + n) ≡ from f i m ++ from f (i + m) n
  from_add i zero n = let e : 0 + n ≡ n = omega arith in ap₂ (from f) (sym (add-zero i)) e
  from_add i (suc m) n =
      let e : suc m + n ≡ suc (m + n) = omega arith in
      let k : i + 1 + m ≡ i + suc m = omega arith in
      ap (from f i) e ∙ ap (λ (l : List A). f i ∷ l) (from_add (i + 1) m n ∙ ap (λ (j : ℕ). from f (i + 1) m ++ from f j n) k)

  pub from_next : (i n : ℕ) → i < n → from f i (n - i) ≡ f i ∷ from f (i + 1) (n - (i + 1))
  from_next i n h =
      let e : n - i ≡ suc (n - (i + 1)) = omega arith in
      ap (from f i) e

  pub from_none : (i n : ℕ) → n ≤ i → from f i (n - i) ≡ []
  from_none i n h =
      let e : n - i ≡ 0 = omega arith in
      ap (from f i) e

pub length_records : (rs : List Row) → length (records rs) ≡ length rs
length_records [] = refl
length_records (r ∷ rs) = ap suc (length_records rs)

pub size_record : (r : Row) → size_of (record_of r) ≡ r.size
size_record r = go (is_new r)
  where
    go : (t : Bool) → size_of (cond t (New r.size) (Match r.size (source_of r))) ≡ r.size
    go true = refl
    go false = refl

pub stored_record : (r : Row) (l : List Record) → stored (record_of r ∷ l) ≡ cond (is_new r) r.size 0 + stored l
stored_record r l = go (is_new r)
  where
    go : (t : Bool) → stored (cond t (New r.size) (Match r.size (source_of r)) ∷ l) ≡ cond t r.size 0 + stored l
    go true = refl
    go false = omega arith

pub records_from_next : (list : List ℕ) (n i : ℕ) → i < n → records_from list n i ≡ record_of (row_at list i) ∷ records_from list n (i + 1)
records_from_next list n i h = ap records (from_next (row_at list) i n h)

pub records_from_back : (list : List ℕ) (n i : ℕ) → 0 < i → i ≤ n → records_from list n (i - 1) ≡ record_of (row_at list (i - 1)) ∷ records_from list n i
records_from_back list n i h k =
    let e : i - 1 + 1 ≡ i = omega arith in
    records_from_next list n (i - 1) (omega arith) ∙ ap (λ (j : ℕ). record_of (row_at list (i - 1)) ∷ records_from list n j) e

pub records_from_none : (list : List ℕ) (n i : ℕ) → n ≤ i → records_from list n i ≡ []
records_from_none list n i h = ap records (from_none (row_at list) i n h)

pub records_from_all : (list : List ℕ) → records_of list ≡ records_from list (length list / 12) 0
records_from_all list =
    let e : length list / 12 ≡ length list / 12 - 0 = omega arith in
    ap (λ (m : ℕ). records (from (row_at list) 0 m)) e

pub length_records_of : (l : List ℕ) → length (records_of l) ≡ length l / 12
length_records_of l = simp (length_records, length_from)

get_d_records : (f : ℕ → Row) (i j m : ℕ) → j < m → get_or (records (from f i m)) j (New 0) ≡ record_of (f (i + j))
get_d_records f i j zero h = absurd (omega arith)
get_d_records f i zero (suc m) h = ap (λ (k : ℕ). record_of (f k)) (sym (add-zero i))
get_d_records f i (suc j) (suc m) h =
    get_d_records f (i + 1) j m (omega arith) ∙ (let e : i + 1 + j ≡ i + suc j = omega arith in ap (λ (k : ℕ). record_of (f k)) e)

-- record i of a list is that of row i
pub get_d_records_of : (l : List ℕ) (i : ℕ) → i < length (records_of l) → get_or (records_of l) i (New 0) ≡ record_of (row_at l i)
get_d_records_of l i h =
    get_d_records (row_at l) 0 i (length l / 12) (omega (arith, length_records_of l)) ∙ (let e : 0 + i ≡ i = omega arith in ap (λ (k : ℕ). record_of (row_at l k)) e)

pub stored_cons : (r : Record) (l : List Record) → stored (r ∷ l) ≡ stored (r ∷ []) + stored l
stored_cons (New s) l = omega arith
stored_cons (Match s a) l = omega arith

-- one record more
pub stored_take_next : (l : List Record) (i : ℕ) → i < length l → stored (take (i + 1) l) ≡ stored (take i l) + stored (get_or l i (New 0) ∷ [])
stored_take_next l i h = ap (λ (k : ℕ). stored (take k l)) (add-one i) ∙ go l i h
  where
    go : (l : List Record) (i : ℕ) → i < length l → stored (take (suc i) l) ≡ stored (take i l) + stored (get_or l i (New 0) ∷ [])
    go [] i h = absurd (omega arith)
    go (r ∷ l) zero h = omega arith
    go (r ∷ l) (suc i) h = omega (arith, stored_cons r (take (suc i) l), stored_cons r (take i l), go l i (omega arith))

pub stored_take_most : (l : List Record) (i : ℕ) → stored (take i l) ≤ stored l
stored_take_most [] zero = omega arith
stored_take_most [] (suc i) = omega arith
stored_take_most (r ∷ l) zero = omega arith
stored_take_most (r ∷ l) (suc i) = omega (arith, stored_cons r (take i l), stored_cons r l, stored_take_most l i)

-- a list that passes check 3 is so many whole records, and no more than 4,096
pub record Counted (l : List ℕ) : Type 0 where
  pub list_at_most : length l ≤ list_most
  pub whole_records : length l ≡ 12 * length (records_of l)
  pub count_most : length (records_of l) ≤ 4096

pub counted_of_fits : (l : List ℕ) → list_fits l ≡ true → Counted l
counted_of_fits l h =
    let k = both_of_and (leb (length l) list_most) (eqb (length l % 12) 0) h in
    let m : length l ≤ list_most = leb-true (length l) list_most k.0 in
    let w : length l ≡ 12 * (length l / 12) = omega (arith, div-add-mod (length l) 12, eqb-true (length l % 12) 0 k.1) in
    record { list_at_most = m; whole_records = omega (arith, length_records_of l); count_most = omega (arith, length_records_of l) }

-- a row that passes check 4
pub record Formed (r : Row) : Type 0 where
  pub kind_most : r.kind ≤ 1
  pub byte1_most : r.byte1 ≤ 1
  pub byte2_zero : r.byte2 ≡ 0
  pub byte3_zero : r.byte3 ≡ 0
  pub size_least : 1 ≤ r.size
  pub no_mark : is_new r ≡ true → r.byte1 ≡ 0
  pub no_address : is_new r ≡ true → r.address ≡ 0

pub formed_of_test : (r : Row) → well_formed r ≡ true → Formed r
formed_of_test r e =
    let k : Bool = leb r.kind 1 in
    let s : Bool = leb r.byte1 1 in
    let t : Bool = eqb r.byte2 0 in
    let f : Bool = eqb r.byte3 0 in
    let a = both_of_and (k && s && t && f && leb 1 r.size) (not (is_new r) || (eqb r.byte1 0 && eqb r.address 0)) e in
    let b = both_of_and (k && s && t && f) (leb 1 r.size) a.0 in
    let c = both_of_and (k && s && t) f b.0 in
    let d = both_of_and (k && s) t c.0 in
    let g = both_of_and k s d.0 in
    let bare : is_new r ≡ true → (eqb r.byte1 0 ≡ true) × (eqb r.address 0 ≡ true) = λ n. both_of_and (eqb r.byte1 0) (eqb r.address 0) (rw n at a.1) in
    record {
      kind_most = leb-true r.kind 1 g.0;
      byte1_most = leb-true r.byte1 1 g.1;
      byte2_zero = eqb-true r.byte2 0 d.1;
      byte3_zero = eqb-true r.byte3 0 c.1;
      size_least = leb-true 1 r.size b.1;
      no_mark = λ n. eqb-true r.byte1 0 (bare n).0;
      no_address = λ n. eqb-true r.address 0 (bare n).1;
    }
