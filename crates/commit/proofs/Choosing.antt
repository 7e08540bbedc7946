-- Check 12 finds no fault exactly in the bytes of a choice; and its rulings, one by one.
-- Assumes nothing.
use Rattle.std.specs.Prelude.{Ok, Err}
use Prim.Native.Nat.{ℕ, zero, suc, ◌+◌, ◌/◌, ◌≤◌, ◌<◌}
use native.Mathlib.Omega.{arith}
use native.Mathlib.Numerals.{add-one}
use mathlib.Core.Path.{◌≡◌, refl, sym, ◌∙◌, ap, ap₂}
use mathlib.Core.Bool.{Bool, true, false, cond}
use mathlib.Core.List.{List, [], ◌∷◌, append-nil}
use lib.Dec.{eqb, leb}
use lib.ListN.{length, drop, get_or}
use lib.Seq.{drop-cons}
use borrow.Author.Tests.{leb-true, eqb-true, eq-eqb, ne_eqb}
use Rattle.format.specs.declared.Fault.TheVariants as fault
use Rattle.format.specs.declared.Record.{Record}
use Rattle.format.specs.declared.Record.TheVariants.{New, Match}
use Rattle.format.specs.Refusal.{need, refuse, ◌then◌}
use Rattle.format.specs.Record.{row_at, record_of, records_of, records_from}
use Rattle.format.proofs.Rulings.{fine_of_then, true_of_need}
use Rattle.format.proofs.Rows.{length_records_of, records_from_all, records_from_next, records_from_none}
use Rattle.choice.specs.Choice.{Bit, keep, store, bit_byte, bit_bytes, bits_of, only, either, freedom, May, IsChoice}
use Rattle.choice.proofs.Lists.{length_bits, length_choice, bits_back}
use Rattle.choice.proofs.Unjoining.{keep_store}
use Rattle.commit.specs.Commit.{may_have, bytes_ruling, choice_ruling}

-- ---- a byte that a record may have is the byte of a bit that it may have

bit_of_one : (b : ℕ) → b ≤ 1 → (d : Bit) × (b ≡ bit_byte d)
bit_of_one zero h = (keep, refl)
bit_of_one (suc zero) h = (store, refl)
bit_of_one (suc (suc b)) h = absurd (omega (arith, h))

bit_of_byte : (r : Record) (b : ℕ) → may_have r b ≡ true → (d : Bit) × May (freedom r) d × (b ≡ bit_byte d)
bit_of_byte (New s) b h = (store, refl, eqb-true b 1 h)
bit_of_byte (Match s a) b h = go a.held h
  where
    go : (x : Bool) → cond x (eqb b 0) (leb b 1) ≡ true → (d : Bit) × May (cond x (only keep) either) d × (b ≡ bit_byte d)
    go true k = (keep, refl, eqb-true b 0 k)
    go false k = let d = bit_of_one b (leb-true b 1 k) in (d.0, tt, d.1)

byte_of_bit : (r : Record) (d : Bit) → May (freedom r) d → may_have r (bit_byte d) ≡ true
byte_of_bit (New s) d h = rw h
byte_of_bit (Match s a) d h = go a.held d h
  where
    go : (x : Bool) (d : Bit) → May (cond x (only keep) either) d → cond x (eqb (bit_byte d) 0) (leb (bit_byte d) 1) ≡ true
    go true keep k = refl
    go true store k = keep_store (sym k)
    go false keep k = refl
    go false store k = refl

-- ---- all bytes

bits_of_bytes : (i : ℕ) (rs : List Record) (bs : List ℕ) → length bs ≡ length rs → bytes_ruling i rs bs ≡ Ok tt → (c : List Bit) × IsChoice rs c × (bs ≡ bit_bytes c)
bits_of_bytes i [] [] e h = ([], tt, refl)
bits_of_bytes i [] (b ∷ bs) e h = absurd (omega (arith, e))
bits_of_bytes i (r ∷ rs) [] e h = absurd (omega (arith, e))
bits_of_bytes i (r ∷ rs) (b ∷ bs) e h =
    let k = fine_of_then (need (may_have r b) fault.Choice i) (bytes_ruling (suc i) rs bs) h in
    let d = bit_of_byte r b (true_of_need (may_have r b) fault.Choice i k.0) in
    let c = bits_of_bytes (suc i) rs bs (omega (arith, e)) k.1 in
    (d.0 ∷ c.0, (d.1, c.1), ap₂ (λ (x : ℕ) (l : List ℕ). x ∷ l) d.2 c.2)

bytes_of_bits : (i : ℕ) (rs : List Record) (c : List Bit) → IsChoice rs c → bytes_ruling i rs (bit_bytes c) ≡ Ok tt
bytes_of_bits i [] [] h = refl
bytes_of_bits i [] (b ∷ c) h = absurd h
bytes_of_bits i (r ∷ rs) [] h = absurd h
bytes_of_bits i (r ∷ rs) (b ∷ c) h = rw (byte_of_bit r b h.0) (bytes_of_bits (suc i) rs c h.1)

-- ---- a choice that is handed in

-- the choice c is what the bytes stand for
pub record Stands (list choice : List ℕ) (c : List Bit) : Type 0 where
  pub is_choice : IsChoice (records_of list) c
  pub bytes_are : choice ≡ bit_bytes c
  pub bits_are : bits_of (length list / 12) choice ≡ c

pub stands : (list choice : List ℕ) (c : List Bit) → IsChoice (records_of list) c → choice ≡ bit_bytes c → Stands list choice c
stands list choice c h e =
    record {
      is_choice = h;
      bytes_are = e;
      bits_are =
          let n : length list / 12 ≡ length c = sym (length_choice (records_of list) c h ∙ length_records_of list) in
          ap₂ bits_of n (e ∙ sym (append-nil (bit_bytes c))) ∙ bits_back c [];
    }

-- there is a byte for each record
pub length_of_fine : (list choice : List ℕ) → choice_ruling list choice ≡ Ok tt → length choice ≡ length (records_of list)
length_of_fine list choice h =
    let k = fine_of_then (need (eqb (length choice) (length (records_of list))) fault.Choice 0) (bytes_ruling 0 (records_of list) choice) h in
    eqb-true (length choice) (length (records_of list)) (true_of_need (eqb (length choice) (length (records_of list))) fault.Choice 0 k.0)

pub choice_of_fine : (list choice : List ℕ) → choice_ruling list choice ≡ Ok tt → (c : List Bit) × Stands list choice c
choice_of_fine list choice h =
    let k = fine_of_then (need (eqb (length choice) (length (records_of list))) fault.Choice 0) (bytes_ruling 0 (records_of list) choice) h in
    let c = bits_of_bytes 0 (records_of list) choice (length_of_fine list choice h) k.1 in
    (c.0, stands list choice c.0 c.1 c.2)

pub fine_of_choice : (list : List ℕ) (c : List Bit) → IsChoice (records_of list) c → choice_ruling list (bit_bytes c) ≡ Ok tt
fine_of_choice list c h = rw (eq-eqb (length (bit_bytes c)) (length (records_of list)) (length_bits c ∙ length_choice (records_of list) c h)) (bytes_of_bits 0 (records_of list) c h)

-- ---- the loop: the bytes before record i are fine

module _ (list choice : List ℕ) where
  pub choice_length : (length choice ≡ length list / 12 → ⊥) → choice_ruling list choice ≡ Err (refuse fault.Choice 0)
  choice_length h = rw (ne_eqb (length choice) (length (records_of list)) (λ e. h (e ∙ length_records_of list)))

  pub choice_bytes : length choice ≡ length list / 12 → choice_ruling list choice ≡ bytes_ruling 0 (records_from list (length list / 12) 0) (drop 0 choice)
  choice_bytes e = rw (eq-eqb (length choice) (length (records_of list)) (e ∙ sym (length_records_of list))) (ap (λ (l : List Record). bytes_ruling 0 l choice) (records_from_all list))

  module _ (n i : ℕ) (h : i < n) (k : i < length choice) where
    bytes_next : bytes_ruling i (records_from list n i) (drop i choice)
        ≡ need (may_have (record_of (row_at list i)) (get_or choice i 0)) fault.Choice i then bytes_ruling (i + 1) (records_from list n (i + 1)) (drop (i + 1) choice)
    bytes_next =
        rw (records_from_next list n i h, drop-cons choice i 0 k)
        (ap (λ (j : ℕ). need (may_have (record_of (row_at list i)) (get_or choice i 0)) fault.Choice i then bytes_ruling j (records_from list n (i + 1)) (drop j choice)) (sym (add-one i)))

    pub bytes_stop : may_have (record_of (row_at list i)) (get_or choice i 0) ≡ false → bytes_ruling i (records_from list n i) (drop i choice) ≡ Err (refuse fault.Choice i)
    bytes_stop e = bytes_next ∙ rw e

    pub bytes_on : may_have (record_of (row_at list i)) (get_or choice i 0) ≡ true
        → bytes_ruling i (records_from list n i) (drop i choice) ≡ bytes_ruling (i + 1) (records_from list n (i + 1)) (drop (i + 1) choice)
    bytes_on e = bytes_next ∙ rw e

  pub bytes_none : (n i : ℕ) → n ≤ i → bytes_ruling i (records_from list n i) (drop i choice) ≡ Ok tt
  bytes_none n i h = rw (records_from_none list n i h)
