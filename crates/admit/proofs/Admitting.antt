-- The checks of partition and pass, one by one; what inputs that pass them have; and that a well-formed list that was written passes them.
-- Assumes nothing.
use Rattle.std.specs.Prelude.{Ok, Err}
use Prim.Native.Nat.{ℕ, ◌/◌, ◌≤◌}
use native.Mathlib.Omega.{arith}
use mathlib.Core.Path.{◌≡◌, refl, sym, ◌∙◌, ap}
use mathlib.Core.Bool.{true, false, ◌&&◌}
use mathlib.Core.List.{List}
use lib.Dec.{eqb, leb}
use lib.ListN.{length}
use borrow.Author.Tests.{leb-true, le-leb, eq-eqb, ne_eqb, eqb-true}
use Rattle.format.specs.declared.Fault.TheVariants as fault
use Rattle.format.specs.declared.Record.{Record}
use Rattle.format.specs.declared.Refusal.{Refusal}
use Rattle.format.specs.Refusal.{Ruling, need, refuse, ◌then◌}
use Rattle.format.specs.Limits.{version_most, store_most}
use Rattle.format.specs.Record.{list_fits, rows_of, records_of, encode}
use Rattle.format.specs.Meaning.{whole}
use Rattle.format.specs.WellFormed.{WellFormed}
use Rattle.format.proofs.Rulings.{fine_of_then, true_of_need, both_of_and, and_of_both}
use Rattle.format.proofs.Rows.{Counted, counted_of_fits}
use Rattle.format.proofs.Encoding.{records_encode, fits_encode}
use Rattle.format.proofs.Rebuilding.{whole_agrees}
use Rattle.walk.specs.declared.Scope.{Scope}
use Rattle.walk.specs.declared.Scope.TheVariants as scope
use Rattle.walk.specs.declared.Totals.{Totals}
use Rattle.walk.specs.Checks.{checks, walk_ruling, front}
use Rattle.walk.specs.Walked.{walked}
use Rattle.walk.proofs.Telling.{fine_of_through}
use Rattle.walk.proofs.Accepted.{each_of_fine, sized_of_four, apart_of_five, agrees_of_eight}
use Rattle.walk.proofs.Encoded.{walk_encode}
use Rattle.area.specs.Area.{Areas}
use Rattle.price.specs.declared.Price.{Price}
use Rattle.price.specs.Price.{price_fits, rates_of, RatesFit}
use Rattle.price.proofs.Bounds.{rates_fit}
use Rattle.admit.specs.Admit.{lengths_fit, areas_fit, first_ruling, rooms_ruling, cover_ruling, admit_ruling, partition_ruling, findings, LongEnough}

-- ---- the list beside version and store

module _ (x : Scope) (list v st : List ℕ) where
  pub cover_walk : (r : Refusal) → walk_ruling (checks x v st) list ≡ Err r → cover_ruling x list v st ≡ Err r
  cover_walk r w = rw w

  module _ (w : walk_ruling (checks x v st) list ≡ Ok tt) where
    pub cover_short : (whole (records_of list) ≡ length v → ⊥) → cover_ruling x list v st ≡ Err (refuse fault.Sizes (length (records_of list)))
    cover_short n = rw (w, ne_eqb (whole (records_of list)) (length v) n)

    pub cover_fine : whole (records_of list) ≡ length v → cover_ruling x list v st ≡ Ok tt
    cover_fine n = rw (w, eq-eqb (whole (records_of list)) (length v) n)

-- what a list has that is fine beside version and store
pub record Covered (list v st : List ℕ) : Type 0 where
  pub walk_fine : walk_ruling (checks scope.Version v st) list ≡ Ok tt
  pub whole_is : whole (records_of list) ≡ length v
  pub is_well_formed : WellFormed st (records_of list) v

pub covered_of_fine : (list v st : List ℕ) → cover_ruling scope.Version list v st ≡ Ok tt → Covered list v st
covered_of_fine list v st h =
    let parts = fine_of_then (walk_ruling (checks scope.Version v st) list) (need (eqb (whole (records_of list)) (length v)) fault.Sizes (length (records_of list))) h in
    let ends = eqb-true (whole (records_of list)) (length v) (true_of_need _ fault.Sizes (length (records_of list)) parts.1) in
    let each = each_of_fine (checks scope.Version v st) front (rows_of list) parts.0 in
    record {
      walk_fine = parts.0;
      whole_is = ends;
      is_well_formed = record {
        sized = sized_of_four front (rows_of list) each.0;
        apart = (apart_of_five front (rows_of list) each.1.0).0;
        agrees = agrees_of_eight v st front (rows_of list) each.1.1.0 each.1.1.1.0 each.1.1.1.1.0 (omega (arith, ends));
      };
    }

-- ---- price, lengths and rooms

pub lengths_most : (v st : List ℕ) → lengths_fit v st ≡ true → (length v ≤ version_most) × (length st ≤ store_most)
lengths_most v st h = let k = both_of_and (leb (length v) version_most) (leb (length st) store_most) h in (leb-true (length v) version_most k.0, leb-true (length st) store_most k.1)

pub areas_most : (list v : List ℕ) (c a b : ℕ) → areas_fit list v c a b ≡ true → (length list / 12 ≤ c) × (length list ≤ a) × (length v ≤ b)
areas_most list v c a b h =
    let k = both_of_and (leb (length list / 12) c && leb (length list) a) (leb (length v) b) h in
    let l = both_of_and (leb (length list / 12) c) (leb (length list) a) k.0 in
    (leb-true (length list / 12) c l.0, leb-true (length list) a l.1, leb-true (length v) b k.1)

pub areas_of_most : (list v : List ℕ) (c a b : ℕ) → length list / 12 ≤ c → length list ≤ a → length v ≤ b → areas_fit list v c a b ≡ true
areas_of_most list v c a b i j k =
    and_of_both (leb (length list / 12) c && leb (length list) a) (leb (length v) b)
    (and_of_both (leb (length list / 12) c) (leb (length list) a) (le-leb (length list / 12) c i) (le-leb (length list) a j)) (le-leb (length v) b k)

-- what passes checks 1, 2 and 3
pub record Fits (price : Price) (list v st : List ℕ) : Type 0 where
  pub price_in_limits : price_fits price ≡ true
  pub rates_fit : RatesFit (rates_of price)
  pub lengths_in_limits : lengths_fit v st ≡ true
  pub version_at_most : length v ≤ version_most
  pub store_at_most : length st ≤ store_most
  pub list_in_limits : list_fits list ≡ true
  pub counted : Counted list

pub fits_of_first : (price : Price) (list v st : List ℕ) → first_ruling price list v st ≡ Ok tt → Fits price list v st
fits_of_first price list v st h =
    let three = need (list_fits list) fault.ListLength 0 in
    let two = need (lengths_fit v st) fault.TooLong 0 in
    let h₁ = fine_of_then (need (price_fits price) fault.Price 0) (two then three) h in
    let h₂ = fine_of_then two three h₁.1 in
    let prices = true_of_need (price_fits price) fault.Price 0 h₁.0 in
    let lengths = true_of_need (lengths_fit v st) fault.TooLong 0 h₂.0 in
    let whole_list = true_of_need (list_fits list) fault.ListLength 0 h₂.1 in
    record {
      price_in_limits = prices;
      rates_fit = rates_fit price prices;
      lengths_in_limits = lengths;
      version_at_most = (lengths_most v st lengths).0;
      store_at_most = (lengths_most v st lengths).1;
      list_in_limits = whole_list;
      counted = counted_of_fits list whole_list;
    }

-- ---- all checks

module _ (price : Price) (list v st : List ℕ) (c a b : ℕ) where
  -- each part of admitted inputs
  record Passed : Type 0 where
    first : first_ruling price list v st ≡ Ok tt
    rooms : rooms_ruling list v c a b ≡ Ok tt
    cover : cover_ruling scope.Version list v st ≡ Ok tt

  passed_of_fine : admit_ruling price list v st c a b ≡ Ok tt → Passed
  passed_of_fine h =
      let k = fine_of_then (first_ruling price list v st) (rooms_ruling list v c a b then cover_ruling scope.Version list v st) h in
      let l = fine_of_then (rooms_ruling list v c a b) (cover_ruling scope.Version list v st) k.1 in
      record { first = k.0; rooms = l.0; cover = l.1 }

  -- what admitted inputs have
  pub record Sound : Type 0 where
    pub fits : Fits price list v st
    pub in_choice : length list / 12 ≤ c
    pub in_area : length list ≤ a
    pub in_block : length v ≤ b
    pub covered : Covered list v st

  -- an admitted call's areas fit; where they do not, a call is refused, by 9 or what comes before it
  pub areas_of_fine : admit_ruling price list v st c a b ≡ Ok tt → areas_fit list v c a b ≡ true
  areas_of_fine h = true_of_need (areas_fit list v c a b) fault.AreaTooShort 0 (passed_of_fine h).rooms

  pub sound_of_fine : admit_ruling price list v st c a b ≡ Ok tt → Sound
  sound_of_fine h =
      let p = passed_of_fine h in
      let m = areas_most list v c a b (areas_of_fine h) in
      record { fits = fits_of_first price list v st p.first; in_choice = m.0; in_area = m.1; in_block = m.2; covered = covered_of_fine list v st p.cover }

-- all checks are passed
pub record Admitted (price : Price) (list v st : List ℕ) (c a b : ℕ) : Type 0 where
  pub fine : admit_ruling price list v st c a b ≡ Ok tt
  pub sound : Sound price list v st c a b

pub admitted_of_through : (price : Price) (list v st : List ℕ) (c a b : ℕ) (t : Totals) → walked (admit_ruling price list v st c a b) (records_of list) ≡ Ok t → Admitted price list v st c a b
admitted_of_through price list v st c a b t h =
    let fine = (fine_of_through (admit_ruling price list v st c a b) (records_of list) t h).0 in
    record { fine = fine; sound = sound_of_fine price list v st c a b fine }

-- of the areas' lengths it matters only whether they fit
pub admit_alike : (price : Price) (list v st : List ℕ) (c a b c' a' b' : ℕ) → areas_fit list v c a b ≡ areas_fit list v c' a' b'
    → admit_ruling price list v st c a b ≡ admit_ruling price list v st c' a' b'
admit_alike price list v st c a b c' a' b' e = rw e

pub findings_of_long : (price : Price) (list v st : List ℕ) (x : Areas) → LongEnough list v x → partition_ruling price list v st x ≡ findings price list v st
findings_of_long price list v st x h =
    admit_alike price list v st (length x.choice) (length x.list) (length x.block) (length list / 12) (length list) (length v)
    (h ∙ sym (areas_of_most list v (length list / 12) (length list) (length v) (omega arith) (omega arith) (omega arith)))

pub stop_of_short : (price : Price) (list v st : List ℕ) (c a b : ℕ) → areas_fit list v c a b ≡ false → (x : Refusal) × (admit_ruling price list v st c a b ≡ Err x)
stop_of_short price list v st c a b h = let x = go (first_ruling price list v st) (cover_ruling scope.Version list v st) in (x.0, rw h x.1)
  where
    go : (q r : Ruling) → (x : Refusal) × (q then need false fault.AreaTooShort 0 then r ≡ Err x)
    go (Ok _) r = (refuse fault.AreaTooShort 0, refl)
    go (Err x) r = (x, refl)

-- a written list that is well formed is admitted where price, lengths and areas are
pub fine_of_written : (price : Price) (l : List Record) (v st : List ℕ) (c a b : ℕ) → price_fits price ≡ true → lengths_fit v st ≡ true → length l ≤ 4096
    → areas_fit (encode l) v c a b ≡ true → WellFormed st l v → admit_ruling price (encode l) v st c a b ≡ Ok tt
fine_of_written price l v st c a b j k n m w =
    rw (j, k, fits_encode l n, m) (cover_fine scope.Version (encode l) v st (walk_encode v st l w) (ap whole (records_encode l) ∙ whole_agrees st l v w.agrees))
