-- What the lists of a call of pool have that pass its checks; and the checks that come after them, 13 and 9.
-- Assumes nothing.
use Rattle.std.specs.Prelude.{Ok, Err}
use Prim.Native.Nat.{ℕ, ◌≤◌, ◌<◌}
use native.Mathlib.Omega.{arith}
use mathlib.Core.Path.{◌≡◌, sym, ◌∙◌}
use mathlib.Core.Bool.{true}
use mathlib.Core.List.{List}
use lib.Dec.{eqb, leb}
use lib.ListN.{length}
use borrow.Author.Tests.{le-leb, lt-leb, leb-true, eqb-true}
use Rattle.format.specs.declared.Fault.TheVariants.{TooLong, ListLength, Sizes, AreaTooShort, TooManyRecords}
use Rattle.format.specs.Refusal.{Ruling, need, refuse, ◌then◌}
use Rattle.format.specs.Limits.{records_most}
use Rattle.format.specs.Record.{list_fits, rows_of, records_of, encode}
use Rattle.format.specs.Meaning.{whole}
use Rattle.format.specs.WellFormed.{Sized, Agrees}
use Rattle.format.proofs.Rulings.{fine_of_then, true_of_need}
use Rattle.format.proofs.Rows.{Counted, counted_of_fits}
use Rattle.format.proofs.Rebuilding.{inside_agrees}
use Rattle.walk.specs.declared.Scope.TheVariants as scope
use Rattle.walk.specs.Checks.{checks, walk_ruling, front}
use Rattle.walk.proofs.Accepted.{each_of_fine, sized_of_four, agrees_of_eight}
use Rattle.admit.specs.Admit.{lengths_fit, cover_ruling}
use Rattle.admit.proofs.Admitting.{lengths_most}
use Rattle.cursors.specs.Cursor.{Checked}
use Rattle.cursors.proofs.Cursors.{checked_of_inside}
use Rattle.pool.specs.Pool.{pooled_list, list_ruling, pool_ruling}
use Rattle.pool.specs.Pooling.{Alongside}

-- ---- one list

pub record Listed (list v st : List ℕ) : Type 0 where
  pub list_in_limits : list_fits list ≡ true
  pub walk_fine : walk_ruling (checks scope.LooseVersion v st) list ≡ Ok tt
  pub counted : Counted list
  pub sized : Sized (records_of list)
  pub whole_is : whole (records_of list) ≡ length v
  pub agrees : Agrees st (records_of list) v

pub listed_of_fine : (list v st : List ℕ) → list_ruling list v st ≡ Ok tt → Listed list v st
listed_of_fine list v st h =
    let short = need (eqb (whole (records_of list)) (length v)) Sizes (length (records_of list)) in
    let a = fine_of_then (need (list_fits list) ListLength 0) (cover_ruling scope.LooseVersion list v st) h in
    let b = fine_of_then (walk_ruling (checks scope.LooseVersion v st) list) short a.1 in
    let fits = true_of_need (list_fits list) ListLength 0 a.0 in
    let ends = eqb-true (whole (records_of list)) (length v) (true_of_need _ Sizes (length (records_of list)) b.1) in
    let each = each_of_fine (checks scope.LooseVersion v st) front (rows_of list) b.0 in
    record {
      list_in_limits = fits;
      walk_fine = b.0;
      counted = counted_of_fits list fits;
      sized = sized_of_four front (rows_of list) each.0;
      whole_is = ends;
      agrees = agrees_of_eight v st front (rows_of list) each.1.0 each.1.1.0 each.1.1.1.0 (omega (arith, ends));
    }

-- ---- both lists

-- version and store are short enough, and neither list is at fault
pub record BothFine (first second v st : List ℕ) : Type 0 where
  pub lengths_in_limits : lengths_fit v st ≡ true
  pub first_fine : list_ruling first v st ≡ Ok tt
  pub second_fine : list_ruling second v st ≡ Ok tt

module _ {first second v st : List ℕ} (h : BothFine first second v st) where
  pub first_listed : Listed first v st
  first_listed = listed_of_fine first v st h.first_fine

  pub second_listed : Listed second v st
  second_listed = listed_of_fine second v st h.second_fine

  checked : {list : List ℕ} → Listed list v st → Checked list
  checked {list} l =
      let most = lengths_most v st h.lengths_in_limits in
      checked_of_inside st most.1 l.sized (inside_agrees st (records_of list) v l.agrees) (omega (arith, most.0, l.whole_is))

  pub alongside : Alongside first second
  alongside = record { first_checked = checked first_listed; second_checked = checked second_listed; same_whole = first_listed.whole_is ∙ sym second_listed.whole_is }

  module _ (room : ℕ) where
    pub too_many : records_most < length (pooled_list first second) → pool_ruling first second v st room ≡ Err (refuse TooManyRecords 0)
    too_many n = rw (h.lengths_in_limits, h.first_fine, h.second_fine, lt-leb _ _ n)

    module _ (few : length (pooled_list first second) ≤ records_most) where
      pub too_short : room < length (encode (pooled_list first second)) → pool_ruling first second v st room ≡ Err (refuse AreaTooShort 0)
      too_short n = rw (h.lengths_in_limits, h.first_fine, h.second_fine, le-leb _ _ few, lt-leb _ _ n)

      pub fine_in_room : length (encode (pooled_list first second)) ≤ room → pool_ruling first second v st room ≡ Ok tt
      fine_in_room n = rw (h.lengths_in_limits, h.first_fine, h.second_fine, le-leb _ _ few, le-leb _ _ n)

-- ---- all checks

pub record Accepts (first second v st : List ℕ) (room : ℕ) : Type 0 where
  pub both : BothFine first second v st
  pub few : length (pooled_list first second) ≤ records_most
  pub in_room : length (encode (pooled_list first second)) ≤ room

pub accepts_of_fine : (first second v st : List ℕ) (room : ℕ) → pool_ruling first second v st room ≡ Ok tt → Accepts first second v st room
accepts_of_fine first second v st room h =
    let l = pooled_list first second in
    let nine : Ruling = need (leb (length (encode l)) room) AreaTooShort 0 in
    let thirteen : Ruling = need (leb (length l) records_most) TooManyRecords 0 in
    let a = fine_of_then (need (lengths_fit v st) TooLong 0) (list_ruling first v st then list_ruling second v st then thirteen then nine) h in
    let b = fine_of_then (list_ruling first v st) (list_ruling second v st then thirteen then nine) a.1 in
    let c = fine_of_then (list_ruling second v st) (thirteen then nine) b.1 in
    let d = fine_of_then thirteen nine c.1 in
    record {
      both = record { lengths_in_limits = true_of_need (lengths_fit v st) TooLong 0 a.0; first_fine = b.0; second_fine = c.0 };
      few = leb-true (length l) records_most (true_of_need _ TooManyRecords 0 d.0);
      in_room = leb-true (length (encode l)) room (true_of_need _ AreaTooShort 0 d.1);
    }
