-- What a list that passes the checks of check_loose and tidy has, and that a written list which has it passes them.
-- Assumes nothing.
use Rattle.std.specs.Prelude.{Ok}
use Prim.Native.Nat.{ℕ, ◌≤◌}
use native.Mathlib.Omega.{arith}
use mathlib.Core.Path.{◌≡◌, sym, ap}
use mathlib.Core.List.{List, []}
use lib.Dec.{leb}
use lib.ListN.{length}
use borrow.Author.Tests.{le-leb, leb-true}
use Rattle.format.specs.declared.Fault.TheVariants.{TooLong, ListLength, AreaTooShort}
use Rattle.format.specs.declared.Record.{Record}
use Rattle.format.specs.Refusal.{Answer, Ruling, need, ◌then◌}
use Rattle.format.specs.Limits.{store_most, version_most}
use Rattle.format.specs.Record.{list_fits, rows_of, records_of, encode}
use Rattle.format.specs.Meaning.{whole}
use Rattle.format.specs.WellFormed.{Sized, Inside}
use Rattle.format.proofs.Rulings.{fine_of_then, true_of_need}
use Rattle.format.proofs.Rows.{Counted, counted_of_fits, length_records_of}
use Rattle.format.proofs.Encoding.{fits_encode, length_encode}
use Rattle.walk.specs.declared.Scope.TheVariants as scope
use Rattle.walk.specs.Checks.{checks, walk_ruling, front}
use Rattle.walk.proofs.Encoded.{walk_loose}
use Rattle.walk.proofs.Accepted.{each_of_fine, sized_of_four, whole_of_six, inside_of_seven}
use Rattle.join.specs.Join.{tidy}
use Rattle.join.proofs.Joining.{length_tidy, whole_tidy, sized_tidy, inside_tidy}
use Rattle.loose.specs.Loose.{loose_ruling, tidy_ruling, tidy_form, tidy_answer, tidy_area, Tidied, Ready}

-- check_loose makes tidy's checks in any room for the list
pub loose_in_room : (list st : List ℕ) (room : ℕ) → length list ≤ room → loose_ruling list st ≡ tidy_ruling list st room
loose_in_room list st room h =
    let nine : need (leb (length list) room) AreaTooShort 0 ≡ Ok tt = rw (le-leb (length list) room h) in
    ap (λ (q : Ruling). need (leb (length st) store_most) TooLong 0 then need (list_fits list) ListLength 0 then q then walk_ruling (checks scope.Loose [] st) list) (sym nine)

pub loose_is_tidy : (list st : List ℕ) → loose_ruling list st ≡ tidy_ruling list st (length list)
loose_is_tidy list st = loose_in_room list st (length list) (omega arith)

-- records, each of some bytes, that cover a version and lie in the store
pub record Sound (l : List Record) (st : List ℕ) : Type 0 where
  pub store_at_most : length st ≤ store_most
  pub sized : Sized l
  pub inside : Inside st l
  pub whole_most : whole l ≤ version_most

-- and so is their tidy form
pub sound_tidy : {l : List Record} {st : List ℕ} → Sound l st → Sound (tidy l) st
sound_tidy {l} {st} s = record { store_at_most = s.store_at_most; sized = sized_tidy l s.sized; inside = inside_tidy st l s.inside; whole_most = omega (arith, whole_tidy l, s.whole_most) }

pub record Accepts (list st : List ℕ) (room : ℕ) : Type 0 where
  pub counted : Counted list
  pub in_room : length list ≤ room
  pub sound : Sound (records_of list) st

pub accepts_of_fine : (list st : List ℕ) (room : ℕ) → tidy_ruling list st room ≡ Ok tt → Accepts list st room
accepts_of_fine list st room e =
    let walked : Ruling = walk_ruling (checks scope.Loose [] st) list in
    let nine : Ruling = need (leb (length list) room) AreaTooShort 0 in
    let three : Ruling = need (list_fits list) ListLength 0 in
    let a = fine_of_then (need (leb (length st) store_most) TooLong 0) (three then nine then walked) e in
    let b = fine_of_then three (nine then walked) a.1 in
    let c = fine_of_then nine walked b.1 in
    let h = each_of_fine (checks scope.Loose [] st) front (rows_of list) c.1 in
    record {
      counted = counted_of_fits list (true_of_need (list_fits list) ListLength 0 b.0);
      in_room = leb-true (length list) room (true_of_need (leb (length list) room) AreaTooShort 0 c.0);
      sound = record {
        store_at_most = leb-true (length st) store_most (true_of_need (leb (length st) store_most) TooLong 0 a.0);
        sized = sized_of_four front (rows_of list) h.0;
        inside = inside_of_seven st front (rows_of list) h.1.1.0;
        whole_most = omega (arith, whole_of_six version_most front (rows_of list) (omega arith) h.1.0);
      };
    }

-- what is written and sound is accepted
pub fine_of_sound : (l : List Record) (st : List ℕ) (room : ℕ) → length l ≤ 4096 → length (encode l) ≤ room → Sound l st → tidy_ruling (encode l) st room ≡ Ok tt
fine_of_sound l st room n k s =
    rw (le-leb (length st) store_most s.store_at_most, fits_encode l n, le-leb (length (encode l)) room k, walk_loose st l s.sized s.inside s.whole_most)

pub ready_of_accepts : {list area : List ℕ} {st : List ℕ} → Accepts list st (length area) → Ready list area
ready_of_accepts a = record { whole_most = a.sound.whole_most; room = a.in_room }

-- the tidy form takes no more room than the list
pub form_room : {list area : List ℕ} → Ready list area → length (encode (tidy_form list)) ≤ length area
form_room {list} {area} r = omega (arith, length_encode (tidy_form list), length_tidy (records_of list), length_records_of list, r.room)

-- a call that meets the clauses of tidy's contract, as the laws speak of it
pub tidy_made : {list st area : List ℕ} {r : Answer} {after : List ℕ} → (r ≡ tidy_answer list st area) × (after ≡ tidy_area list st area) → Tidied list st area r after
tidy_made h = record { answered = h.0; area_after = h.1 }
