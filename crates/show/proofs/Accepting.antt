-- The checks of list, stored block and store, one by one; and what a list that passes them has.
-- Assumes nothing.
use Rattle.std.specs.Prelude.{Ok, Err}
use Prim.Native.Nat.{ℕ, ◌≤◌, ◌<◌}
use native.Mathlib.Omega.{arith}
use mathlib.Core.Path.{◌≡◌, sym, ◌∙◌, ap}
use mathlib.Core.Bool.{Bool, true, false}
use mathlib.Core.List.{List, []}
use lib.Dec.{eqb, leb, ltb}
use lib.ListN.{length}
use borrow.Author.Tests.{le-leb, lt-leb, eq-eqb, ne_eqb, eqb-true, leb-true, ltb-true}
use Rattle.format.specs.declared.Fault.TheVariants.{TooLong, ListLength, BlockLength, NoSuchRecord}
use Rattle.format.specs.declared.Refusal.{Refusal}
use Rattle.format.specs.Refusal.{Ruling, need, refuse, ◌then◌, answer, length_only}
use Rattle.format.specs.Limits.{store_most, version_most}
use Rattle.format.specs.declared.Record.{Record}
use Rattle.format.specs.Record.{list_fits, rows_of, records_of, encode}
use Rattle.format.specs.Meaning.{stored}
use Rattle.format.specs.WellFormed.{Readable}
use Rattle.format.proofs.Rulings.{fine_of_then, true_of_need}
use Rattle.format.proofs.Rows.{Counted, counted_of_fits}
use Rattle.walk.specs.declared.Scope.{Scope}
use Rattle.walk.specs.declared.Scope.TheVariants as scope
use Rattle.walk.specs.Checks.{checks, walk_ruling, front}
use Rattle.format.proofs.Encoding.{records_encode, fits_encode}
use Rattle.walk.proofs.Encoded.{walk_store}
use Rattle.walk.proofs.Accepted.{each_of_fine, sized_of_four, apart_of_five, whole_of_six, inside_of_seven}
use Rattle.show.specs.Check.{read_ruling, inputs_ruling, check_ruling}

-- 3, the walk and 10, in any scope
module _ (x : Scope) (list block st : List ℕ) where
  pub read_list : list_fits list ≡ false → read_ruling x list block st ≡ Err (refuse ListLength 0)
  read_list k = rw k

  module _ (k : list_fits list ≡ true) where
    pub read_walk : (z : Refusal) → walk_ruling (checks x [] st) list ≡ Err z → read_ruling x list block st ≡ Err z
    read_walk z e = rw (k, e)

    module _ (e : walk_ruling (checks x [] st) list ≡ Ok tt) where
      pub read_block : (length block ≡ stored (records_of list) → ⊥) → read_ruling x list block st ≡ Err (refuse BlockLength 0)
      read_block f = rw (k, e, ne_eqb (length block) (stored (records_of list)) f)

      pub read_fine : length block ≡ stored (records_of list) → read_ruling x list block st ≡ Ok tt
      read_fine f = rw (k, e, eq-eqb (length block) (stored (records_of list)) f)

  -- what a list that passes them has passed
  pub parts_of_read : read_ruling x list block st ≡ Ok tt → (list_fits list ≡ true) × (walk_ruling (checks x [] st) list ≡ Ok tt) × (length block ≡ stored (records_of list))
  parts_of_read e =
      let walked : Ruling = walk_ruling (checks x [] st) list in
      let fits : Bool = eqb (length block) (stored (records_of list)) in
      let a = fine_of_then (need (list_fits list) ListLength 0) (walked then need fits BlockLength 0) e in
      let b = fine_of_then walked (need fits BlockLength 0) a.1 in
      (true_of_need (list_fits list) ListLength 0 a.0, b.0, eqb-true (length block) (stored (records_of list)) (true_of_need fits BlockLength 0 b.1))

module _ (list block st : List ℕ) where
  pub inputs_long : store_most < length st → inputs_ruling list block st ≡ Err (refuse TooLong 0)
  inputs_long h = rw (lt-leb (length st) store_most h)

  pub inputs_read : length st ≤ store_most → inputs_ruling list block st ≡ read_ruling scope.Store list block st
  inputs_read h = rw (le-leb (length st) store_most h)

  module _ (h : length st ≤ store_most) where
    pub inputs_list : list_fits list ≡ false → inputs_ruling list block st ≡ Err (refuse ListLength 0)
    inputs_list k = inputs_read h ∙ read_list scope.Store list block st k

    module _ (k : list_fits list ≡ true) where
      pub inputs_walk : (x : Refusal) → walk_ruling (checks scope.Store [] st) list ≡ Err x → inputs_ruling list block st ≡ Err x
      inputs_walk x e = inputs_read h ∙ read_walk scope.Store list block st k x e

      module _ (e : walk_ruling (checks scope.Store [] st) list ≡ Ok tt) where
        pub inputs_block : (length block ≡ stored (records_of list) → ⊥) → inputs_ruling list block st ≡ Err (refuse BlockLength 0)
        inputs_block f = inputs_read h ∙ read_block scope.Store list block st k e f

        pub inputs_fine : length block ≡ stored (records_of list) → inputs_ruling list block st ≡ Ok tt
        inputs_fine f = inputs_read h ∙ read_fine scope.Store list block st k e f

  parts_of_inputs : inputs_ruling list block st ≡ Ok tt → (length st ≤ store_most) × (read_ruling scope.Store list block st ≡ Ok tt)
  parts_of_inputs e =
      let a = fine_of_then (need (leb (length st) store_most) TooLong 0) (read_ruling scope.Store list block st) e in
      (leb-true (length st) store_most (true_of_need (leb (length st) store_most) TooLong 0 a.0), a.1)

  pub store_of_inputs : inputs_ruling list block st ≡ Ok tt → length st ≤ store_most
  store_of_inputs e = (parts_of_inputs e).0

  pub readable_of_inputs : inputs_ruling list block st ≡ Ok tt → Counted list × Readable (records_of list) block st
  readable_of_inputs e =
      let p = parts_of_read scope.Store list block st (parts_of_inputs e).1 in
      let h = each_of_fine (checks scope.Store [] st) front (rows_of list) p.1 in (
        counted_of_fits list p.0,
        record {
          sized = sized_of_four front (rows_of list) h.0;
          apart = (apart_of_five front (rows_of list) h.1.0).0;
          inside = inside_of_seven st front (rows_of list) h.1.1.1.0;
          whole_most = omega (arith, whole_of_six version_most front (rows_of list) (omega arith) h.1.1.0);
          block_fits = p.2;
        },
      )

  -- what check accepts
  pub checked_parts : (k : ℕ) → check_ruling list block st k ≡ Ok tt → Readable (records_of list) block st × (k < length (records_of list))
  checked_parts k e =
      let a = fine_of_then (inputs_ruling list block st) (need (ltb k (length (records_of list))) NoSuchRecord 0) e in
      ((readable_of_inputs a.0).1, ltb-true k (length (records_of list)) (true_of_need (ltb k (length (records_of list))) NoSuchRecord 0 a.1))

-- a refusal of check that is not 11 is one of its other checks
pub stop_of_check : (q : Ruling) (t : Bool) (r : Refusal) → answer (q then need t NoSuchRecord 0) (length_only 0) ≡ Err r → (r.fault ≡ NoSuchRecord → ⊥) → q ≡ Err r
stop_of_check (Ok _) true r e h = absurd (let z : ◌≡◌ {A = ℕ} 0 1 = cc in omega arith)
stop_of_check (Ok _) false r e h = absurd (h (let z : refuse NoSuchRecord 0 ≡ r = cc in ap (λ (x : Refusal). x.fault) (sym z)))
stop_of_check (Err x) t r e h = cc

-- a written list is accepted with its stored block
pub inputs_written : (l : List Record) (block st : List ℕ) → length l ≤ 4096 → length st ≤ store_most → Readable l block st → inputs_ruling (encode l) block st ≡ Ok tt
inputs_written l block st n h r =
    inputs_read (encode l) block st h
    ∙ read_fine scope.Store (encode l) block st (fits_encode l n) (walk_store st l r.sized r.apart r.inside r.whole_most) (r.block_fits ∙ ap stored (sym (records_encode l)))
