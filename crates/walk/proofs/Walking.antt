-- The walk from record i on, one record further, and at its end; and the totals that go with it.
-- Assumes nothing.
use Rattle.std.specs.Prelude.{Ok, Err}
use Prim.Native.Nat.{ℕ, ◌+◌, ◌-◌, ◌/◌, ◌≤◌, ◌<◌}
use native.Mathlib.Omega.{arith}
use mathlib.Core.Path.{◌≡◌, refl, ◌∙◌, ap}
use mathlib.Core.Bool.{Bool, true, false, cond}
use mathlib.Core.List.{List, [], ◌∷◌}
use lib.ListN.{length}
use Rattle.format.specs.declared.Row.{Row}
use Rattle.format.specs.declared.Refusal.{Refusal}
use Rattle.format.specs.Record.{from, row_at, is_new, records, records_of}
use Rattle.format.specs.Meaning.{whole, stored}
use Rattle.format.proofs.Rows.{from_next, from_none, size_record, stored_record, length_records_of}
use Rattle.walk.specs.declared.Seen.{Seen}
use Rattle.walk.specs.declared.Totals.{Totals}
use Rattle.walk.specs.Checks.{Check, judged, next, walk_on, walk_ruling, front}
use Rattle.walk.specs.Walked.{totals}

-- the rows of a list from row i on, of n
abbrev pub rest : List ℕ → ℕ → ℕ → List Row
rest list n i = from (row_at list) i (n - i)

-- what is known before row i
pub record SoFar (cs : List Check) (list : List ℕ) (n i : ℕ) (s : Seen) : Type 0 where
  pub place : s.place ≡ i
  pub ruling : walk_ruling cs list ≡ walk_on cs s (rest list n i)
  pub whole_is : whole (records_of list) ≡ s.offset + whole (records (rest list n i))
  pub stored_is : stored (records_of list) ≡ s.stored + stored (records (rest list n i))
  pub stored_most : s.stored ≤ s.offset

module _ (cs : List Check) (list : List ℕ) where
  pub so_far_front : SoFar cs list (length list / 12) 0 front
  so_far_front =
      let e : length list / 12 ≡ length list / 12 - 0 = omega arith in
      record {
        place = refl;
        ruling = ap (λ (m : ℕ). walk_on cs front (from (row_at list) 0 m)) e;
        whole_is = ap (λ (m : ℕ). whole (records (from (row_at list) 0 m))) e ∙ omega arith;
        stored_is = ap (λ (m : ℕ). stored (records (from (row_at list) 0 m))) e ∙ omega arith;
        stored_most = omega arith;
      }

  module _ (n i : ℕ) (s : Seen) (so_far : SoFar cs list n i s) where
    pub so_far_next : i < n → judged cs s (row_at list i) ≡ Ok tt → SoFar cs list n (i + 1) (next s (row_at list i))
    so_far_next h e =
        let r : Row = row_at list i in
        let f : rest list n i ≡ r ∷ rest list n (i + 1) = from_next (row_at list) i n h in
        let w : whole (records (rest list n i)) ≡ r.size + whole (records (rest list n (i + 1))) = rw (f, size_record r) in
        let d : stored (records (rest list n i)) ≡ cond (is_new r) r.size 0 + stored (records (rest list n (i + 1))) = rw f (stored_record r (records (rest list n (i + 1)))) in
        record {
          place = omega (arith, so_far.place);
          ruling = so_far.ruling ∙ rw (f, e);
          whole_is = omega (arith, so_far.whole_is, w);
          stored_is = so_far.stored_is ∙ grows (is_new r) (stored (records (rest list n (i + 1)))) d;
          stored_most = least (is_new r) so_far.stored_most;
        }
      where
        size : ℕ
        size = (row_at list i).size

        grows : (t : Bool) (x : ℕ) {y : ℕ} → y ≡ cond t size 0 + x → s.stored + y ≡ cond t (s.stored + size) s.stored + x
        grows true x h = omega arith
        grows false x h = omega arith

        least : (t : Bool) → s.stored ≤ s.offset → cond t (s.stored + size) s.stored ≤ s.offset + size
        least true h = omega arith
        least false h = omega arith

    pub so_far_stop : (x : Refusal) → i < n → judged cs s (row_at list i) ≡ Err x → walk_ruling cs list ≡ Err x
    so_far_stop x h e = so_far.ruling ∙ rw (from_next (row_at list) i n h, e)

    pub so_far_end : n ≡ length list / 12 → i ≡ n → (walk_ruling cs list ≡ Ok tt) × (◌≡◌ {A = Totals} (record { entries = s.place; stored = s.stored; whole = s.offset }) (totals (records_of list)))
    so_far_end k h =
        let f : rest list n i ≡ [] = from_none (row_at list) i n (omega arith) in
        let w : whole (records_of list) ≡ s.offset = so_far.whole_is ∙ rw f (omega arith) in
        let d : stored (records_of list) ≡ s.stored = so_far.stored_is ∙ rw f (omega arith) in
        let p : length (records_of list) ≡ s.place = omega (arith, length_records_of list, so_far.place) in
        (so_far.ruling ∙ rw f, cc)
