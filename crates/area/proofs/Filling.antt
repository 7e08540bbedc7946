-- An area that is written from its front: what is written so far, what is still to come, what lies beyond. Room follows from lengths.
-- Assumes nothing.
use Prim.Native.Nat.{ℕ, ◌+◌, ◌-◌, ◌≤◌}
use native.Mathlib.Omega.{arith}
use mathlib.Core.Path.{◌≡◌, refl, sym, ◌∙◌, ap}
use mathlib.Core.List.{List, [], ◌++◌, append_assoc, append-nil}
use lib.ListN.{length, take, drop, length-append, take-append-drop}
use lib.Seq.{length-take-le, take_at, drop_at, drop-drop}
use Rattle.area.specs.Area.{pasted, over}
use Rattle.area.proofs.Pasting.{length_pasted}

-- of `whole`, the first `out` bytes stand in the area and `left` is to come; beyond them the area is as before
pub record Filling (whole before area : List ℕ) (out : ℕ) (left : List ℕ) : Type 0 where
  pub so_far : whole ≡ take out area ++ left
  pub beyond : drop out area ≡ drop out before
  pub same : length area ≡ length before
  pub within : out ≤ length area

pub filling_start : (whole before : List ℕ) → Filling whole before before 0 whole
filling_start whole before = record { so_far = refl; beyond = refl; same = refl; within = omega arith }

drop_more : (a b : List ℕ) (i j : ℕ) → drop i a ≡ drop i b → i ≤ j → drop j a ≡ drop j b
drop_more a b i j e h =
    let k : j ≡ i + (j - i) = omega arith in
    ap (λ (x : ℕ). drop x a) k ∙ sym (drop-drop (j - i) i a) ∙ ap (drop (j - i)) e ∙ drop-drop (j - i) i b ∙ ap (λ (x : ℕ). drop x b) (sym k)

module _ {whole before area : List ℕ} {out : ℕ} where
  pub filling_room : {left : List ℕ} → Filling whole before area out left → length whole ≤ length before → out + length left ≤ length area
  filling_room {left} a h =
      omega (arith, ap length a.so_far ∙ length-append (take out area) left, length-take-le out area a.within, a.same)

  pub filling_put : (s left : List ℕ) → Filling whole before area out (s ++ left) → length whole ≤ length before
      → (area' : List ℕ) (out' : ℕ) → area' ≡ pasted out s area → out' ≡ out + length s → Filling whole before area' out' left
  filling_put s left a h area' out' e f =
      let room : out + length s ≤ length area = omega (arith, filling_room a h, length-append s left) in
      let l : length (take out area ++ s) ≡ out + length s = length-append (take out area) s ∙ omega (arith, length-take-le out area a.within) in
      let t : take out' area' ≡ take out area ++ s = rw (e, f) (take_at (take out area ++ s) (drop (out + length s) area) (out + length s) l) in
      let d : drop out' area' ≡ drop (out + length s) area = rw (e, f) (drop_at (take out area ++ s) (drop (out + length s) area) (out + length s) l) in
      let n : length area' ≡ length area = ap length e ∙ length_pasted out s area room in
      record {
        so_far = a.so_far ∙ sym (append_assoc (take out area) s left) ∙ ap (λ (p : List ℕ). p ++ left) (sym t);
        beyond = d ∙ drop_more area before out (out + length s) a.beyond (omega arith) ∙ ap (λ (j : ℕ). drop j before) (sym f);
        same = n ∙ a.same;
        within = omega (arith, n);
      }

  pub filling_out : Filling whole before area out [] → out ≡ length whole
  filling_out a = sym (ap length (a.so_far ∙ append-nil (take out area)) ∙ length-take-le out area a.within)

  pub filling_end : Filling whole before area out [] → area ≡ over whole before
  filling_end a =
      sym (take-append-drop out area)
      ∙ ap (λ (p : List ℕ). p ++ drop out area) (sym (a.so_far ∙ append-nil (take out area)))
      ∙ ap (λ (p : List ℕ). whole ++ p) (a.beyond ∙ ap (λ (j : ℕ). drop j before) (filling_out a))

-- what stands at the front of an area
pub front : (k : ℕ) (s d : List ℕ) → k ≡ length s → take k (over s d) ≡ s
front k s d e = take_at s (drop (length s) d) k (sym e)

pub front_room : (s d : List ℕ) → length s ≤ length (over s d)
front_room s d = omega (arith, length-append s (drop (length s) d))
