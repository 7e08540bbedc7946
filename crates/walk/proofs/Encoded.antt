-- A list that is written and well formed passes the walk again, check by check.
-- Assumes nothing.
use Rattle.std.specs.Prelude.{Ok}
use Prim.Native.Nat.{ℕ, ◌+◌, ◌≤◌}
use native.Mathlib.Omega.{arith}
use mathlib.Core.Path.{◌≡◌, refl}
use mathlib.Core.Bool.{Bool, true, false, not}
use mathlib.Core.List.{List, [], ◌∷◌}
use lib.Dec.{leb}
use lib.ListN.{length, take, drop}
use lib.Seq.{drop-drop}
use borrow.Author.Tests.{le-leb}
use Rattle.format.specs.declared.Record.{Record}
use Rattle.format.specs.declared.Record.TheVariants.{New, Match}
use Rattle.format.specs.Limits.{version_most, volume_most}
use Rattle.format.specs.Record.{mark_byte, encode}
use Rattle.format.specs.Meaning.{whole}
use Rattle.format.specs.WellFormed.{Sized, NotNew, Apart, Inside, Agrees, WellFormed}
use Rattle.format.proofs.Encoding.{row_for, rows_for, rows_encode}
use Rattle.format.proofs.Rebuilding.{whole_agrees, inside_agrees}
use Rattle.walk.specs.declared.Seen.{Seen}
use Rattle.walk.specs.declared.Scope.TheVariants as scope
use Rattle.walk.specs.Checks.{four, five, six, seven, eight, sixteen, next, front, checks, walk_ruling}
use Rattle.words.proofs.Equality.{same_refl}
use Rattle.walk.proofs.Accepted.{Holds, fifteen_of_seven, fine_of_each}

mark_fits : (h : Bool) → leb (mark_byte h) 1 ≡ true
mark_fits true = refl
mark_fits false = refl

four_of_sized : (s : Seen) (l : List Record) → Sized l → Holds four s (rows_for l)
four_of_sized s [] h = tt
four_of_sized s (New n ∷ l) h = (rw (le-leb 1 n h.0), four_of_sized (next s (row_for (New n))) l h.1)
four_of_sized s (Match n a ∷ l) h = (rw (mark_fits a.held, le-leb 1 n h.0), four_of_sized (next s (row_for (Match n a))) l h.1)

five_of_apart : (s : Seen) (l : List Record) → (s.fresh ≡ true → NotNew l) → Apart l → Holds five s (rows_for l)
five_of_apart s [] g h = tt
five_of_apart s (New n ∷ l) g h = (go s.fresh g, five_of_apart (next s (row_for (New n))) l (λ e. h.0) h.1)
  where
    go : (x : Bool) → (x ≡ true → ⊥) → not x ≡ true
    go true k = absurd (k refl)
    go false k = refl
five_of_apart s (Match n a ∷ l) g h = (refl, five_of_apart (next s (row_for (Match n a))) l (λ e. absurd (let z : ◌≡◌ {A = ℕ} 0 1 = cc in omega arith)) h)

six_of_whole : (limit : ℕ) (s : Seen) (l : List Record) → s.offset + whole l ≤ limit → Holds (six limit) s (rows_for l)
six_of_whole limit s [] h = tt
six_of_whole limit s (New n ∷ l) h = (le-leb (s.offset + n) limit (omega arith), six_of_whole limit (next s (row_for (New n))) l (omega arith))
six_of_whole limit s (Match n a ∷ l) h = (le-leb (s.offset + n) limit (omega arith), six_of_whole limit (next s (row_for (Match n a))) l (omega arith))

eight_of_agrees : (v st : List ℕ) (s : Seen) (l : List Record) → Agrees st l (drop s.offset v) → Holds (eight v st) s (rows_for l)
eight_of_agrees v st s [] h = tt
eight_of_agrees v st s (New n ∷ l) h = (refl, eight_of_agrees v st (next s (row_for (New n))) l (rw (drop-drop n s.offset v) at h.1))
eight_of_agrees v st s (Match n a ∷ l) h =
    (rw h.2 (same_refl (take n (drop a.address st))), eight_of_agrees v st (next s (row_for (Match n a))) l (rw (drop-drop n s.offset v) at h.3))

seven_of_inside : (st : List ℕ) (s : Seen) (l : List Record) → Inside st l → Holds (seven (length st)) s (rows_for l)
seven_of_inside st s [] h = tt
seven_of_inside st s (New n ∷ l) h = (refl, seven_of_inside st (next s (row_for (New n))) l h)
seven_of_inside st s (Match n a ∷ l) h = (le-leb (a.address + n) (length st) h.0, seven_of_inside st (next s (row_for (Match n a))) l h.1)

sixteen_of_whole : (n : ℕ) (s : Seen) (l : List Record) → n + (s.offset + whole l) ≤ volume_most → Holds (sixteen n) s (rows_for l)
sixteen_of_whole n s [] h = tt
sixteen_of_whole n s (New k ∷ l) h = (le-leb (n + (s.offset + k)) volume_most (omega arith), sixteen_of_whole n (next s (row_for (New k))) l (omega arith))
sixteen_of_whole n s (Match k a ∷ l) h = (le-leb (n + (s.offset + k)) volume_most (omega arith), sixteen_of_whole n (next s (row_for (Match k a))) l (omega arith))

at_front : (l : List Record) → front.fresh ≡ true → NotNew l
at_front l e = absurd (let z : ◌≡◌ {A = ℕ} 0 1 = cc in omega arith)

-- in measure
pub walk_sizes : (l : List Record) → Sized l → Apart l → whole l ≤ version_most → walk_ruling (checks scope.Sizes [] []) (encode l) ≡ Ok tt
walk_sizes l h k w =
    rw (rows_encode l)
    (fine_of_each (checks scope.Sizes [] []) front (rows_for l) (four_of_sized front l h, (five_of_apart front l (at_front l) k, (six_of_whole version_most front l (omega arith), tt))))

-- in check, show, rebuild and compare
pub walk_store : (st : List ℕ) (l : List Record) → Sized l → Apart l → Inside st l → whole l ≤ version_most → walk_ruling (checks scope.Store [] st) (encode l) ≡ Ok tt
walk_store st l h k i w =
    rw (rows_encode l)
    (fine_of_each (checks scope.Store [] st) front (rows_for l)
    (four_of_sized front l h, (five_of_apart front l (at_front l) k, (six_of_whole version_most front l (omega arith), (seven_of_inside st front l i, tt)))))

-- in check_loose and tidy
pub walk_loose : (st : List ℕ) (l : List Record) → Sized l → Inside st l → whole l ≤ version_most → walk_ruling (checks scope.Loose [] st) (encode l) ≡ Ok tt
walk_loose st l h i w =
    rw (rows_encode l)
    (fine_of_each (checks scope.Loose [] st) front (rows_for l) (four_of_sized front l h, (six_of_whole version_most front l (omega arith), (seven_of_inside st front l i, tt))))

-- in rebuild_volume, behind the bytes of st
pub walk_chunk : (st : List ℕ) (l : List Record) → Sized l → Apart l → Inside st l → whole l ≤ version_most → length st + whole l ≤ volume_most
    → walk_ruling (checks (scope.Chunk (length st)) [] []) (encode l) ≡ Ok tt
walk_chunk st l h k i w m =
    rw (rows_encode l)
    (fine_of_each (checks (scope.Chunk (length st)) [] []) front (rows_for l) (
      four_of_sized front l h,
      (
        five_of_apart front l (at_front l) k,
        (
          six_of_whole version_most front l (omega arith),
          (sixteen_of_whole (length st) front l (omega arith), (fifteen_of_seven (length st) front (rows_for l) (seven_of_inside st front l i), tt)),
        ),
      ),
    ))

-- in partition and pass
pub walk_encode : (v st : List ℕ) (l : List Record) → WellFormed st l v → walk_ruling (checks scope.Version v st) (encode l) ≡ Ok tt
walk_encode v st l w =
    rw (rows_encode l)
    (fine_of_each (checks scope.Version v st) front (rows_for l) (
      four_of_sized front l w.sized,
      (
        five_of_apart front l (at_front l) w.apart,
        (
          six_of_whole (length v) front l (omega (arith, whole_agrees st l v w.agrees)),
          (seven_of_inside st front l (inside_agrees st l v w.agrees), (eight_of_agrees v st front l w.agrees, tt)),
        ),
      ),
    ))
