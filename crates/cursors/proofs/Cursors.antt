-- A cursor in a list that was checked: what stands there, the cursor further on, and one step of two cursors.
-- Assumes nothing.
use Prim.Native.Nat.{ℕ, ◌+◌, ◌/◌, ◌≤◌, ◌<◌}
use native.Mathlib.Omega.{arith}
use mathlib.Core.Path.{◌≡◌, sym, ◌∙◌, ap, ap₂}
use mathlib.Core.Bool.{Bool, true, false, cond}
use mathlib.Core.List.{List, [], ◌∷◌, ◌++◌}
use lib.Dec.{ltb}
use lib.ListN.{length}
use Rattle.format.specs.declared.Record.{Record}
use Rattle.format.specs.Limits.{store_most, version_most}
use Rattle.format.specs.Record.{row_at, record_of, records_of, records_from}
use Rattle.format.specs.Meaning.{size_of, whole}
use Rattle.format.specs.WellFormed.{Sized, Inside, Readable}
use Rattle.format.specs.Origins.{origins_of, origins}
use Rattle.format.proofs.Rows.{records_from_next, records_from_none, records_from_all}
use Rattle.cursors.specs.declared.Cursor.{Cursor}
use Rattle.cursors.specs.declared.Pair.{Pair}
use Rattle.cursors.specs.Cut.{lead, cut, without, rest, end_of, Reaching}
use Rattle.cursors.specs.Cursor.{front, fronts, rest_at, remaining, further, behind, moved, Stands, StepReady, piece_size, Stepped, Checked}
use Rattle.cursors.proofs.Cutting.{size_lead, size_cut, end_cut, cut_cut, without_none, Rested, rested, reaching_of_inside}

-- ---- what the checks give

pub checked_of_inside : {list : List ℕ} (st : List ℕ) → length st ≤ store_most → Sized (records_of list) → Inside st (records_of list) → whole (records_of list) ≤ version_most → Checked list
checked_of_inside {list} st m h i w = record { sized = h; reaching = reaching_of_inside st (records_of list) m i; whole_most = w }

pub checked_of_readable : {list : List ℕ} (block st : List ℕ) → length st ≤ store_most → Readable (records_of list) block st → Checked list
checked_of_readable block st m h = checked_of_inside st m h.sized h.inside h.whole_most

-- ---- one cursor

front_is : {x : Cursor} → (x.place ≡ 0) × (x.within ≡ 0) → x ≡ front
front_is p = ap₂ (λ (k n : ℕ). record { place = k; within = n }) p.0 p.1

pub fronts_are : {at : Pair} → ((at.first.place ≡ 0) × (at.first.within ≡ 0)) × ((at.second.place ≡ 0) × (at.second.within ≡ 0)) → at ≡ fronts
fronts_are p = ap₂ (λ (x y : Cursor). record { first = x; second = y }) (front_is p.0) (front_is p.1)

pub remaining_front : (list : List ℕ) → remaining list front ≡ records_of list
remaining_front list = without_none (records_from list (length list / 12) 0) ∙ sym (records_from_all list)

pub stands_front : (list : List ℕ) → Checked list → Stands list front
stands_front list h =
    let e = remaining_front list in
    record { sized = rw e h.sized; reaching = rw e h.reaching; most = omega (arith, h.whole_most, ap whole e) }

-- behind the last record there is nothing
pub remaining_none : (list : List ℕ) (c : Cursor) → length list / 12 ≤ c.place → remaining list c ≡ []
remaining_none list c h = rw (records_from_none list (length list / 12) c.place h)

module _ {list : List ℕ} {c : Cursor} (at : Stands list c) (h : c.place < length list / 12) where
  abbrev raw : Record
  raw = record_of (row_at list c.place)

  abbrev others : List Record
  others = records_from list (length list / 12) (c.place + 1)

  split : records_from list (length list / 12) c.place ≡ raw ∷ others
  split = records_from_next list (length list / 12) c.place h

  remaining_split : remaining list c ≡ rest_at list c ∷ others
  remaining_split = ap (without c.within) split

  sized_split : Sized (rest_at list c ∷ others)
  sized_split = rw remaining_split at at.sized

  some_left : 1 ≤ size_of (rest_at list c)
  some_left = sized_split.0

  pub within_less : c.within < size_of raw
  within_less = omega (arith, some_left, size_cut c.within raw)

  pub end_most : end_of raw ≤ store_most
  end_most =
      let r : Reaching (rest_at list c ∷ others) = rw remaining_split at at.reaching in
      omega (arith, r.0, end_cut c.within raw (omega (arith, within_less)))

  pub left_most : c.within + size_of (rest_at list c) ≤ version_most
  left_most = omega (arith, at.most, ap whole remaining_split)

  pub goes : 0 < whole (remaining list c)
  goes = omega (arith, ap whole remaining_split, some_left)

  -- n bytes of what is left of the record
  module _ (n : ℕ) (m : n ≤ size_of (rest_at list c)) where
    rests : Rested n (rest_at list c) others
    rests = rested n (rest_at list c) others m sized_split

    remaining_moved : remaining list (moved (rest_at list c) c n) ≡ rest n (rest_at list c) others
    remaining_moved = go (ltb n (size_of (rest_at list c)))
      where
        go : (t : Bool) → remaining list (cond t (further c n) (behind c)) ≡ cond t (cut n (rest_at list c) ∷ others) others
        go true = ap (without (c.within + n)) split ∙ ap (λ (r : Record). r ∷ others) (sym (cut_cut c.within n raw))
        go false = without_none others

    origins_moved : origins (remaining list c) ≡ origins_of (lead n (rest_at list c)) ++ origins (remaining list (moved (rest_at list c) c n))
    origins_moved = ap origins remaining_split ∙ rests.known ∙ ap (λ (l : List Record). origins_of (lead n (rest_at list c)) ++ origins l) (sym remaining_moved)

    whole_moved : whole (remaining list c) ≡ n + whole (remaining list (moved (rest_at list c) c n))
    whole_moved = ap whole remaining_split ∙ rests.covers ∙ ap (λ (l : List Record). n + whole l) (sym remaining_moved)

    within_moved : (moved (rest_at list c) c n).within ≤ c.within + n
    within_moved = go (ltb n (size_of (rest_at list c)))
      where
        go : (t : Bool) → (cond t (further c n) (behind c)).within ≤ c.within + n
        go true = omega arith
        go false = omega arith

    stands_moved : Stands list (moved (rest_at list c) c n)
    stands_moved =
        record {
          sized = rw remaining_moved rests.sized;
          reaching = rw remaining_moved (rests.reaching (rw remaining_split at at.reaching));
          most = omega (arith, at.most, whole_moved, within_moved);
        }

-- ---- two cursors

-- one step: what is known of the pieces s, and of the cursors behind them
pub record Turn (first second : List ℕ) (at : Pair) (s : Record × Record) (next : Pair) : Type 0 where
  pub at_first : Stands first next.first
  pub at_second : Stands second next.second
  pub one_known : origins (remaining first at.first) ≡ origins_of s.0 ++ origins (remaining first next.first)
  pub two_known : origins (remaining second at.second) ≡ origins_of s.1 ++ origins (remaining second next.second)
  pub same_size : size_of s.0 ≡ size_of s.1
  pub some : 1 ≤ size_of s.0
  pub covers : whole (remaining first at.first) ≡ size_of s.0 + whole (remaining first next.first)
  pub also_covers : whole (remaining second at.second) ≡ size_of s.1 + whole (remaining second next.second)

pub turn : {first second : List ℕ} {at : Pair} {s : Record × Record} {next : Pair} → StepReady first second at → Stepped first second at s next → Turn first second at s next
turn {first} {second} {at} {s} {next} r t =
    let n : ℕ = piece_size first second at in
    let p = rest_at first at.first in
    let q = rest_at second at.second in
    let m : n ≤ size_of p = omega arith in
    let i : n ≤ size_of q = omega arith in
    let size_one : size_of s.0 ≡ n = ap size_of t.one_is ∙ size_lead n p in
    let size_two : size_of s.1 ≡ n = ap size_of t.two_is ∙ size_lead n q in
    record {
      at_first = rw t.first_is (stands_moved r.at_first r.goes_on n m);
      at_second = rw t.second_is (stands_moved r.at_second r.also_goes_on n i);
      one_known = rw (t.one_is, t.first_is) (origins_moved r.at_first r.goes_on n m);
      two_known = rw (t.two_is, t.second_is) (origins_moved r.at_second r.also_goes_on n i);
      same_size = size_one ∙ sym size_two;
      some = omega (arith, size_one, some_left r.at_first r.goes_on, some_left r.at_second r.also_goes_on);
      covers = rw t.first_is (omega (arith, whole_moved r.at_first r.goes_on n m, size_one));
      also_covers = rw t.second_is (omega (arith, whole_moved r.at_second r.also_goes_on n i, size_two));
    }

pub turn_less : {first second : List ℕ} {at : Pair} {s : Record × Record} {next : Pair} → Turn first second at s next → whole (remaining first next.first) < whole (remaining first at.first)
turn_less t = omega (arith, t.covers, t.some)
