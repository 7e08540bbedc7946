-- Laws of joining: a run joins as one record, and what a record joins is not seen by the one before it; how long a joined list is, what it covers,
-- that it is well formed where the list was, its stored block and what it rebuilds; and that no two neighbours of the tidy form join.
-- Assumes nothing.
use Prim.Native.Nat.{ℕ, ◌+◌, ◌≤◌}
use native.Mathlib.Omega.{arith}
use native.Mathlib.Nat.{add_assoc}
use mathlib.Core.Path.{◌≡◌, refl, sym, ◌∙◌, ap, ap₂}
use mathlib.Core.Bool.{Bool, true, false, ◌&&◌, beq, cond}
use mathlib.Core.List.{List, [], ◌∷◌, ◌++◌, append_assoc}
use lib.Dec.{eqb}
use lib.ListN.{length, take, drop, length-drop}
use lib.Seq.{drop-drop, take-add}
use borrow.Author.Tests.{eqb-true}
use Rattle.format.specs.declared.Source.{Source}
use Rattle.format.specs.declared.Record.{Record}
use Rattle.format.specs.declared.Record.TheVariants.{New, Match}
use Rattle.format.specs.Meaning.{size_of, whole, stored, block_of, rebuilt}
use Rattle.format.specs.WellFormed.{Sized, Apart, Inside, Agrees}
use Rattle.format.proofs.Rulings.{both_of_and, beq_true}
use Rattle.join.specs.Join.{goes_on, joins, grown, joins_first, join, tidy, Settled}

-- ---- two and three neighbours

pub size_grown : (r : Record) (t : ℕ) → size_of (grown r t) ≡ size_of r + t
size_grown (New s) t = refl
size_grown (Match s a) t = refl

grown_grown : (r : Record) (s t : ℕ) → grown (grown r s) t ≡ grown r (s + t)
grown_grown (New u) s t = ap New (add_assoc u s t)
grown_grown (Match u a) s t = ap (λ (n : ℕ). Match n a) (add_assoc u s t)

-- whether a record joins the next does not depend on what the next has taken in
joins_grown : (r q : Record) (t : ℕ) → joins r (grown q t) ≡ joins r q
joins_grown (New s) (New u) t = refl
joins_grown (New s) (Match u b) t = refl
joins_grown (Match s a) (New u) t = refl
joins_grown (Match s a) (Match u b) t = refl

-- a match that goes on in another has its mark, and ends where it begins
pub record GoesOn (s : ℕ) (a b : Source) : Type 0 where
  pub marks : a.held ≡ b.held
  pub ends : a.address + s ≡ b.address

pub goes_on_so : (s : ℕ) (a b : Source) → goes_on s a b ≡ true → GoesOn s a b
goes_on_so s a b e = let k = both_of_and (beq a.held b.held) (eqb (a.address + s) b.address) e in record { marks = beq_true a.held b.held k.0; ends = eqb-true (a.address + s) b.address k.1 }

-- two that joined go on as the second did
pub joins_on : (r q p : Record) → joins r q ≡ true → joins (grown r (size_of q)) p ≡ joins q p
joins_on (New s) (New t) (New u) e = refl
joins_on (New s) (New t) (Match u c) e = refl
joins_on (New s) (Match t b) p e = cc
joins_on (Match s a) (New t) p e = cc
joins_on (Match s a) (Match t b) (New u) e = refl
joins_on (Match s a) (Match t b) (Match u c) e =
    let on = goes_on_so s a b e in
    let ends : a.address + (s + t) ≡ b.address + t = omega (arith, on.ends) in
    ap₂ (λ (h : Bool) (n : ℕ). beq h c.held && eqb n c.address) on.marks ends

first_on : (r q : Record) (l : List Record) → joins r q ≡ true → joins_first (grown r (size_of q)) l ≡ joins_first q l
first_on r q [] e = refl
first_on r q (p ∷ l) e = joins_on r q p e

-- ---- a record before a list

module _ (r q : Record) (l : List Record) where
  -- where it joins the first, and where it does not
  pub join_true : joins r q ≡ true → join r (q ∷ l) ≡ grown r (size_of q) ∷ l
  join_true e = rw e

  pub join_false : joins r q ≡ false → join r (q ∷ l) ≡ r ∷ q ∷ l
  join_false e = rw e

-- a record that is put before another, which is put before a list: the two as one, or the first by itself
pub join_on : (r q : Record) (l : List Record) → joins r q ≡ true → join r (join q l) ≡ join (grown r (size_of q)) l
join_on r q [] e = join_true r q [] e
join_on r q (p ∷ l) e = go (joins q p) refl
  where
    go : (x : Bool) → joins q p ≡ x → join r (cond x (grown q (size_of p) ∷ l) (q ∷ p ∷ l)) ≡ join (grown r (size_of q)) (p ∷ l)
    go true k =
        join_true r (grown q (size_of p)) l (joins_grown r q (size_of p) ∙ e)
        ∙ ap (λ (x : Record). x ∷ l) (ap (grown r) (size_grown q (size_of p)) ∙ sym (grown_grown r (size_of q) (size_of p)))
        ∙ sym (join_true (grown r (size_of q)) p l (joins_on r q p e ∙ k))
    go false k = join_true r q (p ∷ l) e ∙ sym (join_false (grown r (size_of q)) p l (joins_on r q p e ∙ k))

pub join_off : (r q : Record) (l : List Record) → joins r q ≡ false → join r (join q l) ≡ r ∷ join q l
join_off r q [] e = join_false r q [] e
join_off r q (p ∷ l) e = go (joins q p)
  where
    go : (x : Bool) → join r (cond x (grown q (size_of p) ∷ l) (q ∷ p ∷ l)) ≡ r ∷ cond x (grown q (size_of p) ∷ l) (q ∷ p ∷ l)
    go true = join_false r (grown q (size_of p)) l (joins_grown r q (size_of p) ∙ e)
    go false = join_false r q (p ∷ l) e

-- ---- what the joined list is

pub length_join : (r : Record) (l : List Record) → length (join r l) ≤ 1 + length l
length_join r [] = omega arith
length_join r (q ∷ l) = go (joins r q)
  where
    go : (x : Bool) → length (cond x (grown r (size_of q) ∷ l) (r ∷ q ∷ l)) ≤ 1 + length (q ∷ l)
    go true = omega arith
    go false = omega arith

pub whole_join : (r : Record) (l : List Record) → whole (join r l) ≡ size_of r + whole l
whole_join r [] = refl
whole_join r (q ∷ l) = go (joins r q)
  where
    go : (x : Bool) → whole (cond x (grown r (size_of q) ∷ l) (r ∷ q ∷ l)) ≡ size_of r + whole (q ∷ l)
    go true = omega (arith, size_grown r (size_of q))
    go false = refl

pub sized_join : (r : Record) (l : List Record) → 1 ≤ size_of r → Sized l → Sized (join r l)
sized_join r [] h k = (h, tt)
sized_join r (q ∷ l) h k = go (joins r q)
  where
    go : (x : Bool) → Sized (cond x (grown r (size_of q) ∷ l) (r ∷ q ∷ l))
    go true = (omega (arith, h, size_grown r (size_of q)), k.1)
    go false = (h, k)

pub apart_join : (r : Record) (l : List Record) → Apart l → Apart (join r l)
apart_join (New s) [] h = (tt, tt)
apart_join (New s) (New t ∷ l) h = h
apart_join (New s) (Match t b ∷ l) h = (tt, h)
apart_join (Match s a) [] h = tt
apart_join (Match s a) (New t ∷ l) h = h
apart_join (Match s a) (Match t b ∷ l) h = go (goes_on s a b)
  where
    go : (x : Bool) → Apart (cond x (Match (s + t) a ∷ l) (Match s a ∷ Match t b ∷ l))
    go true = h
    go false = h

-- a match that goes on in the store has its bytes there, all together
agrees_on : (st v : List ℕ) (s a t b : ℕ) → a + s ≡ b → take s v ≡ take s (drop a st) → take t (drop s v) ≡ take t (drop b st) → take (s + t) v ≡ take (s + t) (drop a st)
agrees_on st v s a t b e f g =
    take-add s t v ∙ ap₂ (λ (x y : List ℕ). x ++ y) f (g ∙ ap (λ (n : ℕ). take t (drop n st)) (sym e) ∙ ap (take t) (sym (drop-drop s a st))) ∙ sym (take-add s t (drop a st))

pub agrees_join : (st : List ℕ) (r : Record) (l : List Record) (v : List ℕ) → Agrees st (r ∷ l) v → Agrees st (join r l) v
agrees_join st (New s) [] v h = h
agrees_join st (New s) (New t ∷ l) v h = (omega (arith, length-drop s v, h.0, h.1.0), rw drop-drop at h.1.1)
agrees_join st (New s) (Match t b ∷ l) v h = h
agrees_join st (Match s a) [] v h = h
agrees_join st (Match s a) (New t ∷ l) v h = h
agrees_join st (Match s a) (Match t b ∷ l) v h = go (goes_on s a b) refl
  where
    go : (x : Bool) → goes_on s a b ≡ x → Agrees st (cond x (Match (s + t) a ∷ l) (Match s a ∷ Match t b ∷ l)) v
    go true e =
        let on = (goes_on_so s a b e).ends in
        (omega (arith, length-drop s v, h.0, h.3.0), omega (arith, on, h.3.1), agrees_on st v s a.address t b.address on h.2 h.3.2, rw drop-drop at h.3.3)
    go false e = h

inside_join : (st : List ℕ) (r : Record) (l : List Record) → Inside st (r ∷ l) → Inside st (join r l)
inside_join st (New s) [] h = h
inside_join st (New s) (New t ∷ l) h = h
inside_join st (New s) (Match t b ∷ l) h = h
inside_join st (Match s a) [] h = h
inside_join st (Match s a) (New t ∷ l) h = h
inside_join st (Match s a) (Match t b ∷ l) h = go (goes_on s a b) refl
  where
    go : (x : Bool) → goes_on s a b ≡ x → Inside st (cond x (Match (s + t) a ∷ l) (Match s a ∷ Match t b ∷ l))
    go true e = (omega (arith, (goes_on_so s a b e).ends, h.1.0), h.1.1)
    go false e = h

pub block_join : (r : Record) (l : List Record) (v : List ℕ) → block_of (join r l) v ≡ block_of (r ∷ l) v
block_join (New s) [] v = refl
block_join (New s) (New t ∷ l) v = rw (take-add s t v, append_assoc, drop-drop t s v)
block_join (New s) (Match t b ∷ l) v = refl
block_join (Match s a) [] v = refl
block_join (Match s a) (New t ∷ l) v = refl
block_join (Match s a) (Match t b ∷ l) v = go (goes_on s a b)
  where
    go : (x : Bool) → block_of (cond x (Match (s + t) a ∷ l) (Match s a ∷ Match t b ∷ l)) v ≡ block_of l (drop t (drop s v))
    go true = rw (drop-drop t s v)
    go false = refl

rebuilt_join : (r : Record) (l : List Record) (b st : List ℕ) → rebuilt (join r l) b st ≡ rebuilt (r ∷ l) b st
rebuilt_join (New s) [] b st = refl
rebuilt_join (New s) (New t ∷ l) b st = rw (take-add s t b, append_assoc, drop-drop t s b)
rebuilt_join (New s) (Match t c ∷ l) b st = refl
rebuilt_join (Match s a) [] b st = refl
rebuilt_join (Match s a) (New t ∷ l) b st = refl
rebuilt_join (Match s a) (Match t c ∷ l) b st = go (goes_on s a c) refl
  where
    go : (x : Bool) → goes_on s a c ≡ x
        → rebuilt (cond x (Match (s + t) a ∷ l) (Match s a ∷ Match t c ∷ l)) b st ≡ take s (drop a.address st) ++ (take t (drop c.address st) ++ rebuilt l b st)
    go true e = rw (take-add s t (drop a.address st), append_assoc, drop-drop s a.address st, (goes_on_so s a c e).ends)
    go false e = refl

pub stored_join : (r : Record) (l : List Record) → stored (join r l) ≡ stored (r ∷ l)
stored_join (New s) [] = refl
stored_join (New s) (New t ∷ l) = omega arith
stored_join (New s) (Match t b ∷ l) = refl
stored_join (Match s a) [] = refl
stored_join (Match s a) (New t ∷ l) = refl
stored_join (Match s a) (Match t b ∷ l) = go (goes_on s a b)
  where
    go : (x : Bool) → stored (cond x (Match (s + t) a ∷ l) (Match s a ∷ Match t b ∷ l)) ≡ stored l
    go true = refl
    go false = refl

-- ---- the tidy form

-- whether a record joins the first of a list does not depend on what that one joins
pub first_tidy : (r : Record) (l : List Record) → joins_first r (tidy l) ≡ joins_first r l
first_tidy r [] = refl
first_tidy r (q ∷ l) = go (tidy l)
  where
    go : (k : List Record) → joins_first r (join q k) ≡ joins r q
    go [] = refl
    go (p ∷ k) = pick (joins q p)
      where
        pick : (x : Bool) → joins_first r (cond x (grown q (size_of p) ∷ k) (q ∷ p ∷ k)) ≡ joins r q
        pick true = joins_grown r q (size_of p)
        pick false = refl

settled_join : (r : Record) (l : List Record) → Settled l → Settled (join r l)
settled_join r [] h = (refl, tt)
settled_join r (q ∷ l) h = go (joins r q) refl
  where
    go : (x : Bool) → joins r q ≡ x → Settled (cond x (grown r (size_of q) ∷ l) (r ∷ q ∷ l))
    go true e = (first_on r q l e ∙ h.0, h.1)
    go false e = (e, h)

-- no two neighbours of the tidy form join
pub settled_tidy : (l : List Record) → Settled (tidy l)
settled_tidy [] = tt
settled_tidy (r ∷ l) = settled_join r (tidy l) (settled_tidy l)

pub join_settled : (r : Record) (l : List Record) → joins_first r l ≡ false → join r l ≡ r ∷ l
join_settled r [] e = refl
join_settled r (q ∷ l) e = join_false r q l e

-- a list where no two neighbours join is tidy already
pub tidy_settled : (l : List Record) → Settled l → tidy l ≡ l
tidy_settled [] h = refl
tidy_settled (r ∷ l) h = ap (join r) (tidy_settled l h.1) ∙ join_settled r l h.0

-- it is no longer than the list, and covers as much
pub length_tidy : (l : List Record) → length (tidy l) ≤ length l
length_tidy [] = omega arith
length_tidy (r ∷ l) = omega (arith, length_join r (tidy l), length_tidy l)

pub whole_tidy : (l : List Record) → whole (tidy l) ≡ whole l
whole_tidy [] = refl
whole_tidy (r ∷ l) = whole_join r (tidy l) ∙ ap (λ (n : ℕ). size_of r + n) (whole_tidy l)

-- its stored bytes are the list's
pub stored_tidy : (l : List Record) → stored (tidy l) ≡ stored l
stored_tidy [] = refl
stored_tidy (New s ∷ l) = stored_join (New s) (tidy l) ∙ ap (λ (n : ℕ). s + n) (stored_tidy l)
stored_tidy (Match s a ∷ l) = stored_join (Match s a) (tidy l) ∙ stored_tidy l

-- no two new records of it stand side by side
pub apart_tidy : (l : List Record) → Apart (tidy l)
apart_tidy [] = tt
apart_tidy (r ∷ l) = apart_join r (tidy l) (apart_tidy l)

-- its sizes and its matches are as well formed as the list's
pub sized_tidy : (l : List Record) → Sized l → Sized (tidy l)
sized_tidy [] h = tt
sized_tidy (r ∷ l) h = sized_join r (tidy l) h.0 (sized_tidy l h.1)

pub inside_tidy : (st : List ℕ) (l : List Record) → Inside st l → Inside st (tidy l)
inside_tidy st [] h = tt
inside_tidy st (New s ∷ l) h = inside_join st (New s) (tidy l) (inside_tidy st l h)
inside_tidy st (Match s a ∷ l) h = inside_join st (Match s a) (tidy l) (h.0, inside_tidy st l h.1)

-- it rebuilds what the list does, from any stored block
pub rebuilt_tidy : (l : List Record) (b st : List ℕ) → rebuilt (tidy l) b st ≡ rebuilt l b st
rebuilt_tidy [] b st = refl
rebuilt_tidy (New s ∷ l) b st = rebuilt_join (New s) (tidy l) b st ∙ ap (λ (x : List ℕ). take s b ++ x) (rebuilt_tidy l (drop s b) st)
rebuilt_tidy (Match s a ∷ l) b st = rebuilt_join (Match s a) (tidy l) b st ∙ ap (λ (x : List ℕ). take s (drop a.address st) ++ x) (rebuilt_tidy l b st)
