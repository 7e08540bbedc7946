-- `same_bytes` decides whether two lists of bytes are equal.
-- Assumes nothing.
use Prim.Native.Nat.{ℕ}
use mathlib.Core.Path.{◌≡◌, refl, sym, ◌∙◌, ap}
use mathlib.Core.Bool.{Bool, true, false, ◌&&◌}
use mathlib.Core.List.{List, [], ◌∷◌}
use lib.Dec.{eqb}
use borrow.Author.Tests.{eqb-true, eq-eqb}
use Rattle.words.specs.Same.{same_bytes}

pub same_refl : (x : List ℕ) → same_bytes x x ≡ true
same_refl [] = refl
same_refl (x ∷ xs) = rw (eq-eqb x x refl) (same_refl xs)

pub eq_of_same : (x y : List ℕ) → same_bytes x y ≡ true → x ≡ y
eq_of_same [] [] e = refl
eq_of_same [] (y ∷ ys) e = cc
eq_of_same (x ∷ xs) [] e = cc
eq_of_same (x ∷ xs) (y ∷ ys) e = go (eqb x y) refl e (eq_of_same xs ys)
  where
    go : (t : Bool) → eqb x y ≡ t → t && same_bytes xs ys ≡ true → (same_bytes xs ys ≡ true → xs ≡ ys) → x ∷ xs ≡ y ∷ ys
    go true k f ih = rw (eqb-true x y k, ih f)
    go false k f ih = cc

-- what decides equality is `same_bytes`
pub same_is : (x y : List ℕ) (r : Bool) → (r ≡ true → x ≡ y) × (x ≡ y → r ≡ true) → r ≡ same_bytes x y
same_is x y true h = sym (ap (λ (z : List ℕ). same_bytes x z) (sym (h.0 refl)) ∙ same_refl x)
same_is x y false h = go (same_bytes x y) refl
  where
    go : (t : Bool) → same_bytes x y ≡ t → false ≡ t
    go true e = h.1 (eq_of_same x y e)
    go false e = refl

pub same_of_eq : (x y : List ℕ) → x ≡ y → same_bytes x y ≡ true
same_of_eq x y e = rw e (same_refl y)

pub same_sym : (x y : List ℕ) → same_bytes x y ≡ same_bytes y x
same_sym x y = same_is y x (same_bytes x y) (λ e. sym (eq_of_same x y e), λ e. same_of_eq x y (sym e))
