-- The law of words; and what two words, or two bytes, tell of the elements that they were read from.
-- Assumes nothing.
use Prim.Native.Nat.{ℕ, suc, ◌+◌, ◌≤◌, ◌<◌}
use native.Mathlib.Omega.{arith}
use mathlib.Core.Path.{◌≡◌, refl, sym, ◌∙◌, ap, subst}
use mathlib.Core.List.{List, [], ◌∷◌}
use lib.Dec.{eqb}
use lib.ListN.{length, take, drop, get_or, length-drop}
use lib.Seq.{drop-cons, length-take-le, get_or-take, get_or-drop, ext_get_or}
use borrow.Author.Tests.{eqb-true, eq-eqb}
use Rattle.word.specs.Word.{word_of, EightBytes, eight_at, AllEqual, WordLaw, Tells}

abbrev Bytes : List ℕ → Type 0
Bytes l = (k : ℕ) → k < length l → get_or l k 0 < 256

-- equally many bytes with one number
bytes_of_word : (x y : List ℕ) → Bytes x → Bytes y → length x ≡ length y → word_of x ≡ word_of y → x ≡ y
bytes_of_word [] [] bx by l e = refl
bytes_of_word [] (y ∷ ys) bx by l e = absurd (omega arith)
bytes_of_word (x ∷ xs) [] bx by l e = absurd (omega arith)
bytes_of_word (x ∷ xs) (y ∷ ys) bx by l e =
    let hx : x < 256 = bx 0 (omega arith) in
    let hy : y < 256 = by 0 (omega arith) in
    let lowest : x ≡ y = omega arith in
    let others : word_of xs ≡ word_of ys = omega arith in
    rw (lowest, bytes_of_word xs ys (λ k h. bx (suc k) (omega arith)) (λ k h. by (suc k) (omega arith)) (omega arith) others)

module _ {x y : List ℕ} (ex : EightBytes x) (ey : EightBytes y) where
  one_length : length x ≡ length y
  one_length = ex.eight ∙ sym ey.eight

  eq_of_word : word_of x ≡ word_of y → x ≡ y
  eq_of_word = bytes_of_word x y (λ k h. ex.bytes k (omega arith)) (λ k h. ey.bytes k (omega arith)) one_length

  eq_of_all : AllEqual x y → x ≡ y
  eq_of_all h = ext_get_or 0 x y one_length (λ k lt. h k (omega arith))

pub word_law : WordLaw
word_law x y ex ey = (λ e k lt. ap (λ (l : List ℕ). get_or l k 0) (eq_of_word ex ey e), λ h. ap word_of (eq_of_all ex ey h))

module _ (s : List ℕ) (i : ℕ) (h : i + 8 ≤ length s) where
  -- the element at j, and those after it
  front : (j k n : ℕ) → k ≡ suc j → j < length s → take (suc n) (drop j s) ≡ get_or s j 0 ∷ take n (drop k s)
  front j k n e lt = rw (e, drop-cons s j 0)

  eight_elements : take 8 (drop i s) ≡ eight_at s i
  eight_elements =
      rw (
        front i (i + 1) 7 (omega arith) (omega arith),
        front (i + 1) (i + 2) 6 (omega arith) (omega arith),
        front (i + 2) (i + 3) 5 (omega arith) (omega arith),
        front (i + 3) (i + 4) 4 (omega arith) (omega arith),
        front (i + 4) (i + 5) 3 (omega arith) (omega arith),
        front (i + 5) (i + 6) 2 (omega arith) (omega arith),
        front (i + 6) (i + 7) 1 (omega arith) (omega arith),
        front (i + 7) (i + 8) 0 (omega arith) (omega arith),
      )

  eight_bytes : ((k : ℕ) → get_or s k 0 < 256) → EightBytes (eight_at s i)
  eight_bytes b =
      subst EightBytes eight_elements
      (record {
        eight = length-take-le 8 (drop i s) (simp length-drop (omega arith));
        bytes = λ k lt. rw (get_or-take 8 (drop i s) k 0 lt, get_or-drop i s k 0) (b (i + k));
      })

-- whether the words of two lists at i are equal tells whether their eight elements from i on are
pub words_tell : (a b : List ℕ) (i : ℕ) → ((k : ℕ) → get_or a k 0 < 256) → ((k : ℕ) → get_or b k 0 < 256) → i + 8 ≤ length a → i + 8 ≤ length b
    → Tells (eqb (word_of (eight_at a i)) (word_of (eight_at b i))) (take 8 (drop i a)) (take 8 (drop i b))
words_tell a b i ba bb ha hb =
    rw (eight_elements a i ha, eight_elements b i hb) (tell (eight_at a i) (eight_at b i) (eight_bytes a i ha ba) (eight_bytes b i hb bb))
  where
    tell : (x y : List ℕ) → EightBytes x → EightBytes y → Tells (eqb (word_of x) (word_of y)) x y
    tell x y ex ey = (
      λ e. eq_of_all ex ey ((word_law x y ex ey).0 (eqb-true _ _ e)),
      λ e. eq-eqb _ _ ((word_law x y ex ey).1 (λ k lt. ap (λ (l : List ℕ). get_or l k 0) e)),
    )

-- whether two bytes are equal tells whether the lists of them alone are
pub byte_tells : (a b : List ℕ) (i : ℕ) → i < length a → i < length b → Tells (eqb (get_or a i 0) (get_or b i 0)) (take 1 (drop i a)) (take 1 (drop i b))
byte_tells a b i ha hb = rw (drop-cons a i 0 ha, drop-cons b i 0 hb) (λ e. rw (eqb-true (get_or a i 0) (get_or b i 0) e), λ e. eq-eqb _ _ (ap (λ (l : List ℕ). get_or l 0 0) e))
