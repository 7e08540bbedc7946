-- Two lists, compared piece by piece: what the pieces passed, and the next one, tell of the whole.
-- Assumes nothing.
use Prim.Native.Nat.{ℕ, ◌+◌, ◌-◌, ◌≤◌, ◌<◌, min}
use native.Mathlib.Omega.{arith}
use mathlib.Core.Path.{◌≡◌, refl, sym, ◌∙◌, ap}
use mathlib.Core.Bool.{Bool, true, false, ◌&&◌}
use mathlib.Core.List.{List}
use lib.Dec.{ltb}
use lib.ListN.{length, take, drop, length-drop, take-append-drop}
use lib.Seq.{drop-drop, take-add, take_all, take-take}
use Rattle.std.proofs.lemmas.List.{drop-take}
use borrow.Author.Tests.{ltb-true, ltb-false}
use Rattle.word.specs.Word.{Tells}

-- t tells whether the first n elements are the same
abbrev pub TellsFirst : Bool → ℕ → List ℕ → List ℕ → Type 0
TellsFirst t n a b = Tells t (take n a) (take n b)

-- t tells whether the n elements from i on are the same
abbrev pub TellsFrom : Bool → ℕ → ℕ → List ℕ → List ℕ → Type 0
TellsFrom t i n a b = Tells t (take n (drop i a)) (take n (drop i b))

-- u tells of the n elements from i on
module _ (a b : List ℕ) (i n : ℕ) (u : Bool) (f : TellsFrom u i n a b) where
  same_piece : take (i + n) a ≡ take (i + n) b → u ≡ true
  same_piece h = f.1 (sym (drop-take i n a) ∙ ap (drop i) h ∙ drop-take i n b)

  first : (s : List ℕ) → take i (take (i + n) s) ≡ take i s
  first s = take-take i (i + n) s (omega arith)

  -- t of those before them
  pub next_tells : (t : Bool) → TellsFirst t i a b → TellsFirst (t && u) (i + n) a b
  next_tells true e = (λ h. rw (take-add i n a, take-add i n b, e.0 refl, f.0 h), same_piece)
  next_tells false e = (λ h. cc, λ h. e.1 (sym (first a) ∙ ap (take i) h ∙ first b))

  -- t of those before them and of them too
  again_tells : (t : Bool) → TellsFirst t (i + n) a b → TellsFirst (t && u) (i + n) a b
  again_tells true e = (λ h. e.0 refl, same_piece)
  again_tells false e = e

-- m elements from i on, and the n after them
pub both_tell : (a b : List ℕ) (i m n : ℕ) (t u : Bool) → TellsFrom t i m a b → TellsFrom u (i + m) n a b → TellsFrom (t && u) i (m + n) a b
both_tell a b i m n t u e f = next_tells (drop i a) (drop i b) m n u (rw (drop-drop m i a, drop-drop m i b) f) t e

-- in pieces of n: t tells of the elements before q, or of as many as the first list has, and u of the piece at q, or of the first list's last
pub step_tells : (a b : List ℕ) (n q : ℕ) (t u : Bool) → n ≤ length a → (q < length a → q + n ≤ length a)
    → TellsFirst t (min q (length a)) a b → TellsFrom u (min q (length a - n)) n a b → TellsFirst (t && u) (min (q + n) (length a)) a b
step_tells a b n q t u some whole = go (ltb q (length a)) refl
  where
    go : (d : Bool) → ltb q (length a) ≡ d → TellsFirst t (min q (length a)) a b → TellsFrom u (min q (length a - n)) n a b → TellsFirst (t && u) (min (q + n) (length a)) a b
    go true d e f =
        let l : q + n ≤ length a = whole (ltb-true _ _ d) in
        let x : min q (length a) ≡ q = omega arith in
        let y : min q (length a - n) ≡ q = omega arith in
        let z : min (q + n) (length a) ≡ q + n = omega arith in
        rw z (next_tells a b q n u (rw y at f) t (rw x at e))
    go false d e f =
        let l : length a ≤ q = ltb-false _ _ d in
        let x : min q (length a) ≡ (length a - n) + n = omega arith in
        let y : min q (length a - n) ≡ length a - n = omega arith in
        let z : min (q + n) (length a) ≡ (length a - n) + n = omega arith in
        rw z (again_tells a b (length a - n) n u (rw y at f) t (rw x at e))

-- lists of one length: t tells of the first i and u of the last n, and these are all
pub ends_tell : (a b : List ℕ) (i last n : ℕ) (t u : Bool) → length a ≡ length b → last + n ≡ length a → last ≤ i
    → TellsFirst t i a b → TellsFrom u last n a b → Tells (t && u) a b
ends_tell a b i last n false u even whole some e f = (λ h. cc, λ h. e.1 (ap (take i) h))
ends_tell a b i last n true u even whole some e f = (λ h. joined (f.0 h), λ h. f.1 (ap (λ (s : List ℕ). take n (drop last s)) h))
  where
    rest : (s : List ℕ) → last + n ≡ length s → take n (drop last s) ≡ drop last s
    rest s h = take_all n (drop last s) (simp length-drop (omega arith))

    joined : take n (drop last a) ≡ take n (drop last b) → a ≡ b
    joined h =
        let front : take last a ≡ take last b = sym (take-take last i a some) ∙ ap (take last) (e.0 refl) ∙ take-take last i b some in
        sym (take-append-drop last a) ∙ rw (front, sym (rest a (omega arith)) ∙ h ∙ rest b (omega arith)) (take-append-drop last b)

-- lists of one length: t tells of the first i and u of the rest
pub rest_tells : (a b : List ℕ) (i : ℕ) (t u : Bool) → length a ≡ length b → i ≤ length a
    → TellsFirst t i a b → Tells u (take (length a - i) (drop i a)) (take (length b - i) (drop i b)) → Tells (t && u) a b
rest_tells a b i t u even within e f =
    let k : length b - i ≡ length a - i = omega arith in
    ends_tell a b i i (length a - i) t u even (omega arith) (omega arith) e (rw k at f)

-- the first i differ
pub other_front : (a b : List ℕ) (i : ℕ) → TellsFirst false i a b → Tells false a b
other_front a b i e = (λ h. cc, λ h. e.1 (ap (take i) h))

-- lists of two lengths
pub uneven : (a b : List ℕ) → (length a ≡ length b → ⊥) → Tells false a b
uneven a b h = (λ e. cc, λ e. absurd (h (ap length e)))
