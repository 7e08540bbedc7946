-- Bytes copied into an area, one by one and block by block.
-- Assumes nothing.
use Prim.Native.Nat.{ℕ, ◌+◌, ◌-◌, ◌≤◌, ◌<◌}
use native.Mathlib.Omega.{arith}
use mathlib.Core.Path.{◌≡◌, sym, ◌∙◌, ap}
use mathlib.Core.List.{List, [], ◌∷◌, ◌++◌, append_assoc, append-nil}
use lib.ListN.{length, take, drop, set, get_or, length-append, length-drop, take-append-drop}
use lib.Seq.{length-take-le, take_all, take-length, take-take, take-add, take-append-le, take-append-add, drop-append-add, drop-drop}
use Rattle.std.proofs.lemmas.List.{take-set, drop-set, drop_more}
use Rattle.area.specs.Area.{pasted}

pub pasted_none : (at : ℕ) (d : List ℕ) → d ≡ pasted at [] d
pasted_none at d =
    let e : at ≡ at + 0 = omega arith in
    sym (take-append-drop at d) ∙ ap (λ (j : ℕ). take at d ++ drop j d) e ∙ ap (λ (p : List ℕ). p ++ drop (at + 0) d) (sym (append-nil (take at d)))

-- one byte is written at its place
pub pasted_one : (j x : ℕ) (area : List ℕ) → j < length area → set area j x ≡ pasted j (x ∷ []) area
pasted_one j x area h = sym (take-append-drop j (set area j x)) ∙ rw (take-set area j x, drop-set area j x h) (sym (append_assoc (take j area) (x ∷ []) (drop (j + 1) area)))

-- the first byte of what stands from i on
pub take_one : (i : ℕ) (src : List ℕ) → i < length src → take 1 (drop i src) ≡ get_or src i 0 ∷ []
take_one i src h = ap (take 1) (drop_more src i 0 h)

pub length_pasted : (at : ℕ) (s d : List ℕ) → at + length s ≤ length d → length (pasted at s d) ≡ length d
length_pasted at s d h =
    length-append (take at d ++ s) (drop (at + length s) d)
    ∙ omega (arith, length-append (take at d) s, length-take-le at d (omega arith), length-drop (at + length s) d)

-- t over the end of s and beyond it, where s stands already
pasted_again : (at j : ℕ) (s t d : List ℕ) → at ≤ length d → j ≤ length s → length s ≤ j + length t
    → pasted (at + j) t (pasted at s d) ≡ pasted at (take j s ++ t) d
pasted_again at j s t d h k l =
    let p : List ℕ = take at d in
    let q : List ℕ = drop (at + length s) d in
    let m : ℕ = j + length t - length s in
    let p_is : length p ≡ at = length-take-le at d h in
    let both : length (p ++ s) ≡ at + length s = length-append p s ∙ ap (λ (x : ℕ). x + length s) p_is in
    let head : take (at + j) ((p ++ s) ++ q) ≡ p ++ take j s =
    take-append-le (at + j) (p ++ s) q (omega (arith, both)) ∙ ap (λ (x : ℕ). take (x + j) (p ++ s)) (sym p_is) ∙ take-append-add p s j in
    let beyond : at + j + length t ≡ length (p ++ s) + m = omega (arith, both) in
    let ends : at + length s + m ≡ at + length (take j s ++ t) = omega (arith, length-append (take j s) t, length-take-le j s k) in
    let tail : drop (at + j + length t) ((p ++ s) ++ q) ≡ drop (at + length (take j s ++ t)) d =
    ap (λ (x : ℕ). drop x ((p ++ s) ++ q)) beyond ∙ drop-append-add (p ++ s) q m ∙ drop-drop m (at + length s) d ∙ ap (λ (x : ℕ). drop x d) ends in
    rw (head, tail, append_assoc p (take j s) t)

-- t right after s
pub pasted_append : (at : ℕ) (s t d : List ℕ) → at ≤ length d → pasted (at + length s) t (pasted at s d) ≡ pasted at (s ++ t) d
pasted_append at s t d h =
    pasted_again at (length s) s t d h (omega arith) (omega arith) ∙ ap (λ (p : List ℕ). pasted at (p ++ t) d) (take-length s)

-- of src, the first i bytes stand in the area; n more are put
module _ (at i : ℕ) (src d area : List ℕ) (h : at ≤ length d) (within : i ≤ length src) (so_far : area ≡ pasted at (take i src) d) (n : ℕ) where
  -- the next ones
  pub pasted_next : (i' : ℕ) (area' : List ℕ) → i' ≡ i + n → i' ≤ length src → area' ≡ pasted (at + i) (take n (drop i src)) area → area' ≡ pasted at (take i' src) d
  pasted_next i' area' e room put =
      put ∙ ap (pasted (at + i) (take n (drop i src))) so_far
      ∙ pasted_again at i (take i src) (take n (drop i src)) d h (omega (arith, length-take-le i src within)) (omega (arith, length-take-le i src within))
      ∙ ap (λ (s : List ℕ). pasted at s d) (ap (λ (s : List ℕ). s ++ take n (drop i src)) (take-take i i src (omega arith)) ∙ sym (take-add i n src) ∙ ap (λ (k : ℕ). take k src) (sym e))

  -- the last ones, some of them once more
  pub pasted_last : (last : ℕ) (area' : List ℕ) → last ≤ i → last + n ≡ length src → area' ≡ pasted (at + last) (take n (drop last src)) area → area' ≡ pasted at src d
  pasted_last last area' some e put =
      let rest : take n (drop last src) ≡ drop last src = take_all n (drop last src) (omega (arith, length-drop last src)) in
      put ∙ rw (so_far, rest)
      (pasted_again at last (take i src) (drop last src) d h (omega (arith, length-take-le i src within)) (omega (arith, length-take-le i src within, length-drop last src)))
      ∙ ap (λ (s : List ℕ). pasted at s d) (ap (λ (s : List ℕ). s ++ drop last src) (take-take last i src some) ∙ take-append-drop last src)
