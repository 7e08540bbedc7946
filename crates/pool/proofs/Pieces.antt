-- The pooled list has no more records than the two lists together: each piece leaves a record of one list or of both behind.
-- Assumes nothing.
use Prim.Native.Nat.{ℕ, zero, suc, ◌+◌, ◌≤◌}
use native.Mathlib.Omega.{arith}
use mathlib.Core.Path.{◌≡◌, refl, sym, ◌∙◌, ap, ap₂}
use mathlib.Core.Bool.{Bool, true, false, cond}
use mathlib.Core.List.{List, [], ◌∷◌}
use lib.Dec.{leb, ltb}
use lib.ListN.{length}
use borrow.Author.Tests.{leb-true, leb-false, ltb-true}
use Rattle.format.specs.declared.Record.{Record}
use Rattle.format.specs.Meaning.{size_of, whole}
use Rattle.format.specs.WellFormed.{Sized}
use Rattle.format.specs.Origins.{Origin, origins}
use Rattle.join.specs.Join.{join, gather}
use Rattle.join.proofs.Joining.{length_join}
use Rattle.cursors.specs.Cut.{lead, cut, rest}
use Rattle.cursors.proofs.Cutting.{size_lead, Rested, rested}
use Rattle.pool.specs.Pool.{pooled}
use Rattle.pool.specs.Pooling.{preferred}
use Rattle.pool.proofs.Bytes.{gather_front}

-- what is left of a list has no more records, and one less where its first is passed
length_rest : (n : ℕ) (r : Record) (l : List Record) → (length (rest n r l) ≤ 1 + length l) × (size_of r ≤ n → length (rest n r l) ≡ length l)
length_rest n r l = go (ltb n (size_of r)) refl
  where
    go : (x : Bool) → ltb n (size_of r) ≡ x → (length (cond x (cut n r ∷ l) l) ≤ 1 + length l) × (size_of r ≤ n → length (cond x (cut n r ∷ l) l) ≡ length l)
    go true e = (omega arith, λ h. absurd (omega (arith, ltb-true n (size_of r) e)))
    go false e = (omega arith, λ h. refl)

pub few_pooled : (f : ℕ) (l k : List Record) → length l + length k ≤ f → Sized l → Sized k → whole l ≡ whole k → length (gather (pooled (origins l) (origins k))) ≤ length l + length k
few_pooled zero [] k h i j e = omega arith
few_pooled zero (q ∷ l) k h i j e = absurd (omega arith)
few_pooled (suc f) [] k h i j e = omega arith
few_pooled (suc f) (q ∷ l) [] h i j e = absurd (omega (arith, i.0))
few_pooled (suc f) (q ∷ l) (r ∷ k) h i j e = go (leb (size_of q) (size_of r)) refl (few_pooled f)
  where
    -- of fewer records
    Fewer : Type 0
    Fewer = (x y : List Record) → length x + length y ≤ f → Sized x → Sized y → whole x ≡ whole y → length (gather (pooled (origins x) (origins y))) ≤ length x + length y

    -- a piece of n bytes, with which one record or both are passed
    piece : (n : ℕ) → 1 ≤ n → n ≤ size_of q → n ≤ size_of r → length (rest n q l) + length (rest n r k) ≤ 1 + length l + length k
        → Fewer → length (gather (pooled (origins (q ∷ l)) (origins (r ∷ k)))) ≤ length (q ∷ l) + length (r ∷ k)
    piece n some a b fewer ih =
        let x : Rested n q l = rested n q l a i in
        let y : Rested n r k = rested n r k b j in
        let same : size_of (lead n q) ≡ size_of (lead n r) = size_lead n q ∙ sym (size_lead n r) in
        let split : gather (pooled (origins (q ∷ l)) (origins (r ∷ k))) ≡ join (preferred (lead n q) (lead n r)) (gather (pooled (origins (rest n q l)) (origins (rest n r k)))) =
        ap₂ (λ (os us : List Origin). gather (pooled os us)) x.known y.known ∙ gather_front (lead n q) (lead n r) (origins (rest n q l)) (origins (rest n r k)) same (omega (arith, some, size_lead n q)) in
        let others = ih (rest n q l) (rest n r k) (omega (arith, h, fewer)) x.sized y.sized (omega (arith, e, x.covers, y.covers)) in
        omega (arith, ap length split, length_join (preferred (lead n q) (lead n r)) (gather (pooled (origins (rest n q l)) (origins (rest n r k)))), others, fewer)

    go : (t : Bool) → leb (size_of q) (size_of r) ≡ t → Fewer → length (gather (pooled (origins (q ∷ l)) (origins (r ∷ k)))) ≤ length (q ∷ l) + length (r ∷ k)
    go true t ih =
        let m = leb-true (size_of q) (size_of r) t in
        piece (size_of q) i.0 (omega arith) m (omega (arith, (length_rest (size_of q) q l).1 (omega arith), (length_rest (size_of q) r k).0)) ih
    go false t ih =
        let m = leb-false (size_of q) (size_of r) t in
        piece (size_of r) j.0 (omega (arith, m)) (omega arith) (omega (arith, (length_rest (size_of r) q l).0, (length_rest (size_of r) r k).1 (omega arith))) ih
