-- Laws of cutting: the parts of a record have its origins, and what a list is from a byte on.
-- Assumes nothing.
use Prim.Native.Nat.{ℕ, ◌+◌, ◌-◌, ◌≤◌}
use native.Mathlib.Omega.{arith}
use mathlib.Core.Path.{◌≡◌, refl, sym, ◌∙◌, ap, ap₂}
use mathlib.Core.Bool.{Bool, true, false}
use mathlib.Core.List.{List, [], ◌∷◌, ◌++◌, append_assoc}
use lib.Dec.{ltb}
use lib.ListN.{length, replicate, replicate-append-replicate}
use borrow.Author.Tests.{ltb-true, ltb-false}
use Rattle.format.specs.declared.Record.{Record}
use Rattle.format.specs.declared.Record.TheVariants.{New, Match}
use Rattle.format.specs.Limits.{store_most}
use Rattle.format.specs.Record.{from}
use Rattle.format.specs.Meaning.{size_of, whole}
use Rattle.format.specs.WellFormed.{Sized, Inside}
use Rattle.format.specs.Origins.{Origin, fresh, drawn_at, origins_of, origins}
use Rattle.format.proofs.Rows.{from_add}
use Rattle.cursors.specs.Cut.{lead, cut, without, rest, end_of, Reaching}

pub size_lead : (n : ℕ) (r : Record) → size_of (lead n r) ≡ n
size_lead n (New s) = refl
size_lead n (Match s a) = refl

pub size_cut : (n : ℕ) (r : Record) → size_of (cut n r) ≡ size_of r - n
size_cut n (New s) = refl
size_cut n (Match s a) = refl

pub end_cut : (n : ℕ) (r : Record) → n ≤ size_of r → end_of (cut n r) ≡ end_of r
end_cut n (New s) h = refl
end_cut n (Match s a) h = omega arith

cut_none : (r : Record) → cut 0 r ≡ r
cut_none (New s) = let e : s - 0 ≡ s = omega arith in ap New e
cut_none (Match s a) =
    let e : s - 0 ≡ s = omega arith in
    let f : a.address + 0 ≡ a.address = omega arith in
    ap₂ (λ (m n : ℕ). Match m (record { address = n; held = a.held })) e f

pub cut_cut : (m n : ℕ) (r : Record) → cut n (cut m r) ≡ cut (m + n) r
cut_cut m n (New s) = let e : s - m - n ≡ s - (m + n) = omega arith in ap New e
cut_cut m n (Match s a) =
    let e : s - m - n ≡ s - (m + n) = omega arith in
    let f : a.address + m + n ≡ a.address + (m + n) = omega arith in
    ap₂ (λ (i j : ℕ). Match i (record { address = j; held = a.held })) e f

pub without_none : (l : List Record) → without 0 l ≡ l
without_none [] = refl
without_none (r ∷ l) = ap (λ (q : Record). q ∷ l) (cut_none r)

origins_cut : (n : ℕ) (r : Record) → n ≤ size_of r → origins_of r ≡ origins_of (lead n r) ++ origins_of (cut n r)
origins_cut n (New s) h =
    let e : s ≡ n + (s - n) = omega arith in
    ap (λ (i : ℕ). replicate i fresh) e ∙ sym (replicate-append-replicate n (s - n) fresh)
origins_cut n (Match s a) h =
    let e : s ≡ n + (s - n) = omega arith in
    ap (from (drawn_at a.held) a.address) e ∙ from_add (drawn_at a.held) a.address n (s - n)

origins_none : (r : Record) → size_of r ≡ 0 → origins_of r ≡ []
origins_none (New s) e = ap (λ (i : ℕ). replicate i fresh) e
origins_none (Match s a) e = ap (from (drawn_at a.held) a.address) e

-- what is left of a list
pub record Rested (n : ℕ) (r : Record) (l : List Record) : Type 0 where
  pub sized : Sized (rest n r l)
  pub reaching : Reaching (r ∷ l) → Reaching (rest n r l)
  pub known : origins (r ∷ l) ≡ origins_of (lead n r) ++ origins (rest n r l)
  pub covers : whole (r ∷ l) ≡ n + whole (rest n r l)

pub rested : (n : ℕ) (r : Record) (l : List Record) → n ≤ size_of r → Sized (r ∷ l) → Rested n r l
rested n r l h k = go (ltb n (size_of r)) refl
  where
    go : (x : Bool) → ltb n (size_of r) ≡ x → Rested n r l
    go true e =
        let less = ltb-true n (size_of r) e in
        record {
          sized = rw e (omega (arith, size_cut n r), k.1);
          reaching = λ f. rw e (omega (arith, end_cut n r h, f.0), f.1);
          known = rw e (ap (λ (x : List Origin). x ++ origins l) (origins_cut n r h) ∙ append_assoc (origins_of (lead n r)) (origins_of (cut n r)) (origins l));
          covers = rw e (omega (arith, size_cut n r));
        }
    go false e =
        let all : n ≡ size_of r = omega (arith, ltb-false n (size_of r) e) in
        let none : origins_of (cut n r) ≡ [] = origins_none (cut n r) (omega (arith, size_cut n r)) in
        record {
          sized = rw e k.1;
          reaching = λ f. rw e f.1;
          known = rw e (ap (λ (x : List Origin). x ++ origins l) (origins_cut n r h) ∙ append_assoc (origins_of (lead n r)) (origins_of (cut n r)) (origins l) ∙ rw none);
          covers = rw e (omega arith);
        }

-- matches that lie in a store end within the longest one
pub reaching_of_inside : (st : List ℕ) (l : List Record) → length st ≤ store_most → Inside st l → Reaching l
reaching_of_inside st [] m h = tt
reaching_of_inside st (New s ∷ l) m h = (omega arith, reaching_of_inside st l m h)
reaching_of_inside st (Match s a ∷ l) m h = (omega (arith, h.0), reaching_of_inside st l m h.1)
