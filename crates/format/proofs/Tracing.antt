-- There is an origin for each byte, and as many are new as bytes are stored; and the test whether the origins are the same is one of equality.
-- Assumes nothing.
use Prim.Native.Nat.{ℕ, zero, suc, ◌+◌, ◌<◌}
use native.Mathlib.Omega.{arith}
use mathlib.Core.Path.{◌≡◌, refl, sym, ◌∙◌, ap, ap₂}
use mathlib.Core.Bool.{Bool, true, false, ◌&&◌, beq, and_assoc}
use mathlib.Core.List.{List, [], ◌∷◌, ◌++◌}
use lib.Dec.{eqb}
use lib.ListN.{length, replicate, length-append, length-replicate}
use lib.Seq.{ext_get_or}
use borrow.Author.Tests.{eqb-true, eq-eqb}
use Rattle.format.specs.declared.Source.{Source}
use Rattle.format.specs.declared.Record.{Record}
use Rattle.format.specs.declared.Record.TheVariants.{New, Match}
use Rattle.format.specs.Record.{from}
use Rattle.format.specs.Meaning.{size_of, whole, stored}
use Rattle.format.specs.Origins.{Origin, fresh, drawn, drawn_at, origins_of, origins, origin_at, same_source, same_origin, same_origins}
use Rattle.format.proofs.Rulings.{both_of_and, and_of_both, beq_self, beq_true}
use Rattle.format.proofs.Rows.{length_from}

-- ---- as many origins as bytes

pub length_origin : (r : Record) → length (origins_of r) ≡ size_of r
length_origin (New s) = length-replicate s fresh
length_origin (Match s a) = length_from (drawn_at a.held) a.address s

pub length_origins : (l : List Record) → length (origins l) ≡ whole l
length_origins [] = refl
length_origins (r ∷ l) = length-append (origins_of r) (origins l) ∙ ap₂ (λ (m n : ℕ). m + n) (length_origin r) (length_origins l)

-- two lists that cover equally many bytes, each of one origin in both
pub origins_alike : (l k : List Record) → whole l ≡ whole k → ((i : ℕ) → i < whole l → origin_at l i ≡ origin_at k i) → origins l ≡ origins k
origins_alike l k e h = ext_get_or fresh (origins l) (origins k) (length_origins l ∙ e ∙ sym (length_origins k)) (λ i lt. h i (omega (arith, length_origins l)))

-- ---- as many new origins as stored bytes

abbrev pub freshes : List Origin → ℕ
freshes [] = 0
freshes (fresh ∷ os) = suc (freshes os)
freshes (drawn a ∷ os) = freshes os

freshes_new : (s : ℕ) (os : List Origin) → freshes (replicate s fresh ++ os) ≡ s + freshes os
freshes_new zero os = omega arith
freshes_new (suc s) os = omega (arith, freshes_new s os)

freshes_run : (held : Bool) (s a : ℕ) (os : List Origin) → freshes (from (drawn_at held) a s ++ os) ≡ freshes os
freshes_run held zero a os = refl
freshes_run held (suc s) a os = freshes_run held s (a + 1) os

pub freshes_stored : (l : List Record) → freshes (origins l) ≡ stored l
freshes_stored [] = refl
freshes_stored (New s ∷ l) = omega (arith, freshes_new s (origins l), freshes_stored l)
freshes_stored (Match s a ∷ l) = freshes_run a.held s a.address (origins l) ∙ freshes_stored l

-- ---- the test is one of equality

pub source_true : (a b : Source) → same_source a b ≡ true → a ≡ b
source_true a b e =
    let k = both_of_and (beq a.held b.held) (eqb a.address b.address) e in
    ap₂ (λ (h : Bool) (n : ℕ). record { address = n; held = h }) (beq_true a.held b.held k.0) (eqb-true a.address b.address k.1)

origin_true : (o u : Origin) → same_origin o u ≡ true → o ≡ u
origin_true fresh fresh e = refl
origin_true fresh (drawn b) e = cc
origin_true (drawn a) fresh e = cc
origin_true (drawn a) (drawn b) e = ap drawn (source_true a b e)

origin_self : (o : Origin) → same_origin o o ≡ true
origin_self fresh = refl
origin_self (drawn a) = and_of_both (beq a.held a.held) (eqb a.address a.address) (beq_self a.held) (eq-eqb a.address a.address refl)

pub origins_self : (os : List Origin) → same_origins os os ≡ true
origins_self [] = refl
origins_self (o ∷ os) = and_of_both (same_origin o o) (same_origins os os) (origin_self o) (origins_self os)

pub origins_true : (os us : List Origin) → same_origins os us ≡ true → os ≡ us
origins_true [] [] e = refl
origins_true [] (u ∷ us) e = cc
origins_true (o ∷ os) [] e = cc
origins_true (o ∷ os) (u ∷ us) e =
    let k = both_of_and (same_origin o u) (same_origins os us) e in
    ap₂ (λ (x : Origin) (xs : List Origin). x ∷ xs) (origin_true o u k.0) (origins_true os us k.1)

pub origins_same : (os us : List Origin) → os ≡ us → same_origins os us ≡ true
origins_same os us e = rw (← e) (origins_self os)

-- of lists that are not equally long it is no
pub other_lengths : (os us : List Origin) → (length os ≡ length us → ⊥) → same_origins os us ≡ false
other_lengths os us h = go (same_origins os us) refl
  where
    go : (t : Bool) → same_origins os us ≡ t → t ≡ false
    go true e = absurd (h (ap length (origins_true os us e)))
    go false e = refl

-- of two parts, the first equally long, it is of each
pub same_append : (os us xs ys : List Origin) → length os ≡ length us → same_origins (os ++ xs) (us ++ ys) ≡ same_origins os us && same_origins xs ys
same_append [] [] xs ys h = refl
same_append [] (u ∷ us) xs ys h = absurd (omega arith)
same_append (o ∷ os) [] xs ys h = absurd (omega arith)
same_append (o ∷ os) (u ∷ us) xs ys h =
    ap (λ (b : Bool). same_origin o u && b) (same_append os us xs ys (omega arith)) ∙ sym (and_assoc (same_origin o u) (same_origins os us) (same_origins xs ys))
