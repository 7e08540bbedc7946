-- Laws of pooling, byte by byte and piece by piece.
-- Assumes nothing.
use Prim.Native.Nat.{ℕ, zero, suc, ◌+◌, ◌≤◌, ◌<◌}
use native.Mathlib.Omega.{arith}
use mathlib.Core.Path.{◌≡◌, refl, sym, ◌∙◌, ap, ap₂}
use mathlib.Core.Bool.{Bool}
use mathlib.Core.List.{List, [], ◌∷◌, ◌++◌}
use lib.ListN.{length, replicate, get_or}
use Rattle.format.specs.declared.Source.{Source}
use Rattle.format.specs.declared.Record.{Record}
use Rattle.format.specs.declared.Record.TheVariants.{New, Match}
use Rattle.format.specs.Record.{from}
use Rattle.format.specs.Meaning.{size_of}
use Rattle.format.specs.Origins.{Origin, fresh, drawn, drawn_at, origins_of}
use Rattle.format.proofs.Tracing.{length_origin}
use Rattle.join.specs.Join.{join, gather}
use Rattle.join.proofs.Tracing.{gather_origin}
use Rattle.pool.specs.Pool.{pooled_byte, pooled}
use Rattle.pool.specs.Pooling.{preferred}

-- ---- byte by byte

pub length_pooled : (os us : List Origin) → length os ≡ length us → length (pooled os us) ≡ length os
length_pooled [] us h = refl
length_pooled (o ∷ os) [] h = absurd (omega arith)
length_pooled (o ∷ os) (u ∷ us) h = ap suc (length_pooled os us (omega arith))

pub pooled_at : (os us : List Origin) (i : ℕ) → length os ≡ length us → i < length os → get_or (pooled os us) i fresh ≡ pooled_byte (get_or os i fresh) (get_or us i fresh)
pooled_at [] us i h k = absurd (omega arith)
pooled_at (o ∷ os) [] i h k = absurd (omega arith)
pooled_at (o ∷ os) (u ∷ us) zero h k = refl
pooled_at (o ∷ os) (u ∷ us) (suc i) h k = pooled_at os us i (omega arith) (omega arith)

-- a byte that the first list draws is drawn so, whatever the second says
byte_drawn : (a : Source) (u : Origin) → pooled_byte (drawn a) u ≡ drawn a
byte_drawn a fresh = refl
byte_drawn a (drawn b) = refl

-- origins pooled with themselves
byte_self : (o : Origin) → pooled_byte o o ≡ o
byte_self fresh = refl
byte_self (drawn a) = byte_drawn a (drawn a)

pub pooled_self : (os : List Origin) → pooled os os ≡ os
pooled_self [] = refl
pooled_self (o ∷ os) = ap₂ (λ (u : Origin) (us : List Origin). u ∷ us) (byte_self o) (pooled_self os)

-- with new bytes alone, on either side
byte_new : (u : Origin) → pooled_byte fresh u ≡ u
byte_new fresh = refl
byte_new (drawn b) = refl

byte_before_new : (o : Origin) → pooled_byte o fresh ≡ o
byte_before_new fresh = refl
byte_before_new (drawn a) = byte_drawn a fresh

pub pooled_new : (s : ℕ) (us : List Origin) → s ≡ length us → pooled (replicate s fresh) us ≡ us
pooled_new zero [] h = refl
pooled_new zero (u ∷ us) h = absurd (omega arith)
pooled_new (suc s) [] h = absurd (omega arith)
pooled_new (suc s) (u ∷ us) h = ap₂ (λ (x : Origin) (l : List Origin). x ∷ l) (byte_new u) (pooled_new s us (omega arith))

pub pooled_before_new : (os : List Origin) (s : ℕ) → length os ≡ s → pooled os (replicate s fresh) ≡ os
pooled_before_new [] s h = refl
pooled_before_new (o ∷ os) zero h = absurd (omega arith)
pooled_before_new (o ∷ os) (suc s) h = ap₂ (λ (x : Origin) (l : List Origin). x ∷ l) (byte_before_new o) (pooled_before_new os s (omega arith))

-- ---- piece by piece

pooled_append : (os us xs ys : List Origin) → length os ≡ length us → pooled (os ++ xs) (us ++ ys) ≡ pooled os us ++ pooled xs ys
pooled_append [] [] xs ys h = refl
pooled_append [] (u ∷ us) xs ys h = absurd (omega arith)
pooled_append (o ∷ os) [] xs ys h = absurd (omega arith)
pooled_append (o ∷ os) (u ∷ us) xs ys h = ap (λ (l : List Origin). pooled_byte o u ∷ l) (pooled_append os us xs ys (omega arith))

pooled_run : (h : Bool) (a s : ℕ) (us : List Origin) → s ≡ length us → pooled (from (drawn_at h) a s) us ≡ from (drawn_at h) a s
pooled_run h a zero us e = refl
pooled_run h a (suc s) [] e = absurd (omega arith)
pooled_run h a (suc s) (u ∷ us) e = ap₂ (λ (x : Origin) (l : List Origin). x ∷ l) (byte_drawn (record { address = a; held = h }) u) (pooled_run h (a + 1) s us (omega arith))

pooled_piece : (p q : Record) → size_of p ≡ size_of q → pooled (origins_of p) (origins_of q) ≡ origins_of (preferred p q)
pooled_piece (New s) q e = pooled_new s (origins_of q) (omega (arith, e, length_origin q))
pooled_piece (Match s a) q e = pooled_run a.held a.address s (origins_of q) (omega (arith, e, length_origin q))

pub size_preferred : (p q : Record) → size_of p ≡ size_of q → size_of (preferred p q) ≡ size_of p
size_preferred (New s) q e = sym e
size_preferred (Match s a) q e = refl

-- one piece p of the first list and q of the second, and what is to come of both
pub gather_front : (p q : Record) (os us : List Origin) → size_of p ≡ size_of q → 1 ≤ size_of p
    → gather (pooled (origins_of p ++ os) (origins_of q ++ us)) ≡ join (preferred p q) (gather (pooled os us))
gather_front p q os us e h =
    let split : pooled (origins_of p ++ os) (origins_of q ++ us) ≡ origins_of (preferred p q) ++ pooled os us =
    pooled_append (origins_of p) (origins_of q) os us (omega (arith, e, length_origin p, length_origin q)) ∙ ap (λ (x : List Origin). x ++ pooled os us) (pooled_piece p q e) in
    ap gather split ∙ gather_origin (preferred p q) (pooled os us) (omega (arith, h, size_preferred p q e))
