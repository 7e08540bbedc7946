-- The open record before the rest of a list; and the entries of a tidy form, which are the records that do not join the one before.
-- Assumes nothing.
use Rattle.std.specs.Prelude.{Some, None}
use Prim.Native.Nat.{ℕ, ◌+◌, ◌≤◌}
use native.Mathlib.Omega.{arith}
use mathlib.Core.Path.{◌≡◌, refl, ap}
use mathlib.Core.Bool.{Bool, true, false, cond}
use mathlib.Core.List.{List, [], ◌∷◌, ◌++◌}
use lib.ListN.{length}
use Rattle.format.specs.declared.Record.{Record}
use Rattle.format.specs.Meaning.{size_of}
use Rattle.join.specs.Open.{Open, pending, open_size, follows, flushed, opened}
use Rattle.join.specs.Join.{joins, grown, join, tidy}
use Rattle.join.proofs.Joining.{size_grown, joins_on, join_on, join_off}

-- the open record before a list
abbrev pub ahead : Open → List Record → List Record
ahead None l = l
ahead (Some r) l = join r l

pub ahead_none : (o : Open) → ahead o [] ≡ pending o
ahead_none None = refl
ahead_none (Some r) = refl

pub ahead_join : (o : Open) (r : Record) (l : List Record) → ahead o (join r l) ≡ flushed o r ++ ahead (opened o r) l
ahead_join None r l = refl
ahead_join (Some q) r l = go (joins q r) refl
  where
    go : (x : Bool) → joins q r ≡ x → join q (join r l) ≡ cond x [] (q ∷ []) ++ join (cond x (grown q (size_of r)) r) l
    go true e = join_on q r l e
    go false e = join_off q r l e

pub open_size_most : (o : Open) (r : Record) → open_size (opened o r) ≤ open_size o + size_of r
open_size_most None r = omega arith
open_size_most (Some q) r = go (joins q r)
  where
    go : (x : Bool) → size_of (cond x (grown q (size_of r)) r) ≤ size_of q + size_of r
    go true = omega (arith, size_grown q (size_of r))
    go false = omega arith

-- ---- the entries of a tidy form

-- the records of a list that do not join the one before, where o stands before the first
abbrev pub entries_after : Open → List Record → ℕ
entries_after o [] = 0
entries_after o (r ∷ l) = cond (follows o r) 0 1 + entries_after (Some r) l

-- two that joined are followed as the second is
entries_on : (q r : Record) (l : List Record) → joins q r ≡ true → entries_after (Some (grown q (size_of r))) l ≡ entries_after (Some r) l
entries_on q r [] e = refl
entries_on q r (p ∷ l) e = ap (λ (x : Bool). cond x 0 1 + entries_after (Some p) l) (joins_on q r p e)

entries_behind : (q : Record) (l : List Record) → length (join q (tidy l)) ≡ 1 + entries_after (Some q) l
entries_behind q [] = omega arith
entries_behind q (r ∷ l) = go (joins q r) refl (λ p. entries_behind p l)
  where
    go : (x : Bool) → joins q r ≡ x → ((p : Record) → length (join p (tidy l)) ≡ 1 + entries_after (Some p) l)
        → length (join q (join r (tidy l))) ≡ 1 + (cond x 0 1 + entries_after (Some r) l)
    go true e ih = rw (join_on q r (tidy l) e) (omega (arith, ih (grown q (size_of r)), entries_on q r l e))
    go false e ih = rw (join_off q r (tidy l) e) (omega (arith, ih r))

pub entries_tidy : (l : List Record) → length (tidy l) ≡ entries_after None l
entries_tidy [] = refl
entries_tidy (r ∷ l) = omega (arith, entries_behind r l)

-- they go by the tidy form alone
entries_ahead : (o : Open) (l : List Record) → length (ahead o (tidy l)) ≡ length (pending o) + entries_after o l
entries_ahead None l = omega (arith, entries_tidy l)
entries_ahead (Some r) l = entries_behind r l

pub entries_alike : (o : Open) (l k : List Record) → tidy l ≡ tidy k → entries_after o l ≡ entries_after o k
entries_alike o l k e = omega (arith, entries_ahead o l, entries_ahead o k, ap (λ (t : List Record). length (ahead o t)) e)
