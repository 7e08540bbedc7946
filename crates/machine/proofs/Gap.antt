-- The items of two arrays after stores at one place of both, and opened at a place.
-- Assumes nothing.
use Prim.Native.Nat.{ℕ, zero, suc, ◌+◌, ◌-◌, ◌≤◌, ◌<◌}
use native.Mathlib.Omega.{arith}
use native.Mathlib.Numerals.{add-one}
use Rattle.std.proofs.Math.Nat.{ne_of_lt, ne_of_gt}
use mathlib.Core.Path.{◌≡◌, refl, sym, ap, ap₂, ◌∙◌}
use mathlib.Core.Logic.{◌≢◌}
use mathlib.Core.List.{List, [], ◌∷◌}
use lib.ListN.{length, set}
use lib.Seq.{get_or-set_same, get_or-set_other}
use Rattle.format.specs.Record.{from}
use Rattle.format.proofs.Rows.{from_next, from_none}
use Rattle.rules.specs.declared.Kind.{Kind}
use Rattle.rules.specs.declared.Kind.TheVariants.{New}
use Rattle.rules.specs.Rules.{Item, item_of}
use Rattle.machine.specs.Looks.{State, rest, joined}
use Rattle.machine.specs.Machine.{item_at, below, from_place}

pub state_alike : {l l' r r' : List Item} → l ≡ l' → r ≡ r' → ◌≡◌ {A = State} (record { left = l; right = r }) (record { left = l'; right = r' })
state_alike p q = λ i. record { left = p i; right = q i }

pub cons_of : {x x' : Item} {l l' : List Item} → x ≡ x' → l ≡ l' → x ∷ l ≡ x' ∷ l'
cons_of p q = λ i. p i ∷ q i

module _ (ks : List Kind) (ss : List ℕ) where
  -- ---- opened

  pub below_next : (i : ℕ) → 0 < i → below ks ss i ≡ item_at ks ss (i - 1) ∷ below ks ss (i - 1)
  below_next i h =
      let e : i ≡ i - 1 + 1 = omega arith in
      ap (below ks ss) (e ∙ add-one (i - 1))

  pub from_place_next : (i : ℕ) → i < 4097 → from_place ks ss i ≡ item_at ks ss i ∷ from_place ks ss (i + 1)
  from_place_next i h = from_next (item_at ks ss) i 4097 h

  pub from_place_none : (i : ℕ) → 4097 ≤ i → from_place ks ss i ≡ []
  from_place_none i h = from_none (item_at ks ss) i 4097 h

  joined_from : (i m : ℕ) → joined (below ks ss i) (from (item_at ks ss) i m) ≡ from (item_at ks ss) 0 (i + m)
  joined_from zero m = let e : 0 + m ≡ m = omega arith in ap (from (item_at ks ss) 0) (sym e)
  joined_from (suc i) m =
      let e : i + suc m ≡ suc i + m = omega arith in
      ap (λ (j : ℕ). joined (below ks ss i) (item_at ks ss i ∷ from (item_at ks ss) j m)) (sym (add-one i))
      ∙ joined_from i (suc m)
      ∙ ap (from (item_at ks ss) 0) e

  -- the items below i in the order of their places, without the first
  pub rest_below : (i : ℕ) → rest (joined (below ks ss i) []) ≡ from (item_at ks ss) 1 (i - 1)
  rest_below i = ap rest (joined_from i 0 ∙ (let e : i + 0 ≡ i = omega arith in ap (from (item_at ks ss) 0) e)) ∙ go i
    where
      go : (i : ℕ) → rest (from (item_at ks ss) 0 i) ≡ from (item_at ks ss) 1 (i - 1)
      go zero = refl
      go (suc i) =
          let e : i ≡ suc i - 1 = omega arith in
          ap (from (item_at ks ss) 1) e

  -- ---- after stores of v and w at k

  module _ (k : ℕ) (v : Kind) (w : ℕ) where
    pub at_other : (j : ℕ) → j ≢ k → item_at (set ks k v) (set ss k w) j ≡ item_at ks ss j
    at_other j h = ap₂ item_of (get_or-set_other ks k j v New h) (get_or-set_other ss k j w 0 h)

    pub below_set : (i : ℕ) → i ≤ k → below (set ks k v) (set ss k w) i ≡ below ks ss i
    below_set zero h = refl
    below_set (suc i) h = cons_of (at_other i (ne_of_lt (omega arith))) (below_set i (omega arith))

    from_set : (j n : ℕ) → k < j → from (item_at (set ks k v) (set ss k w)) j n ≡ from (item_at ks ss) j n
    from_set j zero h = refl
    from_set j (suc n) h = cons_of (at_other j (ne_of_gt h)) (from_set (j + 1) n (omega arith))

    pub from_place_set : (j : ℕ) → k < j → from_place (set ks k v) (set ss k w) j ≡ from_place ks ss j
    from_place_set j h = from_set j (4097 - j) h

    pub rear_set : k < 4097 → item_at (set ks k v) (set ss k w) 4097 ≡ item_at ks ss 4097
    rear_set h = at_other 4097 (ne_of_gt h)

    module _ (hk : k < length ks) (hs : k < length ss) where
      pub at_same : item_at (set ks k v) (set ss k w) k ≡ item_of v w
      at_same = ap₂ item_of (get_or-set_same ks k v New hk) (get_or-set_same ss k w 0 hs)

      -- stored at the end of what comes before
      pub below_put : below (set ks k v) (set ss k w) (k + 1) ≡ item_of v w ∷ below ks ss k
      below_put = ap (below (set ks k v) (set ss k w)) (add-one k) ∙ cons_of at_same (below_set k (omega arith))

      -- stored at the front of what follows
      pub from_place_put : k < 4097 → from_place (set ks k v) (set ss k w) k ≡ item_of v w ∷ from_place ks ss (k + 1)
      from_place_put h = from_next (item_at (set ks k v) (set ss k w)) k 4097 h ∙ cons_of at_same (from_place_set (k + 1) (omega arith))
