-- The least choices of a list at two factors are nested: what the lesser's stores, the greater's stores too. For costs are submodular: the lists of what
-- both of two choices store, and of what either stores, together cost no more than the lists of the two, at any rates.
-- Assumes nothing.
use Rattle.std.specs.Prelude.{None}
use Prim.Native.Nat.{ℕ, zero, suc, ◌+◌, ◌-◌, ◌*◌, ◌≤◌, ◌<◌}
use native.Mathlib.Omega.{arith}
use native.Mathlib.Nat.{mul-le-mul_left}
use mathlib.Core.Path.{◌≡◌, refl}
use mathlib.Core.Bool.{Bool, true, false, cond}
use mathlib.Core.List.{List, [], ◌∷◌}
use lib.Dec.{leb}
use lib.ListN.{get_or}
use borrow.Author.Tests.{leb-true, leb-false}
use Rattle.format.specs.declared.Record.{Record}
use Rattle.format.specs.declared.Record.TheVariants.{New, Match}
use Rattle.format.specs.Meaning.{stored}
use Rattle.price.specs.declared.Price.{Price}
use Rattle.price.specs.declared.Rates.{Rates}
use Rattle.price.specs.Price.{price_at, rates_of, index_bytes}
use Rattle.price.proofs.Bounds.{cost_at}
use Rattle.join.specs.Join.{goes_on}
use Rattle.join.proofs.Joining.{stored_tidy}
use Rattle.choice.specs.Choice.{Bit, keep, store, bit_bytes, Free, only, either, freedom, May, IsChoice, Early, chosen, list_of, cost_of, least}
use Rattle.choice.specs.Path.{walk, after, step}
use Rattle.choice.proofs.Path.{early_antisym}
use Rattle.choice.proofs.Least.{cost_walk, least_fits, least_is_least}

-- ---- what both of two choices store, their meet, and what either stores, their union

abbrev meet : Bit → Bit → Bit
meet keep d = keep
meet store d = d

abbrev union : Bit → Bit → Bit
union keep d = d
union store d = store

abbrev meets : List Bit → List Bit → List Bit
meets [] d = []
meets (b ∷ c) [] = []
meets (b ∷ c) (d ∷ e) = meet b d ∷ meets c e

abbrev unions : List Bit → List Bit → List Bit
unions [] d = []
unions (b ∷ c) [] = []
unions (b ∷ c) (d ∷ e) = union b d ∷ unions c e

meet_same : (b : Bit) → meet b b ≡ b
meet_same keep = refl
meet_same store = refl

union_same : (b : Bit) → union b b ≡ b
union_same keep = refl
union_same store = refl

may_meet : (x : Free) (b d : Bit) → May x b → May x d → May x (meet b d)
may_meet (only o) b d h k = rw (h, k) (meet_same o)
may_meet either b d h k = tt

may_union : (x : Free) (b d : Bit) → May x b → May x d → May x (union b d)
may_union (only o) b d h k = rw (h, k) (union_same o)
may_union either b d h k = tt

-- both combinations are choices
record Combined (rs : List Record) (c d : List Bit) : Type 0 where
  meet_is : IsChoice rs (meets c d)
  union_is : IsChoice rs (unions c d)

combined : (rs : List Record) (c d : List Bit) → IsChoice rs c → IsChoice rs d → Combined rs c d
combined [] [] d h k = record { meet_is = tt; union_is = tt }
combined [] (b ∷ c) d h k = absurd h
combined (r ∷ rs) [] d h k = absurd h
combined (r ∷ rs) (b ∷ c) [] h k = absurd k
combined (r ∷ rs) (b ∷ c) (d ∷ e) h k =
    let rest = combined rs c e h.1 k.1 in
    record { meet_is = (may_meet (freedom r) b d h.0 k.0, rest.meet_is); union_is = (may_union (freedom r) b d h.0 k.0, rest.union_is) }

early_meets : (rs : List Record) (c d : List Bit) → IsChoice rs c → IsChoice rs d → Early (meets c d) c
early_meets [] [] d h k = tt
early_meets [] (b ∷ c) d h k = absurd h
early_meets (r ∷ rs) [] d h k = absurd h
early_meets (r ∷ rs) (b ∷ c) [] h k = absurd k
early_meets (r ∷ rs) (keep ∷ c) (d ∷ e) h k = early_meets rs c e h.1 k.1
early_meets (r ∷ rs) (store ∷ c) (keep ∷ e) h k = tt
early_meets (r ∷ rs) (store ∷ c) (store ∷ e) h k = early_meets rs c e h.1 k.1

-- ---- what they cost together

module _ (rates : Rates) where
  -- the one case that counts: beside a record kept in one and stored in the other, a record the other way round; to keep with kept and store with stored
  -- costs no more
  crossed : (q r : Record) → step rates (after q keep) r keep + step rates (after q store) r store ≤ step rates (after q keep) r store + step rates (after q store) r keep
  crossed (New s) r = omega arith
  crossed (Match s a) (New t) = omega arith
  crossed (Match s a) (Match t b) = go (goes_on s a b)
    where
      go : (x : Bool) → cond x 0 rates.kept.0 + 0 + (0 + rates.byte.0 * t) ≤ rates.fresh.0 + rates.byte.0 * t + (rates.kept.0 + 0)
      go true = omega arith
      go false = omega arith

  step_submodular : (q r : Record) (a b c d : Bit) → step rates (after q (meet a b)) r (meet c d) + step rates (after q (union a b)) r (union c d) ≤ step rates (after q a) r c + step rates (after q b) r d
  step_submodular q r keep keep keep d = omega arith
  step_submodular q r keep keep store d = omega arith
  step_submodular q r keep store keep d = omega arith
  step_submodular q r keep store store keep = omega (arith, crossed q r)
  step_submodular q r keep store store store = omega arith
  step_submodular q r store keep keep keep = omega arith
  step_submodular q r store keep keep store = omega (arith, crossed q r)
  step_submodular q r store keep store d = omega arith
  step_submodular q r store store keep d = omega arith
  step_submodular q r store store store d = omega arith

  walk_submodular : (rs : List Record) (q : Record) (a b : Bit) (c d : List Bit)
      → walk after (step rates) rs (after q (meet a b)) (meets c d) + walk after (step rates) rs (after q (union a b)) (unions c d) ≤ walk after (step rates) rs (after q a) c + walk after (step rates) rs (after q b) d
  walk_submodular [] q a b c d = omega arith
  walk_submodular (r ∷ rs) q a b [] d = omega arith
  walk_submodular (r ∷ rs) q a b (c ∷ cs) [] = omega arith
  walk_submodular (r ∷ rs) q a b (c ∷ cs) (d ∷ ds) = omega (arith, step_submodular q r a b c d, walk_submodular rs r c d cs ds)

  first_modular : (r : Record) (c d : Bit) → step rates None r (meet c d) + step rates None r (union c d) ≡ step rates None r c + step rates None r d
  first_modular r keep d = refl
  first_modular r store d = omega arith

  start_submodular : (rs : List Record) (c d : List Bit) → walk after (step rates) rs None (meets c d) + walk after (step rates) rs None (unions c d) ≤ walk after (step rates) rs None c + walk after (step rates) rs None d
  start_submodular [] c d = omega arith
  start_submodular (r ∷ rs) [] d = omega arith
  start_submodular (r ∷ rs) (c ∷ cs) [] = omega arith
  start_submodular (r ∷ rs) (c ∷ cs) (d ∷ ds) = omega (arith, first_modular r c d, walk_submodular rs r c d cs ds)

  cost_submodular : (rs : List Record) (c d : List Bit) → cost_of rates rs (meets c d) + cost_of rates rs (unions c d) ≤ cost_of rates rs c + cost_of rates rs d
  cost_submodular rs c d = rw (cost_walk rates rs (meets c d), cost_walk rates rs (unions c d), cost_walk rates rs c, cost_walk rates rs d) (start_submodular rs c d)

-- index bytes and stored bytes are costs, at rates of their own
abbrev index_rates : Price → Rates
index_rates p = record { fresh = record { 0 = p.en }; kept = record { 0 = p.em }; byte = record { 0 = 0 } }

abbrev stored_rates : Rates
stored_rates = record { fresh = record { 0 = 0 }; kept = record { 0 = 0 }; byte = record { 0 = 1 } }

index_submodular : (p : Price) (rs : List Record) (c d : List Bit) → index_bytes p (list_of rs (meets c d)) + index_bytes p (list_of rs (unions c d)) ≤ index_bytes p (list_of rs c) + index_bytes p (list_of rs d)
index_submodular p rs c d = omega (arith, cost_submodular (index_rates p) rs c d)

stored_submodular : (rs : List Record) (c d : List Bit) → stored (list_of rs (meets c d)) + stored (list_of rs (unions c d)) ≤ stored (list_of rs c) + stored (list_of rs d)
stored_submodular rs c d = omega (arith, cost_submodular stored_rates rs c d)

-- what both store is no more than what one stores
stored_fewer : (rs : List Record) (c d : List Bit) → stored (chosen rs (meets c d)) ≤ stored (chosen rs c)
stored_fewer [] c d = omega arith
stored_fewer (r ∷ rs) [] d = omega arith
stored_fewer (r ∷ rs) (b ∷ c) [] = omega arith
stored_fewer (New s ∷ rs) (keep ∷ c) (d ∷ e) = omega (arith, stored_fewer rs c e)
stored_fewer (New s ∷ rs) (store ∷ c) (keep ∷ e) = omega (arith, stored_fewer rs c e)
stored_fewer (New s ∷ rs) (store ∷ c) (store ∷ e) = omega (arith, stored_fewer rs c e)
stored_fewer (Match s a ∷ rs) (keep ∷ c) (d ∷ e) = omega (arith, stored_fewer rs c e)
stored_fewer (Match s a ∷ rs) (store ∷ c) (keep ∷ e) = omega (arith, stored_fewer rs c e)
stored_fewer (Match s a ∷ rs) (store ∷ c) (store ∷ e) = omega (arith, stored_fewer rs c e)

-- ---- at two factors

-- the index bytes i and the stored bytes b of four lists: c costs no more than m at f, d no more than j at g; m and j together take no more than c and d
pub index_fewer : (f g ic id im ij bc bd bm bj : ℕ) → f < g → f * ic + 256 * bc ≤ f * im + 256 * bm → g * id + 256 * bd ≤ g * ij + 256 * bj
    → im + ij ≤ ic + id → bm + bj ≤ bc + bd → im ≤ ic
index_fewer f g ic id im ij bc bd bm bj more at_f at_g index stored = go (leb im ic) refl
  where
    apart : (k u w : ℕ) → g ≡ f + suc k → im ≡ ic + suc u → id ≡ ij + (suc u + w) → ⊥
    apart k u w e h l = go' (rw (e, l) at at_g) (rw h at at_f)
      where
        go' : (f + suc k) * (ij + (suc u + w)) + 256 * bd ≤ (f + suc k) * ij + 256 * bj → f * ic + 256 * bc ≤ f * (ic + suc u) + 256 * bm → ⊥
        go' p q = omega arith

    go : (t : Bool) → leb im ic ≡ t → im ≤ ic
    go true e = leb-true im ic e
    go false e =
        let less = leb-false im ic e in
        absurd (apart (g - suc f) (im - suc ic) (id - (ij + suc (im - suc ic))) (omega arith) (omega arith) (omega arith))

module _ (en em f g : ℕ) (rs : List Record) (more : f < g) where
  abbrev c : List Bit
  c = least (rates_of (price_at en em f)) rs

  abbrev d : List Bit
  d = least (rates_of (price_at en em g)) rs

  are_choices : Combined rs c d
  are_choices = combined rs c d (least_fits (rates_of (price_at en em f)) rs) (least_fits (rates_of (price_at en em g)) rs)

  -- at the lesser factor, what both store costs no more than what is least there
  as_cheap : cost_of (rates_of (price_at en em f)) rs (meets c d) ≤ cost_of (rates_of (price_at en em f)) rs c
  as_cheap =
      let fewer = index_fewer f g _ _ _ _ _ _ _ _ more
      (omega (arith, cost_at (price_at en em f) (list_of rs c), cost_at (price_at en em f) (list_of rs (meets c d)), (least_is_least (rates_of (price_at en em f)) rs).cheapest (meets c d) are_choices.meet_is))
      (omega (arith, cost_at (price_at en em g) (list_of rs d), cost_at (price_at en em g) (list_of rs (unions c d)), (least_is_least (rates_of (price_at en em g)) rs).cheapest (unions c d) are_choices.union_is))
      (index_submodular (price_at en em f) rs c d)
      (stored_submodular rs c d) in
      omega (
        arith,
        cost_at (price_at en em f) (list_of rs c),
        cost_at (price_at en em f) (list_of rs (meets c d)),
        mul-le-mul_left f fewer,
        stored_tidy (chosen rs c),
        stored_tidy (chosen rs (meets c d)),
        stored_fewer rs c d,
      )

  least_nested : c ≡ meets c d
  least_nested =
      let l = least_is_least (rates_of (price_at en em f)) rs in
      let e : cost_of (rates_of (price_at en em f)) rs (meets c d) ≡ cost_of (rates_of (price_at en em f)) rs c = omega (arith, as_cheap, l.cheapest (meets c d) are_choices.meet_is) in
      early_antisym c (meets c d) (l.foremost (meets c d) are_choices.meet_is e) (early_meets rs c d (least_fits (rates_of (price_at en em f)) rs) (least_fits (rates_of (price_at en em g)) rs))

-- ---- bytes of the choices

byte_nested : (c d : List Bit) → c ≡ meets c d → (i : ℕ) → get_or (bit_bytes c) i 0 ≡ 1 → get_or (bit_bytes d) i 0 ≡ 1
byte_nested [] d e i h = absurd (omega (arith, h))
byte_nested (b ∷ c) [] e i h = absurd (let z : ◌≡◌ {A = ℕ} 0 1 = cc in omega arith)
byte_nested (keep ∷ c) (d ∷ ds) e zero h = absurd (omega (arith, h))
byte_nested (store ∷ c) (keep ∷ ds) e zero h = absurd (let z : ◌≡◌ {A = ℕ} 0 1 = cc in omega arith)
byte_nested (store ∷ c) (store ∷ ds) e zero h = refl
byte_nested (b ∷ c) (d ∷ ds) e (suc i) h = byte_nested c ds (cc) i h

-- a record that is stored at a factor is stored at every factor that is no less
pub stored_stays : (en em f g : ℕ) (rs : List Record) → f ≤ g → (i : ℕ) → get_or (bit_bytes (least (rates_of (price_at en em f)) rs)) i 0 ≡ 1
    → get_or (bit_bytes (least (rates_of (price_at en em g)) rs)) i 0 ≡ 1
stored_stays en em f g rs no_less i h = go (leb g f) refl
  where
    go : (t : Bool) → leb g f ≡ t → get_or (bit_bytes (least (rates_of (price_at en em g)) rs)) i 0 ≡ 1
    go true e = let same : g ≡ f = omega (arith, leb-true g f e) in rw same h
    go false e = byte_nested _ _ (least_nested en em f g rs (leb-false g f e)) i h
