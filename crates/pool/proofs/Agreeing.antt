-- Two lists of one version pooled are a list of that version, well formed; it stores no more than either, and has no more records than both.
-- Assumes nothing.
use Prim.Native.Nat.{ℕ, zero, suc, ◌+◌, ◌≤◌, ◌<◌}
use native.Mathlib.Omega.{arith}
use mathlib.Core.Path.{◌≡◌, refl, sym, ◌∙◌, ap}
use mathlib.Core.Bool.{Bool}
use mathlib.Core.List.{List, [], ◌∷◌, ◌++◌}
use lib.ListN.{length, take, drop, get_or, replicate}
use Rattle.format.specs.declared.Record.{Record}
use Rattle.format.specs.declared.Record.TheVariants.{New, Match}
use Rattle.format.specs.Record.{from}
use Rattle.format.specs.WellFormed.{Sized, Agrees, WellFormed}
use Rattle.format.specs.Origins.{Origin, fresh, drawn, drawn_at, origins, singles}
use Rattle.format.proofs.Encoding.{one_more}
use Rattle.format.proofs.Tracing.{freshes}
use Rattle.join.specs.Join.{gather}
use Rattle.join.proofs.Joining.{sized_join, apart_tidy, agrees_join}
use Rattle.pool.specs.Pool.{pooled}

-- ---- a list of the version

-- there is an origin for each byte of the version v, and a byte that is drawn stands in the store st
abbrev TrueOf : List ℕ → List Origin → List ℕ → Type 0
TrueOf st [] [] = Unit {0}
TrueOf st [] (x ∷ v) = ⊥
TrueOf st (o ∷ os) [] = ⊥
TrueOf st (fresh ∷ os) (x ∷ v) = TrueOf st os v
TrueOf st (drawn a ∷ os) (x ∷ v) = (a.address < length st) × (get_or st a.address 0 ≡ x) × TrueOf st os v

true_new : (st : List ℕ) (s : ℕ) (os : List Origin) (v : List ℕ) → s ≤ length v → TrueOf st os (drop s v) → TrueOf st (replicate s fresh ++ os) v
true_new st zero os v h t = t
true_new st (suc s) os [] h t = absurd (omega arith)
true_new st (suc s) os (x ∷ v) h t = true_new st s os v (omega arith) t

true_run : (st : List ℕ) (held : Bool) (s a : ℕ) (os : List Origin) (v : List ℕ) → s ≤ length v → a + s ≤ length st → take s v ≡ take s (drop a st) → TrueOf st os (drop s v)
    → TrueOf st (from (drawn_at held) a s ++ os) v
true_run st held zero a os v h k e t = t
true_run st held (suc s) a os [] h k e t = absurd (omega arith)
true_run st held (suc s) a os (x ∷ v) h k e t =
    let both : x ∷ take s v ≡ get_or st a 0 ∷ take s (drop (a + 1) st) = e ∙ ap (take (suc s)) (one_more st a (omega arith)) in
    let one : get_or st a 0 ≡ x = cc in
    let others : take s v ≡ take s (drop (a + 1) st) = cc in
    (omega arith, one, true_run st held s (a + 1) os v (omega arith) (omega arith) others t)

true_of_agrees : (st : List ℕ) (l : List Record) (v : List ℕ) → Agrees st l v → TrueOf st (origins l) v
true_of_agrees st [] [] h = tt
true_of_agrees st [] (x ∷ v) h = absurd (omega (arith, ap length h))
true_of_agrees st (New s ∷ l) v h = true_new st s (origins l) v h.0 (true_of_agrees st l (drop s v) h.1)
true_of_agrees st (Match s a ∷ l) v h = true_run st a.held s a.address (origins l) v h.0 h.1 h.2 (true_of_agrees st l (drop s v) h.3)

true_pooled : (st : List ℕ) (os us : List Origin) (v : List ℕ) → TrueOf st os v → TrueOf st us v → TrueOf st (pooled os us) v
true_pooled st [] us [] t r = tt
true_pooled st [] us (x ∷ v) t r = absurd t
true_pooled st (o ∷ os) us [] t r = absurd t
true_pooled st (o ∷ os) [] (x ∷ v) t r = absurd r
true_pooled st (drawn a ∷ os) (drawn b ∷ us) (x ∷ v) t r = (t.0, t.1, true_pooled st os us v t.2 r.2)
true_pooled st (drawn a ∷ os) (fresh ∷ us) (x ∷ v) t r = (t.0, t.1, true_pooled st os us v t.2 r)
true_pooled st (fresh ∷ os) (drawn b ∷ us) (x ∷ v) t r = (r.0, r.1, true_pooled st os us v t r.2)
true_pooled st (fresh ∷ os) (fresh ∷ us) (x ∷ v) t r = true_pooled st os us v t r

-- the tidy list with these origins
agrees_gather : (st : List ℕ) (os : List Origin) (v : List ℕ) → TrueOf st os v → Agrees st (gather os) v
agrees_gather st [] [] t = refl
agrees_gather st [] (x ∷ v) t = absurd t
agrees_gather st (o ∷ os) [] t = absurd t
agrees_gather st (fresh ∷ os) (x ∷ v) t = agrees_join st (New 1) (gather os) (x ∷ v) (omega arith, agrees_gather st os v t)
agrees_gather st (drawn a ∷ os) (x ∷ v) t =
    let stands : x ∷ [] ≡ take 1 (drop a.address st) = ap (λ (n : ℕ). n ∷ []) (sym t.1) ∙ ap (take 1) (sym (one_more st a.address t.0)) in
    agrees_join st (Match 1 a) (gather os) (x ∷ v) (omega arith, omega (arith, t.0), stands, agrees_gather st os v t.2)

sized_gather : (os : List Origin) → Sized (gather os)
sized_gather [] = tt
sized_gather (fresh ∷ os) = sized_join (New 1) (gather os) (omega arith) (sized_gather os)
sized_gather (drawn a ∷ os) = sized_join (Match 1 a) (gather os) (omega arith) (sized_gather os)

pub pooled_well_formed : (st : List ℕ) (l k : List Record) (v : List ℕ) → Agrees st l v → Agrees st k v → WellFormed st (gather (pooled (origins l) (origins k))) v
pooled_well_formed st l k v h i =
    let os = pooled (origins l) (origins k) in
    record {
      sized = sized_gather os;
      apart = apart_tidy (singles os);
      agrees = agrees_gather st os v (true_pooled st (origins l) (origins k) v (true_of_agrees st l v h) (true_of_agrees st k v i));
    }

-- ---- what it stores

pub freshes_pooled : (os us : List Origin) → length os ≡ length us → (freshes (pooled os us) ≤ freshes os) × (freshes (pooled os us) ≤ freshes us)
freshes_pooled [] us h = (omega arith, omega arith)
freshes_pooled (o ∷ os) [] h = absurd (omega arith)
freshes_pooled (drawn a ∷ os) (drawn b ∷ us) h = freshes_pooled os us (omega arith)
freshes_pooled (drawn a ∷ os) (fresh ∷ us) h = let k = freshes_pooled os us (omega arith) in (k.0, omega (arith, k.1))
freshes_pooled (fresh ∷ os) (drawn b ∷ us) h = let k = freshes_pooled os us (omega arith) in (omega (arith, k.0), k.1)
freshes_pooled (fresh ∷ os) (fresh ∷ us) h = let k = freshes_pooled os us (omega arith) in (omega (arith, k.0), omega (arith, k.1))
