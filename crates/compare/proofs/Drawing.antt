-- What a list rebuilds is told by its origins and its stored block; and the block by the origins and the version. So two lists with the same origins
-- rebuild the same version exactly when their blocks are the same.
-- Assumes nothing.
use Prim.Native.Nat.{ℕ, zero, suc, ◌+◌, ◌≤◌}
use native.Mathlib.Omega.{arith}
use mathlib.Core.Path.{◌≡◌, refl, sym, ◌∙◌, ap, ap₂}
use mathlib.Core.Bool.{Bool}
use mathlib.Core.List.{List, [], ◌∷◌, ◌++◌}
use lib.ListN.{length, take, drop, get_or, replicate, length-drop}
use lib.Seq.{take_all}
use Rattle.format.specs.declared.Record.{Record}
use Rattle.format.specs.declared.Record.TheVariants.{New, Match}
use Rattle.format.specs.Record.{from}
use Rattle.format.specs.Meaning.{stored, rebuilt}
use Rattle.format.specs.WellFormed.{Inside, Readable}
use Rattle.format.specs.Origins.{Origin, fresh, drawn, drawn_at, origins}
use Rattle.format.proofs.Encoding.{one_more}
use Rattle.format.proofs.Tracing.{freshes, freshes_stored}

-- the version by the origins of its bytes: the next stored byte, or the store's
abbrev drawn_out : List Origin → List ℕ → List ℕ → List ℕ
drawn_out [] b st = []
drawn_out (fresh ∷ os) b st = get_or b 0 0 ∷ drawn_out os (drop 1 b) st
drawn_out (drawn a ∷ os) b st = get_or st a.address 0 ∷ drawn_out os b st

drawn_new : (s : ℕ) (os : List Origin) (b st : List ℕ) → s ≤ length b → drawn_out (replicate s fresh ++ os) b st ≡ take s b ++ drawn_out os (drop s b) st
drawn_new zero os b st h = refl
drawn_new (suc s) os [] st h = absurd (omega arith)
drawn_new (suc s) os (x ∷ b) st h = ap (λ (l : List ℕ). x ∷ l) (drawn_new s os b st (omega arith))

drawn_run : (held : Bool) (s a : ℕ) (os : List Origin) (b st : List ℕ) → a + s ≤ length st → drawn_out (from (drawn_at held) a s ++ os) b st ≡ take s (drop a st) ++ drawn_out os b st
drawn_run held zero a os b st h = refl
drawn_run held (suc s) a os b st h =
    ap (λ (l : List ℕ). get_or st a 0 ∷ l) (drawn_run held s (a + 1) os b st (omega arith)) ∙ ap (λ (l : List ℕ). take (suc s) l ++ drawn_out os b st) (sym (one_more st a (omega arith)))

-- what a list rebuilds
pub rebuilt_drawn : (l : List Record) (b st : List ℕ) → Inside st l → stored l ≤ length b → rebuilt l b st ≡ drawn_out (origins l) b st
rebuilt_drawn [] b st h k = refl
rebuilt_drawn (New s ∷ l) b st h k =
    ap (λ (x : List ℕ). take s b ++ x) (rebuilt_drawn l (drop s b) st h (omega (arith, length-drop s b))) ∙ sym (drawn_new s (origins l) b st (omega arith))
rebuilt_drawn (Match s a ∷ l) b st h k =
    ap (λ (x : List ℕ). take s (drop a.address st) ++ x) (rebuilt_drawn l b st h.1 k) ∙ sym (drawn_run a.held s a.address (origins l) b st h.0)

-- the bytes of the version that are new
abbrev kept : List Origin → List ℕ → List ℕ
kept [] v = []
kept (o ∷ os) [] = []
kept (fresh ∷ os) (x ∷ v) = x ∷ kept os v
kept (drawn a ∷ os) (x ∷ v) = kept os v

kept_drawn : (os : List Origin) (b st : List ℕ) → freshes os ≤ length b → kept os (drawn_out os b st) ≡ take (freshes os) b
kept_drawn [] b st h = refl
kept_drawn (fresh ∷ os) [] st h = absurd (omega arith)
kept_drawn (fresh ∷ os) (x ∷ b) st h = ap (λ (l : List ℕ). x ∷ l) (kept_drawn os b st (omega arith))
kept_drawn (drawn a ∷ os) b st h = kept_drawn os b st h

-- the stored block of a list is told by its origins and its version
pub block_told : (l : List Record) (b st : List ℕ) → Inside st l → length b ≡ stored l → kept (origins l) (rebuilt l b st) ≡ b
block_told l b st h e =
    ap (kept (origins l)) (rebuilt_drawn l b st h (omega arith))
    ∙ kept_drawn (origins l) b st (omega (arith, freshes_stored l))
    ∙ take_all (freshes (origins l)) b (omega (arith, freshes_stored l))

-- ---- two lists

module _ (l k : List Record) (b c st : List ℕ) (h : Readable l b st) (i : Readable k c st) where
  -- with the same origins: the same version exactly when the same block
  pub version_of_block : origins l ≡ origins k → b ≡ c → rebuilt l b st ≡ rebuilt k c st
  version_of_block e f =
      rebuilt_drawn l b st h.inside (omega (arith, h.block_fits)) ∙ ap₂ (λ (os : List Origin) (x : List ℕ). drawn_out os x st) e f ∙ sym (rebuilt_drawn k c st i.inside (omega (arith, i.block_fits)))

  pub block_of_version : origins l ≡ origins k → rebuilt l b st ≡ rebuilt k c st → b ≡ c
  block_of_version e f = sym (block_told l b st h.inside h.block_fits) ∙ ap₂ kept e f ∙ block_told k c st i.inside i.block_fits
