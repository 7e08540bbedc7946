-- The walk over a list without its marks stops where the walk over the list does.
-- Assumes nothing.
use Prim.Native.Nat.{ℕ}
use mathlib.Core.Path.{◌≡◌, refl, ◌∙◌, ap, ap₂}
use mathlib.Core.Bool.{Bool}
use mathlib.Core.List.{List, [], ◌∷◌, ◌++◌}
use Rattle.format.specs.declared.Fault.TheVariants.{Malformed}
use Rattle.format.specs.declared.Row.{Row}
use Rattle.format.specs.Refusal.{Ruling, need, ◌then◌}
use Rattle.format.specs.Marks.{unmarked}
use Rattle.format.specs.Record.{rows_of}
use Rattle.format.proofs.Unmarking.{bare_row, bare_rows, rows_unmarked, formed_bare}
use Rattle.walk.specs.declared.Seen.{Seen}
use Rattle.walk.specs.declared.Scope.{Scope}
use Rattle.walk.specs.declared.Scope.TheVariants as scope
use Rattle.walk.specs.Checks.{Check, limit_of, neighbours, six, beyond, checks, judged, next, walk_on, front, walk_ruling}

module _ (x : Scope) (v st : List ℕ) where
  -- the checks after check 4 do not read byte 1
  abbrev others : Scope → List Check
  others y = neighbours y ++ six (limit_of y v) ∷ beyond y v st

  others_bare : (s : Seen) (r : Row) → judged (others x) s (bare_row r) ≡ judged (others x) s r
  others_bare s r = go x
    where
      go : (y : Scope) → judged (others y) s (bare_row r) ≡ judged (others y) s r
      go scope.Sizes = refl
      go scope.Store = refl
      go scope.Loose = refl
      go scope.Version = refl
      go scope.LooseVersion = refl
      go (scope.Chunk n) = refl

  judged_bare : (s : Seen) (r : Row) → judged (checks x v st) s (bare_row r) ≡ judged (checks x v st) s r
  judged_bare s r = ap₂ (λ (t : Bool) (q : Ruling). need t Malformed s.place then q) (formed_bare r) (others_bare s r)

  walk_on_bare : (s : Seen) (rs : List Row) → walk_on (checks x v st) s (bare_rows rs) ≡ walk_on (checks x v st) s rs
  walk_on_bare s [] = refl
  walk_on_bare s (r ∷ rs) = ap₂ (λ (p q : Ruling). p then q) (judged_bare s r) (walk_on_bare (next s r) rs)

  pub walk_unmarked : (list : List ℕ) → walk_ruling (checks x v st) (unmarked list) ≡ walk_ruling (checks x v st) list
  walk_unmarked list = ap (walk_on (checks x v st) front) (rows_unmarked list) ∙ walk_on_bare front (rows_of list)
