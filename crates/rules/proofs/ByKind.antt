-- The size of an item of a kind, what is no match is passed by, and what is of neither kind is fused by no look.
-- Assumes nothing.
use Prim.Native.Nat.{ℕ, ◌+◌}
use mathlib.Core.Path.{◌≡◌, refl}
use mathlib.Core.Bool.{Bool, true, false, cond}
use Rattle.rules.specs.declared.Kind.{Kind}
use Rattle.rules.specs.declared.Kind.TheVariants.{New, Match, Neither}
use Rattle.rules.specs.declared.Merge.TheVariants.{Before, After, Pair}
use Rattle.rules.specs.declared.Outcome.TheVariants.{Advance, Merged}
use Rattle.rules.specs.Rules.{Item, new, match, neither, size, is_match, Tests, outcome_at, fuses_before, fuses_after, Untouched, item_of}

pub size_item : (k : Kind) (s : ℕ) → size (item_of k s) ≡ s
size_item New s = refl
size_item Match s = refl
size_item Neither s = refl

-- what is no match is passed by
pub outcome_no_match : (t : Tests) (b p a c : Item) → is_match p ≡ false → outcome_at t b p a c ≡ Advance
outcome_no_match t b p a c h = simp h

-- one of neither kind is fused by no look
pub untouched : (t : Tests) (s : ℕ) → Untouched t s
untouched t s = record { as_p = λ b a c. refl; as_before = before; as_after = after }
  where
    after_only : (v : Bool) (n : ℕ) → fuses_before (cond v (Merged (After n)) Advance) ≡ false
    after_only true n = refl
    after_only false n = refl

    pair_only : (v : Bool) (n : ℕ) → fuses_before (cond v (Merged (Pair n)) Advance) ≡ false
    pair_only true n = refl
    pair_only false n = refl

    before_only : (v : Bool) (n : ℕ) → fuses_after (cond v (Merged (Before n)) Advance) ≡ false
    before_only true n = refl
    before_only false n = refl

    before : (p a c : Item) → fuses_before (outcome_at t (neither s) p a c) ≡ false
    before (new u) a c = refl
    before (neither u) a c = refl
    before (match u) (new v) c = after_only (t.side u) (u + v)
    before (match u) (match v) (new w) = refl
    before (match u) (match v) (match w) = pair_only (t.pair (u + v)) (u + v)
    before (match u) (match v) (neither w) = pair_only (t.pair (u + v)) (u + v)
    before (match u) (neither v) c = refl

    after : (b p c : Item) → fuses_after (outcome_at t b p (neither s) c) ≡ false
    after b (new u) c = refl
    after b (neither u) c = refl
    after (new v) (match u) c = before_only (t.side u) (v + u)
    after (match v) (match u) c = refl
    after (neither v) (match u) c = refl
