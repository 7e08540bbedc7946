-- Laws of a record as an item: its size, that a match is not new, held or not, and what is left of one that another joined.
-- Assumes nothing.
use Prim.Native.Nat.{ℕ, ◌+◌, ◌-◌}
use native.Mathlib.Omega.{arith}
use mathlib.Core.Path.{◌≡◌, refl, ap, ◌∙◌}
use mathlib.Core.Bool.{Bool, true, false}
use Rattle.format.specs.declared.Record.{Record}
use Rattle.format.specs.declared.Record.TheVariants.{New, Match}
use Rattle.format.specs.Meaning.{size_of}
use Rattle.join.specs.Join.{joins, grown}
use Rattle.join.proofs.Joining.{goes_on_so}
use Rattle.rules.specs.Rules.{new, size, is_new}
use Rattle.linear.specs.Pass.{drawn, item_for, shrunk}

size_drawn : (h : Bool) (s : ℕ) → size (drawn h s) ≡ s
size_drawn true s = refl
size_drawn false s = refl

pub new_drawn : (h : Bool) (s : ℕ) → is_new (drawn h s) ≡ false
new_drawn true s = refl
new_drawn false s = refl

pub size_for : (r : Record) → size (item_for r) ≡ size_of r
size_for (New s) = refl
size_for (Match s a) = size_drawn a.held s

shrunk_drawn : (h : Bool) (u s : ℕ) → shrunk (drawn h u) s ≡ drawn h (u - s)
shrunk_drawn true u s = refl
shrunk_drawn false u s = refl

-- of two that joined, the second is left
pub shrunk_grown : (r q : Record) → joins r q ≡ true → shrunk (item_for (grown r (size_of q))) (size_of r) ≡ item_for q
shrunk_grown (New s) (New t) e = let d : s + t - s ≡ t = omega arith in ap new d
shrunk_grown (New s) (Match t b) e = cc
shrunk_grown (Match s a) (New t) e = cc
shrunk_grown (Match s a) (Match t b) e =
    let d : s + t - s ≡ t = omega arith in
    shrunk_drawn a.held (s + t) s ∙ ap (drawn a.held) d ∙ ap (λ (h : Bool). drawn h t) (goes_on_so s a b e).marks
