-- An answer area that is too short, and one that is given the answer.
-- Assumes nothing.
use Prim.Native.Nat.{ℕ, ◌≤◌, ◌<◌}
use mathlib.Core.Path.{◌≡◌, ◌∙◌, ap}
use mathlib.Core.List.{List}
use lib.ListN.{length}
use borrow.Author.Tests.{lt-ltb, le-ltb}
use Rattle.format.specs.Refusal.{Answer}
use Rattle.answer.specs.Layout.{told_of, given, Answered, lent}

pub answered_short : {a : Answer} {area : List ℕ} → length area < 32 → Answered a area 9 area
answered_short {a} {area} h = let e = lt-ltb (length area) 32 h in record { returned = rw e; area_after = rw e }

pub answered_given : {a b : Answer} {area : List ℕ} {r : ℕ} {after : List ℕ} → 32 ≤ length area → b ≡ a → (r ≡ (told_of b).number) × (after ≡ given b area) → Answered a area r after
answered_given {a} {b} {area} h e g =
    let k = le-ltb (length area) 32 h in
    record { returned = rw k (g.0 ∙ ap (λ (x : Answer). (told_of x).number) e); area_after = rw k (g.1 ∙ ap (λ (x : Answer). given x area) e) }

-- another area, which the call makes of what it was before
module _ {A : Type 0} (made before : A) where
  pub lent_short : (answer : List ℕ) → length answer < 32 → before ≡ lent answer made before
  lent_short answer h = rw (lt-ltb (length answer) 32 h)

  pub lent_given : (answer : List ℕ) {after : A} → 32 ≤ length answer → after ≡ made → after ≡ lent answer made before
  lent_given answer h e = rw (le-ltb (length answer) 32 h) e

  -- both, of a call that is not made, and of one that is made
  pub call_short : (a : Answer) (answer : List ℕ) → length answer < 32 → Answered a answer 9 answer × (before ≡ lent answer made before)
  call_short a answer h = (answered_short h, lent_short answer h)

  pub call_given : {a b : Answer} {answer : List ℕ} {r : ℕ} {answer' : List ℕ} {after : A} → 32 ≤ length answer → (b ≡ a) × (after ≡ made) → (r ≡ (told_of b).number) × (answer' ≡ given b answer)
      → Answered a answer r answer' × (after ≡ lent answer made before)
  call_given {a} {b} {answer} h e g = (answered_given h e.0 g, lent_given answer h e.1)
