-- Eight words written one after the other are the layout over the front of an area.
-- Assumes nothing.
use Prim.Native.Nat.{ℕ, ◌+◌, ◌/◌, ◌%◌, ◌≤◌}
use native.Mathlib.Omega.{arith}
use mathlib.Core.Path.{◌≡◌, ◌∙◌, ap}
use mathlib.Core.List.{List, ◌++◌}
use lib.ListN.{length}
use Rattle.format.specs.Refusal.{Answer}
use Rattle.format.specs.Record.{word}
use Rattle.area.specs.Area.{pasted}
use Rattle.area.proofs.Pasting.{pasted_append}
use Rattle.answer.specs.declared.Told.{Told}
use Rattle.answer.specs.Layout.{layout, told_of, given}

-- s stands over the front of d, and t is written behind it
next : (s t d : List ℕ) {e f : List ℕ} → e ≡ pasted 0 s d → f ≡ pasted (0 + length s) t e → f ≡ pasted 0 (s ++ t) d
next s t d h k = k ∙ ap (pasted (0 + length s) t) h ∙ pasted_append 0 s t d (omega arith)

-- the first four words stand over the front of an area, which is long enough and as long as it was
pub record Half (t : Told) (d₀ d : List ℕ) : Type 0 where
  pub front : d ≡ pasted 0 (word t.number ++ word t.place ++ word (t.cost % 4294967296) ++ word (t.cost / 4294967296)) d₀
  pub long : length d ≡ length d₀
  pub room : 32 ≤ length d₀

pub half_of_words : {t : Told} (d₀ : List ℕ) {d₁ d₂ d₃ d₄ : List ℕ}
    → d₁ ≡ pasted 0 (word t.number) d₀ → d₂ ≡ pasted 4 (word t.place) d₁
    → d₃ ≡ pasted 8 (word (t.cost % 4294967296)) d₂ → d₄ ≡ pasted 12 (word (t.cost / 4294967296)) d₃ → length d₄ ≡ length d₀ → 32 ≤ length d₀ → Half t d₀ d₄
half_of_words {t} d₀ h₁ h₂ h₃ h₄ long room =
    let s₂ = word t.number ++ word t.place in
    let s₃ = s₂ ++ word (t.cost % 4294967296) in
    let e₃ = next s₂ (word (t.cost % 4294967296)) d₀ (next (word t.number) (word t.place) d₀ h₁ h₂) h₃ in
    record { front = next s₃ (word (t.cost / 4294967296)) d₀ e₃ h₄; long = long; room = room }

pub given_of_half : (a : Answer) {t : Told} {d₀ d₄ d₅ d₆ d₇ d₈ : List ℕ} → t ≡ told_of a → Half t d₀ d₄
    → d₅ ≡ pasted 16 (word t.entries) d₄ → d₆ ≡ pasted 20 (word t.stored) d₅
    → d₇ ≡ pasted 24 (word t.looks) d₆ → d₈ ≡ pasted 28 (word t.whole) d₇ → d₈ ≡ given a d₀
given_of_half a {t} {d₀} told h h₅ h₆ h₇ h₈ =
    let s₄ = word t.number ++ word t.place ++ word (t.cost % 4294967296) ++ word (t.cost / 4294967296) in
    let s₅ = s₄ ++ word t.entries in
    let s₆ = s₅ ++ word t.stored in
    let e₆ = next s₅ (word t.stored) d₀ (next s₄ (word t.entries) d₀ h.front h₅) h₆ in
    next (s₆ ++ word t.looks) (word t.whole) d₀ (next s₆ (word t.looks) d₀ e₆ h₇) h₈ ∙ ap (λ (x : Told). pasted 0 (layout x) d₀) told
