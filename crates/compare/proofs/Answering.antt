-- What the call answers, by what the walks over the two lists told: the refusal of the first, of the second; or yes or no, by origins and stored blocks.
-- Assumes nothing.
use Rattle.std.specs.Prelude.{Ok}
use Prim.Native.Nat.{ℕ}
use mathlib.Core.Path.{◌≡◌, refl, sym, ◌∙◌, ap, ap₂}
use mathlib.Core.Bool.{Bool, true, false, ◌&&◌, and_comm}
use mathlib.Core.List.{List}
use Rattle.format.specs.Record.{records_of}
use Rattle.format.specs.WellFormed.{Readable}
use Rattle.format.specs.Origins.{origins}
use Rattle.format.proofs.Tracing.{origins_true}
use Rattle.words.specs.Same.{same_bytes}
use Rattle.words.proofs.Equality.{eq_of_same, same_of_eq, same_is}
use Rattle.show.specs.Check.{inputs_ruling}
use Rattle.show.proofs.Accepting.{store_of_inputs, readable_of_inputs}
use Rattle.cursors.specs.Cursor.{Checked}
use Rattle.cursors.proofs.Cursors.{checked_of_readable}
use Rattle.compare.specs.Compare.{version_of, same_version, same_origins_in, same_throughout, yes_or_no, says_no, compared}
use Rattle.compare.proofs.Drawing.{version_of_block, block_of_version}

checked_of_inputs : (list block st : List ℕ) → inputs_ruling list block st ≡ Ok tt → Checked list
checked_of_inputs list block st e = checked_of_readable block st (store_of_inputs list block st e) (readable_of_inputs list block st e).1

-- neither list is refused
pub record BothFine (first second block₁ block₂ st : List ℕ) : Type 0 where
  pub first_fine : inputs_ruling first block₁ st ≡ Ok tt
  pub second_fine : inputs_ruling second block₂ st ≡ Ok tt

module _ {first second block₁ block₂ st : List ℕ} (h : BothFine first second block₁ block₂ st) where
  pub checked_both : Checked first × Checked second
  checked_both = (checked_of_inputs first block₁ st h.first_fine, checked_of_inputs second block₂ st h.second_fine)

  pub compared_fine : compared first second block₁ block₂ st ≡ Ok (yes_or_no (same_throughout first second block₁ block₂ st))
  compared_fine = rw (h.first_fine, h.second_fine)

  -- where the origins are the same, the versions are exactly when the stored blocks are
  same_as_blocks : same_origins_in first second ≡ true → same_version first second block₁ block₂ st ≡ same_bytes block₁ block₂
  same_as_blocks e =
      let l = records_of first in
      let k = records_of second in
      let i : Readable l block₁ st = (readable_of_inputs first block₁ st h.first_fine).1 in
      let j : Readable k block₂ st = (readable_of_inputs second block₂ st h.second_fine).1 in
      let alike : origins l ≡ origins k = origins_true (origins l) (origins k) e in
      sym (same_is (version_of first block₁ st) (version_of second block₂ st) (same_bytes block₁ block₂) (
        λ b. version_of_block l k block₁ block₂ st i j alike (eq_of_same block₁ block₂ b),
        λ v. same_of_eq block₁ block₂ (block_of_version l k block₁ block₂ st i j alike v),
      ))

  -- so yes is the same origins and the same blocks: no byte of the store counts
  pub by_blocks : compared first second block₁ block₂ st ≡ Ok (yes_or_no (same_origins_in first second && same_bytes block₁ block₂))
  by_blocks =
      compared_fine
      ∙ ap (λ (s : Bool). Ok (yes_or_no s)) (and_comm (same_version first second block₁ block₂ st) (same_origins_in first second) ∙ go (same_origins_in first second) same_as_blocks)
    where
      go : (x : Bool) → (x ≡ true → same_version first second block₁ block₂ st ≡ same_bytes block₁ block₂) → x && same_version first second block₁ block₂ st ≡ x && same_bytes block₁ block₂
      go true e = e refl
      go false e = refl

  pub no_of_origins : same_origins_in first second ≡ false → compared first second block₁ block₂ st ≡ says_no
  no_of_origins e = by_blocks ∙ ap (λ (s : Bool). Ok (yes_or_no (s && same_bytes block₁ block₂))) e

  pub as_blocks : {s : Bool} → same_origins_in first second ≡ true → s ≡ same_bytes block₁ block₂ → compared first second block₁ block₂ st ≡ Ok (yes_or_no s)
  as_blocks e f = by_blocks ∙ ap₂ (λ (s t : Bool). Ok (yes_or_no (s && t))) e (sym f)
