-- One record's checks, as the code makes them: by its kind, and by what the call has; and what a record that passes them keeps to.
-- Assumes nothing.
use Rattle.std.specs.Prelude.{Ok, Err}
use Prim.Native.Nat.{ℕ, ◌+◌, ◌≤◌, ◌<◌}
use native.Mathlib.Omega.{arith}
use mathlib.Core.Path.{◌≡◌, refl, sym, ◌∙◌, ap}
use mathlib.Core.Bool.{Bool, true, false, not, ◌&&◌, cond}
use mathlib.Core.List.{List, [], ◌∷◌, ◌++◌}
use lib.ListN.{length, take, drop}
use borrow.Author.Tests.{leb-true, le-leb, lt-leb}
use Rattle.format.specs.declared.Fault.TheVariants.{Malformed, Adjacent, Sizes, OutsideStore, Mismatch, OutsideEarlier, VolumeTooLong}
use Rattle.format.specs.declared.Row.{Row}
use Rattle.format.specs.declared.Refusal.{Refusal}
use Rattle.format.specs.Refusal.{Ruling, need, refuse, ◌then◌}
use Rattle.format.specs.Limits.{version_most}
use Rattle.format.specs.Record.{is_new, well_formed}
use Rattle.format.proofs.Rulings.{then_fine, fine_of_then, true_of_need, both_of_and}
use Rattle.words.specs.Same.{same_bytes}
use Rattle.walk.specs.declared.Seen.{Seen}
use Rattle.walk.specs.declared.Scope.{Scope}
use Rattle.walk.specs.declared.Scope.TheVariants as scope
use Rattle.walk.specs.Checks.{Check, four, five, six, seven, eight, fifteen, sixteen, within, limit_of, tight, neighbours, together, beyond, checks, judged}

pub limit_most : (x : Scope) (v : List ℕ) → length v ≤ version_most → limit_of x v ≤ version_most
limit_most scope.Sizes v h = omega arith
limit_most scope.Store v h = omega arith
limit_most scope.Loose v h = omega arith
limit_most scope.Version v h = h
limit_most scope.LooseVersion v h = h
limit_most (scope.Chunk n) v h = omega arith

pub holds_of_fine : (c : Check) (cs : List Check) (s : Seen) (r : Row) → judged (c ∷ cs) s r ≡ Ok tt → (c.holds s r ≡ true) × (judged cs s r ≡ Ok tt)
holds_of_fine c cs s r e =
    let k : (need (c.holds s r) c.fault s.place ≡ Ok tt) × (judged cs s r ≡ Ok tt) = fine_of_then (need (c.holds s r) c.fault s.place) (judged cs s r) e in
    (true_of_need (c.holds s r) c.fault s.place k.0, k.1)

-- a match beside a store of n bytes
pub judged_store : (s : Seen) (r : Row) → is_new r ≡ false → (n : ℕ) (x : Bool) → within r n ≡ x → judged (seven n ∷ []) s r ≡ need x OutsideStore s.place
judged_store s r e n x h = rw (e, h) (then_fine (need x OutsideStore s.place))

-- a match behind n bytes
pub judged_earlier : (s : Seen) (r : Row) → is_new r ≡ false → (n : ℕ) (x : Bool) → within r n ≡ x → judged (fifteen n ∷ []) s r ≡ need x OutsideEarlier s.place
judged_earlier s r e n x h = rw (e, h) (then_fine (need x OutsideEarlier s.place))

module _ (s : Seen) (r : Row) (v st : List ℕ) where
  -- a match, where the call has a version and a store
  pub judged_version : is_new r ≡ false → (x y : Bool) → within r (length st) ≡ x → same_bytes (take r.size (drop s.offset v)) (take r.size (drop r.address st)) ≡ y
      → judged (seven (length st) ∷ eight v st ∷ []) s r ≡ need x OutsideStore s.place then need y Mismatch s.place
  judged_version e x y h k = rw (e, h, k) (ap (λ (q : Ruling). need x OutsideStore s.place then q) (then_fine (need y Mismatch s.place)))

  -- a new record that passes 16 passes all that is beyond
  pub judged_new : (x : Scope) → judged (together x) s r ≡ Ok tt → is_new r ≡ true → judged (beyond x v st) s r ≡ Ok tt
  judged_new scope.Sizes k e = refl
  judged_new scope.Store k e = rw e
  judged_new scope.Loose k e = rw e
  judged_new scope.Version k e = rw e
  judged_new scope.LooseVersion k e = rw e
  judged_new (scope.Chunk n) k e = rw ((holds_of_fine (sixteen n) [] s r k).0, e)

  -- where check 16 fails, it is what is said
  pub judged_together : {q : Refusal} (x : Scope) → judged (together x) s r ≡ Err q → judged (beyond x v st) s r ≡ Err q
  judged_together scope.Sizes k = cc
  judged_together scope.Store k = cc
  judged_together scope.Loose k = cc
  judged_together scope.Version k = cc
  judged_together scope.LooseVersion k = cc
  judged_together (scope.Chunk n) k =
      ap (λ (q : Ruling). q then judged (fifteen n ∷ []) s r) (sym (then_fine (need ((sixteen n).holds s r) VolumeTooLong s.place)) ∙ k)

  -- check 5, which is made where t is true
  apart_five : (t : Bool) (cs : List Check) → (is_new r && s.fresh) && t ≡ false → judged (cond t (five ∷ []) [] ++ cs) s r ≡ judged cs s r
  apart_five false cs e = refl
  apart_five true cs e = go (is_new r && s.fresh) e
    where
      go : (b : Bool) → b && true ≡ false → (need (not b) Adjacent s.place then judged cs s r) ≡ judged cs s r
      go true k = cc
      go false k = refl

  after_five : (t : Bool) (cs : List Check) → judged (cond t (five ∷ []) [] ++ cs) s r ≡ Ok tt → judged cs s r ≡ Ok tt
  after_five true cs e = (holds_of_fine five cs s r e).1
  after_five false cs e = e

  module _ (x : Scope) where
    abbrev later : List Check
    later = six (limit_of x v) ∷ beyond x v st

    pub judged_malformed : well_formed r ≡ false → judged (checks x v st) s r ≡ Err (refuse Malformed s.place)
    judged_malformed e = rw e

    module _ (e : well_formed r ≡ true) where
      pub judged_adjacent : (is_new r && s.fresh) && tight x ≡ true → judged (checks x v st) s r ≡ Err (refuse Adjacent s.place)
      judged_adjacent f = let k = both_of_and (is_new r && s.fresh) (tight x) f in rw (e, k.1, k.0)

      module _ (f : (is_new r && s.fresh) && tight x ≡ false) where
        judged_later : judged (checks x v st) s r ≡ judged later s r
        judged_later = rw e (apart_five (tight x) later f)

        pub judged_sizes : limit_of x v < s.offset + r.size → judged (checks x v st) s r ≡ Err (refuse Sizes s.place)
        judged_sizes g = judged_later ∙ rw (lt-leb _ _ g)

        pub judged_beyond : s.offset + r.size ≤ limit_of x v → judged (checks x v st) s r ≡ judged (beyond x v st) s r
        judged_beyond g = judged_later ∙ rw (le-leb _ _ g)

    -- a record that passes stays within the limit
    pub sizes_of_fine : judged (checks x v st) s r ≡ Ok tt → s.offset + r.size ≤ limit_of x v
    sizes_of_fine e =
        let a = holds_of_fine four (neighbours x ++ later) s r e in
        leb-true (s.offset + r.size) (limit_of x v) (holds_of_fine (six (limit_of x v)) (beyond x v st) s r (after_five (tight x) later a.1)).0
