-- Two cursors side by side: whether the origins are the same is whether those to come are, as long as all passed were.
-- Assumes nothing.
use Prim.Native.Nat.{ℕ, zero, suc, ◌+◌, ◌/◌, ◌≤◌, ◌<◌}
use native.Mathlib.Omega.{arith}
use mathlib.Core.Path.{◌≡◌, refl, sym, ◌∙◌, ap}
use mathlib.Core.Bool.{Bool, true, false, ◌&&◌}
use mathlib.Core.List.{List, []}
use lib.Dec.{leb}
use lib.ListN.{length, replicate}
use borrow.Author.Tests.{leb-true, leb-false}
use Rattle.format.specs.declared.Record.{Record}
use Rattle.format.specs.declared.Record.TheVariants.{New, Match}
use Rattle.format.specs.Record.{from}
use Rattle.format.specs.Meaning.{size_of}
use Rattle.format.specs.Origins.{fresh, drawn_at, origins_of, origins, same_source, same_origins}
use Rattle.format.proofs.Tracing.{length_origin, length_origins, source_true, origins_self, other_lengths, same_append}
use Rattle.cursors.specs.declared.Pair.{Pair}
use Rattle.cursors.specs.Cursor.{fronts, remaining, Stands, StepReady, Checked}
use Rattle.cursors.proofs.Cursors.{remaining_front, remaining_none, goes, stands_front, Turn}
use Rattle.compare.specs.Compare.{same_origins_in}
use Rattle.compare.specs.Alike.{alike}

-- ---- two pieces of one size

same_piece : (p q : Record) → size_of p ≡ size_of q → 1 ≤ size_of p → same_origins (origins_of p) (origins_of q) ≡ alike p q
same_piece (New s) (New t) e h = ap (λ (n : ℕ). same_origins (origins_of (New s)) (replicate n fresh)) (sym e) ∙ origins_self (replicate s fresh)
same_piece (New zero) (Match t b) e h = absurd (omega arith)
same_piece (New (suc s)) (Match zero b) e h = absurd (omega arith)
same_piece (New (suc s)) (Match (suc t) b) e h = refl
same_piece (Match zero a) (New t) e h = absurd (omega arith)
same_piece (Match (suc s) a) (New zero) e h = absurd (omega arith)
same_piece (Match (suc s) a) (New (suc t)) e h = refl
same_piece (Match zero a) (Match t b) e h = absurd (omega arith)
same_piece (Match (suc s) a) (Match zero b) e h = absurd (omega arith)
same_piece (Match (suc s) a) (Match (suc t) b) e h = go (same_source a b) refl
  where
    go : (x : Bool) → same_source a b ≡ x → x && same_origins (from (drawn_at a.held) (a.address + 1) s) (from (drawn_at b.held) (b.address + 1) t) ≡ x
    go true k =
        let same : from (drawn_at b.held) (b.address + 1) t ≡ from (drawn_at a.held) (a.address + 1) s = rw (source_true a b k, (let n : t ≡ s = omega arith in n)) in
        rw same (origins_self (from (drawn_at a.held) (a.address + 1) s))
    go false k = refl

-- ---- the loop

abbrev same_from : List ℕ → List ℕ → Pair → Bool
same_from first second at = same_origins (origins (remaining first at.first)) (origins (remaining second at.second))

pub record SoFar (first second : List ℕ) (at : Pair) : Type 0 where
  pub at_first : Stands first at.first
  pub at_second : Stands second at.second
  pub so_far : same_origins_in first second ≡ same_from first second at

pub so_far_front : (first second : List ℕ) → Checked first × Checked second → SoFar first second fronts
so_far_front first second h =
    record { at_first = stands_front first h.0; at_second = stands_front second h.1; so_far = rw (remaining_front first, remaining_front second) }

module _ {first second : List ℕ} {at : Pair} (g : SoFar first second at) where
  pub ready : at.first.place < length first / 12 → at.second.place < length second / 12 → StepReady first second at
  ready h k = record { at_first = g.at_first; at_second = g.at_second; goes_on = h; also_goes_on = k }

  -- the second list ends, and the first goes on
  pub other_of_more : at.first.place < length first / 12 → length second / 12 ≤ at.second.place → same_origins_in first second ≡ false
  other_of_more h k =
      let l = remaining first at.first in
      g.so_far ∙ (rw (remaining_none second at.second k) (other_lengths (origins l) [] (λ e. omega (arith, e, length_origins l, goes g.at_first h))))

  -- the first list ends: so must the second
  pub same_of_end : length first / 12 ≤ at.first.place → leb (length second / 12) at.second.place ≡ same_origins_in first second
  same_of_end h = go (leb (length second / 12) at.second.place) refl
    where
      go : (t : Bool) → leb (length second / 12) at.second.place ≡ t → t ≡ same_origins_in first second
      go true e = sym (g.so_far ∙ rw (remaining_none first at.first h, remaining_none second at.second (leb-true (length second / 12) at.second.place e)))
      go false e =
          let k = leb-false (length second / 12) at.second.place e in
          let l = remaining second at.second in
          sym (g.so_far ∙ (rw (remaining_none first at.first h) (other_lengths [] (origins l) (λ i. omega (arith, i, length_origins l, goes g.at_second k)))))

  module _ {s : Record × Record} {next : Pair} (t : Turn first second at s next) where
    same_step : same_origins_in first second ≡ alike s.0 s.1 && same_from first second next
    same_step =
        g.so_far
        ∙ (rw (t.one_known, t.two_known))
        ∙ same_append (origins_of s.0) (origins_of s.1) (origins (remaining first next.first)) (origins (remaining second next.second)) (omega (arith, t.same_size, length_origin s.0, length_origin s.1))
        ∙ rw (same_piece s.0 s.1 t.same_size t.some)

    pub other_of_piece : alike s.0 s.1 ≡ false → same_origins_in first second ≡ false
    other_of_piece e = same_step ∙ rw e

    pub so_far_next : alike s.0 s.1 ≡ true → SoFar first second next
    so_far_next e = record { at_first = t.at_first; at_second = t.at_second; so_far = same_step ∙ rw e }
