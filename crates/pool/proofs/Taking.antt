-- Two cursors that have equally many bytes to come: one piece taken is the next entry of the pooled list, of which the bytes behind the moved cursors are
-- to come.
-- Assumes nothing.
use Prim.Native.Nat.{ℕ, ◌/◌, ◌≤◌, ◌<◌}
use native.Mathlib.Omega.{arith}
use mathlib.Core.Path.{◌≡◌, refl, sym, ◌∙◌, ap, ap₂}
use mathlib.Core.Bool.{Bool, true, false}
use mathlib.Core.List.{List, [], ◌∷◌}
use lib.Dec.{ltb}
use lib.ListN.{length}
use borrow.Author.Tests.{ltb-true, ltb-false}
use Rattle.format.specs.declared.Record.{Record}
use Rattle.format.specs.Meaning.{size_of, whole}
use Rattle.format.specs.Origins.{Origin, fresh, drawn, origins, singles}
use Rattle.format.proofs.Tracing.{length_origins}
use Rattle.join.specs.Join.{join, tidy, gather}
use Rattle.emit.specs.Emit.{Entry}
use Rattle.cursors.specs.declared.Pair.{Pair}
use Rattle.cursors.specs.Cursor.{fronts, remaining, Stands, StepReady, Stepped}
use Rattle.cursors.proofs.Cursors.{remaining_front, remaining_none, goes, stands_front, Turn, turn}
use Rattle.pool.specs.Pool.{pooled, pooled_list}
use Rattle.pool.specs.Pooling.{preferred, Alongside}
use Rattle.pool.proofs.Bytes.{length_pooled, size_preferred, gather_front}

-- ---- what is to come

-- the pooled bytes from two cursors on, a record for each
abbrev pub to_come : List ℕ → List ℕ → Pair → List Record
to_come first second at = singles (pooled (origins (remaining first at.first)) (origins (remaining second at.second)))

pub to_come_all : (first second : List ℕ) → tidy (to_come first second fronts) ≡ pooled_list first second
to_come_all first second = ap₂ (λ (l k : List Record). gather (pooled (origins l) (origins k))) (remaining_front first) (remaining_front second)

pub to_come_none : (first second : List ℕ) (at : Pair) → length first / 12 ≤ at.first.place → to_come first second at ≡ []
to_come_none first second at h = ap (λ (l : List Record). singles (pooled (origins l) (origins (remaining second at.second)))) (remaining_none first at.first h)

whole_singles : (os : List Origin) → whole (singles os) ≡ length os
whole_singles [] = refl
whole_singles (fresh ∷ os) = omega (arith, whole_singles os)
whole_singles (drawn a ∷ os) = omega (arith, whole_singles os)

-- ---- two cursors

-- as many bytes are to come from each
pub record Beside (first second : List ℕ) (at : Pair) : Type 0 where
  pub at_first : Stands first at.first
  pub at_second : Stands second at.second
  pub same_whole : whole (remaining first at.first) ≡ whole (remaining second at.second)

pub beside_front : {first second : List ℕ} → Alongside first second → Beside first second fronts
beside_front {first} {second} h =
    record {
      at_first = stands_front first h.first_checked;
      at_second = stands_front second h.second_checked;
      same_whole = ap whole (remaining_front first) ∙ h.same_whole ∙ sym (ap whole (remaining_front second));
    }

module _ {first second : List ℕ} {at : Pair} (b : Beside first second at) where
  pub whole_to_come : whole (to_come first second at) ≡ whole (remaining first at.first)
  whole_to_come =
      let l = remaining first at.first in
      let k = remaining second at.second in
      whole_singles (pooled (origins l) (origins k)) ∙ length_pooled (origins l) (origins k) (omega (arith, length_origins l, length_origins k, b.same_whole)) ∙ length_origins l

  -- as long as the first cursor has a record, so has the second
  also : at.first.place < length first / 12 → at.second.place < length second / 12
  also h = go (ltb at.second.place (length second / 12)) refl
    where
      go : (t : Bool) → ltb at.second.place (length second / 12) ≡ t → at.second.place < length second / 12
      go true e = ltb-true at.second.place (length second / 12) e
      go false e = absurd (omega (arith, goes b.at_first h, b.same_whole, ap whole (remaining_none second at.second (ltb-false at.second.place (length second / 12) e))))

  pub step_ready : at.first.place < length first / 12 → StepReady first second at
  step_ready h = record { at_first = b.at_first; at_second = b.at_second; goes_on = h; also_goes_on = also h }

-- the piece r taken, and both cursors behind it
pub record Turned (first second : List ℕ) (at : Pair) (r : Record) (next : Pair) : Type 0 where
  pub beside : Beside first second next
  pub entry : Entry (to_come first second at) r (to_come first second next)
  pub some : 1 ≤ size_of r

pub turned : {first second : List ℕ} {at : Pair} {s : Record × Record} {next : Pair} → Beside first second at → at.first.place < length first / 12 → Stepped first second at s next
    → {r : Record} → r ≡ preferred s.0 s.1 → Turned first second at r next
turned {first} {second} {at} {s} {next} b h k {r} is =
    let u : Turn first second at s next = turn (step_ready b h) k in
    let size : size_of r ≡ size_of s.0 = ap size_of is ∙ size_preferred s.0 s.1 u.same_size in
    let c : Beside first second next = record { at_first = u.at_first; at_second = u.at_second; same_whole = omega (arith, b.same_whole, u.covers, u.also_covers, u.same_size) } in
    record {
      beside = c;
      entry = record {
        listed =
            ap₂ (λ (os us : List Origin). gather (pooled os us)) u.one_known u.two_known
            ∙ gather_front s.0 s.1 (origins (remaining first next.first)) (origins (remaining second next.second)) u.same_size u.some
            ∙ ap (λ (q : Record). join q (tidy (to_come first second next))) (sym is);
        sizes = omega (arith, whole_to_come b, whole_to_come c, size, u.covers);
      };
      some = omega (arith, size, u.some);
    }

pub turned_less : {first second : List ℕ} {at : Pair} {r : Record} {next : Pair} → Turned first second at r next → whole (to_come first second next) < whole (to_come first second at)
turned_less t = omega (arith, t.entry.sizes, t.some)
