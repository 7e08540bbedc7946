-- Writing the tidy form of a list, entry by entry: before each, what is written stands in the area, and the open record with the rest of the tidy form is
-- what is to come.
-- Assumes nothing.
use Rattle.std.specs.Prelude.{None}
use Prim.Native.Nat.{ℕ, ◌+◌, ◌≤◌}
use native.Mathlib.Omega.{arith}
use mathlib.Core.Path.{◌≡◌, refl, ◌∙◌, ap}
use mathlib.Core.List.{List, [], ◌∷◌, ◌++◌, append-nil}
use lib.ListN.{length, length-append}
use Rattle.format.specs.declared.Record.{Record}
use Rattle.format.specs.Limits.{version_most}
use Rattle.format.specs.Record.{encode}
use Rattle.format.specs.Meaning.{size_of, whole}
use Rattle.format.proofs.Encoding.{encode_append}
use Rattle.area.specs.Area.{pasted, over}
use Rattle.area.proofs.Filling.{Filling, filling_start, filling_put, filling_end, filling_out, filling_room}
use Rattle.join.specs.Open.{pending, open_size, flushed, opened}
use Rattle.join.specs.Join.{tidy}
use Rattle.join.proofs.Opening.{ahead, ahead_none, ahead_join, open_size_most}
use Rattle.emit.specs.declared.Emitter.{Emitter}
use Rattle.emit.specs.Emit.{Emits, Entry}

-- a record by itself
pub entry_one : (r : Record) (l : List Record) → Entry (r ∷ l) r l
entry_one r l = record { listed = refl; sizes = refl }

-- l is to be written over an area that was lent to the emitter `first`, of which k is to come after what e, which has that area, has taken in
pub record Listing (l : List Record) (area₀ : List ℕ) (first e : Emitter) (k : List Record) : Type 0 where
  pub same_area : e.area.ghost_name ≡ first.area.ghost_name
  pub filling : Filling (encode (tidy l)) area₀ e.area.now e.out (encode (ahead e.last (tidy k)))
  pub sizes : open_size e.last + whole k ≤ version_most

pub listing_start : {l : List Record} {area₀ : List ℕ} {first : Emitter} → whole l ≤ version_most → first.area.now ≡ area₀ → (first.out ≡ 0) × (first.last ≡ None)
    → Listing l area₀ first first l
listing_start {l} {area₀} h now empty =
    record {
      same_area = refl;
      filling = rw (now, empty.0, empty.1) (filling_start (encode (tidy l)) area₀);
      sizes = omega (arith, h, ap open_size empty.1);
    }

module _ {l : List Record} {area₀ : List ℕ} {first e : Emitter} {k : List Record} (room : length (encode (tidy l)) ≤ length area₀) (g : Listing l area₀ first e k) where
  -- the next entry is r, and m is to come after it
  module _ {r : Record} {m : List Record} (next : Entry k r m) where
    still_to_come : Filling (encode (tidy l)) area₀ e.area.now e.out (encode (flushed e.last r) ++ encode (ahead (opened e.last r) (tidy m)))
    still_to_come = rw (next.listed, ahead_join e.last r (tidy m), encode_append (flushed e.last r) (ahead (opened e.last r) (tidy m))) at g.filling

    pub listing_room : e.out + length (encode (flushed e.last r)) ≤ length e.area.now
    listing_room = omega (arith, filling_room still_to_come room, length-append (encode (flushed e.last r)) (encode (ahead (opened e.last r) (tidy m))))

    pub listing_size : open_size e.last + size_of r ≤ version_most
    listing_size = omega (arith, g.sizes, next.sizes)

    pub listing_next : {e' : Emitter} → Emits e r e' → Listing l area₀ first e' m
    listing_next {e'} w =
        record {
          same_area = w.same_area ∙ g.same_area;
          filling = rw w.last_is (filling_put (encode (flushed e.last r)) (encode (ahead (opened e.last r) (tidy m))) still_to_come room e'.area.now e'.out w.area_after w.out_is);
          sizes = omega (arith, g.sizes, next.sizes, open_size_most e.last r, ap open_size w.last_is);
        }

  -- none is to come
  module _ (none : k ≡ []) where
    last : Filling (encode (tidy l)) area₀ e.area.now e.out (encode (pending e.last) ++ [])
    last = rw (append-nil (encode (pending e.last)), ← ahead_none e.last) (rw none at g.filling)

    pub listing_last : e.out + length (encode (pending e.last)) ≤ length e.area.now
    listing_last = omega (arith, filling_room last room, length-append (encode (pending e.last)) [])

    pub listing_end : {after : List ℕ} {n : ℕ} → (n ≡ e.out + length (encode (pending e.last))) × (after ≡ pasted e.out (encode (pending e.last)) e.area.now)
        → (after ≡ over (encode (tidy l)) area₀) × (n ≡ length (encode (tidy l)))
    listing_end {after} {n} w = let done = filling_put (encode (pending e.last)) [] last room after n w.1 w.0 in (filling_end done, filling_out done)
