-- Writing the pooled list: before each piece, what is written stands in the area.
-- Assumes nothing.
use Rattle.std.specs.Prelude.{None}
use Prim.Native.Nat.{ℕ, ◌+◌, ◌/◌, ◌≤◌}
use native.Mathlib.Omega.{arith}
use mathlib.Core.Path.{◌≡◌, ◌∙◌, ap}
use mathlib.Core.List.{List}
use lib.ListN.{length}
use Rattle.format.specs.declared.Record.{Record}
use Rattle.format.specs.Record.{encode}
use Rattle.format.specs.Meaning.{whole}
use Rattle.area.specs.Area.{pasted, over}
use Rattle.join.specs.Open.{pending}
use Rattle.join.specs.Join.{tidy}
use Rattle.emit.specs.declared.Emitter.{Emitter}
use Rattle.emit.specs.Emit.{Emits}
use Rattle.emit.proofs.Listing.{Listing, listing_start, listing_next, listing_end}
use Rattle.cursors.specs.declared.Pair.{Pair}
use Rattle.cursors.specs.Cursor.{fronts}
use Rattle.cursors.proofs.Cursors.{remaining_front}
use Rattle.pool.specs.Pool.{pooled_list}
use Rattle.pool.specs.Pooling.{PoolReady}
use Rattle.pool.proofs.Taking.{to_come, to_come_all, to_come_none, Beside, beside_front, whole_to_come, Turned}

-- all bytes of the pooled list
abbrev all : List ℕ → List ℕ → List Record
all first second = to_come first second fronts

pub record Writing (first second area₀ : List ℕ) (at : Pair) (start written : Emitter) : Type 0 where
  pub beside : Beside first second at
  pub listing : Listing (all first second) area₀ start written (to_come first second at)

module _ {first second area₀ : List ℕ} (ready : PoolReady first second area₀) where
  pub room : length (encode (tidy (all first second))) ≤ length area₀
  room = rw (to_come_all first second) ready.room

  pub writing_start : {e : Emitter} → e.area.now ≡ area₀ → (e.out ≡ 0) × (e.last ≡ None) → Writing first second area₀ fronts e e
  writing_start now empty =
      let b = beside_front ready.alongside in
      record { beside = b; listing = listing_start (omega (arith, whole_to_come b, ap whole (remaining_front first), ready.alongside.first_checked.whole_most)) now empty }

  module _ {at : Pair} {start written : Emitter} (g : Writing first second area₀ at start written) where
    pub writing_next : {r : Record} {next : Pair} → Turned first second at r next → {written' : Emitter} → Emits written r written' → Writing first second area₀ next start written'
    writing_next u w = record { beside = u.beside; listing = listing_next room g.listing u.entry w }

    pub writing_end : length first / 12 ≤ at.first.place → {after : List ℕ} {n : ℕ} → (n ≡ written.out + length (encode (pending written.last))) × (after ≡ pasted written.out (encode (pending written.last)) written.area.now)
        → after ≡ over (encode (pooled_list first second)) area₀
    writing_end h w =
        (listing_end room g.listing (to_come_none first second at h) w).0 ∙ ap (λ (l : List Record). over (encode l) area₀) (to_come_all first second)
