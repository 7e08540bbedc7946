-- A call with one list area that wrote a list: what its answer and its area tell.
-- Assumes nothing.
use Prim.Native.Nat.{◌*◌}
use native.Mathlib.Omega.{arith}
use mathlib.Core.Path.{◌≡◌, ap}
use mathlib.Core.List.{List}
use lib.ListN.{length}
use Rattle.format.specs.declared.Record.{Record}
use Rattle.format.specs.Refusal.{Answer, figures_in}
use Rattle.format.specs.Record.{encode}
use Rattle.format.proofs.Encoding.{length_encode}
use Rattle.area.proofs.Filling.{front}
use Rattle.demand.specs.Tidying.{ListCall, list_out, Writes}

module _ (l : List Record) {x : ListCall} (w : Writes (encode l) (length l) x) where
  pub entries_of : (figures_in x.answer).entries ≡ length l
  entries_of = ap (λ (a : Answer). (figures_in a).entries) w.answered

  pub list_out_is : list_out x ≡ encode l
  list_out_is =
      let n : 12 * (figures_in x.answer).entries ≡ length (encode l) = omega (arith, entries_of, length_encode l) in
      rw w.area_after (front (12 * (figures_in x.answer).entries) (encode l) x.before n)
