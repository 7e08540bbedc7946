-- Counting the records of the pooled list: a piece adds one, unless it joins the piece before it.
-- Assumes nothing.
use Rattle.std.specs.Prelude.{Some, None}
use Prim.Native.Nat.{ℕ, ◌+◌, ◌/◌, ◌≤◌}
use native.Mathlib.Omega.{arith}
use mathlib.Core.Path.{◌≡◌, sym, ◌∙◌, ap}
use mathlib.Core.Bool.{cond}
use mathlib.Core.List.{List, ◌∷◌}
use lib.ListN.{length}
use Rattle.format.specs.declared.Record.{Record}
use Rattle.format.specs.Limits.{version_most}
use Rattle.format.specs.Meaning.{whole}
use Rattle.join.specs.Open.{Open, follows}
use Rattle.join.proofs.Opening.{entries_after, entries_tidy, entries_alike}
use Rattle.cursors.specs.declared.Pair.{Pair}
use Rattle.cursors.specs.Cursor.{fronts}
use Rattle.cursors.proofs.Cursors.{remaining_front}
use Rattle.pool.specs.Pool.{pooled_list}
use Rattle.pool.specs.Pooling.{Alongside}
use Rattle.pool.proofs.Taking.{to_come, to_come_all, to_come_none, Beside, beside_front, whole_to_come, Turned}

-- after the piece o, with e counted: no more than bytes are passed
pub record Counting (first second : List ℕ) (at : Pair) (o : Open) (e : ℕ) : Type 0 where
  pub beside : Beside first second at
  pub sum : length (pooled_list first second) ≡ e + entries_after o (to_come first second at)
  pub most : e + whole (to_come first second at) ≤ version_most

pub counting_start : {first second : List ℕ} → Alongside first second → Counting first second fronts None 0
counting_start {first} {second} h =
    let b = beside_front h in
    record {
      beside = b;
      sum = sym (ap length (to_come_all first second)) ∙ entries_tidy (to_come first second fronts) ∙ omega arith;
      most = omega (arith, whole_to_come b, ap whole (remaining_front first), h.first_checked.whole_most);
    }

module _ {first second : List ℕ} {at : Pair} {o : Open} {e : ℕ} (g : Counting first second at o e) where
  module _ {r : Record} {next : Pair} (u : Turned first second at r next) {d : ℕ} (is : d ≡ cond (follows o r) 0 1) (one : d ≤ 1) where
    pub counting_most : e + d ≤ version_most
    counting_most = omega (arith, g.most, u.entry.sizes, u.some)

    pub counting_next : Counting first second next (Some r) (e + d)
    counting_next =
        record {
          beside = u.beside;
          sum = omega (arith, g.sum, entries_alike o (to_come first second at) (r ∷ to_come first second next) u.entry.listed, is);
          most = omega (arith, g.most, u.entry.sizes, u.some);
        }

  pub counting_end : length first / 12 ≤ at.first.place → e ≡ length (pooled_list first second)
  counting_end h = omega (arith, g.sum, ap (entries_after o) (to_come_none first second at h))
