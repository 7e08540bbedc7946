-- `compare::compare` meets its contract: the refusal of the list at fault, the first list's first; no where the origins differ; else whether the stored
-- blocks are the same. Assumes nothing.
use Rattle.std.specs.Prelude.{Ok}
use mathlib.Core.Path.{◌≡◌, refl, sym, ◌∙◌, ap}
use mathlib.Core.Bool.{Bool, true, false, cond}
use mir.Val.{bool_byte}
use Prim.Native.Nat.{ℕ}
use Rattle.format.specs.Record.{records_of}
use Rattle.format.specs.Refusal.{entries_only}
use Rattle.walk.proofs.Telling.{fine_of_through}
use Rattle.show.specs.Check.{inputs_ruling}
use Rattle.compare.specs.Compare.{compared, yes_or_no}
use Rattle.compare.proofs.Answering.{BothFine, checked_both, no_of_origins, as_blocks}
use Rattle.compare.proofs.compare.Goals as goal
use Rattle.compare.proofs.compare.Goals.{In-Ok-w, then-same_origins, else-same_origins}

-- yes as a number
one_for_yes : (same : Bool) → bool_byte same ≡ cond same 1 0
one_for_yes true = refl
one_for_yes false = refl

-- both lists are fine
fine : (c : In-Ok-w) → let g = c.args in BothFine g.first.now g.second.now g.first_block.now g.second_block.now g.store.now
fine c =
    let g = c.args in
    record {
      first_fine = (fine_of_through (inputs_ruling g.first.now g.first_block.now g.store.now) (records_of g.first.now) c.in-Ok._first (sym c.accept-v.ensures ∙ c.in-Ok.is)).0;
      second_fine = (fine_of_through (inputs_ruling g.second.now g.second_block.now g.store.now) (records_of g.second.now) c.in-Ok-w._second (sym c.accept-w.ensures ∙ c.in-Ok-w.is)).0;
    }

pub same_origins-requires : goal.same_origins-requires
same_origins-requires c = checked_both (fine c)

pub returns : goal.returns
returns c =
    let g = c.args in
    let both = fine (goal.at.returns c).In-Ok-w in
    let is : compared g.first.now g.second.now g.first_block.now g.second_block.now g.store.now ≡ Ok (yes_or_no c.if-same_origins.same) =
    elim c.if-same_origins.branch [
      | then-same_origins w ↦ as_blocks both (sym c.same_origins.ensures ∙ w.if-same_origins.true) (w.same-is ∙ w.same-same.ensures)
      | else-same_origins w ↦ no_of_origins both (sym c.same_origins.ensures ∙ w.if-same_origins.false) ∙ ap (λ (s : Bool). Ok (yes_or_no s)) (sym w.if-same_origins.false ∙ sym w.same-is)
    ] in
    record { answered = c.entries_only.ensures ∙ ap (λ (n : ℕ). Ok (entries_only n)) (c.from.ensures ∙ one_for_yes c.if-same_origins.same) ∙ sym is }
