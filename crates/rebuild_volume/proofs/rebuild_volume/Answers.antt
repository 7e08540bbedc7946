-- `rebuild_volume::rebuild_volume` meets its contract: each way out is the ruling of the check that failed there, or none. Assumes nothing.
use Rattle.std.specs.Prelude.{Ok, Err, ◌≤◌, ◌<◌, length}
use native.Mathlib.Omega.{arith}
use mathlib.Core.Path.{◌≡◌, sym, ◌∙◌, ap}
use mathlib.Core.Bool.{true}
use borrow.Author.Tests.{leb-true, leb-false}
use Rattle.std.proofs.lemmas.Result.{err_from_is_err_and}
use Rattle.format.specs.declared.Fault.TheVariants.{AreaTooShort}
use Rattle.format.specs.declared.Figures.{Figures}
use Rattle.format.specs.Refusal.{refuse, length_only, figures_in}
use Rattle.format.proofs.Rulings.{true_of_need, false_of_need, fine_of_accepted}
use Rattle.volume.specs.Volume.{chunks_of}
use Rattle.rebuild_volume.specs.RebuildVolume.{index_fits, wholes, chunks_ruling, volume_ruling}
use Rattle.rebuild_volume.proofs.Passing.{volume_length, volume_short, volume_fine, volume_ready}
use Rattle.rebuild_volume.proofs.rebuild_volume.Goals as goal
use Rattle.rebuild_volume.proofs.rebuild_volume.Goals.{In_ok-figures}

-- check 14 has passed
fits : (c : In_ok-figures) → let g = c.args in index_fits g.index.now g.lists.now g.blocks.now ≡ true
fits c = sym c.index_fits.ensures ∙ true_of_need _ _ _ (sym c.need.ensures ∙ c.in_ok-need.was)

-- so have the chunks, and the figures give what they come to
passed : (c : In_ok-figures) → let g = c.args in let cs = chunks_of g.index.now g.lists.now g.blocks.now in
    (chunks_ruling 0 0 cs ≡ Ok tt) × (c.in_ok-figures.figures ≡ length_only (wholes cs))
passed c =
    let g = c.args in
    let cs = chunks_of g.index.now g.lists.now g.blocks.now in
    let told = sym c.accept_chunks.ensures ∙ c.in_ok-figures.was in
    let fine = fine_of_accepted (chunks_ruling 0 0 cs) (length_only (wholes cs)) c.in_ok-figures.figures told in
    (fine, sym (rw fine at (ap figures_in told)))

-- a shorter area is refused with 9
short : (c : In_ok-figures) → let g = c.args in length g.area.now < c.in_ok-figures.figures.whole → volume_ruling g.index.now g.lists.now g.blocks.now g.area.now ≡ Err (refuse AreaTooShort 0)
short c h =
    let g = c.args in
    let through = passed c in
    volume_short g.index.now g.lists.now g.blocks.now g.area.now (fits c) through.0 (omega (arith, h, ap (λ (x : Figures). x.whole) through.1))

pub returns-in_err-need-2-clause-answered : goal.returns-in_err-need-2-clause-answered
returns-in_err-need-2-clause-answered c =
    let no = false_of_need _ _ _ (sym c.need-2.ensures ∙ c.in_err-need-2.was) in
    let s = short (goal.at.returns-in_err-need-2-clause-answered c).In_ok-figures (leb-false _ _ no.0) in
    let r = err_from_is_err_and c.from_residual-in_err-need-2.result c.from_residual-in_err-need-2.ensures.1 in
    rw (r.1, r.2, no.1, s)

pub returns-in_err-need-2-clause-area_after : goal.returns-in_err-need-2-clause-area_after
returns-in_err-need-2-clause-area_after c =
    let no = false_of_need _ _ _ (sym c.need-2.ensures ∙ c.in_err-need-2.was) in
    rw (short (goal.at.returns-in_err-need-2-clause-area_after c).In_ok-figures (leb-false _ _ no.0))

-- there is room in a longer one
room : (c : In_ok-figures) → let g = c.args in c.in_ok-figures.figures.whole ≤ length g.area.now → wholes (chunks_of g.index.now g.lists.now g.blocks.now) ≤ length g.area.now
room c h = omega (arith, h, ap (λ (x : Figures). x.whole) (passed c).1)

pub fill_volume-requires : goal.fill_volume-requires
fill_volume-requires c =
    let g = c.args in
    let p = (goal.at.fill_volume-requires c).In_ok-figures in
    let h = leb-true _ _ (true_of_need _ _ _ (sym c.need-2.ensures ∙ c.in_ok-need-2.was)) in
    volume_ready g.index.now g.lists.now g.blocks.now g.area.now (fits p) (passed p).0 (room p h)

pub returns : goal.returns
returns c =
    let g = c.args in
    let p = (goal.at.returns c).In_ok-figures in
    let h = leb-true _ _ (true_of_need _ _ _ (sym c.need-2.ensures ∙ c.in_ok-need-2.was)) in
    let through = passed p in
    let fine = volume_fine g.index.now g.lists.now g.blocks.now g.area.now (fits p) through.0 (room p h) in
    let long = volume_length g.index.now g.lists.now g.blocks.now g.area.now (fits p) through.0 in
    record { answered = rw (fine, long) (ap Ok through.1); area_after = rw fine c.fill_volume.ensures }
