-- The goals of `check_choice` that are left: the ways out, and the invariant at the start and after one byte more. Assumes nothing.
use Prim.Native.Nat.{◌/◌}
use native.Mathlib.Omega.{arith}
use mathlib.Core.Path.{sym, ◌∙◌, ap}
use lib.ListN.{length, get_or}
use borrow.Author.Tests.{eqb-true, eqb-false}
use Rattle.std.proofs.lemmas.Result.{err_from_is_err_and}
use Rattle.format.specs.declared.Record.{Record}
use Rattle.format.proofs.Rulings.{true_of_need, false_of_need}
use Rattle.commit.specs.Commit.{may_have}
use Rattle.commit.proofs.Choosing.{choice_length, choice_bytes, bytes_stop, bytes_on}
use Rattle.commit.proofs.check_choice.Goals as goal

pub returns-in_err-need : goal.returns-in_err-need
returns-in_err-need c =
    let g = c.args in
    let p = err_from_is_err_and c.from_residual.result c.from_residual.ensures.1 in
    let no = false_of_need _ _ _ (sym c.need.ensures ∙ c.in_err-need.was) in
    rw (p.1, p.2, no.1, choice_length g.list.now g.choice.now (eqb-false _ _ no.0))

pub loop-i-init : goal.loop-i-init
loop-i-init c =
    let g = c.args in
    let e = eqb-true _ _ (true_of_need _ _ _ (sym c.need.ensures ∙ c.in_ok-need.was)) in
    (e, choice_bytes g.list.now g.choice.now e)

pub returns-in_err-need_at : goal.returns-in_err-need_at
returns-in_err-need_at c =
    let g = c.args in
    let l = c.loop-i in
    let is = c.may_have.ensures ∙ ap (λ (r : Record). may_have r (get_or g.choice.now l.i 0)) c.record_at.ensures in
    let p = err_from_is_err_and c.from_residual-in_err-need_at.result c.from_residual-in_err-need_at.ensures.1 in
    let no = false_of_need _ _ _ (sym c.need_at.ensures ∙ c.in_err-need_at.was) in
    rw (p.1, p.2, no.1) (sym (l.invariant.1 ∙ bytes_stop g.list.now g.choice.now (length g.list.now / 12) l.i c.loop-i-test.true (omega (arith, l.invariant.0)) (sym is ∙ no.0)))

pub loop-i-preserved : goal.loop-i-preserved
loop-i-preserved c =
    let g = c.args in
    let l = c.loop-i in
    let is = c.may_have.ensures ∙ ap (λ (r : Record). may_have r (get_or g.choice.now l.i 0)) c.record_at.ensures in
    let yes = true_of_need _ _ _ (sym c.need_at.ensures ∙ c.in_ok-need_at.was) in
    (l.invariant.0, l.invariant.1 ∙ bytes_on g.list.now g.choice.now (length g.list.now / 12) l.i c.loop-i-test.true (omega (arith, l.invariant.0)) (sym is ∙ yes))
