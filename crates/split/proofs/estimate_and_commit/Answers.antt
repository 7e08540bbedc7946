-- The three ways out: one call, an estimate that is refused, and both calls, where of what the estimate wrote a byte for each record is handed on. Assumes nothing.
use mathlib.Core.Path.{refl, sym, ◌∙◌}
use Rattle.area.specs.Area.{areas}
use Rattle.estimate.proofs.Estimating.{estimate_made}
use Rattle.commit.proofs.Committing.{commit_made}
use Rattle.demand.proofs.SplitHolds.{one_call, estimate_refused, estimate_committed}
use Rattle.split.proofs.estimate_and_commit.Goals as goal

pub returns-then-not-areas_fit : goal.returns-then-not-areas_fit
returns-then-not-areas_fit c =
    let g = c.args in
    let k = c.commit-committed.ensures in
    let before = areas g.choice.now g.list_area.now g.block_area.now in
    let made = commit_made g.price g.list.now g.version.now g.store.now g.choice.now g.list_area.now g.block_area.now (k.answered, (k.list_after, k.block_after)) in
    record { two_calls = rw c.alone.ensures (one_call g.price g.list.now g.version.now g.store.now before (sym c.areas_fit.ensures ∙ c.if-not-areas_fit.true) made) }

pub returns-in_default : goal.returns-in_default
returns-in_default c =
    let g = c.args in
    let e = c.estimate-estimated.ensures in
    let before = areas g.choice.now g.list_area.now g.block_area.now in
    let made = estimate_made g.price g.list.now g.version.now g.store.now g.choice.now (e.answered, e.choice_after) in
    record { two_calls = rw c.alone-in_default.ensures (estimate_refused g.price g.list.now g.version.now g.store.now before (sym c.areas_fit.ensures ∙ c.if-not-areas_fit.false) made c.in_default.is) }

pub returns : goal.returns
returns c =
    let g = c.args in
    let e = c.estimate-estimated.ensures in
    let k = c.commit-committed-2.ensures in
    let before = areas g.choice.now g.list_area.now g.block_area.now in
    let roomy = sym c.areas_fit.ensures ∙ c.if-not-areas_fit.false in
    let first = estimate_made g.price g.list.now g.version.now g.store.now g.choice.now (e.answered, e.choice_after) in
    let second = commit_made g.price g.list.now g.version.now g.store.now _ g.list_area.now g.block_area.now (k.answered, (k.list_after, k.block_after)) in
    record { two_calls = estimate_committed g.price g.list.now g.version.now g.store.now before roomy first c.in-Ok.is refl second }
