-- `report::Text::push_number` meets its contract: the fewest digits of a number are its decimal text. Assumes nothing.
use mathlib.Core.Path.{◌∙◌}
use borrow.Author.Rules.{rules}
use Rattle.report.proofs.Numerals.{decimal_of_fewest}
use Rattle.report.proofs.Text.push_number.Goals as goal

pub push-requires : goal.push-requires
push-requires c =
    let digits = c.decimal-k.ensures.digits ∙ decimal_of_fewest c.decimal-k.result c.args.n (search rules) c.decimal-k.ensures.len in
    rw digits c.requires

pub returns : goal.returns
returns c =
    let digits = c.decimal-k.ensures.digits ∙ decimal_of_fewest c.decimal-k.result c.args.n (search rules) c.decimal-k.ensures.len in
    rw digits at c.push.ensures
