-- `words::same` meets its contract: what the words tell, and then the bytes; and what tells of equality is `same_bytes`. Assumes nothing.
use Prim.Native.Nat.{◌-◌, ◌%◌}
use native.Mathlib.Omega.{arith}
use mathlib.Core.Bool.{true, false}
use mathlib.Core.Path.{◌∙◌}
use lib.ListN.{length}
use Rattle.words.proofs.Equality.{same_is}
use Rattle.words.proofs.Stretches.{rest_tells, other_front, uneven}
use Rattle.words.proofs.same.Goals as goal

pub returns-then-a-b : goal.returns-then-a-b
returns-then-a-b c = same_is _ _ false (uneven c.args.a.now c.args.b.now c.if-a-b.true)

pub returns-then-same_words : goal.returns-then-same_words
returns-then-same_words c =
    let g = c.args in
    let i = length g.a.now - length g.a.now % 8 in
    same_is _ _ c.same_bytes.result (rest_tells g.a.now g.b.now i true c.same_bytes.result (omega arith) (omega arith) c.if-same_words.ensures c.same_bytes.ensures)

pub returns-else-same_words : goal.returns-else-same_words
returns-else-same_words c =
    let g = c.args in
    let i = length g.a.now - length g.a.now % 8 in
    c.if-same_words.false ∙ same_is _ _ false (other_front g.a.now g.b.now i c.if-same_words.ensures)
