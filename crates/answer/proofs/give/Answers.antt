-- `answer::give` meets its contract: the words, one after the other, are the layout over the area's front. Assumes nothing.
use native.Mathlib.Omega.{arith}
use mathlib.Core.Path.{ap}
use Rattle.answer.specs.declared.Told.{Told}
use Rattle.answer.proofs.Laying.{half_of_words, given_of_half}
use Rattle.answer.proofs.give.Goals as goal

pub returns : goal.returns
returns c =
    let told = c.from-t.ensures in
    let half = half_of_words c.args.area.now c.put_word.ensures c.put_word-2.ensures c.put_word-3.ensures c.put_word-4.ensures (omega arith) c.requires in
    (ap (λ (t : Told). t.number) told, given_of_half c.args.a told half c.put_word-5.ensures c.put_word-6.ensures c.put_word-7.ensures c.put_word-8.ensures)
