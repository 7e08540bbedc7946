-- `console::read_front`: after a read the front of the buffer is what it was, and then what was read.
use Rattle.std.proofs.Common.{◌≡◌, ℕ, ◌+◌, ◌-◌, ◌≤◌, List, ◌++◌, length, take, rules, sym, ap, ◌∙◌, length-take-le}
use Rattle.std.proofs.Math.Seq.{take-append-add}
use Rattle.std.proofs.lemmas.List.{take-append-le}
use Rattle.std.proofs.KnownBytes.{Consumes-trans}
use borrow.Rule.Slice.PartMut.{put_mid, post_of}
use Rattle.console.proofs.read_front.Goals as goal

front_grown : (done k n : ℕ) (xs ys : List ℕ) → done ≤ length xs → n ≤ length ys → take (done + n) (put_mid done k xs ys) ≡ take done xs ++ take n ys
front_grown done k n xs ys within fits =
    ap (λ (m : ℕ). take (m + n) (put_mid done k xs ys)) (sym (length-take-le done xs within))
    ∙ take-append-add (take done xs) (ys ++ post_of done k xs) n
    ∙ ap (λ (l : List ℕ). take done xs ++ l) (take-append-le n ys (post_of done k xs) fits)

pub loop-done-preserved : goal.loop-done-preserved
loop-done-preserved g c =
    let l = c.loop-done in
    let front = front_grown l.done (length l.buffer - l.done) c.in-Ok.n l.buffer c.read.new.buf l.invariant.within c.in-Ok.ensures.bound.0 in
    record {
      within = search rules;
      given = rw front (Consumes-trans _ _ _ _ _ l.invariant.given c.in-Ok.ensures.bytes.0);
    }
