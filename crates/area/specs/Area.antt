-- Bytes written over a lent area.
-- Assumes nothing.
use Rattle.std.specs.Prelude.{ℕ, ◌+◌, List, ◌++◌, length, take, drop}

-- d with s over it from `at` on
abbrev pub pasted : ℕ → List ℕ → List ℕ → List ℕ
pasted at s d = (take at d ++ s) ++ drop (at + length s) d

-- d with s over its front: the area begins with s, and bytes beyond are unchanged
abbrev pub over : List ℕ → List ℕ → List ℕ
over s d = s ++ drop (length s) d

-- the three areas that partition and pass write: for choice, list and stored block
pub record Areas : Type 0 where
  pub choice : List ℕ
  pub list : List ℕ
  pub block : List ℕ

abbrev pub areas : List ℕ → List ℕ → List ℕ → Areas
areas c l b = record { choice = c; list = l; block = b }
