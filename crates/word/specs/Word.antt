-- Words of eight bytes, and their law.
-- Assumes nothing.
use Rattle.std.specs.Prelude.{ℕ, ◌+◌, ◌*◌, ◌<◌, ◌≡◌, Bool, true, List, [], ◌∷◌, length, get_or}

-- bytes as one number, lowest byte first
abbrev pub word_of : List ℕ → ℕ
word_of [] = 0
word_of (x ∷ xs) = x + 256 * word_of xs

-- a list of eight bytes
pub record EightBytes (l : List ℕ) : Type 0 where
  pub eight : length l ≡ 8
  pub bytes : (k : ℕ) → k < 8 → get_or l k 0 < 256

-- all their eight bytes are equal, each to the one at its place
abbrev pub AllEqual : List ℕ → List ℕ → Type 0
AllEqual x y = (k : ℕ) → k < 8 → get_or x k 0 ≡ get_or y k 0

-- two words are equal exactly when all their eight bytes are
abbrev pub WordLaw : Type 0
WordLaw = (x y : List ℕ) → EightBytes x → EightBytes y → (word_of x ≡ word_of y → AllEqual x y) × (AllEqual x y → word_of x ≡ word_of y)

-- the eight elements of a list from i on
abbrev pub eight_at : List ℕ → ℕ → List ℕ
eight_at s i = get_or s i 0 ∷ get_or s (i + 1) 0 ∷ get_or s (i + 2) 0 ∷ get_or s (i + 3) 0 ∷ get_or s (i + 4) 0 ∷ get_or s (i + 5) 0 ∷ get_or s (i + 6) 0 ∷ get_or s (i + 7) 0 ∷ []

-- r tells whether two lists are equal
abbrev pub Tells : Bool → List ℕ → List ℕ → Type 0
Tells r x y = (r ≡ true → x ≡ y) × (x ≡ y → r ≡ true)
