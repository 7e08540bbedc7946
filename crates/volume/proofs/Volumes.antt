-- Laws of volumes: what chunks put behind d; chunks added leave all before them.
-- Assumes nothing.
use Prim.Native.Nat.{ℕ}
use mathlib.Core.Path.{◌≡◌, refl, sym, ◌∙◌}
use mathlib.Core.List.{List, [], ◌∷◌, ◌++◌, append_assoc, append-nil}
use Rattle.volume.specs.Volume.{Chunk, chunk_bytes, volume}

-- what chunks put behind d
abbrev pub behind : List ℕ → List Chunk → List ℕ
behind d [] = []
behind d (c ∷ cs) = chunk_bytes c d ++ behind (d ++ chunk_bytes c d) cs

pub volume_behind : (d : List ℕ) (cs : List Chunk) → volume d cs ≡ d ++ behind d cs
volume_behind d [] = sym (append-nil d)
volume_behind d (c ∷ cs) = volume_behind (d ++ chunk_bytes c d) cs ∙ append_assoc d (chunk_bytes c d) (behind (d ++ chunk_bytes c d) cs)

-- chunks added are rebuilt behind the volume so far
pub volume_append : (d : List ℕ) (cs es : List Chunk) → volume d (cs ++ es) ≡ volume (volume d cs) es
volume_append d [] es = refl
volume_append d (c ∷ cs) es = volume_append (d ++ chunk_bytes c d) cs es
