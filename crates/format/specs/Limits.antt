-- The limits of clauses 1.1 to 1.3, and of a volume, in bytes.
-- Assumes nothing.
use Rattle.std.specs.Prelude.{ℕ}

-- the longest version
abbrev pub version_most : ℕ
version_most = 16777216

-- the longest store
abbrev pub store_most : ℕ
store_most = 268435456

-- the most records of a list
abbrev pub records_most : ℕ
records_most = 4096

-- the longest list: 4,096 records of 12 bytes
abbrev pub list_most : ℕ
list_most = 49152

-- the longest volume
abbrev pub volume_most : ℕ
volume_most = 268435456

-- the longest index of a volume: 1,024 records of 8 bytes
abbrev pub index_most : ℕ
index_most = 8192
