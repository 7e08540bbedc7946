-- The worked examples as one table: the price and the list; the least choice and its cost; the pass's cost and looks. The sheets A to J
-- (clause 10.1), at EN = EM = 10 and F 256; then one list at F 256, 384 and 512, where the factor between two whole ones has a least choice that neither of them
-- has; then lists at F 256 where a new entry is cheaper or dearer than a match; then lists where a match goes on in the store (clause 10.4); then
-- lists with held matches (clause 10.5). And the lists that some choices make of such lists; and what some of the lists take from one factor to another
-- (clause 10.12).
-- Assumes nothing.
use Rattle.std.specs.Prelude.{ℕ, ◌*◌, ◌≡◌, List, [], ◌∷◌, ◌++◌, map}
use Rattle.format.specs.declared.Source.{Source}
use Rattle.format.specs.declared.Record.{Record}
use Rattle.format.specs.declared.Record.TheVariants.{New, Match}
use Rattle.format.specs.Record.{free_at, held_at}
use Rattle.format.specs.Meaning.{stored}
use Rattle.price.specs.declared.Price.{Price}
use Rattle.price.specs.declared.Rates.{Rates}
use Rattle.price.specs.Price.{price_at, rates_of, index_bytes}
use Rattle.choice.specs.Choice.{Bit, keep, store, list_of, cost_of, least}
use Rattle.linear.specs.Pass.{pass_choice, pass_looks}

pub record Worked : Type 0 where
  pub price : Price
  pub list : List Record
  pub choice : List Bit
  pub cost : ℕ
  pub pass_cost : ℕ
  pub looks : ℕ

abbrev pub worked : Price → List Record → List Bit → ℕ → ℕ → ℕ → Worked
worked p l c n m k = record { price = p; list = l; choice = c; cost = n; pass_cost = m; looks = k }

-- an example of clause 10.1, with its costs in disk bytes; the calls give 256 times as much
abbrev pub in_bytes : List Record → List Bit → ℕ → ℕ → ℕ → Worked
in_bytes l c n m k = worked (price_at 10 10 256) l c (256 * n) (256 * m) k

-- N1 M12 M60 M17 N1
abbrev pub between : List Record
between = New 1 ∷ Match 12 (free_at 0) ∷ Match 60 (free_at 50) ∷ Match 17 (free_at 200) ∷ New 1 ∷ []

-- M20 M4 M20
abbrev pub lone : List Record
lone = Match 20 (free_at 0) ∷ Match 4 (free_at 50) ∷ Match 20 (free_at 90) ∷ []

-- N5 M14 M14 N5, the matches drawn from a and b
abbrev pub parts : Source → Source → List Record
parts a b = New 5 ∷ Match 14 a ∷ Match 14 b ∷ New 5 ∷ []

-- M20 M4 M20, each match going on where the one before it ended
abbrev pub running : List Record
running = Match 20 (free_at 0) ∷ Match 4 (free_at 20) ∷ Match 20 (free_at 24) ∷ []

-- M20 N5 M20, the second match going on where the first ended, but for a new record between them
abbrev pub cut_run : List Record
cut_run = Match 20 (free_at 0) ∷ New 5 ∷ Match 20 (free_at 20) ∷ []

-- M8 M2 N1 M1, the second match going on where the first ended
abbrev pub tied : List Record
tied = Match 8 (free_at 0) ∷ Match 2 (free_at 8) ∷ New 1 ∷ Match 1 (free_at 50) ∷ []

-- no match of the sheets goes on in the store where the one before it ended
abbrev pub table : List Worked
table =
    in_bytes [] [] 0 0 0
    ∷ in_bytes (Match 1 (free_at 0) ∷ []) (keep ∷ []) 10 10 1
    ∷ in_bytes (New 5 ∷ Match 19 (free_at 0) ∷ New 5 ∷ []) (store ∷ store ∷ store ∷ []) 39 39 2
    ∷ in_bytes (New 5 ∷ Match 20 (free_at 0) ∷ New 5 ∷ []) (store ∷ keep ∷ store ∷ []) 40 40 3
    ∷ in_bytes (New 5 ∷ Match 19 (free_at 0) ∷ Match 19 (free_at 50) ∷ New 5 ∷ []) (store ∷ keep ∷ keep ∷ store ∷ []) 50 50 4
    ∷ in_bytes (New 1 ∷ Match 9 (free_at 0) ∷ []) (store ∷ store ∷ []) 20 20 2
    ∷ in_bytes (New 1 ∷ Match 10 (free_at 0) ∷ []) (store ∷ keep ∷ []) 21 21 2
    ∷ in_bytes (Match 4 (free_at 0) ∷ Match 4 (free_at 50) ∷ Match 4 (free_at 90) ∷ []) (store ∷ store ∷ store ∷ []) 22 22 4
    ∷ in_bytes (Match 6 (free_at 0) ∷ Match 6 (free_at 50) ∷ Match 6 (free_at 90) ∷ []) (store ∷ store ∷ store ∷ []) 28 30 3
    ∷ in_bytes (Match 10 (free_at 0) ∷ Match 4 (free_at 50) ∷ Match 4 (free_at 90) ∷ []) (keep ∷ store ∷ store ∷ []) 28 28 4
    ∷ worked (price_at 10 10 256) between (store ∷ keep ∷ keep ∷ keep ∷ store ∷ []) 13312 13312 5
    ∷ worked (price_at 10 10 384) between (store ∷ store ∷ keep ∷ keep ∷ store ∷ []) 18944 18944 5
    ∷ worked (price_at 10 10 512) between (store ∷ store ∷ keep ∷ store ∷ store ∷ []) 23296 23296 6
    ∷ worked (price_at 1 10 256) lone (keep ∷ store ∷ keep ∷ []) 6400 7680 3
    ∷ worked (price_at 10 1 256) (New 5 ∷ Match 19 (free_at 0) ∷ New 5 ∷ []) (store ∷ keep ∷ store ∷ []) 7936 7936 3
    ∷ worked (price_at 1 10 256) (Match 6 (free_at 0) ∷ Match 6 (free_at 50) ∷ Match 6 (free_at 90) ∷ []) (store ∷ store ∷ store ∷ []) 4864 4864 4
    ∷ worked (price_at 12 10 256) (Match 4 (free_at 0) ∷ Match 4 (free_at 50) ∷ Match 4 (free_at 90) ∷ []) (store ∷ store ∷ store ∷ []) 6144 7680 3
    -- a run is kept whose parts, where they do not go on, are stored
    ∷ in_bytes (parts (free_at 0) (free_at 14)) (store ∷ keep ∷ keep ∷ store ∷ []) 40 40 3
    ∷ in_bytes (parts (free_at 0) (free_at 50)) (store ∷ store ∷ store ∷ store ∷ []) 48 50 4
    -- to store the middle of a run would cost two entries more, where it is worth it in `lone`
    ∷ worked (price_at 1 10 256) running (keep ∷ keep ∷ keep ∷ []) 2560 2560 1
    -- a new record cuts a run
    ∷ in_bytes cut_run (keep ∷ store ∷ keep ∷ []) 35 35 3
    -- to store all would cost as much: the tie goes to 0 at the first record as handed in, and each record has its byte
    ∷ in_bytes tied (keep ∷ keep ∷ store ∷ store ∷ []) 22 22 3
    -- a held match is kept where it would be stored: sheet C's list, without a merge
    ∷ in_bytes (New 5 ∷ Match 19 (held_at 0) ∷ New 5 ∷ []) (store ∷ keep ∷ store ∷ []) 40 40 3
    -- a held match between two that would have fused with it, on sheet H's list; and a match before a held one, which is stored
    ∷ in_bytes (Match 4 (free_at 0) ∷ Match 4 (held_at 50) ∷ Match 4 (free_at 90) ∷ []) (keep ∷ keep ∷ keep ∷ []) 30 30 3
    ∷ in_bytes (New 5 ∷ Match 4 (free_at 0) ∷ Match 4 (held_at 4) ∷ []) (store ∷ store ∷ keep ∷ []) 29 29 3
    -- two neighbours that go on in the store are one record with equal marks, and two with different ones
    ∷ in_bytes (parts (held_at 0) (held_at 14)) (store ∷ keep ∷ keep ∷ store ∷ []) 40 40 3
    ∷ in_bytes (parts (free_at 0) (held_at 14)) (store ∷ keep ∷ keep ∷ store ∷ []) 50 50 4
    ∷ in_bytes (parts (held_at 0) (free_at 14)) (store ∷ keep ∷ keep ∷ store ∷ []) 50 50 4
    ∷ []

-- the rates of an example
abbrev pub rates : Worked → Rates
rates s = rates_of s.price

-- an example as the definitions have it
abbrev pub solved : Worked → Worked
solved s =
    let l = s.list in
    let c = least (rates s) l in
    worked s.price l c (cost_of (rates s) l c) (cost_of (rates s) l (pass_choice (rates s) l)) (pass_looks (rates s) l)

-- a choice of a list, the list that it makes, and what that costs at EN = EM = 10 and F 256
pub record Making : Type 0 where
  pub list : List Record
  pub choice : List Bit
  pub made : List Record
  pub cost : ℕ

abbrev pub making : List Record → List Bit → List Record → ℕ → Making
making l c m n = record { list = l; choice = c; made = m; cost = n }

-- costs in disk bytes, times 256; the middle of a run is stored for two entries and its 4 bytes, the tie is two rows, and held matches come last
abbrev pub makings : List Making
makings =
    making (parts (free_at 0) (free_at 14)) (store ∷ keep ∷ keep ∷ store ∷ []) (New 5 ∷ Match 28 (free_at 0) ∷ New 5 ∷ []) (256 * 40)
    ∷ making (parts (free_at 0) (free_at 50)) (store ∷ keep ∷ keep ∷ store ∷ []) (parts (free_at 0) (free_at 50)) (256 * 50)
    ∷ making running (keep ∷ keep ∷ keep ∷ []) (Match 44 (free_at 0) ∷ []) (256 * 10)
    ∷ making running (keep ∷ store ∷ keep ∷ []) (Match 20 (free_at 0) ∷ New 4 ∷ Match 20 (free_at 24) ∷ []) (256 * 34)
    ∷ making running (store ∷ store ∷ keep ∷ []) (New 24 ∷ Match 20 (free_at 24) ∷ []) (256 * 44)
    ∷ making cut_run (keep ∷ store ∷ keep ∷ []) cut_run (256 * 35)
    ∷ making tied (keep ∷ keep ∷ store ∷ store ∷ []) (Match 10 (free_at 0) ∷ New 2 ∷ []) (256 * 22)
    ∷ making tied (store ∷ store ∷ store ∷ store ∷ []) (New 12 ∷ []) (256 * 22)
    ∷ making (parts (held_at 0) (held_at 14)) (store ∷ keep ∷ keep ∷ store ∷ []) (New 5 ∷ Match 28 (held_at 0) ∷ New 5 ∷ []) (256 * 40)
    ∷ making (parts (free_at 0) (held_at 14)) (store ∷ keep ∷ keep ∷ store ∷ []) (parts (free_at 0) (held_at 14)) (256 * 50)
    ∷ making (parts (free_at 0) (held_at 14)) (store ∷ store ∷ keep ∷ store ∷ []) (New 19 ∷ Match 14 (held_at 14) ∷ New 5 ∷ []) (256 * 54)
    ∷ []

-- as the definitions have it
abbrev pub remade : Making → Making
remade m = making m.list m.choice (list_of m.list m.choice) (cost_of (rates_of (price_at 10 10 256)) m.list m.choice)

-- a list at a price: the index bytes and the stored bytes of the list that some choice makes of it
pub record Weighed : Type 0 where
  pub price : Price
  pub list : List Record
  pub index : ℕ
  pub stored : ℕ

abbrev pub weighed : Price → List Record → ℕ → ℕ → Weighed
weighed p l n m = record { price = p; list = l; index = n; stored = m }

-- at EN and EM, and at each of two factors
abbrev pub ends : ℕ → ℕ → ℕ → ℕ → List Record → ℕ → ℕ → List Weighed
ends en em f g l n m = weighed (price_at en em f) l n m ∷ weighed (price_at en em g) l n m ∷ []

-- by the least choice: both ends of each range of factors in which a list takes the same; at 768, and at 512, to store more would cost as much
abbrev pub weights : List Weighed
weights =
    ends 10 10 1 307 between 50 2
    ++ ends 10 10 308 435 between 40 14
    ++ ends 10 10 436 768 between 30 31
    ++ ends 10 10 769 65535 between 10 91
    ++ ends 1 10 1 113 lone 30 0
    ++ ends 1 10 114 512 lone 21 4
    ++ ends 1 10 513 65535 lone 1 44
    ++ ends 10 1 1 442 (New 5 ∷ Match 19 (free_at 0) ∷ New 5 ∷ []) 21 10
    ++ ends 10 1 443 65535 (New 5 ∷ Match 19 (free_at 0) ∷ New 5 ∷ []) 10 29
    ++ ends 10 10 1 358 (parts (free_at 0) (free_at 14)) 30 10
    ++ ends 10 10 359 65535 (parts (free_at 0) (free_at 14)) 10 38
    ++ ends 10 10 1 65535 (New 5 ∷ Match 19 (held_at 0) ∷ New 5 ∷ []) 30 10

-- N2 M10 M3 M14
abbrev pub backwards : List Record
backwards = New 2 ∷ Match 10 (free_at 0) ∷ Match 3 (free_at 50) ∷ Match 14 (free_at 90) ∷ []

-- by the pass's choice: at the greater factor more index bytes, and fewer stored ones
abbrev pub pass_weights : List Weighed
pass_weights = weighed (price_at 1 10 256) backwards 1 29 ∷ weighed (price_at 1 10 320) backwards 11 15 ∷ []

-- as the definitions have it
abbrev pub reweighed : (Rates → List Record → List Bit) → Weighed → Weighed
reweighed choose w =
    let l = list_of w.list (choose (rates_of w.price) w.list) in
    weighed w.price w.list (index_bytes w.price l) (stored l)

-- the definitions have each as the tables have it
abbrev pub TableHolds : Type 0
TableHolds =
    (map solved table ≡ table)
    × (map remade makings ≡ makings)
    × (map (reweighed least) weights ≡ weights)
    × (map (reweighed pass_choice) pass_weights ≡ pass_weights)
