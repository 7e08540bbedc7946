-- The text of the program `partition` (clauses 9.3 to 9.7): numbers in decimal, the line of a record, the line of figures, a refusal, a bad file.
-- Assumes nothing.
use Rattle.std.specs.Prelude.{ℕ, zero, suc, ◌+◌, ◌/◌, ◌%◌, ◌≤◌, ◌≡◌, cond, List, [], ◌∷◌, ◌++◌, ltb, length}
use Rattle.format.specs.declared.Record.{Record}
use Rattle.format.specs.declared.Record.TheVariants.{New, Match}
use Rattle.format.specs.declared.Figures.{Figures}
use Rattle.format.specs.declared.Refusal.{Refusal}
use Rattle.format.specs.Refusal.{number}
use Rattle.area.specs.Area.{pasted}
use Rattle.report.specs.declared.Text.{Text}

-- a number of at most so many digits in decimal
abbrev pub decimal_in : ℕ → ℕ → List ℕ
decimal_in zero n = []
decimal_in (suc k) n = cond (ltb n 10) ((48 + n) ∷ []) (decimal_in k (n / 10) ++ ((48 + n % 10) ∷ []))

-- a 64-bit number in decimal
unfoldable pub decimal : ℕ → List ℕ
decimal n = decimal_in 20 n

-- a word and a number after it; the same at the end of a line
abbrev pub field : List ℕ → ℕ → List ℕ
field w n = w ++ decimal n

abbrev pub last_field : List ℕ → ℕ → List ℕ
last_field w n = field w n ++ (10 ∷ [])

-- `N size` or `M size address`; the mark is not printed
abbrev pub record_text : Record → List ℕ
record_text (New s) = last_field (78 ∷ 32 ∷ []) s
record_text (Match s a) = field (77 ∷ 32 ∷ []) s ++ last_field (32 ∷ []) a.address

abbrev pub records_text : List Record → List ℕ
records_text [] = []
records_text (r ∷ l) = record_text r ++ records_text l

-- partition's part of the line of figures, `cost 39 entries 1 bytes 29`
abbrev pub least_text : Figures → List ℕ
least_text x =
    field (99 ∷ 111 ∷ 115 ∷ 116 ∷ 32 ∷ []) x.cost
    ++ field (32 ∷ 101 ∷ 110 ∷ 116 ∷ 114 ∷ 105 ∷ 101 ∷ 115 ∷ 32 ∷ []) x.entries
    ++ field (32 ∷ 98 ∷ 121 ∷ 116 ∷ 101 ∷ 115 ∷ 32 ∷ []) x.stored

-- the pass's part, ` pass 39 steps 2`
abbrev pub pass_text : Figures → List ℕ
pass_text y = field (32 ∷ 112 ∷ 97 ∷ 115 ∷ 115 ∷ 32 ∷ []) y.cost ++ last_field (32 ∷ 115 ∷ 116 ∷ 101 ∷ 112 ∷ 115 ∷ 32 ∷ []) y.looks

-- each written record, then one line with partition's figures x and the pass's y
abbrev pub report_text : List Record → Figures → Figures → List ℕ
report_text l x y = records_text l ++ (least_text x ++ pass_text y)

-- `refused 7 at 1`
abbrev pub refusal_text : Refusal → List ℕ
refusal_text r = field (114 ∷ 101 ∷ 102 ∷ 117 ∷ 115 ∷ 101 ∷ 100 ∷ 32 ∷ []) (number r.fault) ++ last_field (32 ∷ 97 ∷ 116 ∷ 32 ∷ []) r.place

-- `bad file price`
abbrev pub bad_file_text : List ℕ → List ℕ
bad_file_text name = (98 ∷ 97 ∷ 100 ∷ 32 ∷ 102 ∷ 105 ∷ 108 ∷ 101 ∷ 32 ∷ []) ++ name ++ (10 ∷ [])

-- s written over an area from `at` on, and the place r after it
pub record Written (at : ℕ) (s area : List ℕ) (r : ℕ) (after : List ℕ) : Type 0 where
  pub place : r ≡ at + length s
  pub area_after : after ≡ pasted at s area

-- s written at the end of a text, in the same area
pub record Wrote (before : Text) (s : List ℕ) (after : Text) : Type 0 where
  pub same_area : after.area.ghost_name ≡ before.area.ghost_name
  pub written : Written before.len s before.area.now after.len after.area.now

-- the area of a text has room for s at its end
pub record HasRoom (t : Text) (s : List ℕ) : Type 0 where
  pub behind : t.len + length s ≤ length t.area.now
