-- A run of the program `partition` (section 9): its whole text, for what came of reading each of the four files.
-- Assumes nothing.
use Rattle.std.specs.Borrow.{Bor}
use Rattle.std.specs.Prelude.{ℕ, ◌+◌, ◌≤◌, List, [], ◌∷◌, length, Option, Some, None, IfSome, option_copied}
use Rattle.price.specs.declared.Price.{Price}
use Rattle.console.specs.Price.{price_in}
use Rattle.report.specs.declared.Text.{Text}
use Rattle.report.specs.Text.{bad_file_text}
use Rattle.listing.specs.Program.{program_text}

-- what came of reading a file: its bytes; or nothing, where it is bad, as one that is missing or longer than 65,536 bytes
abbrev pub File : Type 0
File = Option (List ℕ)

-- a price not of 6 bytes is bad too
abbrev pub price_of_file : File → Option Price
price_of_file (Some s) = price_in s
price_of_file None = None

-- `price`, `items`, `version`, `store`
abbrev pub price_name : List ℕ
price_name = 112 ∷ 114 ∷ 105 ∷ 99 ∷ 101 ∷ []

abbrev pub items_name : List ℕ
items_name = 105 ∷ 116 ∷ 101 ∷ 109 ∷ 115 ∷ []

abbrev pub version_name : List ℕ
version_name = 118 ∷ 101 ∷ 114 ∷ 115 ∷ 105 ∷ 111 ∷ 110 ∷ []

abbrev pub store_name : List ℕ
store_name = 115 ∷ 116 ∷ 111 ∷ 114 ∷ 101 ∷ []

-- the first bad file, in the order price, items, version, store, is named; otherwise the text is that of what the files hold
abbrev pub text_of_files : Option Price → File → File → File → List ℕ
text_of_files None items version store = bad_file_text price_name
text_of_files (Some k) None version store = bad_file_text items_name
text_of_files (Some k) (Some l) None store = bad_file_text version_name
text_of_files (Some k) (Some l) (Some v) None = bad_file_text store_name
text_of_files (Some k) (Some l) (Some v) (Some s) = program_text k l v s

abbrev pub run_text : File → File → File → File → List ℕ
run_text price items version store = text_of_files (price_of_file price) items version store

-- what came of reading a file, by the bytes that were read
abbrev pub file_in : Option (Bor (List ℕ)) → File
file_in bytes = option_copied bytes

-- what came of reading items and version, and an area that is long enough, behind what stands in it, for the text
pub record Loaded (items version : File) (text : Text) : Type 0 where
  pub items_at_most : IfSome items (λ s. length s ≤ 65536)
  pub version_at_most : IfSome version (λ s. length s ≤ 65536)
  pub in_text : text.len + 262144 ≤ length text.area.now
