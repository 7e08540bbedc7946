-- The program `partition` (section 9): the text that it writes for what its files hold.
-- Assumes nothing.
use Rattle.std.specs.Prelude.{ℕ, ◌+◌, ◌≤◌, List, length, Ok, Err}
use Rattle.format.specs.declared.Record.{Record}
use Rattle.format.specs.declared.Figures.{Figures}
use Rattle.format.specs.Refusal.{Ruling}
use Rattle.format.specs.Record.{records_of}
use Rattle.price.specs.declared.Rates.{Rates}
use Rattle.price.specs.declared.Price.{Price}
use Rattle.price.specs.Price.{rates_of}
use Rattle.choice.specs.Choice.{list_of, least}
use Rattle.admit.specs.Admit.{findings}
use Rattle.writer.specs.Decide.{figures}
use Rattle.linear.specs.Pass.{pass_choice, pass_looks}
use Rattle.report.specs.declared.Text.{Text}
use Rattle.report.specs.Text.{report_text, refusal_text}

-- the least choice's list and figures, with the pass's figures y; or only the refusal
abbrev pub text_for : Ruling → Rates → List Record → Figures → List ℕ
text_for (Ok _) r l y = report_text (list_of l (least r l)) (figures r (list_of l (least r l)) 0) y
text_for (Err x) r l y = refusal_text x

abbrev pub pass_figures : Rates → List Record → Figures
pass_figures r l = figures r (list_of l (pass_choice r l)) (pass_looks r l)

abbrev pub program_text : Price → List ℕ → List ℕ → List ℕ → List ℕ
program_text price list v st = text_for (findings price list v st) (rates_of price) (records_of list) (pass_figures (rates_of price) (records_of list))

-- an area that is long enough, behind what stands in it, for the text of files of at most 65,536 bytes
pub record Fits (list v : List ℕ) (text : Text) : Type 0 where
  pub list_at_most : length list ≤ 65536
  pub version_at_most : length v ≤ 65536
  pub in_text : text.len + 262144 ≤ length text.area.now
