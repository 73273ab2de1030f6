-- Rows of numbers: each is its template, filled with its numbers.
use Rattle.std.specs.Prelude.{ℕ, List, flat_map}
use Rattle.cmwq_chart_text.specs.Filled.{filled_template}

abbrev pub row_text : {T : Type 0} → (T → List ℕ) → (T → List ℕ) → T → List ℕ
row_text template_of numbers_of row = filled_template (template_of row) (numbers_of row)

abbrev pub rows_text : {T : Type 0} → (T → List ℕ) → (T → List ℕ) → List T → List ℕ
rows_text template_of numbers_of rows = flat_map (row_text template_of numbers_of) rows
