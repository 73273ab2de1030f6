-- What a run of `summary` reads, writes and answers.
use Rattle.std.specs.Prelude.{◌≡◌, ℕ, List, Result, Option}
use Rattle.cmwq_model.specs.declared.entry.Entry.{Entry}
use Rattle.cmwq_model.specs.declared.verdict.Illegal.{Illegal}
use Rattle.cmwq_model.specs.Prelude.{Layout, past_of}
use Rattle.cmwq_base.specs.declared.refusal.Refusal.{Refusal}
use Rattle.cmwq_base.specs.Files.{File}
use Rattle.cmwq_core.specs.Judged.{Judged}
use Rattle.cmwq_summary.specs.Summed.{Summed}
use Rattle.cmwq_history.specs.Views.{ViewEnds}
use Rattle.cmwq_views.specs.Page.{page_text}

-- the summary of what a judge has seen, and of a past
abbrev pub summed_of : Judged → Summed
summed_of j = record { layout = j.layout; entries = j.entries }

pub record IsSummaryOf (s : Layout) (past : List Entry) (h : Summed) : Type 0 where
  pub layout : h.layout ≡ s
  pub past_is : past_of h.entries ≡ past

-- of a legal history the page of its summary
abbrev pub summary_text : File Entry → List ℕ
summary_text f = page_text f.layout (past_of f.items)

abbrev pub SummaryEnds : List ℕ → Option (List ℕ) → Option (List ℕ) → Result (Option Illegal) Refusal → Type 0
SummaryEnds text old new ended = ViewEnds summary_text text old new ended
