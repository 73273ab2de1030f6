-- Where the waits of runs lead, wait by wait.
use Rattle.std.proofs.Common.{◌≡◌, ◌∙◌, ℕ, ◌+◌, List, Option, Some, add-one, ap, option_and_then, refl}
use Rattle.cmwq_model.specs.declared.entry.Entry.{Entry}
use Rattle.cmwq_model.specs.Prelude.{Layout}
use Rattle.cmwq_views.specs.Lent.{next_row}
unfoldable use Rattle.cmwq_views.specs.Lent.{row_after}

pub first_row : (s : Layout) (past : List Entry) (k : ℕ) → Some k ≡ row_after s past k 0
unfolding row_after
first_row s past k = refl

after_more : (s : Layout) (past : List Entry) (k n : ℕ)
    → option_and_then (next_row s past) (row_after s past k n) ≡ row_after s past k (n + 1)
unfolding row_after
after_more s past k n = rw (add-one n) refl

-- one wait more
pub row_goes_on : (s : Layout) (past : List Entry) (k n : ℕ) (o p : Option ℕ) → o ≡ row_after s past k n
    → p ≡ option_and_then (next_row s past) o → p ≡ row_after s past k (n + 1)
row_goes_on s past k n o p is next = next ∙ ap (option_and_then (next_row s past)) is ∙ after_more s past k n
