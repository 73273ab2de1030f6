-- The steps of one call more, from what became of the book.
use Rattle.cmwq_cmd_history.specs.Common.{◌≡◌, ℕ, ◌+◌, true, false, ◌∷◌, refl, sym, Who, Call, Layout, Steps, step}
use Rattle.cmwq_cmd_history.specs.Common.{History, past_in, takes, next_entry}

module _ (s : Layout) (room : ℕ) (h : History) (layout_is : h.layout ≡ s) (room_is : h.room ≡ room) where
  -- a call that a book takes is the newest entry of the steps
  pub step_taken : (t : Steps) (c : Who × Call) → past_in h ≡ t.past → takes h c.0 c.1 ≡ true
      → step s room t c ≡ record { past = next_entry h c.0 c.1 ∷ past_in h; left_out = t.left_out }
  step_taken t c same taken = rw (sym layout_is) (rw (sym room_is) (rw (sym same) (rw taken refl)))

  -- a call that it refuses is left out of them
  pub step_refused : (t : Steps) (c : Who × Call) → past_in h ≡ t.past → takes h c.0 c.1 ≡ false
      → step s room t c ≡ record { past = past_in h; left_out = t.left_out + 1 }
  step_refused t c same refused = rw (sym layout_is) (rw (sym room_is) (rw (sym same) (rw refused refl)))
