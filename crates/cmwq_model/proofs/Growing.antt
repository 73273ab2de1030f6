-- Histories that grow, as they are kept, with the oldest entry first, and as they are seen, with the newest first.
use Rattle.std.proofs.Common.{◌≡◌, ◌+◌, ◌<◌, ℕ, List, [], ◌∷◌, ◌++◌, length, take, drop, get_or, reverse, sym, ap, ◌∙◌}
use Rattle.std.proofs.Common.{subst, arith, add-one}
use Rattle.std.proofs.Math.Seq.{split_at}
use Rattle.std.proofs.lemmas.List.{length-take-le, reverse-append, reverse-reverse, take_more}
use Rattle.cmwq_model.specs.declared.entry.Entry.{Entry}
use Rattle.cmwq_model.specs.declared.verdict.Wanted.{Wanted}
use Rattle.cmwq_model.specs.Layout.{Layout}
use Rattle.cmwq_model.specs.Legal.{IsLegal, entry_for, past_of}
use Rattle.cmwq_model.specs.Verdict.{AllFit, Wants, IsFirstWrong}

pub nothing_is_legal : (s : Layout) → IsLegal s []
unfolding IsLegal
nothing_is_legal s = tt

pub older_are_legal : (s : Layout) (newer past : List Entry) → IsLegal s (newer ++ past) → IsLegal s past
unfolding IsLegal
older_are_legal s [] past h = h
older_are_legal s (e ∷ newer) past h = older_are_legal s newer past h.2

pub fronts_are_legal : (s : Layout) (front rest : List Entry) → IsLegal s (past_of (front ++ rest))
    → IsLegal s (past_of front)
fronts_are_legal s front rest h =
    older_are_legal s (reverse rest) (reverse front) (subst (IsLegal s) (reverse-append front rest) h)

pub one_more_is_newest : (entries : List Entry) (e : Entry) → past_of (entries ++ e ∷ []) ≡ e ∷ past_of entries
one_more_is_newest entries e = reverse-append entries (e ∷ [])

pub longer_begin_with_older : (older longer : List Entry) (e : Entry) → past_of longer ≡ e ∷ past_of older
    → longer ≡ older ++ e ∷ []
longer_begin_with_older older longer e h =
    sym (reverse-reverse longer) ∙ ap reverse (h ∙ sym (one_more_is_newest older e)) ∙ reverse-reverse (older ++ e ∷ [])

-- ---- the first entries of a history, and one more

pub past_more : (entries : List Entry) (k : ℕ) (d : Entry) → k < length entries
    → past_of (take (k + 1) entries) ≡ get_or entries k d ∷ past_of (take k entries)
past_more entries k d h = ap reverse (take_more entries k d h)
    ∙ reverse-append (take k entries) (get_or entries k d ∷ [])

module _ (s : Layout) (entries : List Entry) (k : ℕ) (d : Entry) where
  -- an entry that is right keeps the history legal
  pub legal_more : k < length entries → AllFit s entries → IsLegal s (past_of (take k entries))
      → get_or entries k d ≡ entry_for s (past_of (take k entries)) (get_or entries k d).who (get_or entries k d).call
      → IsLegal s (past_of (take (k + 1) entries))
  unfolding IsLegal
  legal_more h fit legal right = subst (IsLegal s) (sym (past_more entries k d h)) (fit k d h, right, legal)

  -- an entry after a legal history that isn't right is the first that is wrong
  pub first_wrong : (w : Wanted) → k < length entries → IsLegal s (past_of (take k entries))
      → Wants s (past_of (take k entries)) (get_or entries k d) w
      → IsFirstWrong s entries (record { at = k; wanted = w })
  first_wrong w h legal wants = record {
    before = take k entries;
    entry = get_or entries k d;
    rest = drop (k + 1) entries;
    parts = rw add-one (split_at entries k d h);
    place = sym (length-take-le k entries (omega arith));
    is_legal = legal;
    wants = wants;
  }
