-- A summary is that of a history with each step.
use Rattle.std.proofs.Common.{◌≡◌, ◌<◌, ◌≤◌, ◌∷◌, [], ℕ, true, List, length, ap, ap₂, sym, ◌∙◌, arith}
use Rattle.std.proofs.lemmas.Bool.{and_parts, leb-true}
use Rattle.std.proofs.lemmas.List.{length-reverse, reverse-append}
use Rattle.cmwq_model.specs.declared.entry.Entry.{Entry}
use Rattle.cmwq_model.specs.Prelude.{Layout, entry_for, has_time, most_room, past_of, room_needed}
use Rattle.cmwq_state.specs.Effects.{IsEffect}
use Rattle.cmwq_state.specs.declared.effect.Effect.{Effect}
use Rattle.cmwq_state.specs.Pwqs.{AreActiveCounts}
use Rattle.cmwq_core.specs.Judged.{Judged}
use Rattle.cmwq_summary.specs.Summed.{Summed, past_summed, summed_with}
use Rattle.cmwq_history.specs.Steps.{IsNext, Stepped, after}
use Rattle.cmwq_history.proofs.Followed.{same_entries}
use Rattle.cmwq_views.specs.Summary.{IsSummaryOf, summed_of}

module _ (s : Stepped Effect) (h : Summed) (is : IsSummaryOf s.layout s.past h)
    (next : IsNext (λ l past e f. (f.entry ≡ e) × IsEffect l past f) s) where
  pub effect_is : IsEffect h.layout (past_summed h) s.told
  effect_is = rw (is.layout, is.past_is) next.told_is.1

  pub has_its_time : has_time (past_summed h) s.told.entry.call ≡ true
  has_its_time = rw (is.past_is, next.told_is.0) (and_parts _ _ next.few).0

  pub are_few : length h.entries < 4611686018427387904
  are_few =
      let needed : room_needed s.layout (entry_for s.layout s.past s.entry.who s.entry.call
      ∷ s.past) ≤ most_room = leb-true _ _ (and_parts _ _ next.few).1 in
      let long : length s.past ≡ length h.entries = sym (ap (λ (l : List Entry). length l) is.past_is)
      ∙ length-reverse h.entries in
      omega arith

  pub counts_are : (counts : List ℕ) → AreActiveCounts s.layout (after s) counts
      → AreActiveCounts h.layout (s.told.entry ∷ past_summed h) counts
  counts_are counts are = rw (is.layout, is.past_is, next.told_is.0) are

  pub is_after : IsSummaryOf s.layout (after s) (summed_with h s.told.entry)
  is_after =
      record {
        layout = is.layout;
        past_is = reverse-append h.entries (s.told.entry ∷ [])
            ∙ ap₂ (λ (e : Entry) (l : List Entry). e ∷ l) next.told_is.0 is.past_is;
      }

pub summary_is : (j : Judged) (h : Summed) → IsSummaryOf j.layout (past_of j.entries) h → h ≡ summed_of j
summary_is j h is =
    ap₂ (λ (s : Layout) (es : List Entry). let made : Summed = record { layout = s; entries = es } in made) is.layout
    (same_entries h.entries j.entries is.past_is)
