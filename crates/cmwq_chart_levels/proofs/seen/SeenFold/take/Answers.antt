use Rattle.std.proofs.Common.{List, ◌∷◌, ◌++◌, [], option_to_list, ap, ap₂, ◌∙◌, subst}
use Rattle.std.proofs.lemmas.List.{reverse-append}
use Rattle.cmwq_model.specs.declared.entry.Entry.{Entry}
use Rattle.cmwq_model.specs.Prelude.{Layout, opening, past_of, queueings}
use Rattle.cmwq_chart.specs.Intervals.{AreIntervals}
use Rattle.cmwq_chart.specs.Levels.{level_number_of, most_places}
use Rattle.cmwq_chart.specs.Marks.{AreMarks}
use Rattle.cmwq_chart_levels.proofs.seen.SeenFold.take.Goals as goal

pub returns : goal.returns
unfolding queueings
returns c =
    let s = c.args.step.now in
    let is = c.requires in
    let told = c.told-effect.ensures.next.told_is in
    let opened = ap (λ f. f.opened) c.told-effect.ensures.told ∙ told.1.opened
    ∙ ap (opening s.past) told.0 in
    let kept = c.args.self.now.intervals in
    record {
      entries = ap past_of c.in_ok-push_entry.ensures
          ∙ reverse-append c.args.self.now.entries.items (c.entry-entry.result.now ∷ [])
          ∙ ap (λ e. e ∷ past_of c.args.self.now.entries.items) c.entry-entry.ensures
          ∙ ap (λ l. s.entry ∷ l) is.entries;
      intervals = subst (λ (l : Layout). AreIntervals l (s.entry ∷ s.past) c.take.new.self) is.intervals.shape
          (subst (λ (p : List Entry). AreIntervals kept.shape p c.take.new.self)
          (ap₂ (λ e p. e ∷ p) c.entry-entry.ensures (ap past_of c.deref.ensures.value ∙ is.entries))
          c.in_ok-take.ensures);
      used = subst
          (λ o. AreMarks level_number_of (queueings s.past ++ option_to_list o) most_places c.mark_opened.new.used.items)
          opened (c.mark_opened.ensures (queueings s.past) is.used);
      levels = c.in_ok-update_all.ensures;
    }
