-- Each ticket has one wait in a chart.
use Rattle.std.proofs.Common.{◌≡◌, ℕ, ◌<◌, ◌==◌, Bool, true, ◌&&◌, List, []}
use Rattle.std.proofs.Common.{◌∷◌, length, filter}
use Rattle.std.proofs.Common.{refl, sym, ap, ap₂, ◌∙◌, subst, nat_lt, eq-eqb, eqb-true}
use Rattle.std.proofs.Common.{ltb-true, inl}
use Rattle.std.specs.Prelude.{IsTrue}
use Rattle.std.specs.List.{list_any}
use Rattle.std.proofs.lemmas.Bool.{and_parts}
use Rattle.cmwq_lemmas.proofs.Members.{In, in_filter, of_in}
use Rattle.cmwq_model.specs.declared.entry.Entry.{Entry}
use Rattle.cmwq_model.specs.declared.id.CallerId.{CallerId}
use Rattle.cmwq_model.specs.declared.id.Who.{Who}
use Rattle.cmwq_model.specs.declared.id.Who.TheVariants.{Caller}
use Rattle.cmwq_model.specs.Prelude.{IsLegal, Layout, fits, gives_ticket, has_numbers, is_callers}
use Rattle.cmwq_model.specs.Prelude.{is_layout, past_of, same_who}
use Rattle.cmwq_model.proofs.Growing.{older_are_legal}
use Rattle.cmwq_theory_steps.proofs.Causes.{cause_of}
use Rattle.cmwq_theory_steps.proofs.Reasons.{legal_fits, ticket_reason}
use Rattle.cmwq_chart.specs.declared.waits.CallerWait.{CallerWait}
use Rattle.cmwq_chart.specs.Bars.{bars_of}
use Rattle.cmwq_chart.specs.CallerWaits.{callers_of, caller_waits_of, wait_signs_of, waits_by}
use Rattle.cmwq_chart.specs.Lanes.{lanes_of}
use Rattle.cmwq_chart.specs.Levels.{levels_of}
use Rattle.cmwq_chart.specs.Shapes.{places_in}
use Rattle.cmwq_chart.specs.Signs.{signs_of}
use Rattle.cmwq_chart.specs.Sleeps.{sleeps_of}
use Rattle.cmwq_chart_text.specs.declared.figures.Figure.TheVariants as figure
use Rattle.cmwq_chart_text.specs.declared.page.Window.{Window}
use Rattle.cmwq_output_laws.specs.BarLaws.{StandsIn}
use Rattle.cmwq_chart_laws.specs.Charts.{chart_figures, chart_page}
use Rattle.cmwq_chart_laws.specs.Waits.{HasOneWaitDrawn, TicketsAreDrawn, ends_wait_of, is_wait_from}
use Rattle.cmwq_chart_laws.proofs.Causing.{IsWaitOf, waits_caused}
use Rattle.cmwq_chart_laws.proofs.ChartRows.{charts_are_of_rows, waits_rows}
use Rattle.cmwq_chart_laws.proofs.Once.{is_drawn_once, one_wait}
use Rattle.cmwq_chart_laws.proofs.Tickets.{counts_one, goes_on, one_passes, waits_alone}

-- who got a ticket is a caller of the shape
pub caller_there : (s : Layout) (e : Entry) (c : CallerId) → IsTrue (fits s e.who e.call) → e.who ≡ Caller c
    → c.0 < s.callers
caller_there s e c fit is =
    let h : ((nat_lt c.0 s.callers && is_callers e.call) && has_numbers s e.call) ≡ true =
    subst (λ (x : Who). fits s x e.call ≡ true) is fit in
    let k = and_parts (nat_lt c.0 s.callers && is_callers e.call) (has_numbers s e.call) h in
    ltb-true c.0 s.callers (and_parts (nat_lt c.0 s.callers) (is_callers e.call) k.0).0

module _ (w : Window) (s : Layout) (entries : List Entry) (is : IsTrue (is_layout s))
    (legal : IsLegal s (past_of entries))
    (e : Entry) (before : List Entry) (c : CallerId) (stands : StandsIn (past_of entries) e before)
    (by_caller : e.who ≡ Caller c) (gives : gives_ticket e.reply ≡ true) (there : c.0 < s.callers) where
  past : List Entry
  past = past_of entries

  abbrev its : CallerWait → Bool
  its x = x.from == length before

  one : (x : CallerWait) × (filter its (waits_by (past_of entries) c) ≡ x ∷ [])
  one = one_passes its (waits_by (past_of entries) c) (counts_one s entries e before c stands by_caller there gives)

  listed : (x : CallerWait) → filter its (waits_by (past_of entries) c) ≡ x ∷ []
      → In x (waits_by (past_of entries) c) × (its x ≡ true)
  listed x alone = in_filter its (waits_by (past_of entries) c) x (subst (λ l. In x l) (sym alone) (inl refl))

  made : (x : CallerWait) → filter its (waits_by (past_of entries) c) ≡ x ∷ []
      → HasOneWaitDrawn w s entries e before stands.after
  made x alone =
      let l = listed x alone in
      let same : x.caller ≡ c = of_in (λ (y : CallerWait). y.caller ≡ c) (waits_by (past_of entries) c) x
      (waits_rows (λ d. d ≡ c) (past_of entries) c refl) l.0 in
      let of_it = of_in (IsWaitOf (past_of entries)) (waits_by (past_of entries) c) x
      (waits_caused (past_of entries) c) l.0 in
      record {
        wait = x;
        from = eqb-true x.from (length before) l.1;
        by_caller = by_caller ∙ ap Caller (sym same);
        ends = of_it.1;
        goes_on = λ lasts.
            ap₂ (λ (d : CallerId) (k : ℕ). list_any (ends_wait_of d k) stands.after) same
            (eqb-true x.from (length before) l.1)
            ∙ goes_on c (length before) stands.after e before x refl
            (ap (λ (y : Who). same_who y (Caller c)) by_caller ∙ eq-eqb c.0 c.0 refl) gives
            (subst (λ (h : List Entry). filter its (waits_by h c) ≡ x ∷ []) stands.parts alone) lasts;
        drawn = is_drawn_once (chart_page w entries) (chart_figures s entries) (charts_are_of_rows w s entries is legal)
            (is_wait_from (length before)) (figure.Wait x)
            (one_wait (is_wait_from (length before)) (caller_waits_of (past_of entries) (callers_of s entries))
            (wait_signs_of (past_of entries) (callers_of s entries)) (bars_of (past_of entries))
            (sleeps_of (past_of entries) (lanes_of s entries)) (signs_of (past_of entries))
            (levels_of s (past_of entries) (places_in s entries)) x
            (waits_alone s entries e before c stands by_caller there gives ∙ alone) (λ y. refl) (λ y. refl) (λ y. refl)
            (λ y. refl) (λ y. refl)) refl;
      }

  pub ticket_is_drawn : HasOneWaitDrawn w s entries e before stands.after
  ticket_is_drawn = made one.0 one.1

pub tickets_are_drawn : TicketsAreDrawn
tickets_are_drawn w s entries is legal e before stands gives =
    let older : IsLegal s (e ∷ before) = older_are_legal s stands.after (e ∷ before)
    (subst (IsLegal s) stands.parts legal) in
    let fit = legal_fits s before e older in
    let caller = ticket_reason s before e.who e.call e.reply fit (cause_of s before e older) gives in
    ticket_is_drawn w s entries is legal e before caller.0 stands caller.1 gives
    (caller_there s e caller.0 fit caller.1)
