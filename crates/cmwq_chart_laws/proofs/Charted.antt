-- What a chart has of each entry: the bar of a start, and the sign of a call that has one.
use Rattle.std.proofs.Common.{◌≡◌, ℕ, ◌<◌, ◌≤◌, ◌==◌, Bool, false, List, [], ◌∷◌, ◌++◌, length, filter, cond}
use Rattle.std.proofs.Common.{◌⊎◌, inl, inr, Option, Some, None, option_map, option_to_list, refl, sym, ap, ap₂, ◌∙◌}
use Rattle.std.proofs.Common.{subst, arith, eq-eqb, eqb-true, length-append}
use Rattle.std.proofs.lemmas.Bool.Decides.{nat_tests}
use Rattle.std.proofs.lemmas.List.Elements.{filter-append}
use Rattle.cmwq_lemmas.proofs.Members.{In, in_filter}
use Rattle.cmwq_model.specs.declared.entry.Entry.{Entry}
use Rattle.cmwq_model.specs.Prelude.{past_of}
use Rattle.cmwq_chart.specs.declared.signs.Sign.{Sign}
use Rattle.cmwq_chart.specs.declared.signs.SignKind.{SignKind}
use Rattle.cmwq_chart.specs.Bars.{bars_of}
use Rattle.cmwq_chart.specs.CallerWaits.{callers_of, caller_waits_of, wait_signs_of}
use Rattle.cmwq_chart.specs.Lanes.{lanes_of}
use Rattle.cmwq_chart.specs.Levels.{levels_of}
use Rattle.cmwq_chart.specs.Shapes.{places_in}
use Rattle.cmwq_chart.specs.Signs.{sign_at, sign_kind, sign_of, signs_of}
use Rattle.cmwq_chart.specs.Sleeps.{sleeps_of}
use Rattle.cmwq_chart_text.specs.declared.figures.Figure.TheVariants as figure
use Rattle.cmwq_views.specs.Chart.{chart_text}
use Rattle.cmwq_output_laws.specs.BarLaws.{HasOneBar, begins_at}
use Rattle.cmwq_output_laws.proofs.OneBar.{starts_have_one_bar}
use Rattle.cmwq_chart_laws.specs.Charts.{ChartsAreOfParts, SignsAreDrawn, StartsAreDrawn, chart_figures}
use Rattle.cmwq_chart_laws.specs.Charts.{chart_page, is_bar_from, is_sign_at}
use Rattle.cmwq_chart_laws.proofs.ChartRows.{charts_are_of_rows}
use Rattle.cmwq_chart_laws.proofs.Once.{is_drawn_once, one_bar, one_sign}

pub charts_are_of_parts : ChartsAreOfParts
unfolding chart_text
charts_are_of_parts w s entries = refl

-- ---- bars

pub starts_are_drawn : StartsAreDrawn
starts_are_drawn w s entries is legal e before n stands started =
    let past : List Entry = past_of entries in
    let h : HasOneBar past e before n = starts_have_one_bar s past legal e before n stands started in
    let listed = in_filter (begins_at (length before)) (bars_of past) h.bar
    (subst (λ l. In h.bar l) (sym h.only) (inl refl)) in
    record {
      bar = h.bar;
      from = eqb-true h.bar.from (length before) listed.1;
      by_worker = h.by_worker;
      number = h.number;
      item = h.item;
      ends = h.ends;
      drawn = is_drawn_once (chart_page w entries) (chart_figures s entries) (charts_are_of_rows w s entries is legal)
          (is_bar_from (length before)) (figure.Bar h.bar)
          (one_bar (is_bar_from (length before)) (caller_waits_of past (callers_of s entries))
          (wait_signs_of past (callers_of s entries)) (bars_of past) (sleeps_of past (lanes_of s entries))
          (signs_of past) (levels_of s past (places_in s entries)) h.bar h.only (λ y. refl) (λ y. refl) (λ y. refl)
          (λ y. refl) (λ y. refl)) refl;
    }

-- ---- signs

abbrev sign_there : ℕ → Sign → Bool
sign_there at g = g.at == at

apart_places : (a b : ℕ) → (a < b) ⊎ (b < a) → (a == b) ≡ false
apart_places a b (inl h) = grind (arith, nat_tests)
apart_places a b (inr h) = grind (arith, nat_tests)

none_here : (e : Entry) (n at : ℕ) → (n == at) ≡ false → filter (sign_there at) (option_to_list (sign_of e n)) ≡ []
none_here e n at other = here (sign_kind e.reply)
  where
    here : (o : Option SignKind) → filter (sign_there at) (option_to_list (option_map (sign_at e n) o)) ≡ []
    here None = refl
    here (Some kind) = ap (λ b. cond b (sign_at e n kind ∷ []) []) other

none_yet : (past : List Entry) (at : ℕ) → length past ≤ at → filter (sign_there at) (signs_of past) ≡ []
unfolding signs_of
none_yet [] at h = refl
none_yet (x ∷ past) at h =
    let less : length past < at = omega arith in
    filter-append (sign_there at) (signs_of past) (option_to_list (sign_of x (length past)))
    ∙ ap₂ (λ k l. k ++ l) (none_yet past at (omega arith))
    (none_here x (length past) at (apart_places (length past) at (inl less)))

pub one_sign_at : (e : Entry) (before : List Entry) (kind : SignKind) → sign_kind e.reply ≡ Some kind
    → (after : List Entry) → filter (sign_there (length before)) (signs_of (after ++ e ∷ before))
    ≡ sign_at e (length before) kind ∷ []
unfolding signs_of
one_sign_at e before kind is [] =
    filter-append (sign_there (length before)) (signs_of before) (option_to_list (sign_of e (length before)))
    ∙ ap₂ (λ (k : List Sign) (o : Option SignKind).
    k ++ filter (sign_there (length before)) (option_to_list (option_map (sign_at e (length before)) o)))
    (none_yet before (length before) (omega arith)) is
    ∙ ap (λ b. cond b (sign_at e (length before) kind ∷ []) []) (eq-eqb (length before) (length before) refl)
one_sign_at e before kind is (a ∷ after) =
    let more : length before < length (after ++ e ∷ before) = omega (arith, length-append after (e ∷ before)) in
    filter-append (sign_there (length before)) (signs_of (after ++ e ∷ before))
    (option_to_list (sign_of a (length (after ++ e ∷ before))))
    ∙ ap₂ (λ k l. k ++ l) (one_sign_at e before kind is after)
    (none_here a (length (after ++ e ∷ before)) (length before)
    (apart_places (length (after ++ e ∷ before)) (length before) (inr more)))

pub signs_are_drawn : SignsAreDrawn
signs_are_drawn w s entries is legal e before kind stands has =
    let past : List Entry = past_of entries in
    let one : filter (sign_there (length before)) (signs_of past) ≡ sign_at e (length before) kind ∷ [] =
    subst (λ (l : List Entry). filter (sign_there (length before)) (signs_of l) ≡ sign_at e (length before) kind ∷ [])
    (sym stands.parts) (one_sign_at e before kind has stands.after) in
    is_drawn_once (chart_page w entries) (chart_figures s entries) (charts_are_of_rows w s entries is legal)
    (is_sign_at (length before)) (figure.Sign (sign_at e (length before) kind))
    (one_sign (is_sign_at (length before)) (caller_waits_of past (callers_of s entries))
    (wait_signs_of past (callers_of s entries)) (bars_of past) (sleeps_of past (lanes_of s entries)) (signs_of past)
    (levels_of s past (places_in s entries)) (sign_at e (length before) kind) one (λ y. refl) (λ y. refl) (λ y. refl)
    (λ y. refl) (λ y. refl)) refl
