-- Each entry that finishes a queueing is where one bar ends in a chart.
use Rattle.std.proofs.Common.{◌≡◌, ℕ, ◌+◌, ◌<◌, ◌==◌, Bool, true, false, ◌&&◌, not, List, []}
use Rattle.std.proofs.Common.{◌∷◌, ◌++◌, cond, length, filter, Option, Some, None, IfSome, refl, sym, ap, ◌∙◌}
use Rattle.std.proofs.Common.{subst, append_assoc, arith, nat_lt, ltb-true, ltb-false, eq-eqb, eqb-true, inl}
use Rattle.std.proofs.Common.{length-append}
use Rattle.std.specs.Prelude.{if◌then◌else◌, is_some}
use Rattle.std.specs.Option.{option_map_or}
use Rattle.std.specs.List.{list_any}
use Rattle.std.proofs.lemmas.Bool.{and_parts}
use Rattle.std.proofs.lemmas.Option.{same_Some}
use Rattle.cmwq_lemmas.proofs.Filters.{filter_same, filter_twice}
use Rattle.cmwq_lemmas.proofs.Lists.{same_tail}
use Rattle.cmwq_lemmas.proofs.Members.{In, all_in, any_in, in_filter, in_right, of_in}
use Rattle.cmwq_model.specs.declared.entry.Entry.{Entry}
use Rattle.cmwq_model.specs.declared.id.Who.TheVariants.{Worker}
use Rattle.cmwq_model.specs.declared.id.WorkerId.{WorkerId}
use Rattle.cmwq_model.specs.Prelude.{IsLegal, Layout, finishes, is_at, is_by, is_cancelled, is_finished}
use Rattle.cmwq_model.specs.Prelude.{is_number_open, is_open, item_at, last_start, number_finished, number_started}
use Rattle.cmwq_model.specs.Prelude.{past_of}
use Rattle.cmwq_model.specs.Prelude.{run, starts}
use Rattle.cmwq_model.proofs.Growing.{older_are_legal}
use Rattle.cmwq_theory_steps.proofs.Fresh.{finishes_run}
use Rattle.cmwq_theory_steps.proofs.ItemRuns.{run_is}
use Rattle.cmwq_theory_steps.proofs.StartsListed.{starts_anew}
use Rattle.cmwq_chart.specs.declared.bars.Bar.{Bar}
use Rattle.cmwq_chart.specs.Bars.{bars_of}
use Rattle.cmwq_chart.specs.CallerWaits.{callers_of, caller_waits_of, wait_signs_of}
use Rattle.cmwq_chart.specs.Lanes.{lanes_of}
use Rattle.cmwq_chart.specs.Levels.{levels_of}
use Rattle.cmwq_chart.specs.Shapes.{places_in}
use Rattle.cmwq_chart.specs.Signs.{signs_of}
use Rattle.cmwq_chart.specs.Sleeps.{sleeps_of}
use Rattle.cmwq_chart_text.specs.declared.figures.Figure.TheVariants as figure
use Rattle.cmwq_output_laws.specs.BarLaws.{EndsWell, HasOneBar, StandsIn, begins_at}
use Rattle.cmwq_output_laws.proofs.OneBar.{starts_have_one_bar}
use Rattle.cmwq_chart_laws.specs.Causes.{HasEntryBy}
use Rattle.cmwq_chart_laws.specs.Charts.{chart_figures, chart_page}
use Rattle.cmwq_chart_laws.specs.Finishes.{FinishesAreDrawn, is_bar_to}
use Rattle.cmwq_chart_laws.proofs.Causing.{Finishes, IsBarOf, Starts, bars_caused, one_later, the_last}
use Rattle.cmwq_chart_laws.proofs.ChartRows.{charts_are_of_rows}
use Rattle.cmwq_chart_laws.proofs.Once.{is_drawn_once, one_bar}

-- ---- entries by their places

same_head : {X : Type 0} (x y : X) (k l : List X) → x ∷ k ≡ y ∷ l → x ≡ y
same_head x y k l h = cc

one_entry : (after after' : List Entry) (e e' : Entry) (before before' : List Entry)
    → after ++ e ∷ before ≡ after' ++ e' ∷ before' → length before ≡ length before' → e ≡ e'
one_entry [] [] e e' before before' h same = same_head e e' before before' h
one_entry [] (a ∷ after') e e' before before' h same =
    let longer : length (after' ++ e' ∷ before') ≡ length after' + length (e' ∷ before') =
    length-append after' (e' ∷ before') in
    let tail : length before ≡ length (after' ++ e' ∷ before') =
    ap length (same_tail e a before (after' ++ e' ∷ before') h) in
    absurd (omega arith)
one_entry (a ∷ after) [] e e' before before' h same =
    let longer : length (after ++ e ∷ before) ≡ length after + length (e ∷ before) =
    length-append after (e ∷ before) in
    let tail : length (after ++ e ∷ before) ≡ length before' =
    ap length (same_tail a e' (after ++ e ∷ before) before' h) in
    absurd (omega arith)
one_entry (a ∷ after) (b ∷ after') e e' before before' h same =
    one_entry after after' e e' before before' (same_tail a b (after ++ e ∷ before) (after' ++ e' ∷ before') h) same

-- an entry that stands earlier stands in what lies before the other
earlier_in : (after after' : List Entry) (e e' : Entry) (before before' : List Entry)
    → after ++ e ∷ before ≡ after' ++ e' ∷ before' → length before' < length before → In e' before
earlier_in [] [] e e' before before' h less =
    let same : length before ≡ length before' = ap length (same_tail e e' before before' h) in absurd (omega arith)
earlier_in [] (a ∷ after') e e' before before' h less =
    subst (λ l. In e' l) (sym (same_tail e a before (after' ++ e' ∷ before') h))
    (in_right after' (e' ∷ before') e' (inl refl))
earlier_in (a ∷ after) [] e e' before before' h less =
    let longer : length (after ++ e ∷ before) ≡ length after + length (e ∷ before) =
    length-append after (e ∷ before) in
    let tail : length (after ++ e ∷ before) ≡ length before' =
    ap length (same_tail a e' (after ++ e ∷ before) before' h) in
    absurd (omega arith)
earlier_in (a ∷ after) (b ∷ after') e e' before before' h less =
    earlier_in after after' e e' before before' (same_tail a b (after ++ e ∷ before) (after' ++ e' ∷ before') h) less

-- a queueing is started once
started_once : (s : Layout) (past : List Entry) (e e' : Entry) (before before' : List Entry) (n : ℕ) → IsLegal s past
    → StandsIn past e before → StandsIn past e' before' → number_started e.reply ≡ Some n
    → number_started e'.reply ≡ Some n → length before' < length before → ⊥
started_once s past e e' before before' n legal stands stands' started started' less =
    let legal_e : IsLegal s (e ∷ before) = older_are_legal s stands.after (e ∷ before)
    (subst (IsLegal s) stands.parts legal) in
    let anew = starts_anew s before e n legal_e (ap (λ o. is_at o n) started ∙ eq-eqb n n refl) in
    let i : In e' before = earlier_in stands.after stands'.after e e' before before' (sym stands.parts ∙ stands'.parts)
    less in
    let again : list_any (starts n) before ≡ true =
    any_in (starts n) before e' i (ap (λ o. is_at o n) started' ∙ eq-eqb n n refl) in
    let clash : true ≡ false = sym again ∙ anew in
    cc

-- ---- where a run began

began : (past : List Entry) (w : WorkerId) (n : ℕ) → last_start past w ≡ Some n
    → (at : ℕ) × HasEntryBy past at (Worker w) (Starts n)
unfolding last_start
began [] w n h = cc
began (e ∷ past) w n h = by (λ k. began past w n k) (is_by (Worker w) e && is_some (number_started e.reply)) refl h
  where
    by : (last_start past w ≡ Some n → (at : ℕ) × HasEntryBy past at (Worker w) (Starts n)) → (b : Bool)
        → (is_by (Worker w) e && is_some (number_started e.reply)) ≡ b
        → (if b then number_started e.reply else last_start past w) ≡ Some n
        → (at : ℕ) × HasEntryBy (e ∷ past) at (Worker w) (Starts n)
    by earlier true is k = (
      length past,
      the_last e past (Worker w) (Starts n)
          (and_parts (is_by (Worker w) e) (is_some (number_started e.reply)) is).0 k,
    )
    by earlier false is k = let h = earlier k in (h.0, one_later e past h.0 (Worker w) (Starts n) h.1)

-- what is open isn't finished
open_unfinished : (past : List Entry) (n : ℕ) → is_number_open past n ≡ true → is_finished past n ≡ false
open_unfinished past n h = by (item_at past n) h
  where
    not_true : (b : Bool) → not b ≡ true → b ≡ false
    not_true true k = cc
    not_true false k = refl

    by : (o : Option ℕ) → option_map_or (λ i. is_open past i n) o false ≡ true → is_finished past n ≡ false
    by None k = cc
    by (Some i) k =
        let a = and_parts (nat_lt n (length past) && not (is_finished past n)) (not (is_cancelled past i n)) k in
        not_true (is_finished past n) (and_parts (nat_lt n (length past)) (not (is_finished past n)) a.0).1

-- a queueing is finished once
finished_once : (s : Layout) (past : List Entry) (e e' : Entry) (before before' : List Entry) (n : ℕ) → IsLegal s past
    → StandsIn past e before → StandsIn past e' before' → number_finished e.reply ≡ Some n
    → number_finished e'.reply ≡ Some n → length before' < length before → ⊥
finished_once s past e e' before before' n legal stands stands' ended ended' less =
    let legal_e : IsLegal s (e ∷ before) = older_are_legal s stands.after (e ∷ before)
    (subst (IsLegal s) stands.parts legal) in
    let f = finishes_run s before e n legal_e ended in
    let not_yet = open_unfinished before n (run_is before f.worker n f.is_run).is_still_open in
    let i : In e' before = earlier_in stands.after stands'.after e e' before before' (sym stands.parts ∙ stands'.parts)
    less in
    let again : list_any (finishes n) before ≡ true =
    any_in (finishes n) before e' i (ap (λ o. is_at o n) ended' ∙ eq-eqb n n refl) in
    let clash : true ≡ false = sym again ∙ not_yet in
    cc

compared : (a b : ℕ) → (a < b → ⊥) → (b < a → ⊥) → a ≡ b
compared a b f g = by (nat_lt a b) refl (nat_lt b a) refl
  where
    by : (x : Bool) → nat_lt a b ≡ x → (y : Bool) → nat_lt b a ≡ y → a ≡ b
    by true is y k = absurd (f (ltb-true a b is))
    by false is true k = absurd (g (ltb-true b a k))
    by false is false k = let p = ltb-false a b is in let q = ltb-false b a k in omega arith

-- ---- the bar that ends there

module _ (s : Layout) (past : List Entry) (legal : IsLegal s past) (e : Entry) (before : List Entry) (n : ℕ)
    (stands : StandsIn past e before) (ended : number_finished e.reply ≡ Some n) where
  legal_e : IsLegal s (e ∷ before)
  legal_e = older_are_legal s stands.after (e ∷ before) (subst (IsLegal s) stands.parts legal)

  abbrev to_at : Bar → Bool
  to_at b = option_map_or (λ last. last == length before) b.to false

  in_past : In e past
  in_past = subst (λ l. In e l) (sym stands.parts) (in_right stands.after (e ∷ before) e (inl refl))

  is_over : is_finished past n ≡ true
  is_over = any_in (finishes n) past e in_past (ap (λ o. is_at o n) ended ∙ eq-eqb n n refl)

  ends_here : (b : Bar) → b.number ≡ n → (o : Option ℕ) → EndsWell past b o → o ≡ Some (length before)
  ends_here b same None runs =
      let goes : run past b.worker ≡ Some n = runs ∙ ap Some same in
      let clash : true ≡ false =
      sym is_over ∙ open_unfinished past n (run_is past b.worker n goes).is_still_open in
      cc
  ends_here b same (Some t) f =
      let its : number_finished f.entry.reply ≡ Some n = f.finishes ∙ ap Some same in
      let place : length f.before ≡ length before =
      compared (length f.before) (length before)
      (λ less. finished_once s past e f.entry before f.before n legal stands f.stands ended its less)
      (λ less. finished_once s past f.entry e f.before before n legal f.stands stands its ended less) in
      ap Some (sym f.place ∙ place)

  -- another that ends there began where this one did
  one_start : (b : Bar) → IsBarOf past b → to_at b ≡ true → (e0 : Entry) (before0 : List Entry)
      → StandsIn past e0 before0 → number_started e0.reply ≡ Some n → begins_at (length before0) b ≡ true
  one_start b of_it h e0 before0 stands0 started0 =
      let begun = of_it.0 in
      let is_n : b.number ≡ n = number b.to h of_it.1 in
      let its : number_started begun.entry.reply ≡ Some n = begun.is_so ∙ ap Some is_n in
      let place : length begun.before ≡ length before0 =
      compared (length begun.before) (length before0)
      (λ less. started_once s past e0 begun.entry before0 begun.before n legal stands0 begun.stands started0 its less)
      (λ less. started_once s past begun.entry e0 begun.before before0 n legal begun.stands stands0 its started0 less)
      in
      eq-eqb b.from (length before0) (sym begun.place ∙ place)
    where
      number : (o : Option ℕ) → option_map_or (λ last. last == length before) o false ≡ true
          → IfSome o (λ last. HasEntryBy past last (Worker b.worker) (Finishes b.number)) → b.number ≡ n
      number None k f = cc
      number (Some t) k f =
          let same : f.entry ≡ e =
          one_entry f.stands.after stands.after f.entry e f.before before (sym f.stands.parts ∙ stands.parts)
          (f.place ∙ eqb-true t (length before) k) in
          same_Some b.number n
          (sym f.is_so ∙ ap (λ (a : Entry). number_finished a.reply) same ∙ ended)

  pub bar_to : (b : Bar) × (b.to ≡ Some (length before)) × (b.number ≡ n) × (filter to_at (bars_of past) ≡ b ∷ [])
  bar_to =
      let f = finishes_run s before e n legal_e ended in
      let start = began before f.worker n (run_is before f.worker n f.is_run).last in
      let stands0 : StandsIn past start.1.entry start.1.before = record {
        after = stands.after ++ e ∷ start.1.stands.after;
        parts = stands.parts ∙ ap (λ l. stands.after ++ e ∷ l) start.1.stands.parts
            ∙ sym (append_assoc stands.after (e ∷ start.1.stands.after) (start.1.entry ∷ start.1.before));
      } in
      let h : HasOneBar past start.1.entry start.1.before n =
      starts_have_one_bar s past legal start.1.entry start.1.before n stands0 start.1.is_so in
      let to : h.bar.to ≡ Some (length before) = ends_here h.bar h.number h.bar.to h.ends in (
        h.bar,
        to,
        h.number,
        filter_same to_at (λ b. begins_at (length start.1.before) b && to_at b) (bars_of past)
            (all_in (λ b. to_at b ≡ (begins_at (length start.1.before) b && to_at b)) (bars_of past)
            (λ b i. agree b (begins_at (length start.1.before) b)
            (λ k. one_start b (of_in (IsBarOf past) (bars_of past) b (bars_caused s past legal) i) k start.1.entry
            start.1.before stands0 start.1.is_so)))
            ∙ sym (filter_twice to_at (begins_at (length start.1.before)) (bars_of past))
            ∙ ap (filter to_at) h.only
            ∙ ap (λ o. cond (option_map_or (λ last. last == length before) o false) (h.bar ∷ []) []) to
            ∙ ap (λ x. cond x (h.bar ∷ []) []) (eq-eqb (length before) (length before) refl),
      )
    where
      agree : (b : Bar) (x : Bool) → (to_at b ≡ true → x ≡ true) → to_at b ≡ (x && to_at b)
      agree b true f = refl
      agree b false f = by (to_at b) refl
        where
          by : (y : Bool) → to_at b ≡ y → to_at b ≡ false
          by true k = let clash : false ≡ true = f k in cc
          by false k = k

pub finishes_are_drawn : FinishesAreDrawn
finishes_are_drawn w s entries is legal e before n stands ended =
    let past : List Entry = past_of entries in
    let one = bar_to s past legal e before n stands ended in
    let in_bars : In one.0 (bars_of past) =
    (in_filter (λ (b : Bar). option_map_or (λ last. last == length before) b.to false) (bars_of past) one.0
    (subst (λ l. In one.0 l) (sym one.3) (inl refl))).0 in
    let of_it = of_in (IsBarOf past) (bars_of past) one.0 (bars_caused s past legal) in_bars in
    record {
      bar = one.0;
      to = one.1;
      by_worker = by_its_worker past one.0 e before stands one.0.to one.1 of_it.1;
      number = one.2;
      drawn = is_drawn_once (chart_page w entries) (chart_figures s entries) (charts_are_of_rows w s entries is legal)
          (is_bar_to (length before)) (figure.Bar one.0)
          (one_bar (is_bar_to (length before)) (caller_waits_of past (callers_of s entries))
          (wait_signs_of past (callers_of s entries)) (bars_of past) (sleeps_of past (lanes_of s entries))
          (signs_of past) (levels_of s past (places_in s entries)) one.0 one.3 (λ y. refl) (λ y. refl) (λ y. refl)
          (λ y. refl) (λ y. refl)) refl;
    }
  where
    by_its_worker : (past : List Entry) (b : Bar) (e : Entry) (before : List Entry) → StandsIn past e before
        → (o : Option ℕ) → o ≡ Some (length before)
        → IfSome o (λ last. HasEntryBy past last (Worker b.worker) (Finishes b.number)) → e.who ≡ Worker b.worker
    by_its_worker past b e before stands None k f = cc
    by_its_worker past b e before stands (Some t) k f =
        let same : f.entry ≡ e =
        one_entry f.stands.after stands.after f.entry e f.before before (sym f.stands.parts ∙ stands.parts)
        (f.place ∙ same_Some t (length before) k) in
        sym (ap (λ (a : Entry). a.who) same) ∙ f.by_who
