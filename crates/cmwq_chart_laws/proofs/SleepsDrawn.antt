-- Each entry by which a run sleeps or wakes is where one sleep begins or ends in a chart.
use Rattle.std.proofs.Common.{◌≡◌, ℕ, ◌+◌, ◌<◌, ◌≤◌, ◌==◌, Bool, true, false, ◌&&◌, not, List, []}
use Rattle.std.proofs.Common.{◌∷◌, ◌++◌, cond, count_by, length, filter, flat_map, Option, Some, None, option_map}
use Rattle.std.proofs.Common.{option_to_list, refl, sym, ap, ap₂, ◌∙◌, subst, arith, nat_lt, ltb-true, eq-eqb}
use Rattle.std.proofs.Common.{eqb-true, ne_eqb, inl, length-append, append-nil}
use Rattle.std.specs.Prelude.{if◌then◌else◌, IsTrue, is_some}
use Rattle.std.specs.Option.{option_map_or}
use Rattle.std.proofs.lemmas.Bool.{and_parts}
use Rattle.std.proofs.lemmas.List.Elements.{filter-append}
use Rattle.cmwq_lemmas.proofs.Lists.{count_append, count_by-cons}
use Rattle.cmwq_lemmas.proofs.Members.{In, any_in, in_filter, of_in}
use Rattle.cmwq_lemmas.proofs.Truth.{and_false}
use Rattle.cmwq_model.specs.declared.entry.Entry.{Entry}
use Rattle.cmwq_model.specs.declared.id.Who.{Who}
use Rattle.cmwq_model.specs.declared.id.Who.TheVariants.{Worker}
use Rattle.cmwq_model.specs.declared.id.WorkerId.{WorkerId}
use Rattle.cmwq_model.specs.declared.reply.Reply.{Reply}
use Rattle.cmwq_model.specs.declared.reply.Reply.TheVariants as reply
use Rattle.cmwq_model.specs.Prelude.{IsLegal, Layout, asleep_after, fits, has_numbers, has_run, is_asleep, is_at, is_by}
use Rattle.cmwq_model.specs.Prelude.{is_layout, is_workers, number_finished, number_started, past_of, run}
use Rattle.cmwq_model.specs.Prelude.{runs_awake, same_who, same_worker, workers}
use Rattle.cmwq_model.proofs.Growing.{older_are_legal}
use Rattle.cmwq_theory_steps.specs.RunSteps.{run_after}
use Rattle.cmwq_theory_steps.proofs.Causes.{cause_of}
use Rattle.cmwq_theory_steps.proofs.Fresh.{finishes_run}
use Rattle.cmwq_theory_steps.proofs.ItemRuns.{same_worker-true, same_worker_itself}
use Rattle.cmwq_theory_steps.proofs.OwedSteps.{by_whom}
use Rattle.cmwq_theory_steps.proofs.Points.{is_worker, worker_once}
use Rattle.cmwq_theory_steps.proofs.Reasons.{legal_fits, sleep_reason, wake_reason}
use Rattle.cmwq_theory_steps.proofs.RunSteps.{workers_run_on}
use Rattle.cmwq_theory_steps.proofs.Starts.{starts_next}
use Rattle.cmwq_chart.specs.declared.bars.Bar.{Bar}
use Rattle.cmwq_chart.specs.declared.levels.Level.{Level}
use Rattle.cmwq_chart.specs.declared.signs.Sign.{Sign}
use Rattle.cmwq_chart.specs.declared.sleeps.Sleep.{Sleep}
use Rattle.cmwq_chart.specs.declared.waits.CallerWait.{CallerWait}
use Rattle.cmwq_chart.specs.declared.waits.WaitSign.{WaitSign}
use Rattle.cmwq_chart.specs.Bars.{bars_of}
use Rattle.cmwq_chart.specs.CallerWaits.{callers_of, caller_waits_of, wait_signs_of}
use Rattle.cmwq_chart.specs.Lanes.{has_entries, lanes_of}
use Rattle.cmwq_chart.specs.Levels.{levels_of}
use Rattle.cmwq_chart.specs.Shapes.{places_in}
use Rattle.cmwq_chart.specs.Signs.{signs_of}
use Rattle.cmwq_chart.specs.Sleeps.{asleep_since, ends_sleep, since_after, sleep_ended, sleep_from, sleeps_by}
use Rattle.cmwq_chart.specs.Sleeps.{sleeps_ended, sleeps_of}
use Rattle.cmwq_chart_text.specs.declared.figures.Figure.{Figure}
use Rattle.cmwq_chart_text.specs.declared.figures.Figure.TheVariants as figure
use Rattle.cmwq_chart_text.specs.declared.page.Window.{Window}
use Rattle.cmwq_output_laws.specs.BarLaws.{StandsIn}
use Rattle.cmwq_output_laws.proofs.Asleep.{sleepers_are_asleep}
use Rattle.cmwq_chart_laws.specs.Charts.{IsDrawnOnce, chart_figures, chart_page, chart_parts}
use Rattle.cmwq_chart_laws.specs.Sleeps.{HasOneSleepFrom, HasOneSleepTo, SleepsAreDrawn, WakesAreDrawn, is_sleep_from}
use Rattle.cmwq_chart_laws.specs.Sleeps.{is_sleep_to}
use Rattle.cmwq_chart_laws.proofs.Causing.{IsSleepOf, sleeps_caused}
use Rattle.cmwq_chart_laws.proofs.ChartRows.{charts_are_of_rows, sleeps_rows}
use Rattle.cmwq_chart_laws.proofs.LevelsDrawn.{filter_of_flat}
use Rattle.cmwq_chart_laws.proofs.Once.{filters_commute, is_drawn_once, one_sleep}
use Rattle.cmwq_chart_laws.proofs.Tickets.{entry_listed, if_one, none_of_none, one_passes}

-- ---- in a legal history, who is asleep has a run

not_true : (b : Bool) → not b ≡ true → b ≡ false
not_true true h = cc
not_true false h = refl

sleeper_runs : (s : Layout) (past : List Entry) (w : WorkerId) → IsLegal s past → is_asleep past w ≡ true
    → has_run past w ≡ true
unfolding is_asleep IsLegal
sleeper_runs s [] w legal h = cc
sleeper_runs s (e ∷ past) w legal h =
    ap is_some (workers_run_on s past e w legal)
    ∙ by (λ k. sleeper_runs s past w legal.2 k) (is_by (Worker w) e) refl h
  where
    own : (is_asleep past w ≡ true → has_run past w ≡ true) → is_by (Worker w) e ≡ true → (r : Reply) → e.reply ≡ r
        → asleep_after r (is_asleep past w) ≡ true → is_some (run_after r (run past w)) ≡ true
    own earlier is (reply.Started n) k h = cc
    own earlier is (reply.StartedEnlist n x) k h = cc
    own earlier is reply.Woke k h = cc
    own earlier is reply.Slept k h =
        let reason = sleep_reason s past e.who e.call e.reply (cause_of s past e legal) k in
        let same : reason.0 ≡ w = by_whom e reason.0 w reason.1 is in
        (and_parts (has_run past w) (not (is_asleep past w))
        (subst (λ (v : WorkerId). runs_awake past v ≡ true) same reason.3)).0
    own earlier is (reply.Finished n) k h =
        let f = finishes_run s past e n legal (ap number_finished k) in
        let same : f.worker ≡ w = by_whom e f.worker w f.by_worker is in
        let awake = (and_parts (has_run past w) (not (is_asleep past w))
        (subst (λ (v : WorkerId). runs_awake past v ≡ true) same f.awake)).1 in
        let clash : true ≡ false = sym h ∙ not_true (is_asleep past w) awake in
        cc
    own earlier is r k h = earlier h

    by : (is_asleep past w ≡ true → has_run past w ≡ true) → (b : Bool) → is_by (Worker w) e ≡ b
        → (if b then asleep_after e.reply (is_asleep past w) else is_asleep past w) ≡ true
        → is_some (if is_by (Worker w) e then run_after e.reply (run past w) else run past w) ≡ true
    by earlier true is h =
        ap (λ b. is_some (if b then run_after e.reply (run past w) else run past w)) is ∙ own earlier is e.reply refl h
    by earlier false is h =
        ap (λ b. is_some (if b then run_after e.reply (run past w) else run past w)) is ∙ earlier h

-- ---- how many sleeps begin at a place

module _ (w : WorkerId) (n : ℕ) where
  abbrev from_here : Sleep → Bool
  from_here x = x.from == n

  abbrev ended_to : Option ℕ → Option ℕ → List Sleep
  ended_to to o = option_to_list (option_map (sleep_from w to) o)

  one_ended : (to o : Option ℕ) → count_by from_here (ended_to to o) ≡ if_one (is_at o n)
  one_ended to None = refl
  one_ended to (Some from) = let k = count_by-cons from_here (sleep_from w to from) [] in omega arith

  -- none does so far, if no entry of the worker stands there
  record IsNone (past : List Entry) : Type 0 where
    ended : count_by from_here (sleeps_ended past w) ≡ 0
    since : is_at (asleep_since past w) n ≡ false

  step_none : (past : List Entry) (a : Entry) → (is_by (Worker w) a && (length past == n)) ≡ false → IsNone past
      → IsNone (a ∷ past)
  unfolding sleeps_ended asleep_since
  step_none past a other none = by (is_by (Worker w) a) refl
    where
      more : count_by from_here (sleeps_ended (a ∷ past) w)
          ≡ count_by from_here (sleeps_ended past w) + count_by from_here (option_to_list (sleep_ended past a w))
      more = count_append from_here (sleeps_ended past w) (option_to_list (sleep_ended past a w))

      own : (length past == n) ≡ false → (r : Reply) → a.reply ≡ r
          → (count_by from_here (option_to_list (if ends_sleep r
          then option_map (sleep_from w (Some (length past))) (asleep_since past w) else None)) ≡ 0)
          × (is_at (since_after r (length past) (asleep_since past w)) n ≡ false)
      own far (reply.Started m) k = (refl, refl)
      own far (reply.StartedEnlist m x) k = (refl, refl)
      own far reply.Slept k = (refl, far)
      own far reply.Woke k =
          (one_ended (Some (length past)) (asleep_since past w) ∙ ap if_one none.since, refl)
      own far r k = (refl, none.since)

      by : (b : Bool) → is_by (Worker w) a ≡ b → IsNone (a ∷ past)
      by false is = record {
        ended = more ∙ ap (λ b. count_by from_here (sleeps_ended past w) + count_by from_here (option_to_list
            (if b && ends_sleep a.reply then option_map (sleep_from w (Some (length past))) (asleep_since past w)
            else None))) is ∙ (let k = none.ended in omega arith);
        since = ap (λ b. is_at (if b then since_after a.reply (length past) (asleep_since past w)
            else asleep_since past w) n) is ∙ none.since;
      }
      by true is =
          let far : (length past == n) ≡ false = sym (ap (λ b. b && (length past == n)) is) ∙ other in
          let k = own far a.reply refl in
          record {
            ended = more ∙ ap (λ b. count_by from_here (sleeps_ended past w) + count_by from_here (option_to_list
                (if b && ends_sleep a.reply then option_map (sleep_from w (Some (length past))) (asleep_since past w)
                else None))) is
                ∙ (let z = none.ended in let y = k.0 in omega arith);
            since = ap (λ b. is_at (if b then since_after a.reply (length past) (asleep_since past w)
                else asleep_since past w) n) is ∙ k.1;
          }

  none_yet : (past : List Entry) → length past ≤ n → IsNone past
  unfolding sleeps_ended asleep_since
  none_yet [] less = record { ended = refl; since = refl }
  none_yet (a ∷ past) less =
      step_none past a
      (ap (λ b. is_by (Worker w) a && b) (ne_eqb (length past) n (λ same. absurd (omega arith)))
      ∙ and_false (is_by (Worker w) a))
      (none_yet past (omega arith))

  later_none : (after : List Entry) (e : Entry) (before : List Entry) → length before ≡ n → is_by (Worker w) e ≡ false
      → IsNone (after ++ e ∷ before)
  later_none [] e before place other =
      step_none before e (ap (λ b. b && (length before == n)) other) (none_yet before (omega arith))
  later_none (a ∷ after) e before place other =
      let long : length (after ++ e ∷ before) ≡ length after + length (e ∷ before) = length-append after (e ∷ before) in
      step_none (after ++ e ∷ before) a
      (ap (λ b. is_by (Worker w) a && b)
      (ne_eqb (length (after ++ e ∷ before)) n (λ same. absurd (omega arith)))
      ∙ and_false (is_by (Worker w) a))
      (later_none after e before place other)

  -- one does, if the worker sleeps there
  abbrev begun : List Entry → ℕ
  begun past = count_by from_here (sleeps_ended past w) + if_one (is_at (asleep_since past w) n)

  one_begun : (s : Layout) (after : List Entry) (e : Entry) (before : List Entry) → IsLegal s (after ++ e ∷ before)
      → length before ≡ n → is_by (Worker w) e ≡ true → e.reply ≡ reply.Slept → begun (after ++ e ∷ before) ≡ 1
  unfolding sleeps_ended asleep_since IsLegal
  one_begun s [] e before legal place own slept =
      let none = none_yet before (omega arith) in
      let ended = none.ended in
      let more : count_by from_here (sleeps_ended before w ++ option_to_list (sleep_ended before e w))
      ≡ count_by from_here (sleeps_ended before w) + count_by from_here (option_to_list (sleep_ended before e w)) =
      count_append from_here (sleeps_ended before w) (option_to_list (sleep_ended before e w)) in
      let nought : count_by from_here (option_to_list (sleep_ended before e w)) ≡ 0 =
      ap₂ (λ b r. count_by from_here (option_to_list (if b && ends_sleep r
      then option_map (sleep_from w (Some (length before))) (asleep_since before w) else None))) own slept in
      let one : if_one (is_at (if is_by (Worker w) e then since_after e.reply (length before) (asleep_since before w)
      else asleep_since before w) n) ≡ 1 =
      ap₂ (λ b r. if_one (is_at (if b then since_after r (length before) (asleep_since before w)
      else asleep_since before w) n)) own slept
      ∙ ap if_one (eq-eqb (length before) n place) in
      omega arith
  one_begun s (a ∷ after) e before legal place own slept =
      let past : List Entry = after ++ e ∷ before in
      let long : length (after ++ e ∷ before) ≡ length after + length (e ∷ before) = length-append after (e ∷ before) in
      let far : (length (after ++ e ∷ before) == n) ≡ false =
      ne_eqb (length (after ++ e ∷ before)) n (λ same. absurd (omega arith)) in
      let earlier = one_begun s after e before legal.2 place own slept in
      let more = count_append from_here (sleeps_ended (after ++ e ∷ before) w)
      (option_to_list (sleep_ended (after ++ e ∷ before) a w)) in
      let step = by far (is_by (Worker w) a) refl in
      omega arith
    where
      awake_none : is_asleep (after ++ e ∷ before) w ≡ false
          → is_at (asleep_since (after ++ e ∷ before) w) n ≡ false
      awake_none h = none (asleep_since (after ++ e ∷ before) w) (sleepers_are_asleep (after ++ e ∷ before) w ∙ h)
        where
          none : (o : Option ℕ) → is_some o ≡ false → is_at o n ≡ false
          none None k = refl
          none (Some m) k = cc

      not_asleep : has_run (after ++ e ∷ before) w ≡ false → is_asleep (after ++ e ∷ before) w ≡ false
      not_asleep idle = from (is_asleep (after ++ e ∷ before) w) refl
        where
          from : (b : Bool) → is_asleep (after ++ e ∷ before) w ≡ b → b ≡ false
          from false k = refl
          from true k =
              let clash : true ≡ false = sym (sleeper_runs s (after ++ e ∷ before) w legal.2 k) ∙ idle in cc

      starts_idle : is_by (Worker w) a ≡ true → (m : ℕ) → number_started a.reply ≡ Some m
          → is_at (asleep_since (after ++ e ∷ before) w) n ≡ false
      starts_idle is m started =
          let st = starts_next s (after ++ e ∷ before) a m legal started in
          let same : st.worker ≡ w = by_whom a st.worker w st.by_worker is in
          awake_none (not_asleep (subst (λ (v : WorkerId). has_run (after ++ e ∷ before) v ≡ false) same st.idle))

      sleeps_awake : is_by (Worker w) a ≡ true → a.reply ≡ reply.Slept
          → is_at (asleep_since (after ++ e ∷ before) w) n ≡ false
      sleeps_awake is k =
          let reason = sleep_reason s (after ++ e ∷ before) a.who a.call a.reply
          (cause_of s (after ++ e ∷ before) a legal) k in
          let same : reason.0 ≡ w = by_whom a reason.0 w reason.1 is in
          awake_none (not_true (is_asleep (after ++ e ∷ before) w)
          (and_parts (has_run (after ++ e ∷ before) w) (not (is_asleep (after ++ e ∷ before) w))
          (subst (λ (v : WorkerId). runs_awake (after ++ e ∷ before) v ≡ true) same reason.3)).1)

      own_step : (length (after ++ e ∷ before) == n) ≡ false → is_by (Worker w) a ≡ true → (r : Reply) → a.reply ≡ r
          → count_by from_here (option_to_list (if ends_sleep r
          then option_map (sleep_from w (Some (length (after ++ e ∷ before)))) (asleep_since (after ++ e ∷ before) w)
          else None))
          + if_one (is_at (since_after r (length (after ++ e ∷ before)) (asleep_since (after ++ e ∷ before) w)) n)
          ≡ if_one (is_at (asleep_since (after ++ e ∷ before) w) n)
      own_step far is (reply.Started m) k =
          sym (ap if_one (starts_idle is m (ap number_started k)))
      own_step far is (reply.StartedEnlist m x) k =
          sym (ap if_one (starts_idle is m (ap number_started k)))
      own_step far is reply.Slept k =
          ap (λ b. 0 + if_one b) far ∙ sym (ap if_one (sleeps_awake is k))
      own_step far is reply.Woke k =
          let one = one_ended (Some (length (after ++ e ∷ before))) (asleep_since (after ++ e ∷ before) w) in
          omega arith
      own_step far is r k = omega arith

      by : (length (after ++ e ∷ before) == n) ≡ false → (b : Bool) → is_by (Worker w) a ≡ b
          → count_by from_here (option_to_list (if b && ends_sleep a.reply
          then option_map (sleep_from w (Some (length (after ++ e ∷ before)))) (asleep_since (after ++ e ∷ before) w)
          else None))
          + if_one (is_at (if b then since_after a.reply (length (after ++ e ∷ before))
          (asleep_since (after ++ e ∷ before) w) else asleep_since (after ++ e ∷ before) w) n)
          ≡ if_one (is_at (asleep_since (after ++ e ∷ before) w) n)
      by far true is = own_step far is a.reply refl
      by far false is = omega arith

  pub sleeps_count : (past : List Entry) → count_by from_here (sleeps_by past w) ≡ begun past
  unfolding sleeps_by
  sleeps_count past =
      let more = count_append from_here (sleeps_ended past w) (ended_to None (asleep_since past w)) in
      let left = one_ended None (asleep_since past w) in
      omega arith

  -- ---- which sleeps end at a place
  abbrev to_here : Sleep → Bool
  to_here x = option_map_or (λ last. last == n) x.to false

  none_to : (past : List Entry) (a : Entry) → (length past == n) ≡ false
      → filter to_here (option_to_list (sleep_ended past a w)) ≡ []
  none_to past a far = by (is_by (Worker w) a && ends_sleep a.reply) (asleep_since past w)
    where
      by : (b : Bool) (o : Option ℕ)
          → filter to_here (option_to_list (if b then option_map (sleep_from w (Some (length past))) o else None)) ≡ []
      by true None = refl
      by true (Some from) = ap (λ b. cond b (sleep_from w (Some (length past)) from ∷ []) []) far
      by false o = refl

  all_to : (past : List Entry) (a : Entry) → length past ≡ n
      → filter to_here (option_to_list (sleep_ended past a w)) ≡ option_to_list (sleep_ended past a w)
  all_to past a place = by (is_by (Worker w) a && ends_sleep a.reply) (asleep_since past w)
    where
      by : (b : Bool) (o : Option ℕ)
          → filter to_here (option_to_list (if b then option_map (sleep_from w (Some (length past))) o else None))
          ≡ option_to_list (if b then option_map (sleep_from w (Some (length past))) o else None)
      by true None = refl
      by true (Some from) =
          ap (λ b. cond b (sleep_from w (Some (length past)) from ∷ []) []) (eq-eqb (length past) n place)
      by false o = refl

  none_to_yet : (past : List Entry) → length past ≤ n → filter to_here (sleeps_ended past w) ≡ []
  unfolding sleeps_ended
  none_to_yet [] less = refl
  none_to_yet (a ∷ past) less =
      filter-append to_here (sleeps_ended past w) (option_to_list (sleep_ended past a w))
      ∙ ap₂ (λ k l. k ++ l) (none_to_yet past (omega arith))
      (none_to past a (ne_eqb (length past) n (λ same. absurd (omega arith))))

  ended_there : (after : List Entry) (e : Entry) (before : List Entry) → length before ≡ n
      → filter to_here (sleeps_ended (after ++ e ∷ before) w) ≡ option_to_list (sleep_ended before e w)
  unfolding sleeps_ended
  ended_there [] e before place =
      filter-append to_here (sleeps_ended before w) (option_to_list (sleep_ended before e w))
      ∙ ap₂ (λ k l. k ++ l) (none_to_yet before (omega arith)) (all_to before e place)
  ended_there (a ∷ after) e before place =
      let long : length (after ++ e ∷ before) ≡ length after + length (e ∷ before) = length-append after (e ∷ before) in
      filter-append to_here (sleeps_ended (after ++ e ∷ before) w)
      (option_to_list (sleep_ended (after ++ e ∷ before) a w))
      ∙ ap₂ (λ k l. k ++ l) (ended_there after e before place)
      (none_to (after ++ e ∷ before) a (ne_eqb (length (after ++ e ∷ before)) n (λ same. absurd (omega arith))))
      ∙ append-nil (option_to_list (sleep_ended before e w))

  to_there : (after : List Entry) (e : Entry) (before : List Entry) → length before ≡ n
      → filter to_here (sleeps_by (after ++ e ∷ before) w) ≡ option_to_list (sleep_ended before e w)
  unfolding sleeps_by
  to_there after e before place =
      filter-append to_here (sleeps_ended (after ++ e ∷ before) w)
      (ended_to None (asleep_since (after ++ e ∷ before) w))
      ∙ ap₂ (λ k l. k ++ l) (ended_there after e before place) (left (asleep_since (after ++ e ∷ before) w))
      ∙ append-nil (option_to_list (sleep_ended before e w))
    where
      left : (o : Option ℕ) → filter to_here (ended_to None o) ≡ []
      left None = refl
      left (Some from) = refl

-- ---- of all workers one made the entry

flat_kept : {X Y : Type 0} (keep : X → Bool) (g : X → List Y) → ((x : X) → keep x ≡ false → g x ≡ []) → (xs : List X)
    → flat_map g xs ≡ flat_map g (filter keep xs)
flat_kept keep g none [] = refl
flat_kept keep g none (x ∷ xs) = by (keep x) refl (flat_kept keep g none xs)
  where
    by : (b : Bool) → keep x ≡ b → flat_map g xs ≡ flat_map g (filter keep xs)
        → g x ++ flat_map g xs ≡ flat_map g (cond b (x ∷ filter keep xs) (filter keep xs))
    by true is rest = ap (λ l. g x ++ l) rest
    by false is rest = ap (λ l. l ++ flat_map g xs) (none x is) ∙ rest

-- who made an entry of the shape
worker_there : (s : Layout) (e : Entry) (w : WorkerId) → IsTrue (fits s e.who e.call) → e.who ≡ Worker w
    → (w.pool.cpu.0 < s.cpus) × (w.index < s.workers)
worker_there s e w fit is =
    let h : ((nat_lt w.pool.cpu.0 s.cpus && nat_lt w.index s.workers && is_workers e.call) && has_numbers s e.call) ≡
    true =
    subst (λ (x : Who). fits s x e.call ≡ true) is fit in
    let a = and_parts (nat_lt w.pool.cpu.0 s.cpus && nat_lt w.index s.workers && is_workers e.call)
    (has_numbers s e.call) h in
    let b = and_parts (nat_lt w.pool.cpu.0 s.cpus && nat_lt w.index s.workers) (is_workers e.call) a.0 in
    let c = and_parts (nat_lt w.pool.cpu.0 s.cpus) (nat_lt w.index s.workers) b.0 in
    (ltb-true w.pool.cpu.0 s.cpus c.0, ltb-true w.index s.workers c.1)

module _ (s : Layout) (entries : List Entry) (e : Entry) (before : List Entry) (w : WorkerId)
    (stands : StandsIn (past_of entries) e before) (by_worker : e.who ≡ Worker w)
    (there : (w.pool.cpu.0 < s.cpus) × (w.index < s.workers)) where
  is_by_it : (v : WorkerId) → is_by (Worker v) e ≡ same_worker w v
  is_by_it v = ap (λ x. same_who x (Worker v)) by_worker

  is_by_itself : is_by (Worker w) e ≡ true
  is_by_itself = is_by_it w ∙ same_worker_itself w

  has_it : has_entries entries w ≡ true
  has_it = any_in (is_by (Worker w)) entries e (entry_listed entries e before stands) is_by_itself

  one_lane : filter (is_worker w) (lanes_of s entries) ≡ w ∷ []
  unfolding lanes_of
  one_lane =
      let one = one_passes (is_worker w) (workers s) (worker_once s w there.0 there.1) in
      let k = in_filter (is_worker w) (workers s) one.0 (subst (λ l. In one.0 l) (sym one.1) (inl refl)) in
      let same : one.0 ≡ w = same_worker-true one.0 w k.1 in
      filters_commute (is_worker w) (has_entries entries) (workers s)
      ∙ ap (filter (has_entries entries)) (one.1 ∙ ap (λ (v : WorkerId). v ∷ []) same)
      ∙ ap (λ b. cond b (w ∷ []) []) has_it

  of_worker : {X : Type 0} (test : X → Bool) (f : WorkerId → List X)
      → ((v : WorkerId) → is_by (Worker v) e ≡ false → filter test (f v) ≡ [])
      → filter test (flat_map f (lanes_of s entries)) ≡ filter test (f w)
  of_worker test f none =
      filter_of_flat test f (lanes_of s entries)
      ∙ flat_kept (is_worker w) (λ v. filter test (f v))
      (λ v other. none v (is_by_it v ∙ turned (same_worker w v) other (λ h. same_worker-true w v h)))
      (lanes_of s entries)
      ∙ ap (flat_map (λ v. filter test (f v))) one_lane ∙ append-nil (filter test (f w))
    where
      turned : {v : WorkerId} (b : Bool) → same_worker v w ≡ false → (b ≡ true → w ≡ v) → b ≡ false
      turned {v} false other f = refl
      turned {v} true other f =
          let same : same_worker v w ≡ true =
          ap (λ (u : WorkerId). same_worker u w) (sym (f refl)) ∙ same_worker_itself w in
          let clash : true ≡ false = sym same ∙ other in
          cc

  module _ (window : Window) (is : IsTrue (is_layout s)) (legal : IsLegal s (past_of entries)) where
    abbrev from_it : Sleep → Bool
    from_it x = x.from == length before

    abbrev to_it : Sleep → Bool
    to_it x = option_map_or (λ last. last == length before) x.to false

    listed : (test : Sleep → Bool) (x : Sleep) → filter test (sleeps_by (past_of entries) w) ≡ x ∷ []
        → In x (sleeps_by (past_of entries) w) × (test x ≡ true)
    listed test x alone = in_filter test (sleeps_by (past_of entries) w) x (subst (λ l. In x l) (sym alone) (inl refl))

    none_from : (v : WorkerId) → is_by (Worker v) e ≡ false → filter from_it (sleeps_by (past_of entries) v) ≡ []
    none_from v other =
        let none : IsNone v (length before) (stands.after ++ e ∷ before) =
        later_none v (length before) stands.after e before refl other in
        none_of_none from_it (sleeps_by (past_of entries) v)
        (ap (λ (l : List Entry). count_by from_it (sleeps_by l v)) stands.parts
        ∙ sleeps_count v (length before) (stands.after ++ e ∷ before)
        ∙ ap₂ (λ k b. k + if_one b) none.ended none.since)

    one_from : e.reply ≡ reply.Slept → (x : Sleep) × (filter from_it (sleeps_by (past_of entries) w) ≡ x ∷ [])
    one_from slept =
        one_passes from_it (sleeps_by (past_of entries) w)
        (ap (λ (l : List Entry). count_by from_it (sleeps_by l w)) stands.parts
        ∙ sleeps_count w (length before) (stands.after ++ e ∷ before)
        ∙ one_begun w (length before) s stands.after e before (subst (IsLegal s) stands.parts legal) refl is_by_itself
        slept)

    its_worker : (x : Sleep) → In x (sleeps_by (past_of entries) w) → x.worker ≡ w
    its_worker x i =
        of_in (λ (y : Sleep). y.worker ≡ w) (sleeps_by (past_of entries) w) x
        (sleeps_rows (λ v. v ≡ w) (past_of entries) w refl) i

    it_is : (x : Sleep) → In x (sleeps_by (past_of entries) w) → IsSleepOf (past_of entries) x
    it_is x i = of_in (IsSleepOf (past_of entries)) (sleeps_by (past_of entries) w) x
        (sleeps_caused (past_of entries) w) i

    drawn_once : (test : Figure → Bool) (x : Sleep)
        → filter (λ y. test (figure.Sleep y)) (sleeps_of (past_of entries) (lanes_of s entries)) ≡ x ∷ []
        → ((y : CallerWait) → test (figure.Wait y) ≡ false) → ((y : WaitSign) → test (figure.WaitSign y) ≡ false)
        → ((y : Bar) → test (figure.Bar y) ≡ false) → ((y : Sign) → test (figure.Sign y) ≡ false)
        → ((y : Level) → test (figure.Level y) ≡ false)
        → IsDrawnOnce (chart_page window entries) (chart_parts window s entries) test (figure.Sleep x)
    drawn_once test x alone a b c d f =
        is_drawn_once (chart_page window entries) (chart_figures s entries)
        (charts_are_of_rows window s entries is legal) test (figure.Sleep x)
        (one_sleep test (caller_waits_of (past_of entries) (callers_of s entries))
        (wait_signs_of (past_of entries) (callers_of s entries)) (bars_of (past_of entries))
        (sleeps_of (past_of entries) (lanes_of s entries)) (signs_of (past_of entries))
        (levels_of s (past_of entries) (places_in s entries)) x alone a b c d f) refl

    pub sleep_is_drawn : e.reply ≡ reply.Slept → HasOneSleepFrom window s entries e before
    sleep_is_drawn slept = made (one_from slept).0 (one_from slept).1
      where
        made : (x : Sleep) → filter from_it (sleeps_by (past_of entries) w) ≡ x ∷ []
            → HasOneSleepFrom window s entries e before
        made x alone =
            let k = listed from_it x alone in
            record {
              sleep = x;
              from = eqb-true x.from (length before) k.1;
              by_worker = by_worker ∙ ap Worker (sym (its_worker x k.0));
              ends = (it_is x k.0).1;
              drawn = drawn_once (is_sleep_from (length before)) x
                  (of_worker from_it (sleeps_by (past_of entries)) none_from ∙ alone) (λ y. refl) (λ y. refl)
                  (λ y. refl)
                  (λ y. refl) (λ y. refl);
            }

    to_one : (v : WorkerId)
        → filter to_it (sleeps_by (past_of entries) v) ≡ option_to_list (sleep_ended before e v)
    to_one v =
        ap (λ (l : List Entry). filter to_it (sleeps_by l v)) stands.parts
        ∙ to_there v (length before) stands.after e before refl

    none_to_other : (v : WorkerId) → is_by (Worker v) e ≡ false → filter to_it (sleeps_by (past_of entries) v) ≡ []
    none_to_other v other =
        to_one v
        ∙ ap (λ b. option_to_list (if b && ends_sleep e.reply
        then option_map (sleep_from v (Some (length before))) (asleep_since before v) else None)) other

    pub wake_is_drawn : e.reply ≡ reply.Woke → is_asleep before w ≡ true → HasOneSleepTo window s entries e before
    wake_is_drawn woke asleep = by (asleep_since before w) refl (sleepers_are_asleep before w ∙ asleep)
      where
        made : (x : Sleep) → x.to ≡ Some (length before) → filter to_it (sleeps_by (past_of entries) w) ≡ x ∷ []
            → HasOneSleepTo window s entries e before
        made x to alone =
            let k = listed to_it x alone in
            record {
              sleep = x;
              to = to;
              by_worker = by_worker ∙ ap Worker (sym (its_worker x k.0));
              begins = (it_is x k.0).0;
              drawn = drawn_once (is_sleep_to (length before)) x
                  (of_worker to_it (sleeps_by (past_of entries)) none_to_other ∙ alone) (λ y. refl) (λ y. refl)
                  (λ y. refl) (λ y. refl) (λ y. refl);
            }

        by : (o : Option ℕ) → asleep_since before w ≡ o → is_some (asleep_since before w) ≡ true
            → HasOneSleepTo window s entries e before
        by None is_none some = let clash : true ≡ false = sym some ∙ ap is_some is_none in cc
        by (Some from) since some =
            made (sleep_from w (Some (length before)) from) refl
            (to_one w
            ∙ ap₂ (λ b r. option_to_list (if b && ends_sleep r
            then option_map (sleep_from w (Some (length before))) (asleep_since before w) else None)) is_by_itself woke
            ∙ ap (λ o. option_to_list (option_map (sleep_from w (Some (length before))) o)) since)

pub sleeps_are_drawn : SleepsAreDrawn
sleeps_are_drawn window s entries is legal e before stands slept =
    let older : IsLegal s (e ∷ before) = older_are_legal s stands.after (e ∷ before)
    (subst (IsLegal s) stands.parts legal) in
    let reason = sleep_reason s before e.who e.call e.reply (cause_of s before e older) slept in
    sleep_is_drawn s entries e before reason.0 stands reason.1
    (worker_there s e reason.0 (legal_fits s before e older) reason.1) window is legal slept

pub wakes_are_drawn : WakesAreDrawn
wakes_are_drawn window s entries is legal e before stands woke =
    let older : IsLegal s (e ∷ before) = older_are_legal s stands.after (e ∷ before)
    (subst (IsLegal s) stands.parts legal) in
    let reason = wake_reason s before e.who e.call e.reply (cause_of s before e older) woke in
    wake_is_drawn s entries e before reason.0 stands reason.1
    (worker_there s e reason.0 (legal_fits s before e older) reason.1) window is legal woke
    (and_parts (has_run before reason.0) (is_asleep before reason.0) reason.3).1
