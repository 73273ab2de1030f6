-- Each item stands in one place at a time, until a line tells its end.
use Rattle.cmwq_sim.specs.Common.{◌≡◌, ◌==◌, ◌≤◌, ◌+◌, ℕ, zero, suc, Bool, true, false, cond, ◌&&◌, List, [], ◌∷◌, ◌++◌}
use Rattle.cmwq_sim.specs.Common.{length, drop, map, filter, find, count_by, Option, Some, None, refl, sym, ap, ◌∙◌}
use Rattle.cmwq_sim.specs.Common.{arith, if◌then◌else◌, fold, list_any, range_with_len, count_by-cons}
use Rattle.cmwq_sim.specs.declared.scenario.LineKind.{LineKind}
use Rattle.cmwq_sim.specs.declared.scenario.LineKind.TheVariants as kind
use Rattle.cmwq_sim.specs.Plan.{Plan, Event, plan_queue, ms_of, is_of_plan_queue, whole_time}
use Rattle.cmwq_sim.specs.Lines.{Moment, Job, Sleeper, make_ready, end_job, after_burn, after_sleep, serve_first, serve}
use Rattle.cmwq_sim.specs.Lines.{is_due, is_other_sleeper, wake_sleeper, wake_item, wake_sleepers, job_of}
use Rattle.cmwq_sim.specs.Lines.{starting_items, tell, tell_starts, start_these, start, burn, millisecond}
use Rattle.cmwq_sim.specs.Lines.{queued_at_first, empty, scenario_lines}
use Rattle.cmwq_sim.specs.Shows.{is_job, is_sleeper, times}
use Rattle.cmwq_sim.specs.Ends.{is_end_line, tells_end, EachEndsOnce}
use Rattle.cmwq_sim.proofs.Phases.{due_item, asleep_there}
use Rattle.cmwq_sim.proofs.Lists.{any_counted, found_there, taken_out, once_among, once_there, or_false, found_passes}
use Rattle.cmwq_sim.proofs.Lists.{count_append, count_push}
use Rattle.cmwq_sim.proofs.TakeShown.{job_item}
use Rattle.cmwq_sim.proofs.Progress.{starting_first}
use Rattle.cmwq_sim.proofs.Outset.{queue_keeps, all_weigh, all_items_end}

-- how often it stands in a list or has ended
abbrev pub seen : ℕ → Moment → ℕ
seen i m = times m i + count_by (tells_end i) m.lines

-- one more line, and whether it tells the end
told : (i t : ℕ) (k : LineKind) (is : List ℕ) (ls : List Event)
    → count_by (tells_end i) (ls ++ record { at = t; kind = k; items = is } ∷ [])
    ≡ count_by (tells_end i) ls + cond (is_end_line k && list_any (λ j. j == i) is) 1 0
told i t k is ls = count_push (tells_end i) ls (record { at = t; kind = k; items = is })

-- ---- the phases

abbrev pub Once : Moment → Type 0
Once m = (z : ℕ) → seen z m ≤ 1

-- an item stands in one place, in the moment or in another with fewer places
ends_seen : (s : Plan) (i k : ℕ) (m : Moment) → ((z : ℕ) → times m z ≤ 1) → seen i (end_job s k m) ≡ seen i m
ends_seen s i k m once = at (find (is_of_plan_queue s (plan_queue s k)) m.behind) refl
  where
    at : (o : Option ℕ) → find (is_of_plan_queue s (plan_queue s k)) m.behind ≡ o → seen i (make_ready m o) ≡ seen i m
    at None none = refl
    at (Some z) some =
        let a = taken_out (λ j. j) i z m.behind in
        let b = any_counted (λ j. j == z) m.behind
        (found_there (is_of_plan_queue s (plan_queue s k)) m.behind z some) in
        let c = count_push (λ j. j == i) m.ready z in
        grind (arith, once z)

served_seen : (s : Plan) (t i : ℕ) (m : Moment) → Once m → seen i (serve s t m) ≡ seen i m
served_seen s t i m once = at m.cpu refl
  where
    at : (xs : List Job) → m.cpu ≡ xs → seen i (serve_first s t m xs) ≡ seen i m
    at [] none = refl
    at (j ∷ js) is = over (j.burn == 0) j.left
      where
        first : (z : ℕ) → count_by (is_job z) m.cpu ≡ cond (j.item == z) 1 0 + count_by (is_job z) js
        first z = ap (count_by (is_job z)) is ∙ count_by-cons (is_job z) j js

        fewer : (ls : List Event) (z : ℕ) → times (record m { cpu = js; lines = ls }) z ≤ 1
        fewer ls z = let o = once z in omega (arith, first z)

        over : (b : Bool) (left : List ℕ) → seen i (if b then after_burn s t (record m { cpu = js }) j.item left else m)
            ≡ seen i m
        over false left = refl
        over true [] =
            let a = ends_seen s i j.item (tell t kind.Ends (j.item ∷ []) (record m { cpu = js }))
            (fewer (m.lines ++ record { at = t; kind = kind.Ends; items = j.item ∷ [] } ∷ [])) in
            omega (
              arith,
              told i t kind.Ends (j.item ∷ []) m.lines
                  ∙ ap (λ c. count_by (tells_end i) m.lines + cond c 1 0) (or_false (j.item == i)),
              first i,
            )
        over true (pause ∷ left) =
            omega (
              arith,
              first i,
              count_push (is_sleeper i) m.sleeping (record { item = j.item; until = t + pause; left = left }),
              told i t kind.Sleeps (j.item ∷ []) m.lines,
            )

woken_seen : (s : Plan) (t i k : ℕ) (m : Moment) → Once m → seen i (wake_item s t m k) ≡ seen i m
woken_seen s t i k m once = at (find (is_due t k) m.sleeping) refl
  where
    at : (o : Option Sleeper) → find (is_due t k) m.sleeping ≡ o → seen i (wake_sleeper s t m o) ≡ seen i m
    at None none = refl
    at (Some x) some = after x.left
      where
        its : x.item ≡ k
        its = due_item t k x (found_passes (is_due t k) m.sleeping x some)

        there : count_by (is_sleeper x.item) m.sleeping ≡ 1
        there = rw its (omega (arith, any_counted (is_sleeper k) m.sleeping (asleep_there t k m x some), once k))

        out : (z : ℕ)
            → count_by (is_sleeper z) (filter (is_other_sleeper x.item) m.sleeping) + cond {A = ℕ} (x.item == z) 1 0
            ≡ count_by (is_sleeper z) m.sleeping
        out z = ap (λ n. count_by (is_sleeper z) (filter (is_other_sleeper x.item) m.sleeping) + cond (x.item == z) n 0)
            (sym there) ∙ taken_out (λ (y : Sleeper). y.item) z x.item m.sleeping

        fewer : (ls : List Event) (z : ℕ)
            → times (record m { sleeping = filter (is_other_sleeper x.item) m.sleeping; lines = ls }) z ≤ 1
        fewer ls z = let o = once z in omega (arith, out z)

        after : (left : List ℕ)
            → seen i (after_sleep s t (record m { sleeping = filter (is_other_sleeper x.item) m.sleeping }) x.item left)
            ≡ seen i m
        after [] =
            let a = ends_seen s i x.item
            (tell t kind.WakesEnds (x.item ∷ [])
            (record m { sleeping = filter (is_other_sleeper x.item) m.sleeping }))
            (fewer (m.lines ++ record { at = t; kind = kind.WakesEnds; items = x.item ∷ [] } ∷ [])) in
            omega (
              arith,
              told i t kind.WakesEnds (x.item ∷ []) m.lines
                  ∙ ap (λ c. count_by (tells_end i) m.lines + cond c 1 0) (or_false (x.item == i)),
              out i,
            )
        after (b ∷ left) =
            omega (
              arith,
              out i,
              count_push (is_job i) m.cpu (record { item = x.item; burn = b; left = left }),
              told i t kind.WakesBurns (x.item ∷ []) m.lines,
            )

-- what each step keeps, steps in turn keep
all_steps : (step : Moment → ℕ → Moment) → ((m : Moment) (k : ℕ) → Once m → (i : ℕ) → seen i (step m k) ≡ seen i m)
    → (i len k : ℕ) (m : Moment) → Once m → seen i (fold step m (range_with_len k len)) ≡ seen i m
all_steps step each i zero k m once = refl
all_steps step each i (suc len) k m once =
    all_steps step each i len (k + 1) (step m k) (λ z. omega (arith, once z, each m k once z)) ∙ each m k once i

started_count : (s : Plan) (i : ℕ) (is : List ℕ) → count_by (is_job i) (map (job_of s) is) ≡ count_by (λ j. j == i) is
started_count s i [] = refl
started_count s i (k ∷ is) =
    grind (
      arith,
      count_by-cons (is_job i) (job_of s k) (map (job_of s) is),
      count_by-cons (λ j. j == i) k is,
      job_item k (ms_of s k),
      started_count s i is,
    )

started_seen : (s : Plan) (t i : ℕ) (m : Moment) → seen i (start s t m) ≡ seen i m
started_seen s t i m = at (starting_items s m.cpu m.ready) (starting_first s m.cpu m.ready)
  where
    at : (is : List ℕ) → is ++ drop (length is) m.ready ≡ m.ready → seen i (start_these s t m is) ≡ seen i m
    at is split = with_lines is
      where
        moved : times (record m { ready = drop (length is) m.ready; cpu = m.cpu ++ map (job_of s) is }) i ≡ times m i
        moved =
            let a = sym (count_append (λ j. j == i) is (drop (length is) m.ready))
            ∙ ap (count_by (λ j. j == i)) split in
            omega (arith, count_append (is_job i) m.cpu (map (job_of s) is), started_count s i is)

        with_lines : (ks : List ℕ)
            → seen i (tell_starts t ks
            (record m { ready = drop (length is) m.ready; cpu = m.cpu ++ map (job_of s) is })) ≡ seen i m
        with_lines [] = omega (arith, moved)
        with_lines (k ∷ ks) = let a = moved in omega (arith, told i t kind.Starts (k ∷ ks) m.lines)

burnt_seen : (i : ℕ) (m : Moment) → seen i (burn m) ≡ seen i m
burnt_seen i m = grind arith

millisecond_seen : (s : Plan) (t i : ℕ) (m : Moment) → Once m → seen i (millisecond s m t) ≡ seen i m
millisecond_seen s t i m once =
    burnt_seen i (start s t (wake_sleepers s t (serve s t m))) ∙ started_seen s t i (wake_sleepers s t (serve s t m))
    ∙ all_steps (wake_item s t) (λ n k first z. woken_seen s t z k n first) i (length s.items) 0 (serve s t m)
    (λ z. omega (arith, once z, served_seen s t z m once)) ∙ served_seen s t i m once

pub each_ends_once : EachEndsOnce
unfolding scenario_lines
each_ends_once s i fine less =
    let told = (queue_keeps s empty (range_with_len 0 (length s.items))).2 in
    let first : (z : ℕ) → seen z (queued_at_first s) ≡ count_by (λ j. j == z) (range_with_len 0 (length s.items)) = λ z.
    omega (
      arith,
      all_weigh s (length s.items) 0 empty (λ j. cond (j == z) 1 0) (λ j. cond (is_job z j) 1 0)
          (λ x. cond (is_sleeper z x) 1 0),
      ap (count_by (tells_end z)) told,
    ) in
    let a = all_steps (millisecond s) (λ m t once z. millisecond_seen s t z m once) i (suc (whole_time s)) 0
    (queued_at_first s) (λ z. omega (arith, first z, once_among 0 (length s.items) z)) in
    let o = once_there i 0 (length s.items) (omega arith) (omega arith) in
    let none = all_items_end s fine in
    omega (
      arith,
      first i,
      ap (count_by (λ j. j == i)) none.ready,
      ap (count_by (λ j. j == i)) none.behind,
      ap (count_by (is_job i)) none.cpu,
      ap (count_by (is_sleeper i)) none.sleeping,
    )
