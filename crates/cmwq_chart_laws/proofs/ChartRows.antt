-- The figures of a legal history are of rows whose numbers are in the ranges of their types.
use Rattle.std.proofs.Common.{◌≡◌, ℕ, ◌+◌, ◌-◌, ◌<◌, ◌≤◌, Bool, true, false, ◌&&◌, List, [], ◌∷◌, ◌++◌, length, map}
use Rattle.std.proofs.Common.{filter, flat_map, Option, Some, None, option_map, option_to_list}
use Rattle.std.proofs.Common.{arith, nat_le, nat_lt, leb-true, ltb-true}
use Rattle.std.specs.Prelude.{if◌then◌else◌, IsTrue, option_and_then}
use Rattle.std.specs.List.{AllByRecursion, range_with_len}
use Rattle.std.proofs.lemmas.Bool.{and_parts}
use Rattle.cmwq_lemmas.proofs.Lists.{All_append, All_flat, All_map, all_mapped}
use Rattle.cmwq_lemmas.proofs.Passing.{all_kept}
use Rattle.cmwq_model.specs.declared.entry.Entry.{Entry}
use Rattle.cmwq_model.specs.declared.id.CallerId.{CallerId}
use Rattle.cmwq_model.specs.declared.id.PoolId.{PoolId}
use Rattle.cmwq_model.specs.declared.id.Who.{Who}
use Rattle.cmwq_model.specs.declared.id.Who.TheVariants.{Caller, Worker}
use Rattle.cmwq_model.specs.declared.id.WorkerId.{WorkerId}
use Rattle.cmwq_model.specs.declared.call.Call.{Call}
use Rattle.cmwq_model.specs.declared.record.Place.{Place}
use Rattle.cmwq_model.specs.declared.record.Start.{Start}
use Rattle.cmwq_model.specs.Prelude.{IsLegal, Layout, cpu_workers, fits, has_numbers, indices, is_between}
use Rattle.cmwq_model.specs.Prelude.{is_by, is_callers, is_done, is_layout, is_workers, item_at, number_started}
use Rattle.cmwq_model.specs.Prelude.{past_of, pool_workers, queueings, worker_at, worker_of, workers}
use Rattle.cmwq_chart.specs.declared.bars.Bar.{Bar}
use Rattle.cmwq_chart.specs.declared.levels.Level.{Level}
use Rattle.cmwq_chart.specs.declared.signs.Sign.{Sign}
use Rattle.cmwq_chart.specs.declared.signs.SignKind.{SignKind}
use Rattle.cmwq_chart.specs.declared.sleeps.Sleep.{Sleep}
use Rattle.cmwq_chart.specs.declared.waits.CallerWait.{CallerWait}
use Rattle.cmwq_chart.specs.declared.waits.WaitSign.{WaitSign}
use Rattle.cmwq_chart.specs.Bars.{bar_from, bar_of, bars_in, bars_of}
use Rattle.cmwq_chart.specs.CallerWaits.{caller_of_number, callers_of, caller_waits_of, end_asked, has_calls}
use Rattle.cmwq_chart.specs.CallerWaits.{is_end_answer, number_done, sign_on, ticket_in_row, ticket_row, wait_ended}
use Rattle.cmwq_chart.specs.CallerWaits.{wait_in, wait_left, wait_over, wait_rows, wait_sign_of, wait_signs_by}
use Rattle.cmwq_chart.specs.CallerWaits.{wait_signs_of, waits_by, waits_ended, waits_left}
use Rattle.cmwq_chart.specs.Lanes.{has_entries, lanes_of}
use Rattle.cmwq_chart.specs.Levels.{all_places, changes_level, has_queueings, level_ended, level_until, levels_ended}
use Rattle.cmwq_chart.specs.Levels.{levels_left, levels_of, place_on, places_of, places_of_queue}
use Rattle.cmwq_chart.specs.Shapes.{places_in}
use Rattle.cmwq_chart.specs.Signs.{sign_at, sign_kind, sign_of, signs_of}
use Rattle.cmwq_chart.specs.Sleeps.{asleep_since, ends_sleep, sleep_ended, sleep_from, sleeps_by, sleeps_ended}
use Rattle.cmwq_chart.specs.Sleeps.{sleeps_of}
use Rattle.cmwq_chart_text.specs.declared.figures.Figure.{Figure}
use Rattle.cmwq_chart_text.specs.declared.figures.Figure.TheVariants as figure
use Rattle.cmwq_chart_text.specs.Figures.{figure_row, who_row}
use Rattle.cmwq_chart_laws.specs.Charts.{ChartsAreOfRows, chart_figures}
use Rattle.cmwq_chart_laws.specs.Drawn.{AreOfRows, IsRow}
use Rattle.cmwq_chart_laws.proofs.Meant.{range_in_it}
use Rattle.cmwq_chart_laws.proofs.Rows.{All_flat_map}

-- ---- the numbers of a shape

pub record Limits (s : Layout) : Type 0 where
  pub cpus : s.cpus ≤ 64
  pub workers : s.workers ≤ 64
  pub callers : s.callers ≤ 255
  pub queues : length s.queues ≤ 255

at_most : (low high n : ℕ) → is_between low high n ≡ true → n ≤ high
at_most low high n h = leb-true n high (and_parts (nat_le low n) (nat_le n high) h).1

pub limits : (s : Layout) → IsTrue (is_layout s) → Limits s
limits s h =
    let a : is_between 1 64 s.cpus ≡ true = grind (arith, h) in
    let b : is_between 1 64 s.workers ≡ true = grind (arith, h) in
    let c : is_between 1 255 s.callers ≡ true = grind (arith, h) in
    let d : is_between 1 255 (length s.queues) ≡ true = grind (arith, h) in
    record {
      cpus = at_most 1 64 s.cpus a;
      workers = at_most 1 64 s.workers b;
      callers = at_most 1 255 s.callers c;
      queues = at_most 1 255 (length s.queues) d;
    }

-- ---- what holds of a worker holds of the worker of each of its sleeps

sleeps_ended_rows : (P : WorkerId → Type 0) (past : List Entry) (w : WorkerId) → P w
    → AllByRecursion (λ (x : Sleep). P x.worker) (sleeps_ended past w)
unfolding sleeps_ended
sleeps_ended_rows P [] w is = tt
sleeps_ended_rows P (e ∷ past) w is =
    All_append (λ (x : Sleep). P x.worker) (sleeps_ended past w) (option_to_list (sleep_ended past e w))
    (sleeps_ended_rows P past w is) (here (is_by (Worker w) e && ends_sleep e.reply) (asleep_since past w))
  where
    here : (b : Bool) (o : Option ℕ) → AllByRecursion (λ (x : Sleep). P x.worker)
        (option_to_list (if b then option_map (sleep_from w (Some (length past))) o else None))
    here true None = tt
    here true (Some from) = (is, tt)
    here false o = tt

pub sleeps_rows : (P : WorkerId → Type 0) (past : List Entry) (w : WorkerId) → P w
    → AllByRecursion (λ (x : Sleep). P x.worker) (sleeps_by past w)
unfolding sleeps_by
sleeps_rows P past w is =
    All_append (λ (x : Sleep). P x.worker) (sleeps_ended past w)
    (option_to_list (option_map (sleep_from w None) (asleep_since past w))) (sleeps_ended_rows P past w is)
    (left (asleep_since past w))
  where
    left : (o : Option ℕ) → AllByRecursion (λ (x : Sleep). P x.worker)
        (option_to_list (option_map (sleep_from w None) o))
    left None = tt
    left (Some from) = (is, tt)

-- ---- what holds of a caller holds of the caller of each of its waits

waits_ended_rows : (P : CallerId → Type 0) (past : List Entry) (c : CallerId) → P c
    → AllByRecursion (λ (x : CallerWait). P x.caller) (waits_ended past c)
unfolding waits_ended
waits_ended_rows P [] c is = tt
waits_ended_rows P (e ∷ past) c is =
    All_append (λ (x : CallerWait). P x.caller) (waits_ended past c) (option_to_list (wait_ended past e c))
    (waits_ended_rows P past c is) (here (is_by (Caller c) e) (number_done e))
  where
    over : (row : ℕ) (o : Option ℕ) → AllByRecursion (λ (x : CallerWait). P x.caller)
        (option_to_list (option_map (wait_in c row (Some (length past))) o))
    over row None = tt
    over row (Some from) = (is, tt)

    here : (b : Bool) (o : Option ℕ) → AllByRecursion (λ (x : CallerWait). P x.caller)
        (option_to_list (if b then option_and_then
        (λ t. wait_over (wait_rows past c) c (length past) (ticket_row (wait_rows past c) t)) o else None))
    here true None = tt
    here true (Some t) =
        over (ticket_row (wait_rows past c) t)
        (ticket_in_row (wait_rows past c) (ticket_row (wait_rows past c) t))
    here false o = tt

pub waits_rows : (P : CallerId → Type 0) (past : List Entry) (c : CallerId) → P c
    → AllByRecursion (λ (x : CallerWait). P x.caller) (waits_by past c)
unfolding waits_by
waits_rows P past c is =
    All_append (λ (x : CallerWait). P x.caller) (waits_ended past c) (waits_left (wait_rows past c) c)
    (waits_ended_rows P past c is)
    (All_flat (λ (x : CallerWait). P x.caller) (wait_left (wait_rows past c) c)
    (range_with_len 0 (length (wait_rows past c))) (λ row. left row (ticket_in_row (wait_rows past c) row)))
  where
    left : (row : ℕ) (o : Option ℕ) → AllByRecursion (λ (x : CallerWait). P x.caller)
        (option_to_list (option_map (wait_in c row None) o))
    left row None = tt
    left row (Some from) = (is, tt)

module _ (s : Layout) (few : Limits s) where
  -- ---- who made an entry

  maker_row : (who : Who) (c : Call) → IsTrue (fits s who c) → IsRow (who_row who)
  maker_row (Caller c) call h =
      let k = and_parts (nat_lt c.0 s.callers && is_callers call) (has_numbers s call) h in
      let m = and_parts (nat_lt c.0 s.callers) (is_callers call) k.0 in
      let less = ltb-true c.0 s.callers m.0 in let most = few.callers in omega arith
  maker_row (Worker w) call h =
      let k = and_parts (nat_lt w.pool.cpu.0 s.cpus && nat_lt w.index s.workers && is_workers call)
      (has_numbers s call) h in
      let m = and_parts (nat_lt w.pool.cpu.0 s.cpus && nat_lt w.index s.workers) (is_workers call) k.0 in
      let n = and_parts (nat_lt w.pool.cpu.0 s.cpus) (nat_lt w.index s.workers) m.0 in
      let cpu = ltb-true w.pool.cpu.0 s.cpus n.0 in let index = ltb-true w.index s.workers n.1 in
      let cpus = few.cpus in let workers = few.workers in (omega arith, omega arith)

  signs_rows : (past : List Entry) → IsLegal s past → AllByRecursion (λ (g : Sign). IsRow (who_row g.who))
      (signs_of past)
  unfolding signs_of IsLegal
  signs_rows [] legal = tt
  signs_rows (e ∷ past) legal =
      All_append (λ (g : Sign). IsRow (who_row g.who)) (signs_of past) (option_to_list (sign_of e (length past)))
      (signs_rows past legal.2) (here (sign_kind e.reply))
    where
      here : (o : Option SignKind) → AllByRecursion (λ (g : Sign). IsRow (who_row g.who))
          (option_to_list (option_map (sign_at e (length past)) o))
      here None = tt
      here (Some kind) = (maker_row e.who e.call legal.0, tt)

  abbrev IsWorkerRow : WorkerId → Type 0
  IsWorkerRow w = (w.pool.cpu.0 < 256) × (w.index < 256)

  bars_rows : (whole past : List Entry) → IsLegal s past → AllByRecursion (λ (b : Bar). IsWorkerRow b.worker)
      (bars_in whole past)
  unfolding bars_in IsLegal
  bars_rows whole [] legal = tt
  bars_rows whole (e ∷ past) legal =
      All_append (λ (b : Bar). IsWorkerRow b.worker) (bars_in whole past) (option_to_list (bar_of whole past e))
      (bars_rows whole past legal.2) (here e.who (number_started e.reply) (maker_row e.who e.call legal.0))
    where
      here : (who : Who) (o : Option ℕ) → IsRow (who_row who)
          → AllByRecursion (λ (b : Bar). IsWorkerRow b.worker)
          (option_to_list (option_and_then
          (λ (start : Start). option_map (bar_from whole (length past) start) (item_at past start.number))
          (option_and_then (λ w. option_map (λ n. record { worker = w; number = n }) o) (worker_of who))))
      here (Caller c) o is = tt
      here (Worker w) None is = tt
      here (Worker w) (Some n) is = there (item_at past n)
        where
          there : (i : Option ℕ) → AllByRecursion (λ (b : Bar). IsWorkerRow b.worker)
              (option_to_list (option_map (bar_from whole (length past) (record { worker = w; number = n })) i))
          there None = tt
          there (Some i) = (is, tt)

  -- ---- workers

  workers_rows : AllByRecursion IsWorkerRow (workers s)
  workers_rows =
      All_flat_map IsWorkerRow (cpu_workers s) (range_with_len 0 s.cpus)
      (All_map (λ i. (0 ≤ i) × (i < 0 + s.cpus)) (λ c. AllByRecursion IsWorkerRow (cpu_workers s c))
      (range_with_len 0 s.cpus)
      (λ c h. let less = h.1 in let most = few.cpus in
      All_append IsWorkerRow (pool_workers s (record { cpu = record { 0 = c }; high = false }))
      (pool_workers s (record { cpu = record { 0 = c }; high = true }))
      (of_pool (record { cpu = record { 0 = c }; high = false }) (omega arith))
      (of_pool (record { cpu = record { 0 = c }; high = true }) (omega arith)))
      (range_in_it 0 s.cpus))
    where
      of_pool : (p : PoolId) → p.cpu.0 < 256 → AllByRecursion IsWorkerRow (pool_workers s p)
      of_pool p h =
          all_mapped (worker_at p) IsWorkerRow (indices s)
          (All_map (λ i. (0 ≤ i) × (i < 0 + s.workers)) (λ i. IsWorkerRow (worker_at p i)) (range_with_len 0 s.workers)
          (λ i k. let less = k.1 in let most = few.workers in (h, omega arith)) (range_in_it 0 s.workers))

  all_sleeps_rows : (past entries : List Entry)
      → AllByRecursion (λ (x : Sleep). IsWorkerRow x.worker) (sleeps_of past (lanes_of s entries))
  unfolding lanes_of
  all_sleeps_rows past entries =
      All_flat_map (λ (x : Sleep). IsWorkerRow x.worker) (sleeps_by past) (filter (has_entries entries) (workers s))
      (All_map IsWorkerRow (λ w. AllByRecursion (λ (x : Sleep). IsWorkerRow x.worker) (sleeps_by past w))
      (filter (has_entries entries) (workers s)) (sleeps_rows IsWorkerRow past)
      (all_kept IsWorkerRow (has_entries entries) (workers s) workers_rows))

  -- ---- callers

  abbrev IsCallerRow : CallerId → Type 0
  IsCallerRow c = c.0 < 256

  callers_rows : (entries : List Entry) → AllByRecursion IsCallerRow (callers_of s entries)
  unfolding callers_of
  callers_rows entries =
      all_kept IsCallerRow (has_calls entries) (map caller_of_number (range_with_len 0 s.callers))
      (all_mapped caller_of_number IsCallerRow (range_with_len 0 s.callers)
      (All_map (λ i. (0 ≤ i) × (i < 0 + s.callers)) (λ i. IsCallerRow (caller_of_number i)) (range_with_len 0 s.callers)
      (λ i h. let less = h.1 in let most = few.callers in omega arith) (range_in_it 0 s.callers)))

  wait_signs_rows : (past : List Entry) (c : CallerId) → IsCallerRow c
      → AllByRecursion (λ (x : WaitSign). IsCallerRow x.caller) (wait_signs_by past c)
  unfolding wait_signs_by
  wait_signs_rows [] c is = tt
  wait_signs_rows (e ∷ past) c is =
      All_append (λ (x : WaitSign). IsCallerRow x.caller) (wait_signs_by past c)
      (option_to_list (wait_sign_of past e c)) (wait_signs_rows past c is)
      (here (is_by (Caller c) e) (is_end_answer e.reply) (end_asked e.call))
    where
      on : (row : ℕ) (o : Option ℕ) → AllByRecursion (λ (x : WaitSign). IsCallerRow x.caller)
          (option_to_list (option_map (λ (t : ℕ).
          record { caller = c; row = row; at = length past; is_done = is_done e.reply }) o))
      on row None = tt
      on row (Some t) = (is, tt)

      here : (a b : Bool) (o : Option ℕ) → AllByRecursion (λ (x : WaitSign). IsCallerRow x.caller)
          (option_to_list (if a then (if b then option_and_then
          (λ t. sign_on (wait_rows past c) e c (length past) (ticket_row (wait_rows past c) t)) o else None) else None))
      here true true None = tt
      here true true (Some t) =
          on (ticket_row (wait_rows past c) t)
          (ticket_in_row (wait_rows past c) (ticket_row (wait_rows past c) t))
      here true false o = tt
      here false b o = tt

  of_callers : {X : Type 0} (P : X → Type 0) (f : CallerId → List X) (entries : List Entry)
      → ((c : CallerId) → IsCallerRow c → AllByRecursion P (f c)) → AllByRecursion P (flat_map f (callers_of s entries))
  of_callers P f entries each =
      All_flat_map P f (callers_of s entries)
      (All_map IsCallerRow (λ c. AllByRecursion P (f c)) (callers_of s entries) each (callers_rows entries))

  -- ---- places

  abbrev pub IsPlaceRow : Place → Type 0
  IsPlaceRow p = (p.queue.0 < 256) × (p.cpu.0 < 256)

  pub places_rows : (entries : List Entry) → AllByRecursion IsPlaceRow (places_in s entries)
  unfolding places_of
  places_rows entries =
      all_kept IsPlaceRow (has_queueings (queueings (past_of entries))) (all_places s)
      (All_flat_map IsPlaceRow (places_of_queue s) (range_with_len 0 (length s.queues))
      (All_map (λ i. (0 ≤ i) × (i < 0 + length s.queues)) (λ q. AllByRecursion IsPlaceRow (places_of_queue s q))
      (range_with_len 0 (length s.queues))
      (λ q h. let less = h.1 in let most = few.queues in
      all_mapped (place_on q) IsPlaceRow (range_with_len 0 s.cpus)
      (All_map (λ i. (0 ≤ i) × (i < 0 + s.cpus)) (λ i. IsPlaceRow (place_on q i)) (range_with_len 0 s.cpus)
      (λ i k. let under = k.1 in let cpus = few.cpus in (omega arith, omega arith)) (range_in_it 0 s.cpus)))
      (range_in_it 0 (length s.queues))))

  levels_ended_rows : (past : List Entry) (places : List Place) → AllByRecursion IsPlaceRow places
      → AllByRecursion (λ (l : Level). IsPlaceRow l.place) (levels_ended s past places)
  unfolding levels_ended
  levels_ended_rows [] places are = tt
  levels_ended_rows (e ∷ past) places are =
      All_append (λ (l : Level). IsPlaceRow l.place) (levels_ended s past places)
      (flat_map (λ p. option_to_list (level_ended s past e p)) places) (levels_ended_rows past places are)
      (All_flat_map (λ (l : Level). IsPlaceRow l.place) (λ p. option_to_list (level_ended s past e p)) places
      (All_map IsPlaceRow (λ p. AllByRecursion (λ (l : Level). IsPlaceRow l.place)
      (option_to_list (level_ended s past e p))) places (λ p is. here p is (changes_level s past e p)) are))
    where
      here : (p : Place) → IsPlaceRow p → (b : Bool) → AllByRecursion (λ (l : Level). IsPlaceRow l.place)
          (option_to_list (if b then Some (level_until s past (Some (length past - 1)) p) else None))
      here p is true = (is, tt)
      here p is false = tt

  pub levels_rows : (past : List Entry) (places : List Place) → AllByRecursion IsPlaceRow places
      → AllByRecursion (λ (l : Level). IsPlaceRow l.place) (levels_of s past places)
  levels_rows past places are =
      All_append (λ (l : Level). IsPlaceRow l.place) (levels_ended s past places) (levels_left s past places)
      (levels_ended_rows past places are)
      (all_mapped (level_until s past None) (λ (l : Level). IsPlaceRow l.place) places are)

  -- ---- all of them
  all_rows : (entries : List Entry) → IsLegal s (past_of entries) → AreOfRows (chart_figures s entries)
  all_rows entries legal =
      let past : List Entry = past_of entries in
      let callers : List CallerId = callers_of s entries in
      let ws : List CallerWait = caller_waits_of past callers in
      let wss : List WaitSign = wait_signs_of past callers in
      let bs : List Bar = bars_of past in
      let ss : List Sleep = sleeps_of past (lanes_of s entries) in
      let gs : List Sign = signs_of past in
      let ls : List Level = levels_of s past (places_in s entries) in
      let P : Figure → Type 0 = λ f. IsRow (figure_row f) in
      All_append P (map figure.Wait ws ++ map figure.WaitSign wss ++ map figure.Bar bs ++ map figure.Sleep ss
      ++ map figure.Sign gs) (map figure.Level ls)
      (All_append P (map figure.Wait ws ++ map figure.WaitSign wss ++ map figure.Bar bs ++ map figure.Sleep ss)
      (map figure.Sign gs)
      (All_append P (map figure.Wait ws ++ map figure.WaitSign wss ++ map figure.Bar bs) (map figure.Sleep ss)
      (All_append P (map figure.Wait ws ++ map figure.WaitSign wss) (map figure.Bar bs)
      (All_append P (map figure.Wait ws) (map figure.WaitSign wss)
      (all_mapped figure.Wait P ws
      (of_callers (λ (x : CallerWait). IsCallerRow x.caller) (waits_by past) entries (waits_rows IsCallerRow past)))
      (all_mapped figure.WaitSign P wss
      (of_callers (λ (x : WaitSign). IsCallerRow x.caller) (wait_signs_by past) entries (wait_signs_rows past))))
      (all_mapped figure.Bar P bs (bars_rows past past legal)))
      (all_mapped figure.Sleep P ss (all_sleeps_rows past entries)))
      (all_mapped figure.Sign P gs (signs_rows past legal)))
      (all_mapped figure.Level P ls (levels_rows past (places_in s entries) (places_rows entries)))

pub charts_are_of_rows : ChartsAreOfRows
charts_are_of_rows w s entries is legal = all_rows s (limits s is) entries legal
