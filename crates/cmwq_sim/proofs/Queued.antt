-- Items are queued one after the other, before any worker is asked.
use Rattle.cmwq_sim.specs.Common.{◌≡◌, ◌==◌, ◌<◌, ◌≤◌, ◌+◌, ℕ, suc, Bool, true, false, cond, not, ◌&&◌, ◌||◌, List, []}
use Rattle.cmwq_sim.specs.Common.{◌∷◌, ◌++◌, length, map, filter, count_by, Some, None, nat_lt, refl, sym, ap, ap₂, ◌∙◌}
use Rattle.cmwq_sim.specs.Common.{subst, arith, option_to_list, append-nil, length-append, if◌then◌else◌}
use Rattle.cmwq_sim.specs.Common.{option_and_then, is_some, option_map_or, AllByRecursion, list_any, range_with_len}
use Rattle.cmwq_sim.specs.Common.{map-append, length-map, lt-ltb, ne_eqb, get_or-map, WorkerId, Who, Caller, Call}
use Rattle.cmwq_sim.specs.Common.{Reply, Entry, Queueing, Start, QueueShape, is_at, worker_of, item_at, number_started}
use Rattle.cmwq_sim.specs.Common.{is_started, is_finished, is_cancelled, is_open, booking, due_in, last_start}
use Rattle.cmwq_sim.specs.Common.{item_start, item_run, gives_ticket, ticket_for, ends_destroy, tickets, is_unended}
use Rattle.cmwq_sim.specs.Common.{is_cancelling, is_done, is_gone, is_cancel_sync_of, is_drain_of, is_newly_active}
use Rattle.cmwq_sim.specs.Common.{newly_active, became_active, worklist, is_retired, queue_answer, answer, is_shut}
use Rattle.cmwq_sim.specs.Common.{IsLegal, entry_for, opens, opening, queueings, is_live, still_open, is_unstarted}
use Rattle.cmwq_sim.specs.Common.{unstarted_queueing, is_pending, runs_elsewhere, cpu_for, HasFirstWidths, waits}
use Rattle.cmwq_sim.specs.Common.{is_left, is_in, is_of_same_pwq, behind_width, is_below_max_active_at_once}
use Rattle.cmwq_sim.specs.Common.{keeps_widths, In, of_in, all_in, filter_in, All_each, All_map, All_both}
use Rattle.cmwq_sim.specs.Common.{count_by-cons, filter_same, none_found, open_go_on, newly_active_are}
use Rattle.cmwq_sim.specs.Common.{opened_are_below_max_active, width_same, newly_of_open, worklists_go_on}
use Rattle.cmwq_model.specs.declared.call.Call.TheVariants as call
use Rattle.cmwq_model.specs.declared.reply.Reply.TheVariants as reply
use Rattle.cmwq_model.specs.Layout.{first_width}
use Rattle.cmwq_model.specs.Queueings.{queue_of as queue_run}
use Rattle.cmwq_model.specs.Widths.{width, is_frozen, max_active as width_kept}
use Rattle.std.proofs.lemmas.List.FromFn.{length-range_with_len}
use Rattle.cmwq_sim.specs.Plan.{Plan, plan_queue, is_of_plan_queue, plan_width, no_sim_queue}
use Rattle.cmwq_sim.specs.Lines.{Moment, Job, Sleeper, queue_item, empty}
use Rattle.cmwq_sim.specs.Shows.{layout_for, queue_shape, pool, queueing_for, is_job, is_sleeper, IsRunAt, Shows}
use Rattle.cmwq_lemmas.proofs.Members.{in_left}
use Rattle.cmwq_sim.proofs.Lists.{once_among, filter-append, false_from_ne_true, none-some, filter_all, range_more}
use Rattle.cmwq_sim.proofs.Lists.{count_append, range_below, count_push}
use Rattle.cmwq_sim.proofs.Steps.{EndsNone, spares, all_survive, none_ends, active_as_before}
use Rattle.cmwq_sim.proofs.FinishShown.{in_pool}
use Rattle.cmwq_lemmas.proofs.Lists.{all_mapped}

-- ---- answers yes

pub record Says (r : Reply) : Type 0 where
  pub starts : number_started r ≡ None
  pub ends : EndsNone r
  pub tickets : gives_ticket r ≡ false
  pub due : due_in r ≡ None
  pub done : is_done r ≡ false
  pub widths : keeps_widths r ≡ true
  pub stays : is_retired r ≡ false

says : (n : ℕ) → Says (reply.Yes n)
says n = record {
  starts = refl;
  ends = record { finishes = refl; cancels = refl; replaces = refl };
  tickets = refl;
  due = refl;
  done = refl;
  widths = refl;
  stays = refl;
}

pub record IsQueued (e : Entry) : Type 0 where
  pub who : worker_of e.who ≡ None
  pub says : Says e.reply

-- of what is only queued nothing else is told
pub record OnlyQueued (past : List Entry) : Type 0 where
  pub never_finished : (n : ℕ) → is_finished past n ≡ false
  pub never_cancelled : (i n : ℕ) → is_cancelled past i n ≡ false
  pub nobody_started : (w : WorkerId) → last_start past w ≡ None
  pub no_item_start : (i : ℕ) → item_start past i ≡ None
  pub no_booking : (i : ℕ) → booking past i ≡ None
  pub no_tickets : tickets past ≡ []
  pub never_gone : (q : ℕ) → is_gone past q ≡ false

only_queued : (past : List Entry) → AllByRecursion IsQueued past → OnlyQueued past
unfolding is_cancelled last_start item_start booking tickets is_gone
only_queued [] all =
    record {
      never_finished = λ n. refl;
      never_cancelled = λ i n. refl;
      nobody_started = λ w. refl;
      no_item_start =
          λ i. refl;
      no_booking = λ i. refl;
      no_tickets = refl;
      never_gone = λ q. refl;
    }
only_queued (e ∷ past) all =
    let k = only_queued past all.1 in
    record {
      never_finished = λ n. ap₂ (λ o b. is_at o n || b) all.0.says.ends.finishes (k.never_finished n);
      never_cancelled = λ i n. grind (arith, all.0.says.ends, k.never_cancelled i n);
      nobody_started = λ w. grind (arith, all.0.says.starts, k.nobody_started w);
      no_item_start =
          λ i. ap₂ (λ o l. if option_map_or (λ (start : Start). is_at (item_at past start.number) i) o false then o
          else l) (ap (option_and_then _) all.0.who) (k.no_item_start i);
      no_booking = λ i. grind (arith, all.0.says.due, k.no_booking i);
      no_tickets =
          ap₂ (λ ts b. ts ++ option_to_list (if b then ticket_for e.who e.call (length past) else None)) k.no_tickets
          all.0.says.tickets;
      never_gone = λ q. ap₂ (λ a b. a || (b && ends_destroy past q e.who e.call)) (k.never_gone q) all.0.says.done;
    }

stays_open : (past : List Entry) (i n : ℕ) → AllByRecursion IsQueued past → is_open past i n ≡ nat_lt n (length past)
stays_open past i n all = let k = only_queued past all in grind (arith, k.never_finished n, k.never_cancelled i n)

no_item_run : (past : List Entry) (i : ℕ) → AllByRecursion IsQueued past → item_run past i ≡ None
no_item_run past i all = ap (option_and_then _) ((only_queued past all).no_item_start i)

-- ---- one more item

-- those that have been queued so far, and nobody else
pub record ShowsQueued (s : Plan) (k : ℕ) (past : List Entry) (m : Moment) : Type 0 where
  pub legal : IsLegal (layout_for s) past
  pub all : AllByRecursion IsQueued past
  pub many : length past ≡ k
  pub queued : queueings past ≡ map (queueing_for s) (range_with_len 0 k)
  pub ready : worklist (layout_for s) past pool ≡ map (queueing_for s) m.ready
  pub behind : filter (waits (layout_for s) past) (still_open past) ≡ map (queueing_for s) m.behind
  pub counts : (p : ℕ → Bool) → count_by p (m.ready ++ m.behind) ≡ count_by p (range_with_len 0 k)
  pub widths : HasFirstWidths (layout_for s) past
  pub wide : (q : ℕ) → width (layout_for s) past q ≡ first_width (layout_for s) q

abbrev pub queue_call : Plan → ℕ → Call
queue_call s i = call.Queue (record { 0 = i }) (record { 0 = plan_queue s i }) (record { 0 = 0 })

abbrev pub caller : Who
caller = Caller (record { 0 = 0 })

module _ (s : Plan) (k : ℕ) (past : List Entry) (m : Moment) (h : ShowsQueued s k past m) where
  abbrev pub entry : Entry
  entry = entry_for (layout_for s) past caller (queue_call s k)

  -- fewer than max_active of its queue stand before it
  abbrev pub has_place : Bool
  has_place =
      nat_lt (count_by (is_of_plan_queue s (plan_queue s k)) (m.ready ++ m.behind)) (plan_width s (plan_queue s k))

  numbered : AllByRecursion (λ (x : Queueing). x.number < k) (queueings past)
  numbered =
      subst (AllByRecursion (λ (x : Queueing). x.number < k)) (sym h.queued)
      (all_mapped (queueing_for s) (λ (x : Queueing). x.number < k) (range_with_len 0 k)
      (All_map (λ i. i < 0 + k) (λ i. i < k) (range_with_len 0 k) (λ i less. omega arith) (range_below 0 k)))

  all_open : still_open past ≡ queueings past
  all_open =
      filter_all (is_live past) (queueings past)
      (All_map (λ (x : Queueing). x.number < k) (λ x. is_live past x ≡ true) (queueings past)
      (λ x less. stays_open past x.item.0 x.number h.all ∙ lt-ltb x.number (length past) (omega (arith, h.many)))
      numbered)

  open_are : still_open past ≡ map (queueing_for s) (range_with_len 0 k)
  open_are = all_open ∙ h.queued

  free : unstarted_queueing past k ≡ None
  free = none_found (is_unstarted past k) (still_open past)
      (subst (AllByRecursion (λ x. is_unstarted past k x ≡ false)) (sym open_are)
      (all_mapped (queueing_for s) (λ x. is_unstarted past k x ≡ false) (range_with_len 0 k)
      (All_map (λ i. i < 0 + k) (λ i. is_unstarted past k (queueing_for s i) ≡ false) (range_with_len 0 k)
      (λ i less. ap (λ b. b && not (is_started past i)) (ne_eqb i k (λ same. absurd (omega arith))))
      (range_below 0 k))))

  pub answered : answer (layout_for s) past caller (queue_call s k) ≡ reply.Yes k
  unfolding answer queue_answer
  answered =
      at (is_gone past (plan_queue s k)) (is_cancelling past k) (is_pending past k)
      (runs_elsewhere past k (plan_queue s k)) (is_shut past caller (plan_queue s k) 0)
      ((only_queued past h.all).never_gone (plan_queue s k))
      (ap (λ ts. list_any (is_cancel_sync_of k) (filter (is_unended past) ts)) (only_queued past h.all).no_tickets)
      (ap₂ (λ a b. is_some a || is_some b) ((only_queued past h.all).no_booking k) free)
      (ap (λ o. option_map_or (λ (start : Start). not (is_at (queue_run past start.number) (plan_queue s k))) o false)
      (no_item_run past k h.all))
      (ap (λ ts. list_any (is_drain_of (plan_queue s k)) (filter (is_unended past) ts) && true)
      (only_queued past h.all).no_tickets)
      ∙ ap reply.Yes h.many
    where
      at : (gone cancelling pending elsewhere shut : Bool) → gone ≡ false → cancelling ≡ false → pending ≡ false
          → elsewhere ≡ false → shut ≡ false
          → (if gone then reply.Gone else if cancelling then reply.No else if pending then reply.No else if elsewhere
          then reply.Foreign else if shut then reply.Draining else reply.Yes (length past))
          ≡ reply.Yes (length past)
      at gone cancelling pending elsewhere shut a b c d e = grind arith

  legal : k < 8 → plan_queue s k < length s.queues → IsLegal (layout_for s) (entry ∷ past)
  unfolding IsLegal
  legal few there = (
    ap₂ (λ a b. a && b && true) (lt-ltb k 8 few)
        (lt-ltb (plan_queue s k) (length (map queue_shape s.queues))
        (subst (λ n. plan_queue s k < n) (sym (length-map s.queues queue_shape)) there)),
    refl,
    h.legal,
  )

  said : Says (answer (layout_for s) past caller (queue_call s k))
  said = subst Says (sym answered) (says k)

  opened : opening past entry ≡ Some (queueing_for s k)
  opened = ap
      (λ r. if opens r
      then Some
      (record {
        item = record { 0 = k };
        place =
            record { queue = record { 0 = plan_queue s k }; cpu = cpu_for past k (record { 0 = 0 }) };
        number = length past;
      })
      else None) answered
      ∙ ap₂ (λ o n.
      Some (record {
        item = record { 0 = k };
        place =
            record {
              queue = record { 0 = plan_queue s k };
              cpu =
                  option_map_or (λ (start : Start). start.worker.pool.cpu) o (record { 0 = 0 });
            };
        number = n;
      }))
      (no_item_run past k h.all) h.many

  counted : (is : List ℕ) → count_by (is_of_same_pwq (queueing_for s k)) (map (queueing_for s) is)
      ≡ count_by (is_of_plan_queue s (plan_queue s k)) is
  counted [] = refl
  counted (i ∷ is) =
      grind (
        arith,
        counted is,
        count_by-cons (is_of_same_pwq (queueing_for s k)) (queueing_for s i) (map (queueing_for s) is),
        count_by-cons (is_of_plan_queue s (plan_queue s k)) i is,
      )

  -- it is active at once where fewer than max_active of its queue stand before it
  is_below_max_active : is_below_max_active_at_once (layout_for s) past entry (queueing_for s k) ≡ has_place
  is_below_max_active =
      ap₂ nat_lt
      (ap (count_by (is_of_same_pwq (queueing_for s k))) (all_survive past entry (still_open past) said.ends ∙ open_are)
      ∙ counted (range_with_len 0 k) ∙ sym (h.counts (is_of_plan_queue s (plan_queue s k))))
      (h.wide (plan_queue s k)
      ∙ ap (λ (q : QueueShape). q.max_active) (get_or-map queue_shape s.queues (plan_queue s k) no_sim_queue))

  newly : (few : k < 8) (there : plan_queue s k < length s.queues) → newly_active (layout_for s) past entry
      ≡ (if has_place then queueing_for s k ∷ [] else [])
  newly few there = newly_active_are (layout_for s) past entry (legal few there) said.widths
      ∙ ap₂ (λ a b. filter (waits (layout_for s) past) (option_to_list (behind_width (layout_for s) past a))
      ++ filter (is_below_max_active_at_once (layout_for s) past entry) (option_to_list b))
      (none_ends past entry said.ends) opened
      ∙ ap (λ b. cond b (queueing_for s k ∷ []) []) is_below_max_active

  open_after : (few : k < 8) (there : plan_queue s k < length s.queues) → still_open (entry ∷ past) ≡ still_open past
      ++ queueing_for s k ∷ []
  open_after few there = open_go_on (layout_for s) past entry (legal few there)
      ∙ ap₂ (λ xs o. xs ++ option_to_list o) (all_survive past entry (still_open past) said.ends) opened

  all_queued : AllByRecursion IsQueued (entry ∷ past)
  all_queued = (record { who = refl; says = said }, h.all)

  -- ---- what is ready then

  left : (x : Queueing) → is_left past entry x ≡ true
  left x = ap₂ (λ b o. b && not (is_at o x.number)) (spares past entry x said.ends) said.starts

  started_in : (b : Bool) → filter (is_in (layout_for s) pool) (if b then queueing_for s k ∷ [] else [])
      ≡ map (queueing_for s) (if b then k ∷ [] else [])
  started_in true = ap (λ b. cond b (queueing_for s k ∷ []) []) (in_pool s k)
  started_in false = refl

  ready_after : (few : k < 8) (there : plan_queue s k < length s.queues) → worklist (layout_for s) (entry ∷ past) pool
      ≡ map (queueing_for s) (m.ready ++ (if has_place then k ∷ [] else []))
  ready_after few there =
      worklists_go_on (layout_for s) past entry pool (legal few there)
      ∙ ap₂ (λ xs ys. xs ++ filter (is_in (layout_for s) pool) ys)
      (filter_all (is_left past entry) (worklist (layout_for s) past pool)
      (All_each _ (worklist (layout_for s) past pool) left) ∙ h.ready) (newly few there)
      ∙ ap (λ ys. map (queueing_for s) m.ready ++ ys) (started_in has_place)
      ∙ sym (map-append (queueing_for s) m.ready (if has_place then k ∷ [] else []))

  -- ---- and what is after

  newly_last : (b : Bool) → AllByRecursion (λ (x : Queueing). x.number ≡ k) (if b then queueing_for s k ∷ [] else [])
  newly_last true = (refl, tt)
  newly_last false = tt

  old_ones : AllByRecursion (λ (x : Queueing). x.number < k) (still_open past)
  old_ones = subst (AllByRecursion (λ (x : Queueing). x.number < k)) (sym all_open) numbered

  none_newly : (few : k < 8) (there : plan_queue s k < length s.queues)
      → AllByRecursion (λ x. is_newly_active (layout_for s) past entry x ≡ false) (still_open past)
  none_newly few there =
      all_in _ (still_open past) (λ x stands. false_from_ne_true (is_newly_active (layout_for s) past entry x) (λ new.
      let listed =
      filter_in (is_newly_active (layout_for s) past entry) (still_open (entry ∷ past)) x
      (subst (In x) (sym (open_after few there)) (in_left (still_open past) (queueing_for s k ∷ []) x stands))
      new in
      let same =
      of_in (λ (y : Queueing). y.number ≡ k) (if has_place then queueing_for s k ∷ [] else []) x
      (newly_last has_place)
      (subst (In x) (sym (newly_of_open (layout_for s) past entry) ∙ newly few there) listed) in
      let less = of_in (λ (y : Queueing). y.number < k) (still_open past) x old_ones stands in
      absurd (omega arith)))

  as_before : (x : Queueing) → x.number < k → is_newly_active (layout_for s) past entry x ≡ false
      → waits (layout_for s) (entry ∷ past) x ≡ waits (layout_for s) past x
  as_before x less =
      active_as_before (layout_for s) past entry x (stays_open (entry ∷ past) x.item.0 x.number all_queued
      ∙ lt-ltb x.number (suc (length past)) (omega (arith, h.many)))

  last_waits : (few : k < 8) (there : plan_queue s k < length s.queues)
      → waits (layout_for s) (entry ∷ past) (queueing_for s k) ≡ not has_place
  last_waits few there =
      ap not (opened_are_below_max_active (layout_for s) past entry (queueing_for s k) (legal few there) opened
      ∙ is_below_max_active)

  put : (b : Bool) → cond (not b) (queueing_for s k ∷ []) [] ≡ map (queueing_for s) (if b then [] else k ∷ [])
  put true = refl
  put false = refl

  behind_after : (few : k < 8) (there : plan_queue s k < length s.queues)
      → filter (waits (layout_for s) (entry ∷ past)) (still_open (entry ∷ past))
      ≡ map (queueing_for s) (m.behind ++ (if has_place then [] else k ∷ []))
  behind_after few there =
      ap (filter (waits (layout_for s) (entry ∷ past))) (open_after few there)
      ∙ filter-append (waits (layout_for s) (entry ∷ past)) (still_open past) (queueing_for s k ∷ [])
      ∙ ap₂ (λ xs ys. xs ++ ys)
      (filter_same (waits (layout_for s) (entry ∷ past)) (waits (layout_for s) past) (still_open past)
      (All_both (λ (x : Queueing). x.number < k) (λ x. is_newly_active (layout_for s) past entry x ≡ false) _
      (still_open past) as_before old_ones (none_newly few there)) ∙ h.behind)
      (ap (λ b. cond b (queueing_for s k ∷ []) []) (last_waits few there) ∙ put has_place)
      ∙ sym (map-append (queueing_for s) m.behind (if has_place then [] else k ∷ []))

  -- ---- together

  pub queue_shown : (few : k < 8) (there : plan_queue s k < length s.queues)
      → ShowsQueued s (suc k) (entry ∷ past) (queue_item s m k)
  unfolding queueings
  queue_shown few there = at has_place refl
    where
      counts_more : (p : ℕ → Bool) → count_by p (range_with_len 0 (suc k))
          ≡ count_by p m.ready + count_by p m.behind + cond (p k) 1 0
      counts_more p =
          omega (
            arith,
            h.counts p,
            count_append p m.ready m.behind,
            ap (count_by p) (range_more 0 k ∙ ap (λ n. range_with_len 0 k ++ n ∷ []) (omega arith))
                ∙ count_push p (range_with_len 0 k) k,
          )

      still_wide : (q : ℕ) → width (layout_for s) (entry ∷ past) q ≡ first_width (layout_for s) q
      still_wide q = width_same (layout_for s) past entry q said.widths ∙ h.wide q

      all_listed : queueings (entry ∷ past) ≡ map (queueing_for s) (range_with_len 0 (suc k))
      all_listed = ap₂ (λ xs o. xs ++ option_to_list o) h.queued opened
          ∙ sym (map-append (queueing_for s) (range_with_len 0 k) (k ∷ []))
          ∙ ap (map (queueing_for s)) (sym (range_more 0 k ∙ ap (λ n. range_with_len 0 k ++ n ∷ []) (omega arith)))

      shows : (ready behind : List ℕ) → worklist (layout_for s) (entry ∷ past) pool ≡ map (queueing_for s) ready
          → filter (waits (layout_for s) (entry ∷ past)) (still_open (entry ∷ past)) ≡ map (queueing_for s) behind
          → ((p : ℕ → Bool) → count_by p (ready ++ behind) ≡ count_by p (range_with_len 0 (suc k)))
          → ShowsQueued s (suc k) (entry ∷ past) (record m { ready = ready; behind = behind })
      shows ready behind ready_is behind_is counts = record {
        legal = legal few there;
        all = all_queued;
        many = ap suc h.many;
        queued = all_listed;
        ready = ready_is;
        behind = behind_is;
        counts = counts;
        widths = (still_wide, h.widths);
        wide = still_wide;
      }

      at : (b : Bool) → has_place ≡ b
          → ShowsQueued s (suc k) (entry ∷ past) (if b then record m { ready = m.ready ++ k ∷ [] }
          else record m { behind = m.behind ++ k ∷ [] })
      at true is =
          shows (m.ready ++ k ∷ []) m.behind (rw is at (ready_after few there))
          (rw (is, append-nil m.behind) at (behind_after few there))
          (λ p. omega (arith, count_append p (m.ready ++ k ∷ []) m.behind, count_push p m.ready k, counts_more p))
      at false is =
          shows m.ready (m.behind ++ k ∷ []) (rw (is, append-nil m.ready) at (ready_after few there))
          (rw is at (behind_after few there))
          (λ p. omega (arith, count_append p m.ready (m.behind ++ k ∷ []), count_push p m.behind k, counts_more p))

-- ---- before the first, and when all are queued

pub nothing_shown : (s : Plan) → ShowsQueued s 0 [] empty
unfolding IsLegal queueings worklist became_active width width_kept is_frozen
nothing_shown s = record {
  legal = tt;
  all = tt;
  many = refl;
  queued = refl;
  ready = refl;
  behind = refl;
  counts = λ p. refl;
  widths = tt;
  wide = λ q. ap (λ (x : QueueShape). if x.freezable && false then 0 else first_width (layout_for s) q)
      (get_or-map queue_shape s.queues q no_sim_queue);
}

count_all : (xs : List ℕ) → count_by (λ j. true) xs ≡ length xs
count_all [] = refl
count_all (x ∷ xs) = count_by-cons (λ j. true) x xs ∙ ap (λ n. 1 + n) (count_all xs) ∙ omega arith

pub all_shown : (s : Plan) (past : List Entry) (m : Moment) (slot : ℕ → ℕ) → length s.items ≤ 8 → m.cpu ≡ []
    → m.sleeping ≡ [] → ShowsQueued s (length s.items) past m → Shows s past m slot
all_shown s past m slot few cpu sleeping h = record {
  legal = h.legal;
  kept = All_map IsQueued (λ e. is_retired e.reply ≡ false) past (λ e queued. queued.says.stays) h.all;
  queued = h.queued;
  ready = h.ready;
  behind = h.behind;
  cpu = subst (AllByRecursion (λ j. IsRunAt past (slot j.item) j.item false)) (sym cpu) tt;
  sleeping = subst (AllByRecursion (λ x. IsRunAt past (slot x.item) x.item true)) (sym sleeping) tt;
  no_others =
      λ w n runs. absurd
      (none-some n (sym (ap (option_and_then _) ((only_queued past h.all).nobody_started w)) ∙ runs));
  once = λ i.
      let a = ap₂ (λ (js : List Job) (xs : List Sleeper). count_by (is_job i) js + count_by (is_sleeper i) xs) cpu
      sleeping in
      omega (
        arith,
        count_append (λ j. j == i) m.ready m.behind,
        h.counts (λ j. j == i),
        once_among 0 (length s.items) i,
      );
  widths = h.widths;
  wide = h.wide;
  few =
      let a = ap₂ (λ (js : List Job) (xs : List Sleeper). length js + length xs) cpu sleeping in
      let b = sym (count_all (m.ready ++ m.behind)) ∙ h.counts (λ j. true)
      ∙ count_all (range_with_len 0 (length s.items)) ∙ length-range_with_len 0 (length s.items) in
      omega (arith, length-append m.ready m.behind);
}
