-- The runs that wait by callers that are lent: each has started and is open, its ticket is unended, none waits twice.
use Rattle.std.specs.Prelude.{◌≡◌, ◌≤◌, ◌<◌, ◌+◌, [], ◌∷◌, ◌++◌, ℕ, suc, List, length, take, Option, Some, None}
use Rattle.std.specs.Prelude.{◌&&◌, false, is_some, option_and_then, option_to_list, slice_index_or, true}
use Rattle.std.specs.List.{cons_option}
use Rattle.std.specs.Option.{option_map}
use Rattle.std.specs.Cmp.Derive.{both_true}
use Rattle.std.proofs.Common.{refl, sym, ap, ◌∙◌, subst, arith, ⊎_elim, get_or, true≢false}
use Rattle.std.proofs.lemmas.Bool.{lt-ltb}
use Rattle.std.proofs.lemmas.List.{length-take-le, take_more}
use Rattle.std.proofs.lemmas.List.Elements.{filter_map-append}
use Rattle.std.proofs.lemmas.List.Kept.{AllPairs-cons}
use Rattle.std.proofs.lemmas.Option.{same_Some}
use Rattle.cmwq_lemmas.proofs.Members.{In, contained_in, found, in_contained}
use Rattle.cmwq_model.specs.Prelude.{IsLegal, Layout, is_asleep, is_ticket, item_at, queueing_at, run, runs_asleep}
use Rattle.cmwq_model.specs.Prelude.{unended_tickets}
use Rattle.cmwq_model.specs.declared.entry.Entry.{Entry}
use Rattle.cmwq_model.specs.declared.id.PoolId.{PoolId}
use Rattle.cmwq_model.specs.declared.id.Who.TheVariants.{Caller, Worker}
use Rattle.cmwq_model.specs.declared.id.WorkerId.{WorkerId}
use Rattle.cmwq_model.specs.declared.record.Queueing.{Queueing}
use Rattle.cmwq_refinement.proofs.PlacesFit.{open_there}
use Rattle.cmwq_refinement.proofs.PoolNext.{runner_there}
use Rattle.cmwq_state.specs.Tables.{IsThere}
use Rattle.cmwq_theory_steps.specs.ItemQueueings.{queueing_run}
use Rattle.cmwq_theory_steps.proofs.ItemRuns.{one_worker, same_worker_itself}
use Rattle.cmwq_theory_steps.proofs.Pools.{runs_are_in_pools}
use Rattle.cmwq_waits.specs.HeldUp.{AreWaiting}
use Rattle.cmwq_waits.specs.Refused.{AreApart}
use Rattle.cmwq_waits.specs.declared.run_wait.RunWait.{RunWait}
use Rattle.cmwq_waits.proofs.Begun.{runs_by}
use Rattle.cmwq_waits.proofs.Running.{is_running}
use Rattle.cmwq_waits.proofs.Loops.{at_place}
use Rattle.cmwq_board.specs.Lent.{AreLent, RunsWaitOnce, caller_of, is_wait_of, ticket_at}
use Rattle.cmwq_board.specs.Runs.{wait_in, waits_in}
use Rattle.cmwq_board.specs.Steps.{has_worker}
use Rattle.cmwq_board.specs.declared.lending.Lending.{Lending}
use Rattle.cmwq_board.specs.declared.lending.Lending.TheVariants.{Free, Waits}

-- ---- a wait, and the caller by which it is

pub record IsWaitIn (past : List Entry) (l : Lending) (w : RunWait) : Type 0 where
  pub worker : WorkerId
  pub its_run : is_wait_of worker l ≡ true
  pub runs : queueing_run past (Worker worker) ≡ Some w.run
  pub ticket : ticket_at l ≡ Some w.ticket

pub wait_is : (past : List Entry) (l : Lending) (w : RunWait) → wait_in past l ≡ Some w → IsWaitIn past l w
wait_is past Free w is = absurd (cc is)
wait_is past (Waits t None slept) w is = absurd (cc is)
wait_is past (Waits t (Some v) slept) w is = by (queueing_run past (Worker v)) refl is
  where
    by : (o : Option Queueing) → queueing_run past (Worker v) ≡ o
        → option_map (λ (x : Queueing). record { run = x; ticket = t }) o ≡ Some w
        → IsWaitIn past (Waits t (Some v) slept) w
    by None none h = absurd (cc h)
    by (Some x) runs h =
        let same = same_Some (record { run = x; ticket = t }) w h in
        record {
          worker = v;
          its_run = same_worker_itself v;
          runs = runs ∙ ap (λ (u : RunWait). Some u.run) same;
          ticket = ap (λ (u : RunWait). Some u.ticket) same;
        }

pub record IsFrom (past : List Entry) (lent : List Lending) (w : RunWait) : Type 0 where
  pub place : ℕ
  pub less : place < length lent
  pub is : wait_in past (slice_index_or lent place Free) ≡ Some w

pub in_waits : (past : List Entry) (lent : List Lending) (w : RunWait) → In w (waits_in past lent) → IsFrom past lent w
in_waits past [] w here = absurd here
in_waits past (l ∷ ls) w here = by (wait_in past l) refl here (λ k. in_waits past ls w k)
  where
    later : IsFrom past ls w → IsFrom past (l ∷ ls) w
    later k = record { place = suc k.place; less = (let lt = k.less in omega (arith, lt)); is = k.is }

    by : (o : Option RunWait) → wait_in past l ≡ o → In w (cons_option o (waits_in past ls))
        → (In w (waits_in past ls) → IsFrom past ls w) → IsFrom past (l ∷ ls) w
    by None none h rest = later (rest h)
    by (Some v) some h rest =
        ⊎_elim (λ (same : v ≡ w). record { place = 0; less = omega arith; is = some ∙ ap Some same })
        (λ k. later (rest k)) h

-- ---- who waits

pub waits_are_waiting : (s : Layout) (past : List Entry) (lent : List Lending) → IsLegal s past → AreLent s past lent
    → AreWaiting past (waits_in past lent)
waits_are_waiting s past lent legal are w here =
    let at = in_waits past lent w (contained_in (waits_in past lent) w here) in
    let is = wait_is past (slice_index_or lent at.place Free) w at.is in
    let running = is_running s past is.worker w.run legal is.runs in
    let held = are.held at.place w.ticket at.less is.ticket in
    record {
      is_open = running.is_open;
      has_started = running.has_started;
      is_unended = in_contained (unended_tickets past) w.ticket
          (found (is_ticket (Caller (caller_of s lent at.place)) w.ticket.number) (unended_tickets past) w.ticket
          held).0;
    }

-- two workers that run the same are one
pub one_runner : (s : Layout) (past : List Entry) (v w : WorkerId) (x y : Queueing) → IsLegal s past
    → queueing_run past (Worker v) ≡ Some x → queueing_run past (Worker w) ≡ Some y → x.number ≡ y.number → v ≡ w
one_runner s past v w x y legal runs also same =
    let a = runs_by past v x runs in
    let b = runs_by past w y also in
    (one_worker s past v w x.number y.number x.item.0 legal a.runs b.runs a.known
    (subst (λ n. item_at past n ≡ Some x.item.0) same a.known)).0

later_once : (l : Lending) (ls : List Lending) → RunsWaitOnce (l ∷ ls) → RunsWaitOnce ls
later_once l ls once w i j a b = let same = once w (suc i) (suc j) a b in omega (arith, same)

pub waits_are_apart : (s : Layout) (past : List Entry) (lent : List Lending) → IsLegal s past → RunsWaitOnce lent
    → AreApart (waits_in past lent)
waits_are_apart s past [] legal once = λ i j d less within. absurd (omega arith)
waits_are_apart s past (l ∷ ls) legal once =
    by (wait_in past l) refl (waits_are_apart s past ls legal (later_once l ls once))
  where
    differs : (v : RunWait) (k : ℕ) (d : RunWait) → wait_in past l ≡ Some v → k < length (waits_in past ls)
        → v.run.number ≡ (get_or (waits_in past ls) k d).run.number → ⊥
    differs v k d is within same =
        let w = get_or (waits_in past ls) k d in
        let at = in_waits past ls w
        (contained_in (waits_in past ls) w (at_place (waits_in past ls) k d within)) in
        let one = wait_is past l v is in
        let other = wait_is past (slice_index_or ls at.place Free) w at.is in
        let worker = one_runner s past one.worker other.worker v.run w.run legal one.runs other.runs same in
        let place = once one.worker 0 (suc at.place) one.its_run
        (subst (λ u. is_wait_of u (slice_index_or ls at.place Free) ≡ true) (sym worker) other.its_run) in
        omega (arith, place)

    by : (o : Option RunWait) → wait_in past l ≡ o → AreApart (waits_in past ls)
        → AreApart (cons_option o (waits_in past ls))
    by None none rest = rest
    by (Some v) is rest =
        AllPairs-cons (λ (u w : RunWait). u.run.number ≡ w.run.number → ⊥) v (waits_in past ls)
        (λ k d within. differs v k d is within) rest

-- ---- there are no more of them than callers

pub waits_are_few : (past : List Entry) (lent : List Lending) → length (waits_in past lent) ≤ length lent
waits_are_few past [] = omega arith
waits_are_few past (l ∷ ls) = by (wait_in past l) (waits_are_few past ls)
  where
    by : (o : Option RunWait) → length (waits_in past ls) ≤ length ls
        → length (cons_option o (waits_in past ls)) ≤ length (l ∷ ls)
    by None few = omega (arith, few)
    by (Some v) few = omega (arith, few)

pub few_so_far : (past : List Entry) (lent : List Lending) (n : ℕ) → n < length lent
    → length (waits_in past (take n lent)) < length lent
few_so_far past lent n less =
    let few = waits_are_few past (take n lent) in
    let taken = length-take-le n lent (omega (arith, less)) in
    omega (arith, less, few, taken)

pub one_few : (o : Option RunWait) → length (option_to_list o) ≤ 1
one_few None = omega arith
one_few (Some w) = omega arith

-- one caller after another
one_more : (o : Option RunWait) → cons_option o [] ≡ option_to_list o
one_more None = refl
one_more (Some v) = refl

pub waits_more : (past : List Entry) (lent : List Lending) (n : ℕ) (d : Lending) → n < length lent
    → waits_in past (take (n + 1) lent)
    ≡ waits_in past (take n lent) ++ option_to_list (wait_in past (get_or lent n d))
waits_more past lent n d less =
    ap (waits_in past) (take_more lent n d less)
    ∙ filter_map-append (wait_in past) (take n lent) (get_or lent n d ∷ [])
    ∙ ap (λ ws. waits_in past (take n lent) ++ ws) (one_more (wait_in past (get_or lent n d)))

-- ---- a worker that runs something is there

runner_is_there : (s : Layout) (past : List Entry) (w : WorkerId) (n : ℕ) → IsLegal s past → run past w ≡ Some n
    → IsThere s (Worker w)
runner_is_there s past w n legal runs =
    let r = runs_are_in_pools s past w n legal runs in
    let its : queueing_run past (Worker w) ≡ Some r.queueing =
    ap (option_and_then (queueing_at past)) runs ∙ r.found in
    let opened = (is_running s past w r.queueing legal its).is_open in
    let place = open_there s past r.queueing legal (contained_in _ r.queueing opened) in (
      subst (λ (p : PoolId). p.cpu.0 < s.cpus) r.pool place.cpu,
      runner_there s past w n legal runs,
    )

outsider_runs_none : (s : Layout) (past : List Entry) (w : WorkerId) → IsLegal s past → has_worker s w ≡ false
    → run past w ≡ None
outsider_runs_none s past w legal outside = by (run past w) refl
  where
    by : (o : Option ℕ) → run past w ≡ o → o ≡ None
    by None none = refl
    by (Some n) runs =
        let there = runner_is_there s past w n legal runs in
        absurd (true≢false (sym (both_true (lt-ltb w.pool.cpu.0 s.cpus there.0) (lt-ltb w.index s.workers there.1))
        ∙ outside))

pub outsider_has_none : (s : Layout) (past : List Entry) (w : WorkerId) → IsLegal s past → has_worker s w ≡ false
    → queueing_run past (Worker w) ≡ None
outsider_has_none s past w legal outside =
    ap (option_and_then (queueing_at past)) (outsider_runs_none s past w legal outside)

pub outsider_sleeps_not : (s : Layout) (past : List Entry) (w : WorkerId) → IsLegal s past → has_worker s w ≡ false
    → runs_asleep past w ≡ false
outsider_sleeps_not s past w legal outside =
    ap (λ (o : Option ℕ). is_some o && is_asleep past w) (outsider_runs_none s past w legal outside)
