-- Where a play stands and nothing is left to do, the history is one that a run of the script may leave.
use Rattle.std.specs.Option.{option_map_or}
use Rattle.std.specs.Prelude.{◌||◌, is_some, option_and_then}
use Rattle.std.specs.List.{list_any}
use Rattle.std.proofs.Common.{◌≡◌, ◌∙◌, ◌+◌, ◌<◌, ◌≤◌, ◌∷◌, ℕ, zero, suc, Bool, true, false, List, [], Option, Some}
use Rattle.std.proofs.Common.{None}
use Rattle.std.proofs.Common.{length, map, take, slice_get, nat_lt, refl, sym, ap, subst, arith, inl, inr}
use Rattle.std.proofs.lemmas.Bool.{both_ways, ltb-false}
use Rattle.std.proofs.lemmas.List.{length-map, take_all}
use Rattle.std.proofs.lemmas.Option.{get_or_from_slice_get, slice_get_within}
use Rattle.cmwq_lemmas.proofs.Members.{any_in, in_at}
use Rattle.cmwq_model.specs.Prelude.{Layout, past_of, serial_of}
use Rattle.cmwq_model.specs.declared.entry.Entry.{Entry}
use Rattle.cmwq_model.specs.declared.id.Who.{Who}
use Rattle.cmwq_json_script.specs.Runs.{Run}
use Rattle.cmwq_json_script.specs.Views.{calls_in}
use Rattle.cmwq_json_script.specs.declared.action.Action.{Action}
use Rattle.cmwq_monitor.specs.Participants.{made_by, newcomer}
use Rattle.cmwq_monitor.specs.Held as monitor
use Rattle.cmwq_monitor.proofs.Entering.{made_all}
use Rattle.cmwq_rt.specs.Places.{worker_by_number}
use Rattle.cmwq_rt.specs.Scripts.{Follows, HasFollowed}
use Rattle.cmwq_rt.specs.Sums.{no_waits, plus}
use Rattle.cmwq_rt.specs.declared.left_out.LeftOut.{LeftOut}
use Rattle.cmwq_rt.proofs.Following.{follows_later}
use Rattle.cmwq_engine.specs.Conduct.{caller_numbered}
use Rattle.cmwq_engine.specs.Ended.{AllWorkedFrom, WaitedIn, WorkedIn}
use Rattle.cmwq_rt_scripts.specs.Ended.{AllFollow, FollowsIn}
use Rattle.cmwq_cmd_run.specs.Interpreted.{plays}
use Rattle.cmwq_play.specs.Stands.{Stand, IsDone, has_run, script_at}
use Rattle.cmwq_play.specs.declared.place.CallerAt.{CallerAt}
use Rattle.cmwq_play.specs.declared.place.RunAt.{RunAt}
use Rattle.cmwq_play.specs.declared.place.WorkerAt.{WorkerAt}
use Rattle.cmwq_schedule_laws.specs.Leaving.{MayLeave}
use Rattle.cmwq_schedule_laws.proofs.Accounts.{CallerStands, Holding, IsInWait, IsIdle, IsLendable, IsPlayable}
use Rattle.cmwq_schedule_laws.proofs.Accounts.{LentStands, Stands, Works, actions_at, caller_of, lent_to}
use Rattle.cmwq_schedule_laws.proofs.Keeping.{own_counted}

-- ---- one caller of the script

or_false : (a b : Bool) → (a || b) ≡ false → (a ≡ false) × (b ≡ false)
or_false true b is = absurd (cc is)
or_false false b is = (refl, is)

none_is : {X : Type 0} (o : Option X) → is_some o ≡ false → o ≡ None
none_is None is = refl
none_is (Some x) is = absurd (cc is)

-- one who has done all its actions has followed its calls
followed_in : (s : Layout) (k : ℕ) (script : List Action) (at : CallerAt) (log : List Entry)
    → CallerStands s k script at log → at.wait ≡ None → length script ≤ at.next
    → (n : ℕ) × FollowsIn s k (calls_in script) n log
followed_in s k script at log stands idle over =
    let who = caller_numbered k in
    let v = stands.view in
    let taken : HasFollowed s (calls_in (take at.next script)) stands.full (newcomer (caller_numbered k)) stands.view =
    subst (λ o. IsInWait s (calls_in (take at.next script)) stands.full (newcomer (caller_numbered k)) o stands.view)
    idle
    stands.follows in
    let f : HasFollowed s (calls_in script) stands.full (newcomer (caller_numbered k)) stands.view =
    subst (λ xs. HasFollowed s (calls_in xs) stands.full (newcomer (caller_numbered k)) stands.view)
    (take_all at.next script over) taken in
    let same : made_by (caller_numbered k) log ≡ made_by (caller_numbered k) v.seen =
    subst (λ (x : Who). made_by x log ≡ made_by x v.seen) stands.who
    (made_all v log (own_counted log v stands.up) stands.up.book stands.up.older) in (
      stands.full,
      subst (λ all. Follows s (caller_numbered k) log [] (calls_in script) all stands.full) (sym (same ∙ f.gains.made))
          (follows_later s (caller_numbered k) v.seen log stands.up.older (calls_in script) [] f.entries stands.full
          f.follows),
    )

-- ---- all parties

module _ (r : Run) (ok : IsPlayable r) (p : Stand) (st : Stands r p) (done : IsDone p) where
  abbrev log : List Entry
  log = p.history.entries

  -- the caller of each place has followed its calls
  follows_at : (k : ℕ) (script : List Action) → slice_get r.callers k ≡ Some script
      → (n : ℕ) × FollowsIn r.layout k (calls_in script) n p.history.entries
  follows_at k script is = at_place (slice_get p.callers k) refl
    where
      there : k < length p.callers
      there =
          let within = slice_get_within r.callers k script is in
          let all = st.all_callers in
          omega arith

      same_script : actions_at r.callers k ≡ script
      same_script = ap (λ o. option_map_or (λ actions. actions) o []) is

      at_place : (o : Option CallerAt) → slice_get p.callers k ≡ o
          → (n : ℕ) × FollowsIn r.layout k (calls_in script) n p.history.entries
      at_place None none = absurd (nobody p.callers k there none)
        where
          nobody : (xs : List CallerAt) (k : ℕ) → k < length xs → slice_get xs k ≡ None → ⊥
          nobody [] k less none = omega (arith, less)
          nobody (x ∷ xs) zero less none = absurd (cc none)
          nobody (x ∷ xs) (suc k) less none = nobody xs k (omega arith) none
      at_place (Some at) here =
          let left = or_false (is_some at.wait) (nat_lt at.next (length (script_at p k))) (done.callers k at here) in
          let script_is : script_at p k ≡ script =
          ap (λ lists. actions_at lists k) st.scripts ∙ same_script in
          let over : length script ≤ at.next =
          subst (λ (xs : List Action). length xs ≤ at.next) script_is
          (ltb-false at.next (length (script_at p k)) left.1) in
          followed_in r.layout k script at p.history.entries
          (subst (λ (xs : List Action). CallerStands r.layout k xs at p.history.entries) same_script
          (st.callers k at here))
          (none_is at.wait left.0) over

  follow_from : (rest : List (List Action)) (k : ℕ)
      → ((j : ℕ) (xs : List Action) → slice_get rest j ≡ Some xs → slice_get r.callers (k + j) ≡ Some xs)
      → (full : ℕ) × AllFollow r.layout k (map calls_in rest) full p.history.entries
  follow_from [] k there = (0, refl)
  follow_from (xs ∷ rest) k there =
      let here : slice_get r.callers k ≡ Some xs =
      (let same : k + 0 ≡ k = omega arith in subst (λ (i : ℕ). slice_get r.callers i ≡ Some xs) same
      (there 0 xs refl)) in
      let one = follows_at k xs here in
      let others =
      follow_from rest (suc k)
      (λ j ys is. (let next : k + suc j ≡ suc k + j = omega arith in
      subst (λ (i : ℕ). slice_get r.callers i ≡ Some ys) next (there (suc j) ys is))) in
      (one.0 + others.0, (one.0, others.0, one.1, others.1, refl))

  all_follow : (full : ℕ) × AllFollow r.layout 0 (map calls_in r.callers) full p.history.entries
  all_follow =
      follow_from r.callers 0
      (λ j xs is. (let same : j ≡ 0 + j = omega arith in subst (λ (i : ℕ). slice_get r.callers i ≡ Some xs) same is))

  -- no worker has a run
  idle_at : (k : ℕ) (at : WorkerAt) → slice_get p.workers k ≡ Some at → at.run ≡ None
  idle_at k at is = none_is at.run (no_run (has_run at) refl)
    where
      no_run : (b : Bool) → has_run at ≡ b → has_run at ≡ false
      no_run false not = not
      no_run true runs =
          absurd (both_ways (list_any has_run p.workers)
          done.workers
          (any_in has_run p.workers at
          (in_at p.workers k at (slice_get_within p.workers k at is) (get_or_from_slice_get p.workers k at at is))
          runs))

  -- so each caller that may be lent is back
  waited_at : (c : ℕ) → IsLendable r c → WaitedIn r.layout c p.history.entries
  waited_at c lendable = of (st.lent.holder c) (st.lent.each c lendable)
    where
      of : (o : Holding) → LentStands r p c o → WaitedIn r.layout c p.history.entries
      of (inl place) rested = record {
        last = rested.view;
        waited = rested.waited;
        who = rested.who;
        older = rested.up.older;
        own = subst (λ (x : Who). serial_of (past_of p.history.entries) x ≡ rested.view.serial) rested.who
            rested.up.book;
      }
      of (inr k) (at, is, waits) =
          let none : lent_to at ≡ None =
          ap (option_and_then (λ (run : RunAt). caller_of run.doing)) (idle_at k at is) in
          absurd (cc (sym none ∙ waits))

  worked_at : (k : ℕ) (at : WorkerAt) → slice_get p.workers k ≡ Some at
      → (l : LeftOut) × WorkedIn r.layout (plays r.does r.layout) at.id l p.history.entries
  worked_at k at is =
      of (subst (λ o. Works r.layout r.does at.id o p.history.entries) (idle_at k at is) (st.workers k at is).works)
    where
      of : IsIdle r.layout r.does at.id p.history.entries
          → (l : LeftOut) × WorkedIn r.layout (plays r.does r.layout) at.id l p.history.entries
      of idle = (
        idle.left_out,
        record {
          runs = idle.runs;
          last = idle.view;
          in_turn = idle.in_turn;
          older = idle.up.older;
          own = subst (λ (x : Who). serial_of (past_of p.history.entries) x ≡ idle.view.serial) idle.who idle.up.book;
        },
      )

  worked_from : (rest : List WorkerAt) (k : ℕ) → k + length rest ≡ length p.workers
      → ((j : ℕ) (at : WorkerAt) → slice_get rest j ≡ Some at → slice_get p.workers (k + j) ≡ Some at)
      → (l : LeftOut) × AllWorkedFrom r.layout (plays r.does r.layout) k (length rest) l p.history.entries
  worked_from [] k long there =
      let last : length p.workers ≡ k = omega (arith, long) in
      (no_waits, (subst (λ (n : ℕ). worker_by_number r.layout n ≡ None) last st.all_workers, refl))
  worked_from (at ∷ rest) k long there =
      let here : slice_get p.workers k ≡ Some at =
      (let same : k + 0 ≡ k = omega arith in subst (λ (i : ℕ). slice_get p.workers i ≡ Some at) same
      (there 0 at refl)) in
      let one = worked_at k at here in
      let sum : suc k + length rest ≡ length p.workers = omega (arith, long) in
      let others =
      worked_from rest (suc k) sum
      (λ j x is. (let next : k + suc j ≡ suc k + j = omega arith in
      subst (λ (i : ℕ). slice_get p.workers i ≡ Some x) next (there (suc j) x is))) in (
        plus one.0 others.0,
        (at.id, one.0, others.0, (st.workers k at here).id, one.1, others.1, refl),
      )

  all_worked : (l : LeftOut) × AllWorkedFrom r.layout (plays r.does r.layout) 0 (length p.workers) l p.history.entries
  all_worked =
      worked_from p.workers 0 (omega arith)
      (λ j x is. (let same : j ≡ 0 + j = omega arith in subst (λ (i : ℕ). slice_get p.workers i ≡ Some x) same is))

  -- ---- the history

  pub may_leave : MayLeave r p.history.entries
  may_leave =
      let follow = all_follow in
      let worked = all_worked in
      let many : length (map calls_in r.callers) ≡ length r.callers = length-map r.callers calls_in in (
        follow.0,
        worked.0,
        record {
          legal = st.kept.legal;
          follow = follow.1;
          waited = record {
            each = λ k from to. waited_at k (omega (arith, many, from), omega (arith, many, to));
          };
          worked = (length p.workers, worked.1);
          silent = record {
            none = λ k from to. absurd (let all = ok.all_callers in omega (arith, many, from, to, all));
          };
          finished = subst (λ (s : Layout). monitor.active_in s p.history.entries ≡ 0) st.kept.layout done.active;
        },
      )
