-- A caller of the script moves: it makes its next call, ends a wait, or passes a gate or a lock.
use Rattle.std.specs.Prelude.{◌^◌, if◌then◌else◌}
use Rattle.std.proofs.Common.{◌≡◌, ◌∙◌, ◌+◌, ◌-◌, ◌<◌, ◌≤◌, ◌++◌, ◌∷◌, ℕ, true, false, List, [], Option, Some, None}
use Rattle.std.proofs.Common.{length, take, slice_get, nat_lt, refl, sym, ap, subst, arith, append-nil, Bool}
use Rattle.std.proofs.lemmas.Bool.{lt-ltb, ltb-true}
use Rattle.std.proofs.lemmas.List.{take_more}
use Rattle.std.proofs.lemmas.Option.{get_or_from_slice_get, slice_get_within}
use Rattle.cmwq_model.specs.Prelude.{IsScripted, Layout, fits, is_callers, is_whole}
use Rattle.cmwq_model.specs.declared.call.Call.{Call}
use Rattle.cmwq_model.specs.declared.call.Call.TheVariants as call
use Rattle.cmwq_model.specs.declared.entry.Entry.{Entry}
use Rattle.cmwq_model.specs.declared.id.Who.{Who}
use Rattle.cmwq_model.specs.declared.id.Who.TheVariants.{Caller}
use Rattle.cmwq_json_script.specs.Views.{calls_in}
use Rattle.cmwq_json_script.specs.declared.action.Action.{Action}
use Rattle.cmwq_json_script.specs.declared.action.Action.TheVariants as action
use Rattle.cmwq_core.specs.History.{History}
use Rattle.cmwq_monitor.specs.Participants.{View, newcomer}
use Rattle.cmwq_rt.specs.Scripts.{HasFollowed}
use Rattle.cmwq_rt.proofs.Following.{followed_full, followed_more}
use Rattle.cmwq_engine.specs.Conduct.{caller_numbered}
use Rattle.cmwq_play.specs.Machines.{called, ended, ends, is_made}
use Rattle.cmwq_play.specs.Stands.{next_place, wait_of}
use Rattle.cmwq_play.specs.declared.machine.Called.{Called}
use Rattle.cmwq_play.specs.declared.machine.Called.TheVariants.{NoRoom, Whole, Waits as Began}
use Rattle.cmwq_play.specs.declared.place.CallerAt.{CallerAt}
use Rattle.cmwq_play.specs.declared.place.Ticketed.{Ticketed}
use Rattle.cmwq_schedule_laws.proofs.Accounts.{CallerStands, IsInWait}
use Rattle.cmwq_schedule_laws.proofs.Calling.{CameOf, wait_completes}
use Rattle.cmwq_schedule_laws.proofs.Keeping.{IsKept, IsUpToDate, having_seen, seen_up}
use Rattle.cmwq_schedule_laws.proofs.Numbered.{came_by, end_by, refused_by}

-- ---- the calls among actions

pub calls_append : (xs ys : List Action) → calls_in (xs ++ ys) ≡ calls_in xs ++ calls_in ys
calls_append [] ys = refl
calls_append (action.Call c ∷ xs) ys = ap (λ cs. c ∷ cs) (calls_append xs ys)
calls_append (action.Open gate ∷ xs) ys = calls_append xs ys
calls_append (action.SleepAt gate ∷ xs) ys = calls_append xs ys
calls_append (action.Lock lock ∷ xs) ys = calls_append xs ys
calls_append (action.Unlock lock ∷ xs) ys = calls_append xs ys

-- one action more
pub take_next : {X : Type 0} (xs : List X) (n : ℕ) (x : X) → slice_get xs n ≡ Some x
    → take (n + 1) xs ≡ take n xs ++ x ∷ []
take_next xs n x is =
    take_more xs n x (slice_get_within xs n x is)
    ∙ ap (λ y. take n xs ++ y ∷ []) (get_or_from_slice_get xs n x x is)

calls_next : (xs : List Action) (n : ℕ) (a : Action) → slice_get xs n ≡ Some a
    → calls_in (take (n + 1) xs) ≡ calls_in (take n xs) ++ calls_in (a ∷ [])
calls_next xs n a is = ap calls_in (take_next xs n a is) ∙ calls_append (take n xs) (a ∷ [])

pub place_next : (n long : ℕ) → n < long → long < 2 ^ 64 → next_place n ≡ n + 1
place_next n long less short =
    let room : n < 2 ^ 64 - 1 = omega arith in
    ap (λ b. if b then n + 1 else n) (lt-ltb n (2 ^ 64 - 1) room)

pub next_small : (n : ℕ) → n ≤ 2 ^ 64 - 1 → next_place n ≤ 2 ^ 64 - 1
next_small n small = at (nat_lt n (2 ^ 64 - 1)) refl
  where
    at : (b : Bool) → nat_lt n (2 ^ 64 - 1) ≡ b → (if b then n + 1 else n) ≤ 2 ^ 64 - 1
    at true less = let room = ltb-true n (2 ^ 64 - 1) less in omega (arith, room)
    at false over = small

-- ---- moves

module _ (s : Layout) (k : ℕ) (script : List Action) (at : CallerAt) (h : History) (kept : IsKept s h)
    (there : nat_lt k s.callers ≡ true) (short : length script < 2 ^ 64)
    (stands : CallerStands s k script at h.entries) where
  abbrev first : View
  first = newcomer (caller_numbered k)

  is_caller : stands.view.who ≡ Caller at.id
  is_caller = stands.who ∙ sym stands.id

  fires : fits s (Caller at.id) call.Fire ≡ true
  fires = subst (λ (w : Who). fits s w call.Fire ≡ true) (sym stands.id) (rw there refl)

  -- it goes on to its next action, which was done
  goes_on : (a : Action) → slice_get script at.next ≡ Some a → (log : List Entry) (full : ℕ) (wait : Option Ticketed)
      (v : View) → v.who ≡ caller_numbered k
      → IsInWait s (calls_in (take at.next script) ++ calls_in (a ∷ [])) full first wait v → IsUpToDate log v
      → CallerStands s k script (record at { next = next_place at.next; wait = wait }) log
  goes_on a next log full wait v who follows up =
      let less = slice_get_within script at.next a next in
      let place = place_next at.next (length script) less short in
      record {
        id = stands.id;
        full = full;
        view = v;
        who = who;
        follows = subst (λ (n : ℕ). IsInWait s (calls_in (take n script)) full first wait v) (sym place)
            (subst (λ cs. IsInWait s cs full first wait v) (sym (calls_next script at.next a next)) follows);
        up = up;
      }

  -- an action that is no call
  pub passes_on : (a : Action) → slice_get script at.next ≡ Some a → calls_in (a ∷ []) ≡ [] → at.wait ≡ None
      → CallerStands s k script (record at { next = next_place at.next }) h.entries
  passes_on a next none idle =
      subst (λ (o : Option Ticketed). CallerStands s k script
      (record at { next = next_place at.next; wait = o }) h.entries)
      (sym idle)
      (goes_on a next h.entries stands.full None stands.view stands.who
      (subst (λ cs. HasFollowed s cs stands.full first stands.view)
      (sym (ap (λ cs. calls_in (take at.next script) ++ cs) none ∙ append-nil (calls_in (take at.next script))))
      (subst (λ o. IsInWait s (calls_in (take at.next script)) stands.full first o stands.view) idle stands.follows))
      stands.up)

  -- a call
  pub calls : (c : Call) → slice_get script at.next ≡ Some (action.Call c) → at.wait ≡ None → IsScripted s c
      → CallerStands s k script
      (record at { next = next_place at.next; wait = wait_of (called h (Caller at.id) c).outcome })
      (called h (Caller at.id) c).history.entries
  calls c next idle scripted =
      of (called h (Caller at.id) c).history (called h (Caller at.id) c).outcome
      (came_by s h stands.view (Caller at.id) c is_caller kept stands.up fires)
    where
      followed : HasFollowed s (calls_in (take at.next script)) stands.full first stands.view
      followed = subst (λ o. IsInWait s (calls_in (take at.next script)) stands.full first o stands.view) idle
          stands.follows

      whole_is_callers : (d : Call) → is_whole d ≡ true → is_callers d ≡ true
      whole_is_callers (call.End t) is = absurd (cc is)
      whole_is_callers call.Fire is = absurd (cc is)
      whole_is_callers d is = is

      fit : fits s (Caller at.id) c ≡ true
      fit =
          subst (λ (w : Who). fits s w c ≡ true) (sym stands.id)
          (rw (there, whole_is_callers c scripted.0, scripted.1) refl)

      of : (g : History) (o : Called) → CameOf s h stands.view c g o
          → CallerStands s k script (record at { next = next_place at.next; wait = wait_of o }) g.entries
      of g NoRoom (same, not) =
          subst (λ (x : History). CallerStands s k script (record at { next = next_place at.next; wait = None })
          x.entries)
          (sym same)
          (goes_on (action.Call c) next h.entries (stands.full + 1) None (having_seen h.entries stands.view) stands.who
          (followed_full s (calls_in (take at.next script)) c stands.full first stands.view
          (having_seen h.entries stands.view) followed
          (refused_by s h stands.view (Caller at.id) c is_caller kept stands.up fit
          (subst (λ (w : Who). is_made h w c ≡ false) is_caller not)))
          (seen_up h.entries stands.view stands.up))
      of g Whole (r, w, whole, up, saw) =
          goes_on (action.Call c) next g.entries stands.full None w (whole.gains.same ∙ stands.who)
          (followed_more s (calls_in (take at.next script)) c stands.full first stands.view w r followed whole) up
      of g (Began t) (r, m, same, begun, up, saw) =
          goes_on (action.Call c) next g.entries stands.full (Some t) m (begun.extends.gains.same ∙ stands.who) (
            calls_in (take at.next script),
            stands.view,
            r,
            followed,
            ap (λ d. calls_in (take at.next script) ++ d ∷ []) (sym same),
            begun,
          ) up

  -- a wait ends
  pub ends_wait : (t : Ticketed) → at.wait ≡ Some t → ends h (Caller at.id) t.ticket ≡ true
      → CallerStands s k script (record at { wait = None }) (ended h (Caller at.id) t).entries
  ends_wait t waits may =
      of (subst (λ o. IsInWait s (calls_in (take at.next script)) stands.full first o stands.view) waits stands.follows)
    where
      of : IsInWait s (calls_in (take at.next script)) stands.full first (Some t) stands.view
          → CallerStands s k script (record at { wait = None }) (ended h (Caller at.id) t).entries
      of (front, before, r, followed, same, begun) =
          let e = end_by s h stands.view (Caller at.id) t is_caller kept stands.up fires may in
          record {
            id = stands.id;
            full = stands.full;
            view = e.last;
            who = e.ended.gains.same ∙ stands.who;
            follows = subst (λ cs. HasFollowed s cs stands.full first e.last) (sym same)
                (followed_more s front t.call stands.full first before e.last r followed
                (wait_completes s before stands.view t r _ begun e));
            up = e.up;
          }
