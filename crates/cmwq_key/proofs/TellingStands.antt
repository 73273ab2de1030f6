-- What is told of the parties of a stand is told apart again.
use Rattle.std.proofs.Common.{ℕ, ◌≡◌, Bool, List, [], ◌∷◌, ◌++◌, ap, sym, ◌∙◌, refl, append_assoc, Option, Some, None}
use Rattle.std.proofs.lemmas.List.{append-nil}
use Rattle.cmwq_model.specs.declared.entry.Entry.{Entry}
use Rattle.cmwq_model.specs.declared.id.CallerId.{CallerId}
use Rattle.cmwq_model.specs.declared.id.ItemId.{ItemId}
use Rattle.cmwq_model.specs.declared.id.WorkerId.{WorkerId}
use Rattle.cmwq_model.specs.Prelude.{Layout}
use Rattle.cmwq_json_script.specs.declared.action.Holder.{Holder}
use Rattle.cmwq_json_script.specs.declared.action.Holder.TheVariants as holders
use Rattle.cmwq_state.specs.History.{past_in}
use Rattle.cmwq_kinds.specs.Numbers.{numbers_of_call}
use Rattle.cmwq_kinds.proofs.Apart.{calls_split}
use Rattle.cmwq_play.specs.declared.place.Ticketed.{Ticketed}
use Rattle.cmwq_play.specs.declared.place.CallerAt.{CallerAt}
use Rattle.cmwq_play.specs.declared.place.Doing.{Doing}
use Rattle.cmwq_play.specs.declared.place.Doing.TheVariants.{Acts, AtGate, AtLock, Waits}
use Rattle.cmwq_play.specs.declared.place.RunAt.{RunAt}
use Rattle.cmwq_play.specs.declared.place.WorkerAt.{WorkerAt}
use Rattle.cmwq_key.specs.Alike.{AreCallersAlike, AreDoingsAlike, AreRunsAlike, AreWaitsAlike, AreWorkersAlike}
use Rattle.cmwq_key.specs.Alike.{ListsMatch, OptionsMatch}
use Rattle.cmwq_key.specs.Codes.{codes, flag, told_flag, told_list, told_option}
use Rattle.cmwq_key.specs.Keys.{key_of, still_unended, told, told_caller, told_doing, told_doors, told_lock}
use Rattle.cmwq_key.specs.Keys.{told_history, told_number, told_parties, told_run, told_wait, told_worker}
use Rattle.cmwq_key.specs.Numbered.{Gathered, gathered, mark}
use Rattle.cmwq_play.specs.Stands.{Stand}
use Rattle.cmwq_key.proofs.Splitting.{codes_same, flags_same, lists_split, match_same, options_split}
use Rattle.cmwq_key.proofs.Telling.{IsSameHistory, history_split}

module _ (past other : List Entry) (g h : Gathered) where
  -- both were ended, or both are unended and have the same rank
  abbrev pub AreMarkedAlike : ℕ → ℕ → Type 0
  AreMarkedAlike n m = mark g.numbers (still_unended past n) ≡ mark h.numbers (still_unended other m)

  wait_split : (w v : Ticketed) (r t : List ℕ) → told_wait past g w ++ r ≡ told_wait other h v ++ t
      → AreWaitsAlike AreMarkedAlike w v × (r ≡ t)
  wait_split w v r t e =
      let marks : mark g.numbers (still_unended past w.ticket) ≡ mark h.numbers (still_unended other v.ticket) = cc in
      let rest : numbers_of_call w.call ++ r ≡ numbers_of_call v.call ++ t = cc in
      let calls = calls_split w.call v.call r t rest in
      (record { call = calls.0; ticket = marks }, calls.1)

  caller_split : (at by : CallerAt) (r t : List ℕ) → told_caller past g at ++ r ≡ told_caller other h by ++ t
      → AreCallersAlike AreMarkedAlike at by × (r ≡ t)
  caller_split at by r t e =
      let ids : at.id.0 ≡ by.id.0 = cc in
      let nexts : at.next ≡ by.next = cc in
      let rest : told_option (told_wait past g) at.wait ++ r ≡ told_option (told_wait other h) by.wait ++ t = cc in
      let waits =
      options_split (AreWaitsAlike AreMarkedAlike) (told_wait past g) (told_wait other h) wait_split at.wait by.wait r t
      rest in
      (record { id = ap (λ n. record { 0 = n }) (sym ids); next = sym nexts; wait = waits.0 }, waits.1)

  doing_split : (d b : Doing) (r t : List ℕ) → told_doing past g d ++ r ≡ told_doing other h b ++ t
      → AreDoingsAlike AreMarkedAlike d b × (r ≡ t)
  doing_split Acts Acts r t e = let rest : r ≡ t = cc in (tt, rest)
  doing_split (AtGate gate slept) (AtGate g2 s2) r t e =
      let gates : gate ≡ g2 = cc in
      let flags : flag slept ≡ flag s2 = cc in
      let rest : r ≡ t = cc in
      ((sym gates, sym (flags_same slept s2 flags)), rest)
  doing_split (AtLock lock slept) (AtLock l2 s2) r t e =
      let locks : lock ≡ l2 = cc in
      let flags : flag slept ≡ flag s2 = cc in
      let rest : r ≡ t = cc in
      ((sym locks, sym (flags_same slept s2 flags)), rest)
  doing_split (Waits caller w) (Waits c2 v) r t e =
      let callers : caller ≡ c2 = cc in
      let rest : told_wait past g w ++ r ≡ told_wait other h v ++ t = cc in
      let waits = wait_split w v r t rest in
      ((sym callers, waits.0), waits.1)
  doing_split Acts (AtGate g2 s2) r t e = absurd cc
  doing_split Acts (AtLock l2 s2) r t e = absurd cc
  doing_split Acts (Waits c2 v) r t e = absurd cc
  doing_split (AtGate gate slept) Acts r t e = absurd cc
  doing_split (AtGate gate slept) (AtLock l2 s2) r t e = absurd cc
  doing_split (AtGate gate slept) (Waits c2 v) r t e = absurd cc
  doing_split (AtLock lock slept) Acts r t e = absurd cc
  doing_split (AtLock lock slept) (AtGate g2 s2) r t e = absurd cc
  doing_split (AtLock lock slept) (Waits c2 v) r t e = absurd cc
  doing_split (Waits caller w) Acts r t e = absurd cc
  doing_split (Waits caller w) (AtGate g2 s2) r t e = absurd cc
  doing_split (Waits caller w) (AtLock l2 s2) r t e = absurd cc

  run_split : (a b : RunAt) (r t : List ℕ) → told_run past g a ++ r ≡ told_run other h b ++ t
      → AreRunsAlike AreMarkedAlike a b × (r ≡ t)
  run_split a b r t e =
      let items : a.item.0 ≡ b.item.0 = cc in
      let nexts : a.next ≡ b.next = cc in
      let rest : told_doing past g a.doing ++ r ≡ told_doing other h b.doing ++ t = cc in
      let doings = doing_split a.doing b.doing r t rest in
      (record { item = ap (λ n. record { 0 = n }) (sym items); next = sym nexts; doing = doings.0 }, doings.1)

  same_worker : (v w : WorkerId) → v.pool.cpu.0 ≡ w.pool.cpu.0 → v.pool.high ≡ w.pool.high → v.index ≡ w.index → w ≡ v
  same_worker v w c p i =
      ap (λ n. record { pool = record { cpu = record { 0 = n }; high = w.pool.high }; index = w.index }) (sym c)
      ∙ ap (λ b. record { pool = record { cpu = record { 0 = v.pool.cpu.0 }; high = b }; index = w.index }) (sym p)
      ∙ ap (λ n. record { pool = record { cpu = record { 0 = v.pool.cpu.0 }; high = v.pool.high }; index = n }) (sym i)

  worker_split : (at by : WorkerAt) (r t : List ℕ) → told_worker past g at ++ r ≡ told_worker other h by ++ t
      → AreWorkersAlike AreMarkedAlike at by × (r ≡ t)
  worker_split at by r t e =
      let cpus : at.id.pool.cpu.0 ≡ by.id.pool.cpu.0 = cc in
      let highs : flag at.id.pool.high ≡ flag by.id.pool.high = cc in
      let indices : at.id.index ≡ by.id.index = cc in
      let rest : told_option (told_run past g) at.run ++ r ≡ told_option (told_run other h) by.run ++ t = cc in
      let runs =
      options_split (AreRunsAlike AreMarkedAlike) (told_run past g) (told_run other h) run_split at.run by.run r t
      rest in (
        record {
          id = same_worker at.id by.id cpus (flags_same at.id.pool.high by.id.pool.high highs) indices;
          run = runs.0;
        },
        runs.1,
      )

-- ---- gates, locks, and the callers that may be lent

gate_split : (a b : Bool) (r t : List ℕ) → told_flag a ++ r ≡ told_flag b ++ t → (b ≡ a) × (r ≡ t)
gate_split a b r t e =
    let flags : flag a ≡ flag b = cc in
    let rest : r ≡ t = cc in
    (sym (flags_same a b flags), rest)

lock_split : (o u : Option Holder) (r t : List ℕ) → told_lock o ++ r ≡ told_lock u ++ t → (u ≡ o) × (r ≡ t)
lock_split None None r t e = let rest : r ≡ t = cc in (refl, rest)
lock_split (Some (holders.Caller c)) (Some (holders.Caller d)) r t e =
    let ids : c.0 ≡ d.0 = cc in
    let rest : r ≡ t = cc in
    (ap (λ n. Some (holders.Caller (record { 0 = n }))) (sym ids), rest)
lock_split (Some (holders.Run i)) (Some (holders.Run j)) r t e =
    let ids : i.0 ≡ j.0 = cc in
    let rest : r ≡ t = cc in
    (ap (λ n. Some (holders.Run (record { 0 = n }))) (sym ids), rest)
lock_split None (Some (holders.Caller d)) r t e = absurd cc
lock_split None (Some (holders.Run j)) r t e = absurd cc
lock_split (Some (holders.Caller c)) None r t e = absurd cc
lock_split (Some (holders.Caller c)) (Some (holders.Run j)) r t e = absurd cc
lock_split (Some (holders.Run i)) None r t e = absurd cc
lock_split (Some (holders.Run i)) (Some (holders.Caller d)) r t e = absurd cc

number_split : (a b : ℕ) (r t : List ℕ) → told_number a ++ r ≡ told_number b ++ t → (b ≡ a) × (r ≡ t)
number_split a b r t e =
    let same : a ≡ b = cc in
    let rest : r ≡ t = cc in
    (sym same, rest)

-- ---- the whole stand

abbrev pub past_of_stand : Stand → List Entry
past_of_stand p = past_in p.history

abbrev pub gathered_in : Stand → Gathered
gathered_in p = gathered p.history.layout (past_in p.history)

pub record IsSameTold (p q : Stand) : Type 0 where
  pub history : IsSameHistory p.history.layout (past_in p.history) (past_in q.history) (gathered_in p) (gathered_in q)
  pub callers : ListsMatch
      (AreCallersAlike (AreMarkedAlike (past_in p.history) (past_in q.history) (gathered_in p) (gathered_in q)))
      p.callers q.callers
  pub workers : ListsMatch
      (AreWorkersAlike (AreMarkedAlike (past_in p.history) (past_in q.history) (gathered_in p) (gathered_in q)))
      p.workers q.workers
  pub gates : q.gates ≡ p.gates
  pub locks : q.locks ≡ p.locks
  pub free : q.free ≡ p.free

ended : (xs : List ℕ) → xs ≡ xs ++ []
ended xs = sym (append-nil xs)

five : (a b c d e : List ℕ) → a ++ b ++ (c ++ d ++ e) ≡ a ++ (b ++ (c ++ (d ++ (e ++ []))))
five a b c d e = simp (append_assoc, append-nil)

-- where both stand for the same layout
pub told_apart : (p q : Stand) (s : Layout) (g h : Gathered)
    → told_history s (past_in p.history) g ++ told_parties g p ≡ told_history s (past_in q.history) h
    ++ told_parties h q
    → IsSameHistory s (past_in p.history) (past_in q.history) g h
    × ListsMatch (AreCallersAlike (AreMarkedAlike (past_in p.history) (past_in q.history) g h)) p.callers q.callers
    × ListsMatch (AreWorkersAlike (AreMarkedAlike (past_in p.history) (past_in q.history) g h)) p.workers q.workers
    × (q.gates ≡ p.gates)
    × (q.locks ≡ p.locks)
    × (q.free ≡ p.free)
unfolding told_parties
told_apart p q s g h e =
    let past = past_in p.history in
    let other = past_in q.history in
    let history = history_split s past other g h _ _ e in
    let parties =
    sym (five (told_list (told_caller past g) p.callers) (told_list (told_worker past g) p.workers)
    (told_list told_flag p.gates) (told_list told_lock p.locks) (told_list told_number p.free)) ∙ history.1
    ∙ five (told_list (told_caller other h) q.callers) (told_list (told_worker other h) q.workers)
    (told_list told_flag q.gates) (told_list told_lock q.locks) (told_list told_number q.free) in
    let callers =
    lists_split (AreCallersAlike (AreMarkedAlike past other g h)) (told_caller past g) (told_caller other h)
    (caller_split past other g h) p.callers q.callers _ _ parties in
    let workers =
    lists_split (AreWorkersAlike (AreMarkedAlike past other g h)) (told_worker past g) (told_worker other h)
    (worker_split past other g h) p.workers q.workers _ _ callers.1 in
    let gates = lists_split (λ a b. b ≡ a) told_flag told_flag gate_split p.gates q.gates _ _ workers.1 in
    let locks = lists_split (λ o u. u ≡ o) told_lock told_lock lock_split p.locks q.locks _ _ gates.1 in
    let free = lists_split (λ a b. b ≡ a) told_number told_number number_split p.free q.free [] [] locks.1 in (
      history.0,
      callers.0,
      workers.0,
      match_same p.gates q.gates gates.0,
      match_same p.locks q.locks locks.0,
      match_same p.free q.free free.0,
    )

-- of stands with the same key the same is told
pub same_told : (p q : Stand) → key_of p ≡ key_of q → told p ≡ told q
unfolding key_of
same_told p q e = codes_same (told p) (told q) e
