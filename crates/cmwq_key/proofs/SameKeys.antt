-- Stands with the same key are alike.
use Rattle.std.proofs.Common.{ℕ, ◌≡◌, ◌<◌, List, [], ◌∷◌, ◌++◌, length, Option, Some, None, ap, sym, ◌∙◌, refl, subst}
use Rattle.std.specs.Prelude.{IfSome, reverse}
use Rattle.std.specs.List.{AllByRecursion}
use Rattle.std.proofs.lemmas.List.{length-reverse}
use Rattle.cmwq_model.specs.Prelude.{IsLegal, Layout}
use Rattle.cmwq_model.specs.declared.entry.Entry.{Entry}
use Rattle.cmwq_core.specs.History.{History, past_in}
use Rattle.cmwq_play.specs.declared.place.CallerAt.{CallerAt}
use Rattle.cmwq_play.specs.declared.place.Doing.{Doing}
use Rattle.cmwq_play.specs.declared.place.Doing.TheVariants.{Acts, AtGate, AtLock, Waits}
use Rattle.cmwq_play.specs.declared.place.RunAt.{RunAt}
use Rattle.cmwq_play.specs.declared.place.Ticketed.{Ticketed}
use Rattle.cmwq_play.specs.declared.place.WorkerAt.{WorkerAt}
use Rattle.cmwq_key.specs.Alike.{AreAlike, AreCallersAlike, AreDoingsAlike, AreRunsAlike, AreStandsAlike}
use Rattle.cmwq_key.specs.Alike.{AreTicketsAlike, AreWaitsAlike, AreWorkersAlike, HasSameScripts, IsOlderCaller}
use Rattle.cmwq_key.specs.Alike.{IsOlderDoing, IsOlderWait, IsOlderWorker, IsStand, ListsMatch, OptionsMatch}
use Rattle.cmwq_key.specs.Keys.{key_of, told_history, told_parties}
use Rattle.cmwq_key.specs.Numbered.{gathered}
use Rattle.cmwq_key.specs.SameKeys.{SameKeysAreAlike}
use Rattle.cmwq_play.specs.Searches.{IsReached, after}
use Rattle.cmwq_play.specs.Stands.{Stand}
use Rattle.cmwq_key.proofs.AlikeItself.{schedules_lead}
use Rattle.cmwq_key.proofs.SameHistories.{by_rank, histories_alike, marks_alike}
use Rattle.cmwq_key.proofs.Staying.{schedules_keep}
use Rattle.cmwq_key.proofs.TellingStands.{AreMarkedAlike, same_told, told_apart}

-- ---- where marks are alike, so are the tickets of older entries

module _ (M W : ℕ → ℕ → Type 0) (a b : ℕ) (alike : (n m : ℕ) → n < a → m < b → M n m → W n m) where
  waits_alike : (o u : Option Ticketed) → OptionsMatch (AreWaitsAlike M) o u → IsOlderWait a o → IsOlderWait b u
      → OptionsMatch (AreWaitsAlike W) o u
  waits_alike None None h i j = tt
  waits_alike None (Some v) h i j = absurd h
  waits_alike (Some w) None h i j = absurd h
  waits_alike (Some w) (Some v) h i j = record { call = h.call; ticket = alike w.ticket v.ticket i j h.ticket }

  callers_alike : (xs ys : List CallerAt) → ListsMatch (AreCallersAlike M) xs ys → AllByRecursion (IsOlderCaller a) xs
      → AllByRecursion (IsOlderCaller b) ys → ListsMatch (AreCallersAlike W) xs ys
  callers_alike [] [] h i j = tt
  callers_alike [] (y ∷ ys) h i j = absurd h
  callers_alike (x ∷ xs) [] h i j = absurd h
  callers_alike (x ∷ xs) (y ∷ ys) h i j = (
    record { id = h.0.id; next = h.0.next; wait = waits_alike x.wait y.wait h.0.wait i.0 j.0 },
    callers_alike xs ys h.1 i.1 j.1,
  )

  doings_alike : (d e : Doing) → AreDoingsAlike M d e → IsOlderDoing a d → IsOlderDoing b e → AreDoingsAlike W d e
  doings_alike Acts Acts h i j = tt
  doings_alike (AtGate gate slept) (AtGate g2 s2) h i j = h
  doings_alike (AtLock lock slept) (AtLock l2 s2) h i j = h
  doings_alike (Waits c w) (Waits c2 v) h i j =
      (h.0, record { call = h.1.call; ticket = alike w.ticket v.ticket i j h.1.ticket })
  doings_alike d e h i j = absurd h

  runs_alike : (o u : Option RunAt) → OptionsMatch (AreRunsAlike M) o u
      → IfSome o (λ (r : RunAt). IsOlderDoing a r.doing) → IfSome u (λ (r : RunAt). IsOlderDoing b r.doing)
      → OptionsMatch (AreRunsAlike W) o u
  runs_alike None None h i j = tt
  runs_alike None (Some v) h i j = absurd h
  runs_alike (Some w) None h i j = absurd h
  runs_alike (Some w) (Some v) h i j =
      record { item = h.item; next = h.next; doing = doings_alike w.doing v.doing h.doing i j }

  workers_alike : (xs ys : List WorkerAt) → ListsMatch (AreWorkersAlike M) xs ys → AllByRecursion (IsOlderWorker a) xs
      → AllByRecursion (IsOlderWorker b) ys → ListsMatch (AreWorkersAlike W) xs ys
  workers_alike [] [] h i j = tt
  workers_alike [] (y ∷ ys) h i j = absurd h
  workers_alike (x ∷ xs) [] h i j = absurd h
  workers_alike (x ∷ xs) (y ∷ ys) h i j = (
    record { id = h.0.id; run = runs_alike x.run y.run h.0.run i.0 j.0 },
    workers_alike xs ys h.1 i.1 j.1,
  )

-- ---- stands of one script

told_for : Stand → Layout → List ℕ
told_for q s =
    told_history s (past_in q.history) (gathered s (past_in q.history))
    ++ told_parties (gathered s (past_in q.history)) q

long_past : (h : History) → length (past_in h) ≡ length h.entries
long_past h = length-reverse h.entries

pub stands_alike : (p q : Stand) → IsStand p → IsStand q → HasSameScripts p q → key_of p ≡ key_of q → AreAlike p q
unfolding told_for
stands_alike p q ip iq scripts e =
    let s = p.history.layout in
    let past = past_in p.history in
    let other = past_in q.history in
    let other_legal : IsLegal s other = subst (λ l. IsLegal l other) scripts.layout iq.legal in
    let told = same_told p q e ∙ ap (told_for q) scripts.layout in
    let apart = told_apart p q s (gathered s past) (gathered s other) told in
    let f = by_rank s past other ip.legal other_legal apart.0 in
    let marks : (n m : ℕ) → n < length p.history.entries → m < length q.history.entries
    → AreMarkedAlike past other (gathered s past) (gathered s other) n m
    → AreTicketsAlike f p.history q.history n m =
    λ n m older other_older.
    marks_alike s past other ip.legal other_legal apart.0 n m
    (subst (λ k. n < k) (sym (long_past p.history)) older)
    (subst (λ k. m < k) (sym (long_past q.history)) other_older) in (
      f,
      record {
        scripts = scripts.scripts;
        does = scripts.does;
        scripts_name_none = ip.scripts_name_none;
        does_name_none = ip.does_name_none;
        histories = record {
          layout = scripts.layout;
          room = scripts.room;
          long = sym (long_past q.history) ∙ apart.0.long ∙ long_past p.history;
          legal = ip.legal;
          other_legal = other_legal;
          alike = histories_alike s past other ip.legal other_legal apart.0;
        };
        callers = callers_alike (AreMarkedAlike past other (gathered s past) (gathered s other))
            (AreTicketsAlike f p.history q.history) (length p.history.entries) (length q.history.entries) marks
            p.callers
            q.callers apart.1 ip.callers iq.callers;
        workers = workers_alike (AreMarkedAlike past other (gathered s past) (gathered s other))
            (AreTicketsAlike f p.history q.history) (length p.history.entries) (length q.history.entries) marks
            p.workers
            q.workers apart.2 ip.workers iq.workers;
        gates = apart.3;
        locks = apart.4;
        free = apart.5;
      },
    )

-- ---- stands to which schedules lead from one start

is_stand : (start p : Stand) → IsStand start → IsReached start p → IsStand p
is_stand start p is reached =
    subst IsStand (sym reached.1.1) (schedules_lead start reached.0 is reached.1.0)

keeps_scripts : (start p : Stand) → IsReached start p → HasSameScripts start p
keeps_scripts start p reached = subst (HasSameScripts start) (sym reached.1.1) (schedules_keep start reached.0)

pub same_keys_are_alike : SameKeysAreAlike
same_keys_are_alike start p q is to_p to_q e =
    let a = keeps_scripts start p to_p in
    let b = keeps_scripts start q to_q in
    stands_alike p q (is_stand start p is to_p) (is_stand start q is to_q)
    (record {
      scripts = b.scripts ∙ sym a.scripts;
      does = b.does ∙ sym a.does;
      layout = b.layout ∙ sym a.layout;
      room = b.room ∙ sym a.room;
    }) e
