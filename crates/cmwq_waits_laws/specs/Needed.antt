-- Why the laws take it for granted that no entry lets the waits go: in these histories waits of a deadlock end, since
-- one entry does.
use Rattle.std.specs.Prelude.{◌≡◌, ◌∷◌, ◌++◌, ℕ, true, false, List, []}
use Rattle.cmwq_model.specs.Prelude.{IsLegal, Layout, is_unended, past_of}
use Rattle.cmwq_model.specs.declared.entry.Entry.{Entry}
use Rattle.cmwq_model.specs.declared.reply.Reply.TheVariants as reply
use Rattle.cmwq_model_examples.specs.Words.{caller, cancel, end, entry, finish, flush_item, normal, queue, set_max}
use Rattle.cmwq_model_examples.specs.Words.{sleep}
use Rattle.cmwq_model_examples.specs.Words.{system, take, wq}
use Rattle.cmwq_waits.specs.HeldUp.{IsDeadlock, IsWaiting}
use Rattle.cmwq_waits.specs.declared.run_wait.RunWait.{RunWait}
use Rattle.cmwq_waits_laws.specs.Lasting.{FinishAfterWaits, scene_of}

-- a run that waits, with what came first and what came later, each with the oldest entry first
pub record Story : Type 0 where
  pub layout : Layout
  pub first : List Entry
  pub later : List Entry
  pub wait : RunWait

-- The run waits and is a deadlock by itself. It does not finish before its wait has ended, and yet the wait ends.
pub record EndsAfterAll (x : Story) : Type 0 where
  pub legal : IsLegal x.layout (past_of x.later ++ past_of x.first)
  pub waits : IsWaiting (past_of x.first) x.wait
  pub deadlock : IsDeadlock (scene_of x.layout (past_of x.first)) (x.wait ∷ []) (λ n. true)
  pub finishes : FinishAfterWaits (x.wait ∷ []) (past_of x.later)
  pub ended : is_unended (past_of x.later) x.wait.ticket ≡ false

-- the run of the first queueing, of item 0, waits for item 1 by a ticket with this number
abbrev pub waits_for_one : ℕ → RunWait
waits_for_one n =
    record {
      run = record {
        item = record { 0 = 0 };
        place = record { queue = record { 0 = 0 }; cpu = record { 0 = 0 } };
        number = 0;
      };
      ticket = record { caller = record { 0 = 0 }; call = flush_item 1; number = n };
    }

-- The pool has one worker, which has the run, so item 1 cannot start. It is taken back.
abbrev pub taken_back : Story
taken_back = record {
  layout = system 1 1 1 2 100 (wq 1 false false ∷ []);
  first = (
      entry (caller 0) 0 (queue 0 0 0) (reply.Yes 0) ∷
      entry (normal 0 0) 0 take (reply.Started 0) ∷
      entry (caller 0) 1 (queue 1 0 0) (reply.Yes 2) ∷
      entry (caller 0) 2 (flush_item 1) (reply.Ticket 3) ∷
      []);
  later = (
      entry (caller 0) 3 (cancel 1) (reply.Cancelled 2) ∷
      entry (caller 0) 4 (end 3) reply.Done ∷
      []);
  wait = waits_for_one 3;
}

-- The run has the only place of its queue, so item 1 is inactive. The queue is made wider.
abbrev pub made_wider : Story
made_wider = record {
  layout = system 1 2 1 2 100 (wq 1 false false ∷ []);
  first = (
      entry (caller 0) 0 (queue 0 0 0) (reply.Yes 0) ∷
      entry (normal 0 0) 0 take (reply.StartedEnlist 0 1) ∷
      entry (caller 0) 1 (queue 1 0 0) (reply.Yes 2) ∷
      entry (normal 0 0) 1 sleep reply.Slept ∷
      entry (caller 0) 2 (flush_item 1) (reply.Ticket 4) ∷
      []);
  later = (
      entry (caller 0) 3 (set_max 0 2) (reply.Width 2) ∷
      entry (normal 0 1) 0 take (reply.Started 2) ∷
      entry (normal 0 1) 1 finish (reply.Finished 2) ∷
      entry (caller 0) 4 (end 4) reply.Done ∷
      []);
  wait = waits_for_one 4;
}

-- The run, and what its item has queued behind it, have both places of the queue. What is queued behind it is taken
-- back.
abbrev pub taken_back_behind : Story
taken_back_behind = record {
  layout = system 1 2 1 2 100 (wq 2 false false ∷ []);
  first = (
      entry (caller 0) 0 (queue 0 0 0) (reply.Yes 0) ∷
      entry (normal 0 0) 0 take (reply.StartedEnlist 0 1) ∷
      entry (caller 0) 1 (queue 0 0 0) (reply.Yes 2) ∷
      entry (caller 0) 2 (queue 1 0 0) (reply.Yes 3) ∷
      entry (normal 0 0) 1 sleep reply.Slept ∷
      entry (caller 0) 3 (flush_item 1) (reply.Ticket 5) ∷
      []);
  later = (
      entry (caller 0) 4 (cancel 0) (reply.Cancelled 2) ∷
      entry (normal 0 1) 0 take (reply.Started 3) ∷
      entry (normal 0 1) 1 finish (reply.Finished 3) ∷
      entry (caller 0) 5 (end 5) reply.Done ∷
      []);
  wait = waits_for_one 5;
}

abbrev pub WaitsMayBeLetGo : Type 0
WaitsMayBeLetGo = EndsAfterAll taken_back × EndsAfterAll taken_back_behind × EndsAfterAll made_wider
