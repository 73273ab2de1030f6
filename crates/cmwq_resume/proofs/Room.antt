-- There is room for the calls.
use Rattle.cmwq_resume.specs.Common.{◌≡◌, ◌≤◌, ◌+◌, ◌==◌, ◌*◌, ℕ, Bool, true, false, List, []}
use Rattle.cmwq_resume.specs.Common.{◌∷◌, ◌++◌, length, map, refl, ap, ◌∙◌, arith, AllByRecursion}
use Rattle.cmwq_resume.specs.Common.{if◌then◌else◌, is_some, fold, le-leb, range_with_len, All_append}
use Rattle.cmwq_resume.specs.Common.{All_each, all_mapped, Call, Entry, Queueing, Booking, Layout, CallerId, Caller}
use Rattle.cmwq_resume.specs.Common.{Who}
use Rattle.cmwq_resume.specs.Common.{Reply, IsLegal, entry_for, now, ticks_told, opening}
use Rattle.cmwq_resume.specs.Common.{max_active, is_frozen, first_width}
use Rattle.cmwq_model.specs.Prelude.{most_time, step, has_room, has_time, room_needed}
use Rattle.cmwq_model.specs.declared.call.Call.TheVariants as call
use Rattle.std.specs.Cmp.Derive.{both_true}
use Rattle.cmwq_lemmas.proofs.Lists.{All_flat}
use Rattle.cmwq_theory_steps.specs.Histories.{one}
use Rattle.cmwq_theory_steps.specs.RoomSteps.{room_paid, taken_on}
use Rattle.cmwq_theory_steps.proofs.Causes.{Cause, cause_of}
use Rattle.cmwq_theory_steps.proofs.Causes as cause
use Rattle.cmwq_theory_steps.proofs.Owing.{nothing_owed, owed_goes_on}
use Rattle.cmwq_resume.specs.Resume.{kept, overdue, later, resume_calls, plan_calls, widen, freeze_calls}
use Rattle.cmwq_resume.specs.Resume.{first_calls, gone_calls, gone_queues}
use Rattle.cmwq_resume.specs.Resume.{queue_call, due_call, tick_calls, later_call}
use Rattle.cmwq_resume.specs.Plays.{played, is_success, AllSucceed, by_caller, ResumesHaveRoom}
use Rattle.cmwq_resume.proofs.Resumed.{resumes_play}

pub one_few : (b : Bool) → one b ≤ 1
one_few true = omega arith
one_few false = omega arith

-- the room that a call takes at most which succeeds, and which is still taken after it
abbrev pub cost : Call → ℕ
cost (call.SetMax q n) = 1
cost (call.Destroy q) = 2
cost (call.End n) = 0
cost call.Freeze = 2
cost (call.Queue i q c) = 3
cost (call.Tick t) = 1
cost c = 4

abbrev pub costs : List Call → ℕ
costs [] = 0
costs (c ∷ cs) = cost c + costs cs

pub costs_append : (cs ds : List Call) → costs (cs ++ ds) ≡ costs cs + costs ds
costs_append [] ds = omega arith
costs_append (c ∷ cs) ds = omega (arith, costs_append cs ds)

abbrev pub of : Who → ℕ → Call → Reply → Entry
of who n c r = record { who = who; serial = n; call = c; reply = r }

pub taken_few : (s : Layout) (past : List Entry) (n : ℕ) (who : Who) (c : Call) (r : Reply) → Cause s past who c r
    → is_success r ≡ true → taken_on past (of who n c r) + 1 ≤ cost c + room_paid past (of who n c r)
taken_few s past n who c r (cause.queued w i q p free none) h =
    let few = one_few (is_some (opening past (of who n c r))) in omega arith
taken_few s past n who c r (cause.delayed_by_none w i q p t is free none) h =
    let few = one_few (is_some (opening past (of who n c r))) in omega arith
taken_few s past n who c r (cause.modified_idle w i q p t is free none) h =
    let few = one_few (is_some (opening past (of who n c r))) in omega arith
taken_few s past n who c r (cause.delayed w i q p t is free none) h = omega arith
taken_few s past n who c r (cause.modified_booked w i q p t is free none) h = omega arith
taken_few s past n who c r (cause.told w t) h = omega arith
taken_few s past n who c r (cause.flushed w q few there) h = omega arith
taken_few s past n who c r (cause.drained w q few there) h = omega arith
taken_few s past n who c r (cause.destroyed w q few there other none) h = omega arith
taken_few s past n who c r (cause.widened w q m there) h = omega arith
taken_few s past n who c r (cause.freezes w not_yet) h = omega arith
taken_few s past n who c r (cause.item_flushed w i few there) h = omega arith
taken_few s past n who c r (cause.delayed_flushed w i few none there) h = omega arith
taken_few s past n who c r (cause.ended w m t is ready) h = omega arith
taken_few s past n who c r other h = cc

few_cost : (c : Call) → cost c ≤ 4
few_cost (call.SetMax q n) = omega arith
few_cost (call.Destroy q) = omega arith
few_cost (call.End n) = omega arith
few_cost call.Freeze = omega arith
few_cost (call.Queue i q c) = omega arith
few_cost (call.Tick t) = omega arith
few_cost c = omega arith

few_costs : (cs : List Call) → costs cs ≤ 4 * length cs
few_costs [] = omega arith
few_costs (c ∷ cs) = omega (arith, few_cost c, few_costs cs)

-- calls by which one tick goes by at most
abbrev IsShort : Call → Type 0
IsShort c = ticks_told c ≤ 1

short_time : (past : List Entry) (c : Call) → IsShort c → now past + 1 ≤ most_time → has_time past c ≡ true
short_time past (call.Tick t) short h = le-leb (now past + t) most_time (omega arith)
short_time past c short h = refl

pub legal_after : (s : Layout) (who : Who) (past : List Entry) (cs : List Call) → IsLegal s (played s who past cs)
    → IsLegal s past
unfolding IsLegal
legal_after s who past [] h = h
legal_after s who past (c ∷ cs) h = (legal_after s who (entry_for s past who c ∷ past) cs h).2

pub have_room : (s : Layout) (room : ℕ) (c : CallerId) (past : List Entry) (cs : List Call)
    → AllSucceed s (Caller c) past cs → AllByRecursion IsShort cs → IsLegal s (played s (Caller c) past cs)
    → room_needed s past + costs cs ≤ room → now past + length cs ≤ most_time
    → fold (step s room) (record { past = past; left_out = 0 }) (map (by_caller c) cs)
    ≡ record { past = played s (Caller c) past cs; left_out = 0 }
unfolding now
have_room s room c past [] ok short legal enough time = refl
have_room s room c past (k ∷ ks) ok short legal enough time =
    let e = entry_for s past (Caller c) k in
    let here : IsLegal s (e ∷ past) = legal_after s (Caller c) (e ∷ past) ks legal in
    let few : taken_on past e + 1 ≤ cost k + room_paid past e =
    taken_few s past e.serial (Caller c) k e.reply (cause_of s past e here) ok.0 in
    let more = owed_goes_on s past e here in
    let needed : room_needed s (e ∷ past) ≤ room_needed s past + cost k = omega arith in
    let fine : has_room s room past (Caller c) k ≡ true =
    both_true (short_time past k short.0 (omega arith))
    (le-leb (room_needed s (e ∷ past)) room (omega arith)) in
    ap (λ b. fold (step s room)
    (if b then record { past = e ∷ past; left_out = 0 } else record { past = past; left_out = 1 })
    (map (by_caller c) ks)) fine
    ∙ have_room s room c (e ∷ past) ks ok.1 short.1 legal (omega arith) (omega (arith, short.0))

pub all_short : (s : Layout) (w : ℕ → ℕ) (gs : List ℕ) (f : Bool) (ks : List Queueing) (os ls : List Booking)
    → AllByRecursion IsShort (plan_calls s w gs f ks os ls)
all_short s w gs f ks os ls =
    All_append IsShort (first_calls s w) _ (All_flat IsShort (widen s w) (range_with_len 0 (length s.queues)) wide)
    (All_append IsShort (gone_calls (length (first_calls s w)) gs) _ (destroys (length (first_calls s w)) gs)
    (All_append IsShort (freeze_calls f) _ (frozen f)
    (All_append IsShort (map queue_call ks) _ (all_mapped queue_call IsShort ks (All_each _ ks (λ x. omega arith)))
    (All_append IsShort (map due_call os) _ (all_mapped due_call IsShort os (All_each _ os (λ x. omega arith)))
    (All_append IsShort (tick_calls os) (map later_call ls) (ticks os)
    (all_mapped later_call IsShort ls (All_each _ ls (λ x. omega arith))))))))
  where
    wide : (q : ℕ) → AllByRecursion IsShort (widen s w q)
    wide q = at (w q == first_width s q)
      where
        at : (b : Bool) → AllByRecursion IsShort (if b then [] else call.SetMax (record { 0 = q }) (w q) ∷ [])
        at true = tt
        at false = (omega arith, tt)

    destroys : (n : ℕ) (qs : List ℕ) → AllByRecursion IsShort (gone_calls n qs)
    destroys n [] = tt
    destroys n (q ∷ qs) = (omega arith, (omega arith, destroys (n + 2) qs))

    frozen : (f : Bool) → AllByRecursion IsShort (freeze_calls f)
    frozen true = (omega arith, tt)
    frozen false = tt

    ticks : (os : List Booking) → AllByRecursion IsShort (tick_calls os)
    ticks [] = tt
    ticks (o ∷ os) = (omega arith, tt)

pub resumes_have_room : ResumesHaveRoom
unfolding now
resumes_have_room s c again old room ok there legal enough time =
    let k = resumes_play s c again old ok there legal in
    let nothing = nothing_owed s in
    let few = few_costs (resume_calls s again old) in
    have_room s room c [] (resume_calls s again old) k.0
    (all_short s (max_active s old) (gone_queues s old) (is_frozen old) (kept again old) (overdue old) (later old)) k.1
    (omega arith) (omega arith)
