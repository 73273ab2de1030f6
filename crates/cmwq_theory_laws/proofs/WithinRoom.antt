-- Room: a history that is made by steps is within its room, and what is promised is never refused.
use Rattle.cmwq_theory_laws.specs.Common.{◌≡◌, ◌≤◌, ◌+◌, ℕ, Bool, true, false, List, [], ◌∷◌, refl, arith, fold}
use Rattle.cmwq_theory_laws.specs.Common.{if◌then◌else◌, length, nat_le, AllByRecursion, and_parts, leb-true, le-leb}
use Rattle.cmwq_theory_laws.specs.Common.{Who, Call, Entry, Layout, fits, answer, now, IsWho, IsCall, IsLegal}
use Rattle.cmwq_theory_laws.specs.Common.{entry_for, Steps, room_needed, has_room, has_time, most_time, step, steps}
use Rattle.cmwq_theory_laws.specs.Common.{none, is_promised}
use Rattle.std.specs.Cmp.Derive.{both_true}
use Rattle.cmwq_model.specs.declared.call.Call.TheVariants as call
use Rattle.cmwq_theory_laws.proofs.InRange.{short_has_time}
use Rattle.cmwq_theory_laws.proofs.OneEntry.{steps_are_legal}
use Rattle.cmwq_theory_steps.proofs.Promised.{promised_need_no_more}
use Rattle.cmwq_theory_steps.proofs.Owing.{nothing_owed}

abbrev IsWithin : Layout → ℕ → List Entry → Type 0
IsWithin s room past = (room_needed s past ≤ room) × (now past ≤ most_time)

-- a call that has time leaves the time within its room
time_kept : (s : Layout) (past : List Entry) (who : Who) (c : Call) → has_time past c ≡ true → now past ≤ most_time
    → now (entry_for s past who c ∷ past) ≤ most_time
unfolding now
time_kept s past who (call.Tick t) h within = leb-true (now past + t) most_time h
time_kept s past who (call.Queue i q d) h within = omega arith
time_kept s past who c h within = omega arith

room_kept : (s : Layout) (room : ℕ) (t : Steps) (c : Who × Call) (b : Bool) → has_room s room t.past c.0 c.1 ≡ b
    → IsWithin s room t.past
    → let stepped : Steps = if b then record { past = entry_for s t.past c.0 c.1 ∷ t.past; left_out = t.left_out }
    else record { past = t.past; left_out = t.left_out + 1 } in IsWithin s room stepped.past
room_kept s room t c true h within =
    let both = and_parts _ _ h in (
      leb-true (room_needed s (entry_for s t.past c.0 c.1 ∷ t.past)) room both.1,
      time_kept s t.past c.0 c.1 both.0 within.1,
    )
room_kept s room t c false h within = within

within_room : (s : Layout) (room : ℕ) (calls : List (Who × Call)) (t : Steps) → IsWithin s room t.past
    → IsWithin s room (fold (step s room) t calls).past
within_room s room [] t within = within
within_room s room (c ∷ calls) t within =
    within_room s room calls (step s room t c) (room_kept s room t c (has_room s room t.past c.0 c.1) refl within)

pub steps_within_room : (s : Layout) (room : ℕ) (calls : List (Who × Call))
    → (room_needed s (steps s room calls).past ≤ room) × (now (steps s room calls).past ≤ most_time)
unfolding now
steps_within_room s room calls = within_room s room calls none (let zero = nothing_owed s in omega arith, omega arith)

-- ---- so a call that would have a promised reply has room after any steps

pub promised_have_time : (s : Layout) (past : List Entry) (who : Who) (c : Call)
    → is_promised (answer s past who c) ≡ true → has_time past c ≡ true
unfolding answer
promised_have_time s past who (call.Tick t) h = cc
promised_have_time s past who c h = refl

pub promised_never_full : (s : Layout) (room : ℕ) (calls : List (Who × Call)) (who : Who) (call : Call)
    → AllByRecursion (λ c. fits s c.0 c.1 ≡ true) calls → fits s who call ≡ true
    → is_promised (answer s (steps s room calls).past who call) ≡ true
    → has_room s room (steps s room calls).past who call ≡ true
unfolding IsLegal
promised_never_full s room calls who call all fit h =
    let past = (steps s room calls).past in
    let more : room_needed s (entry_for s past who call ∷ past) ≤ room_needed s past =
    promised_need_no_more s past (entry_for s past who call) (fit, refl, steps_are_legal s room calls all) h in
    let within = steps_within_room s room calls in
    both_true (promised_have_time s past who call h)
    (le-leb (room_needed s (entry_for s past who call ∷ past)) room (omega arith))

-- ---- a short history has room for every tick

pub short_room : (s : Layout) (room most : ℕ) (past : List Entry) (who : Who) (call : Call)
    → AllByRecursion (λ e. IsWho e.who × IsCall most e.call) past → IsCall most call → length past ≤ 1010000
    → has_room s room past who call ≡ nat_le (room_needed s (entry_for s past who call ∷ past)) room
short_room s room most past who call all own short = rw (short_has_time most past call all own short) refl
