-- Calls of who a number names: what a caller or a worker leaves by one call, or by a whole one.
use Rattle.std.proofs.Common.{◌≡◌, ◌∙◌, ◌≤◌, ◌++◌, ◌∷◌, true, false, [], Some, refl, sym, ap, subst}
use Rattle.std.proofs.Common.{nat_lt, arith}
use Rattle.std.specs.Cmp.Derive.{both_true}
use Rattle.std.proofs.lemmas.Bool.{le-leb}
use Rattle.cmwq_model.specs.Prelude.{Layout, answer, entry_for, fits, has_numbers, has_time}
use Rattle.cmwq_model.specs.Prelude.{is_workers, past_of, room_needed}
use Rattle.cmwq_model.specs.declared.call.Call.{Call}
use Rattle.cmwq_model.specs.declared.call.Call.TheVariants as call
use Rattle.cmwq_model.specs.declared.id.Who.{Who}
use Rattle.cmwq_model.specs.declared.id.Who.TheVariants.{Worker}
use Rattle.cmwq_model.specs.declared.id.WorkerId.{WorkerId}
use Rattle.cmwq_model.proofs.Growing.{one_more_is_newest}
use Rattle.cmwq_core.specs.History.{History, past_in}
use Rattle.cmwq_theory_steps.specs.RoomSteps.{is_promised}
use Rattle.cmwq_theory_steps.proofs.Promised.{promised_need_no_more}
unfoldable use Rattle.cmwq_model.specs.Prelude.{IsLegal}
use Rattle.cmwq_monitor.specs.Calls.{Extends, own_entry}
use Rattle.cmwq_monitor.specs.Faults.{Refused}
use Rattle.cmwq_monitor.specs.Participants.{View}
use Rattle.cmwq_monitor.specs.declared.fault.RunFault.TheVariants.{Full}
use Rattle.cmwq_play.specs.Machines.{called, ended, ends, is_made, replied, stepped}
use Rattle.cmwq_play.specs.declared.place.Ticketed.{Ticketed}
use Rattle.cmwq_schedule_laws.proofs.Calling.{CameOf, EndLeaves, came_of, end_leaves}
use Rattle.cmwq_schedule_laws.proofs.Keeping.{IsKept, IsUpToDate, having_seen, makes, refused}
use Rattle.cmwq_monitor.proofs.Entering.{view_after}

-- ---- what fits

pub worker_fits : (s : Layout) (w : WorkerId) (c : Call) → nat_lt w.pool.cpu.0 s.cpus ≡ true
    → nat_lt w.index s.workers ≡ true → is_workers c ≡ true → has_numbers s c ≡ true → fits s (Worker w) c ≡ true
worker_fits s w c cpu index own numbers = rw (cpu, index, own, numbers) refl

-- ---- single calls

-- one entry was made, and its maker has seen it
pub record MakesBy (s : Layout) (h : History) (v : View) (who : Who) (c : Call) (g : History) : Type 0 where
  pub view : View
  pub same : view.who ≡ who
  pub extends : Extends s v c (answer s (past_in h) who c) view
  pub up : IsUpToDate g.entries view
  pub seen : view.seen ≡ h.entries ++ own_entry s h.entries v c ∷ []
  pub past : past_in g ≡ entry_for s (past_in h) who c ∷ past_in h
  pub replies : replied h who c ≡ Some (answer s (past_in h) who c)
  pub all : view.seen ≡ g.entries

pub makes_by : (s : Layout) (h : History) (v : View) (who : Who) (c : Call) → v.who ≡ who → IsKept s h
    → IsUpToDate h.entries v → is_made h who c ≡ true → MakesBy s h v who c (stepped h who c)
makes_by s h v who c same kept up =
    subst (λ (x : Who). is_made h x c ≡ true → MakesBy s h v x c (stepped h x c)) same
    (λ made. let m = makes s h v c kept up made in record {
      view = view_after s h.entries v c;
      same = refl;
      extends = m.extends;
      up = m.up;
      seen = refl;
      past = ap past_of m.is ∙ one_more_is_newest h.entries (own_entry s h.entries v c);
      replies = m.replies;
      all = sym m.is;
    })

-- there was no room for it
pub refused_by : (s : Layout) (h : History) (v : View) (who : Who) (c : Call) → v.who ≡ who → IsKept s h
    → IsUpToDate h.entries v → fits s who c ≡ true → is_made h who c ≡ false
    → Refused s v c Full (having_seen h.entries v)
refused_by s h v who c same kept up =
    subst (λ (x : Who). fits s x c ≡ true → is_made h x c ≡ false → Refused s v c Full (having_seen h.entries v)) same
    (λ fit not. refused s h v c kept up fit not)

-- ---- whole calls

pub came_by : (s : Layout) (h : History) (v : View) (who : Who) (c : Call) → v.who ≡ who → IsKept s h
    → IsUpToDate h.entries v → fits s who call.Fire ≡ true
    → CameOf s h v c (called h who c).history (called h who c).outcome
came_by s h v who c same kept up =
    subst (λ (x : Who). fits s x call.Fire ≡ true → CameOf s h v c (called h x c).history (called h x c).outcome) same
    (λ fit. came_of s h v c kept up fit)

pub end_by : (s : Layout) (h : History) (m : View) (who : Who) (t : Ticketed) → m.who ≡ who → IsKept s h
    → IsUpToDate h.entries m → fits s who call.Fire ≡ true → ends h who t.ticket ≡ true
    → EndLeaves s m t (ended h who t).entries
end_by s h m who t same kept up =
    subst (λ (x : Who). fits s x call.Fire ≡ true → ends h x t.ticket ≡ true → EndLeaves s m t (ended h x t).entries)
    same (λ fit may. end_leaves s h m t kept up fit may)

-- ---- room

made_own : (h : History) (who : Who) (c : Call) → IsKept h.layout h → fits h.layout who c ≡ true
    → is_promised (answer h.layout (past_in h) who c) ≡ true → has_time (past_in h) c ≡ true
    → is_made h who c ≡ true
unfolding IsLegal
made_own h who c kept fit promised time =
    let s = h.layout in
    let within = kept.within in
    let same_room = kept.room in
    let more = promised_need_no_more s (past_in h) (entry_for s (past_in h) who c) (fit, refl, kept.legal) promised in
    let room : room_needed s (entry_for s (past_in h) who c ∷ past_in h) ≤ s.room = omega arith in
    let here : room_needed s (entry_for s (past_in h) who c ∷ past_in h) ≤ h.room =
    subst (λ n. room_needed s (entry_for s (past_in h) who c ∷ past_in h) ≤ n) (sym same_room) room in
    both_true fit (both_true time (le-leb _ h.room here))

-- what is promised has room
pub promised_made : (s : Layout) (h : History) (who : Who) (c : Call) → IsKept s h → fits s who c ≡ true
    → is_promised (answer s (past_in h) who c) ≡ true → has_time (past_in h) c ≡ true → is_made h who c ≡ true
promised_made s h who c kept =
    subst (λ (l : Layout). IsKept l h → fits l who c ≡ true → is_promised (answer l (past_in h) who c) ≡ true
    → has_time (past_in h) c ≡ true → is_made h who c ≡ true) kept.layout
    (λ k fit promised time. made_own h who c k fit promised time) kept
