-- What calls leave of a caller or a worker, one after another.
use Rattle.std.proofs.Common.{◌≡◌, ◌∙◌, List, [], ◌∷◌, ◌++◌, take, drop, length, arith, refl, ap, inl, inr, sym, subst}
use Rattle.std.proofs.Common.{Result, Ok, Err}
use Rattle.std.specs.Prelude.{IfOk, IfErr}
use Rattle.std.proofs.Math.Logic.{∥∥₁_map}
use Rattle.std.proofs.Math.ListN.{take-append-drop}
use Rattle.std.proofs.Math.Seq.{take-append_seam}
use mathlib.Core.List.{IsPrefix}
use Rattle.cmwq_model.specs.Prelude.{Layout}
use Rattle.cmwq_model.specs.declared.call.Call.{Call}
use Rattle.cmwq_model.specs.declared.reply.Reply.{Reply}
use Rattle.cmwq_model.specs.declared.entry.Entry.{Entry}
use Rattle.cmwq_monitor.specs.Calls.{Extends}
use Rattle.cmwq_monitor.specs.Faults.{Refused}
use Rattle.cmwq_monitor.specs.Participants.{View, Gains}
use Rattle.cmwq_monitor.specs.Whole.{Completes, BrokeOff}
use Rattle.cmwq_monitor.specs.declared.fault.RunFault.{RunFault}
use Rattle.cmwq_monitor.proofs.Beginnings.{prefix_self, prefix_trans}
use Rattle.cmwq_monitor.proofs.Entries.{gains_none, gains_more}
use Rattle.cmwq_rt.specs.Batches.{MakesAll, MakesBatch, StopsBatch}
use Rattle.cmwq_rt.specs.Later.{Later}
use Rattle.cmwq_rt.specs.declared.batch.BatchFault.{BatchFault}
use Rattle.cmwq_service.specs.Calls.{Continues, GoesOn, IsAfter}

pub goes_self : (a v : View) → v ≡ a → GoesOn a v
goes_self a v same = subst (GoesOn a) (sym same) (refl, ∣ record { entries = []; gains = gains_none a } ∣₁)

more : (a v w : View) (es : List Entry) → Gains v es w → Continues a v → Continues a w
more a v w es gains so = record { entries = so.entries ++ es; gains = gains_more a v w so.entries es so.gains gains }

pub goes_gains : (a v w : View) (es : List Entry) → GoesOn a v → Gains v es w → GoesOn a w
goes_gains a v w es so gains = (gains.same ∙ so.0, ∥∥₁_map so.1 (more a v w es gains))

pub goes_extends : (s : Layout) (a v w : View) (c : Call) (r : Reply) → GoesOn a v → Extends s v c r w → GoesOn a w
goes_extends s a v w c r so x = goes_gains a v w _ so x.gains

pub goes_refused : (s : Layout) (a v w : View) (c : Call) (f : RunFault) → GoesOn a v → Refused s v c f w → GoesOn a w
goes_refused s a v w c f so x = goes_gains a v w [] so x.0

goes_broke : (s : Layout) (a v w : View) (c : Call) (f : RunFault) → GoesOn a v → BrokeOff s v c f w → GoesOn a w
goes_broke s a v w c f so (inl refused) = goes_refused s a v w c f so refused
goes_broke s a v w c f so (inr (e, es, gains, part, stops)) = goes_gains a v w (e ∷ es) so gains

pub goes_whole : (s : Layout) (a v w : View) (c : Call) (o : Result Reply RunFault) → GoesOn a v
    → IfOk o (λ r. Completes s v c r w) → IfErr o (λ f. BrokeOff s v c f w) → GoesOn a w
goes_whole s a v w c (Ok r) so done broke = goes_gains a v w done.entries so done.gains
goes_whole s a v w c (Err f) so done broke = goes_broke s a v w c f so broke

goes_all : (s : Layout) (a v w : View) (cs : List Call) (rs : List Reply) → GoesOn a v → MakesAll s v cs rs w
    → GoesOn a w
goes_all s a v w [] [] so same = subst (GoesOn a) (sym same) so
goes_all s a v w [] (q ∷ rs) so none = absurd none
goes_all s a v w (d ∷ cs) [] so none = absurd none
goes_all s a v w (d ∷ cs) (q ∷ rs) so (u, first, all) =
    goes_all s a u w cs rs (goes_extends s a v u d q so first) all

pub goes_batch : (s : Layout) (a v w : View) (cs : List Call) (old new : List Reply)
    (o : Result (Unit {0}) (BatchFault RunFault))
    → GoesOn a v → IfOk o (λ _. MakesBatch s v cs old new w)
    → IfErr o (λ e. StopsBatch s v cs e.made e.fault old new w) → GoesOn a w
goes_batch s a v w cs old new (Ok u) so made stopped = goes_all s a v w cs made.replies so made.makes
goes_batch s a v w cs old new (Err e) so made stopped =
    goes_refused s a stopped.middle w stopped.next e.fault
    (goes_all s a v stopped.middle (take e.made cs) stopped.makes.replies so stopped.makes.makes) stopped.refused

-- the seen is a beginning
begins_after : (a w : View) → IsPrefix a.seen w.seen → take (length a.seen) w.seen ≡ a.seen
begins_after a w (rest, is) = ap (take (length a.seen)) (sym is) ∙ take-append_seam a.seen rest

begins : (a w : View) → take (length a.seen) w.seen ≡ a.seen → IsPrefix a.seen w.seen
begins a w is = (
  drop (length a.seen) w.seen,
  ap (λ xs. xs ++ drop (length a.seen) w.seen) (sym is)
      ∙ take-append-drop (length a.seen) w.seen,
)

pub after_self : (a v : View) → v ≡ a → IsAfter a v
after_self a v same = subst (IsAfter a) (sym same) (refl, omega arith, begins_after a a (prefix_self a.seen))

pub after_later : (a v w : View) → IsAfter a v → Later v w → IsAfter a w
after_later a v w x y =
    (y.0 ∙ x.0, (let p = x.1 in let q = y.1 in omega (arith, p, q)), begins_after a w (y.2 a.seen (begins a v x.2)))

pub later_after : (a v : View) → IsAfter a v → Later a v
later_after a v x = (x.0, x.1, λ front p. prefix_trans front a.seen v.seen p (begins a v x.2))
