-- What stays open after one more entry.
use Rattle.std.proofs.Common.{◌≡◌, ◌<◌, ◌∷◌, true, false, List, Some, length, ap, arith, filter, not, option_to_list}
use Rattle.std.proofs.Common.{subst, sym}
use Rattle.cmwq_lemmas.proofs.Members.{In, filter_in, in_left, in_option, of_in}
use Rattle.cmwq_model.specs.Prelude.{IsLegal, Layout, finishes, is_started, opening, still_open}
use Rattle.cmwq_model.specs.declared.entry.Entry.{Entry}
use Rattle.cmwq_model.specs.declared.record.Queueing.{Queueing}
use Rattle.cmwq_theory_steps.specs.Endings.{ending, is_ended, survives}
use Rattle.cmwq_theory_steps.proofs.Ended.{one_ends}
use Rattle.cmwq_theory_steps.proofs.Endings.{open_go_on}
use Rattle.cmwq_theory_steps.proofs.Rising.{open_below}
use Rattle.cmwq_theory_steps.proofs.RunSteps.{started_not_cancelled}

-- what is open has a number that is known
pub open_known : (past : List Entry) (x : Queueing) → In x (still_open past) → x.number < length past
open_known past x here = of_in (λ y. y.number < length past) (still_open past) x (open_below past) here

module _ (s : Layout) (past : List Entry) (e : Entry) (legal : IsLegal s (e ∷ past)) (x : Queueing) where
  -- a run that doesn't finish survives
  pub run_survives : is_started past x.number ≡ true → finishes x.number e ≡ false → survives past e x ≡ true
  run_survives started on =
      let back = started_not_cancelled s past e x.number legal started in
      grind (arith, back, started, on)

  -- what survives stays open
  pub stays_open : In x (still_open past) → survives past e x ≡ true → In x (still_open (e ∷ past))
  stays_open here stays =
      subst (In x) (sym (open_go_on s past e legal))
      (in_left (filter (survives past e) (still_open past)) (option_to_list (opening past e)) x
      (filter_in (survives past e) (still_open past) x here stays))

  -- what doesn't is what the entry ends
  pub is_ending : In x (still_open past) → survives past e x ≡ false → ending past e ≡ Some x
  is_ending here ends =
      in_option (ending past e) x
      (subst (In x) (one_ends s past e legal) (filter_in (is_ended past e) (still_open past) x here (ap not ends)))
