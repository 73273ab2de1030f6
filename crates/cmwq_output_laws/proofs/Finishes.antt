-- Where a queueing that a worker starts is finished.
use Rattle.std.proofs.Common.{◌≡◌, ℕ, ◌<◌, Bool, true, false, ◌||◌, List, [], ◌∷◌, ◌++◌, length, Option, Some, None}
use Rattle.std.proofs.Common.{refl, ap, ap₂, ◌∙◌, subst, arith}
use Rattle.std.specs.Prelude.{is_some, if◌then◌else◌}
use Rattle.std.specs.Option.{option_or}
use Rattle.std.proofs.lemmas.Bool.{eq-eqb}
use Rattle.cmwq_model.specs.declared.entry.Entry.{Entry}
use Rattle.cmwq_model.specs.declared.reply.Reply.{Reply}
use Rattle.cmwq_model.specs.declared.reply.Reply.TheVariants as reply
use Rattle.cmwq_model.specs.declared.id.Who.{Who}
use Rattle.cmwq_model.specs.declared.id.Who.TheVariants.{Worker}
use Rattle.cmwq_model.specs.declared.id.WorkerId.{WorkerId}
use Rattle.cmwq_model.specs.Prelude.{Layout, is_at, is_by, same_who, finishes, number_started, number_finished}
use Rattle.cmwq_model.specs.Prelude.{is_finished, run, has_run, IsLegal}
use Rattle.cmwq_theory_steps.specs.RunSteps.{run_after}
use Rattle.cmwq_theory_steps.proofs.Fresh.{finishes_run}
use Rattle.cmwq_theory_steps.proofs.ItemRuns.{same_worker_itself}
use Rattle.cmwq_theory_steps.proofs.RunSteps.{workers_run_on, no_end}
use Rattle.cmwq_theory_steps.proofs.Starts.{starts_next}
use Rattle.cmwq_theory_steps.proofs.StartsListed.{starts_anew}
use Rattle.cmwq_theory_laws.proofs.EndedOnce.{finished_started}
use Rattle.cmwq_chart.specs.Bars.{finish_place}
use Rattle.cmwq_theory_steps.proofs.OwedSteps.{by_whom}
use Rattle.cmwq_lemmas.proofs.Truth.{or_true}

-- ---- places

pub finish_within : (past : List Entry) (n t : ℕ) → finish_place past n ≡ Some t → t < length past
unfolding finish_place
finish_within [] n t h = cc
finish_within (e ∷ past) n t h = here (finish_within past n) (finish_place past n) refl (finishes n e) h
  where
    here : ((u : ℕ) → finish_place past n ≡ Some u → u < length past) → (o : Option ℕ) → finish_place past n ≡ o
        → (b : Bool) → option_or o (if b then Some (length past) else None) ≡ Some t → t < length (e ∷ past)
    here within (Some u) is b k = let less : u < length past = within u is in let same : u ≡ t = cc in omega arith
    here within None is true k = let same : length past ≡ t = cc in omega arith
    here within None is false k = cc

pub finish_stays : (after past : List Entry) (n t : ℕ) → finish_place past n ≡ Some t
    → finish_place (after ++ past) n ≡ Some t
unfolding finish_place
finish_stays [] past n t h = h
finish_stays (a ∷ after) past n t h =
    ap (λ o. option_or o (if finishes n a then Some (length (after ++ past)) else None)) (finish_stays after past n t h)

finished_by : (past : List Entry) (n t : ℕ) → finish_place past n ≡ Some t → is_finished past n ≡ true
unfolding finish_place
finished_by [] n t h = cc
finished_by (e ∷ past) n t h = here (finished_by past n) (finish_place past n) refl (finishes n e) h
  where
    here : ((u : ℕ) → finish_place past n ≡ Some u → is_finished past n ≡ true) → (o : Option ℕ)
        → finish_place past n ≡ o → (b : Bool) → option_or o (if b then Some (length past) else None) ≡ Some t
        → (b || is_finished past n) ≡ true
    here earlier (Some u) is b k = ap (λ f. b || f) (earlier u is) ∙ or_true b
    here earlier None is true k = refl
    here earlier None is false k = cc

-- ---- a queueing that a legal entry starts wasn't finished before, and is the worker's run until it is

after_start : (r : Reply) (o : Option ℕ) (n : ℕ) → number_started r ≡ Some n → run_after r o ≡ Some n
after_start (reply.Started m) o n h = h
after_start (reply.StartedEnlist m x) o n h = h
after_start r o n h = cc

after_others : (r : Reply) (o : Option ℕ) → number_started r ≡ None → number_finished r ≡ None → run_after r o ≡ o
after_others (reply.Started m) o h k = cc
after_others (reply.StartedEnlist m x) o h k = cc
after_others (reply.Finished m) o h k = cc
after_others r o h k = refl

module _ (s : Layout) (before : List Entry) (e : Entry) (w : WorkerId) (n : ℕ) (legal : IsLegal s (e ∷ before))
    (who : e.who ≡ Worker w) (started : number_started e.reply ≡ Some n) where
  pub not_yet : finish_place (e ∷ before) n ≡ None
  unfolding finish_place IsLegal
  not_yet = here (finish_place before n) refl
    where
      other : finishes n e ≡ false
      other = ap (λ o. is_at o n) (no_end e.reply n started).0

      here : (o : Option ℕ) → finish_place before n ≡ o
          → option_or (finish_place before n) (if finishes n e then Some (length before) else None) ≡ None
      here None is = ap₂ (λ o b. option_or o (if b then Some (length before) else None)) is other
      here (Some u) is =
          let begun = finished_started s before n legal.2 (finished_by before n u is) in
          let anew = starts_anew s before e n legal (ap (λ o. is_at o n) started ∙ eq-eqb n n refl) in
          cc

  goes_more : (h : List Entry) (a : Entry) → IsLegal s (a ∷ h) → run h w ≡ Some n → finishes n a ≡ false → (by : Bool)
      → is_by (Worker w) a ≡ by → (st fi : Option ℕ) → number_started a.reply ≡ st → number_finished a.reply ≡ fi
      → run (a ∷ h) w ≡ Some n
  goes_more h a legals runs not false hb st fi hs hf =
      workers_run_on s h a w legals ∙ ap (λ b. if b then run_after a.reply (run h w) else run h w) hb ∙ runs
  goes_more h a legals runs not true hb None None hs hf =
      workers_run_on s h a w legals ∙ ap (λ b. if b then run_after a.reply (run h w) else run h w) hb
      ∙ after_others a.reply (run h w) hs hf ∙ runs
  goes_more h a legals runs not true hb (Some m) fi hs hf =
      let st = starts_next s h a m legals hs in
      let same : st.worker ≡ w = by_whom a st.worker w st.by_worker hb in
      let idle : has_run h w ≡ false = subst (λ (v : WorkerId). has_run h v ≡ false) same st.idle in
      let busy : has_run h w ≡ true = ap is_some runs in
      cc
  goes_more h a legals runs not true hb None (Some m) hs hf =
      let f = finishes_run s h a m legals hf in
      let same : f.worker ≡ w = by_whom a f.worker w f.by_worker hb in
      let ran : run h w ≡ Some m = subst (λ (v : WorkerId). run h v ≡ Some m) same f.is_run in
      let one : m ≡ n = cc in
      let ends : finishes n a ≡ true = ap (λ o. is_at o n) hf ∙ eq-eqb m n one in
      cc

  not_finished : (o : Option ℕ) (b : Bool) (k : ℕ) → option_or o (if b then Some k else None) ≡ None
      → (o ≡ None) × (b ≡ false)
  not_finished None true k h = cc
  not_finished None false k h = (refl, refl)
  not_finished (Some u) b k h = cc

  pub goes_on : (after : List Entry) → IsLegal s (after ++ e ∷ before) → finish_place (after ++ e ∷ before) n ≡ None
      → run (after ++ e ∷ before) w ≡ Some n
  unfolding finish_place IsLegal
  goes_on [] legals none =
      let by : is_by (Worker w) e ≡ true = ap (λ (x : Who). same_who x (Worker w)) who ∙ same_worker_itself w in
      workers_run_on s before e w legal ∙ ap (λ b. if b then run_after e.reply (run before w) else run before w) by
      ∙ after_start e.reply (run before w) n started
  goes_on (a ∷ after) legals none =
      let parts =
      not_finished (finish_place (after ++ e ∷ before) n) (finishes n a) (length (after ++ e ∷ before)) none in
      goes_more (after ++ e ∷ before) a legals (goes_on after legals.2 parts.0) parts.1 (is_by (Worker w) a) refl
      (number_started a.reply) (number_finished a.reply) refl refl
