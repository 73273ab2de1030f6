-- Whether a wait is refused does not depend on the order of the runs that wait.
use Rattle.std.specs.List.{list_any, sum_by}
use Rattle.std.specs.Prelude.{◌||◌, ◌&&◌, if◌then◌else◌, option_and_then}
use Rattle.std.proofs.Common.{◌≡◌, ◌∙◌, ◌+◌, ◌++◌, ◌∷◌, ℕ, Bool, true, false, List, [], Option, Some, None, ap, ap₂}
use Rattle.std.proofs.Common.{arith, cond, eq-eqb, eqb-true, filter, inl, inr, nat_le, not, refl, suc, sym, ⊎_elim}
use Rattle.std.proofs.lemmas.Bool.{false_from_ne_true}
use Rattle.std.proofs.lemmas.List.Kept.{AllPairs-filter}
use Rattle.std.proofs.lemmas.List.Sums.{sum_by-cons}
use Rattle.cmwq_lemmas.proofs.Lists.{filter_all}
use Rattle.cmwq_lemmas.proofs.Members.{In, all_in, any_in, contained_in, filter_in, in_any, in_append, in_contained}
use Rattle.cmwq_lemmas.proofs.Members.{in_filter, in_left, in_right, none_in}
use Rattle.cmwq_lemmas.proofs.Truth.{same_bools}
use Rattle.cmwq_model.specs.Prelude.{Layout, is_active, is_started, max_active}
use Rattle.cmwq_model.specs.declared.call.Call.{Call}
use Rattle.cmwq_model.specs.declared.entry.Entry.{Entry}
use Rattle.cmwq_model.specs.declared.id.Who.TheVariants.{Worker}
use Rattle.cmwq_model.specs.declared.id.WorkerId.{WorkerId}
use Rattle.cmwq_model.specs.declared.record.Queueing.{Queueing}
use Rattle.cmwq_model.specs.declared.record.Ticket.{Ticket}
use Rattle.cmwq_theory_steps.specs.ItemQueueings.{queueing_run}
use Rattle.cmwq_waits.specs.HeldUp.{NeverEnds, Scene, is_held_up, is_held_up_by, is_in, is_in_pool, is_kept, is_of_item}
use Rattle.cmwq_waits.specs.HeldUp.{members, places_ahead}
use Rattle.cmwq_waits.specs.Refused.{AreApart, is_other, is_turned_away, never_ends, next_ticket, next_wait, refusal}
use Rattle.cmwq_waits.specs.Refused.{scene_after, waits_with}
use Rattle.cmwq_waits.specs.HeldUp.{awaits}
use Rattle.cmwq_waits.specs.Registered.{refusal_of}
use Rattle.cmwq_waits.specs.declared.run_wait.RunWait.{RunWait}
use Rattle.cmwq_waits.specs.declared.waits.Stuck.TheVariants.{Circle, Itself}
use Rattle.cmwq_waits.proofs.Exact.{apart_with}
use Rattle.cmwq_waits.proofs.Greatest.{is_never, later_apart, never_is}

-- ---- the same runs, in any order

pub record AreSame (ws us : List RunWait) : Type 0 where
  pub on : (w : RunWait) → In w ws → In w us
  pub back : (w : RunWait) → In w us → In w ws

other_way : (ws us : List RunWait) → AreSame ws us → AreSame us ws
other_way ws us same = record { on = same.back; back = same.on }

passing : (p : RunWait → Bool) (ws us : List RunWait) → AreSame ws us → AreSame (filter p ws) (filter p us)
passing p ws us same = record {
  on = λ w here. (let k = in_filter p ws w here in filter_in p us w (same.on w k.0) k.1);
  back = λ w here. (let k = in_filter p us w here in filter_in p ws w (same.back w k.0) k.1);
}

same_with : (ws us : List RunWait) (v : RunWait) → AreSame ws us → AreSame (ws ++ v ∷ []) (us ++ v ∷ [])
same_with ws us v same = record { on = on; back = back }
  where
    on : (w : RunWait) → In w (ws ++ v ∷ []) → In w (us ++ v ∷ [])
    on w here =
        ⊎_elim (λ old. in_left us (v ∷ []) w (same.on w old)) (λ new. in_right us (v ∷ []) w new)
        (in_append ws (v ∷ []) w here)

    back : (w : RunWait) → In w (us ++ v ∷ []) → In w (ws ++ v ∷ [])
    back w here =
        ⊎_elim (λ old. in_left ws (v ∷ []) w (same.back w old)) (λ new. in_right ws (v ∷ []) w new)
        (in_append us (v ∷ []) w here)

-- ---- sums

apart_rest : (w : RunWait) (ws : List RunWait) → AreApart (w ∷ ws) → AreApart ws
apart_rest w ws apart i j d less within = apart (suc i) (suc j) d (omega arith) (omega arith)

apart_passing : (p : RunWait → Bool) (ws : List RunWait) → AreApart ws → AreApart (filter p ws)
apart_passing p ws apart = AllPairs-filter (λ (v w : RunWait). v.run.number ≡ w.run.number → ⊥) p ws apart

abbrev without : RunWait → List RunWait → List RunWait
without w us = filter (is_other w.run.number) us

stays : (w v : RunWait) → (v.run.number ≡ w.run.number → ⊥) → is_other w.run.number v ≡ true
stays w v other =
    ap not (false_from_ne_true _ (λ same. other (eqb-true v.run.number w.run.number same)))

goes : (w v : RunWait) → v.run.number ≡ w.run.number → is_other w.run.number v ≡ false
goes w v same = ap not (eq-eqb v.run.number w.run.number same)

sum_once : (f : RunWait → ℕ) (w : RunWait) (us : List RunWait) → AreApart us → In w us
    → sum_by f us ≡ f w + sum_by f (without w us)
sum_once f w [] apart here = absurd here
sum_once f w (u ∷ us) apart here =
    ⊎_elim
    (λ (same : u ≡ w).
    let gone = goes w u (ap (λ (x : RunWait). x.run.number) same) in
    let rest : without w us ≡ us = filter_all (is_other w.run.number) us
    (all_in (λ v. is_other w.run.number v ≡ true) us (λ v there. stays w v (λ number. later_apart u v us apart there
    (ap (λ (x : RunWait). x.run.number) same ∙ sym number)))) in
    sum_by-cons f u us
    ∙ ap₂ (λ (x : RunWait) (xs : List RunWait). f x + sum_by f xs) same
    (sym (ap (λ b. cond b (u ∷ without w us) (without w us)) gone ∙ rest)))
    (λ (later : In w us).
    let kept = stays w u (λ same. later_apart u w us apart later same) in
    let first = sum_by-cons f u us in
    let others = sum_once f w us (apart_rest u us apart) later in
    let left : sum_by f (without w (u ∷ us)) ≡ f u + sum_by f (without w us) =
    ap (λ b. sum_by f (cond b (u ∷ without w us) (without w us))) kept ∙ sum_by-cons f u (without w us) in
    omega (arith, first, others, left)) here

same_sums : (f : RunWait → ℕ) (ws us : List RunWait) → AreApart ws → AreApart us → AreSame ws us
    → sum_by f ws ≡ sum_by f us
same_sums f [] us apart others same = ap (sum_by f) (sym (none_in us same.back))
same_sums f (w ∷ ws) us apart others same =
    sum_by-cons f w ws
    ∙ ap (λ n. f w + n)
    (same_sums f ws (without w us) (apart_rest w ws apart) (apart_passing (is_other w.run.number) us others) rest)
    ∙ sym (sum_once f w us others (same.on w (inl refl)))
  where
    rest : AreSame ws (without w us)
    rest = record {
      on = λ v there. filter_in (is_other w.run.number) us v (same.on v (inr there))
          (stays w v (λ number. later_apart w v ws apart there (sym number)));
      back = λ v there. (
          let k = in_filter (is_other w.run.number) us v there in
          ⊎_elim
          (λ (is : w ≡ v). absurd (cc (sym k.1 ∙ goes w v (ap (λ (x : RunWait). x.run.number) (sym is)))))
          (λ (later : In v ws). later) (same.back v k.0)
          );
    }

same_any : (p : RunWait → Bool) (ws us : List RunWait) → AreSame ws us → list_any p ws ≡ list_any p us
same_any p ws us same =
    same_bools (list_any p ws) (list_any p us)
    (λ some. let w = in_any p ws some in any_in p us w.0 (same.on w.0 w.1) w.2)
    (λ some. let w = in_any p us some in any_in p ws w.0 (same.back w.0 w.1) w.2)

-- ---- what they hold up

module _ (c : Scene) (ws us : List RunWait) (apart : AreApart ws) (others : AreApart us) (same : AreSame ws us) where
  same_kept : (x : Queueing) → is_kept c ws x ≡ is_kept c us x
  same_kept x =
      ap₂ (λ a b. a || (not (is_started c.past x.number) && b)) (same_any (is_of_item x.item.0) ws us same)
      (ap₂ (λ n m. nat_le c.layout.workers n || (not (is_active c.layout c.past x)
      && nat_le (max_active c.layout c.past x.place.queue.0) m))
      (same_sums (λ w. cond (is_in_pool c.layout x.place w) 1 0) ws us apart others same)
      (same_sums (places_ahead c x) ws us apart others same))

  same_held : (t : Ticket) → is_held_up c ws t ≡ is_held_up c us t
  same_held t =
      same_bools (is_held_up c ws t) (is_held_up c us t)
      (λ some. let x = in_any (is_held_up_by c ws t) c.opened some in
      any_in (is_held_up_by c us t) c.opened x.0 x.1 (sym (both x.0) ∙ x.2))
      (λ some. let x = in_any (is_held_up_by c us t) c.opened some in
      any_in (is_held_up_by c ws t) c.opened x.0 x.1 (both x.0 ∙ x.2))
    where
      both : (x : Queueing) → is_held_up_by c ws t x ≡ is_held_up_by c us t x
      both x = ap (λ b. awaits c.past t x && b) (same_kept x)

never_on : (c : Scene) (ws us : List RunWait) → AreApart ws → AreApart us → AreSame ws us → (run : ℕ)
    → NeverEnds c ws run → NeverEnds c us run
never_on c ws us apart others same run never = record {
  set = never.set;
  has = never.has;
  deadlock = λ w here is.
      sym (same_held c (members never.set ws) (members never.set us) (apart_passing (is_in never.set) ws apart)
      (apart_passing (is_in never.set) us others) (passing (is_in never.set) ws us same) w.ticket)
      ∙ never.deadlock w (in_contained ws w (same.back w (contained_in us w here))) is;
}

same_never : (c : Scene) (ws us : List RunWait) → AreApart ws → AreApart us → AreSame ws us → (w : RunWait) → In w ws
    → never_ends c ws w.run.number ≡ never_ends c us w.run.number
same_never c ws us apart others same w here =
    same_bools (never_ends c ws w.run.number) (never_ends c us w.run.number)
    (λ some. is_never c us w (same.on w here)
    (never_on c ws us apart others same w.run.number (never_is c ws apart w.run.number some)))
    (λ some. is_never c ws w here
    (never_on c us ws others apart (other_way ws us same) w.run.number (never_is c us others w.run.number some)))

-- ---- refusals

module _ (s : Layout) (past : List Entry) (ws us : List RunWait) (apart : AreApart ws) (others : AreApart us)
    (same : AreSame ws us) (c : Call) where
  same_refusal : (run : Queueing) → refusal s past ws run c ≡ refusal s past us run c
  same_refusal run =
      let v = next_wait past run c in
      ap (λ b. if is_turned_away past c then None else if awaits past (next_ticket past c) run then Some Itself
      else if b then Some Circle else None)
      (same_never (scene_after s past c) (waits_with past ws run c) (waits_with past us run c) (apart_with ws v apart)
      (apart_with us v others)
      (same_with (filter (is_other run.number) ws) (filter (is_other run.number) us) v
      (passing (is_other run.number) ws us same)) v
      (in_right (filter (is_other run.number) ws) (v ∷ []) v (inl refl)))

  pub same_refusal_of : (w : WorkerId) → refusal_of s past ws w c ≡ refusal_of s past us w c
  same_refusal_of w = of (queueing_run past (Worker w))
    where
      of : (o : Option Queueing)
          → option_and_then (λ (x : Queueing). refusal s past ws x c) o
          ≡ option_and_then (λ (x : Queueing). refusal s past us x c) o
      of None = refl
      of (Some x) = same_refusal x
