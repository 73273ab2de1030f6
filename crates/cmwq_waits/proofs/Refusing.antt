-- The scene and the waits that are looked at when a run is about to wait.
use Rattle.std.proofs.Common.{◌≡◌, ◌∙◌, ℕ, Bool, false, Some, None, true, List, [], ◌∷◌, ◌++◌, Option, length, ap, ap₂, refl, subst, sym, inl, inr}
use Rattle.std.proofs.Common.{⊎_elim, ◌⊎◌}
use Rattle.std.specs.Prelude.{Contains, if◌then◌else◌}
use Rattle.std.proofs.lemmas.List.{length-reverse}
use Rattle.cmwq_model.specs.Prelude.{IsLegal, Layout, has_numbers, is_started, past_of, still_open}
use Rattle.cmwq_model.specs.declared.call.Call.{Call}
use Rattle.cmwq_model.specs.declared.entry.Entry.{Entry}
use Rattle.cmwq_model.specs.declared.id.ItemId.{ItemId}
use Rattle.cmwq_model.specs.declared.record.Queueing.{Queueing}
use Rattle.cmwq_model.specs.declared.record.Ticket.{Ticket}
use Rattle.cmwq_core.specs.History.{History, past_in}
use Rattle.cmwq_lemmas.proofs.Members.{contained_in, in_append, in_contained, in_filter}
use Rattle.cmwq_refinement.proofs.PlacesFit.{unended_tickets_fit}
use Rattle.cmwq_waits.specs.HeldUp.{AreWaiting, Scene, awaits}
use Rattle.cmwq_waits.specs.Looks.{AreSeen, IsKnown, IsSeen}
use Rattle.cmwq_waits.specs.Narrowing.{AreKnown}
use Rattle.std.proofs.Common.{filter}
use Rattle.cmwq_waits.specs.Refused.{is_other, is_turned_away, item_taken_back, never_ends, next_ticket, next_wait, queued, scene_after, scene_with}
use Rattle.cmwq_waits.specs.Refused.{refusal, waits_with}
use Rattle.cmwq_waits.specs.declared.waits.Stuck.{Stuck}
use Rattle.cmwq_waits.specs.declared.waits.Stuck.TheVariants.{Itself, Circle}
use Rattle.cmwq_waits.specs.declared.run_wait.RunWait.{RunWait}

pub same_scene : (s : Layout) (h g : History) (o : Option ItemId) (more : Option Queueing) (c : Call) → g ≡ h
    → o ≡ item_taken_back c → more ≡ queued (past_in h) c
    → scene_with s (past_of g.entries) o more ≡ scene_after s (past_in h) c
same_scene s h g o more c same taken next =
    ap (λ (k : History). scene_with s (past_of k.entries) o more) same
    ∙ ap₂ (λ p m. scene_with s (past_in h) p m) taken next

pub same_ticket : (h : History) (c : Call) (n : ℕ) → n ≡ length h.entries
    → record { caller = record { 0 = 0 }; call = c; number = n } ≡ next_ticket (past_in h) c
same_ticket h c n many =
    ap (λ m. record { caller = record { 0 = 0 }; call = c; number = m }) (many ∙ sym (length-reverse h.entries))

pub items_are : (h : History) (waits listed filled : List RunWait) (run : Queueing) (c : Call) (n : ℕ) → listed ≡ waits
    → filled ≡ filter (is_other run.number) listed ++ (record {
      run = run;
      ticket = record { caller = record { 0 = 0 }; call = c; number = n };
    }) ∷ []
    → n ≡ length h.entries → filled ≡ waits_with (past_in h) waits run c
items_are h waits listed filled run c n same is many =
    is
    ∙ ap₂ (λ (ws : List RunWait) (t : Ticket). filter (is_other run.number) ws ++ (record { run = run; ticket = t }) ∷ [])
    same (same_ticket h c n many)

pub circle_if : (b : Bool) → b ≡ true → (if b then Some Circle else None) ≡ Some Circle
circle_if b is = ap (λ (t : Bool). if t then Some Circle else None) is

pub none_if : (b : Bool) → b ≡ false → (if b then Some Circle else None) ≡ None
none_if b is = ap (λ (t : Bool). if t then Some Circle else None) is

-- what is told where neither first test passes
pub refused_is : (s : Layout) (past : List Entry) (waits filled : List RunWait) (run : Queueing) (c : Call) (d : Scene)
    (never : Bool) (result : Option Stuck)
    → d ≡ scene_after s past c → filled ≡ waits_with past waits run c → is_turned_away past c ≡ false
    → awaits past (next_ticket past c) run ≡ false → never ≡ never_ends d filled run.number
    → result ≡ (if never then Some Circle else None) → result ≡ refusal s past waits run c
refused_is s past waits filled run c d never result scene items turned other is told =
    let same : never ≡ never_ends (scene_after s past c) (waits_with past waits run c) run.number =
    is ∙ ap₂ (λ (b : Scene) (ws : List RunWait). never_ends b ws run.number) scene items in
    let last : result ≡ (if never_ends (scene_after s past c) (waits_with past waits run c) run.number then Some Circle
    else None) =
    told ∙ ap (λ (b : Bool). if b then Some Circle else None) same in
    last
    ∙ sym
    (ap₂
    (λ (a b : Bool). if a then None else if b then Some Itself
    else if never_ends (scene_after s past c) (waits_with past waits run c) run.number then Some Circle else None)
    turned other)

module _ (s : Layout) (past : List Entry) (waits : List RunWait) (run : Queueing) (c : Call)
    (legal : IsLegal s past) (numbers : has_numbers s c ≡ true) (waiting : AreWaiting past waits)
    (is_open : Contains (still_open past) run) (started : is_started past run.number ≡ true) where
  abbrev all : List RunWait
  all = waits_with past waits run c

  old_or_new : (w : RunWait) → Contains all w → Contains waits w ⊎ (next_wait past run c ≡ w)
  old_or_new w here =
      ⊎_elim (λ old. inl (in_contained waits w (in_filter (is_other run.number) waits w old).0))
      (λ new. ⊎_elim (λ same. inr same) (λ none. absurd none) new)
      (in_append (filter (is_other run.number) waits) (next_wait past run c ∷ []) w (contained_in all w here))

  pub all_seen : AreSeen past all
  all_seen w here =
      ⊎_elim (λ old. let is = waiting w old in record { is_open = is.is_open; has_started = is.has_started })
      (λ new. subst (IsSeen past) new (record { is_open = is_open; has_started = started })) (old_or_new w here)

  pub all_known : (d : Scene) → d.layout ≡ s → d.past ≡ past → AreKnown d all
  all_known d layout same w here =
      ⊎_elim (λ old. let is = waiting w old in
      record {
        there = rw layout (unended_tickets_fit s past w.ticket legal is.is_unended);
        is_unended = rw same (inl is.is_unended);
      })
      (λ new. subst (λ (v : RunWait). IsKnown d v.ticket) new
      (record { there = rw layout numbers; is_unended = rw same (inr refl) })) (old_or_new w here)
