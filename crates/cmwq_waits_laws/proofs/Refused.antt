-- A wait that is refused would be held up for ever, if the call were made all the same.
use Rattle.std.proofs.Common.{◌≡◌, ◌∙◌, ◌∷◌, ◌++◌, ◌==◌, ◌||◌, ⊎_elim, ℕ, Bool, true, false, List, [], Some, None}
use Rattle.std.proofs.Common.{ap, ap₂, arith, eq-eqb, filter, inl, length, nat_le, not, refl}
use Rattle.std.proofs.Common.{subst, sym}
use Rattle.std.specs.Prelude.{count_by, if◌then◌else◌, ◌&&◌}
use Rattle.std.specs.List.{sum_by}
use Rattle.std.proofs.lemmas.Bool.{and_from, and_parts, or_cases, or_left, or_right}
use Rattle.std.proofs.lemmas.List.Kept.{AllPairs-filter}
use Rattle.cmwq_lemmas.proofs.Members.{In, any_in, contained_in, filter_in, in_any, in_append, in_contained, in_filter}
use Rattle.cmwq_lemmas.proofs.Members.{in_left}
use Rattle.cmwq_lemmas.proofs.Members.{in_right}
use Rattle.cmwq_model.proofs.Growing.{older_are_legal}
unfoldable use Rattle.cmwq_model.specs.Prelude.{IsLegal, is_active}
use Rattle.cmwq_model.specs.Prelude.{Layout, cancels_sync, ends, finishes, gives_ticket, holds_up, is_at, is_started}
use Rattle.cmwq_model.specs.Prelude.{still_open, ticket_for, ticket_in}
use Rattle.cmwq_model.specs.declared.call.Call.{Call}
use Rattle.cmwq_model.specs.declared.entry.Entry.{Entry}
use Rattle.cmwq_model.specs.declared.id.Who.{Who}
use Rattle.cmwq_model.specs.declared.id.Who.TheVariants.{Caller, Worker}
use Rattle.cmwq_model.specs.declared.record.Queueing.{Queueing}
use Rattle.cmwq_model.specs.declared.record.Ticket.{Ticket}
use Rattle.cmwq_theory_steps.proofs.Widths.{max_same}
use Rattle.cmwq_waits.specs.HeldUp.{AreWaiting, IsDeadlock, IsWaiting, NeverEnds, Scene, awaits, has_run_of}
use Rattle.cmwq_waits.specs.HeldUp.{have_all_places}
use Rattle.cmwq_waits.specs.HeldUp.{have_all_workers, is_held_up, is_ahead_of_item, is_held_up_by, is_in, is_kept}
use Rattle.cmwq_waits.specs.HeldUp.{is_of_item, members}
use Rattle.cmwq_waits.specs.Looks.{IsSeen}
use Rattle.cmwq_waits.specs.Refused.{AreApart, Refuses, is_other, next_ticket, next_wait, scene_after, waits_with}
use Rattle.cmwq_waits.specs.declared.run_wait.RunWait.{RunWait}
use Rattle.cmwq_waits.specs.declared.waits.Stuck.{Stuck}
use Rattle.cmwq_waits.specs.declared.waits.Stuck.TheVariants.{Itself, Circle}
use Rattle.cmwq_waits.proofs.Exact.{apart_with}
use Rattle.cmwq_waits_laws.specs.Lasting.{FinishAfterWaits, LetsGo, NoneLetsGo, RefusedWaitsNeverEnd, ends_unstarted}
use Rattle.cmwq_waits_laws.specs.Lasting.{is_awaited, scene_of, widens}
use Rattle.cmwq_waits_laws.proofs.Alike.{HaveSameRuns, last_alike, members_alike, places_alike, runs_alike}
use Rattle.cmwq_waits_laws.proofs.Alike.{workers_alike}
use Rattle.cmwq_waits_laws.proofs.Apart.{HaveOtherItems, items_differ}
use Rattle.cmwq_waits_laws.proofs.Awaited.{awaits_on}
use Rattle.cmwq_waits_laws.proofs.Kept.{Keeps, all_places, all_workers, by_way, its_run, way}
use Rattle.cmwq_waits_laws.proofs.Lasting.{begins_to_wait, deadlocks_last, seen, waits_on}
use Rattle.cmwq_waits_laws.proofs.Made.{quiet, same_opened}
use Rattle.cmwq_waits_laws.proofs.Places.{stays_inactive}
use Rattle.cmwq_waits_laws.proofs.Staying.{open_known}

-- ---- the ticket that an entry gives

-- it has the entry's call and number
pub record IsGivenBy (past : List Entry) (e : Entry) (t : Ticket) : Type 0 where
  pub gives : gives_ticket e.reply ≡ true
  pub call : t.call ≡ e.call
  pub number : t.number ≡ length past

given_by : (past : List Entry) (e : Entry) (t : Ticket) → ticket_in e (length past) ≡ Some t → IsGivenBy past e t
given_by past e t is = by (gives_ticket e.reply) e.who refl is
  where
    by : (b : Bool) (who : Who) → gives_ticket e.reply ≡ b
        → (if b then ticket_for who e.call (length past) else None) ≡ Some t → IsGivenBy past e t
    by true (Caller c) gives is = record { gives = gives; call = grind arith; number = grind arith }
    by true (Worker w) gives is = absurd (cc is)
    by false who gives is = absurd (cc is)

-- ---- a wait for its own run is a deadlock of one

module _ (s : Layout) (past : List Entry) (waits : List RunWait) (run : Queueing) (c : Call) where
  abbrev all : List RunWait
  all = waits_with past waits run c

  abbrev own : ℕ → Bool
  own n = n == run.number

  -- it is the only wait of that run
  only_own : (w : RunWait) → In w all → is_in own w ≡ true → next_wait past run c ≡ w
  only_own w here is =
      ⊎_elim
      (λ (old : In w (filter (is_other run.number) waits)).
      let other = (in_filter (is_other run.number) waits w old).1 in absurd (cc (sym (ap not is) ∙ other)))
      (λ (new : In w (next_wait past run c ∷ [])). ⊎_elim (λ (same : next_wait past run c ≡ w). same)
      (λ none. absurd none) new)
      (in_append (filter (is_other run.number) waits) (next_wait past run c ∷ []) w here)

  own_never_ends : In run (scene_after s past c).opened → awaits past (next_ticket past c) run ≡ true
      → NeverEnds (scene_after s past c) all run.number
  own_never_ends here up =
      let w = next_wait past run c in
      let there =
      filter_in (is_in own) all w
      (in_right (filter (is_other run.number) waits) (w ∷ []) w (inl refl)) (eq-eqb run.number run.number refl) in
      let has : has_run_of (members own all) run.item.0 ≡ true =
      any_in (is_of_item run.item.0) (members own all) w there (eq-eqb run.item.0 run.item.0 refl) in
      let held : is_held_up (scene_after s past c) (members own all) w.ticket ≡ true =
      any_in (is_held_up_by (scene_after s past c) (members own all) w.ticket) (scene_after s past c).opened run here
      (and_from _ _ up (or_left (has_run_of (members own all) run.item.0) _ has)) in
      record {
        set = own;
        has = eq-eqb run.number run.number refl;
        deadlock = λ v at is. subst
            (λ (u : RunWait). is_held_up (scene_after s past c) (members own all) u.ticket ≡ true)
            (only_own v (contained_in all v at) is) held;
      }

  never : (stuck : Stuck) → In run (scene_after s past c).opened → Refuses s past waits run c (Some stuck)
      → NeverEnds (scene_after s past c) all run.number
  never Itself here refuses = own_never_ends here refuses.1
  never Circle here refuses = refuses.2

-- ---- the call is made

module _ (s : Layout) (past : List Entry) (e : Entry) (waits : List RunWait) (w : RunWait)
    (legal : IsLegal s (e ∷ past)) (before : IsLegal s past) (waiting : AreWaiting past waits) (apart : AreApart waits)
    (sees : IsSeen past w) (given : ticket_in e (length past) ≡ Some w.ticket) where
  is : IsGivenBy past e w.ticket
  is = given_by past e w.ticket given

  abbrev after : List RunWait
  after = filter (is_other w.run.number) waits ++ w ∷ []

  finishes_none : (n : ℕ) → finishes n e ≡ false
  finishes_none n = ap (λ o. is_at o n) (quiet e.reply is.gives).finishes_none

  ends_none : (t : Ticket) → ends t e ≡ false
  ends_none t = let none = (quiet e.reply is.gives).not_done in grind (arith, none)

  -- the run begins to wait, and the others go on
  begins : IsWaiting (e ∷ past) w
  begins = begins_to_wait s past e w legal sees (finishes_none w.run.number) given

  all_wait : AreWaiting (e ∷ past) after
  all_wait v here =
      ⊎_elim
      (λ (old : In v (filter (is_other w.run.number) waits)).
      waits_on s past e v legal
      (waiting v (in_contained waits v (in_filter (is_other w.run.number) waits v old).0))
      (finishes_none v.run.number) (ends_none v.ticket))
      (λ (new : In v (w ∷ [])). ⊎_elim (λ (same : w ≡ v). subst (IsWaiting (e ∷ past)) same begins)
      (λ none. absurd none) new)
      (in_append (filter (is_other w.run.number) waits) (w ∷ []) v (contained_in after v here))

  all_apart : AreApart after
  all_apart = apart_with waits w apart

  -- ---- what the waits keep before the call, they keep after it

  abbrev now : Scene
  now = scene_after s past e.call

  abbrev next : Scene
  next = scene_of s (e ∷ past)

  same_started : (n : ℕ) → is_started (e ∷ past) n ≡ is_started past n
  same_started n = ap (λ o. is_at o n || is_started past n) (quiet e.reply is.gives).starts_none

  same_places : (ws : List RunWait) (x : Queueing) → have_all_places now ws x ≡ have_all_places next ws x
  same_places ws x =
      ap₂ (λ m xs. nat_le m (sum_by (λ (v : RunWait). count_by (is_ahead_of_item x v.run.item.0) xs) ws))
      (sym (max_same s past e x.place.queue.0 (quiet e.reply is.gives).keeps))
      (same_opened s past e legal before is.gives)

  keeps_after : (vs ws : List RunWait) → HaveSameRuns vs ws → HaveOtherItems ws → (x : Queueing) → Keeps now vs x
      → Keeps next ws x
  keeps_after vs ws same items x (its_run has) = its_run (sym (runs_alike vs ws same x.item.0) ∙ has)
  keeps_after vs ws same items x (all_workers unstarted all) =
      all_workers (same_started x.number ∙ unstarted) (sym (workers_alike vs ws same s x.place) ∙ all)
  keeps_after vs ws same items x (all_places unstarted inactive all) =
      let places = sym (same_places ws x) ∙ (sym (places_alike vs ws same now x) ∙ all) in
      all_places (same_started x.number ∙ unstarted) (stays_inactive s past e ws x items inactive places) places

  kept_after : (vs ws : List RunWait) → HaveSameRuns vs ws → HaveOtherItems ws → (x : Queueing)
      → is_kept now vs x ≡ true → is_kept next ws x ≡ true
  kept_after vs ws same items x kept =
      by_way (has_run_of ws x.item.0) (is_started (e ∷ past) x.number) (have_all_workers s ws x.place)
      (is_active s (e ∷ past) x) (have_all_places next ws x)
      (keeps_after vs ws same items x
      (way (has_run_of vs x.item.0) (is_started past x.number) (have_all_workers s vs x.place) (is_active s past x)
      (have_all_places now vs x) kept))

  -- a ticket goes by its number and its call alone
  awaits_alike : (t u : Ticket) (x : Queueing) → u.number ≡ t.number → u.call ≡ t.call
      → awaits past u x ≡ awaits past t x
  awaits_alike t u x number called =
      ap₂ (λ n c. holds_up past n c x || (cancels_sync x.item.0 c && is_started past x.number)) number called

  held_after : (vs ws : List RunWait) → HaveSameRuns vs ws → HaveOtherItems ws → (t u : Ticket)
      → u.number ≡ t.number → u.call ≡ t.call → is_held_up now vs t ≡ true → is_held_up next ws u ≡ true
  held_after vs ws same items t u number called held =
      let x = in_any (is_held_up_by now vs t) now.opened held in
      let here = subst (In x.0) (same_opened s past e legal before is.gives) x.1 in
      let by = and_parts (awaits past t x.0) (is_kept now vs x.0) x.2 in
      let known = open_known (e ∷ past) x.0 here in
      any_in (is_held_up_by next ws u) (still_open (e ∷ past)) x.0 here
      (and_from _ _ (awaits_on past e u x.0 (omega (arith, known)) (awaits_alike t u x.0 number called ∙ by.0))
      (kept_after vs ws same items x.0 by.1))

  -- ---- so a deadlock before the call is one after it

  abbrev looked_at : List RunWait
  looked_at = waits_with past waits w.run e.call

  module _ (p : ℕ → Bool) (dead : IsDeadlock now looked_at p) where
    same_members : HaveSameRuns (members p looked_at) (members p after)
    same_members =
        members_alike p looked_at after
        (last_alike (filter (is_other w.run.number) waits) (next_wait past w.run e.call) w refl)

    other_items : HaveOtherItems (members p after)
    other_items =
        items_differ s (e ∷ past) (members p after) legal
        (AllPairs-filter (λ (u v : RunWait). u.run.number ≡ v.run.number → ⊥) (is_in p) after all_apart)
        (λ v here. seen (e ∷ past) v (all_wait v (in_contained after v (in_filter (is_in p) after v here).0)))

    old_held : (v : RunWait) → In v (filter (is_other w.run.number) waits) → is_in p v ≡ true
        → is_held_up next (members p after) v.ticket ≡ true
    old_held v old has =
        held_after (members p looked_at) (members p after) same_members other_items v.ticket v.ticket refl refl
        (dead v
        (in_contained looked_at v
        (in_left (filter (is_other w.run.number) waits) (next_wait past w.run e.call ∷ []) v old)) has)

    new_held : is_in p w ≡ true → is_held_up next (members p after) w.ticket ≡ true
    new_held has =
        let v = next_wait past w.run e.call in
        held_after (members p looked_at) (members p after) same_members other_items v.ticket w.ticket is.number is.call
        (dead v
        (in_contained looked_at v
        (in_right (filter (is_other w.run.number) waits) (v ∷ []) v (inl refl))) has)

    dead_after : IsDeadlock next after p
    dead_after v here has =
        ⊎_elim (λ (old : In v (filter (is_other w.run.number) waits)). old_held v old has)
        (λ (new : In v (w ∷ [])). ⊎_elim
        (λ (same : w ≡ v). subst (λ (u : RunWait). is_held_up next (members p after) u.ticket ≡ true) same
        (new_held (ap (is_in p) same ∙ has)))
        (λ none. absurd none) new)
        (in_append (filter (is_other w.run.number) waits) (w ∷ []) v (contained_in after v here))

-- ---- the law

fewer_finish : (p : ℕ → Bool) (ws : List RunWait) (later : List Entry) → FinishAfterWaits ws later
    → FinishAfterWaits (members p ws) later
fewer_finish p ws [] finish = tt
fewer_finish p ws (e ∷ later) finish = (
  λ w here. finish.0 w (in_contained ws w (in_filter (is_in p) ws w (contained_in (members p ws) w here)).0),
  fewer_finish p ws later finish.1,
)

-- what lets some of the waits go lets them all go
some_awaited : (p : ℕ → Bool) (past : List Entry) (ws : List RunWait) (x : Queueing)
    → is_awaited past (members p ws) x ≡ true → is_awaited past ws x ≡ true
some_awaited p past ws x up =
    let w = in_any (λ (v : RunWait). awaits past v.ticket x) (members p ws) up in
    any_in (λ (v : RunWait). awaits past v.ticket x) ws w.0 (in_filter (is_in p) ws w.0 w.1).0 w.2

some_run_of : (p : ℕ → Bool) (ws : List RunWait) (i : ℕ) → has_run_of (members p ws) i ≡ true → has_run_of ws i ≡ true
some_run_of p ws i has =
    let w = in_any (is_of_item i) (members p ws) has in
    any_in (is_of_item i) ws w.0 (in_filter (is_in p) ws w.0 w.1).0 w.2

some_let_go : (s : Layout) (past : List Entry) (e : Entry) (p : ℕ → Bool) (ws : List RunWait)
    → LetsGo s past e (members p ws) → LetsGo s past e ws
some_let_go s past e p ws (ends_unstarted x ended unstarted theirs) =
    ends_unstarted x ended unstarted
    (⊎_elim (λ up. or_left (is_awaited past ws x) (has_run_of ws x.item.0) (some_awaited p past ws x up))
    (λ has. or_right (is_awaited past ws x) (has_run_of ws x.item.0) (some_run_of p ws x.item.0 has))
    (or_cases (is_awaited past (members p ws) x) (has_run_of (members p ws) x.item.0) theirs))
some_let_go s past e p ws (widens x here unstarted up more) =
    widens x here unstarted (some_awaited p past ws x up) more

fewer_let_go : (s : Layout) (past : List Entry) (p : ℕ → Bool) (ws : List RunWait) (later : List Entry)
    → NoneLetsGo s past ws later → NoneLetsGo s past (members p ws) later
fewer_let_go s past p ws [] none = tt
fewer_let_go s past p ws (e ∷ later) none =
    (λ lets. none.0 (some_let_go s (later ++ past) e p ws lets), fewer_let_go s past p ws later none.1)

pub refused_waits_never_end : RefusedWaitsNeverEnd
unfolding IsLegal
refused_waits_never_end s past later e waits w stuck legal waiting apart sees refuses given finish none =
    let made : IsLegal s (e ∷ past) = older_are_legal s later (e ∷ past) legal in
    let all = after s past e waits w made made.2 waiting apart sees given in
    let is = given_by past e w.ticket given in
    let begun = begins s past e waits w made made.2 waiting apart sees given in
    let here =
    subst (In w.run) (sym (same_opened s past e made made.2 is.gives))
    (contained_in (still_open (e ∷ past)) w.run begun.is_open) in
    let ends_never = never s past waits w.run e.call stuck here refuses in
    deadlocks_last s (e ∷ past) later all ends_never.set legal
    (all_wait s past e waits w made made.2 waiting apart sees given)
    (all_apart s past e waits w made made.2 waiting apart sees given)
    (dead_after s past e waits w made made.2 waiting apart sees given ends_never.set ends_never.deadlock)
    (fewer_finish ends_never.set all later finish) (fewer_let_go s (e ∷ past) ends_never.set all later none) w
    (in_contained (members ends_never.set all) w
    (filter_in (is_in ends_never.set) all w
    (in_right (filter (is_other w.run.number) waits) (w ∷ []) w (inl refl)) ends_never.has))
