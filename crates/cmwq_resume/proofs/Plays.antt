-- A sound plan is played without a refusal, and leaves what it says.
use Rattle.cmwq_resume.specs.Common.{◌≡◌, ◌<◌, ◌+◌, ◌==◌, ◌||◌, ◌++◌, ℕ, Bool, false, List, []}
use Rattle.cmwq_resume.specs.Common.{◌∷◌, length, map, refl, sym, ap, ap₂, ◌∙◌, arith, subst, AllByRecursion, list_any}
use Rattle.cmwq_resume.specs.Common.{append-nil, map-append, list_any-append, All_map, All_each, or_parts}
use Rattle.cmwq_resume.specs.Common.{nat_tests, Entry, Caller, CallerId, Call, Queueing, Booking, Layout}
use Rattle.cmwq_resume.specs.Common.{first_width, max_active, IsLegal, queueings, bookings, booking, is_frozen, now}
use Rattle.cmwq_resume.specs.Resume.{asked, queue_call, freeze_calls, tick_calls, due_call, later_call}
use Rattle.cmwq_resume.specs.Resume.{plan_calls}
use Rattle.cmwq_resume.specs.Plays.{played, AllSucceed, AreApart, is_number, item_queued, item_booked, IsSound, Leaves}
use Rattle.cmwq_resume.specs.Plays.{PlansPlay, ticks_of, unnumbered}
use Rattle.cmwq_resume.proofs.Safe.{Closed, are_safe}
use Rattle.cmwq_resume.proofs.Steps.{Stands, IsUnused, open_are, standing_are}
use Rattle.cmwq_resume.proofs.Segments.{Went, went_on, any_all, widths_went, freeze_went, queues_went, delays_went}
use Rattle.cmwq_resume.proofs.Segments.{tick_went, gone_went}
use Rattle.cmwq_resume.specs.Resume.{first_calls, gone_calls}
use Rattle.cmwq_resume.specs.Common.{Who, entry_for, is_gone, tickets}

-- ---- items of one list and of the next

abbrev AreOthers : List ℕ → List ℕ → Type 0
AreOthers is js = AllByRecursion (λ j. list_any (is_number j) is ≡ false) js

flip_any : (i j : ℕ) → (i == j) ≡ false → (j == i) ≡ false
flip_any i j h = grind (arith, nat_tests)

all_others : (i : ℕ) (is js : List ℕ) → AllByRecursion (λ j. is_number i j ≡ false) js → AreOthers is js
    → AreOthers (i ∷ is) js
all_others i is [] h k = tt
all_others i is (j ∷ js) h k = (
  ap₂ (λ a b. a || b) (flip_any j i h.0) k.0,
  all_others i is js h.1 k.1,
)

apart_parts : (is js : List ℕ) → AreApart (is ++ js) → AreApart is × AreApart js × AreOthers is js
apart_parts [] js h = (tt, h, All_each _ js (λ j. refl))
apart_parts (i ∷ is) js h =
    let k = apart_parts is js h.1 in
    let both = or_parts (list_any (is_number i) is) (list_any (is_number i) js)
    (sym (list_any-append (is_number i) is js) ∙ h.0) in
    ((both.0, k.0), k.1, all_others i is js (any_all (is_number i) js both.1) k.2)

mapped : {X Y : Type 0} (f : X → Y) (P : Y → Type 0) (xs : List X) → AllByRecursion P (map f xs)
    → AllByRecursion (λ x. P (f x)) xs
mapped f P [] h = tt
mapped f P (x ∷ xs) h = (h.0, mapped f P xs h.1)

pub same_map : {X Y : Type 0} (f g : X → Y) (xs : List X) → ((x : X) → f x ≡ g x) → map f xs ≡ map g xs
same_map f g [] h = refl
same_map f g (x ∷ xs) h = ap₂ (λ y ys. y ∷ ys) (h x) (same_map f g xs h)

pub map_twice : {X Y Z : Type 0} (f : X → Y) (g : Y → Z) (xs : List X) → map g (map f xs) ≡ map (λ x. g (f x)) xs
map_twice f g [] = refl
map_twice f g (x ∷ xs) = ap (λ ys. g (f x) ∷ ys) (map_twice f g xs)

split_others : (P : ℕ → Type 0) (is js : List ℕ) → AllByRecursion P (is ++ js)
    → AllByRecursion P is × AllByRecursion P js
split_others P [] js h = (tt, h)
split_others P (i ∷ is) js h = let k = split_others P is js h.1 in ((h.0, k.0), k.1)

-- ---- from the empty history on

begun : (s : Layout) → Stands s (first_width s) false 0 [] [] []
unfolding IsLegal max_active is_frozen now queueings bookings booking
begun s =
    record {
      legal = tt;
      all = tt;
      widths = λ q. refl;
      frozen = refl;
      time = refl;
      queued = refl;
      items = refl;
      booked = refl;
      booked_items = refl;
      older = tt;
      standing = tt;
      fresh = λ i unused. refl;
    }

closed_at_first : Closed (λ q. false) []
unfolding tickets is_gone
closed_at_first = record { unended = refl; are_gone = λ q. refl }

played_length : (s : Layout) (who : Who) (past : List Entry) (cs : List Call)
    → length (played s who past cs) ≡ length past + length cs
played_length s who past [] = omega arith
played_length s who past (c ∷ cs) =
    let k = played_length s who (entry_for s past who c ∷ past) cs in omega arith

module _ (s : Layout) (c : CallerId) (there : c.0 < s.callers) (w : ℕ → ℕ) (gs : List ℕ) (f : Bool)
    (ks : List Queueing) (os ls : List Booking) (sound : IsSound s w gs ks os ls) where
  abbrev gone : ℕ → Bool
  gone q = list_any (is_number q) gs

  abbrev ones : Booking → ℕ
  ones b = 1

  abbrev dues : Booking → ℕ
  dues b = b.due

  abbrev due_made : List Booking
  due_made = map (λ (b : Booking). record b { due = 0 + 1 }) os

  abbrev later_made : List Booking
  later_made = map (λ (b : Booking). record b { due = ticks_of os + b.due }) ls

  parts : AreApart (map item_queued ks) × AreApart (map item_booked os ++ map item_booked ls)
      × AreOthers (map item_queued ks) (map item_booked os ++ map item_booked ls)
  parts = apart_parts (map item_queued ks) (map item_booked os ++ map item_booked ls) sound.apart

  booked_parts : AreApart (map item_booked os) × AreApart (map item_booked ls)
      × AreOthers (map item_booked os) (map item_booked ls)
  booked_parts = apart_parts (map item_booked os) (map item_booked ls) parts.1

  others : AreOthers (map item_queued ks) (map item_booked os) × AreOthers (map item_queued ks) (map item_booked ls)
  others = split_others (λ j. list_any (is_number j) (map item_queued ks) ≡ false) (map item_booked os)
      (map item_booked ls) parts.2

  due_unused : AllByRecursion (λ (b : Booking). IsUnused ks [] b.item.0) os
  due_unused =
      All_map (λ (b : Booking). list_any (is_number b.item.0) (map item_queued ks) ≡ false) _ os
      (λ b h. ap (list_any (is_number b.item.0)) (append-nil (map item_queued ks)) ∙ h)
      (mapped item_booked (λ j. list_any (is_number j) (map item_queued ks) ≡ false) os others.0)

  made_items : map item_booked due_made ≡ map item_booked os
  made_items = map_twice (λ (b : Booking). record b { due = 0 + 1 }) item_booked os

  join : (b : Booking) → list_any (is_number b.item.0) (map item_queued ks) ≡ false
      → list_any (is_number b.item.0) (map item_booked os) ≡ false → IsUnused ks due_made b.item.0
  join b h k =
      list_any-append (is_number b.item.0) (map item_queued ks) (map item_booked due_made)
      ∙ ap₂ (λ x y. x || y) h (ap (list_any (is_number b.item.0)) made_items ∙ k)

  later_unused : AllByRecursion (λ (b : Booking). IsUnused ks due_made b.item.0) ls
  later_unused =
      both ls (mapped item_booked (λ j. list_any (is_number j) (map item_queued ks) ≡ false) ls others.1)
      (mapped item_booked (λ j. list_any (is_number j) (map item_booked os) ≡ false) ls booked_parts.2)
    where
      both : (xs : List Booking)
          → AllByRecursion (λ (b : Booking). list_any (is_number b.item.0) (map item_queued ks) ≡ false) xs
          → AllByRecursion (λ (b : Booking). list_any (is_number b.item.0) (map item_booked os) ≡ false) xs
          → AllByRecursion (λ (b : Booking). IsUnused ks due_made b.item.0) xs
      both [] h k = tt
      both (x ∷ xs) h k = (join x h.0 k.0, both xs h.1 k.1)

  went : Went s c gone w f (ticks_of os) ks (due_made ++ later_made) [] (plan_calls s w gs f ks os ls)
  went =
      let who = Caller c in
      let widths = first_calls s w in
      let a = widths_went s c there (λ q. false) w sound.narrow sound.beyond (λ q. refl) (length s.queues) 0
      (first_width s) [] (omega arith) (begun s) closed_at_first (λ q less. absurd (omega arith)) (λ q more. refl) in
      let past1 = played s who [] widths in
      let many : length past1 ≡ length widths = omega (arith, played_length s who [] widths) in
      let g = subst (λ n. Went s c gone w false 0 [] [] past1 (gone_calls n gs)) many
      (gone_went s c there w gs (λ q. false) past1 a.stands a.closed sound.gone_there (All_each _ gs (λ q. refl))
      sound.gone_apart) in
      let past2 = played s who past1 (gone_calls (length widths) gs) in
      let b = freeze_went s c there gone w f past2 g.stands g.closed in
      let past3 = played s who past2 (freeze_calls f) in
      let d = queues_went s c there gone w f 0 ks [] [] past3 b.stands b.closed sound.places sound.alive
      (All_each _ ks (λ x. refl)) parts.0 in
      let past4 = played s who past3 (map queue_call ks) in
      let e = delays_went s c there gone ones w f 0 os ks [] past4 d.stands d.closed sound.due_places sound.due_alive
      (All_each _ os (λ x. omega arith)) due_unused booked_parts.0 in
      let past5 = played s who past4 (map due_call os) in
      let t = tick_went s c there gone w f os ks due_made past5 e.stands e.closed in
      let past6 = played s who past5 (tick_calls os) in
      let h = delays_went s c there gone dues w f (ticks_of os) ls ks due_made past6 t.stands t.closed
      sound.later_places sound.later_alive sound.later later_unused booked_parts.1 in
      went_on s c gone w f (ticks_of os) ks (due_made ++ later_made) [] widths _ a.success
      (went_on s c gone w f (ticks_of os) ks (due_made ++ later_made) past1 (gone_calls (length widths) gs) _ g.success
      (went_on s c gone w f (ticks_of os) ks (due_made ++ later_made) past2 (freeze_calls f) _ b.success
      (went_on s c gone w f (ticks_of os) ks (due_made ++ later_made) past3 (map queue_call ks) _ d.success
      (went_on s c gone w f (ticks_of os) ks (due_made ++ later_made) past4 (map due_call os) _ e.success
      (went_on s c gone w f (ticks_of os) ks (due_made ++ later_made) past5 (tick_calls os) (map later_call ls)
      t.success h)))))

  abbrev last : List Entry
  last = played s (Caller c) [] (plan_calls s w gs f ks os ls)

  leaves : Leaves s w gs f ks os ls last
  leaves =
      let h = went.stands in
      let bs = due_made ++ later_made in
      record {
        legal = h.legal;
        widths = h.widths;
        frozen = h.frozen;
        queued = ap (map asked) (open_are s c w f (ticks_of os) ks bs last there h) ∙ h.queued;
        booked =
            ap (map unnumbered) (standing_are s c w f (ticks_of os) ks bs last there h) ∙ h.booked
            ∙ map-append unnumbered due_made later_made
            ∙ ap₂ (λ xs ys. xs ++ ys) (map_twice (λ (b : Booking). record b { due = 0 + 1 }) unnumbered os)
            (map_twice (λ (b : Booking). record b { due = ticks_of os + b.due }) unnumbered ls);
        time = h.time;
        none_started = (are_safe last h.all).never_started;
        no_tickets = went.closed.unended;
        gone = went.closed.are_gone;
      }

  pub both : AllSucceed s (Caller c) [] (plan_calls s w gs f ks os ls) × Leaves s w gs f ks os ls last
  both = (went.success, leaves)

pub plans_play : PlansPlay
plans_play s c w gs f ks os ls there sound = both s c there w gs f ks os ls sound
