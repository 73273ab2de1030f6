-- The calls of a plan, one kind after the other.
use Rattle.cmwq_resume.specs.Common.{◌≡◌, ◌<◌, ◌≤◌, ◌+◌, ◌==◌, ◌||◌, ◌++◌, ℕ, suc, zero, Bool, true, false, List, []}
use Rattle.cmwq_resume.specs.Common.{inl, inr}
use Rattle.cmwq_resume.specs.Common.{◌∷◌, length, map, refl, sym, ap, ap₂, ◌∙◌, arith, subst, AllByRecursion, list_any}
use Rattle.cmwq_resume.specs.Common.{if◌then◌else◌, append-nil, append_assoc, map-append, list_any-append}
use Rattle.cmwq_resume.specs.Common.{All_both, or_parts, eqb-true, ne_eqb, range_with_len, Entry, Who}
use Rattle.cmwq_resume.specs.Common.{cases_lt, nat_tests}
use Rattle.cmwq_resume.specs.Common.{Caller, CallerId, Call, Queueing, Booking, Layout, entry_for, first_width}
use Rattle.cmwq_resume.specs.Common.{most_active}
use Rattle.cmwq_model.specs.declared.call.Call.TheVariants as call
use Rattle.std.proofs.lemmas.List.Concat.{flat_map-cons}
use Rattle.std.proofs.Math.Bool.{or-false}
use Rattle.cmwq_resume.specs.Resume.{queue_call, widths_calls, widen, freeze_calls, tick_calls}
use Rattle.cmwq_resume.specs.Plays.{played, is_success, AllSucceed, AreApart, is_number, item_queued, item_booked}
use Rattle.cmwq_resume.specs.Plays.{HasPlace, IsBookable, ticks_of}
use Rattle.cmwq_resume.proofs.Safe.{Closed}
use Rattle.cmwq_resume.proofs.Steps.{Stands, IsUnused, any_none, eq_flip, queue_entry, queue_entry_is}
use Rattle.cmwq_resume.proofs.Steps.{queue_stands, delay_entry, delay_entry_is, delay_stands, width_entry}
use Rattle.cmwq_resume.proofs.Steps.{width_entry_is}
use Rattle.cmwq_resume.proofs.Steps.{width_stands, freeze_entry, freeze_entry_is, freeze_stands, tick_entry}
use Rattle.cmwq_resume.proofs.Steps.{tick_entry_is, tick_stands, queue_closed, delay_closed, width_closed}
use Rattle.cmwq_resume.proofs.Steps.{freeze_closed, tick_closed, destroy_entry, destroy_entry_is, end_entry}
use Rattle.cmwq_resume.proofs.Steps.{end_entry_is, destroyed_stands, destroyed_closed}
use Rattle.cmwq_resume.specs.Resume.{gone_calls}

-- ---- calls after calls

pub record Went (s : Layout) (c : CallerId) (gone : ℕ → Bool) (w : ℕ → ℕ) (f : Bool) (t : ℕ) (ks : List Queueing)
    (bs : List Booking) (past : List Entry) (cs : List Call) : Type 0 where
  pub success : AllSucceed s (Caller c) past cs
  pub stands : Stands s w f t ks bs (played s (Caller c) past cs)
  pub closed : Closed gone (played s (Caller c) past cs)

succeed_append : (s : Layout) (who : Who) (past : List Entry) (cs ds : List Call) → AllSucceed s who past cs
    → AllSucceed s who (played s who past cs) ds → AllSucceed s who past (cs ++ ds)
succeed_append s who past [] ds h k = k
succeed_append s who past (c ∷ cs) ds h k =
    (h.0, succeed_append s who (entry_for s past who c ∷ past) cs ds h.1 k)

played_append : (s : Layout) (who : Who) (past : List Entry) (cs ds : List Call)
    → played s who past (cs ++ ds) ≡ played s who (played s who past cs) ds
played_append s who past [] ds = refl
played_append s who past (c ∷ cs) ds = played_append s who (entry_for s past who c ∷ past) cs ds

pub went_on : (s : Layout) (c : CallerId) (gone : ℕ → Bool) (w : ℕ → ℕ) (f : Bool) (t : ℕ) (ks : List Queueing)
    (bs : List Booking) (past : List Entry) (cs ds : List Call) → AllSucceed s (Caller c) past cs
    → Went s c gone w f t ks bs (played s (Caller c) past cs) ds → Went s c gone w f t ks bs past (cs ++ ds)
went_on s c gone w f t ks bs past cs ds h k =
    record {
      success = succeed_append s (Caller c) past cs ds h k.success;
      stands =
          subst (Stands s w f t ks bs) (sym (played_append s (Caller c) past cs ds)) k.stands;
      closed = subst (Closed gone) (sym (played_append s (Caller c) past cs ds)) k.closed;
    }

next : (s : Layout) (c : CallerId) (gone : ℕ → Bool) (w : ℕ → ℕ) (f : Bool) (t : ℕ) (ks : List Queueing)
    (bs : List Booking) (past : List Entry) (call : Call) (cs : List Call) (e : Entry)
    → entry_for s past (Caller c) call ≡ e
    → is_success e.reply ≡ true → Went s c gone w f t ks bs (e ∷ past) cs → Went s c gone w f t ks bs past (call ∷ cs)
next s c gone w f t ks bs past call cs e is ok k =
    record {
      success = (
        ap (λ (d : Entry). is_success d.reply) is ∙ ok,
        subst (λ d. AllSucceed s (Caller c) (d ∷ past) cs) (sym is) k.success,
      );
      stands =
          subst (λ d. Stands s w f t ks bs (played s (Caller c) (d ∷ past) cs)) (sym is) k.stands;
      closed = subst (λ d. Closed gone (played s (Caller c) (d ∷ past) cs)) (sym is) k.closed;
    }

done : (s : Layout) (c : CallerId) (gone : ℕ → Bool) (w : ℕ → ℕ) (f : Bool) (t : ℕ) (ks : List Queueing)
    (bs : List Booking) (past : List Entry) → Stands s w f t ks bs past → Closed gone past
    → Went s c gone w f t ks bs past []
done s c gone w f t ks bs past h k = record { success = tt; stands = h; closed = k }

-- ---- items that are apart

still_unused : (ks : List Queueing) (x : Queueing) (bs : List Booking) (i : ℕ) → (i == x.item.0) ≡ false
    → IsUnused ks bs i → IsUnused (ks ++ x ∷ []) bs i
still_unused ks x bs i other h =
    let k = or_parts (list_any (is_number i) (map item_queued ks)) (list_any (is_number i) (map item_booked bs))
    (sym (list_any-append (is_number i) (map item_queued ks) (map item_booked bs)) ∙ h) in
    list_any-append (is_number i) (map item_queued (ks ++ x ∷ [])) (map item_booked bs)
    ∙ ap₂ (λ a b. a || b)
    (ap (list_any (is_number i)) (map-append item_queued ks (x ∷ []))
    ∙ list_any-append (is_number i) (map item_queued ks) (x.item.0 ∷ [])
    ∙ ap₂ (λ a b. a || (b || false)) k.0 (eq_flip i x.item.0 other)) k.1

still_unused_booked : (ks : List Queueing) (bs : List Booking) (b : Booking) (i : ℕ) → (i == b.item.0) ≡ false
    → IsUnused ks bs i → IsUnused ks (bs ++ b ∷ []) i
still_unused_booked ks bs b i other h =
    let k = or_parts (list_any (is_number i) (map item_queued ks)) (list_any (is_number i) (map item_booked bs))
    (sym (list_any-append (is_number i) (map item_queued ks) (map item_booked bs)) ∙ h) in
    list_any-append (is_number i) (map item_queued ks) (map item_booked (bs ++ b ∷ []))
    ∙ ap₂ (λ a b. a || b) k.0
    (ap (list_any (is_number i)) (map-append item_booked bs (b ∷ []))
    ∙ list_any-append (is_number i) (map item_booked bs) (b.item.0 ∷ [])
    ∙ ap₂ (λ a b. a || (b || false)) k.1 (eq_flip i b.item.0 other))

pub any_all : (p : ℕ → Bool) (is : List ℕ) → list_any p is ≡ false → AllByRecursion (λ i. p i ≡ false) is
any_all p [] h = tt
any_all p (i ∷ is) h = let k = or_parts (p i) (list_any p is) h in (k.0, any_all p is k.1)

-- ---- widths

with_widths : (s : Layout) (v w : ℕ → ℕ) (f : Bool) (t : ℕ) (ks : List Queueing) (bs : List Booking)
    (past : List Entry) → ((q : ℕ) → v q ≡ w q) → Stands s v f t ks bs past → Stands s w f t ks bs past
with_widths s v w f t ks bs past same h =
    record {
      legal = h.legal;
      all = h.all;
      widths = λ q. h.widths q ∙ same q;
      frozen = h.frozen;
      time = h.time;
      queued = h.queued;
      items = h.items;
      booked = h.booked;
      booked_items = h.booked_items;
      older = h.older;
      standing = h.standing;
      fresh = h.fresh;
    }

module _ (s : Layout) (c : CallerId) (there : c.0 < s.callers) (gone : ℕ → Bool) where
  module _ (w : ℕ → ℕ) (bounds : (q : ℕ) → q < length s.queues → (1 ≤ w q) × (w q ≤ most_active))
      (beyond : (q : ℕ) → length s.queues ≤ q → w q ≡ first_width s q)
      (none_gone : (q : ℕ) → gone q ≡ false) where
    all_set : (a : ℕ) (v : ℕ → ℕ) → a ≡ length s.queues → ((q : ℕ) → q < a → v q ≡ w q)
        → ((q : ℕ) → a ≤ q → v q ≡ first_width s q) → (q : ℕ) → v q ≡ w q
    all_set a v all set unset q = elim (cases_lt q a) [
      | inl less ↦ set q less
      | inr more ↦ unset q more ∙ sym (beyond q (omega (arith, all)))
    ]

    one_set : (a : ℕ) (v : ℕ → ℕ) (q : ℕ) → ((q : ℕ) → q < a → v q ≡ w q) → q < a + 1
        → (if a == q then w a else v q) ≡ w q
    one_set a v q set less = at (a == q) refl
      where
        at : (b : Bool) → (a == q) ≡ b → (if b then w a else v q) ≡ w q
        at true same = ap w (eqb-true a q same)
        at false other = set q (grind (arith, nat_tests))

    one_unset : (a : ℕ) (v : ℕ → ℕ) (q : ℕ) → ((q : ℕ) → a ≤ q → v q ≡ first_width s q) → a + 1 ≤ q
        → (if a == q then w a else v q) ≡ first_width s q
    one_unset a v q unset more =
        ap (λ b. if b then w a else v q) (ne_eqb a q (λ same. absurd (omega arith))) ∙ unset q (omega arith)

    kept_set : (a : ℕ) (v : ℕ → ℕ) (q : ℕ) → w a ≡ first_width s a → ((q : ℕ) → q < a → v q ≡ w q)
        → ((q : ℕ) → a ≤ q → v q ≡ first_width s q) → q < a + 1 → v q ≡ w q
    kept_set a v q same set unset less = elim (cases_lt q a) [
      | inl less ↦ set q less
      | inr more ↦ let is : q ≡ a = omega arith in
          unset q more ∙ ap (first_width s) is ∙ sym same ∙ ap w (sym is)
    ]

    pub widths_went : (n a : ℕ) (v : ℕ → ℕ) (past : List Entry) → a + n ≡ length s.queues
        → Stands s v false 0 [] [] past → Closed gone past → ((q : ℕ) → q < a → v q ≡ w q)
        → ((q : ℕ) → a ≤ q → v q ≡ first_width s q)
        → Went s c gone w false 0 [] [] past (widths_calls s w (range_with_len a n))
    widths_went zero a v past all h k set unset =
        done s c gone w false 0 [] [] past
        (with_widths s v w false 0 [] [] past (all_set a v (omega (arith, all)) set unset) h) k
    widths_went (suc n) a v past all h k set unset =
        subst (Went s c gone w false 0 [] [] past) (sym (flat_map-cons (widen s w) a (range_with_len (a + 1) n)))
        (at (λ u front stands closed set unset.
        widths_went n (a + 1) u front (omega (arith, all)) stands closed set unset)
        (w a == first_width s a) refl)
      where
        at : ((u : ℕ → ℕ) (front : List Entry) → Stands s u false 0 [] [] front → Closed gone front
            → ((q : ℕ) → q < a + 1 → u q ≡ w q) → ((q : ℕ) → a + 1 ≤ q → u q ≡ first_width s q)
            → Went s c gone w false 0 [] [] front (widths_calls s w (range_with_len (a + 1) n)))
            → (b : Bool) → (w a == first_width s a) ≡ b
            → Went s c gone w false 0 [] [] past
            ((if b then [] else call.SetMax (record { 0 = a }) (w a) ∷ [])
            ++ widths_calls s w (range_with_len (a + 1) n))
        at on true same =
            on v past h k (λ q less. kept_set a v q (eqb-true (w a) (first_width s a) same) set unset less)
            (λ q more. unset q (omega arith))
        at on false other =
            let less : a < length s.queues = omega (arith, all) in
            let b = bounds a less in
            next s c gone w false 0 [] [] past (call.SetMax (record { 0 = a }) (w a))
            (widths_calls s w (range_with_len (a + 1) n))
            (width_entry s c v false 0 [] [] past there h gone k a (w a) less b.0 b.1 (none_gone a))
            (width_entry_is s c v false 0 [] [] past there h gone k a (w a) less b.0 b.1 (none_gone a)) refl
            (on (λ p. if a == p then w a else v p)
            (width_entry s c v false 0 [] [] past there h gone k a (w a) less b.0 b.1 (none_gone a) ∷ past)
            (width_stands s c v false 0 [] [] past there h gone k a (w a) less b.0 b.1 (none_gone a))
            (width_closed s c v false 0 [] [] past there h gone k a (w a) less b.0 b.1 (none_gone a))
            (λ q below. one_set a v q set below) (λ q more. one_unset a v q unset more))

  -- ---- queueings

  pub queues_went : (w : ℕ → ℕ) (f : Bool) (t : ℕ) (xs ks : List Queueing) (bs : List Booking) (past : List Entry)
      → Stands s w f t ks bs past → Closed gone past → AllByRecursion (HasPlace s) xs
      → AllByRecursion (λ (x : Queueing). gone x.place.queue.0 ≡ false) xs
      → AllByRecursion (λ (x : Queueing). IsUnused ks bs x.item.0) xs → AreApart (map item_queued xs)
      → Went s c gone w f t (ks ++ xs) bs past (map queue_call xs)
  queues_went w f t [] ks bs past h k places alive unused apart =
      done s c gone w f t (ks ++ []) bs past (subst (λ l. Stands s w f t l bs past) (sym (append-nil ks)) h) k
  queues_went w f t (x ∷ xs) ks bs past h k places alive unused apart =
      next s c gone w f t (ks ++ x ∷ xs) bs past (queue_call x) (map queue_call xs)
      (queue_entry s c w f t ks bs past there h gone k x places.0 unused.0 alive.0)
      (queue_entry_is s c w f t ks bs past there h gone k x places.0 unused.0 alive.0) refl
      (subst (λ l. Went s c gone w f t l bs
      (queue_entry s c w f t ks bs past there h gone k x places.0 unused.0 alive.0 ∷ past) (map queue_call xs))
      (append_assoc ks (x ∷ []) xs)
      (queues_went w f t xs (ks ++ x ∷ []) bs
      (queue_entry s c w f t ks bs past there h gone k x places.0 unused.0 alive.0 ∷ past)
      (queue_stands s c w f t ks bs past there h gone k x places.0 unused.0 alive.0)
      (queue_closed s c w f t ks bs past there h gone k x places.0 unused.0 alive.0) places.1 alive.1
      (All_both (λ (y : Queueing). IsUnused ks bs y.item.0) (λ (y : Queueing). is_number x.item.0 y.item.0 ≡ false) _ xs
      (λ y free other. still_unused ks x bs y.item.0 other free) unused.1
      (any_none (is_number x.item.0) item_queued xs apart.0)) apart.1))

  -- ---- bookings

  module _ (g : Booking → ℕ) where
    abbrev delayed : Booking → Call
    delayed b = call.Delay b.item b.place.queue b.place.cpu (g b)

    abbrev dated : ℕ → Booking → Booking
    dated t b = record b { due = t + g b }

    pub delays_went : (w : ℕ → ℕ) (f : Bool) (t : ℕ) (xs : List Booking) (ks : List Queueing) (bs : List Booking)
        (past : List Entry) → Stands s w f t ks bs past → Closed gone past → AllByRecursion (IsBookable s) xs
        → AllByRecursion (λ (b : Booking). gone b.place.queue.0 ≡ false) xs
        → AllByRecursion (λ b. 0 < g b) xs
        → AllByRecursion (λ (x : Booking). IsUnused ks bs x.item.0) xs → AreApart (map item_booked xs)
        → Went s c gone w f t ks (bs ++ map (dated t) xs) past (map delayed xs)
    delays_went w f t [] ks bs past h k places alive some unused apart =
        done s c gone w f t ks (bs ++ []) past (subst (λ l. Stands s w f t ks l past) (sym (append-nil bs)) h) k
    delays_went w f t (x ∷ xs) ks bs past h k places alive some unused apart =
        next s c gone w f t ks (bs ++ dated t x ∷ map (dated t) xs) past (delayed x) (map delayed xs)
        (delay_entry s c w f t ks bs past there h gone k x (g x) some.0 places.0 unused.0 alive.0)
        (delay_entry_is s c w f t ks bs past there h gone k x (g x) some.0 places.0 unused.0 alive.0) refl
        (subst (λ l. Went s c gone w f t ks l
        (delay_entry s c w f t ks bs past there h gone k x (g x) some.0 places.0 unused.0 alive.0 ∷ past)
        (map delayed xs))
        (append_assoc bs (dated t x ∷ []) (map (dated t) xs))
        (delays_went w f t xs ks (bs ++ dated t x ∷ [])
        (delay_entry s c w f t ks bs past there h gone k x (g x) some.0 places.0 unused.0 alive.0 ∷ past)
        (delay_stands s c w f t ks bs past there h gone k x (g x) some.0 places.0 unused.0 alive.0)
        (delay_closed s c w f t ks bs past there h gone k x (g x) some.0 places.0 unused.0 alive.0) places.1 alive.1
        some.1
        (All_both (λ (y : Booking). IsUnused ks bs y.item.0) (λ (y : Booking). is_number x.item.0 y.item.0 ≡ false) _ xs
        (λ y free other. still_unused_booked ks bs (dated t x) y.item.0 other free) unused.1
        (any_none (is_number x.item.0) item_booked xs apart.0)) apart.1))

  -- ---- a freeze, and a tick

  pub freeze_went : (w : ℕ → ℕ) (f : Bool) (past : List Entry) → Stands s w false 0 [] [] past → Closed gone past
      → Went s c gone w f 0 [] [] past (freeze_calls f)
  freeze_went w true past h k =
      next s c gone w true 0 [] [] past call.Freeze [] (freeze_entry s c w false 0 [] [] past there h gone k)
      (freeze_entry_is s c w false 0 [] [] past there h gone k refl) refl
      (done s c gone w true 0 [] [] (freeze_entry s c w false 0 [] [] past there h gone k ∷ past)
      (freeze_stands s c w false 0 [] [] past there h gone k refl)
      (freeze_closed s c w false 0 [] [] past there h gone k refl))
  freeze_went w false past h k = done s c gone w false 0 [] [] past h k

  pub tick_went : (w : ℕ → ℕ) (f : Bool) (os : List Booking) (ks : List Queueing) (bs : List Booking)
      (past : List Entry) → Stands s w f 0 ks bs past → Closed gone past
      → Went s c gone w f (ticks_of os) ks bs past (tick_calls os)
  tick_went w f [] ks bs past h k = done s c gone w f 0 ks bs past h k
  tick_went w f (o ∷ os) ks bs past h k =
      next s c gone w f 1 ks bs past (call.Tick 1) [] (tick_entry s c w f 0 ks bs past there h gone k)
      (tick_entry_is s c w f 0 ks bs past there h gone k) refl
      (done s c gone w f 1 ks bs (tick_entry s c w f 0 ks bs past there h gone k ∷ past)
      (tick_stands s c w f 0 ks bs past there h gone k) (tick_closed s c w f 0 ks bs past there h gone k))

-- ---- queues that are gone

with_gone : (s : Layout) (c : CallerId) (g gone : ℕ → Bool) (w : ℕ → ℕ) (f : Bool) (t : ℕ) (ks : List Queueing)
    (bs : List Booking) (past : List Entry) (cs : List Call) → ((q : ℕ) → g q ≡ gone q)
    → Went s c g w f t ks bs past cs → Went s c gone w f t ks bs past cs
with_gone s c g gone w f t ks bs past cs same h =
    record {
      success = h.success;
      stands = h.stands;
      closed = record { unended = h.closed.unended; are_gone = λ q. h.closed.are_gone q ∙ same q };
    }

or_assoc : (a b d : Bool) → ((a || b) || d) ≡ (a || (b || d))
or_assoc true b d = refl
or_assoc false b d = refl

pub gone_went : (s : Layout) (c : CallerId) (there : c.0 < s.callers) (w : ℕ → ℕ) (qs : List ℕ) (gone : ℕ → Bool)
    (past : List Entry) → Stands s w false 0 [] [] past → Closed gone past
    → AllByRecursion (λ q. q < length s.queues) qs → AllByRecursion (λ q. gone q ≡ false) qs → AreApart qs
    → Went s c (λ p. gone p || list_any (is_number p) qs) w false 0 [] [] past (gone_calls (length past) qs)
gone_went s c there w [] gone past h k less alive apart =
    with_gone s c gone (λ p. gone p || false) w false 0 [] [] past [] (λ q. sym (or-false (gone q)))
    (done s c gone w false 0 [] [] past h k)
gone_went s c there w (q ∷ qs) gone past h k less alive apart =
    let e = destroy_entry s c w past there h gone k q less.0 alive.0 in
    let d = end_entry s c w past there h gone k q less.0 alive.0 in
    let rest = gone_calls (length past + 2) qs in
    let goal : ℕ → Bool = λ p. gone p || ((q == p) || list_any (is_number p) qs) in
    next s c goal w false 0 [] [] past (call.Destroy (record { 0 = q })) (call.End (length past) ∷ rest) e
    (destroy_entry_is s c w past there h gone k q less.0 alive.0) refl
    (next s c goal w false 0 [] [] (e ∷ past) (call.End (length past)) rest d
    (end_entry_is s c w past there h gone k q less.0 alive.0) refl
    (with_gone s c (λ p. (gone p || (q == p)) || list_any (is_number p) qs) goal w false 0 [] [] (d ∷ e ∷ past) rest
    (λ p. or_assoc (gone p) (q == p) (list_any (is_number p) qs))
    (subst (λ n. Went s c (λ p. (gone p || (q == p)) || list_any (is_number p) qs) w false 0 [] [] (d ∷ e ∷ past)
    (gone_calls n qs)) (omega arith)
    (gone_went s c there w qs (λ p. gone p || (q == p)) (d ∷ e ∷ past)
    (destroyed_stands s c w past there h gone k q less.0 alive.0)
    (destroyed_closed s c w past there h gone k q less.0 alive.0) less.1
    (All_both (λ r. gone r ≡ false) (λ r. is_number q r ≡ false) (λ r. (gone r || (q == r)) ≡ false) qs
    (λ r free other. ap₂ (λ a b. a || b) free (eq_flip r q other)) alive.1 (any_all (is_number q) qs apart.0))
    apart.1))))
