-- Fires, one after another.
use Rattle.cmwq_model.specs.Prelude.{is_nothing}
use Rattle.cmwq_monitor.specs.Common.{◌≡◌, ◌≢◌, ℕ, zero, suc, ◌+◌, ◌<◌, ◌≤◌, [], ◌∷◌, ◌++◌, false, true, true≢false}
use Rattle.cmwq_monitor.specs.Common.{refl, ap, sym, ◌∙◌, subst, arith, inl, inr, append-nil, append_assoc, All-nil}
use Rattle.cmwq_monitor.specs.Common.{All-cons, All-append, Reply, Layout, serial_of, IsLegal, past_of, has_room}
use Rattle.cmwq_model.specs.declared.call.Call.TheVariants as call
use Rattle.cmwq_model.specs.declared.reply.Reply.TheVariants as reply
use Rattle.cmwq_monitor.specs.Participants.{View, Gains, made_by}
use Rattle.cmwq_monitor.specs.Calls.{Extends, own_entry}
use Rattle.cmwq_monitor.specs.Whole.{Fires, HadNoRoom, EndsOwn, IsFire}
use Rattle.cmwq_monitor.specs.Steps.{HasFired, HasFiredSome, IsFiring}
use Rattle.cmwq_monitor.proofs.Beginnings.{prefix_self}
use Rattle.cmwq_monitor.proofs.Entries.{gains_none, gains_more, counts_kept, is_by_own}

pub ends_extended : (s : Layout) (v w : View) (c : _) (r : Reply) → Extends s v c r w → EndsOwn v.who w.seen
ends_extended s v w c r x = (x.before, own_entry s x.before v c, x.ends, is_by_own (own_entry s x.before v c))

pub fired_none : (s : Layout) (v : View) → serial_of (past_of v.seen) v.who ≡ v.serial → EndsOwn v.who v.seen
    → IsLegal s (past_of v.seen) → IsFiring s s.items v v
fired_none s v counts ends legal = record {
  entries = [];
  gains = gains_none v;
  fires = All-nil IsFire;
  goes_on =
      (λ history more f. subst (λ made. Fires s v.who history s.items made more) (append-nil (made_by v.who v.seen)) f);
  counts = counts;
  ends = inl ends;
  legal = legal;
}

-- one more fire, which wasn't the last
pub fired_more : (s : Layout) (n : ℕ) (v m w : View) (r : Reply) → r ≢ reply.Nothing → IsFiring s (suc n) v m
    → Extends s m call.Fire r w → IsFiring s n v w
fired_more s n v m w r other so x =
    let e = own_entry s x.before m call.Fire in
    let same : m.who ≡ v.who = so.gains.same in
    record {
      entries = so.entries ++ e ∷ [];
      gains = gains_more v m w so.entries (e ∷ []) so.gains x.gains;
      fires = All-append IsFire so.entries (e ∷ []) so.fires (All-cons IsFire e [] refl (All-nil IsFire));
      goes_on = (λ history more f.
          subst (λ es. Fires s v.who history s.items (made_by v.who v.seen) es)
          (sym (append_assoc so.entries (e ∷ []) more))
          (so.goes_on history (e ∷ more)
          (inr (inr (
            e,
            more,
            refl,
            refl,
            (λ nothing. other (x.reply ∙ nothing)),
            subst (λ made. Fires s v.who history n made more)
                (sym (append_assoc (made_by v.who v.seen) so.entries (e ∷ []))) f,
          )))));
      counts = x.counts;
      ends = inl (subst (λ who. EndsOwn who w.seen) same (ends_extended s m w call.Fire r x));
      legal = x.legal;
    }

-- the fires ended: as many were made as there are items, or the last found nothing, or there was no room for one more
pub fired_all : (s : Layout) (v m : View) → IsFiring s 0 v m → HasFired s v m
fired_all s v m so = record {
  entries = so.entries;
  gains = so.gains;
  fires = subst (λ es. Fires s v.who m.seen s.items (made_by v.who v.seen) es) (append-nil so.entries)
      (so.goes_on m.seen [] refl);
  counts = so.counts;
  ends = so.ends;
  legal = so.legal;
}

pub fired_last : (s : Layout) (n : ℕ) (v m w : View) (r : Reply) → r ≡ reply.Nothing → IsFiring s (suc n) v m
    → Extends s m call.Fire r w → HasFired s v w
fired_last s n v m w r none so x =
    let e = own_entry s x.before m call.Fire in record {
      entries = so.entries ++ e ∷ [];
      gains = gains_more v m w so.entries (e ∷ []) so.gains x.gains;
      fires = so.goes_on w.seen (e ∷ []) (inr (inl (e, refl, (refl, sym x.reply ∙ none))));
      counts = x.counts;
      ends = inl (subst (λ who. EndsOwn who w.seen) so.gains.same (ends_extended s m w call.Fire r x));
      legal = x.legal;
    }

pub fired_full : (s : Layout) (n : ℕ) (v m w : View) → IsFiring s (suc n) v m → Gains m [] w
    → has_room s s.room (past_of w.seen) w.who call.Fire ≡ false → IsLegal s (past_of w.seen) → HasFired s v w
fired_full s n v m w so gains full legal =
    let all : Gains v so.entries w =
    subst (λ es. Gains v es w) (append-nil so.entries) (gains_more v m w so.entries [] so.gains gains) in
    let none : has_room s s.room (past_of w.seen) v.who call.Fire ≡ false =
    subst (λ who. has_room s s.room (past_of w.seen) who call.Fire ≡ false) all.same full in
    let at : HadNoRoom s v.who w.seen (made_by v.who v.seen ++ so.entries) call.Fire =
    (w.seen, prefix_self w.seen, all.made, none) in record {
      entries = so.entries;
      gains = all;
      fires = subst (λ es. Fires s v.who w.seen s.items (made_by v.who v.seen) es) (append-nil so.entries)
          (so.goes_on w.seen [] (inl (refl, at)));
      counts = counts_kept m w so.counts gains;
      ends = inr (w.seen, prefix_self w.seen, refl, none);
      legal = legal;
    }

pub fired_some : (s : Layout) (n : ℕ) (v m w : View) → IsFiring s n v m → Gains m [] w → HasFiredSome v w
fired_some s n v m w so gains = (
  so.entries,
  subst (λ es. Gains v es w) (append-nil so.entries) (gains_more v m w so.entries [] so.gains gains),
  so.fires,
)

nothing_is : (r : Reply) → is_nothing r ≡ true → r ≡ reply.Nothing
nothing_is reply.Nothing e = refl
nothing_is r e = absurd (true≢false (sym e))

nothing_isnt : (r : Reply) → is_nothing r ≡ false → r ≢ reply.Nothing
nothing_isnt r e same = true≢false (sym (ap is_nothing same) ∙ e)

-- a call that was answered is after all that is due then
pub firing_begins : (s : Layout) (v m : View) (c : _) (r : Reply) → Extends s v c r m → IsFiring s s.items m m
firing_begins s v m c r x =
    fired_none s m x.counts (subst (λ who. EndsOwn who m.seen) (sym x.gains.same) (ends_extended s v m c r x)) x.legal

-- of these fires so many were made
abbrev pub FiredUpTo : Layout → ℕ → ℕ → View → View → Type 0
FiredUpTo s left k v m = (n : ℕ) × (n + k ≡ left) × IsFiring s n v m

pub up_to_none : (s : Layout) (left : ℕ) (v m : View) → IsFiring s left v m → FiredUpTo s left 0 v m
up_to_none s left v m so = (left, omega arith, so)

pub up_to_more : (s : Layout) (left k : ℕ) (v m w : View) (r : Reply) → k < left → is_nothing r ≡ false
    → FiredUpTo s left k v m → Extends s m call.Fire r w → FiredUpTo s left (k + 1) v w
up_to_more s left k v m w r less other (zero, sum, so) x = absurd (omega arith)
up_to_more s left k v m w r less other (suc n, sum, so) x =
    (n, omega arith, fired_more s n v m w r (nothing_isnt r other) so x)

pub up_to_last : (s : Layout) (left k : ℕ) (v m w : View) (r : Reply) → k < left → is_nothing r ≡ true
    → FiredUpTo s left k v m → Extends s m call.Fire r w → HasFired s v w
up_to_last s left k v m w r less none (zero, sum, so) x = absurd (omega arith)
up_to_last s left k v m w r less none (suc n, sum, so) x = fired_last s n v m w r (nothing_is r none) so x

pub up_to_full : (s : Layout) (left k : ℕ) (v m w : View) → k < left → FiredUpTo s left k v m → Gains m [] w
    → has_room s s.room (past_of w.seen) w.who call.Fire ≡ false → IsLegal s (past_of w.seen) → HasFired s v w
up_to_full s left k v m w less (zero, sum, so) gains full legal = absurd (omega arith)
up_to_full s left k v m w less (suc n, sum, so) gains full legal = fired_full s n v m w so gains full legal

pub up_to_all : (s : Layout) (left k : ℕ) (v m : View) → left ≤ k → FiredUpTo s left k v m → HasFired s v m
up_to_all s left k v m most (zero, sum, so) = fired_all s v m so
up_to_all s left k v m most (suc n, sum, so) = absurd (omega arith)

pub up_to_some : (s : Layout) (left k : ℕ) (v m w : View) → FiredUpTo s left k v m → Gains m [] w → HasFiredSome v w
up_to_some s left k v m w so gains = fired_some s so.0 v m w so.2 gains

-- and the others may be made later
pub up_to_rest : (s : Layout) (left k rest : ℕ) (v m : View) → rest + k ≡ left → FiredUpTo s left k v m
    → IsFiring s rest v m
up_to_rest s left k rest v m sum (n, same, so) = subst (λ many. IsFiring s many v m) (omega arith) so
