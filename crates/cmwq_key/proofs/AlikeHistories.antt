-- One more entry of histories that are alike.
use Rattle.std.specs.Prelude.{◌&&◌, ◌∷◌, [], if◌then◌else◌}
use Rattle.std.proofs.Common.{◌≡◌, ◌∙◌, ℕ, Bool, true, false, length, Some, None, option_map, ap, ap₂, refl, sym, subst}
use Rattle.std.proofs.Common.{arith}
use Rattle.std.proofs.lemmas.List.{length-append, length-reverse}
use Rattle.cmwq_model.specs.Prelude.{IsLegal, answer, entry_for, fits, has_room}
use Rattle.cmwq_model.specs.declared.call.Call.{Call}
use Rattle.cmwq_model.specs.declared.entry.Entry.{Entry}
use Rattle.cmwq_model.specs.declared.id.Who.{Who}
use Rattle.cmwq_model.specs.declared.reply.Reply.{Reply}
use Rattle.cmwq_model.proofs.Growing.{one_more_is_newest}
use Rattle.cmwq_alike.specs.Alike.{Asks, IsAlike, IsStep, IsWaitAlike, call_by, next_by, reply_by}
use Rattle.cmwq_alike.proofs.Made.{answers_alike, fits_alike, room_alike, step_of}
use Rattle.cmwq_alike.proofs.Stays.{alike_go_on}
use Rattle.cmwq_alike.proofs.Waits.{wait_stays}
use Rattle.cmwq_key.specs.Alike.{AreHistoriesAlike}
use Rattle.cmwq_core.specs.History.{History, next_entry, past_in, with_entry}
use Rattle.cmwq_play.specs.Machines.{is_made}
unfoldable use Rattle.cmwq_play.specs.Machines.{replied, stepped}

-- Both go on to histories that are alike, and so does what somebody waits with.
pub record GoOnAlike (f : ℕ → ℕ) (h g later other : History) : Type 0 where
  pub by : ℕ → ℕ
  pub alike : AreHistoriesAlike by later other
  pub waits : (n m : ℕ) → IsWaitAlike f (past_in h) (past_in g) n m → IsWaitAlike by (past_in later) (past_in other) n m

pub same_length : {f : ℕ → ℕ} {h g : History} → AreHistoriesAlike f h g → length (past_in g) ≡ length (past_in h)
same_length {f} {h} {g} a = length-reverse g.entries ∙ (a.long ∙ sym (length-reverse h.entries))

pub stand_still : {f : ℕ → ℕ} {h g : History} → AreHistoriesAlike f h g → GoOnAlike f h g h g
stand_still {f} a = record { by = f; alike = a; waits = λ n m w. w }

abbrev pub go_further : {f : ℕ → ℕ} {h g h₁ g₁ h₂ g₂ : History} (k : GoOnAlike f h g h₁ g₁) → GoOnAlike k.by h₁ g₁ h₂ g₂
    → GoOnAlike f h g h₂ g₂
go_further k l = record { by = l.by; alike = l.alike; waits = λ n m w. l.waits n m (k.waits n m w) }

-- by a test that is the same in both
pub go_on_if : {f : ℕ → ℕ} {h g h₁ g₁ : History} → AreHistoriesAlike f h g → (b c : Bool) → c ≡ b
    → (b ≡ true → GoOnAlike f h g h₁ g₁) → GoOnAlike f h g (if b then h₁ else h) (if c then g₁ else g)
go_on_if a true true same on = on refl
go_on_if a false false same on = stand_still a
go_on_if a true false same on = absurd (cc same)
go_on_if a false true same on = absurd (cc same)

module _ {f : ℕ → ℕ} {h g : History} (a : AreHistoriesAlike f h g) where
  unfoldable pub appended : (e d : Entry) → IsStep h.layout f (past_in h) (past_in g) e d
      → GoOnAlike f h g (with_entry h e) (with_entry g d)
  appended e d k =
      let newest = sym (one_more_is_newest h.entries e) in
      let other_newest = sym (one_more_is_newest g.entries d) in
      record {
        by = next_by f (past_in h) (past_in g);
        alike = record {
          layout = a.layout;
          room = a.room;
          long = omega (arith, a.long, length-append g.entries (d ∷ []), length-append h.entries (e ∷ []));
          legal = subst (IsLegal h.layout) newest k.legal;
          other_legal = subst (IsLegal h.layout) other_newest k.other_legal;
          alike =
              subst (λ past. IsAlike h.layout (next_by f (past_in h) (past_in g)) past (past_in (with_entry g d)))
              newest
              (subst (IsAlike h.layout (next_by f (past_in h) (past_in g)) (e ∷ past_in h)) other_newest
              (alike_go_on h.layout f (past_in h) (past_in g) e d k));
        };
        waits = λ n m w.
            subst (λ past. IsWaitAlike (next_by f (past_in h) (past_in g)) past (past_in (with_entry g d)) n m) newest
            (subst (λ past. IsWaitAlike (next_by f (past_in h) (past_in g)) (e ∷ past_in h) past n m) other_newest
            (wait_stays k n m w));
      }

  next_in : (who : Who) (c : Call) → next_entry g who c ≡ entry_for h.layout (past_in g) who c
  next_in who c = ap (λ s. entry_for s (past_in g) who c) a.layout

  pub next_step : (who : Who) (c : Call) → Asks (past_in h) c → fits h.layout who c ≡ true
      → IsStep h.layout f (past_in h) (past_in g) (next_entry h who c) (next_entry g who (call_by f c))
  next_step who c asks fit =
      subst (IsStep h.layout f (past_in h) (past_in g) (next_entry h who c)) (sym (next_in who (call_by f c)))
      (step_of h.layout f (past_in h) (past_in g) who c a.legal a.other_legal a.alike asks fit)

  -- ---- whether an entry is made, and its reply

  pub made_alike : (who : Who) (c : Call) → Asks (past_in h) c → is_made g who (call_by f c) ≡ is_made h who c
  made_alike who c asks =
      ap₂ (λ s room. fits s who (call_by f c) && has_room s room (past_in g) who (call_by f c)) a.layout a.room
      ∙ at (fits h.layout who c) refl
    where
      none : (x y u v : Bool) → x ≡ y → y ≡ false → (x && u) ≡ (y && v)
      none x y u v same is = grind arith

      at : (b : Bool) → fits h.layout who c ≡ b
          → (fits h.layout who (call_by f c) && has_room h.layout h.room (past_in g) who (call_by f c))
          ≡ is_made h who c
      at false is = none _ _ _ _ (fits_alike h.layout f who c) is
      at true is = ap₂ (λ x y. x && y) (fits_alike h.layout f who c)
          (room_alike h.layout h.room f (past_in h) (past_in g) who c a.legal a.other_legal a.alike asks is
          (same_length a))

  pub fits_made : (who : Who) (c : Call) → is_made h who c ≡ true → fits h.layout who c ≡ true
  fits_made who c is = at (fits h.layout who c) (has_room h.layout h.room (past_in h) who c) is
    where
      at : (b c : Bool) → (b && c) ≡ true → b ≡ true
      at b c is = grind arith

  pub replied_alike : (who : Who) (c : Call) → Asks (past_in h) c
      → replied g who (call_by f c) ≡ option_map (reply_by (next_by f (past_in h) (past_in g))) (replied h who c)
  unfolding replied
  replied_alike who c asks =
      ap₂ (λ b r. if b then Some r else None) (made_alike who c asks)
      (ap (λ s. answer s (past_in g) who (call_by f c)) a.layout
      ∙ answers_alike h.layout f (past_in h) (past_in g) who c a.legal a.alike asks)
      ∙ at (is_made h who c) (answer h.layout (past_in h) who c)
    where
      at : (b : Bool) (r : Reply) → (if b then Some (reply_by (next_by f (past_in h) (past_in g)) r) else None)
          ≡ option_map (reply_by (next_by f (past_in h) (past_in g))) (if b then Some r else None)
      at true r = refl
      at false r = refl

  pub stepped_alike : (who : Who) (c : Call) → Asks (past_in h) c
      → GoOnAlike f h g (stepped h who c) (stepped g who (call_by f c))
  unfolding stepped
  stepped_alike who c asks =
      go_on_if a (is_made h who c) (is_made g who (call_by f c)) (made_alike who c asks)
      (λ is. appended _ _ (next_step who c asks (fits_made who c is)))
