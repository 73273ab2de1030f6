-- Spans, and moments as more entries come.
use Rattle.std.proofs.Common.{◌≡◌, ℕ, ◌<◌, Bool, false, List, ◌∷◌, length, eqb, Option, Some, None, refl}
use Rattle.std.proofs.Common.{ap, ap₂, arith}
use Rattle.std.specs.Prelude.{if◌then◌else◌}
use Rattle.std.specs.Option.{option_map_or}
use Rattle.std.proofs.lemmas.Bool.{eq-eqb}
use Rattle.std.proofs.lemmas.Bool.Decides.{nat_tests}
use Rattle.cmwq_model.specs.declared.entry.Entry.{Entry}
use Rattle.cmwq_model.specs.Prelude.{now}
use Rattle.cmwq_summary.specs.declared.span.Span.{Span}
use Rattle.cmwq_summary.specs.declared.span.TheConstants.{NO_TIME}
use Rattle.cmwq_summary.specs.Spans.{behind, moment, passing, plus, since, IsSmall}

pub span_is : (a b : Span) → a.entries ≡ b.entries → a.ticks ≡ b.ticks → a ≡ b
span_is a b p q = ap₂ (λ (x y : ℕ). let m : Span = record { entries = x; ticks = y } in m) p q

pub plus_nothing : (a : Span) → plus a NO_TIME ≡ a
plus_nothing a = span_is (plus a NO_TIME) a (omega arith) (omega arith)

pub behind_more : (past : List Entry) (e : Entry) → behind (e ∷ past) ≡ plus (behind past) (passing e)
unfolding now
behind_more past e = span_is (behind (e ∷ past)) (plus (behind past) (passing e)) (omega arith) refl

pub small_before : (past : List Entry) (e : Entry) → IsSmall (behind (e ∷ past)) → IsSmall (behind past)
small_before past e small = let is = rw (behind_more past e) at small in
    record { entries = omega arith; ticks = omega arith }

-- the moment after an earlier entry, and after the newest one
pub moment_stays : (past : List Entry) (e : Entry) (n : ℕ) → n < length past → moment (e ∷ past) n ≡ moment past n
unfolding moment
moment_stays past e n h =
    let other : eqb n (length past) ≡ false = grind (arith, nat_tests) in
    ap (λ (b : Bool). if b then behind (e ∷ past) else moment past n) other

pub moment_now : (past : List Entry) (e : Entry) → moment (e ∷ past) (length past) ≡ behind (e ∷ past)
unfolding moment
moment_now past e =
    ap (λ (b : Bool). if b then behind (e ∷ past) else moment past (length past))
    (eq-eqb (length past) (length past) refl)

-- what went by since an entry is small while all is
pub small_since : {X : Type 0} (number : X → ℕ) (past : List Entry) (o : Option X) → IsSmall (behind past)
    → IsSmall (option_map_or (λ (x : X). since past (number x)) o NO_TIME)
small_since number past None small = record { entries = omega arith; ticks = omega arith }
small_since number past (Some x) small = record { entries = omega arith; ticks = omega arith }
