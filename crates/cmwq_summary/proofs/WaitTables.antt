-- A table of waits goes on as the definition does.
use Rattle.std.proofs.Common.{◌≡◌, ◌⊎◌, ℕ, ◌<◌, ◌≤◌, Bool, true, false, List, [], ◌∷◌, length, get_or, set, eqb, Option}
use Rattle.std.proofs.Common.{Some, None, refl, sym, ap₂, ◌∙◌, subst, inl, inr, arith, replicate, length-set}
use Rattle.std.proofs.Common.{get_or-set_other, get_or-set_same}
use Rattle.std.proofs.lemmas.List.{length-replicate, get_or-replicate, get_or_past}
use Rattle.std.proofs.lemmas.Bool.{cases_lt, eqb-true, eqb-false}
use Rattle.std.specs.Prelude.{if◌then◌else◌}
use Rattle.cmwq_model.specs.declared.entry.Entry.{Entry}
use Rattle.cmwq_summary.specs.declared.span.Span.{Span}
use Rattle.cmwq_summary.specs.declared.waits.Waited.{Waited}
use Rattle.cmwq_summary.specs.declared.waits.TheConstants.{NOTHING}
use Rattle.cmwq_summary.specs.Spans.{IsSmall}
use Rattle.cmwq_summary.specs.Tallies.{Key}
use Rattle.cmwq_summary.proofs.Tables.{updated}
use Rattle.cmwq_summary.specs.Waits.{Wait, waited, waited_at, with_wait, with_wait_at, AreWaits, HaveRoom, IsFewTotal}

module _ (key : Key) (wait : Wait) (many : ℕ) where
  -- at first there is nothing
  pub none_waited : AreWaits key wait many [] (replicate many NOTHING)
  unfolding waited
  none_waited = record {
    many_are = length-replicate many NOTHING;
    each = λ k h. get_or-replicate many k NOTHING NOTHING h;
    few = λ k. few k (cases_lt k many);
  }
    where
      few : (k : ℕ) → (k < many) ⊎ (many ≤ k) → IsFewTotal [] (waited_at (replicate many NOTHING) k).all
      few k (inl h) = rw (get_or-replicate many k NOTHING NOTHING h) record { entries = omega arith; ticks = omega arith }
      few k (inr h) =
          let long : length (replicate many NOTHING) ≡ many = length-replicate many NOTHING in
          rw (get_or_past (replicate many NOTHING) k NOTHING (omega arith))
          record { entries = omega arith; ticks = omega arith }

  -- the sums have room for one more
  pub waits_have_room : (past : List Entry) (rows : List Waited) → length past < 4611686018427387904
      → AreWaits key wait many past rows → HaveRoom rows
  waits_have_room past rows few are k = let is = are.few k in record { entries = omega arith; ticks = omega arith }

  -- after an entry
  pub waits_go_on : (past : List Entry) (e : Entry) (rows : List Waited) (at : Option ℕ) (x : Span) → key past e ≡ at
      → x ≡ wait past e → IsSmall x → AreWaits key wait many past rows
      → AreWaits key wait many (e ∷ past) (with_wait_at rows at x)
  unfolding waited
  waits_go_on past e rows None x is x_is small are = record {
    many_are = are.many_are;
    each = λ k h. rw is (are.each k h);
    few = λ k. let few = are.few k in record { entries = omega arith; ticks = omega arith };
  }
  waits_go_on past e rows (Some j) x is x_is small are = record {
    many_are = length-set rows j _ ∙ are.many_are;
    each = λ k h. let long = are.many_are in
        rw is (updated more rows j k NOTHING (omega arith)
        ∙ ap₂ (λ (w : Waited) (y : Span). if eqb j k then with_wait w y else w) (are.each k h) x_is);
    few = λ k. few k (cases_lt k (length rows));
  }
    where
      more : Waited → Waited
      more w = with_wait w x

      by : (w : Waited) (b : Bool) → IsFewTotal past w.all → IsFewTotal (e ∷ past) (if b then more w else w).all
      by w true before = record { entries = omega arith; ticks = omega arith }
      by w false before = record { entries = omega arith; ticks = omega arith }

      few : (k : ℕ) → (k < length rows) ⊎ (length rows ≤ k)
          → IsFewTotal (e ∷ past) (waited_at (set rows j (more (waited_at rows j))) k).all
      few k (inl h) = rw (updated more rows j k NOTHING h) (by (waited_at rows k) (eqb j k) (are.few k))
      few k (inr h) =
          let long = length-set rows j (more (waited_at rows j)) in
          rw (get_or_past (set rows j (more (waited_at rows j))) k NOTHING (omega arith))
          record { entries = omega arith; ticks = omega arith }
