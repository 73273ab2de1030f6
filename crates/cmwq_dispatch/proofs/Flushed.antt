-- Those whose waits are ready are named, one after another.
use Rattle.std.specs.Prelude.{◌⊎◌}
use Rattle.std.proofs.Common.{⊎_elim, inl, inr, slice_set, zero, suc, ◌+◌}
use Rattle.cmwq_theory_steps.specs.Common.{◌≡◌, ◌≤◌, ◌<◌, ℕ, Bool, true, false, List, [], ◌∷◌, length, Some, Layout}
use Rattle.cmwq_theory_steps.specs.Common.{Option, None, refl, sym, ap, ◌∙◌, subst, arith, slice_get, Entry, Ticket}
use Rattle.cmwq_theory_steps.specs.Common.{eqb-true}
use Rattle.cmwq_model.specs.Prelude.{flushes, is_flush_of}
use Rattle.cmwq_model.specs.declared.id.QueueId.{QueueId}
use Rattle.cmwq_model.specs.declared.call.Call.{Call}
use Rattle.cmwq_model.specs.declared.call.Call.TheVariants as call
use Rattle.std.proofs.lemmas.Bool.{both_ways, cases_lt}
use Rattle.std.proofs.lemmas.Option.{slice_get_within, slice_get-get_or, same_Some}
use Rattle.cmwq_theory_wakes.specs.Readiness.{is_unready}
use Rattle.cmwq_theory_wakes.specs.Rest.{IsUnready}
use Rattle.cmwq_theory_wakes.proofs.Readiness.{flushes_in_order}
use Rattle.cmwq_dispatch.specs.Naming.{names_caller, NamesMore}
use Rattle.cmwq_dispatch.specs.Waiting.{AllWait, AreInOrder, AreKnown, EachUnnamed, IsKnown, IsNamedOrSame, OnlyNamed}
use Rattle.cmwq_dispatch.specs.Waiting as waiting
use Rattle.cmwq_dispatch.specs.declared.wakes.Wakes.{Wakes}
use Rattle.cmwq_dispatch.proofs.OneNamed.{names_more}
use Rattle.cmwq_dispatch.specs.declared.waiters.Waiter.{Waiter}

-- ---- what a list has at a place after one place was changed

pub set_got : {X : Type 0} (xs : List X) (n k : ℕ) (y w : X) → slice_get (slice_set xs n y) k ≡ Some w
    → ((k ≡ n) × (w ≡ y)) ⊎ (slice_get xs k ≡ Some w)
set_got [] n k y w h = cc
set_got (x ∷ xs) zero zero y w h = inl (refl, sym (same_Some y w h))
set_got (x ∷ xs) zero (suc k) y w h = inr h
set_got (x ∷ xs) (suc n) zero y w h = inr h
set_got (x ∷ xs) (suc n) (suc k) y w h =
    ⊎_elim (λ e. inl (ap suc e.0, e.1)) (λ e. inr e) (set_got xs n k y w h)

pub set_here : {X : Type 0} (xs : List X) (n : ℕ) (y w : X) → slice_get (slice_set xs n y) n ≡ Some w → w ≡ y
set_here [] n y w h = cc
set_here (x ∷ xs) zero y w h = sym (same_Some y w h)
set_here (x ∷ xs) (suc n) y w h = set_here xs n y w h

pub set_length : {X : Type 0} (xs : List X) (n : ℕ) (y : X) → length (slice_set xs n y) ≡ length xs
set_length [] n y = refl
set_length (x ∷ xs) zero y = refl
set_length (x ∷ xs) (suc n) y = ap suc (set_length xs n y)

-- ---- those that are named keep their tickets

pub same_ticket : (wakes : Wakes) (v w : Waiter) → IsNamedOrSame wakes v w → w.ticket ≡ v.ticket
same_ticket wakes v w (waiting.same e) = ap (λ (u : Waiter). u.ticket) e
same_ticket wakes v w (waiting.named e h) = ap (λ (u : Waiter). u.ticket) e

pub was_there : (wakes : Wakes) (old xs : List Waiter) (k : ℕ) (w : Waiter) → OnlyNamed wakes old xs
    → slice_get xs k ≡ Some w → (v : Waiter) × (slice_get old k ≡ Some v) × IsNamedOrSame wakes v w
was_there wakes old xs k w only at = by (slice_get old k) refl
  where
    by : (o : Option Waiter) → slice_get old k ≡ o → (v : Waiter) × (slice_get old k ≡ Some v) × IsNamedOrSame wakes v w
    by None is =
        let less = slice_get_within xs k w at in
        let there = slice_get-get_or old k w (let same = only.count in omega arith) in
        cc
    by (Some v) is = (v, is, only.each k v w is at)

pub order_kept : (wakes : Wakes) (old xs : List Waiter) → OnlyNamed wakes old xs → AreInOrder old → AreInOrder xs
order_kept wakes old xs only order i j v w less hv hw =
    let a = was_there wakes old xs i v only hv in
    let b = was_there wakes old xs j w only hw in
    let first = ap (λ (t : Ticket). t.number) (same_ticket wakes a.0 v a.2) in
    let last = ap (λ (t : Ticket). t.number) (same_ticket wakes b.0 w b.2) in
    let in_order = order i j a.0 b.0 less a.1 b.1 in omega (arith, first, last, in_order)

-- ---- so many were looked at

abbrev pub FirstWait : List Entry → ℕ → List Waiter → Type 0
FirstWait past n xs = (k : ℕ) (w : Waiter) → k < n → slice_get xs k ≡ Some w → w.is_named ≡ false
    → IsUnready past w.ticket

-- all wait but for those that pass a test, of which the first so many do
pub record Progress (s : Layout) (past : List Entry) (test : Ticket
    → Bool) (at_first : Wakes) (old : List Waiter) (n : ℕ)
    (xs : List Waiter) (wakes : Wakes) : Type 0 where
  pub known : AreKnown s past xs
  pub others : EachUnnamed (λ t. test t ≡ false → IsUnready past t) xs
  pub first : FirstWait past n xs
  pub named : OnlyNamed wakes old xs
  pub more : NamesMore at_first wakes

module _ {s : Layout} {past : List Entry} {test : Ticket → Bool} {at_first : Wakes} {old : List Waiter} where
  pub skipped : (n : ℕ) (xs : List Waiter) (wakes : Wakes) (x : Waiter) → Progress s past test at_first old n xs wakes
      → slice_get xs n ≡ Some x → (x.is_named ≡ false → IsUnready past x.ticket)
      → Progress s past test at_first old (n + 1) xs wakes
  skipped n xs wakes x k at waits = record {
    known = k.known;
    others = k.others;
    first = λ i w less is. ⊎_elim (λ low. k.first i w low is)
        (λ high. let same : i ≡ n = omega arith in
        subst (λ (u : Waiter). u.is_named ≡ false → IsUnready past u.ticket)
        (same_Some x w (sym at ∙ (ap (slice_get xs) (sym same) ∙ is))) waits) (cases_lt i n);
    named = k.named;
    more = k.more;
  }

  pub named_one : (n : ℕ) (xs : List Waiter) (wakes new : Wakes) (x : Waiter)
      → Progress s past test at_first old n xs wakes → slice_get xs n ≡ Some x
      → names_caller new x.ticket.caller.0 ≡ true → NamesMore wakes new
      → Progress s past test at_first old (n + 1) (slice_set xs n (record x { is_named = true })) new
  named_one n xs wakes new x k at named more = record {
    known = λ i w is. ⊎_elim (λ e. λ quiet. absurd (vacuous w e.1 quiet)) (λ was. k.known i w was)
        (set_got xs n i y w is);
    others = λ i w is. ⊎_elim (λ e. λ quiet. absurd (vacuous w e.1 quiet)) (λ was. k.others i w was)
        (set_got xs n i y w is);
    first = λ i w less is. ⊎_elim (λ e. λ quiet. absurd (vacuous w e.1 quiet))
        (λ was. ⊎_elim (λ low. k.first i w low was)
        (λ high. λ quiet. absurd (vacuous w (at_n i w (omega arith) is) quiet)) (cases_lt i n)) (set_got xs n i y w is);
    named = record {
      count = set_length xs n y ∙ k.named.count;
      each = λ i v w hv hw. ⊎_elim (λ e. now i v w hv e) (λ was. kept v w (k.named.each i v w hv was))
          (set_got xs n i y w hw);
    };
    more = names_more _ _ _ k.more more;
  }
    where
      y : Waiter
      y = record x { is_named = true }

      vacuous : (w : Waiter) → w ≡ y → w.is_named ≡ false → ⊥
      vacuous w same quiet = both_ways _ quiet (ap (λ (v : Waiter). v.is_named) same)

      at_n : (i : ℕ) (w : Waiter) → i ≡ n → slice_get (slice_set xs n y) i ≡ Some w → w ≡ y
      at_n i w same h = set_here xs n y w (ap (slice_get (slice_set xs n y)) (sym same) ∙ h)

      kept : (v w : Waiter) → IsNamedOrSame wakes v w → IsNamedOrSame new v w
      kept v w (waiting.same e) = waiting.same e
      kept v w (waiting.named e h) = waiting.named e (more.callers v.ticket.caller.0 h)

      now : (i : ℕ) (v w : Waiter) → slice_get old i ≡ Some v → (i ≡ n) × (w ≡ y) → IsNamedOrSame new v w
      now i v w hv e = elim (k.named.each n v x (ap (slice_get old) (sym e.0) ∙ hv) at) [
        | waiting.same c ↦
            waiting.named (e.1 ∙ ap (λ (u : Waiter). record u { is_named = true }) c)
            (subst (λ (u : Waiter). names_caller new u.ticket.caller.0 ≡ true) c named)
        | waiting.named c h ↦
            waiting.named (e.1 ∙ ap (λ (u : Waiter). record u { is_named = true }) c)
            (more.callers v.ticket.caller.0 h)
      ]

  pub looked_all : (n : ℕ) (xs : List Waiter) (wakes : Wakes) → Progress s past test at_first old n xs wakes
      → length xs ≤ n → AllWait past xs
  looked_all n xs wakes k all i w is = k.first i w (let less = slice_get_within xs i w is in omega arith) is

-- ---- a flush that is not ready, and all that were begun later

flush_call : (q : QueueId) (c : Call) → flushes q.0 c ≡ true → c ≡ call.Flush q
flush_call q (call.Flush r) h = ap (λ n. call.Flush (record { 0 = n })) (eqb-true r.0 q.0 h)
flush_call q c h = cc

pub stopped : (s : Layout) (past : List Entry) (q : QueueId) (at_first : Wakes) (old : List Waiter) (n : ℕ)
    (xs : List Waiter) (wakes : Wakes) (x : Waiter) → Progress s past (is_flush_of q.0) at_first old n xs wakes
    → AreInOrder old → slice_get xs n ≡ Some x → is_flush_of q.0 x.ticket ≡ true
    → is_unready past x.ticket.number x.ticket.call ≡ true → AllWait past xs
stopped s past q at_first old n xs wakes x k order at flush unready i w is =
    ⊎_elim (λ low. k.first i w low is) (λ high. later (is_flush_of q.0 w.ticket) refl high) (cases_lt i n)
  where
    unready_flush : is_unready past x.ticket.number (call.Flush q) ≡ true
    unready_flush = ap (is_unready past x.ticket.number) (sym (flush_call q x.ticket.call flush)) ∙ unready

    later : (b : Bool) → is_flush_of q.0 w.ticket ≡ b → n ≤ i → w.is_named ≡ false → IsUnready past w.ticket
    later false other high quiet = k.others i w is quiet other
    later true its high quiet =
        ap (is_unready past w.ticket.number) (flush_call q w.ticket.call its)
        ∙ flushes_in_order past q x.ticket.number w.ticket.number
        (order_kept wakes old xs k.named order n i x w high at is) unready_flush
