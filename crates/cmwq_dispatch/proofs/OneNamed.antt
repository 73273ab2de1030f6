-- One more is named.
use Rattle.std.proofs.Common.{slice_set, get_or}
use Rattle.cmwq_theory_steps.specs.Common.{◌≡◌, ◌<◌, ◌||◌, ℕ, zero, suc, Bool, true, false, List, [], ◌∷◌, length}
use Rattle.cmwq_theory_steps.specs.Common.{Option}
use Rattle.cmwq_theory_steps.specs.Common.{Some, None, refl, sym, ap, ◌∙◌, arith, list_any, is_some}
use Rattle.cmwq_lemmas.proofs.Truth.{or_true}
use Rattle.cmwq_model.specs.declared.id.CallerId.{CallerId}
use Rattle.cmwq_model.specs.declared.id.WorkerId.{WorkerId}
use Rattle.cmwq_dispatch.specs.Naming.{NamesMore, is_caller, is_worker}
use Rattle.cmwq_dispatch.specs.declared.wakes.Wakes.{Wakes}

pub set_any : {X : Type 0} (p : X → Bool) (xs : List X) (n : ℕ) (y : X) → n < length xs → p y ≡ true
    → list_any p (slice_set xs n y) ≡ true
set_any p [] n y less is = absurd (omega arith)
set_any p (x ∷ xs) zero y less is = ap (λ b. b || list_any p xs) is
set_any p (x ∷ xs) (suc n) y less is =
    ap (λ b. p x || b) (set_any p xs n y (omega arith) is) ∙ or_true (p x)

pub or_more : (b l m : Bool) → (b || l) ≡ true → (l ≡ true → m ≡ true) → (b || m) ≡ true
or_more true l m h f = refl
or_more false l m h f = f h

-- what passes is not at the place that is set
pub set_keeps : {X : Type 0} (p : X → Bool) (xs : List X) (n : ℕ) (d y : X) → p (get_or xs n d) ≡ false
    → list_any p xs ≡ true → list_any p (slice_set xs n y) ≡ true
set_keeps p [] n d y free h = h
set_keeps p (x ∷ xs) zero d y free h =
    ap (λ b. p y || b) (sym (ap (λ b. b || list_any p xs) free) ∙ h) ∙ or_true (p y)
set_keeps p (x ∷ xs) (suc n) d y free h =
    or_more (p x) (list_any p xs) (list_any p (slice_set xs n y)) h (λ k. set_keeps p xs n d y free k)

pub passes_not : {X : Type 0} (p : Option X → Bool) (o : Option X) → p None ≡ false → is_some o ≡ false → p o ≡ false
passes_not p None none h = none
passes_not p (Some x) none h = cc

-- ---- so whoever was named still is

pub more_callers : (w : Wakes) (xs : List (Option CallerId))
    → ((c : ℕ) → list_any (is_caller c) w.named.callers ≡ true → list_any (is_caller c) xs ≡ true)
    → NamesMore w (record w { named = record w.named { callers = xs } })
more_callers w xs f = record {
  callers = λ c h. or_more w.named.all_callers _ _ h (f c);
  workers = λ v h. h;
  journal = λ h. h;
  completions = λ h. h;
}

pub more_workers : (w : Wakes) (xs : List (Option WorkerId))
    → ((v : WorkerId) → list_any (is_worker v) w.named.workers ≡ true → list_any (is_worker v) xs ≡ true)
    → NamesMore w (record w { named = record w.named { workers = xs } })
more_workers w xs f = record {
  callers = λ c h. h;
  workers = λ v h. or_more w.named.all_workers _ _ h (f v);
  journal = λ h. h;
  completions = λ h. h;
}

-- ---- over several steps

pub names_same : (w : Wakes) → NamesMore w w
names_same w = record { callers = λ c h. h; workers = λ v h. h; journal = λ h. h; completions = λ h. h }

pub names_more : (a b c : Wakes) → NamesMore a b → NamesMore b c → NamesMore a c
names_more a b c h k = record {
  callers = λ n is. k.callers n (h.callers n is);
  workers = λ w is. k.workers w (h.workers w is);
  journal = λ is. k.journal (h.journal is);
  completions = λ is. k.completions (h.completions is);
}
