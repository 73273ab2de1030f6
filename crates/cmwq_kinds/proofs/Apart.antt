-- The numbers of a call are read again as it, so no two calls have the same.
use Rattle.std.proofs.Common.{ℕ, ◌≡◌, ◌==◌, if◌then◌else◌, List, [], ◌∷◌, ◌++◌, ap, sym, ◌∙◌, refl}
use Rattle.cmwq_model.specs.declared.call.Call.{Call}
use Rattle.cmwq_model.specs.declared.call.Call.TheVariants as call
use Rattle.cmwq_kinds.specs.Numbers.{numbers_of_call}

call_of : ℕ → ℕ → ℕ → ℕ → ℕ → Call
call_of k i q c t =
    if k == 0 then call.Queue (record { 0 = i }) (record { 0 = q }) (record { 0 = c })
    else if k == 1 then call.Delay (record { 0 = i }) (record { 0 = q }) (record { 0 = c }) t
    else if k == 2 then call.Modify (record { 0 = i }) (record { 0 = q }) (record { 0 = c }) t
    else if k == 3 then call.Cancel (record { 0 = i })
    else if k == 4 then call.Tick i
    else if k == 5 then call.Fire
    else if k == 6 then call.Flush (record { 0 = i })
    else if k == 7 then call.Drain (record { 0 = i })
    else if k == 8 then call.FlushItem (record { 0 = i })
    else if k == 9 then call.FlushDelayed (record { 0 = i })
    else if k == 10 then call.CancelSync (record { 0 = i })
    else if k == 11 then call.End i
    else if k == 12 then call.Take
    else if k == 13 then call.Finish
    else if k == 14 then call.Sleep
    else if k == 15 then call.Wake
    else if k == 16 then call.Retire
    else if k == 17 then call.SetMax (record { 0 = i }) q
    else if k == 18 then call.Freeze
    else if k == 19 then call.Thaw
    else call.Destroy (record { 0 = i })

call_in : List ℕ → Call
call_in (k ∷ i ∷ q ∷ c ∷ t ∷ rest) = call_of k i q c t
call_in ns = call.Fire

rest_in : List ℕ → List ℕ
rest_in (k ∷ i ∷ q ∷ c ∷ t ∷ rest) = rest
rest_in ns = []

call_back : (c : Call) (r : List ℕ) → (call_in (numbers_of_call c ++ r) ≡ c) × (rest_in (numbers_of_call c ++ r) ≡ r)
unfolding numbers_of_call call_of call_in rest_in
call_back (call.Queue i q c) r = (refl, refl)
call_back (call.Delay i q c t) r = (refl, refl)
call_back (call.Modify i q c t) r = (refl, refl)
call_back (call.Cancel i) r = (refl, refl)
call_back (call.Tick t) r = (refl, refl)
call_back call.Fire r = (refl, refl)
call_back (call.Flush q) r = (refl, refl)
call_back (call.Drain q) r = (refl, refl)
call_back (call.FlushItem i) r = (refl, refl)
call_back (call.FlushDelayed i) r = (refl, refl)
call_back (call.CancelSync i) r = (refl, refl)
call_back (call.End t) r = (refl, refl)
call_back call.Take r = (refl, refl)
call_back call.Finish r = (refl, refl)
call_back call.Sleep r = (refl, refl)
call_back call.Wake r = (refl, refl)
call_back call.Retire r = (refl, refl)
call_back (call.SetMax q n) r = (refl, refl)
call_back call.Freeze r = (refl, refl)
call_back call.Thaw r = (refl, refl)
call_back (call.Destroy q) r = (refl, refl)

pub calls_split : (c d : Call) (r t : List ℕ) → numbers_of_call c ++ r ≡ numbers_of_call d ++ t → (d ≡ c) × (r ≡ t)
calls_split c d r t e =
    let b = call_back c r in
    let k = call_back d t in (
      sym k.0 ∙ ap call_in (sym e) ∙ b.0,
      sym b.1 ∙ ap rest_in e ∙ k.1,
    )

pub calls_stand_apart : (c d : Call) → numbers_of_call c ≡ numbers_of_call d → c ≡ d
calls_stand_apart c d e = sym ((calls_split c d [] [] (ap (λ ns. ns ++ []) e)).0)
