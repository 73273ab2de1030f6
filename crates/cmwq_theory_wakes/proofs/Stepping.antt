-- What a step must do so that nobody is forgotten.
use Rattle.std.proofs.lemmas.Bool.{both_ways, true_from_ne_false}
use Rattle.cmwq_model.specs.declared.call.Call.{Call}
use Rattle.cmwq_theory_steps.specs.Common.{◌≡◌, ◌<◌, ℕ, Bool, true, false, List, ◌∷◌, filter, length, Some, refl, sym}
use Rattle.cmwq_theory_steps.specs.Common.{ap, ◌∙◌, arith, nat_lt, nat_tests, option_map, All_filter, All_map, PoolId}
use Rattle.cmwq_theory_steps.specs.Common.{WorkerId, Entry, Ticket, Layout, IsLegal}
use Rattle.cmwq_theory_steps.proofs.Entries.{entry_at-older}
use Rattle.cmwq_theory_wakes.specs.Starting.{IsAttended}
use Rattle.cmwq_theory_wakes.specs.Rest.{call_at, IsOfItsCall, IsUnready, NoneForgotten}
use Rattle.cmwq_theory_wakes.specs.Steps.{LooksAfter}
use Rattle.cmwq_theory_wakes.proofs.Readiness.{released_by}
use Rattle.cmwq_theory_wakes.proofs.Attended.{stay_attended}

there : (past : List Entry) (n : ℕ) (c : Call) → call_at past n ≡ Some c → n < length past
there past n c h = at (nat_lt n (length past)) refl
  where
    at : (b : Bool) → nat_lt n (length past) ≡ b → n < length past
    at true is = grind (arith, nat_tests)
    at false is = absurd (grind arith)

known_on : (past : List Entry) (e : Entry) (t : Ticket) → IsOfItsCall past t → IsOfItsCall (e ∷ past) t
known_on past e t h =
    ap (option_map (λ (e : Entry). e.call)) (entry_at-older e past t.number (there past t.number t.call h)) ∙ h

-- a pool is attended alike if the same workers of it rest
attended_same : (s : Layout) (past : List Entry) (p : PoolId) (rested rests : WorkerId → Bool)
    → ((w : WorkerId) → w.pool ≡ p → rests w ≡ rested w) → IsAttended s past rested p → IsAttended s past rests p
attended_same s past p rested rests same h w pool resting starts =
    let u = h w pool (sym (same w pool) ∙ resting) starts in
    record { worker = u.worker; pool = u.pool; idle = u.idle; does_not_rest = same u.worker u.pool ∙ u.does_not_rest }

pub none_is_forgotten : (s : Layout) (past : List Entry) (e : Entry) → IsLegal s (e ∷ past) → (tickets : List Ticket)
    (stays : Ticket → Bool) (rested rests : WorkerId → Bool) (looks_at : PoolId → Bool)
    → LooksAfter s past e stays rested rests looks_at → NoneForgotten s past tickets rested
    → NoneForgotten s (e ∷ past) (filter stays tickets) rests
none_is_forgotten s past e legal tickets stays rested rests looks_at k none = record {
  known = All_filter (IsOfItsCall (e ∷ past)) stays tickets
      (All_map (IsOfItsCall past) _ tickets (λ t h kept. known_on past e t h) none.known);
  callers = All_filter (IsUnready (e ∷ past)) stays tickets
      (All_map (IsUnready past) _ tickets (λ t h kept. held t kept h) none.callers);
  workers = λ p. at p (looks_at p) refl;
}
  where
    held : (t : Ticket) → stays t ≡ true → IsUnready past t → IsUnready (e ∷ past) t
    held t kept h = true_from_ne_false _ (λ free.
        let r = released_by s past e legal t.number t.call h free in
        both_ways _ free (k.unready t r.queueing kept r.ends r.released))

    at : (p : PoolId) (b : Bool) → looks_at p ≡ b → IsAttended s (e ∷ past) rests p
    at p true is = k.attended p is
    at p false is =
        attended_same s (e ∷ past) p rested rests (λ w pool. k.others w (ap looks_at pool ∙ is))
        (stay_attended s past e legal rested p k.own (λ t. both_ways _ is (k.touched p t)) (none.workers p))
