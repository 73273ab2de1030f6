-- The parts to which one more entry is applied are those of the longer history.
use Rattle.cmwq_state.specs.Common.{◌≡◌, ◌≢◌, ℕ, ◌+◌, ◌*◌, ◌<◌, ◌≤◌, Bool, true, false, List, ◌∷◌, length, refl, sym}
use Rattle.cmwq_state.specs.Common.{ap, ◌∙◌, arith, slice_set, slice_index_or, get_or-set_other, length-set, PoolId}
use Rattle.cmwq_state.specs.Common.{Who, Entry, Layout, same_who, serial_of, PoolState, serials_go_on, one}
use Rattle.cmwq_state.specs.Common.{most_callers, most_workers, pool_numbered}
use Rattle.std.proofs.lemmas.Grind.{get_or-set_at}
use Rattle.cmwq_refinement.specs.Pools as pools
use Rattle.cmwq_model.proofs.Limits.{Limits}
use Rattle.cmwq_state.specs.Tables.{IsThere, who_place, who_places, pool_place, ArePools, AreSerials}
use Rattle.cmwq_theory_laws.proofs.OneEntry.{same_who-true}

-- ---- serials

pub who_below : (s : Layout) (a : Who) → IsThere s a → s.workers ≤ most_workers → s.callers ≤ most_callers
    → who_place a < who_places s.cpus
who_below s a f k m = grind arith

other_who : (s : Layout) (a b : Who) → IsThere s a → IsThere s b → s.workers ≤ most_workers → s.callers ≤ most_callers
    → same_who a b ≡ false → who_place b ≢ who_place a
other_who s a b f g k m h = grind arith

pub serials_applied : (s : Layout) (e : Entry) (past : List Entry) (serials : List ℕ) → Limits s → IsThere s e.who
    → AreSerials s past serials →
    AreSerials s (e ∷ past) (slice_set serials (who_place e.who) (serial_of past e.who + 1))
serials_applied s e past serials limits fit are =
    record { many = length-set serials _ _ ∙ are.many; each = λ who fits. by_who who fits (same_who e.who who) refl }
  where
    by_who : (who : Who) → IsThere s who → (b : Bool) → same_who e.who who ≡ b
        → slice_index_or (slice_set serials (who_place e.who) (serial_of past e.who + 1)) (who_place who) 0
        ≡ serial_of (e ∷ past) who
    by_who who fits true h = let same : e.who ≡ who = same_who-true e.who who h in
        let inside : who_place e.who < length serials = let below =
        who_below s e.who fit limits.workers.1 limits.callers.1 in rw are.many below in
        let more : serial_of (e ∷ past) who ≡ one true + serial_of past who =
        serials_go_on past e who ∙ ap (λ b. one b + serial_of past who) h in
        get_or-set_at serials (who_place e.who) (who_place who) (serial_of past e.who + 1) 0 (ap who_place (sym same))
        inside ∙ (ap (λ x. serial_of past x + 1) same
        ∙ (let flip : serial_of past who + 1 ≡ 1 + serial_of past who = omega arith in flip ∙ sym more))
    by_who who fits false h =
        let less : serial_of (e ∷ past) who ≡ one false + serial_of past who =
        serials_go_on past e who ∙ ap (λ b. one b + serial_of past who) h in
        get_or-set_other serials (who_place e.who) (who_place who) (serial_of past e.who + 1) 0
        (other_who s e.who who fit fits limits.workers.1 limits.callers.1 h)
        ∙ (are.each who fits
        ∙ (let flip : serial_of past who ≡ 0 + serial_of past who = omega arith in flip ∙ sym less))

-- ---- the pool that stands at its place

pub pool_place_inside : (p : PoolId) (cpus n : ℕ) → n ≡ 2 * cpus → p.cpu.0 < cpus → pool_place p < n
pool_place_inside p cpus n many here = grind arith

pub pool_found : (s : Layout) (past : List Entry) (found : List PoolState) (p : PoolId) (i : ℕ) → ArePools s past found
    → p.cpu.0 < s.cpus → i ≡ pool_place p → pool_numbered found i ≡ pools.pool_of s past p
pool_found s past found p i are here at = ap (pool_numbered found) at ∙ are.each p here

pub pool_there : (s : Layout) (past : List Entry) (found : List PoolState) (p : PoolId) (i : ℕ) → ArePools s past found
    → p.cpu.0 < s.cpus → i ≡ pool_place p → i < length found
pool_there s past found p i are here at = rw at (pool_place_inside p s.cpus (length found) are.many here)
