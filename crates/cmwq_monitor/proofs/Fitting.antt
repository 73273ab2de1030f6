-- Calls of callers and workers that are inside the layout fit it.
use Rattle.cmwq_monitor.specs.Common.{◌≡◌, true, false, true≢false, ◌&&◌, nat_lt, ap, sym, ◌∙◌, IsTrue, lt-ltb, Who}
use Rattle.cmwq_monitor.specs.Common.{Caller, Worker, Call, Layout, fits, is_callers, is_workers, has_numbers, IsThere}
use Rattle.cmwq_monitor.specs.Participants.{is_caller}

pub caller_fits : (s : Layout) (who : Who) (c : Call) → is_caller who ≡ true → IsThere s who → is_callers c ≡ true
    → has_numbers s c ≡ true → IsTrue (fits s who c)
caller_fits s (Caller x) c is there callers numbers =
    ap (λ a. (a && is_callers c) && has_numbers s c) (lt-ltb x.0 s.callers there)
    ∙ ap (λ a. a && has_numbers s c) callers ∙ numbers
caller_fits s (Worker w) c is there callers numbers = absurd (true≢false (sym is))

pub worker_fits : (s : Layout) (who : Who) (c : Call) → is_caller who ≡ false → IsThere s who → is_workers c ≡ true
    → has_numbers s c ≡ true → IsTrue (fits s who c)
worker_fits s (Caller x) c is there works numbers = absurd (true≢false is)
worker_fits s (Worker w) c is there works numbers =
    ap (λ a. (a && nat_lt w.index s.workers && is_workers c) && has_numbers s c) (lt-ltb w.pool.cpu.0 s.cpus there.0)
    ∙ ap (λ a. (a && is_workers c) && has_numbers s c) (lt-ltb w.index s.workers there.1)
    ∙ ap (λ a. a && has_numbers s c) works ∙ numbers
