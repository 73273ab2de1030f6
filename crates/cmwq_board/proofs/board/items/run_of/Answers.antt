use Rattle.std.specs.Prelude.{◌≡◌, None, Some, false}
use Rattle.std.proofs.Common.{ap, arith, ◌∙◌, refl, sym, subst}
use Rattle.cmwq_core.specs.History.{History, past_in}
use Rattle.cmwq_model.specs.Prelude.{Layout, is_at, item_run, pool_at, run as run_in}
use Rattle.cmwq_model.specs.declared.id.PoolId.{PoolId}
use Rattle.cmwq_state.specs.Flights.{run_open}
use Rattle.cmwq_board.proofs.Items.{found_runner, run_on_cpu, runs_nothing, some_runner}
use Rattle.cmwq_board.proofs.board.items.run_of.Goals as goal

pub returns-in_err-queueing : goal.returns-in_err-queueing
returns-in_err-queueing c =
    let st = c.state-state.result.now in
    let state : st ≡ c.args.dispatch.now.history = c.state-state.ensures ∙ c.execution-2.ensures in
    let i = c.args.item.0 in
    let nothing : None ≡ item_run (past_in st) i =
    runs_nothing st.layout (past_in st) i c.item_run.ensures.legal (sym c.in_err-queueing.ensures.is) in
    c.from_residual.ensures ∙ nothing ∙ ap (λ (h : History). item_run (past_in h) i) state

pub runner-requires-clause-cpu : goal.runner-requires-clause-cpu
runner-requires-clause-cpu c =
    let st = c.state-state.result.now in
    let state : st ≡ c.args.dispatch.now.history = c.state-state.ensures ∙ c.execution-2.ensures in
    let i = c.args.item.0 in
    let x = c.in_ok-queueing.queueing in
    let run : run_open (past_in st) i ≡ Some x = sym c.in_ok-queueing.ensures.is in
    let legal = c.item_run.ensures.legal in
    let cpu = run_on_cpu st.layout (past_in st) i x legal run in
    let same = ap (λ (p : PoolId). p.cpu.0) c.pool_of-pool.ensures in
    omega (arith, cpu, same)

pub returns-in_err-worker : goal.returns-in_err-worker
returns-in_err-worker c =
    let st = c.state-state.result.now in
    let state : st ≡ c.args.dispatch.now.history = c.state-state.ensures ∙ c.execution-2.ensures in
    let i = c.args.item.0 in
    let x = c.in_ok-queueing.queueing in
    let run : run_open (past_in st) i ≡ Some x = sym c.in_ok-queueing.ensures.is in
    let legal = c.item_run.ensures.legal in
    let layout : c.shape-shape.result.now ≡ st.layout =
    c.shape-shape.ensures ∙ sym (ap (λ (h : History). h.layout) state) in
    let pool : c.pool_of-pool.result ≡ pool_at st.layout x.place =
    c.pool_of-pool.ensures ∙ ap (λ (l : Layout). pool_at l x.place) layout in
    let workers : c.counts.result.workers ≡ st.layout.workers =
    ap (λ (l : Layout). l.workers) (c.counts.ensures.counts ∙ layout) in
    absurd (some_runner st.layout (past_in st) i x legal run
    (λ k less. subst (λ p. is_at (run_in (past_in st) (record { pool = p; index = k })) x.number ≡ false) pool
    (c.in_err-worker.ensures.none refl k (omega (arith, less, workers)))))

pub returns : goal.returns
returns c =
    let st = c.state-state.result.now in
    let state : st ≡ c.args.dispatch.now.history = c.state-state.ensures ∙ c.execution-2.ensures in
    let i = c.args.item.0 in
    let x = c.in_ok-queueing.queueing in
    let run : run_open (past_in st) i ≡ Some x = sym c.in_ok-queueing.ensures.is in
    let legal = c.item_run.ensures.legal in
    let w = c.in_ok-worker.worker in
    sym (subst (λ (h : History). item_run (past_in h) i ≡ Some (record { worker = w; number = x.number })) state
    (found_runner st.layout (past_in st) i x w legal run c.in_ok-worker.ensures.runs))
