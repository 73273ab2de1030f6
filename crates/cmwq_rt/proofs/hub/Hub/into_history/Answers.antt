use Rattle.cmwq_rt.proofs.hub.Hub.into_history.Goals as goal

pub returns-in-Ok-clause-legal : goal.returns-in-Ok-clause-legal
returns-in-Ok-clause-legal g c = record {
  history = c.into_monitor-monitor.result.history;
  legal = c.end-rest.ensures.legal;
  within = c.end-rest.ensures.within;
  rest_is = c.end-rest.ensures.rest;
  callers = c.in-Ok.ensures.callers;
  workers = c.in-Ok.ensures.workers;
}
