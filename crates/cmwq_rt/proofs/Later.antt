-- What a worker's calls leave, one after another.
use Rattle.cmwq_rt.specs.Common.{◌≡◌, List, [], refl, sym, ◌∙◌, arith, subst, Bool, true, false, Result, Ok, Err, IfOk}
use Rattle.cmwq_rt.specs.Common.{IfErr, MatchBool, Call, Reply, Entry, Layout, View, Gains, Extends, Refused, RunFault}
use Rattle.cmwq_rt.specs.Common.{prefix_trans}
use Rattle.cmwq_model.specs.declared.call.Call.TheVariants as call
use Rattle.cmwq_model.specs.declared.reply.Reply.TheVariants as replies
use Rattle.cmwq_monitor.specs.Settled.{Settles}
use Rattle.cmwq_rt.specs.Later.{Later}

pub later_self : (v : View) → Later v v
later_self v = (refl, omega arith, λ front p. p)

pub later_trans : (v m w : View) → Later v m → Later m w → Later v w
later_trans v m w a b =
    (b.0 ∙ a.0, (let x = a.1 in let y = b.1 in omega (arith, x, y)), λ front p. b.2 front (a.2 front p))

pub later_gains : (v w : View) (es : List Entry) → Gains v es w → Later v w
later_gains v w es g =
    (g.same, (let n = g.serial in omega (arith, n)), λ front p. prefix_trans front v.seen w.seen p g.older)

pub later_made : (s : Layout) (v w : View) (c : Call) (r : Reply) → Extends s v c r w → Later v w
later_made s v w c r x = later_gains v w _ x.gains

pub later_refused : (s : Layout) (v w : View) (c : Call) (f : RunFault) → Refused s v c f w → Later v w
later_refused s v w c f r = later_gains v w [] r.0

-- whether it was made or refused
pub later_answered : (s : Layout) (v w : View) (c : Call) (r : Result Reply RunFault)
    → IfOk r (λ reply. Extends s v c reply w) → IfErr r (λ f. Refused s v c f w) → Later v w
later_answered s v w c (Ok reply) made n = later_made s v w c reply made
later_answered s v w c (Err f) x refused = later_refused s v w c f refused

-- a worker that asked to retire where it would be retired, or didn't ask
pub later_retired : (s : Layout) (v w : View) (r : Result Bool RunFault)
    → IfOk r (λ b. MatchBool b (Extends s v call.Retire replies.Retired w) (w ≡ v))
    → IfErr r (λ f. Refused s v call.Retire f w) → Later v w
later_retired s v w (Ok true) x n = later_made s v w call.Retire replies.Retired x
later_retired s v w (Ok false) same n = subst (Later v) (sym same) (later_self v)
later_retired s v w (Err f) x refused = later_refused s v w call.Retire f refused

-- whoever has seen all entries that there are
pub later_settled : (history : List Entry) (v w : View) → Settles history v w → Later v w
later_settled history v w (same, older, counts) =
    subst (Later v) (sym same) (refl, omega arith, λ front p. prefix_trans front v.seen history p older)
