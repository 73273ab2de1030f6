-- What a book would make next.
use Rattle.std.specs.Prelude.{◌≡◌, ◌∷◌}
use Rattle.cmwq_core.specs.Common.{true, Who, Call, IsLegal}
use Rattle.cmwq_core.specs.declared.plan.Plan.{Plan}
use Rattle.cmwq_core.specs.History.{History, past_in, takes, IsMark}

-- the entry of this call, for which there is room and time
pub record IsPlan (h : History) (who : Who) (call : Call) (p : Plan) : Type 0 where
  pub mark : IsMark h who call p.mark
  pub taken : takes h who call ≡ true
  pub legal : IsLegal h.layout (p.mark.entry ∷ past_in h)
