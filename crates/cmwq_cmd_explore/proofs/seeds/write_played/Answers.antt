use Rattle.std.proofs.Common.{sym, subst}
use Rattle.cmwq_explore.specs.Seeds.{StandsAs}
use Rattle.cmwq_cmd_explore.proofs.Verdicting.{stands}
use Rattle.cmwq_cmd_explore.proofs.seeds.write_played.Goals as goal

pub returns : goal.returns
returns g c =
    let p = c.args.play.now in
    record {
      says = record {
        legal = c.write_play.ensures.legal;
        writes = c.in_ok-write_play.ensures.text;
        ends = subst (λ s. StandsAs s p) (sym c.verdict_of_play.ensures.standing)
            (stands c.standing-standing.result p c.standing-standing.ensures.ended c.standing-standing.ensures.stuck
            c.standing-standing.ensures.goes);
      };
    }
