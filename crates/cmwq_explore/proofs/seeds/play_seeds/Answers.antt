use Rattle.std.proofs.Common.{◌≡◌, ◌∙◌, ◌+◌, ◌-◌, ap, length, subst, sym, arith}
use Rattle.cmwq_explore.specs.Chances.{chosen_by}
use Rattle.cmwq_explore.specs.Seeds.{EndsAs, TellsSeeds}
use Rattle.cmwq_play.specs.Starts.{start_of}
use Rattle.cmwq_explore.proofs.Sowing.{ends_as, one_more, ones_of, stands_as}
use Rattle.cmwq_explore.proofs.seeds.play_seeds.Goals as goal

pub loop-seed-preserved : goal.loop-seed-preserved
loop-seed-preserved g c =
    let was = c.loop-seed.invariant in
    let same = c.note.ensures in
    let adds = c.count.ensures in
    let standing = c.standing-standing.result in
    let one = ones_of standing in
    let low = c.loop-seed.auto.seed in
    let seed = c.loop-seed.seed in
    let first = c.args.seeds.first in
    let count = seed - first in
    let here : first + count ≡ seed = omega (arith, low) in
    let more : count + 1 ≡ seed + 1 - first = omega (arith, low) in
    let start = start_of c.args.setup.now in
    let moves = c.args.seeds.moves in
    let made = c.in_ok-moves.moves in
    record {
      counted =
          let before = was.counted in
          omega (arith, same.0, same.1, same.2, adds.ended, adds.stuck, adds.cut, one, before, low);
      tells = λ uniform.
          let chosen = c.in_ok-moves.ensures.chosen uniform in
          let plays = c.in_ok-moves.ensures.plays in
          let p = c.play_by.new.play in
          let stands =
          stands_as standing p c.standing-standing.ensures.ended c.standing-standing.ensures.stuck
          c.standing-standing.ensures.goes in
          let ends = ends_as start moves seed made c.play_by.new.path.items p standing plays chosen stands in
          subst (λ n. TellsSeeds start moves first n c.note.new.self) more
          (one_more start moves first count c.loop-seed.tally c.note.new.self standing
          (record { seed = seed; moves = made }) (was.tells uniform) (record {
            seed = sym here;
            long =
                plays.long ∙ ap length chosen ∙ ap (λ n. length (chosen_by moves n start)) (sym here);
            ends = subst (λ n. EndsAs start moves n standing) (sym here) ends;
            ended = same.0 ∙ adds.ended;
            stuck = same.1 ∙ adds.stuck;
            cut = same.2 ∙ adds.cut;
            shortest = same.3 ∙ adds.shortest;
          }));
    }
