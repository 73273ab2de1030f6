use Rattle.cmwq_flush.specs.Common.{refl, arith}
use Rattle.std.proofs.lemmas.List.{get_or-replicate}
use Rattle.cmwq_flush.proofs.Rightness.{right_new}
use Rattle.cmwq_flush.proofs.flushes.Flushes.new.Goals as goal

pub returns : goal.returns
returns c = λ items.
    let served = c.in_ok-with_capacity.ensures in (
      record {
        right = rw served.items (right_new items);
        tally = record {
          sixteen = refl;
          rising = λ i j d before within. absurd (omega arith);
          coloured = λ k d lt. absurd (omega arith);
          exact = λ k below. get_or-replicate 16 k 0 0 below;
        };
        served_room = omega (arith, served.capacity);
      },
      rw served.items refl,
    )
