use Rattle.std.proofs.Common.{◌≡◌, ◌+◌, ◌<◌, ◌^◌, ◌++◌, drop}
use Rattle.std.specs.Fmt.{decimal}
use Rattle.cmwq_base.proofs.usual.more_digits.Given as goal

abbrev pub invariant-loop-at : goal.invariant-loop-at
invariant-loop-at l =
    record {
      text : decimal l.first ++ l.bytes ≡ decimal l.value ++ drop l.at l.bytes;
      some : 0 < l.value;
      few : l.value < 10 ^ (l.at + 1);
    }
