use Rattle.cmwq_text.specs.Common.{◌≡◌, ◌+◌, ◌*◌, ◌≤◌, ◌++◌, length, take, map, decimal}
use Rattle.cmwq_text.specs.Words.{space_words}
use Rattle.cmwq_text.proofs.line.LineText.push_numbers.Given as goal

abbrev pub invariant-loop-number : goal.invariant-loop-number
invariant-loop-number l =
    record {
      exact : l.self ≡ l.fn.self ++ space_words (map decimal (take l.number-index l.numbers));
      short : length l.self ≤ length l.fn.self + 21 * l.number-index;
    }
