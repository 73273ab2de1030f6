-- What a clause reads of a reader or a writer of std that serves as a source or a sink.
use Rattle.std.specs.Prelude.{ℕ, List, Option}
use Rattle.std.specs.declared.io.ErrorKind.{ErrorKind}
use Rattle.std.specs.declared.io.ErrorKind.TheVariants as kind
use Rattle.cmwq_io.specs.declared.trouble.Trouble.{Trouble}
use Rattle.cmwq_io.specs.declared.trouble.Trouble.TheVariants.{Interrupted, Failed}
use Rattle.cmwq_io.specs.declared.from_std.FromStd.{FromStd}

-- how an error of std counts here
abbrev pub trouble_of : ErrorKind → Trouble
trouble_of kind.Interrupted = Interrupted
trouble_of k = Failed

abbrev pub std_inner : {T : Type 0} → FromStd T → T
std_inner s = s.inner

abbrev pub std_troubles : {T : Type 0} → FromStd T → ℕ
std_troubles s = s.troubles

abbrev pub std_outcomes : {T : Type 0} → FromStd T → List (Option Trouble)
std_outcomes s = s.outcomes
