-- What a clause reads of a sink that gathers small writes.
use Rattle.cmwq_io.specs.Common.{ℕ, List, Option, append_known}
use Rattle.cmwq_io.specs.declared.buffered.BufferedSink.{BufferedSink}

abbrev pub buffered_inner : {W : Type 0} → BufferedSink W → W
buffered_inner s = s.inner

-- the bytes that are gathered and not yet handed on
abbrev pub buffered_bytes : {W : Type 0} → BufferedSink W → List ℕ
buffered_bytes s = s.buffer.items

-- the bytes that were handed on, where these are known, and then those that are gathered
abbrev pub all_written : {W : Type 0} → (W → Option (List ℕ)) → BufferedSink W → Option (List ℕ)
all_written written s = append_known (written s.inner) (buffered_bytes s)
