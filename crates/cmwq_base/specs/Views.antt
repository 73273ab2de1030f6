-- What was read, as the definitions see it.
use Rattle.cmwq_base.specs.Common.{Who, Call, Entry}
use Rattle.cmwq_base.specs.declared.files.CallFile.{CallFile}
use Rattle.cmwq_base.specs.declared.files.HistoryFile.{HistoryFile}
use Rattle.cmwq_base.specs.Files.{File}

abbrev pub calls_in : CallFile → File (Who × Call)
calls_in f = record { version = f.version; layout = f.shape; items = f.calls.items }

abbrev pub file_of_history : HistoryFile → File Entry
file_of_history f = record { version = f.version; layout = f.shape; items = f.entries.items }
