use Rattle.std.proofs.Common.{◌≤◌, take}
use Rattle.std.specs.Prelude.{flat_map}
use Rattle.std.specs.Io.KnownBytes.{Appends}
use Rattle.cmwq_model.specs.Prelude.{past_of}
use Rattle.cmwq_views.specs.Open.{section_text}
use Rattle.cmwq_views.specs.declared.standing.TheConstants.{SECTIONS}
use Rattle.cmwq_views.proofs.open.write_sections.Given as goal

abbrev pub invariant-loop-section : goal.invariant-loop-section
invariant-loop-section g l = record {
  text : Appends (g.W.Sink.written l.fn.sink) (g.W.Sink.written l.sink)
      (flat_map (section_text l.standing.layout (past_of l.standing.entries)) (take l.section-index SECTIONS));
  troubles : g.W.Sink.troubles l.fn.sink ≤ g.W.Sink.troubles l.sink;
}
