use Rattle.std.proofs.Common.{◌∙◌, ap₂, subst}
use Rattle.cmwq_history.proofs.Followed.{write_ends}
use Rattle.cmwq_history.specs.Views.{WriteEnds}
use Rattle.cmwq_model.specs.Prelude.{past_of}
use Rattle.cmwq_resume.specs.Leavings.{is_again}
use Rattle.cmwq_resume.specs.Resume.{resume_calls}
use Rattle.cmwq_text.specs.HistoryText.{calls_text}
unfoldable use Rattle.cmwq_cmd_resume.specs.Resumed.{resumed_text}
use Rattle.cmwq_cmd_resume.specs.Resumed.{by_first}
use Rattle.cmwq_cmd_resume.proofs.resume.ResumingView.write.Goals as goal

pub returns-clause-ends : goal.returns-clause-ends
unfolding resumed_text
returns-clause-ends g c =
    let again = is_again c.args.self.now.left_out.now in
    let text = c.deref-2.ensures.value ∙ c.in_ok-text.ensures
    ∙ ap₂ (λ s calls. calls_text c.args.version s (by_first calls)) c.requires.made.layout
    (c.deref.ensures.value ∙ c.in_ok-calls.ensures.calls
    ∙ ap₂ (λ s entries. resume_calls s again (past_of entries)) c.state.ensures.layout c.state.ensures.entries) in
    subst (λ t. WriteEnds (g.W.Sink.written c.args.sink.now) (g.W.Sink.written c.write_text.new.sink) t
    c.write_text.result) text
    (write_ends _ _ _ c.write_text.result c.write_text.ensures.ok c.write_text.ensures.err c.write_text.ensures.only)
