use Rattle.std.proofs.Common.{ℕ, List, [], subst, append-nil}
use Rattle.std.proofs.lemmas.Result.{err_from_is_err_and, MatchResult-weaker}
use Rattle.audit_text.specs.declared.line_fault.LineFault.{LineFault}
use Rattle.audit_text.specs.Reading.{UnlessMemory}
use Rattle.watch_checkpoint.specs.Content.{header_content}
use Rattle.watch_checkpoint.specs.declared.fault.LineKind.{LineKind}
use Rattle.watch_checkpoint.specs.Fault.{is_memory}
use Rattle.watch_checkpoint.specs.Adding.{begun}
use Rattle.watch_checkpoint.specs.Reading.{entries_read}
use Rattle.watch_checkpoint.proofs.reading.read_entries.Goals as goal

pub returns-in_err-feed : goal.returns-in_err-feed
unfolding entries_read
returns-in_err-feed c =
    let p = err_from_is_err_and c.from_residual.result c.from_residual.ensures.1 in
    let start = begun c.args.grace (header_content c.args.header) c.args.moment in
    rw (p.1, p.2) (subst (λ (text : List ℕ). UnlessMemory (λ (f : LineFault LineKind). is_memory f.kind) c.in_err-feed.field-0.0 (entries_read start text)) (append-nil c.args.text.now)
    (c.in_err-feed.ensures.err start [] (c.new-reader.ensures start c.new.ensures) []))

pub returns : goal.returns
unfolding entries_read
returns c =
    let start = begun c.args.grace (header_content c.args.header) c.args.moment in
    MatchResult-weaker c.finish.result (c.finish.ensures start c.args.text.now (c.in_ok-feed.ensures.ok start [] (c.new-reader.ensures start c.new.ensures))) (λ draft e. e) (λ fault e _. e)
