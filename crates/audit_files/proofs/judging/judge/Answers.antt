use Rattle.audit_files.proofs.Fed.{if_ok}
use Rattle.audit_files.proofs.judging.judge.Goals as goal

pub returns-clause-judged : goal.returns-clause-judged
returns-clause-judged g c = if_ok c.write_verdict.result (λ status told. record {
  verdict = c.in_ok-verdict.verdict;
  is = c.in_ok-verdict.ensures.verdict;
  written = told.0;
  told = told.1;
  conforming = c.in_ok-verdict.ensures.conforming;
  headline = c.in_ok-verdict.ensures.headline;
}) c.write_verdict.ensures.told
