use Rattle.std.proofs.Common.{arith}
use Rattle.audit_cert.proofs.Drafts.{pushed_last, kept_last}
use Rattle.audit_cert.proofs.draft.push_last.Goals as goal

pub returns-clause-ok : goal.returns-clause-ok
returns-clause-ok c = pushed_last c.push.result c.args.event c.args.lanes.now.items _ c.index_mut.result.now c.push.new.self (omega arith) c.index_mut.ensures.value c.push.ensures.ok

pub returns-clause-err : goal.returns-clause-err
returns-clause-err c = kept_last c.push.result c.args.lanes.now.items _ c.index_mut.result.now c.push.new.self c.index_mut.ensures.value c.push.ensures.err
