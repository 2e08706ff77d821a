use Rattle.std.proofs.Common.{◌∙◌}
use Rattle.audit_pcapng.proofs.Feeding.{fed, refused}
use Rattle.audit_pcapng.proofs.reader.BlockReader.feed.Goals as goal

pub returns-in-Ok-clause-ok : goal.returns-in-Ok-clause-ok
returns-in-Ok-clause-ok c = λ text packets stands.
    fed c.args.self.now c.take.new.self text c.args.piece.now packets c.args.out.now.items c.take.new.out.items stands (c.take.ensures.failed ∙ c.if-self.false) c.in-Ok.ensures.cut (c.in-Ok.ensures.ok stands.1.cut)

pub returns-in-Err-clause-err : goal.returns-in-Err-clause-err
returns-in-Err-clause-err c = λ text packets stands.
    refused c.args.self.now text c.args.piece.now packets c.args.out.now.items c.take.new.out.items c.in-Err.fault stands (c.in-Err.ensures.err stands.1.cut)
