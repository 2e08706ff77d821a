use Rattle.audit_pcapng.proofs.Feeding.{refused}
use Rattle.audit_pcapng.proofs.Stepping.{begun, begun_within}
use Rattle.audit_pcapng.proofs.reader.BlockReader.start.Goals as goal

pub returns-in-Ok-Some-clause-ok : goal.returns-in-Ok-Some-clause-ok
returns-in-Ok-Some-clause-ok c = λ text packets stands.
    begun c.args.self.now _ text c.args.piece.now packets c.args.out.now.items c.complete.new.out.items c.in-Ok-Some.rest.now stands c.if-self.false
    (rw c.in-Ok-Some.field-0-is at c.in-Ok-Some.ensures.cut) (rw c.in-Ok-Some.field-0-is at (c.in-Ok-Some.ensures.ok stands.1.cut))

pub returns-in-Ok-None-clause-ok : goal.returns-in-Ok-None-clause-ok
returns-in-Ok-None-clause-ok c = λ text packets stands.
    begun_within c.args.self.now _ text c.args.piece.now packets c.args.out.now.items c.complete.new.out.items stands c.if-self.false
    (rw c.in-Ok-None.field-0-is at c.in-Ok-None.ensures.cut) (rw c.in-Ok-None.field-0-is at (c.in-Ok-None.ensures.ok stands.1.cut))

pub returns-in-Err-clause-err : goal.returns-in-Err-clause-err
returns-in-Err-clause-err c = λ text packets stands.
    refused c.args.self.now text c.args.piece.now packets c.args.out.now.items c.complete.new.out.items c.in-Err.fault stands (c.in-Err.ensures.err stands.1.cut)
