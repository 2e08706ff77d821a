use Rattle.std.proofs.Common.{◌++◌}
use Rattle.std.proofs.lemmas.Result.{on_ok_weaker, IfErr-weaker}
use Rattle.audit_pcapng.specs.Stretches.{Stops}
use Rattle.audit_pcapng.proofs.Texts.{Consumes-then, Stops-then}
use Rattle.audit_pcapng.proofs.reader.BlockReader.take.Goals as goal

pub returns-in-Some-clause-ok : goal.returns-in-Some-clause-ok
returns-in-Some-clause-ok c = λ cut.
    let first = rw c.in-Some.is at (c.in_ok-complete.ensures.ok cut) in
    on_ok_weaker c.begin-in-Some.result
    (Consumes-then c.args.self.now.scope c.complete.new.scope c.begin-in-Some.new.self.scope (c.args.self.now.held.items ++ c.args.piece.now) c.in-Some.rest.now c.begin-in-Some.new.self.held.items
    c.args.out.now.items c.complete.new.out.items c.begin-in-Some.new.out.items first)
    c.begin-in-Some.ensures.ok

pub returns-in-Some-clause-err : goal.returns-in-Some-clause-err
returns-in-Some-clause-err c = λ cut.
    let first = rw c.in-Some.is at (c.in_ok-complete.ensures.ok cut) in
    IfErr-weaker c.begin-in-Some.result
    (Stops c.complete.new.scope c.in-Some.rest.now c.complete.new.out.items c.begin-in-Some.new.out.items)
    (Stops c.args.self.now.scope (c.args.self.now.held.items ++ c.args.piece.now) c.args.out.now.items c.begin-in-Some.new.out.items)
    (λ fault stopped. Stops-then c.args.self.now.scope c.complete.new.scope (c.args.self.now.held.items ++ c.args.piece.now) c.in-Some.rest.now
    c.args.out.now.items c.complete.new.out.items c.begin-in-Some.new.out.items fault first stopped)
    c.begin-in-Some.ensures.err
