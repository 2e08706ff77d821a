use Rattle.std.proofs.Common.{◌≡◌, ◌≢◌, [], refl, arith}
use Rattle.std.proofs.lemmas.Grind.{common_steps}
use Rattle.audit_pcapng.proofs.Stepping.{at_end, stepped, read_all, ends_by}
use Rattle.audit_pcapng.proofs.reader.BlockReader.next.Goals as goal

pub returns-then-is_empty-clause-none : goal.returns-then-is_empty-clause-none
returns-then-is_empty-clause-none c = λ text packets at.
    let end : c.args.rest.now ≡ [] = grind (arith, common_steps) in
    at_end c.args.self.now text packets c.args.rest.now end at

pub returns-in-Ok-Some-default-clause-packet : goal.returns-in-Ok-Some-default-clause-packet
returns-in-Ok-Some-default-clause-packet c = λ text packets at.
    let some : c.args.rest.now ≢ [] = grind (arith, common_steps) in
    stepped c.args.self.now _ text packets c.args.rest.now c.in-Ok-Some-default.behind.now c.in-Ok-Some-default.packet at some c.if-self.false refl (rw c.in-Ok-Some-default.field-0-0-is at c.in-Ok-Some-default.ensures.ok)

pub returns-in-Ok-clause-none : goal.returns-in-Ok-clause-none
returns-in-Ok-clause-none c = λ text packets at.
    let some : c.args.rest.now ≢ [] = grind (arith, common_steps) in
    read_all c.args.self.now (record c.args.self.now { scope = c.next_packet.new.scope; held = c.extend_from_slice.new.self }) text packets c.args.rest.now c.in-Ok-None-default.behind.now at some c.if-self.false c.in-Ok.ensures.items
    (rw c.in-Ok-None-default.field-0-0-is at c.in-Ok-None-default.ensures.cut) (rw c.in-Ok-None-default.field-0-0-is at c.in-Ok-None-default.ensures.ok)

pub returns-in-Err-clause-err : goal.returns-in-Err-clause-err
returns-in-Err-clause-err c = λ text packets at.
    let some : c.args.rest.now ≢ [] = grind (arith, common_steps) in
    ends_by c.args.self.now text packets c.args.rest.now c.in-Err.fault at some c.in-Err.ensures.err
