-- A payload that says something is a message.
use Rattle.audit_stun.specs.Parts.{parts_of}
use Rattle.prep_cut.proofs.lease.said_in.Goals as goal

pub returns-in-None-clause-only : goal.returns-in-None-clause-only
returns-in-None-clause-only c = λ said is. let some = (c.message.ensures.only (parts_of c.args.payload.now) is.message).0 in let off = rw c.in-None.is at some in absurd cc
