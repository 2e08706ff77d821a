use Rattle.audit_live.specs.declared.front.Front.{Front}
use Rattle.audit_live.proofs.Known.{known_first}
use Rattle.audit_live.proofs.front.Front.new.Goals as goal

pub returns-clause-knows : goal.returns-clause-knows
returns-clause-knows c = λ taken key_for numbered.
    let front : Front = record { placing = c.new.result; lanes = c.new-2.result } in
    known_first taken key_for front numbered c.new.ensures.lanes c.new.ensures.drops (c.new.ensures.keeps taken) c.new-2.ensures.lanes c.new-2.ensures.owed
