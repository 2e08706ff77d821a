use Rattle.audit_server.specs.Captured.{rules_of}
use Rattle.audit_server.proofs.Lawful.{lawful}
use Rattle.audit_server.proofs.Verdict.{complete, sound}
use Rattle.audit_server.proofs.laws.lanes_are_the_whole.Goals as goal

pub returns-clause-whole : goal.returns-clause-whole
returns-clause-whole c = λ policy key_for sighting pairs lanes distinct numbered rise of_pairs.
    sound (rules_of policy key_for sighting) (lawful policy key_for sighting) pairs distinct lanes numbered rise of_pairs

pub returns-clause-each : goal.returns-clause-each
returns-clause-each c = λ policy key_for sighting pairs lanes distinct numbered rise of_pairs.
    complete (rules_of policy key_for sighting) (lawful policy key_for sighting) pairs distinct lanes numbered rise of_pairs
