use Rattle.std.proofs.Common.{ℕ, List, ap}
use Rattle.std.proofs.Output.{has_written_of_eq}
use Rattle.audit_model.specs.Addr.{octets_text}
use Rattle.audit_model.proofs.address.AddrDisplay.fmt.Goals as goal

pub returns-clause-writes : goal.returns-clause-writes
returns-clause-writes g c = λ plain ok.
    has_written_of_eq _ _ _ _ _ (ap (λ (octets : List ℕ). octets_text octets c.args.self.now.port) c.to_be_bytes.ensures) (c.write.ensures.writes plain ok)
