use Rattle.std.proofs.Common.{◌≡◌, IfOk, sym, subst, map}
use Rattle.std.specs.List.{IsDistinct}
use Rattle.audit_clients.specs.Clients.{same}
use Rattle.audit_finder.specs.Found.{pair_of}
use Rattle.audit_finder.proofs.finding.certificate_with.Goals as goal

pub certificate_of-requires-clause-apart : goal.certificate_of-requires-clause-apart
certificate_of-requires-clause-apart c = subst (IsDistinct same) (sym c.in_ok-filled.ensures.pairs) c.requires.apart

pub returns-clause-lanes : goal.returns-clause-lanes
returns-clause-lanes c =
    subst (λ pairs. IfOk c.certificate_of.result (λ certificate. map pair_of certificate.lanes ≡ pairs)) c.in_ok-filled.ensures.pairs c.certificate_of.ensures.lanes
