use Rattle.std.proofs.Common.{◌∙◌}
use Rattle.audit_model.specs.declared.certificate.TheConstants.{MAX_LANES}
use Rattle.audit_clients.specs.Clients.{same}
use Rattle.audit_clients.proofs.Places.{nowhere, too_far, within}
use Rattle.audit_clients.proofs.clients.Clients.lane_of.Goals as goal

pub returns-in_err-place-clause-which : goal.returns-in_err-place-clause-which
returns-in_err-place-clause-which c =
    c.from_residual.ensures ∙ nowhere (same (c.args.client, c.args.listen)) MAX_LANES c.args.self.now.pairs c.in_err-place.ensures

pub returns-then-place-ge-MAX_LANES-clause-which : goal.returns-then-place-ge-MAX_LANES-clause-which
returns-then-place-ge-MAX_LANES-clause-which c =
    too_far (same (c.args.client, c.args.listen)) MAX_LANES c.args.self.now.pairs c.in_ok-place.place c.in_ok-place.ensures c.if-place-ge-MAX_LANES.true

pub returns-clause-which : goal.returns-clause-which
returns-clause-which c =
    within (same (c.args.client, c.args.listen)) MAX_LANES c.args.self.now.pairs c.in_ok-place.place c.in_ok-place.ensures c.if-place-ge-MAX_LANES.false
