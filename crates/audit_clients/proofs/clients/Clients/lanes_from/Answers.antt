use Rattle.std.proofs.Common.{◌≤◌, List, length, take, drop, ap, sym, subst, ◌∙◌}
use Rattle.std.specs.List.{IsDistinct}
use Rattle.audit_model.specs.declared.certificate.TheConstants.{MAX_LANES}
use Rattle.audit_clients.specs.Clients.{Pair, same}
use Rattle.audit_clients.proofs.Kept.{kept_apart, kept_few}
use Rattle.audit_clients.proofs.clients.Clients.lanes_from.Goals as goal

pub returns-clause-which : goal.returns-clause-which
returns-clause-which c = c.from.ensures ∙ ap (drop c.args.first) (c.with_lanes.ensures ∙ ap (take MAX_LANES) c.as_slice.ensures.pairs)

pub returns-clause-apart : goal.returns-clause-apart
returns-clause-apart c =
    subst (IsDistinct same) (sym (c.from.ensures ∙ ap (drop c.args.first) (c.with_lanes.ensures ∙ ap (take MAX_LANES) c.as_slice.ensures.pairs)))
    (kept_apart c.args.first MAX_LANES c.args.self.now.pairs c.as_slice.ensures.apart)

pub returns-clause-few : goal.returns-clause-few
returns-clause-few c =
    subst (λ (pairs : List Pair). length pairs ≤ MAX_LANES) (sym (c.from.ensures ∙ ap (drop c.args.first) (c.with_lanes.ensures ∙ ap (take MAX_LANES) c.as_slice.ensures.pairs)))
    (kept_few c.args.first MAX_LANES c.args.self.now.pairs)
