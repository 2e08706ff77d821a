use Rattle.std.proofs.Common.{sym, subst, []}
use Rattle.std.specs.List.{IsDistinct}
use Rattle.audit_model.specs.Lanes.{same_lane}
use Rattle.audit_order.proofs.portions.no_certificate.Goals as goal

none_apart : IsDistinct same_lane []
unfolding IsDistinct
none_apart = tt

pub invariant_of-result-clause-distinct : goal.invariant_of-result-clause-distinct
invariant_of-result-clause-distinct c = subst (IsDistinct same_lane) (sym c.new.ensures) none_apart
