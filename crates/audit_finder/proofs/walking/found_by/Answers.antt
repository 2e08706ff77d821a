use Rattle.std.proofs.Common.{List, arith, sym, ap, length, subst}
use Rattle.std.proofs.lemmas.List.{length-map}
use Rattle.std.specs.List.{IsDistinct}
use Rattle.audit_clients.specs.Clients.{Pair, same}
use Rattle.audit_finder.specs.Found.{pair_of}
use Rattle.audit_finder.proofs.walking.found_by.Goals as goal

pub certificate_of-requires-clause-apart : goal.certificate_of-requires-clause-apart
certificate_of-requires-clause-apart c = subst (IsDistinct same) (sym c.in_ok-filled.ensures.pairs) c.lanes-pairs.ensures.apart

pub certificate_of-requires-clause-few : goal.certificate_of-requires-clause-few
certificate_of-requires-clause-few c =
    omega (arith, length-map c.in_ok-filled.filled.lanes.items pair_of, ap (λ (ps : List Pair). length ps) c.in_ok-filled.ensures.pairs, c.lanes-pairs.ensures.few)
