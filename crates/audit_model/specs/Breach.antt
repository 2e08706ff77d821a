-- The order in which breaches are reported: by moment, tie, lane, rule, place and sighting. The
-- rule is compared before the place.
use Rattle.std.specs.Prelude.{Option, Some, None}
use Rattle.std.specs.declared.cmp.Ordering.{Ordering}
use Rattle.std.specs.declared.cmp.Ordering.TheVariants.{Less, Equal, Greater}
use Rattle.std.specs.Ordering.{nat_cmp, ordering_then}
use Rattle.audit_model.specs.declared.verdict.Breach.{Breach}
use Rattle.audit_model.specs.declared.sighting.SightId.{SightId}
use Rattle.audit_model.specs.declared.event.Key.{Key}
use Rattle.audit_model.specs.Rule.{rule_cmp}

abbrev pub key_cmp : Key → Key → Ordering
key_cmp a b = ordering_then (nat_cmp a.moment b.moment) (nat_cmp a.tie b.tie)

abbrev pub sight_cmp : SightId → SightId → Ordering
sight_cmp a b = ordering_then (nat_cmp a.iface b.iface) (nat_cmp a.index b.index)

abbrev pub breach_cmp : Breach → Breach → Ordering
breach_cmp a b = ordering_then (ordering_then (ordering_then (ordering_then (key_cmp a.at.key b.at.key) (nat_cmp a.at.lane b.at.lane))
    (rule_cmp a.rule b.rule)) (nat_cmp a.at.place b.at.place)) (sight_cmp a.sight b.sight)

abbrev pub lesser_by : Ordering → Breach → Breach → Option Breach
lesser_by Less one other = Some other
lesser_by Equal one other = Some one
lesser_by Greater one other = Some one

-- the one of two breaches that is reported; the first if they rank alike
abbrev pub lesser : Option Breach → Option Breach → Option Breach
lesser None other = other
lesser (Some one) None = Some one
lesser (Some one) (Some other) = lesser_by (breach_cmp other one) one other
