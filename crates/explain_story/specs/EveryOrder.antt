-- What the explanation says about all orders of the captured datagrams, by the faults they show.
use Rattle.std.specs.Prelude.{◌≡◌, ◌<◌, List, [], Option, Some, None, Any, length}
use Rattle.audit_faults.specs.declared.fault.ShownFault.{ShownFault}
use Rattle.explain_story.specs.declared.verdict.InEveryOrder.{InEveryOrder}
use Rattle.explain_story.specs.declared.verdict.InEveryOrder.TheVariants.{Here, Elsewhere}

-- a fault is reported of this departure only if it is one of them, and too late only if it is; of
-- other departures their number, if there are some
abbrev pub SaysOne : List ShownFault → InEveryOrder → Type 0
SaysOne faults (Here fault count too_late) = Any (λ shown. (shown.fault ≡ fault) × (shown.may_predate ≡ too_late)) faults
SaysOne faults (Elsewhere count) = (count ≡ length faults) × (0 < count)

-- there is no report only if no departure shows a fault
abbrev pub Says : List ShownFault → Option InEveryOrder → Type 0
Says faults (Some said) = SaysOne faults said
Says faults None = faults ≡ []
