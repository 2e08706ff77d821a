-- Which lines exclude a departure only together with its arrival.
use Rattle.std.specs.Prelude.{Bool, true, false}
use Rattle.prep_cut.specs.declared.reason.Reason.{Reason}
use Rattle.prep_cut.specs.declared.reason.Reason.TheVariants as reasons

-- a departure excluded by it must have its arrival excluded as well
abbrev pub needs_cause : Reason → Bool
needs_cause reasons.BeforeSince = false
needs_cause (reasons.Client pair) = true
needs_cause (reasons.Answer pair) = false
needs_cause (reasons.AddressOf relayed tenure pair) = true
needs_cause (reasons.AddressTold relayed tenure client) = false
needs_cause (reasons.Address relayed tenure) = false
needs_cause (reasons.Released pair relayed moment) = true
needs_cause (reasons.Dtls pair) = false
needs_cause (reasons.Inner pair peer) = true
needs_cause (reasons.Inside from to) = false
needs_cause reasons.Edge = false
needs_cause reasons.AfterUntil = false
