-- The breaches of one sighting, by its first place and that of the sighting before it on its
-- interface.
use Rattle.std.specs.Prelude.{ℕ, Option, Some, None, if◌then◌else◌}
use Rattle.std.specs.Ordering.{is_gt}
use Rattle.audit_model.specs.declared.event.At.{At}
use Rattle.audit_model.specs.declared.rule.Rule.TheVariants.{Unplaced, InterfaceOrder}
use Rattle.audit_model.specs.declared.sighting.Sighting.{Sighting}
use Rattle.audit_model.specs.declared.verdict.Breach.{Breach}
use Rattle.audit_model.specs.Breach.{key_cmp}
use Rattle.audit_placement.specs.Checks.{breach_at}

abbrev pub unplaced_breach : ℕ → ℕ → Sighting → Breach
unplaced_breach lanes drops sighting =
    breach_at (record { key = record { moment = sighting.stamp; tie = 0 }; lane = lanes; place = drops }) Unplaced sighting.id

abbrev pub order_breach : Option At → Option At → Sighting → Option Breach
order_breach None place sighting = None
order_breach (Some before) None sighting = None
order_breach (Some before) (Some at) sighting = if is_gt (key_cmp at.key before.key) then None else Some (breach_at at InterfaceOrder sighting.id)
