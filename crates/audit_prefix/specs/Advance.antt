-- When an extension is between the horizons of its turn.
use Rattle.std.specs.Prelude.{ℕ, ◌≤◌, ◌<◌, All, Option, Some, None, IfSome}
use Rattle.std.specs.List.{AllByRecursion}
use Rattle.audit_model.specs.declared.certificate.Certificate.{Certificate}
use Rattle.audit_model.specs.declared.extension.Extension.{Extension}
use Rattle.audit_model.specs.Event.{key_of}
use Rattle.audit_server.specs.Placed.{Placed}
use Rattle.audit_whole.specs.Glued.{all_placed}

-- everything that it places is at or before the horizon
abbrev pub StandsBy : ℕ → Certificate → Type 0
StandsBy horizon certificate = AllByRecursion (λ (e : Placed). e.at.key.moment ≤ horizon) (all_placed certificate)

-- before the first horizon nothing is placed
abbrev pub StandsByLast : Option ℕ → Certificate → Type 0
StandsByLast None certificate = AllByRecursion (λ (e : Placed). ⊥) (all_placed certificate)
StandsByLast (Some last) certificate = StandsBy last certificate

-- its moments have the property
abbrev pub OfMoments : (ℕ → Type 0) → Extension → Type 0
OfMoments P extension = All (λ event. P (key_of event.1).moment) extension.events × All (λ dropped. P dropped.key.moment) extension.drops

-- each of its events and drops is after the last horizon, and at or before the new one
abbrev pub IsInTurn : Option ℕ → ℕ → Extension → Type 0
IsInTurn last horizon extension = OfMoments (λ moment. IfSome last (λ before. before < moment) × (moment ≤ horizon)) extension
