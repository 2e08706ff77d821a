-- The certificates that have a spelling: their numbers fit their types and the limits, no two lanes
-- have one pair, and skews are in rising order.
use Rattle.std.specs.Prelude.{◌≡◌, ◌≤◌, ◌<◌, ◌^◌, true, length}
use Rattle.std.specs.List.{AllByRecursion, IsDistinct}
use Rattle.audit_model.specs.Fits.{AddrFits}
use Rattle.audit_model.specs.declared.sighting.SightId.{SightId}
use Rattle.audit_model.specs.declared.event.Key.{Key}
use Rattle.audit_model.specs.declared.event.Event.{Event}
use Rattle.audit_model.specs.declared.event.Event.TheVariants.{In, Act, Out}
use Rattle.audit_model.specs.declared.certificate.CertLane.{CertLane}
use Rattle.audit_model.specs.declared.certificate.CertDrop.{CertDrop}
use Rattle.audit_model.specs.declared.certificate.CertSkew.{CertSkew}
use Rattle.audit_model.specs.declared.certificate.TheConstants.{MAX_LANES, MAX_EVENTS, MAX_SKEWS}
use Rattle.audit_model.specs.Lanes.{same_lane}
use Rattle.audit_model.specs.Skews.{rise}
use Rattle.audit_cert.specs.DraftView.{Drafted}
use Rattle.audit_cert.specs.CertLines.{said_count}

abbrev pub SightFits : SightId → Type 0
SightFits s = (s.iface < 2 ^ 32) × (s.index < 2 ^ 32)

abbrev pub KeyFits : Key → Type 0
KeyFits k = (k.moment < 2 ^ 64) × (k.tie < 2 ^ 32)

abbrev pub EventFits : Event → Type 0
EventFits (In sight key) = SightFits sight × KeyFits key
EventFits (Act sight gives key) = SightFits sight × (SightFits gives × KeyFits key)
EventFits (Out sight key) = SightFits sight × KeyFits key

pub record LaneFits (lane : CertLane) : Type 0 where
  pub client : AddrFits lane.client
  pub listen : AddrFits lane.listen
  pub events : AllByRecursion EventFits lane.events

abbrev pub DropFits : CertDrop → Type 0
DropFits drop = SightFits drop.sight × KeyFits drop.key

abbrev pub SkewFits : CertSkew → Type 0
SkewFits skew = (skew.iface < 2 ^ 32) × (skew.microseconds < 2 ^ 64)

pub record IsCertificate (said : Drafted) : Type 0 where
  pub lanes : AllByRecursion LaneFits said.lanes
  pub drops : AllByRecursion DropFits said.drops
  pub distinct : IsDistinct same_lane said.lanes
  pub few_lanes : length said.lanes ≤ MAX_LANES
  pub few_events : said_count said ≤ MAX_EVENTS
  pub skews : AllByRecursion SkewFits said.skews
  pub rising : rise said.skews ≡ true
  pub few_skews : length said.skews ≤ MAX_SKEWS
