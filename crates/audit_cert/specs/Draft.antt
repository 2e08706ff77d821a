-- A draft keeps the limits of a certificate, and the pairs of its lanes.
use Rattle.std.specs.Prelude.{◌≡◌, ◌≤◌, ◌+◌, true, length}
use Rattle.std.specs.List.{IsDistinct}
use Rattle.audit_model.specs.EventCount.{event_count}
use Rattle.audit_model.specs.Lanes.{same_lane, has_pair}
use Rattle.audit_model.specs.declared.certificate.TheConstants.{MAX_LANES, MAX_EVENTS, MAX_SKEWS}
use Rattle.audit_model.specs.declared.address.Addr.{Addr}
use Rattle.audit_model.specs.LanePairs.{has}
use Rattle.audit_model.specs.Skews.{rise}
use Rattle.audit_cert.specs.DraftView.{Drafted}
use Rattle.audit_cert.specs.declared.draft.CertificateDraft.TheInside.{Inside}

abbrev pub drafted : Inside → Drafted
drafted d = record { lanes = d.lanes.items; drops = d.drops; skews = d.skews }

pub record IsSound (d : Inside) : Type 0 where
  pub counted : d.events ≡ event_count d.lanes.items + length d.drops
  pub few_events : d.events ≤ MAX_EVENTS
  pub paired : (client listen : Addr) → has d.pairs client listen ≡ has_pair client listen d.lanes.items
  pub distinct : IsDistinct same_lane d.lanes.items
  pub few_lanes : length d.lanes.items ≤ MAX_LANES
  pub rising : rise d.skews ≡ true
  pub few_skews : length d.skews ≤ MAX_SKEWS
