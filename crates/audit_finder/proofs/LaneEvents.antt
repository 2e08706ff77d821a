-- An event more in a lane.
use Rattle.std.proofs.Common.{◌≡◌, ◌<◌, ◌≤◌, ◌+◌, ℕ, List, All, length, map, set, get_or, sum_by, ap, arith, sym, subst}
use Rattle.std.proofs.Math.Seq.{map-set_same}
use Rattle.std.proofs.lemmas.List.Sums.{sum_by-set}
use Rattle.std.proofs.lemmas.List.Elements.{All-set}
use Rattle.audit_model.specs.declared.certificate.CertLane.{CertLane}
use Rattle.audit_model.specs.declared.event.Event.{Event}
use Rattle.audit_model.specs.declared.sighting.SightId.{SightId}
use Rattle.audit_model.specs.EventCount.{event_count}
use Rattle.audit_sightings.specs.Intake.{Taken, NamesWhatIsThere}
use Rattle.audit_finder.specs.Found.{pair_of, AllNamed}
use Rattle.audit_finder.specs.Departures.{out_of, outs, out_count}

module _ (lanes : List CertLane) (i : ℕ) (lane : CertLane) (events : List Event) (within : i < length lanes) (here : lane ≡ get_or lanes i lane) where
  abbrev after : CertLane
  after = record { events = events; client = lane.client; listen = lane.listen }

  pub pairs_set : map pair_of (set lanes i after) ≡ map pair_of lanes
  pairs_set = map-set_same pair_of lanes i after lane (ap pair_of here)

  pub count_set : length events ≤ length lane.events + 1 → event_count (set lanes i after) ≤ event_count lanes + 1
  count_set more =
      let sums = sum_by-set (λ (l : CertLane). length l.events) lanes i after lane within in
      let size : length (get_or lanes i lane).events ≡ length lane.events = ap (λ (l : CertLane). length l.events) (sym here) in
      omega (arith, sums, size, more)

  -- how often a sighting leaves by lanes of which one has other events
  pub outs_set : (s : SightId) (n : ℕ) → sum_by (out_of s) events ≤ sum_by (out_of s) lane.events + n → out_count s (set lanes i after) ≤ out_count s lanes + n
  outs_set s n more =
      let sums = sum_by-set (outs s) lanes i after lane within in
      let size : outs s (get_or lanes i lane) ≡ outs s lane = ap (outs s) (sym here) in
      omega (arith, sums, size, more)

  pub named_set : (taken : Taken) → All (NamesWhatIsThere taken) events → AllNamed taken lanes → AllNamed taken (set lanes i after)
  named_set taken named all = All-set (λ (l : CertLane). All (NamesWhatIsThere taken) l.events) lanes i after named all

  -- what holds of each event of each lane holds of those of one
  pub named_at : (taken : Taken) → AllNamed taken lanes → All (NamesWhatIsThere taken) lane.events
  named_at taken all = subst (λ (l : CertLane). All (NamesWhatIsThere taken) l.events) (sym here) (all i lane within)
