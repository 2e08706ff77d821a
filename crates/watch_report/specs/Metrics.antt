-- All metrics.
use Rattle.std.specs.Prelude.{ℕ, List, [], ◌++◌, flat_map, Option, Some, None, Bool, if◌then◌else◌, codes}
use Rattle.watch_report.specs.declared.metrics.Metrics.{Metrics}
use Rattle.watch_report.specs.declared.metrics.BreachCount.{BreachCount}
use Rattle.watch_report.specs.Exposition.{gauge, counter, seconds, heading, labelled}

abbrev pub number_of : Bool → ℕ
number_of flag = if flag then 1 else 0

-- what is claimed
unfoldable pub claim_text : Metrics → List ℕ
claim_text m =
    gauge (codes "turnwatch_conforming") (codes "Whether all that was captured since the claim began conforms so far (1) or not (0).") (number_of m.conforming)
    ++ (seconds (codes "turnwatch_claim_begin_timestamp_seconds") (codes "When the present claim began, by the captures, in seconds since 1970.") m.claim_begin
    ++ (seconds (codes "turnwatch_judged_up_to_timestamp_seconds") (codes "The moment up to which all is judged, by the captures, in seconds since 1970.") m.judged_up_to
    ++ seconds (codes "turnwatch_lag_seconds") (codes "Time from the moment up to which all is judged until the newest captured datagram.") m.lag))

-- what was judged
unfoldable pub traffic_text : Metrics → List ℕ
traffic_text m =
    heading (codes "turnwatch_datagrams_total") (codes "Judged datagrams between the server and clients, or peers.") (codes "counter")
    ++ (labelled (codes "turnwatch_datagrams_total") (codes "side") (codes "client") m.client_datagrams
    ++ (labelled (codes "turnwatch_datagrams_total") (codes "side") (codes "peer") m.peer_datagrams
    ++ counter (codes "turnwatch_relayed_bytes_total") (codes "Bytes of application data that the server relayed.") m.relayed_bytes))

-- what the server has
unfoldable pub state_text : Metrics → List ℕ
state_text m =
    gauge (codes "turnwatch_allocations") (codes "Allocations that have not expired.") m.allocations
    ++ (gauge (codes "turnwatch_permissions") (codes "Permissions that have not expired.") m.permissions
    ++ (gauge (codes "turnwatch_channels") (codes "Channel bindings that have not expired.") m.channels
    ++ (gauge (codes "turnwatch_waiting_arrivals") (codes "Datagrams that arrived and on which the server may still act.") m.waiting_arrivals
    ++ gauge (codes "turnwatch_owed_departures") (codes "Datagrams that the server sent by an act and that have not left yet.") m.owed_departures)))

unfoldable pub breach_text : BreachCount → List ℕ
breach_text b = labelled (codes "turnwatch_breaches_total") (codes "rule") b.rule.now b.count

-- what happened
unfoldable pub events_text : Metrics → List ℕ
events_text m =
    heading (codes "turnwatch_breaches_total") (codes "Breaches, by the violated rule.") (codes "counter")
    ++ (flat_map breach_text m.breaches.now
    ++ (counter (codes "turnwatch_gaps_total") (codes "Gaps in the ring, each of which ended a claim.") m.gaps
    ++ counter (codes "turnwatch_epochs_total") (codes "Epochs, after each of which what is not needed any more is forgotten.") m.epochs))

-- nothing, if no checkpoint was written
unfoldable pub checkpoint_text : Option ℕ → List ℕ
checkpoint_text None = []
checkpoint_text (Some moment) = seconds (codes "turnwatch_checkpoint_timestamp_seconds") (codes "When the last checkpoint was written, in seconds since 1970.") moment

-- the process
unfoldable pub process_text : Metrics → List ℕ
process_text m = gauge (codes "turnwatch_resident_memory_bytes") (codes "Resident memory of the process.") m.resident_memory ++ checkpoint_text m.checkpoint

abbrev pub metrics_text : Metrics → List ℕ
metrics_text m = claim_text m ++ (traffic_text m ++ (state_text m ++ (events_text m ++ process_text m)))
