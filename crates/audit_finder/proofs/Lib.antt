mod LaneEvents
mod Departures
mod Found
