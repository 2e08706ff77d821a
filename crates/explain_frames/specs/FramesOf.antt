-- Which packet of a file shows a sighting.
use Rattle.std.specs.Prelude.{◌≡◌, ℕ, Bool, true, false, ◌+◌, ◌*◌, ◌-◌, ◌^◌, ◌<◌, ◌==◌, List, Option, Some, None, min, option_map, slice_get, cond, if◌then◌else◌}
use Rattle.std.specs.List.{filter_map, enumerate_from}
use Rattle.audit_model.specs.declared.policy.Policy.{Policy}
use Rattle.audit_model.specs.declared.sighting.SightId.{SightId}
use Rattle.audit_pcapng.specs.declared.packet.Packet.{Packet}
use Rattle.audit_sightings.specs.Sightings.{kept_in}
use Rattle.audit_sights.specs.Found.{found}
use Rattle.explain_frames.specs.declared.frames.Frame.{Frame}
use Rattle.explain_frames.specs.declared.frames.Frames.{Frames}

-- a packet's frame; its number is saturated at 64 bits
abbrev pub frame_of : ℕ → Packet → Frame
frame_of number packet = record { number = min number (2 ^ 64 - 1); stamp = packet.stamp }

-- the frame of a packet, if it has a datagram of the service on the interface with this number in
-- its file
abbrev pub frame_if : Policy → ℕ → ℕ × Packet → Option Frame
frame_if policy number numbered = if numbered.1.iface == number then option_map (λ _. frame_of numbered.0 numbered.1) (kept_in policy numbered.1) else None

-- The frames of the datagrams of the service on an interface, in block order, among the packets of
-- a file, the first of which is frame 1. These datagrams are the interface's sightings
-- (audit_sightings, sightings_of).
unfoldable pub frames_of : Policy → ℕ → List Packet → List Frame
frames_of policy number packets = filter_map (frame_if policy number) (enumerate_from 1 packets)

-- the entry of a requested sighting: nothing, or its frame
abbrev pub kept_for : Frames → SightId → Option (Option Frame)
kept_for frames sight = found frames.found sight

-- the sighting at an index of an interface, by the interface's number in its file
abbrev pub sight_at : ℕ → ℕ → ℕ → SightId
sight_at file number index = record { iface = 64 * file + number; index = index }

-- For each sighting: if it is requested, the entry is the frame of the datagram at its index, if
-- the packets of its file have one.
abbrev pub Shows : Frames → Policy → (SightId → Bool) → (ℕ → List Packet) → Type 0
Shows frames policy asked packets_of = (file number index : ℕ) → number < 64 → index < 2 ^ 32
    → kept_for frames (sight_at file number index) ≡ cond (asked (sight_at file number index)) (Some (slice_get (frames_of policy number (packets_of file)) index)) None

-- whether one of two conditions is true, and not both
abbrev pub one_of : Bool → Bool → Bool
one_of true true = false
one_of true false = true
one_of false true = true
one_of false false = false
