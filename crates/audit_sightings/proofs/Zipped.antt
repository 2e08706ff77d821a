-- Lists of which each element goes with that at its place.
use Rattle.std.proofs.Common.{◌≡◌, ℕ, zero, suc, ◌<◌, List, [], ◌∷◌, length, map, get_or, refl, arith, ◌++◌, ap, sym, ◌∙◌, append_assoc}
use Rattle.std.specs.List.{AllZip}
use Rattle.audit_model.specs.declared.policy.Policy.{Policy}
use Rattle.audit_model.specs.declared.sighting.Sighting.{Sighting}
use Rattle.audit_pcapng.specs.declared.packet.PacketSlice.{PacketSlice}
use Rattle.audit_pcapng.specs.Packets.{packet_of}
use Rattle.audit_sightings.specs.declared.fault.IntakeFaultKind.TheVariants.{Memory}
use Rattle.audit_sightings.specs.declared.fault.IntakeFaultKind.{IntakeFaultKind}
use Rattle.audit_pcapng.specs.declared.packet.Packet.{Packet}
use Rattle.audit_sightings.specs.Sightings.{TakesIn, Stops}
use Rattle.audit_sightings.proofs.AddPacketsSteps.{TakesIn-none, TakesIn-then}

pub zip_at : {X Y : Type 0} (R : X → Y → Type 0) (xs : List X) (ys : List Y) (i : ℕ) (d : X) (e : Y) → AllZip R xs ys → i < length xs → R (get_or xs i d) (get_or ys i e)
zip_at R [] ys i d e h lt = absurd (omega arith)
zip_at R (x ∷ xs) [] i d e h lt = absurd h
zip_at R (x ∷ xs) (y ∷ ys) zero d e h lt = h.0
zip_at R (x ∷ xs) (y ∷ ys) (suc i) d e h lt = zip_at R xs ys i d e h.1 (omega arith)

-- what stands for the packet of a place where there is none
abbrev pub no_packet : PacketSlice
no_packet = record { stamp = 0; bytes = record { ref_ptr = (0, 0); now = [] }; iface = 0; captured = 0; original = 0 }

-- without memory the first packet is not taken in
pub stops_first : (policy : Policy) (interfaces : List (List Sighting)) (file : ℕ) (packets : List PacketSlice) → (length packets ≡ 0 → ⊥) → Stops policy interfaces file (map packet_of packets) interfaces Memory
stops_first policy interfaces file [] some = absurd (some refl)
stops_first policy interfaces file (packet ∷ packets) some =
    record { before = []; packet = packet_of packet; after = map packet_of packets; parts = refl; taken = TakesIn-none policy interfaces file; refused = tt }

-- the one packet is the first that is refused
pub one_stops : (policy : Policy) (old mid new : List (List Sighting)) (file : ℕ) (all before after : List Packet) (packet : Packet) (fault : IntakeFaultKind) → all ≡ before ++ packet ∷ after → TakesIn policy old file before mid
    → Stops policy mid file (packet ∷ []) new fault → Stops policy old file all new fault
one_stops policy old mid new file all before after packet fault parts taken stops =
    let behind : packet ∷ after ≡ stops.before ++ stops.packet ∷ (stops.after ++ after) = ap (λ (p : List Packet). p ++ after) stops.parts ∙ append_assoc stops.before (stops.packet ∷ stops.after) after in
    record {
      before = before ++ stops.before;
      packet = stops.packet;
      after = stops.after ++ after;
      parts = parts ∙ ap (λ (p : List Packet). before ++ p) behind ∙ sym (append_assoc before stops.before (stops.packet ∷ (stops.after ++ after)));
      taken = TakesIn-then policy old mid new file before stops.before taken stops.taken;
      refused = stops.refused;
    }
