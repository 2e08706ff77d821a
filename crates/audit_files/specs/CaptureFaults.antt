-- The first fault of the captures, in their order.
use Rattle.std.specs.Prelude.{◌≡◌, ◌⊎◌, ◌+◌, ◌<◌, [], ℕ, Bool, List, Some, Err, Option, IfNone, IfSome, length, map, take, slice_get, slice_index_or}
use Rattle.std.proofs.Common.{Bor}
use Rattle.audit_model.specs.declared.policy.Policy.{Policy}
use Rattle.audit_model.specs.declared.sighting.Sighting.{Sighting}
use Rattle.audit_pcapng.specs.declared.packet.Packet.{Packet}
use Rattle.audit_pcapng.specs.Captures.{BeginsWith}
use Rattle.audit_sightings.specs.declared.fault.IntakeFault.{IntakeFault}
use Rattle.audit_sightings.specs.declared.fault.IntakeFaultKind.{IntakeFaultKind}
use Rattle.audit_sightings.specs.declared.fault.IntakeFaultKind.TheVariants.{Limit}
use Rattle.audit_sightings.specs.declared.intake.Intake.{Intake}
use Rattle.audit_sightings.specs.ByInterface.{count_of}
use Rattle.audit_sightings.specs.Files.{Fed, FilesEnd, IsNext, packets_of}
use Rattle.audit_sightings.specs.IntakeFault.{IsMemory}
use Rattle.audit_sightings.specs.Sightings.{AreSightings, AreSound, more_of}
use Rattle.audit_files.specs.declared.stop.Stop.{Stop}
use Rattle.audit_files.specs.declared.stop.Stop.TheVariants.{Memory}
use Rattle.audit_files.specs.Captures.{Took}
use Rattle.audit_files.specs.Refusals.{EndsReading, IsUnread}
use Rattle.audit_files.specs.Stops.{EndsByIntake}

abbrev pub text_at : List (List ℕ) → ℕ → List ℕ
text_at texts file = slice_index_or texts file []

-- a text begins with blocks that have these packets, none of which is refused
pub record IsFront (policy : Policy) (text : List ℕ) (packets : List Packet) : Type 0 where
  pub begins : BeginsWith text packets
  pub sound : AreSound policy packets

-- An intake that had the sightings of other captures was fed a capture of this text: it also has
-- those of the packets up to some place.
pub record HasFront (policy : Policy) (others : ℕ → List Packet) (file : ℕ) (text : List ℕ) (interfaces : List (List Sighting)) : Type 0 where
  pub packets : List Packet
  pub front : IsFront policy text packets
  pub sightings : AreSightings policy interfaces (more_of others file packets)

-- A capture's first fault: after these packets comes a fault of the next block or of its packet, or
-- the 16,777,217th sighting of these packets and the others'.
pub record HasFault (policy : Policy) (others : ℕ → List Packet) (file : ℕ) (text : List ℕ) (kind : IntakeFaultKind) : Type 0 where
  pub interfaces : List (List Sighting)
  pub front : HasFront policy others file text interfaces
  pub next : IsNext policy interfaces text front.packets kind

-- the captures before a number, none of whose packets is refused
pub record ComeBefore (policy : Policy) (texts : List (List ℕ)) (number : ℕ) (before : List Fed) : Type 0 where
  pub of_texts : map (λ fed. fed.text) before ≡ take number texts
  pub fronts : (file : ℕ) → file < number → IsFront policy (text_at texts file) (packets_of before file)

-- a capture is refused for its first fault; of those before it all packets count as others, or none
pub record IsRefused (policy : Policy) (texts : List (List ℕ)) (fault : IntakeFault) : Type 0 where
  pub before : List Fed
  pub come : ComeBefore policy texts fault.file before
  pub within : fault.file < length texts
  pub others : ℕ → List Packet
  pub counted : ((file : ℕ) → others file ≡ packets_of before file) ⊎ ((file : ℕ) → others file ≡ [])
  pub has : HasFault policy others fault.file (text_at texts fault.file) fault.kind

-- the captures before this one, and this one up to its own first fault, have over 16,777,216
-- sightings together
pub record AreTooMany (policy : Policy) (texts : List (List ℕ)) (fault : IntakeFault) : Type 0 where
  pub limit : fault.kind ≡ Limit
  pub before : List Fed
  pub come : ComeBefore policy texts fault.file before
  pub within : fault.file < length texts
  pub earlier : List (List Sighting)
  pub of_earlier : AreSightings policy earlier (packets_of before)
  pub own : List (List Sighting)
  pub of_own : HasFront policy (λ _. []) fault.file (text_at texts fault.file) own
  pub many : 16777216 < count_of earlier + count_of own

-- there is a 17th capture
pub record AreTooManyFiles (policy : Policy) (texts : List (List ℕ)) (fault : IntakeFault) : Type 0 where
  pub is : fault ≡ record { kind = Limit; file = 16 }
  pub within : 16 < length texts
  pub before : List Fed
  pub come : ComeBefore policy texts 16 before

-- no packet of the captures is refused, and this is the first that ends inside a block, or has none
pub record MayNotEnd (policy : Policy) (texts : List (List ℕ)) (fault : IntakeFault) : Type 0 where
  pub files : List Fed
  pub come : ComeBefore policy texts (length texts) files
  pub ends : FilesEnd (Err fault) files

-- the first fault of the captures, in their order; how they end is checked after all are read
abbrev pub IsFirstFault : Policy → List (List ℕ) → IntakeFault → Type 0
IsFirstFault policy texts fault = IsRefused policy texts fault ⊎ (AreTooMany policy texts fault ⊎ (AreTooManyFiles policy texts fault ⊎ MayNotEnd policy texts fault))

-- the captures are refused for it
abbrev pub RefusesCaptures : Policy → List (List ℕ) → Stop → Type 0
RefusesCaptures policy texts stop = (fault : IntakeFault) × EndsByIntake fault stop × ((IsMemory fault.kind → ⊥) → IsFirstFault policy texts fault)

-- a capture can't be read to its end, and those before it were read
pub record IsUnreadCapture (may_fail : List ℕ → Bool) (names : List (Bor (List ℕ))) (policy : Policy) (texts : List (List ℕ)) (stop : Stop) : Type 0 where
  pub file : ℕ
  pub name : Bor (List ℕ)
  pub named : slice_get names file ≡ Some name
  pub before : List Fed
  pub come : ComeBefore policy texts file before
  pub unread : IsUnread (may_fail name.now) (text_at texts file) stop

-- what ends the reading of the captures: exhausted memory, one that can't be read, or their first
-- fault
abbrev pub EndsCaptures : (List ℕ → Bool) → List (Bor (List ℕ)) → Policy → List (List ℕ) → Stop → Type 0
EndsCaptures may_fail names policy texts stop = (stop ≡ Memory) ⊎ (IsUnreadCapture may_fail names policy texts stop ⊎ RefusesCaptures policy texts stop)

-- what ends the reading of one capture, after others
abbrev pub EndsCapture : Bool → Policy → (ℕ → List Packet) → ℕ → List ℕ → Stop → Type 0
EndsCapture may_fail policy others file text =
    EndsReading may_fail text (λ stop. (fault : IntakeFault) × EndsByIntake fault stop × (fault.file ≡ file) × ((IsMemory fault.kind → ⊥) → HasFault policy others file text fault.kind))

-- and of one more capture: there is no room for a 17th, or its reading ends so
abbrev pub EndsTaking : Bool → Policy → List Fed → List ℕ → Stop → Type 0
EndsTaking may_fail policy files text stop =
    ((length files ≡ 16) × EndsByIntake (record { kind = Limit; file = 16 }) stop) ⊎ EndsCapture may_fail policy (packets_of files) (length files) text stop

-- a capture was read by itself, as the one of this number
pub record IsReadAlone (may_fail : Bool) (policy : Policy) (number : ℕ) (text : List ℕ) (intake : Intake) (stop : Option Stop) : Type 0 where
  pub took : IfNone stop (Took number text intake)
  pub front : HasFront policy (λ _. []) number text intake.interfaces
  pub ends : IfSome stop (EndsCapture may_fail policy (λ _. []) number text)
