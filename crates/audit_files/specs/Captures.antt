-- The sightings of some captures' bytes.
use Rattle.std.specs.Prelude.{◌≡◌, ◌<◌, ◌++◌, ◌∷◌, [], ℕ, List, length, map, replicate}
use Rattle.audit_pcapng.specs.declared.packet.Packet.{Packet}
use Rattle.audit_sightings.specs.declared.intake.Intake.{Intake}
use Rattle.audit_sightings.specs.Files.{Fed, MayEnd, StandsFor, fed_at, not_fed, packets_of}
use Rattle.audit_sightings.specs.Intake.{Taken}
use Rattle.audit_sightings.specs.Sightings.{AreSightings, AreSound}

-- Each capture consists of blocks (pcapng, section 3.1), which have its packets; no packet is
-- refused; and each interface has the sightings of its packets.
pub record AreTakenIn (texts : List (List ℕ)) (taken : Taken) : Type 0 where
  pub files : List Fed
  pub of_texts : map (λ file. file.text) files ≡ texts
  pub ended : (file : ℕ) → file < length files → MayEnd (fed_at files file)
  pub sound : (file : ℕ) → AreSound taken.policy (packets_of files file)
  pub sightings : AreSightings taken.policy taken.interfaces (packets_of files)
  pub count : taken.files ≡ length files

-- the intake has files of these texts after those before
pub record Follow (before : List Fed) (texts : List (List ℕ)) (intake : Intake) : Type 0 where
  pub files : List Fed
  pub stands : StandsFor intake (before ++ files)
  pub of_texts : map (λ file. file.text) files ≡ texts

-- the intake has a file of this text after `before` files that aren't fed
pub record Took (before : ℕ) (text : List ℕ) (intake : Intake) : Type 0 where
  pub packets : List Packet
  pub stands : StandsFor intake (replicate before not_fed ++ record { text = text; packets = packets } ∷ [])
