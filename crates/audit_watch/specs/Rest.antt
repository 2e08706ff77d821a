-- An intake that has the later packets of captures.
use Rattle.std.specs.Prelude.{ℕ, ◌≡◌, ◌+◌, ◌*◌, ◌<◌, ◌==◌, List, filter, length}
use Rattle.audit_model.specs.declared.policy.Policy.{Policy}
use Rattle.audit_pcapng.specs.declared.packet.Packet.{Packet}
use Rattle.audit_sightings.specs.Sightings.{sightings_of}

-- the bases are the numbers of sightings that the earlier packets of each file have, by interface
abbrev pub AreBasesOf : Policy → (ℕ → List Packet) → (ℕ → ℕ) → Type 0
AreBasesOf policy earlier base = (file number : ℕ) → number < 64 →
    base (64 * file + number) ≡ length (sightings_of policy (64 * file + number) (filter (λ packet. packet.iface == number) (earlier file)))
