use Rattle.std.proofs.Common.{◌≡◌, ◌+◌, ◌<◌, ℕ, length, map, take, All, get_or}
use Rattle.std.specs.Prelude.{replicate}
use Rattle.audit_sightings.specs.Files.{StandsFor, not_fed}
use Rattle.audit_files.proofs.apart.readings_of.Given as goal

-- a reading for each name so far
abbrev pub invariant-names : goal.invariant-names
invariant-names g l = record {
  names : map (λ r. r.name) l.readings.items ≡ take l.name-index l.names;
  sources : All (λ r. g.S.Source.holds r.source ≡ g.S.Source.holds l.source) l.readings.items;
  steady : All (λ r. g.S.Source.may_fail r.source ≡ g.S.Source.may_fail l.source) l.readings.items;
  policies : All (λ r. r.intake.policy ≡ l.intake.policy) l.readings.items;
  count : length l.readings.items ≡ l.name-index;
  stands : (i : ℕ) (d : _) → i < length l.readings.items → StandsFor (get_or l.readings.items i d).intake (replicate (l.files + i) not_fed);
}
