-- A table after an act.
use Rattle.std.specs.Prelude.{◌≡◌, ℕ, Option, None}
use Rattle.audit_model.specs.declared.event.At.{At}
use Rattle.audit_model.specs.declared.sighting.SightId.{SightId}
use Rattle.audit_model.specs.declared.verdict.Tenancy.{Tenancy}
use Rattle.audit_rules.specs.declared.table.Allocation as declared
use Rattle.audit_rules.specs.Allocation.{Allocation, Change, applied}
use Rattle.audit_rules.specs.Effect.{Standing, tenancy_of}
use Rattle.audit_rules.specs.Tenancies.{running_after, ended_by}
use Rattle.audit_rules.specs.Seen.{seen}

-- The table is changed, with a grace, at a place and by an arrival, and this tenancy ended.
pub record IsChanged (grace : ℕ) (at : At) (sight : SightId) (change : Change) (old new : Standing) (ended : Option Tenancy) : Type 0 where
  pub table : new ≡ record old { allocation = applied change old.allocation; tenancy = running_after grace at sight change old.tenancy }
  pub ended' : ended ≡ ended_by at.key change old.tenancy

-- one allocation became this, and its tenancy is unchanged
abbrev pub Becomes : declared.Allocation → declared.Allocation → Allocation → Type 0
Becomes old new wanted = (seen new ≡ wanted) × (tenancy_of None new ≡ tenancy_of None old)
