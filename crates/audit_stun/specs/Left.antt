-- The items that the iterators over a message have left.
use Rattle.std.specs.Prelude.{ℕ, Bool, true, ◌==◌, ◌||◌, if◌then◌else◌, List}
use Rattle.audit_stun.specs.declared.counted.Counted as declared
use Rattle.audit_stun.specs.declared.counted.Passed.{Passed}
use Rattle.audit_stun.specs.declared.counted.Passed.TheVariants.{Neither, Integrity, IntegritySha256}
use Rattle.audit_stun.specs.declared.numbers.attribute.TheConstants.{MESSAGE_INTEGRITY, MESSAGE_INTEGRITY_SHA256, FINGERPRINT}
use Rattle.audit_stun.specs.Attribute.{Attribute}
use Rattle.audit_stun.specs.Counted.{counted, after_integrity, fingerprints}
use Rattle.audit_stun.specs.Parts.{attributes_in}

-- whether an attribute of a type counts after those that were passed
abbrev pub counts_behind : Passed → ℕ → Bool
counts_behind Neither kind = true
counts_behind Integrity kind = kind == MESSAGE_INTEGRITY_SHA256 || kind == FINGERPRINT
counts_behind IntegritySha256 kind = kind == FINGERPRINT

-- those that were passed, with an attribute of a type
abbrev pub passed_with : Passed → ℕ → Passed
passed_with passed kind = if kind == MESSAGE_INTEGRITY_SHA256 then IntegritySha256 else (if kind == MESSAGE_INTEGRITY then Integrity else passed)

abbrev pub counted_behind : Passed → List Attribute → List Attribute
counted_behind Neither attributes = counted attributes
counted_behind Integrity attributes = after_integrity attributes
counted_behind IntegritySha256 attributes = fingerprints attributes

abbrev pub counted_left : declared.Counted → List Attribute
counted_left c = counted_behind c.passed (attributes_in c.rest.now)
