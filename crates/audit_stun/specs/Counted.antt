-- Which attributes count (RFC 8489, sections 14, 14.5 and 14.6).
use Rattle.std.specs.Prelude.{ℕ, ◌==◌, if◌then◌else◌, List, [], ◌∷◌, map, filter, Option, option_map, find}
use Rattle.audit_stun.specs.declared.numbers.attribute.TheConstants.{MESSAGE_INTEGRITY, MESSAGE_INTEGRITY_SHA256, FINGERPRINT}
use Rattle.audit_stun.specs.Attribute.{Attribute}

-- after MESSAGE-INTEGRITY-SHA256: FINGERPRINT alone
abbrev pub fingerprints : List Attribute → List Attribute
fingerprints attributes = filter (λ a. a.kind == FINGERPRINT) attributes

-- after MESSAGE-INTEGRITY: FINGERPRINT, and MESSAGE-INTEGRITY-SHA256 with those that count after it
unfoldable pub after_integrity : List Attribute → List Attribute
after_integrity [] = []
after_integrity (a ∷ others) =
    if a.kind == MESSAGE_INTEGRITY_SHA256 then a ∷ fingerprints others
    else (if a.kind == FINGERPRINT then a ∷ after_integrity others else after_integrity others)

-- up to the first of these two all count
unfoldable pub counted : List Attribute → List Attribute
counted [] = []
counted (a ∷ others) =
    a ∷ (if a.kind == MESSAGE_INTEGRITY then after_integrity others
    else (if a.kind == MESSAGE_INTEGRITY_SHA256 then fingerprints others else counted others))

-- the value of the first attribute of a type, among those that count
unfoldable pub first_of : ℕ → List Attribute → Option (List ℕ)
first_of kind attributes = option_map (λ a. a.value) (find (λ a. a.kind == kind) (counted attributes))

-- the values of all attributes of a type
abbrev pub values_of : ℕ → List Attribute → List (List ℕ)
values_of kind attributes = map (λ a. a.value) (filter (λ a. a.kind == kind) attributes)

-- the values of all of them that count, in order
unfoldable pub all_of : ℕ → List Attribute → List (List ℕ)
all_of kind attributes = values_of kind (counted attributes)
