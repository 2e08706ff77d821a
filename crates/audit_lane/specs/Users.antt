-- The user that a request names, among the users of its lane.
use Rattle.std.specs.Prelude.{◌≡◌, ◌⊎◌, ℕ, List, [], ◌∷◌, ◌++◌, Option, IsSomeAnd, MatchOption, slice_get}
use Rattle.audit_lane.specs.declared.input.LaneEvent.{LaneEvent}
use Rattle.audit_lane.specs.declared.input.LaneEvent.TheVariants.{In, Act, Out}
use Rattle.audit_rules.specs.declared.credentials.CredRow.{CredRow}
use Rattle.audit_rules.specs.Keys.{KeyFor}
use Rattle.audit_rules.specs.Named.{Names, RequestNamesNobody}

-- The number is that of the user and the realm that the payload names, with their key (RFC 8489,
-- section 9.2). Without a number it is no request, or names nobody.
abbrev pub IsItsUser : KeyFor → List CredRow → List ℕ → Option ℕ → Type 0
IsItsUser key_for users payload number =
    MatchOption number (RequestNamesNobody key_for payload)
    (λ n. IsSomeAnd (slice_get users n) (λ row. Names key_for payload row.user.now row.realm.now row.key))

-- a request that arrives has the user that it names
abbrev pub TellsItsUser : KeyFor → List CredRow → LaneEvent → Type 0
TellsItsUser key_for users (In sighting user key) = IsItsUser key_for users sighting.now.payload user
TellsItsUser key_for users (Act arrives leaves key) = Unit {0}
TellsItsUser key_for users (Out sighting key) = Unit {0}

-- the same users, or one more after them
abbrev pub GrowsByOne : List CredRow → List CredRow → Type 0
GrowsByOne old new = (new ≡ old) ⊎ ((row : CredRow) × (new ≡ old ++ row ∷ []))
