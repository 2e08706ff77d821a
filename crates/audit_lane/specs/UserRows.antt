-- The user that a request of a lane names, among the lane's users (RFC 8489, section 9.2).
use Rattle.std.specs.Prelude.{ℕ, List, Option, IsSomeAnd, MatchOption, slice_get}
use Rattle.audit_rules.specs.Keys.{KeyFor}
use Rattle.audit_rules.specs.Named.{Names, RequestNamesNobody}
use Rattle.audit_lane.specs.Content.{Happening, Came, Acted, Went, User}

-- The number is that of the user and the realm that the payload names, with their key. Without a
-- number it is no request, or names nobody.
abbrev pub IsOfUser : KeyFor → List User → List ℕ → Option ℕ → Type 0
IsOfUser key_for users payload number =
    MatchOption number (RequestNamesNobody key_for payload)
    (λ n. IsSomeAnd (slice_get users n) (λ one. Names key_for payload one.user one.realm one.key))

-- a request that arrives has the user that it names
abbrev pub Tells : KeyFor → List User → Happening → Type 0
Tells key_for users (Came sighting user key) = IsOfUser key_for users sighting.payload user
Tells key_for users (Acted arrives leaves key) = Unit {0}
Tells key_for users (Went sighting key) = Unit {0}
