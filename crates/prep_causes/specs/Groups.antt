-- Unread packets, and the departures whose data they may have carried, group by group.
use Rattle.std.specs.Prelude.{◌≡◌, ℕ, ◌+◌, min, max, Bool, ◌&&◌, nat_le, nat_lt, ◌==◌, if◌then◌else◌, List, [], ◌∷◌, length, get_or}
use Rattle.prep_causes.specs.declared.half.Reach.{Reach}
use Rattle.prep_causes.specs.declared.unread.Part.{Part}
use Rattle.prep_causes.specs.declared.unread.Group.{Group}
use Rattle.prep_causes.specs.declared.unread.Unread.{Unread}
use Rattle.prep_causes.specs.declared.unread.Unread.TheVariants.{Carrier, Departure}

-- saturated at 64 bits
abbrev pub capped : ℕ → ℕ
capped n = min n 18446744073709551615

abbrev pub no_part : Part
no_part = record { count = 0; bytes = 0; first = 18446744073709551615; last = 0 }

abbrev pub part_with : Part → ℕ → ℕ → Part
part_with part stamp bytes = record { count = capped (part.count + 1); bytes = capped (part.bytes + bytes); first = min part.first stamp; last = max part.last stamp }

abbrev pub no_group : Group
no_group = record { carriers = no_part; departures = no_part }

abbrev pub group_with : Group → Unread → Group
group_with group (Carrier stamp bytes) = record { carriers = part_with group.carriers stamp bytes; departures = group.departures }
group_with group (Departure stamp bytes) = record { carriers = group.carriers; departures = part_with group.departures stamp bytes }

-- another packet of the group of this number
abbrev pub group_with_at : ℕ → Unread → ℕ → Group → Group
group_with_at number unread other group = if other == number then group_with group unread else group

-- There is a carrier, the departures have no more bytes than the carriers, the first carrier came
-- before each departure, and each departure left at most the hold after the last carrier came. Two
-- clocks may differ by as much as the slack.
abbrev pub is_carried : Reach → Group → Bool
is_carried reach group =
    nat_lt 0 group.carriers.count && (nat_le group.departures.bytes group.carriers.bytes && (nat_le group.carriers.first (group.departures.first + reach.slack)
    && nat_le group.departures.last ((group.carriers.last + reach.hold) + reach.slack)))

-- the number of departures in groups whose carriers can have carried all departures
abbrev pub carried_with : ℕ → Reach → List Group → ℕ
carried_with carried reach [] = carried
carried_with carried reach (group ∷ groups) = carried_with (if is_carried reach group then capped (carried + group.departures.count) else carried) reach groups

-- this count of groups without a packet
pub record AreNoGroups (groups : List Group) (count : ℕ) : Type 0 where
  pub len : length groups ≡ count
  pub none : (number : ℕ) → get_or groups number no_group ≡ no_group
