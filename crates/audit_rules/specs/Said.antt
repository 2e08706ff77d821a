-- The change that a departure says, whether the server may send it or not: a function of the two
-- datagrams, of the moment, and of whether the request made the usable allocation.
use Rattle.std.specs.Prelude.{ℕ, ◌==◌, if◌then◌else◌, List, Option, Some, None}
use Rattle.audit_model.specs.declared.address.Addr.{Addr}
use Rattle.audit_stun.specs.declared.class.Class.{Class}
use Rattle.audit_stun.specs.declared.class.Class.TheVariants.{Request, Indication, Success, Error}
use Rattle.audit_stun.specs.declared.numbers.method.TheConstants.{ALLOCATE, REFRESH, CREATE_PERMISSION, CHANNEL_BIND}
use Rattle.audit_stun.specs.declared.numbers.attribute.TheConstants.{USERNAME, XOR_RELAYED_ADDRESS, XOR_PEER_ADDRESS}
use Rattle.audit_stun.specs.Counted.{first_of}
use Rattle.audit_rules.specs.declared.path.Path.{Path}
use Rattle.audit_rules.specs.declared.path.Path.TheVariants.{Client, Relay}
use Rattle.audit_rules.specs.Allocation.{Change, Same, Makes, Grants, Binds}
use Rattle.audit_rules.specs.Allocating.{made_by, seconds_after}
use Rattle.audit_rules.specs.Effect.{refreshed}
use Rattle.audit_rules.specs.FirstRule.{made_it}
use Rattle.audit_rules.specs.Situation.{Situation, arrival_parts, answered, arrival_path, departure_path}
use Rattle.audit_rules.specs.Values.{address_named, lifetime_of, channel_number_of, peer_ips_of}

-- an Allocate success response with this address and lifetime, for a user
abbrev pub allocated : Situation → Option Addr → Option (List ℕ) → Option ℕ → Change
allocated x (Some relayed) (Some user) (Some seconds) = Makes (made_by x relayed user seconds)
allocated x None user seconds = Same
allocated x (Some relayed) None seconds = Same
allocated x (Some relayed) (Some user) None = Same

-- a Refresh success response with this lifetime
abbrev pub lengthened : ℕ → Option ℕ → Change
lengthened moment None = Same
lengthened moment (Some seconds) = refreshed moment seconds

-- a CreatePermission success response for these IPs
abbrev pub permitted : ℕ → Option (List ℕ) → Change
permitted moment None = Same
permitted moment (Some ips) = Grants ips (seconds_after moment 300)

-- a ChannelBind success response for this number and peer
abbrev pub channelled : ℕ → Option ℕ → Option Addr → Change
channelled moment None peer = Same
channelled moment (Some number) None = Same
channelled moment (Some number) (Some peer) = Binds number peer (seconds_after moment 600) (seconds_after moment 300)

-- a success response of this method; if its request made the usable allocation, it is a repeat
abbrev pub change_by_method : Situation → ℕ → Change
change_by_method x method =
    if method == ALLOCATE then
    (if made_it x x.allocation then Same
    else allocated x (address_named XOR_RELAYED_ADDRESS (answered x)) (first_of USERNAME (arrival_parts x).attributes) (lifetime_of (answered x)))
    else (if method == REFRESH then lengthened x.moment (lifetime_of (answered x))
    else (if method == CREATE_PERMISSION then permitted x.moment (peer_ips_of (arrival_parts x))
    else (if method == CHANNEL_BIND then channelled x.moment (channel_number_of (arrival_parts x)) (address_named XOR_PEER_ADDRESS (arrival_parts x))
    else Same)))

-- only success responses change something
abbrev pub change_by_class : Situation → Class → Change
change_by_class x Success = change_by_method x (answered x).method
change_by_class x Error = Same
change_by_class x Request = Same
change_by_class x Indication = Same

-- only between the client and its listen address
abbrev pub change_by_paths : Situation → Option Path → Option Path → Change
change_by_paths x (Some Client) (Some Client) = change_by_class x (answered x).class
change_by_paths x (Some Client) (Some Relay) = Same
change_by_paths x (Some Client) None = Same
change_by_paths x (Some Relay) departure = Same
change_by_paths x None departure = Same

abbrev pub change_in : Situation → Change
change_in x = change_by_paths x (arrival_path x) (departure_path x)
