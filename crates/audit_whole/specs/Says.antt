-- The content of an act for the client's allocation: that of its departure, if it is a success
-- response to the client, and otherwise nothing.
use Rattle.std.specs.Prelude.{ℕ, ◌==◌, if◌then◌else◌, List, Option, Some, None}
use Rattle.audit_model.specs.declared.address.Addr.{Addr}
use Rattle.audit_stun.specs.declared.class.Class.{Class}
use Rattle.audit_stun.specs.declared.class.Class.TheVariants.{Request, Indication, Success, Error}
use Rattle.audit_stun.specs.declared.numbers.method.TheConstants.{ALLOCATE, REFRESH, CREATE_PERMISSION, CHANNEL_BIND}
use Rattle.audit_stun.specs.declared.numbers.attribute.TheConstants.{XOR_RELAYED_ADDRESS, XOR_PEER_ADDRESS}
use Rattle.audit_rules.specs.declared.path.Path.{Path}
use Rattle.audit_rules.specs.declared.path.Path.TheVariants.{Client, Relay}
use Rattle.audit_rules.specs.Situation.{Situation, arrival_parts, answered, arrival_path, departure_path}
use Rattle.audit_rules.specs.Values.{address_named, lifetime_of, channel_number_of, peer_ips_of}

-- for an Allocate success response the transaction id, the relayed address and the seconds; for a
-- Refresh one the seconds; for a CreatePermission one the IPs, and for a ChannelBind one the number
-- and the peer that were requested
pub data Said : Type 0 where
  Nothing : Said
  Allocates : List ℕ → Option Addr → Option ℕ → Said
  Refreshes : Option ℕ → Said
  Permits : Option (List ℕ) → Said
  Channels : Option ℕ → Option Addr → Said

abbrev pub said_by_method : Situation → ℕ → Said
said_by_method x method =
    if method == ALLOCATE then Allocates (arrival_parts x).tid (address_named XOR_RELAYED_ADDRESS (answered x)) (lifetime_of (answered x))
    else (if method == REFRESH then Refreshes (lifetime_of (answered x))
    else (if method == CREATE_PERMISSION then Permits (peer_ips_of (arrival_parts x))
    else (if method == CHANNEL_BIND then Channels (channel_number_of (arrival_parts x)) (address_named XOR_PEER_ADDRESS (arrival_parts x))
    else Nothing)))

abbrev pub said_by_class : Situation → Class → Said
said_by_class x Success = said_by_method x (answered x).method
said_by_class x Error = Nothing
said_by_class x Request = Nothing
said_by_class x Indication = Nothing

abbrev pub said_by_paths : Situation → Option Path → Option Path → Said
said_by_paths x (Some Client) (Some Client) = said_by_class x (answered x).class
said_by_paths x (Some Client) (Some Relay) = Nothing
said_by_paths x (Some Client) None = Nothing
said_by_paths x (Some Relay) departure = Nothing
said_by_paths x None departure = Nothing

abbrev pub says : Situation → Said
says x = said_by_paths x (arrival_path x) (departure_path x)
