-- The rank of a rule: S1 to S13, then R1 to R22.
use Rattle.std.specs.Prelude.{ℕ}
use Rattle.std.specs.declared.cmp.Ordering.{Ordering}
use Rattle.std.specs.Ordering.{nat_cmp}
use Rattle.audit_model.specs.declared.rule.Rule.{Rule}
use Rattle.audit_model.specs.declared.rule.Rule.TheVariants as rules

abbrev pub rank_of : Rule → ℕ
rank_of rules.Unplaced = 0
rank_of rules.PlacedTwice = 1
rank_of rules.Stranger = 2
rank_of rules.OutOfWindow = 3
rank_of rules.InterfaceOrder = 4
rank_of rules.LaneOrder = 5
rank_of rules.WrongSide = 6
rank_of rules.OtherEndpoint = 7
rank_of rules.ActBeforeArrival = 8
rank_of rules.ActedTwice = 9
rank_of rules.LeftWithoutAct = 10
rank_of rules.HeldTooLong = 11
rank_of rules.ActWithoutDeparture = 12
rank_of rules.NotAnAnswer = 13
rank_of rules.NotAuthentic = 14
rank_of rules.OtherUser = 15
rank_of rules.NoAllocation = 16
rank_of rules.AllocationOver = 17
rank_of rules.NoPermission = 18
rank_of rules.PermissionOver = 19
rank_of rules.NoChannel = 20
rank_of rules.ChannelOver = 21
rank_of rules.ChannelNumber = 22
rank_of rules.ChannelConflict = 23
rank_of rules.PeerDiffers = 24
rank_of rules.DataDiffers = 25
rank_of rules.RelayedAddress = 26
rank_of rules.Lifetime = 27
rank_of rules.TransportOrFamily = 28
rank_of rules.MappedAddress = 29
rank_of rules.ResponseIntegrity = 30
rank_of rules.ErrorCondition = 31
rank_of rules.AllocationPresent = 32
rank_of rules.Malformed = 33
rank_of rules.AddressHeld = 34

abbrev pub rule_cmp : Rule → Rule → Ordering
rule_cmp a b = nat_cmp (rank_of a) (rank_of b)
