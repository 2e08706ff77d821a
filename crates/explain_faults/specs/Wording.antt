-- The texts for the faults.
use Rattle.std.specs.Prelude.{ℕ, List, Bool, true, false, Option, None, Some, [], codes}
use Rattle.audit_faults.specs.declared.fault.Fault.{Fault}
use Rattle.audit_faults.specs.declared.fault.Granted.{Granted}
use Rattle.audit_faults.specs.declared.fault.Granted.TheVariants.{Never, Later, Before}
use Rattle.audit_faults.specs.declared.fault.Fault.TheVariants.{Unasked, Unallocated, Unpermitted, Unbound, Unfit, Unauthentic}

-- the server's action
abbrev pub title_of : Fault → List ℕ
title_of Unasked = codes "sent unasked"
title_of Unallocated = codes "relayed without an allocation"
title_of Unpermitted = codes "relayed without a permission"
title_of Unbound = codes "relayed without a channel"
title_of Unfit = codes "responded wrongly"
title_of Unauthentic = codes "granted without a user's request"

-- first whether the captures have the start of the allocation of a client for which the departure
-- may have been sent, if that matters
abbrev pub beginning_in_time : Fault → Bool → List ℕ
beginning_in_time Unasked predates = []
beginning_in_time Unallocated true = codes "beginning not captured: the capture began too late for that relayed address; no captured Allocate success response granted it to a client for which this datagram may have been sent, and whose request came before this datagram\n"
beginning_in_time Unallocated false = codes "beginning captured\n"
beginning_in_time Unpermitted true = codes "beginning not captured: the capture began too late for that relayed address; no captured Allocate success response granted it to a client for which this datagram may have been sent, and whose request came before this datagram\n"
beginning_in_time Unpermitted false = codes "beginning captured\n"
beginning_in_time Unbound true = codes "beginning not captured: the capture began too late for that relayed address; no captured Allocate success response granted it to a client for which this datagram may have been sent, and whose request came before this datagram\n"
beginning_in_time Unbound false = codes "beginning captured\n"
beginning_in_time Unfit predates = []
beginning_in_time Unauthentic predates = []

-- and not if the data was for another client
abbrev pub beginning_of : Fault → Bool → Bool → List ℕ
beginning_of fault predates true = []
beginning_of fault predates false = beginning_in_time fault predates

-- when the lacking lease was granted
abbrev pub allocation_reason : Granted → List ℕ
allocation_reason Never = codes "never granted: no captured Allocate success response granted that relayed address to a client for which this datagram may have been sent\n"
allocation_reason Later = codes "granted later: each captured Allocate success response that granted that relayed address to a client for which this datagram may have been sent is for a request that came after this datagram\n"
allocation_reason Before = codes "no client for which this datagram may have been sent was granted that relayed address by then\n"

abbrev pub permission_reason : Granted → List ℕ
permission_reason Never = codes "never granted: no captured success response granted a permission for the peer's IP to a client for which this datagram may have been sent, and which was granted that relayed address\n"
permission_reason Later = codes "granted later: each captured success response that granted a permission for the peer's IP to a client for which this datagram may have been sent, and which was granted that relayed address by then, is for a request that came after this datagram\n"
permission_reason Before = codes "expired: each captured arrival for which this datagram may have been sent came later than 300 seconds and the grace after the last success response that granted a permission for the peer's IP\n"

abbrev pub channel_reason : Granted → List ℕ
channel_reason Never = codes "never granted: no captured success response bound the channel to the peer for a client for which this datagram may have been sent, and which was granted that relayed address\n"
channel_reason Later = codes "granted later: each captured success response that bound the channel to the peer for a client for which this datagram may have been sent, and which was granted that relayed address by then, is for a request that came after this datagram\n"
channel_reason Before = codes "expired: each captured arrival for which this datagram may have been sent came later than 600 seconds and the grace after the last success response that bound the channel to the peer\n"

-- each fault has a reason; if it lacks a lease, the reason is by when that was granted
abbrev pub reason_of : Fault → Option Granted → List ℕ
reason_of Unasked granted = codes "for no arrival that was captured within hold before it may this datagram have been sent\n"
reason_of Unallocated None = []
reason_of Unallocated (Some granted) = allocation_reason granted
reason_of Unpermitted None = []
reason_of Unpermitted (Some granted) = permission_reason granted
reason_of Unbound None = []
reason_of Unbound (Some granted) = channel_reason granted
reason_of Unfit granted = codes "what it says fits no captured request that it may answer\n"
reason_of Unauthentic granted = codes "no captured request that it may answer is signed by a user of the credentials\n"

-- whether two faults are the same
abbrev pub same_fault : Fault → Fault → Bool
same_fault Unasked Unasked = true
same_fault Unallocated Unallocated = true
same_fault Unpermitted Unpermitted = true
same_fault Unbound Unbound = true
same_fault Unfit Unfit = true
same_fault Unauthentic Unauthentic = true
same_fault one other = false
