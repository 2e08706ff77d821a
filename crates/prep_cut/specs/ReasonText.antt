-- The texts of the list's reasons. A decimal number has no leading zero.
use Rattle.std.specs.Prelude.{ℕ, ◌+◌, List, ◌++◌, codes, decimal, slice_index, false}
use Rattle.std.specs.Fmt.{digits}
use Rattle.audit_model.specs.declared.pair.Pair.{Pair}
use Rattle.audit_model.specs.Addr.{addr_text}
use Rattle.prep_cut.specs.declared.reason.FarEnd.{FarEnd}
use Rattle.prep_cut.specs.declared.reason.FarEnd.TheVariants as ends
use Rattle.prep_cut.specs.declared.reason.Reason.{Reason}
use Rattle.prep_cut.specs.declared.reason.Reason.TheVariants as reasons
use Rattle.prep_cut.specs.declared.reason.ReasonKind.{ReasonKind}
use Rattle.prep_cut.specs.declared.reason.ReasonKind.TheVariants as kinds

-- the kind of a reason, without its names
abbrev pub kind_of : Reason → ReasonKind
kind_of reasons.BeforeSince = kinds.BeforeSince
kind_of (reasons.Client pair) = kinds.Client
kind_of (reasons.Answer pair) = kinds.Answer
kind_of (reasons.AddressOf relayed tenure pair) = kinds.AddressOf
kind_of (reasons.AddressTold relayed tenure client) = kinds.AddressTold
kind_of (reasons.Address relayed tenure) = kinds.Address
kind_of (reasons.Released pair relayed moment) = kinds.Released
kind_of (reasons.Dtls pair) = kinds.Dtls
kind_of (reasons.Inner pair peer) = kinds.Inner
kind_of (reasons.Inside from to) = kinds.Inside
kind_of reasons.Edge = kinds.Edge
kind_of reasons.AfterUntil = kinds.AfterUntil

-- the first word of its line
abbrev pub kind_text : ReasonKind → List ℕ
kind_text kinds.BeforeSince = codes "before-since"
kind_text kinds.Client = codes "client"
kind_text kinds.Answer = codes "answer"
kind_text kinds.AddressOf = codes "address-of"
kind_text kinds.AddressTold = codes "address-told"
kind_text kinds.Address = codes "address"
kind_text kinds.Released = codes "released"
kind_text kinds.Dtls = codes "dtls"
kind_text kinds.Inner = codes "inner"
kind_text kinds.Inside = codes "inside"
kind_text kinds.Edge = codes "edge"
kind_text kinds.AfterUntil = codes "after-until"

-- four groups of an IPv6 address, in lower-case hex
abbrev pub half_text : ℕ → ℕ → ℕ → ℕ → List ℕ
half_text first second third fourth =
    digits 16 false first ++ (codes ":" ++ (digits 16 false second ++ (codes ":" ++ (digits 16 false third ++ (codes ":" ++ digits 16 false fourth)))))

abbrev pub half_at : List ℕ → ℕ → List ℕ
half_at groups place = half_text (slice_index groups place) (slice_index groups (place + 1)) (slice_index groups (place + 2)) (slice_index groups (place + 3))

-- as `tcp 198.51.100.8:53281`, or `ipv6 [2001:db8:0:0:0:0:0:1]:40000`
abbrev pub far_text : FarEnd → List ℕ
far_text (ends.Tcp addr) = codes "tcp " ++ addr_text addr
far_text (ends.Ipv6 ip port) = codes "ipv6 [" ++ (half_at ip 0 ++ (codes ":" ++ (half_at ip 4 ++ (codes "]:" ++ decimal port))))

-- a word and a client with its listen address
abbrev pub of_pair : List ℕ → Pair → List ℕ
of_pair word pair = word ++ (codes " " ++ (addr_text pair.client ++ (codes " " ++ addr_text pair.listen)))

-- the start of a line of the list
abbrev pub reason_text : Reason → List ℕ
reason_text reasons.BeforeSince = codes "before-since"
reason_text (reasons.Client pair) = of_pair (codes "client") pair
reason_text (reasons.Answer pair) = of_pair (codes "answer") pair
reason_text (reasons.AddressOf relayed tenure pair) =
    codes "address-of" ++ (codes " " ++ (addr_text relayed ++ (codes " " ++ (addr_text pair.client ++ (codes " " ++ addr_text pair.listen)))))
reason_text (reasons.AddressTold relayed tenure client) = codes "address-told" ++ (codes " " ++ (addr_text relayed ++ (codes " " ++ far_text client)))
reason_text (reasons.Address relayed tenure) = codes "address" ++ (codes " " ++ addr_text relayed)
reason_text (reasons.Released pair relayed moment) =
    codes "released" ++ (codes " " ++ (addr_text pair.client ++ (codes " " ++ (addr_text pair.listen ++ (codes " " ++ addr_text relayed)))))
reason_text (reasons.Dtls pair) = of_pair (codes "dtls") pair
reason_text (reasons.Inner pair peer) = codes "inner" ++ (codes " " ++ (addr_text pair.client ++ (codes " " ++ (addr_text pair.listen ++ (codes " " ++ addr_text peer)))))
reason_text (reasons.Inside from to) = codes "inside" ++ (codes " " ++ (addr_text from ++ (codes " " ++ addr_text to)))
reason_text reasons.Edge = codes "edge"
reason_text reasons.AfterUntil = codes "after-until"
