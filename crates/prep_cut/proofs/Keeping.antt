-- What stays in, of a client that was granted an allocation.
use Rattle.std.proofs.Common.{◌≡◌, ◌≤◌, ◌*◌, ◌-◌, ℕ, Bool, true, false, not, ◌&&◌, ◌||◌, List, Option, Some, None, nat_le, nat_lt, refl, sym, ap, subst, ◌∙◌, arith}
use Rattle.std.specs.Prelude.{if◌then◌else◌, slice_get, Contains}
use Rattle.std.specs.List.{list_any}
use Rattle.std.proofs.lemmas.Bool.{leb-true, le-leb}
use Rattle.std.proofs.lemmas.List.Folds.{list_any_at, Any-from_list_any}
use Rattle.audit_model.specs.declared.address.Addr.{Addr}
use Rattle.audit_model.specs.declared.policy.Policy.{Policy}
use Rattle.audit_model.specs.declared.sighting.Side.{Side}
use Rattle.audit_model.specs.declared.sighting.Side.TheVariants.{Arrives, Leaves}
use Rattle.prep_blocks.specs.declared.block.Block.{Block}
use Rattle.prep_blocks.specs.declared.block.PacketHead.{PacketHead}
use Rattle.prep_frames.specs.Frames.{frame_in}
use Rattle.prep_cut.specs.declared.allocations.Allocations.{Allocations}
use Rattle.prep_cut.specs.declared.datagram.Datagram.{Datagram}
use Rattle.prep_cut.specs.declared.lease.Act.{Act}
use Rattle.prep_cut.specs.declared.lease.Act.TheVariants as acts
use Rattle.prep_cut.specs.declared.lease.Event.{Event}
use Rattle.prep_cut.specs.declared.plan.Plan.{Plan}
use Rattle.prep_cut.specs.declared.reason.Reason.{Reason}
use Rattle.prep_cut.specs.declared.reason.Reason.TheVariants as reasons
use Rattle.prep_cut.specs.declared.stated.Stated.{Stated}
use Rattle.prep_cut.specs.Allocating.{AreNoted, is_shown}
use Rattle.audit_packets.specs.Reading as frame
use Rattle.audit_packets.specs.Reading.{Datagram as Held, datagram_of}
use Rattle.prep_cut.specs.Datagrams.{by_ends, datagram_of_block, is_endpoint, of_packet, of_seen}
use Rattle.prep_cut.specs.Edges.{edge_of}
use Rattle.prep_cut.specs.Guard.{far_end, is_apart, is_due, is_free, is_heard, is_in_time, is_leaving, is_named, is_stated, may_leave_datagram, own_end}
use Rattle.prep_cut.specs.Held.{HasGrant}
use Rattle.prep_cut.specs.Keeping.{HasLease, IsEarly, Keeps, KeepsLeases}
use Rattle.prep_cut.specs.Lasting.{covers, ends, ends_it, has_begun, is_asked_by, is_ended, is_its, is_leased, is_of_client, is_renewed, is_since, is_tenant, is_within, lasts}
use Rattle.prep_cut.specs.Marks.{is_at_edge, line_of, may_leave_at, may_leave_head}
use Rattle.prep_cut.specs.Noted.{events_at}
use Rattle.prep_cut.specs.Releasing.{is_released}
use Rattle.prep_cut.proofs.Releases.{both}

differ : {b : Bool} → b ≡ true → b ≡ false → ⊥
differ e f = absurd cc

denied : (b : Bool) → not b ≡ true → b ≡ false
denied true e = absurd cc
denied false e = refl

second : (a b : Bool) → not a || b ≡ true → a ≡ true → b ≡ true
second true b e is = e
second false b e is = absurd cc

-- nothing of the client's but what it had before its grant
apart : (allocations : Allocations) (reason : Reason) (datagram : Datagram) → (is_apart allocations datagram && is_free allocations datagram) ≡ true → KeepsLeases allocations reason datagram
apart allocations reason datagram e =
    let two = both (is_apart allocations datagram) (is_free allocations datagram) e in
    record {
      apart = denied (is_leased allocations (own_end datagram) datagram.stamp) two.0;
      only = λ is. absurd (differ is (denied (is_tenant allocations (far_end datagram) (own_end datagram) datagram.stamp) two.1));
    }

kept_by : (stated : Stated) (allocations : Allocations) (reason : Reason) (datagram : Datagram) → is_due stated allocations reason datagram ≡ true → Keeps allocations reason datagram
kept_by stated allocations reasons.BeforeSince datagram e = tt
kept_by stated allocations reasons.AfterUntil datagram e = tt
kept_by stated allocations (reasons.Inside from to) datagram e = tt
kept_by stated allocations (reasons.Client pair) datagram e = apart allocations (reasons.Client pair) datagram e
kept_by stated allocations (reasons.Answer pair) datagram e = apart allocations (reasons.Answer pair) datagram e
kept_by stated allocations (reasons.Dtls pair) datagram e = apart allocations (reasons.Dtls pair) datagram e
kept_by stated allocations (reasons.AddressOf relayed tenure pair) datagram e = apart allocations (reasons.AddressOf relayed tenure pair) datagram e
kept_by stated allocations (reasons.AddressTold relayed tenure client) datagram e = apart allocations (reasons.AddressTold relayed tenure client) datagram e
kept_by stated allocations (reasons.Address relayed tenure) datagram e = apart allocations (reasons.Address relayed tenure) datagram e
kept_by stated allocations reasons.Edge datagram e = apart allocations reasons.Edge datagram e
kept_by stated allocations (reasons.Inner pair peer) datagram e =
    let two = both (is_apart allocations datagram) datagram.is_data e in
    record { apart = denied (is_leased allocations (own_end datagram) datagram.stamp) two.0; only = λ is. (two.1, tt) }
kept_by stated allocations (reasons.Released pair relayed moment) datagram e =
    let rest = is_free allocations datagram || datagram.is_data in
    let one = both (is_released allocations (record { client = pair.client; listen = pair.listen; moment = moment }))
    (is_in_time datagram.side stated moment datagram.stamp && (is_its allocations pair relayed moment && (is_apart allocations datagram && rest))) e in
    let two = both (is_in_time datagram.side stated moment datagram.stamp) (is_its allocations pair relayed moment && (is_apart allocations datagram && rest)) one.1 in
    let three = both (is_its allocations pair relayed moment) (is_apart allocations datagram && rest) two.1 in
    let four = both (is_apart allocations datagram) rest three.1 in
    record {
      apart = denied (is_leased allocations (own_end datagram) datagram.stamp) four.0;
      only = λ is. (second (is_tenant allocations (far_end datagram) (own_end datagram) datagram.stamp) datagram.is_data four.1 is, tt);
    }

of_datagram : (stated : Stated) (allocations : Allocations) (reason : Reason) (datagram : Datagram) → may_leave_datagram stated allocations reason (Some datagram) ≡ true → Keeps allocations reason datagram
of_datagram stated allocations reason datagram e =
    let rest = (is_named reason datagram && is_heard allocations reason) && not (is_shown allocations datagram) in
    kept_by stated allocations reason datagram
    (both (is_due stated allocations reason datagram) rest (both (is_stated stated reason) (is_due stated allocations reason datagram && rest) e).1).0

of_found : (stated : Stated) (allocations : Allocations) (reason : Reason) (found : Option Datagram) (datagram : Datagram) → found ≡ Some datagram
    → may_leave_datagram stated allocations reason found ≡ true → Keeps allocations reason datagram
of_found stated allocations reason found datagram is may = of_datagram stated allocations reason datagram (ap (may_leave_datagram stated allocations reason) (sym is) ∙ may)

of_head : (plan : Plan) (reason : Reason) (block : Block) (packet : Option PacketHead) (datagram : Datagram)
    → datagram_of_block plan.policy block ≡ Some datagram → may_leave_head plan (Some reason) block packet ≡ true → Keeps plan.allocations reason datagram
of_head plan reason block None datagram is may = absurd cc
of_head plan reasons.BeforeSince block (Some head) datagram is may = tt
of_head plan reasons.AfterUntil block (Some head) datagram is may = tt
of_head plan (reasons.Inside from to) block (Some head) datagram is may = tt
of_head plan (reasons.Client pair) block (Some head) datagram is may = of_found plan.stated plan.allocations (reasons.Client pair) (datagram_of_block plan.policy block) datagram is may
of_head plan (reasons.Answer pair) block (Some head) datagram is may = of_found plan.stated plan.allocations (reasons.Answer pair) (datagram_of_block plan.policy block) datagram is may
of_head plan (reasons.Dtls pair) block (Some head) datagram is may = of_found plan.stated plan.allocations (reasons.Dtls pair) (datagram_of_block plan.policy block) datagram is may
of_head plan (reasons.AddressOf relayed tenure pair) block (Some head) datagram is may = of_found plan.stated plan.allocations (reasons.AddressOf relayed tenure pair) (datagram_of_block plan.policy block) datagram is may
of_head plan (reasons.AddressTold relayed tenure client) block (Some head) datagram is may = of_found plan.stated plan.allocations (reasons.AddressTold relayed tenure client) (datagram_of_block plan.policy block) datagram is may
of_head plan (reasons.Address relayed tenure) block (Some head) datagram is may = of_found plan.stated plan.allocations (reasons.Address relayed tenure) (datagram_of_block plan.policy block) datagram is may
of_head plan (reasons.Inner pair peer) block (Some head) datagram is may = of_found plan.stated plan.allocations (reasons.Inner pair peer) (datagram_of_block plan.policy block) datagram is may
of_head plan (reasons.Released pair relayed moment) block (Some head) datagram is may = of_found plan.stated plan.allocations (reasons.Released pair relayed moment) (datagram_of_block plan.policy block) datagram is may
of_head plan reasons.Edge block (Some head) datagram is may =
    of_found plan.stated plan.allocations reasons.Edge (datagram_of_block plan.policy block) datagram is
    (both (is_at_edge plan reasons.Edge head.stamp) (may_leave_datagram plan.stated plan.allocations reasons.Edge (datagram_of_block plan.policy block)) may).1

chosen : (line : ℕ) (may : Bool) → (if may then Some line else None) ≡ Some line → may ≡ true
chosen line true e = refl
chosen line false e = absurd cc

may_of : (plan : Plan) (line : ℕ) (block : Block) (reason : Reason) → slice_get plan.lines line ≡ Some reason → line_of plan (Some line) block ≡ Some line
    → may_leave_head plan (Some reason) block block.packet ≡ true
may_of plan line block reason is left = ap (λ (r : Option Reason). may_leave_head plan r block block.packet) (sym is) ∙ chosen line (may_leave_at plan line block) left

pub kept : (plan : Plan) (line : ℕ) (block : Block) (reason : Reason) (datagram : Datagram) → slice_get plan.lines line ≡ Some reason
    → datagram_of_block plan.policy block ≡ Some datagram → line_of plan (Some line) block ≡ Some line → Keeps plan.allocations reason datagram
kept plan line block reason datagram is found left = of_head plan reason block block.packet datagram found (may_of plan line block reason is left)

-- a test that some event passes
any_in : (p : Event → Bool) (xs : List Event) (x : Event) → Contains xs x → p x ≡ true → list_any p xs ≡ true
any_in p xs x (k, within, is) e = list_any_at p xs k x within (ap p is ∙ e)

-- and one that none passes
none_in : (p : Event → Bool) (xs : List Event) (test : Bool) → list_any p xs ≡ test → ((x : Event) → Contains xs x → p x ≡ true → ⊥) → test ≡ false
none_in p xs false e never = refl
none_in p xs true e never = let some = Any-from_list_any p xs e in absurd (never some.1 (some.0, some.2, some.3) some.4)

yes_and : (a b : Bool) → a ≡ true → b ≡ true → (a && b) ≡ true
yes_and a b e f = cc

yes_or : (a b : Bool) → a ≡ true → (a || b) ≡ true
yes_or a b e = cc

yes_all : (a b c : Bool) → a ≡ true → b ≡ true → c ≡ false → (a && (b && not c)) ≡ true
yes_all a b c e f g = cc

is_end : (act : Act) → ends_it act ≡ true → act ≡ acts.Ends
is_end (acts.Grants relayed tid) e = absurd cc
is_end acts.Renews e = absurd cc
is_end acts.Ends e = refl

-- no event ends it
unended : (plan : Plan) (captured : List Block) (grant : Event) (relayed : Addr) (tid : List ℕ) (stamp : ℕ) → AreNoted plan.policy plan.allocations captured
    → HasLease plan.policy plan.allocations captured grant relayed tid stamp → is_ended plan.allocations stamp grant ≡ false
unended plan captured grant relayed tid stamp noted lease =
    none_in (ends grant stamp) (events_at plan.allocations.leases.clients grant.client grant.listen) (is_ended plan.allocations stamp grant) refl
    (λ event has is.
    let one = both (ends_it event.said.act) (is_since grant stamp event) is in
    let two = both (is_of_client grant event) (nat_le grant.moment event.moment && nat_le event.moment stamp) one.1 in
    let three = both (nat_le grant.moment event.moment) (nat_le event.moment stamp) two.1 in
    lease.unended event (noted.only event grant.client grant.listen has) (is_end event.said.act one.0) (leb-true grant.moment event.moment three.0) (leb-true event.moment stamp three.1))

pub leased : (plan : Plan) (captured : List Block) (grant : Event) (relayed : Addr) (tid : List ℕ) (stamp : ℕ) → AreNoted plan.policy plan.allocations captured
    → HasLease plan.policy plan.allocations captured grant relayed tid stamp → is_leased plan.allocations relayed stamp ≡ true
leased plan captured grant relayed tid stamp noted lease =
    let there : Contains (events_at plan.allocations.leases.addresses relayed relayed) grant =
    subst (λ (act : Act). HasGrant plan.allocations.leases grant act) lease.address (noted.events grant lease.granted).granted in
    let asked : is_asked_by plan.allocations grant grant.said.act ≡ true = ap (is_asked_by plan.allocations grant) lease.address ∙ lease.asked in
    let before : nat_le grant.moment stamp ≡ true = le-leb grant.moment stamp lease.begun in
    let least = lease.begun in
    let most = lease.lasting in
    let short : stamp - grant.moment ≤ grant.said.seconds * 1000000000 = omega (arith, least, most) in
    let within : is_within stamp grant ≡ true = yes_and (nat_le grant.moment stamp) (nat_le (stamp - grant.moment) (grant.said.seconds * 1000000000)) before (le-leb (stamp - grant.moment) (grant.said.seconds * 1000000000) short) in
    let covered : covers plan.allocations stamp grant ≡ true = yes_all (has_begun plan.allocations stamp grant) (lasts plan.allocations stamp grant) (is_ended plan.allocations stamp grant)
    (yes_and (is_asked_by plan.allocations grant grant.said.act) (nat_le grant.moment stamp) asked before) (yes_or (is_within stamp grant) (is_renewed plan.allocations stamp grant) within)
    (unended plan captured grant relayed tid stamp noted lease) in
    any_in (covers plan.allocations stamp) (events_at plan.allocations.leases.addresses relayed relayed) grant there covered

leaving : (side : Side) (inside : Bool) → is_leaving side inside ≡ true → side ≡ Leaves
leaving Arrives inside e = absurd cc
leaving Leaves inside e = refl

early_found : (plan : Plan) (datagram : Datagram) (found : Option Datagram) → found ≡ Some datagram → may_leave_datagram plan.stated plan.allocations reasons.Edge found ≡ true
    → (plan.stated.is_from_start ≡ false) × (datagram.side ≡ Leaves)
early_found plan datagram found is may =
    let e = ap (may_leave_datagram plan.stated plan.allocations reasons.Edge) (sym is) ∙ may in
    let named = is_named reasons.Edge datagram && is_heard plan.allocations reasons.Edge in
    let rest = named && not (is_shown plan.allocations datagram) in
    let one = both (is_stated plan.stated reasons.Edge) (is_due plan.stated plan.allocations reasons.Edge datagram && rest) e in
    let two = both (is_due plan.stated plan.allocations reasons.Edge datagram) rest one.1 in
    let three = both named (not (is_shown plan.allocations datagram)) two.1 in
    let four = both (is_named reasons.Edge datagram) (is_heard plan.allocations reasons.Edge) three.0 in
    (denied plan.stated.is_from_start one.0, leaving datagram.side datagram.is_inside four.0)

stamp_in : Option Datagram → ℕ
stamp_in None = 0
stamp_in (Some datagram) = datagram.stamp

by_stamp : (policy : Policy) (leaves arrives : Bool) (stamp : ℕ) (from to : Addr) (payload : List ℕ) (datagram : Datagram) → by_ends policy leaves arrives stamp from to payload ≡ Some datagram
    → datagram.stamp ≡ stamp
unfolding stamp_in
by_stamp policy true arrives stamp from to payload datagram is = sym (ap stamp_in is)
by_stamp policy false true stamp from to payload datagram is = sym (ap stamp_in is)
by_stamp policy false false stamp from to payload datagram is = absurd cc

seen_stamp : (policy : Policy) (stamp : ℕ) (held : Held) (datagram : Datagram) → of_seen policy stamp held ≡ Some datagram → datagram.stamp ≡ stamp
seen_stamp policy stamp (frame.Udp from to payload) datagram is = by_stamp policy (is_endpoint policy from) (is_endpoint policy to) stamp from to payload datagram is
seen_stamp policy stamp frame.Other datagram is = absurd cc
seen_stamp policy stamp (frame.Fragment from to) datagram is = absurd cc
seen_stamp policy stamp (frame.Cut ips) datagram is = absurd cc

stamped : (policy : Policy) (block : Block) (head : PacketHead) (datagram : Datagram) → of_packet policy block (Some head) ≡ Some datagram → datagram.stamp ≡ head.stamp
stamped policy block head datagram is = seen_stamp policy head.stamp (datagram_of (frame_in block head) (nat_lt head.captured head.original)) datagram is

early_head : (plan : Plan) (block : Block) (packet : Option PacketHead) (datagram : Datagram) → of_packet plan.policy block packet ≡ Some datagram → datagram_of_block plan.policy block ≡ Some datagram
    → may_leave_head plan (Some reasons.Edge) block packet ≡ true → IsEarly plan datagram
early_head plan block None datagram at is may = absurd cc
early_head plan block (Some head) datagram at is may =
    let parts = both (is_at_edge plan reasons.Edge head.stamp) (may_leave_datagram plan.stated plan.allocations reasons.Edge (datagram_of_block plan.policy block)) may in
    let last = edge_of plan.policy plan.stated plan.allocations in
    let two = early_found plan datagram (datagram_of_block plan.policy block) is parts.1 in
    record { started = two.0; leaves = two.1; soon = subst (λ (stamp : ℕ). stamp ≤ last) (sym (stamped plan.policy block head datagram at)) (leb-true head.stamp last parts.0) }

pub early : (plan : Plan) (line : ℕ) (block : Block) (datagram : Datagram) → slice_get plan.lines line ≡ Some reasons.Edge
    → datagram_of_block plan.policy block ≡ Some datagram → line_of plan (Some line) block ≡ Some line → IsEarly plan datagram
early plan line block datagram is found left = early_head plan block block.packet datagram found found (may_of plan line block reasons.Edge is left)
