-- A line that names a client excludes nothing for a client that sends nothing.
use Rattle.std.proofs.Common.{◌≡◌, Bool, true, false, not, ◌&&◌, List, Option, Some, None, ℕ, refl, cond, ◌⊎◌, inl, inr, sym, ap, ◌∙◌}
use Rattle.std.specs.Prelude.{if◌then◌else◌, slice_get}
use Rattle.std.specs.BTreeSet.{BTreeSet, contains, Updates}
use Rattle.std.specs.Ordering.{is_eq}
use Rattle.std.specs.Cmp.{tied_then}
use Rattle.audit_model.specs.declared.address.Addr.{Addr}
use Rattle.audit_model.specs.declared.sighting.Side.{Side}
use Rattle.audit_model.specs.declared.sighting.Side.TheVariants.{Arrives}
use Rattle.audit_model.specs.LanePairs.{addr_cmp, pair_cmp}
use Rattle.prep_blocks.specs.declared.block.Block.{Block}
use Rattle.prep_blocks.specs.declared.block.PacketHead.{PacketHead}
use Rattle.prep_cut.specs.declared.datagram.Datagram.{Datagram}
use Rattle.prep_cut.specs.declared.plan.Plan.{Plan}
use Rattle.prep_cut.specs.declared.reason.Reason.{Reason}
use Rattle.prep_cut.specs.declared.reason.Reason.TheVariants as reasons
use Rattle.prep_cut.specs.Allocating.{is_shown}
use Rattle.prep_cut.specs.Datagrams.{datagram_of_block}
use Rattle.prep_cut.specs.Kept.{IsMoment}
use Rattle.prep_cut.specs.Marks.{is_at_edge, may_leave_head, may_leave_at, line_of}
use Rattle.prep_cut.specs.Guard.{is_stated, is_due, is_named, is_heard, may_leave_datagram}
use Rattle.prep_cut.specs.Heard.{IsOfHeard, IsOfSender}
use Rattle.prep_cut.specs.Sending.{AreSenders, Sends}
use Rattle.prep_cut.proofs.Releases.{both, same_address}

heard_of : (plan : Plan) (captured : List Block) → AreSenders plan.policy plan.allocations captured → (reason : Reason) → is_heard plan.allocations reason ≡ true → IsOfHeard plan captured reason
heard_of plan captured are (reasons.Client pair) e = are pair.client pair.listen e
heard_of plan captured are (reasons.Answer pair) e = are pair.client pair.listen e
heard_of plan captured are (reasons.Released pair relayed moment) e = are pair.client pair.listen e
heard_of plan captured are (reasons.Dtls pair) e = are pair.client pair.listen e
heard_of plan captured are (reasons.Inner pair peer) e = are pair.client pair.listen e
heard_of plan captured are reasons.BeforeSince e = tt
heard_of plan captured are reasons.AfterUntil e = tt
heard_of plan captured are (reasons.AddressOf relayed tenure pair) e = tt
heard_of plan captured are (reasons.AddressTold relayed tenure client) e = tt
heard_of plan captured are (reasons.Address relayed tenure) e = tt
heard_of plan captured are (reasons.Inside from to) e = tt
heard_of plan captured are reasons.Edge e = tt

of_sender : (plan : Plan) (captured : List Block) (reason : Reason) (datagram : Datagram) → AreSenders plan.policy plan.allocations captured
    → may_leave_datagram plan.stated plan.allocations reason (Some datagram) ≡ true → IsOfSender plan captured reason datagram
of_sender plan captured reason datagram are e =
    let named = is_named reason datagram && is_heard plan.allocations reason in
    let stays = not (is_shown plan.allocations datagram) in
    let one = both (is_stated plan.stated reason) (is_due plan.stated plan.allocations reason datagram && (named && stays)) e in
    let two = both (is_due plan.stated plan.allocations reason datagram) (named && stays) one.1 in
    let three = both named stays two.1 in
    let four = both (is_named reason datagram) (is_heard plan.allocations reason) three.0 in
    record { stated = one.0; named = four.0; heard = heard_of plan captured are reason four.1 }

of_found : (plan : Plan) (captured : List Block) (reason : Reason) (found : Option Datagram) (datagram : Datagram) → AreSenders plan.policy plan.allocations captured → found ≡ Some datagram
    → may_leave_datagram plan.stated plan.allocations reason found ≡ true → IsOfSender plan captured reason datagram
of_found plan captured reason found datagram are is may = of_sender plan captured reason datagram are (ap (may_leave_datagram plan.stated plan.allocations reason) (sym is) ∙ may)

of_head : (plan : Plan) (captured : List Block) (reason : Reason) (block : Block) (packet : Option PacketHead) (datagram : Datagram) → AreSenders plan.policy plan.allocations captured
    → datagram_of_block plan.policy block ≡ Some datagram → may_leave_head plan (Some reason) block packet ≡ true → IsMoment (Some reason) ⊎ IsOfSender plan captured reason datagram
of_head plan captured reason block None datagram are is may = absurd cc
of_head plan captured reasons.BeforeSince block (Some head) datagram are is may = inl tt
of_head plan captured reasons.AfterUntil block (Some head) datagram are is may = inl tt
of_head plan captured (reasons.Client pair) block (Some head) datagram are is may = inr (of_found plan captured (reasons.Client pair) (datagram_of_block plan.policy block) datagram are is may)
of_head plan captured (reasons.Answer pair) block (Some head) datagram are is may = inr (of_found plan captured (reasons.Answer pair) (datagram_of_block plan.policy block) datagram are is may)
of_head plan captured (reasons.AddressOf relayed tenure pair) block (Some head) datagram are is may = inr (of_found plan captured (reasons.AddressOf relayed tenure pair) (datagram_of_block plan.policy block) datagram are is may)
of_head plan captured (reasons.AddressTold relayed tenure client) block (Some head) datagram are is may = inr (of_found plan captured (reasons.AddressTold relayed tenure client) (datagram_of_block plan.policy block) datagram are is may)
of_head plan captured (reasons.Address relayed tenure) block (Some head) datagram are is may = inr (of_found plan captured (reasons.Address relayed tenure) (datagram_of_block plan.policy block) datagram are is may)
of_head plan captured (reasons.Released pair relayed moment) block (Some head) datagram are is may = inr (of_found plan captured (reasons.Released pair relayed moment) (datagram_of_block plan.policy block) datagram are is may)
of_head plan captured (reasons.Dtls pair) block (Some head) datagram are is may = inr (of_found plan captured (reasons.Dtls pair) (datagram_of_block plan.policy block) datagram are is may)
of_head plan captured (reasons.Inner pair peer) block (Some head) datagram are is may = inr (of_found plan captured (reasons.Inner pair peer) (datagram_of_block plan.policy block) datagram are is may)
of_head plan captured (reasons.Inside from to) block (Some head) datagram are is may = inr (of_found plan captured (reasons.Inside from to) (datagram_of_block plan.policy block) datagram are is may)
of_head plan captured reasons.Edge block (Some head) datagram are is may =
    inr (of_found plan captured reasons.Edge (datagram_of_block plan.policy block) datagram are is
    (both (is_at_edge plan reasons.Edge head.stamp) (may_leave_datagram plan.stated plan.allocations reasons.Edge (datagram_of_block plan.policy block)) may).1)

chosen : (line : ℕ) (may : Bool) → (if may then Some line else None) ≡ Some line → may ≡ true
chosen line true e = refl
chosen line false e = absurd cc

pub excluded : (plan : Plan) (captured : List Block) (line : ℕ) (block : Block) (reason : Reason) (datagram : Datagram) → AreSenders plan.policy plan.allocations captured
    → slice_get plan.lines line ≡ Some reason → datagram_of_block plan.policy block ≡ Some datagram → line_of plan (Some line) block ≡ Some line
    → IsMoment (Some reason) ⊎ IsOfSender plan captured reason datagram
excluded plan captured line block reason datagram are is found left =
    of_head plan captured reason block block.packet datagram are found
    (ap (λ (r : Option Reason). may_leave_head plan r block block.packet) (sym is) ∙ chosen line (may_leave_at plan line block) left)

pub same_pair : (a b c d : Addr) → is_eq (pair_cmp (a, b) (c, d)) ≡ true → (a ≡ c) × (b ≡ d)
same_pair a b c d e =
    let parts = both (is_eq (addr_cmp a c)) (is_eq (addr_cmp b d)) (tied_then (addr_cmp a c) (addr_cmp b d) ∙ e) in
    (same_address a c parts.0, same_address b d parts.1)

by_order : (from to client listen : Addr) (test had : Bool) → is_eq (pair_cmp (from, to) (client, listen)) ≡ test → cond test true had ≡ true
    → (had ≡ true) ⊎ ((from ≡ client) × (to ≡ listen))
by_order from to client listen true had e is = inr (same_pair from to client listen e)
by_order from to client listen false had e is = inl is

on_side : (side : Side) (from to client listen : Addr) (had : Bool) → side ≡ Arrives → (had ≡ true) ⊎ ((from ≡ client) × (to ≡ listen))
    → (had ≡ true) ⊎ ((side ≡ Arrives) × (from ≡ client) × (to ≡ listen))
on_side side from to client listen had arrives (inl is) = inl is
on_side side from to client listen had arrives (inr same) = inr (arrives, same.0, same.1)

-- a sender more
pub sender_noted : (old new : BTreeSet (Addr × Addr)) (datagram : Datagram) → Updates pair_cmp old new (datagram.from, datagram.to) true → datagram.side ≡ Arrives
    → (client listen : Addr) → contains pair_cmp new (client, listen) ≡ true → (contains pair_cmp old (client, listen) ≡ true) ⊎ Sends client listen (Some datagram)
sender_noted old new datagram u arrives client listen is =
    on_side datagram.side datagram.from datagram.to client listen (contains pair_cmp old (client, listen)) arrives
    (by_order datagram.from datagram.to client listen (is_eq (pair_cmp (datagram.from, datagram.to) (client, listen))) (contains pair_cmp old (client, listen)) refl (sym (u.0 (client, listen)) ∙ is))
