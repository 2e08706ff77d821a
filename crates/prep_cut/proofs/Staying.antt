-- An Allocate that captures show with its success stays in.
use Rattle.std.proofs.Common.{◌≡◌, ℕ, Bool, true, false, not, ◌&&◌, Option, Some, None, ◌⊎◌, inl, inr, refl, sym, ap, ◌∙◌}
use Rattle.std.specs.Prelude.{if◌then◌else◌, slice_get}
use Rattle.prep_blocks.specs.declared.block.Block.{Block}
use Rattle.prep_blocks.specs.declared.block.PacketHead.{PacketHead}
use Rattle.prep_cut.specs.declared.allocations.Allocations.{Allocations}
use Rattle.prep_cut.specs.declared.datagram.Datagram.{Datagram}
use Rattle.prep_cut.specs.declared.plan.Plan.{Plan}
use Rattle.prep_cut.specs.declared.reason.Reason.{Reason}
use Rattle.prep_cut.specs.declared.reason.Reason.TheVariants as reasons
use Rattle.prep_cut.specs.declared.stated.Stated.{Stated}
use Rattle.audit_model.specs.declared.sighting.Side.{Side}
use Rattle.audit_model.specs.declared.sighting.Side.TheVariants.{Arrives, Leaves}
use Rattle.prep_cut.specs.declared.transaction.Transaction.{Transaction}
use Rattle.prep_cut.specs.Allocating.{is_noted, is_noted_on, is_shown, is_shown_on}
use Rattle.prep_cut.specs.Datagrams.{datagram_of_block}
use Rattle.prep_cut.specs.Guard.{is_stated, is_due, is_named, is_heard, may_leave_datagram}
use Rattle.prep_cut.specs.Marks.{is_at_edge, may_leave_head, line_of}
use Rattle.prep_cut.specs.Kept.{IsMoment, IsOfMoment}

never : (a b c d : Bool) → d ≡ true → (a && (b && (c && not d))) ≡ false
never true true true d e = rw e refl
never true true false d e = refl
never true false c d e = refl
never false b c d e = refl

barred : (stated : Stated) (allocations : Allocations) (reason : Reason) (found : Option Datagram) (datagram : Datagram) → found ≡ Some datagram
    → is_shown allocations datagram ≡ true → may_leave_datagram stated allocations reason found ≡ false
barred stated allocations reason found datagram e shown =
    ap (may_leave_datagram stated allocations reason) e ∙ never (is_stated stated reason) (is_due stated allocations reason datagram) (is_named reason datagram && is_heard allocations reason) (is_shown allocations datagram) shown

neither : (a b : Bool) → b ≡ false → (a && b) ≡ false
neither true b e = e
neither false b e = refl

by_moment : (plan : Plan) (reason : Option Reason) (block : Block) (packet : Option PacketHead) (datagram : Datagram) → datagram_of_block plan.policy block ≡ Some datagram
    → is_shown plan.allocations datagram ≡ true → IsMoment reason ⊎ (may_leave_head plan reason block packet ≡ false)
by_moment plan None block packet datagram e shown = inr refl
by_moment plan (Some reason) block None datagram e shown = inr refl
by_moment plan (Some reasons.BeforeSince) block (Some head) datagram e shown = inl tt
by_moment plan (Some reasons.AfterUntil) block (Some head) datagram e shown = inl tt
by_moment plan (Some (reasons.Client pair)) block (Some head) datagram e shown = inr (barred plan.stated plan.allocations (reasons.Client pair) (datagram_of_block plan.policy block) datagram e shown)
by_moment plan (Some (reasons.Answer pair)) block (Some head) datagram e shown = inr (barred plan.stated plan.allocations (reasons.Answer pair) (datagram_of_block plan.policy block) datagram e shown)
by_moment plan (Some (reasons.AddressOf relayed tenure pair)) block (Some head) datagram e shown = inr (barred plan.stated plan.allocations (reasons.AddressOf relayed tenure pair) (datagram_of_block plan.policy block) datagram e shown)
by_moment plan (Some (reasons.AddressTold relayed tenure client)) block (Some head) datagram e shown = inr (barred plan.stated plan.allocations (reasons.AddressTold relayed tenure client) (datagram_of_block plan.policy block) datagram e shown)
by_moment plan (Some (reasons.Address relayed tenure)) block (Some head) datagram e shown = inr (barred plan.stated plan.allocations (reasons.Address relayed tenure) (datagram_of_block plan.policy block) datagram e shown)
by_moment plan (Some (reasons.Released pair relayed moment)) block (Some head) datagram e shown = inr (barred plan.stated plan.allocations (reasons.Released pair relayed moment) (datagram_of_block plan.policy block) datagram e shown)
by_moment plan (Some (reasons.Dtls pair)) block (Some head) datagram e shown = inr (barred plan.stated plan.allocations (reasons.Dtls pair) (datagram_of_block plan.policy block) datagram e shown)
by_moment plan (Some (reasons.Inner pair peer)) block (Some head) datagram e shown = inr (barred plan.stated plan.allocations (reasons.Inner pair peer) (datagram_of_block plan.policy block) datagram e shown)
by_moment plan (Some reasons.Edge) block (Some head) datagram e shown = inr (neither (is_at_edge plan reasons.Edge head.stamp) (may_leave_datagram plan.stated plan.allocations reasons.Edge (datagram_of_block plan.policy block)) (barred plan.stated plan.allocations reasons.Edge (datagram_of_block plan.policy block) datagram e shown))
by_moment plan (Some (reasons.Inside from to)) block (Some head) datagram e shown = inr (barred plan.stated plan.allocations (reasons.Inside from to) (datagram_of_block plan.policy block) datagram e shown)

chosen : (plan : Plan) (line : ℕ) (may : Bool) → IsMoment (slice_get plan.lines line) ⊎ (may ≡ false) → IsOfMoment plan (if may then Some line else None)
chosen plan line true (inl moment) = moment
chosen plan line true (inr e) = absurd cc
chosen plan line false either = tt

pub stays : (plan : Plan) (proposed : Option ℕ) (block : Block) (datagram : Datagram) → datagram_of_block plan.policy block ≡ Some datagram → is_shown plan.allocations datagram ≡ true
    → IsOfMoment plan (line_of plan proposed block)
stays plan None block datagram e shown = tt
stays plan (Some line) block datagram e shown =
    chosen plan line (may_leave_head plan (slice_get plan.lines line) block block.packet) (by_moment plan (slice_get plan.lines line) block block.packet datagram e shown)

pub success_shown : (allocations : Allocations) (asked granted : Datagram) (transaction : Transaction) → asked.side ≡ Arrives → asked.allocate ≡ Some transaction
    → granted.side ≡ Leaves → granted.allocate ≡ Some transaction → is_noted allocations asked ≡ true → is_shown allocations granted ≡ true
success_shown allocations asked granted transaction a_side a_is g_side g_is noted =
    ap (λ (s : Side). is_shown_on s allocations granted.allocate) g_side ∙ ap (λ (t : Option Transaction). is_shown_on Leaves allocations t) g_is
    ∙ sym (ap (λ (s : Side). is_noted_on s allocations asked.allocate) a_side ∙ ap (λ (t : Option Transaction). is_noted_on Arrives allocations t) a_is) ∙ noted

pub request_shown : (allocations : Allocations) (asked granted : Datagram) (transaction : Transaction) → asked.side ≡ Arrives → asked.allocate ≡ Some transaction
    → granted.side ≡ Leaves → granted.allocate ≡ Some transaction → is_noted allocations granted ≡ true → is_shown allocations asked ≡ true
request_shown allocations asked granted transaction a_side a_is g_side g_is noted =
    ap (λ (s : Side). is_shown_on s allocations asked.allocate) a_side ∙ ap (λ (t : Option Transaction). is_shown_on Arrives allocations t) a_is
    ∙ sym (ap (λ (s : Side). is_noted_on s allocations granted.allocate) g_side ∙ ap (λ (t : Option Transaction). is_noted_on Leaves allocations t) g_is) ∙ noted
