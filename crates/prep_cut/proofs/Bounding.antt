-- What a line of released datagrams leaves out.
use Rattle.std.proofs.Common.{◌≡◌, ◌<◌, ◌≤◌, ◌+◌, ◌*◌, ◌-◌, min, ℕ, Bool, true, false, not, ◌&&◌, ◌||◌, List, Option, Some, None, nat_lt, nat_le, refl, sym, ap, ◌∙◌, arith}
use Rattle.std.specs.Prelude.{if◌then◌else◌, slice_get}
use Rattle.std.proofs.lemmas.Bool.{ltb-true, leb-true}
use Rattle.std.proofs.Math.Nat.{min-le_left}
use Rattle.audit_model.specs.declared.address.Addr.{Addr}
use Rattle.audit_model.specs.declared.pair.Pair.{Pair}
use Rattle.audit_model.specs.declared.sighting.Side.{Side}
use Rattle.audit_model.specs.declared.sighting.Side.TheVariants.{Leaves}
use Rattle.prep_blocks.specs.declared.block.Block.{Block}
use Rattle.prep_blocks.specs.declared.block.PacketHead.{PacketHead}
use Rattle.prep_cut.specs.declared.datagram.Datagram.{Datagram}
use Rattle.prep_cut.specs.declared.plan.Plan.{Plan}
use Rattle.prep_cut.specs.declared.reason.Reason.{Reason}
use Rattle.prep_cut.specs.declared.reason.Reason.TheVariants.{Released}
use Rattle.prep_cut.specs.declared.stated.Stated.{Stated}
use Rattle.prep_cut.specs.Allocating.{is_shown}
use Rattle.prep_cut.specs.Bounded.{IsBehind, IsBehindRelease}
use Rattle.prep_cut.specs.Datagrams.{datagram_of_block}
use Rattle.prep_cut.specs.Guard.{is_apart, is_free, is_stated, is_due, is_named, is_heard, is_in_time, is_behind, may_leave_datagram}
use Rattle.prep_cut.specs.Lasting.{is_its}
use Rattle.prep_cut.specs.Marks.{may_leave_head, may_leave_at, line_of}
use Rattle.prep_cut.specs.Releasing.{AreReleased, is_released}

both : (a b : Bool) → (a && b) ≡ true → (a ≡ true) × (b ≡ true)
both true true e = (refl, refl)
both true false e = absurd cc
both false b e = absurd cc

-- a departure in its time
later : (stated : Stated) (moment stamp : ℕ) (side : Side) → is_in_time side stated moment stamp ≡ true → side ≡ Leaves → is_behind stated moment stamp ≡ true
later stated moment stamp side e leaves = ap (λ (s : Side). is_in_time s stated moment stamp) (sym leaves) ∙ e

in_time : (ms moment stamp : ℕ) → nat_lt moment stamp ≡ true → nat_le (stamp - moment) (min (ms * 1000000) 18446744073709551615) ≡ true → (moment < stamp) × (stamp ≤ moment + ms * 1000000)
in_time ms moment stamp e f =
    let after : moment < stamp = ltb-true moment stamp e in
    let by : stamp - moment ≤ min (ms * 1000000) 18446744073709551615 = leb-true (stamp - moment) (min (ms * 1000000) 18446744073709551615) f in
    let most : min (ms * 1000000) 18446744073709551615 ≤ ms * 1000000 = min-le_left (ms * 1000000) 18446744073709551615 in
    (after, omega (arith, after, by, most))

of_datagram : (plan : Plan) (captured : List Block) (pair : Pair) (relayed : Addr) (moment : ℕ) (datagram : Datagram) → AreReleased plan.policy plan.allocations captured
    → may_leave_datagram plan.stated plan.allocations (Released pair relayed moment) (Some datagram) ≡ true → IsBehind plan captured pair relayed moment datagram
of_datagram plan captured pair relayed moment datagram shown e =
    let reason : Reason = Released pair relayed moment in
    let one = both (is_stated plan.stated reason) (is_due plan.stated plan.allocations reason datagram && ((is_named reason datagram && is_heard plan.allocations reason) && not (is_shown plan.allocations datagram))) e in
    let two = both (is_due plan.stated plan.allocations reason datagram) ((is_named reason datagram && is_heard plan.allocations reason) && not (is_shown plan.allocations datagram)) one.1 in
    let three = both (is_named reason datagram) (is_heard plan.allocations reason) (both (is_named reason datagram && is_heard plan.allocations reason) (not (is_shown plan.allocations datagram)) two.1).0 in
    let four = both (is_released plan.allocations (record { client = pair.client; listen = pair.listen; moment = moment }))
    (is_in_time datagram.side plan.stated moment datagram.stamp && (is_its plan.allocations pair relayed moment && (is_apart plan.allocations datagram && (is_free plan.allocations datagram || datagram.is_data)))) two.0 in
    let five = both (is_in_time datagram.side plan.stated moment datagram.stamp) (is_its plan.allocations pair relayed moment && (is_apart plan.allocations datagram && (is_free plan.allocations datagram || datagram.is_data))) four.1 in
    let time = λ (leaves : datagram.side ≡ Leaves). both (nat_lt moment datagram.stamp) (nat_le (datagram.stamp - moment) (min (plan.stated.released_ms * 1000000) 18446744073709551615))
    (later plan.stated moment datagram.stamp datagram.side five.0 leaves) in
    record {
      stated = ltb-true 0 plan.stated.released_ms one.0;
      shown = shown (record { client = pair.client; listen = pair.listen; moment = moment }) four.0;
      named = three.0;
      behind = λ leaves. (in_time plan.stated.released_ms moment datagram.stamp (time leaves).0 (time leaves).1).0;
      within = λ leaves. (in_time plan.stated.released_ms moment datagram.stamp (time leaves).0 (time leaves).1).1;
    }

of_found : (plan : Plan) (captured : List Block) (pair : Pair) (relayed : Addr) (moment : ℕ) (found : Option Datagram) → AreReleased plan.policy plan.allocations captured
    → may_leave_datagram plan.stated plan.allocations (Released pair relayed moment) found ≡ true → IsBehindRelease plan captured pair relayed moment found
of_found plan captured pair relayed moment None shown e = absurd cc
of_found plan captured pair relayed moment (Some datagram) shown e = of_datagram plan captured pair relayed moment datagram shown e

of_head : (plan : Plan) (captured : List Block) (pair : Pair) (relayed : Addr) (moment : ℕ) (block : Block) (packet : Option PacketHead) → AreReleased plan.policy plan.allocations captured
    → may_leave_head plan (Some (Released pair relayed moment)) block packet ≡ true → IsBehindRelease plan captured pair relayed moment (datagram_of_block plan.policy block)
of_head plan captured pair relayed moment block None shown e = absurd cc
of_head plan captured pair relayed moment block (Some head) shown e = of_found plan captured pair relayed moment (datagram_of_block plan.policy block) shown e

chosen : (line : ℕ) (may : Bool) → (if may then Some line else None) ≡ Some line → may ≡ true
chosen line true e = refl
chosen line false e = absurd cc

pub bounded : (plan : Plan) (captured : List Block) (line : ℕ) (block : Block) (pair : Pair) (relayed : Addr) (moment : ℕ) → AreReleased plan.policy plan.allocations captured
    → slice_get plan.lines line ≡ Some (Released pair relayed moment) → line_of plan (Some line) block ≡ Some line → IsBehindRelease plan captured pair relayed moment (datagram_of_block plan.policy block)
bounded plan captured line block pair relayed moment shown is left =
    of_head plan captured pair relayed moment block block.packet shown
    (ap (λ (reason : Option Reason). may_leave_head plan reason block block.packet) (sym is) ∙ chosen line (may_leave_at plan line block) left)
