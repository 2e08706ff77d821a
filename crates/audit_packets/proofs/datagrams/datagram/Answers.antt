use Rattle.std.proofs.Common.{List, ℕ, sym, ◌∙◌, subst, arith}
use Rattle.audit_packets.specs.Spelled.{HoldsUdp}
use Rattle.audit_packets.proofs.UdpHeaders.{IsBytes}
use Rattle.audit_packets.proofs.Whole.{udp_as_spelled}
use Rattle.audit_packets.proofs.datagrams.datagram.Goals as goal

pub returns-clause-udp : goal.returns-clause-udp
returns-clause-udp c = λ from to payload.
    let fits : IsBytes c.as_slice-frame.result.now = λ i. grind arith in
    let whole = udp_as_spelled c.as_slice-frame.result.now _ from to payload fits in
    let same = c.as_slice-frame.ensures in
    (λ e. subst (λ (x : List ℕ). HoldsUdp x from to payload) same (whole.0 (sym c.seen_in.ensures ∙ e)), λ h. c.seen_in.ensures ∙ whole.1 (subst (λ (x : List ℕ). HoldsUdp x from to payload) (sym same) h))
