use Rattle.std.proofs.Common.{Some, ap, arith}
use Rattle.audit_stun.proofs.Xor.{address_found, address_only}
use Rattle.audit_stun.proofs.transport.address.Goals as goal

pub returns-clause-found : goal.returns-clause-found
returns-clause-found c =
    address_found c.args.value.now _ _ (λ i. omega (arith, c.type_inv.value i)) c.in-len8.len_at_least c.in-len8.len_below c.if-family-ne-FAMILY_IPV4.false c.from_be_bytes.type_inv c.from_be_bytes-ip.type_inv c.from_be_bytes.ensures c.from_be_bytes-ip.ensures

pub returns-clause-only : goal.returns-clause-only
returns-clause-only c = λ address a. ap Some (address_only c.args.value.now _ _ address a c.from_be_bytes.ensures c.from_be_bytes-ip.ensures)
