use Rattle.std.proofs.Common.{◌≡◌, true, false, refl, arith}
use Rattle.audit_stun.proofs.Headers.{IsRead, header_from, header_tells, message_of_header, header_of_message}
use Rattle.audit_stun.proofs.parse.message.Goals as goal
use Rattle.audit_stun.proofs.parse.message.Goals.{else-message_type-via-then-message_type+then-length-body+then-cookie-eq-MAGIC_COOKIE+else-are_attributes, else-message_type-via-then-message_type+then-length-body+else-cookie-eq-MAGIC_COOKIE, else-message_type-via-then-message_type+else-length-body, else-message_type-via-else-message_type}

pub invariant_of-result : goal.invariant_of-result
invariant_of-result c =
    let read : IsRead c.args.payload.now c.split_at.result.0.now c.split_at.result.1.now _ _ _ = record {
      header_is = c.split_at.ensures.front;
      body_is = c.split_at.ensures.back;
      number_is = c.from_be_bytes-message_type.ensures;
      len_is = c.from_be_bytes-length.ensures;
      cookie_is = c.from_be_bytes-cookie.ensures;
    } in
    message_of_header c.args.payload.now (λ i. omega (arith, c.type_inv.payload i)) (header_from _ _ _ _ _ _ read c.if-payload-lt-HEADER_LENGTH.false c.if-message_type.true c.if-length-body.true c.if-cookie-eq-MAGIC_COOKIE.true (c.if-are_attributes.ensures.0 refl))

pub returns-then-are_attributes-clause-found : goal.returns-then-are_attributes-clause-found
returns-then-are_attributes-clause-found c = (refl, invariant_of-result c)

pub returns-then-are_attributes-clause-only : goal.returns-then-are_attributes-clause-only
returns-then-are_attributes-clause-only c = λ parts m. (refl, (header_of_message c.args.payload.now parts m).1)

pub returns-else-message_type-clause-only : goal.returns-else-message_type-clause-only
returns-else-message_type-clause-only c = λ parts m.
    let read : IsRead c.args.payload.now c.split_at.result.0.now c.split_at.result.1.now _ _ _ = record {
      header_is = c.split_at.ensures.front;
      body_is = c.split_at.ensures.back;
      number_is = c.from_be_bytes-message_type.ensures;
      len_is = c.from_be_bytes-length.ensures;
      cookie_is = c.from_be_bytes-cookie.ensures;
    } in
    let h = header_tells _ _ _ _ _ _ read (header_of_message c.args.payload.now parts m).0 in
    absurd (elim c.else-message_type.branch [
      | else-message_type-via-then-message_type+then-length-body+then-cookie-eq-MAGIC_COOKIE+else-are_attributes w ↦ (let e : false ≡ true = w.if-are_attributes.ensures.1 h.3 in cc)
      | else-message_type-via-then-message_type+then-length-body+else-cookie-eq-MAGIC_COOKIE w ↦ w.if-cookie-eq-MAGIC_COOKIE.false h.2
      | else-message_type-via-then-message_type+else-length-body w ↦ w.if-length-body.false h.1
      | else-message_type-via-else-message_type w ↦ omega arith
    ])
