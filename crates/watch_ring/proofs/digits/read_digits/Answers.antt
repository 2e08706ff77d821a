use Rattle.std.proofs.Common.{rules, ◌≡◌, List, ℕ, length, get_or, ap, arith}
use Rattle.watch_ring.proofs.Numerals.{digit_at, digits_push, room, small_push}
use Rattle.watch_ring.specs.Names.{digits}
use Rattle.watch_ring.proofs.digits.read_digits.Goals as goal

pub loop-byte-init : goal.loop-byte-init
unfolding digits
loop-byte-init c = search rules

pub returns-then-not-is_ascii_digit-clause-none : goal.returns-then-not-is_ascii_digit-clause-none
returns-then-not-is_ascii_digit-clause-none c n e =
    let digit = digit_at (length c.args.bytes.now) n c.loop-byte.byte-index c.loop-byte-test.true in
    let here : get_or c.args.bytes.now c.loop-byte.byte-index 0 ≡ get_or (digits (length c.args.bytes.now) n) c.loop-byte.byte-index 0 = ap (λ (l : List ℕ). get_or l c.loop-byte.byte-index 0) e in
    omega (arith, c.if-not-is_ascii_digit.ensures.cases, digit, here)

pub overflow_mul-number : goal.overflow_mul-number
overflow_mul-number c = omega (arith, room c.loop-byte.byte-index c.loop-byte.number (omega arith) c.loop-byte.invariant.small)

pub overflow_add-number : goal.overflow_add-number
overflow_add-number c = omega (arith, room c.loop-byte.byte-index c.loop-byte.number (omega arith) c.loop-byte.invariant.small, c.if-not-is_ascii_digit.ensures.cases)

pub loop-byte-preserved : goal.loop-byte-preserved
loop-byte-preserved c =
    let digit = c.if-not-is_ascii_digit.ensures.cases in
    record {
      small = small_push c.loop-byte.byte-index c.loop-byte.number c.from.result c.loop-byte.invariant.small (omega (arith, digit));
      so_far = digits_push c.args.bytes.now c.loop-byte.byte-index c.loop-byte.number c.from.result c.loop-byte-test.true c.loop-byte.invariant.so_far (omega (arith, digit)) (omega (arith, digit));
    }
