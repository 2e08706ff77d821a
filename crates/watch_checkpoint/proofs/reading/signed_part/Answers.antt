use Rattle.std.proofs.Common.{◌≡◌, true, false, sym, ap, ◌∙◌, arith}
use Rattle.std.specs.Cmp.Lexicographic.{bytes_decides}
use Rattle.watch_checkpoint.specs.Spelling.{digest_line}
use Rattle.watch_checkpoint.proofs.Signed.{signed_parts}
use Rattle.watch_checkpoint.proofs.reading.signed_part.Goals as goal

pub returns-then-bytes-lt-LAST_LINE-clause-none : goal.returns-then-bytes-lt-LAST_LINE-clause-none
returns-then-bytes-lt-LAST_LINE-clause-none c body e =
    let parts = signed_parts c.args.bytes.now body e in
    omega (arith, parts.long, c.if-bytes-lt-LAST_LINE.true)

pub returns-clause-none : goal.returns-clause-none
returns-clause-none c body e =
    let parts = signed_parts c.args.bytes.now body e in
    let front = c.split_at.ensures.front ∙ parts.front in
    let last = c.split_at.ensures.back ∙ parts.last in
    let digest = c.in_ok-digest.ensures ∙ ap digest_line front in
    let same = last ∙ sym digest ∙ sym c.as_slice.ensures.value in
    let both : true ≡ false = sym ((bytes_decides _ _).1 same) ∙ sym c.eq.ensures ∙ c.if-eq.false in
    absurd cc
