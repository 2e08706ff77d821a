use Rattle.std.proofs.Common.{◌≡◌, ℕ, length, sym, ◌∙◌, ap, arith}
use Rattle.watch_ring.specs.Names.{digits}
use Rattle.watch_ring.proofs.Numerals.{digits_inj, follows_field}
use Rattle.watch_ring.proofs.digits.read_field.Goals as goal

pub returns-in_err-written-clause-only : goal.returns-in_err-written-clause-only
returns-in_err-written-clause-only c n rest small e =
    let parts = follows_field c.args.bytes.now c.in_ok-first.first.now c.in_ok-first.bytes.now c.args.width n rest c.in_ok-first.ensures.cases.0 e in
    absurd (omega (arith, parts.long, c.in_err-written.ensures.cases))

pub returns-in_err-number-clause-only : goal.returns-in_err-number-clause-only
returns-in_err-number-clause-only c n rest small e =
    let parts = follows_field c.args.bytes.now c.in_ok-first.first.now c.in_ok-first.bytes.now c.args.width n rest c.in_ok-first.ensures.cases.0 e in
    let split = c.in_ok-written.ensures.cases in
    absurd (c.in_err-number.ensures.none n (split.1 ∙ parts.front ∙ ap (λ (w : ℕ). digits w n) (sym split.3)))

pub returns-clause-only : goal.returns-clause-only
returns-clause-only c n rest small e =
    let parts = follows_field c.args.bytes.now c.in_ok-first.first.now c.in_ok-first.bytes.now c.args.width n rest c.in_ok-first.ensures.cases.0 e in
    let split = c.in_ok-written.ensures.cases in
    let found = c.in_ok-number.ensures.found in
    let wide : ◌≡◌ {A = ℕ} (length c.in_ok-written.written.now) c.args.width = split.3 in
    let small_too = rw wide at found.0 in
    let written = rw wide at found.1 in
    (digits_inj c.args.width c.in_ok-number.number n small_too small (sym written ∙ split.1 ∙ parts.front), split.2 ∙ parts.back)
