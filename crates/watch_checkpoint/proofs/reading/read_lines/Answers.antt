use Rattle.std.proofs.Common.{◌++◌, sym, ◌∙◌, codes}
use Rattle.watch_checkpoint.proofs.Lifted.{stripped, read_lifted, refusal_lifted, begins, not_stripped}
use Rattle.watch_checkpoint.proofs.reading.read_lines.Goals as goal

pub returns-in-Some-clause-ok : goal.returns-in-Some-clause-ok
returns-in-Some-clause-ok c =
    read_lifted c.args.grace c.args.bytes.now c.in-Ok-Some.body.now c.in-Some.rest.now c.read_rest.result (rw c.in-Ok-Some.field-0-is at c.in-Ok-Some.ensures.some)
    (stripped c.in-Ok-Some.body.now c.in-Some.rest.now c.in-Some.ensures.cases.0 c.in-Some.ensures.cases.1) c.read_rest.ensures.ok

pub returns-in-Some-clause-why : goal.returns-in-Some-clause-why
returns-in-Some-clause-why c =
    refusal_lifted c.args.grace c.args.bytes.now c.in-Ok-Some.body.now c.in-Some.rest.now c.read_rest.result (rw c.in-Ok-Some.field-0-is at c.in-Ok-Some.ensures.some)
    (stripped c.in-Ok-Some.body.now c.in-Some.rest.now c.in-Some.ensures.cases.0 c.in-Some.ensures.cases.1) c.read_rest.ensures.err

pub returns-in-Ok-None-clause-why : goal.returns-in-Ok-None-clause-why
returns-in-Ok-None-clause-why c = (
  begins c.args.bytes.now (sym c.starts_with.ensures.value ∙ c.if-not-starts_with.false),
  λ rest e. (rw c.in-Ok-None.field-0-is at c.in-Ok-None.ensures.none) (codes "turnwatch-checkpoint 1\n" ++ rest) e,
)

pub returns-in-None-clause-why : goal.returns-in-None-clause-why
returns-in-None-clause-why c = (
  begins c.args.bytes.now (sym c.starts_with.ensures.value ∙ c.if-not-starts_with.false),
  λ rest e. not_stripped c.args.bytes.now c.in-Ok-Some.body.now rest (rw c.in-Ok-Some.field-0-is at c.in-Ok-Some.ensures.some) c.in-None.ensures.cases e,
)
