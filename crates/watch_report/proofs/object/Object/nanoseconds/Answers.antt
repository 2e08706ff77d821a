use Rattle.std.proofs.Common.{ap, ◌∙◌}
use Rattle.watch_report.specs.Ascii.{is_printable}
use Rattle.watch_report.proofs.Plain.{printable_decimal}
use Rattle.watch_report.proofs.object.Object.nanoseconds.Goals as goal

pub string-requires-clause-text : goal.string-requires-clause-text
string-requires-clause-text c = ap is_printable c.in_ok-text.ensures.ok ∙ printable_decimal c.args.value c.ranges.value.fits
