use Rattle.std.proofs.Common.{◌≡◌, ◌++◌, true, drop, string_bytes}
use Rattle.watch_report.specs.Ascii.{ascii_bytes, is_printable}
use Rattle.watch_report.proofs.ascii.ascii_text.Given as goal

abbrev pub invariant-bytes : goal.invariant-bytes
invariant-bytes l = record {
  written : string_bytes l.text ++ ascii_bytes (drop l.byte-index l.bytes) ≡ ascii_bytes l.bytes;
  printable : is_printable (string_bytes l.text) ≡ true;
}
