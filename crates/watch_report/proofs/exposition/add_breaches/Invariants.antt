use Rattle.std.proofs.Common.{◌≡◌, ◌++◌, drop}
use Rattle.std.specs.Prelude.{flat_map}
use Rattle.watch_report.specs.Metrics.{breach_text}
use Rattle.watch_report.proofs.exposition.add_breaches.Given as goal

-- the values so far and those to come are all
abbrev pub invariant-breaches : goal.invariant-breaches
invariant-breaches l = l.text.items ++ flat_map breach_text (drop l.breach-index l.breaches) ≡ l.fn.text.items ++ flat_map breach_text l.breaches
