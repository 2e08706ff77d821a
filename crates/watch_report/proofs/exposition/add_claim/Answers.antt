use Rattle.watch_report.specs.Metrics.{claim_text}
use Rattle.watch_report.proofs.Texts.{four}
use Rattle.watch_report.proofs.exposition.add_claim.Goals as goal

pub returns : goal.returns
unfolding claim_text
returns c = four c.add_seconds-3.result _ _ _ _ _ _ _ _ _
    (rw c.flag_number.ensures at c.in_ok-add_gauge.ensures) c.in_ok-add_seconds.ensures c.in_ok-add_seconds-2.ensures c.add_seconds-3.ensures
