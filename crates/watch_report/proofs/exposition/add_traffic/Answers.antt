use Rattle.watch_report.specs.Metrics.{traffic_text}
use Rattle.watch_report.proofs.Texts.{four}
use Rattle.watch_report.proofs.exposition.add_traffic.Goals as goal

pub returns : goal.returns
unfolding traffic_text
returns c = four c.add_counter.result _ _ _ _ _ _ _ _ _
    c.in_ok-add_heading.ensures c.in_ok-add_labelled.ensures c.in_ok-add_labelled-2.ensures c.add_counter.ensures
