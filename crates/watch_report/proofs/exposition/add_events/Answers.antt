use Rattle.watch_report.specs.Metrics.{events_text}
use Rattle.watch_report.proofs.Texts.{four}
use Rattle.watch_report.proofs.exposition.add_events.Goals as goal

pub returns : goal.returns
unfolding events_text
returns c = four c.add_counter-2.result _ _ _ _ _ _ _ _ _
    c.in_ok-add_heading.ensures c.in_ok-add_breaches.ensures c.in_ok-add_counter.ensures c.add_counter-2.ensures
