use Rattle.watch_report.specs.Metrics.{state_text}
use Rattle.watch_report.proofs.Texts.{five}
use Rattle.watch_report.proofs.exposition.add_state.Goals as goal

pub returns : goal.returns
unfolding state_text
returns c = five c.add_gauge-5.result _ _ _ _ _ _ _ _ _ _ _
    c.in_ok-add_gauge.ensures c.in_ok-add_gauge-2.ensures c.in_ok-add_gauge-3.ensures c.in_ok-add_gauge-4.ensures c.add_gauge-5.ensures
