use Rattle.std.proofs.Common.{◌∙◌, ap}
use Rattle.audit_lane.specs.Content.{Content}
use Rattle.explain_state.proofs.row.lane_row.Goals as goal

pub returns : goal.returns
returns c = record {
  number = c.number.ensures ∙ ap (λ (x : Content). x.number) c.input-input.ensures;
  client = c.client.ensures ∙ ap (λ (x : Content). x.client) c.input-input.ensures;
  listen = c.listen.ensures ∙ ap (λ (x : Content). x.listen) c.input-input.ensures;
  breach = c.breach_of.ensures.told;
  judged = c.breach_of.ensures.judged;
}
