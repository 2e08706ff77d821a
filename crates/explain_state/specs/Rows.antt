-- The contents of a lane's row.
use Rattle.std.specs.Prelude.{◌≡◌, Option, Some, None}
use Rattle.audit_model.specs.declared.verdict.Breach.{Breach}
use Rattle.audit_lane.specs.Content.{Found, Judgement, Passes, Breaks}
use Rattle.audit_lane.specs.Judged.{IsJudged}
use Rattle.explain_state.specs.declared.row.LaneRow.{LaneRow}

-- the first breach of a lane, if it has one
abbrev pub breach_in : Judgement → Option Breach
breach_in (Passes tenancies) = None
breach_in (Breaks breach) = Some breach

-- the row is of this lane, and has the breach of the lane judged alone
pub record IsRowOf (found : Found) (row : LaneRow) : Type 0 where
  pub number : row.number ≡ found.input.number
  pub client : row.client ≡ found.input.client
  pub listen : row.listen ≡ found.input.listen
  pub breach : row.breach ≡ breach_in found.outcome
  pub judged : IsJudged found.input found.outcome
