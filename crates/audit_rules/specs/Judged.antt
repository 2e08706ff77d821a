-- The claim about an act that is judged to be right.
use Rattle.audit_rules.specs.declared.acts.Act.{Act}
use Rattle.audit_rules.specs.declared.effect.Effect.{Effect}
use Rattle.audit_rules.specs.Answer.{MayAnswer}
use Rattle.audit_rules.specs.Effect.{change_of}
use Rattle.audit_rules.specs.Seen.{situation}

-- the server may act so, and this is the act's effect
abbrev pub MayTakeEffect : Act → Effect → Type 0
MayTakeEffect act effect = MayAnswer (situation act) (change_of act.moment effect)
