-- A line that names a client excludes nothing for a client that sends nothing.
use Rattle.std.specs.Prelude.{◌≡◌, ⊤, true, List}
use Rattle.audit_model.specs.declared.pair.Pair.{Pair}
use Rattle.prep_blocks.specs.declared.block.Block.{Block}
use Rattle.prep_cut.specs.declared.datagram.Datagram.{Datagram}
use Rattle.prep_cut.specs.declared.plan.Plan.{Plan}
use Rattle.prep_cut.specs.declared.reason.Reason.{Reason}
use Rattle.prep_cut.specs.declared.reason.Reason.TheVariants as reasons
use Rattle.prep_cut.specs.Guard.{is_named, is_stated}
use Rattle.prep_cut.specs.Sending.{IsSentIn}

-- the captures show a datagram from the client of this pair to its listen address
abbrev pub IsHeard : Plan → List Block → Pair → Type 0
IsHeard plan captured pair = IsSentIn plan.policy pair.client pair.listen captured

-- the same for the client that a line names, if it names one
abbrev pub IsOfHeard : Plan → List Block → Reason → Type 0
IsOfHeard plan captured (reasons.Client pair) = IsHeard plan captured pair
IsOfHeard plan captured (reasons.Answer pair) = IsHeard plan captured pair
IsOfHeard plan captured (reasons.Released pair relayed moment) = IsHeard plan captured pair
IsOfHeard plan captured (reasons.Dtls pair) = IsHeard plan captured pair
IsOfHeard plan captured (reasons.Inner pair peer) = IsHeard plan captured pair
IsOfHeard plan captured other = ⊤

-- A datagram that a line may exclude is of the client or the address that the line names, that
-- client sends something, and the operator's statements allow the line.
pub record IsOfSender (plan : Plan) (captured : List Block) (reason : Reason) (datagram : Datagram) : Type 0 where
  pub stated : is_stated plan.stated reason ≡ true
  pub named : is_named reason datagram ≡ true
  pub heard : IsOfHeard plan captured reason
