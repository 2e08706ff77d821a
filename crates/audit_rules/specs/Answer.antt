-- The acts of a TURN server (RFC 8656): when it may send a departure for an arrival, and what that
-- changes.
use Rattle.std.specs.Prelude.{◌≡◌}
use Rattle.audit_rules.specs.Allocation.{Change, Same}
use Rattle.audit_rules.specs.Situation.{Situation, IsServed}
use Rattle.audit_rules.specs.Responses.{AnswersBinding, AnswersError}
use Rattle.audit_rules.specs.Allocating.{AnswersNew, AnswersAgain, AnswersRefresh}
use Rattle.audit_rules.specs.Granting.{AnswersPermission, AnswersChannelBind}
use Rattle.audit_rules.specs.Relaying.{AnswersSend, AnswersChannelUp, AnswersData, AnswersChannelDown}

-- the eleven cases of an act
pub data Case : Type 0 where
  Binding : Case
  Error : Case
  New : Case
  Again : Case
  Refresh : Case
  Permission : Case
  ChannelBind : Case
  Send : Case
  ChannelUp : Case
  Data : Case
  ChannelDown : Case

-- the departure is sent for the arrival by this case, and changes the client's allocation so
abbrev pub Answers : Case → Situation → Change → Type 0
Answers Binding x change = AnswersBinding x × (change ≡ Same)
Answers Error x change = AnswersError x × (change ≡ Same)
Answers New x change = AnswersNew x change
Answers Again x change = AnswersAgain x × (change ≡ Same)
Answers Refresh x change = AnswersRefresh x change
Answers Permission x change = AnswersPermission x change
Answers ChannelBind x change = AnswersChannelBind x change
Answers Send x change = AnswersSend x × (change ≡ Same)
Answers ChannelUp x change = AnswersChannelUp x × (change ≡ Same)
Answers Data x change = AnswersData x × (change ≡ Same)
Answers ChannelDown x change = AnswersChannelDown x × (change ≡ Same)

-- the server may act so: at a listen address of its policy, by one of the eleven cases
unfoldable pub MayAnswer : Situation → Change → Type 0
MayAnswer x change = IsServed x × (case : Case) × Answers case x change
