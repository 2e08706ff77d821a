use Rattle.std.proofs.Common.{◌≡◌, take, drop}
use Rattle.audit_text.specs.Token.{cut_of}
use Rattle.audit_text.proofs.Cuts.{with_front}
use Rattle.audit_text.proofs.token.cut.Given as goal

-- what is cut from the whole is what is cut from the rest, behind the bytes that were passed
abbrev pub invariant-loop-at : goal.invariant-loop-at
invariant-loop-at l = cut_of l.separator l.bytes ≡ with_front (take l.at l.bytes) (cut_of l.separator (drop l.at l.bytes))
