use Rattle.std.proofs.Common.{ℕ, List, ◌∙◌, ap}
use Rattle.std.proofs.lemmas.Option.{none-some, same_Some}
use Rattle.audit_faults.proofs.values.channel_bytes.Goals as goal

pub returns-in_default : goal.returns-in_default
returns-in_default c number past bytes says = absurd (none-some (number, bytes, past) (c.in_default.ensures.value ∙ says))

pub returns : goal.returns
returns c number past bytes says = ap (λ (t : ℕ × List ℕ × ℕ). t.1) (same_Some (c.in-Some.field-0-0, c.in-Some.bytes.now, c.in-Some.field-0-2) (number, bytes, past) (c.in-Some.ensures.value ∙ says))
