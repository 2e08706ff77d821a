use Rattle.std.proofs.Common.{ℕ, rules, length}
use Rattle.std.proofs.lemmas.List.{drop-replicate}
use Rattle.audit_keys.proofs.hmac.filled.Goals as goal

pub returns : goal.returns
returns c = rw (c.copy_from_slice.ensures.after, drop-replicate {X = ℕ} (length c.args.bytes.now) 64 0) (search rules)
