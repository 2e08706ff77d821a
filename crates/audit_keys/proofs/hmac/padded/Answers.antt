use Rattle.std.proofs.Common.{arith}
use Rattle.audit_keys.proofs.Pads.{padded_more}
use Rattle.audit_keys.proofs.hmac.padded.Goals as goal

pub loop-byte-preserved : goal.loop-byte-preserved
loop-byte-preserved c = padded_more c.args.pad c.args.block.now c.loop-byte.byte-items c.loop-byte.byte-index (omega arith) c.loop-byte.invariant
