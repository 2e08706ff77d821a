use Rattle.std.proofs.Common.{◌≡◌, ◌+◌, ◌-◌, ◌≤◌, length}
use Rattle.std.specs.Prelude.{drop}
use Rattle.audit_stun.specs.Parts.{attributes_in}
use Rattle.audit_stun.specs.Covered.{size_before}
use Rattle.audit_stun.proofs.Covered.{found_by}
use Rattle.audit_stun.proofs.messages.Message.covered_by.Given as goal

abbrev pub invariant-loop-attribute : goal.invariant-loop-attribute
invariant-loop-attribute l = record {
  within : length l.rest + 20 ≤ length l.self-inside.bytes.now;
  before : (length l.self-inside.bytes.now - length l.rest) + size_before l.kind (attributes_in l.rest) ≡ 20 + size_before l.kind (attributes_in (drop 20 l.self-inside.bytes.now));
  value : found_by l.kind (attributes_in l.rest) ≡ found_by l.kind (attributes_in (drop 20 l.self-inside.bytes.now));
}

abbrev pub decreases-loop-attribute : goal.decreases-loop-attribute
decreases-loop-attribute l = length l.rest
