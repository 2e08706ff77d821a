use Rattle.std.proofs.Common.{◌≡◌, ◌≢◌, ◌≤◌, ℕ, List, vec_len}
use Rattle.audit_program.specs.Following.{Goes}
use Rattle.audit_program.specs.Reads.{AreReadOnce}
use Rattle.audit_program.specs.declared.live.Turn.TheVariants.{Refused}
use Rattle.audit_program.proofs.live.Watch.feed_each.Given as goal

-- what was fed so far left the audit going
abbrev pub invariant-loop-file : goal.invariant-loop-file
invariant-loop-file g l = record {
  files : vec_len l.self.live.intake.files ≡ vec_len l.fn.self.live.intake.files;
  there : l.files ≡ vec_len l.fn.self.live.intake.files;
  apart : l.turn ≢ Refused;
  last : (l.self.live.last ≡ l.fn.self.live.last) × (l.self.finder ≡ l.fn.self.finder);
  stuck : l.self.is_stuck ≡ l.fn.self.is_stuck;
  read : AreReadOnce l.turn l.file (g.S.Growing.reads l.fn.source) (g.S.Growing.reads l.source);
  rest : (other : ℕ) → l.file ≤ other → g.S.Growing.reads l.source other ≡ g.S.Growing.reads l.fn.source other;
  goes : (policy users : List ℕ) (count : ℕ) → Goes policy users count (g.S.Growing.bytes_read l.fn.source) l.fn.self.live → Goes policy users count (g.S.Growing.bytes_read l.source) l.self.live;
}
