use Rattle.std.proofs.Common.{◌≡◌, ◌≤◌, ℕ, List, false, length, vec_len}
use Rattle.audit_program.specs.Following.{Goes}
use Rattle.audit_program.specs.Reads.{AreUnread, WereRead}
use Rattle.audit_program.proofs.live.Watch.go.Given as goal

-- the turns so far left the audit going
abbrev pub invariant-turns : goal.invariant-turns
invariant-turns g l = record {
  files : vec_len l.self.live.intake.files ≡ vec_len l.fn.self.live.intake.files;
  step : l.self.is_stuck ≡ false → g.F.ExtensionFinder.placed_to l.self.finder ≡ l.self.live.last;
  few : l.idle ≤ l.turn;
  read : AreUnread (length l.names) (g.S.Growing.reads l.fn.source) → WereRead (length l.names) l.turn l.idle (g.S.Growing.reads l.source);
  goes : (policy users : List ℕ) (count : ℕ) → Goes policy users count (g.S.Growing.bytes_read l.fn.source) l.fn.self.live → Goes policy users count (g.S.Growing.bytes_read l.source) l.self.live;
}
