use Rattle.std.proofs.Common.{◌∙◌, arith, sym, subst}
use Rattle.audit_program.specs.Following.{LeftBy}
use Rattle.audit_program.specs.declared.live.Turn.{Turn}
use Rattle.audit_program.proofs.Following.{fed_apart, left_going}
use Rattle.audit_program.proofs.Reading.{fed_not_quiet, quiet_apart, read_next}
use Rattle.audit_program.proofs.live.Watch.feed_each.Goals as goal
use Rattle.audit_program.proofs.live.Watch.feed_each.Goals.{in-Fed, in-Quiet}

pub returns-in-Refused-clause-left : goal.returns-in-Refused-clause-left
returns-in-Refused-clause-left g c = λ policy users count goes.
    subst (λ (t : Turn). LeftBy t policy users count (g.S.Growing.bytes_read c.feed.new.source) c.feed.new.self.live) c.in-Refused.is
    (c.in_ok-feed.ensures.left policy users count (c.loop-file.invariant.goes policy users count goes))

pub loop-file-preserved : goal.loop-file-preserved
loop-file-preserved g c = record {
  files = c.feed.ensures.files ∙ c.loop-file.invariant.files;
  there = c.loop-file.invariant.there;
  apart = elim c.match-branch-2.branch [
    | in-Fed w ↦ λ same. fed_apart (sym w.turn-is ∙ same)
    | in-Quiet w ↦ λ same. c.loop-file.invariant.apart (sym w.turn-is ∙ same)
  ];
  stuck = c.feed.ensures.stuck ∙ c.loop-file.invariant.stuck;
  read =
      let before = g.S.Growing.reads c.args.source.now in
      let now = g.S.Growing.reads c.loop-file.source in
      let next = g.S.Growing.reads c.feed.new.source in
      elim c.match-branch-2.branch [
        | in-Fed w ↦
            let read = c.in_ok-feed.ensures.read (λ same. fed_apart (sym w.in-Fed.is ∙ same)) in
            read_next before now next c.loop-file.file read.0 c.feed.ensures.unread c.loop-file.invariant.rest read.1 c.loop-file.turn _ c.loop-file.invariant.read
            (λ quiet. absurd (fed_not_quiet (sym w.turn-is ∙ quiet)))
        | in-Quiet w ↦
            let read = c.in_ok-feed.ensures.read (λ same. quiet_apart (sym w.in-Quiet.is ∙ same)) in
            read_next before now next c.loop-file.file read.0 c.feed.ensures.unread c.loop-file.invariant.rest read.1 c.loop-file.turn _ c.loop-file.invariant.read
            (λ quiet. (sym w.turn-is ∙ quiet, read.2 w.in-Quiet.is))
      ];
  rest = λ other within. c.feed.ensures.unread other (λ same. absurd (omega (arith, within, same))) ∙ c.loop-file.invariant.rest other (omega (arith, within));
  last = (c.feed.ensures.last.0 ∙ c.loop-file.invariant.last.0, c.feed.ensures.last.1 ∙ c.loop-file.invariant.last.1);
  goes = λ policy users count goes.
      let left = c.in_ok-feed.ensures.left policy users count (c.loop-file.invariant.goes policy users count goes) in
      elim c.match-branch-2.branch [
        | in-Fed w ↦ subst (λ (t : Turn). LeftBy t policy users count (g.S.Growing.bytes_read c.feed.new.source) c.feed.new.self.live) w.in-Fed.is left
        | in-Quiet w ↦ subst (λ (t : Turn). LeftBy t policy users count (g.S.Growing.bytes_read c.feed.new.source) c.feed.new.self.live) w.in-Quiet.is left
      ];
}

pub returns-clause-left : goal.returns-clause-left
returns-clause-left g c = λ policy users count goes.
    left_going c.loop-file.turn policy users count (g.S.Growing.bytes_read c.loop-file.source) c.loop-file.self.live c.loop-file.invariant.apart (c.loop-file.invariant.goes policy users count goes)

pub returns-in-Refused-clause-over : goal.returns-in-Refused-clause-over
returns-in-Refused-clause-over g c = λ policy users count goes same. c.in_ok-feed.ensures.over (c.loop-file.invariant.goes policy users count goes).0 c.in-Refused.is

pub returns-clause-over : goal.returns-clause-over
returns-clause-over g c = λ policy users count goes same. absurd (c.loop-file.invariant.apart same)
