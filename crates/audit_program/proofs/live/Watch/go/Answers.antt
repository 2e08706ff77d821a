use Rattle.std.proofs.Common.{◌≡◌, ◌≢◌, ◌≤◌, ◌+◌, ◌∙◌, ℕ, List, None, Option, ap, arith, false, inl, inr, length, refl, sym, subst}
use Rattle.std.specs.Prelude.{IfNone, IfSome}
use Rattle.audit_program.specs.Following.{Goes}
use Rattle.audit_program.specs.Reads.{AreReadOut, WereRead}
use Rattle.audit_program.specs.declared.live.Watch.{Watch}
use Rattle.audit_program.proofs.Following.{goes_same, left_following}
use Rattle.audit_program.proofs.Reading.{unread_were_read}
use Rattle.audit_program.proofs.live.Watch.go.Goals as goal
use Rattle.audit_program.proofs.live.Watch.go.Goals.{else-turns-test, then-turns-test+in_ok-now+in-Some+then-idle-turns}

pub returns-in-None : goal.returns-in-None
returns-in-None g c = record {
  follows = λ policy users count goes. c.in_ok-now.ensures.follows policy users count (c.turns.invariant.goes policy users count goes);
  ended = λ policy users count goes unread. inl (subst (λ (o : Option ℕ). IfNone o (c.turn_on.new.self.live.ended ≢ None)) c.in-None.is (c.in_ok-now.ensures.over policy users count (c.turns.invariant.goes policy users count goes)));
  stopped = tt;
}

pub turns-preserved : goal.turns-preserved
turns-preserved g c = record {
  files = c.turn_on.ensures.files ∙ c.turns.invariant.files;
  step = subst (λ (o : Option ℕ). IfSome o (λ _. c.turn_on.new.self.is_stuck ≡ false → g.F.ExtensionFinder.placed_to c.turn_on.new.self.finder ≡ c.turn_on.new.self.live.last)) c.in-Some.is c.in_ok-now.ensures.step;
  few =
      let now_few = subst (λ (o : Option ℕ). IfSome o (λ now. now ≤ c.turns.idle + 1)) c.in-Some.is c.in_ok-now.ensures.few in
      omega (arith, now_few, c.turns.invariant.few);
  read = λ unread.
      subst (λ (reads : ℕ → Option (List ℕ)). WereRead (length c.args.names.now) (c.turns.turn + 1) c.in-Some.now reads) (sym c.pause_after.ensures.reads)
      (subst (λ (o : Option ℕ). IfSome o (λ now. WereRead (length c.args.names.now) (c.turns.turn + 1) now (g.S.Growing.reads c.turn_on.new.source))) c.in-Some.is
      (c.in_ok-now.ensures.read c.turns.turn (c.turns.invariant.read unread)));
  goes = λ policy users count goes.
      subst (λ (bytes_read : ℕ → Option (List ℕ)). Goes policy users count bytes_read c.turn_on.new.self.live) (sym c.pause_after.ensures.bytes_read)
      (subst (λ (o : Option ℕ). IfSome o (λ _. Goes policy users count (g.S.Growing.bytes_read c.turn_on.new.source) c.turn_on.new.self.live)) c.in-Some.is
      (c.in_ok-now.ensures.goes policy users count (c.turns.invariant.goes policy users count goes)));
}

pub turns-init : goal.turns-init
turns-init g c = record {
  files = refl;
  step = c.requires.step;
  few = omega (arith);
  read = λ unread. unread_were_read (length c.args.names.now) (g.S.Growing.reads c.args.source.now) unread;
  goes = λ policy users count goes. goes;
}

pub returns-clause-follows : goal.returns-clause-follows
returns-clause-follows g c = λ policy users count goes.
    let now = g.S.Growing.bytes_read c.turns-test.source in
    elim c.turns-test.branch [
      | else-turns-test w ↦
          left_following c.in_ok-advance.field-0 policy users count now c.advance.new.self.live
          (c.in_ok-advance.ensures.left policy users count now
          (goes_same policy users count (g.S.Growing.bytes_read c.turns.source) now c.turns.self.live c.turns-test.self.live (ap (λ s. g.S.Growing.bytes_read s) w.source-is) (ap (λ (a : Watch _). a.live) w.self-is)
          (c.turns.invariant.goes policy users count goes)))
      | then-turns-test+in_ok-now+in-Some+then-idle-turns w ↦
          left_following c.in_ok-advance.field-0 policy users count now c.advance.new.self.live
          (c.in_ok-advance.ensures.left policy users count now
          (goes_same policy users count (g.S.Growing.bytes_read w.turn_on.new.source) now w.turn_on.new.self.live c.turns-test.self.live (ap (λ s. g.S.Growing.bytes_read s) w.source-is) (ap (λ (a : Watch _). a.live) w.self-is)
          (subst (λ (o : Option ℕ). IfSome o (λ _. Goes policy users count (g.S.Growing.bytes_read w.turn_on.new.source) w.turn_on.new.self.live)) w.in-Some.is
          (w.in_ok-now.ensures.goes policy users count (c.turns.invariant.goes policy users count goes)))))
    ]

pub returns-clause-ended : goal.returns-clause-ended
returns-clause-ended g c = λ policy users count goes unread.
    let captures = length c.args.names.now in
    elim c.turns-test.branch [
      | else-turns-test w ↦
          inr (subst (λ (reads : ℕ → Option (List ℕ)). AreReadOut c.args.turns captures reads) (sym (ap (λ s. g.S.Growing.reads s) w.source-is)) (record {
            count = c.turns.turn;
            idle = c.turns.idle;
            were_read = c.turns.invariant.read unread;
            enough = inl (omega (arith, c.turns.auto.turn-end));
          }))
      | then-turns-test+in_ok-now+in-Some+then-idle-turns w ↦
          inr (subst (λ (reads : ℕ → Option (List ℕ)). AreReadOut c.args.turns captures reads) (sym (ap (λ s. g.S.Growing.reads s) w.source-is)) (record {
            count = c.turns.turn + 1;
            idle = w.in-Some.now;
            were_read = subst (λ (o : Option ℕ). IfSome o (λ now. WereRead captures (c.turns.turn + 1) now (g.S.Growing.reads w.turn_on.new.source))) w.in-Some.is
                (w.in_ok-now.ensures.read c.turns.turn (c.turns.invariant.read unread));
            enough = inr (omega (arith, w.if-idle-turns.true));
          }))
    ]

pub advance-requires : goal.advance-requires
advance-requires g c = elim c.turns-test.branch [
  | else-turns-test w ↦ subst (λ (watch : Watch _). watch.is_stuck ≡ false → g.F.ExtensionFinder.placed_to watch.finder ≡ watch.live.last) (sym w.self-is) c.turns.invariant.step
  | then-turns-test+in_ok-now+in-Some+then-idle-turns w ↦ subst (λ (watch : Watch _). watch.is_stuck ≡ false → g.F.ExtensionFinder.placed_to watch.finder ≡ watch.live.last) (sym w.self-is)
      (subst (λ (o : Option ℕ). IfSome o (λ _. w.turn_on.new.self.is_stuck ≡ false → g.F.ExtensionFinder.placed_to w.turn_on.new.self.finder ≡ w.turn_on.new.self.live.last)) w.in-Some.is w.in_ok-now.ensures.step)
]
