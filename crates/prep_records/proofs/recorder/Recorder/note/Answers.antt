use Rattle.std.proofs.Common.{◌≡◌, ◌∙◌, true, sym}
use Rattle.prep_records.specs.Recording.{is_from}
use Rattle.prep_records.proofs.Going.{noted_with}
use Rattle.prep_records.proofs.recorder.Recorder.note.Goals as goal

pub returns-clause-noted : goal.returns-clause-noted
returns-clause-noted c = λ blocks had.
    let counts : is_from c.args.self.now.stated.since c.args.block.now.packet ≡ true = sym c.is_from.ensures ∙ c.if-not-is_from.false in
    noted_with c.args.self.now.policy.now c.args.self.now.stated.since c.args.self.now.allocations c.note.new.self blocks c.args.block.now counts had
    c.in_ok-note.ensures.noted c.in_ok-note.ensures.kept c.in_ok-note.ensures.released c.in_ok-note.ensures.senders
    (record { events = c.in_ok-note.ensures.events; kept = c.in_ok-note.ensures.events_kept; only = c.in_ok-note.ensures.events_only; least = c.in_ok-note.ensures.least; less = c.in_ok-note.ensures.less })
