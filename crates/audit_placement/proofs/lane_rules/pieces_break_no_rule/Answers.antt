use Rattle.std.proofs.Common.{◌≡◌, All, arith, length}
use Rattle.std.specs.Prelude.{IsTrue}
use Rattle.audit_sightings.specs.Intake.{taken}
use Rattle.audit_placement.specs.Pieces.{PieceBreaksNoRule}
use Rattle.audit_placement.proofs.PieceSteps.{all_checked, on_true}
use Rattle.audit_placement.proofs.lane_rules.pieces_break_no_rule.Goals as goal

pub returns : goal.returns
returns g c =
    let fine = PieceBreaksNoRule (taken c.args.intake.now) in
    let flags = c.check_pieces.new.flags in
    let pieces = c.args.pieces.now in
    let as_many : length flags ≡ length pieces = omega (arith, c.requires.there, c.check_pieces.auto.flags) in
    on_true c.all_set.result (All IsTrue flags) (All fine pieces)
    (λ set. all_checked fine flags pieces as_many set (λ i d within. c.check_pieces.ensures i d (omega (arith, within, c.check_pieces.auto.flags)))) c.all_set.ensures
