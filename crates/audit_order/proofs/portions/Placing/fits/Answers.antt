use Rattle.std.proofs.Common.{sym, ◌∙◌, subst, ◌++◌, map}
use Rattle.std.specs.Prelude.{IfOk, IsTrue, ◌↔◌}
use Rattle.std.specs.List.{IsDistinct}
use Rattle.std.proofs.lemmas.Bool.{true≢false}
use Rattle.audit_model.specs.Lanes.{same_lane}
use Rattle.audit_order.specs.Grown.{empty_lane}
use Rattle.audit_order.proofs.FittingSteps.{fits_ok}
use Rattle.audit_order.proofs.portions.Placing.fits.Goals as goal

pub returns-then-not-has_room : goal.returns-then-not-has_room
returns-then-not-has_room c = λ taken kept. (
  λ is. absurd (true≢false (sym is)),
  λ all. absurd (true≢false (sym ((c.has_room.ensures taken kept).1 all.room) ∙ c.if-not-has_room.true)),
)

pub returns : goal.returns
returns c = λ taken kept.
    fits_ok c.args.self.now.certificate c.args.extension.now c.are_apart.result ((c.has_room.ensures taken kept).0 c.if-not-has_room.false)
    (subst (λ pairs. IfOk c.are_apart.result (λ apart. IsTrue apart ↔ IsDistinct same_lane (c.args.self.now.certificate.lanes ++ map empty_lane pairs))) c.as_slice.ensures
    (c.are_apart.ensures c.args.self.now.certificate.lanes kept.pairs c.args.self.now.certificate.distinct))
