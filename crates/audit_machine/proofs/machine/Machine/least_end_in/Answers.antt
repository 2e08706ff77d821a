use Rattle.std.proofs.Common.{◌≡◌, ◌⊎◌, inl, inr, ℕ, Some, length, ap, arith, sym, ◌∙◌}
use Rattle.std.specs.Prelude.{slice_get}
use Rattle.audit_model.specs.declared.sighting.Sighting.{Sighting}
use Rattle.audit_sightings.specs.Intake.{taken, interface_at}
use Rattle.audit_machine.specs.Counts.{count_of}
use Rattle.audit_machine.specs.Judged.{IsOpenUntil}
use Rattle.audit_machine.proofs.Judging.{at_place, open_until, each_until, each_open, IsLesser, lesser_both, lesser_is}
use Rattle.audit_machine.proofs.machine.Machine.least_end_in.Goals as goal
use Rattle.audit_machine.proofs.machine.Machine.least_end_in.Goals.{then-end-least, else-end-least}

pub sightings-preserved : goal.sightings-preserved
sightings-preserved c =
    let t = taken c.args.intake.now in
    let placed = count_of c.args.self.now.placed in
    let read = c.index-row-index.result in
    let old = c.sightings.invariant in
    let there : slice_get (interface_at t c.args.iface) c.sightings.index ≡ Some read =
    ap (λ row. slice_get row c.sightings.index) (sym c.interface-row.ensures.exact) ∙ at_place c.interface-row.result.now c.sightings.index read (omega (arith, c.sightings-test.true)) c.index-row-index.is in
    let ends = ap (λ (x : Sighting). x.hi) (sym c.index-row-index.is) in
    let lesser : IsLesser read.hi c.sightings.least c.if-end-least.least = elim c.if-end-least.branch [
      | then-end-least w ↦ inl (w.least-is ∙ ends, omega (arith, w.if-end-least, ends))
      | else-end-least w ↦ inr (w.least-is, omega (arith, w.if-end-least, ends))
    ] in
    let both = lesser_both read.hi c.sightings.least c.if-end-least.least lesser in
    record {
      from = omega (arith, old.from);
      bound = omega (arith, old.bound, both.1);
      each = each_until t placed c.args.iface c.sightings.index read old.from there c.sightings.least c.if-end-least.least both.1 both.0 old.each;
      least = lesser_is (λ (n : ℕ). (n ≡ c.args.bound) ⊎ IsOpenUntil t placed n) read.hi c.sightings.least c.if-end-least.least lesser (inr (open_until t placed c.args.iface c.sightings.index read old.from there)) old.least;
    }

pub returns-clause-each : goal.returns-clause-each
returns-clause-each c s x same is unplaced =
    each_open (taken c.args.intake.now) (count_of c.args.self.now.placed) c.args.iface c.sightings.index c.sightings.least (omega (arith, c.sightings-test.false, ap length c.interface-row.ensures.exact)) c.sightings.invariant.each s x same is unplaced
