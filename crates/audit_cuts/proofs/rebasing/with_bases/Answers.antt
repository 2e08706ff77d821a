use Rattle.std.proofs.Common.{◌+◌, ◌<◌, length, refl, sym, ◌∙◌, arith}
use Rattle.std.proofs.lemmas.List.{get_or-map, length-map}
use Rattle.audit_cuts.specs.declared.carried.Interface.{Interface}
use Rattle.audit_cuts.specs.Rebasing.{totals}
use Rattle.audit_cuts.proofs.Pushed.{pushed}
use Rattle.audit_cuts.proofs.rebasing.with_bases.Goals as goal

pub loop-iface-preserved : goal.loop-iface-preserved
loop-iface-preserved c =
    let there : c.loop-iface.iface < length c.args.interfaces.now = c.loop-iface-test.true in
    let of_totals : c.loop-iface.iface < length (totals c.args.interfaces.now) = omega (arith, there, length-map c.args.interfaces.now (λ (i : Interface). i.base + i.placed)) in
    let of_bases : c.loop-iface.iface < length c.args.bases.now = omega (arith, there, c.if-interfaces-bases.false) in (
      pushed (λ (i : Interface). i.base + i.placed) c.loop-iface.moved.items c.push.new.self.items _ (totals c.args.interfaces.now) c.loop-iface.iface 0 of_totals c.loop-iface.invariant.0 c.in_ok-push.ensures.items
          (c.in-Some.ensures.some ∙ sym (get_or-map (λ (i : Interface). i.base + i.placed) c.args.interfaces.now c.loop-iface.iface _ 0 there)),
      pushed (λ (i : Interface). i.base) c.loop-iface.moved.items c.push.new.self.items _ c.args.bases.now c.loop-iface.iface 0 of_bases c.loop-iface.invariant.1 c.in_ok-push.ensures.items refl,
    )
