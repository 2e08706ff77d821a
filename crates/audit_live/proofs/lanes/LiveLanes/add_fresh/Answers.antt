use Rattle.std.proofs.Common.{sym, ap, ◌∙◌, Some, append-nil, arith}
use Rattle.std.proofs.lemmas.Option.{slice_get-get_or}
use Rattle.audit_live.proofs.Fresh.{fresh_full}
use Rattle.audit_live.proofs.lanes.LiveLanes.add_fresh.Goals as goal

pub returns-in_ok-push : goal.returns-in_ok-push
returns-in_ok-push c =
    fresh_full c.args.self.now.lanes.items c.args.number c.index-lane.result.now c.args.fresh.now.items c.ended.result.now c.extend_from_slice.new.self.items c.push.new.self.items (Some c.in-Some.running)
    (slice_get-get_or c.args.self.now.lanes.items c.args.number c.index-lane.result.now (omega (arith, c.args.self.now.lanes.ok, c.requires)) ∙ ap Some (sym c.index-lane.ensures))
    c.ended.ensures (sym c.running.ensures ∙ c.in-Some.is) c.in_ok-extend_from_slice.ensures.items c.in_ok-push.ensures.items

pub returns-in_default : goal.returns-in_default
returns-in_default c =
    fresh_full c.args.self.now.lanes.items c.args.number c.index-lane.result.now c.args.fresh.now.items c.ended.result.now c.extend_from_slice.new.self.items c.extend_from_slice.new.self.items _
    (slice_get-get_or c.args.self.now.lanes.items c.args.number c.index-lane.result.now (omega (arith, c.args.self.now.lanes.ok, c.requires)) ∙ ap Some (sym c.index-lane.ensures))
    c.ended.ensures (sym c.running.ensures ∙ c.in_default.is) c.in_ok-extend_from_slice.ensures.items (sym (append-nil _))
