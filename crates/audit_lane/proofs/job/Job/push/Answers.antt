use Rattle.std.proofs.Common.{◌≡◌, ◌∷◌, [], length, map, length-append, arith, ◌∙◌, sym, ap}
use Rattle.std.proofs.lemmas.List.{map-append, length-map}
use Rattle.audit_lane.proofs.Lists.{numbered_push}
use Rattle.audit_lane.proofs.job.Job.push.Goals as goal

pub invariant_of-self-2 : goal.invariant_of-self-2
invariant_of-self-2 c =
    let is = c.in_ok-push.ensures.items in
    let old = c.self.inside.inputs.items in
    let len : length (map (λ a. a.value) old) ≡ length old = length-map old (λ a. a.value) in
    rw (is, map-append (λ a. a.value) old (c.args.input ∷ [])) (
      omega (arith, length-append old (c.args.input ∷ []), c.self.view_is, len, ap length c.self.view_is, c.requires.room),
      numbered_push _ _ c.self.invariant.1 (c.requires.numbered ∙ ap length (sym c.self.view_is)),
    )
