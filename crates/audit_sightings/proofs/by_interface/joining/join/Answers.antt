use Rattle.std.proofs.Common.{◌≡◌, ◌∙◌, ◌++◌, ℕ, [], List, length, take, sym, ap, subst, arith, append-nil}
use Rattle.std.specs.Prelude.{replicate}
use Rattle.std.proofs.lemmas.List.{length-take}
use Rattle.audit_model.specs.declared.sighting.Sighting.{Sighting}
use Rattle.audit_sightings.specs.Joins.{Joins}
use Rattle.audit_sightings.proofs.JoinSteps.{joins_behind, joins_nothing}
use Rattle.audit_sightings.proofs.by_interface.joining.join.Goals as goal
use Rattle.audit_sightings.proofs.by_interface.joining.join.Goals.{then-first-gt0+in_ok-add_interfaces, else-first-gt0}

pub returns-then-len-first : goal.returns-then-len-first
returns-then-len-first c = subst (Joins c.args.first c.args.interfaces.items c.args.others.items) (sym c.truncate.ensures.items)
    (joins_nothing c.args.first c.args.interfaces.items c.args.others.items (omega (arith, c.if-len-first.true, c.len.ensures)))

pub returns : goal.returns
returns c =
    let first = c.args.first in
    let old : List (List Sighting) = c.args.interfaces.items in
    let others : List (List Sighting) = c.args.others.items in
    let joined : List (List Sighting) = c.if-first-gt0.joined.items in
    let cut = c.truncate.ensures.items in
    let padded : (more : ℕ) × (joined ≡ take first old ++ replicate more []) × (length joined ≡ first) = elim c.if-first-gt0.branch [
      | then-first-gt0+in_ok-add_interfaces w ↦
          let empty = w.in_ok-add_interfaces.ensures.empty in (
            empty.0,
            ap (λ v. v.items) w.joined-is ∙ empty.1 ∙ ap (λ (l : List (List Sighting)). l ++ replicate empty.0 []) cut,
            omega (arith, ap (λ v. length v.items) w.joined-is, w.in_ok-add_interfaces.ensures.room, w.in_ok-add_interfaces.ensures.few, ap length cut, length-take first old, w.if-first-gt0.true),
          )
      | else-first-gt0 w ↦ (
        0,
        ap (λ v. v.items) w.joined-is ∙ cut ∙ sym (append-nil (take first old)),
        omega (arith, ap (λ v. length v.items) w.joined-is, ap length cut, length-take first old, w.if-first-gt0.false),
      )
    ] in
    subst (Joins first old others) (sym (c.in_ok-append.ensures.items ∙ ap (λ (l : List (List Sighting)). joined ++ l) c.in_ok-behind.ensures.tail))
    (joins_behind first old others joined padded.0 padded.1 padded.2 (omega (arith, c.if-len-first.false, c.len.ensures)))
