use Rattle.std.proofs.Common.{◌≡◌, ◌++◌, map, sym, ap, ◌∙◌}
use Rattle.std.specs.BTreeMap.{is_at}
use Rattle.std.specs.Map.{lookup}
use Rattle.std.proofs.lemmas.List.{append-nil}
use Rattle.audit_model.specs.Breach.{sight_cmp}
use Rattle.audit_machine.proofs.Carried.{entry_of, moment_in_map}
use Rattle.audit_machine.proofs.times.Times.to_vec.Goals as goal

pub returns : goal.returns
returns c s =
    let all = c.loop-sight.all.items in
    let whole : map entry_of all ≡ c.args.self.now.moments.entries = sym (append-nil (map entry_of all)) ∙ ap (λ r. map entry_of all ++ r) (sym c.in-None.ensures.steps.0) ∙ c.loop-sight.invariant in
    moment_in_map all s ∙ ap (λ l. lookup (is_at (sight_cmp s)) l) whole
