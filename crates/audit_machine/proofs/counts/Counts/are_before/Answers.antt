use Rattle.std.proofs.Common.{◌≡◌, ℕ, Some, sym, ◌∙◌, ap, subst, unwrap_or}
use Rattle.std.specs.List.{AllByRecursion}
use Rattle.std.proofs.lemmas.List.Elements.{recursion_from_All}
use Rattle.audit_machine.proofs.Carried.{at_key}
use Rattle.audit_machine.proofs.counts.Counts.are_before.Goals as goal

pub loop-iface-init : goal.loop-iface-init
loop-iface-init c =
    let all = c.into_iter-iface-iterator.ensures.into_iter_gives ∙ c.iter-iface-items.ensures.rest in (
      subst (λ l. AllByRecursion (λ (e : ℕ × ℕ). at_key c.args.self.now.counts.entries e.0 ≡ Some e.1) l) (sym all) (recursion_from_All (λ (e : ℕ × ℕ). at_key c.args.self.now.counts.entries e.0 ≡ Some e.1) _ c.iter-iface-items.ensures.found),
      λ iface le none. ap (λ found. unwrap_or found 0) (ap (λ l. at_key l iface) (sym all) ∙ none),
    )
