use Rattle.std.proofs.Common.{◌≡◌, ◌∙◌, Bool, Option, Some, None, refl, sym, ap, if◌then◌else◌, rules}
use Rattle.std.specs.Option.{option_and_then}
use Rattle.std.specs.Cmp.{eq_by_cmp_equiv}
use Rattle.std.proofs.lemmas.Map.Entries.{lookup-filter-values, option_filter}
use Rattle.std.proofs.lemmas.Map.Keys.{IsDistinct-from_sorted}
use Rattle.std.proofs.lemmas.Map.Made.{filter_same_pairs}
use Rattle.audit_expiry.specs.Leases.{value_at, Keeps}
use Rattle.audit_expiry.proofs.leases.Leases.retain.Goals as goal

as_filter : {V : Type 0} (keep : V → Bool) (o : Option V) → option_filter keep o ≡ option_and_then (λ value. if keep value then Some value else None) o
as_filter keep None = refl
as_filter keep (Some v) = refl

pub returns : goal.returns
returns g c = λ keep says q.
    let e = filter_same_pairs _ (λ p. keep p.1) _ (λ k v b w f' t. (says v b (search rules), search rules, search rules)) _ _ c.retain.ensures.filtered in
    let es = c.self.inside.values.entries in
    rw (← c.self.view_is) (
    ap (λ kept. value_at g.K.Ord.cmp kept q) e
    ∙ lookup-filter-values (eq_by_cmp_equiv g.met.K.Ord.total) keep q es (IsDistinct-from_sorted g.K.Ord.cmp _ c.retain.ensures.was_ordered)
    ∙ as_filter keep (value_at g.K.Ord.cmp es q)
    )
