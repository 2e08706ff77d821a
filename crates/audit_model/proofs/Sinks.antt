-- What one piece after another leaves in a sink.
use Rattle.std.proofs.Common.{◌≡◌, ℕ, zero, suc, ◌+◌, ◌<◌, List, [], ◌++◌, Option, Some, None, Ok, refl, ap, sym, ◌∙◌, append_assoc, append-nil, arith}
use Rattle.audit_model.specs.declared.sink.SinkFailed.{SinkFailed}
use Rattle.audit_model.specs.Sink.{failures_of, followed_by, raised_by}

pub follows_nothing : (taken : Option (List ℕ)) → taken ≡ followed_by taken []
follows_nothing None = refl
follows_nothing (Some bytes) = ap (λ (l : List ℕ). Some l) (sym (append-nil bytes))

pub follows_both : (taken : Option (List ℕ)) (a b : List ℕ) → followed_by (followed_by taken a) b ≡ followed_by taken (a ++ b)
follows_both None a b = refl
follows_both (Some bytes) a b = ap (λ (l : List ℕ). Some l) (append_assoc bytes a b)

pub raised_none : (failures : Option ℕ) → failures ≡ raised_by failures 0
raised_none None = refl
raised_none (Some n) = let e : n ≡ n + 0 = omega arith in ap (λ (m : ℕ). Some m) e

-- one call more, which took something
calm_by : (n given : ℕ) → 0 < n → failures_of {E = SinkFailed} (Ok n) given ≡ 0
calm_by zero given some = absurd (omega (arith, some))
calm_by (suc n) given some = refl

pub calm_more : (first before after : Option ℕ) (n given : ℕ) → 0 < n → before ≡ first → after ≡ raised_by before (failures_of {E = SinkFailed} (Ok n) given) → after ≡ first
calm_more first before after n given some was is = is ∙ ap (raised_by before) (calm_by n given some) ∙ sym (raised_none before) ∙ was

-- one call more, which took nothing
raised_by_none : (n given : ℕ) → n ≡ 0 → 0 < given → failures_of {E = SinkFailed} (Ok n) given ≡ 1
raised_by_none zero zero none some = absurd (omega (arith, some))
raised_by_none zero (suc given) none some = refl
raised_by_none (suc n) given none some = absurd (omega (arith, none))

pub raised_more : (first before after : Option ℕ) → before ≡ first → after ≡ raised_by before 1 → after ≡ raised_by first 1
raised_more first before after was is = is ∙ ap (λ (o : Option ℕ). raised_by o 1) was

pub nothing_more : (first before after : Option ℕ) (n given : ℕ) → n ≡ 0 → 0 < given → before ≡ first → after ≡ raised_by before (failures_of {E = SinkFailed} (Ok n) given) → after ≡ raised_by first 1
nothing_more first before after n given none some was is = raised_more first before after was (is ∙ ap (raised_by before) (raised_by_none n given none some))
