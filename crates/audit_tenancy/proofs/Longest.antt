-- The tenancy that is held longest, as one more comes.
use Rattle.std.proofs.Common.{List, [], ◌∷◌, ◌++◌, Option, Some, None, inl, inr, sym, subst}
use Rattle.std.specs.Prelude.{Contains}
use Rattle.std.proofs.lemmas.List.Elements.{Contains-push, Contains-push_cases, Contains-append_left}
use Rattle.audit_model.specs.declared.verdict.Tenancy.{Tenancy}
use Rattle.audit_tenancy.specs.Hold.{Outlasts, IsLongerOf}
use Rattle.audit_tenancy.specs.Kept.{IsLongest}

module _ (earlier : List Tenancy) (new : Tenancy) where
  -- what holds of each so far and of the new one
  pub each_more : (Fact : Tenancy → Type 0) → ((one : Tenancy) → Contains earlier one → Fact one) → Fact new
      → (one : Tenancy) → Contains (earlier ++ new ∷ []) one → Fact one
  each_more Fact each here one among =
      elim (Contains-push_cases earlier new one among) [ inl there ↦ each one there | inr same ↦ subst Fact same here ]

  module _ (Fact : Tenancy → Type 0) where
    -- the fact doesn't hold of it
    pub longest_skip : (o : Option Tenancy) → ¬ Fact new → IsLongest Fact earlier o → IsLongest Fact (earlier ++ new ∷ []) o
    longest_skip None not none = each_more (λ one. ¬ Fact one) none not
    longest_skip (Some longest) not is =
        (Contains-append_left earlier (new ∷ []) longest is.0, is.1, each_more (λ one. Fact one → Outlasts longest one) is.2 (λ h. absurd (not h)))

    -- it is the first
    pub longest_first : Fact new → IsLongest Fact earlier None → IsLongest Fact (earlier ++ new ∷ []) (Some new)
    longest_first holds none =
        (Contains-push earlier new, holds, each_more (λ one. Fact one → Outlasts new one) (λ one among h. absurd (none one among h)) (λ h key lane held. held))

    -- the longer of two is longest
    pub longest_more : (longest longer : Tenancy) → Fact new → IsLongerOf longest new longer → IsLongest Fact earlier (Some longest)
        → IsLongest Fact (earlier ++ new ∷ []) (Some longer)
    longest_more longest longer holds is so_far =
        let among : Contains (earlier ++ new ∷ []) longer =
        elim is.0 [ inl same ↦ rw same (Contains-append_left earlier (new ∷ []) longest so_far.0) | inr same ↦ rw same (Contains-push earlier new) ] in
        let of_longer : Fact longer = elim is.0 [ inl same ↦ subst Fact (sym same) so_far.1 | inr same ↦ subst Fact (sym same) holds ] in (
          among,
          of_longer,
          each_more (λ one. Fact one → Outlasts longer one) (λ one there h key lane held. is.1 key lane (so_far.2 one there h key lane held)) (λ h. is.2),
        )
