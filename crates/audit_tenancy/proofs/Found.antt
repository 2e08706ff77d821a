-- Whether what is kept shows a clash.
use Rattle.std.proofs.Common.{◌≡◌, ◌≢◌, List, Option, Some, None, sym, subst, ◌∙◌, refl}
use Rattle.audit_model.specs.declared.verdict.Tenancy.{Tenancy}
use Rattle.audit_model.specs.Clash.{StillHeld}
use Rattle.audit_tenancy.specs.Kept.{ComeBefore, IsLongest, Keeps, ClashesWithOne}
use Rattle.audit_tenancy.proofs.Addresses.{born_before}

module _ (earlier : List Tenancy) (new : Tenancy) where
  pub none_kept : (o other : Option Tenancy) → ((t : Tenancy) → o ≡ Some t → ⊥) → Keeps earlier o other → ¬ ClashesWithOne earlier new
  none_kept None other none keeps (held, among, clash) = keeps held among
  none_kept (Some longest) other none keeps clash = absurd (none longest refl)

  module _ (before : ComeBefore earlier new) (longest : Tenancy) (other : Option Tenancy) (keeps : Keeps earlier (Some longest) other)
      (same : longest.relayed ≡ new.relayed) (lane : longest.born.lane ≡ new.born.lane) where
    abbrev Others : Option Tenancy → Type 0
    Others o = IsLongest (λ one. (one.relayed ≡ longest.relayed) × (one.born.lane ≢ longest.born.lane)) earlier o

    -- the longest of the other lanes still has the address
    pub found_other : (held : Tenancy) → other ≡ Some held → StillHeld held new.born.key new.born.lane → ClashesWithOne earlier new
    found_other held is still =
        let kept : Others (Some held) = subst Others is keeps.2 in
        let address : held.relayed ≡ new.relayed = kept.1.0 ∙ same in
        let lanes : held.born.lane ≢ new.born.lane = λ h. kept.1.1 (h ∙ sym lane) in (
          held,
          kept.0,
          record { same_address = address; other_lane = lanes; born_before = born_before held new (before held kept.0) address lanes; still_held = still },
        )

    -- there are no other lanes
    pub none_other : other ≡ None → ¬ ClashesWithOne earlier new
    none_other is (held, among, clash) =
        let kept : Others None = subst Others is keeps.2 in
        kept held among (clash.same_address ∙ sym same, λ h. clash.other_lane (h ∙ lane))
