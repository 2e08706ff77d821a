-- The one of several breaches that is reported.
use Rattle.std.specs.Prelude.{◌≡◌, Option, Some, None, false}
use Rattle.std.specs.Ordering.{is_gt}
use Rattle.audit_model.specs.declared.verdict.Breach.{Breach}
use Rattle.audit_model.specs.Breach.{breach_cmp}

-- none if none is shown; else one that is shown, and no other comes before it
abbrev pub IsLeast : (Breach → Type 0) → Option Breach → Type 0
IsLeast Shown None = (breach : Breach) → ¬ Shown breach
IsLeast Shown (Some least) = Shown least × ((breach : Breach) → Shown breach → is_gt (breach_cmp least breach) ≡ false)
