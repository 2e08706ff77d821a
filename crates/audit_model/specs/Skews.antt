-- The skews of interfaces: those of a policy, and those by which a certificate narrows the windows.
use Rattle.std.specs.Prelude.{ℕ, ◌*◌, ◌-◌, ◌^◌, min, Bool, true, ◌&&◌, ◌==◌, nat_lt, List, [], ◌∷◌, Option, option_map, unwrap_or}
use Rattle.std.specs.List.{find}
use Rattle.audit_model.specs.declared.certificate.CertSkew.{CertSkew}
use Rattle.audit_model.specs.declared.policy.InterfaceSkew.{InterfaceSkew}
use Rattle.audit_model.specs.declared.policy.Policy.{Policy}

-- an interface's own skew, or else that of all
abbrev pub skew_for : Policy → ℕ → ℕ
skew_for policy iface = unwrap_or (option_map (λ (own : InterfaceSkew). own.skew) (find (λ own. own.iface == iface) policy.skews)) policy.skew

-- the certificate's skew of an interface, in microseconds
abbrev pub skew_of : List CertSkew → ℕ → Option ℕ
skew_of skews iface = option_map (λ (skew : CertSkew). skew.microseconds) (find (λ skew. skew.iface == iface) skews)

-- as nanoseconds, at most the greatest number
abbrev pub nanoseconds_of : ℕ → ℕ
nanoseconds_of microseconds = min (microseconds * 1000) (2 ^ 64 - 1)

-- each interface is greater than the one before it
abbrev pub rise : List CertSkew → Bool
rise [] = true
rise (skew ∷ []) = true
rise (skew ∷ next ∷ more) = nat_lt skew.iface next.iface && rise (next ∷ more)
