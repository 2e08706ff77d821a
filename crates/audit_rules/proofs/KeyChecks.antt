-- The first rule that an act breaks goes by the key that its request names, and by no other.
use Rattle.std.proofs.Common.{◌≡◌, inl, inr, ◌↔◌, ◌==◌, ℕ, List, [], ◌∷◌, Option, Some, None, Bool, true, false, refl, sym, subst, ◌∙◌}
use Rattle.std.specs.Prelude.{IsSomeAnd}
use Rattle.audit_model.specs.declared.rule.Rule.{Rule}
use Rattle.audit_stun.specs.declared.class.Class.{Class}
use Rattle.audit_stun.specs.declared.class.Class.TheVariants.{Request, Indication, Success, Error}
use Rattle.audit_stun.specs.declared.numbers.method.TheConstants.{BINDING, ALLOCATE, REFRESH, CREATE_PERMISSION, CHANNEL_BIND}
use Rattle.audit_rules.specs.declared.path.Path.{Path}
use Rattle.audit_rules.specs.declared.path.Path.TheVariants.{Client, Relay}
use Rattle.audit_rules.specs.Allocation.{Allocation}
use Rattle.audit_rules.specs.Check.{Check, FirstFails}
use Rattle.audit_rules.specs.Checks.{binding_checks, error_checks, new_checks, again_checks, refresh_checks, permission_checks, channel_bind_checks}
use Rattle.audit_rules.specs.FirstRule.{FirstRule, choose, made_it, is_none, success_checks, class_checks, path_checks, checks_of}
use Rattle.audit_rules.specs.Keys.{KeyFor, AgreeOn, with_keys}
use Rattle.audit_rules.specs.Responses.{Fits}
use Rattle.audit_rules.specs.Situation.{Situation, answered, arrival_path, departure_path}
use Rattle.audit_rules.specs.Standing.{IsByUser, IsSignedBack}
use Rattle.audit_rules.specs.Values.{code_of}
use Rattle.audit_rules.proofs.Keys.{by_user, signed_back, fits}

-- checks of the same rules that hold alike
abbrev pub AreAlike : List Check → List Check → Type 0
AreAlike [] [] = Unit {0}
AreAlike [] (other ∷ others) = ⊥
AreAlike (check ∷ checks) [] = ⊥
AreAlike (check ∷ checks) (other ∷ others) = (check.rule ≡ other.rule) × (check.holds ↔ other.holds) × AreAlike checks others

fails_alike : (checks others : List Check) → AreAlike checks others → (rule : Rule) → FirstFails checks rule → FirstFails others rule
fails_alike [] [] alike rule fails = fails
fails_alike [] (other ∷ others) alike rule fails = absurd alike
fails_alike (check ∷ checks) [] alike rule fails = absurd alike
fails_alike (check ∷ checks) (other ∷ others) alike rule (inl first) = inl (first.0 ∙ alike.0, λ holds. first.1 (alike.1.1 holds))
fails_alike (check ∷ checks) (other ∷ others) alike rule (inr later) = inr (alike.1.0 later.0, fails_alike checks others alike.2 rule later.1)

itself : (checks : List Check) → AreAlike checks checks
itself [] = tt
itself (check ∷ checks) = (refl, (λ h. h, λ h. h), itself checks)

chosen_alike : (b : Bool) (these those others rest : List Check) → AreAlike these others → AreAlike those rest → AreAlike (choose b these those) (choose b others rest)
chosen_alike true these those others rest a b = a
chosen_alike false these those others rest a b = b

stays : {P : Type 0} → P ↔ P
stays = (λ h. h, λ h. h)

module _ (key_for : KeyFor) (x : Situation) (agree : AgreeOn x.key_for key_for x.arrives.payload) where
  abbrev y : Situation
  y = with_keys key_for x

  back : AgreeOn key_for x.key_for x.arrives.payload
  back user realm names_user names_realm = sym (agree user realm names_user names_realm)

  users : IsByUser x ↔ IsByUser y
  users = (by_user key_for x agree, by_user x.key_for y back)

  signs : IsSignedBack x ↔ IsSignedBack y
  signs = (signed_back key_for x agree, signed_back x.key_for y back)

  fits_code : (code : Option ℕ) → IsSomeAnd code (Fits x) ↔ IsSomeAnd code (Fits y)
  fits_code None = stays
  fits_code (Some code) = (fits key_for x agree code, fits x.key_for y back code)

  error_alike : AreAlike (error_checks x) (error_checks y)
  error_alike = (refl, stays, (refl, fits_code (code_of (answered x)), tt))

  new_alike : AreAlike (new_checks x) (new_checks y)
  new_alike = (refl, users, (refl, stays, (refl, stays, (refl, stays, (refl, stays, (refl, stays, (refl, stays, (refl, stays, (refl, stays, (refl, signs, tt))))))))))

  again_alike : AreAlike (again_checks x) (again_checks y)
  again_alike = (refl, users, (refl, stays, (refl, stays, (refl, stays, (refl, stays, (refl, stays, (refl, signs, tt)))))))

  refresh_alike : AreAlike (refresh_checks x) (refresh_checks y)
  refresh_alike = (refl, users, (refl, stays, (refl, stays, (refl, stays, (refl, stays, (refl, stays, (refl, signs, tt)))))))

  permission_alike : AreAlike (permission_checks x) (permission_checks y)
  permission_alike = (refl, users, (refl, stays, (refl, stays, (refl, stays, (refl, stays, (refl, signs, tt))))))

  channel_bind_alike : AreAlike (channel_bind_checks x) (channel_bind_checks y)
  channel_bind_alike = (refl, users, (refl, stays, (refl, stays, (refl, stays, (refl, stays, (refl, stays, (refl, stays, (refl, signs, tt))))))))

  made_same : (found : Option Allocation) → made_it x found ≡ made_it y found
  made_same None = refl
  made_same (Some a) = refl

  allocate_alike : AreAlike (choose (made_it x x.allocation) (again_checks x) (new_checks x)) (choose (made_it y y.allocation) (again_checks y) (new_checks y))
  allocate_alike =
      subst (λ b. AreAlike (choose (made_it x x.allocation) (again_checks x) (new_checks x)) (choose b (again_checks y) (new_checks y))) (made_same x.allocation)
      (chosen_alike (made_it x x.allocation) (again_checks x) (new_checks x) (again_checks y) (new_checks y) again_alike new_alike)

  success_alike : (method : ℕ) → AreAlike (success_checks x method) (success_checks y method)
  success_alike method =
      chosen_alike (method == BINDING) (binding_checks x) _ (binding_checks y) _ (itself (binding_checks x))
      (chosen_alike (method == ALLOCATE) _ _ _ _ allocate_alike
      (chosen_alike (method == REFRESH) (refresh_checks x) _ (refresh_checks y) _ refresh_alike
      (chosen_alike (method == CREATE_PERMISSION) (permission_checks x) _ (permission_checks y) _ permission_alike
      (chosen_alike (method == CHANNEL_BIND) (channel_bind_checks x) is_none (channel_bind_checks y) is_none channel_bind_alike (itself is_none)))))

  class_alike : (class : Class) → AreAlike (class_checks x class) (class_checks y class)
  class_alike Success = success_alike (answered x).method
  class_alike Error = error_alike
  class_alike Request = tt
  class_alike Indication = tt

  paths_alike : (arrival departure : Option Path) → AreAlike (path_checks x arrival departure) (path_checks y arrival departure)
  paths_alike (Some Client) (Some Client) = (refl, stays, (refl, stays, (refl, stays, class_alike (answered x).class)))
  paths_alike (Some Client) (Some Relay) = itself (path_checks x (Some Client) (Some Relay))
  paths_alike (Some Relay) (Some Client) = itself (path_checks x (Some Relay) (Some Client))
  paths_alike (Some Relay) (Some Relay) = itself is_none
  paths_alike (Some Client) None = itself is_none
  paths_alike (Some Relay) None = itself is_none
  paths_alike None departure = itself is_none

  pub first_keyed : (rule : Rule) → FirstRule x rule → FirstRule y rule
  first_keyed rule fails = fails_alike (checks_of x) (checks_of y) (refl, stays, paths_alike (arrival_path x) (departure_path x)) rule fails
