-- Where both keys agree on what a request names, the first rule that an act breaks is the same by either: an arrival that is no request is reported before any key is looked up.
use Rattle.std.proofs.Common.{◌⊎◌, inl, inr, Option, Some, None}
use Rattle.audit_model.specs.declared.rule.Rule.{Rule}
use Rattle.audit_rules.specs.declared.path.Path.{Path}
use Rattle.audit_rules.specs.declared.path.Path.TheVariants.{Client, Relay}
use Rattle.audit_rules.specs.Check.{FirstFails}
use Rattle.audit_rules.specs.FirstRule.{FirstRule, IsRequest, path_checks}
use Rattle.audit_rules.specs.Keys.{KeyFor, with_keys}
use Rattle.audit_rules.specs.Situation.{Situation, arrival_path, departure_path}
use Rattle.audit_rules.proofs.KeyChecks.{first_keyed}
use Rattle.audit_verdict.proofs.KeysTold.{AgreeInRequest}

module _ (key_for : KeyFor) (x : Situation) where
  -- it is a request, or no key was looked up
  abbrev IsByRequest : Option Path → Option Path → Rule → Type 0
  IsByRequest arrival departure rule = IsRequest x ⊎ FirstFails (path_checks (with_keys key_for x) arrival departure) rule

  by_paths : (arrival departure : Option Path) (rule : Rule) → FirstFails (path_checks x arrival departure) rule → IsByRequest arrival departure rule
  by_paths (Some Client) (Some Client) rule (inl first) = inr (inl first)
  by_paths (Some Client) (Some Client) rule (inr (answered, inl second)) = inr (inr (answered, inl second))
  by_paths (Some Client) (Some Client) rule (inr (answered, inr (request, later))) = inl request
  by_paths (Some Client) (Some Relay) rule fails = inr fails
  by_paths (Some Relay) (Some Client) rule fails = inr fails
  by_paths (Some Relay) (Some Relay) rule fails = inr fails
  by_paths (Some Client) None rule fails = inr fails
  by_paths (Some Relay) None rule fails = inr fails
  by_paths None departure rule fails = inr fails

  pub first_said : AgreeInRequest x.key_for key_for x.arrives.payload → (rule : Rule) → FirstRule x rule → FirstRule (with_keys key_for x) rule
  first_said agree rule (inl first) = inl first
  first_said agree rule (inr (served, later)) = elim (by_paths (arrival_path x) (departure_path x) rule later) [
    | inl request ↦ first_keyed key_for x (agree request.0 request.1) rule (inr (served, later))
    | inr fails ↦ inr (served, fails)
  ]
