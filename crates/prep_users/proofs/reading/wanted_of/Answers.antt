use Rattle.std.proofs.Common.{◌≡◌, ◌⊎◌, ◌∙◌, ℕ, List, Option, Some, inr, map, option_map, Bor, ap, sym, subst}
use Rattle.prep_coturn.specs.declared.rows.Row.{Row}
use Rattle.prep_coturn.specs.Rows.{now_of, settings_of}
use Rattle.prep_users.specs.declared.fault.ConfiguredFault.TheVariants.{Memory}
use Rattle.prep_users.specs.declared.fault.UsersFault.{UsersFault}
use Rattle.prep_users.specs.declared.fault.UsersFault.TheVariants.{Configured}
use Rattle.prep_users.specs.Wanting.{IsRefused, RefusesIn, realm_for}
use Rattle.prep_users.proofs.Refusals.{err_is, err_so}
use Rattle.prep_users.proofs.Refused.{in_realm}
use Rattle.prep_users.proofs.reading.wanted_of.Goals as goal

abbrev Refusal : List ℕ → Option (Bor (List ℕ)) → UsersFault → Type 0
Refusal text realm fault =
    (fault ≡ Configured Memory) ⊎ ((rows : List Row) × (map now_of rows ≡ settings_of text) × IsRefused rows (option_map (λ said. said.now) realm) fault)

pub returns-in_err-check_users-clause-refused :
    goal.returns-in_err-check_users-clause-refused
returns-in_err-check_users-clause-refused c =
    let said : Option (List ℕ) = option_map (λ said. said.now) c.args.realm in
    err_is (Refusal c.args.text.now c.args.realm) c.from_residual-in_err-check_users.result c.in_err-check_users.field-0.0 c.from_residual-in_err-check_users.ensures.1
    (inr (c.deref.result.now, ap (map now_of) c.deref.ensures.value ∙ c.in_ok-rows.ensures, c.in_err-check_users.ensures.refused said))

pub returns-clause-refused : goal.returns-clause-refused
returns-clause-refused c =
    let said : Option (List ℕ) = option_map (λ said. said.now) c.args.realm in
    let rows : List Row = c.deref-3.result.now in
    let realm : List ℕ = c.in_ok-realm.realm.now in
    let found = subst (λ (rows : List Row). realm_for said rows ≡ Some realm) (c.deref-2.ensures.value ∙ sym c.deref-3.ensures.value) c.in_ok-realm.ensures.found in
    err_so (RefusesIn rows realm) (Refusal c.args.text.now c.args.realm) c.wanted_in.result c.wanted_in.ensures.refused
    (λ fault refuses. inr (rows, ap (map now_of) c.deref-3.ensures.value ∙ c.in_ok-rows.ensures, in_realm rows said realm fault found refuses))
