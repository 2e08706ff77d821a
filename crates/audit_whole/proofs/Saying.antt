-- What an act says, whatever the client has.
use Rattle.std.proofs.Common.{◌≡◌, ℕ, Option, Some, None, refl, sym, ◌∙◌, ap, subst}
use Rattle.std.specs.Prelude.{IsSomeAnd}
use Rattle.audit_model.specs.declared.policy.Policy.{Policy}
use Rattle.audit_model.specs.declared.sighting.Sighting.{Sighting}
use Rattle.audit_stun.specs.declared.class.Class.{Class}
use Rattle.audit_stun.specs.declared.class.Class.TheVariants.{Request, Indication, Success, Error}
use Rattle.audit_rules.specs.declared.path.Path.{Path}
use Rattle.audit_rules.specs.declared.path.Path.TheVariants.{Client, Relay}
use Rattle.audit_rules.specs.Allocation.{Allocation}
use Rattle.audit_rules.specs.Situation.{Situation, answered, arrival_path, departure_path}
use Rattle.audit_rules.specs.Standing.{IsResponse}
use Rattle.audit_model.specs.declared.pair.Pair.{Pair}
use Rattle.audit_server.specs.Captured.{situation_at}
use Rattle.audit_rules.specs.Keys.{KeyFor}
use Rattle.audit_whole.specs.Says.{said_by_method, said_by_class, said_by_paths, says}

pub said_at : (x : Situation) (a d : Option Path) → arrival_path x ≡ a → departure_path x ≡ d → says x ≡ said_by_paths x a d
said_at x a d e f = ap (λ p. said_by_paths x p (departure_path x)) e ∙ ap (said_by_paths x a) f

pub said_response : (x : Situation) (class : Class) (method : ℕ) → IsResponse x class method → says x ≡ said_by_class x class
said_response x class method r = said_at x (Some Client) (Some Client) r.forth r.back ∙ ap (said_by_class x) r.response.1

pub said_success : (x : Situation) (method : ℕ) → IsResponse x Success method → says x ≡ said_by_method x method
said_success x method r = said_response x Success method r ∙ ap (said_by_method x) r.response.2

module _ (policy : Policy) (key_for : KeyFor) (c : Pair) (moment : ℕ) (found : Option Allocation) (arrives leaves : Sighting) where
  class_same : (class : Class) → said_by_class (situation_at policy key_for c moment found arrives leaves) class ≡ said_by_class (situation_at policy key_for c moment None arrives leaves) class
  class_same Success = refl
  class_same Error = refl
  class_same Request = refl
  class_same Indication = refl

  paths_same : (a d : Option Path) → said_by_paths (situation_at policy key_for c moment found arrives leaves) a d ≡ said_by_paths (situation_at policy key_for c moment None arrives leaves) a d
  paths_same (Some Client) (Some Client) = class_same (answered (situation_at policy key_for c moment None arrives leaves)).class
  paths_same (Some Client) (Some Relay) = refl
  paths_same (Some Client) None = refl
  paths_same (Some Relay) d = refl
  paths_same None d = refl

  -- no table is looked at
  pub same_said : says (situation_at policy key_for c moment None arrives leaves) ≡ says (situation_at policy key_for c moment found arrives leaves)
  same_said = sym (paths_same (arrival_path (situation_at policy key_for c moment None arrives leaves)) (departure_path (situation_at policy key_for c moment None arrives leaves)))

pub some_in : {A : Type 0} (o : Option A) (P : A → Type 0) (a : A) → o ≡ Some a → IsSomeAnd o P → P a
some_in o P a e h = subst (λ (x : Option _). IsSomeAnd x P) e h
