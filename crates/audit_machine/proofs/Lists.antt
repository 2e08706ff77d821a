-- Several moves are a segment.
use Rattle.std.proofs.Common.{◌≡◌, Bool, List, [], ◌∷◌, ◌++◌, refl, sym, ap, subst}
use Rattle.audit_model.specs.declared.policy.Policy.{Policy}
use Rattle.audit_model.specs.declared.sighting.SightId.{SightId}
use Rattle.audit_rules.specs.Keys.{KeyFor}
use Rattle.audit_server.proofs.Orders.{all_left, all_right}
use Rattle.audit_segments.specs.Cut.{Cut}
use Rattle.audit_segments.specs.Segment.{View, IsSegment}
use Rattle.audit_segments.proofs.Claiming.{no_steps}
use Rattle.audit_segments.proofs.Joining.{joined}
use Rattle.audit_segments.proofs.Rules.{ignore_past_grace}
use Rattle.audit_machine.specs.declared.moves.Action.{Action}
use Rattle.audit_machine.specs.Moves.{step_of, steps_of, NamesIncluded, AllNameIncluded, LeadsTo}

steps_cut : (p q : List Action) → steps_of (p ++ q) ≡ steps_of p ++ steps_of q
steps_cut [] q = refl
steps_cut (a ∷ p) q = ap (λ xs. step_of a ∷ xs) (steps_cut p q)

module _ (policy : Policy) (key_for : KeyFor) (view : View) where
  pub leads_nowhere : (a : (SightId → Bool) → Cut) → LeadsTo policy key_for view a a []
  leads_nowhere a excluded h = no_steps policy key_for view (a excluded)

  pub leads_on : (a b c : (SightId → Bool) → Cut) (p whole : List Action) (action : Action) → whole ≡ p ++ action ∷ [] → LeadsTo policy key_for view a b p →
      ((excluded : SightId → Bool) → NamesIncluded excluded action → IsSegment policy key_for view (b excluded) (step_of action ∷ []) (c excluded)) → LeadsTo policy key_for view a c whole
  leads_on a b c p whole action is h k excluded free =
      let parts : AllNameIncluded excluded (p ++ action ∷ []) = subst (AllNameIncluded excluded) is free in
      subst (λ (xs : List Action). IsSegment policy key_for view (a excluded) (steps_of xs) (c excluded)) (sym is)
      (subst (λ xs. IsSegment policy key_for view (a excluded) xs (c excluded)) (sym (steps_cut p (action ∷ [])))
      (joined policy key_for view (ignore_past_grace policy key_for view) (a excluded) (b excluded) (c excluded) (steps_of p) (step_of action ∷ [])
      (h excluded (all_left (NamesIncluded excluded) p (action ∷ []) parts)) (k excluded (all_right (NamesIncluded excluded) p (action ∷ []) parts).0)))

-- forgetting twice is a segment without a step
pub nothing_joined : (policy other : Policy) → other ≡ policy → (key_for : KeyFor) (view : View) (a b c : Cut) → IsSegment policy key_for view a [] b → IsSegment other key_for view b [] c → IsSegment policy key_for view a [] c
nothing_joined policy other same key_for view a b c h k =
    joined policy key_for view (ignore_past_grace policy key_for view) a b c [] [] h (subst (λ (p : Policy). IsSegment p key_for view b [] c) same k)
