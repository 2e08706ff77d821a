-- The walk of a turn's events goes on by one.
use Rattle.std.proofs.Common.{◌≡◌, ◌+◌, ◌<◌, ℕ, zero, suc, List, [], ◌∷◌, ◌++◌, length, map, take, get_or, Option, Some, None, ◌⊎◌, inl, inr, refl, sym, ap, ◌∙◌, subst, arith}
use Rattle.std.specs.Prelude.{Contains}
use Rattle.std.proofs.lemmas.List.{take_more, map-append}
use Rattle.std.proofs.lemmas.List.Elements.{Contains-append_left, Contains-append_right, Contains-append_cases}
use Rattle.audit_model.specs.declared.event.Event.{Event}
use Rattle.audit_model.specs.declared.verdict.Breach.{Breach}
use Rattle.audit_model.specs.Breach.{lesser}
use Rattle.audit_model.specs.Least.{IsLeast}
use Rattle.audit_model.proofs.LeastBreach.{least_same}
use Rattle.audit_placement.proofs.LeastOfTwo.{least_both, least_found}
use Rattle.audit_rules.specs.Keys.{KeyFor}
use Rattle.audit_sightings.specs.Intake.{Taken}
use Rattle.audit_live.specs.declared.lanes.LiveLanes.{LiveLanes}
use Rattle.audit_live.specs.Turn.{Shown, StepsIn, Walks}
use Rattle.audit_live.proofs.Chains.{chain_more}

pub only_one : {X : Type 0} (x y : X) → Contains (x ∷ []) y → x ≡ y
only_one x y (zero, within, is) = is
only_one x y (suc k, within, is) = absurd (omega (arith, within))

is_first : {X : Type 0} (x y : X) → x ≡ y → Contains (x ∷ []) y
is_first x y same = (0, omega arith, same)

-- what is shown with one more
shown_more : (founds : List (Option Breach)) (next : Option Breach) (least : Option Breach) → IsLeast (λ b. Contains founds (Some b)) least
    → IsLeast (λ b. Contains (founds ++ next ∷ []) (Some b)) (lesser least next)
shown_more founds next least is =
    least_same (λ b. Contains founds (Some b) ⊎ (next ≡ Some b)) (λ b. Contains (founds ++ next ∷ []) (Some b))
    (λ b shown. elim shown [ inl h ↦ Contains-append_left founds (next ∷ []) (Some b) h | inr same ↦ Contains-append_right founds (next ∷ []) (Some b) (is_first next (Some b) same) ])
    (λ b shown. elim (Contains-append_cases founds (next ∷ []) (Some b) shown) [ inl h ↦ inl h | inr h ↦ inr (only_one next (Some b) h) ])
    (lesser least next) (least_both (λ b. Contains founds (Some b)) (λ b. next ≡ Some b) least next is (least_found next))

module _ (taken : Taken) (key_for : KeyFor) where
  pub walks_none : (lanes : LiveLanes) → Walks taken key_for lanes [] lanes None
  walks_none lanes = record { shown = []; events_are = refl; chain = refl; least = λ b contains. absurd (omega (arith, contains.1)) }

  walks_more : (old mid new : LiveLanes) (events : List (ℕ × Event)) (shown : Shown) (least : Option Breach) → Walks taken key_for old events mid least → StepsIn taken key_for mid shown new
      → Walks taken key_for old (events ++ (shown.number, shown.event) ∷ []) new (lesser least shown.found)
  walks_more old mid new events shown least walks step = record {
    shown = walks.shown ++ shown ∷ [];
    events_are = map-append (λ (one : Shown). (one.number, one.event)) walks.shown (shown ∷ []) ∙ ap (λ es. es ++ (shown.number, shown.event) ∷ []) walks.events_are;
    chain = chain_more (StepsIn taken key_for) old walks.shown mid shown new walks.chain step;
    least = subst (λ fs. IsLeast (λ b. Contains fs (Some b)) (lesser least shown.found)) (sym (map-append (λ (one : Shown). one.found) walks.shown (shown ∷ [])))
        (shown_more (map (λ (one : Shown). one.found) walks.shown) shown.found least walks.least);
  }

  pub walks_next : (old mid new : LiveLanes) (events : List (ℕ × Event)) (i : ℕ) (d : ℕ × Event) (found least : Option Breach) → i < length events
      → Walks taken key_for old (take i events) mid least
      → StepsIn taken key_for mid (record { number = (get_or events i d).0; event = (get_or events i d).1; found = found }) new
      → Walks taken key_for old (take (i + 1) events) new (lesser least found)
  walks_next old mid new events i d found least within walks step =
      subst (λ (es : List (ℕ × Event)). Walks taken key_for old es new (lesser least found)) (sym (take_more events i d within))
      (walks_more old mid new (take i events) (record { number = (get_or events i d).0; event = (get_or events i d).1; found = found }) least walks step)
