-- A walk has one outcome.
use Rattle.std.proofs.Common.{◌≡◌, inl, inr, ℕ, Bool, true, false, Option, Some, None, List, [], ◌∷◌, refl, sym, ◌∙◌, ap, arith}
use Rattle.std.specs.Prelude.{is_some, ◌||◌}
use Rattle.audit_model.specs.declared.rule.Rule.{Rule}
use Rattle.audit_model.specs.declared.sighting.Sighting.{Sighting}
use Rattle.audit_model.specs.declared.verdict.Breach.{Breach}
use Rattle.audit_rules.specs.Keys.{KeyFor}
use Rattle.audit_sightings.specs.Intake.{Taken, sighting_at}
use Rattle.audit_rules.specs.Allocation.{Allocation}
use Rattle.audit_rules.specs.Check.{Check, FirstFails}
use Rattle.audit_rules.specs.FirstRule.{checks_of}
use Rattle.audit_rules.specs.Values.{AreBytes}
use Rattle.audit_rules.proofs.Chosen.{may_all, not_both}
use Rattle.audit_model.specs.declared.pair.Pair.{Pair}
use Rattle.audit_server.specs.Step.{Move, In, Act, Out}
use Rattle.audit_server.specs.Placed.{Placed}
use Rattle.audit_server.specs.Captured.{MayBetween, situation_at}
use Rattle.audit_rules.specs.Said.{change_in}
use Rattle.audit_prefix.specs.Walk.{Memory, remembered, IsInTime, GoesOn, rules, BreaksAnswer, BreaksInTime, BreaksArrived, BreaksSent, Breaks, sight_named, lane_breach, Walks, HaveBytes}

first_one : (checks : List Check) (one other : Rule) → FirstFails checks one → FirstFails checks other → one ≡ other
first_one [] one other f g = absurd f
first_one (check ∷ checks) one other (inl f) (inl g) = f.0 ∙ sym g.0
first_one (check ∷ checks) one other (inl f) (inr g) = absurd (f.1 g.0)
first_one (check ∷ checks) one other (inr f) (inl g) = absurd (g.1 f.0)
first_one (check ∷ checks) one other (inr f) (inr g) = first_one checks one other f.1 g.1

module _ (taken : Taken) (key_for : KeyFor) where
  answer_one : (c : Pair) (moment : ℕ) (x : Option Allocation) (a b : Option Sighting) (one other : Rule) → BreaksAnswer taken key_for c moment x a b one → BreaksAnswer taken key_for c moment x a b other → one ≡ other
  answer_one c moment x None b one other f g = absurd f
  answer_one c moment x (Some s) None one other f g = absurd f
  answer_one c moment x (Some s) (Some t) one other f g = first_one (checks_of (situation_at taken.policy key_for c moment x s t)) one other f g

  time_one : (came moment : ℕ) (Other : Rule → Type 0) → ((r q : Rule) → Other r → Other q → r ≡ q) → (one other : Rule) → BreaksInTime taken key_for came moment Other one → BreaksInTime taken key_for came moment Other other → one ≡ other
  time_one came moment Other h one other (inl f) (inl g) = f.1 ∙ sym g.1
  time_one came moment Other h one other (inl f) (inr g) = absurd (omega (arith, f.0, g.0))
  time_one came moment Other h one other (inr f) (inl g) = absurd (omega (arith, f.0, g.0))
  time_one came moment Other h one other (inr f) (inr g) = h one other f.1 g.1

  arrived_one : (came : Option ℕ) (again : Bool) (moment : ℕ) (Other : Rule → Type 0) → ((r q : Rule) → Other r → Other q → r ≡ q) → (one other : Rule) → BreaksArrived taken key_for came again moment Other one → BreaksArrived taken key_for came again moment Other other → one ≡ other
  arrived_one None again moment Other h one other f g = f ∙ sym g
  arrived_one (Some came) true moment Other h one other f g = f ∙ sym g
  arrived_one (Some came) false moment Other h one other f g = time_one came moment Other h one other f g

  sent_one : (since : Option ℕ) (moment : ℕ) (one other : Rule) → BreaksSent taken key_for since moment one → BreaksSent taken key_for since moment other → one ≡ other
  sent_one None moment one other f g = f ∙ sym g
  sent_one (Some came) moment one other f g = f.1 ∙ sym g.1

  breaks_one : (m : Memory) (moment : ℕ) (move : Move) (one other : Rule) → Breaks taken key_for m moment move one → Breaks taken key_for m moment move other → one ≡ other
  breaks_one m moment (In s) one other f g = absurd f
  breaks_one m moment (Act c s t) one other f g = arrived_one (m.came s) (m.taken s || is_some (m.since t)) moment (BreaksAnswer taken key_for c moment m.allocation (sighting_at taken s) (sighting_at taken t))
      (answer_one c moment m.allocation (sighting_at taken s) (sighting_at taken t)) one other f g
  breaks_one m moment (Out t) one other f g = sent_one (m.since t) moment one other f g

  -- ---- what may come breaks nothing

  module _ (bytes : HaveBytes taken) where
    answer_may : (c : Pair) (moment : ℕ) (x : Option Allocation) (a b : Option Sighting) → ((s : Sighting) → a ≡ Some s → AreBytes s.payload) → ((s : Sighting) → b ≡ Some s → AreBytes s.payload) → (rule : Rule) →
        MayBetween taken.policy key_for c moment x a b → BreaksAnswer taken key_for c moment x a b rule → ⊥
    answer_may c moment x None b f g rule m k = k
    answer_may c moment x (Some s) None f g rule m k = k
    answer_may c moment x (Some s) (Some t) f g rule m k =
        let y = situation_at taken.policy key_for c moment x s t in
        not_both (checks_of y) rule k (may_all y (change_in y) (f s refl) (g t refl) m)

    arrived_may : (came : Option ℕ) (again : Bool) (moment : ℕ) (Other : Rule → Type 0) (rule : Rule) → IsInTime (rules taken key_for).hold came moment → again ≡ false → (Other rule → ⊥) → BreaksArrived taken key_for came again moment Other rule → ⊥
    arrived_may None again moment Other rule i a o k = i
    arrived_may (Some came) true moment Other rule i a o k = let e : true ≡ false = a in cc
    arrived_may (Some came) false moment Other rule i a o (inl k) = omega (arith, i, k.0)
    arrived_may (Some came) false moment Other rule i a o (inr k) = o k.1

    sent_may : (since : Option ℕ) (moment : ℕ) (rule : Rule) → IsInTime (rules taken key_for).hold since moment → BreaksSent taken key_for since moment rule → ⊥
    sent_may None moment rule i k = i
    sent_may (Some came) moment rule i k = omega (arith, i, k.0)

    may_not : (m : Memory) (moment : ℕ) (move : Move) (rule : Rule) → GoesOn (rules taken key_for) m moment move → Breaks taken key_for m moment move rule → ⊥
    may_not m moment (In s) rule g k = k
    may_not m moment (Act c s t) rule g k = arrived_may (m.came s) (m.taken s || is_some (m.since t)) moment (BreaksAnswer taken key_for c moment m.allocation (sighting_at taken s) (sighting_at taken t)) rule g.0
        (ap (λ b. b || is_some (m.since t)) g.1 ∙ g.2) (answer_may c moment m.allocation (sighting_at taken s) (sighting_at taken t) (bytes s) (bytes t) rule g.3) k
    may_not m moment (Out t) rule g k = sent_may (m.since t) moment rule g k

    pub one_outcome : (es : List Placed) (m : Memory) (one other : Option Breach) → Walks taken key_for m es one → Walks taken key_for m es other → one ≡ other
    one_outcome [] m one other f g = f ∙ sym g
    one_outcome (e ∷ es) m one other (inl f) (inl g) = f.2 ∙ ap (λ (r : Rule). Some (lane_breach taken key_for e.at (sight_named taken key_for e.move) r)) (breaks_one m e.at.key.moment e.move f.0 g.0 f.1 g.1) ∙ sym g.2
    one_outcome (e ∷ es) m one other (inl f) (inr g) = absurd (may_not m e.at.key.moment e.move f.0 g.0 f.1)
    one_outcome (e ∷ es) m one other (inr f) (inl g) = absurd (may_not m e.at.key.moment e.move g.0 f.0 g.1)
    one_outcome (e ∷ es) m one other (inr f) (inr g) = one_outcome es (remembered (rules taken key_for) m e) one other f.1 g.1
