-- A lane is judged in one way.
use Rattle.std.proofs.Common.{◌≡◌, ◌≤◌, ℕ, ◌+◌, List, [], ◌∷◌, Option, Some, None, refl, sym, ap, ◌∙◌, subst, inl, inr, arith}
use Rattle.std.specs.Prelude.{IsSome}
use Rattle.audit_model.specs.declared.rule.Rule.{Rule}
use Rattle.audit_model.specs.declared.rule.Rule.TheVariants.{ActWithoutDeparture}
use Rattle.audit_model.specs.declared.verdict.Breach.{Breach}
use Rattle.audit_rules.specs.FirstRule.{checks_of}
use Rattle.audit_rules.proofs.Chosen.{may_all, not_both, one_first as first_one}
use Rattle.audit_rules.specs.Said.{change_in}
use Rattle.audit_lane.specs.declared.noted.Owed.{Owed}
use Rattle.audit_lane.specs.After.{after}
use Rattle.audit_lane.specs.Content.{Content, Happening, Came, Acted, Went, Judgement, Passes, Breaks}
use Rattle.audit_lane.specs.Faults.{BreaksRule, IsRight, fault_at}
use Rattle.audit_lane.specs.Kept.{Terms, Kept, place_at, situation_in}
use Rattle.audit_lane.specs.Walk.{Shows, IsFirst, EndsIn, WalksTo, breach_by, key_at, sight_at}
use Rattle.audit_lane.specs.Judged.{IsJudged, terms_of, at_start}

some_one : {X : Type 0} (x y : X) (o : Option X) → o ≡ Some x → o ≡ Some y → x ≡ y
some_one x y o e f = let g : Some x ≡ Some y = sym e ∙ f in cc

not_none : {X : Type 0} (x : X) (o : Option X) → o ≡ Some x → o ≡ None → ⊥
not_none x o e f = let g : Some x ≡ None = sym e ∙ f in cc

one_rule : (terms : Terms) (kept : Kept) (event : Happening) (one other : Rule) → BreaksRule terms kept event one → BreaksRule terms kept event other → one ≡ other
one_rule terms kept (Came s user key) one other a b = absurd a
one_rule terms kept (Acted x y key) one other (inl a) (inl b) = some_one one other (fault_at terms kept x y key.moment) a b
one_rule terms kept (Acted x y key) one other (inl a) (inr b) = absurd (not_none one (fault_at terms kept x y key.moment) a b.0)
one_rule terms kept (Acted x y key) one other (inr a) (inl b) = absurd (not_none other (fault_at terms kept x y key.moment) b a.0)
one_rule terms kept (Acted x y key) one other (inr a) (inr b) = first_one (checks_of (situation_in terms kept x y key.moment)) one other a.1.2 b.1.2
one_rule terms kept (Went s key) one other a b = let g : Some one ≡ Some other = sym a ∙ b in cc

not_right : (terms : Terms) (kept : Kept) (event : Happening) (rule : Rule) → BreaksRule terms kept event rule → IsRight terms kept event → ⊥
not_right terms kept (Came s user key) rule a r = a
not_right terms kept (Acted x y key) rule (inl a) r = not_none rule (fault_at terms kept x y key.moment) a r.0
not_right terms kept (Acted x y key) rule (inr a) r =
    let at = situation_in terms kept x y key.moment in
    not_both (checks_of at) rule a.1.2 (may_all at (change_in at) a.1.0 a.1.1 r.1)
not_right terms kept (Went s key) rule a r = let g : Some rule ≡ None = sym a ∙ r in cc

one_breach : (terms : Terms) (place : ℕ) (kept : Kept) (event : Happening) (one other : Breach) → Shows terms place kept event one → Shows terms place kept event other → one ≡ other
one_breach terms place kept event one other a b = a.is ∙ ap (breach_by (place_at terms (key_at event) place) (sight_at event)) (one_rule terms kept event a.rule b.rule a.breaks b.breaks) ∙ sym b.is

some_is : {X : Type 0} (x : X) (o : Option X) → o ≡ Some x → IsSome o
some_is x o e = subst IsSome (sym e) refl

one_first : (owed : ℕ → Option Owed) (one other : Owed) → IsFirst owed one → IsFirst owed other → one ≡ other
one_first owed one other a b =
    let below : a.place ≤ b.place = a.least b.place (some_is other (owed b.place) b.there) in
    let above : b.place ≤ a.place = b.least a.place (some_is one (owed a.place) a.there) in
    let same : a.place ≡ b.place = omega (arith, below, above) in
    some_one one other (owed b.place) (sym (ap owed same) ∙ a.there) b.there

one_end : (kept : Kept) (one other : Judgement) → EndsIn kept one → EndsIn kept other → one ≡ other
one_end kept (Passes ts) (Passes us) a b = ap Passes (a.1 ∙ sym b.1)
one_end kept (Passes ts) (Breaks b) a e = absurd (not_none e.0 (kept.owed e.1.place) e.1.there (a.0 e.1.place))
one_end kept (Breaks b) (Passes ts) e a = absurd (not_none e.0 (kept.owed e.1.place) e.1.there (a.0 e.1.place))
one_end kept (Breaks b) (Breaks d) a e = ap Breaks (a.2 ∙ ap (λ (o : Owed). breach_by o.at o.sight ActWithoutDeparture) (one_first kept.owed a.0 e.0 a.1 e.1) ∙ sym e.2)

one_walk : (terms : Terms) (place : ℕ) (kept : Kept) (events : List Happening) (one other : Judgement) → WalksTo terms place kept events one → WalksTo terms place kept events other → one ≡ other
one_walk terms place kept [] one other a b = one_end kept one other a b
one_walk terms place kept (e ∷ es) one other (inl a) (inl b) = a.2 ∙ ap Breaks (one_breach terms place kept e a.0 b.0 a.1 b.1) ∙ sym b.2
one_walk terms place kept (e ∷ es) one other (inl a) (inr b) = absurd (not_right terms kept e a.1.rule a.1.breaks b.0)
one_walk terms place kept (e ∷ es) one other (inr a) (inl b) = absurd (not_right terms kept e b.1.rule b.1.breaks a.0)
one_walk terms place kept (e ∷ es) one other (inr a) (inr b) = one_walk terms (place + 1) (after terms place kept e) es one other a.1 b.1

pub one_judgement : (content : Content) (one other : Judgement) → IsJudged content one → IsJudged content other → one ≡ other
unfolding IsJudged
one_judgement content one other a b = one_walk (terms_of content) 0 (at_start content) content.events one other a b
