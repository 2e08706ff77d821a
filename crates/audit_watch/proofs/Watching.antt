-- What a turn over an intake shows of all that was captured.
use Rattle.std.proofs.Common.{◌≡◌, ◌≤◌, ◌<◌, ◌+◌, ◌-◌, ◌++◌, inl, inr, ℕ, zero, suc, Bool, true, false, cond, Option, Some, None, List, [], ◌∷◌, length, take, refl, sym, ◌∙◌, ap, subst, arith}
use Rattle.std.specs.Prelude.{is_some, slice_index_or, Result, Ok, Err, IfOk}
use Rattle.std.proofs.lemmas.Bool.{true≢false, cond-true, cond-false, ltb-true, ltb-false, le-ltb, lt-ltb}
use Rattle.std.proofs.lemmas.List.{get_or-map, length-map, take_more}
use Rattle.std.proofs.lemmas.Option.{none-some, same_Some}
use Rattle.audit_model.specs.declared.policy.Policy.{Policy}
use Rattle.audit_model.specs.declared.sighting.SightId.{SightId}
use Rattle.audit_model.specs.declared.sighting.Sighting.{Sighting}
use Rattle.audit_model.specs.Window.{later}
use Rattle.audit_rules.specs.Keys.{KeyFor}
use Rattle.audit_server.specs.Step.{Step}
use Rattle.audit_sightings.specs.Intake.{Taken, sighting_at}
use Rattle.audit_cuts.specs.declared.carried.Interface.{Interface}
use Rattle.audit_cuts.specs.Rebasing.{bases_of}
use Rattle.audit_segments.specs.Alike.{is_placed}
use Rattle.audit_segments.specs.Claims.{ConformsUpTo, HeadlineOf, IsComplete, IsJudgedUpTo}
use Rattle.audit_segments.specs.Cut.{Cut, empty_cut}
use Rattle.audit_segments.specs.Renamed.{renamed, renamed_if}
use Rattle.audit_segments.specs.Segment.{View, IsSegment, IsViewOf}
use Rattle.audit_segments.specs.Shifted.{is_below, unshifted, from_base, shifted_view, shifted_steps, shifted_cut}
use Rattle.audit_segments.proofs.Claiming.{headline_of, no_steps, up_to}
use Rattle.audit_segments.proofs.Joining.{joined}
use Rattle.audit_segments.proofs.Rules.{ignore_past_grace}
use Rattle.audit_segments.proofs.Shifting.{shifted_segment}
use Rattle.audit_segments.proofs.States.{placed_below, unplaced_from, below_placed}
use Rattle.audit_segments.proofs.Viewing.{by_all}
use Rattle.audit_machine.specs.declared.machine.Machine.{Machine}
use Rattle.audit_machine.specs.Carrying.{base_at, absolute_cut_of}
use Rattle.audit_machine.specs.Counts.{count_of}
use Rattle.audit_machine.specs.Judged.{IsJudgedBy}
use Rattle.audit_machine.specs.Machine.{cut_of, IsConsistent}
use Rattle.audit_machine.specs.Times.{time_of}
use Rattle.audit_watch.specs.declared.advance_error.AdvanceError.{AdvanceError}
use Rattle.audit_watch.specs.declared.watch.Watch.{Watch}
use Rattle.audit_watch.specs.Watch.{watch_cut, watch_view, AreCaptured, AreAllCaptured, LeadsFrom, IfUsable, Follows}

-- ---- ids below the base, and from it on

abbrev pub nothing : SightId → Bool
nothing s = false

module _ (base : ℕ → ℕ) where
  -- what is the same below the base and from it on
  any_base : {A : Type 0} (x : A) (s : SightId) → from_base base x (λ q. x) s ≡ x
  any_base x s = either (is_below base s) where
    either : (b : Bool) → cond b x x ≡ x
    either true = refl
    either false = refl

  -- a fact of an id, by whether the id is below the base
  pub by_base : (P : SightId → Type 0) (s : SightId) → (is_below base s ≡ true → P s) → (is_below base s ≡ false → P s) → P s
  by_base P s f g = elim (is_below base s) as (λ b. is_below base s ≡ b → P s) [
    | true ↦ f
    | false ↦ g
  ] refl

  above : {A : Type 0} (below : A) (f : SightId → A) (s : SightId) → is_below base s ≡ false → from_base base below f s ≡ f (unshifted base s)
  above below f s h = cond-false (is_below base s) below (f (unshifted base s)) h

  pub under : {A : Type 0} (below : A) (f : SightId → A) (s : SightId) → is_below base s ≡ true → from_base base below f s ≡ below
  under below f s h = cond-true (is_below base s) below (f (unshifted base s)) h

  -- a placed sighting from the base on is placed by its id from the base, and the other way round
  placed_from : (count : ℕ → ℕ) (s : SightId) → is_below base s ≡ false → is_placed (λ i. base i + count i) s ≡ true → is_placed count (unshifted base s) ≡ true
  placed_from count s from h = below_placed count (unshifted base s) (omega (arith, placed_below (λ i. base i + count i) s h, ltb-false s.index (base s.iface) from))

  placed_to : (count : ℕ → ℕ) (s : SightId) → is_placed count (unshifted base s) ≡ true → is_placed (λ i. base i + count i) s ≡ true
  placed_to count s h = below_placed (λ i. base i + count i) s (omega (arith, placed_below count (unshifted base s) h))

  placed_under : (count : ℕ → ℕ) (s : SightId) → is_below base s ≡ true → is_placed (λ i. base i + count i) s ≡ true
  placed_under count s h = below_placed (λ i. base i + count i) s (omega (arith, ltb-true s.index (base s.iface) h))

  -- what isn't placed yet isn't below the base
  from_unplaced : (count : ℕ → ℕ) (s : SightId) → is_placed (λ i. base i + count i) s ≡ false → is_below base s ≡ false
  from_unplaced count s h = le-ltb s.index (base s.iface) (omega (arith, unplaced_from (λ i. base i + count i) s h))

  there_renamed : (s : SightId) (o : Option Sighting) → is_some (renamed_if s o) ≡ is_some o
  there_renamed s None = refl
  there_renamed s (Some x) = refl

  pub view_above : (view : View) (s : SightId) → is_below base s ≡ false → shifted_view base view s ≡ renamed_if s (view (unshifted base s))
  view_above view s h = ap (renamed_if s) (above None view s h)

  -- a sighting that the view has is one of the intake, with the same window
  end_renamed : (s : SightId) (o : Option Sighting) (x : Sighting) → renamed_if s o ≡ Some x → (y : Sighting) × (o ≡ Some y) × (y.hi ≡ x.hi)
  end_renamed s None x h = absurd (none-some x h)
  end_renamed s (Some y) x h = (y, refl, ap (λ (z : Sighting). z.hi) (same_Some (renamed s y) x h))

some_from : (o : Option Sighting) → is_some o ≡ true → (x : Sighting) × (o ≡ Some x)
some_from (Some x) h = (x, refl)
some_from None h = absurd (true≢false (sym h))

-- ---- a turn

module _ (all taken : Taken) (key_for : KeyFor) (w : Watch) where
  abbrev base : ℕ → ℕ
  base = base_at w.bases.items

  abbrev cut_at : Machine → Cut
  cut_at m = absolute_cut_of w.bases.items m nothing

  module _ (captured : AreCaptured all w taken) (new : Machine) (has_placed : (s : SightId) → is_placed (count_of new.placed) s ≡ true → is_some (sighting_at taken s) ≡ true) where
    due_there : (s : SightId) → is_placed (cut_at w.machine).placed s ≡ false → is_placed (cut_at new).placed s ≡ true → is_some (watch_view w taken s) ≡ is_some (sighting_at all s)
    due_there s unplaced is_now =
        let from : is_below base s ≡ false = from_unplaced base (count_of w.machine.placed) s unplaced in
        let there : is_some (sighting_at taken (unshifted base s)) ≡ true = has_placed (unshifted base s) (placed_from base (count_of new.placed) s from is_now) in
        let viewed : is_some (watch_view w taken s) ≡ true = ap is_some (view_above base (sighting_at taken) s from) ∙ there_renamed base s (sighting_at taken (unshifted base s)) ∙ there in
        let x = some_from (watch_view w taken s) viewed in
        viewed ∙ sym (ap is_some (captured.has s x.0 x.1))

    is_view : IsViewOf (sighting_at all) (watch_view w taken) (cut_at w.machine) (cut_at new)
    is_view = record { there = captured.has; due = λ s h unplaced is_now. due_there s unplaced is_now }

    -- the segment of a turn, over all that was captured
    turn : Follows taken key_for w.machine new → (steps : List Step) × IsSegment all.policy key_for (sighting_at all) (cut_at w.machine) steps (cut_at new)
    turn f =
        let moved = shifted_segment base w.machine.policy key_for (sighting_at taken) nothing (cut_of w.machine nothing) (cut_of new nothing) f.steps f.segment in (
          shifted_steps base f.steps,
          subst (λ (p : Policy). IsSegment p key_for (sighting_at all) (cut_at w.machine) (shifted_steps base f.steps) (cut_at new)) (sym captured.policy)
              (by_all w.machine.policy key_for (sighting_at all) (watch_view w taken) (cut_at w.machine) (cut_at new) (shifted_steps base f.steps) is_view moved),
        )

    pub leads_on : (first : Cut) → LeadsFrom all key_for first w → Follows taken key_for w.machine new → (steps : List Step) × IsSegment all.policy key_for (sighting_at all) first steps (cut_at new)
    leads_on first before f =
        let next = turn f in
        (before.0 ++ next.0, joined all.policy key_for (sighting_at all) (ignore_past_grace all.policy key_for (sighting_at all)) first (cut_at w.machine) (cut_at new) before.0 next.0 before.1 next.1)

  -- ---- the claims

  module _ (captured : AreAllCaptured all w taken) where
    -- a captured sighting from the base on is in the intake
    in_intake : (s : SightId) (x : Sighting) → is_below base s ≡ false → sighting_at all s ≡ Some x → (y : Sighting) × (sighting_at taken (unshifted base s) ≡ Some y) × (y.hi ≡ x.hi)
    in_intake s x from is = end_renamed base s (sighting_at taken (unshifted base s)) x (sym (view_above base (sighting_at taken) s from) ∙ sym (captured.same s from) ∙ is)

    judged : (moment : ℕ) → IsJudgedBy taken w.machine moment → IsJudgedUpTo all moment (watch_cut w)
    judged moment is = record {
      all = λ s x there before. by_base base (λ s. sighting_at all s ≡ Some x → is_placed (watch_cut w).placed s ≡ true) s
          (λ h q. placed_under base (count_of w.machine.placed) s h)
          (λ h q. let y = in_intake s x h q in placed_to base (count_of w.machine.placed) s (is.placed (unshifted base s) y.0 y.1 (subst (λ (n : ℕ). n < moment) (sym y.2) before)))
          there;
      owed = λ t came h is_owed. by_base base (λ t. (watch_cut w).state.owed t ≡ Some came → moment ≤ later came all.policy.hold) t
          (λ b q. absurd (none-some came (sym (under base None (time_of w.machine.owed) t b) ∙ q)))
          (λ b q. subst (λ (p : Policy). moment ≤ later came p.hold) (sym captured.policy) (is.owed (unshifted base t) came (sym (above base None (time_of w.machine.owed) t b) ∙ q)))
          is_owed;
    }

    pub conforms : (moment : ℕ) → IsJudgedBy taken w.machine moment → LeadsFrom all key_for empty_cut w → (steps : List Step) × ConformsUpTo all key_for moment (watch_cut w) steps
    conforms moment is claim = (claim.0, up_to all key_for claim.0 (watch_cut w) claim.1 moment (judged moment is))

    complete : ((s : SightId) → is_some (sighting_at taken s) ≡ true → is_placed (count_of w.machine.placed) s ≡ true) → ((t : SightId) → time_of w.machine.owed t ≡ None) → IsComplete all (watch_cut w)
    complete placed owed = record {
      all = λ s there. by_base base (λ s. is_some (sighting_at all s) ≡ true → is_placed (watch_cut w).placed s ≡ true) s
          (λ h q. placed_under base (count_of w.machine.placed) s h)
          (λ h q. placed_to base (count_of w.machine.placed) s (placed (unshifted base s) (sym (there_renamed base s (sighting_at taken (unshifted base s))) ∙ ap is_some (sym (view_above base (sighting_at taken) s h)) ∙ ap is_some (sym (captured.same s h)) ∙ q)))
          there;
      owed = λ t h. by_base base (λ t. (watch_cut w).state.owed t ≡ None) t
          (λ b. under base None (time_of w.machine.owed) t b)
          (λ b. above base None (time_of w.machine.owed) t b ∙ owed (unshifted base t));
    }

    pub headline : ((s : SightId) → is_some (sighting_at taken s) ≡ true → is_placed (count_of w.machine.placed) s ≡ true) → ((t : SightId) → time_of w.machine.owed t ≡ None) → LeadsFrom all key_for empty_cut w → (steps : List Step) × HeadlineOf all key_for steps
    headline placed owed claim = (claim.0, headline_of all key_for claim.0 (watch_cut w) claim.1 (complete placed owed) (any_base base false))

-- ---- segments over an intake

pub follows_on : (taken : Taken) (key_for : KeyFor) (a b c : Machine) → Follows taken key_for a b → Follows taken key_for b c → Follows taken key_for a c
follows_on taken key_for a b c f g = record {
  steps = f.steps ++ g.steps;
  segment = joined a.policy key_for (sighting_at taken) (ignore_past_grace a.policy key_for (sighting_at taken)) (cut_of a nothing) (cut_of b nothing) (cut_of c nothing) f.steps g.steps f.segment
      (subst (λ (p : Policy). IsSegment p key_for (sighting_at taken) (cut_of b nothing) g.steps (cut_of c nothing)) f.policy g.segment);
  consistent = g.consistent;
  policy = g.policy ∙ f.policy;
}

-- ---- bases

-- without a base all ids count from the first sighting
pub shifted_empty : shifted_cut (base_at []) nothing empty_cut ≡ empty_cut
shifted_empty = λ n. record {
  state = record {
    table = empty_cut.state.table;
    waiting = λ s. any_base (base_at []) None s n;
    owed = λ s. any_base (base_at []) None s n;
    sent = λ s. any_base (base_at []) false s n;
    now = 0;
  };
  placed = λ iface. 0;
  excluded = λ s. any_base (base_at []) false s n;
}

pub more_bases : (bases others : List ℕ) (m : Machine) → ((iface : ℕ) → base_at others iface ≡ base_at bases iface) → absolute_cut_of others m nothing ≡ absolute_cut_of bases m nothing
more_bases bases others m same = ap (λ (base : ℕ → ℕ). shifted_cut base nothing (cut_of m nothing)) (λ n iface. same iface n)

pub pushed_base : (bases : List ℕ) (iface : ℕ) → base_at (bases ++ 0 ∷ []) iface ≡ base_at bases iface
pushed_base [] zero = refl
pushed_base [] (suc iface) = refl
pushed_base (base ∷ bases) zero = refl
pushed_base (base ∷ bases) (suc iface) = pushed_base bases iface

-- one more base
pub push_base : (items : List Interface) (bases new : List ℕ) (k : ℕ) (i : Interface) (base : ℕ) → k < length items → bases ≡ take k (bases_of items) → new ≡ bases ++ base ∷ [] → base ≡ (slice_index_or items k i).base → new ≡ take (k + 1) (bases_of items)
push_base items bases new k i base lt before is at =
    is ∙ ap (λ l. l ++ base ∷ []) before ∙ ap (λ n. take k (bases_of items) ++ n ∷ []) (at ∙ sym (get_or-map (λ (j : Interface). j.base) items k i 0 lt))
    ∙ sym (take_more (bases_of items) k 0 (omega (arith, lt, length-map items (λ (j : Interface). j.base))))

-- ---- results

pub both_ok : {A E : Type 0} (r : Result A E) (P Q R : A → Type 0) → ((a : A) → P a → Q a → R a) → IfOk r P → IfOk r Q → IfOk r R
both_ok (Ok a) P Q R f p q = f a p q
both_ok (Err e) P Q R f p q = p

pub if_usable : (r : Result Unit AdvanceError) (P Q : Type 0) → (P → Q) → IfUsable r P → IfUsable r Q
if_usable (Ok done) P Q f h = f h
if_usable (Err error) P Q f h = λ usable. f (h usable)

-- a machine that didn't change
pub follows_itself : (taken : Taken) (key_for : KeyFor) (old new : Machine) → new ≡ old → IsConsistent old → Follows taken key_for old new
follows_itself taken key_for old new same consistent = subst (λ (m : Machine). Follows taken key_for old m) (sym same) (record {
  steps = [];
  segment = no_steps old.policy key_for (sighting_at taken) (cut_of old nothing);
  consistent = consistent;
  policy = refl;
})
