-- What segments from the empty cut show of all that was captured.
use Rattle.std.proofs.Common.{◌≡◌, ℕ, Bool, true, false, ◌&&◌, List, [], ◌∷◌, ◌++◌, refl, sym, ◌∙◌, ap, subst, arith}
use Rattle.std.specs.Prelude.{is_some, not}
use Rattle.std.proofs.Common.{append_assoc}
use Rattle.std.proofs.lemmas.List.{append-nil}
use Rattle.audit_model.specs.declared.certificate.Certificate.{Certificate}
use Rattle.audit_model.specs.declared.policy.Policy.{Policy}
use Rattle.audit_model.specs.declared.sighting.SightId.{SightId}
use Rattle.audit_sightings.specs.Intake.{Taken, sighting_at}
use Rattle.audit_rules.specs.Keys.{KeyFor}
use Rattle.audit_server.specs.Placing.{times_placed}
use Rattle.audit_server.specs.State.{State}
use Rattle.audit_server.specs.Step.{Step}
use Rattle.audit_whole.specs.Glued.{glued_steps}
use Rattle.audit_whole.specs.Headline.{Headline}
use Rattle.audit_whole.proofs.Grounds.{grounded}
use Rattle.audit_whole.proofs.ToClients.{are_relayed}
use Rattle.audit_segments.specs.Alike.{AreAlike, is_placed}
use Rattle.audit_segments.specs.Cut.{Cut, Extends, empty_cut}
use Rattle.audit_segments.specs.Claims.{HeadlineOf, HeadlineExcept, IsComplete, IsJudgedUpTo, ConformsUpTo}
use Rattle.audit_segments.specs.Segment.{View, Segment, IsSegment, AreSegments, all_steps}
use Rattle.audit_segments.proofs.Due.{one_where, and_true}
use Rattle.audit_segments.proofs.Joining.{joined}
use Rattle.audit_segments.proofs.Rules.{ignore_past_grace}
use Rattle.audit_segments.proofs.States.{alike_refl, from_unplaced}
use Rattle.audit_segments.proofs.Viewing.{by_all}

-- ---- many segments are one

none_first : (s : SightId) → is_placed empty_cut.placed s ≡ false
none_first s = from_unplaced empty_cut.placed s (omega arith)

module _ (policy : Policy) (key_for : KeyFor) (all : View) where
  pub whole_of : (segments : List Segment) (a b last : Cut) (p : List Step) → IsSegment policy key_for all a p b → AreSegments policy key_for all b segments last → IsSegment policy key_for all a (p ++ all_steps segments) last
  whole_of [] a b last p one rest =
      subst (λ (c : Cut). IsSegment policy key_for all a (p ++ []) c) (sym rest) (subst (λ (q : List Step). IsSegment policy key_for all a q b) (sym (append-nil p)) one)
  whole_of (segment ∷ segments) a b last p one rest =
      let next : IsSegment policy key_for all b segment.steps segment.cut = by_all policy key_for all segment.view b segment.cut segment.steps rest.0.1 rest.0.0 in
      let two : IsSegment policy key_for all a (p ++ segment.steps) segment.cut = joined policy key_for all (ignore_past_grace policy key_for all) a b segment.cut p segment.steps one next in
      subst (λ (q : List Step). IsSegment policy key_for all a q last) (append_assoc p segment.steps (all_steps segments)) (whole_of segments a segment.cut last (p ++ segment.steps) two rest.1)

-- ---- what they show

module _ (taken : Taken) (key_for : KeyFor) (steps : List Step) (last : Cut) (one : IsSegment taken.policy key_for (sighting_at taken) empty_cut steps last) where
  -- how often a sighting is placed
  times : (s : SightId) → times_placed s steps ≡ one_where ((is_some (sighting_at taken s) && not (last.excluded s)) && is_placed last.placed s)
  times s = one.placed s ∙ ap (λ (b : Bool). one_where ((is_some (sighting_at taken s) && not (last.excluded s)) && (not b && is_placed last.placed s))) (none_first s)

  seen_all : (s : SightId) (b : Bool) → is_some (sighting_at taken s) ≡ b → (b ≡ true → is_placed last.placed s ≡ true) → one_where ((b && not (last.excluded s)) && is_placed last.placed s) ≡ one_where (b && not (last.excluded s))
  seen_all s true e f = ap (λ (d : Bool). one_where ((true && not (last.excluded s)) && d)) (f refl) ∙ ap one_where (and_true (true && not (last.excluded s)))
  seen_all s false e f = refl

  pub headline_except : IsComplete taken last → HeadlineExcept taken key_for last.excluded steps
  headline_except complete = record {
    placed = λ s. times s ∙ seen_all s (is_some (sighting_at taken s)) refl (complete.all s);
    seen = one.seen;
    order = one.order;
    runs = one.runs;
    nothing_owed = λ t h. one.leads.owed t h ∙ complete.owed t h;
    grounded = grounded taken key_for steps one.runs;
    relayed = λ apart. are_relayed taken key_for apart steps one.runs;
  }

  pub headline_of : IsComplete taken last → ((s : SightId) → last.excluded s ≡ false) → HeadlineOf taken key_for steps
  headline_of complete none =
      let h : HeadlineExcept taken key_for last.excluded steps = headline_except complete in
      record {
        run = record {
          placed = λ s. h.placed s ∙ ap (λ (b : Bool). one_where (is_some (sighting_at taken s) && not b)) (none s) ∙ ap one_where (and_true (is_some (sighting_at taken s)));
          seen = h.seen;
          order = h.order;
          run = record { runs = h.runs; nothing_owed = λ t. h.nothing_owed t (none t) };
        };
        grounded = h.grounded;
        relayed = h.relayed;
      }

  pub up_to : (moment : ℕ) → IsJudgedUpTo taken moment last → ConformsUpTo taken key_for moment last steps
  up_to moment come = record {
    all = come.all;
    placed = times;
    seen = one.seen;
    order = one.order;
    runs = one.runs;
    owed = λ t came h e. come.owed t came h (sym (one.leads.owed t h) ∙ e);
    grounded = grounded taken key_for steps one.runs;
    relayed = λ apart. are_relayed taken key_for apart steps one.runs;
  }

pub headline_is : (taken : Taken) (key_for : KeyFor) (certificate : Certificate) → HeadlineOf taken key_for (glued_steps certificate) → Headline taken key_for certificate
headline_is taken key_for certificate h = record { run = h.run; grounded = h.grounded; relayed = h.relayed }

pub headline_from : (taken : Taken) (key_for : KeyFor) (certificate : Certificate) → Headline taken key_for certificate → HeadlineOf taken key_for (glued_steps certificate)
headline_from taken key_for certificate h = record { run = h.run; grounded = h.grounded; relayed = h.relayed }

-- ---- segments without a step

none_due : (v b : Bool) → one_where (v && (not b && b)) ≡ 0
none_due true true = refl
none_due true false = refl
none_due false b = refl

-- without a step more sightings may be excluded that are not placed, and the state may be replaced by one that is alike
pub excludes_more : (policy : Policy) (key_for : KeyFor) (all : View) (a : Cut) (excluded : SightId → Bool) (state : State) → Extends a (record { state = state; placed = a.placed; excluded = excluded }) →
    AreAlike policy.hold policy.grace a.placed excluded a.state state → IsSegment policy key_for all a [] (record { state = state; placed = a.placed; excluded = excluded })
excludes_more policy key_for all a excluded state go k = record {
  placed = λ s. sym (none_due (is_some (all s) && not (excluded s)) (is_placed a.placed s));
  seen = tt;
  order = tt;
  names = tt;
  runs = tt;
  leads = k;
  extends = go;
}

-- no steps lead from a cut to itself
pub no_steps : (policy : Policy) (key_for : KeyFor) (all : View) (a : Cut) → IsSegment policy key_for all a [] a
no_steps policy key_for all a = excludes_more policy key_for all a a.excluded a.state
    (record { placed = λ iface. omega arith; excluded = λ s e. e; settled = λ s e. refl })
    (alike_refl policy.hold policy.grace a.placed a.excluded a.state)
