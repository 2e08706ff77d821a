-- A live audit goes on.
use Rattle.std.proofs.Common.{◌≡◌, ◌≤◌, ◌<◌, inl, inr, ℕ, List, [], ◌++◌, map, length, Option, Some, None, sym, ◌∙◌, subst, arith, ap}
use Rattle.std.specs.Prelude.{IfSome, Contains}
use Rattle.std.specs.List.{AllByRecursion}
use Rattle.audit_rules.specs.Keys.{KeyFor}
use Rattle.audit_sightings.specs.Intake.{Taken}
use Rattle.std.proofs.lemmas.Option.{none-some}
use Rattle.audit_model.specs.declared.certificate.CertLane.{CertLane}
use Rattle.audit_model.specs.declared.verdict.Breach.{Breach}
use Rattle.audit_placement.specs.declared.entry.Entry.{Entry}
use Rattle.audit_placement.specs.Entries.{entries, lanes_entries, drop_entries}
use Rattle.audit_placement.specs.FirstPlace.{first_place}
use Rattle.audit_placement.specs.Shows.{ShowsPlaced, ShowsFrom}
use Rattle.audit_server.specs.Whole.{all_tenancies}
use Rattle.std.proofs.lemmas.Bool.{cases_lt}
use Rattle.std.proofs.lemmas.List.Elements.{All-weaker}
use Rattle.audit_model.specs.declared.certificate.Certificate.{Certificate}
use Rattle.audit_model.specs.declared.certificate.CertDrop.{CertDrop}
use Rattle.audit_model.specs.declared.event.Event.{Event}
use Rattle.audit_model.specs.declared.extension.Extension.{Extension}
use Rattle.audit_model.specs.Event.{key_of}
use Rattle.audit_server.specs.Placed.{Placed}
use Rattle.audit_server.proofs.Orders.{all_weaker}
use Rattle.audit_whole.specs.Glued.{all_placed, placed_of, lanes_from}
use Rattle.audit_whole.specs.CaptureRun.{rules_for}
use Rattle.audit_sightings.specs.Intake.{AreNumbered}
use Rattle.audit_prefix.specs.Advance.{StandsBy, StandsByLast}
use Rattle.audit_prefix.specs.Live.{Standing, IsGoing, MayAdvance, Advances, horizon_of}
use Rattle.audit_prefix.specs.Prefix.{IsPrefix, PassesSoFar, EachGoes}
use Rattle.audit_prefix.proofs.Extending.{stands_by}
use Rattle.audit_prefix.proofs.Fronts.{prefix_of}
use Rattle.audit_prefix.proofs.Passing.{passes_of_none, none_of_passes}

stands_at : (last : Option ℕ) (certificate : Certificate) → StandsByLast last certificate → StandsBy (horizon_of last) certificate
stands_at None certificate h = all_weaker (λ (e : Placed). ⊥) (λ (e : Placed). e.at.key.moment ≤ 0) (λ e k. absurd k) (all_placed certificate) h
stands_at (Some last) certificate h = h

pub front : (key_for : KeyFor) (live : Standing) → AreNumbered live.taken → IsGoing key_for live → IsPrefix live.taken (rules_for live.taken key_for) live.certificate (horizon_of live.last)
front key_for live numbered g = prefix_of live.taken numbered key_for live.certificate (horizon_of live.last) (passes_of_none live.taken numbered key_for live.certificate g.none) (stands_at live.last live.certificate g.by_last)

stands_later : (last : Option ℕ) (horizon : ℕ) (certificate : Certificate) → ((IfSome last (λ before. horizon ≤ before) × ((last ≡ None) → ⊥)) → ⊥) → StandsByLast last certificate → StandsBy horizon certificate
stands_later None horizon certificate f h = all_weaker (λ (e : Placed). ⊥) (λ (e : Placed). e.at.key.moment ≤ horizon) (λ e k. absurd k) (all_placed certificate) h
stands_later (Some last) horizon certificate f h = elim (cases_lt last horizon) [
  | inl l ↦ all_weaker (λ (e : Placed). e.at.key.moment ≤ last) (λ (e : Placed). e.at.key.moment ≤ horizon) (λ e k. omega (arith, l, k)) (all_placed certificate) h
  | inr n ↦ absurd (f (n, λ e. let k : Some last ≡ None = e in cc))
]

pub goes_on : (key_for : KeyFor) (old new : Standing) (horizon : ℕ) (extension : Extension) → IsGoing key_for old → MayAdvance old horizon extension → Advances key_for old horizon extension new → IsGoing key_for new
goes_on key_for old new horizon extension g may a = record {
  none = a.none;
  by_last = subst (λ (last : Option ℕ). StandsByLast last new.certificate) (sym a.last)
      (stands_by old.certificate extension new.certificate a.extends horizon (stands_later old.last horizon old.certificate may.later g.by_last) (
        All-weaker (λ (e : ℕ × Event). IfSome old.last (λ before. before < (key_of e.1).moment) × ((key_of e.1).moment ≤ horizon)) (λ (e : ℕ × Event). (key_of e.1).moment ≤ horizon) (λ e k. k.1) extension.events may.in_turn.0,
        All-weaker (λ (d : CertDrop). IfSome old.last (λ before. before < d.key.moment) × (d.key.moment ≤ horizon)) (λ (d : CertDrop). d.key.moment ≤ horizon) (λ d k. k.1) extension.drops may.in_turn.1,
      ));
}

-- ---- at first

module _ (certificate : Certificate) (lanes : certificate.lanes ≡ []) (drops : certificate.drops ≡ []) where
  no_entries : entries certificate ≡ []
  no_entries = ap (λ ls. lanes_entries 0 ls ++ drop_entries (length ls) certificate.drops) lanes ∙ ap (λ ds. drop_entries 0 ds) drops

  shows_none : (taken : Taken) (b : Breach) → ¬ ShowsPlaced taken certificate b
  shows_none taken b (inl k) = subst (λ (es : List Entry). ShowsFrom taken [] es b) no_entries k
  shows_none taken b (inr (iface, k)) = absurd (none-some k.before (sym (ap (λ es. first_place es (record { iface = iface; index = k.index })) no_entries) ∙ k.first))

  pub empty_passes : (taken : Taken) (key_for : KeyFor) → PassesSoFar taken (rules_for taken key_for) certificate
  empty_passes taken key_for = record {
    placement = shows_none taken;
    lanes = subst (λ (ls : List CertLane). EachGoes (rules_for taken key_for) (lanes_from 0 ls)) (sym lanes) tt;
    tenancies = λ b s. let c : Contains [] s.0 = subst (λ (ls : List CertLane). Contains (all_tenancies (rules_for taken key_for) (lanes_from 0 ls)) s.0) lanes s.2 in omega (arith, c.1);
  }

  pub stands_nowhere : StandsByLast None certificate
  stands_nowhere = subst (λ (es : List Entry). AllByRecursion (λ (e : Placed). ⊥) (map placed_of es)) (sym no_entries) tt

pub goes_at_first : (key_for : KeyFor) (live : Standing) → AreNumbered live.taken → live.certificate.lanes ≡ [] → live.certificate.drops ≡ [] → live.last ≡ None → IsGoing key_for live
goes_at_first key_for live numbered lanes drops last = record {
  none = none_of_passes live.taken numbered key_for live.certificate (empty_passes live.certificate lanes drops live.taken key_for);
  by_last = subst (λ (o : Option ℕ). StandsByLast o live.certificate) (sym last) (stands_nowhere live.certificate lanes drops);
}
