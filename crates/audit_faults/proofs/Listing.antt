-- All faults that captures show, sighting by sighting.
use Rattle.std.proofs.Common.{◌≡◌, ◌⊎◌, ◌<◌, ◌≤◌, ◌+◌, inl, inr, ℕ, Some, List, [], ◌∷◌, ◌++◌, get_or, length, length-append, sym, ◌∙◌, ap, subst, arith}
use Rattle.std.specs.Prelude.{Any}
use Rattle.std.proofs.lemmas.Bool.{cases_lt}
use Rattle.std.proofs.lemmas.List.{get_or_append_left}
use Rattle.std.proofs.lemmas.List.Elements.{All-push, All-weaker}
use Rattle.std.proofs.lemmas.List.Quantifiers.{Any-push, all_pairs_push}
use Rattle.audit_model.specs.declared.sighting.SightId.{SightId}
use Rattle.audit_model.specs.declared.sighting.Sighting.{Sighting}
use Rattle.audit_sightings.specs.Intake.{Taken, interface_at, sighting_at}
use Rattle.audit_rules.specs.Keys.{KeyFor}
use Rattle.audit_faults.specs.declared.fault.Fault.{Fault}
use Rattle.audit_faults.specs.declared.fault.ShownFault.{ShownFault}
use Rattle.audit_faults.specs.Explains.{IsFault}
use Rattle.audit_faults.specs.Shown.{IsBefore, IsFirstFault, AreFaults, AreFaultsBefore}
use Rattle.audit_faults.proofs.Captured.{in_interfaces}

-- what some element has, some element of a longer list has
any_kept : (P : ShownFault → Type 0) (xs ys : List ShownFault) → Any P xs → Any P (xs ++ ys)
any_kept P xs ys (k, x, inside, is, h) = (k, x, simp length-append (omega arith), get_or_append_left xs ys x k inside ∙ is, h)

same_sight : (one other : SightId) → one.iface ≡ other.iface → one.index ≡ other.index → one ≡ other
same_sight one other e f = ap (λ (iface : ℕ). let it : SightId = record { iface = iface; index = one.index } in it) e ∙ ap (λ (index : ℕ). let it : SightId = record { iface = other.iface; index = index } in it) f

-- past a sighting stands what stood before it, or the sighting itself
pub past : (bound sight : SightId) → IsBefore sight (record { iface = bound.iface; index = bound.index + 1 }) → IsBefore sight bound ⊎ (sight ≡ bound)
past bound sight (inl h) = inl (inl h)
past bound sight (inr (e, h)) = elim (cases_lt sight.index bound.index) [
  | inl lt ↦ inl (inr (e, lt))
  | inr ge ↦ inr (same_sight sight bound e (omega (arith, h, ge)))
]

later : (bound sight : SightId) → IsBefore sight bound → IsBefore sight (record { iface = bound.iface; index = bound.index + 1 })
later bound sight (inl h) = inl h
later bound sight (inr (e, h)) = inr (e, omega (arith, h))

-- what was captured before the next interface stands before the end of this one
pub within : (taken : Taken) (iface index : ℕ) (sight : SightId) (s : Sighting) → length (interface_at taken iface) ≤ index → IsBefore sight (record { iface = iface + 1; index = 0 }) → sighting_at taken sight ≡ Some s →
    IsBefore sight (record { iface = iface; index = index })
within taken iface index sight s far (inr (e, h)) there = absurd (omega (arith, h))
within taken iface index sight s far (inl h) there = elim (cases_lt sight.iface iface) [
  | inl lt ↦ inl lt
  | inr ge ↦
      let e : sight.iface ≡ iface = omega (arith, h, ge) in
      let inside : sight.index < length (interface_at taken sight.iface) = (in_interfaces taken sight s there).1 in
      let same : length (interface_at taken sight.iface) ≡ length (interface_at taken iface) = ap (λ (i : ℕ). length (interface_at taken i)) e in
      inr (e, omega (arith, inside, same, far))
]

-- all that was captured comes before the interface after the last one
pub all_before : (taken : Taken) (n : ℕ) (sight : SightId) (s : Sighting) → length taken.interfaces ≤ n → sighting_at taken sight ≡ Some s → IsBefore sight (record { iface = n; index = 0 })
all_before taken n sight s far there = inl (let lt : sight.iface < length taken.interfaces = (in_interfaces taken sight s there).0 in omega (arith, lt, far))

module _ (taken : Taken) (key_for : KeyFor) where
  pub more_none : (bound : SightId) (faults : List ShownFault) → AreFaultsBefore taken key_for bound faults → ((fault : Fault) → IsFault taken key_for fault bound → ⊥) →
      AreFaultsBefore taken key_for (record { iface = bound.iface; index = bound.index + 1 }) faults
  more_none bound faults a none = record {
    each = a.each;
    every = λ fault sight before f. elim (past bound sight before) [
      | inl h ↦ a.every fault sight h f
      | inr e ↦ absurd (none fault (subst (IsFault taken key_for fault) e f))
    ];
    rising = a.rising;
    before = All-weaker (λ shown. IsBefore shown.sight bound) (λ shown. IsBefore shown.sight (record { iface = bound.iface; index = bound.index + 1 })) (λ shown h. later bound shown.sight h) faults a.before;
  }

  pub more_one : (bound : SightId) (faults : List ShownFault) (shown : ShownFault) → shown.sight ≡ bound → AreFaultsBefore taken key_for bound faults → IsFirstFault taken key_for shown →
      AreFaultsBefore taken key_for (record { iface = bound.iface; index = bound.index + 1 }) (faults ++ shown ∷ [])
  more_one bound faults shown named a first =
      record {
        each = All-push (IsFirstFault taken key_for) faults shown a.each first;
        every = λ fault sight before f. elim (past bound sight before) [
          | inl h ↦ any_kept (λ it. it.sight ≡ sight) faults (shown ∷ []) (a.every fault sight h f)
          | inr e ↦ Any-push (λ it. it.sight ≡ sight) faults shown (named ∙ sym e)
        ];
        rising = all_pairs_push (λ one other. IsBefore one.sight other.sight) faults shown a.rising (λ k d inside. subst (λ (id : SightId). IsBefore (get_or faults k d).sight id) (sym named) (a.before k d inside));
        before = All-push (λ it. IsBefore it.sight (record { iface = bound.iface; index = bound.index + 1 })) faults shown
            (All-weaker (λ it. IsBefore it.sight bound) (λ it. IsBefore it.sight (record { iface = bound.iface; index = bound.index + 1 })) (λ it h. later bound it.sight h) faults a.before)
            (let at = ap (λ (id : SightId). id.iface) named in let after = ap (λ (id : SightId). id.index) named in inr (at, omega (arith, after)));
      }

  pub more_interface : (iface index : ℕ) (faults : List ShownFault) → length (interface_at taken iface) ≤ index → AreFaultsBefore taken key_for (record { iface = iface; index = index }) faults →
      AreFaultsBefore taken key_for (record { iface = iface + 1; index = 0 }) faults
  more_interface iface index faults far a = record {
    each = a.each;
    every = λ fault sight before f. a.every fault sight (within taken iface index sight f.departure far before f.there) f;
    rising = a.rising;
    before = All-weaker (λ it. IsBefore it.sight (record { iface = iface; index = index })) (λ it. IsBefore it.sight (record { iface = iface + 1; index = 0 })) (λ it h. wider it.sight h) faults a.before;
  } where
    wider : (sight : SightId) → IsBefore sight (record { iface = iface; index = index }) → IsBefore sight (record { iface = iface + 1; index = 0 })
    wider sight (inl h) = inl (omega (arith, h))
    wider sight (inr (e, h)) = inl (omega (arith, e))

  pub all_done : (n : ℕ) (faults : List ShownFault) → length taken.interfaces ≤ n → AreFaultsBefore taken key_for (record { iface = n; index = 0 }) faults → AreFaults taken key_for faults
  all_done n faults far a = record {
    each = a.each;
    every = λ fault sight f. a.every fault sight (all_before taken n sight f.departure far f.there) f;
    rising = a.rising;
  }
