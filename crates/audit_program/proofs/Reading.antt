-- How often captures that grow were read goes on from turn to turn.
use Rattle.std.proofs.Common.{◌≡◌, ◌≢◌, ◌<◌, ◌≤◌, ◌+◌, ◌++◌, ◌∷◌, ◌∙◌, ◌⊎◌, inl, inr, ℕ, List, [], Option, None, Some, length, ap, sym, subst, refl, arith, false, replicate, true}
use Rattle.std.specs.Prelude.{IfSome, IsSome}
use Rattle.std.proofs.lemmas.List.{append_assoc, append-nil, length_push, replicate_more}
use Rattle.audit_live.specs.declared.cause.Cause.{Cause}
use Rattle.audit_live.specs.declared.cause.Cause.TheVariants.{Broke, NoMemory, Refused}
use Rattle.audit_live.specs.declared.fault.LiveFault.{LiveFault}
use Rattle.audit_live.specs.declared.fault.LiveFault.TheVariants as faults
use Rattle.audit_live.specs.Audit.{Audit}
use Rattle.audit_live.specs.Refusals.{IsInput, IsRefusal, Leaves, standing_of}
use Rattle.audit_model.specs.declared.extension.Extension.{Extension}
use Rattle.audit_model.specs.Sink.{followed_by}
use Rattle.audit_prefix.specs.Live.{IsNotLater, IsOutOfTurn}
use Rattle.audit_program.specs.Reads.{AreReadings, AreReadOnce, AreUnread, WereRead}
use Rattle.audit_program.specs.declared.live.Turn.{Turn}
use Rattle.audit_program.specs.declared.live.Turn.TheVariants as turns
use Rattle.audit_program.proofs.Following.{same_or_apart}

-- ---- readings

-- one reading more
more_readings : (count idle : ℕ) (sizes : List ℕ) (size : ℕ) → AreReadings count idle sizes → AreReadings (count + 1) 0 (sizes ++ size ∷ [])
more_readings count idle sizes size are = record {
  times = length_push sizes size ∙ ap (λ (n : ℕ). n + 1) are.times;
  front = sizes ++ size ∷ [];
  quiet = sym (append-nil (sizes ++ size ∷ []));
}

-- one reading more without a byte
quiet_readings : (count idle : ℕ) (sizes : List ℕ) (size : ℕ) → size ≡ 0 → AreReadings count idle sizes → AreReadings (count + 1) (idle + 1) (sizes ++ size ∷ [])
quiet_readings count idle sizes size is are = record {
  times = length_push sizes size ∙ ap (λ (n : ℕ). n + 1) are.times;
  front = are.front;
  quiet = ap (λ (l : List ℕ). l ++ size ∷ []) are.quiet
      ∙ ap (λ (s : ℕ). (are.front ++ replicate idle 0) ++ s ∷ []) is
      ∙ append_assoc are.front (replicate idle 0) (0 ∷ [])
      ∙ ap (λ (l : List ℕ). are.front ++ l) (replicate_more idle 0);
}

-- what holds of the readings so far, and of those with one more
at_capture : (P Q : List ℕ → Type 0) (before now : Option (List ℕ)) (size : ℕ) → ((sizes : List ℕ) → P sizes → Q (sizes ++ size ∷ [])) → now ≡ followed_by before (size ∷ [])
    → IfSome before P → IfSome now Q
at_capture P Q None now size step is was = subst (λ (o : Option (List ℕ)). IfSome o Q) (sym is) tt
at_capture P Q (Some sizes) now size step is was = subst (λ (o : Option (List ℕ)). IfSome o Q) (sym is) (step sizes was)

module _ (captures count idle : ℕ) (before now : ℕ → Option (List ℕ)) (were : WereRead captures count idle before) where
  -- after a turn
  pub read_on : (turn : Turn) → AreReadOnce turn captures before now → WereRead captures (count + 1) 0 now
  read_on turn once = λ file within.
      let read = once file within in
      at_capture (AreReadings count idle) (AreReadings (count + 1) 0) (before file) (now file) read.0 (λ sizes are. more_readings count idle sizes read.0 are) read.1 (were file within)

  -- after a turn without a byte
  pub quiet_on : AreReadOnce turns.Quiet captures before now → WereRead captures (count + 1) (idle + 1) now
  quiet_on once = λ file within.
      let read = once file within in
      at_capture (AreReadings count idle) (AreReadings (count + 1) (idle + 1)) (before file) (now file) read.0 (λ sizes are. quiet_readings count idle sizes read.0 (read.2 refl) are) read.1 (were file within)

no_readings : (o : Option (List ℕ)) → IfSome o (λ sizes. sizes ≡ []) → IfSome o (AreReadings 0 0)
no_readings None none = tt
no_readings (Some sizes) none = record { times = ap (λ (l : List ℕ). length l) none; front = []; quiet = none }

-- before the first turn
pub unread_were_read : (captures : ℕ) (reads : ℕ → Option (List ℕ)) → AreUnread captures reads → WereRead captures 0 0 reads
unread_were_read captures reads unread = λ file within. no_readings (reads file) (unread file within)

-- ---- a turn

module _ (before now next : ℕ → Option (List ℕ)) (file size : ℕ) (others : (other : ℕ) → other ≢ file → next other ≡ now other) (rest : (other : ℕ) → file ≤ other → now other ≡ before other)
    (is : next file ≡ followed_by (now file) (size ∷ [])) where
  at_other : (turn new : Turn) → AreReadOnce turn file before now → (new ≡ turns.Quiet → (turn ≡ turns.Quiet) × (size ≡ 0)) → (other : ℕ) → other < file + 1 → (other ≡ file) ⊎ (other ≢ file)
      → (n : ℕ) × (next other ≡ followed_by (before other) (n ∷ [])) × (new ≡ turns.Quiet → n ≡ 0)
  at_other turn new once quiet other within (inl same) =
      subst (λ (i : ℕ). (n : ℕ) × (next i ≡ followed_by (before i) (n ∷ [])) × (new ≡ turns.Quiet → n ≡ 0)) (sym same)
      (size, is ∙ ap (λ (o : Option (List ℕ)). followed_by o (size ∷ [])) (rest file (omega (arith))), λ q. (quiet q).1)
  at_other turn new once quiet other within (inr apart) =
      let read = once other (omega (arith, within, apart)) in
      (read.0, others other apart ∙ read.1, λ q. read.2 (quiet q).0)

  -- one capture more was read
  pub read_next : (turn new : Turn) → AreReadOnce turn file before now → (new ≡ turns.Quiet → (turn ≡ turns.Quiet) × (size ≡ 0)) → AreReadOnce new (file + 1) before next
  read_next turn new once quiet = λ other within. at_other turn new once quiet other within (same_or_apart other file)

  -- and those after it were not
  pub rest_next : (other : ℕ) → file + 1 ≤ other → next other ≡ before other
  rest_next other within = others other (λ same. absurd (omega (arith, within, same))) ∙ rest other (omega (arith, within))

abbrev IsQuietTurn : Turn → Type 0
IsQuietTurn turns.Quiet = Unit {0}
IsQuietTurn turns.Fed = ⊥
IsQuietTurn turns.Refused = ⊥

pub quiet_apart : turns.Quiet ≢ turns.Refused
quiet_apart same = subst IsQuietTurn same tt

pub fed_not_quiet : turns.Fed ≢ turns.Quiet
fed_not_quiet same = subst IsQuietTurn (sym same) tt

-- a turn that wasn't quiet says nothing of the sizes
pub once_not_quiet : (turn new : Turn) (captures : ℕ) (before now : ℕ → Option (List ℕ)) → new ≢ turns.Quiet → AreReadOnce turn captures before now → AreReadOnce new captures before now
once_not_quiet turn new captures before now apart once = λ file within.
    let read = once file within in
    (read.0, read.1, λ quiet. absurd (apart quiet))

-- ---- refusals

-- bytes were refused
pub over_fed : (live : Audit) (refusal : LiveFault) → IsInput refusal (λ fault. live.ended ≡ Some (Refused fault)) → live.ended ≢ None
over_fed live (faults.Input fault) is = λ none. absurd (let bad : None ≡ Some (Refused fault) = sym none ∙ is in cc)
over_fed live faults.Horizon is = absurd is
over_fed live faults.OutOfTurn is = absurd is
over_fed live (faults.Breach breach) is = absurd is
over_fed live faults.Memory is = absurd is
over_fed live faults.Ended is = absurd is
over_fed live faults.Lane is = absurd is

-- an advance was refused, but for a lane that doesn't fit
pub over_stopped : (old new : Audit) (horizon : ℕ) (extension : Extension) (refusal : LiveFault) → old.ended ≡ None → IsRefusal old horizon extension refusal → Leaves old new refusal
    → ¬ IsOutOfTurn (standing_of old) horizon extension → refusal ≢ faults.Lane → (new.ended ≢ None) ⊎ IsNotLater (standing_of old) horizon
over_stopped old new horizon extension (faults.Breach breach) going refused leaves in_turn no_lane = inl (λ none. absurd (let bad : None ≡ Some (Broke breach) = sym none ∙ leaves in cc))
over_stopped old new horizon extension faults.Memory going refused leaves in_turn no_lane = inl (λ none. absurd (let bad : None ≡ Some NoMemory = sym none ∙ leaves in cc))
over_stopped old new horizon extension faults.Ended going refused leaves in_turn no_lane = absurd (let bad : false ≡ true = subst (λ (o : Option Cause). IsSome o) going refused in cc)
over_stopped old new horizon extension faults.Horizon going refused leaves in_turn no_lane = inr refused.1
over_stopped old new horizon extension faults.Lane going refused leaves in_turn no_lane = absurd (no_lane refl)
over_stopped old new horizon extension faults.OutOfTurn going refused leaves in_turn no_lane = absurd (in_turn refused.3)
over_stopped old new horizon extension (faults.Input fault) going refused leaves in_turn no_lane = absurd refused

-- a horizon that is past the last one is later
later : (last : Option ℕ) (horizon : ℕ) → IfSome last (λ before. before < horizon) → IfSome last (λ before. horizon ≤ before) → last ≢ None → ⊥
later None horizon past not_past some = some refl
later (Some before) horizon past not_past some = omega (arith, past, not_past)

pub is_later : (live : Audit) (horizon : ℕ) → IfSome live.last (λ before. before < horizon) → IsNotLater (standing_of live) horizon → ⊥
is_later live horizon past not_later = later live.last horizon past not_later.0 not_later.1
