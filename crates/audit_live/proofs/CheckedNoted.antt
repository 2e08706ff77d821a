-- What ended in the lanes that were checked is noted, and nothing else of lanes changes.
use Rattle.std.proofs.Common.{◌≡◌, ◌⊎◌, inl, inr, ℕ, Bool, true, false, cond, ◌==◌, List, [], ◌∷◌, length, Some, refl, sym, ap, ◌∙◌, length-set}
use Rattle.std.specs.Prelude.{Contains, slice_get}
use Rattle.std.proofs.lemmas.Bool.{eqb-true, eq-eqb, true≢false}
use Rattle.std.proofs.lemmas.Option.{same_Some, slice_get_within}
use Rattle.audit_lane.specs.Seen.{kept_of}
use Rattle.audit_placement.proofs.Tables.{get_set}
use Rattle.audit_live.specs.declared.lane.LiveLane.{LiveLane}
use Rattle.audit_live.specs.Chain.{Chain}
use Rattle.audit_live.specs.Turn.{NotesChecked}
use Rattle.audit_live.proofs.Lists.{contains_cases, contains_none}

abbrev pub ended_count : LiveLane → ℕ
ended_count lane = length (kept_of lane.state).ended

-- a lane then
pub record IsNoted (number : ℕ) (old : LiveLane) (touched : List ℕ) (lanes : List LiveLane) : Type 0 where
  pub new : LiveLane
  pub there : slice_get lanes number ≡ Some new
  pub rest : new ≡ record old { checked = new.checked }
  pub or_before : (new.checked ≡ old.checked) ⊎ (new.checked ≡ ended_count old)
  pub checked : Contains touched number → new.checked ≡ ended_count old

pub noted_length : (touched : List ℕ) (old new : List LiveLane) → Chain NotesChecked old touched new → length new ≡ length old
noted_length [] old new chain = ap length chain
noted_length (number ∷ touched) old new chain =
    noted_length touched chain.0 new chain.2 ∙ ap length chain.1.2 ∙ length-set old number (record chain.1.0 { checked = ended_count chain.1.0 })

module _ (number one : ℕ) (touched : List ℕ) (old mid new : List LiveLane) (was : LiveLane) (there : slice_get old number ≡ Some was) (notes : NotesChecked old one mid) where
  abbrev set_lane : LiveLane
  set_lane = record notes.0 { checked = ended_count notes.0 }

  then_there : (b : Bool) → (one == number) ≡ b → slice_get mid number ≡ cond b (Some set_lane) (slice_get old number)
  then_there b same =
      ap (λ (ls : List LiveLane). slice_get ls number) notes.2 ∙ get_set old one number set_lane (slice_get_within old one notes.0 notes.1) ∙ ap (λ c. cond c (Some set_lane) (slice_get old number)) same

  noted_on : ((live : LiveLane) → slice_get mid number ≡ Some live → IsNoted number live touched new) → (b : Bool) → (one == number) ≡ b → IsNoted number was (one ∷ touched) new
  noted_on go true same =
      let here : notes.0 ≡ was = same_Some notes.0 was (sym notes.1 ∙ ap (slice_get old) (eqb-true one number same) ∙ there) in
      let rest = go set_lane (then_there true same) in
      let whole = elim rest.or_before as (λ _. rest.new.checked ≡ ended_count notes.0) [ inl is ↦ is | inr is ↦ is ] in
      let checked_is : rest.new.checked ≡ ended_count was = whole ∙ ap ended_count here in
      record {
        new = rest.new;
        there = rest.there;
        rest = rest.rest ∙ ap (λ (l : LiveLane). record l { checked = rest.new.checked }) here;
        or_before = inr checked_is;
        checked = λ _. checked_is;
      }
  noted_on go false same =
      let rest = go was (then_there false same ∙ there) in
      record {
        new = rest.new;
        there = rest.there;
        rest = rest.rest;
        or_before = rest.or_before;
        checked = λ c. elim (contains_cases one number touched c) [ inl is ↦ absurd (true≢false (sym (eq-eqb one number is) ∙ same)) | inr later ↦ rest.checked later ];
      }

pub noted_lane : (number : ℕ) (touched : List ℕ) (old new : List LiveLane) (was : LiveLane) → slice_get old number ≡ Some was → Chain NotesChecked old touched new → IsNoted number was touched new
noted_lane number [] old new was there chain = record { new = was; there = ap (λ (ls : List LiveLane). slice_get ls number) chain ∙ there; rest = refl; or_before = inl refl; checked = λ c. absurd (contains_none number c) }
noted_lane number (one ∷ touched) old new was there chain = noted_on number one touched old chain.0 new was there chain.1 (λ live at. noted_lane number touched chain.0 new live at chain.2) (one == number) refl
