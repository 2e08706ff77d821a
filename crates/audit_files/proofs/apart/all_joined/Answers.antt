use Rattle.std.proofs.Common.{◌≡◌, ◌++◌, ◌∷◌, ◌∙◌, ◌+◌, ◌<◌, ◌≤◌, [], ℕ, List, get_or, length, ap, arith, append_assoc, refl, subst, sym, zero-add}
use Rattle.std.specs.Prelude.{IfNone}
use Rattle.std.specs.Vec.Iter.{into_iter_items}
use Rattle.std.proofs.lemmas.List.{get_or_at, length-append}
use Rattle.audit_model.specs.declared.policy.Policy.{Policy}
use Rattle.audit_sightings.specs.Files.{packets_of}
use Rattle.audit_sightings.specs.Sightings.{AreSightings}
use Rattle.audit_files.specs.CaptureFaults.{ComeBefore, IsReadAlone}
use Rattle.audit_files.specs.Captures.{Took}
use Rattle.audit_files.proofs.FirstFaults.{come_before, ends_alone, ends_joined, many}
use Rattle.audit_files.proofs.Refusing.{err_then}
use Rattle.audit_files.proofs.SideBySide.{if_none, if_some, took_all, took_next}
use Rattle.audit_files.proofs.apart.all_joined.Goals as goal

pub readings-preserved : goal.readings-preserved
readings-preserved g c =
    let at = c.readings in
    let reading = c.in-Some.reading in
    let steps = c.in-Some.ensures.steps.0 in
    record {
      policy = c.in_ok-whole.ensures.policy ∙ at.invariant.policy;
      split = append_assoc at.yielded (reading ∷ []) _ ∙ rw (← steps) at.invariant.split;
      left = let was = at.invariant.left in
          let gone = c.in-Some.ensures.steps.1 in
          let short = ap length steps in
          omega arith;
      fed = λ texts files stands long each.
          let count = length at.yielded in
          let rest = into_iter_items c.next.new.self in
          let all : at.yielded ++ reading ∷ rest ≡ c.args.readings.items = rw (← steps) at.invariant.split ∙ c.into_iter-reading-iterator.ensures.into_iter_gives.0 in
          let here : get_or c.args.readings.items count reading ≡ reading = ap (λ l. get_or l count reading) (sym all) ∙ get_or_at at.yielded reading rest reading count refl in
          let more : length (at.yielded ++ reading ∷ rest) ≡ count + (length rest + 1) = omega (arith, length-append at.yielded (reading ∷ rest)) in
          let within : count < length c.args.readings.items = omega (arith, ap length all, more) in
          let took : Took (length files + count) (get_or texts count []) reading.intake = if_none reading.stop c.in_default.is
          (subst (λ r. IfNone r.stop (Took (length files + count) (get_or texts count []) r.intake)) here (each count reading within)) in
          let last : length (at.yielded ++ reading ∷ []) ≡ count + 1 = omega (arith, length-append at.yielded (reading ∷ [])) in
          rw last (took_next files texts count at.whole reading.intake c.in_ok-whole.whole (at.invariant.fed texts files stands long each) took (omega (arith, within, long)) c.in_ok-whole.ensures.ok);
    }

pub returns-clause-fed : goal.returns-clause-fed
returns-clause-fed g c = λ texts files stands long each.
    let at = c.readings in
    let none = c.in-None.ensures.steps in
    let all = ap length (at.invariant.split ∙ c.into_iter-reading-iterator.ensures.into_iter_gives.0) in
    let past : length texts ≤ length at.yielded = omega (arith, long, all, none.0, at.invariant.left, length-append at.yielded (into_iter_items at.reading-iterator)) in
    took_all files texts (length at.yielded) at.whole (at.invariant.fed texts files stands long each) past

-- a reading by its place
reading_at : {X : Type 0} (yielded rest all : List X) (x : X) → yielded ++ x ∷ rest ≡ all → get_or all (length yielded) x ≡ x
reading_at yielded rest all x e = ap (λ l. get_or l (length yielded) x) (sym e) ∙ get_or_at yielded x rest x (length yielded) refl

pub returns-in_err-whole-clause-refused : goal.returns-in_err-whole-clause-refused
returns-in_err-whole-clause-refused g c = λ may_fail names texts fresh long each.
    let at = c.readings in
    let count = length at.yielded in
    let reading = c.in-Some.reading in
    let steps = c.in-Some.ensures.steps.0 in
    let rest = into_iter_items c.next.new.self in
    let all : at.yielded ++ reading ∷ rest ≡ c.args.readings.items = rw (← steps) at.invariant.split ∙ c.into_iter-reading-iterator.ensures.into_iter_gives.0 in
    let here = reading_at at.yielded rest c.args.readings.items reading all in
    let within : count < length c.args.readings.items = omega (arith, ap length all, length-append at.yielded (reading ∷ rest)) in
    let one = each count reading within in
    let text : List ℕ = get_or texts count [] in
    let alone = subst (λ r. IsReadAlone (may_fail one.0.now) c.args.intake.policy count text r.intake r.stop) here one.2 in
    let first = at.invariant.fed texts [] fresh long (λ i d less. subst (λ (n : ℕ). IfNone (get_or c.args.readings.items i d).stop (Took n (get_or texts i []) (get_or c.args.readings.items i d).intake)) (sym (zero-add i)) (each i d less).2.took) in
    let files = first.files in
    let policy = at.invariant.policy in
    let less : count < length texts = omega (arith, within, long) in
    let come = subst (λ (p : Policy). ComeBefore p texts count files) policy (come_before at.whole files texts count first.stands first.of_texts (omega (arith, less))) in
    let fault = c.in_err-whole.field-0.0 in
    let refused = c.in_err-whole.ensures.refused first.stands.unfailed in
    let of_earlier = subst (λ (p : Policy). AreSightings p at.whole.interfaces (packets_of files)) policy first.stands.sightings in
    let number : count ≡ fault.file = sym (many files texts count first.of_texts (omega (arith, less))) ∙ first.stands.count ∙ sym refused.0 in
    err_then c.from_residual.result c.from_residual.ensures.1
    (λ stop ends. ends_joined may_fail names c.args.intake.policy texts files count at.whole.interfaces reading.intake.interfaces fault stop come less of_earlier alone.front number refused.1 ends)

pub returns-in-Some-stop-clause-refused : goal.returns-in-Some-stop-clause-refused
returns-in-Some-stop-clause-refused g c = λ may_fail names texts fresh long each.
    let at = c.readings in
    let count = length at.yielded in
    let reading = c.in-Some.reading in
    let steps = c.in-Some.ensures.steps.0 in
    let rest = into_iter_items c.next.new.self in
    let all : at.yielded ++ reading ∷ rest ≡ c.args.readings.items = rw (← steps) at.invariant.split ∙ c.into_iter-reading-iterator.ensures.into_iter_gives.0 in
    let here = reading_at at.yielded rest c.args.readings.items reading all in
    let within : count < length c.args.readings.items = omega (arith, ap length all, length-append at.yielded (reading ∷ rest)) in
    let one = each count reading within in
    let text : List ℕ = get_or texts count [] in
    let alone = subst (λ r. IsReadAlone (may_fail one.0.now) c.args.intake.policy count text r.intake r.stop) here one.2 in
    let first = at.invariant.fed texts [] fresh long (λ i d less. subst (λ (n : ℕ). IfNone (get_or c.args.readings.items i d).stop (Took n (get_or texts i []) (get_or c.args.readings.items i d).intake)) (sym (zero-add i)) (each i d less).2.took) in
    let files = first.files in
    let policy = at.invariant.policy in
    let less : count < length texts = omega (arith, within, long) in
    let come = subst (λ (p : Policy). ComeBefore p texts count files) policy (come_before at.whole files texts count first.stands first.of_texts (omega (arith, less))) in
    ends_alone may_fail names one.0 c.args.intake.policy texts files count c.in-Some-stop.stop come less one.1 (if_some _ reading.stop c.in-Some-stop.stop c.in-Some-stop.is alone.ends)
