use Rattle.std.proofs.Common.{◌≡◌, ◌++◌, ◌∷◌, [], length, ap, subst, inl, inr, arith}
use Rattle.std.proofs.lemmas.Bool.{cases_lt}
use Rattle.std.proofs.lemmas.Result.{IfErr-weaker}
use Rattle.audit_model.specs.declared.policy.Policy.{Policy}
use Rattle.audit_sightings.specs.declared.fault.IntakeFault.{IntakeFault}
use Rattle.audit_sightings.specs.declared.fault.IntakeFaultKind.TheVariants.{Limit}
use Rattle.audit_sightings.specs.Files.{not_fed, packets_of}
use Rattle.audit_sightings.specs.Intake.{Taken}
use Rattle.audit_files.specs.CaptureFaults.{EndsCapture, HasFront}
use Rattle.audit_files.specs.Stops.{EndsByIntake}
use Rattle.audit_files.proofs.Fed.{on_ok, one_more}
use Rattle.audit_files.proofs.Refusing.{by_others, err_then, fed_last, front_none, memory_ends}
use Rattle.audit_files.proofs.captures.take_capture.Goals as goal

pub returns-clause-fed : goal.returns-clause-fed
returns-clause-fed g c = λ bytes files holds stands.
    let last : length files ≡ c.in_ok-file.file = omega (arith, stands.count, c.in_ok-file.ensures.number) in
    on_ok c.feed_capture.result (λ on. (on.more, one_more c.feed_capture.new.intake files c.in_ok-file.file bytes last on))
    (c.feed_capture.ensures.fed bytes (files ++ not_fed ∷ []) holds (c.in_ok-file.ensures.stands files stands))

pub returns-in_err-file-clause-front : goal.returns-in_err-file-clause-front
returns-in_err-file-clause-front g c = λ bytes files holds stands few.
    let same = ap (λ (t : Taken). t.policy) c.in_err-file.ensures.err in
    subst (λ (p : Policy). HasFront p (packets_of files) (length files) bytes c.add_file.new.self.interfaces) same
    (front_none c.add_file.new.self files (length files) bytes (c.in_err-file.ensures.kept files stands))

pub returns-in_err-file-clause-refused : goal.returns-in_err-file-clause-refused
returns-in_err-file-clause-refused g c = λ bytes files holds stands.
    let fault = c.in_err-file.field-0.0 in
    let count = stands.count in
    elim (cases_lt (length files) 16) [
      | inl few ↦
          let memory = c.in_err-file.ensures.room stands.unfailed (omega (arith, few, count)) in
          err_then c.from_residual.result c.from_residual.ensures.1 (λ stop ends. inr (inl (memory_ends fault stop (ap (λ (f : IntakeFault). f.kind) memory) ends)))
      | inr many ↦
          let full : length files ≡ 16 = omega (arith, many, count, c.args.intake.now.few_files) in
          let is = c.in_err-file.ensures.full stands.unfailed (omega (arith, full, count)) in
          let same : fault ≡ record { kind = Limit; file = 16 } = cc in
          err_then c.from_residual.result c.from_residual.ensures.1 (λ stop ends. inl (full, subst (λ (f : IntakeFault). EndsByIntake f stop) same ends))
    ]

pub returns-clause-front : goal.returns-clause-front
returns-clause-front g c = λ bytes files holds stands few.
    let last : length files ≡ c.in_ok-file.file = omega (arith, stands.count, c.in_ok-file.ensures.number) in
    let same = ap (λ (t : Taken). t.policy) c.in_ok-file.ensures.ok in
    by_others (λ others file policy. HasFront policy others file bytes c.feed_capture.new.intake.interfaces) files c.in_ok-file.file _ _ last same
    (c.feed_capture.ensures.front bytes (files ++ not_fed ∷ []) holds (c.in_ok-file.ensures.stands files stands) (fed_last files c.in_ok-file.file last))

pub returns-clause-refused : goal.returns-clause-refused
returns-clause-refused g c = λ bytes files holds stands.
    let last : length files ≡ c.in_ok-file.file = omega (arith, stands.count, c.in_ok-file.ensures.number) in
    let same = ap (λ (t : Taken). t.policy) c.in_ok-file.ensures.ok in
    let fails = g.S.Source.may_fail c.args.source.now c.args.name.now in
    IfErr-weaker c.feed_capture.result _ _ (λ stop ends. inr (by_others (λ others file policy. EndsCapture fails policy others file bytes stop) files c.in_ok-file.file _ _ last same ends))
    (c.feed_capture.ensures.refused bytes (files ++ not_fed ∷ []) holds (c.in_ok-file.ensures.stands files stands) (fed_last files c.in_ok-file.file last))
