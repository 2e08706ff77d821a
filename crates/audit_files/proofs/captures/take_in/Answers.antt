use Rattle.std.proofs.Common.{◌≡◌, ◌∙◌, [], length, map, take, sym, subst, inr, arith}
use Rattle.std.proofs.lemmas.List.{take_all}
use Rattle.audit_model.specs.declared.policy.Policy.{Policy}
use Rattle.audit_sightings.specs.Files.{Fed}
use Rattle.audit_files.specs.CaptureFaults.{ComeBefore, EndsCaptures}
use Rattle.audit_files.proofs.FirstFaults.{come_before}
use Rattle.audit_files.proofs.Refusing.{err_then}
use Rattle.audit_files.proofs.captures.take_in.Goals as goal

pub returns-clause-taken : goal.returns-clause-taken
returns-clause-taken g c = λ texts fresh all.
    let done = c.in_ok-intake.ensures.fed texts [] fresh all in
    record {
      files = done.files;
      of_texts = done.of_texts;
      ended = c.in_ok-finish.ensures.ends done.files done.stands;
      sound = done.stands.sound;
      sightings = done.stands.sightings;
      count = sym done.stands.count;
    }

pub returns-in_err-intake-clause-refused : goal.returns-in_err-intake-clause-refused
returns-in_err-intake-clause-refused g c = λ texts fresh all.
    let ends = c.in_err-intake.ensures.refused texts fresh all in
    err_then c.from_residual.result c.from_residual.ensures.1 (λ other is. subst (λ s. EndsCaptures (g.S.Source.may_fail c.args.source.now) c.args.names.now c.args.intake.policy texts s) (sym is) ends)

pub returns-in_err-finish-clause-refused : goal.returns-in_err-finish-clause-refused
returns-in_err-finish-clause-refused g c = λ texts fresh all.
    let done = c.in_ok-intake.ensures.fed texts [] fresh all in
    let ends = c.in_err-finish.ensures.ends done.files done.stands in
    let whole : map (λ (fed : Fed). fed.text) done.files ≡ take (length texts) texts = done.of_texts ∙ sym (take_all (length texts) texts (omega arith)) in
    let come = subst (λ (p : Policy). ComeBefore p texts (length texts) done.files) c.in_ok-intake.ensures.policy (come_before c.in_ok-intake.intake done.files texts (length texts) done.stands whole (omega arith)) in
    err_then c.from_residual-in_err-finish.result c.from_residual-in_err-finish.ensures.1 (λ stop by. inr (inr (c.in_err-finish.field-0.0, by, λ other. inr (inr (inr record { files = done.files; come = come; ends = ends })))))
