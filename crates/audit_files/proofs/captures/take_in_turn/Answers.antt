use Rattle.std.proofs.Common.{◌≡◌, ◌≤◌, ◌++◌, ◌∙◌, [], ℕ, Bool, List, Option, Some, length, refl, get_or, ap, append-nil, arith, subst, sym, Bor}
use Rattle.std.proofs.lemmas.Option.{slice_get-get_or}
use Rattle.audit_model.specs.declared.policy.Policy.{Policy}
use Rattle.audit_sightings.specs.Files.{StandsFor}
use Rattle.audit_files.specs.CaptureFaults.{ComeBefore, EndsCaptures, EndsTaking}
use Rattle.audit_files.proofs.FirstFaults.{come_before, ends_next, many}
use Rattle.audit_files.proofs.Refusing.{err_then}
use Rattle.audit_files.proofs.Fed.{zip_at, zip_len}
use Rattle.audit_files.proofs.SideBySide.{took_all, took_one}
use Rattle.audit_files.proofs.captures.take_in_turn.Goals as goal

pub loop-name-init : goal.loop-name-init
loop-name-init g c = record {
  same = refl;
  steady = refl;
  policy = refl;
  fed = λ texts files stands all. record { files = []; stands = subst (StandsFor c.args.intake) (sym (append-nil files)) stands; of_texts = refl };
}

pub loop-name-preserved : goal.loop-name-preserved
loop-name-preserved g c = record {
  same = c.take_capture.ensures.kept ∙ c.loop-name.invariant.same;
  steady = c.take_capture.ensures.steady ∙ c.loop-name.invariant.steady;
  policy = c.take_capture.ensures.policy ∙ c.loop-name.invariant.policy;
  fed = λ texts files stands all.
      let index = c.loop-name.name-index in
      let none : Bor (List ℕ) = record { ref_ptr = (0, 0); now = [] } in
      let before = c.loop-name.invariant.fed texts files stands all in
      let at = zip_at (λ name text. g.S.Source.holds c.args.source.now name.now ≡ Some text) c.args.names.now texts index none [] all c.loop-name-test.true in
      let text : List ℕ = get_or texts index [] in
      let more = c.in_ok-take_capture.ensures.fed text (files ++ before.files) (ap (λ (h : List ℕ → Option (List ℕ)). h (get_or c.args.names.now index none).now) c.loop-name.invariant.same ∙ at.1) before.stands in
      took_one files texts index c.loop-name.intake c.take_capture.new.intake before at.0 more.0 more.1;
}

pub returns-clause-fed : goal.returns-clause-fed
returns-clause-fed g c = λ texts files stands all.
    let index = c.loop-name.name-index in
    let past : length texts ≤ index = omega (arith, c.loop-name-test.false, zip_len (λ name text. g.S.Source.holds c.args.source.now name.now ≡ Some text) c.args.names.now texts all) in
    took_all files texts index c.loop-name.intake (c.loop-name.invariant.fed texts files stands all) past

pub returns-in_err-take_capture-clause-refused : goal.returns-in_err-take_capture-clause-refused
returns-in_err-take_capture-clause-refused g c = λ texts stands all.
    let index = c.loop-name.name-index in
    let none : Bor (List ℕ) = record { ref_ptr = (0, 0); now = [] } in
    let name = get_or c.args.names.now index none in
    let before = c.loop-name.invariant.fed texts [] stands all in
    let at = zip_at (λ name text. g.S.Source.holds c.args.source.now name.now ≡ Some text) c.args.names.now texts index none [] all c.loop-name-test.true in
    let text : List ℕ = get_or texts index [] in
    let files = before.files in
    let policy = c.loop-name.invariant.policy in
    let come = subst (λ (p : Policy). ComeBefore p texts index files) policy (come_before c.loop-name.intake files texts index before.stands before.of_texts (omega (arith, at.0))) in
    let holds = ap (λ (h : List ℕ → Option (List ℕ)). h name.now) c.loop-name.invariant.same ∙ at.1 in
    let fails = ap (λ (f : List ℕ → Bool). f name.now) c.loop-name.invariant.steady in
    let stop = c.in_err-take_capture.field-0.0 in
    let taking = subst (λ (p : Policy). EndsTaking (g.S.Source.may_fail c.args.source.now name.now) p files text stop) policy
    (subst (λ (b : Bool). EndsTaking b c.loop-name.intake.policy files text stop) fails (c.in_err-take_capture.ensures.refused text files holds before.stands)) in
    let ends = ends_next (g.S.Source.may_fail c.args.source.now) c.args.names.now name c.args.intake.policy texts files index stop come (many files texts index before.of_texts (omega (arith, at.0))) at.0
    (slice_get-get_or c.args.names.now index none c.loop-name-test.true) taking in
    err_then c.from_residual.result c.from_residual.ensures.1 (λ other is. subst (λ s. EndsCaptures (g.S.Source.may_fail c.args.source.now) c.args.names.now c.args.intake.policy texts s) (sym is) ends)
