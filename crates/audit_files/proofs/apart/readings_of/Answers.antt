use Rattle.std.proofs.Common.{◌≡◌, ◌++◌, ◌∷◌, ◌∙◌, ◌+◌, [], ℕ, List, Bor, None, get_or, length, ap, arith, inl, inr, rules, subst, sym}
use Rattle.std.specs.Prelude.{replicate, vec_len}
use Rattle.std.proofs.lemmas.Bool.{cases_lt}
use Rattle.std.proofs.lemmas.List.{get_or_at, get_or_append_left, length-append, map-append}
use Rattle.std.proofs.lemmas.List.Elements.{All-push}
use Rattle.std.proofs.lemmas.Grind.{take_at_read}
use Rattle.audit_sightings.specs.Files.{StandsFor, not_fed}
use Rattle.audit_files.specs.declared.apart.Reading.{Reading}
use Rattle.audit_files.proofs.apart.readings_of.Goals as goal

pub names-preserved : goal.names-preserved
names-preserved g c =
    let at = c.names in
    let before : List (Reading g.row.S.Denot) = at.readings.items in
    let long : vec_len at.readings ≡ length before = search rules in
    let none : Bor (List ℕ) = record { ref_ptr = (0, 0); now = [] } in
    let name = get_or c.args.names.now at.name-index none in
    let one : Reading g.row.S.Denot = record { name = name; source = c.beside.result; intake = c.in_ok-with_files.field-0; stop = None } in
    let many : length (before ++ one ∷ []) ≡ at.name-index + 1 = omega (arith, length-append before (one ∷ []), at.invariant.count) in
    let pushed : c.push.new.self.items ≡ before ++ one ∷ [] = c.in_ok-push.ensures.items in
    rw pushed record {
      names = map-append (λ (r : Reading g.row.S.Denot). r.name) before (one ∷ []) ∙ ap (λ (l : List (Bor (List ℕ))). l ++ name ∷ []) at.invariant.names ∙ sym (take_at_read c.args.names.now at.name-index none c.names-test.true).1;
      sources = All-push (λ (r : Reading g.row.S.Denot). g.S.Source.holds r.source ≡ g.S.Source.holds c.args.source.now) before one at.invariant.sources c.beside.ensures.kept;
      steady = All-push (λ (r : Reading g.row.S.Denot). g.S.Source.may_fail r.source ≡ g.S.Source.may_fail c.args.source.now) before one at.invariant.steady c.beside.ensures.steady;
      policies = All-push (λ (r : Reading g.row.S.Denot). r.intake.policy ≡ c.args.intake.now.policy) before one at.invariant.policies c.in_ok-with_files.ensures.policy;
      count = many;
      stands = λ i d less. elim (cases_lt i at.name-index) [
        | inl lt ↦ rw (get_or_append_left before (one ∷ []) d i (omega (arith, lt, at.invariant.count))) (at.invariant.stands i d (omega (arith, lt, at.invariant.count)))
        | inr ge ↦
            let here : at.name-index ≡ i = omega (arith, ge, less, many) in
            let is : get_or (before ++ one ∷ []) i d ≡ one = get_or_at before one [] d i (at.invariant.count ∙ here) in
            rw is (subst (λ (n : ℕ). StandsFor c.in_ok-with_files.field-0 (replicate n not_fed)) (omega (arith, here, c.len.ensures, long, at.invariant.count)) c.in_ok-with_files.ensures.stands)
      ];
    }
