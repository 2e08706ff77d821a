use Rattle.std.proofs.Common.{◌≡◌, ◌∙◌, ◌+◌, ◌<◌, [], ℕ, Bool, Bor, List, Option, Some, get_or, length, map, ap, arith, inl, rules, subst, sym}
use Rattle.std.specs.Prelude.{IfNone, replicate, slice_get}
use Rattle.std.proofs.lemmas.List.{get_or-map, length-map, length-replicate}
use Rattle.std.proofs.lemmas.Option.{slice_get-get_or}
use Rattle.audit_model.specs.declared.policy.Policy.{Policy}
use Rattle.audit_sightings.specs.Files.{StandsFor, not_fed, packets_of}
use Rattle.audit_files.specs.CaptureFaults.{EndsTaking, HasFront, IsReadAlone}
use Rattle.audit_files.specs.Captures.{Took}
use Rattle.audit_files.proofs.Refusing.{err_then}
use Rattle.audit_files.specs.declared.apart.Reading.{Reading}
use Rattle.audit_files.proofs.Fed.{zip_at, zip_len}
use Rattle.audit_files.proofs.SideBySide.{if_none_then, if_some_then, written_back}
use Rattle.audit_files.proofs.FirstFaults.{alone_taking, by_itself}
use Rattle.audit_files.proofs.apart.take_apart.Goals as goal

pub returns-clause-fed : goal.returns-clause-fed
returns-clause-fed g c = λ texts files stands all.
    let before : List (Reading g.row.S.Denot) = c.in_ok-readings.readings.items in
    let lent : List (Reading g.row.S.Denot) = c.as_mut_slice.result.now in
    let after : List (Reading g.row.S.Denot) = c.read_all.new.readings in
    let same : lent ≡ before = c.as_mut_slice.ensures.value in
    let none : Bor (List ℕ) = record { ref_ptr = (0, 0); now = [] } in
    let kept : length after ≡ length lent = c.read_all.auto.readings in
    let lens : length before ≡ c.in_ok-readings.readings.len = search rules in
    let back = written_back after before c.in_ok-readings.readings.len (kept ∙ ap length same ∙ lens) in
    let names : map (λ (r : Reading g.row.S.Denot). r.name) before ≡ c.args.names.now = c.in_ok-readings.ensures.names in
    let named : length before ≡ length c.args.names.now = sym (length-map before (λ (r : Reading g.row.S.Denot). r.name)) ∙ ap length names in
    let many : length texts ≡ length before = omega (arith, named, zip_len _ c.args.names.now texts all) in
    let count : c.counts-files.result.0 ≡ length files = c.counts-files.ensures.files ∙ sym stands.count in
    let each : (i : ℕ) (d : Reading g.row.S.Denot) → i < length before → IfNone (get_or after i d).stop (Took (length files + i) (get_or texts i []) (get_or after i d).intake) = λ i d less.
    let reading : Reading g.row.S.Denot = get_or before i d in
    let at : reading ≡ get_or lent i d = ap (λ (l : List (Reading g.row.S.Denot)). get_or l i d) (sym same) in
    let name : get_or c.args.names.now i none ≡ reading.name = ap (λ (l : List (Bor (List ℕ))). get_or l i none) (sym names) ∙ get_or-map (λ (r : Reading g.row.S.Denot). r.name) before i d none less in
    let text = zip_at (λ (name : Bor (List ℕ)) (text : List ℕ). g.S.Source.holds c.args.source.now name.now ≡ Some text) c.args.names.now texts i none [] all (omega (arith, less, named)) in
    let holds : g.S.Source.holds reading.source reading.name.now ≡ Some (get_or texts i []) = ap (λ (h : List ℕ → Option (List ℕ)). h reading.name.now) (c.in_ok-readings.ensures.sources i d less)
    ∙ ap (λ (n : Bor (List ℕ)). g.S.Source.holds c.args.source.now n.now) (sym name) ∙ text.1 in
    let waits : StandsFor reading.intake (replicate (length files + i) not_fed) = subst (λ (n : ℕ). StandsFor reading.intake (replicate (n + i) not_fed)) count (c.in_ok-readings.ensures.stands i d less) in
    if_none_then (get_or after i d).stop (λ took. record { packets = took.0; stands = took.1 })
    (c.read_all.ensures.fed i d (get_or texts i []) (replicate (length files + i) not_fed) (omega (arith, less, ap length same))
    (subst (λ (r : Reading g.row.S.Denot). g.S.Source.holds r.source r.name.now ≡ Some (get_or texts i [])) at holds) (subst (λ (r : Reading g.row.S.Denot). StandsFor r.intake (replicate (length files + i) not_fed)) at waits)) in
    c.all_joined.ensures.fed texts files stands (omega (arith, many, ap length back, kept, ap length same))
    (λ i d less. subst (λ (l : List (Reading g.row.S.Denot)). IfNone (get_or l i d).stop (Took (length files + i) (get_or texts i []) (get_or l i d).intake)) (sym back)
    (each i d (omega (arith, less, ap length back, kept, ap length same))))

pub returns-in_err-readings-clause-refused : goal.returns-in_err-readings-clause-refused
returns-in_err-readings-clause-refused g c = λ texts fresh all. err_then c.from_residual.result c.from_residual.ensures.1 (λ stop is. inl (is ∙ c.in_err-readings.ensures.refused))

pub returns-clause-refused : goal.returns-clause-refused
returns-clause-refused g c = λ texts fresh all.
    let before : List (Reading g.row.S.Denot) = c.in_ok-readings.readings.items in
    let lent : List (Reading g.row.S.Denot) = c.as_mut_slice.result.now in
    let after : List (Reading g.row.S.Denot) = c.read_all.new.readings in
    let same : lent ≡ before = c.as_mut_slice.ensures.value in
    let none : Bor (List ℕ) = record { ref_ptr = (0, 0); now = [] } in
    let kept : length after ≡ length lent = c.read_all.auto.readings in
    let lens : length before ≡ c.in_ok-readings.readings.len = search rules in
    let back = written_back after before c.in_ok-readings.readings.len (kept ∙ ap length same ∙ lens) in
    let names : map (λ (r : Reading g.row.S.Denot). r.name) before ≡ c.args.names.now = c.in_ok-readings.ensures.names in
    let named : length before ≡ length c.args.names.now = sym (length-map before (λ (r : Reading g.row.S.Denot). r.name)) ∙ ap length names in
    let many : length texts ≡ length before = omega (arith, named, zip_len _ c.args.names.now texts all) in
    let count : c.counts-files.result.0 ≡ 0 = c.counts-files.ensures.files ∙ sym fresh.count in
    let may_fail = g.S.Source.may_fail c.args.source.now in
    let policy = c.args.intake.policy in
    let each : (i : ℕ) (d : Reading g.row.S.Denot) → i < length before → (name : Bor (List ℕ)) × (slice_get c.args.names.now i ≡ Some name) × IsReadAlone (may_fail name.now) policy i (get_or texts i []) (get_or after i d).intake (get_or after i d).stop = λ i d less.
    let reading : Reading g.row.S.Denot = get_or before i d in
    let at : reading ≡ get_or lent i d = ap (λ (l : List (Reading g.row.S.Denot)). get_or l i d) (sym same) in
    let name : get_or c.args.names.now i none ≡ reading.name = ap (λ (l : List (Bor (List ℕ))). get_or l i none) (sym names) ∙ get_or-map (λ (r : Reading g.row.S.Denot). r.name) before i d none less in
    let text = zip_at (λ (name : Bor (List ℕ)) (text : List ℕ). g.S.Source.holds c.args.source.now name.now ≡ Some text) c.args.names.now texts i none [] all (omega (arith, less, named)) in
    let holds : g.S.Source.holds reading.source reading.name.now ≡ Some (get_or texts i []) = ap (λ (h : List ℕ → Option (List ℕ)). h reading.name.now) (c.in_ok-readings.ensures.sources i d less)
    ∙ ap (λ (n : Bor (List ℕ)). g.S.Source.holds c.args.source.now n.now) (sym name) ∙ text.1 in
    let first : c.counts-files.result.0 + i ≡ i = omega (arith, count) in
    let waits : StandsFor reading.intake (replicate i not_fed) = subst (λ (n : ℕ). StandsFor reading.intake (replicate n not_fed)) first (c.in_ok-readings.ensures.stands i d less) in
    let few : i < 16 = omega (arith, less, named, c.requires) in
    let here : i < length lent = omega (arith, less, ap length same) in
    let holds_lent = subst (λ (r : Reading g.row.S.Denot). g.S.Source.holds r.source r.name.now ≡ Some (get_or texts i [])) at holds in
    let waits_lent = subst (λ (r : Reading g.row.S.Denot). StandsFor r.intake (replicate i not_fed)) at waits in
    let policy_is : (get_or lent i d).intake.policy ≡ policy = ap (λ (r : Reading g.row.S.Denot). r.intake.policy) (sym at) ∙ c.in_ok-readings.ensures.policies i d less in
    let fails : g.S.Source.may_fail (get_or lent i d).source (get_or lent i d).name.now ≡ may_fail (get_or c.args.names.now i none).now = ap (λ (r : Reading g.row.S.Denot). g.S.Source.may_fail r.source r.name.now) (sym at)
    ∙ ap (λ (f : List ℕ → Bool). f reading.name.now) (c.in_ok-readings.ensures.steady i d less) ∙ ap (λ (n : Bor (List ℕ)). may_fail n.now) (sym name) in
    let front = c.read_all.ensures.front i d (get_or texts i []) (replicate i not_fed) here holds_lent waits_lent (omega (arith, few, length-replicate i not_fed)) in
    let refused = c.read_all.ensures.refused i d (get_or texts i []) (replicate i not_fed) here holds_lent waits_lent in (
      get_or c.args.names.now i none,
      slice_get-get_or c.args.names.now i none (omega (arith, less, named)),
      record {
        took = if_none_then (get_or after i d).stop (λ took. record { packets = took.0; stands = took.1 }) (c.read_all.ensures.fed i d (get_or texts i []) (replicate i not_fed) here holds_lent waits_lent);
        front = by_itself (λ others file. HasFront policy others file (get_or texts i []) (get_or after i d).intake.interfaces) i
            (subst (λ (p : Policy). HasFront p (packets_of (replicate i not_fed)) (length (replicate i not_fed)) (get_or texts i []) (get_or after i d).intake.interfaces) policy_is front);
        ends = if_some_then _ _ (get_or after i d).stop (λ stop taking. alone_taking (may_fail (get_or c.args.names.now i none).now) policy i (get_or texts i []) stop few
            (subst (λ (p : Policy). EndsTaking (may_fail (get_or c.args.names.now i none).now) p (replicate i not_fed) (get_or texts i []) stop) policy_is
            (subst (λ (b : Bool). EndsTaking b (get_or lent i d).intake.policy (replicate i not_fed) (get_or texts i []) stop) fails taking))) refused;
      },
    ) in
    c.all_joined.ensures.refused may_fail c.args.names.now texts fresh (omega (arith, many, ap length back, kept, ap length same))
    (λ i d less. subst (λ (l : List (Reading g.row.S.Denot)). (name : Bor (List ℕ)) × (slice_get c.args.names.now i ≡ Some name) × IsReadAlone (may_fail name.now) policy i (get_or texts i []) (get_or l i d).intake (get_or l i d).stop) (sym back)
    (each i d (omega (arith, less, ap length back, kept, ap length same))))
