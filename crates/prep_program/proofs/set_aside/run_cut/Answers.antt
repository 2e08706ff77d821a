-- The plan, the captures that were cut by it, and its list.
use Rattle.std.proofs.Common.{◌≡◌, ℕ, List, Option, Some, All, map, sym, ap, subst, ◌∙◌, Bor}
use Rattle.std.specs.List.{AllZip}
use Rattle.std.proofs.lemmas.List.Elements.{recursion_from_All}
use Rattle.audit_model.specs.Sink.{followed_by}
use Rattle.prep_program.specs.declared.cutting.ToCut.{ToCut}
use Rattle.prep_program.specs.declared.hashing.Hashed.{Hashed}
use Rattle.prep_program.specs.CutRuns.{IsPlanOf}
use Rattle.prep_program.specs.CutStatus.{EndsByKept}
use Rattle.prep_program.specs.Hashings.{IsHashed}
use Rattle.prep_program.specs.Listing.{list_file}
use Rattle.prep_program.specs.ListText.{kept_of, list_text}
use Rattle.prep_program.specs.Making.{files_of, with_files}
use Rattle.prep_program.proofs.Requested.{texts_of}
use Rattle.prep_program.proofs.set_aside.run_cut.Goals as goal

pub returns-clause-cuts : goal.returns-clause-cuts
returns-clause-cuts g c = λ policy captures holds texts.
    let plan = c.in_ok-plan.field-0.plan in
    let notes = c.in_ok-plan.field-0.notes in
    let hashed = c.in_ok-plan.field-0.hashed.items in
    let to_cut = c.deref-3.result.now in
    let request = c.args.request.now in
    let planned : IsPlanOf plan request.stated policy captures = c.in_ok-plan.ensures.planned policy captures holds texts in
    let same_names : map (λ (one : ToCut). one.name.now) to_cut ≡ map (λ (one : Hashed). one.name.now) hashed =
    ap (λ (all : List ToCut). map (λ (one : ToCut). one.name.now) all) c.deref-3.ensures.value ∙ c.in_ok-captures.ensures.names
    ∙ ap (λ (all : List Hashed). map (λ (one : Hashed). one.name.now) all) c.deref-2.ensures.value in
    let same_digests : map (λ (one : ToCut). one.digest) to_cut ≡ map (λ (one : Hashed). one.digest) hashed =
    ap (λ (all : List ToCut). map (λ (one : ToCut). one.digest) all) c.deref-3.ensures.value ∙ c.in_ok-captures.ensures.digests
    ∙ ap (λ (all : List Hashed). map (λ (one : Hashed). one.digest) all) c.deref-2.ensures.value in
    let names : map (λ (one : ToCut). one.name.now) to_cut ≡ map (λ name. name.now) request.captures.items = same_names ∙ c.in_ok-plan.ensures.named in
    let later = subst (λ (h : List ℕ → Option (List ℕ)). AllZip (λ (name : Bor (List ℕ)) (text : List ℕ). h name.now ≡ Some text) request.captures.items captures)
    (sym c.plan_of.ensures.kept) texts in
    let digests = recursion_from_All (λ (one : Hashed). IsHashed (g.S.Source.holds c.plan_of.new.source) one) hashed (subst (λ (h : List ℕ → Option (List ℕ)). All (λ (one : Hashed). IsHashed h one) hashed) (sym c.plan_of.ensures.kept) c.in_ok-plan.ensures.hashes) in
    let cuts = c.in_ok-all.ensures captures (texts_of (g.S.Source.holds c.plan_of.new.source) to_cut hashed request.captures.items captures same_names same_digests c.in_ok-plan.ensures.named digests later) in
    let middle = files_of (g.M.Maker.making c.cut_captures.new.made) (g.M.Sink.taken c.cut_captures.new.made) in
    let text : c.as_str.result.now ≡ list_text plan notes c.in_ok-all.all = c.as_str.ensures.value ∙ c.in_ok-list.ensures in
    record {
      plan = plan;
      says = notes;
      all = c.in_ok-all.all;
      to_cut = to_cut;
      middle = middle;
      planned = planned;
      names = names;
      cuts = cuts;
      listed = c.in_ok-write_list.ensures.made ∙ ap (λ (t : List ℕ). with_files middle (list_file c.args.request.now.folder.now t)) text;
      printed_is = c.in_ok-write_list.ensures.printed ∙ ap (λ (t : List ℕ). followed_by (g.O.Sink.taken c.args.out.now) t) text;
      ends = subst (λ (kept : ℕ). EndsByKept kept c.in_ok-status.status (g.E.Sink.taken c.args.err.now) (g.E.Sink.taken c.end_cut.new.err)) (c.kept_in-kept.ensures ∙ ap kept_of c.deref-4.ensures.value) c.in_ok-status.ensures;
    }

pub returns-clause-done : goal.returns-clause-done
returns-clause-done g c = (c.kept_in-kept.result, c.in_ok-status.ensures)
