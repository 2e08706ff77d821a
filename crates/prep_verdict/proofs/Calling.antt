-- A call of `cut` whose files were audited.
use Rattle.std.proofs.Common.{◌≡◌, ◌<◌, ℕ, zero, suc, List, [], ◌∷◌, length, map, Option, Ok, Bor, refl, sym, ap, subst, ◌∙◌, arith}
use Rattle.std.specs.List.{AllByRecursion}
use Rattle.std.proofs.lemmas.List.{length-map}
use Rattle.audit_files.specs.Judged.{IsAudited}
use Rattle.audit_model.specs.declared.certificate.Certificate.{Certificate}
use Rattle.audit_model.specs.declared.policy.Policy.{Policy}
use Rattle.audit_model.specs.PolicyText.{policy_of}
use Rattle.prep_blocks.specs.declared.block.Block.{Block}
use Rattle.prep_blocks.specs.Read.{bytes_of}
use Rattle.prep_blocks.specs.Splitting.{IsWhole}
use Rattle.prep_cut.specs.declared.plan.Plan.{Plan}
use Rattle.prep_cut.specs.Marks.{marked}
use Rattle.prep_program.specs.declared.cutting.ToCut.{ToCut}
use Rattle.prep_program.specs.declared.set_aside.CutRequest.{CutRequest}
use Rattle.prep_program.specs.CutComment.{file_of}
use Rattle.prep_program.specs.CutRuns.{IsCutRun}
use Rattle.prep_program.specs.Making.{FileMade}
use Rattle.prep_verdict.specs.Audited.{AreWhole}
use Rattle.prep_verdict.specs.Calls.{captures_of, texts_cut, ExplainsTheCall}
use Rattle.prep_verdict.specs.Rest.{Capture, written}
use Rattle.prep_verdict.proofs.Explained.{explained}

texts_same : (plan : Plan) (to_cut : List ToCut) (captures : List (List Block)) → map (written plan) (captures_of to_cut captures) ≡ texts_cut plan to_cut captures
texts_same plan [] captures = refl
texts_same plan (one ∷ others) [] = refl
texts_same plan (one ∷ others) (blocks ∷ captures) =
    ap (λ (texts : List (List ℕ)). file_of plan (marked plan one.proposals.items blocks) ∷ texts) (texts_same plan others captures)

whole_at : (to_cut : List ToCut) (captures : List (List Block)) → AllByRecursion (λ blocks. IsWhole (bytes_of blocks) blocks) captures → AreWhole (captures_of to_cut captures)
whole_at [] captures all file lt = absurd (omega (arith, lt))
whole_at (one ∷ others) [] all file lt = absurd (omega (arith, lt))
whole_at (one ∷ others) (blocks ∷ captures) all zero lt = all.0
whole_at (one ∷ others) (blocks ∷ captures) all (suc file) lt = whole_at others captures all.1 file (omega (arith, lt))

spelled_by : (to_cut : List ToCut) (captures : List (List Block)) → length to_cut ≡ length captures → map (λ (capture : Capture). capture.text) (captures_of to_cut captures) ≡ map bytes_of captures
spelled_by [] [] same = refl
spelled_by [] (blocks ∷ captures) same = absurd (omega (arith, same))
spelled_by (one ∷ others) [] same = absurd (omega (arith, same))
spelled_by (one ∷ others) (blocks ∷ captures) same = ap (λ (texts : List (List ℕ)). bytes_of blocks ∷ texts) (spelled_by others captures (omega (arith, same)))

one_policy : (text : List ℕ) (a b : Policy) → policy_of text ≡ Ok a → policy_of text ≡ Ok b → a ≡ b
one_policy text a b e f = let k : Ok a ≡ Ok b = sym e ∙ f in cc

pub call_explained : (request : CutRequest) (policy users : List ℕ) (texts : List (List ℕ)) (files made : Option (List FileMade)) (unprinted printed unsaid said : Option (List ℕ)) (status : ℕ)
    (certificate : Certificate) (before after : Option (List ℕ)) → length request.captures.items ≡ length texts
    → (call : IsCutRun request policy texts files made unprinted printed unsaid said status)
    → IsAudited policy users (texts_cut call.plan call.to_cut call.cuts.captures) certificate before after 0
    → ExplainsTheCall call.plan call.to_cut call.cuts.captures texts policy users certificate
call_explained request policy users texts files made unprinted printed unsaid said status certificate before after as_many call audited =
    let to_cut = call.to_cut in
    let captures = call.cuts.captures in
    let audited_so = subst (λ (each : List (List ℕ)). IsAudited policy users each certificate before after 0) (sym (texts_same call.plan to_cut captures)) audited in
    let rest = explained call.plan (captures_of to_cut captures) policy users certificate before after (whole_at to_cut captures call.cuts.wholes) audited_so in
    let named : length to_cut ≡ length request.captures.items =
    sym (length-map to_cut (λ (one : ToCut). one.name.now)) ∙ ap length call.names ∙ length-map request.captures.items (λ (name : Bor (List ℕ)). name.now) in
    let same : length to_cut ≡ length captures = named ∙ as_many ∙ ap length (sym call.cuts.spelled) ∙ length-map captures bytes_of in
    record {
      rest = rest;
      policy_is = one_policy policy rest.taken.policy call.plan.policy rest.policy' call.planned.policy_is;
      texts_are = spelled_by to_cut captures same ∙ call.cuts.spelled;
    }
