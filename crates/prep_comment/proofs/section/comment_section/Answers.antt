use Rattle.std.proofs.Common.{◌≡◌, ℕ, List, take, refl, ap, ◌∙◌}
use Rattle.std.proofs.lemmas.List.{take_min}
use Rattle.prep_comment.proofs.Writing.{put}
use Rattle.prep_comment.proofs.section.comment_section.Goals as goal

pub returns : goal.returns
returns c =
    let text : List ℕ = take c.min.result c.as_bytes-bytes.result.now in
    let same : text ≡ take 4096 c.args.comment.now =
    ap (λ (n : ℕ). take n c.as_bytes-bytes.result.now) c.min.ensures ∙ take_min 4096 c.as_bytes-bytes.result.now ∙ ap (take 4096) c.as_bytes-bytes.ensures.value in
    put c.args.comment.now text c.padding-filling.result _ same c.padding-filling.ensures
    (rw (
      c.in_ok-extend_from_slice-8.ensures.items,
      c.in_ok-extend_from_slice-7.ensures.items,
      c.in_ok-extend_from_slice-6.ensures.items,
      c.in_ok-extend_from_slice-5.ensures.items,
      c.in_ok-extend_from_slice-4.ensures.items,
      c.in_ok-extend_from_slice-3.ensures.items,
      c.in_ok-extend_from_slice-2.ensures.items,
      c.in_ok-extend_from_slice.ensures.items,
      c.new-section.ensures.items,
      c.to_le_bytes-total.ensures,
      c.to_le_bytes.ensures,
    ) refl)
