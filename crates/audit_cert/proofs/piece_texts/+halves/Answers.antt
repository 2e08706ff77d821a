use Rattle.std.proofs.Common.{◌≡◌, ◌++◌, ◌/◌, List, ℕ, length, take, drop, ap, ◌∙◌, subst}
use Rattle.std.specs.List.{flat_map}
use Rattle.std.specs.Prelude.{IfOk}
use Rattle.audit_cert.specs.Pieces.{piece_text}
use Rattle.audit_cert.proofs.Blocks.{lines_cut}
use Rattle.audit_cert.proofs.Steps.{if_ok}
use Rattle.audit_cert.proofs.piece_texts.+halves.Goals as goal

pub returns : goal.returns
returns g t c =
    let pieces = c.args.pieces.now in
    let middle = length pieces / 2 in
    let left = flat_map piece_text (take middle pieces) in
    let right = flat_map piece_text (drop middle pieces) in
    let first = c.in_ok-first.field-0 in
    let second = c.in_ok-second.field-0 in
    let a : first.items ≡ left = if_ok c.join-first.result.0 first (λ text. text.items ≡ left) c.in_ok-first.was (rw c.split_at.ensures.front at c.join-first.ensures.first) in
    let b : second.items ≡ right = if_ok c.join-first.result.1 second (λ text. text.items ≡ right) c.in_ok-second.was (rw c.split_at.ensures.back at c.join-first.ensures.second) in
    let whole : first.items ++ second.items ≡ flat_map piece_text pieces = ap (λ (l : List ℕ). l ++ second.items) a ∙ ap (λ (l : List ℕ). left ++ l) b ∙ lines_cut piece_text pieces middle in
    subst (λ (l : List ℕ). IfOk c.joined.result (λ text. text.items ≡ l)) whole c.joined.ensures
