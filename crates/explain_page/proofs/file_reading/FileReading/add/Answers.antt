use Rattle.std.proofs.Common.{◌≡◌, ◌∙◌, ◌++◌, IfSome, ap, length, subst, sym, take}
use Rattle.std.proofs.Math.Seq.{take-add}
use Rattle.explain_page.specs.Hashed.{IsHashed}
use Rattle.explain_page.proofs.file_reading.FileReading.add.Goals as goal

pub returns : goal.returns
returns c bytes reads piece =
    let read = c.args.self.now.read in
    let held : IsHashed c.in-Some.hashing (take read bytes) = subst (λ h. IfSome h (λ hashing. IsHashed hashing (take read bytes))) (sym c.in-Some.ensures.value) reads.0 in
    let same : take read bytes ++ c.args.piece.now ≡ take c.in-Some-checked_add.read bytes =
    ap (λ p. take read bytes ++ p) piece ∙ sym (take-add read (length c.args.piece.now) bytes) ∙ ap (λ k. take k bytes) (sym c.in-Some-checked_add.ensures.1) in
    (subst (λ b. IsHashed c.feed.new.self b) same (c.feed.ensures (take read bytes) held), reads.1)
