use Rattle.std.proofs.Common.{◌≡◌, ◌∙◌, ◌++◌, ◌∷◌, ◌+◌, [], ℕ, List, Option, Bor, ap, arith, get_or, map, sym, subst, take}
use Rattle.std.proofs.lemmas.List.{map-append, take_all}
use Rattle.std.proofs.lemmas.List.Elements.{All-push}
use Rattle.std.proofs.lemmas.Grind.{take_at_read}
use Rattle.prep_program.specs.declared.hashing.Hashed.{Hashed}
use Rattle.prep_program.specs.Hashings.{IsHashed}
use Rattle.prep_program.proofs.hashing.hash_captures.Goals as goal

pub loop-name-preserved : goal.loop-name-preserved
loop-name-preserved g c =
    let before = c.loop-name.all.items in
    let index = c.loop-name.name-index in
    let names = c.args.names.now in
    let one = c.in_ok-hashed.hashed in
    let none : Bor (List ℕ) = record { ref_ptr = (0, 0); now = [] } in
    let name = get_or names index none in
    let pushed : c.push.new.self.items ≡ before ++ one ∷ [] = c.in_ok-push.ensures.items in
    rw pushed record {
      same = c.hash_capture.ensures.kept ∙ c.loop-name.invariant.same;
      named = map-append (λ (h : Hashed). h.name.now) before (one ∷ []) ∙ ap (λ (l : List (List ℕ)). l ++ one.name.now ∷ []) c.loop-name.invariant.named
          ∙ ap (λ (n : List ℕ). map (λ (b : Bor (List ℕ)). b.now) (take index names) ++ n ∷ []) c.in_ok-hashed.ensures.named
          ∙ sym (map-append (λ (b : Bor (List ℕ)). b.now) (take index names) (name ∷ []))
          ∙ ap (map (λ (b : Bor (List ℕ)). b.now)) (sym (take_at_read names index none c.loop-name-test.true).1);
      hashes = All-push (λ (h : Hashed). IsHashed (g.S.Source.holds c.args.source.now) h) before one c.loop-name.invariant.hashes
          (subst (λ (h : List ℕ → Option (List ℕ)). IsHashed h one) c.loop-name.invariant.same c.in_ok-hashed.ensures.hashes);
    }

pub returns-clause-named : goal.returns-clause-named
returns-clause-named g c =
    c.loop-name.invariant.named ∙ ap (map (λ (b : Bor (List ℕ)). b.now)) (take_all c.loop-name.name-index c.args.names.now (omega (arith, c.loop-name-test.false)))
